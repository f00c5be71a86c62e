-- What a piece leaves, by each of the ways through it.
use Prim.Native.Nat.{ℕ, ◌+◌, ◌≤◌, ◌<◌}
use mathlib.Core.Path.{◌≡◌, sym, ap, ◌∙◌}
use mathlib.Core.List.{List, [], ◌++◌, append-nil}
use native.Mathlib.Nat.{zero-add, sub-zero}
use native.Mathlib.Omega.{arith}
use lib.ListN.{length, take}
use lib.Seq.{take_all}
use Rattle.oracle.specs.Ring.{Entries}
use Rattle.rows.specs.Row.{read_row}
use Rattle.std.specs.Prelude.{Ok, Err}
use Rattle.refusal.specs.Tests.{tested}
use Rattle.refusal.proofs.Stops.{outcome_all}
use Rattle.sheet.proofs.Picks.{refused_by, passed}
use Rattle.rates.specs.declared.Rates.{Rates}
use Rattle.memory.specs.Memory.{record_tests}
use Rattle.memory.specs.Steps.{IsRecord}
use Rattle.memory.proofs.Readable.{record_read}
use Rattle.sheet.specs.Sheet.{Sheet, perform}
use Rattle.sheet.specs.Lent.{sheet_in}
use Rattle.stream.specs.Pieces.{Fed, kept, feed, holding, left_by}
use Rattle.stream.specs.Lent.{FedMemory, fed_memory, left_words, fed_over}
use Rattle.stream.specs.Stages.{line_length, Answered, Midway, Through}
use Rattle.stream.proofs.Lines.{kept_whole}
use Rattle.stream.proofs.Holding.{row_held}
use Rattle.stream.proofs.Taking.{begins, next_row, no_more_room, no_more_lines, leaves}

pub all_said :
    (rates : Rates) (pool : List ℕ) (entries : Entries) (whole : Fed) (before begun held : List ℕ) (n taken written : ℕ) (output : List ℕ)
    → IsRecord pool → Through whole before (sheet_in rates pool entries) begun taken written output
    → n ≡ length begun → held ≡ holding begun
    → fed_memory (Ok (record { going = record { rates = rates; begun = n }; taken = taken; written = written })) pool entries held output
    ≡ left_words (left_by before whole)
all_said rates pool entries whole before begun held n taken written output is h e g =
    rw (e, g)
    (ap (λ (l : List ℕ). fed_memory (Ok (record { going = record { rates = rates; begun = length begun }; taken = taken; written = written })) l entries (holding begun) output)
    (sym (record_read pool is))
    ∙ ap left_words (leaves whole before (sheet_in rates pool entries) begun taken written output h))

-- ---- whatever the record
module _ (rates : Rates) (begun : ℕ) (w e held input output : List ℕ) where
  abbrev untouched : ℕ → FedMemory
  untouched number = fed_memory (Err number) w e held output

  pub no_record : (n : ℕ) → tested (record_tests w) ≡ Err n → untouched n ≡ fed_over rates begun w e held input output
  unfolding fed_over
  no_record n says = refused_by (record_tests w) n untouched _ says

  pub piece_fed :
      {m : FedMemory} {u : Unit {0}} → tested (record_tests w) ≡ Ok u → m ≡ left_words (left_by output (feed (length output) (sheet_in rates w e) (take begun held) input))
      → m ≡ fed_over rates begun w e held input output
  unfolding fed_over
  piece_fed says did = did ∙ outcome_all (record_tests w) untouched _ (passed (record_tests w) says)

module _ (s : Sheet) (begun input output : List ℕ) (short : length begun ≤ 103) where
  abbrev Whole : Fed
  Whole = feed (length output) s begun input

  -- no room for a row
  pub full : length output < 103 → Through Whole output s (kept (begun ++ [])) 0 0 output
  full h =
      rw (append-nil begun, kept_whole begun short)
      (no_more_room Whole output input s begun 0 0 output (begins output input s begun) (rw (sub-zero (length output)) h))

  -- no newline
  pub cut : (n : ℕ) → 103 ≤ length output → n ≡ line_length input → n ≡ length input → Through Whole output s (kept (begun ++ take n input)) n 0 output
  cut n h e l =
      rw (take_all n input (omega arith), l)
      (no_more_lines Whole output input s begun 0 0 output (begins output input s begun) short (rw (sub-zero (length output)) h) (omega arith) (sym e ∙ l))

  -- the row that is begun, and its newline
  pub first_row :
      (n m : ℕ) (held : List ℕ) (after : Rates) (pool : List ℕ) (entries : Entries) (output' : List ℕ) → 103 ≤ length output
      → n ≡ line_length input → n < length input
      → m ≡ length (kept (begun ++ take n input)) → held ≡ holding (kept (begun ++ take n input))
      → Answered (perform s (read_row (take m held))) output 0 after pool entries output'
      → Midway Whole output input (sheet_in after pool entries) [] (n + 1) 103 output'
  first_row n m held after pool entries output' h e l g f a =
      let row : take m held ≡ kept (begun ++ take n input) = rw f (row_held (kept (begun ++ take n input)) m g) in
      rw (zero-add (n + 1)) at (
      next_row Whole output input s begun 0 0 output (begins output input s begun) n (perform s (read_row (take m held))) after pool entries output'
      short (rw (sub-zero (length output)) h) e l (ap (λ (b : List ℕ). perform s (read_row b)) (sym row)) a
      )
