-- What a caller that lends the memory wants to know: a piece with room for an answer to each of its bytes is answered whole, and no more is
-- written than the output holds.
use Prim.Native.Nat.{ℕ, ◌-◌, ◌*◌, ◌≤◌}
use mathlib.Core.Path.{◌≡◌, refl, sym, ap, ◌∙◌}
use mathlib.Core.Bool.{Bool, true, false, cond}
use mathlib.Core.List.{List, [], ◌∷◌, ◌++◌}
use native.Mathlib.Omega.{arith}
use borrow.Author.Tests.{le-ltb}
use lib.Dec.{eqb}
use lib.ListN.{length, take, drop, length-append}
use Rattle.std.specs.Prelude.{Result, Ok, Err}
use Rattle.refusal.proofs.Stops.{outcome_go}
use Rattle.rates.specs.declared.Rates.{Rates}
use Rattle.rows.specs.Row.{newline, row_bytes, read_row}
use Rattle.memory.specs.Memory.{record_tests}
use Rattle.memory.specs.Steps.{IsRecord}
use Rattle.memory.proofs.Readable.{is_record}
use Rattle.sheet.specs.Sheet.{Sheet, perform, yielded}
use Rattle.sheet.specs.Lent.{sheet_in}
use Rattle.stream.specs.declared.feed.Fed.{Fed as HeldFed}
use Rattle.stream.specs.declared.feed.Ended.{Ended}
use Rattle.stream.specs.Pieces.{Fed, kept, ahead, feed, finish, Finished, over, left_by, left_at_end}
use Rattle.stream.specs.Lent.{FedMemory, fed_memory, left_words, fed_over, EndMemory, end_memory, end_words, ended_over}

-- ---- room for an answer to each byte is as good as more
pub roomy :
    (room more : ℕ) (s : Sheet) (begun bytes : List ℕ) → row_bytes * length bytes ≤ room → row_bytes * length bytes ≤ more
    → feed room s begun bytes ≡ feed more s begun bytes
unfolding feed
roomy room more s begun [] h k = refl
roomy room more s begun (byte ∷ bytes) h k =
    let t = perform s (read_row begun) in
    rw (le-ltb room row_bytes (omega arith), le-ltb more row_bytes (omega arith))
    (go (eqb byte newline)
    (ap (ahead (yielded t)) (roomy (room - row_bytes) (more - row_bytes) t.sheet [] bytes (omega arith) (omega arith)))
    (ap (ahead []) (roomy room more s (kept (begun ++ (byte ∷ []))) bytes (omega arith) (omega arith))))
  where
    go : (ends : Bool) {f g f' g' : Fed} → f ≡ f' → g ≡ g' → cond ends f g ≡ cond ends f' g'
    go true row other = row
    go false row other = other

-- ---- a piece, on the record of a pool
module _ (rates : Rates) (begun : ℕ) (w e held input output : List ℕ) (is : IsRecord w) where
  pub piece_whole :
      {m : FedMemory} → row_bytes * length input ≤ length output → m ≡ fed_over rates begun w e held input output
      → m ≡ left_words (left_by output (feed (row_bytes * length input) (sheet_in rates w e) (take begun held) input))
  unfolding fed_over record_tests
  piece_whole h did =
      did
      ∙ (sym (outcome_go (record_tests w) (λ number. fed_memory (Err number) w e held output) _ 0 refl (sym is.0) refl)
      ∙ ap (λ (f : Fed). left_words (left_by output f)) (roomy (length output) (row_bytes * length input) (sheet_in rates w e) (take begun held) input h (omega arith)))

-- ---- what is left of it: a pool's record still, and an output that holds all that is written
pub left_record : {m : FedMemory} (output : List ℕ) (f : Fed) → m ≡ left_words (left_by output f) → IsRecord m.pool
unfolding left_by
left_record output f did = rw (ap (λ (m : FedMemory). m.pool) did) (is_record f.sheet.pool)

-- what is written of an answer's output, if there is an answer
abbrev written_by : Result HeldFed ℕ → ℕ
written_by (Ok f) = f.written
written_by (Err n) = 0

pub left_within : {m : FedMemory} (output : List ℕ) (f : Fed) → m ≡ left_words (left_by output f) → written_by m.answer ≤ length m.output
unfolding over left_by
left_within {m} output f did =
    let written : written_by m.answer ≡ length f.written = ap (λ (m : FedMemory). written_by m.answer) did in
    let is : m.output ≡ f.written ++ drop (length f.written) output = ap (λ (m : FedMemory). m.output) did in
    omega (arith, written, ap length is, length-append f.written (drop (length f.written) output))

-- ---- the end of the input, likewise
abbrev ended_by : Result Ended ℕ → ℕ
ended_by (Ok f) = f.written
ended_by (Err n) = 0

pub ended_within :
    {m : EndMemory} (rates : Rates) (begun : ℕ) (w e held output : List ℕ) → IsRecord w → m ≡ ended_over rates begun w e held output
    → ended_by m.answer ≤ length m.output
unfolding over left_at_end ended_over record_tests
ended_within {m} rates begun w e held output is did =
    let f : Finished = finish (sheet_in rates w e) (take begun held) in
    let words : m ≡ end_words (left_at_end output f) =
    did ∙ sym (outcome_go (record_tests w) (λ number. end_memory (Err number) w e output) (end_words (left_at_end output f)) 0 refl (sym is.0) refl) in
    let written : ended_by m.answer ≡ length f.written = ap (λ (m : EndMemory). ended_by m.answer) words in
    let is : m.output ≡ f.written ++ drop (length f.written) output = ap (λ (m : EndMemory). m.output) words in
    omega (arith, written, ap length is, length-append f.written (drop (length f.written) output))
