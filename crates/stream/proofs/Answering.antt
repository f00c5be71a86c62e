-- The answer to a row, and what stands in the output after it.
use Prim.Native.Nat.{ℕ, ◌<◌}
use mathlib.Core.Path.{◌≡◌, refl, sym, ap, ◌∙◌}
use mathlib.Core.List.{List, [], ◌∷◌}
use native.Mathlib.Omega.{arith}
use lib.ListN.{length, take}
use Rattle.std.specs.Prelude.{Option, Ok, Err}
use Rattle.refusal.specs.Tests.{tested}
use Rattle.refusal.proofs.Stops.{outcome_go, outcome_all}
use Rattle.rates.specs.declared.Rates.{Rates}
use Rattle.receipt.specs.declared.Receipt.{Receipt}
use Rattle.receipt.specs.Receipt.{refusal}
use Rattle.pool.specs.declared.state.Pool.{Pool}
use Rattle.rows.specs.declared.row.Row.{Row}
use Rattle.rows.specs.Row.{read_row, write_row, with_row}
use Rattle.rows.proofs.RowWritten.{row_length}
use Rattle.words.specs.declared.Holdings.{Holdings}
use Rattle.words.specs.Words.{pool_words, pool_of, receipt_words, receipt_of, holdings_of}
use Rattle.words.proofs.ReadBack.{pool_read}
use Rattle.memory.specs.Memory.{record_tests}
use Rattle.memory.specs.Steps.{IsRecord}
use Rattle.memory.proofs.Readable.{record_read, is_record}
use Rattle.sheet.specs.declared.turn.Amounts.{Amounts}
use Rattle.sheet.specs.Sheet.{Sheet, Turn, perform, yielded, first_amount, second_amount}
use Rattle.sheet.specs.Lent.{sheet_in, RowMemory, row_memory, turn_words, performed_on}
use Rattle.stream.specs.Pieces.{finish, over, left_at_end}
use Rattle.sheet.proofs.Picks.{refused_by, passed}
use Rattle.stream.specs.Lent.{EndMemory, end_memory, end_words, ended_over}
use Rattle.stream.specs.Stages.{Answered}

-- what the code reads of the memory that a row was done in, and writes
pub answered :
    (rates : Rates) (w e : List ℕ) (row : Option Row) (after : Rates) (w' e' r' : List ℕ) (output : List ℕ) (at : ℕ) (shown : Receipt) (amounts : Amounts) (held : Holdings)
    {row' : Option Row} {left : List ℕ}
    → IsRecord w
    → row' ≡ row
    → row_memory after w' e' r' ≡ performed_on rates w e row'
    → shown ≡ receipt_of r'
    → (amounts.first ≡ first_amount shown) × (amounts.second ≡ second_amount shown)
    → held ≡ holdings_of (pool_of w')
    → left ≡ with_row output at (write_row shown.number amounts.first amounts.second held.net0 held.net1 held.supply)
    → Answered (perform (sheet_in rates w e) row) output at after w' e' left
unfolding yielded performed_on record_tests
answered rates w e row after w' e' r' output at shown amounts held is same did reads-receipt reads-amounts reads-holdings wrote =
    let t = perform (sheet_in rates w e) row in
    let words : row_memory after w' e' r' ≡ turn_words t =
    did
    ∙ (ap (performed_on rates w e) same
    ∙ sym (outcome_go (record_tests w) (λ number. row_memory rates w e (receipt_words (refusal number))) (turn_words t) 0 refl (sym is.0) refl)) in
    let record_is : w' ≡ pool_words t.sheet.pool = ap (λ (m : RowMemory). m.pool) words in
    let pool-is : pool_of w' ≡ t.sheet.pool = ap pool_of record_is ∙ pool_read t.sheet.pool in
    let receipt-is : shown ≡ t.receipt = reads-receipt ∙ ap (λ (m : RowMemory). receipt_of m.receipt) words in
    let holdings-are : held ≡ holdings_of t.sheet.pool = reads-holdings ∙ ap holdings_of pool-is in
    record {
      sheet = ap (λ (m : RowMemory). sheet_in m.rates m.pool m.entries) words ∙ ap (λ (p : Pool). record { rates = t.sheet.rates; pool = p; entries = t.sheet.entries }) (pool_read t.sheet.pool);
      is_record = rw record_is (is_record t.sheet.pool);
      row = wrote
          ∙ (rw (reads-amounts.0, reads-amounts.1) (ap (λ (x : Receipt). with_row output at (write_row x.number (first_amount x) (second_amount x) held.net0 held.net1 held.supply)) receipt-is)
          ∙ ap (λ (h : Holdings). with_row output at (write_row t.receipt.number (first_amount t.receipt) (second_amount t.receipt) h.net0 h.net1 h.supply)) holdings-are);
    }

pub yielded_length : (t : Turn) → length (yielded t) ≡ 103
unfolding yielded
yielded_length t = row_length _ _ _ _ _ _

-- ---- the end of the input
module _ (rates : Rates) (begun : ℕ) (w e held output : List ℕ) where
  abbrev untouched : ℕ → EndMemory
  untouched number = end_memory (Err number) w e output

  pub end_no_record : (n : ℕ) → tested (record_tests w) ≡ Err n → untouched n ≡ ended_over rates begun w e held output
  unfolding ended_over
  end_no_record n says = refused_by (record_tests w) n untouched _ says

  module _ {u : Unit {0}} (says : tested (record_tests w) ≡ Ok u) where
    ended : {m : EndMemory} → m ≡ end_words (left_at_end output (finish (sheet_in rates w e) (take begun held))) → m ≡ ended_over rates begun w e held output
    unfolding ended_over
    ended did = did ∙ outcome_all (record_tests w) untouched _ (passed (record_tests w) says)

    pub none_begun : IsRecord w → begun ≡ 0 → end_memory (Ok (record { rates = rates; written = 0 })) w e output ≡ ended_over rates begun w e held output
    unfolding finish over left_at_end
    none_begun is b = ended (ap (λ (l : List ℕ). end_memory (Ok (record { rates = rates; written = 0 })) l e output) (sym (record_read w is)) ∙ rw b)

    pub last_row :
        (row : List ℕ) (after : Rates) (w' e' left : List ℕ) → 0 < length (take begun held) → length output ≡ 103 → row ≡ take begun held
        → Answered (perform (sheet_in rates w e) (read_row row)) output 0 after w' e' left
        → end_memory (Ok (record { rates = after; written = 103 })) w' e' left ≡ ended_over rates begun w e held output
    unfolding finish over left_at_end with_row
    last_row row after w' e' left some h same a = ended (go (take begun held) some same)
      where
        go : (bytes : List ℕ) → 0 < length bytes → row ≡ bytes
            → end_memory (Ok (record { rates = after; written = 103 })) w' e' left ≡ end_words (left_at_end output (finish (sheet_in rates w e) bytes))
        go [] some same = absurd (omega arith)
        go (b ∷ bs) some same =
            let s = sheet_in rates w e in
            let t = perform s (read_row (b ∷ bs)) in
            let long = yielded_length t in
            let did : perform s (read_row row) ≡ t = ap (λ (l : List ℕ). perform s (read_row l)) same in
            let put = rw (did, h) at a.row in
            let sheet : sheet_in after w' e' ≡ t.sheet = a.sheet ∙ ap (λ (t : Turn). t.sheet) did in
            ap (λ (l : List ℕ). end_memory (Ok (record { rates = after; written = 103 })) l e' left) (sym (record_read w' a.is_record))
            ∙ (ap (λ (s : Sheet). end_memory (Ok (record { rates = s.rates; written = 103 })) (pool_words s.pool) s.entries left) sheet
            ∙ rw (long, put))
