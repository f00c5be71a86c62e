-- What a row leaves in the memory that it was lent is what it does, in numbers.
-- Assumes nothing.
use Prim.Native.Nat.{ℕ, ◌+◌}
use mathlib.Core.Path.{◌≡◌, refl, sym, ap, ◌∙◌}
use mathlib.Core.Bool.{Bool, true, false, cond}
use mathlib.Core.List.{List, [], ◌∷◌}
use lib.Dec.{eqb, ltb}
use Rattle.refusal.specs.Refusal.{unreadable_row}
use Rattle.std.specs.Prelude.{Option, Result, Ok, Err}
use Rattle.refusal.proofs.Stops.{outcome_all, first_none}
use Rattle.refusal.proofs.Stages.{same_number, ok_ne_err}
use Rattle.refusal.specs.Tests.{first, outcome, tested, tested_by, ◌then◌}
use Rattle.rates.specs.declared.Rates.{Rates}
use Rattle.rates.specs.Rates.{highest_fee_rate, rate_limits, rate_tests}
use Rattle.receipt.specs.Receipt.{refusal}
use Rattle.opening.specs.declared.Opening.{Opening}
use Rattle.pool.specs.declared.state.Pool.{Pool}
use Rattle.pool.specs.State.{Done}
use Rattle.pool.specs.Calls.{opening}
use Rattle.rows.specs.declared.row.Row.{Row}
use Rattle.calls.specs.declared.Call.{Call}
use Rattle.calls.specs.Next.{state_of, next}
use Rattle.words.specs.Words.{at, enabled_at, used_at, pool_words, pool_of, receipt_words, share_of}
use Rattle.memory.specs.Memory.{Memory, memory, untouched, stored, record_tests, called_on}
use Rattle.memory.specs.Steps.{IsRecord, opened_with}
use Rattle.memory.proofs.Readable.{record_read, called_words}
use Rattle.sheet.specs.Sheet.{Sheet, Turn, refused_row, called, keep_rates, replaced, perform}
use Rattle.sheet.specs.Lent.{sheet_in, RowMemory, row_memory, turn_words, performed_on}
use Rattle.sheet.specs.Stages.{readable as isReadable, call_of, called_for}
use Rattle.sheet.proofs.Picks.{picks_true, picks_false, refused_by, passed}

-- ---- rates, whose number alone the receipt shows
module _ (held rates : Rates) (p : Pool) (e : List ℕ) where
  abbrev s : Sheet
  s = record { rates = held; pool = p; entries = e }

  -- by what their tests answer
  abbrev kept_by : Result Unit ℕ → Turn
  kept_by (Ok _) = record { sheet = record { rates = rates; pool = p; entries = e }; receipt = refusal 0 }
  kept_by (Err n) = refused_row s n

  kept_is : keep_rates s rates ≡ kept_by (tested (rate_tests rates))
  unfolding keep_rates tested rate_tests rate_limits ◌then◌ first
  kept_is = go (ltb highest_fee_rate (rates.trade + rates.creator)) (ltb 1000000 (rates.protocol + rates.fund)) (ltb 1000000 rates.share)
    where
      go : (x y z : Bool)
          → let n = first ((x, 3) ∷ (y, 3) ∷ (z, 3) ∷ []) in
          cond (eqb n 0) (kept_by (Ok tt)) (refused_row s n) ≡ kept_by (tested_by ((x, 3) ∷ (y, 3) ∷ (z, 3) ∷ []))
      go true y z = refl
      go false true z = refl
      go false false true = refl
      go false false false = refl

  pub rates_refused : (n : ℕ) → tested (rate_tests rates) ≡ Err n → row_memory held (pool_words p) e (receipt_words (refusal n)) ≡ turn_words (keep_rates s rates)
  rates_refused n says = ap turn_words (sym (kept_is ∙ ap kept_by says))

  pub rates_kept : {x : List ℕ} {u : Unit} → tested (rate_tests rates) ≡ Ok u → x ≡ receipt_words (refusal 0) → row_memory rates (pool_words p) e x ≡ turn_words (keep_rates s rates)
  rates_kept says shows = ap (row_memory rates (pool_words p) e) shows ∙ ap turn_words (sym (kept_is ∙ ap kept_by says))

-- ---- on the record of a pool
module _ (rates : Rates) (w e : List ℕ) (is : IsRecord w) where
  abbrev held : Sheet
  held = sheet_in rates w e

  -- all of the memory but a number that is returned
  abbrev over : Memory → RowMemory
  over m = row_memory rates m.pool m.entries m.receipt

  -- a record that a row leaves as it was is that of the pool in it
  pub record_kept : (held : Rates) (x : List ℕ) → row_memory held w e x ≡ row_memory held (pool_words (pool_of w)) e x
  record_kept held x = ap (λ (l : List ℕ). row_memory held l e x) (sym (record_read w is))

  pub row_refused : {x : List ℕ} (n : ℕ) → x ≡ receipt_words (refusal n) → row_memory rates w e x ≡ turn_words (refused_row held n)
  row_refused {x} n shows =
      record_kept rates x ∙ ap (row_memory rates (pool_words (pool_of w)) e) shows

  pub not_called :
      {x : List ℕ} (row : Row) → isReadable row ≡ false → x ≡ receipt_words (refusal unreadable_row)
      → row_memory rates w e x ≡ turn_words (called_for held row)
  unfolding called_for
  not_called row spare shows =
      row_refused unreadable_row shows ∙ ap turn_words (picks_false (isReadable row) _ (refused_row held unreadable_row) spare)

  pub call_taken :
      (r : List ℕ) (share : ℕ) (row : Row) (m : Memory) → isReadable row ≡ true → share ≡ share_of (pool_of w)
      → m ≡ called_on w e r (call_of share row)
      → over m ≡ turn_words (called_for held row)
  unfolding called_for
  call_taken r share row m sound at-share came =
      ap over (came ∙ ap (λ (n : ℕ). called_on w e r (call_of n row)) at-share ∙ called_words w e r asked is)
      ∙ ap turn_words (picks_true (isReadable row) (called held (next (state_of (pool_of w) e) asked)) _ sound)
    where
      asked : Call
      asked = call_of (share_of (pool_of w)) row

  pub opening_taken :
      (r : List ℕ) (o : Opening) (m : Memory)
      → m ≡ opened_with w e r o
      → over m ≡ turn_words (replaced held (opening o))
  unfolding stored untouched replaced
  opening_taken r o m came = ap over came ∙ go (eqb n 0)
    where
      d : Done
      d = opening o

      n : ℕ
      n = d.after.receipt.number

      go : (b : Bool)
          → over (cond b (memory 0 (pool_words d.after.pool) d.entries (receipt_words d.after.receipt)) (memory n w e (receipt_words (refusal n))))
          ≡ turn_words (cond b (called held d) (refused_row held n))
      go true = refl
      go false = row_refused n refl

-- ---- whatever the record
module _ (rates : Rates) (w e : List ℕ) (row : Option Row) where
  abbrev refused_with : ℕ → RowMemory
  refused_with number = row_memory rates w e (receipt_words (refusal number))

  pub record_refused : (n : ℕ) → tested (record_tests w) ≡ Err n → refused_with n ≡ performed_on rates w e row
  unfolding performed_on
  record_refused n says = refused_by (record_tests w) n refused_with _ says

  pub row_performed : {m : RowMemory} {u : Unit {0}} → tested (record_tests w) ≡ Ok u → m ≡ turn_words (perform (sheet_in rates w e) row) → m ≡ performed_on rates w e row
  unfolding performed_on
  row_performed says did = did ∙ outcome_all (record_tests w) refused_with _ (passed (record_tests w) says)

-- past its test a record is a pool's
pub record_tested : {u : Unit {0}} (w : List ℕ) → tested (record_tests w) ≡ Ok u → first (record_tests w) ≡ 0
record_tested w says = sym (first_none (record_tests w) (passed (record_tests w) says))
