-- What a row does to pool and ring: an accepted opening, a call, or nothing.
-- Assumes nothing.
use Prim.Native.Nat.{ℕ, ◌≤◌}
use mathlib.Core.Path.{◌≡◌, refl}
use mathlib.Core.Bool.{Bool, true, false, cond, ◌&&◌}
use native.Mathlib.Omega.{arith}
use borrow.Author.Tests.{eqb-true, eqb-false, ne_eqb}
use lib.Dec.{eqb}
use Rattle.refusal.specs.Refusal.{unreadable_row}
use Rattle.refusal.specs.Tests.{◌then◌, first}
use Rattle.rates.specs.declared.Rates.{Rates}
use Rattle.rates.specs.Rates.{rate_limits, rate_tests}
use Rattle.receipt.specs.Receipt.{refusal}
use Rattle.opening.specs.declared.Opening.{Opening}
use Rattle.pool.specs.Calls.{opening}
use Rattle.calls.specs.declared.Call.{Call}
use Rattle.calls.specs.Next.{next}
use Rattle.calls.proofs.Decisions.{number_of}
use Rattle.calls.proofs.Within.{first_short, opening_short}
use Rattle.rows.specs.declared.row.Row.{Row}
use Rattle.std.specs.Prelude.{Option, Some, None}
use Rattle.sheet.specs.Sheet.{Sheet, Turn, refused_row, called, keep_rates, replaced, perform, opening_with}
use Rattle.sheet.specs.Stages.{readable, call_of, called_for}
use Rattle.sheet.specs.Turns.{state_in, asks_opening}
use Rattle.sheet.proofs.Asks.{keeps_rates, opens, asks}

-- the opening of a row of kind 1
abbrev pub opening_by : Sheet → Row → Opening
opening_by s q = opening_with q.a q.b q.c q.d q.e s.rates

pub data Effect (s : Sheet) (r : Option Row) (t : Turn) : Type 0 where
  opened :
      (q : Row) → r ≡ Some q → q.kind ≡ 1 → number_of (opening (opening_by s q)) ≡ 0 → t ≡ called s (opening (opening_by s q)) → Effect s r t
  calls : (c : Call) → asks_opening r ≡ false → t ≡ called s (next (state_in s) c) → Effect s r t
  stays : (n : ℕ) → n ≤ 99 → (asks_opening r && eqb n 0) ≡ false → state_in t.sheet ≡ state_in s → t.receipt ≡ refusal n → Effect s r t

neither : {a : Bool} (b : Bool) → a ≡ false → (a && b) ≡ false
neither b e = rw e

nor : (a : Bool) {b : Bool} → b ≡ false → (a && b) ≡ false
nor true e = e
nor false e = refl

rates_short : (rates : Rates) → first (rate_tests rates) ≤ 99
unfolding rate_tests rate_limits ◌then◌
rates_short rates = first_short _ refl

module _ (s : Sheet) where
  of_rates : (r : Option Row) (rates : Rates) → asks_opening r ≡ false → Effect s r (keep_rates s rates)
  unfolding keep_rates
  of_rates r rates none = go (eqb (first (rate_tests rates)) 0)
    where
      go :
          (b : Bool)
          → Effect s r (cond b (record { sheet = record { rates = rates; pool = s.pool; entries = s.entries }; receipt = refusal 0 }) (refused_row s (first (rate_tests rates))))
      go true = stays 0 (omega arith) (neither _ none) refl refl
      go false = stays _ (rates_short rates) (neither _ none) refl refl

  of_opening : (q : Row) → q.kind ≡ 1 → Effect s (Some q) (replaced s (opening (opening_by s q)))
  unfolding replaced
  of_opening q is = go (eqb (number_of (opening (opening_by s q))) 0) refl
    where
      go :
          (b : Bool) → eqb (number_of (opening (opening_by s q))) 0 ≡ b
          → Effect s (Some q) (cond b (called s (opening (opening_by s q))) (refused_row s (number_of (opening (opening_by s q)))))
      go true z = opened q refl is (eqb-true _ _ z) refl
      go false z = stays _ (opening_short (opening_by s q)) (nor (eqb q.kind 1) z) refl refl

  of_call : (r : Option Row) (q : Row) → asks_opening r ≡ false → Effect s r (called_for s q)
  unfolding called_for
  of_call r q none = go (readable q)
    where
      asked : Call
      asked = call_of s.pool.terms.rates.share q

      go : (b : Bool) → Effect s r (cond b (called s (next (state_in s) asked)) (refused_row s unreadable_row))
      go true = calls asked none refl
      go false = stays unreadable_row (omega arith) (neither _ none) refl refl

  pub effect : (r : Option Row) → Effect s r (perform s r)
  unfolding perform
  effect None = stays unreadable_row (omega arith) refl refl refl
  effect (Some q) = go (eqb q.kind 0) (eqb q.kind 1) refl refl
    where
      go : (a b : Bool) → eqb q.kind 0 ≡ a → eqb q.kind 1 ≡ b → Effect s (Some q) (perform s (Some q))
      go true b is _ = let z = eqb-true q.kind 0 is in rw (← keeps_rates s q z) (of_rates _ _ (ne_eqb q.kind 1 (λ e. omega arith)))
      go false true _ is = let z = eqb-true q.kind 1 is in rw (← opens s q z) (of_opening q z)
      go false false not-rates none = rw (← asks s q (eqb-false _ _ not-rates) (eqb-false _ _ none)) (of_call _ q none)
