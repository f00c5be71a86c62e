-- The swaps with fees, on plain numbers: past the rate limits the tests after them decide, and the amount before a fee is no less than after it.
-- Assumes nothing.
use mathlib.Core.Path.{◌≡◌, ◌∙◌}
use mathlib.Core.Bool.{Bool, true, false, cond}
use mathlib.Core.Logic.{⊎_elim}
use Prim.Native.Nat.{ℕ, ◌-◌, ◌*◌, ◌^◌, ◌<◌, ◌≤◌}
use native.Mathlib.Nat.{le_trans, le-div_iff_mul-le, mul-le-mul_left}
use native.Mathlib.Omega.{arith}
use lib.Dec.{eqb}
use Rattle.std.specs.Prelude.{Ok}
use Rattle.divide.specs.Division.{ceil_div}
use Rattle.math.specs.Ratio.{Quotient, fit}
use Rattle.math.proofs.Rounding.{lt_or_le, floor_le_ceil, fit_fits}
use Rattle.refusal.specs.Tests.{Tests, ◌then◌, outcome, u64_max}
use Rattle.refusal.proofs.Stops.{turns, outcome_past}
use Rattle.rates.specs.declared.Rates.{Rates}
use Rattle.fees.specs.Fees.{million, pre_fee}
use Rattle.rates.specs.Rates.{rate_limits}
use Rattle.calculator.specs.Stages.{Limited}

-- ---- the rate limits
module _ (rates : Rates) (creatorRate : ℕ) where
  -- past them the tests after them decide
  pub past_limits_lem :
      {A : Type 0} → Limited rates creatorRate → (ts : Tests) (refused : ℕ → A) (accepted : A)
      → outcome ts refused accepted ≡ outcome (rate_limits rates creatorRate then ts) refused accepted
  unfolding rate_limits ◌then◌
  past_limits_lem l ts refused accepted = outcome_past _ _ _ _ (omega (arith, turns)) ∙ outcome_past _ _ _ _ (omega (arith, turns))

-- ---- the amount before a fee
-- it is at least the one after it
pub pre_fee_ge : (amount rate : ℕ) → rate < million → amount ≤ pre_fee amount rate
unfolding pre_fee
pre_fee_ge amount rate h = go (eqb rate 0)
  where
    go : (b : Bool) → amount ≤ cond b amount (ceil_div (amount * million) (million - rate))
    go true = omega arith
    go false =
        le_trans
        ((le-div_iff_mul-le {k = million - rate} {x = amount} {y = amount * million} (omega arith)).1 (mul-le-mul_left amount (omega arith)))
        (floor_le_ceil (amount * million) (million - rate))

-- ---- a quotient told by its case
-- a number whose quotient is none is past u64
pub told_past : (q : Quotient) (n : ℕ) → q ≡ fit n → ((m : ℕ) → q ≡ Ok m → ⊥) → u64_max < n
told_past q n e t =
    ⊎_elim
    (λ (l : n < 2 ^ 64). absurd (t n (e ∙ fit_fits n l)))
    (λ (l : 2 ^ 64 ≤ n). omega arith)
    (lt_or_le n (2 ^ 64))
