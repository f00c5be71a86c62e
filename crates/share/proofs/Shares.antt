-- Parts of an amount, from its quotient and what is left.
use mathlib.Core.Path.{◌≡◌, ap, ◌∙◌, subst}
use Prim.Native.Nat.{ℕ, ◌+◌, ◌*◌, ◌/◌, ◌%◌, ◌^◌, ◌≤◌, ◌<◌}
use native.Mathlib.Nat.{add_comm, add-mul-div_right, div-lt_iff_lt-mul, mul-le-mul_left, mul-le-mul_right}
use native.Mathlib.Omega.{arith}
use Rattle.divide.specs.Division.{ceil_div}
use Rattle.divide.proofs.Long.{parted}
use Rattle.math.specs.Ratio.{fit, ceil_of}
use Rattle.math.proofs.Rounding.{ceil_parted, ceil_is}

-- the quotient times the rate, and what is left times the rate divided anew, with more added
pub shared_is :
    (amount rate whole more : ℕ) → 0 < whole
    → (amount * rate + more) / whole ≡ amount / whole * rate + (amount % whole * rate + more) / whole
shared_is amount rate whole more h =
    ap (λ (x : ℕ). x / whole) (moved (amount % whole * rate) (amount / whole * rate * whole) (parted amount rate whole))
    ∙ add-mul-div_right (amount % whole * rate + more) (amount / whole * rate) h
    ∙ add_comm ((amount % whole * rate + more) / whole) (amount / whole * rate)
  where
    moved : (r q : ℕ) → amount * rate ≡ r + q → amount * rate + more ≡ r + more + q
    moved r q e = omega arith

-- at a rate of at most the whole it is at most the amount, where less than the whole is added
pub shared_fits :
    (amount rate whole more : ℕ) → rate ≤ whole → more < whole → amount < 2 ^ 64
    → amount / whole * rate + (amount % whole * rate + more) / whole < 2 ^ 64
shared_fits amount rate whole more h m fits =
    subst (λ (x : ℕ). x < 2 ^ 64) (shared_is amount rate whole more (omega arith))
    ((div-lt_iff_lt-mul {k = whole} {x = amount * rate + more} {y = 2 ^ 64} (omega arith)).1
    (omega (arith, mul-le-mul_left amount h, mul-le-mul_right {m = amount + 1} {n = 2 ^ 64} whole (omega arith))))

-- an amount scaled up: its quotient and what is left are scaled apart
pub scaled_is :
    (amount whole part : ℕ) → 0 < part
    → ceil_of (amount * whole) part ≡ fit (amount / part * whole + ceil_div (amount % part * whole) part)
scaled_is amount whole part h = ceil_is (amount * whole) part h ∙ ap fit (ceil_parted amount whole part h)
