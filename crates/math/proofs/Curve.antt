-- The curve on two nets x and y: a swap never lowers their product, gives no more than there is, what it asks is enough, and two in turn give no more
-- than both at once.
use mathlib.Core.Path.{◌≡◌, ap}
use mathlib.Core.Logic.{⊎_elim}
use Prim.Native.Nat.{ℕ, ◌+◌, ◌-◌, ◌*◌, ◌/◌, ◌^◌, ◌≤◌, ◌<◌}
use native.Mathlib.Nat.{div-le_of_le-mul, eq-zero-or-pos, le-div_iff_mul-le, lt_of_mul-lt-mul_right, mul-le-mul_left, mul-le-mul_right, le-add_left, zero-div, zero-mul}
use native.Mathlib.Omega.{arith}
use Rattle.divide.specs.Division.{ceil_div}
use Rattle.math.proofs.Rounding.{floor_le, ceil_ge}

-- by input d: what is given is there
pub out_le : (x y d : ℕ) → d * y / (x + d) ≤ y
out_le x y d = div-le_of_le-mul (x + d) (mul-le-mul_right y (le-add_left d x))

-- so its quotient has 64 bits: the product's high half is below the divisor
pub high_below : (high low d y x : ℕ) → high * 2 ^ 64 + low ≡ d * y → y < 2 ^ 64 → 0 < x + d → high < x + d
high_below high low d y x e h p = lt_of_mul-lt-mul_right (2 ^ 64) (omega (arith, mul-le-mul_left {m = y} {n = 2 ^ 64 - 1} d (omega arith)))

-- by input d: the product does not fall
pub product_kept_by_input : (x y d : ℕ) → x * y ≤ (x + d) * (y - d * y / (x + d))
product_kept_by_input x y d =
    let out : ℕ = d * y / (x + d) in
    let there : out ≤ y = out_le x y d in
    let e : y - out + out ≡ y = omega arith in
    omega (arith, floor_le (d * y) (x + d), ap (λ (z : ℕ). (x + d) * z) e)

-- by input d, and then e, where the one net has grown by d or more: together they give no more than both at once
module _ (x y d e x' : ℕ) (l : x + d ≤ x') where
  abbrev out : ℕ
  out = d * y / (x + d)

  abbrev more : ℕ
  more = e * (y - out) / (x' + e)

  -- their outputs times x + d + e are at most (d + e) × y
  both : (out + more) * (x + (d + e)) ≤ (d + e) * y
  both =
      let there : y - out + out ≡ y = omega (arith, out_le x y d) in
      omega (
        arith,
        floor_le (d * y) (x + d),
        floor_le (e * (y - out)) (x' + e),
        mul-le-mul_left {m = x + d} {n = x'} more l,
        ap (λ (z : ℕ). e * z) there,
      )

  -- where there is nothing to divide by, nothing is given
  none : x + (d + e) ≡ 0 → out + more ≤ (d + e) * y / (x + (d + e))
  none z =
      let d₀ : d ≡ 0 = omega arith in
      let e₀ : e ≡ 0 = omega arith in
      simp (d₀, e₀, zero-mul, zero-div) (omega arith)

  pub in_turn_lem : out + more ≤ (d + e) * y / (x + (d + e))
  in_turn_lem = ⊎_elim none (λ p. (le-div_iff_mul-le {k = x + (d + e)} {x = out + more} {y = (d + e) * y} p).1 both) (eq-zero-or-pos (x + (d + e)))

-- by output o: the product does not fall
pub product_kept_by_output : (x y o : ℕ) → o < y → x * y ≤ (x + ceil_div (x * o) (y - o)) * (y - o)
product_kept_by_output x y o h =
    let e : y - o + o ≡ y = omega arith in
    omega (arith, ceil_ge (x * o) (y - o) (omega arith), ap (λ (z : ℕ). x * z) e)

-- what is asked for o gives o again, or more
pub asked_gives : (x y o : ℕ) → 0 < x → o < y → o ≤ ceil_div (x * o) (y - o) * y / (x + ceil_div (x * o) (y - o))
asked_gives x y o p h = enough (ceil_div (x * o) (y - o)) (ceil_ge (x * o) (y - o) (omega arith))
  where
    enough : (asked : ℕ) → x * o ≤ asked * (y - o) → o ≤ asked * y / (x + asked)
    enough asked k =
        let e : y - o + o ≡ y = omega arith in
        (le-div_iff_mul-le {k = x + asked} {x = o} {y = asked * y} (omega arith)).1 (omega (arith, k, ap (λ (z : ℕ). asked * z) e))
