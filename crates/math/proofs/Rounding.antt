-- The laws of rounding, for any divisor: of the quotient rounded down, the quotient rounded up, shares at a rate, and the answers `fit`, `floor_of`, `ceil_of`.
use mathlib.Core.Path.{◌≡◌, sym, ap, ◌∙◌}
use mathlib.Core.Logic.{◌⊎◌, inl, inr, ⊎_elim}
use Prim.Native.Nat.{ℕ, suc, ◌+◌, ◌-◌, ◌*◌, ◌/◌, ◌%◌, ◌^◌, ◌≤◌, ◌<◌}
use native.Mathlib.Nat.{add_comm, add-mul-div_right, div-add-mod', div-mul-le_self, div-zero, lt-div-mul-add, div-lt_iff_lt-mul}
use native.Mathlib.Nat.{le-div_iff_mul-le, le_of_mul-le-mul_right, le-add_right, le_trans, le_of_lt, mod-lt, mul-le-mul_left}
use native.Mathlib.Nat.{eq-zero-or-pos, ne_of_gt}
use native.Mathlib.Omega.{arith}
use native.Mathlib.Decide.{dec_lt}
use lib.Arith.{digits_div}
use borrow.Author.Tests.{lt-ltb, ne_eqb}
use Rattle.std.specs.Prelude.{Ok}
use Rattle.divide.specs.Division.{ceil_div}
use Rattle.divide.proofs.Digits.{once_less}
use Rattle.divide.proofs.Long.{parted}
use Rattle.math.specs.Ratio.{fit, ceil_of}

-- two numbers are in order one way or the other
pub lt_or_le : (a b : ℕ) → (a < b) ⊎ (b ≤ a)
lt_or_le a b = either (dec_lt a b)
  where
    either : Dec (a < b) → (a < b) ⊎ (b ≤ a)
    either (yes p) = inl p
    either (no f) = inr (omega arith)

-- ---- the quotient rounded down

module _ (n d : ℕ) where
  -- it is not too high
  pub floor_le : n / d * d ≤ n
  floor_le = div-mul-le_self n d

  -- and one more would be
  pub floor_next : 0 < d → n < (n / d + 1) * d
  floor_next h = omega (arith, lt-div-mul-add {a = n} {b = d} h)

-- that of two halves is past u64 where the high half is not below the divisor
pub halves_past : (high low d : ℕ) → 0 < d → d ≤ high → 2 ^ 64 ≤ (high * 2 ^ 64 + low) / d
halves_past high low d hd hh = (le-div_iff_mul-le {k = d} {x = 2 ^ 64} {y = high * 2 ^ 64 + low} hd).1 (omega arith)

-- it does not fall as the dividend rises
pub floor_mono : (n m d : ℕ) → n ≤ m → n / d ≤ m / d
floor_mono n m d h =
    ⊎_elim
    (λ (e : d ≡ 0). rw (e, div-zero n, div-zero m) (omega arith))
    (λ p. (le-div_iff_mul-le {k = d} {x = n / d} {y = m} p).1 (le_trans (floor_le n d) h))
    (eq-zero-or-pos d)

-- ---- the quotient rounded up

module _ (n d : ℕ) where
  -- it is enough
  pub ceil_ge : 0 < d → n ≤ ceil_div n d * d
  ceil_ge h = omega (arith, lt-div-mul-add {a = n + (d - 1)} {b = d} h)

  -- and one less would not be
  pub ceil_tight : 0 < n → 0 < d → (ceil_div n d - 1) * d < n
  ceil_tight p h =
      ⊎_elim
      (λ (e : ceil_div n d ≡ 0). rw e (omega arith))
      (λ q. omega (arith, div-mul-le_self (n + (d - 1)) d, once_less (ceil_div n d) d q))
      (eq-zero-or-pos (ceil_div n d))

  -- so it is the least that is enough
  pub ceil_least : (k : ℕ) → n ≤ k * d → ceil_div n d ≤ k
  ceil_least k h =
      ⊎_elim
      (λ (e : d ≡ 0). rw (e, div-zero) (omega arith))
      (λ p. let q : ceil_div n d < suc k = (div-lt_iff_lt-mul {k = d} {x = n + (d - 1)} {y = suc k} p).1 (omega arith) in omega arith)
      (eq-zero-or-pos d)

  -- ---- both: the one rounded up is the same where nothing is left, and one more elsewhere

  pub floor_le_ceil : n / d ≤ ceil_div n d
  floor_le_ceil = floor_mono n (n + (d - 1)) d (le-add_right n (d - 1))

  pub ceil_le_next : ceil_div n d ≤ n / d + 1
  ceil_le_next =
      ⊎_elim
      (λ (e : d ≡ 0). rw (e, div-zero (n + (0 - 1)), div-zero n) (omega arith))
      (λ p. ceil_least (n / d + 1) (le_of_lt (floor_next n d p)))
      (eq-zero-or-pos d)

  pub ceil_exact : n % d ≡ 0 → ceil_div n d ≡ n / d
  ceil_exact e =
      let low = floor_le_ceil in
      let high : ceil_div n d ≤ n / d = ceil_least (n / d) (omega (arith, div-add-mod' n d)) in
      omega arith

  pub ceil_more : 0 < d → 0 < n % d → ceil_div n d ≡ n / d + 1
  ceil_more h r =
      ap (λ (x : ℕ). x / d) (omega (arith, div-add-mod' n d) ∙ ap (λ (x : ℕ). x + (n % d - 1)) (sym (next (n / d))))
      ∙ digits_div (n / d + 1) {m = d} {r = n % d - 1} (omega (arith, mod-lt n h))
    where
      next : (q : ℕ) → (q + 1) * d ≡ q * d + d
      next q = omega arith

-- it does not fall as the dividend rises
pub ceil_mono : (n m d : ℕ) → n ≤ m → ceil_div n d ≤ ceil_div m d
ceil_mono n m d h = floor_mono (n + (d - 1)) (m + (d - 1)) d (omega arith)

-- of a sum it is at most those of its parts together
pub ceil_sum : (n m d : ℕ) → ceil_div (n + m) d ≤ ceil_div n d + ceil_div m d
ceil_sum n m d =
    ⊎_elim
    (λ (e : d ≡ 0). rw (e, div-zero (n + m + (0 - 1))) (omega arith))
    (λ p. ceil_least (n + m) d (ceil_div n d + ceil_div m d) (omega (arith, ceil_ge n d p, ceil_ge m d p)))
    (eq-zero-or-pos d)

-- by parts: k times a number, rounded up, is k times its quotient, and k times what is left divided anew
pub ceil_parted : (n k d : ℕ) → 0 < d → ceil_div (n * k) d ≡ n / d * k + ceil_div (n % d * k) d
ceil_parted n k d h =
    ap (λ (x : ℕ). x / d) (moved (n % d * k) (n / d * k * d) (parted n k d))
    ∙ add-mul-div_right (n % d * k + (d - 1)) (n / d * k) h
    ∙ add_comm (ceil_div (n % d * k) d) (n / d * k)
  where
    moved : (r q : ℕ) → n * k ≡ r + q → n * k + (d - 1) ≡ r + (d - 1) + q
    moved r q e = omega arith

-- ---- shares of an amount at rates of a whole

-- at a rate of at most the whole, a share never passes the amount
pub share_floor_le : (amount rate whole : ℕ) → rate ≤ whole → amount * rate / whole ≤ amount
share_floor_le amount rate whole h = le_trans (floor_le_ceil (amount * rate) whole) (ceil_least (amount * rate) whole amount (mul-le-mul_left amount h))

pub share_ceil_le : (amount rate whole : ℕ) → rate ≤ whole → ceil_div (amount * rate) whole ≤ amount
share_ceil_le amount rate whole h = ceil_least (amount * rate) whole amount (mul-le-mul_left amount h)

-- at a rate of the whole or more, a share rounded up is at least the amount
pub share_ceil_ge : (amount rate whole : ℕ) → 0 < whole → whole ≤ rate → amount ≤ ceil_div (amount * rate) whole
share_ceil_ge amount rate whole p h =
    le_of_mul-le-mul_right {k = whole} (le_trans (mul-le-mul_left amount h) (ceil_ge (amount * rate) whole p)) p

-- a share of a sum, rounded up, is at most those of its parts together
pub share_ceil_sum : (a b rate whole : ℕ) → ceil_div ((a + b) * rate) whole ≤ ceil_div (a * rate) whole + ceil_div (b * rate) whole
share_ceil_sum a b rate whole = let e : (a + b) * rate ≡ a * rate + b * rate = omega arith in rw e (ceil_sum (a * rate) (b * rate) whole)

-- two shares whose rates sum to at most the whole, both rounded down, never pass the amount
pub shares_le : (amount r s whole : ℕ) → r + s ≤ whole → amount * r / whole + amount * s / whole ≤ amount
shares_le amount r s whole h =
    ⊎_elim
    (λ (e : whole ≡ 0). rw (e, div-zero (amount * r), div-zero (amount * s)) (omega arith))
    (λ p. le_of_mul-le-mul_right {k = whole} (omega (arith, floor_le (amount * r) whole, floor_le (amount * s) whole, mul-le-mul_left amount h)) p)
    (eq-zero-or-pos whole)

-- ---- answers

-- a number that fits a u64
pub fit_fits : (n : ℕ) → n < 2 ^ 64 → fit n ≡ Ok n
unfolding fit
fit_fits n h = simp (lt-ltb n (2 ^ 64) h)

-- rounded up, by a divisor that is not 0
pub ceil_is : (n d : ℕ) → 0 < d → ceil_of n d ≡ fit (ceil_div n d)
unfolding ceil_of
ceil_is n d h = simp (ne_eqb d 0 (ne_of_gt h))
