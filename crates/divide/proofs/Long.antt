-- Long division by a word: the dividend and the divisor are shifted until the divisor's top bit is set, and two digits of base 2 ^ 32 make the quotient.
use Rattle.std.proofs.Common.{◌≡◌, ℕ, ◌+◌, ◌-◌, ◌*◌, ◌/◌, ◌%◌, ◌^◌, ◌<◌, sym, ap, ◌∙◌, subst, lt_trans, le-add_right, lt_of_le_of_lt, mul-le-mul_right, mod-lt, mod-eq_of_lt, mul_assoc, suc-mul, div-lt_iff_lt-mul, add-mul, add_comm, lt_of_mul-lt-mul_right, mul-lt-mul_of_pos_right, div-add-mod', mul-div_cancel, arith, pow_pos, pow-add, shr-shr}
use native.Mathlib.Nat.{add-mul-div_right, mul-div-mul_right}
use lib.Arith.{digits_div, digits_mod}
use Rattle.divide.specs.declared.Divided.{Divided}
use Rattle.wide.specs.declared.U128.{U128}
use Rattle.divide.specs.Division.{divided, divided_wide}
use Rattle.wide.specs.Steps.{Divides}
use Rattle.wide.proofs.Halves.{spread, shl_half}

-- ---- a quotient and a remainder are the only ones

pub quotient_is : {n d q r : ℕ} → Divides n d q r → q ≡ n / d
quotient_is {n} {d} {q} {r} w = sym (digits_div q w.less) ∙ ap (λ (x : ℕ). x / d) w.whole

pub remainder_is : {n d q r : ℕ} → Divides n d q r → r ≡ n % d
remainder_is {n} {d} {q} {r} w = sym (digits_mod q w.less) ∙ ap (λ (x : ℕ). x % d) w.whole

divides : (n : ℕ) {d : ℕ} → 0 < d → Divides n d (n / d) (n % d)
divides n {d} h = record { whole = div-add-mod' n d; less = mod-lt n h }

pub of_divided : (n d : ℕ) {p : Divided ℕ} → 0 < d → p ≡ divided n d → Divides n d p.quotient p.remainder
of_divided n d h e = subst (λ (p : Divided ℕ). Divides n d p.quotient p.remainder) (sym e) (divides n h)

-- a quotient's bound
quotient_lt : {n d q r : ℕ} (k : ℕ) → Divides n d q r → n < k * d → q < k
quotient_lt {n} {d} {q} {r} k w h = lt_of_mul-lt-mul_right d (lt_of_le_of_lt (le-add_right (q * d) r) (subst (λ (x : ℕ). x < k * d) (sym w.whole) h))

pub both : (n d : ℕ) {q r : ℕ} → q ≡ n / d → r ≡ n % d → ◌≡◌ {A = Divided ℕ} (record { quotient = q; remainder = r }) (divided n d)
both n d p e = λ i. record { quotient = p i; remainder = e i }

-- ---- two digits

two_digits : (H L D q₁ r₁ q₀ r₀ : ℕ)
    → Divides (H * 2 ^ 32 + L / 2 ^ 32) D q₁ r₁ → Divides (r₁ * 2 ^ 32 + L % 2 ^ 32) D q₀ r₀
    → Divides (H * 2 ^ 64 + L) D (q₁ * 2 ^ 32 + q₀) r₀
two_digits H L D q₁ r₁ q₀ r₀ x y = record { whole = omega (arith, spread (2 ^ 32) D q₁ q₀, x.whole, y.whole); less = y.less }

pub digit_small : {h l D q r : ℕ} → Divides (h * 2 ^ 32 + l) D q r → h < D → l < 2 ^ 32 → q < 2 ^ 32
digit_small w hh hl = quotient_lt (2 ^ 32) w (omega arith)

-- ---- the shift

-- what a shift by s takes out of the low word
carried : (low s : ℕ) → s < 64 → low / 2 / 2 ^ (63 - s) ≡ low * 2 ^ s / 2 ^ 64
carried low s h =
    let e : 1 + (63 - s) + s ≡ 64 = omega arith in
    shr-shr low 1 (63 - s)
    ∙ sym (mul-div-mul_right low (2 ^ (1 + (63 - s))) (pow_pos s))
    ∙ ap (λ (x : ℕ). low * 2 ^ s / x) (sym (pow-add 2 (1 + (63 - s)) s) ∙ ap (λ (x : ℕ). 2 ^ x) e)

module _ (high low d s : ℕ) (hs : s < 64) (hh : high < d) (hl : low < 2 ^ 64) where
  pub high_lt : high * 2 ^ s + low * 2 ^ s / 2 ^ 64 < d * 2 ^ s
  high_lt = omega (arith, mul-le-mul_right (2 ^ s) hh, suc-mul high (2 ^ s), mul-lt-mul_of_pos_right hl (pow_pos s))

  pub shifted : (high * 2 ^ s + low * 2 ^ s / 2 ^ 64) * 2 ^ 64 + low * 2 ^ s % 2 ^ 64 ≡ (high * 2 ^ 64 + low) * 2 ^ s
  shifted = omega (arith, spread (2 ^ 64) (2 ^ s) high low)

  -- the words that the program computes are those of the shifted numbers, where the shifted divisor fits
  module _ (hd : d * 2 ^ s < 2 ^ 64) where
    pub high_word : high * 2 ^ s % 2 ^ 64 + low / 2 / 2 ^ (63 - s) ≡ high * 2 ^ s + low * 2 ^ s / 2 ^ 64
    high_word =
        ap (λ (x : ℕ). x + low / 2 / 2 ^ (63 - s)) (mod-eq_of_lt (lt_of_le_of_lt (le-add_right (high * 2 ^ s) _) (lt_trans high_lt hd)))
        ∙ ap (λ (x : ℕ). high * 2 ^ s + x) (carried low s hs)

    pub joined : (q₁ r₁ q₀ r₀ : ℕ)
        → Divides ((high * 2 ^ s % 2 ^ 64 + low / 2 / 2 ^ (63 - s)) * 2 ^ 32 + low * 2 ^ s % 2 ^ 64 / 2 ^ 32) (d * 2 ^ s % 2 ^ 64) q₁ r₁
        → Divides (r₁ * 2 ^ 32 + low * 2 ^ s % 2 ^ 64 % 2 ^ 32) (d * 2 ^ s % 2 ^ 64) q₀ r₀
        → Divides ((high * 2 ^ 64 + low) * 2 ^ s) (d * 2 ^ s) (q₁ * 2 ^ 32 + q₀) r₀
    joined q₁ r₁ q₀ r₀ x y =
        subst (λ (n : ℕ). Divides n (d * 2 ^ s) (q₁ * 2 ^ 32 + q₀) r₀) (ap (λ (h : ℕ). h * 2 ^ 64 + low * 2 ^ s % 2 ^ 64) high_word ∙ shifted)
        (rw (mod-eq_of_lt hd) at (two_digits (high * 2 ^ s % 2 ^ 64 + low / 2 / 2 ^ (63 - s)) (low * 2 ^ s % 2 ^ 64) (d * 2 ^ s % 2 ^ 64) q₁ r₁ q₀ r₀ x y))

-- a division of both times P, taken back
module _ (N d P Q r : ℕ) (hd : 0 < d) (hP : 0 < P) (w : Divides (N * P) (d * P) Q r) where
  pub unshifted_quotient : Q ≡ N / d
  unshifted_quotient = quotient_is w ∙ mul-div-mul_right N d hP

  times : (q m : ℕ) → q * (d * P) + m * P ≡ (q * d + m) * P
  times q m = simp (add-mul, mul_assoc)

  again : Divides (N * P) (d * P) (N / d) (N % d * P)
  again = record { whole = times (N / d) (N % d) ∙ ap (λ (x : ℕ). x * P) (div-add-mod' N d); less = mul-lt-mul_of_pos_right (mod-lt N hd) hP }

  pub unshifted_remainder : r / P ≡ N % d
  unshifted_remainder =
      ap (λ (x : ℕ). x / P)
      (remainder_is w ∙ sym (remainder_is {n = N * P} {d = d * P} {q = N / d} {r = N % d * P} again))
      ∙ mul-div_cancel (N % d) hP

-- ---- a quotient of two words: the high one first
-- it fits one word where the high half is below the divisor
pub halves_fit : (high low d : ℕ) → high < d → low < 2 ^ 64 → (high * 2 ^ 64 + low) / d < 2 ^ 64
halves_fit high low d hh hl = (div-lt_iff_lt-mul {k = d} {x = high * 2 ^ 64 + low} {y = 2 ^ 64} (omega arith)).1 (omega arith)

pub low_divides :
    (b l d : ℕ) {r : Divided U128} → b < d → l < 2 ^ 64 → r ≡ divided_wide (b * 2 ^ 64 + l) d → Divides (b * 2 ^ 64 + l) d r.quotient.low r.remainder
low_divides b l d hb hl e =
    let n = b * 2 ^ 64 + l in
    subst (λ (r : Divided U128). Divides n d r.quotient.low r.remainder) (sym e)
    (subst (λ (q : ℕ). Divides n d q (n % d)) (sym (mod-eq_of_lt (halves_fit b l d hb hl))) (divides n (omega arith)))

pub wide_divides : (h l d a b q r : ℕ) → a * d + b ≡ h → Divides (b * 2 ^ 64 + l) d q r → Divides (h * 2 ^ 64 + l) d (a * 2 ^ 64 + q) r
wide_divides h l d a b q r e w = record { whole = omega (arith, spread (2 ^ 64) d a q, w.whole); less = w.less }

-- ---- by parts: k times a number is k times its quotient, and k times what is left divided anew

pub parted : (n k d : ℕ) → n * k ≡ n % d * k + n / d * k * d
parted n k d = omega (arith, ap (λ (x : ℕ). x * k) (div-add-mod' n d))

pub floor_parted : (n k d : ℕ) → 0 < d → n * k / d ≡ n / d * k + n % d * k / d
floor_parted n k d h = ap (λ (x : ℕ). x / d) (parted n k d) ∙ add-mul-div_right (n % d * k) (n / d * k) h ∙ add_comm (n % d * k / d) (n / d * k)

-- ---- a number below the divisor, as one digit after the point

module _ (a d s : ℕ) (ha : a < d) (hd : d * 2 ^ s < 2 ^ 64) where
  pub shifted_lt : a * 2 ^ s < d * 2 ^ s
  shifted_lt = mul-lt-mul_of_pos_right ha (pow_pos s)

  -- it loses no bit by the shift
  pub shifted_word : a * 2 ^ s % 2 ^ 64 ≡ a * 2 ^ s
  shifted_word = mod-eq_of_lt (lt_trans shifted_lt hd)

  pub fraction : (q r : ℕ) → Divides (a * 2 ^ s % 2 ^ 64 * 2 ^ 32 + 0) (d * 2 ^ s % 2 ^ 64) q r → q ≡ a * 2 ^ 32 / d
  fraction q r w =
      quotient_is w
      ∙ (λ i. (shifted_word i * 2 ^ 32 + 0) / mod-eq_of_lt hd i)
      ∙ ap (λ (x : ℕ). x / (d * 2 ^ s)) (moved (2 ^ s))
      ∙ mul-div-mul_right (a * 2 ^ 32) d (pow_pos s)
    where
      moved : (P : ℕ) → a * P * 2 ^ 32 + 0 ≡ a * 2 ^ 32 * P
      moved P = omega arith

-- the price of a in b: the whole part, shifted, and the fraction
pub fraction_lt : (a d : ℕ) → a < d → a * 2 ^ 32 / d < 2 ^ 32
fraction_lt a d h = (div-lt_iff_lt-mul {k = d} {x = a * 2 ^ 32} {y = 2 ^ 32} (omega arith)).1 (omega arith)

pub point_fits : (q f : ℕ) → f < 2 ^ 32 → q * 2 ^ 32 % 2 ^ 64 + f < 2 ^ 64
point_fits q f h = omega (arith, shl_half q)

pub point_value : (q f : ℕ) → q / 2 ^ 32 * 2 ^ 64 + (q * 2 ^ 32 % 2 ^ 64 + f) ≡ q * 2 ^ 32 + f
point_value q f = omega (arith, shifted_whole q)
  where
    shifted_whole : (q : ℕ) → q / 2 ^ 32 * 2 ^ 64 + q * 2 ^ 32 % 2 ^ 64 ≡ q * 2 ^ 32
    shifted_whole q = omega arith
