-- A division by a number s, by the division of the halves: the quotient is the same, or for an odd s one too high.
use mathlib.Core.Path.{◌≡◌, sym, ap, ◌∙◌}
use Prim.Native.Nat.{ℕ, ◌+◌, ◌-◌, ◌*◌, ◌/◌, ◌%◌, ◌^◌, ◌≤◌, ◌<◌}
use native.Mathlib.Nat.{mul_assoc, mul-add, mul-one}
use native.Mathlib.Omega.{arith}
use Rattle.wide.specs.Steps.{Divides}
use Rattle.divide.proofs.Digits.{once_less}

-- the half of two words
top_bit : (high : ℕ) → high * 2 ^ 63 % 2 ^ 64 ≡ high % 2 * 2 ^ 63
top_bit high = omega arith

half_words' : (high low : ℕ) → high / 2 * 2 ^ 64 + (high % 2 * 2 ^ 63 + low / 2) ≡ (high * 2 ^ 64 + low) / 2
half_words' high low = omega arith

pub half_words : (high low : ℕ) → high / 2 * 2 ^ 64 + (high * 2 ^ 63 % 2 ^ 64 + low / 2) ≡ (high * 2 ^ 64 + low) / 2
half_words high low = ap (λ (x : ℕ). high / 2 * 2 ^ 64 + (x + low / 2)) (top_bit high) ∙ half_words' high low

pub low_fits : (high low : ℕ) → low < 2 ^ 64 → high * 2 ^ 63 % 2 ^ 64 + low / 2 < 2 ^ 64
low_fits high low h = omega (arith, top_bit high)

pub odd_word : (high low : ℕ) → (high * 2 ^ 64 + low) % 2 ≡ low % 2
odd_word high low = omega arith

module _ (n s q r : ℕ) (w : Divides (n / 2) (s / 2) q r) where
  even_mul : s % 2 ≡ 0 → q * s ≡ q * (s / 2) * 2
  even_mul e = ap (λ (x : ℕ). q * x) (twice e) ∙ sym (mul_assoc q (s / 2) 2)
    where
      twice : s % 2 ≡ 0 → s ≡ s / 2 * 2
      twice e = omega arith

  odd_mul : s % 2 ≡ 1 → q * s ≡ q * (s / 2) * 2 + q
  odd_mul e = ap (λ (x : ℕ). q * x) (twice e) ∙ mul-add q (s / 2 * 2) 1 ∙ (λ i. sym (mul_assoc q (s / 2) 2) i + mul-one q i)
    where
      twice : s % 2 ≡ 1 → s ≡ s / 2 * 2 + 1
      twice e = omega arith

  pub even : s % 2 ≡ 0 → Divides n s q (r + r + n % 2)
  even e = record { whole = omega (arith, even_mul e, w); less = omega (arith, w) }

  pub odd_right : s % 2 ≡ 1 → q ≤ r + r + n % 2 → Divides n s q (r + r + n % 2 - q)
  odd_right e h = record { whole = omega (arith, odd_mul e, w); less = omega (arith, w) }

  pub odd_high : s % 2 ≡ 1 → r + r + n % 2 < q → q ≤ s → Divides n s (q - 1) (s + (r + r + n % 2) - q)
  odd_high e h hq =
      let p : 0 < q = omega arith in
      record { whole = omega (arith, odd_mul e, once_less q s p, w); less = omega (arith, w) }
