-- Numbers of 128 bits as two words, a word being below 2 ^ 64: sums with a carry, and products with a word.
use Rattle.std.proofs.Common.{◌≡◌, ℕ, ◌+◌, ◌*◌, ◌/◌, ◌%◌, ◌^◌, ◌<◌, ◌≤◌, Bool, true, false, ◌&&◌, eqb, sym, refl, ap, ◌∙◌, subst, ⊎_elim, le_trans, le-add_right, mul-le-mul_right, mod-eq_of_lt, div-lt_iff_lt-mul, add_comm, pos_of_ne-zero, arith, pow_pos, le-ltb, lt-ltb, eq-eqb, ne_eqb, eqb-true}
use native.Mathlib.Nat.{add-mul-div_right, add-mul-mod_self_right, mod-add-mod}
use lib.Arith.{digits_div, digits_mod, digits_lt, mod-mul}
use borrow.Author.Tests.{eqb-false}
use Rattle.wide.specs.declared.U128.{U128}
use Rattle.std.specs.Prelude.{Some, None}
use Rattle.wide.specs.Value.{value, u128_of, product_of}
use Rattle.wide.specs.Steps.{Less}
use Rattle.wide.proofs.Halves.{spread}

-- what `u128_of` keeps of a number
pub value_u128_of : (n : ℕ) → value (u128_of n) ≡ n % 2 ^ 128
value_u128_of n = sym (mod-mul n {m = 2 ^ 64} {c = 2 ^ 64} (pow_pos 64) (pow_pos 64))

-- two words are the halves of the number that they make
pub words_are : (h l : ℕ) → h < 2 ^ 64 → l < 2 ^ 64 → ◌≡◌ {A = U128} (record { high = h; low = l }) (u128_of (h * 2 ^ 64 + l))
words_are h l hh hl =
    λ i. record {
      high = (sym (mod-eq_of_lt hh) ∙ ap (λ (x : ℕ). x % 2 ^ 64) (sym (digits_div h hl))) i;
      low = sym (digits_mod h hl) i;
    }

-- and make a number of 128 bits
pub halves_lt : (h l : ℕ) → h < 2 ^ 64 → l < 2 ^ 64 → h * 2 ^ 64 + l < 2 ^ 128
halves_lt h l hh hl = digits_lt {q = h} {m = 2 ^ 64} {r = l} {c = 2 ^ 64} hh hl

-- a high half of 0
pub low_only : (h l : ℕ) → h ≡ 0 → h * 2 ^ 64 + l ≡ l
low_only h l e = omega arith

-- a number whose high half is 0 is its low half, and else it is past a word
module _ (n : ℕ) {a : U128} (e : a ≡ u128_of n) (fits : n < 2 ^ 64 * 2 ^ 64) where
  high_is : a.high ≡ n / 2 ^ 64
  high_is = ap (λ (x : U128). x.high) e ∙ mod-eq_of_lt ((div-lt_iff_lt-mul {k = 2 ^ 64} {x = n} {y = 2 ^ 64} (pow_pos 64)).1 fits)

  pub one_word : a.high ≡ 0 → (a.low ≡ n) × (n < 2 ^ 64)
  one_word h =
      let none : n / 2 ^ 64 ≡ 0 = sym high_is ∙ h in
      let low : n % 2 ^ 64 ≡ n = omega arith in
      (ap (λ (x : U128). x.low) e ∙ low, omega arith)

  pub past_word : (a.high ≡ 0 → ⊥) → 2 ^ 64 ≤ n
  past_word h =
      let some : 0 < n / 2 ^ 64 = pos_of_ne-zero (λ (z : n / 2 ^ 64 ≡ 0). h (high_is ∙ z)) in
      omega arith

-- a number is 0 where both halves are
pub zero_by_halves : (h l : ℕ) → eqb h 0 && eqb l 0 ≡ eqb (h * 2 ^ 64 + l) 0
zero_by_halves h l = go (eqb h 0) refl (eqb l 0) refl
  where
    go : (a : Bool) → eqb h 0 ≡ a → (b : Bool) → eqb l 0 ≡ b → a && b ≡ eqb (h * 2 ^ 64 + l) 0
    go true e true f = sym (eq-eqb (h * 2 ^ 64 + l) 0 (omega (arith, eqb-true h 0 e, eqb-true l 0 f)))
    go true e false f = sym (ne_eqb (h * 2 ^ 64 + l) 0 (λ (z : h * 2 ^ 64 + l ≡ 0). eqb-false l 0 f (omega arith)))
    go false e b f = sym (ne_eqb (h * 2 ^ 64 + l) 0 (λ (z : h * 2 ^ 64 + l ≡ 0). eqb-false h 0 e (omega arith)))

-- ---- a sum

module _ (h l h' l' : ℕ) where
  regrouped : h * 2 ^ 64 + l + (h' * 2 ^ 64 + l') ≡ l + l' + (h + h') * 2 ^ 64
  regrouped = omega arith

  sum_low : (h * 2 ^ 64 + l + (h' * 2 ^ 64 + l')) % 2 ^ 64 ≡ (l + l') % 2 ^ 64
  sum_low = ap (λ (x : ℕ). x % 2 ^ 64) regrouped ∙ add-mul-mod_self_right (l + l') (h + h') (2 ^ 64)

  sum_high : (h * 2 ^ 64 + l + (h' * 2 ^ 64 + l')) / 2 ^ 64 ≡ (l + l') / 2 ^ 64 + (h + h')
  sum_high = ap (λ (x : ℕ). x / 2 ^ 64) regrouped ∙ add-mul-div_right (l + l') (h + h') (pow_pos 64)

-- the carry, found by a comparison
carry_is : (l l' low carry : ℕ) → l < 2 ^ 64 → l' < 2 ^ 64 → low ≡ (l + l') % 2 ^ 64 → Less low l carry → carry ≡ (l + l') / 2 ^ 64
carry_is l l' low carry a b e f = ⊎_elim (λ x. one x.0 x.1) (λ x. none x.0 x.1) f
  where
    one : low < l → carry ≡ 1 → carry ≡ (l + l') / 2 ^ 64
    one c z = omega arith

    none : l ≤ low → carry ≡ 0 → carry ≡ (l + l') / 2 ^ 64
    none c z = omega arith

-- the halves of a sum modulo 2 ^ 128
pub sum_halves : (h l h' l' low high top carry : ℕ) → l < 2 ^ 64 → l' < 2 ^ 64
    → low ≡ (l + l') % 2 ^ 64 → Less low l carry → high ≡ (h + h') % 2 ^ 64 → top ≡ (high + carry) % 2 ^ 64
    → ◌≡◌ {A = U128} (record { high = top; low = low }) (u128_of (h * 2 ^ 64 + l + (h' * 2 ^ 64 + l')))
sum_halves h l h' l' low high top carry a b el f eh et = λ i. record { high = upper i; low = (el ∙ sym (sum_low h l h' l')) i }
  where
    carried : h + h' + carry ≡ (h * 2 ^ 64 + l + (h' * 2 ^ 64 + l')) / 2 ^ 64
    carried = add_comm (h + h') carry ∙ ap (λ (x : ℕ). x + (h + h')) (carry_is l l' low carry a b el f) ∙ sym (sum_high h l h' l')

    upper : top ≡ (h * 2 ^ 64 + l + (h' * 2 ^ 64 + l')) / 2 ^ 64 % 2 ^ 64
    upper =
        et
        ∙ ap (λ (x : ℕ). (x + carry) % 2 ^ 64) eh
        ∙ mod-add-mod (h + h') (2 ^ 64) carry
        ∙ ap (λ (x : ℕ). x % 2 ^ 64) carried

-- ---- a product with a word

-- the product, by the products of the two words, of which the low one has a high word c that is carried
pub word_product : (h l k t c low : ℕ) → t ≡ h * k → c * 2 ^ 64 + low ≡ l * k → (h * 2 ^ 64 + l) * k ≡ (t + c) * 2 ^ 64 + low
word_product h l k t c low et ec = omega (arith, spread (2 ^ 64) k h l)

-- as an answer: it has 128 bits, or more
pub product_fits : (x low n : ℕ) → n ≡ x * 2 ^ 64 + low → x < 2 ^ 64 → low < 2 ^ 64 → Some (record { high = x; low = low }) ≡ product_of n
unfolding product_of
product_fits x low n e hx hl =
    ap Some (words_are x low hx hl ∙ ap u128_of (sym e))
    ∙ sym (simp (lt-ltb n (2 ^ 128) (subst (λ (m : ℕ). m < 2 ^ 128) (sym e) (halves_lt x low hx hl))))

pub product_past : (x low n : ℕ) → n ≡ x * 2 ^ 64 + low → 2 ^ 64 ≤ x → None ≡ product_of n
unfolding product_of
product_past x low n e hx = sym (simp (le-ltb n (2 ^ 128) (subst (λ (m : ℕ). 2 ^ 128 ≤ m) (sym e) past)))
  where
    past : 2 ^ 128 ≤ x * 2 ^ 64 + low
    past = le_trans (mul-le-mul_right {m = 2 ^ 64} {n = x} (2 ^ 64) hx) (le-add_right (x * 2 ^ 64) low)
