-- Newton's iteration for a square root: a guess is never too low, and falls until it is not too high.
use mathlib.Core.Path.{◌≡◌, refl, sym, ap, ◌∙◌, subst}
use mathlib.Core.Logic.{⊎_elim}
use Prim.Native.Nat.{ℕ, zero, suc, ◌+◌, ◌-◌, ◌*◌, ◌/◌, ◌%◌, ◌^◌, ◌≤◌, ◌<◌}
use native.Mathlib.Nat.{add_assoc, mul_assoc, mul_comm, mul_left_comm, mul-add, add-mul, mul-le-mul, mul-le-mul_left, le_trans, le_of_eq}
use native.Mathlib.Nat.{le-add_right, lt_of_lt_of_le, le-div_iff_mul-le, lt-div-mul-add, one-mul, mod-eq_of_lt}
use native.Mathlib.Omega.{arith}
use lib.Pow.{pow_pos, pow-add, pow_mono, pow-lt}
use lib.Count.{count_leading_zeros, leading_length}
use Rattle.root.specs.Root.{IsRoot}
use Rattle.math.proofs.Rounding.{lt_or_le}

-- two numbers with the sum m + m have at most the product m * m
square : (a e : ℕ) → a * (a + e + e) + e * e ≡ (a + e) * (a + e)
square a e = simp (mul-add, add-mul, mul_comm, add_assoc)

below : (a b m : ℕ) → a ≤ m → a + b ≤ m + m → a * b ≤ m * m
below a b m h s =
    let e : ℕ = m - a in
    let em : a + e ≡ m = omega arith in
    le_trans (mul-le-mul_left {m = b} {n = a + e + e} a (omega arith))
    (le_trans (le-add_right (a * (a + e + e)) (e * e)) (le_of_eq (square a e ∙ (λ i. em i * em i))))

mean : (a b m : ℕ) → a + b ≤ m + m → a * b ≤ m * m
mean a b m s = ⊎_elim (λ h. below a b m (omega arith) s) (λ h. le_trans (le_of_eq (mul_comm a b)) (below b a m (omega arith) (omega arith))) (lt_or_le a m)

-- the guess after a step is not too low
step_high : (n r : ℕ) → 0 < r → n < ((r + n / r) / 2 + 1) * ((r + n / r) / 2 + 1)
step_high n r h =
    lt_of_lt_of_le (lt-div-mul-add h)
    (le_trans (le_of_eq (ap (λ (x : ℕ). n / r * r + x) (sym (one-mul r)) ∙ sym (add-mul (n / r) 1 r)))
    (mean (n / r + 1) r ((r + n / r) / 2 + 1) (half_le (n / r) r)))
  where
    half_le : (q r : ℕ) → q + 1 + r ≤ (r + q) / 2 + 1 + ((r + q) / 2 + 1)
    half_le q r = omega arith

-- a guess that is at most the quotient by it is not too high
pub low_of_le : (n r : ℕ) → 0 < r → r ≤ n / r → r * r ≤ n
low_of_le n r h p = (le-div_iff_mul-le {k = r} {x = r} {y = n} h).0 p

-- a guess that is not too low is not 0
guess_pos : (n r : ℕ) → 0 < n → n < (r + 1) * (r + 1) → 0 < r
guess_pos n zero h p = absurd (bad n h p)
  where
    bad : (n : ℕ) → 0 < n → n < 1 → ⊥
    bad n h p = omega arith
guess_pos n (suc r) h p = omega arith

-- the first guess for a word: 2 ^ s, for s half of its length, rounded up
square_more : (n r : ℕ) → n < r * r → n < (r + 1) * (r + 1)
square_more n r h = lt_of_lt_of_le h (mul-le-mul (le-add_right r 1) (le-add_right r 1))

pub record First (x z : ℕ) : Type 0 where
  pub short : (65 - z) / 2 ≤ 32
  pub above : x < 2 ^ ((65 - z) / 2) * 2 ^ ((65 - z) / 2)

pub first : (x : ℕ) → x < 2 ^ 64 → First x (count_leading_zeros 64 x)
first x h =
    let z : ℕ = count_leading_zeros 64 x in
    let l = leading_length 64 x h in
    let e : z + l.0 ≡ 64 = l.1 in
    record {
      short = omega arith;
      above = lt_of_lt_of_le l.2 (le_trans (pow_mono (omega arith)) (le_of_eq (pow-add 2 ((65 - z) / 2) ((65 - z) / 2))));
    }

-- `1 << s` is 2 ^ s
pub one_shl : (s : ℕ) → s < 64 → 1 * 2 ^ s % 2 ^ 64 ≡ 2 ^ s
one_shl s h = mod-eq_of_lt (subst (λ (x : ℕ). x < 2 ^ 64) (sym (one-mul (2 ^ s))) (pow-lt h)) ∙ one-mul (2 ^ s)

-- a guess for the root of a word, and the quotient by it
pub record Guess (x r q : ℕ) : Type 0 where
  pub above : x < (r + 1) * (r + 1)
  pub quotient : q ≡ x / r
  pub short : r ≤ 2 ^ 32
  pub pos : 0 < r

pub first_guess : (x : ℕ) → x < 2 ^ 64 → 0 < x → (r : ℕ) → r ≡ 2 ^ ((65 - count_leading_zeros 64 x) / 2) → Guess x r (x / r)
first_guess x h p r e =
    let f = first x h in
    subst (λ (r : ℕ). Guess x r (x / r)) (sym e) (record { above = square_more x _ f.above; quotient = refl; short = pow_mono f.short; pos = pow_pos _ })

pub next_guess : (x r q : ℕ) → 0 < x → Guess x r q → q < r → Guess x ((r + q) / 2) (x / ((r + q) / 2))
next_guess x r q p g h =
    let above : x < ((r + q) / 2 + 1) * ((r + q) / 2 + 1) = subst (λ (y : ℕ). x < ((r + y) / 2 + 1) * ((r + y) / 2 + 1)) (sym g.quotient) (step_high x r g.pos) in
    record { above = above; quotient = refl; short = omega (arith, g.short); pos = guess_pos x ((r + q) / 2) p above }

pub last_guess : (x r q : ℕ) → Guess x r q → r ≤ q → IsRoot x r
last_guess x r q g h = record { square = low_of_le x r g.pos (subst (λ (y : ℕ). r ≤ y) g.quotient h); next = g.above }

-- ---- 128 bits

scaled : (P a : ℕ) → a * P * (a * P) ≡ a * a * (P * P)
scaled P a = simp (mul_assoc, mul_comm, mul_left_comm)

-- the first guess: the root of the high word, raised
pub raised_guess : (high low s : ℕ) → low < 2 ^ 64 → high < (s + 1) * (s + 1)
    → high * 2 ^ 64 + low < (s * 2 ^ 32 + (2 ^ 32 - 1) + 1) * (s * 2 ^ 32 + (2 ^ 32 - 1) + 1)
raised_guess high low s hl h =
    subst (λ (x : ℕ). high * 2 ^ 64 + low < x) (sym ((λ i. next s i * next s i) ∙ scaled (2 ^ 32) (s + 1)))
    (below_square ((s + 1) * (s + 1)) h)
  where
    next : (s : ℕ) → s * 2 ^ 32 + (2 ^ 32 - 1) + 1 ≡ (s + 1) * 2 ^ 32
    next s = omega arith

    below_square : (y : ℕ) → high < y → high * 2 ^ 64 + low < y * 2 ^ 64
    below_square y h = omega arith

half_way : (r q : ℕ) → q < r → q + (r - q) / 2 ≡ (r + q) / 2
half_way r q h = omega arith

-- the step, as it is taken where the sum of guess and quotient may pass a word
pub step_wide : (n r q : ℕ) → 0 < r → q ≡ n / r → q < r → n < (q + (r - q) / 2 + 1) * (q + (r - q) / 2 + 1)
step_wide n r q p e h =
    subst (λ (x : ℕ). n < (x + 1) * (x + 1)) (sym (half_way r q h))
    (subst (λ (y : ℕ). n < ((r + y) / 2 + 1) * ((r + y) / 2 + 1)) (sym e) (step_high n r p))

-- a guess that is at most the high word is not too high
pub low_of_high : (high low r : ℕ) → high < 2 ^ 64 → r ≤ high → r * r ≤ high * 2 ^ 64 + low
low_of_high high low r h p = le_trans (mul-le-mul {n₁ = r} {m₁ = r} {n₂ = high} {m₂ = 2 ^ 64} p (omega arith)) (le-add_right (high * 2 ^ 64) low)
