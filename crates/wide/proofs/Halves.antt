-- Products of 32-bit halves of words: the bound of one, and a product of two words as four of them, added up by columns.
use Rattle.std.proofs.Common.{◌≡◌, ℕ, ◌+◌, ◌-◌, ◌*◌, ◌/◌, ◌%◌, ◌^◌, ◌<◌, ◌≤◌, sym, refl, ap, ◌∙◌, add_assoc, mul_assoc, mul_comm, add-mul, mul-le-mul, add_comm, div-add-mod', mul-add, mul_left_comm, arith}
use native.Mathlib.Nat.{add_left_comm}

-- a product of two halves leaves room for two halves more
pub half_mul : {x y : ℕ} → x < 2 ^ 32 → y < 2 ^ 32 → x * y ≤ (2 ^ 32 - 1) * (2 ^ 32 - 1)
half_mul hx hy = mul-le-mul {n₂ = 2 ^ 32 - 1} {m₂ = 2 ^ 32 - 1} (omega arith) (omega arith)

-- a number of two digits in base K, times D
pub spread : (K D a b : ℕ) → (a * K + b) * D ≡ a * D * K + b * D
spread K D a b = simp (add-mul, mul_assoc, mul_comm, mul_left_comm)

four : (P a₁ a₀ b₁ b₀ : ℕ) → (a₁ * P + a₀) * (b₁ * P + b₀) ≡ (a₁ * b₁ * P + a₀ * b₁ + a₁ * b₀) * P + a₀ * b₀
four P a₁ a₀ b₁ b₀ = simp (mul-add, add-mul, mul_assoc, mul_comm, mul_left_comm, add_assoc, add_comm, add_left_comm) refl

-- a product by its four products of halves
pub halves : (a b : ℕ)
    → a * b ≡ (a / 2 ^ 32 * (b / 2 ^ 32) * 2 ^ 32 + a % 2 ^ 32 * (b / 2 ^ 32) + a / 2 ^ 32 * (b % 2 ^ 32)) * 2 ^ 32 + a % 2 ^ 32 * (b % 2 ^ 32)
halves a b =
    (λ i. sym (div-add-mod' a (2 ^ 32)) i * sym (div-add-mod' b (2 ^ 32)) i)
    ∙ four (2 ^ 32) (a / 2 ^ 32) (a % 2 ^ 32) (b / 2 ^ 32) (b % 2 ^ 32)

-- a word's low half, shifted to the high one
pub shl_half : (n : ℕ) → n * 2 ^ 32 % 2 ^ 64 ≡ n % 2 ^ 32 * 2 ^ 32
shl_half n = omega arith

-- the low half of that sum, added up by itself: the shifted halves are kept modulo a word
low_column : (p₀₀ p₀₁ p₁₀ lower cross low : ℕ)
    → lower ≡ p₀₁ + (p₁₀ + p₀₀ / 2 ^ 32) % 2 ^ 32 → cross ≡ (p₀₁ + p₁₀) % 2 ^ 64 → low ≡ (cross * 2 ^ 32 % 2 ^ 64 + p₀₀) % 2 ^ 64
    → low ≡ lower * 2 ^ 32 % 2 ^ 64 + p₀₀ % 2 ^ 32
low_column p₀₀ p₀₁ p₁₀ lower cross low el ec e =
    let halved : cross % 2 ^ 32 ≡ (p₀₁ + p₁₀) % 2 ^ 32 = omega arith in
    let same : lower % 2 ^ 32 ≡ ((p₀₁ + p₁₀) % 2 ^ 32 + p₀₀ / 2 ^ 32) % 2 ^ 32 =
    ap (λ (x : ℕ). x % 2 ^ 32) el ∙ inner p₀₁ p₁₀ (p₀₀ / 2 ^ 32) ∙ sym (outer p₀₁ p₁₀ (p₀₀ / 2 ^ 32)) in
    e
    ∙ ap (λ (x : ℕ). (x + p₀₀) % 2 ^ 64) (shl_half cross ∙ ap (λ (x : ℕ). x * 2 ^ 32) halved)
    ∙ carries ((p₀₁ + p₁₀) % 2 ^ 32) p₀₀
    ∙ ap (λ (x : ℕ). x + p₀₀ % 2 ^ 32) (ap (λ (x : ℕ). x * 2 ^ 32) (sym same) ∙ sym (shl_half lower))
  where
    carries : (x p : ℕ) → (x * 2 ^ 32 + p) % 2 ^ 64 ≡ (x + p / 2 ^ 32) % 2 ^ 32 * 2 ^ 32 + p % 2 ^ 32
    carries x p = omega arith

    inner : (x y z : ℕ) → (x + (y + z) % 2 ^ 32) % 2 ^ 32 ≡ (x + y + z) % 2 ^ 32
    inner x y z = omega arith

    outer : (x y z : ℕ) → ((x + y) % 2 ^ 32 + z) % 2 ^ 32 ≡ (x + y + z) % 2 ^ 32
    outer x y z = omega arith

regroup : (P x y z : ℕ) → x * (P * P) + (y * P + z) ≡ (x * P + y) * P + z
regroup P x y z = simp (add-mul, mul_assoc, mul_comm, mul_left_comm, add_assoc, add_comm, add_left_comm) refl

-- the sum of the four products, column by column with carries
carried_columns : (p₀₀ p₀₁ p₁₀ p₁₁ middle lower : ℕ)
    → middle ≡ p₁₀ + p₀₀ / 2 ^ 32 → lower ≡ p₀₁ + middle % 2 ^ 32
    → (p₁₁ + middle / 2 ^ 32 + lower / 2 ^ 32) * 2 ^ 64 + (lower * 2 ^ 32 % 2 ^ 64 + p₀₀ % 2 ^ 32) ≡ (p₁₁ * 2 ^ 32 + p₀₁ + p₁₀) * 2 ^ 32 + p₀₀
carried_columns p₀₀ p₀₁ p₁₀ p₁₁ middle lower em el =
    let upper : (p₁₁ + middle / 2 ^ 32 + lower / 2 ^ 32) * 2 ^ 32 + lower % 2 ^ 32 ≡ p₁₁ * 2 ^ 32 + p₀₁ + p₁₀ + p₀₀ / 2 ^ 32 = omega arith in
    ap (λ (x : ℕ). (p₁₁ + middle / 2 ^ 32 + lower / 2 ^ 32) * 2 ^ 64 + (x + p₀₀ % 2 ^ 32)) (shl_half lower)
    ∙ regroup (2 ^ 32) (p₁₁ + middle / 2 ^ 32 + lower / 2 ^ 32) (lower % 2 ^ 32) (p₀₀ % 2 ^ 32)
    ∙ ap (λ (x : ℕ). x * 2 ^ 32 + p₀₀ % 2 ^ 32) upper
    ∙ last (p₁₁ * 2 ^ 32 + p₀₁ + p₁₀) p₀₀
  where
    last : (x p : ℕ) → (x + p / 2 ^ 32) * 2 ^ 32 + p % 2 ^ 32 ≡ x * 2 ^ 32 + p
    last x p = omega arith

-- both halves of the sum
pub columns : (p₀₀ p₀₁ p₁₀ p₁₁ lower cross low : ℕ)
    → lower ≡ p₀₁ + (p₁₀ + p₀₀ / 2 ^ 32) % 2 ^ 32 → cross ≡ (p₀₁ + p₁₀) % 2 ^ 64 → low ≡ (cross * 2 ^ 32 % 2 ^ 64 + p₀₀) % 2 ^ 64
    → (p₁₁ + (p₁₀ + p₀₀ / 2 ^ 32) / 2 ^ 32 + lower / 2 ^ 32) * 2 ^ 64 + low ≡ (p₁₁ * 2 ^ 32 + p₀₁ + p₁₀) * 2 ^ 32 + p₀₀
columns p₀₀ p₀₁ p₁₀ p₁₁ lower cross low el ec e =
    ap (λ (x : ℕ). (p₁₁ + (p₁₀ + p₀₀ / 2 ^ 32) / 2 ^ 32 + lower / 2 ^ 32) * 2 ^ 64 + x) (low_column p₀₀ p₀₁ p₁₀ lower cross low el ec e)
    ∙ carried_columns p₀₀ p₀₁ p₁₀ p₁₁ _ lower refl el
