-- One of the three bits, taken off at its place and put there: the sums and differences stay within u64.
-- Assumes nothing.
use mathlib.Core.Path.{◌≡◌, refl}
use Prim.Native.Nat.{ℕ, zero, suc, ◌+◌, ◌-◌, ◌*◌, ◌/◌, ◌%◌, ◌^◌, ◌≤◌, ◌<◌}
use native.Mathlib.Omega.{arith}

-- what holds at each of the three places
three : (P : ℕ → Type 0) → P 0 → P 1 → P 2 → (b : ℕ) → b ≤ 2 → P b
three P p0 p1 p2 zero h = p0
three P p0 p1 p2 (suc zero) h = p1
three P p0 p1 p2 (suc (suc zero)) h = p2
three P p0 p1 p2 (suc (suc (suc b))) h = absurd (omega arith)

-- the place of a bit, as the code finds it
abbrev pub place : ℕ → ℕ
place b = 1 * 2 ^ b % 2 ^ 64

module _ (status : ℕ) where
  pub bit_within : (b : ℕ) → b ≤ 2 → status / 2 ^ b % 2 * place b ≤ status
  bit_within = three (λ b. status / 2 ^ b % 2 * place b ≤ status) (omega arith) (omega arith) (omega arith)

  module _ (flag : ℕ) (f : flag ≤ 1) where
    pub flag_fits : (b : ℕ) → b ≤ 2 → flag * place b < 2 ^ 64
    flag_fits = three (λ b. flag * place b < 2 ^ 64) (omega arith) (omega arith) (omega arith)

    pub set_fits : status < 2 ^ 64 → (b : ℕ) → b ≤ 2 → status - status / 2 ^ b % 2 * place b + flag * place b < 2 ^ 64
    set_fits s = three (λ b. status - status / 2 ^ b % 2 * place b + flag * place b < 2 ^ 64) (omega arith) (omega arith) (omega arith)

    pub set_is :
        (b : ℕ) → b ≤ 2
        → status - status / 2 ^ b % 2 * place b + flag * place b ≡ status - status / 2 ^ b % 2 * 2 ^ b + flag * 2 ^ b
    set_is =
        three
        (λ b. status - status / 2 ^ b % 2 * place b + flag * place b ≡ status - status / 2 ^ b % 2 * 2 ^ b + flag * 2 ^ b)
        refl refl refl
