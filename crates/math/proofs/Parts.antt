-- Functions that give for two parts together at most what they give for the whole: they never fall, and what a share rounded up leaves of an amount
-- is one.
use mathlib.Core.Path.{◌≡◌}
use mathlib.Core.Logic.{⊎_elim}
use Prim.Native.Nat.{ℕ, ◌+◌, ◌-◌, ◌*◌, ◌≤◌, ◌<◌}
use native.Mathlib.Nat.{le-add_right, le_trans}
use native.Mathlib.Omega.{arith}
use Rattle.divide.specs.Division.{ceil_div}
use Rattle.math.proofs.Rounding.{lt_or_le, share_ceil_le, share_ceil_ge, share_ceil_sum}

abbrev pub Superadditive : (ℕ → ℕ) → Type 0
Superadditive f = (a b : ℕ) → f a + f b ≤ f (a + b)

pub never_falls : (f : ℕ → ℕ) → Superadditive f → (a b : ℕ) → a ≤ b → f a ≤ f b
never_falls f h a b l =
    let e : a + (b - a) ≡ b = omega arith in
    le_trans (le-add_right (f a) (f (b - a))) (rw e at (h a (b - a)))

-- a part, and n in place of the other, where n is at most what that one gives
pub part_and_rest : (f : ℕ → ℕ) → Superadditive f → (a b c n : ℕ) → a + b ≤ c → n ≤ f b → f a + n ≤ f c
part_and_rest f h a b c n l k = omega (arith, h a b, never_falls f h (a + b) c l)

-- what is left, where no more is taken than there is, and of two parts together no less than of the whole
pub left_of_parts : (f : ℕ → ℕ) → ((a b : ℕ) → f (a + b) ≤ f a + f b) → ((a : ℕ) → f a ≤ a) → Superadditive (λ n. n - f n)
left_of_parts f h within a b = omega (arith, h a b, within a, within b)

-- what a share rounded up leaves, at every rate: from the whole on it takes all
pub share_left_of_parts : (rate whole : ℕ) → 0 < whole → Superadditive (λ a. a - ceil_div (a * rate) whole)
share_left_of_parts rate whole p a b =
    ⊎_elim
    (λ (l : rate < whole). left_of_parts (λ n. ceil_div (n * rate) whole) (λ n m. share_ceil_sum n m rate whole) (λ n. share_ceil_le n rate whole (omega arith)) a b)
    (λ (l : whole ≤ rate). omega (arith, share_ceil_ge a rate whole p l, share_ceil_ge b rate whole p l))
    (lt_or_le rate whole)
