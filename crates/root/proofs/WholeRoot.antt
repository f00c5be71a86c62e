-- The whole root of a number of 128 bits: `root` is one, it is the only one, and it fits a u64.
use mathlib.Core.Bool.{Bool, true, false, cond}
use mathlib.Core.Path.{◌≡◌, refl, sym, subst}
use mathlib.Core.Logic.{⊎_elim}
use Prim.Native.Nat.{ℕ, zero, suc, ◌+◌, ◌*◌, ◌/◌, ◌^◌, ◌≤◌, ◌<◌}
use native.Mathlib.Nat.{pow-suc, mul-le-mul, le_antisymm, le_trans, not-le_of_lt, div-lt_iff_lt-mul}
use native.Mathlib.Omega.{arith}
use lib.Dec.{leb}
use borrow.Author.Tests.{leb-true, leb-false}
use Rattle.root.specs.Root.{IsRoot, root_at, root}
use Rattle.math.proofs.Rounding.{lt_or_le}

-- the root's square is at most the number, of any size
square_at : (k n : ℕ) → root_at k n * root_at k n ≤ n
unfolding root_at
square_at zero n = omega arith
square_at (suc k) n = at (root_at k (n / 4)) (square_at k (n / 4)) (leb ((2 * root_at k (n / 4) + 1) * (2 * root_at k (n / 4) + 1)) n) refl
  where
    at : (r : ℕ) → r * r ≤ n / 4 → (b : Bool) → leb ((2 * r + 1) * (2 * r + 1)) n ≡ b → cond b (2 * r + 1) (2 * r) * cond b (2 * r + 1) (2 * r) ≤ n
    at r h true e = leb-true _ _ e
    at r h false e = omega arith

pub root_square : (n : ℕ) → root n * root n ≤ n
unfolding root
root_square n = square_at 64 n

-- one digit more: from the root of a quarter to the root
digit_more : (n r : ℕ) → IsRoot (n / 4) r → let q = 2 * r in IsRoot n (cond (leb ((q + 1) * (q + 1)) n) (q + 1) q)
digit_more n r w = at (leb ((2 * r + 1) * (2 * r + 1)) n) refl
  where
    at : (b : Bool) → leb ((2 * r + 1) * (2 * r + 1)) n ≡ b → IsRoot n (cond b (2 * r + 1) (2 * r))
    at true e = record { square = leb-true _ _ e; next = omega (arith, w.next) }
    at false e = record { square = omega (arith, w.square); next = leb-false _ _ e }

root_at_lem : (k n : ℕ) → n < 4 ^ k → IsRoot n (root_at k n)
unfolding root_at
root_at_lem zero n h = record { square = omega arith; next = h }
root_at_lem (suc k) n h = digit_more n (root_at k (n / 4)) (root_at_lem k (n / 4) ((div-lt_iff_lt-mul {k = 4} {x = n} {y = 4 ^ k} (omega arith)).1 (rw (← (pow-suc 4 k)) h)))

pub root_is : (n : ℕ) → n < 2 ^ 128 → IsRoot n (root n)
unfolding root
root_is n h = root_at_lem 64 n h

-- a root is at most any number whose next square is past n
root_le : (n r s : ℕ) → IsRoot n r → IsRoot n s → r ≤ s
root_le n r s w v = ⊎_elim (λ p. absurd (never (mul-le-mul p p))) (λ p. p) (lt_or_le s r)
  where
    never : suc s * suc s ≤ r * r → ⊥
    never p = omega (arith, w.square, v.next)

pub root_unique : (n r s : ℕ) → IsRoot n r → IsRoot n s → r ≡ s
root_unique n r s w v = le_antisymm (root_le n r s w v) (root_le n s r v w)

pub is_the_root : (n r : ℕ) → n < 2 ^ 128 → IsRoot n r → r ≡ root n
is_the_root n r h w = root_unique n r (root n) w (root_is n h)

-- a root has half of its number's bits
pub root_short : (k n r : ℕ) → n < 2 ^ k * 2 ^ k → IsRoot n r → r < 2 ^ k
root_short k n r h w = ⊎_elim (λ p. p) (λ p. absurd (not-le_of_lt h (le_trans (mul-le-mul {n₁ = 2 ^ k} {m₁ = 2 ^ k} p p) w.square))) (lt_or_le r (2 ^ k))

pub root_fits : (n : ℕ) → n < 2 ^ 128 → root n < 2 ^ 64
root_fits n h = root_short 64 n (root n) h (root_is n h)

-- what is the root is a root
pub of_root : (n r : ℕ) → n < 2 ^ 128 → r ≡ root n → IsRoot n r
of_root n r h e = subst (λ (x : ℕ). IsRoot n x) (sym e) (root_is n h)
