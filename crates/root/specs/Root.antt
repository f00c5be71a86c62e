-- The whole square root.
use Rattle.std.specs.Prelude.{cond, ℕ, zero, suc, ◌+◌, ◌*◌, ◌/◌, ◌≤◌, ◌<◌, leb}

-- r is the largest number whose square is at most n
pub record IsRoot (n r : ℕ) : Type 0 where
  pub square : r * r ≤ n
  pub next : n < (r + 1) * (r + 1)

-- the root by its binary digits, of which there are k: twice the root of a quarter, or one more
unfoldable pub root_at : ℕ → ℕ → ℕ
root_at zero n = 0
root_at (suc k) n = let r = 2 * root_at k (n / 4) in cond (leb ((r + 1) * (r + 1)) n) (r + 1) r

-- the root of a number of 128 bits
unfoldable pub root : ℕ → ℕ
root = root_at 64
