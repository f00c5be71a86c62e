-- A split on plain numbers.
-- Assumes nothing.
use mathlib.Core.Bool.{Bool, true, false, cond}
use Prim.Native.Nat.{ℕ, ◌+◌, ◌*◌, ◌/◌, ◌≤◌}
use native.Mathlib.Omega.{arith}
use lib.Dec.{eqb}
use Rattle.math.proofs.Rounding.{share_floor_le}
use Rattle.fees.specs.Fees.{split}

-- it is at most the total
pub split_le : (total trade creator : ℕ) → split total trade creator ≤ total
unfolding split
split_le total trade creator = go (eqb (trade + creator) 0)
  where
    go : (b : Bool) → cond b 0 (total * creator / (trade + creator)) ≤ total
    go true = omega arith
    go false = share_floor_le total creator (trade + creator) (omega arith)
