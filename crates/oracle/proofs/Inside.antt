-- Inside the ring the length is at most 100, and the index and the next index are below the length.
-- Assumes nothing.
use Prim.Native.Nat.{ℕ, ◌+◌, ◌-◌, ◌≤◌, ◌<◌}
use mathlib.Core.Path.{◌≡◌, refl}
use mathlib.Core.Bool.{Bool, true, false, cond}
use native.Mathlib.Omega.{arith}
use lib.Dec.{eqb}
use borrow.Author.Tests.{ltb-false, leb-false, eqb-false, le-ltb, lt-leb}
use Rattle.refusal.proofs.Stops.{neither}
use Rattle.oracle.specs.declared.Ring.{Ring}
use Rattle.oracle.specs.Ring.{observation_num, outside, next_index, head}

module _ (ring : Ring) where
  pub inside_means : outside ring ≡ false → (ring.grid.length ≤ observation_num) × (ring.index < ring.grid.length)
  inside_means h = let n = neither _ _ h in (ltb-false _ _ n.0, leb-false _ _ n.1)

  pub means_inside : ring.grid.length ≤ observation_num → ring.index < ring.grid.length → outside ring ≡ false
  means_inside l i = simp (le-ltb observation_num ring.grid.length l, lt-leb ring.grid.length ring.index i)

  -- there is an entry at the index
  pub entry_inside : outside ring ≡ false → ring.index < observation_num
  entry_inside h = let i = inside_means h in omega (arith, i.0, i.1)

next_below : (length i : ℕ) → i < length → cond (eqb i (length - 1)) 0 (i + 1) < length
next_below length i h = go (eqb i (length - 1)) refl
  where
    go : (b : Bool) → eqb i (length - 1) ≡ b → cond b 0 (i + 1) < length
    go true e = omega arith
    go false e = let z = eqb-false i (length - 1) e in omega arith

pub next_inside : (ring : Ring) (mark : ℕ) → outside ring ≡ false → outside (head ring.grid (next_index ring.grid ring.index) mark) ≡ false
next_inside ring mark h =
    let i = inside_means ring h in
    means_inside (head ring.grid (next_index ring.grid ring.index) mark) i.0 (next_below ring.grid.length ring.index i.1)
