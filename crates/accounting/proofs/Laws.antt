-- What the tests on counters leave known.
-- Assumes nothing.
use mathlib.Core.Path.{◌≡◌, refl}
use Prim.Native.Nat.{◌≤◌}
use native.Mathlib.Omega.{arith}
use Rattle.refusal.specs.Tests.{first}
use Rattle.refusal.proofs.Stops.{facts, first_passed}
use Rattle.accounting.specs.declared.Books.{Books}
use Rattle.accounting.specs.Counters.{counters0, counters1, counter_tests}

-- the counters are within the vaults, so each net is a true difference
pub record Covered (b : Books) : Type 0 where
  pub covered0 : counters0 b.fees ≤ b.vault0
  pub covered1 : counters1 b.fees ≤ b.vault1

pub covered : (b : Books) → 0 ≡ first (counter_tests b) → Covered b
unfolding counter_tests
covered b e = let h = first_passed _ refl e in record { covered0 = omega (arith, facts, h); covered1 = omega (arith, facts, h) }
