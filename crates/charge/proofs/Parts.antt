-- Document 02 (h) with charges: of an amount in two parts the charges are together no less than the charge on the whole, so that no more arrives.
-- Assumes nothing.
use mathlib.Core.Logic.{⊎_elim}
use Prim.Native.Nat.{ℕ, ◌+◌, ◌≤◌, ◌<◌}
use native.Mathlib.Omega.{arith}
use Rattle.math.proofs.Rounding.{lt_or_le, share_ceil_sum}
use Rattle.math.proofs.Parts.{Superadditive, left_of_parts}
use Rattle.charge.specs.declared.Charge.{Charge}
use Rattle.charge.specs.Charge.{ten_thousand, charge_on, rest_of}
use Rattle.charge.proofs.Rest.{charge_le, low_charge, high_charge}

charge_of_parts : (c : Charge) (a b : ℕ) → charge_on c (a + b) ≤ charge_on c a + charge_on c b
charge_of_parts c a b = ⊎_elim below above (lt_or_le c.points ten_thousand)
  where
    below : c.points < ten_thousand → charge_on c (a + b) ≤ charge_on c a + charge_on c b
    below low = rw (low_charge c low (a + b), low_charge c low a, low_charge c low b) (omega (arith, share_ceil_sum a b c.points ten_thousand))

    above : ten_thousand ≤ c.points → charge_on c (a + b) ≤ charge_on c a + charge_on c b
    above high = rw (high_charge c high (a + b), high_charge c high a, high_charge c high b) (omega arith)

pub rest_of_parts : (c : Charge) → Superadditive (rest_of c)
unfolding rest_of
rest_of_parts c = left_of_parts (charge_on c) (charge_of_parts c) (charge_le c)
