-- Of an amount in two parts the fees, rounded up, are together no less than the fee of the whole.
-- Assumes nothing.
use native.Mathlib.Omega.{arith}
use Rattle.math.proofs.Parts.{share_left_of_parts}
use Rattle.fees.specs.Fees.{million, fee_up, fee_down}
use Rattle.fees.specs.Parts.{FeesOfParts}

-- fee_down is opened too, so that fees rounded down are refused by numbers
pub fees_of_parts : FeesOfParts
unfolding fee_up fee_down
fees_of_parts = record {
  taken = λ a b rate. omega arith;
  left = λ a b rate. share_left_of_parts rate million (omega arith) a b;
}
