-- Document 01's edges that speak of the fees alone, with document 02 (a), by computation.
-- Assumes nothing.
use mathlib.Core.Path.{◌≡◌, refl}
use Rattle.refusal.specs.Tests.{outcome}
use Rattle.std.specs.Prelude.{Ok}
use Rattle.fees.specs.Fees.{fee_up, pre_fee, ceil_fee, trading_fee, calculate_pre_fee_amount, split_creator_fee, split}

-- fee on 2 is 1
pub fee_on_two : trading_fee 2 2500 ≡ Ok 1
unfolding ceil_fee fee_up outcome
fee_on_two = refl

-- 9,975 after the fee is 10,000 with it
pub before_the_fee : calculate_pre_fee_amount 9975 2500 ≡ Ok 10000
unfolding calculate_pre_fee_amount pre_fee outcome
before_the_fee = refl

-- a split over a rate sum of 0 gives 0 (02 (a))
pub split_over_none : split_creator_fee 25 0 0 ≡ Ok 0
unfolding split_creator_fee split outcome
split_over_none = refl
