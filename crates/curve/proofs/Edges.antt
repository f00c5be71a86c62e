-- Document 01's edges that speak of the curve alone, and examples of document 02 (d), by computation.
-- Assumes nothing.
use mathlib.Core.Path.{◌≡◌, refl}
use Rattle.refusal.specs.Tests.{outcome}
use Rattle.std.specs.Prelude.{Ok, Err}
use Rattle.curve.specs.declared.constant_product.RoundDirection.TheVariants.{Floor, Ceiling}
use Rattle.curve.specs.ConstantProduct.{swap_out, swap_in, lp_amount, swap_base_input_without_fees, swap_base_output_without_fees, lp_divided, lp_part}

-- 10,000 in leaves 9,975 after fees, which the curve answers with 39,505
pub curve_by_input : swap_base_input_without_fees 9975 1000000 4000000 ≡ Ok 39505
unfolding swap_base_input_without_fees swap_out outcome
curve_by_input = refl

-- 39,505 out asks 9,975
pub curve_by_output : swap_base_output_without_fees 39505 1000000 4000000 ≡ Ok 9975
unfolding swap_base_output_without_fees swap_in outcome
curve_by_output = refl

-- all of the net is 11
pub all_of_it : swap_base_output_without_fees 4000000 1000000 4000000 ≡ Err 11
unfolding swap_base_output_without_fees swap_in outcome
all_of_it = refl

-- LP 1 of 2,000,000 is worth no token 0, rounded up too; 3 asks 2, and gives 1
pub worth_nothing : lp_part Ceiling 1 2000000 1000000 ≡ Ok 0
unfolding lp_part lp_amount outcome
worth_nothing = refl

pub asks_two : lp_part Ceiling 3 2000000 1000000 ≡ Ok 2
unfolding lp_part lp_amount outcome
asks_two = refl

pub gives_one : lp_part Floor 3 2000000 1000000 ≡ Ok 1
unfolding lp_part lp_amount outcome
gives_one = refl

-- 3 LP of 2,000,000 in a net of 1,000,000: quotient 1, and 1,000,000 is left
pub divides_three : lp_divided 3 1000000 2000000 ≡ Ok (record { quotient = record { high = 0; low = 1 }; remainder = 1000000 })
unfolding lp_divided outcome
divides_three = refl

-- by a supply of 1 the quotient is the whole product, here (2^64 − 1)²; a supply of 0 is none
pub divides_by_one :
    lp_divided 18446744073709551615 18446744073709551615 1
    ≡ Ok (record { quotient = record { high = 18446744073709551614; low = 1 }; remainder = 0 })
unfolding lp_divided outcome
divides_by_one = refl

pub divides_by_none : lp_divided 3 1000000 0 ≡ Err 4
unfolding lp_divided outcome
divides_by_none = refl
