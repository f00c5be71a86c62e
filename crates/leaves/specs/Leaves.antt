-- The arithmetic's answers as one number each: 0 where there is no quotient of 64 bits.
use Rattle.std.specs.Prelude.{Ok, Err, ℕ, ◌*◌, ◌/◌, ◌%◌, ◌^◌, cond, eqb}
use Rattle.math.specs.Ratio.{Quotient}

unfoldable pub or_zero : Quotient → ℕ
or_zero (Ok n) = n
or_zero (Err e) = 0

-- a price's low half; 0 where there is none
unfoldable pub price_low : ℕ → ℕ → ℕ
price_low a b = cond (eqb b 0) 0 (a * 2 ^ 32 / b % 2 ^ 64)
