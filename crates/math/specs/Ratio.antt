-- Quotients as answers: the value where it fits a u64, `Past` where it does not, `NoDivisor` where the divisor is 0.
use Rattle.std.specs.Prelude.{Result, Ok, Err, cond, ℕ, ◌/◌, ◌^◌, ltb, eqb}
use Rattle.divide.specs.declared.Divided.{Divided}
use Rattle.divide.specs.Division.{divided, ceil_div}
use Rattle.math.specs.declared.ratio.NoQuotient.{NoQuotient}
use Rattle.math.specs.declared.ratio.NoQuotient.TheVariants.{Past, NoDivisor}

abbrev pub Quotient : Type 0
Quotient = Result ℕ NoQuotient

-- the same with the remainder
abbrev pub Parts : Type 0
Parts = Result (Divided ℕ) NoQuotient

-- a number that fits a u64, or is past 2 ^ 64 - 1
unfoldable pub fit : ℕ → Quotient
fit n = cond (ltb n (2 ^ 64)) (Ok n) (Err Past)

-- n / d, rounded down
unfoldable pub floor_of : ℕ → ℕ → Quotient
floor_of n d = cond (eqb d 0) (Err NoDivisor) (fit (n / d))

-- n / d, rounded up
unfoldable pub ceil_of : ℕ → ℕ → Quotient
ceil_of n d = cond (eqb d 0) (Err NoDivisor) (fit (ceil_div n d))

-- n / d, rounded down, with the remainder
unfoldable pub parts_of : ℕ → ℕ → Parts
parts_of n d = cond (eqb d 0) (Err NoDivisor) (cond (ltb (n / d) (2 ^ 64)) (Ok (divided n d)) (Err Past))
