-- What a function called alone answers: each case's number and value.
use Rattle.std.specs.Prelude.{Result, Ok, Err, ℕ}
use Rattle.math.specs.declared.ratio.NoQuotient.TheVariants.{Past, NoDivisor}
use Rattle.math.specs.Ratio.{Quotient}

-- an amount, or the number that refuses
abbrev pub Answer : Type 0
Answer = Result ℕ ℕ

-- a quotient: `none` refuses where there is no divisor, `over` where the result is past u64
abbrev pub answer_of : {E : Type 0} → E → E → Quotient → Result ℕ E
answer_of none over (Ok q) = Ok q
answer_of none over (Err Past) = Err over
answer_of none over (Err NoDivisor) = Err none
