-- What the steps of this crate answer. No definition of document 01's rests on these.
use Rattle.std.specs.Prelude.{ℕ, ◌+◌, cond, ◌||◌, eqb}
use Rattle.curve.specs.declared.constant_product.RoundDirection.{RoundDirection}
use Rattle.curve.specs.declared.constant_product.RoundDirection.TheVariants.{Floor, Ceiling}

-- a quotient and its remainder, rounded: one more where there is a remainder and the quotient is not 0
unfoldable pub rounded : RoundDirection → ℕ → ℕ → ℕ
rounded Floor quotient remainder = quotient
rounded Ceiling quotient remainder = cond (eqb remainder 0 || eqb quotient 0) quotient (quotient + 1)
