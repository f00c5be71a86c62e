-- What the private steps of this crate answer. No public definition rests on these.
use Rattle.std.specs.Prelude.{Option, Some, None, ℕ, ◌+◌, ◌*◌, ◌-◌, cond}
use Rattle.refusal.specs.Tests.{past}
use Rattle.columns.specs.Column.{is_digit}

-- a number with one digit more
unfoldable pub with_digit : ℕ → ℕ → Option ℕ
with_digit value byte = cond (is_digit byte) (cond (past (value * 10 + (byte - 48))) None (Some (value * 10 + (byte - 48)))) None
