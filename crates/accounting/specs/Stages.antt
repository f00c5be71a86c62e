-- What the private steps of this crate answer. No public definition rests on these.
use Rattle.std.specs.Prelude.{Result, Ok, Err, ℕ, ◌+◌, ◌-◌, cond, ltb}
use Rattle.refusal.specs.Refusal.{math_overflow, insufficient_vault, panicked}
use Rattle.refusal.specs.Tests.{past}

-- a token's counters together
abbrev pub counters_answer : ℕ → Result ℕ ℕ
counters_answer sum = cond (past sum) (Err math_overflow) (Ok sum)

-- a token's net
abbrev pub net_answer : ℕ → ℕ → Result ℕ ℕ
net_answer vault counters = cond (ltb vault counters) (Err insufficient_vault) (Ok (vault - counters))

-- a counter with a fee added
abbrev pub added : ℕ → ℕ → Result ℕ ℕ
added counter fee = cond (past (counter + fee)) (Err panicked) (Ok (counter + fee))
