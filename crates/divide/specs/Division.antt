-- Quotients, rounded down and up, and remainders.
use Rattle.std.specs.Prelude.{ℕ, ◌+◌, ◌-◌, ◌/◌, ◌%◌}
use Rattle.divide.specs.declared.Divided.{Divided}
use Rattle.wide.specs.declared.U128.{U128}
use Rattle.wide.specs.Value.{u128_of}

-- the quotient rounded down, and the remainder
abbrev pub divided : ℕ → ℕ → Divided ℕ
divided n d = record { quotient = n / d; remainder = n % d }

-- the same, with a quotient of two halves
abbrev pub divided_wide : ℕ → ℕ → Divided U128
divided_wide n d = record { quotient = u128_of (n / d); remainder = n % d }

-- the quotient rounded up
abbrev pub ceil_div : ℕ → ℕ → ℕ
ceil_div n d = (n + (d - 1)) / d
