-- Numbers of 128 bits as two u64 halves.
use Rattle.std.specs.Prelude.{Option, Some, None, ℕ, ◌+◌, ◌*◌, ◌/◌, ◌%◌, ◌^◌, cond, nat_lt}
use Rattle.wide.specs.declared.U128.{U128}

-- the number that two halves stand for
abbrev pub value : U128 → ℕ
value n = n.high * 2 ^ 64 + n.low

-- the halves of a number modulo 2 ^ 128
abbrev pub u128_of : ℕ → U128
u128_of n = record { high = n / 2 ^ 64 % 2 ^ 64; low = n % 2 ^ 64 }

-- a product as an answer: its halves, or none where it is past 2 ^ 128 - 1
unfoldable pub product_of : ℕ → Option U128
product_of n = cond (nat_lt n (2 ^ 128)) (Some (u128_of n)) None
