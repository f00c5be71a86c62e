-- Document 02 (h), 'Slicing gains nothing', the curve's part of it: two inputs in turn give together no more than both at once.
use Rattle.std.specs.Prelude.{ℕ, ◌+◌, ◌-◌, ◌≤◌}
use Rattle.curve.specs.ConstantProduct.{swap_out}

-- d goes in first, on nets x and y; then e, on x' and what d's output leaves of y. x' is x and d or more, since the holders' part of the fee stays too
abbrev pub InputsInTurn : Type 0
InputsInTurn =
    (x y d e x' : ℕ) → x + d ≤ x'
    → swap_out x y d + swap_out x' (y - swap_out x y d) e ≤ swap_out x y (d + e)
