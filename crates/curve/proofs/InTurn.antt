-- Two inputs in turn give together no more than both at once, and so the output never falls as the input rises.
-- Assumes nothing.
use mathlib.Core.Path.{◌≡◌}
use Prim.Native.Nat.{ℕ, ◌+◌, ◌-◌, ◌≤◌}
use native.Mathlib.Nat.{le-add_right, le_refl, le_trans}
use native.Mathlib.Omega.{arith}
use Rattle.math.proofs.Curve.{in_turn_lem}
use Rattle.curve.specs.ConstantProduct.{swap_out}
use Rattle.curve.specs.InTurn.{InputsInTurn}

pub inputs_in_turn : InputsInTurn
unfolding swap_out
inputs_in_turn x y d e x' i = in_turn_lem x y d e x' (omega arith)

pub more_gives_no_less : (x y d e : ℕ) → d ≤ e → swap_out x y d ≤ swap_out x y e
more_gives_no_less x y d e l =
    let z : d + (e - d) ≡ e = omega arith in
    le_trans (le-add_right _ _) (rw z at (inputs_in_turn x y d (e - d) (x + d) (le_refl _)))
