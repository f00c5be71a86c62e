-- Two swaps by input in turn, with their fees, give together no more than one of their sum, and a swap of more gives no less.
-- Assumes nothing.
use Prim.Native.Nat.{ℕ, ◌+◌, ◌-◌, ◌≤◌}
use mathlib.Core.Path.{◌≡◌, refl}
use mathlib.Core.Bool.{Bool, true, false}
use native.Mathlib.Nat.{le_refl, le_trans}
use Rattle.math.proofs.Parts.{Superadditive, never_falls}
use Rattle.rates.specs.declared.Rates.{Rates}
use Rattle.fees.specs.Parts.{after_fee}
use Rattle.fees.proofs.Parts.{fees_of_parts}
use Rattle.curve.specs.ConstantProduct.{swap_out}
use Rattle.curve.proofs.InTurn.{inputs_in_turn, more_gives_no_less}
use Rattle.calculator.specs.Calculator.{charged, swap_base_input}
use Rattle.calculator.proofs.FairSwaps.{entering}

-- what a swap gives of the curve's output: all, or less the creator fee where that is on output
abbrev paid_out : Bool → ℕ → ℕ → ℕ
paid_out true creator curve = curve
paid_out false creator curve = after_fee curve creator

given_is :
    (onInput : Bool) (rates : Rates) (creator x y amount : ℕ)
    → (swap_base_input onInput rates creator x y amount).output ≡ paid_out onInput creator (swap_out x y (entering onInput rates creator amount))
unfolding swap_base_input charged
given_is true rates creator x y amount = refl
given_is false rates creator x y amount = refl

-- of two parts no more enters than of the whole, and no more leaves
entering_parts : (onInput : Bool) (rates : Rates) (creator : ℕ) → Superadditive (entering onInput rates creator)
entering_parts true rates creator a b = fees_of_parts.left a b (rates.trade + creator)
entering_parts false rates creator a b = fees_of_parts.left a b rates.trade

paid_out_parts : (onInput : Bool) (creator : ℕ) → Superadditive (paid_out onInput creator)
paid_out_parts true creator a b = le_refl _
paid_out_parts false creator a b = fees_of_parts.left a b creator

module _ (onInput : Bool) (rates : Rates) (creator x y : ℕ) where
  abbrev given : ℕ → ℕ → ℕ → ℕ
  given netIn netOut amount = (swap_base_input onInput rates creator netIn netOut amount).output

  abbrev enters : ℕ → ℕ
  enters = entering onInput rates creator

  pays_no_less : (o p : ℕ) → o ≤ p → paid_out onInput creator o ≤ paid_out onInput creator p
  pays_no_less = never_falls (paid_out onInput creator) (paid_out_parts onInput creator)

  -- a, and then b, where to the one net came what enters of a or more, and from the other went what leaves the curve
  pub swaps_in_turn :
      (a b x' y' : ℕ) → x + enters a ≤ x' → y' ≡ y - swap_out x y (enters a) → given x y a + given x' y' b ≤ given x y (a + b)
  swaps_in_turn a b x' y' l e =
      rw (given_is onInput rates creator x y a, given_is onInput rates creator x' y' b, given_is onInput rates creator x y (a + b), e)
      (le_trans (paid_out_parts onInput creator _ _)
      (pays_no_less _ _
      (le_trans (inputs_in_turn x y (enters a) (enters b) x' l) (more_gives_no_less x y _ _ (entering_parts onInput rates creator a b)))))

  pub swap_of_more : (a b : ℕ) → a ≤ b → given x y a ≤ given x y b
  swap_of_more a b l =
      rw (given_is onInput rates creator x y a, given_is onInput rates creator x y b)
      (pays_no_less _ _ (more_gives_no_less x y _ _ (never_falls enters (entering_parts onInput rates creator) a b l)))
