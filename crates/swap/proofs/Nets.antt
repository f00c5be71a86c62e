-- The nets that a swap leaves: where d enters the curve and o leaves it, to the one net comes d or more, and from the other goes o.
-- Assumes nothing.
use Prim.Native.Nat.{ℕ, ◌+◌, ◌*◌, ◌-◌, ◌≤◌}
use mathlib.Core.Path.{◌≡◌, sym}
use mathlib.Core.Bool.{Bool, true, false}
use native.Mathlib.Nat.{mul-le-mul, mul_comm, le_of_eq, le_trans}
use borrow.Author.Rules.{rules}
use Rattle.calculator.specs.declared.SwapResult.{SwapResult}
use Rattle.calculator.proofs.FairSwaps.{Fair}
use Rattle.accounting.specs.declared.Books.{Books}
use Rattle.accounting.specs.Counters.{net0, net1}
use Rattle.accounting.specs.Booking.{creator_token, booked}
use Rattle.accounting.proofs.Laws.{Covered}
use Rattle.quotes.specs.Quotes.{net_in, net_out}
use Rattle.swap.specs.Swap.{paid_books}

-- the books of an accepted swap
abbrev pub swapped_books : Bool → Bool → SwapResult → Books → Books
swapped_books zeroIn onInput s b =
    paid_books zeroIn s (booked zeroIn (creator_token onInput zeroIn) s.protocol s.fund s.creator b.fees) b

pub record Sides (zeroIn : Bool) (d o : ℕ) (b c : Books) : Type 0 where
  pub covered : Covered c
  pub in_net : net_in zeroIn b + d ≤ net_in zeroIn c
  pub out_net : net_out zeroIn c ≡ net_out zeroIn b - o
  pub same_supply : c.supply ≡ b.supply

pub sides :
    (zeroIn onInput : Bool) (d o : ℕ) (s : SwapResult) (b : Books) → Covered b → Fair onInput (net_in zeroIn b) (net_out zeroIn b) d o s
    → Sides zeroIn d o b (swapped_books zeroIn onInput s b)
unfolding paid_books booked
sides true true d o s b c f = search rules
sides true false d o s b c f = search rules
sides false true d o s b c f = search rules
sides false false d o s b c f = search rules

-- so the product of the nets does not fall, where it does not on the curve
pub product_rises :
    (zeroIn : Bool) (d o : ℕ) (b c : Books) → Sides zeroIn d o b c
    → net_in zeroIn b * net_out zeroIn b ≤ (net_in zeroIn b + d) * (net_out zeroIn b - o) → net0 b * net1 b ≤ net0 c * net1 c
product_rises true d o b c s h = le_trans h (mul-le-mul s.in_net (le_of_eq (sym s.out_net)))
product_rises false d o b c s h =
    rw (mul_comm (net0 b), mul_comm (net0 c)) (le_trans h (mul-le-mul s.in_net (le_of_eq (sym s.out_net))))
