-- Document 02 (h), 'Slicing gains nothing': 'for any pool, direction and list of at least one amount, if the whole sum and each slice in turn are
-- accepted by input with no other call between and charges of 0, then the outputs of the slices together are at most the output of the whole.
-- Limits are taken as 0 in both.'
use Rattle.std.specs.Prelude.{ℕ, ◌+◌, ◌-◌, ◌≤◌, ◌≡◌, List, [], ◌∷◌, map, eqb}
use Rattle.accounting.specs.Counters.{of_token}
use Rattle.receipt.specs.declared.Receipt.{Receipt}
use Rattle.calls.specs.declared.Call.{Call}
use Rattle.calls.specs.declared.Call.TheVariants.{SwapBaseInput}
use Rattle.calls.specs.Next.{State, next}
use Rattle.history.specs.Run.{call, receipts}

-- ---- the slices and the whole
-- one amount of the list, with the clock at which it is swapped; any clocks will do
pub record Slice : Type 0 where
  pub amount : ℕ
  pub clock : ℕ

-- the whole sum
unfoldable pub sum : List Slice → ℕ
sum [] = 0
sum (slice ∷ slices) = slice.amount + sum slices

-- a swap by input with a limit of 0
abbrev pub unlimited : ℕ → ℕ → ℕ → Call
unlimited direction amount clock = SwapBaseInput direction amount 0 clock

-- each slice in turn, with no other call between
unfoldable pub swaps : ℕ → List Slice → List Call
swaps direction [] = []
swaps direction (slice ∷ slices) = unlimited direction slice.amount slice.clock ∷ swaps direction slices

-- their receipts: each swap gets pool and ring as the one before it left them
abbrev pub in_turn : State → ℕ → List Slice → List Receipt
in_turn s direction slices = receipts s (map call (swaps direction slices))

-- the receipt of the whole sum, at a clock, on the pool and ring that the first slice gets
abbrev pub at_once : State → ℕ → List Slice → ℕ → Receipt
at_once s direction slices clock = (next s (unlimited direction (sum slices) clock)).after.receipt

-- ---- what the receipts show
abbrev pub Accepted : Receipt → Type 0
Accepted x = x.number ≡ 0

abbrev pub WithoutCharges : Receipt → Type 0
WithoutCharges x = (x.charged.charge0 ≡ 0) × (x.charged.charge1 ≡ 0)

-- P holds of each receipt
unfoldable pub Each : (Receipt → Type 0) → List Receipt → Type 0
Each P [] = Unit {0}
Each P (x ∷ xs) = P x × Each P xs

-- of two numbers, token 0's and token 1's, that of the token that comes out: token 1 in direction 0, token 0 in direction 1
abbrev pub of_output : Receipt → ℕ → ℕ → ℕ
of_output x amount0 amount1 = of_token (eqb x.trade.direction 0) amount1 amount0

-- the output, which leaves the vault
abbrev pub output : Receipt → ℕ
output x = of_output x x.paid.out0 x.paid.out1

-- what the solver receives of it: the output less its charge
abbrev pub received : Receipt → ℕ
received x = of_output x (x.paid.out0 - x.charged.charge0) (x.paid.out1 - x.charged.charge1)

-- of all receipts together
unfoldable pub together : (Receipt → ℕ) → List Receipt → ℕ
together f [] = 0
together f (x ∷ xs) = f x + together f xs

-- ---- the theorem
-- if the whole and each slice are accepted with charges of 0, the outputs of the slices together are at most the output of the whole
abbrev pub NoGain : List Receipt → Receipt → Type 0
NoGain slices whole =
    Accepted whole → WithoutCharges whole
    → Each Accepted slices → Each WithoutCharges slices
    → together output slices ≤ output whole

-- of any pool and ring, built by hand too. The sum of no amounts is 0, which no pool accepts: of an empty list nothing is said
unfoldable pub SlicingGainsNothing : Type 0
SlicingGainsNothing =
    (s : State) (direction : ℕ) (slices : List Slice) (clock : ℕ)
    → NoGain (in_turn s direction slices) (at_once s direction slices clock)

-- More than was asked: with any charges, no more leaves the vault in slices, and the solver receives no more
abbrev pub NoGainWithCharges : List Receipt → Receipt → Type 0
NoGainWithCharges slices whole =
    Accepted whole → Each Accepted slices
    → (together output slices ≤ output whole) × (together received slices ≤ received whole)

unfoldable pub GainsNothingWithCharges : Type 0
GainsNothingWithCharges =
    (s : State) (direction : ℕ) (slices : List Slice) (clock : ℕ)
    → NoGainWithCharges (in_turn s direction slices) (at_once s direction slices clock)
