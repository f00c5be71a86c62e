-- Document 02 (h), slice by slice: a slice, and then the rest at once, give no more than both at once. The rest at once need not be accepted.
-- Assumes nothing.
use Prim.Native.Nat.{ℕ, ◌+◌, ◌≤◌}
use mathlib.Core.Path.{◌≡◌, refl}
use mathlib.Core.Bool.{Bool, true, false}
use mathlib.Core.List.{List, [], ◌∷◌}
use native.Mathlib.Nat.{le_refl, le_trans}
use native.Mathlib.Omega.{arith}
use lib.Dec.{eqb}
use Rattle.math.proofs.Parts.{Superadditive, part_and_rest}
use Rattle.refusal.proofs.Stops.{Passed}
use Rattle.rates.specs.declared.Terms.{Terms}
use Rattle.rates.specs.Rates.{creator_rate}
use Rattle.calculator.specs.declared.SwapResult.{SwapResult}
use Rattle.calculator.proofs.InTurn.{swaps_in_turn, swap_of_more}
use Rattle.charge.specs.Charge.{rest_of}
use Rattle.charge.proofs.Parts.{rest_of_parts}
use Rattle.receipt.specs.declared.Receipt.{Receipt}
use Rattle.quotes.specs.Quotes.{charge_in, charge_out, charged_of}
use Rattle.swap.specs.Swap.{swap_receipt, accepted_swap}
use Rattle.swap.proofs.Nets.{Sides, sides}
use Rattle.pool.specs.State.{Done}
use Rattle.calls.specs.Next.{State, next, left}
use Rattle.calls.proofs.Decisions.{fee_on_input, swap_of, decision, tests_of, accepted_of}
use Rattle.calls.proofs.FairCalls.{into_curve, out_of_curve, swap_fair, swap_covered}
use Rattle.calls.proofs.Refusals.{call_number_tells}
use Rattle.history.specs.Run.{receipts}
use Rattle.slicing.specs.Slicing.{Slice, sum, unlimited, swaps, in_turn, at_once, Accepted, Each, output, received, together}
use Rattle.slicing.specs.Slicing.{SlicingGainsNothing, GainsNothingWithCharges}

-- ---- what a swap by input would give at a point, accepted or not
abbrev quoted : State → ℕ → ℕ → ℕ
quoted s direction amount = (swap_of true s direction amount).output

-- a slice, and then the rest at once, against both at once: of the slice so much arrives at the vault, and the nets are those that it leaves
module _ (s : State) (direction amount rest clock : ℕ) (t : Passed (tests_of s (unlimited direction amount clock))) where
  abbrev zero_in : Bool
  zero_in = eqb direction 0

  abbrev terms : Terms
  terms = s.pool.terms

  abbrev arrives : ℕ → ℕ
  arrives = rest_of (charge_in zero_in terms)

  nets :
      Sides zero_in (into_curve true s direction amount) (out_of_curve true s direction amount) s.pool.books
      (left (accepted_of s (unlimited direction amount clock))).pool.books
  unfolding decision accepted_swap
  nets =
      sides zero_in (fee_on_input s direction) _ _ _ s.pool.books (swap_covered true s direction amount 0 clock t)
      (swap_fair true s direction amount 0 clock t)

  slice_first :
      quoted s direction amount + quoted (left (accepted_of s (unlimited direction amount clock))) direction rest ≤ quoted s direction (amount + rest)
  unfolding decision accepted_swap
  slice_first =
      le_trans
      (swaps_in_turn (fee_on_input s direction) terms.rates (creator_rate terms) _ _ (arrives amount) (arrives rest) _ _ nets.in_net nets.out_net)
      (swap_of_more (fee_on_input s direction) terms.rates (creator_rate terms) _ _ _ _ (rest_of_parts (charge_in zero_in terms) amount rest))

-- ---- what the receipts show: f of an accepted swap's is g of its output
record Shows (f : Receipt → ℕ) (g : Terms → Bool → ℕ → ℕ) : Type 0 where
  parts : (t : Terms) (zero_in : Bool) → Superadditive (g t zero_in)
  shown :
      (t : Terms) (zero_in zeroFee : Bool) (s : SwapResult) (amount clock : ℕ)
      → f (swap_receipt true zero_in zeroFee s (charged_of true t zero_in amount s) clock) ≡ g t zero_in s.output

module _ {f : Receipt → ℕ} {g : Terms → Bool → ℕ → ℕ} (h : Shows f g) where
  -- what f would show of one swap of this amount, accepted or not
  abbrev most : State → ℕ → ℕ → ℕ
  most s direction amount = g s.pool.terms (eqb direction 0) (quoted s direction amount)

  -- an accepted slice, and then others that show no more than the rest at once would
  one_more :
      (s : State) (direction amount rest clock n : ℕ) (d : Done) → d ≡ accepted_of s (unlimited direction amount clock)
      → Passed (tests_of s (unlimited direction amount clock)) → n ≤ most (left d) direction rest
      → f d.after.receipt + n ≤ most s direction (amount + rest)
  unfolding decision accepted_swap
  one_more s direction amount rest clock n d e t l =
      rw (e, h.shown s.pool.terms (eqb direction 0))
      (part_and_rest (g s.pool.terms (eqb direction 0)) (h.parts s.pool.terms (eqb direction 0)) _ _ _ n
      (slice_first s direction amount rest clock t) (rw e at l))

  in_turn_lem :
      (s : State) (direction : ℕ) (slices : List Slice) → Each Accepted (in_turn s direction slices)
      → together f (in_turn s direction slices) ≤ most s direction (sum slices)
  unfolding sum swaps receipts Each together
  in_turn_lem s direction [] a = omega arith
  in_turn_lem s direction (slice ∷ slices) a =
      let c = unlimited direction slice.amount slice.clock in
      let k = (call_number_tells s c).where_accepted a.0 in
      one_more s direction slice.amount (sum slices) slice.clock _ (next s c) k.result k.passed
      (in_turn_lem (left (next s c)) direction slices a.1)

  -- the whole shows just that
  at_once_lem :
      (s : State) (direction amount clock : ℕ) (d : Done) → d ≡ accepted_of s (unlimited direction amount clock)
      → most s direction amount ≡ f d.after.receipt
  unfolding decision accepted_swap
  at_once_lem s direction amount clock d e = rw (e, h.shown s.pool.terms (eqb direction 0))

  gains_nothing :
      (s : State) (direction : ℕ) (slices : List Slice) (clock : ℕ)
      → Accepted (at_once s direction slices clock) → Each Accepted (in_turn s direction slices)
      → together f (in_turn s direction slices) ≤ f (at_once s direction slices clock)
  gains_nothing s direction slices clock w a =
      let k = (call_number_tells s (unlimited direction (sum slices) clock)).where_accepted w in
      rw (at_once_lem s direction (sum slices) clock _ k.result) at (in_turn_lem s direction slices a)

-- ---- the output, and what is received of it
outputs : Shows output (λ t zero_in n. n)
unfolding swap_receipt
outputs = record { parts = λ t zero_in a b. le_refl _; shown = go }
  where
    go :
        (t : Terms) (zero_in zeroFee : Bool) (s : SwapResult) (amount clock : ℕ)
        → output (swap_receipt true zero_in zeroFee s (charged_of true t zero_in amount s) clock) ≡ s.output
    go t true zeroFee s amount clock = refl
    go t false zeroFee s amount clock = refl

receives : Shows received (λ t zero_in. rest_of (charge_out zero_in t))
unfolding swap_receipt rest_of
receives = record { parts = λ t zero_in. rest_of_parts (charge_out zero_in t); shown = go }
  where
    go :
        (t : Terms) (zero_in zeroFee : Bool) (s : SwapResult) (amount clock : ℕ)
        → received (swap_receipt true zero_in zeroFee s (charged_of true t zero_in amount s) clock) ≡ rest_of (charge_out zero_in t) s.output
    go t true zeroFee s amount clock = refl
    go t false zeroFee s amount clock = refl

pub slicing_gains_nothing : SlicingGainsNothing
unfolding SlicingGainsNothing
slicing_gains_nothing s direction slices clock w free a each_Free = gains_nothing outputs s direction slices clock w a

pub gains_nothing_with_charges : GainsNothingWithCharges
unfolding GainsNothingWithCharges
gains_nothing_with_charges s direction slices clock w a = (
  gains_nothing outputs s direction slices clock w a,
  gains_nothing receives s direction slices clock w a,
)
