-- A call that the library accepts is the call on the pool that the memory holds, and leaves a memory that holds the pool after it.
-- Assumes nothing.
use Prim.Native.Nat.{ℕ}
use mathlib.Core.Path.{◌≡◌, refl, sym, ap, subst, ◌∙◌}
use mathlib.Core.Bool.{Bool, true, false}
use mathlib.Core.List.{List, [], ◌∷◌, map}
use lib.Dec.{eqb}
use borrow.Author.Tests.{eqb-true, eqb-false}
use Rattle.refusal.specs.Tests.{first}
use Rattle.refusal.proofs.Stops.{outcome_stop, outcome_go}
use Rattle.receipt.specs.declared.Receipt.{Receipt}
use Rattle.receipt.specs.Receipt.{refusal}
use Rattle.pool.specs.State.{Done}
use Rattle.calls.specs.declared.Call.{Call}
use Rattle.calls.specs.Next.{next, left}
use Rattle.calls.proofs.Refusals.{call_number_tells}
use Rattle.history.specs.Run.{call, receipts}
use Rattle.slicing.specs.Slicing.{Slice, sum, unlimited, swaps, in_turn, at_once, Accepted, Each}
use Rattle.slicing.specs.Slicing.{NoGain, NoGainWithCharges, SlicingGainsNothing, GainsNothingWithCharges}
use Rattle.slicing.proofs.Slices.{slicing_gains_nothing, gains_nothing_with_charges}
use Rattle.memory.specs.Memory.{Memory, untouched, stored, record_tests, called_on}
use Rattle.shipped.specs.Library.{called_next, answered, receipts_in, point_of}
use Rattle.shipped.specs.Slicing.{in_turn_in, at_once_in, SlicingInMemory}
use Rattle.shipped.proofs.Holding.{Gave, stored_gave, given_answer}
use Rattle.shipped.proofs.Library.{receipts_read}

-- ---- one call
module _ (m : Memory) (c : Call) (z : Accepted (answered (called_next m c))) where
  abbrev number : ℕ
  number = first (record_tests m.pool)

  abbrev given : Done
  given = next (point_of m) c

  -- a record that is no pool is refused
  is_pool : number ≡ 0
  unfolding called_on untouched refusal
  is_pool = go (eqb number 0) refl
    where
      go : (b : Bool) → eqb number 0 ≡ b → number ≡ 0
      go true e = eqb-true _ _ e
      go false e =
          let f = eqb-false _ _ e in
          let refused = outcome_stop (record_tests m.pool) (untouched m.pool m.entries m.receipt) _ number refl f in
          absurd (f (ap (λ (n : Memory). (answered n).number) refused ∙ z))

  reads : called_next m c ≡ stored m.pool m.entries m.receipt given
  unfolding called_on record_tests
  reads = sym (outcome_go (record_tests m.pool) (untouched m.pool m.entries m.receipt) _ number refl refl is_pool)

  accepted_gave : Gave (called_next m c) given
  accepted_gave =
      let answer = given_answer m.pool m.entries m.receipt given (λ f. ((call_number_tells (point_of m) c).where_refused f).zeros) in
      let zero = ap (λ (x : Receipt). x.number) (sym answer ∙ ap answered (sym reads)) ∙ z in
      rw reads (stored_gave m.pool m.entries m.receipt given zero)

-- ---- calls in turn, the first of which is accepted: from there on the memory holds a pool
in_turn_read : (m : Memory) (cs : List Call) → Each Accepted (receipts_in m cs) → receipts_in m cs ≡ receipts (point_of m) (map call cs)
unfolding receipts_in receipts Each
in_turn_read m [] a = refl
in_turn_read m (c ∷ cs) a =
    let g = accepted_gave m c a.0 in
    ap (λ (x : Receipt). x ∷ receipts_in (called_next m c) cs) g.answer
    ∙ ap (λ (xs : List Receipt). (next (point_of m) c).after.receipt ∷ xs) (receipts_read (called_next m c) (left (next (point_of m) c)) cs g.point)

-- ---- what holds of the receipts of the calls holds of those in the memory
module _ (P : List Receipt → Receipt → Type 0) (m : Memory) (direction : ℕ) (slices : List Slice) (clock : ℕ) where
  in_memory :
      Accepted (at_once_in m direction slices clock) → Each Accepted (in_turn_in m direction slices)
      → P (in_turn (point_of m) direction slices) (at_once (point_of m) direction slices clock)
      → P (in_turn_in m direction slices) (at_once_in m direction slices clock)
  in_memory w a p =
      let each = in_turn_read m (swaps direction slices) a in
      let whole = (accepted_gave m (unlimited direction (sum slices) clock) w).answer in
      subst (λ (x : Receipt). P (in_turn_in m direction slices) x) (sym whole)
      (subst (λ (xs : List Receipt). P xs (at_once (point_of m) direction slices clock)) (sym each) p)

pub slicing_in_memory : SlicingInMemory
unfolding SlicingInMemory SlicingGainsNothing GainsNothingWithCharges
slicing_in_memory m direction slices clock = (
  λ w free a each_Free. in_memory NoGain m direction slices clock w a (slicing_gains_nothing (point_of m) direction slices clock) w free a each_Free,
  λ w a. in_memory NoGainWithCharges m direction slices clock w a (gains_nothing_with_charges (point_of m) direction slices clock) w a,
)
