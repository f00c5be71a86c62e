-- What a swap leaves: a refused one has nothing to store.
-- Assumes nothing.
use Prim.Native.Nat.{ℕ}
use mathlib.Core.Path.{◌≡◌, refl, sym, ap, ◌∙◌}
use mathlib.Core.Bool.{Bool, true, false}
use mathlib.Core.List.{List}
use lib.Dec.{eqb}
use borrow.Author.Tests.{eqb-false}
use Rattle.refusal.specs.Tests.{first}
use Rattle.refusal.proofs.Stops.{outcome_go}
use Rattle.receipt.specs.Receipt.{refusal}
use Rattle.oracle.specs.Update.{stored_in}
use Rattle.pool.specs.declared.state.Decision.{Decision}
use Rattle.pool.specs.declared.state.After.{After}
use Rattle.pool.specs.declared.state.Pool.{Pool}
use Rattle.pool.specs.State.{Done, done_of}
use Rattle.pool.specs.Calls.{decision_of, swap_base_input, swap_base_output}
use Rattle.calls.specs.Next.{State, state_of, next}
use Rattle.calls.proofs.Decisions.{number_of}
use Rattle.calls.proofs.Refusals.{call_number_tells}
use Rattle.words.specs.Words.{pool_of, receipt_words}
use Rattle.memory.specs.Memory.{Memory, memory, untouched, stored, record_tests, called_on}
use Rattle.memory.specs.Steps.{Given, given_on, swap_call}

module _ (byInput : Bool) (q : Pool) (e : List ℕ) (direction amount limit clock : ℕ) where
  swap_next : done_of e (decision_of byInput q e direction amount limit clock) ≡ next (state_of q e) (swap_call byInput direction amount limit clock)
  unfolding next swap_base_input swap_base_output
  swap_next = go byInput
    where
      go : (b : Bool) → done_of e (decision_of b q e direction amount limit clock) ≡ next (state_of q e) (swap_call b direction amount limit clock)
      go true = refl
      go false = refl

  nothing_stored :
      ((decision_of byInput q e direction amount limit clock).after.receipt.number ≡ 0 → ⊥)
      → stored_in e (decision_of byInput q e direction amount limit clock).update ≡ e
  nothing_stored f =
      let told = (call_number_tells (state_of q e) (swap_call byInput direction amount limit clock)).where_refused (λ z. f (ap number_of swap_next ∙ z)) in
      ap (λ (d : Done). d.entries) swap_next ∙ ap (λ (s : State). s.entries) told.unchanged

module _ (p e r : List ℕ) (byInput : Bool) (direction amount limit clock : ℕ) (passed : first (record_tests p) ≡ 0) where
  -- what is written of a decision d, and what its update leaves of the entries
  pub swap_left :
      {q : Pool} {d : Decision} {e' : List ℕ} {g : Given} → q ≡ pool_of p → d ≡ decision_of byInput q e direction amount limit clock
      → e' ≡ stored_in e d.update → g ≡ given_on p d.after
      → memory g.number g.pool e' g.receipt ≡ called_on p e r (swap_call byInput direction amount limit clock)
  unfolding called_on stored untouched given_on record_tests
  swap_left {q} {d} {e'} {g} pool decided stores given =
      rw (given, stores, decided, pool)
      (go (eqb a.receipt.number 0) refl
      ∙ ap (stored p e r) (swap_next byInput (pool_of p) e direction amount limit clock)
      ∙ outcome_go (record_tests p) (untouched p e r) _ 0 refl (sym passed) refl)
    where
      known : Decision
      known = decision_of byInput (pool_of p) e direction amount limit clock

      a : After
      a = known.after

      left : Given → Memory
      left g = memory g.number g.pool (stored_in e known.update) g.receipt

      go : (b : Bool) → eqb a.receipt.number 0 ≡ b → left (given_on p a) ≡ stored p e r (done_of e known)
      go true t = rw t refl
      go false t =
          rw t
          (ap (λ (l : List ℕ). memory a.receipt.number p l (receipt_words (refusal a.receipt.number)))
          (nothing_stored byInput (pool_of p) e direction amount limit clock (eqb-false _ _ t)))
