-- From a holder's seat: what the call without a register left, and his entry, are what the call with a register leaves.
-- Assumes nothing.
use Prim.Native.Nat.{ℕ, ◌<◌}
use mathlib.Core.Path.{◌≡◌, refl, sym, ap, subst, ◌∙◌}
use mathlib.Core.Bool.{Bool, true, false}
use mathlib.Core.List.{List}
use lib.ListN.{length, set}
use borrow.Author.Tests.{eqb-false, ltb-false}
use Rattle.std.specs.Prelude.{Ok, Err}
use Rattle.refusal.specs.Tests.{first}
use Rattle.refusal.proofs.Stops.{Passed}
use Rattle.liquidity.specs.Liquidity.{withdraw_tests}
use Rattle.receipt.specs.Receipt.{refusal}
use Rattle.register.specs.declared.Holder.{Holder}
use Rattle.seats.specs.declared.Seat.{Seat}
use Rattle.seats.specs.declared.Change.{Change}
use Rattle.register.specs.Holders.{balance_of}
use Rattle.register.specs.Changes.{register_tests}
use Rattle.register.specs.Numbers.{entries_of, numbers_of}
use Rattle.seats.specs.Stages.{seat_in, seat_of, change_of}
use Rattle.calls.specs.Next.{State, state_of, next}
use Rattle.calls.specs.Registered.{Registered, holder_of, without_register, entered}
use Rattle.calls.proofs.Decisions.{decision}
use Rattle.calls.proofs.Refusals.{call_number_tells}
use Rattle.words.specs.Words.{pool_of, receipt_words}
use Rattle.memory.specs.Memory.{Memory, memory, called_on}
use Rattle.memory.specs.Steps.{change_call}
use Rattle.register_calls.specs.Lent.{register_memory, untouched_with, register_called_on}
use Rattle.register_calls.specs.Steps.{registered_call}
use Rattle.register_calls.proofs.Called.{with_list, fault_given, accepted_read, refused_given, last_given, accepted_given, pool_stays, ring_stays}
use Rattle.register_calls.proofs.Seated.{seat_found, seat_refused, Covered, entry_changes, entry_stays}

-- the call without a register, with the holder's balance
without : (b : Bool) (k lp limit0 limit1 : ℕ) (es : List Holder) → change_call b lp (balance_of k es) limit0 limit1 ≡ without_register es (registered_call b k lp limit0 limit1)
without true k lp limit0 limit1 es = refl
without false k lp limit0 limit1 es = refl

holder_is : (b : Bool) (k lp limit0 limit1 : ℕ) → k ≡ holder_of (registered_call b k lp limit0 limit1)
holder_is true k lp limit0 limit1 = refl
holder_is false k lp limit0 limit1 = refl

-- the list is no register
pub fault_at :
    (p e r hs : List ℕ) (b : Bool) (k lp limit0 limit1 n m : ℕ) (r'' : List ℕ) → seat_of k (entries_of hs) ≡ Err n
    → (m ≡ n) × (r'' ≡ receipt_words (refusal n)) → register_memory m p e r'' hs ≡ register_called_on p e r hs (registered_call b k lp limit0 limit1)
unfolding untouched_with
fault_at p e r hs b k lp limit0 limit1 n m r'' came refused =
    let why = seat_refused k (entries_of hs) n came in
    (λ t. register_memory (refused.0 t) p e (refused.1 t) hs)
    ∙ fault_given p e r hs (registered_call b k lp limit0 limit1) n (why.0 ∙ ap (λ (j : ℕ). first (register_tests j (entries_of hs))) (holder_is b k lp limit0 limit1)) why.1

-- the seat that was found is its holder's
pub seat_holder : (k : ℕ) (es : List Holder) (seat : Seat) → seat_of k es ≡ Ok seat → seat.holder ≡ k
seat_holder k es seat e = ap (λ (s : Seat). s.holder) (seat_found k es seat e).1

pub seat_stands : (k : ℕ) (es : List Holder) (seat : Seat) → seat_of k es ≡ Ok seat → seat_of seat.holder es ≡ Ok seat
seat_stands k es seat e = ap (λ (j : ℕ). seat_of j es) (seat_holder k es seat e) ∙ e

-- a withdrawal that its own tests let through is of some LP, and no more than the balance
covered :
    (s : State) (b : Bool) (k lp limit0 limit1 : ℕ) (es : List Holder)
    → (next s (without_register es (registered_call b k lp limit0 limit1))).after.receipt.number ≡ 0 → Covered b k lp es
unfolding decision withdraw_tests
covered s true k lp limit0 limit1 es z = tt
covered s false k lp limit0 limit1 es z =
    let t = ((call_number_tells s (without_register es (registered_call false k lp limit0 limit1))).where_accepted z).passed in
    (eqb-false lp 0 t.1.0, ltb-false (balance_of k es) lp t.1.1.0)

module _ (p e r hs : List ℕ) (seat : Seat) (b : Bool) (lp limit0 limit1 : ℕ) (found : seat_of seat.holder (entries_of hs) ≡ Ok seat) where
  abbrev k : ℕ
  k = seat.holder

  abbrev es : List Holder
  es = entries_of hs

  abbrev c : Registered
  c = registered_call b k lp limit0 limit1

  seated : seat ≡ seat_in k es
  seated = (seat_found k es seat found).1

  passed : Passed (register_tests (holder_of c) es)
  passed = subst (λ (j : ℕ). Passed (register_tests j es)) (holder_is b k lp limit0 limit1) (seat_found k es seat found).0

  module _ (n : ℕ) (p' e' r' : List ℕ) (left : memory n p' e' r' ≡ called_on p e r (change_call b lp seat.balance limit0 limit1)) where
    here : memory n p' e' r' ≡ called_on p e r (without_register es c)
    here = left ∙ ap (λ (owned : ℕ). called_on p e r (change_call b lp owned limit0 limit1)) (ap (λ (s : Seat). s.balance) seated) ∙ ap (called_on p e r) (without b k lp limit0 limit1 es)

    number_is : n ≡ (called_on p e r (without_register es c)).number
    number_is = ap (λ (m : Memory). m.number) here

    pub refused_at_lem : (n ≡ 0 → ⊥) → register_memory n p' e' r' hs ≡ register_called_on p e r hs c
    refused_at_lem f = ap (with_list hs) here ∙ refused_given p e r hs c passed (λ z. f (number_is ∙ z))

    -- tried on a copy, which is left aside
    pub tried_at : (n ≡ 0 → ⊥) → register_memory n p e' r' hs ≡ register_called_on p e r hs c
    tried_at f =
        let same : p' ≡ p = ap (λ (m : Memory). m.pool) here ∙ pool_stays p e r hs c (λ z. f (number_is ∙ z)) in
        ap (λ (w : List ℕ). register_memory n w e' r' hs) (sym same) ∙ refused_at_lem f

    module _ (z : n ≡ 0) where
      zero : (called_on p e r (without_register es c)).number ≡ 0
      zero = sym number_is ∙ z

      covers : Covered b k lp es
      covers = covered (state_of (pool_of p) e) b k lp limit0 limit1 es (accepted_read p e r hs c zero).1

      pub last_at :
          (last m : ℕ) (r'' : List ℕ) → change_of b lp seat ≡ Err last → (m ≡ last) × (r'' ≡ receipt_words (refusal last))
          → register_memory m p e' r'' hs ≡ register_called_on p e r hs c
      unfolding untouched_with
      last_at last m r'' stays refused =
          let why = entry_stays k lp limit0 limit1 es b last covers (sym (ap (change_of b lp) seated) ∙ stays) in
          let ring : e' ≡ e = ap (λ (m : Memory). m.entries) here ∙ ring_stays p e r hs c zero in
          (λ t. register_memory (refused.0 t) p (ring t) (refused.1 t) hs) ∙ last_given p e r hs c passed zero last why.0 why.1

      module _ (w : Change) (changes : change_of b lp seat ≡ Ok w) where
        pub entry_in : w.place < length es
        entry_in = (entry_changes k lp limit0 limit1 es b w covers (sym (ap (change_of b lp) seated) ∙ changes)).1

        pub accepted_at_lem : (hs' : List ℕ) → hs' ≡ numbers_of (set es w.place w.entry) → register_memory 0 p' e' r' hs' ≡ register_called_on p e r hs c
        accepted_at_lem hs' written =
            let how = entry_changes k lp limit0 limit1 es b w covers (sym (ap (change_of b lp) seated) ∙ changes) in
            (λ t. register_memory (sym z t) p' e' r' ((written ∙ ap numbers_of how.2) t))
            ∙ ap (with_list (numbers_of (entered es c))) here
            ∙ accepted_given p e r hs c passed zero how.0
