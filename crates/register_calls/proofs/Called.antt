-- What a call with a register leaves in memory, by what the call without one left there.
-- Assumes nothing.
use Prim.Native.Nat.{ℕ, ◌≤◌}
use mathlib.Core.Path.{◌≡◌, refl, sym, ap, ◌∙◌}
use mathlib.Core.Bool.{Bool, true, false, cond}
use mathlib.Core.List.{List, [], ◌∷◌}
use native.Mathlib.Omega.{arith}
use lib.Dec.{eqb}
use borrow.Author.Tests.{eqb-true, eqb-false, eq-eqb, ne_eqb, ltb-false}
use Rattle.refusal.specs.Tests.{Tests, ◌then◌, first}
use Rattle.refusal.proofs.Stops.{Passed, outcome_stop, outcome_go}
use Rattle.accounting.specs.Locked.{lock_lp_amount}
use Rattle.receipt.specs.Receipt.{refusal}
use Rattle.register.specs.declared.Holder.{Holder}
use Rattle.register.specs.Changes.{register_tests, with_opener}
use Rattle.register.specs.Numbers.{entries_of, numbers_of}
use Rattle.opening.specs.declared.Opening.{Opening}
use Rattle.opening.specs.Opening.{opening_tests}
use Rattle.pool.specs.State.{Done, refused}
use Rattle.pool.specs.Calls.{zero_pool, zero_entries, opening}
use Rattle.calls.specs.Next.{State, state_of, next}
use Rattle.calls.specs.Registered.{Registered, deposit, withdraw, holder_of, without_register, last_tests, entered, Entered, next_with, opener_of}
use Rattle.calls.proofs.Entries.{no_register, own_refuses, last_refuses, none_refuses, opening_no_register, opening_refuses, opening_accepts}
use Rattle.calls.proofs.Decisions.{opening_decision}
use Rattle.calls.proofs.Refusals.{opening_number_tells}
use Rattle.words.specs.Words.{pool_of, at}
use Rattle.memory.specs.Memory.{Memory, untouched, stored, record_tests, called_on}
use Rattle.memory.specs.Steps.{opened_with}
use Rattle.register_calls.specs.Lent.{RegisterMemory, register_memory, untouched_with, stored_with, register_called_on}
use Rattle.register_calls.specs.Steps.{register_opened_for}

-- what holds where a number is not 0, and where it is, holds
by_number : (n : ℕ) {P : Type 0} → ((n ≡ 0 → ⊥) → P) → (n ≡ 0 → P) → P
by_number n {P} bad good = go (eqb n 0) refl
  where
    go : (b : Bool) → eqb n 0 ≡ b → P
    go true e = good (eqb-true n 0 e)
    go false e = bad (eqb-false n 0 e)

-- tests of one number give that number
abbrev Threes : Tests → Type 0
Threes [] = Unit {0}
Threes (t ∷ ts) = (t.1 ≡ 3) × Threes ts

three : (ts : Tests) → Threes ts → (first ts ≡ 0 → ⊥) → first ts ≡ 3
unfolding first
three [] h f = absurd (f refl)
three (t ∷ ts) h f = go t.0 f (three ts h.1)
  where
    go : (b : Bool) → (cond b t.1 (first ts) ≡ 0 → ⊥) → ((first ts ≡ 0 → ⊥) → first ts ≡ 3) → cond b t.1 (first ts) ≡ 3
    go true f more = h.0
    go false f more = more f

-- a memory, with a list beside it
abbrev pub with_list : List ℕ → Memory → RegisterMemory
with_list hs m = register_memory m.number m.pool m.entries m.receipt hs

-- ---- what is stored, by the number
module _ (p e r hs : List ℕ) where
  stored_refused : (x : Entered) → (x.given.after.receipt.number ≡ 0 → ⊥) → stored_with p e r hs x ≡ untouched_with p e r hs x.given.after.receipt.number
  unfolding stored_with
  stored_refused x f = rw (ne_eqb x.given.after.receipt.number 0 f)

  same_refused : (d : Done) → (d.after.receipt.number ≡ 0 → ⊥) → stored p e r d ≡ untouched p e r d.after.receipt.number
  unfolding stored
  same_refused d f = rw (ne_eqb d.after.receipt.number 0 f)

  same_accepted : (d : Done) (es : List Holder) → d.after.receipt.number ≡ 0
      → with_list (numbers_of es) (stored p e r d) ≡ stored_with p e r hs (record { given = d; holders = es })
  unfolding stored stored_with
  same_accepted d es z = rw (eq-eqb d.after.receipt.number 0 z)

  accepted_number : (d : Done) → d.after.receipt.number ≡ 0 → (stored p e r d).number ≡ 0
  unfolding stored
  accepted_number d z = rw (eq-eqb d.after.receipt.number 0 z)

  number_accepted : (d : Done) → (stored p e r d).number ≡ 0 → d.after.receipt.number ≡ 0
  unfolding stored untouched
  number_accepted d z = by_number d.after.receipt.number (λ f. absurd (f (rw (ne_eqb d.after.receipt.number 0 f) at z))) (λ e. e)

-- ---- a deposit or a withdrawal
module _ (p e r hs : List ℕ) (c : Registered) where
  abbrev es : List Holder
  es = entries_of hs

  abbrev s : State
  s = state_of (pool_of p) e

  abbrev d : Done
  d = next s (without_register es c)

  -- the record is no pool, or it is one
  unread : (n : ℕ) → n ≡ first (record_tests p) → (n ≡ 0 → ⊥) → untouched_with p e r hs n ≡ register_called_on p e r hs c
  unfolding register_called_on
  unread n t f = outcome_stop (record_tests p) (untouched_with p e r hs) _ n t f

  was_read : first (record_tests p) ≡ 0 → stored_with p e r hs (next_with s es c) ≡ register_called_on p e r hs c
  unfolding register_called_on record_tests
  was_read z = outcome_go (record_tests p) (untouched_with p e r hs) _ (first (record_tests p)) refl refl z

  -- the list is no register
  pub fault_given : (n : ℕ) → n ≡ first (register_tests (holder_of c) es) → (n ≡ 0 → ⊥) → untouched_with p e r hs n ≡ register_called_on p e r hs c
  unfolding register_tests record_tests refused refusal
  fault_given n t f =
      by_number (first (record_tests p))
      (λ g.
      let both : n ≡ first (record_tests p) =
      t ∙ three (register_tests (holder_of c) es) (refl, (refl, (refl, (refl, tt)))) (λ z. f (t ∙ z)) ∙ sym (three (record_tests p) (refl, (refl, tt)) g) in
      unread n both f)
      (λ z. sym (stored_refused p e r hs _ f) ∙ ap (stored_with p e r hs) (no_register s es c n t f) ∙ was_read z)

  -- so of the call without a register
  unread_before : (first (record_tests p) ≡ 0 → ⊥) → untouched p e r (first (record_tests p)) ≡ called_on p e r (without_register es c)
  unfolding called_on
  unread_before f = outcome_stop (record_tests p) (untouched p e r) _ (first (record_tests p)) refl f

  read_before : first (record_tests p) ≡ 0 → stored p e r d ≡ called_on p e r (without_register es c)
  unfolding called_on record_tests
  read_before z = outcome_go (record_tests p) (untouched p e r) _ (first (record_tests p)) refl refl z

  beside_list : (n : ℕ) → with_list hs (untouched p e r n) ≡ untouched_with p e r hs n
  unfolding untouched untouched_with
  beside_list n = refl

  -- it was accepted, so the record is a pool, and the call on it was accepted
  pub accepted_read : (called_on p e r (without_register es c)).number ≡ 0 → (first (record_tests p) ≡ 0) × (d.after.receipt.number ≡ 0)
  unfolding untouched
  accepted_read z =
      by_number (first (record_tests p))
      (λ f. absurd (f (ap (λ (m : Memory). m.number) (unread_before f) ∙ z)))
      (λ y. (y, number_accepted p e r hs d (ap (λ (m : Memory). m.number) (read_before y) ∙ z)))

  -- it is one
  module _ (h : Passed (register_tests (holder_of c) es)) where
    pub refused_given : ((called_on p e r (without_register es c)).number ≡ 0 → ⊥) → with_list hs (called_on p e r (without_register es c)) ≡ register_called_on p e r hs c
    unfolding refused refusal
    refused_given f =
        by_number (first (record_tests p))
        (λ g. ap (with_list hs) (sym (unread_before g)) ∙ beside_list (first (record_tests p)) ∙ unread (first (record_tests p)) refl g)
        (λ z.
        let g : d.after.receipt.number ≡ 0 → ⊥ = λ y. f (ap (λ (m : Memory). m.number) (sym (read_before z)) ∙ accepted_number p e r hs d y) in
        ap (with_list hs) (sym (read_before z) ∙ same_refused p e r hs d g)
        ∙ beside_list d.after.receipt.number
        ∙ sym (stored_refused p e r hs _ g)
        ∙ ap (stored_with p e r hs) (own_refuses s es c h g)
        ∙ was_read z)

    module _ (z : (called_on p e r (without_register es c)).number ≡ 0) where
      -- a deposit's last tests refuse
      pub last_given : (n : ℕ) → n ≡ first (last_tests es c) → (n ≡ 0 → ⊥) → untouched_with p e r hs n ≡ register_called_on p e r hs c
      unfolding refused refusal
      last_given n t f =
          let was = accepted_read z in
          sym (stored_refused p e r hs _ f) ∙ ap (stored_with p e r hs) (last_refuses s es c h was.1 n t f) ∙ was_read was.0

      pub accepted_given : Passed (last_tests es c) → with_list (numbers_of (entered es c)) (called_on p e r (without_register es c)) ≡ register_called_on p e r hs c
      accepted_given l =
          let was = accepted_read z in
          ap (with_list (numbers_of (entered es c))) (sym (read_before was.0))
          ∙ same_accepted p e r hs d (entered es c) was.1
          ∙ ap (stored_with p e r hs) (none_refuses s es c h was.1 l)
          ∙ was_read was.0

  -- refused, the record is as it was
  pub pool_stays : ((called_on p e r (without_register es c)).number ≡ 0 → ⊥) → (called_on p e r (without_register es c)).pool ≡ p
  unfolding untouched
  pool_stays f =
      by_number (first (record_tests p))
      (λ g. ap (λ (m : Memory). m.pool) (sym (unread_before g)))
      (λ z.
      let g : d.after.receipt.number ≡ 0 → ⊥ = λ y. f (ap (λ (m : Memory). m.number) (sym (read_before z)) ∙ accepted_number p e r hs d y) in
      ap (λ (m : Memory). m.pool) (sym (read_before z) ∙ same_refused p e r hs d g))

  -- neither a deposit nor a withdrawal touches the ring's entries
  pub ring_stays : (called_on p e r (without_register es c)).number ≡ 0 → (called_on p e r (without_register es c)).entries ≡ e
  unfolding stored next
  ring_stays z =
      let was = accepted_read z in
      ap (λ (m : Memory). m.entries) (sym (read_before was.0)) ∙ rw (eq-eqb d.after.receipt.number 0 was.1) (go c)
    where
      go : (c : Registered) → (next s (without_register es c)).entries ≡ e
      go (deposit holder lp maximum0 maximum1) = refl
      go (withdraw holder lp minimum0 minimum1) = refl

-- ---- an opening
module _ (p e r hs : List ℕ) (o : Opening) (holder : ℕ) where
  abbrev list : List Holder
  list = entries_of hs

  pub opening_fault : (n : ℕ) → n ≡ first (register_tests holder list) → (n ≡ 0 → ⊥) → untouched_with p e r hs n ≡ register_opened_for p e r hs o holder
  unfolding refused refusal
  opening_fault n t f = sym (stored_refused p e r hs _ f) ∙ ap (stored_with p e r hs) (opening_no_register o list holder n t f)

  module _ (h : Passed (register_tests holder list)) where
    pub opening_refused : ((opened_with p e r o).number ≡ 0 → ⊥) → with_list hs (opened_with p e r o) ≡ register_opened_for p e r hs o holder
    unfolding refused refusal untouched untouched_with
    opening_refused f =
        let g : (opening o).after.receipt.number ≡ 0 → ⊥ = λ y. f (accepted_number p e r hs (opening o) y) in
        ap (with_list hs) (same_refused p e r hs (opening o) g)
        ∙ sym (stored_refused p e r hs (record { given = record { after = refused zero_pool (opening o).after.receipt.number; entries = zero_entries }; holders = list }) g)
        ∙ ap (stored_with p e r hs) (opening_refuses o list holder h g)

    pub opening_given :
        (opened_with p e r o).number ≡ 0
        → with_list (numbers_of (with_opener (opener_of o holder) list)) (opened_with p e r o) ≡ register_opened_for p e r hs o holder
    opening_given z =
        let y = number_accepted p e r hs (opening o) z in
        same_accepted p e r hs (opening o) (with_opener (opener_of o holder) list) y ∙ ap (stored_with p e r hs) (opening_accepts o list holder h y)

  -- the supply that the record then holds is the opening's, at least the locked 100
  pub opening_supply :
      (opened_with p e r o).number ≡ 0
      → (at (opened_with p e r o).pool 8 ≡ (opening o).after.pool.books.supply) × (lock_lp_amount ≤ (opening o).after.pool.books.supply)
  unfolding stored opening_decision opening_tests ◌then◌
  opening_supply z =
      let y = number_accepted p e r hs (opening o) z in
      let a = (opening_number_tells o).where_accepted y in
      let t = a.passed in
      (rw (eq-eqb (opening o).after.receipt.number 0 y), rw a.result (omega (arith, ltb-false)))
