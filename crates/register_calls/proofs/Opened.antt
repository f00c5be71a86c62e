-- What the opening without a register left, and the list with the opener alone, are what the opening with a register leaves.
-- Assumes nothing.
use Prim.Native.Nat.{ℕ, ◌-◌, ◌<◌, ◌≤◌}
use mathlib.Core.Path.{◌≡◌, refl, sym, ap, ◌∙◌}
use mathlib.Core.List.{List}
use native.Mathlib.Omega.{arith}
use lib.ListN.{length, get_or}
use borrow.Author.Tests.{eqb-false}
use Rattle.std.specs.Prelude.{Ok, Err}
use Rattle.refusal.specs.Tests.{tested}
use Rattle.refusal.proofs.Stops.{Passed}
use Rattle.refusal.proofs.Stages.{stage_passed, tested_is}
use Rattle.accounting.specs.Locked.{lock_lp_amount}
use Rattle.receipt.specs.Receipt.{refusal}
use Rattle.register.specs.Changes.{register_tests, with_opener}
use Rattle.register.specs.Numbers.{entries_of, numbers_of}
use Rattle.opening.specs.declared.Opening.{Opening}
use Rattle.pool.specs.Calls.{opening}
use Rattle.calls.specs.Registered.{opener_of}
use Rattle.words.specs.Words.{receipt_words}
use Rattle.memory.specs.Memory.{Memory, memory}
use Rattle.memory.specs.Steps.{opened_with}
use Rattle.register_calls.specs.Lent.{register_memory, untouched_with}
use Rattle.register_calls.specs.Steps.{register_opened_for}
use Rattle.register_calls.proofs.Seated.{number_came}
use Rattle.register_calls.proofs.Called.{with_list, opening_fault, opening_refused, opening_given, opening_supply}

module _ (p e r hs : List ℕ) (o : Opening) (holder : ℕ) where
  pub fault_left :
      (k : ℕ) → tested (register_tests holder (entries_of hs)) ≡ Err k → (m : ℕ) (r'' : List ℕ) → (m ≡ k) × (r'' ≡ receipt_words (refusal k))
      → register_memory m p e r'' hs ≡ register_opened_for p e r hs o holder
  unfolding untouched_with register_tests
  fault_left k t m r'' refused =
      let why = number_came tt (register_tests holder (entries_of hs)) k refl (sym (tested_is (register_tests holder (entries_of hs))) ∙ t) in
      (λ t. register_memory (refused.0 t) p e (refused.1 t) hs) ∙ opening_fault p e r hs o holder k why.0 why.1

  module _ (y : tested (register_tests holder (entries_of hs)) ≡ Ok tt) where
    passed : Passed (register_tests holder (entries_of hs))
    passed = stage_passed tt (register_tests holder (entries_of hs)) (sym (tested_is (register_tests holder (entries_of hs))) ∙ y)

    pub some_entry : 0 < length (entries_of hs)
    unfolding register_tests
    some_entry = omega (arith, eqb-false (length (entries_of hs)) 0 passed.0)

    module _ (n : ℕ) (p' e' r' : List ℕ) (left : memory n p' e' r' ≡ opened_with p e r o) where
      number_is : n ≡ (opened_with p e r o).number
      number_is = ap (λ (m : Memory). m.number) left

      pub refused_left : (n ≡ 0 → ⊥) → register_memory n p' e' r' hs ≡ register_opened_for p e r hs o holder
      refused_left f = ap (with_list hs) left ∙ opening_refused p e r hs o holder passed (λ z. f (number_is ∙ z))

      module _ (z : n ≡ 0) where
        supply_is : get_or p' 8 0 ≡ (opening o).after.pool.books.supply
        supply_is = ap (λ (m : Memory). get_or m.pool 8 0) left ∙ (opening_supply p e r hs o holder (sym number_is ∙ z)).0

        pub locked : lock_lp_amount ≤ get_or p' 8 0
        locked = omega (arith, supply_is, (opening_supply p e r hs o holder (sym number_is ∙ z)).1)

        pub accepted_left :
            (hs' : List ℕ) → hs' ≡ numbers_of (with_opener (record { number = holder; balance = get_or p' 8 0 - lock_lp_amount }) (entries_of hs))
            → register_memory 0 p' e' r' hs' ≡ register_opened_for p e r hs o holder
        accepted_left hs' written =
            (λ t. register_memory (sym z t) p' e' r' ((written ∙ ap (λ (supply : ℕ). numbers_of (with_opener (record { number = holder; balance = supply - lock_lp_amount }) (entries_of hs))) supply_is) t))
            ∙ ap (with_list (numbers_of (with_opener (opener_of o holder) (entries_of hs)))) left
            ∙ opening_given p e r hs o holder passed (sym number_is ∙ z)
