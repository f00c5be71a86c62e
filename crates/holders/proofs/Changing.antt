-- What a credit and a debit answer, and the list that they leave: by the seat, and then by the change.
-- Assumes nothing.
use Rattle.std.proofs.Common.{◌≡◌, ℕ, ◌<◌, ◌≤◌, Bool, true, false, cond, List, [], ◌∷◌, length, set, Result, Ok, Err, sym, ap, ◌∙◌, arith, ltb-false}
use borrow.Author.Tests.{eqb-false}
use Rattle.refusal.specs.Tests.{Tests, ◌then◌, outcome, tested}
use Rattle.refusal.proofs.Stops.{Passed, outcome_all}
use Rattle.refusal.proofs.Stages.{ok_ne_err, same_number, stage_err, stage_passed, stage_value, stage_ok, tested_is}
use Rattle.register.specs.declared.Holder.{Holder}
use Rattle.register.specs.Holders.{is_of, first_of, balance_of}
use Rattle.register.specs.Changes.{register_tests, credit_tests, credited, debit_tests, debited, place_of}
use Rattle.register.proofs.Laws.{place_in, owner_in}
use Rattle.holders.specs.Lent.{credit_answers, credit_leaves, debit_answers, debit_leaves}
use Rattle.holders.specs.Stages.{answers, leaves}
use Rattle.seats.specs.declared.Seat.{Seat}
use Rattle.seats.specs.declared.Change.{Change}
use Rattle.seats.specs.Stages.{seat_in, seat_of, change_of}
use Rattle.seats.proofs.Changes.{changed, more, less, credit_seated, debit_seated}

-- a call's tests that refuse it: that number, and what is left where it is refused
refused :
    {X A : Type 0} (v : X) (ts : Tests) (n : ℕ) (bad : ℕ → A) (good : A) → outcome ts (λ n. Err n) (Ok v) ≡ Err n → bad n ≡ outcome ts bad good
unfolding outcome
refused v [] n bad good e = absurd (ok_ne_err e)
refused v (t ∷ ts) n bad good e = go t.0 e (refused v ts n bad good)
  where
    go :
        (b : Bool) → cond b (Err t.1) (outcome ts (λ n. Err n) (Ok v)) ≡ Err n → (outcome ts (λ n. Err n) (Ok v) ≡ Err n → bad n ≡ outcome ts bad good)
        → bad n ≡ cond b (bad t.1) (outcome ts bad good)
    go true e rest = ap bad (sym (same_number e))
    go false e rest = rest e

module _ (k : ℕ) (es : List Holder) (last : Tests) (v : Change) (change : Seat → Result Change ℕ) (is : change (seat_in k es) ≡ outcome last (λ n. Err n) (Ok v)) where
  abbrev all : Tests
  all = register_tests k es then last

  abbrev after : List Holder
  after = set es v.place v.entry

  pub no_seat : (n : ℕ) → seat_of k es ≡ Err n → (Err n ≡ tested all) × (es ≡ outcome all (λ n. es) after)
  unfolding seat_of
  no_seat n e = (
    stage_err (seat_in k es) (register_tests k es) last n (λ n. Err n) (Ok tt) e ∙ sym (tested_is all),
    stage_err (seat_in k es) (register_tests k es) last n (λ n. es) after e,
  )

  module _ {s : Seat} (seat : seat_of k es ≡ Ok s) where
    asked : change s ≡ outcome last (λ n. Err n) (Ok v)
    unfolding seat_of
    asked = ap change (sym (stage_value (seat_in k es) (register_tests k es) seat)) ∙ is

    -- past the register's tests the last ones decide
    decided : {A : Type 0} (bad : ℕ → A) (good : A) → outcome last bad good ≡ outcome all bad good
    unfolding seat_of
    decided bad good = stage_ok (seat_in k es) (register_tests k es) last bad good seat

    pub no_change : (n : ℕ) → change s ≡ Err n → (Err n ≡ tested all) × (es ≡ outcome all (λ n. es) after)
    no_change n e = (
      refused v last n (λ n. Err n) (Ok tt) (sym asked ∙ e) ∙ decided (λ n. Err n) (Ok tt) ∙ sym (tested_is all),
      refused v last n (λ n. es) after (sym asked ∙ e) ∙ decided (λ n. es) after,
    )

    module _ (w : Change) (e : change s ≡ Ok w) where
      pub passed : Passed last
      passed = stage_passed v last (sym asked ∙ e)

      pub same_change : v ≡ w
      same_change = stage_value v last (sym asked ∙ e)

      pub changes : (Ok tt ≡ tested all) × (set es w.place w.entry ≡ outcome all (λ n. es) after)
      changes = (
        outcome_all last (λ n. Err n) (Ok tt) passed ∙ decided (λ n. Err n) (Ok tt) ∙ sym (tested_is all),
        ap (λ (c : Change). set es c.place c.entry) (sym same_change) ∙ outcome_all last (λ n. es) after passed ∙ decided (λ n. es) after,
      )

-- ---- a credit, or a debit
module _ (k amount : ℕ) (es : List Holder) where
  abbrev last : Bool → Tests
  last true = credit_tests k amount es
  last false = debit_tests k amount es

  abbrev asks : Bool → Change
  asks true = changed (place_of k es) (more k amount es)
  asks false = changed (first_of (is_of k) es) (less k amount es)

  seated : (b : Bool) → change_of b amount (seat_in k es) ≡ outcome (last b) (λ n. Err n) (Ok (asks b))
  seated true = credit_seated k amount es
  seated false = debit_seated k amount es

  abbrev Changes : Bool → Result Unit ℕ → List Holder → Type 0
  Changes b r fs = (r ≡ tested (answers b k amount es)) × (fs ≡ leaves b k amount es)

  told :
      (b : Bool) (r : Result Unit ℕ) (fs : List Holder)
      → (r ≡ tested (register_tests k es then last b)) × (fs ≡ outcome (register_tests k es then last b) (λ n. es) (set es (asks b).place (asks b).entry))
      → Changes b r fs
  unfolding credit_answers credit_leaves credited debit_answers debit_leaves debited
  told true r fs h = h
  told false r fs h = h

  asks_inside : (b : Bool) → Passed (last b) → (asks b).place < length es
  unfolding credit_tests debit_tests
  asks_inside true h = place_in k es h.1.0
  asks_inside false h = owner_in k amount es (eqb-false amount 0 h.0) (ltb-false (balance_of k es) amount h.1.0)

  module _ (b : Bool) where
    pub refused_seat : (n : ℕ) → seat_of k es ≡ Err n → Changes b (Err n) es
    refused_seat n e = told b (Err n) es (no_seat k es (last b) (asks b) (change_of b amount) (seated b) n e)

    module _ {s : Seat} (seat : seat_of k es ≡ Ok s) where
      pub refused_change : (n : ℕ) → change_of b amount s ≡ Err n → Changes b (Err n) es
      refused_change n e = told b (Err n) es (no_change k es (last b) (asks b) (change_of b amount) (seated b) seat n e)

      module _ (w : Change) (e : change_of b amount s ≡ Ok w) where
        pub accepted_change : Changes b (Ok tt) (set es w.place w.entry)
        accepted_change = told b (Ok tt) (set es w.place w.entry) (changes k es (last b) (asks b) (change_of b amount) (seated b) seat w e)

        pub few : length es ≤ 256
        unfolding seat_of register_tests
        few = ltb-false 256 (length es) (stage_passed (seat_in k es) (register_tests k es) seat).1.0

        pub inside : w.place < length es
        inside =
            omega (
              arith,
              asks_inside b (passed k es (last b) (asks b) (change_of b amount) (seated b) seat w e),
              ap (λ (c : Change). c.place) (same_change k es (last b) (asks b) (change_of b amount) (seated b) seat w e),
            )
