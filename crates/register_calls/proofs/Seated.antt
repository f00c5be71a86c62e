-- A holder's seat that was found in a list, and the entry that a deposit or a withdrawal changes from there.
-- Assumes nothing.
use Rattle.std.proofs.Common.{◌≡◌, ℕ, ◌<◌, ◌≤◌, Bool, true, false, eqb, List, [], ◌∷◌, length, set, Ok, Err, sym, refl, ap, ◌∙◌, eqb-true, ne_eqb, le-ltb}
use borrow.Author.Tests.{eqb-false}
use Rattle.refusal.specs.Tests.{Tests, first, outcome}
use Rattle.refusal.proofs.Stops.{Passed, numbered, outcome_all, outcome_stop, outcome_go}
use Rattle.refusal.proofs.Stages.{ok_ne_err, same_number, stage_passed, stage_value}
use Rattle.register.specs.declared.Holder.{Holder}
use Rattle.seats.specs.declared.Seat.{Seat}
use Rattle.seats.specs.declared.Change.{Change}
use Rattle.register.specs.Holders.{is_of, first_of, balance_of}
use Rattle.register.specs.Changes.{register_tests, credit_tests, place_of, credited, debit_tests, debited}
use Rattle.register.specs.Numbers.{entries_of}
use Rattle.seats.specs.Stages.{seat_in, seat_of, change_of}
use Rattle.seats.proofs.Changes.{changed, more, less, credit_seated, debit_seated}
use Rattle.register.proofs.Laws.{place_in, owner_in}
use Rattle.calls.specs.Registered.{last_tests, entered}
use Rattle.register_calls.specs.Lent.{balance_memory, balance_on}
use Rattle.register_calls.specs.Steps.{registered_call}

-- tests that refuse do so by their number, which is not 0
pub number_came :
    {X : Type 0} (v : X) (ts : Tests) (n : ℕ) → numbered ts ≡ true → outcome ts (λ n. Err n) (Ok v) ≡ Err n → (n ≡ first ts) × (n ≡ 0 → ⊥)
number_came {X} v ts n m e = go (eqb (first ts) 0) refl
  where
    go : (b : Bool) → eqb (first ts) 0 ≡ b → (n ≡ first ts) × (n ≡ 0 → ⊥)
    go true t = absurd (ok_ne_err (outcome_go ts (λ n. Err n) (Ok v) (first ts) m refl (eqb-true _ 0 t) ∙ e))
    go false t =
        let f = eqb-false _ 0 t in
        let same : n ≡ first ts = sym (same_number {X = X} (outcome_stop ts (λ n. Err n) (Ok v) (first ts) refl f ∙ e)) in
        (same, λ z. f (sym same ∙ z))

-- found: the list is a register, and the seat is the holder's
pub seat_found : (k : ℕ) (es : List Holder) (seat : Seat) → seat_of k es ≡ Ok seat → Passed (register_tests k es) × (seat ≡ seat_in k es)
unfolding seat_of
seat_found k es seat e =
    (stage_passed (seat_in k es) (register_tests k es) e, sym (stage_value (seat_in k es) (register_tests k es) e))

-- refused: by the tests' number
pub seat_refused : (k : ℕ) (es : List Holder) (n : ℕ) → seat_of k es ≡ Err n → (n ≡ first (register_tests k es)) × (n ≡ 0 → ⊥)
unfolding seat_of register_tests
seat_refused k es n e = number_came (seat_in k es) (register_tests k es) n refl e

-- one holder's balance
module _ (holders : List ℕ) (k : ℕ) (balance : List ℕ) where
  pub balance_refused : (n : ℕ) → seat_of k (entries_of holders) ≡ Err n → balance_memory n balance ≡ balance_on holders k balance
  unfolding balance_on
  balance_refused n e =
      let why = seat_refused k (entries_of holders) n e in
      outcome_stop (register_tests k (entries_of holders)) (λ n. balance_memory n balance) _ n why.0 why.1

  pub balance_read : (seat : Seat) → seat_of k (entries_of holders) ≡ Ok seat → balance_memory 0 (seat.balance ∷ []) ≡ balance_on holders k balance
  unfolding balance_on
  balance_read seat e =
      let found = seat_found k (entries_of holders) seat e in
      ap (λ (s : Seat). balance_memory 0 (s.balance ∷ [])) found.1
      ∙ outcome_all (register_tests k (entries_of holders)) (λ n. balance_memory n balance) _ found.0

-- ---- a change
-- what is known of the LP of a withdrawal that its own tests let through
abbrev pub Covered : Bool → ℕ → ℕ → List Holder → Type 0
Covered true k lp es = Unit {0}
Covered false k lp es = (lp ≡ 0 → ⊥) × (lp ≤ balance_of k es)

module _ (k lp limit0 limit1 : ℕ) (es : List Holder) where
  -- the entry that changes
  pub entry_changes :
      (b : Bool) (w : Change) → Covered b k lp es → change_of b lp (seat_in k es) ≡ Ok w
      → let c = registered_call b k lp limit0 limit1 in
      Passed (last_tests es c) × (w.place < length es) × (set es w.place w.entry ≡ entered es c)
  unfolding credit_tests credited debited
  entry_changes true w l e =
      let v = changed (place_of k es) (more k lp es) in
      let came = sym (credit_seated k lp es) ∙ e in
      let full = stage_passed v (credit_tests k lp es) came in
      let same : w ≡ v = sym (stage_value v (credit_tests k lp es) came) in
      (full, rw same (place_in k es full.1.0), rw same refl)
  entry_changes false w l e =
      let v = changed (first_of (is_of k) es) (less k lp es) in
      let same : w ≡ v = sym (stage_value v (debit_tests k lp es) (sym (debit_seated k lp es) ∙ e)) in
      (tt, rw same (owner_in k lp es l.0 l.1), rw same refl)

  -- none does: a deposit's last tests, and never a withdrawal that its own tests let through
  pub entry_stays :
      (b : Bool) (n : ℕ) → Covered b k lp es → change_of b lp (seat_in k es) ≡ Err n
      → (n ≡ first (last_tests es (registered_call b k lp limit0 limit1))) × (n ≡ 0 → ⊥)
  unfolding credit_tests debit_tests
  entry_stays true n l e =
      number_came (changed (place_of k es) (more k lp es)) (credit_tests k lp es) n refl (sym (credit_seated k lp es) ∙ e)
  entry_stays false n l e =
      let v = changed (first_of (is_of k) es) (less k lp es) in
      let all = outcome_all (debit_tests k lp es) (λ n. Err n) (Ok v) (ne_eqb lp 0 l.0, (le-ltb (balance_of k es) lp l.1, tt)) in
      absurd (ok_ne_err (all ∙ sym (debit_seated k lp es) ∙ e))
