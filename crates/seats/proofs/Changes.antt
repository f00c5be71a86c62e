-- What a credit and a debit change from a holder's seat, by the register's own tests.
-- Assumes nothing.
use Rattle.std.proofs.Common.{◌≡◌, ℕ, ◌+◌, ◌-◌, ◌≤◌, Bool, true, false, cond, List, [], ◌∷◌, Ok, Err, refl, ◌∙◌, ap, ltb-false}
use borrow.Author.Tests.{eqb-false}
use Rattle.refusal.specs.Refusal.{math_overflow, register_full}
use Rattle.refusal.specs.Tests.{Tests, past, outcome}
use Rattle.refusal.proofs.Stops.{Passed}
use Rattle.register.specs.declared.Holder.{Holder}
use Rattle.register.specs.Holders.{is_of, first_of, balance_of}
use Rattle.register.specs.Changes.{is_full, place_of, credit_tests, debit_tests}
use Rattle.register.proofs.Laws.{same_place}
use Rattle.seats.specs.declared.Change.{Change}
use Rattle.seats.specs.Stages.{seat_in, either_place, entry_at, credit_of, debit_of}

-- what is accepted counts only past all tests
outcome_same :
    {A : Type 0} (ts : Tests) (refused : ℕ → A) {a b : A} → (Passed ts → a ≡ b) → outcome ts refused a ≡ outcome ts refused b
unfolding outcome
outcome_same [] refused e = e tt
outcome_same {A} (t ∷ ts) refused {a} {b} e = go t.0 refl (λ h. outcome_same ts refused (λ p. e (h, p)))
  where
    go :
        (c : Bool) → t.0 ≡ c → (t.0 ≡ false → outcome ts refused a ≡ outcome ts refused b)
        → cond c (refused t.1) (outcome ts refused a) ≡ cond c (refused t.1) (outcome ts refused b)
    go true h rest = refl
    go false h rest = rest h

abbrev pub changed : ℕ → Holder → Change
changed place entry = record { place = place; entry = entry }

at_place : (full : Bool) (place n : ℕ) (e : Holder) → entry_at (cond full (Err place) (Ok place)) n e ≡ cond full (Err n) (Ok (changed place e))
at_place true place n e = refl
at_place false place n e = refl

its_place : (full : Bool) (place : ℕ) → either_place (cond full (Err place) (Ok place)) ≡ place
its_place true place = refl
its_place false place = refl

module _ (k amount : ℕ) (es : List Holder) where
  abbrev pub more : Holder
  more = record { number = k; balance = balance_of k es + amount }

  abbrev pub less : Holder
  less = record { number = k; balance = balance_of k es - amount }

  pub credit_seated : credit_of amount (seat_in k es) ≡ outcome (credit_tests k amount es) Err (Ok (changed (place_of k es) more))
  unfolding credit_of credit_tests outcome
  credit_seated =
      ap (cond (past (balance_of k es + amount)) (Err math_overflow)) (at_place (is_full k es) (place_of k es) register_full more)

  -- a debit that its tests let through goes to the holder's entry
  to_entry : Passed (debit_tests k amount es) → either_place (seat_in k es).place ≡ first_of (is_of k) es
  unfolding debit_tests
  to_entry h =
      let some-lp : amount ≡ 0 → ⊥ = eqb-false amount 0 h.0 in
      let enough : amount ≤ balance_of k es = ltb-false (balance_of k es) amount h.1.0 in
      its_place (is_full k es) (place_of k es) ∙ same_place k amount es some-lp enough

  pub debit_seated : debit_of amount (seat_in k es) ≡ outcome (debit_tests k amount es) Err (Ok (changed (first_of (is_of k) es) less))
  unfolding debit_of debit_tests
  debit_seated = outcome_same (debit_tests k amount es) (λ n. Err n) (λ h. ap (λ (i : ℕ). Ok (changed i less)) (to_entry h))
