-- A call with a register is refused, and leaves all as it was, or it gives what the call without one gives, and the list with its one entry changed.
-- Assumes nothing.
use Prim.Native.Nat.{ℕ}
use mathlib.Core.Path.{◌≡◌, refl, sym, ap, ◌∙◌}
use mathlib.Core.Bool.{Bool, true, false, cond, not, false≢true}
use mathlib.Core.List.{List}
use lib.Dec.{eqb}
use borrow.Author.Tests.{eqb-true, eq-eqb, not-true, not-false}
use Rattle.refusal.specs.Tests.{Tests, ◌then◌, first}
use Rattle.refusal.proofs.Stops.{Passed, Sure, sure, sure_then, outcome_cases, outcome_stop, outcome_all, passed_left, passed_right, stopped, gone}
use Rattle.receipt.specs.Receipt.{refusal}
use Rattle.register.specs.declared.Holder.{Holder}
use Rattle.register.specs.Changes.{register_tests, with_opener, credit_tests}
use Rattle.opening.specs.declared.Opening.{Opening}
use Rattle.pool.specs.State.{refused, Done, done}
use Rattle.pool.specs.Calls.{zero_pool, zero_entries, opening}
use Rattle.calls.specs.Next.{State, state_of, next}
use Rattle.calls.specs.Registered.{Registered, deposit, withdraw, holder_of, without_register, own_tests, last_tests, registered_tests, entered, Entered, next_with, opening_tests_with, opener_of, opening_with}
use Rattle.calls.specs.Refused.{LeavesList}

abbrev pub number_in : Entered → ℕ
number_in e = e.given.after.receipt.number

-- a call's own tests give no 0 where they fail, and are passed where it is accepted
own_sure : (d : Done) → Sure (own_tests d)
own_sure d = ((λ f z. false≢true (sym (not-true _ f) ∙ eq-eqb _ 0 z)), tt)

own_passed : (d : Done) → Passed (own_tests d) → d.after.receipt.number ≡ 0
own_passed d h = eqb-true _ 0 (not-false _ h.0)

own_first : (d : Done) → d.after.receipt.number ≡ first (own_tests d)
unfolding first
own_first d = go (eqb d.after.receipt.number 0) refl
  where
    go : (b : Bool) → eqb d.after.receipt.number 0 ≡ b → d.after.receipt.number ≡ cond (not b) d.after.receipt.number 0
    go true e = eqb-true _ 0 e
    go false e = refl

passed_own : (d : Done) → d.after.receipt.number ≡ 0 → Passed (own_tests d)
passed_own d z = (ap not (eq-eqb _ 0 z), tt)

-- a refusal: what was there, and the number with zeros
left_alone : (s : State) (es : List Holder) (n : ℕ) → LeavesList s es (record { given = done (refused s.pool n) s.entries; holders = es })
unfolding refused refusal
left_alone s es n = record { all = record { unchanged = refl; zeros = refl }; list = refl }

-- ---- deposit and withdrawal
pub record AcceptedWith (s : State) (es : List Holder) (c : Registered) (e : Entered) : Type 0 where
  pub registered : Passed (register_tests (holder_of c) es)
  pub own : (next s (without_register es c)).after.receipt.number ≡ 0
  pub last : Passed (last_tests es c)
  pub given : e.given ≡ next s (without_register es c)
  pub holders : e.holders ≡ entered es c

pub record TellsWith (s : State) (es : List Holder) (c : Registered) (e : Entered) : Type 0 where
  pub where_refused : (number_in e ≡ 0 → ⊥) → LeavesList s es e
  pub where_accepted : number_in e ≡ 0 → AcceptedWith s es c e

module _ (s : State) (es : List Holder) (c : Registered) where
  abbrev behind : Tests
  behind = own_tests (next s (without_register es c)) then last_tests es c

  last_sure : Sure (last_tests es c)
  unfolding credit_tests
  last_sure = go c
    where
      go : (c : Registered) → Sure (last_tests es c)
      go (deposit holder lp maximum0 maximum1) = sure (credit_tests holder lp es) refl
      go (withdraw holder lp minimum0 minimum1) = tt

  tests_sure : Sure (registered_tests s es c)
  unfolding registered_tests register_tests
  tests_sure =
      sure_then (register_tests (holder_of c) es) behind (sure (register_tests (holder_of c) es) refl)
      (sure_then (own_tests (next s (without_register es c))) (last_tests es c) (own_sure (next s (without_register es c))) last_sure)

  refused_tells : (n : ℕ) → (n ≡ 0 → ⊥) → TellsWith s es c (record { given = done (refused s.pool n) s.entries; holders = es })
  unfolding refused refusal
  refused_tells n f = record { where_refused = λ g. left_alone s es n; where_accepted = λ z. absurd (f z) }

  passed_tells : Passed (registered_tests s es c) → TellsWith s es c (record { given = next s (without_register es c); holders = entered es c })
  unfolding registered_tests
  passed_tells h =
      let d = next s (without_register es c) in
      let more : Passed behind = passed_right (register_tests (holder_of c) es) behind h in
      let z = own_passed d (passed_left (own_tests d) (last_tests es c) more) in
      record {
        where_refused = λ f. absurd (f z);
        where_accepted = λ e.
            record {
              registered = passed_left (register_tests (holder_of c) es) behind h;
              own = z;
              last = passed_right (own_tests d) (last_tests es c) more;
              given = refl;
              holders = refl;
            };
      }

  pub entered_tells : TellsWith s es c (next_with s es c)
  unfolding next_with
  entered_tells = outcome_cases (TellsWith s es c) (registered_tests s es c) _ _ tests_sure refused_tells passed_tells

  -- the same by what is known: the list is no register; it is one, and the call's own tests refuse, or a deposit's last, or none of them
  abbrev refusal_at : ℕ → Entered
  refusal_at n = record { given = done (refused s.pool n) s.entries; holders = es }

  abbrev d : Done
  d = next s (without_register es c)

  abbrev accepted_at_lem : Entered
  accepted_at_lem = record { given = d; holders = entered es c }

  pub no_register : (n : ℕ) → n ≡ first (register_tests (holder_of c) es) → (n ≡ 0 → ⊥) → refusal_at n ≡ next_with s es c
  unfolding next_with registered_tests
  no_register n e f = stopped (register_tests (holder_of c) es) behind refusal_at accepted_at_lem (refusal_at n) n e f refl

  module _ (h : Passed (register_tests (holder_of c) es)) where
    pub own_refuses : (d.after.receipt.number ≡ 0 → ⊥) → refusal_at d.after.receipt.number ≡ next_with s es c
    unfolding next_with registered_tests
    own_refuses f =
        gone (register_tests (holder_of c) es) behind refusal_at accepted_at_lem _ h
        (stopped (own_tests d) (last_tests es c) refusal_at accepted_at_lem _ d.after.receipt.number (own_first d) f refl)

    module _ (z : d.after.receipt.number ≡ 0) where
      pub last_refuses : (n : ℕ) → n ≡ first (last_tests es c) → (n ≡ 0 → ⊥) → refusal_at n ≡ next_with s es c
      unfolding next_with registered_tests
      last_refuses n e f =
          gone (register_tests (holder_of c) es) behind refusal_at accepted_at_lem _ h
          (gone (own_tests d) (last_tests es c) refusal_at accepted_at_lem _ (passed_own d z) (outcome_stop (last_tests es c) refusal_at accepted_at_lem n e f))

      pub none_refuses : Passed (last_tests es c) → accepted_at_lem ≡ next_with s es c
      unfolding next_with registered_tests
      none_refuses l =
          gone (register_tests (holder_of c) es) behind refusal_at accepted_at_lem _ h
          (gone (own_tests d) (last_tests es c) refusal_at accepted_at_lem _ (passed_own d z) (outcome_all (last_tests es c) refusal_at accepted_at_lem l))

  -- what holds of every refusal at the point, and of the call without a register there, holds of the call with one
  pub entered_given : (P : Done → Type 0) → ((n : ℕ) → P (done (refused s.pool n) s.entries)) → P (next s (without_register es c)) → P (next_with s es c).given
  unfolding next_with
  entered_given P bad good = outcome_cases (λ (e : Entered). P e.given) (registered_tests s es c) _ _ tests_sure (λ n f. bad n) (λ h. good)

-- ---- opening
pub record OpenedWith (o : Opening) (es : List Holder) (holder : ℕ) (e : Entered) : Type 0 where
  pub registered : Passed (register_tests holder es)
  pub own : (opening o).after.receipt.number ≡ 0
  pub given : e.given ≡ opening o
  pub holders : e.holders ≡ with_opener (opener_of o holder) es

pub record OpeningTells (o : Opening) (es : List Holder) (holder : ℕ) (e : Entered) : Type 0 where
  pub where_refused : (number_in e ≡ 0 → ⊥) → LeavesList (state_of zero_pool zero_entries) es e
  pub where_accepted : number_in e ≡ 0 → OpenedWith o es holder e

pub opened_tells : (o : Opening) (es : List Holder) (holder : ℕ) → OpeningTells o es holder (opening_with o es holder)
unfolding opening_with opening_tests_with register_tests refused refusal
opened_tells o es holder =
    outcome_cases (OpeningTells o es holder) (opening_tests_with o es holder) _ _
    (sure_then (register_tests holder es) (own_tests (opening o)) (sure (register_tests holder es) refl) (own_sure (opening o)))
    (λ n f. record { where_refused = λ g. left_alone (state_of zero_pool zero_entries) es n; where_accepted = λ z. absurd (f z) })
    (λ h.
    let z = own_passed (opening o) (passed_right (register_tests holder es) (own_tests (opening o)) h) in
    record {
      where_refused = λ f. absurd (f z);
      where_accepted = λ e.
          record { registered = passed_left (register_tests holder es) (own_tests (opening o)) h; own = z; given = refl; holders = refl };
    })

module _ (o : Opening) (es : List Holder) (holder : ℕ) where
  abbrev refused_opening_lem : ℕ → Entered
  refused_opening_lem n = record { given = done (refused zero_pool n) zero_entries; holders = es }

  abbrev accepted_opening : Entered
  accepted_opening = record { given = opening o; holders = with_opener (opener_of o holder) es }

  pub opening_no_register : (n : ℕ) → n ≡ first (register_tests holder es) → (n ≡ 0 → ⊥) → refused_opening_lem n ≡ opening_with o es holder
  unfolding opening_with opening_tests_with
  opening_no_register n e f = stopped (register_tests holder es) (own_tests (opening o)) refused_opening_lem accepted_opening (refused_opening_lem n) n e f refl

  module _ (h : Passed (register_tests holder es)) where
    pub opening_refuses : ((opening o).after.receipt.number ≡ 0 → ⊥) → refused_opening_lem (opening o).after.receipt.number ≡ opening_with o es holder
    unfolding opening_with opening_tests_with
    opening_refuses f =
        gone (register_tests holder es) (own_tests (opening o)) refused_opening_lem accepted_opening _ h
        (outcome_stop (own_tests (opening o)) refused_opening_lem accepted_opening (opening o).after.receipt.number (own_first (opening o)) f)

    pub opening_accepts : (opening o).after.receipt.number ≡ 0 → accepted_opening ≡ opening_with o es holder
    unfolding opening_with opening_tests_with
    opening_accepts z =
        gone (register_tests holder es) (own_tests (opening o)) refused_opening_lem accepted_opening _ h
        (outcome_all (own_tests (opening o)) refused_opening_lem accepted_opening (passed_own (opening o) z))
