-- What is refused leaves pool and ring as they were and gives its number and zeros; number 0 means that every test is passed.
-- Assumes nothing.
use mathlib.Core.Path.{◌≡◌, refl, sym, ◌∙◌}
use mathlib.Core.Bool.{Bool, true, false}
use lib.Dec.{eqb}
use borrow.Author.Tests.{eqb-true, eqb-false}
use Rattle.refusal.specs.Tests.{first}
use Rattle.refusal.proofs.Stops.{Passed, outcome_go, outcome_stop, first_passed}
use Rattle.receipt.specs.Receipt.{refusal}
use Rattle.pool.specs.State.{refused, Done}
use Rattle.opening.specs.declared.Opening.{Opening}
use Rattle.pool.specs.Calls.{opening}
use Rattle.calls.specs.declared.Call.{Call}
use Rattle.calls.specs.Next.{State, next, left}
use Rattle.calls.specs.Refused.{RefusalsLeaveAll}
use Rattle.calls.proofs.Entries.{entered_tells, opened_tells}
use Rattle.calls.proofs.Decisions.{Decision, decision, opening_decision, refused_at, zero_state, number_of, Decides, call_decides, opening_decides}

-- refused: pool and ring unchanged, the number of the first test that fails, and zero amounts
pub record Refused (s : State) (k : Decision) (d : Done) : Type 0 where
  pub unchanged : left d ≡ s
  pub number_first : number_of d ≡ first k.tests
  pub zeros : d.after.receipt ≡ refusal (number_of d)

-- accepted: every test is passed, and the result is the accepted one
pub record Accepted (k : Decision) (d : Done) : Type 0 where
  pub passed : Passed k.tests
  pub result : d ≡ k.accepted

-- each result is the one or the other, and its number says which
pub record NumberTells (s : State) (k : Decision) (d : Done) : Type 0 where
  pub where_refused : (number_of d ≡ 0 → ⊥) → Refused s k d
  pub where_accepted : number_of d ≡ 0 → Accepted k d

module _ {s : State} {k : Decision} {d : Done} (h : Decides s k d) where
  no_test_fails : first k.tests ≡ 0 → Accepted k d
  no_test_fails e = record {
    passed = first_passed k.tests h.tests_numbered (sym e);
    result = h.by_tests ∙ sym (outcome_go k.tests (refused_at s) k.accepted (first k.tests) h.tests_numbered refl e);
  }

  a_test_fails : (first k.tests ≡ 0 → ⊥) → d ≡ refused_at s (first k.tests)
  a_test_fails f = h.by_tests ∙ sym (outcome_stop k.tests (refused_at s) k.accepted (first k.tests) refl f)

  pub number_tells : NumberTells s k d
  unfolding refused refusal
  number_tells = record {
    where_refused = λ f.
        let e = a_test_fails (λ e. f (rw (no_test_fails e).result h.accepted_zero)) in
        record { unchanged = rw e; number_first = rw e; zeros = rw e };
    where_accepted = go (eqb (first k.tests) 0) refl;
  }
    where
      go : (b : Bool) → eqb (first k.tests) 0 ≡ b → number_of d ≡ 0 → Accepted k d
      go true g e = no_test_fails (eqb-true _ _ g)
      go false g e = let f = eqb-false _ _ g in absurd (f (rw (a_test_fails f) at e))

-- of every call at every point, and of every opening
pub call_number_tells : (s : State) (c : Call) → NumberTells s (decision s c) (next s c)
call_number_tells s c = number_tells (call_decides s c)

pub opening_number_tells : (o : Opening) → NumberTells zero_state (opening_decision o) (opening o)
opening_number_tells o = number_tells (opening_decides o)

-- ---- demand 1
pub refusals_leave_all : RefusalsLeaveAll
unfolding RefusalsLeaveAll
refusals_leave_all = (
  λ s c f. let r = (call_number_tells s c).where_refused f in record { unchanged = r.unchanged; zeros = r.zeros },
  λ o f. let r = (opening_number_tells o).where_refused f in record { unchanged = r.unchanged; zeros = r.zeros },
  λ s es c f. (entered_tells s es c).where_refused f,
  λ o es holder f. (opened_tells o es holder).where_refused f,
)
