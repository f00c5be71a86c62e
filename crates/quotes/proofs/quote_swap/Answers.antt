-- `quotes::quote_swap` meets its contract: each exit is one of the stages (`Laws.antt`).
use Rattle.std.proofs.Common.{◌≡◌, ℕ, [], ◌∷◌, sym, ◌∙◌}
use Rattle.std.specs.Prelude.{Ok, Err, eqb}
use Rattle.std.proofs.lemmas.Result.{err_from_is_err_and}
use borrow.Author.Tests.{eq-eqb, ne_eqb}
use Rattle.refusal.specs.Refusal.{require_violated}
use Rattle.refusal.specs.Tests.{tested}
use Rattle.quotes.proofs.Laws.{stages_are}
use Rattle.quotes.proofs.quote_swap.Goals as goal

-- what is at the vault
none : (n : ℕ) → n ≡ 0 → tested ((eqb n 0, require_violated) ∷ []) ≡ Err require_violated
unfolding tested
none n e = simp (eq-eqb n 0 e)

some : (n : ℕ) → (n ≡ 0 → ⊥) → tested ((eqb n 0, require_violated) ∷ []) ≡ Ok tt
unfolding tested
some n h = simp (ne_eqb n 0 h)

pub returns-in_err-check_front : goal.returns-in_err-check_front
returns-in_err-check_front c =
    let a = c.args in
    let p = err_from_is_err_and c.from_residual.result c.from_residual.ensures.1 in
    rw (p.1, p.2, ← stages_are a.by_input a.terms a.status a.books a.direction a.amount a.limit a.clock) (simp (sym c.check_front.ensures ∙ c.in_err-check_front.was))

pub returns-in_err-near : goal.returns-in_err-near
returns-in_err-near c =
    let a = c.args in
    let p = err_from_is_err_and c.from_residual-in_err-near.result c.from_residual-in_err-near.ensures.1 in
    rw (p.1, p.2, ← stages_are a.by_input a.terms a.status a.books a.direction a.amount a.limit a.clock) (simp (sym c.check_front.ensures ∙ c.in_ok-check_front.was, sym c.move_near.ensures ∙ c.in_err-near.was))

pub returns-then-near-eq0 : goal.returns-then-near-eq0
returns-then-near-eq0 c =
    let a = c.args in
    rw (← stages_are a.by_input a.terms a.status a.books a.direction a.amount a.limit a.clock) (simp (sym c.check_front.ensures ∙ c.in_ok-check_front.was, sym c.move_near.ensures ∙ c.in_ok-near.was, none _ c.if-near-eq0.true))

pub returns-in_err-nets : goal.returns-in_err-nets
returns-in_err-nets c =
    let a = c.args in
    let p = err_from_is_err_and c.from_residual-in_err-nets.result c.from_residual-in_err-nets.ensures.1 in
    rw (p.1, p.2, ← stages_are a.by_input a.terms a.status a.books a.direction a.amount a.limit a.clock) (simp (sym c.check_front.ensures ∙ c.in_ok-check_front.was, sym c.move_near.ensures ∙ c.in_ok-near.was, some _ c.if-near-eq0.false, sym c.find_nets.ensures ∙ c.in_err-nets.was))

pub returns-in_err-result : goal.returns-in_err-result
returns-in_err-result c =
    let a = c.args in
    let p = err_from_is_err_and c.from_residual-in_err-result.result c.from_residual-in_err-result.ensures.1 in
    rw (p.1, p.2, ← stages_are a.by_input a.terms a.status a.books a.direction a.amount a.limit a.clock) (simp (sym c.check_front.ensures ∙ c.in_ok-check_front.was, sym c.move_near.ensures ∙ c.in_ok-near.was, some _ c.if-near-eq0.false, sym c.find_nets.ensures ∙ c.in_ok-nets.was, sym c.calculate.ensures ∙ c.in_err-result.was))

pub returns-in_err-far : goal.returns-in_err-far
returns-in_err-far c =
    let a = c.args in
    let p = err_from_is_err_and c.from_residual-in_err-far.result c.from_residual-in_err-far.ensures.1 in
    rw (p.1, p.2, ← stages_are a.by_input a.terms a.status a.books a.direction a.amount a.limit a.clock) (simp (sym c.check_front.ensures ∙ c.in_ok-check_front.was, sym c.move_near.ensures ∙ c.in_ok-near.was, some _ c.if-near-eq0.false, sym c.find_nets.ensures ∙ c.in_ok-nets.was, sym c.calculate.ensures ∙ c.in_ok-result.was, sym c.move_far.ensures ∙ c.in_err-far.was))

pub returns-in_err-check_limit : goal.returns-in_err-check_limit
returns-in_err-check_limit c =
    let a = c.args in
    let p = err_from_is_err_and c.from_residual-in_err-check_limit.result c.from_residual-in_err-check_limit.ensures.1 in
    rw (p.1, p.2, ← stages_are a.by_input a.terms a.status a.books a.direction a.amount a.limit a.clock) (simp (sym c.check_front.ensures ∙ c.in_ok-check_front.was, sym c.move_near.ensures ∙ c.in_ok-near.was, some _ c.if-near-eq0.false, sym c.find_nets.ensures ∙ c.in_ok-nets.was, sym c.calculate.ensures ∙ c.in_ok-result.was, sym c.move_far.ensures ∙ c.in_ok-far.was, sym c.check_limit.ensures ∙ c.in_err-check_limit.was))

pub returns : goal.returns
returns c =
    let a = c.args in
    rw (c.charged_for.ensures, c.near_token.ensures, ← stages_are a.by_input a.terms a.status a.books a.direction a.amount a.limit a.clock) (simp (sym c.check_front.ensures ∙ c.in_ok-check_front.was, sym c.move_near.ensures ∙ c.in_ok-near.was, some _ c.if-near-eq0.false, sym c.find_nets.ensures ∙ c.in_ok-nets.was, sym c.calculate.ensures ∙ c.in_ok-result.was, sym c.move_far.ensures ∙ c.in_ok-far.was, sym c.check_limit.ensures ∙ c.in_ok-check_limit.was))
