-- `swap::accept` meets its contract: each exit is one of the stages (`Laws.antt`).
use Rattle.std.proofs.Common.{sym, ◌∙◌}
use Rattle.std.proofs.lemmas.Result.{err_from_is_err_and}
use Rattle.oracle.specs.Ring.{seen}
use Rattle.quotes.proofs.Laws.{quote_covered}
use Rattle.swap.proofs.Laws.{stages_are}
use Rattle.swap.proofs.accept.Goals as goal

pub returns-in_err-quote : goal.returns-in_err-quote
returns-in_err-quote c =
    let a = c.args in
    let p = err_from_is_err_and c.from_residual.result c.from_residual.ensures.1 in
    rw (p.1, p.2, ← stages_are a.terms a.status a.books a.ring (seen a.ring a.entries.now) a.direction a.amount a.limit a.clock a.by_input) (simp (sym c.quote_swap.ensures ∙ c.in_err-quote.was))

pub pay-requires : goal.pay-requires
pay-requires c =
    let a = c.args in
    quote_covered a.by_input a.terms a.status a.books a.direction a.amount a.limit a.clock (sym c.quote_swap.ensures ∙ c.in_ok-quote.was)

pub returns-in_err-paid : goal.returns-in_err-paid
returns-in_err-paid c =
    let a = c.args in
    let p = err_from_is_err_and c.from_residual-in_err-paid.result c.from_residual-in_err-paid.ensures.1 in
    let paid = rw (c.creator_token.ensures, c.is_creator_fee_on_input-fee_on_input.ensures) at (sym c.pay.ensures ∙ c.in_err-paid.was) in
    rw (p.1, p.2, ← stages_are a.terms a.status a.books a.ring (seen a.ring a.entries.now) a.direction a.amount a.limit a.clock a.by_input) (simp (sym c.quote_swap.ensures ∙ c.in_ok-quote.was, paid))

pub returns-in_err-update : goal.returns-in_err-update
returns-in_err-update c =
    let a = c.args in
    let p = err_from_is_err_and c.from_residual-in_err-update.result c.from_residual-in_err-update.ensures.1 in
    let paid = rw (c.creator_token.ensures, c.is_creator_fee_on_input-fee_on_input.ensures) at (sym c.pay.ensures ∙ c.in_ok-paid.was) in
    let update = rw c.seen.ensures at (sym c.observe.ensures ∙ c.in_err-update.was) in
    rw (p.1, p.2, ← stages_are a.terms a.status a.books a.ring (seen a.ring a.entries.now) a.direction a.amount a.limit a.clock a.by_input) (simp (sym c.quote_swap.ensures ∙ c.in_ok-quote.was, paid, update))

pub returns : goal.returns
returns c =
    let a = c.args in
    let paid = rw (c.creator_token.ensures, c.is_creator_fee_on_input-fee_on_input.ensures) at (sym c.pay.ensures ∙ c.in_ok-paid.was) in
    let update = rw c.seen.ensures at (sym c.observe.ensures ∙ c.in_ok-update.was) in
    rw (c.after.ensures, c.receipt.ensures, c.creator_token.ensures, c.is_creator_fee_on_input-fee_on_input.ensures, ← stages_are a.terms a.status a.books a.ring (seen a.ring a.entries.now) a.direction a.amount a.limit a.clock a.by_input) (simp (sym c.quote_swap.ensures ∙ c.in_ok-quote.was, paid, update))
