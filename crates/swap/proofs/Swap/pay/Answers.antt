-- `swap::Swap::pay` meets its contract: each exit is one of the stages (`Laws.antt`).
use Rattle.std.proofs.Common.{sym, ◌∙◌}
use Rattle.std.proofs.lemmas.Result.{err_from_is_err_and}
use Rattle.swap.proofs.Laws.{books_are}
use Rattle.swap.proofs.Swap.pay.Goals as goal

pub returns-in_err-fees : goal.returns-in_err-fees
returns-in_err-fees c =
    let a = c.args in
    let p = err_from_is_err_and c.from_residual.result c.from_residual.ensures.1 in
    rw (p.1, p.2, ← books_are a.self.zero_in a.self.zero_fee a.self.quote.result a.books) (simp (sym c.booked.ensures ∙ c.in_err-fees.was))

pub returns-in_err-paid_in : goal.returns-in_err-paid_in
returns-in_err-paid_in c =
    let a = c.args in
    let p = err_from_is_err_and c.from_residual-in_err-paid_in.result c.from_residual-in_err-paid_in.ensures.1 in
    rw (p.1, p.2, ← books_are a.self.zero_in a.self.zero_fee a.self.quote.result a.books)
    (simp (sym c.booked.ensures ∙ c.in_ok-fees.was, ← c.of_token-vault_in.ensures, sym c.pay_in.ensures ∙ c.in_err-paid_in.was))

pub returns : goal.returns
returns c =
    let a = c.args in
    rw (← books_are a.self.zero_in a.self.zero_fee a.self.quote.result a.books)
    (simp (sym c.booked.ensures ∙ c.in_ok-fees.was, ← c.of_token-vault_in.ensures, sym c.pay_in.ensures ∙ c.in_ok-paid_in.was, c.of_token.ensures, c.of_token-2.ensures, c.of_token-vault_out.ensures))
