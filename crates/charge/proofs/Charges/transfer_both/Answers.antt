-- `charge::Charges::transfer_both` meets its contract: what the second transfer gives, past the first.
use mathlib.Core.Path.{sym, ◌∙◌}
use Rattle.std.proofs.lemmas.Result.{err_from_is_err_and}
use Rattle.charge.proofs.FarEnds.{second_refuses, none_refuses}
use Rattle.charge.proofs.Charges.transfer_both.Goals as goal

pub returns-in_err-end1 : goal.returns-in_err-end1
returns-in_err-end1 c =
    let p = err_from_is_err_and c.from_residual-in_err-end1.result c.from_residual-in_err-end1.ensures.1 in
    rw (p.1, p.2) (second_refuses _ _ _ _ (sym c.transfer.ensures ∙ c.in_ok-end0.was) (sym c.transfer-2.ensures ∙ c.in_err-end1.was))

pub returns : goal.returns
returns c = none_refuses _ _ _ _ (sym c.transfer.ensures ∙ c.in_ok-end0.was) (sym c.transfer-2.ensures ∙ c.in_ok-end1.was)
