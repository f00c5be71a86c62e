-- `cp_swap::registered::cp_swap_open_registered` meets its contract.
use mathlib.Core.Path.{◌∙◌, ap}
use Rattle.opening.specs.declared.Opening.{Opening}
use Rattle.register_calls.specs.Lent.{register_opened_on}
use Rattle.register_calls.specs.Steps.{register_opened_for}
use Rattle.cp_swap.proofs.registered.cp_swap_open_registered.Goals as goal

pub returns : goal.returns
unfolding register_opened_on
returns c =
    let a = c.args in
    c.open_by.ensures
    ∙ ap (λ (o : Opening). register_opened_for a.pool.now a.ring.now a.receipt.now a.holders.now o a.holder) c.opening_of.ensures
