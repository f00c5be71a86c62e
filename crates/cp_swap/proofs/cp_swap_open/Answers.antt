-- `cp_swap::cp_swap_open` meets its contract.
use mathlib.Core.Path.{◌∙◌, ap}
use Rattle.memory.specs.Memory.{opened_on}
use Rattle.memory.specs.Steps.{opened_with}
use Rattle.cp_swap.proofs.cp_swap_open.Goals as goal

pub returns : goal.returns
unfolding opened_on
returns c =
    let a = c.args in
    c.open_on.ensures
    ∙ ap (opened_with a.pool.now a.ring.now a.receipt.now) c.opening_of.ensures
