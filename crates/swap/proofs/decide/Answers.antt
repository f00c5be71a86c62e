-- `swap::decide` meets its contract: what `accept` answers, as it is given (`Laws.antt`).
use Rattle.std.proofs.Common.{sym, ap, ◌∙◌}
use Rattle.oracle.specs.Ring.{seen}
use Rattle.swap.proofs.Laws.{given, given_is}
use Rattle.swap.proofs.decide.Goals as goal

pub returns-in-Ok : goal.returns-in-Ok
returns-in-Ok c =
    let a = c.args in
    ap (given a.terms a.status a.books a.ring (seen a.ring a.entries.now) a.direction a.amount a.limit a.clock a.by_input) (sym c.in-Ok.is ∙ c.accept.ensures) ∙ given_is a.terms a.status a.books a.ring (seen a.ring a.entries.now) a.direction a.amount a.limit a.clock a.by_input

pub returns-in-Err : goal.returns-in-Err
returns-in-Err c =
    let a = c.args in
    rw c.refused_swap.ensures (ap (given a.terms a.status a.books a.ring (seen a.ring a.entries.now) a.direction a.amount a.limit a.clock a.by_input) (sym c.in-Err.is ∙ c.accept.ensures) ∙ given_is a.terms a.status a.books a.ring (seen a.ring a.entries.now) a.direction a.amount a.limit a.clock a.by_input)
