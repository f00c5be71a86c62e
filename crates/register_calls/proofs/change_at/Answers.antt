-- `register_calls::change_at` meets its contract.
use mathlib.Core.Path.{sym, ◌∙◌}
use native.Mathlib.Omega.{arith}
use Rattle.register_calls.proofs.Changed.{refused_at_lem, tried_at, last_at, entry_in, accepted_at_lem}
use Rattle.register_calls.proofs.change_at.Goals as goal

pub returns-then-tried-ne-ACCEPTED : goal.returns-then-tried-ne-ACCEPTED
returns-then-tried-ne-ACCEPTED c =
    let a = c.args in
    tried_at a.pool.now a.ring.now a.receipt.now a.holders.now a.seat a.is_deposit a.lp a.limit0 a.limit1 c.requires _ _ _ _
    c.change_on-tried.ensures c.if-tried-ne-ACCEPTED.true

pub returns-then-number-ne-ACCEPTED : goal.returns-then-number-ne-ACCEPTED
returns-then-number-ne-ACCEPTED c =
    let a = c.args in
    refused_at_lem a.pool.now a.ring.now a.receipt.now a.holders.now a.seat a.is_deposit a.lp a.limit0 a.limit1 c.requires _ _ _ _
    c.change_on-number.ensures c.if-number-ne-ACCEPTED.true

pub enter-requires : goal.enter-requires
enter-requires c =
    let a = c.args in
    omega (
      arith,
      entry_in a.pool.now a.ring.now a.receipt.now a.holders.now a.seat a.is_deposit a.lp a.limit0 a.limit1 c.requires _ _ _ _
          c.change_on-number.ensures c.if-number-ne-ACCEPTED.false _ (sym c.change.ensures ∙ c.in-Ok.is),
    )

pub returns-else-tried-ne-ACCEPTED : goal.returns-else-tried-ne-ACCEPTED
returns-else-tried-ne-ACCEPTED c =
    let a = c.args in
    last_at a.pool.now a.ring.now a.receipt.now a.holders.now a.seat a.is_deposit a.lp a.limit0 a.limit1 c.requires _ _ _ _
    c.change_on-tried.ensures c.if-tried-ne-ACCEPTED.false _ _ _ (sym c.change.ensures ∙ c.in-Err.is) (rw c.number.ensures at c.refuse.ensures)

pub returns-else-number-ne-ACCEPTED : goal.returns-else-number-ne-ACCEPTED
returns-else-number-ne-ACCEPTED c =
    let a = c.args in
    accepted_at_lem a.pool.now a.ring.now a.receipt.now a.holders.now a.seat a.is_deposit a.lp a.limit0 a.limit1 c.requires _ _ _ _
    c.change_on-number.ensures c.if-number-ne-ACCEPTED.false _ (sym c.change.ensures ∙ c.in-Ok.is) _ c.enter.ensures
