-- `register_calls::change_by` meets its contract.
use Rattle.std.proofs.Common.{sym, ◌∙◌}
use Rattle.register_calls.proofs.Changed.{fault_at}
use Rattle.register_calls.proofs.change_by.Goals as goal

pub returns-in-Err : goal.returns-in-Err
returns-in-Err c =
    let a = c.args in
    fault_at a.pool.now a.ring.now a.receipt.now a.holders.now a.is_deposit a.holder a.lp a.limit0 a.limit1 _ _ _
    (sym c.seat_of.ensures ∙ c.in-Err.is) (rw c.number.ensures at c.refuse.ensures)
