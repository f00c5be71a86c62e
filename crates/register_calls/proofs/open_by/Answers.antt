-- `register_calls::open_by` meets its contract.
use Rattle.std.proofs.Common.{sym, ◌∙◌, arith}
use Rattle.register_calls.proofs.Opened.{fault_left, some_entry, refused_left, locked, accepted_left}
use Rattle.register_calls.proofs.open_by.Goals as goal

pub returns-in-Err : goal.returns-in-Err
returns-in-Err c =
    let a = c.args in
    fault_left a.pool.now a.ring.now a.receipt.now a.holders.now a.opening a.holder _ (sym c.check_register.ensures ∙ c.in-Err.is) _ _ (rw c.number.ensures at c.refuse.ensures)

pub returns-then-number-ne-ACCEPTED : goal.returns-then-number-ne-ACCEPTED
returns-then-number-ne-ACCEPTED c =
    let a = c.args in
    refused_left a.pool.now a.ring.now a.receipt.now a.holders.now a.opening a.holder (sym c.check_register.ensures ∙ c.in_default.is) _ _ _ _ c.open_on-number.ensures c.if-number-ne-ACCEPTED.true

pub overflow_sub-opener : goal.overflow_sub-opener
overflow_sub-opener c = let a = c.args in
    omega (arith, locked a.pool.now a.ring.now a.receipt.now a.holders.now a.opening a.holder (sym c.check_register.ensures ∙ c.in_default.is) _ _ _ _ c.open_on-number.ensures c.if-number-ne-ACCEPTED.false)

pub enter_opener-requires : goal.enter_opener-requires
enter_opener-requires c =
    let a = c.args in
    some_entry a.pool.now a.ring.now a.receipt.now a.holders.now a.opening a.holder (sym c.check_register.ensures ∙ c.in_default.is)

pub returns : goal.returns
returns c =
    let a = c.args in
    accepted_left a.pool.now a.ring.now a.receipt.now a.holders.now a.opening a.holder (sym c.check_register.ensures ∙ c.in_default.is) _ _ _ _ c.open_on-number.ensures c.if-number-ne-ACCEPTED.false _
    c.enter_opener.ensures
