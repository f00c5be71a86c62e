-- `register::marks::apart` meets its contract.
use Rattle.std.proofs.Common.{◌-◌, sym, ◌∙◌, arith}
use Rattle.register.specs.Numbers.{holders_of}
use Rattle.register.proofs.Pairs.{holders_length, holder_at}
use Rattle.register.proofs.Back.{end_behind, zero_refused, twice_refused, free_behind, once_behind}
use Rattle.register.proofs.marks.apart.Goals as goal

pub loop-i-init : goal.loop-i-init
loop-i-init c =
    let ps = c.args.entries.now in
    end_behind _ (holders_of ps) _ (omega (arith, c.requires, holders_length ps)) (sym (holders_length ps))

pub returns-then-number-eq0 : goal.returns-then-number-eq0
returns-then-number-eq0 c =
    let ps = c.args.entries.now in
    zero_refused _ (holders_of ps) _ _ c.loop-i.i c.loop-i.invariant c.loop-i-test.true _ (holder_at ps (c.loop-i.i - 1) (omega arith))
    c.if-balance-ne0.true c.if-number-eq0.true

pub returns-then-stands_behind : goal.returns-then-stands_behind
returns-then-stands_behind c =
    let ps = c.args.entries.now in
    twice_refused _ (holders_of ps) _ _ c.loop-i.i c.loop-i.invariant c.loop-i-test.true _ (holder_at ps (c.loop-i.i - 1) (omega arith))
    c.if-balance-ne0.true c.if-number-eq0.false (sym c.stands_behind.ensures ∙ c.if-stands_behind.true)

pub loop-i-preserved-else-stands_behind : goal.loop-i-preserved-else-stands_behind
loop-i-preserved-else-stands_behind c =
    let ps = c.args.entries.now in
    once_behind _ (holders_of ps) _ _ c.loop-i.i c.loop-i.invariant c.loop-i-test.true _ (holder_at ps (c.loop-i.i - 1) (omega arith))
    c.if-balance-ne0.true _ c.mark_of-mark.ensures.0 c.mark_of-mark.ensures.1 c.if-number-eq0.false
    (sym c.stands_behind.ensures ∙ c.if-stands_behind.false)

pub loop-i-preserved : goal.loop-i-preserved
loop-i-preserved c =
    let ps = c.args.entries.now in
    free_behind _ (holders_of ps) _ _ c.loop-i.i c.loop-i.invariant c.loop-i-test.true _ (holder_at ps (c.loop-i.i - 1) (omega arith))
    c.if-balance-ne0.false
