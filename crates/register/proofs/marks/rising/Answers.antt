-- `register::marks::rising` meets its contract.
use Rattle.std.proofs.Common.{◌-◌, sym, arith}
use Rattle.register.specs.Numbers.{holders_of}
use Rattle.register.proofs.Pairs.{holders_length, holder_at}
use Rattle.register.proofs.Rising.{end_rising, free_rising, more_rising}
use Rattle.register.proofs.marks.rising.Goals as goal

pub loop-i-init : goal.loop-i-init
loop-i-init c = end_rising (holders_of c.args.entries.now) _ _ (sym (holders_length c.args.entries.now))

pub loop-i-preserved-then-balance-ne0 : goal.loop-i-preserved-then-balance-ne0
loop-i-preserved-then-balance-ne0 c =
    more_rising (holders_of c.args.entries.now) c.loop-i.next c.loop-i.i c.loop-i.invariant c.loop-i-test.true _
    (holder_at c.args.entries.now (c.loop-i.i - 1) (omega arith)) c.if-balance-ne0.true c.if-number-next.false

pub loop-i-preserved : goal.loop-i-preserved
loop-i-preserved c =
    free_rising (holders_of c.args.entries.now) c.loop-i.next c.loop-i.i c.loop-i.invariant c.loop-i-test.true _
    (holder_at c.args.entries.now (c.loop-i.i - 1) (omega arith)) c.if-balance-ne0.false
