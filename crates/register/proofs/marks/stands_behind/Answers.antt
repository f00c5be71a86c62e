-- `register::marks::stands_behind` meets its contract.
use Rattle.std.proofs.Common.{arith}
use Rattle.register.specs.Numbers.{holders_of}
use Rattle.register.proofs.Pairs.{holders_length, holder_at}
use Rattle.register.proofs.Walk.{walk_start, walk_on, walk_found, walk_past}
use Rattle.register.proofs.marks.stands_behind.Goals as goal

pub loop-i-init : goal.loop-i-init
loop-i-init c = walk_start c.args.links.now (holders_of c.args.entries.now) c.args.at c.requires

pub returns-then-number-own : goal.returns-then-number-own
returns-then-number-own c =
    let ps = c.args.entries.now in
    walk_found c.args.links.now (holders_of ps) c.args.at c.loop-i.i c.loop-i.invariant _ _ (holder_at ps c.loop-i.i c.loop-i-test.true)
    (holder_at ps c.args.at (omega (arith, c.requires.inside, holders_length ps))) (omega (arith, holders_length ps)) c.if-number-own.true

pub loop-i-preserved : goal.loop-i-preserved
loop-i-preserved c =
    let ps = c.args.entries.now in
    walk_on c.args.links.now (holders_of ps) c.args.at c.loop-i.i c.loop-i.invariant _ _ (holder_at ps c.loop-i.i c.loop-i-test.true)
    (holder_at ps c.args.at (omega (arith, c.requires.inside, holders_length ps))) (omega (arith, holders_length ps)) c.if-number-own.false

pub returns : goal.returns
returns c =
    walk_past c.args.links.now (holders_of c.args.entries.now) c.args.at c.loop-i.i c.loop-i.invariant (omega (arith, holders_length c.args.entries.now))
