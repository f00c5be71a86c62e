-- `refusal::refuse_if` meets its contract.
use Rattle.std.proofs.Common.{refl, arith}
use Rattle.refusal.proofs.OneByOne.{tested_from, tested_past}
use Rattle.refusal.proofs.refuse_if.Goals as goal

pub returns-then-fails : goal.returns-then-fails
returns-then-fails g c =
    rw (c.loop-fails.invariant, tested_from _ _ _ c.loop-fails-test.true c.loop-fails-item.is, c.if-fails.true) refl

pub loop-fails-preserved : goal.loop-fails-preserved
loop-fails-preserved g c =
    rw (c.loop-fails.invariant, tested_from _ _ _ c.loop-fails-test.true c.loop-fails-item.is, c.if-fails.false) refl

pub returns : goal.returns
returns g c = rw (c.loop-fails.invariant, tested_past c.args.tests.now c.loop-fails.fails-index (omega (arith, c.loop-fails-test.false))) refl
