-- `stream::feed::append` meets its contract.
use native.Mathlib.Omega.{arith}
use Rattle.stream.proofs.Holding.{all_appended}
use Rattle.stream.proofs.feed.append.Goals as goal

pub returns : goal.returns
returns c =
    let args = c.args in
    let put =
    all_appended args.held.now c.loop-i.held args.part.now args.begun c.min-n.result c.loop-i.i
    c.requires.0 c.requires.1 c.min-n.ensures (omega (arith, c.loop-i.auto.i-end, c.loop-i-test.false)) c.loop-i.invariant.1 in
    (put.0, put.1, c.loop-i.invariant.0)
