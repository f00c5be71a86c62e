-- `day_sheet::answer_block` meets its contract: with room for an answer to each byte the whole block is answered, and nothing is refused.
use Rattle.std.proofs.Common.{arith, sym, ap}
use Rattle.refusal.proofs.Stages.{ok_ne_err}
use Rattle.stream.specs.Lent.{FedMemory}
use Rattle.stream.proofs.Bounds.{piece_whole}
use Rattle.day_sheet.proofs.answer_block.Goals as goal

pub unreachable-requires : goal.unreachable-requires
unreachable-requires c =
    let a = c.args in
    let whole =
    piece_whole a.going.rates a.going.begun a.pool.now a.ring.now a.held.now a.block.now a.output.now
    c.requires.0 (omega arith) c.in_default.ensures in
    ok_ne_err (sym (ap (λ (m : FedMemory). m.answer) whole))

pub returns : goal.returns
returns c =
    let a = c.args in
    piece_whole a.going.rates a.going.begun a.pool.now a.ring.now a.held.now a.block.now a.output.now
    c.requires.0 (omega arith) c.in-Ok.ensures
