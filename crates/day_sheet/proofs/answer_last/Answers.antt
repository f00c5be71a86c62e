-- `day_sheet::answer_last` is safe: no more than the row was written.
use Rattle.std.proofs.Common.{sym}
use Rattle.std.proofs.Math.Seq.{length-take-le}
use Rattle.stream.proofs.Bounds.{ended_within}
use Rattle.day_sheet.proofs.answer_last.Goals as goal

pub slice_bounds-output-end : goal.slice_bounds-output-end
slice_bounds-output-end g c =
    let a = c.args in
    ended_within a.going.rates a.going.begun a.pool.now a.ring.now a.held.now _ c.requires c.in-Ok.ensures

pub slice_bounds-write_rows-end : goal.slice_bounds-write_rows-end
slice_bounds-write_rows-end g c =
    let a = c.args in
    sym (length-take-le _ _ (ended_within a.going.rates a.going.begun a.pool.now a.ring.now a.held.now _ c.requires c.in-Ok.ensures))
