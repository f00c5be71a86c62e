-- `day_sheet::main` reads, answers and writes: the record is a pool's at the start and after each block, and no more is written than the
-- output holds.
use Rattle.std.proofs.Common.{◌≤◌, length, refl, sym, arith}
use Rattle.std.proofs.Math.Seq.{length-take-le}
use Rattle.refusal.specs.Tests.{first}
use Rattle.memory.specs.Memory.{record_tests}
use Rattle.stream.proofs.Bounds.{left_record, left_within}
use Rattle.day_sheet.proofs.main.Goals.{After-answer_block-fed}
use Rattle.day_sheet.proofs.main.Goals as goal

pub pieces-init : goal.pieces-init
unfolding first record_tests
pieces-init c = (refl, (refl, refl))

fits : (c : After-answer_block-fed) → c.answer_block-fed.result.written ≤ length c.answer_block-fed.new.output
fits c = left_within _ _ c.answer_block-fed.ensures

pub slice_bounds-output-end : goal.slice_bounds-output-end
slice_bounds-output-end c = fits (goal.at.slice_bounds-output-end c).After-answer_block-fed

pub slice_bounds-write_rows-end : goal.slice_bounds-write_rows-end
slice_bounds-write_rows-end c = sym (length-take-le _ _ (fits (goal.at.slice_bounds-write_rows-end c).After-answer_block-fed))

pub pieces-preserved : goal.pieces-preserved
pieces-preserved c = (omega arith, left_record _ _ c.answer_block-fed.ensures)
