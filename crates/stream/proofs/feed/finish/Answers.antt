-- `stream::feed::finish` meets its contract: no pool, nothing begun, or the last row answered (`Answering.antt`).
use mathlib.Core.Path.{◌≡◌, sym, ◌∙◌}
use native.Mathlib.Omega.{arith}
use lib.ListN.{take, length-take}
use Rattle.std.proofs.lemmas.Result.{err_from_is_err_and}
use Rattle.sheet.proofs.Taken.{record_tested}
use Rattle.stream.proofs.Holding.{least_begun}
use Rattle.stream.proofs.Answering.{end_no_record, none_begun, last_row}
use Rattle.stream.proofs.feed.finish.Goals as goal

pub returns-in_err-check_record : goal.returns-in_err-check_record
returns-in_err-check_record c =
    let args = c.args in
    let p = err_from_is_err_and c.from_residual.result c.from_residual.ensures.1 in
    rw (p.1, p.2)
    (end_no_record args.going.rates args.going.begun args.pool.now args.ring.now args.held.now args.output.now _ (sym c.check_record.ensures.0 ∙ c.in_err-check_record.was))

pub answer-rates-requires : goal.answer-rates-requires
answer-rates-requires c = (record_tested c.args.pool.now (sym c.check_record.ensures.0 ∙ c.in_ok-check_record.was), c.check_record.ensures.1)

pub returns-then-begun-eq0 : goal.returns-then-begun-eq0
returns-then-begun-eq0 c =
    let args = c.args in
    let says = sym c.check_record.ensures.0 ∙ c.in_ok-check_record.was in
    none_begun args.going.rates args.going.begun args.pool.now args.ring.now args.held.now args.output.now says
    (record_tested args.pool.now says, c.check_record.ensures.1) (omega (arith, c.min-begun.ensures))

pub returns : goal.returns
returns c =
    let args = c.args in
    let begun = args.going.begun in
    let held = args.held.now in
    let row : take c.min-begun.result held ≡ take begun held = rw c.min-begun.ensures (least_begun begun held (omega arith)) in
    last_row args.going.rates begun args.pool.now args.ring.now held args.output.now (sym c.check_record.ensures.0 ∙ c.in_ok-check_record.was)
    (take c.min-begun.result held) c.answer-rates.result c.answer-rates.new.pool c.answer-rates.new.ring c.answer-rates.new.output
    (rw (length-take begun held) (omega (arith, c.min-begun.ensures))) (omega arith) row c.answer-rates.ensures
