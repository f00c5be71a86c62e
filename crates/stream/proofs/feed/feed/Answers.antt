-- `stream::feed::feed` meets its contract: no pool, no room for a row, no newline, or rows and what is left after them (`Leaving.antt`).
use Prim.Native.Nat.{◌<◌}
use mathlib.Core.Path.{◌≡◌, sym, ◌∙◌}
use native.Mathlib.Omega.{arith}
use lib.ListN.{length, take}
use Rattle.std.proofs.lemmas.Result.{err_from_is_err_and}
use Rattle.memory.specs.Steps.{IsRecord}
use Rattle.sheet.specs.Lent.{sheet_in}
use Rattle.sheet.proofs.Taken.{record_tested}
use Rattle.stream.specs.Pieces.{feed, left_by}
use Rattle.stream.specs.Lent.{FedMemory, left_words, fed_over}
use Rattle.stream.proofs.Holding.{begun_short}
use Rattle.stream.proofs.Leaving.{all_said, no_record, piece_fed, full, cut, first_row}
use Rattle.stream.proofs.feed.feed.Goals.{In_ok-check_record}
use Rattle.stream.proofs.feed.feed.Goals as goal

pub returns-in_err-check_record : goal.returns-in_err-check_record
returns-in_err-check_record c =
    let args = c.args in
    let p = err_from_is_err_and c.from_residual.result c.from_residual.ensures.1 in
    rw (p.1, p.2)
    (no_record args.going.rates args.going.begun args.pool.now args.ring.now args.held.now args.input.now args.output.now _ (sym c.check_record.ensures.0 ∙ c.in_err-check_record.was))

-- past the test the record is a pool's
is_record : (c : In_ok-check_record) → IsRecord c.args.pool.now
is_record c = (record_tested c.args.pool.now (sym c.check_record.ensures.0 ∙ c.in_ok-check_record.was), c.check_record.ensures.1)

-- and what is done is what the definition says
fed :
    (c : In_ok-check_record) {m : FedMemory} → let args = c.args in
    m ≡ left_words (left_by args.output.now (feed (length args.output.now) (sheet_in args.going.rates args.pool.now args.ring.now) (take args.going.begun args.held.now) args.input.now))
    → m ≡ fed_over args.going.rates args.going.begun args.pool.now args.ring.now args.held.now args.input.now args.output.now
fed c did =
    let args = c.args in
    piece_fed args.going.rates args.going.begun args.pool.now args.ring.now args.held.now args.input.now args.output.now
    (sym c.check_record.ensures.0 ∙ c.in_ok-check_record.was) did

pub returns-then-output-lt-ROW_BYTES : goal.returns-then-output-lt-ROW_BYTES
returns-then-output-lt-ROW_BYTES c =
    let here = (goal.at.returns-then-output-lt-ROW_BYTES c).In_ok-check_record in
    let args = c.args in
    let s = sheet_in args.going.rates args.pool.now args.ring.now in
    let begun = take args.going.begun args.held.now in
    fed here
    (all_said args.going.rates args.pool.now args.ring.now _ args.output.now _ c.carry-begun.new.held c.carry-begun.result 0 0 args.output.now
    (is_record here)
    (full s begun args.input.now args.output.now (begun_short args.going.begun args.held.now (omega arith)) (omega arith)) c.carry-begun.ensures.long c.carry-begun.ensures.all)

pub returns-then-n-input : goal.returns-then-n-input
returns-then-n-input c =
    let here = (goal.at.returns-then-n-input c).In_ok-check_record in
    let args = c.args in
    let s = sheet_in args.going.rates args.pool.now args.ring.now in
    let begun = take args.going.begun args.held.now in
    fed here
    (all_said args.going.rates args.pool.now args.ring.now _ args.output.now _ c.carry-begun-2.new.held c.carry-begun-2.result c.line_length-n.result 0 args.output.now
    (is_record here)
    (cut s begun args.input.now args.output.now (begun_short args.going.begun args.held.now (omega arith)) c.line_length-n.result (omega arith) c.line_length-n.ensures.is (omega arith))
    c.carry-begun-2.ensures.long c.carry-begun-2.ensures.all)

pub answer-rates-requires : goal.answer-rates-requires
answer-rates-requires c = is_record (goal.at.answer-rates-requires c).In_ok-check_record

pub whole_rows-rest-requires : goal.whole_rows-rest-requires
whole_rows-rest-requires c = (c.answer-rates.ensures.is_record, omega arith, omega (arith, c.answer-rates.auto.output))

pub returns : goal.returns
returns c =
    let here = (goal.at.returns c).In_ok-check_record in
    let args = c.args in
    let s = sheet_in args.going.rates args.pool.now args.ring.now in
    let begun = take args.going.begun args.held.now in
    let rest = c.whole_rows-rest in
    let first = c.answer-rates in
    let whole = feed (length args.output.now) s begun args.input.now in
    let ends : c.line_length-n.result < length args.input.now = omega arith in
    let midway =
    first_row s begun args.input.now args.output.now (begun_short args.going.begun args.held.now (omega arith)) c.line_length-n.result c.carry-begun-2.result c.carry-begun-2.new.held
    first.result first.new.pool first.new.ring first.new.output
    (omega arith) c.line_length-n.ensures.is ends c.carry-begun-2.ensures.long c.carry-begun-2.ensures.all first.ensures in
    fed here
    (all_said rest.result.rates rest.new.pool rest.new.ring whole args.output.now _ c.carry-begun-3.new.held c.carry-begun-3.result
    rest.result.end rest.result.written rest.new.output rest.ensures.from_le_end.2 (rest.ensures.through whole args.output.now midway)
    c.carry-begun-3.ensures.long c.carry-begun-3.ensures.all)
