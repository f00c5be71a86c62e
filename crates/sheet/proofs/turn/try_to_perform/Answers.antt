-- `sheet::turn::try_to_perform` meets its contract: no pool, a row that can't be read, or one that can (`Taken.antt`).
use mathlib.Core.Path.{◌≡◌, refl, sym, ◌∙◌}
use mathlib.Core.List.{List}
use Prim.Native.Nat.{ℕ}
use Rattle.std.specs.Prelude.{None}
use Rattle.std.proofs.lemmas.Result.{err_from_is_err_and}
use Rattle.refusal.specs.Refusal.{unreadable_row}
use Rattle.memory.specs.Steps.{IsRecord}
use Rattle.sheet.specs.Sheet.{perform}
use Rattle.sheet.proofs.Taken.{record_refused, record_tested, row_refused, row_performed}
use Rattle.sheet.proofs.turn.try_to_perform.Goals.{In_ok-check_record}
use Rattle.sheet.proofs.turn.try_to_perform.Goals as goal

pub returns-in_err-check_record : goal.returns-in_err-check_record
returns-in_err-check_record c =
    let a = c.args in
    let p = err_from_is_err_and c.from_residual.result c.from_residual.ensures.1 in
    rw (p.1, p.2) (record_refused a.rates a.pool.now a.ring.now a.row _ (sym c.check_record.ensures.0 ∙ c.in_err-check_record.was))

-- past its test the record is a pool's
is_record : (c : In_ok-check_record) → IsRecord c.args.pool.now
is_record c = (record_tested c.args.pool.now (sym c.check_record.ensures.0 ∙ c.in_ok-check_record.was), c.check_record.ensures.1)

pub returns-in_default : goal.returns-in_default
unfolding perform
returns-in_default c =
    let a = c.args in
    rw c.in_default.is
    (row_performed a.rates a.pool.now a.ring.now None (sym c.check_record.ensures.0 ∙ c.in_ok-check_record.was)
    (row_refused a.rates a.pool.now a.ring.now (is_record (goal.at.returns-in_default c).In_ok-check_record) unreadable_row refl))

pub perform_row-requires : goal.perform_row-requires
perform_row-requires c = is_record (goal.at.perform_row-requires c).In_ok-check_record

pub returns : goal.returns
returns c =
    let a = c.args in
    rw c.in-Some.is (row_performed a.rates a.pool.now a.ring.now _ (sym c.check_record.ensures.0 ∙ c.in_ok-check_record.was) c.perform_row.ensures)
