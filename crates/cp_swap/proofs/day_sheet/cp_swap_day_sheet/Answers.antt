-- `cp_swap::day_sheet::cp_swap_day_sheet` meets its contract.
use Rattle.cp_swap.proofs.SheetStores.{piece_stored}
use Rattle.cp_swap.proofs.day_sheet.cp_swap_day_sheet.Goals as goal

pub returns-in-Ok : goal.returns-in-Ok
returns-in-Ok c =
    let a = c.args in
    rw c.sheet_words.ensures (piece_stored a.pool.now a.ring.now a.sheet.now a.held.now a.output.now a.progress.now a.input.now c.going_of.ensures c.in-Ok.ensures)

pub returns-in-Err : goal.returns-in-Err
returns-in-Err c =
    let a = c.args in
    rw c.number.ensures (piece_stored a.pool.now a.ring.now a.sheet.now a.held.now a.output.now a.progress.now a.input.now c.going_of.ensures c.in-Err.ensures)
