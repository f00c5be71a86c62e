-- `rows::row::fill_row` meets its contract: six columns one after the other, and the newline (`RowWritten.antt`).
use Rattle.rows.proofs.RowWritten.{row_written}
use Rattle.rows.proofs.row.fill_row.Goals as goal

pub returns : goal.returns
returns c =
    let row = c.args.row in
    row_written c.args.out.now row.kind row.a row.b row.c row.d row.e c.requires
    c.write_column.ensures.1
    c.write_column-2.ensures.1
    c.write_column-3.ensures.1
    c.write_column-4.ensures.1
    c.write_column-5.ensures.1
    c.write_column-6.ensures.1
