-- Document 01's example comes out byte for byte, by computation.
-- Assumes nothing.
use mathlib.Core.Path.{refl}
use Rattle.refusal.specs.Tests.{first}
use Rattle.calls.proofs.Unfolded.{all}
use Rattle.columns.specs.Column.{read_digits, in_range, read_column, blanks_before, column}
use Rattle.rows.specs.Row.{read_row, write_row, rows_from}
use Rattle.sheet.specs.Sheet.{empty_sheet, keep_rates, replaced, perform, yielded, run, day_sheet}
use Rattle.edges.specs.Example.{bytes_then, rows_of, input, output, Example}

pub example : Example
unfolding all first read_digits in_range read_column blanks_before column read_row write_row rows_from empty_sheet keep_rates replaced perform yielded run day_sheet bytes_then rows_of input output
example = refl
