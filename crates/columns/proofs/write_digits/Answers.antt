-- `columns::write_digits` meets its contract, step by step (`ColumnWritten.antt`).
use Prim.Native.Nat.{ℕ, ◌-◌}
use mathlib.Core.Path.{sym, ap, ◌∙◌}
use native.Mathlib.Omega.{arith}
use lib.ListN.{length, length-set}
use Rattle.columns.specs.Column.{column}
use Rattle.columns.proofs.ColumnWritten.{last_written, two_written, first_written, all_written}
use Rattle.columns.proofs.write_digits.Goals as goal

pub loop-at-init : goal.loop-at-init
loop-at-init c =
    let part = c.args.part.now in record {
      within = simp length-set (omega arith);
      column = rw length-set (last_written part (length part - 1) _ c.args.value (omega arith) c.last_digit.ensures);
    }

pub loop-at-preserved : goal.loop-at-preserved
loop-at-preserved c =
    let loop = c.loop-at in record {
      within = simp length-set (omega arith);
      column = simp length-set
          (two_written loop.part loop.at loop.rest _ _ (omega arith) (omega arith) c.ones_or_blank.ensures c.tens_or_blank.ensures ∙ loop.invariant.column);
    }

pub returns-then-at-gt0 : goal.returns-then-at-gt0
returns-then-at-gt0 c =
    let loop = c.loop-at in
    sym (first_written loop.part loop.at loop.rest _ (omega arith) (omega arith) c.ones_or_blank-then-at-gt0.ensures)
    ∙ loop.invariant.column
    ∙ ap (λ n. column n c.args.value) (omega (arith, length-set {A = ℕ}))

pub returns-else-at-gt0 : goal.returns-else-at-gt0
returns-else-at-gt0 c =
    let loop = c.loop-at in
    sym (all_written loop.part loop.at loop.rest (omega arith)) ∙ loop.invariant.column ∙ ap (λ n. column n c.args.value) (omega (arith, length-set {A = ℕ}))
