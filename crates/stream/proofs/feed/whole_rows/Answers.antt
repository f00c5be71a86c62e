-- `stream::feed::whole_rows` meets its contract. The loop's invariant: the rows up to a place are answered, and the others have still to be.
use Prim.Native.Nat.{◌+◌, ◌≤◌, ◌<◌}
use mathlib.Core.Path.{ap, ◌∙◌}
use mathlib.Core.List.{[]}
use native.Mathlib.Omega.{arith}
use native.Mathlib.Nat.{sub_self}
use lib.ListN.{length, take, drop}
use Rattle.stream.proofs.Lines.{Line, line_found}
use Rattle.stream.proofs.Taking.{whole_line, next_row, no_more_room, no_more_lines}
use Rattle.stream.proofs.feed.whole_rows.Goals.{After-line_length-n, Else-n-bytes}
use Rattle.stream.proofs.feed.whole_rows.Goals as goal

-- the bytes that are left, and how many stand before the next newline
found : (c : After-line_length-n) → Line c.args.input.now c.loop-output.from c.line_length-n.result
found c = line_found c.args.input.now c.loop-output.from c.line_length-n.result c.line_length-n.ensures.is

pub returns-then-n-bytes-clause-through : goal.returns-then-n-bytes-clause-through
returns-then-n-bytes-clause-through c =
    let here = goal.at.returns-then-n-bytes-clause-through c in
    let line = found here.After-line_length-n in
    λ whole before m.
    let k = c.loop-output.invariant.3 whole before m in
    rw line.rest
    (no_more_lines whole before c.args.input.now _ [] c.loop-output.from c.loop-output.written c.loop-output.output k (omega arith) (omega (arith, k.fills.long))
    c.loop-output.invariant.0 (omega (arith, line.is, line.long)))

-- a newline is among them
ends : (c : Else-n-bytes) → c.line_length-n.result < length (drop c.loop-output.from c.args.input.now)
ends c = let line = found (goal.at.Else-n-bytes c).After-line_length-n in omega (arith, line.within, ap length line.rest)

-- the row with its newline is within the input
fits : (c : Else-n-bytes) → c.loop-output.from + (c.line_length-n.result + 1) ≤ length c.args.input.now
fits c = omega (arith, ends c, (found (goal.at.Else-n-bytes c).After-line_length-n).long)

pub loop-output-preserved : goal.loop-output-preserved
loop-output-preserved c =
    let here = goal.at.loop-output-preserved c in
    let line = found here.After-line_length-n in
    let n = c.line_length-n.result in
    let input = c.args.input.now in
    let left = c.answer-rates.new in
    let same = c.answer-rates.auto.output in (
      fits here.Else-n-bytes,
      omega (arith, same),
      same ∙ c.loop-output.invariant.2,
      (λ whole before m.
          let k = c.loop-output.invariant.3 whole before m in
          next_row whole before input _ [] c.loop-output.from c.loop-output.written c.loop-output.output k n _ c.answer-rates.result left.pool left.ring left.output
          (omega arith) (omega (arith, k.fills.long)) line.is (ends here.Else-n-bytes) (whole_line _ (take n (drop c.loop-output.from input)))
          (rw line.rest at c.answer-rates.ensures)),
      c.answer-rates.ensures.is_record,
    )

pub returns-clause-through : goal.returns-clause-through
returns-clause-through c =
    λ whole before m.
    let k = c.loop-output.invariant.3 whole before m in
    rw (sub_self c.loop-output.from)
    (no_more_room whole before c.args.input.now _ [] c.loop-output.from c.loop-output.written c.loop-output.output k (omega (arith, k.fills.long)))
