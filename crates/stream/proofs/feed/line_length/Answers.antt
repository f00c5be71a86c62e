-- `stream::feed::line_length` meets its contract: the bytes passed, and those before the first newline of the others.
use Prim.Native.Nat.{◌-◌}
use mathlib.Core.Path.{◌≡◌, ap, ◌∙◌}
use native.Mathlib.Omega.{arith}
use lib.ListN.{length, take, drop}
use Rattle.std.specs.Prelude.{unwrap_or}
use Rattle.std.proofs.lemmas.List.{take_rest}
use Rattle.stream.specs.Stages.{line_length}
use Rattle.stream.proofs.Lines.{at_position}
use Rattle.stream.proofs.feed.line_length.Goals as goal

pub returns-clause-is : goal.returns-clause-is
returns-clause-is c =
    let bytes = c.args.bytes.now in
    let passed = c.pass_row-passed.result in
    let rest = take (length bytes - passed) (drop passed bytes) in
    let left : c.unwrap_or.result ≡ line_length (drop passed bytes) =
    c.unwrap_or.ensures ∙ ap (λ at. unwrap_or at (length rest)) c.first_newline.ensures ∙ at_position rest ∙ ap line_length (take_rest bytes passed) in
    omega (arith, left, c.pass_row-passed.ensures)
