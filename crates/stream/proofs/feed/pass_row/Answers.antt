-- `stream::feed::pass_row` meets its contract: bytes with no newline among them stand before whatever follows.
use mathlib.Core.Path.{sym, ◌∙◌}
use native.Mathlib.Omega.{arith}
use Rattle.stream.proofs.Lines.{none_among}
use Rattle.stream.proofs.feed.pass_row.Goals as goal

pub returns : goal.returns
returns c = none_among 102 c.args.bytes.now (omega arith) (sym c.contains.ensures.value ∙ c.if-contains.false)
