-- `holders::read` meets its contract.
use Rattle.std.proofs.Common.{◌≡◌, length, ap, ◌∙◌, arith}
use Rattle.register.specs.Numbers.{entries_of}
use Rattle.holders.specs.Stages.{readable}
use Rattle.holders.proofs.Reading.{none_read, all_read, read_whole}
use Rattle.holders.proofs.read.Goals.{then-holders-gt-MOST_HOLDERS, else-holders-gt-MOST_HOLDERS}
use Rattle.holders.proofs.read.Goals as goal

pub returns : goal.returns
returns c =
    let es = c.if-holders-gt-MOST_HOLDERS.entries.now in
    let all : c.loop-i.i ≡ length es = omega arith in
    let whole = read_whole es c.loop-i.pairs (rw all at c.loop-i.invariant) in
    let is : es ≡ readable c.args.holders.now = elim c.if-holders-gt-MOST_HOLDERS.branch [
      | then-holders-gt-MOST_HOLDERS w ↦ rw w.entries-is (none_read c.args.holders.now w.if-holders-gt-MOST_HOLDERS.true)
      | else-holders-gt-MOST_HOLDERS w ↦ rw w.entries-is (all_read c.args.holders.now w.if-holders-gt-MOST_HOLDERS.false)
    ] in
    ap entries_of c.as_flattened.ensures.value ∙ whole ∙ is
