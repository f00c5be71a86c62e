-- `stream::feed::answer` meets its contract: the row is done, and its answer stands in its place (`Answering.antt`).
use Rattle.stream.proofs.Answering.{answered}
use Rattle.stream.proofs.feed.answer.Goals as goal

pub returns : goal.returns
returns c =
    let args = c.args in
    let left = c.perform-after.new in
    answered args.rates args.pool.now args.ring.now _ c.perform-after.result left.pool left.ring left.receipt args.output.now args.at
    c.receipt_of-shown.result c.amounts_of-amounts.result c.holdings_of-held.result
    c.requires c.read_row.ensures c.perform-after.ensures c.receipt_of-shown.ensures c.amounts_of-amounts.ensures c.holdings_of-held.ensures
    c.write_row_at.ensures.1
