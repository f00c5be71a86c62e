-- `holders::seat_in` meets its contract.
use Rattle.std.proofs.Common.{ap, ◌∙◌}
use Rattle.seats.specs.Stages.{seat_of}
use Rattle.holders.proofs.Reading.{seat_read}
use Rattle.holders.proofs.seat_in.Goals as goal

pub returns : goal.returns
returns c = c.seat_of.ensures ∙ ap (seat_of c.args.holder) c.read.ensures ∙ seat_read c.args.holder c.args.holders.now
