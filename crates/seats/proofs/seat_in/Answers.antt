-- `seats::seat_in` meets its contract.
use Rattle.seats.proofs.Seats.{own_seat, new_seat}
use Rattle.seats.proofs.seat_in.Goals as goal

pub returns-in-Some : goal.returns-in-Some
returns-in-Some c = own_seat c.args.holder c.args.entries.now c.in-Some.place c.in-Some.ensures

pub returns-in-None : goal.returns-in-None
returns-in-None c = new_seat c.args.holder c.args.entries.now _ c.in-None.ensures (rw c.free_place.ensures at c.ok_or.ensures.value)
