-- `holders::change` meets its contract.
use Rattle.std.proofs.Common.{sym, ◌∙◌, arith}
use Rattle.std.proofs.lemmas.Result.{err_from_is_err_and}
use Rattle.holders.proofs.Changing.{refused_seat, refused_change, accepted_change, few, inside}
use Rattle.holders.proofs.change.Goals as goal

pub returns-in_err-seat_in : goal.returns-in_err-seat_in
returns-in_err-seat_in c =
    let p = err_from_is_err_and c.from_residual.result c.from_residual.ensures.1 in
    rw (p.1, p.2) (refused_seat c.args.holder c.args.amount c.args.holders.now c.args.is_credit _ (sym c.seat_in.ensures ∙ c.in_err-seat_in.was))

pub returns-in_err-change : goal.returns-in_err-change
returns-in_err-change c =
    let p = err_from_is_err_and c.from_residual-in_err-change.result c.from_residual-in_err-change.ensures.1 in
    rw (p.1, p.2) (refused_change c.args.holder c.args.amount c.args.holders.now c.args.is_credit (sym c.seat_in.ensures ∙ c.in_ok-seat_in.was) _ (sym c.change.ensures ∙ c.in_err-change.was))

pub offset_bounds-holders-change : goal.offset_bounds-holders-change
offset_bounds-holders-change c =
    let seat = sym c.seat_in.ensures ∙ c.in_ok-seat_in.was in
    let is = sym c.change.ensures ∙ c.in_ok-change.was in
    omega (arith, few c.args.holder c.args.amount c.args.holders.now c.args.is_credit seat c.in_ok-change.change is, inside c.args.holder c.args.amount c.args.holders.now c.args.is_credit seat c.in_ok-change.change is)

pub bounds-holders-change : goal.bounds-holders-change
bounds-holders-change c = inside c.args.holder c.args.amount c.args.holders.now c.args.is_credit (sym c.seat_in.ensures ∙ c.in_ok-seat_in.was) c.in_ok-change.change (sym c.change.ensures ∙ c.in_ok-change.was)

pub returns : goal.returns
returns c = accepted_change c.args.holder c.args.amount c.args.holders.now c.args.is_credit (sym c.seat_in.ensures ∙ c.in_ok-seat_in.was) c.in_ok-change.change (sym c.change.ensures ∙ c.in_ok-change.was)
