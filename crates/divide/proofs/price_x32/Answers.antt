-- `divide::price_x32` meets its contract: below 2 ^ 32 by one division, else a / b and what is left of a are scaled apart (`floor_parted`).
use Rattle.std.proofs.Common.{ℕ, ◌+◌, ◌*◌, ◌/◌, ◌^◌, sym, ap, ◌∙◌}
use Rattle.divide.proofs.Long.{floor_parted, point_value}
use Rattle.divide.proofs.price_x32.Goals as goal

pub returns : goal.returns
returns c =
    let q = c.div_rem_short-parts.result.quotient in
    point_value q c.fraction_x32-fraction.result
    ∙ ap (λ (f : ℕ). q * 2 ^ 32 + f) c.fraction_x32-fraction.ensures
    ∙ (λ i. (c.div_rem_short-parts.ensures i).quotient * 2 ^ 32 + (c.div_rem_short-parts.ensures i).remainder * 2 ^ 32 / c.args.b)
    ∙ sym (floor_parted c.args.a (2 ^ 32) c.args.b c.requires)
