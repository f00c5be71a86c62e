-- `wide::widening_mul` meets its contract: the product is four products of halves (`halves`), and the rest is linear.
use Rattle.std.proofs.Common.{◌*◌, ◌/◌, ◌%◌, ◌^◌, sym, refl, ◌∙◌}
use Rattle.wide.proofs.Halves.{halves, columns}
use Rattle.wide.proofs.widening_mul.Goals as goal

pub returns : goal.returns
returns c =
    let a = c.args.a in
    let b = c.args.b in
    columns (a % 2 ^ 32 * (b % 2 ^ 32)) (a % 2 ^ 32 * (b / 2 ^ 32)) (a / 2 ^ 32 * (b % 2 ^ 32)) (a / 2 ^ 32 * (b / 2 ^ 32)) _ _ _ refl
    refl refl
    ∙ sym (halves a b)
