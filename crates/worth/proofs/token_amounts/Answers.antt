-- `worth::token_amounts` meets its contract: past the tests both rounded quotients are amounts.
use Prim.Native.Nat.{◌^◌, ◌<◌}
use Rattle.worth.proofs.Parts.{both}
use borrow.Author.Rules.{rules}
use Rattle.worth.proofs.token_amounts.Goals as goal

pub returns : goal.returns
returns c =
    let hl : c.args.lp.0 < 2 ^ 64 = search rules in
    let h0 : c.args.net0.0 < 2 ^ 64 = search rules in
    let h1 : c.args.net1.0 < 2 ^ 64 = search rules in
    both _ _ _ _ _ hl h0 h1 c.in_ok-parts0.ensures.0 c.in_ok-parts1.ensures.0 c.is_zero.ensures c.is_zero-2.ensures c.if-is_zero.false
    c.round_quotient-amount0.ensures c.round_quotient-amount1.ensures c.if-amount0-amount1.false
