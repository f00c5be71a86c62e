-- `curve::constant_product::lp_tokens_div_rem` meets its contract, by the long division too. The check finds the short one alone.
use Prim.Native.Nat.{◌^◌, ◌<◌}
use native.Mathlib.Nat.{pos_of_ne-zero}
use Rattle.curve.proofs.LpTokens.{promised}
use borrow.Author.Rules.{rules}
use Rattle.curve.proofs.constant_product.lp_tokens_div_rem.Goals as goal

pub returns : goal.returns
returns c =
    let n = c.widening_mul-product.result in
    let high_lt : n.high < 2 ^ 64 = search rules in
    let low_lt : n.low < 2 ^ 64 = search rules in
    promised _ _ _ n high_lt low_lt c.widening_mul-product.ensures (pos_of_ne-zero c.if-whole-eq0.false) c.div_rem_wide.ensures
