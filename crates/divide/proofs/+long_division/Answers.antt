-- `divide::long_division` meets its contract: a quotient of 64 bits has no high half; else the high half is divided first, and what it leaves,
-- which is below the divisor, is the high half of the rest.
use Rattle.std.proofs.Common.{◌^◌, ◌<◌, ◌∙◌, ap, rules}
use Rattle.wide.specs.Value.{u128_of}
use Rattle.wide.proofs.Words.{words_are}
use Rattle.divide.proofs.Long.{of_divided, quotient_is, remainder_is, low_divides, wide_divides}
use Rattle.divide.proofs.+long_division.Goals as goal

pub returns : goal.returns
returns t c =
    let u = c.div_rem_short-upper in
    let l = c.long_division-lower in
    let low_lt : c.args.low < 2 ^ 64 = search rules in
    let upper_lt : u.result.quotient < 2 ^ 64 = search rules in
    let lower_lt : l.result.quotient.low < 2 ^ 64 = search rules in
    let first = of_divided c.args.high c.args.d c.requires u.ensures in
    let rest = low_divides _ c.args.low c.args.d first.less low_lt l.ensures in
    let w = wide_divides c.args.high c.args.low c.args.d _ _ _ _ first.whole rest in
    let q = words_are u.result.quotient l.result.quotient.low upper_lt lower_lt ∙ ap u128_of (quotient_is w) in
    λ i. record { quotient = q i; remainder = remainder_is w i }
