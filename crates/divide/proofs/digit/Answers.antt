-- `divide::digit` meets its contract: the flags say by how much the estimate is too high (`Digits.antt`).
use Rattle.std.proofs.Common.{◌≡◌, ℕ, ◌+◌, ◌-◌, ◌%◌, ◌^◌, ◌<◌, refl, lt_trans, mod-lt, pow_pos, arith}
use Rattle.wide.specs.Steps.{Divides}
use Rattle.divide.proofs.Long.{of_divided}
use Rattle.divide.proofs.Digits.{upper, rest_lt, taken_lt, flags_done}
use Rattle.divide.proofs.digit.Goals.{After-div_rem_short-by_upper}
use Rattle.divide.proofs.digit.Goals as goal

-- the estimate and what it leaves
estimated :
    (c : After-div_rem_short-by_upper)
    → Divides c.args.high (upper c.args.d) c.div_rem_short-by_upper.result.quotient c.div_rem_short-by_upper.result.remainder
estimated c =
    let pos : 0 < upper c.args.d = omega (arith, c.requires.0) in
    of_divided c.args.high (upper c.args.d) pos c.div_rem_short-by_upper.ensures

-- a difference that wraps, and what was taken added to it again
back : (r t : ℕ) → r < 2 ^ 64 → t < 2 ^ 64 → ((r + (2 ^ 64 - t)) % 2 ^ 64 + t) % 2 ^ 64 ≡ r
back r t h l = omega arith

pub returns : goal.returns
returns c =
    let here = goal.at.returns c in
    let a = c.args in
    let w = estimated here.After-div_rem_short-by_upper in
    let below = rest_lt a.high a.low a.d _ _ c.requires.0 c.requires.1 c.requires.2 w in
    let fits = taken_lt a.high a.low a.d _ _ c.requires.0 c.requires.1 c.requires.2 w in
    flags_done a.high a.low a.d _ _ c.requires.0 c.ranges.d.fits c.requires.1 c.requires.2 w
    c.less-one.result _ _ c.less-two.result
    c.less-one.ensures (back _ _ (lt_trans below c.ranges.d.fits) fits) (mod-lt _ (pow_pos 64)) refl c.less-two.ensures
    _ refl
