-- `divide::div_rem` meets its contract: two digits of the shifted number divided by the shifted divisor (`Long.antt`).
use Rattle.std.proofs.Common.{◌≡◌, ℕ, ◌+◌, ◌-◌, ◌*◌, ◌/◌, ◌%◌, ◌^◌, ◌<◌, sym, subst, le_trans, lt_trans, mod-lt, mod-eq_of_lt, arith, lit≤, pow_pos, shr_lt}
use Rattle.wide.specs.Value.{value}
use Rattle.divide.proofs.Long.{both, digit_small, high_lt, high_word, joined, unshifted_quotient, unshifted_remainder}
use Rattle.divide.proofs.div_rem.Goals.{After-digit-first, After-digit-second, After-norm_shift-shift}
use Rattle.divide.proofs.div_rem.Goals as goal

-- the words after the shift: the high one is below the divisor, which loses no bit
record Words (high low d s : ℕ) : Type 0 where
  upper : high * 2 ^ s % 2 ^ 64 + low / 2 / 2 ^ (63 - s) < d * 2 ^ s
  divisor : d * 2 ^ s % 2 ^ 64 ≡ d * 2 ^ s

low_lt : (c : After-norm_shift-shift) → c.args.n.low < 2 ^ 64
low_lt c = omega arith

words : (c : After-norm_shift-shift) → let a = c.args in Words a.n.high a.n.low a.d c.norm_shift-shift.result
words c =
    let a = c.args in
    let e = c.norm_shift-shift.ensures in
    let s = c.norm_shift-shift.result in
    let below = high_lt a.n.high a.n.low a.d s e.2 c.requires (low_lt c) in
    let is = high_word a.n.high a.n.low a.d s e.2 c.requires (low_lt c) e.1 in
    record { upper = subst (λ (x : ℕ). x < a.d * 2 ^ s) (sym is) below; divisor = mod-eq_of_lt e.1 }

pub overflow_add-upper : goal.overflow_add-upper
overflow_add-upper c = record {
  fits =
      let here = goal.at.overflow_add-upper c in
      lt_trans (words here.After-norm_shift-shift).upper c.norm_shift-shift.ensures.1;
}

pub digit-first-requires : goal.digit-first-requires
digit-first-requires c =
    let here = goal.at.digit-first-requires c in (
      rw (words here.After-norm_shift-shift).divisor (le_trans (lit≤ tt) c.norm_shift-shift.ensures.0),
      rw (words here.After-norm_shift-shift).divisor (words here.After-norm_shift-shift).upper,
      shr_lt 32 32 (mod-lt _ (pow_pos 64)),
    )

-- each digit has 32 bits
first_small : (c : After-digit-first) → c.digit-first.result.quotient < 2 ^ 32
first_small c =
    let w = words (goal.at.After-digit-first c).After-norm_shift-shift in
    digit_small c.digit-first.ensures (rw w.divisor w.upper) (shr_lt 32 32 (mod-lt _ (pow_pos 64)))

second_small : (c : After-digit-second) → c.digit-second.result.quotient < 2 ^ 32
second_small c = digit_small c.digit-second.ensures c.digit-first.ensures.less (mod-lt _ (pow_pos 32))

pub overflow_mul-result : goal.overflow_mul-result
overflow_mul-result c =
    let here = goal.at.overflow_mul-result c in
    omega (arith, first_small here.After-digit-first)

pub overflow_add-result : goal.overflow_add-result
overflow_add-result c =
    let here = goal.at.overflow_add-result c in
    omega (arith, first_small here.After-digit-first, second_small here.After-digit-second)

pub returns : goal.returns
returns c =
    let here = goal.at.returns c in
    let a = c.args in
    let e = c.norm_shift-shift.ensures in
    let s = c.norm_shift-shift.result in
    let pos : 0 < a.d = omega (arith, c.requires) in
    let w = joined a.n.high a.n.low a.d s e.2 c.requires (low_lt here.After-norm_shift-shift) e.1 _ _ _ _ c.digit-first.ensures c.digit-second.ensures in
    both (value a.n) a.d
    (unshifted_quotient (value a.n) a.d (2 ^ s) _ _ pos (pow_pos s) w)
    (unshifted_remainder (value a.n) a.d (2 ^ s) _ _ pos (pow_pos s) w)
