-- `math::ratio::div_by_sum` meets its contract. A sum that fits a word is the divisor; of one past it the halves are divided (`Halving.antt`).
use mathlib.Core.Path.{◌≡◌, sym, ◌∙◌, subst}
use Prim.Native.Nat.{ℕ, ◌+◌, ◌-◌, ◌/◌, ◌%◌, ◌^◌, ◌≤◌, ◌<◌}
use native.Mathlib.Nat.{le_trans, le_of_lt}
use native.Mathlib.Omega.{arith}
use Rattle.wide.specs.Steps.{Divides}
use Rattle.wide.specs.Value.{value}
use Rattle.divide.proofs.Long.{of_divided, quotient_is}
use Rattle.math.proofs.Halving.{half_words, odd_word, even, odd_right, odd_high}
use borrow.Author.Rules.{rules}
use Rattle.math.proofs.ratio.div_by_sum.Goals.{After-div_rem-parts, Else-over-eq0, Start}
use Rattle.math.proofs.ratio.div_by_sum.Goals as goal

-- a sum past a word, by what it is past it
module _ (x y : ℕ) (hy : y < 2 ^ 64) (h : 2 ^ 64 - 1 - y < x) where
  over_half : (x - (2 ^ 64 - 1 - y) - 1) / 2 + 2 ^ 63 ≡ (x + y) / 2
  over_half = omega arith

  over_odd : (x - (2 ^ 64 - 1 - y) - 1) % 2 ≡ (x + y) % 2
  over_odd = omega arith

  over_le : 2 ^ 64 ≤ x + y
  over_le = omega arith

half_pos : (m : ℕ) → 0 < m + 2 ^ 63
half_pos m = omega arith

not_even : (n m : ℕ) → n % 2 ≡ m % 2 → (n % 2 ≡ 0 → ⊥) → m % 2 ≡ 1
not_even n m e f = omega arith

y_lt : (c : Start) → c.args.y < 2 ^ 64
y_lt c = search rules

-- at the division of the halves
abbrev sum : After-div_rem-parts → ℕ
sum c = c.args.x + c.args.y

halved : (c : After-div_rem-parts) → let p = c.div_rem-parts.result in Divides (value c.args.n / 2) (sum c / 2) p.quotient p.remainder
halved c =
    let e = over_half c.args.x c.args.y (y_lt (goal.at.After-div_rem-parts c).Start) c.if-x-y.false in
    let p = c.div_rem-parts.result in
    subst (λ (n : ℕ). Divides n (sum c / 2) p.quotient p.remainder) (half_words c.args.n.high c.args.n.low)
    (rw e at (of_divided _ _ (half_pos _) c.div_rem-parts.ensures))

q_le : (c : After-div_rem-parts) → c.div_rem-parts.result.quotient ≤ sum c
q_le c = le_trans (le_of_lt (q_lt c)) (over_le c.args.x c.args.y (y_lt (goal.at.After-div_rem-parts c).Start) c.if-x-y.false)
  where
    q_lt : (c : After-div_rem-parts) → c.div_rem-parts.result.quotient < 2 ^ 64
    q_lt c = search rules

odd : (c : Else-over-eq0) → sum (goal.at.Else-over-eq0 c).After-div_rem-parts % 2 ≡ 1
odd c = not_even _ _ (over_odd c.args.x c.args.y (y_lt (goal.at.Else-over-eq0 c).Start) c.if-x-y.false) c.if-over-eq0.false

-- the tests, on numbers
le_one : (q r m : ℕ) → q ≤ r → q ≤ r + r + m
le_one q r m h = omega arith

le_two : (q r b m : ℕ) → m ≡ b → q - r ≤ r + b → q ≤ r + r + m
le_two q r b m e h = omega arith

lt_two : (q r b m : ℕ) → m ≡ b → r + b < q - r → r + r + m < q
lt_two q r b m e h = omega arith

pub returns-then-over-eq0 : goal.returns-then-over-eq0
returns-then-over-eq0 c =
    let here = goal.at.returns-then-over-eq0 c in
    let same = over_odd c.args.x c.args.y (y_lt here.Start) c.if-x-y.false in
    quotient_is (even (value c.args.n) (sum here.After-div_rem-parts) _ _ (halved here.After-div_rem-parts) (sym same ∙ c.if-over-eq0.true))

pub returns-then-quotient-remainder : goal.returns-then-quotient-remainder
returns-then-quotient-remainder c =
    let here = goal.at.returns-then-quotient-remainder c in
    quotient_is (odd_right (value c.args.n) (sum here.After-div_rem-parts) _ _ (halved here.After-div_rem-parts) (odd here.Else-over-eq0) (le_one _ _ _ c.if-quotient-remainder.true))

pub returns-then-quotient-remainder-2 : goal.returns-then-quotient-remainder-2
returns-then-quotient-remainder-2 c =
    let here = goal.at.returns-then-quotient-remainder-2 c in
    let last = odd_word c.args.n.high c.args.n.low in
    quotient_is (odd_right (value c.args.n) (sum here.After-div_rem-parts) _ _ (halved here.After-div_rem-parts) (odd here.Else-over-eq0) (le_two _ _ _ _ last c.if-quotient-remainder-2.true))

pub returns-else-quotient-remainder-2 : goal.returns-else-quotient-remainder-2
returns-else-quotient-remainder-2 c =
    let here = goal.at.returns-else-quotient-remainder-2 c in
    let last = odd_word c.args.n.high c.args.n.low in
    quotient_is (odd_high (value c.args.n) (sum here.After-div_rem-parts) _ _ (halved here.After-div_rem-parts) (odd here.Else-over-eq0) (lt_two _ _ _ _ last c.if-quotient-remainder-2.false) (q_le here.After-div_rem-parts))
