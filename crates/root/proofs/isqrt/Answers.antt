-- `root::isqrt` meets its contract: the guess is never too low, and falls until it is not too high. The measure is the guess.
use mathlib.Core.Path.{◌≡◌, ap, subst}
use Prim.Native.Nat.{ℕ, ◌+◌, ◌-◌, ◌/◌, ◌^◌, ◌≤◌, ◌<◌, zero-le}
use native.Mathlib.Nat.{lt_trans, lt_of_le_of_lt}
use native.Mathlib.Omega.{arith}
use lib.Dec.{lit<}
use borrow.Author.Rules.{rules}
use Rattle.divide.specs.declared.Divided.{Divided}
use Rattle.wide.specs.Value.{value}
use Rattle.wide.proofs.Words.{halves_lt}
use Rattle.root.specs.Root.{IsRoot, root}
use Rattle.root.proofs.WholeRoot.{is_the_root, of_root, root_short}
use Rattle.root.proofs.Newton.{raised_guess, step_wide, low_of_high, low_of_le}
use Rattle.root.proofs.isqrt.Goals.{After-div_rem-quotient, After-isqrt_u64-2, In-loop-guess, Start}
use Rattle.root.proofs.isqrt.Goals as goal

low_lt : (c : Start) → c.args.n.low < 2 ^ 64
low_lt c = search rules

high_lt : (c : Start) → c.args.n.high < 2 ^ 64
high_lt c = search rules

root_of_high : (c : After-isqrt_u64-2) → IsRoot c.args.n.high c.isqrt_u64-2.result
root_of_high c = of_root _ _ (lt_trans (high_lt (goal.at.After-isqrt_u64-2 c).Start) (lit< tt)) c.isqrt_u64-2.ensures

short : (c : After-isqrt_u64-2) → c.isqrt_u64-2.result < 2 ^ 32
short c = root_short 32 _ _ (high_lt (goal.at.After-isqrt_u64-2 c).Start) (root_of_high c)

root_of_halves : (c : Start) {r : ℕ} → IsRoot (value c.args.n) r → r ≡ root (value c.args.n)
root_of_halves c w = is_the_root _ _ (halves_lt _ _ (high_lt c) (low_lt c)) w

falls : (r q : ℕ) → q < r → q + (r - q) / 2 < r
falls r q h = omega arith

pos : (c : In-loop-guess) → 0 < c.loop-guess.guess
pos c = lt_of_le_of_lt zero-le c.loop-guess-test.true

quotient_of : (c : After-div_rem-quotient)
    → c.div_rem-quotient.result.quotient ≡ value c.args.n / c.loop-guess.guess
quotient_of c = ap (λ (p : Divided ℕ). p.quotient) c.div_rem-quotient.ensures

pub overflow_mul-guess : goal.overflow_mul-guess
overflow_mul-guess c =
    let here = goal.at.overflow_mul-guess c in
    omega (arith, short here.After-isqrt_u64-2)

pub overflow_add-guess : goal.overflow_add-guess
overflow_add-guess c =
    let here = goal.at.overflow_add-guess c in
    omega (arith, short here.After-isqrt_u64-2)

pub loop-guess-init : goal.loop-guess-init
loop-guess-init c =
    let here = goal.at.loop-guess-init c in
    (raised_guess _ _ _ (low_lt here.Start) (root_of_high here.After-isqrt_u64-2).next, omega (arith, short here.After-isqrt_u64-2))

pub loop-guess-preserved : goal.loop-guess-preserved
loop-guess-preserved c =
    let here = goal.at.loop-guess-preserved c in
    (step_wide _ _ _ (pos here.In-loop-guess) (quotient_of here.After-div_rem-quotient) c.if-guess-quotient.false, lt_trans (falls _ _ c.if-guess-quotient.false) c.loop-guess.invariant.1)

pub returns-after-loop-guess : goal.returns-after-loop-guess
returns-after-loop-guess c =
    let here = goal.at.returns-after-loop-guess c in
    root_of_halves here.Start record { square = low_of_high _ c.args.n.low _ (high_lt here.Start) c.loop-guess-test.false; next = c.loop-guess.invariant.0 }

pub returns-then-guess-quotient : goal.returns-then-guess-quotient
returns-then-guess-quotient c =
    let here = goal.at.returns-then-guess-quotient c in
    let le = subst (λ (q : ℕ). c.loop-guess.guess ≤ q) (quotient_of here.After-div_rem-quotient) c.if-guess-quotient.true in
    root_of_halves here.Start record { square = low_of_le _ _ (pos here.In-loop-guess) le; next = c.loop-guess.invariant.0 }
