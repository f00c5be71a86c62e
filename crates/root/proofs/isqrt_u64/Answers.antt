-- `root::isqrt_u64` meets its contract: the guess is never too low (`Guess`), and falls until it is not too high. The measure is the guess.
use mathlib.Core.Path.{◌≡◌, sym, subst}
use Prim.Native.Nat.{ℕ, ◌+◌, ◌-◌, ◌*◌, ◌/◌, ◌%◌, ◌^◌, ◌≤◌}
use native.Mathlib.Nat.{pos_of_ne-zero, lt_of_le_of_lt, lt_trans}
use lib.Count.{count_leading_zeros}
use lib.Dec.{lit≤, lit<}
use Rattle.root.specs.Root.{IsRoot, root}
use Rattle.root.proofs.WholeRoot.{is_the_root}
use Rattle.root.proofs.Newton.{first, one_shl, Guess, first_guess, next_guess, last_guess}
use Rattle.root.proofs.isqrt_u64.Goals.{Else-x-eq0, In-loop-quotient, Start}
use Rattle.root.proofs.isqrt_u64.Goals as goal

short : (c : Else-x-eq0) → (65 - count_leading_zeros 64 c.args.x) / 2 ≤ 32
short c = (first c.args.x c.ranges.x.fits).short

abbrev first_of : ℕ → ℕ
first_of x = 1 * 2 ^ ((65 - count_leading_zeros 64 x) / 2) % 2 ^ 64

guess : (c : Else-x-eq0) → let x = c.args.x in Guess x (first_of x) (x / first_of x)
guess c =
    let shift = (65 - count_leading_zeros 64 c.args.x) / 2 in
    first_guess _ c.ranges.x.fits (pos_of_ne-zero c.if-x-eq0.false) _ (one_shl shift (lt_of_le_of_lt (short c) (lit< tt)))

next : (c : In-loop-quotient) →
    let x = c.args.x in
    let lower = (c.loop-quotient.guess + c.loop-quotient.quotient) / 2 in
    Guess x lower (x / lower)
next c = next_guess _ _ _ c.loop-quotient.invariant.0 c.loop-quotient.invariant.1 c.loop-quotient-test.true

root_of_word : (c : Start) {r : ℕ} → IsRoot c.args.x r → r ≡ root c.args.x
root_of_word c w = is_the_root _ _ (lt_trans c.ranges.x.fits (lit< tt)) w

pub returns-then-x-eq0 : goal.returns-then-x-eq0
returns-then-x-eq0 c =
    let here = goal.at.returns-then-x-eq0 c in
    root_of_word here.Start (subst (λ (x : ℕ). IsRoot x 0) (sym c.if-x-eq0.true) (record { square = lit≤ tt; next = lit< tt }))

pub loop-quotient-init : goal.loop-quotient-init
loop-quotient-init c =
    let here = goal.at.loop-quotient-init c in
    (pos_of_ne-zero c.if-x-eq0.false, guess here.Else-x-eq0)

pub loop-quotient-preserved : goal.loop-quotient-preserved
loop-quotient-preserved c =
    let here = goal.at.loop-quotient-preserved c in
    (c.loop-quotient.invariant.0, next here.In-loop-quotient)

pub returns : goal.returns
returns c =
    let here = goal.at.returns c in
    root_of_word here.Start (last_guess _ _ _ c.loop-quotient.invariant.1 c.loop-quotient-test.false)
