-- `wide::checked_mul` meets its contract, by the products of the two words (`Words.antt`).
use Rattle.std.proofs.Common.{◌≡◌, ℕ, ◌+◌, ◌*◌, ◌^◌, ◌<◌, ◌≤◌, sym, refl, ◌∙◌, le_trans, le-add_right, pos_of_ne-zero, arith, rules}
use Rattle.wide.specs.Value.{value}
use Rattle.wide.proofs.Words.{low_only, word_product, product_fits, product_past}
use Rattle.wide.proofs.checked_mul.Goals.{After-widening_mul-lower, After-widening_mul-upper}
use Rattle.wide.proofs.checked_mul.Goals as goal

-- the low word fits
low_lt : (c : After-widening_mul-lower) → c.widening_mul-lower.result.low < 2 ^ 64
low_lt c = search rules

-- the high word's product, where it is one word and where it is more
one_word : (c : After-widening_mul-upper) →
    let a = c.args in
    c.widening_mul-upper.result.high ≡ 0 → c.widening_mul-upper.result.low ≡ a.n.high * a.k
one_word c e = sym (low_only _ _ e) ∙ c.widening_mul-upper.ensures

more_words : (h l t : ℕ) → h * 2 ^ 64 + l ≡ t → 0 < h → 2 ^ 64 ≤ t
more_words h l t e p = omega arith

-- the whole product
whole : (c : After-widening_mul-upper) (t : ℕ) →
    let a = c.args in
    let lower = c.widening_mul-lower.result in
    t ≡ a.n.high * a.k → value a.n * a.k ≡ (t + lower.high) * 2 ^ 64 + lower.low
whole c t e = let a = c.args in word_product a.n.high a.n.low a.k t _ _ e c.widening_mul-lower.ensures

not_lt : (n m : ℕ) → (n < m → ⊥) → m ≤ n
not_lt n m h = omega arith

pub returns-then-upper-ne0 : goal.returns-then-upper-ne0
returns-then-upper-ne0 c =
    product_past _ _ _ (whole (goal.at.returns-then-upper-ne0 c).After-widening_mul-upper _ refl) (le_trans (more_words _ _ _ c.widening_mul-upper.ensures (pos_of_ne-zero c.if-upper-ne0.true)) (le-add_right _ _))

pub returns-in_err-high : goal.returns-in_err-high
returns-in_err-high c =
    let here = goal.at.returns-in_err-high c in
    let upper = one_word here.After-widening_mul-upper c.if-upper-ne0.false in
    c.from_residual.ensures ∙ product_past _ _ _ (whole here.After-widening_mul-upper _ upper) (not_lt _ _ c.in_err-high.ensures)

pub returns : goal.returns
returns c =
    let here = goal.at.returns c in
    let sum = c.in_ok-high.ensures in
    let upper = one_word here.After-widening_mul-upper c.if-upper-ne0.false in
    rw sum.1 (product_fits _ _ _ (whole here.After-widening_mul-upper _ upper) sum.0 (low_lt here.After-widening_mul-lower))
