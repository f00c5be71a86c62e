-- `divide::norm_shift` meets its contract: with k the place of the top set bit, the count of leading zeros makes 64 with k + 1.
use Rattle.std.proofs.Common.{◌≡◌, ℕ, suc, ◌+◌, ◌*◌, ◌^◌, ◌<◌, ◌≤◌, sym, ap, ◌∙◌, subst, mul-le-mul_right, arith, pow-add, shl_lt}
use lib.Count.{count_leading_zeros, leading_top}
use Rattle.divide.proofs.norm_shift.Goals as goal

normalized : (a k s : ℕ) → 2 ^ k ≤ a → a < 2 ^ suc k → s + suc k ≡ 64 → (2 ^ 63 ≤ a * 2 ^ s) × (a * 2 ^ s < 2 ^ 64) × (s < 64)
normalized a k s low high e =
    let e63 : k + s ≡ 63 = omega arith in
    let e64 : suc k + s ≡ 64 = omega arith in (
      subst (λ (x : ℕ). x ≤ a * 2 ^ s) (sym (pow-add 2 k s) ∙ ap (λ (x : ℕ). 2 ^ x) e63) (mul-le-mul_right (2 ^ s) low),
      subst (λ (x : ℕ). a * 2 ^ s < 2 ^ x) e64 (shl_lt {a = a} (suc k) s high),
      omega arith,
    )

pub returns : goal.returns
returns c =
    let d = c.args.d in
    let top = leading_top 64 d c.requires c.ranges.d.fits in
    normalized d top.0 (count_leading_zeros 64 d) top.2 top.3 top.1
