-- One digit of a long division in base 2 ^ 32: h * 2 ^ 32 + l divided by d, whose top bit is set. The estimate is the quotient of h by the upper
-- half of d; it is right, or too high by one or two, and the flags of the program say by which.
use Rattle.std.proofs.Common.{◌≡◌, ℕ, zero, suc, ◌+◌, ◌-◌, ◌*◌, ◌/◌, ◌%◌, ◌^◌, ◌<◌, ◌≤◌, sym, ap, ◌∙◌, subst, ⊎_elim, not-suc-le-zero, mul-le-mul_right, zero-lt-suc, mul-le-mul, lt_of_mul-lt-mul_right, one-mul, div-add-mod', zero-mul, arith}
use Rattle.wide.specs.Steps.{Divides, Less}

-- the halves of the divisor
abbrev pub upper : ℕ → ℕ
upper d = d / 2 ^ 32

abbrev pub lower : ℕ → ℕ
lower d = d % 2 ^ 32

-- q times d, by the halves of d
by_halves : (q d : ℕ) → q * d ≡ q * upper d * 2 ^ 32 + q * lower d
by_halves q d = omega (arith, ap (λ (x : ℕ). q * x) (div-add-mod' d (2 ^ 32)))

-- one time less
pub once_less : (q d : ℕ) → 0 < q → (q - 1) * d + d ≡ q * d
once_less q d h =
    let e : q - 1 + 1 ≡ q = omega arith in
    omega (arith, ap (λ (x : ℕ). x * d) e)

-- a factor of a product that is not 0
pos_of_lt_mul : {n : ℕ} (q d : ℕ) → n < q * d → 0 < q
pos_of_lt_mul {n} zero d h = absurd (not-suc-le-zero (subst (λ (x : ℕ). n < x) (zero-mul d) h))
pos_of_lt_mul {n} (suc q) d h = zero-lt-suc q

-- the estimate q leaves m of h: what is left of the number besides it, and what the lower half takes of that
abbrev pub rest : ℕ → ℕ → ℕ
rest m l = m * 2 ^ 32 + l

abbrev pub taken : ℕ → ℕ → ℕ
taken q d = q * lower d

pub upper_pos : (d : ℕ) → 2 ^ 63 ≤ d → 0 < upper d
upper_pos d top = omega arith

module _ (h l d q m : ℕ) (top : 2 ^ 63 ≤ d) (hh : h < d) (hl : l < 2 ^ 32) (w : Divides h (upper d) q m) where
  pub rest_lt : rest m l < d
  rest_lt = omega (arith, w.less)

  estimate_lt : q < 2 ^ 32 + 2
  estimate_lt = lt_of_mul-lt-mul_right (upper d) (omega (arith, w.whole))

  pub taken_lt : taken q d < 2 ^ 64
  taken_lt = omega (arith, mul-le-mul {n₁ = q} {m₁ = lower d} {n₂ = 2 ^ 32 + 1} {m₂ = 2 ^ 32 - 1} (omega (arith, estimate_lt)) (omega arith))

  -- the number, by the estimate
  same : q * d + rest m l ≡ h * 2 ^ 32 + l + taken q d
  same = omega (arith, by_halves q d, w.whole)

  -- the estimate is right
  pub right : taken q d ≤ rest m l → Divides (h * 2 ^ 32 + l) d q (rest m l - taken q d)
  right t = record { whole = omega (arith, same); less = omega (arith, rest_lt) }

  -- it is one too high
  pub one_pos : rest m l < taken q d → 0 < q
  one_pos t = pos_of_lt_mul {n = 0} q d (omega (arith, same))

  pub one_high : rest m l < taken q d → taken q d - rest m l ≤ d → Divides (h * 2 ^ 32 + l) d (q - 1) (rest m l + d - taken q d)
  one_high t u = record { whole = omega (arith, same, once_less q d (one_pos t)); less = omega arith }

  -- it is two too high
  pub two_pos : d < taken q d - rest m l → 0 < q - 1
  two_pos t = pos_of_lt_mul {n = 0} (q - 1) d (omega (arith, same, once_less q d (one_pos (omega arith))))

  pub two_high : d < taken q d - rest m l → Divides (h * 2 ^ 32 + l) d (q - 1 - 1) (rest m l + d + d - taken q d)
  two_high t = record { whole = omega (arith, same, once_less q d (one_pos (omega arith)), once_less (q - 1) d (two_pos t), taken_lt); less = omega arith }

-- a flag times d
flag_none : {f : ℕ} (d : ℕ) → f ≡ 0 → f * d ≡ 0
flag_none d e = ap (λ (x : ℕ). x * d) e ∙ zero-mul d

flag_one : {f : ℕ} (d : ℕ) → f ≡ 1 → f * d ≡ d
flag_one d e = ap (λ (x : ℕ). x * d) e ∙ one-mul d

-- a flag is 0 or 1
pub flag_le : (a b f : ℕ) → Less a b f → f ≤ 1
flag_le a b f w = ⊎_elim (λ x. omega (arith, x.1)) (λ x. omega (arith, x.1)) w

-- and such a number times a word is a word
pub times_lt : (f d : ℕ) → f ≤ 1 → d < 2 ^ 64 → f * d < 2 ^ 64
times_lt f d h l = omega (arith, mul-le-mul_right d h, one-mul d)

-- a difference of words that wraps, with d added to it that wraps again
module _ (r t left : ℕ) (el : (left + t) % 2 ^ 64 ≡ r) (hl : left < 2 ^ 64) (ht : t < 2 ^ 64) where
  not_wrapped : t ≤ r → left ≡ r - t
  not_wrapped h = omega arith

  wrapped : r < t → left + t ≡ r + 2 ^ 64
  wrapped h = omega arith

module _ (r t left d once : ℕ) (h : r < t) (ht : t < 2 ^ 64) (w : left + t ≡ r + 2 ^ 64) (hd : d < 2 ^ 64) (eo : once ≡ (left + d) % 2 ^ 64) where
  -- it is below d where that was enough
  enough : once < d → (t - r ≤ d) × (once ≡ r + d - t)
  enough b = (omega arith, omega arith)

  -- and at d or above where it was not
  too_few : d ≤ once → (d < t - r) × (once + t ≡ r + d + 2 ^ 64)
  too_few b = (omega arith, omega arith)

-- with d added once more
once_more : (r t d once x : ℕ) → d < t - r → t < d + d → d < 2 ^ 64 → once + t ≡ r + d + 2 ^ 64 → x ≡ (once + d) % 2 ^ 64 → x ≡ r + d + d - t
once_more r t d once x h u hd e ex = omega arith

-- a division, with its quotient and its remainder said otherwise
said : {n d k x k' x' : ℕ} → k ≡ k' → x' ≡ x → Divides n d k x → Divides n d k' x'
said {n} {d} {k} {x} {k'} {x'} e f w = subst (λ (y : ℕ). Divides n d k' y) (sym f) (subst (λ (y : ℕ). Divides n d y x) e w)

module _
    (h l d q m : ℕ) (top : 2 ^ 63 ≤ d) (hd : d < 2 ^ 64) (hh : h < d) (hl : l < 2 ^ 32) (w : Divides h (upper d) q m)
    (one left once below : ℕ) (f₁ : Less (rest m l) (taken q d) one) (el : (left + taken q d) % 2 ^ 64 ≡ rest m l) (hw : left < 2 ^ 64)
    (eo : once ≡ (left + one * d) % 2 ^ 64) (f₂ : Less once d below) where
  -- the estimate, less what it is too high by, and what that leaves
  record Mended : Type 1 where
    flags : one + (1 - below) ≤ q
    divides : (x : ℕ) → x ≡ (once + (1 - below) * d) % 2 ^ 64 → Divides (h * 2 ^ 32 + l) d (q - one - (1 - below)) x

  taken_fits : taken q d < 2 ^ 64
  taken_fits = taken_lt h l d q m top hh hl w

  -- no more is added
  last : (x : ℕ) → below ≡ 1 → once < d → x ≡ (once + (1 - below) * d) % 2 ^ 64 → x ≡ once
  last x e b ex = omega (arith, flag_none {f = 1 - below} d (omega arith))

  -- the estimate is right: then `once` is below d
  once_right : taken q d ≤ rest m l → one ≡ 0 → once ≡ rest m l - taken q d
  once_right a e = omega (arith, not_wrapped (rest m l) (taken q d) left el hw taken_fits a, flag_none d e)

  none_off : taken q d ≤ rest m l → one ≡ 0 → below ≡ 1 → once < d → Mended
  none_off a e f b = record {
    flags = omega arith;
    divides = λ x ex. said (omega arith) (last x f b ex ∙ once_right a e) (right h l d q m top hh hl w a);
  }

  never : taken q d ≤ rest m l → one ≡ 0 → d ≤ once → ⊥
  never a e b = omega (arith, once_right a e, rest_lt h l d q m top hh hl w)

  -- it is too high: d was added once
  module _ (a : rest m l < taken q d) (e : one ≡ 1) where
    added : once ≡ (left + d) % 2 ^ 64
    added = eo ∙ ap (λ (x : ℕ). (left + x) % 2 ^ 64) (flag_one d e)

    high_by : left + taken q d ≡ rest m l + 2 ^ 64
    high_by = wrapped (rest m l) (taken q d) left el hw taken_fits a

    one_off : once < d → below ≡ 1 → Mended
    one_off b f =
        let g = enough (rest m l) (taken q d) left d once a taken_fits high_by hd added b in
        record {
          flags = omega (arith, one_pos h l d q m top hh hl w a);
          divides = λ x ex. said (omega arith) (last x f b ex ∙ g.1) (one_high h l d q m top hh hl w a g.0);
        }

    two_off : d ≤ once → below ≡ 0 → Mended
    two_off b f =
        let g = too_few (rest m l) (taken q d) left d once a taken_fits high_by hd added b in
        let more : (1 - below) * d ≡ d = flag_one {f = 1 - below} d (omega arith) in
        record {
          flags = omega (arith, two_pos h l d q m top hh hl w g.0);
          divides = λ x ex. said (omega arith)
              (once_more (rest m l) (taken q d) d once x g.0 (omega (arith, taken_fits)) hd g.1 (ex ∙ ap (λ (y : ℕ). (once + y) % 2 ^ 64) more))
              (two_high h l d q m top hh hl w g.0);
        }

  mended : Mended
  mended =
      ⊎_elim
      (λ a. ⊎_elim (λ b. one_off a.0 a.1 b.0 b.1) (λ b. two_off a.0 a.1 b.0 b.1) f₂)
      (λ a. ⊎_elim (λ b. none_off a.0 a.1 b.1 b.0) (λ b. absurd (never a.0 a.1 b.0)) f₂)
      f₁

  -- the flags are not more than the estimate
  pub flags_le : one + (1 - below) ≤ q
  flags_le = mended.flags

  -- and the last sum is what is left
  pub flags_done : (x : ℕ) → x ≡ (once + (1 - below) * d) % 2 ^ 64 → Divides (h * 2 ^ 32 + l) d (q - one - (1 - below)) x
  flags_done = mended.divides
