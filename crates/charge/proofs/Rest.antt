-- The laws of a token's charge: what it takes and what it leaves of an amount, and that the amount sent for another is the least which leaves it.
-- Assumes nothing.
use mathlib.Core.Path.{◌≡◌, refl, sym, ap, ◌∙◌}
use mathlib.Core.Bool.{Bool, true, false, cond}
use mathlib.Core.Logic.{inl, inr, ⊎_elim}
use Prim.Native.Nat.{ℕ, zero, suc, ◌+◌, ◌-◌, ◌*◌, ◌/◌, ◌^◌, ◌<◌, ◌≤◌, min}
use native.Mathlib.Nat.{add_comm, add-mul-div_right, mul-le-mul_right, mul-zero}
use native.Mathlib.Numerals.{add-one}
use native.Mathlib.Omega.{arith}
use lib.Dec.{ltb, eqb}
use borrow.Author.Tests.{eqb-true, eqb-false, lt-ltb, le-ltb}
use Rattle.std.specs.Prelude.{Ok}
use Rattle.divide.specs.Division.{ceil_div}
use Rattle.math.specs.Ratio.{Quotient, fit}
use Rattle.math.proofs.Rounding.{lt_or_le, ceil_ge, ceil_least, ceil_mono, share_ceil_le, share_ceil_ge, fit_fits, ceil_is}
use Rattle.refusal.specs.Tests.{u64_max, past}
use Rattle.charge.specs.declared.Charge.{Charge}
use Rattle.charge.specs.Charge.{ten_thousand, charge_on, rest_of, charge_for, least_sent}
use Rattle.charge.specs.Least.{LeastSent}
use Rattle.charge.specs.Stages.{ChargedByPoints, sent_by_points}

-- ---- rounding up: p of each p + q of what is sent, and p for each q of what arrives, are within the same bounds
module _ (p q w k : ℕ) where
  within_sent : 0 < p + q → ceil_div ((w + k) * p) (p + q) ≤ k → ceil_div (w * p) q ≤ k
  within_sent pos h = ceil_least (w * p) q k (omega (arith, ceil_ge ((w + k) * p) (p + q) pos, mul-le-mul_right (p + q) h))

  within_arrived : 0 < q → ceil_div (w * p) q ≤ k → ceil_div ((w + k) * p) (p + q) ≤ k
  within_arrived pos h = ceil_least ((w + k) * p) (p + q) k (omega (arith, ceil_ge (w * p) q pos, mul-le-mul_right q h))

-- ---- what a charge takes and leaves
module _ (c : Charge) where
  pub charge_le : (n : ℕ) → charge_on c n ≤ n
  unfolding charge_on
  charge_le n = omega arith

  pub rest_le : (n : ℕ) → rest_of c n ≤ n
  unfolding rest_of
  rest_le n = omega arith

  pub rest_whole : (n : ℕ) → rest_of c n + charge_on c n ≡ n
  unfolding rest_of
  rest_whole n = omega (arith, charge_le n)

  pub sent_ge : (w : ℕ) → w ≤ least_sent c w
  unfolding least_sent
  sent_ge w = omega arith

  pub sent_charge : (w : ℕ) → charge_for c w ≡ least_sent c w - w
  unfolding least_sent
  sent_charge w = omega arith

-- at fewer than 10,000 points
module _ (c : Charge) (low : c.points < ten_thousand) where
  -- the points alone take at most all
  share_le : (n : ℕ) → ceil_div (n * c.points) ten_thousand ≤ n
  share_le n = share_ceil_le n c.points ten_thousand (omega arith)

  -- so the charge is their share, up to the maximum
  pub low_charge : (n : ℕ) → charge_on c n ≡ min (ceil_div (n * c.points) ten_thousand) c.maximum
  unfolding charge_on
  low_charge n = omega (arith, share_le n)

  share_within : (w k : ℕ) → ceil_div ((w + k) * c.points) ten_thousand ≤ k → ceil_div (w * c.points) (ten_thousand - c.points) ≤ k
  share_within w k =
      let whole : c.points + (ten_thousand - c.points) ≡ ten_thousand = omega arith in
      rw whole at (within_sent c.points (ten_thousand - c.points) w k (omega arith))

  within_share : (w k : ℕ) → ceil_div (w * c.points) (ten_thousand - c.points) ≤ k → ceil_div ((w + k) * c.points) ten_thousand ≤ k
  within_share w k =
      let whole : c.points + (ten_thousand - c.points) ≡ ten_thousand = omega arith in
      rw whole at (within_arrived c.points (ten_thousand - c.points) w k (omega arith))

-- at fewer than 10,000 points: A is what they take of w + k, and B what they take beside w
module _ (A B M w k : ℕ) where
  capped_sent : A ≤ w + k → (A ≤ k → B ≤ k) → w ≤ w + k - min (min A M) (w + k) → w + min B M ≤ w + k
  capped_sent le f h = ⊎_elim (λ (l : k < A). omega arith) (λ (l : A ≤ k). omega (arith, f l)) (lt_or_le k A)

  capped_arrived : (B ≤ k → A ≤ k) → w + min B M ≤ w + k → w ≤ w + k - min (min A M) (w + k)
  capped_arrived f h = ⊎_elim (λ (l : k < B). omega arith) (λ (l : B ≤ k). omega (arith, f l)) (lt_or_le k B)

module _ (c : Charge) (low : c.points < ten_thousand) where
  low_sent : (w k : ℕ) → w ≤ rest_of c (w + k) → least_sent c w ≤ w + k
  unfolding rest_of charge_on least_sent charge_for
  low_sent w k h = rw (lt-ltb c.points ten_thousand low) (capped_sent _ _ _ w k (share_le c low (w + k)) (share_within c low w k) h)

  low_arrived : (w k : ℕ) → least_sent c w ≤ w + k → w ≤ rest_of c (w + k)
  unfolding rest_of charge_on least_sent charge_for
  low_arrived w k h = capped_arrived _ _ _ w k (within_share c low w k) (rw (lt-ltb c.points ten_thousand low) at h)

  pub for_by_points : (w : ℕ) → charge_for c w ≡ min (ceil_div (w * c.points) (ten_thousand - c.points)) c.maximum
  unfolding charge_for
  for_by_points w = rw (lt-ltb c.points ten_thousand low) refl

-- from 10,000 points on
module _ (c : Charge) (high : ten_thousand ≤ c.points) where
  -- the points alone take at least all
  share_all : (n : ℕ) → n ≤ ceil_div (n * c.points) ten_thousand
  share_all n = share_ceil_ge n c.points ten_thousand (omega arith) high

  -- so the charge is all, up to the maximum
  pub high_charge : (n : ℕ) → charge_on c n ≡ min c.maximum n
  unfolding charge_on
  high_charge n = omega (arith, share_all n)

  pub high_for : (w : ℕ) → charge_for c w ≡ cond (eqb w 0) 0 c.maximum
  unfolding charge_for
  high_for w = rw (le-ltb c.points ten_thousand high) refl

  high_sent : (w n : ℕ) → w ≤ rest_of c n → least_sent c w ≤ n
  unfolding rest_of least_sent
  high_sent w n h = rw (high_for w) (go (eqb w 0) refl)
    where
      go : (b : Bool) → eqb w 0 ≡ b → w + cond b 0 c.maximum ≤ n
      go true e = omega (arith, eqb-true w 0 e)
      go false e = omega (arith, eqb-false w 0 e, rw (high_charge n) at h)

  high_arrived : (w n : ℕ) → least_sent c w ≤ n → w ≤ rest_of c n
  unfolding rest_of least_sent
  high_arrived w n h = rw (high_charge n) (go (eqb w 0) refl (rw (high_for w) at h))
    where
      go : (b : Bool) → eqb w 0 ≡ b → w + cond b 0 c.maximum ≤ n → w ≤ n - min c.maximum n
      go true e h = omega (arith, eqb-true w 0 e)
      go false e h = omega arith

-- ---- by the points alone
-- scaled up by p + q of q is p of q above it
scaled_by : (p q w : ℕ) → 0 < q → ceil_div (w * (p + q)) q ≡ w + ceil_div (w * p) q
scaled_by p q w pos =
    ap (λ (x : ℕ). x / q) (omega arith)
    ∙ add-mul-div_right (w * p + (q - 1)) w pos
    ∙ add_comm (ceil_div (w * p) q) w

pub scaled : (points w : ℕ) → points < ten_thousand → ceil_div (w * ten_thousand) (ten_thousand - points) ≡ w + ceil_div (w * points) (ten_thousand - points)
scaled points w low =
    let whole : points + (ten_thousand - points) ≡ ten_thousand = omega arith in
    rw whole at (scaled_by points (ten_thousand - points) w (omega arith))

low_fit : (points w : ℕ) → points < ten_thousand → sent_by_points points w ≡ fit (w + ceil_div (w * points) (ten_thousand - points))
unfolding sent_by_points
low_fit points w low = rw (lt-ltb points ten_thousand low) (ceil_is (w * ten_thousand) (ten_thousand - points) (omega arith) ∙ ap fit (scaled points w low))

-- a quotient of no number
abbrev pub Other : Quotient → Type 0
Other q = (m : ℕ) → q ≡ Ok m → ⊥

told_past : (q : Quotient) (n : ℕ) → q ≡ fit n → Other q → u64_max < n
told_past q n e t =
    ⊎_elim
    (λ (l : n < 2 ^ 64). absurd (t n (e ∙ fit_fits n l)))
    (λ (l : 2 ^ 64 ≤ n). omega arith)
    (lt_or_le n (2 ^ 64))

-- where the points alone give none, what they ask is past u64
pub past_by_points :
    (points w : ℕ) → points < ten_thousand → Other (sent_by_points points w) → u64_max < w + ceil_div (w * points) (ten_thousand - points)
past_by_points points w low t = told_past _ _ (low_fit points w low) t

-- ---- w arrives of n exactly where the least sent for w is at most n
module _ (c : Charge) where
  pub arrives_sent : (w n : ℕ) → w ≤ rest_of c n → least_sent c w ≤ n
  arrives_sent w n h = ⊎_elim near (λ high. high_sent c high w n h) (lt_or_le c.points ten_thousand)
    where
      near : c.points < ten_thousand → least_sent c w ≤ n
      near low =
          let e : n ≡ w + (n - w) = omega (arith, rest_le c n) in
          rw (sym e) at (low_sent c low w (n - w) (rw e at h))

  pub sent_arrives : (w n : ℕ) → least_sent c w ≤ n → w ≤ rest_of c n
  sent_arrives w n h = ⊎_elim near (λ high. high_arrived c high w n h) (lt_or_le c.points ten_thousand)
    where
      near : c.points < ten_thousand → w ≤ rest_of c n
      near low =
          let e : n ≡ w + (n - w) = omega (arith, sent_ge c w) in
          rw (sym e) at (low_arrived c low w (n - w) (rw e at h))

  pub rest_mono : (n m : ℕ) → n ≤ m → rest_of c n ≤ rest_of c m
  rest_mono n m h = sent_arrives (rest_of c n) m (omega (arith, arrives_sent (rest_of c n) n (omega arith)))

  pub charge_mono : (n m : ℕ) → n ≤ m → charge_on c n ≤ charge_on c m
  unfolding charge_on
  charge_mono n m h =
      let up = ceil_mono (n * c.points) (m * c.points) ten_thousand (mul-le-mul_right c.points h) in
      omega arith

  -- with each one more that is sent, the same arrives or one more
  pub rest_step : (n : ℕ) → rest_of c (n + 1) ≤ rest_of c n + 1
  rest_step n = omega (arith, rest_whole c n, rest_whole c (n + 1), charge_mono n (n + 1) (omega arith))

  -- of the least sent for w just w arrives
  pub rest_sent : (w : ℕ) → rest_of c (least_sent c w) ≡ w
  rest_sent w = omega (arith, sent_arrives w (least_sent c w) (omega arith), go (least_sent c w) refl)
    where
      go : (n : ℕ) → least_sent c w ≡ n → rest_of c n ≤ w
      go zero e = omega (arith, rest_le c 0)
      go (suc n) e = ⊎_elim (λ (l : rest_of c n < w). omega (arith, simp add-one at (rest_step n))) (λ (l : w ≤ rest_of c n). absurd (omega (arith, arrives_sent w n l))) (lt_or_le (rest_of c n) w)

  -- and it is charged what was sent above w
  pub charge_sent : (w : ℕ) → charge_on c (least_sent c w) ≡ least_sent c w - w
  charge_sent w = omega (arith, rest_whole c (least_sent c w), rest_sent w)

  pub charge_is_for : (w : ℕ) → charge_on c (least_sent c w) ≡ charge_for c w
  charge_is_for w = charge_sent w ∙ sym (sent_charge c w)

  -- no u64 is enough exactly where w is above what arrives of 2^64 − 1
  pub none_sent : (w : ℕ) → past (least_sent c w) ≡ ltb (rest_of c u64_max) w
  none_sent w =
      ⊎_elim
      (λ (l : u64_max < least_sent c w). lt-ltb u64_max (least_sent c w) l ∙ sym (lt-ltb (rest_of c u64_max) w (beyond l)))
      (λ (l : least_sent c w ≤ u64_max). le-ltb u64_max (least_sent c w) l ∙ sym (le-ltb (rest_of c u64_max) w (sent_arrives w u64_max l)))
      (lt_or_le u64_max (least_sent c w))
    where
      beyond : u64_max < least_sent c w → rest_of c u64_max < w
      beyond l = ⊎_elim (λ (m : rest_of c u64_max < w). m) (λ (m : w ≤ rest_of c u64_max). absurd (omega (arith, arrives_sent w u64_max m))) (lt_or_le (rest_of c u64_max) w)

-- document 02 (c)'s claim, of every charge
pub least_sent_lem : LeastSent
least_sent_lem c =
    record {
      whole = rest_whole c;
      grows =
          λ n.
          ⊎_elim
          (λ (l : rest_of c n < rest_of c (n + 1)). inr (omega (arith, rest_step c n)))
          (λ (l : rest_of c (n + 1) ≤ rest_of c n). inl (omega (arith, rest_mono c n (n + 1) (omega arith))))
          (lt_or_le (rest_of c n) (rest_of c (n + 1)));
      reached = rest_sent c;
      least = λ w n e. omega (arith, arrives_sent c w n (omega arith));
      charge = charge_sent c;
      none = none_sent c;
    }

-- ---- what the points alone take, capped, is the charge
pub capped_charge : (c : Charge) (n taken fee : ℕ) → ChargedByPoints c.points n taken → fee ≡ min taken c.maximum → fee ≡ charge_on c n
unfolding charge_on
capped_charge c n taken fee by f =
    ⊎_elim
    (λ (low : c.points < ten_thousand). omega (arith, by.some low, share_le c low n))
    (λ (high : ten_thousand ≤ c.points). omega (arith, by.all high, share_all c high n))
    (lt_or_le c.points ten_thousand)

-- ---- at no points nothing is charged, whatever the maximum
module _ (c : Charge) (none : c.points ≡ 0) where
  pub charge_none : (n : ℕ) → charge_on c n ≡ 0
  unfolding charge_on
  charge_none n = rw (none, mul-zero n) (omega arith)

  pub rest_none : (n : ℕ) → rest_of c n ≡ n
  rest_none n = omega (arith, rest_whole c n, charge_none n)

  pub sent_none : (w : ℕ) → least_sent c w ≡ w
  sent_none w = sym (rest_none (least_sent c w)) ∙ rest_sent c w
