-- LP tokens as trading tokens: one long division gives quotient and remainder, and these the rounded part.
-- Assumes nothing.
use mathlib.Core.Path.{◌≡◌, refl, sym, ap, subst, ◌∙◌}
use mathlib.Core.Bool.{Bool, true, false, not, cond, ◌||◌}
use mathlib.Core.Logic.{⊎_elim, ◌⊎◌}
use Prim.Native.Nat.{ℕ, ◌+◌, ◌*◌, ◌/◌, ◌%◌, ◌^◌, ◌<◌, ◌≤◌}
use native.Mathlib.Nat.{div-le_self, div-add-mod', mod-lt, mod-eq_of_lt, lt_of_le_of_lt, lt_of_lt_of_le, pos_of_ne-zero, mul-le-mul_right, suc-mul, mul_comm}
use native.Mathlib.Omega.{arith}
use lib.Dec.{eqb}
use mir.Val.{bool_byte}
use borrow.Author.Tests.{eqb-true, eqb-false, eq-eqb, ne_eqb}
use Rattle.std.specs.Prelude.{Result, Ok, Err, IsOkAnd}
use Rattle.wide.specs.declared.U128.{U128}
use Rattle.wide.specs.Value.{value, u128_of}
use Rattle.wide.proofs.Words.{value_u128_of, words_are, halves_lt, low_only, one_word, past_word}
use Rattle.divide.specs.declared.Divided.{Divided}
use Rattle.divide.specs.Division.{divided_wide, ceil_div}
use Rattle.math.proofs.Rounding.{ceil_exact, ceil_more}
use Rattle.refusal.specs.Refusal.{zero_trading_tokens, panicked}
use Rattle.refusal.specs.Tests.{outcome}
use Rattle.refusal.proofs.Stops.{turns, outcome_at, outcome_all}
use Rattle.refusal.proofs.Stages.{ok_ne_err, same_value, same_number}
use Rattle.curve.specs.declared.constant_product.RoundDirection.{RoundDirection}
use Rattle.curve.specs.declared.constant_product.RoundDirection.TheVariants.{Floor, Ceiling}
use Rattle.curve.specs.ConstantProduct.{lp_divided, lp_amount, lp_part}
use Rattle.curve.specs.Stages.{rounded}

-- rounded up by quotient and remainder, or by the ceiling
rounded_up : (n d : ℕ) → 0 < d → cond (eqb (n % d) 0 || eqb (n / d) 0) (n / d) (n / d + 1) ≡ cond (eqb (n / d) 0) 0 (ceil_div n d)
rounded_up n d h = go (eqb (n % d) 0) refl (eqb (n / d) 0) refl
  where
    go : (r : Bool) → eqb (n % d) 0 ≡ r → (q : Bool) → eqb (n / d) 0 ≡ q → cond (r || q) (n / d) (n / d + 1) ≡ cond q 0 (ceil_div n d)
    go true e true f = eqb-true _ _ f
    go true e false f = sym (ceil_exact n d (eqb-true _ _ e))
    go false e true f = eqb-true _ _ f
    go false e false f = sym (ceil_more n d h (omega (arith, eqb-false (n % d) 0 e)))

-- one more at most
rounded_le : (direction : RoundDirection) (quotient remainder : ℕ) → rounded direction quotient remainder ≤ quotient + 1
unfolding rounded
rounded_le Floor quotient remainder = omega arith
rounded_le Ceiling quotient remainder = go (eqb remainder 0 || eqb quotient 0)
  where
    go : (b : Bool) → cond b quotient (quotient + 1) ≤ quotient + 1
    go true = omega arith
    go false = omega arith

-- and not less
le_rounded : (direction : RoundDirection) (quotient remainder : ℕ) → quotient ≤ rounded direction quotient remainder
unfolding rounded
le_rounded Floor quotient remainder = omega arith
le_rounded Ceiling quotient remainder = go (eqb remainder 0 || eqb quotient 0)
  where
    go : (b : Bool) → quotient ≤ cond b quotient (quotient + 1)
    go true = omega arith
    go false = omega arith

-- ---- a quotient rounded, case by case
pub rounded_down : (quotient remainder : ℕ) → quotient ≡ rounded Floor quotient remainder
unfolding rounded
rounded_down quotient remainder = refl

-- a quotient of 0 stays 0
pub rounded_zero : (quotient remainder : ℕ) → eqb quotient 0 ≡ true → quotient ≡ rounded Ceiling quotient remainder
unfolding rounded
rounded_zero quotient remainder e = rw e (go (eqb remainder 0))
  where
    go : (b : Bool) → quotient ≡ cond (b || true) quotient (quotient + 1)
    go true = refl
    go false = refl

nothing : (direction : RoundDirection) (remainder : ℕ) → rounded direction 0 remainder ≡ 0
unfolding rounded
nothing Floor remainder = refl
nothing Ceiling remainder = sym (rounded_zero 0 remainder refl)

pub rounded_some :
    (quotient remainder more : ℕ) → eqb quotient 0 ≡ false → ((remainder ≡ 0) × (more ≡ 0)) ⊎ ((remainder ≡ 0 → ⊥) × (more ≡ 1))
    → quotient + more ≡ rounded Ceiling quotient remainder
unfolding rounded
rounded_some quotient remainder more e w =
    ⊎_elim
    (λ x. rw (e, eq-eqb remainder 0 x.0) (omega (arith, x.1)))
    (λ x. rw (e, ne_eqb remainder 0 x.0) (ap (λ (k : ℕ). quotient + k) x.1))
    w

-- ---- a quotient of two halves rounded, step by step
module _ (q : U128) (remainder : ℕ) where
  module _ (hh : q.high < 2 ^ 64) (hl : q.low < 2 ^ 64) where
    pub kept_down : q ≡ u128_of (rounded Floor (value q) remainder)
    unfolding rounded
    kept_down = words_are q.high q.low hh hl

    pub kept_zero : eqb (value q) 0 ≡ true → q ≡ u128_of (rounded Ceiling (value q) remainder)
    kept_zero e = words_are q.high q.low hh hl ∙ ap u128_of (rounded_zero (value q) remainder e)

  pub raised :
      {more : ℕ} {a : U128} → eqb (value q) 0 ≡ false → more ≡ bool_byte (not (eqb remainder 0)) → a ≡ u128_of (value q + value (record { high = 0; low = more }))
      → a ≡ u128_of (rounded Ceiling (value q) remainder)
  unfolding rounded
  raised {more} e m is = is ∙ ap u128_of (ap (λ (k : ℕ). value q + k) (low_only 0 more refl ∙ m) ∙ rw e (go (eqb remainder 0)))
    where
      go : (b : Bool) → value q + bool_byte (not b) ≡ cond (b || false) (value q) (value q + 1)
      go true = omega arith
      go false = refl

-- ---- the division of lp × net by the supply
-- the product of two words leaves room for the 1
product_lt : (P a b : ℕ) → 1 < P → a < P → b < P → a * b + 1 < P * P
product_lt P a b h ha hb = omega (arith, mul-le-mul_right b ha, suc-mul a b, mul-le-mul_right P hb, suc-mul b P, mul_comm P b)

module _ (lp net supply : ℕ) where
  -- the contract of `lp_tokens_div_rem`
  abbrev pub Promised : Result (Divided U128) ℕ → Type 0
  Promised r =
      (r ≡ lp_divided lp net supply)
      × (0 < supply → IsOkAnd r (λ p. (value p.quotient * supply + p.remainder ≡ lp * net) × (p.remainder < supply)))

  pub promised_none : supply ≡ 0 → Promised (Err zero_trading_tokens)
  unfolding lp_divided
  promised_none e = (outcome_at 0 _ _ _ (omega (arith, turns)), λ (h : 0 < supply). absurd (omega arith))

  pub promised :
      (n : U128) → n.high < 2 ^ 64 → n.low < 2 ^ 64 → value n ≡ lp * net → 0 < supply → {p : Divided U128} → p ≡ divided_wide (value n) supply
      → Promised (Ok p)
  unfolding lp_divided
  promised n hh hl product h {p} e =
      let is = e ∙ (λ i. divided_wide (product i) supply) in
      let fits = lt_of_le_of_lt (div-le_self (lp * net) supply) (subst (λ (k : ℕ). k < 2 ^ 128) product (halves_lt n.high n.low hh hl)) in
      let whole = ap (λ (q : ℕ). q * supply + lp * net % supply) (value_u128_of (lp * net / supply) ∙ mod-eq_of_lt fits) ∙ div-add-mod' (lp * net) supply in (
        ap Ok is ∙ outcome_all _ _ _ (omega (arith, turns)),
        λ (some : 0 < supply).
            subst (λ (p : Divided U128). (value p.quotient * supply + p.remainder ≡ lp * net) × (p.remainder < supply)) (sym is) (whole, mod-lt (lp * net) some),
      )

  -- what is divided is divided by some supply
  pub divided_is : {p : Divided U128} → Ok p ≡ lp_divided lp net supply → (0 < supply) × (p ≡ divided_wide (lp * net) supply)
  unfolding lp_divided outcome
  divided_is {p} e = go (eqb supply 0) refl e
    where
      go :
          (b : Bool) → eqb supply 0 ≡ b → Ok p ≡ cond b (Err zero_trading_tokens) (Ok (divided_wide (lp * net) supply))
          → (0 < supply) × (p ≡ divided_wide (lp * net) supply)
      go true f e = absurd (ok_ne_err e)
      go false f e = (pos_of_ne-zero (eqb-false _ _ f), same_value e)

  -- and where nothing is, there is none
  pub undivided_is : {n : ℕ} → Err n ≡ lp_divided lp net supply → (supply ≡ 0) × (n ≡ zero_trading_tokens)
  unfolding lp_divided outcome
  undivided_is {n} e = go (eqb supply 0) refl e
    where
      go :
          (b : Bool) → eqb supply 0 ≡ b → Err n ≡ cond b (Err zero_trading_tokens) (Ok (divided_wide (lp * net) supply))
          → (supply ≡ 0) × (n ≡ zero_trading_tokens)
      go true f e = (eqb-true _ _ f, same_number e)
      go false f e = absurd (ok_ne_err (sym e))

-- ---- one token's part
module _ (lp supply net : ℕ) where
  rounded_is : (direction : RoundDirection) → 0 < supply → rounded direction (lp * net / supply) (lp * net % supply) ≡ lp_amount direction lp supply net
  unfolding rounded lp_amount
  rounded_is Floor h = refl
  rounded_is Ceiling h = rounded_up (lp * net) supply h

  module _ (direction : RoundDirection) {p : Divided U128} (parts : Ok p ≡ lp_divided lp net supply) (hl : lp < 2 ^ 64) (hn : net < 2 ^ 64) where
    pub some_supply : 0 < supply
    some_supply = (divided_is lp net supply parts).0

    product_fits : lp * net + 1 < 2 ^ 64 * 2 ^ 64
    product_fits = product_lt (2 ^ 64) lp net (omega arith) hl hn

    quotient_of : value p.quotient ≡ lp * net / supply
    quotient_of =
        ap (λ (p : Divided U128). value p.quotient) (divided_is lp net supply parts).1
        ∙ value_u128_of (lp * net / supply)
        ∙ mod-eq_of_lt (lt_of_le_of_lt (div-le_self (lp * net) supply) (omega (arith, product_fits)))

    rounded_amount : rounded direction (value p.quotient) p.remainder ≡ lp_amount direction lp supply net
    rounded_amount =
        (λ i. rounded direction (quotient_of i) ((divided_is lp net supply parts).1 i).remainder) ∙ rounded_is direction some_supply

    amount_lt : lp_amount direction lp supply net < 2 ^ 64 * 2 ^ 64
    amount_lt =
        subst (λ (k : ℕ). k < 2 ^ 64 * 2 ^ 64) (rounded_is direction some_supply)
        (below (rounded_le direction (lp * net / supply) (lp * net % supply)) (div-le_self (lp * net) supply) product_fits)
      where
        below : {a b c k : ℕ} → a ≤ b + 1 → b ≤ c → c + 1 < k → a < k
        below x y z = omega arith

    -- the amount is 0 exactly where the quotient is
    pub amount_zero : eqb (value p.quotient) 0 ≡ true → lp_amount direction lp supply net ≡ 0
    amount_zero e = sym rounded_amount ∙ ap (λ (k : ℕ). rounded direction k p.remainder) (eqb-true _ _ e) ∙ nothing direction p.remainder

    pub amount_some : eqb (value p.quotient) 0 ≡ false → 0 < lp_amount direction lp supply net
    amount_some e =
        subst (λ (k : ℕ). 0 < k) rounded_amount
        (lt_of_lt_of_le (pos_of_ne-zero (eqb-false _ _ e)) (le_rounded direction (value p.quotient) p.remainder))

    -- the rounded quotient's halves: the high one is 0 exactly where the amount fits
    module _ {a : U128} (e : a ≡ u128_of (rounded direction (value p.quotient) p.remainder)) where
      amount_is : a ≡ u128_of (lp_amount direction lp supply net)
      amount_is = e ∙ ap u128_of rounded_amount

      pub amount_fits : a.high ≡ 0 → (a.low ≡ lp_amount direction lp supply net) × (lp_amount direction lp supply net < 2 ^ 64)
      amount_fits z = one_word (lp_amount direction lp supply net) amount_is amount_lt z

      pub amount_past : (a.high ≡ 0 → ⊥) → 2 ^ 64 ≤ lp_amount direction lp supply net
      amount_past f = past_word (lp_amount direction lp supply net) amount_is amount_lt f

      -- as the part's answer: past u64, or the amount
      pub part_past : (a.high ≡ 0 → ⊥) → Err panicked ≡ lp_part direction lp supply net
      unfolding lp_part
      part_past f = let h = some_supply in let l = amount_past f in outcome_at 1 _ _ _ (omega (arith, turns))

      pub part_fits : a.high ≡ 0 → Ok a.low ≡ lp_part direction lp supply net
      unfolding lp_part
      part_fits z =
          let h = some_supply in
          let w = amount_fits z in
          ap Ok w.0 ∙ outcome_all _ _ _ (omega (arith, turns, w.1))

  -- and none
  pub part_none : (direction : RoundDirection) {n : ℕ} → Err n ≡ lp_divided lp net supply → Err n ≡ lp_part direction lp supply net
  unfolding lp_part
  part_none direction parts =
      let none = undivided_is lp net supply parts in
      ap Err none.1 ∙ outcome_at 0 _ _ _ (omega (arith, turns, none.0))
