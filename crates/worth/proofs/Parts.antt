-- Both tokens' parts, which are to be some: what the two divisions say of the tests.
-- Assumes nothing.
use mathlib.Core.Path.{◌≡◌, refl, sym, ap, ◌∙◌}
use mathlib.Core.Bool.{Bool, true, false, not, ◌||◌}
use mathlib.Core.Logic.{⊎_elim}
use Prim.Native.Nat.{ℕ, ◌^◌, ◌≤◌, ◌<◌}
use native.Mathlib.Nat.{eq-zero-or-pos}
use native.Mathlib.Omega.{arith}
use lib.Dec.{eqb}
use borrow.Author.Tests.{eqb-true, eqb-false, eq-eqb, not-false}
use Rattle.std.specs.Prelude.{Ok, Err}
use Rattle.refusal.specs.Refusal.{zero_trading_tokens, panicked}
use Rattle.refusal.proofs.Stops.{turns, one_of, neither, outcome_at, outcome_all}
use Rattle.wide.specs.declared.U128.{U128}
use Rattle.wide.specs.Value.{value, u128_of}
use Rattle.divide.specs.declared.Divided.{Divided}
use Rattle.curve.specs.declared.constant_product.RoundDirection.{RoundDirection}
use Rattle.curve.specs.ConstantProduct.{lp_divided, lp_amount, tokens}
use Rattle.curve.specs.Stages.{rounded}
use Rattle.curve.proofs.LpTokens.{divided_is, undivided_is, amount_zero, amount_some, amount_fits, amount_past}
use Rattle.worth.specs.Worth.{amount_tests, token_amounts}

-- a test of two high halves
pub some_high : (h0 h1 : ℕ) → not (eqb h0 0) || not (eqb h1 0) ≡ true → h0 ≡ 0 → h1 ≡ 0 → ⊥
some_high h0 h1 t z0 z1 = eqb-false 0 0 (sym (rw (eq-eqb h0 0 z0, eq-eqb h1 0 z1) at t)) refl

pub no_high : (h0 h1 : ℕ) → not (eqb h0 0) || not (eqb h1 0) ≡ false → (h0 ≡ 0) × (h1 ≡ 0)
no_high h0 h1 t =
    let n = neither (not (eqb h0 0)) (not (eqb h1 0)) t in
    (eqb-true h0 0 (not-false (eqb h0 0) n.0), eqb-true h1 0 (not-false (eqb h1 0) n.1))

module _ (direction : RoundDirection) (lp supply n0 n1 : ℕ) where
  -- ---- the tests, in their order
  stops_none : supply ≡ 0 → Err zero_trading_tokens ≡ token_amounts direction lp supply n0 n1
  unfolding token_amounts amount_tests
  stops_none e = outcome_at 0 _ _ _ (omega (arith, turns))

  stops_zero0 : 0 < supply → lp_amount direction lp supply n0 ≡ 0 → Err zero_trading_tokens ≡ token_amounts direction lp supply n0 n1
  unfolding token_amounts amount_tests
  stops_zero0 h e = outcome_at 1 _ _ _ (omega (arith, turns))

  module _ (h : 0 < supply) (some0 : 0 < lp_amount direction lp supply n0) where
    stops_zero1 : lp_amount direction lp supply n1 ≡ 0 → Err zero_trading_tokens ≡ token_amounts direction lp supply n0 n1
    unfolding token_amounts amount_tests
    stops_zero1 e = outcome_at 2 _ _ _ (omega (arith, turns))

    module _ (some1 : 0 < lp_amount direction lp supply n1) where
      stops_past0 : 2 ^ 64 ≤ lp_amount direction lp supply n0 → Err panicked ≡ token_amounts direction lp supply n0 n1
      unfolding token_amounts amount_tests
      stops_past0 l = outcome_at 3 _ _ _ (omega (arith, turns))

      stops_past1 : lp_amount direction lp supply n0 < 2 ^ 64 → 2 ^ 64 ≤ lp_amount direction lp supply n1 → Err panicked ≡ token_amounts direction lp supply n0 n1
      unfolding token_amounts amount_tests
      stops_past1 f l = outcome_at 4 _ _ _ (omega (arith, turns))

      passes :
          lp_amount direction lp supply n0 < 2 ^ 64 → lp_amount direction lp supply n1 < 2 ^ 64
          → Ok (record { amount0 = tokens (lp_amount direction lp supply n0); amount1 = tokens (lp_amount direction lp supply n1) }) ≡ token_amounts direction lp supply n0 n1
      unfolding token_amounts amount_tests
      passes f g = outcome_all _ _ _ (omega (arith, turns))

  -- ---- read off the divisions
  -- no supply
  pub undivided0 : {n : ℕ} → Err n ≡ lp_divided lp n0 supply → Err n ≡ token_amounts direction lp supply n0 n1
  undivided0 e = let none = undivided_is lp n0 supply e in ap Err none.1 ∙ stops_none none.0

  pub undivided1 : {n : ℕ} → Err n ≡ lp_divided lp n1 supply → Err n ≡ token_amounts direction lp supply n0 n1
  undivided1 e = let none = undivided_is lp n1 supply e in ap Err none.1 ∙ stops_none none.0

  -- z0 and z1 are what the tests of the two quotients gave
  module _
      (hl : lp < 2 ^ 64) (h0 : n0 < 2 ^ 64) (h1 : n1 < 2 ^ 64) {p0 p1 : Divided U128} {z0 z1 : Bool} (parts0 : Ok p0 ≡ lp_divided lp n0 supply)
      (parts1 : Ok p1 ≡ lp_divided lp n1 supply) (is0 : z0 ≡ eqb (value p0.quotient) 0) (is1 : z1 ≡ eqb (value p1.quotient) 0) where
    some : 0 < supply
    some = (divided_is lp n0 supply parts0).0

    some0 : z0 ≡ false → 0 < lp_amount direction lp supply n0
    some0 s0 = amount_some lp supply n0 direction parts0 hl h0 (sym is0 ∙ s0)

    pub none : z0 || z1 ≡ true → Err zero_trading_tokens ≡ token_amounts direction lp supply n0 n1
    none t =
        one_of z0 z1 t
        (λ (e : z0 ≡ true). stops_zero0 some (amount_zero lp supply n0 direction parts0 hl h0 (sym is0 ∙ e)))
        (λ (s0 : z0 ≡ false) (e : z1 ≡ true). stops_zero1 some (some0 s0) (amount_zero lp supply n1 direction parts1 hl h1 (sym is1 ∙ e)))

    -- both quotients are some: one of them, rounded, is past u64, or both are amounts
    module _
        (t : z0 || z1 ≡ false) {a0 a1 : U128} (e0 : a0 ≡ u128_of (rounded direction (value p0.quotient) p0.remainder))
        (e1 : a1 ≡ u128_of (rounded direction (value p1.quotient) p1.remainder)) where
      first_some : 0 < lp_amount direction lp supply n0
      first_some = some0 (neither z0 z1 t).0

      both_some : 0 < lp_amount direction lp supply n1
      both_some = amount_some lp supply n1 direction parts1 hl h1 (sym is1 ∙ (neither z0 z1 t).1)

      fits0 : a0.high ≡ 0 → (a0.low ≡ lp_amount direction lp supply n0) × (lp_amount direction lp supply n0 < 2 ^ 64)
      fits0 z = amount_fits lp supply n0 direction parts0 hl h0 e0 z

      fits1 : a1.high ≡ 0 → (a1.low ≡ lp_amount direction lp supply n1) × (lp_amount direction lp supply n1 < 2 ^ 64)
      fits1 z = amount_fits lp supply n1 direction parts1 hl h1 e1 z

      pub past : not (eqb a0.high 0) || not (eqb a1.high 0) ≡ true → Err panicked ≡ token_amounts direction lp supply n0 n1
      past f =
          ⊎_elim
          (λ (z : a0.high ≡ 0). stops_past1 some first_some both_some (fits0 z).1 (amount_past lp supply n1 direction parts1 hl h1 e1 (some_high _ _ f z)))
          (λ (l : 0 < a0.high). stops_past0 some first_some both_some (amount_past lp supply n0 direction parts0 hl h0 e0 (λ (z : a0.high ≡ 0). omega arith)))
          (eq-zero-or-pos a0.high)

      pub both :
          not (eqb a0.high 0) || not (eqb a1.high 0) ≡ false
          → Ok (record { amount0 = tokens a0.low; amount1 = tokens a1.low }) ≡ token_amounts direction lp supply n0 n1
      both f =
          let z = no_high _ _ f in
          (λ i. Ok (record { amount0 = tokens ((fits0 z.0).0 i); amount1 = tokens ((fits1 z.1).0 i) }))
          ∙ passes some first_some both_some (fits0 z.0).1 (fits1 z.1).1
