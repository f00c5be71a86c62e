-- The two transfers of a swap, as the code picks them by their tokens: the caller's amount, and what the swap finds.
-- Assumes nothing.
use mathlib.Core.Path.{◌≡◌, refl, sym, ap}
use mathlib.Core.Bool.{Bool, true, false, cond, not}
use mathlib.Core.List.{[], ◌∷◌}
use native.Mathlib.Omega.{arith}
use Prim.Native.Nat.{ℕ}
use lib.Dec.{ltb, eqb}
use borrow.Author.Tests.{eqb-true, eqb-false, eq-eqb, ne_eqb}
use Rattle.std.specs.Prelude.{Ok}
use Rattle.refusal.specs.Refusal.{not_approved, invalid_vault, require_violated}
use Rattle.refusal.specs.Tests.{◌then◌, past, outcome, tested}
use Rattle.refusal.proofs.Stages.{stage_value}
use Rattle.rates.specs.declared.Terms.{Terms}
use Rattle.rates.specs.Rates.{rate_limits, limit_tests as feeLimits, creator_rate, on_input}
use Rattle.calculator.specs.declared.SwapResult.{SwapResult}
use Rattle.calculator.specs.Calculator.{charged, swap_base_output, with_fees}
use Rattle.accounting.specs.declared.Books.{Books}
use Rattle.accounting.specs.Counters.{of_token}
use Rattle.charge.specs.declared.End.{End}
use Rattle.charge.specs.Charge.{charge_on, rest_of, least_sent, sent_tests}
use Rattle.charge.specs.Transfers.{sent_of, transferred}
use Rattle.charge.proofs.Rest.{rest_le, sent_ge}
use Rattle.status.specs.Status.{bit}
use Rattle.quotes.specs.Quotes.{net_in, net_out, charge_in, charge_out, vault_amount, charged_of, result_of, looked, front_tests, wanted_tests, solver_amount, slippage_tests}
use Rattle.quotes.specs.Stages.{near_token, near_charge, far_charge, limit_tests}
use Rattle.quotes.proofs.Chain.{next, staged}

module _ (t : Terms) where
  -- a token's charge by its side
  pub near_is : (byInput zeroIn : Bool) → of_token (near_token byInput zeroIn) t.charges.token0 t.charges.token1 ≡ near_charge byInput t zeroIn
  near_is true zeroIn = refl
  near_is false true = refl
  near_is false false = refl

  pub far_is : (byInput zeroIn : Bool) → of_token (not (near_token byInput zeroIn)) t.charges.token0 t.charges.token1 ≡ far_charge byInput t zeroIn
  far_is true true = refl
  far_is true false = refl
  far_is false true = refl
  far_is false false = refl

  -- of nothing nothing arrives, and for something something leaves
  module _ (zeroIn : Bool) (amount : ℕ) where
    nothing_arrives : amount ≡ 0 → eqb (rest_of (charge_in zeroIn t) amount) 0 ≡ true
    nothing_arrives z = let l = rest_le (charge_in zeroIn t) amount in eq-eqb (rest_of (charge_in zeroIn t) amount) 0 (omega arith)

    something_leaves : (amount ≡ 0 → ⊥) → eqb (least_sent (charge_out zeroIn t) amount) 0 ≡ false
    something_leaves z = let l = sent_ge (charge_out zeroIn t) amount in ne_eqb (least_sent (charge_out zeroIn t) amount) 0 (λ e. z (omega (arith, e)))

  -- the front on what is looked at stops where the front on the amount itself does, with what is at the vault looked at afterwards
  module _ {A : Type 0} (direction amount : ℕ) (bad : ℕ → A) (rest : A) where
    abbrev zero : Bool
    zero = eqb direction 0

    abbrev wanted : Bool → A → A
    wanted byInput = outcome (wanted_tests byInput t zero amount) bad

    abbrev none_left : Bool → A
    none_left byInput = outcome ((eqb (vault_amount byInput t zero amount) 0, require_violated) ∷ []) bad rest

    abbrev front : Bool → ℕ → A → A
    front unknown seen = outcome ((eqb seen 0, require_violated) ∷ (unknown, invalid_vault) ∷ []) bad

    by_input_later :
        (unknown : Bool)
        → front unknown amount (wanted true (none_left true))
        ≡ front unknown (cond unknown amount (rest_of (charge_in zero t) amount)) (wanted true rest)
    unfolding outcome
    by_input_later true = refl
    by_input_later false = go (eqb amount 0) refl
      where
        go :
            (b : Bool) → eqb amount 0 ≡ b
            → cond b (bad 10) (cond (eqb (rest_of (charge_in zero t) amount) 0) (bad 10) rest)
            ≡ cond (eqb (rest_of (charge_in zero t) amount) 0) (bad 10) rest
        go true e = rw (nothing_arrives zero amount (eqb-true amount 0 e)) refl
        go false e = refl

    by_output_later : (unknown : Bool) → front unknown amount (wanted false (none_left false)) ≡ front unknown amount (wanted false rest)
    unfolding outcome
    by_output_later true = refl
    by_output_later false = go (eqb amount 0) refl
      where
        go :
            (b : Bool) → eqb amount 0 ≡ b
            → let leaves = least_sent (charge_out zero t) amount in
            cond b (bad 10) (cond (past leaves) (bad 14) (cond (eqb leaves 0) (bad 10) rest))
            ≡ cond b (bad 10) (cond (past leaves) (bad 14) rest)
        go true e = refl
        go false e = rw (something_leaves zero amount (eqb-false amount 0 e)) refl

    pub looked_later :
        (byInput : Bool) (status clock : ℕ)
        → outcome (front_tests t status direction amount clock) bad (wanted byInput (none_left byInput))
        ≡ outcome (front_tests t status direction (looked byInput direction amount (vault_amount byInput t zero amount)) clock) bad (wanted byInput rest)
    unfolding rate_limits ◌then◌ outcome
    looked_later byInput status clock = ap begun (later byInput)
      where
        begun : A → A
        begun a =
            outcome (feeLimits t.rates then ((bit 2 status, not_approved) ∷ (ltb clock t.open_time, not_approved) ∷ [])) bad a

        later :
            (i : Bool)
            → front (ltb 1 direction) amount (wanted i (none_left i))
            ≡ front (ltb 1 direction) (looked i direction amount (vault_amount i t zero amount)) (wanted i rest)
        later true = by_input_later (ltb 1 direction)
        later false = by_output_later (ltb 1 direction)

  -- ---- what the swap finds
  module _ (zeroIn : Bool) (s : SwapResult) (limit : ℕ) where
    -- what can't be sent, and then the limit, refuse as the definition's tests do
    held_number :
        (byInput : Bool)
        → next (transferred byInput (far_charge byInput t zeroIn) (of_token byInput s.output s.input)) (λ end. tested (limit_tests byInput end.amount limit))
        ≡ tested (slippage_tests byInput (solver_amount byInput t zeroIn s) limit)
    unfolding outcome tested transferred
    held_number true = refl
    held_number false = staged (sent_tests (charge_in zeroIn t) s.input) _ _

    -- by output the charge is on the least that is sent
    far_charged_by_output :
        {end : End} → transferred false (far_charge false t zeroIn) s.input ≡ Ok end
        → end.charge ≡ charge_on (charge_in zeroIn t) (least_sent (charge_in zeroIn t) s.input)
    unfolding transferred
    far_charged_by_output e = sym (ap (λ (end : End). end.charge) (stage_value _ (sent_tests (charge_in zeroIn t) s.input) e))

  -- by output the calculator leaves the amount that it is given
  output_is : (b : Books) (zeroIn : Bool) (moved : ℕ) → (result_of false t b zeroIn moved).output ≡ moved
  unfolding swap_base_output with_fees charged
  output_is b zeroIn moved = go (on_input t.fee_model zeroIn)
    where
      go : (f : Bool) → (swap_base_output f t.rates (creator_rate t) (net_in zeroIn b) (net_out zeroIn b) moved).output ≡ moved
      go true = refl
      go false = refl

  -- both transfers' charges, each in its token's place
  module _ (b : Books) (amount : ℕ) where
    abbrev swapped : Bool → Bool → SwapResult
    swapped byInput zeroIn = result_of byInput t b zeroIn (vault_amount byInput t zeroIn amount)

    abbrev near_charged : Bool → Bool → ℕ
    near_charged byInput zeroIn = let c = near_charge byInput t zeroIn in charge_on c (sent_of byInput c amount)

    abbrev far_charged : Bool → Bool → ℕ
    far_charged byInput zeroIn =
        let c = far_charge byInput t zeroIn in
        let s = swapped byInput zeroIn in
        charge_on c (sent_of byInput c (of_token byInput s.output s.input))

    pub charges_are :
        (byInput zeroIn : Bool)
        → record {
          charge0 = of_token (near_token byInput zeroIn) (near_charged byInput zeroIn) (far_charged byInput zeroIn);
          charge1 = of_token (near_token byInput zeroIn) (far_charged byInput zeroIn) (near_charged byInput zeroIn);
        }
        ≡ charged_of byInput t zeroIn amount (swapped byInput zeroIn)
    charges_are true true = refl
    charges_are true false = refl
    charges_are false true = rw (output_is b true (least_sent t.charges.token1 amount)) refl
    charges_are false false = rw (output_is b false (least_sent t.charges.token0 amount)) refl
