-- The nets' answer and the amounts' answer make up the worth's one list of tests; what a worth is.
-- Assumes nothing.
use Prim.Native.Nat.{ℕ}
use mathlib.Core.Path.{◌≡◌, refl, sym, ap, ◌∙◌}
use mathlib.Core.Bool.{Bool, true}
use Rattle.std.specs.Prelude.{Result, Ok, Err}
use Rattle.refusal.specs.Tests.{Tests, ◌then◌}
use Rattle.refusal.proofs.Stops.{outcome_map, numbered}
use Rattle.refusal.proofs.Stages.{stage_err, stage_ok, stage_value}
use Rattle.accounting.specs.declared.Books.{Books}
use Rattle.accounting.specs.declared.Nets.{Nets}
use Rattle.accounting.specs.Counters.{net0, net1, counter_tests, nets_answer}
use Rattle.curve.specs.declared.constant_product.RoundDirection.{RoundDirection}
use Rattle.curve.specs.declared.constant_product.TradingTokenResult.{TradingTokenResult}
use Rattle.curve.specs.ConstantProduct.{tokens}
use Rattle.worth.specs.declared.Worth.{Worth}
use Rattle.worth.specs.Worth.{amount_tests, token_amounts, rounding, part, worth_of}

-- the tests of a worth
abbrev pub worth_tests : Bool → Books → ℕ → Tests
worth_tests isDeposit b lp =
    counter_tests b
    then amount_tests (part isDeposit lp b.supply (net0 b)) (part isDeposit lp b.supply (net1 b)) b.supply

-- and the worth past them
abbrev pub some : Bool → Books → ℕ → Worth
some isDeposit b lp = record {
  net0 = tokens (net0 b);
  net1 = tokens (net1 b);
  amount0 = tokens (part isDeposit lp b.supply (net0 b));
  amount1 = tokens (part isDeposit lp b.supply (net1 b));
}

-- the amounts, beside the nets
abbrev beside : Nets → Result TradingTokenResult ℕ → Result Worth ℕ
beside nets (Ok a) = Ok (record { net0 = tokens nets.net0; net1 = tokens nets.net1; amount0 = a.amount0; amount1 = a.amount1 })
beside nets (Err n) = Err n

module _ (isDeposit : Bool) (b : Books) (lp : ℕ) where
  abbrev nets_of : Nets
  nets_of = record { net0 = net0 b; net1 = net1 b }

  -- no test gives the number 0
  pub worth_numbered : numbered (worth_tests isDeposit b lp) ≡ true
  unfolding ◌then◌ counter_tests amount_tests
  worth_numbered = refl

  pub no_nets : {n : ℕ} → Err n ≡ nets_answer b → Err n ≡ worth_of isDeposit b lp
  unfolding nets_answer worth_of
  no_nets e = stage_err nets_of (counter_tests b) _ _ (λ n. Err n) _ (sym e)

  module _ {nets : Nets} (of-nets : Ok nets ≡ nets_answer b) {direction : RoundDirection} (of-direction : direction ≡ rounding isDeposit) where
    joined : beside nets (token_amounts direction lp b.supply nets.net0 nets.net1) ≡ worth_of isDeposit b lp
    unfolding nets_answer token_amounts worth_of
    joined =
        (λ i. beside (nets_is i) (token_amounts (of-direction i) lp b.supply (nets_is i).net0 (nets_is i).net1))
        ∙ outcome_map (beside nets_of) _ (λ n. Err n) _
        ∙ stage_ok nets_of (counter_tests b) _ (λ n. Err n) _ (sym of-nets)
      where
        nets_is : nets ≡ nets_of
        nets_is = sym (stage_value nets_of (counter_tests b) (sym of-nets))

    pub no_amounts : {n : ℕ} → Err n ≡ token_amounts direction lp b.supply nets.net0 nets.net1 → Err n ≡ worth_of isDeposit b lp
    no_amounts e = ap (beside nets) e ∙ joined

    pub some_amounts :
        {a : TradingTokenResult} → Ok a ≡ token_amounts direction lp b.supply nets.net0 nets.net1
        → Ok (record { net0 = tokens nets.net0; net1 = tokens nets.net1; amount0 = a.amount0; amount1 = a.amount1 }) ≡ worth_of isDeposit b lp
    some_amounts e = ap (beside nets) e ∙ joined

  -- what a worth is
  pub worth_is : {w : Worth} → Ok w ≡ worth_of isDeposit b lp → w ≡ some isDeposit b lp
  unfolding worth_of
  worth_is e = sym (stage_value (some isDeposit b lp) (worth_tests isDeposit b lp) (sym e))
