-- What the calculator's two swaps guarantee: the fees fit into the input, and the curve keeps the product of the nets.
-- Assumes nothing.
use Prim.Native.Nat.{ℕ, ◌+◌, ◌*◌, ◌-◌, ◌≤◌, ◌<◌}
use mathlib.Core.Path.{◌≡◌}
use mathlib.Core.Bool.{Bool, true, false, cond}
use native.Mathlib.Omega.{arith}
use native.Mathlib.Nat.{add-zero}
use Rattle.math.proofs.Rounding.{share_ceil_le, shares_le}
use Rattle.math.proofs.Curve.{out_le, product_kept_by_input, product_kept_by_output}
use Rattle.rates.specs.declared.Rates.{Rates}
use Rattle.fees.specs.Fees.{million, fee_up, fee_down, split, pre_fee}
use Rattle.fees.specs.Parts.{after_fee}
use Rattle.fees.proofs.Shares.{split_le}
use Rattle.curve.specs.ConstantProduct.{swap_out, swap_in}
use Rattle.calculator.specs.declared.SwapResult.{SwapResult}
use Rattle.calculator.specs.Calculator.{charged, curve_output, curve_input, swap_base_input, with_fees, swap_base_output}
use Rattle.calculator.proofs.Swaps.{pre_fee_ge}

-- ---- fees
fee_up_le : (amount rate : ℕ) → rate ≤ million → fee_up amount rate ≤ amount
unfolding fee_up
fee_up_le amount rate h = share_ceil_le amount rate million h

-- by input, what enters the curve: the amount less the fee on input
abbrev pub entering : Bool → Rates → ℕ → ℕ → ℕ
entering true rates creator amount = after_fee amount (rates.trade + creator)
entering false rates creator amount = after_fee amount rates.trade

-- ---- what any swap guarantees where d enters the curve and o leaves it
pub record Fair (onInput : Bool) (netIn netOut d o : ℕ) (s : SwapResult) : Type 0 where
  -- the fees that are booked leave d of the input, or more
  pub stays : d + (s.protocol + s.fund + cond onInput s.creator 0) ≤ s.input
  -- o is all that the output side loses
  pub pays : s.output + cond onInput 0 s.creator ≡ o
  pub within : o ≤ netOut
  pub curve : netIn * netOut ≤ (netIn + d) * (netOut - o)

-- at rates within the limits
module _ (rates : Rates) (creator x y : ℕ) (h : rates.trade + creator < million) (g : rates.protocol + rates.fund ≤ million) where
  abbrev trade : ℕ
  trade = rates.trade

  -- protocol and fund fee together are at most the trade fee
  shares_fit : (fee : ℕ) → fee_down fee rates.protocol + fee_down fee rates.fund ≤ fee
  unfolding fee_down
  shares_fit fee = shares_le fee rates.protocol rates.fund million g

  pub input_fair :
      (onInput : Bool) (amount : ℕ) → let d = entering onInput rates creator amount in
      Fair onInput x y d (swap_out x y d) (swap_base_input onInput rates creator x y amount)
  unfolding swap_base_input charged swap_out
  input_fair true amount =
      let total = fee_up amount (trade + creator) in
      let part = split total trade creator in
      record {
        stays = omega (arith, fee_up_le amount (trade + creator) (omega arith), split_le total trade creator, shares_fit (total - part));
        pays = add-zero _;
        within = out_le x y _;
        curve = product_kept_by_input x y _;
      }
  input_fair false amount =
      let fee = fee_up amount trade in
      let out = swap_out x y (amount - fee) in
      record {
        stays = omega (arith, fee_up_le amount trade (omega arith), shares_fit fee);
        pays = omega (arith, fee_up_le out creator (omega arith));
        within = out_le x y _;
        curve = product_kept_by_input x y _;
      }

  pub output_fair :
      (onInput : Bool) (amount : ℕ) → curve_output onInput creator amount < y
      → Fair onInput x y (curve_input onInput creator x y amount) (curve_output onInput creator amount) (swap_base_output onInput rates creator x y amount)
  unfolding swap_base_output with_fees charged curve_input curve_output swap_in
  output_fair true amount l =
      let asked = swap_in x y amount in
      let fee = pre_fee asked (trade + creator) - asked in
      let part = split fee trade creator in
      record {
        stays = omega (arith, pre_fee_ge asked (trade + creator) h, split_le fee trade creator, shares_fit (fee - part));
        pays = add-zero _;
        within = omega arith;
        curve = product_kept_by_output x y _ l;
      }
  output_fair false amount l =
      let out = pre_fee amount creator in
      let asked = swap_in x y out in
      record {
        stays = omega (arith, pre_fee_ge asked trade (omega arith), shares_fit (pre_fee asked trade - asked));
        pays = omega (arith, pre_fee_ge amount creator (omega arith));
        within = omega arith;
        curve = product_kept_by_output x y _ l;
      }
