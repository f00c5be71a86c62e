-- Document 02 (a), 'Free exchange days': what it means for every swap.
use Rattle.std.specs.Prelude.{ℕ, ◌+◌, ◌≡◌, Bool, true, false}
use Rattle.refusal.specs.Refusal.{zero_trading_tokens}
use Rattle.rates.specs.declared.Terms.{Terms}
use Rattle.rates.specs.Rates.{creator_rate}
use Rattle.curve.specs.ConstantProduct.{swap_out, swap_in}
use Rattle.calculator.specs.declared.SwapResult.{SwapResult}
use Rattle.accounting.specs.declared.Books.{Books}
use Rattle.oracle.specs.declared.Ring.{Ring}
use Rattle.oracle.specs.Ring.{Entry}
use Rattle.quotes.specs.Quotes.{net_in, net_out, result_of}
use Rattle.swap.specs.Swap.{swap_after}

abbrev pub free_of_fees : ℕ → ℕ → SwapResult
free_of_fees input output = record { input = input; output = output; trade = 0; protocol = 0; fund = 0; creator = 0 }

-- Where the trade rate plus the creator rate as it counts is 0: by input the output is what the curve gives for the whole amount at the vault,
-- by output the input is what the curve asks, and every fee is 0, on whichever side it would be. `swap_after` books and
-- shows `result_of` wherever it accepts.
abbrev pub FreeDays : Type 0
FreeDays =
    (t : Terms) (b : Books) (zeroIn : Bool) (amount : ℕ) → t.rates.trade + creator_rate t ≡ 0
    → (result_of true t b zeroIn amount ≡ free_of_fees amount (swap_out (net_in zeroIn b) (net_out zeroIn b) amount))
    × (result_of false t b zeroIn amount ≡ free_of_fees (swap_in (net_in zeroIn b) (net_out zeroIn b) amount) amount)

-- no swap answers 4, at any rates; the pool's swaps, and those over plain memory, are `swap_after`
abbrev pub NoSwapAnswers4 : Type 0
NoSwapAnswers4 =
    (byInput : Bool) (t : Terms) (status : ℕ) (b : Books) (ring : Ring) (e : Entry) (direction amount limit clock : ℕ)
    → (swap_after byInput t status b ring e direction amount limit clock).receipt.number ≡ zero_trading_tokens → ⊥
