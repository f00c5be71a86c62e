-- The nets, and then the prices.
-- Assumes nothing.
use mathlib.Core.Path.{◌≡◌, sym, ap, ◌∙◌}
use Rattle.std.specs.Prelude.{Result, Ok, Err, ℕ}
use Rattle.refusal.proofs.Stops.{outcome_then, outcome_map}
use Rattle.accounting.specs.declared.Nets.{Nets}
use Rattle.accounting.specs.Counters.{counter_tests, nets_answer}
use Rattle.prices.specs.declared.Prices.{Prices}
use Rattle.pool.specs.declared.state.Pool.{Pool}
use Rattle.pool.specs.State.{net0, net1}
use Rattle.prices.specs.Prices.{prices_of, prices_answer}

abbrev pub then_prices : Result Nets ℕ → Result Prices ℕ
then_prices (Err n) = Err n
then_prices (Ok nets) = prices_of nets.net0 nets.net1

pub nets_then_prices : (p : Pool) → then_prices (nets_answer p.books) ≡ prices_answer p
unfolding nets_answer prices_of prices_answer
nets_then_prices p =
    outcome_map then_prices (counter_tests p.books) Err (Ok (record { net0 = net0 p; net1 = net1 p })) ∙ outcome_then _ _ _ _

pub no_nets : (p : Pool) (n : ℕ) → nets_answer p.books ≡ Err n → Err n ≡ prices_answer p
no_nets p n e = sym (ap then_prices e) ∙ nets_then_prices p

pub from_nets : (p : Pool) (nets : Nets) → nets_answer p.books ≡ Ok nets → prices_of nets.net0 nets.net1 ≡ prices_answer p
from_nets p nets e = sym (ap then_prices e) ∙ nets_then_prices p
