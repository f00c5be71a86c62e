-- Document 01, 'oracle.rs': 'Price 0 is net1 × 2^32 / net0 down, price 1 its mirror', of a pool's nets.
use Rattle.std.specs.Prelude.{Result, Ok, Err, ℕ, [], ◌∷◌, eqb}
use Rattle.wide.specs.Value.{u128_of}
use Rattle.refusal.specs.Refusal.{panicked}
use Rattle.refusal.specs.Tests.{Tests, ◌then◌, outcome}
use Rattle.accounting.specs.Counters.{counter_tests}
use Rattle.oracle.specs.Ring.{price}
use Rattle.prices.specs.declared.Prices.{Prices}
use Rattle.pool.specs.declared.state.Pool.{Pool}
use Rattle.pool.specs.State.{net0, net1}

-- a net of 0, 11
abbrev pub some_tests : ℕ → ℕ → Tests
some_tests net0 net1 =
    (eqb net0 0, panicked)
    ∷ (eqb net1 0, panicked)
    ∷ []

unfoldable pub prices_of : ℕ → ℕ → Result Prices ℕ
prices_of net0 net1 =
    outcome (some_tests net0 net1) Err (Ok (record { price0 = u128_of (price net0 net1); price1 = u128_of (price net1 net0) }))

-- counters' sums 8, vaults 7; a net of 0, 11
unfoldable pub prices_answer : Pool → Result Prices ℕ
prices_answer p =
    outcome
    (counter_tests p.books
    then some_tests (net0 p) (net1 p))
    Err
    (Ok (record { price0 = u128_of (price (net0 p) (net1 p)); price1 = u128_of (price (net1 p) (net0 p)) }))
