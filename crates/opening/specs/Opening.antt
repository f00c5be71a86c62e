-- Document 01, 'Opening' (amount 0, amount 1, model, enabled, open time, rates), with document 02 (c) (each token's charge) and (f) (the ring's
-- spacing and length): the books, the terms and the ring's grid that a pool begins with.
use Rattle.std.specs.Prelude.{ℕ, ◌+◌, ◌*◌, Bool, false, ◌||◌, [], ◌∷◌, ltb, eqb}
use Rattle.root.specs.Root.{root}
use Rattle.refusal.specs.Refusal.{empty_supply, invalid_fee_model, invalid_input, init_lp_amount_too_less}
use Rattle.refusal.specs.Tests.{Tests, ◌then◌, outcome}
use Rattle.fees.specs.Fees.{million}
use Rattle.charge.specs.Charge.{no_charges, nothing_charged}
use Rattle.rates.specs.declared.Rates.{Rates}
use Rattle.rates.specs.declared.Terms.{Terms}
use Rattle.rates.specs.Rates.{highest_fee_rate}
use Rattle.oracle.specs.declared.Grid.{Grid}
use Rattle.oracle.specs.Ring.{observation_num}
use Rattle.accounting.specs.declared.Books.{Books}
use Rattle.accounting.specs.Counters.{zero_counters}
use Rattle.receipt.specs.Kind.{opening_kind as kind}
use Rattle.receipt.specs.Receipt.{refusal, amounts}
use Rattle.opening.specs.declared.Opening.{Opening}
use Rattle.opening.specs.declared.OpeningAfter.{OpeningAfter}

-- supply is the whole root of the product
abbrev pub supply_of : Opening → ℕ
supply_of o = root (o.amount0 * o.amount1)

-- a supply below this is refused, so that with 100 locked (document 02 (e)) the opener gets at least 1
abbrev pub least_supply : ℕ
least_supply = 101

-- points above this are refused
abbrev pub highest_points : ℕ
highest_points = 9999

-- the ring's spacing is 1 to 3,600 seconds, its length 2 to 100 entries
abbrev pub longest_spacing : ℕ
longest_spacing = 3600

abbrev pub least_length : ℕ
least_length = 2

abbrev pub out_of_range : ℕ → ℕ → ℕ → Bool
out_of_range least most n = ltb n least || ltb most n

abbrev pub grid_tests : Grid → Tests
grid_tests grid =
    (out_of_range 1 longest_spacing grid.spacing, invalid_input)
    ∷ (out_of_range least_length observation_num grid.length, invalid_input)
    ∷ []

-- an amount 0 gives 6; model 9; enabled not 0 or 1, trade + creator above 999,999, protocol + fund above 1,000,000, share above
-- 1,000,000, points above 9,999, spacing or length out of range gives 3; supply below 101 gives 13
unfoldable pub opening_tests : Opening → Tests
opening_tests o =
    (eqb o.amount0 0, empty_supply)
    ∷ (eqb o.amount1 0, empty_supply)
    ∷ (ltb 2 o.model, invalid_fee_model)
    ∷ (ltb 1 o.enabled, invalid_input)
    ∷ (ltb highest_fee_rate (o.rates.trade + o.rates.creator), invalid_input)
    ∷ (ltb million (o.rates.protocol + o.rates.fund), invalid_input)
    ∷ (ltb million o.rates.share, invalid_input)
    ∷ (ltb highest_points o.charges.token0.points, invalid_input)
    ∷ (ltb highest_points o.charges.token1.points, invalid_input)
    ∷ (grid_tests o.grid
    then ((ltb (supply_of o) least_supply, init_lp_amount_too_less)
    ∷ []))

-- counters start at 0; the supply counts all LP, the locked 100 among them
abbrev pub books_with : ℕ → ℕ → ℕ → Books
books_with amount0 amount1 supply = record { vault0 = amount0; vault1 = amount1; fees = zero_counters; supply = supply }

abbrev pub opened_terms : Opening → Terms
opened_terms o = record {
  rates = o.rates;
  charges = o.charges;
  fee_model = o.model;
  open_time = o.open_time;
  enabled = eqb o.enabled 1;
}

-- a refused opening gives its number with zeros, the grid's too
abbrev pub zero_rates : Rates
zero_rates = record { trade = 0; protocol = 0; fund = 0; creator = 0; share = 0 }

abbrev pub zero_terms : Terms
zero_terms = record { rates = zero_rates; charges = no_charges; fee_model = 0; open_time = 0; enabled = false }

abbrev pub zero_grid : Grid
zero_grid = record { spacing = 0; length = 0 }

unfoldable pub refused_opening : ℕ → OpeningAfter
refused_opening n = record { books = books_with 0 0 0; terms = zero_terms; grid = zero_grid; receipt = refusal n }

-- its amounts are those that arrived, and bear no charge
unfoldable pub opening_after : Opening → OpeningAfter
opening_after o =
    outcome (opening_tests o) refused_opening
    (record {
      books = books_with o.amount0 o.amount1 (supply_of o);
      terms = opened_terms o;
      grid = o.grid;
      receipt = amounts kind o.amount0 o.amount1 0 0 (supply_of o) nothing_charged;
    })
