-- What the private steps of this crate answer. No public definition rests on these.
use Rattle.std.specs.Prelude.{ℕ, Result, Ok, Err}
use Rattle.refusal.specs.Tests.{outcome}
use Rattle.charge.specs.Charge.{nothing_charged}
use Rattle.receipt.specs.Kind.{opening_kind as kind}
use Rattle.receipt.specs.Receipt.{amounts}
use Rattle.opening.specs.declared.Opening.{Opening}
use Rattle.opening.specs.declared.OpeningAfter.{OpeningAfter}
use Rattle.opening.specs.Opening.{supply_of, opening_tests, books_with, opened_terms}

-- what a pool begins with, with the receipt, or the number that refuses it
unfoldable pub opened : Opening → Result OpeningAfter ℕ
opened o =
    outcome (opening_tests o) Err
    (Ok (record {
      books = books_with o.amount0 o.amount1 (supply_of o);
      terms = opened_terms o;
      grid = o.grid;
      receipt = amounts kind o.amount0 o.amount1 0 0 (supply_of o) nothing_charged;
    }))
