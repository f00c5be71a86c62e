-- What the private steps of this crate answer. No public definition rests on these.
use Rattle.std.specs.Prelude.{ℕ, Result, Ok, Err}
use Rattle.refusal.specs.Tests.{outcome}
use Rattle.charge.specs.declared.Charges.{Charges}
use Rattle.accounting.specs.declared.Books.{Books}
use Rattle.receipt.specs.declared.BooksAfter.{BooksAfter}
use Rattle.settlement.specs.Settlement.{settlement_tests, settled}

-- the books and the receipt after a settlement with these shared parts, or the number that refuses it
unfoldable pub settled_at : ℕ → ℕ → Charges → Books → ℕ → Result BooksAfter ℕ
settled_at shared0 shared1 c b share = outcome (settlement_tests shared0 shared1 b share) Err (Ok (settled shared0 shared1 c b))
