-- Document 01, 'The calls', with document 02 (c): what a call shows of itself. Its amounts are what reached or left the vaults; the charges stand
-- beside them.
use Rattle.std.specs.Prelude.{ℕ}
use Rattle.accounting.specs.declared.Books.{Books}
use Rattle.charge.specs.declared.Charged.{Charged}
use Rattle.charge.specs.Charge.{nothing_charged}
use Rattle.receipt.specs.declared.Receipt.{Receipt}
use Rattle.receipt.specs.declared.BooksAfter.{BooksAfter}
use Rattle.receipt.specs.declared.Paid.{Paid}
use Rattle.receipt.specs.declared.Trade.{Trade}
use Rattle.receipt.specs.declared.Shared.{Shared}

-- 0 where one has no meaning
abbrev pub nothing_paid : Paid
nothing_paid = record { in0 = 0; in1 = 0; out0 = 0; out1 = 0; lp = 0 }

abbrev pub no_trade : Trade
no_trade = record {
  direction = 0;
  clock = 0;
  trade_fee = 0;
  protocol_fee = 0;
  fund_fee = 0;
  creator_fee = 0;
  creator_fee_token = 0;
}

abbrev pub nothing_shared : Shared
nothing_shared = record { shared0 = 0; shared1 = 0 }

-- a refused call: the number and zeros
unfoldable pub refusal : ℕ → Receipt
refusal n = record { number = n; kind = 0; paid = nothing_paid; trade = no_trade; shared = nothing_shared; charged = nothing_charged }

-- and the books as they were
unfoldable pub refused_books : Books → ℕ → BooksAfter
refused_books b n = record { books = b; receipt = refusal n }

-- an accepted call, by its kind
abbrev pub accepted : ℕ → Paid → Trade → Shared → Charged → Receipt
accepted kind paid trade shared charged = record {
  number = 0;
  kind = kind;
  paid = paid;
  trade = trade;
  shared = shared;
  charged = charged;
}

-- a receipt of amounts, LP and charges alone, for the calls without fees
unfoldable pub amounts : ℕ → ℕ → ℕ → ℕ → ℕ → ℕ → Charged → Receipt
amounts kind in0 in1 out0 out1 lp charged =
    accepted kind (record { in0 = in0; in1 = in1; out0 = out0; out1 = out1; lp = lp }) no_trade nothing_shared charged
