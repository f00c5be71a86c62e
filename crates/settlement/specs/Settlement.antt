-- Document 01, 'Settlement' (share rate), with document 02 (c), over the tokens' charges c and the books b: the creators are paid, and the protocol
-- gets its shared part.
use Rattle.std.specs.Prelude.{ℕ, ◌+◌, ◌-◌, [], ◌∷◌, ltb}
use Rattle.refusal.specs.Refusal.{invalid_input, math_overflow, insufficient_vault}
use Rattle.refusal.specs.Tests.{Tests, past, outcome}
use Rattle.fees.specs.Fees.{million, fee_down}
use Rattle.charge.specs.declared.Charges.{Charges}
use Rattle.charge.specs.declared.Charged.{Charged}
use Rattle.charge.specs.Charge.{charged_on}
use Rattle.accounting.specs.declared.FeeCounters.{FeeCounters}
use Rattle.accounting.specs.declared.Books.{Books}
use Rattle.receipt.specs.declared.Receipt.{Receipt}
use Rattle.receipt.specs.declared.BooksAfter.{BooksAfter}
use Rattle.receipt.specs.Kind.{settle_creator_fee_kind}
use Rattle.receipt.specs.Receipt.{no_trade, accepted, refused_books}

-- share, 3; protocol counter 8; the creators' amounts leave the vaults, too small is 7
unfoldable pub settlement_tests : ℕ → ℕ → Books → ℕ → Tests
settlement_tests shared0 shared1 b share =
    (ltb million share, invalid_input)
    ∷ (past (b.fees.protocol0 + shared0), math_overflow)
    ∷ (past (b.fees.protocol1 + shared1), math_overflow)
    ∷ (ltb b.vault0 (b.fees.creator0 - shared0), insufficient_vault)
    ∷ (ltb b.vault1 (b.fees.creator1 - shared1), insufficient_vault)
    ∷ []

-- the shared part goes to the protocol counter; creator counters become 0
unfoldable pub settled_counters : ℕ → ℕ → FeeCounters → FeeCounters
settled_counters shared0 shared1 f = record {
  protocol0 = f.protocol0 + shared0;
  protocol1 = f.protocol1 + shared1;
  fund0 = f.fund0;
  fund1 = f.fund1;
  creator0 = 0;
  creator1 = 0;
}

-- the creators' amounts as paid out, the shared parts and the charges apart
unfoldable pub settlement_receipt : ℕ → ℕ → ℕ → ℕ → Charged → Receipt
settlement_receipt out0 out1 shared0 shared1 charged =
    accepted settle_creator_fee_kind (record { in0 = 0; in1 = 0; out0 = out0; out1 = out1; lp = 0 }) no_trade
    (record { shared0 = shared0; shared1 = shared1 }) charged

-- the creators' amounts, each creator counter less its shared part, leave the vaults, and bear the charges
abbrev pub settled : ℕ → ℕ → Charges → Books → BooksAfter
settled shared0 shared1 c b = record {
  books = record {
    vault0 = b.vault0 - (b.fees.creator0 - shared0);
    vault1 = b.vault1 - (b.fees.creator1 - shared1);
    fees = settled_counters shared0 shared1 b.fees;
    supply = b.supply;
  };
  receipt =
      settlement_receipt (b.fees.creator0 - shared0) (b.fees.creator1 - shared1) shared0 shared1
      (charged_on c (b.fees.creator0 - shared0) (b.fees.creator1 - shared1));
}

unfoldable pub settlement_at : ℕ → ℕ → Charges → Books → ℕ → BooksAfter
settlement_at shared0 shared1 c b share = outcome (settlement_tests shared0 shared1 b share) (refused_books b) (settled shared0 shared1 c b)

unfoldable pub settlement_after : Charges → Books → ℕ → BooksAfter
settlement_after c b share = settlement_at (fee_down b.fees.creator0 share) (fee_down b.fees.creator1 share) c b share
