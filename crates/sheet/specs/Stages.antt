-- What the private steps of this crate answer. No public definition rests on these.
use Rattle.std.specs.Prelude.{Result, Ok, Err, List, ℕ, Bool, false, cond, ◌&&◌, eqb}
use Rattle.calls.specs.declared.Call.{Call}
use Rattle.calls.specs.declared.Call.TheVariants.{SwapBaseInput, SwapBaseOutput, Deposit, Withdraw, Settle, SetStatus}
use Rattle.calls.specs.Next.{state_of, next}
use Rattle.words.specs.Words.{share_of}
use Rattle.rates.specs.declared.Rates.{Rates}
use Rattle.oracle.specs.Ring.{Entries}
use Rattle.receipt.specs.Receipt.{refusal}
use Rattle.rows.specs.declared.row.Row.{Row}
use Rattle.words.specs.Words.{receipt_words}
use Rattle.sheet.specs.Lent.{RowMemory, row_memory}
use Rattle.sheet.specs.Sheet.{Sheet, Turn, called, unless_spare}
use Rattle.receipt.specs.Kind as Kind

-- ---- the call that a row asks for: its kind has one and its spare numbers are 0
unfoldable pub readable : Row → Bool
readable r =
    cond (eqb r.kind Kind.swap_base_input_kind) (eqb r.e 0)
    (cond (eqb r.kind Kind.swap_base_output_kind) (eqb r.e 0)
    (cond (eqb r.kind Kind.deposit_kind) (eqb r.d 0 && eqb r.e 0)
    (cond (eqb r.kind Kind.withdraw_kind) (eqb r.e 0)
    (cond (eqb r.kind Kind.settle_creator_fee_kind) (eqb r.a 0 && eqb r.b 0 && eqb r.c 0 && eqb r.d 0 && eqb r.e 0)
    (cond (eqb r.kind Kind.set_status_kind) (eqb r.c 0 && eqb r.d 0 && eqb r.e 0)
    false)))))

-- of a row that has one, so that kind 7 is the last
unfoldable pub call_of : ℕ → Row → Call
call_of share r =
    cond (eqb r.kind Kind.swap_base_input_kind) (SwapBaseInput r.a r.b r.c r.d)
    (cond (eqb r.kind Kind.swap_base_output_kind) (SwapBaseOutput r.a r.b r.c r.d)
    (cond (eqb r.kind Kind.deposit_kind) (Deposit (record { 0 = r.a }) (record { 0 = r.b }) (record { 0 = r.c }))
    (cond (eqb r.kind Kind.withdraw_kind) (Withdraw (record { 0 = r.a }) (record { 0 = r.b }) (record { 0 = r.c }) (record { 0 = r.d }))
    (cond (eqb r.kind Kind.settle_creator_fee_kind) (Settle share)
    (SetStatus r.a r.b)))))

unfoldable pub called_for : Sheet → Row → Turn
called_for s r =
    unless_spare (readable r) s (called s (next (state_of s.pool s.entries) (call_of (share_of s.pool) r)))

-- what a row leaves: the rates after it, or the receipt of what refuses it, and all else as it was
abbrev pub taken : Rates → Result Rates ℕ → List ℕ → Entries → List ℕ → RowMemory
taken rates (Ok after) pool entries receipt = row_memory after pool entries receipt
taken rates (Err number) pool entries receipt = row_memory rates pool entries (receipt_words (refusal number))
