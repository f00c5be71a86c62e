-- Document 01, 'The day sheet': the kinds of calls.
use Rattle.std.specs.Prelude.{ℕ, cond, eqb, Result, Ok, Err}
use Rattle.receipt.specs.declared.Kind.{Kind}
use Rattle.receipt.specs.declared.Kind.TheVariants as K
use Rattle.receipt.specs.declared.UnknownKind.{UnknownKind}

abbrev pub opening_kind : ℕ
opening_kind = 1

abbrev pub swap_base_input_kind : ℕ
swap_base_input_kind = 2

abbrev pub swap_base_output_kind : ℕ
swap_base_output_kind = 3

abbrev pub deposit_kind : ℕ
deposit_kind = 4

abbrev pub withdraw_kind : ℕ
withdraw_kind = 5

abbrev pub settle_creator_fee_kind : ℕ
settle_creator_fee_kind = 6

abbrev pub set_status_kind : ℕ
set_status_kind = 7

-- the kind of a number, where one has it
unfoldable pub kind_at : ℕ → Result Kind UnknownKind
kind_at n =
    cond (eqb n opening_kind) (Ok K.Opening)
    (cond (eqb n swap_base_input_kind) (Ok K.SwapBaseInput)
    (cond (eqb n swap_base_output_kind) (Ok K.SwapBaseOutput)
    (cond (eqb n deposit_kind) (Ok K.Deposit)
    (cond (eqb n withdraw_kind) (Ok K.Withdraw)
    (cond (eqb n settle_creator_fee_kind) (Ok K.SettleCreatorFee)
    (cond (eqb n set_status_kind) (Ok K.SetStatus) (Err (record { 0 = n }))))))))
