-- `calls::apply` meets its contract: one line for each kind of call.
use mathlib.Core.Path.{refl}
use Rattle.calls.specs.Next.{next}
use Rattle.calls.proofs.apply.Goals as goal

pub returns-in-SwapBaseInput : goal.returns-in-SwapBaseInput
unfolding next
returns-in-SwapBaseInput c = rw c.in-SwapBaseInput.is c.swap_base_input.ensures

pub returns-in-SwapBaseOutput : goal.returns-in-SwapBaseOutput
unfolding next
returns-in-SwapBaseOutput c = rw c.in-SwapBaseOutput.is c.swap_base_output.ensures

pub returns-in-Deposit : goal.returns-in-Deposit
unfolding next
returns-in-Deposit c = rw (c.in-Deposit.is, c.deposit.ensures) refl

pub returns-in-Withdraw : goal.returns-in-Withdraw
unfolding next
returns-in-Withdraw c = rw (c.in-Withdraw.is, c.withdraw.ensures) refl

pub returns-in-Settle : goal.returns-in-Settle
unfolding next
returns-in-Settle c = rw (c.in-Settle.is, c.settle_creator_fee.ensures) refl

pub returns-in-SetStatus : goal.returns-in-SetStatus
unfolding next
returns-in-SetStatus c = rw (c.in-SetStatus.is, c.set_status.ensures) refl
