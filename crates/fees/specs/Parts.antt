-- Document 02 (h), 'Slicing gains nothing', the fees' part of it: of an amount in two parts the fees, rounded up, are together no less than the fee
-- of the whole, so that what is left of the parts is together no more than what is left of the whole. This holds at every rate.
use Rattle.std.specs.Prelude.{ℕ, ◌+◌, ◌-◌, ◌≤◌}
use Rattle.fees.specs.Fees.{fee_up}

-- what a trading or creator fee leaves of an amount
abbrev pub after_fee : ℕ → ℕ → ℕ
after_fee amount rate = amount - fee_up amount rate

pub record FeesOfParts : Type 0 where
  pub taken : (a b rate : ℕ) → fee_up (a + b) rate ≤ fee_up a rate + fee_up b rate
  pub left : (a b rate : ℕ) → after_fee a rate + after_fee b rate ≤ after_fee (a + b) rate
