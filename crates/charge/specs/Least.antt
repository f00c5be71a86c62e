-- Document 02 (c): 'the sent amount is the least whose rest is the amount wanted', of any points and maximum.
use Rattle.std.specs.Prelude.{ℕ, ◌+◌, ◌-◌, ◌≤◌, ◌≡◌, ◌⊎◌, ltb}
use Rattle.refusal.specs.Tests.{u64_max, past}
use Rattle.charge.specs.declared.Charge.{Charge}
use Rattle.charge.specs.Charge.{charge_on, rest_of, least_sent}

pub record LeastFor (c : Charge) : Type 0 where
  -- nothing is lost: what arrives and the charge are what was sent
  pub whole : (n : ℕ) → rest_of c n + charge_on c n ≡ n
  -- with each one more that is sent, the same arrives or one more
  pub grows : (n : ℕ) → (rest_of c (n + 1) ≡ rest_of c n) ⊎ (rest_of c (n + 1) ≡ rest_of c n + 1)
  -- so every amount is reached: of the least amount sent for w, exactly w arrives
  pub reached : (w : ℕ) → rest_of c (least_sent c w) ≡ w
  -- and no smaller amount leaves it
  pub least : (w n : ℕ) → rest_of c n ≡ w → least_sent c w ≤ n
  -- the charge on what is sent is sent less w
  pub charge : (w : ℕ) → charge_on c (least_sent c w) ≡ least_sent c w - w
  -- no u64 is enough exactly where w is above what arrives of 2^64 − 1
  pub none : (w : ℕ) → past (least_sent c w) ≡ ltb (rest_of c u64_max) w

abbrev pub LeastSent : Type 0
LeastSent = (c : Charge) → LeastFor c
