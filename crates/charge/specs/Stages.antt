-- What the private steps of this crate answer. No public definition rests on these.
use Rattle.std.specs.Prelude.{Ok, Err, ℕ, ◌-◌, ◌*◌, ◌<◌, ◌≤◌, ◌≡◌, cond, ltb, eqb}
use Rattle.divide.specs.Division.{ceil_div}
use Rattle.math.specs.declared.ratio.NoQuotient.TheVariants.{Past}
use Rattle.math.specs.Ratio.{Quotient, ceil_of}
use Rattle.charge.specs.Charge.{ten_thousand}

-- what the points take of n where no maximum caps the charge
pub record ChargedByPoints (points n taken : ℕ) : Type 0 where
  pub some : points < ten_thousand → taken ≡ ceil_div (n * points) ten_thousand
  pub all : ten_thousand ≤ points → taken ≡ n

-- what is sent for w where no maximum caps the charge
unfoldable pub sent_by_points : ℕ → ℕ → Quotient
sent_by_points points w = cond (ltb points ten_thousand) (ceil_of (w * ten_thousand) (ten_thousand - points)) (cond (eqb w 0) (Ok 0) (Err Past))
