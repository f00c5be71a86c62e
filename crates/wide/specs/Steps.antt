-- What the steps of a long division promise each other.
use Rattle.std.specs.Prelude.{◌≡◌, ℕ, ◌+◌, ◌*◌, ◌<◌, ◌≤◌, ◌⊎◌}

-- q and r are what n divided by d gives
pub record Divides (n d q r : ℕ) : Type 0 where
  pub whole : q * d + r ≡ n
  pub less : r < d

-- r is 1 where a is below b, and 0 elsewhere
abbrev pub Less : ℕ → ℕ → ℕ → Type 0
Less a b r = ((a < b) × (r ≡ 1)) ⊎ ((b ≤ a) × (r ≡ 0))
