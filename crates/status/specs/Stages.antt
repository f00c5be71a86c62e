-- What the private steps of this crate answer. No public definition rests on these.
use Rattle.std.specs.Prelude.{ℕ, Result, Ok, Err}
use Rattle.refusal.specs.Tests.{outcome}
use Rattle.status.specs.Status.{flagged, status_tests}

-- the status after a change, or the number that refuses it
abbrev pub changed_status : ℕ → ℕ → ℕ → Result ℕ ℕ
changed_status status bit flag = outcome (status_tests bit flag) Err (Ok (flagged bit flag status))
