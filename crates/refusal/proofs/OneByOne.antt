-- A stage's tests taken one at a time.
-- Assumes nothing.
use Rattle.std.proofs.Common.{◌≡◌, refl, ℕ, ◌+◌, ◌<◌, ◌≤◌, Bool, cond, Ok, Err, List, length, drop, get_or, drop-cons}
use Rattle.std.proofs.Math.Numerals.{add-one}
use Rattle.std.proofs.lemmas.List.{drop_all}
use Rattle.refusal.specs.Tests.{tested_by}

module _ {E : Type 0} (ts : List (Bool × E)) where
  -- from a place on: its test, and then the tests behind it
  pub tested_from : (i : ℕ) (t : Bool × E) → i < length ts → t ≡ get_or ts i t → tested_by (drop i ts) ≡ cond t.0 (Err t.1) (tested_by (drop (i + 1) ts))
  tested_from i t h e = rw (add-one i, drop-cons ts i t h, ← e) refl

  -- behind the last nothing is tested
  pub tested_past : (i : ℕ) → length ts ≤ i → tested_by (drop i ts) ≡ Ok tt
  tested_past i h = rw (drop_all i ts h) refl
