-- Reading a row of another length.
use Prim.Native.Nat.{ℕ}
use mathlib.Core.Path.{◌≡◌}
use mathlib.Core.List.{List}
use borrow.Author.Tests.{ne_eqb}
use lib.ListN.{length}
use Rattle.std.specs.Prelude.{None}
use Rattle.rows.specs.Row.{read_row}

pub other_length : (bytes : List ℕ) → (length bytes ≡ 102 → ⊥) → read_row bytes ≡ None
unfolding read_row
other_length bytes h = rw (ne_eqb (length bytes) 102 h)
