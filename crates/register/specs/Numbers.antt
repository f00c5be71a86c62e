-- The register over plain memory: two numbers an entry, its number and its balance.
use Rattle.std.specs.Prelude.{ℕ, ◌%◌, cond, List, [], ◌∷◌, length, map, slice_index, ◌==◌}
use Rattle.register.specs.declared.Holder.{Holder}

unfoldable pub pairs_of : List ℕ → List Holder
pairs_of [] = []
pairs_of (a ∷ []) = []
pairs_of (a ∷ b ∷ m) = record { number = a; balance = b } ∷ pairs_of m

-- the entries that the numbers are; an odd count of numbers is no list of entries
unfoldable pub entries_of : List ℕ → List Holder
entries_of m = cond (length m % 2 == 0) (pairs_of m) []

unfoldable pub numbers_of : List Holder → List ℕ
numbers_of [] = []
numbers_of (e ∷ es) = e.number ∷ e.balance ∷ numbers_of es

-- an entry's two numbers as an entry, and a list of such pairs as one of entries
abbrev pub holder_of : List ℕ → Holder
holder_of e = record { number = slice_index e 0; balance = slice_index e 1 }

abbrev pub holders_of : List (List ℕ) → List Holder
holders_of es = map holder_of es
