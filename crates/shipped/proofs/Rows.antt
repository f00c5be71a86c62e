-- The rows of a day sheet: what they do to its pool, and where they stand in its input.
-- Assumes nothing.
use Prim.Native.Nat.{ℕ, zero, suc, ◌≤◌, ◌<◌}
use mathlib.Core.Path.{◌≡◌, refl, sym, ap, ◌∙◌}
use mathlib.Core.Bool.{false, ◌&&◌}
use mathlib.Core.List.{List, [], ◌∷◌, ◌++◌}
use native.Mathlib.Omega.{arith}
use lib.Dec.{eqb}
use lib.ListN.{length, take, drop, get_or, take-append-drop}
use lib.Seq.{take-take}
use Rattle.receipt.specs.declared.Receipt.{Receipt}
use Rattle.receipt.specs.Receipt.{refusal}
use Rattle.calls.specs.Next.{State}
use Rattle.calls.proofs.Within.{call_kind}
use Rattle.std.specs.Prelude.{Option}
use Rattle.rows.specs.declared.row.Row.{Row}
use Rattle.rows.specs.Row.{read_row}
use Rattle.sheet.specs.Sheet.{Sheet, Turn, perform}
use Rattle.sheet.specs.Turns.{sheet_after, receipts_of, state_in, is_opening, asks_opening}
use Rattle.sheet.proofs.Effects.{opening_by, Effect, opened, calls as asked, stays as alone, effect}
use Rattle.shipped.specs.Openings.{Went, stop, calls, opens, stays}
use Rattle.shipped.specs.Day.{OpeningsSeen}
use Rattle.shipped.proofs.Went.{opening_seen}

-- ---- what they do
row_went :
    (s : Sheet) {x : Option Row} (t : Turn) {xs : List Receipt} {later : State} → Effect s x t → Went (state_in t.sheet) xs later
    → Went (state_in s) (t.receipt ∷ xs) later
row_went s t (opened q _ _ z is) rest = rw is (opens (opening_by s q) z (rw is at rest))
row_went s t (asked c _ is) rest = rw is (calls c (rw is at rest))
row_went s t (alone n _ _ same is) rest = rw is (stays n (rw same at rest))

pub one_row_went : (s : Sheet) (row : List ℕ) → let t = perform s (read_row row) in Went (state_in s) (t.receipt ∷ []) (state_in t.sheet)
one_row_went s row = row_went s (perform s (read_row row)) (effect s (read_row row)) stop

pub rows_went : (s : Sheet) (rs : List (List ℕ)) → Went (state_in s) (receipts_of s rs) (state_in (sheet_after s rs))
unfolding receipts_of sheet_after
rows_went s [] = stop
rows_went s (x ∷ rs) = let t = perform s (read_row x) in row_went s t (effect s (read_row x)) (rows_went t.sheet rs)

-- an accepted opening is seen by its receipt
refusal_seen : (n : ℕ) → (is_opening (refusal n) ≡ false) × ((refusal n).number ≡ n)
unfolding refusal
refusal_seen n = (refl, refl)

seen : (s : Sheet) (r : Option Row) (t : Turn) → Effect s r t → is_opening t.receipt ≡ (asks_opening r && eqb t.receipt.number 0)
seen s r t (opened q of_row kind z is) = rw (is, of_row, kind, opening_seen (opening_by s q) z, z)
seen s r t (asked c none is) = rw (is, call_kind (state_in s) c, none)
seen s r t (alone n _ none same is) = rw (is, (refusal_seen n).0, (refusal_seen n).1, none)

pub openings_seen : OpeningsSeen
unfolding OpeningsSeen
openings_seen s r = seen s r (perform s r) (effect s r)

-- ---- between two points
rest_receipts : (i : ℕ) (s : Sheet) (rs : List (List ℕ)) → drop i (receipts_of s rs) ≡ receipts_of (sheet_after s (take i rs)) (drop i rs)
unfolding receipts_of sheet_after
rest_receipts zero s rs = refl
rest_receipts (suc i) s [] = refl
rest_receipts (suc i) s (x ∷ rs) = rest_receipts i (perform s (read_row x)).sheet rs

after_append : (s : Sheet) (xs ys : List (List ℕ)) → sheet_after s (xs ++ ys) ≡ sheet_after (sheet_after s xs) ys
unfolding sheet_after
after_append s [] ys = refl
after_append s (x ∷ xs) ys = after_append (perform s (read_row x)).sheet xs ys

pub points_went :
    (s : Sheet) (rs : List (List ℕ)) (i j : ℕ) → i ≤ j
    → Went (state_in (sheet_after s (take i rs))) (drop i (receipts_of s (take j rs))) (state_in (sheet_after s (take j rs)))
points_went s rs i j l = rw (later, between) (rows_went (sheet_after s (take i rs)) (drop i (take j rs)))
  where
    later : sheet_after s (take j rs) ≡ sheet_after (sheet_after s (take i rs)) (drop i (take j rs))
    later =
        ap (sheet_after s) (sym (take-append-drop i (take j rs)) ∙ ap (λ (xs : List (List ℕ)). xs ++ drop i (take j rs)) (take-take i j rs l))
        ∙ after_append s (take i rs) (drop i (take j rs))

    between : drop i (receipts_of s (take j rs)) ≡ receipts_of (sheet_after s (take i rs)) (drop i (take j rs))
    between = rest_receipts i s (take j rs) ∙ ap (λ (xs : List (List ℕ)). receipts_of (sheet_after s xs) (drop i (take j rs))) (take-take i j rs l)

-- row k, and the point after it
pub row_after :
    (k : ℕ) (s : Sheet) (rs : List (List ℕ)) → k < length rs
    → (perform (sheet_after s (take k rs)) (read_row (get_or rs k []))).sheet ≡ sheet_after s (take (suc k) rs)
unfolding sheet_after
row_after k s [] h = absurd (omega arith)
row_after zero s (x ∷ rs) h = refl
row_after (suc k) s (x ∷ rs) h = row_after k (perform s (read_row x)).sheet rs (omega arith)
