-- On a day sheet the vaults, the supply and all that a row prints stay within their columns.
-- Assumes nothing.
use Prim.Native.Nat.{ℕ, ◌≤◌}
use mathlib.Core.Path.{ap}
use mathlib.Core.Bool.{Bool, true, false, cond, not, ◌||◌}
use mathlib.Core.List.{List, [], ◌∷◌}
use native.Mathlib.Omega.{arith}
use lib.Dec.{eqb}
use lib.ListN.{length, take}
use Rattle.refusal.specs.Tests.{u64_max}
use Rattle.receipt.specs.declared.Receipt.{Receipt}
use Rattle.pool.specs.Calls.{zero_pool}
use Rattle.calls.specs.Next.{State}
use Rattle.calls.proofs.Within.{BooksFit, ReceiptFits, refusal_fits, call_fits, opening_fits}
use Rattle.std.specs.Prelude.{Option, Some, None}
use Rattle.columns.specs.Column.{read_column}
use Rattle.columns.proofs.ColumnBack.{ReadFits, column_fits}
use Rattle.rows.specs.declared.row.Row.{Row}
use Rattle.rows.specs.Row.{numbers, with, column_at, read_row}
use Rattle.sheet.specs.Sheet.{Sheet, Turn, empty_sheet, perform, first_amount, second_amount, is_swap}
use Rattle.sheet.specs.Turns.{sheet_after, state_in}
use Rattle.sheet.proofs.Effects.{opening_by, Effect, opened, calls, stays, effect}

-- ---- the numbers of a row that is read
abbrev RowFits : Option Row → Type 0
RowFits None = Unit {0}
RowFits (Some r) = (r.a ≤ u64_max) × (r.b ≤ u64_max)

abbrev row_with : Option ℕ → Option ℕ → Option ℕ → Option ℕ → Option ℕ → Option ℕ → Option Row
row_with kind a b c d e =
    with kind λ kind.
    with a λ a.
    with b λ b.
    with c λ c.
    with d λ d.
    with e λ e.
    Some (numbers kind a b c d e)

with_fits : (kind a b c d e : Option ℕ) → ReadFits a → ReadFits b → RowFits (row_with kind a b c d e)
with_fits None a b c d e h k = tt
with_fits (Some kind) None b c d e h k = tt
with_fits (Some kind) (Some a) None c d e h k = tt
with_fits (Some kind) (Some a) (Some b) None d e h k = tt
with_fits (Some kind) (Some a) (Some b) (Some c) None e h k = tt
with_fits (Some kind) (Some a) (Some b) (Some c) (Some d) None h k = tt
with_fits (Some kind) (Some a) (Some b) (Some c) (Some d) (Some e) h k = (h, k)

row_fits : (bytes : List ℕ) → RowFits (read_row bytes)
unfolding read_row
row_fits bytes =
    go (not (eqb (length bytes) 102)) _
    (with_fits (read_column (take 2 bytes)) (column_at bytes 0) (column_at bytes 1) (column_at bytes 2) (column_at bytes 3) (column_at bytes 4) (column_fits _) (column_fits _))
  where
    go : (b : Bool) (r : Option Row) → RowFits r → RowFits (cond b None r)
    go true r h = tt
    go false r h = h

-- ---- a row
pub record TurnFits (t : Turn) : Type 0 where
  pub books : BooksFit t.sheet.pool.books
  pub receipt : ReceiptFits t.receipt

turn_fits : (s : Sheet) (r : Option Row) (t : Turn) → RowFits r → Effect s r t → BooksFit s.pool.books → TurnFits t
turn_fits s r t f (opened q of_row _ z is) h =
    let g : RowFits (Some q) = rw of_row at f in
    let o = opening_fits (opening_by s q) z g.0 g.1 in
    rw is (record { books = o.books; receipt = o.receipt })
turn_fits s r t f (calls c _ is) h = let d = call_fits (state_in s) c h in rw is (record { books = d.books; receipt = d.receipt })
turn_fits s r t f (stays n short _ same is) h = record { books = rw (ap (λ (l : State). l.pool) same) h; receipt = rw is (refusal_fits n short) }

pub row_turn_fits : (s : Sheet) (bytes : List ℕ) → BooksFit s.pool.books → TurnFits (perform s (read_row bytes))
row_turn_fits s bytes h = turn_fits s (read_row bytes) _ (row_fits bytes) (effect s (read_row bytes)) h

pub rows_fit : (s : Sheet) (rs : List (List ℕ)) → BooksFit s.pool.books → BooksFit (sheet_after s rs).pool.books
unfolding sheet_after
rows_fit s [] h = h
rows_fit s (x ∷ rs) h = rows_fit (perform s (read_row x)).sheet rs (row_turn_fits s x h).books

pub empty_fits : BooksFit empty_sheet.pool.books
unfolding empty_sheet zero_pool
empty_fits = record { vault0 = omega arith; vault1 = omega arith; supply = omega arith }

-- ---- the two amounts that are printed
one_of : (p b : Bool) {x y z : ℕ} → x ≤ u64_max → y ≤ u64_max → z ≤ u64_max → cond p x (cond b y z) ≤ u64_max
one_of true b h k l = h
one_of false true h k l = k
one_of false false h k l = l

either : (b : Bool) {x y : ℕ} → x ≤ u64_max → y ≤ u64_max → cond b x y ≤ u64_max
either true h k = h
either false h k = k

pub first_fits : (x : Receipt) → ReceiptFits x → first_amount x ≤ u64_max
first_fits x h =
    one_of (is_swap x) (eqb x.kind 4) (either (eqb x.trade.direction 0) h.in0 h.in1) h.in0
    (either (eqb x.kind 5 || eqb x.kind 6) h.out0 (omega arith))

pub second_fits : (x : Receipt) → ReceiptFits x → second_amount x ≤ u64_max
second_fits x h =
    one_of (is_swap x) (eqb x.kind 4) (either (eqb x.trade.direction 0) h.out1 h.out0) h.in1
    (either (eqb x.kind 5 || eqb x.kind 6) h.out1 (omega arith))
