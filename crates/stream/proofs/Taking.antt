-- What a piece does, a line at a time.
use Prim.Native.Nat.{ℕ, zero, suc, ◌+◌, ◌-◌, ◌≤◌, ◌<◌}
use mathlib.Core.Path.{◌≡◌, refl, sym, ap, ◌∙◌}
use mathlib.Core.Bool.{Bool, true, false, cond}
use mathlib.Core.List.{List, [], ◌∷◌, ◌++◌, append-nil, append_assoc}
use native.Mathlib.Omega.{arith}
use native.Mathlib.Numerals.{add-one}
use native.Mathlib.Nat.{add-zero, zero-add, add_assoc, sub-zero}
use borrow.Author.Tests.{lt-ltb, le-ltb, le-leb}
use lib.Dec.{eqb}
use lib.ListN.{length, take, drop, length-append, length-drop, take-append-drop}
use lib.Seq.{drop-drop, take_at, drop_at, take-length, drop-length, length-take-le}
use Rattle.rows.specs.Row.{newline, read_row, with_row}
use Rattle.oracle.specs.Ring.{Entries}
use Rattle.rates.specs.declared.Rates.{Rates}
use Rattle.sheet.specs.Sheet.{Sheet, Turn, perform, yielded}
use Rattle.sheet.specs.Lent.{sheet_in}
use Rattle.stream.specs.Pieces.{Fed, kept, nothing_taken, ahead, feed, holding, over, left_by}
use Rattle.stream.specs.Stages.{line_length, Answered, ahead_by, Midway, Through}
use Rattle.stream.proofs.Answering.{yielded_length}
use Rattle.stream.proofs.Lines.{kept_whole, kept_short, kept_again, read_kept, line_ends}

pub no_room : (room : ℕ) (s : Sheet) (begun bytes : List ℕ) → room < 103 → feed room s begun bytes ≡ nothing_taken s begun
unfolding feed
no_room room s begun [] h = refl
no_room room s begun (byte ∷ bytes) h = rw (lt-ltb room 103 h)

-- a newline ends the row that is begun
pub row_ends :
    (room : ℕ) (s : Sheet) (begun bytes : List ℕ) → 103 ≤ room
    → feed room s begun (newline ∷ bytes)
    ≡ ahead (yielded (perform s (read_row begun))) (feed (room - 103) (perform s (read_row begun)).sheet [] bytes)
unfolding feed
row_ends room s begun bytes h = rw (le-ltb room 103 h)

-- any other byte belongs to it
byte_on :
    (room : ℕ) (s : Sheet) (begun : List ℕ) (byte : ℕ) (bytes : List ℕ) → 103 ≤ room → eqb byte newline ≡ false
    → feed room s begun (byte ∷ bytes) ≡ ahead [] (feed room s (kept (begun ++ (byte ∷ []))) bytes)
unfolding feed
byte_on room s begun byte bytes h e = rw (le-ltb room 103 h, e)

none_left : (room : ℕ) (s : Sheet) (begun : List ℕ) → feed room s begun [] ≡ nothing_taken s begun
unfolding feed
none_left room s begun = refl

-- ---- steps one after the other
nothing_ahead : (f : Fed) → f ≡ ahead_by 0 [] f
nothing_ahead f = rw (zero-add f.taken)

two_steps : (n m : ℕ) (a b : List ℕ) (f : Fed) → ahead_by n a (ahead_by m b f) ≡ ahead_by (n + m) (a ++ b) f
two_steps n m a b f = rw (add_assoc n m f.taken, append_assoc a b f.written)

-- ---- a line
-- as far as the next newline: the bytes belong to the row that is begun
pub through :
    (room : ℕ) (s : Sheet) (begun bytes : List ℕ) → 103 ≤ room → length begun ≤ 103
    → feed room s begun bytes
    ≡ ahead_by (line_length bytes) [] (feed room s (kept (begun ++ take (line_length bytes) bytes)) (drop (line_length bytes) bytes))
unfolding line_length
through room s begun [] h k = rw (append-nil begun, kept_whole begun k) (nothing_ahead (feed room s begun []))
through room s begun (byte ∷ bytes) h k =
    go (eqb byte newline) refl (through room s (kept (begun ++ (byte ∷ []))) bytes h (kept_short (begun ++ (byte ∷ []))))
  where
    go : (ends : Bool) → eqb byte newline ≡ ends
        → feed room s (kept (begun ++ (byte ∷ []))) bytes ≡ ahead_by (line_length bytes) [] (feed room s (kept (kept (begun ++ (byte ∷ [])) ++ take (line_length bytes) bytes)) (drop (line_length bytes) bytes))
        → let m = cond ends zero (suc (line_length bytes)) in
        feed room s begun (byte ∷ bytes) ≡ ahead_by m [] (feed room s (kept (begun ++ take m (byte ∷ bytes))) (drop m (byte ∷ bytes)))
    go true e later = rw (append-nil begun, kept_whole begun k) (nothing_ahead (feed room s begun (byte ∷ bytes)))
    go false e later =
        let one : 1 + line_length bytes ≡ suc (line_length bytes) = omega arith in
        let same : kept (kept (begun ++ (byte ∷ [])) ++ take (line_length bytes) bytes) ≡ kept (begun ++ (byte ∷ take (line_length bytes) bytes)) =
        kept_again (begun ++ (byte ∷ [])) (take (line_length bytes) bytes) ∙ ap kept (append_assoc begun (byte ∷ []) (take (line_length bytes) bytes)) in
        byte_on room s begun byte bytes h e
        ∙ (ap (ahead []) later
        ∙ (two_steps 1 (line_length bytes) [] [] (feed room s (kept (kept (begun ++ (byte ∷ [])) ++ take (line_length bytes) bytes)) (drop (line_length bytes) bytes))
        ∙ rw (one, same)))

-- ---- a row at a place of the output
record Placed (output : List ℕ) (at : ℕ) (row written : List ℕ) : Type 0 where
  front : take (at + 103) written ≡ take at output ++ row
  back : drop (at + 103) written ≡ drop (at + 103) output
  long : length written ≡ length output

placed : (output : List ℕ) (at : ℕ) (row written : List ℕ) → at + 103 ≤ length output → length row ≡ 103 → written ≡ with_row output at row → Placed output at row written
unfolding with_row
placed output at row written fits r e =
    let w : written ≡ (take at output ++ row) ++ drop (at + 103) output =
    e ∙ rw (le-leb (at + 103) (length output) fits) (sym (append_assoc (take at output) row (drop (at + 103) output))) in
    let l : length (take at output ++ row) ≡ at + 103 = simp (length-append, length-take-le at output (omega arith), r) in
    record {
      front = ap (take (at + 103)) w ∙ take_at (take at output ++ row) (drop (at + 103) output) (at + 103) l;
      back = ap (drop (at + 103)) w ∙ drop_at (take at output ++ row) (drop (at + 103) output) (at + 103) l;
      long = ap length w ∙ (length-append (take at output ++ row) (drop (at + 103) output) ∙ rw (l, length-drop (at + 103) output) (omega arith));
    }

-- a row that is read where it stands is the one that would be kept
pub whole_line : (s : Sheet) (row : List ℕ) → perform s (read_row (kept row)) ≡ perform s (read_row row)
whole_line s row = ap (perform s) (read_kept row)

-- ---- a piece, row after row
pub begins : (output input : List ℕ) (s : Sheet) (begun : List ℕ) → Midway (feed (length output) s begun input) output input s begun 0 0 output
begins output input s begun =
    record { is = rw (sub-zero (length output)) (nothing_ahead (feed (length output) s begun input)); fills = record { long = refl; after = refl; room = omega arith } }

module _ (whole : Fed) (before input : List ℕ) (s : Sheet) (begun : List ℕ) (taken written : ℕ) (output : List ℕ) (m : Midway whole before input s begun taken written output) where
  pub next_row :
      (n : ℕ) (t : Turn) (after : Rates) (pool : List ℕ) (entries : Entries) (output' : List ℕ) → length begun ≤ 103 → 103 ≤ length before - written
      → n ≡ line_length (drop taken input) → n < length (drop taken input)
      → perform s (read_row (kept (begun ++ take n (drop taken input)))) ≡ t
      → Answered t output written after pool entries output'
      → Midway whole before input (sheet_in after pool entries) [] (taken + (n + 1)) (written + 103) output'
  next_row n t after pool entries output' k h e l did a =
      let rest = drop taken input in
      let room = length before - written in
      let at = placed output written (yielded t) output' (omega arith) (yielded_length t) a.row in
      let row = kept (begun ++ take n rest) in
      let line : feed room s begun rest ≡ ahead_by n [] (feed room s row (drop n rest)) = rw e (through room s begun rest h k) in
      let ends : drop n rest ≡ newline ∷ drop (suc n) rest = rw e (line_ends rest (omega arith)) in
      let answer : feed room s row (drop n rest) ≡ ahead_by 1 (yielded t) (feed (room - 103) t.sheet [] (drop (suc n) rest)) =
      ap (feed room s row) ends ∙ (row_ends room s row (drop (suc n) rest) h ∙ rw did) in
      let far : taken + n + 1 ≡ taken + (n + 1) = omega arith in
      let left : room - 103 ≡ length before - (written + 103) = omega arith in
      let on : drop (suc n) rest ≡ drop (taken + (n + 1)) input = drop-drop (suc n) taken input ∙ rw (add-one n) in
      let all : whole ≡ ahead_by (taken + n + 1) ((take written output ++ []) ++ yielded t) (feed (room - 103) t.sheet [] (drop (suc n) rest)) =
      m.is
      ∙ (ap (ahead_by taken (take written output)) (line ∙ ap (ahead_by n []) answer)
      ∙ (two_steps taken n (take written output) [] _ ∙ two_steps (taken + n) 1 (take written output ++ []) (yielded t) _)) in
      record {
        is = all ∙ rw (far, append-nil (take written output), left, on, ← at.front, ← a.sheet);
        fills = record {
          long = at.long ∙ m.fills.long;
          after = at.back ∙ (sym (drop-drop 103 written output) ∙ (ap (drop 103) m.fills.after ∙ drop-drop 103 written before));
          room = omega arith;
        };
      }

  pub no_more_room : length before - written < 103 → Through whole before s begun taken written output
  no_more_room h =
      record {
        is = m.is ∙ (ap (ahead_by taken (take written output)) (no_room _ s begun (drop taken input) h) ∙ rw (add-zero taken, append-nil (take written output)));
        fills = m.fills;
      }

  pub no_more_lines :
      length begun ≤ 103 → 103 ≤ length before - written → taken ≤ length input → line_length (drop taken input) ≡ length (drop taken input)
      → Through whole before s (kept (begun ++ drop taken input)) (length input) written output
  no_more_lines k h fits e =
      let rest = drop taken input in
      let room = length before - written in
      let line : feed room s begun rest ≡ ahead_by (length rest) [] (nothing_taken s (kept (begun ++ rest))) =
      through room s begun rest h k ∙ rw (e, take-length rest, drop-length rest) (ap (ahead_by (length rest) []) (none_left room s (kept (begun ++ rest)))) in
      let far : taken + (length rest + 0) ≡ length input = rw (length-drop taken input) (omega arith) in
      record {
        is = m.is ∙ (ap (ahead_by taken (take written output)) line ∙ rw (far, append-nil (take written output)));
        fills = m.fills;
      }

-- ---- what it leaves
pub leaves :
    (whole : Fed) (before : List ℕ) (s : Sheet) (begun : List ℕ) (taken written : ℕ) (output : List ℕ) → Through whole before s begun taken written output
    → record { sheet = s; begun = length begun; held = holding begun; taken = taken; written = written; output = output } ≡ left_by before whole
unfolding left_by over
leaves whole before s begun taken written output h =
    let long : length (take written output) ≡ written = length-take-le written output (omega (arith, h.fills)) in
    let same : take written output ++ drop written before ≡ output = ap (λ (l : List ℕ). take written output ++ l) (sym h.fills.after) ∙ take-append-drop written output in
    sym (ap (left_by before) h.is ∙ rw (long, same))
