-- The rows written for an input in pieces are those written for the whole of it.
-- Assumes nothing.
use Prim.Native.Nat.{ℕ, suc, ◌+◌, ◌-◌, ◌*◌, ◌≤◌}
use mathlib.Core.Path.{◌≡◌, refl, sym, ap, ◌∙◌}
use mathlib.Core.Bool.{true, false}
use mathlib.Core.List.{List, [], ◌∷◌, ◌++◌, append_assoc}
use native.Mathlib.Omega.{arith}
use borrow.Author.Tests.{ltb-true}
use lib.Dec.{eqb, ltb}
use lib.ListN.{length, take, drop, take-append-drop}
use lib.Seq.{drop-length, drop-append-le, drop-drop}
use Rattle.rows.specs.Row.{newline, row_bytes, read_row, rows_from}
use Rattle.sheet.specs.Sheet.{Sheet, empty_sheet, perform, yielded, run, day_sheet}
use Rattle.stream.specs.Pieces.{kept, Fed, ahead, feed}
use Rattle.stream.proofs.GoesOn.{by_tests, goes_on}
use Rattle.however_cut.specs.HoweverCut.{Cut, followed, fed_all, HoweverCut, AllTaken, written_for, joined, GoesOn, PiecesAreTheWhole}
use Rattle.however_cut.proofs.Alike.{next_byte, last_row, run_kept}

-- what was written up to a point, and what is written for the bytes that are left
abbrev in_all : Fed → List ℕ → List ℕ
in_all f left = f.written ++ run f.sheet (rows_from f.begun left)

-- ---- one piece
-- what it leaves of itself and the rest of the input
abbrev left_over : Fed → List ℕ → List ℕ → List ℕ
left_over f piece rest = drop f.taken piece ++ rest

one_ahead : (row : List ℕ) (f : Fed) (byte : ℕ) (bytes rest : List ℕ) → in_all (ahead row f) (left_over (ahead row f) (byte ∷ bytes) rest) ≡ row ++ in_all f (left_over f bytes rest)
one_ahead row f byte bytes rest =
    let e : 1 + f.taken ≡ suc f.taken = omega arith in
    ap (λ (n : ℕ). in_all (ahead row f) (drop n (byte ∷ bytes) ++ rest)) e
    ∙ append_assoc row f.written (run f.sheet (rows_from f.begun (left_over f bytes rest)))

module _ (s : Sheet) (begun : List ℕ) (f : Fed) (byte : ℕ) (bytes rest : List ℕ) where
  -- a newline, where the piece goes on with the next row
  row_ends :
      (let t = perform s (read_row begun) in eqb byte newline ≡ true → in_all f (left_over f bytes rest) ≡ run t.sheet (rows_from [] (bytes ++ rest))
      → in_all (ahead (yielded t) f) (left_over (ahead (yielded t) f) (byte ∷ bytes) rest) ≡ run s (rows_from begun (byte ∷ (bytes ++ rest))))
  unfolding run
  row_ends e h =
      let t = perform s (read_row begun) in
      one_ahead (yielded t) f byte bytes rest
      ∙ (ap (λ (l : List ℕ). yielded t ++ l) h ∙ ap (run s) (sym (next_byte begun byte (bytes ++ rest) true e)))

  -- a byte of the row that is begun
  row_goes_on :
      (let more = begun ++ (byte ∷ []) in eqb byte newline ≡ false → in_all f (left_over f bytes rest) ≡ run s (rows_from (kept more) (bytes ++ rest))
      → in_all (ahead [] f) (left_over (ahead [] f) (byte ∷ bytes) rest) ≡ run s (rows_from begun (byte ∷ (bytes ++ rest))))
  row_goes_on e h =
      one_ahead [] f byte bytes rest
      ∙ (h ∙ (run_kept s (begun ++ (byte ∷ [])) (bytes ++ rest) ∙ ap (run s) (sym (next_byte begun byte (bytes ++ rest) false e))))

piece_of_whole :
    (room : ℕ) (s : Sheet) (begun piece rest : List ℕ)
    → let f = feed room s begun piece in in_all f (left_over f piece rest) ≡ run s (rows_from begun (piece ++ rest))
unfolding feed
piece_of_whole room s begun [] rest = refl
piece_of_whole room s begun (byte ∷ bytes) rest =
    let P : Fed → Type 0 = λ f. in_all f (left_over f (byte ∷ bytes) rest) ≡ run s (rows_from begun (byte ∷ (bytes ++ rest))) in
    let after = (perform s (read_row begun)).sheet in
    let more = kept (begun ++ (byte ∷ [])) in
    by_tests P (ltb room row_bytes) (eqb byte newline) (λ full. refl)
    (λ fits e. row_ends s begun (feed (room - row_bytes) after [] bytes) byte bytes rest e (piece_of_whole (room - row_bytes) after [] bytes rest))
    (λ fits e. row_goes_on s begun (feed room s more bytes) byte bytes rest e (piece_of_whole room s more bytes rest))

-- no more is taken than there is
taken_fits : (room : ℕ) (s : Sheet) (begun piece : List ℕ) → (feed room s begun piece).taken ≤ length piece
unfolding feed
taken_fits room s begun [] = omega arith
taken_fits room s begun (byte ∷ bytes) =
    let P : Fed → Type 0 = λ f. f.taken ≤ suc (length bytes) in
    by_tests P (ltb room row_bytes) (eqb byte newline) (λ full. omega arith)
    (λ fits e. omega (arith, taken_fits (room - row_bytes) (perform s (read_row begun)).sheet [] bytes))
    (λ fits e. omega (arith, taken_fits room s (kept (begun ++ (byte ∷ []))) bytes))

-- room for as many rows as bytes suffices for all of them
pub whole_taken : (room : ℕ) (s : Sheet) (begun piece : List ℕ) → row_bytes * length piece ≤ room → (feed room s begun piece).taken ≡ length piece
unfolding feed
whole_taken room s begun [] h = refl
whole_taken room s begun (byte ∷ bytes) h =
    let P : Fed → Type 0 = λ f. f.taken ≡ suc (length bytes) in
    by_tests P (ltb room row_bytes) (eqb byte newline) (λ full. absurd (omega (arith, ltb-true)))
    (λ fits e. omega (arith, whole_taken (room - row_bytes) (perform s (read_row begun)).sheet [] bytes (omega arith)))
    (λ fits e. omega (arith, whole_taken room s (kept (begun ++ (byte ∷ []))) bytes (omega arith)))

-- ---- any cuts
-- what is left of the bytes that a piece was shown, and those that it was not, are what is left of the input
left_of_input : (shown taken : ℕ) (input : List ℕ) → taken ≤ length (take shown input) → drop taken (take shown input) ++ drop shown input ≡ drop taken input
left_of_input shown taken input h = sym (drop-append-le taken (take shown input) (drop shown input) h) ∙ ap (drop taken) (take-append-drop shown input)

first_cut : (room shown : ℕ) (s : Sheet) (begun input : List ℕ) → let f = feed room s begun (take shown input) in in_all f (drop f.taken input) ≡ run s (rows_from begun input)
first_cut room shown s begun input =
    let f = feed room s begun (take shown input) in
    ap (in_all f) (sym (left_of_input shown f.taken input (taken_fits room s begun (take shown input))))
    ∙ (piece_of_whole room s begun (take shown input) (drop shown input) ∙ ap (λ (l : List ℕ). run s (rows_from begun l)) (take-append-drop shown input))

-- one piece and then the others
two_in_all : (f g : Fed) (input : List ℕ) → in_all (followed f g) (drop (f.taken + g.taken) input) ≡ f.written ++ in_all g (drop g.taken (drop f.taken input))
two_in_all f g input =
    ap (in_all (followed f g)) (sym (drop-drop g.taken f.taken input))
    ∙ append_assoc f.written g.written (run g.sheet (rows_from g.begun (drop g.taken (drop f.taken input))))

any_cuts : (s : Sheet) (begun input : List ℕ) (cuts : List Cut) → let f = fed_all s begun input cuts in in_all f (drop f.taken input) ≡ run s (rows_from begun input)
unfolding fed_all
any_cuts s begun input [] = refl
any_cuts s begun input (c ∷ cs) =
    let f = feed c.room s begun (take c.shown input) in
    two_in_all f (fed_all f.sheet f.begun (drop f.taken input) cs) input
    ∙ (ap (λ (l : List ℕ). f.written ++ l) (any_cuts f.sheet f.begun (drop f.taken input) cs)
    ∙ first_cut c.room c.shown s begun input)

pub however_cut : HoweverCut
unfolding HoweverCut day_sheet
however_cut input cuts = any_cuts empty_sheet [] input cuts

-- once all of some bytes is taken
none_left : (bytes : List ℕ) {taken : ℕ} → taken ≡ length bytes → drop taken bytes ≡ []
none_left bytes e = ap (λ (n : ℕ). drop n bytes) e ∙ drop-length bytes

pub all_taken : AllTaken
unfolding AllTaken HoweverCut
all_taken input cuts all =
    let f = fed_all empty_sheet [] input cuts in
    ap (λ (l : List ℕ). f.written ++ l) (sym (last_row f.sheet f.begun)) ∙ (ap (in_all f) (sym (none_left input all)) ∙ however_cut input cuts)

-- ---- pieces with room for all their rows
any_pieces : (s : Sheet) (begun : List ℕ) (pieces : List (List ℕ)) → written_for s begun pieces ≡ run s (rows_from begun (joined pieces))
unfolding written_for joined
any_pieces s begun [] = sym (last_row s begun)
any_pieces s begun (piece ∷ pieces) =
    let room = row_bytes * length piece in
    let f = feed room s begun piece in
    let none : drop f.taken piece ≡ [] = none_left piece (whole_taken room s begun piece (omega arith)) in
    ap (λ (l : List ℕ). f.written ++ l) (any_pieces f.sheet f.begun pieces)
    ∙ (ap (λ (l : List ℕ). in_all f (l ++ joined pieces)) (sym none) ∙ piece_of_whole room s begun piece (joined pieces))

pub goes_on_everywhere : GoesOn
unfolding GoesOn
goes_on_everywhere = goes_on

pub pieces_are_the_whole : PiecesAreTheWhole
unfolding PiecesAreTheWhole day_sheet
pieces_are_the_whole pieces = any_pieces empty_sheet [] pieces
