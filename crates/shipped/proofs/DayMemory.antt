-- The library's day sheet in memory is the day sheet.
-- Assumes nothing.
use Prim.Native.Nat.{ℕ, ◌+◌, ◌-◌}
use mathlib.Core.Path.{◌≡◌, refl, sym, ap, ◌∙◌}
use mathlib.Core.List.{List, [], ◌∷◌, ◌++◌, map, append_assoc}
use lib.ListN.{length, replicate, take, drop}
use lib.Seq.{take_at}
use Rattle.pool.specs.Calls.{zero_pool, zero_entries}
use Rattle.words.specs.Words.{pool_words}
use Rattle.sheet.specs.Sheet.{Sheet, empty_sheet}
use Rattle.stream.specs.Pieces.{Fed, feed, finish, holding, left_by, left_at_end}
use Rattle.however_cut.specs.HoweverCut.{Cut, fed_all, AllTaken}
use Rattle.however_cut.proofs.Cuts.{all_taken}
use Rattle.cp_swap.specs.DaySheet.{SheetMemory, sheet_words, stored_piece, fed_on, stored_end, ended_on}
use Rattle.shipped.specs.DayMemory.{Piece, fed_next, ended_next, taken_in, written_in, taken_by_pieces, written_by_pieces, zero_memory, DayMemoryTheorem}
use Rattle.shipped.proofs.Holding.{front_written, fed_on_lem, ended_on_lem}

-- the memory holds a sheet and the row that it has begun
record HoldingSheet (m : SheetMemory) (s : Sheet) (begun : List ℕ) : Type 0 where
  words : m.pool ≡ pool_words s.pool
  ring : m.entries ≡ s.entries
  numbers : m.sheet ≡ sheet_words s.rates (length begun)
  bytes : m.held ≡ holding begun

begun_held : (begun : List ℕ) → take (length begun) (holding begun) ≡ begun
unfolding holding
begun_held begun = take_at begun (replicate (103 - length begun) 0) (length begun) refl

module _ (s : Sheet) (begun output progress : List ℕ) where
  fed_here :
      (input : List ℕ)
      → fed_on (pool_words s.pool) s.entries (sheet_words s.rates (length begun)) (holding begun) input output progress
      ≡ stored_piece (left_by output (feed (length output) s begun input))
  fed_here input =
      fed_on_lem s.pool s.entries (sheet_words s.rates (length begun)) (holding begun) output progress input
      ∙ ap (λ (l : List ℕ). stored_piece (left_by output (feed (length output) s l input))) (begun_held begun)

  ended_here :
      ended_on (pool_words s.pool) s.entries (sheet_words s.rates (length begun)) (holding begun) output progress
      ≡ stored_end (holding begun) (left_at_end output (finish s begun))
  ended_here =
      ended_on_lem s.pool s.entries (sheet_words s.rates (length begun)) (holding begun) output progress
      ∙ ap (λ (l : List ℕ). stored_end (holding begun) (left_at_end output (finish s l))) (begun_held begun)

abbrev cut_of : Piece → Cut
cut_of p = record { shown = p.shown; room = length p.output }

-- what a piece left
record LeftIn (m : SheetMemory) (f : Fed) : Type 0 where
  held : HoldingSheet m f.sheet f.begun
  took : taken_in m ≡ f.taken
  wrote : written_in m ≡ f.written

piece_left : (output : List ℕ) (f : Fed) → LeftIn (stored_piece (left_by output f)) f
unfolding stored_piece left_by
piece_left output f = record {
  held = record { words = refl; ring = refl; numbers = refl; bytes = refl };
  took = refl;
  wrote = front_written output f.written;
}

piece_after : (m : SheetMemory) (s : Sheet) (begun input : List ℕ) (p : Piece) → HoldingSheet m s begun
    → LeftIn (fed_next m input p) (feed (length p.output) s begun (take p.shown input))
piece_after m s begun input p h = rw (h.words, h.ring, h.numbers, h.bytes, fed_here s begun p.output m.progress (take p.shown input)) (piece_left p.output _)

end_written : (m : SheetMemory) (s : Sheet) (begun last : List ℕ) → HoldingSheet m s begun → written_in (ended_next m last) ≡ (finish s begun).written
unfolding stored_end left_at_end
end_written m s begun last h = rw (h.words, h.ring, h.numbers, h.bytes, ended_here s begun last m.progress) (front_written last (finish s begun).written)

-- ---- all pieces
all_took : (m : SheetMemory) (s : Sheet) (begun input : List ℕ) (ps : List Piece) → HoldingSheet m s begun → taken_by_pieces m input ps ≡ (fed_all s begun input (map cut_of ps)).taken
unfolding taken_by_pieces fed_all
all_took m s begun input [] h = refl
all_took m s begun input (p ∷ ps) h =
    let f = feed (length p.output) s begun (take p.shown input) in
    let a = piece_after m s begun input p h in
    ap (λ (n : ℕ). n + taken_by_pieces (fed_next m input p) (drop n input) ps) a.took
    ∙ ap (λ (n : ℕ). f.taken + n) (all_took (fed_next m input p) f.sheet f.begun (drop f.taken input) ps a.held)

all_wrote :
    (m : SheetMemory) (s : Sheet) (begun input : List ℕ) (ps : List Piece) (last : List ℕ) → HoldingSheet m s begun
    → let f = fed_all s begun input (map cut_of ps) in written_by_pieces m input ps last ≡ f.written ++ (finish f.sheet f.begun).written
unfolding written_by_pieces fed_all
all_wrote m s begun input [] last h = end_written m s begun last h
all_wrote m s begun input (p ∷ ps) last h =
    let f = feed (length p.output) s begun (take p.shown input) in
    let a = piece_after m s begun input p h in
    let g = fed_all f.sheet f.begun (drop f.taken input) (map cut_of ps) in
    ap (λ (n : ℕ). written_in (fed_next m input p) ++ written_by_pieces (fed_next m input p) (drop n input) ps last) a.took
    ∙ ap (λ (l : List ℕ). l ++ written_by_pieces (fed_next m input p) (drop f.taken input) ps last) a.wrote
    ∙ ap (λ (l : List ℕ). f.written ++ l) (all_wrote (fed_next m input p) f.sheet f.begun (drop f.taken input) ps last a.held)
    ∙ sym (append_assoc f.written g.written (finish g.sheet g.begun).written)

start_held : (output progress : List ℕ) → HoldingSheet (zero_memory output progress) empty_sheet []
unfolding zero_memory empty_sheet zero_pool zero_entries holding
start_held output progress = record { words = refl; ring = refl; numbers = refl; bytes = refl }

pub day_memory_theorem : DayMemoryTheorem
unfolding DayMemoryTheorem AllTaken
day_memory_theorem input pieces last output progress taken =
    let h = start_held output progress in
    all_wrote (zero_memory output progress) empty_sheet [] input pieces last h
    ∙ all_taken input (map cut_of pieces) (sym (all_took (zero_memory output progress) empty_sheet [] input pieces h) ∙ taken)
