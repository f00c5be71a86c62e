-- A day sheet over plain memory: what a piece and the end of the input leave, and the sheet's numbers and the progress, written where it is accepted.
-- Assumes nothing.
use Prim.Native.Nat.{ℕ}
use mathlib.Core.Path.{◌≡◌, ap, ◌∙◌}
use mathlib.Core.List.{List, [], ◌∷◌}
use lib.ListN.{length, take}
use Rattle.refusal.specs.Tests.{outcome}
use Rattle.refusal.proofs.Stops.{outcome_map}
use Rattle.words.specs.Words.{rates_of, at}
use Rattle.memory.specs.Memory.{record_tests}
use Rattle.sheet.specs.Lent.{sheet_in}
use Rattle.std.specs.Prelude.{Result, Ok, Err}
use Rattle.stream.specs.declared.feed.Going.{Going}
use Rattle.stream.specs.declared.feed.Fed.{Fed}
use Rattle.stream.specs.declared.feed.Ended.{Ended}
use Rattle.stream.specs.Pieces.{feed, left_by, finish, left_at_end}
use Rattle.stream.specs.Lent.{FedMemory, fed_memory, left_words, fed_over, EndMemory, end_memory, end_words, ended_over}
use Rattle.cp_swap.specs.DaySheet.{begun_at, SheetMemory, sheet_memory, sheet_words, stored_piece, fed_on, stored_end, ended_on}

-- the rates and the bytes held that the sheet's numbers say
abbrev going_in : List ℕ → Going
going_in s = record { rates = rates_of s; begun = at s begun_at }

module _ (p e s h o g : List ℕ) where
  -- ---- a piece, written by its answer
  abbrev piece_by : Result Fed ℕ → List ℕ → List ℕ → List ℕ → List ℕ → SheetMemory
  piece_by (Ok f) pool entries held output =
      sheet_memory 0 pool entries (sheet_words f.going.rates f.going.begun) held output (f.taken ∷ f.written ∷ [])
  piece_by (Err number) pool entries held output = sheet_memory number pool entries s held output g

  abbrev piece_of : FedMemory → SheetMemory
  piece_of m = piece_by m.answer m.pool m.entries m.held m.output

  piece_is : (i : List ℕ) → piece_of (fed_over (rates_of s) (at s begun_at) p e h i o) ≡ fed_on p e s h i o g
  unfolding outcome record_tests fed_over stored_piece fed_on
  piece_is i =
      outcome_map piece_of (record_tests p) (λ number. fed_memory (Err number) p e h o)
      (left_words (left_by o (feed (length o) (sheet_in (rates_of s) p e) (take (at s begun_at) h) i)))

  pub piece_stored : (i : List ℕ) {q : Going} {m : FedMemory} → q ≡ going_in s → m ≡ fed_over q.rates q.begun p e h i o → piece_of m ≡ fed_on p e s h i o g
  piece_stored i held fed = ap piece_of (fed ∙ ap (λ (q : Going). fed_over q.rates q.begun p e h i o) held) ∙ piece_is i

  -- ---- the end of the input, likewise
  abbrev end_by : Result Ended ℕ → List ℕ → List ℕ → List ℕ → SheetMemory
  end_by (Ok f) pool entries output = sheet_memory 0 pool entries (sheet_words f.rates 0) h output (0 ∷ f.written ∷ [])
  end_by (Err number) pool entries output = sheet_memory number pool entries s h output g

  abbrev end_of : EndMemory → SheetMemory
  end_of m = end_by m.answer m.pool m.entries m.output

  end_is : end_of (ended_over (rates_of s) (at s begun_at) p e h o) ≡ ended_on p e s h o g
  unfolding outcome record_tests ended_over stored_end ended_on
  end_is =
      outcome_map end_of (record_tests p) (λ number. end_memory (Err number) p e o)
      (end_words (left_at_end o (finish (sheet_in (rates_of s) p e) (take (at s begun_at) h))))

  pub end_stored : {q : Going} {m : EndMemory} → q ≡ going_in s → m ≡ ended_over q.rates q.begun p e h o → end_of m ≡ ended_on p e s h o g
  end_stored held ended = ap end_of (ended ∙ ap (λ (q : Going). ended_over q.rates q.begun p e h o) held) ∙ end_is
