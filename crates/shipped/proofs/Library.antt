-- The library's calls in turn are a run: the memory holds its points, and its receipts are the run's.
-- Assumes nothing.
use Prim.Native.Nat.{ℕ, zero, suc}
use mathlib.Core.Path.{◌≡◌, refl, sym, ap, ◌∙◌}
use mathlib.Core.List.{List, [], ◌∷◌, map}
use lib.ListN.{take, drop}
use Rattle.receipt.specs.declared.Receipt.{Receipt}
use Rattle.pool.specs.Calls.{opening}
use Rattle.calls.specs.declared.Call.{Call}
use Rattle.calls.specs.Next.{State, next, left}
use Rattle.calls.proofs.Decisions.{number_of}
use Rattle.history.specs.Run.{Step, call, after, receipts}
use Rattle.history.specs.Demand3.{ListTheorem}
use Rattle.history.proofs.ListTheorem.{list_theorem, every_list_runs, between}
use Rattle.words.specs.Words.{opening_of}
use Rattle.memory.specs.Memory.{Memory, stored, opened_on}
use Rattle.shipped.specs.Library.{called_next, memory_after, receipts_in, point_of, LibraryTheorem}
use Rattle.shipped.proofs.Holding.{Holding, holding_point, stored_number, stored_gave, called_gave}

-- ---- a list of calls
take_calls : (k : ℕ) (cs : List Call) → map call (take k cs) ≡ take k (map call cs)
take_calls zero cs = refl
take_calls (suc k) [] = refl
take_calls (suc k) (c ∷ cs) = ap (λ (l : List Step). call c ∷ l) (take_calls k cs)

after_holds : (m : Memory) (s : State) (cs : List Call) → Holding m.pool m.entries s → let n = memory_after m cs in Holding n.pool n.entries (after s (map call cs))
unfolding memory_after after
after_holds m s [] h = h
after_holds m s (c ∷ cs) h = after_holds (called_next m c) (left (next s c)) cs (called_gave _ _ m.receipt s c h).point

pub receipts_read : (m : Memory) (s : State) (cs : List Call) → Holding m.pool m.entries s → receipts_in m cs ≡ receipts s (map call cs)
unfolding receipts_in receipts
receipts_read m s [] h = refl
receipts_read m s (c ∷ cs) h =
    let g = called_gave _ _ m.receipt s c h in
    ap (λ (x : Receipt). x ∷ receipts_in (called_next m c) cs) g.answer
    ∙ ap (λ (xs : List Receipt). (next s c).after.receipt ∷ xs) (receipts_read (called_next m c) (left (next s c)) cs g.point)

pub library_theorem : LibraryTheorem
unfolding LibraryTheorem ListTheorem opened_on
library_theorem pool entries receipt arguments z calls = record {
  receipts_right = λ k. receipts_read opened start (take k calls) held;
  holds = λ i j l.
      rw (receipts_read opened start (take i calls) held, point i, point j, take_calls i calls)
      (list_theorem (opening_of arguments) accepted _ (receipts (after start (take i steps)) (drop i (take j steps))) _ _
      (every_list_runs start (take i steps))
      (rw (between start steps i j l) (every_list_runs (after start (take i steps)) (drop i (take j steps)))));
}
  where
    opened : Memory
    opened = stored pool entries receipt (opening (opening_of arguments))

    start : State
    start = left (opening (opening_of arguments))

    accepted : number_of (opening (opening_of arguments)) ≡ 0
    accepted = sym (stored_number pool entries receipt _) ∙ z

    held : Holding opened.pool opened.entries start
    held = (stored_gave pool entries receipt _ accepted).point

    steps : List Step
    steps = map call calls

    point : (k : ℕ) → point_of (memory_after opened (take k calls)) ≡ after start (take k steps)
    point k = holding_point (after_holds opened start (take k calls) held) ∙ ap (after start) (take_calls k calls)
