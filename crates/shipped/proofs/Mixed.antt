-- Calls and openings, without a register and with one, and day sheets mixed in any order on one memory.
-- Assumes nothing.
use Prim.Native.Nat.{ℕ, zero, suc, ◌≤◌}
use mathlib.Core.Path.{◌≡◌, refl, sym, ap, subst, ◌∙◌}
use mathlib.Core.Bool.{Bool, true, false, true≢false}
use mathlib.Core.List.{List, [], ◌∷◌, ◌++◌}
use native.Mathlib.Omega.{arith}
use borrow.Author.Tests.{eqb-true, eqb-false}
use lib.Dec.{eqb}
use lib.ListN.{length, take, drop}
use Rattle.refusal.specs.Tests.{u64_max}
use Rattle.receipt.specs.declared.Receipt.{Receipt}
use Rattle.register.specs.Numbers.{entries_of}
use Rattle.opening.specs.declared.Opening.{Opening}
use Rattle.pool.specs.State.{Done}
use Rattle.pool.specs.Calls.{zero_pool, zero_entries, opening as opens-pool}
use Rattle.calls.specs.Next.{State}
use Rattle.calls.specs.Registered.{Entered, opening_with}
use Rattle.calls.proofs.Decisions.{zero_state, number_of}
use Rattle.calls.proofs.Entries.{opened_tells}
use Rattle.calls.proofs.Refusals.{opening_number_tells}
use Rattle.calls.proofs.Within.{BooksFit}
use Rattle.rows.specs.Row.{read_row}
use Rattle.history.specs.Afresh.{Reckoning, start}
use Rattle.history.proofs.Locked.{Locked, opening_locked}
use Rattle.words.specs.Words.{at, opening_of, receipt_of}
use Rattle.memory.specs.Memory.{Memory, stored, opened_on}
use Rattle.register_calls.specs.Lent.{register_opened_on}
use Rattle.sheet.specs.Sheet.{Sheet, perform, run}
use Rattle.sheet.specs.Turns.{sheet_after, receipts_of, state_in}
use Rattle.stream.specs.Pieces.{feed, finish, left_by, left_at_end}
use Rattle.cp_swap.specs.DaySheet.{stored_piece, fed_on, stored_end, ended_on}
use Rattle.shipped.specs.Openings.{reckon_all, reckon_next, no_opening, Went, stop, calls, opens, stays}
use Rattle.shipped.specs.Library.{answered}
use Rattle.shipped.specs.Written.{state_after, ShowsRows}
use Rattle.shipped.specs.Mixed.{Lent, Use, call, opening, registered, opening_by, piece, end, opened_in, opened_by_in, fed_in, ended_in, by_call, used, used_all, begun_in, rows_of, sheet_held, sheet_of, written_by, receipts_by, point_here, points_of, points_by, receipts_by_all, points_by_all, point_at, HoldsMixed, RowPoints, Zeros, MixedTheorem}
use Rattle.shipped.proofs.Went.{went_on, SoundAt, zeros_sound, opening_counted, opening_sound, went_sound, went_locked, holds_along}
use Rattle.shipped.proofs.Rows.{one_row_went}
use Rattle.shipped.proofs.Printed.{rows_show}
use Rattle.shipped.proofs.Holding.{Holding, holding_point, reads_at, stored_number, stored_gave, refused_stays, given_answer, called_gave, front_written, fed_on_lem, ended_on_lem}
use Rattle.shipped.proofs.Registers.{plain, stored_plain, stored_accepted, registered_gave, registered_went}
use Rattle.shipped.proofs.Pieces.{Answers, piece_answers, end_answers}

-- the record is read as the pool that it was made of
abbrev Reads : Lent → Type 0
Reads m = Holding m.pool m.entries (point_here m)

-- receipts with the point after each, from one point to another
data Walk : State → List Receipt → List State → State → Type 0 where
  none : {s : State} → Walk s [] [] s
  more :
      {s t u : State} {x : Receipt} {xs : List Receipt} {ps : List State} → Went s (x ∷ []) t → Walk t xs ps u
      → Walk s (x ∷ xs) (t ∷ ps) u

walk_on :
    {s t u : State} {xs ys : List Receipt} {ps qs : List State} → Walk s xs ps t → Walk t ys qs u → Walk s (xs ++ ys) (ps ++ qs) u
walk_on none g = g
walk_on (more w f) g = more w (walk_on f g)

walk_went :
    {s u : State} {xs : List Receipt} {ps : List State} (i j : ℕ) → i ≤ j → Walk s xs ps u
    → Went (point_at s ps i) (drop i (take j xs)) (point_at s ps j)
unfolding point_at
walk_went zero zero l f = stop
walk_went zero (suc j) l none = stop
walk_went zero (suc j) l (more w f) = went_on w (walk_went zero j (omega arith) f)
walk_went (suc i) zero l f = absurd (omega arith)
walk_went (suc i) (suc j) l none = stop
walk_went (suc i) (suc j) l (more w f) = walk_went i j (omega arith) f

walk_starts : {s u : State} {xs : List Receipt} {ps : List State} (k : ℕ) → Walk s xs ps u → Went s (take k xs) (point_at s ps k)
unfolding point_at
walk_starts k f = walk_went zero k (omega arith) f

walk_past :
    {s t : State} {xs : List Receipt} {ps : List State} (qs rs : List State) → Walk s xs ps t
    → point_at s (ps ++ qs) (length (ps ++ rs)) ≡ point_at t qs (length rs)
unfolding point_at
walk_past qs rs none = refl
walk_past qs rs (more w f) = walk_past qs rs f

rows_walk : (s : Sheet) (rs : List (List ℕ)) → Walk (state_in s) (receipts_of s rs) (points_of s rs) (state_in (sheet_after s rs))
unfolding receipts_of points_of sheet_after
rows_walk s [] = none
rows_walk s (x ∷ rs) = more (one_row_went s x) (rows_walk (perform s (read_row x)).sheet rs)

pub row_points : RowPoints
unfolding RowPoints point_at points_of sheet_after
row_points = go
  where
    go : (s : Sheet) (rs : List (List ℕ)) (k : ℕ) → point_at (state_in s) (points_of s rs) k ≡ state_after s rs k
    go s rs zero = refl
    go s [] (suc k) = refl
    go s (x ∷ rs) (suc k) = go (perform s (read_row x)).sheet rs k

-- from one memory to the next
record Goes (m : Lent) (xs : List Receipt) (ps : List State) (n : Lent) : Type 0 where
  reads : Reads n
  walk : Walk (point_here m) xs ps (point_here n)

-- one answer, and the point after it
one_answer :
    (m n : Lent) {x y : Receipt} (s : State) → Holding n.pool n.entries s → x ≡ y → Went (point_here m) (y ∷ []) s
    → Goes m (x ∷ []) (point_here n ∷ []) n
one_answer m n {x} s h e w =
    let step : Went (point_here m) (x ∷ []) (point_here n) = rw (holding_point h, e) w in
    record { reads = reads_at n.pool n.entries h; walk = more step none }

-- ---- an opening with a register
module _ (m : Lent) (w holders : List ℕ) (holder : ℕ) where
  abbrev by : Entered
  by = opening_with (opening_of w) (entries_of holders) holder

  by_is_opening : number_of by.given ≡ 0 → by.given ≡ opens-pool (opening_of w)
  by_is_opening z = ((opened_tells (opening_of w) (entries_of holders) holder).where_accepted z).given

  opened_by : plain (opened_by_in m w holders holder) ≡ stored m.pool m.entries m.receipt by.given
  unfolding register_opened_on
  opened_by = stored_plain m.pool m.entries m.receipt holders by

  by_answers : receipt_of (opened_by_in m w holders holder).receipt ≡ by.given.after.receipt
  by_answers =
      ap answered opened_by
      ∙ given_answer m.pool m.entries m.receipt by.given (λ f. ((opened_tells (opening_of w) (entries_of holders) holder).where_refused f).all.zeros)

  -- accepted it is the opening without one
  by_same : (opened_by_in m w holders holder).number ≡ 0 → plain (opened_by_in m w holders holder) ≡ opened_in m w
  unfolding opened_on register_opened_on
  by_same z =
      opened_by
      ∙ ap (stored m.pool m.entries m.receipt) (by_is_opening (stored_accepted m.pool m.entries m.receipt holders by z))

-- ---- each use
module _ (m : Lent) (h : Reads m) where
  -- a piece and the end, on the sheet that the memory holds
  fed_here :
      (sheet held input output progress : List ℕ)
      → fed_in m sheet held input output progress ≡ stored_piece (left_by output (feed (length output) (sheet_held m sheet) (begun_in sheet held) input))
  fed_here sheet held input output progress =
      ap (λ (w : List ℕ). fed_on w m.entries sheet held input output progress) h.words
      ∙ fed_on_lem (point_here m).pool m.entries sheet held output progress input

  ended_here :
      (sheet held output progress : List ℕ)
      → ended_in m sheet held output progress ≡ stored_end held (left_at_end output (finish (sheet_held m sheet) (begun_in sheet held)))
  ended_here sheet held output progress =
      ap (λ (w : List ℕ). ended_on w m.entries sheet held output progress) h.words
      ∙ ended_on_lem (point_here m).pool m.entries sheet held output progress

  -- some rows answered on it
  rows_go :
      (sheet : List ℕ) (n : Lent) {rs : List (List ℕ)} {after : Sheet} {written : List ℕ} → Answers (sheet_held m sheet) rs after written
      → Holding n.pool n.entries (state_in after) → Goes m (receipts_of (sheet_held m sheet) rs) (points_of (sheet_held m sheet) rs) n
  rows_go sheet n {rs} a held = record {
    reads = reads_at n.pool n.entries held;
    walk = rw (holding_point held, a.sheet) (rows_walk (sheet_held m sheet) rs);
  }

  opening_answers : (w : List ℕ) → answered (opened_in m w) ≡ (opens-pool (opening_of w)).after.receipt
  unfolding opened_on
  opening_answers w = given_answer m.pool m.entries m.receipt _ (λ f. ((opening_number_tells (opening_of w)).where_refused f).zeros)

  -- one answer leaves that memory
  abbrev GoesTo : Memory → Type 0
  GoesTo n = Goes m (answered n ∷ []) (point_here (by_call n) ∷ []) (by_call n)

  -- what is given is the opening's where it is accepted
  opened_goes : (o : Opening) (d : Done) → (number_of d ≡ 0 → d ≡ opens-pool o) → GoesTo (stored m.pool m.entries m.receipt d)
  opened_goes o d is = go (eqb (number_of d) 0) refl
    where
      go : (q : Bool) → eqb (number_of d) 0 ≡ q → GoesTo (stored m.pool m.entries m.receipt d)
      go true z =
          let accepted = eqb-true _ _ z in
          let g = stored_gave m.pool m.entries m.receipt d accepted in
          one_answer m _ _ g.point g.answer (rw (is accepted) (opens o (rw (is accepted) at accepted) stop))
      go false z =
          let k = refused_stays m.pool m.entries m.receipt d (eqb-false _ _ z) (point_here m) h in
          one_answer m _ _ k.0 k.1 (stays _ stop)

  opening_by_goes : (w holders : List ℕ) (holder : ℕ) → GoesTo (plain (opened_by_in m w holders holder))
  opening_by_goes w holders holder =
      subst GoesTo (sym (opened_by m w holders holder)) (opened_goes (opening_of w) _ (by_is_opening m w holders holder))

  use_goes : (u : Use) → Goes m (receipts_by m u) (points_by m u) (used m u)
  unfolding used receipts_by points_by opened_on stored_piece left_by stored_end left_at_end
  use_goes (call c) = let g = called_gave _ _ m.receipt (point_here m) c h in one_answer m _ _ g.point g.answer (calls c stop)
  use_goes (opening w) = opened_goes (opening_of w) (opens-pool (opening_of w)) (λ z. refl)
  use_goes (registered holders c) =
      let g = registered_gave _ _ m.receipt holders (point_here m) c h in
      one_answer m _ _ g.point g.answer (registered_went (point_here m) (entries_of holders) c)
  use_goes (opening_by w holders holder) = opening_by_goes w holders holder
  use_goes (piece sheet held input output progress) =
      rows_go sheet _ (piece_answers (length output) (sheet_held m sheet) (begun_in sheet held) input)
      (rw (fed_here sheet held input output progress) (record { words = refl; ring = refl }))
  use_goes (end sheet held output progress) =
      rows_go sheet _ (end_answers (sheet_held m sheet) (begun_in sheet held))
      (rw (ended_here sheet held output progress) (record { words = refl; ring = refl }))

  use_writes : (u : Use) → written_by m u ≡ run (sheet_of m u) (rows_of u)
  unfolding run stored_piece left_by stored_end left_at_end
  use_writes (call c) = refl
  use_writes (opening w) = refl
  use_writes (registered holders c) = refl
  use_writes (opening_by w holders holder) = refl
  use_writes (piece sheet held input output progress) =
      rw (fed_here sheet held input output progress)
      (front_written output _ ∙ (piece_answers (length output) (sheet_held m sheet) (begun_in sheet held) input).rows)
  use_writes (end sheet held output progress) =
      rw (ended_here sheet held output progress) (front_written output _ ∙ (end_answers (sheet_held m sheet) (begun_in sheet held)).rows)

  books_fit : (u : Use) → ((i : ℕ) → at m.pool i ≤ u64_max) → BooksFit (sheet_of m u).pool.books
  books_fit (call c) fits = record { vault0 = fits 0; vault1 = fits 1; supply = fits 8 }
  books_fit (opening w) fits = record { vault0 = fits 0; vault1 = fits 1; supply = fits 8 }
  books_fit (registered holders c) fits = record { vault0 = fits 0; vault1 = fits 1; supply = fits 8 }
  books_fit (opening_by w holders holder) fits = record { vault0 = fits 0; vault1 = fits 1; supply = fits 8 }
  books_fit (piece sheet held input output progress) fits = record { vault0 = fits 0; vault1 = fits 1; supply = fits 8 }
  books_fit (end sheet held output progress) fits = record { vault0 = fits 0; vault1 = fits 1; supply = fits 8 }

  use_shows : (u : Use) → ((i : ℕ) → at m.pool i ≤ u64_max) → ShowsRows (written_by m u) (sheet_of m u) (rows_of u)
  use_shows u fits k l = rw (use_writes u) (rows_show (sheet_of m u) (rows_of u) (books_fit u fits) k l)

-- ---- a list of uses
uses_go : (m : Lent) (us : List Use) → Reads m → Goes m (receipts_by_all m us) (points_by_all m us) (used_all m us)
unfolding receipts_by_all points_by_all used_all
uses_go m [] h = record { reads = h; walk = none }
uses_go m (u ∷ us) h =
    let first = use_goes m h u in
    let rest = uses_go (used m u) us first.reads in
    record { reads = rest.reads; walk = walk_on first.walk rest.walk }

memory_point :
    (k : ℕ) (m : Lent) (us : List Use) → Reads m
    → point_here (used_all m (take k us)) ≡ point_at (point_here m) (points_by_all m us) (length (points_by_all m (take k us)))
unfolding points_by_all used_all point_at
memory_point zero m us h = refl
memory_point (suc k) m [] h = refl
memory_point (suc k) m (u ∷ us) h =
    let first = use_goes m h u in
    memory_point k (used m u) us first.reads
    ∙ sym (walk_past (points_by_all (used m u) us) (points_by_all (used m u) (take k us)) first.walk)

reckon_append : (r : Reckoning) (xs ys : List Receipt) → reckon_all r (xs ++ ys) ≡ reckon_all (reckon_all r xs) ys
unfolding reckon_all
reckon_append r [] ys = refl
reckon_append r (x ∷ xs) ys = reckon_append (reckon_next r x) xs ys

uses_hold :
    (before : List Receipt) (m : Lent) (us : List Use) → Reads m → SoundAt (reckon_all (start 0 0) before) (point_here m)
    → (no_opening before ≡ false → Locked (point_here m)) → HoldsMixed before m us
uses_hold before m us h sound locked = record {
  holds =
      holds_along _ _ _
      (λ k. rw (reckon_append (start 0 0) before (take k (receipts_by_all m us))) (went_sound _ (walk_starts k whole.walk) sound))
      (λ k. went_locked before locked (walk_starts k whole.walk))
      (λ i j l. walk_went i j l whole.walk);
  in_memory = λ k. memory_point k m us h;
  answers_call = λ k c. (called_gave _ _ (here k).receipt (point_here (here k)) c (reads k)).answer;
  answers_opening = λ k w. opening_answers (here k) (reads k) w;
  answers_registered = λ k holders c. (registered_gave _ _ (here k).receipt holders (point_here (here k)) c (reads k)).answer;
  answers_opening_by = λ k w holders holder. by_answers (here k) w holders holder;
  writes = λ k u. use_writes (here k) (reads k) u;
  shows = λ k u fits. use_shows (here k) (reads k) u fits;
}
  where
    whole : Goes m (receipts_by_all m us) (points_by_all m us) (used_all m us)
    whole = uses_go m us h

    here : ℕ → Lent
    here k = used_all m (take k us)

    reads : (k : ℕ) → Reads (here k)
    reads k = (uses_go m (take k us) h).reads

-- ---- the three beginnings
zeros_held : (m : Lent) → Zeros m → Holding m.pool m.entries zero_state
unfolding zero_pool zero_entries
zeros_held m z = record { words = z.zero_pool; ring = z.zero_ring }

from_zeros : (m : Lent) (us : List Use) → Zeros m → HoldsMixed [] m us
unfolding reckon_all no_opening
from_zeros m us z =
    let h = zeros_held m z in
    uses_hold [] m us (reads_at m.pool m.entries h) (rw (holding_point h) zeros_sound) (λ e. absurd (true≢false e))

from_opening :
    (m : Lent) (us : List Use) (w : List ℕ) → (opened_in m w).number ≡ 0
    → HoldsMixed (receipts_by m (opening w)) (used m (opening w)) us
unfolding opened_on used receipts_by reckon_all
from_opening m us w z =
    let d' = opens-pool (opening_of w) in
    let accepted : number_of d' ≡ 0 = sym (stored_number m.pool m.entries m.receipt d') ∙ z in
    let g = stored_gave m.pool m.entries m.receipt d' accepted in
    uses_hold _ _ us (reads_at _ _ g.point)
    (rw (holding_point g.point, g.answer, opening_counted (opening_of w) accepted (start 0 0)) (opening_sound (opening_of w) accepted))
    (λ _. subst Locked (sym (holding_point g.point)) (opening_locked (opening_of w) accepted))

from_opening_by :
    (m : Lent) (us : List Use) (w holders : List ℕ) (holder : ℕ) → (opened_by_in m w holders holder).number ≡ 0
    → HoldsMixed (receipts_by m (opening_by w holders holder)) (used m (opening_by w holders holder)) us
unfolding used receipts_by
from_opening_by m us w holders holder z =
    let same = by_same m w holders holder z in
    subst (λ (n : Memory). HoldsMixed (answered n ∷ []) (by_call n) us) (sym same)
    (from_opening m us w (sym (ap (λ (n : Memory). n.number) same) ∙ z))

pub mixed_theorem : MixedTheorem
unfolding MixedTheorem
mixed_theorem m us = (from_zeros m us, from_opening m us, from_opening_by m us)
