-- A memory that holds a point: what a call, an opening and a day sheet leave in it, and what they answer.
-- Assumes nothing.
use Prim.Native.Nat.{ℕ}
use mathlib.Core.Path.{◌≡◌, refl, sym, ◌∙◌}
use mathlib.Core.Bool.{Bool, true, false}
use mathlib.Core.List.{List}
use borrow.Author.Tests.{eq-eqb, ne_eqb, eqb-true, eqb-false}
use lib.Dec.{eqb, ltb}
use lib.ListN.{length, take}
use lib.Seq.{take_at}
use Rattle.refusal.proofs.Stops.{Passed, outcome_all}
use Rattle.receipt.specs.Receipt.{refusal}
use Rattle.pool.specs.declared.state.Pool.{Pool}
use Rattle.pool.specs.State.{Done}
use Rattle.calls.specs.declared.Call.{Call}
use Rattle.calls.specs.Next.{State, next, left}
use Rattle.calls.specs.Refused.{LeavesAll}
use Rattle.calls.proofs.Decisions.{number_of}
use Rattle.calls.proofs.Refusals.{call_number_tells}
use Rattle.words.specs.Words.{word, at, rates_of, pool_words}
use Rattle.words.proofs.ReadBack.{pool_read}
use Rattle.memory.specs.Memory.{Memory, untouched, stored, record_tests, called_on}
use Rattle.memory.proofs.Readable.{readable}
use Rattle.sheet.specs.Sheet.{Sheet}
use Rattle.stream.specs.Pieces.{feed, finish, over, left_by, left_at_end}
use Rattle.cp_swap.specs.DaySheet.{begun_at, stored_piece, fed_on, stored_end, ended_on}
use Rattle.shipped.specs.Library.{point_in, answered}

pub record Holding (pool entries : List ℕ) (s : State) : Type 0 where
  pub words : pool ≡ pool_words s.pool
  pub ring : entries ≡ s.entries

pub holding_point : {pool entries : List ℕ} {s : State} → Holding pool entries s → point_in pool entries ≡ s
holding_point {s = s} h = rw (h.words, h.ring, pool_read s.pool)

pub reads_at : (pool entries : List ℕ) {s : State} → Holding pool entries s → Holding pool entries (point_in pool entries)
reads_at pool entries h = rw (holding_point h) h

-- a record that was made of a pool passes its tests
is_flag : (flag : Bool) → ltb 1 (word flag) ≡ false
is_flag true = refl
is_flag false = refl

pub is_record : (p : Pool) → Passed (record_tests (pool_words p))
unfolding record_tests
is_record p = (is_flag p.terms.enabled, (is_flag p.ring.used, tt))

-- ---- calls and openings
-- the point that was left, and the receipt
pub record Gave (m : Memory) (d : Done) : Type 0 where
  pub point : Holding m.pool m.entries (left d)
  pub answer : answered m ≡ d.after.receipt

module _ (pool entries receipt : List ℕ) (d : Done) where
  pub stored_number : (stored pool entries receipt d).number ≡ number_of d
  unfolding stored untouched
  stored_number = go (eqb (number_of d) 0) refl
    where
      go : (b : Bool) → eqb (number_of d) 0 ≡ b → (stored pool entries receipt d).number ≡ number_of d
      go true t = rw t (sym (eqb-true _ _ t))
      go false t = rw t

  pub stored_gave : number_of d ≡ 0 → Gave (stored pool entries receipt d) d
  unfolding stored
  stored_gave z = rw (eq-eqb (number_of d) 0 z) (record { point = record { words = refl; ring = refl }; answer = refl })

  -- what is refused leaves record and ring
  pub refused_stays :
      (number_of d ≡ 0 → ⊥) → (s : State) → Holding pool entries s
      → let m = stored pool entries receipt d in Holding m.pool m.entries s × (answered m ≡ refusal (number_of d))
  unfolding stored untouched
  refused_stays f s h = rw (ne_eqb (number_of d) 0 f) (h, refl)

  -- its receipt is answered, accepted or refused
  pub given_answer : ((number_of d ≡ 0 → ⊥) → d.after.receipt ≡ refusal (number_of d)) → answered (stored pool entries receipt d) ≡ d.after.receipt
  unfolding stored untouched
  given_answer zeros = go (eqb (number_of d) 0) refl
    where
      go : (b : Bool) → eqb (number_of d) 0 ≡ b → answered (stored pool entries receipt d) ≡ d.after.receipt
      go true e = (stored_gave (eqb-true _ _ e)).answer
      go false e = rw e (sym (zeros (eqb-false _ _ e)))

  -- so is what is given at the point that the memory holds, if its refusals leave all as it was
  pub given_gave : (s : State) → Holding pool entries s → ((number_of d ≡ 0 → ⊥) → LeavesAll s d) → Gave (stored pool entries receipt d) d
  given_gave s h leaves = record { point = go (eqb (number_of d) 0) refl; answer = given_answer (λ f. (leaves f).zeros) }
    where
      go : (b : Bool) → eqb (number_of d) 0 ≡ b → let m = stored pool entries receipt d in Holding m.pool m.entries (left d)
      go true e = (stored_gave (eqb-true _ _ e)).point
      go false e = let f = eqb-false _ _ e in rw (leaves f).unchanged (refused_stays f s h).0

pub called_gave : (pool entries receipt : List ℕ) (s : State) (c : Call) → Holding pool entries s → Gave (called_on pool entries receipt c) (next s c)
called_gave pool entries receipt s c h =
    rw same
    (given_gave pool entries receipt (next s c) s h
    (λ f. let t = (call_number_tells s c).where_refused f in record { unchanged = t.unchanged; zeros = t.zeros }))
  where
    same : called_on pool entries receipt c ≡ stored pool entries receipt (next s c)
    same = rw (h.words, h.ring) (readable s.pool s.entries receipt c)

-- ---- a day sheet
pub front_written : (output written : List ℕ) → take (length written) (over output written) ≡ written
unfolding over
front_written output written = take_at written _ (length written) refl

module _ (p : Pool) (entries sheet held output progress : List ℕ) where
  abbrev pub sheet_here : Sheet
  sheet_here = record { rates = rates_of sheet; pool = p; entries = entries }

  pub fed_on_lem :
      (input : List ℕ)
      → fed_on (pool_words p) entries sheet held input output progress
      ≡ stored_piece (left_by output (feed (length output) sheet_here (take (at sheet begun_at) held) input))
  unfolding fed_on
  fed_on_lem input =
      sym (outcome_all (record_tests (pool_words p)) _ _ (is_record p))
      ∙ rw (pool_read p)

  pub ended_on_lem :
      ended_on (pool_words p) entries sheet held output progress ≡ stored_end held (left_at_end output (finish sheet_here (take (at sheet begun_at) held)))
  unfolding ended_on
  ended_on_lem =
      sym (outcome_all (record_tests (pool_words p)) _ _ (is_record p))
      ∙ rw (pool_read p)
