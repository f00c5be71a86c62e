-- A memory with a register: what the calls with one leave in it, and that it holds the points of document 02 (g).
-- Assumes nothing.
use Prim.Native.Nat.{ℕ}
use mathlib.Core.Path.{◌≡◌, refl, sym, ap, ◌∙◌}
use mathlib.Core.Bool.{Bool, true, false}
use mathlib.Core.List.{List, [], ◌∷◌}
use borrow.Author.Tests.{eqb-false}
use lib.Dec.{eqb}
use lib.ListN.{take}
use Rattle.refusal.proofs.Stops.{outcome_all}
use Rattle.register.specs.declared.Holder.{Holder}
use Rattle.register.specs.Numbers.{entries_of}
use Rattle.pool.specs.State.{Done, refused}
use Rattle.register.proofs.Pairs.{entries_back}
use Rattle.calls.specs.Next.{State, left}
use Rattle.calls.specs.Registered.{Registered, without_register, Entered, next_with, opening_with}
use Rattle.calls.proofs.Entries.{number_in, entered_tells, entered_given}
use Rattle.history.specs.Register.{Turn, enters, other, Point, point_after, turned, turned_all, RegisterTheorem}
use Rattle.history.proofs.Registers.{register_theorem}
use Rattle.words.specs.Words.{opening_of, pool_words}
use Rattle.words.proofs.ReadBack.{pool_read}
use Rattle.memory.specs.Memory.{Memory, memory, untouched, stored, record_tests}
use Rattle.register_calls.specs.Lent.{RegisterMemory, untouched_with, stored_with, register_called_on, register_opened_on}
use Rattle.shipped.specs.Openings.{Went, stop, calls, stays}
use Rattle.shipped.specs.Register.{turned_in, memory_after_all, point_held, RegisterInMemory}
use Rattle.shipped.proofs.Holding.{Holding, holding_point, reads_at, is_record, Gave, stored_number, stored_gave, given_gave, called_gave}

-- ---- what is left is what the same without a register leaves, and the list
abbrev pub plain : RegisterMemory → Memory
plain n = memory n.number n.pool n.entries n.receipt

module _ (pool entries receipt holders : List ℕ) (e : Entered) where
  pub stored_plain : plain (stored_with pool entries receipt holders e) ≡ stored pool entries receipt e.given
  unfolding stored_with untouched_with stored untouched
  stored_plain = go (eqb (number_in e) 0) refl
    where
      go : (b : Bool) → eqb (number_in e) 0 ≡ b → plain (stored_with pool entries receipt holders e) ≡ stored pool entries receipt e.given
      go true t = rw t
      go false t = rw t

  stored_list : ((number_in e ≡ 0 → ⊥) → e.holders ≡ entries_of holders) → entries_of (stored_with pool entries receipt holders e).holders ≡ e.holders
  unfolding stored_with untouched_with
  stored_list same = go (eqb (number_in e) 0) refl
    where
      go : (b : Bool) → eqb (number_in e) 0 ≡ b → entries_of (stored_with pool entries receipt holders e).holders ≡ e.holders
      go true t = rw t (entries_back e.holders)
      go false t = rw t (sym (same (eqb-false _ _ t)))

  pub stored_accepted : (stored_with pool entries receipt holders e).number ≡ 0 → number_in e ≡ 0
  stored_accepted z = sym (stored_number pool entries receipt e.given) ∙ ap (λ (n : Memory). n.number) (sym stored_plain) ∙ z

-- ---- a deposit or a withdrawal
module _ (pool entries receipt holders : List ℕ) (s : State) (c : Registered) (h : Holding pool entries s) where
  abbrev given : Entered
  given = next_with s (entries_of holders) c

  reads : register_called_on pool entries receipt holders c ≡ stored_with pool entries receipt holders given
  unfolding register_called_on
  reads = rw (h.words, h.ring) (sym (outcome_all (record_tests (pool_words s.pool)) _ _ (is_record s.pool)) ∙ rw (pool_read s.pool))

  pub registered_gave : Gave (plain (register_called_on pool entries receipt holders c)) given.given
  registered_gave =
      rw (reads, stored_plain pool entries receipt holders given)
      (given_gave pool entries receipt given.given s h (λ f. ((entered_tells s (entries_of holders) c).where_refused f).all))

  registered_list : entries_of (register_called_on pool entries receipt holders c).holders ≡ given.holders
  registered_list =
      rw reads (stored_list pool entries receipt holders given (λ f. ((entered_tells s (entries_of holders) c).where_refused f).list))

-- refused it leaves pool and ring alone, accepted it is the call without a register
pub registered_went : (s : State) (es : List Holder) (c : Registered) → let d = (next_with s es c).given in Went s (d.after.receipt ∷ []) (left d)
unfolding refused
registered_went s es c =
    entered_given s es c (λ (d : Done). Went s (d.after.receipt ∷ []) (left d)) (λ n. stays n stop) (calls (without_register es c) stop)

-- ---- calls that keep one register
abbrev Reads : RegisterMemory → Type 0
Reads m = Holding m.pool m.entries (point_held m).state

record Turns (m : RegisterMemory) (t : Turn) : Type 0 where
  next_reads : Reads (turned_in m t)
  next_point : point_held (turned_in m t) ≡ turned (point_held m) t

turn_goes : (m : RegisterMemory) (t : Turn) → Reads m → Turns m t
turn_goes m (enters c) h =
    let g = registered_gave m.pool m.entries m.receipt m.holders (point_held m).state c h in
    record {
      next_reads = reads_at _ _ g.point;
      next_point = λ i. record {
        state = holding_point g.point i;
        holders = registered_list m.pool m.entries m.receipt m.holders (point_held m).state c h i;
      };
    }
turn_goes m (other c without) h =
    let g = called_gave m.pool m.entries m.receipt (point_held m).state c h in
    record {
      next_reads = reads_at _ _ g.point;
      next_point = λ i. record { state = holding_point g.point i; holders = entries_of m.holders };
    }

turns_go : (m : RegisterMemory) (ts : List Turn) → Reads m → point_held (memory_after_all m ts) ≡ turned_all (point_held m) ts
unfolding memory_after_all turned_all
turns_go m [] h = refl
turns_go m (t ∷ ts) h =
    let one = turn_goes m t h in
    turns_go (turned_in m t) ts one.next_reads ∙ ap (λ (p : Point). turned_all p ts) one.next_point

pub register_in_memory : RegisterInMemory
unfolding RegisterInMemory RegisterTheorem register_opened_on
register_in_memory pool entries receipt holders arguments holder z ts = record {
  in_memory = λ i. turns_go opened (take i ts) (reads_at _ _ gave.point);
  holds = λ i.
      rw (turns_go opened (take i ts) (reads_at _ _ gave.point), start)
      ((register_theorem (opening_of arguments) (entries_of holders) holder accepted).1 ts i);
}
  where
    e : Entered
    e = opening_with (opening_of arguments) (entries_of holders) holder

    opened : RegisterMemory
    opened = stored_with pool entries receipt holders e

    accepted : number_in e ≡ 0
    accepted = stored_accepted pool entries receipt holders e z

    gave : Gave (plain opened) e.given
    gave = rw (stored_plain pool entries receipt holders e) (stored_gave pool entries receipt e.given accepted)

    start : point_held opened ≡ point_after e
    start = λ i. record {
      state = holding_point gave.point i;
      holders = stored_list pool entries receipt holders e (λ f. absurd (f accepted)) i;
    }
