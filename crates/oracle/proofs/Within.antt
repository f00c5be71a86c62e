-- An update stays within the ring's length: the grid stays, what it writes lies before the length, and what lies at or past it is not looked at.
-- Assumes nothing.
use Prim.Native.Nat.{ℕ, ◌+◌, ◌*◌, ◌≤◌, ◌<◌}
use mathlib.Core.Path.{◌≡◌, refl, sym, ◌∙◌}
use mathlib.Core.Bool.{Bool, true, false, cond, not}
use native.Mathlib.Omega.{arith}
use lib.Dec.{eqb}
use lib.ListN.{length, set, length-set}
use lib.Seq.{get_or-set_same, get_or-set_other}
use borrow.Author.Tests.{eqb-true, eqb-false}
use borrow.Author.Rules.{read_above}
use Rattle.std.specs.Prelude.{Result, Ok, Err}
use Rattle.oracle.specs.declared.Ring.{Ring}
use Rattle.oracle.specs.declared.Observation.{Observation}
use Rattle.oracle.specs.declared.Update.{Update}
use Rattle.oracle.specs.declared.Update.TheVariants.{Kept, Stored}
use Rattle.oracle.specs.Ring.{Entries, ring_words, Entry, number_at, entry_at, with_entry, newest, outside, seen, still, mark_of, overwrites, next_index, head, accepted_update}
use Rattle.oracle.specs.Update.{entry_of, stored_in, after_of}
use Rattle.oracle.proofs.Inside.{inside_means, entry_inside, next_inside}

-- ---- what is written lies before the length
behind : (l : Entries) (i v k : ℕ) → i < k → number_at (set l i v) k ≡ number_at l k
behind l i v k h = read_above ℕ l i k v 0 _ h refl

with_behind : (entries : Entries) (i : ℕ) (e : Entry) (k : ℕ) → 5 * i + 5 ≤ k → number_at (with_entry entries i e) k ≡ number_at entries k
unfolding with_entry
with_behind entries i e k h =
    rw (
      behind _ (5 * i + 4) _ k (omega arith),
      behind _ (5 * i + 3) _ k (omega arith),
      behind _ (5 * i + 2) _ k (omega arith),
      behind _ (5 * i + 1) _ k (omega arith),
      behind _ (5 * i) _ k (omega arith),
    )

stored_behind :
    (entries : Entries) (ring : Ring) (o : Observation) (k : ℕ) → 5 * ring.grid.length ≤ k
    → number_at (stored_in entries (Ok (Stored ring o))) k ≡ number_at entries k
stored_behind entries ring o k h = go (outside ring) refl
  where
    go : (b : Bool) → outside ring ≡ b → number_at (cond b entries (with_entry entries ring.index (entry_of o))) k ≡ number_at entries k
    go true e = refl
    go false e = let i = (inside_means ring e).1 in with_behind entries ring.index (entry_of o) k (omega arith)

-- ---- an accepted update, in its four forms
module _ (ring : Ring) (e : Entry) (clock price0 price1 : ℕ) where
  abbrev accepted : Update
  accepted = accepted_update ring e clock price0 price1

  abbrev from : ℕ → ℕ → Observation → Update
  from index mark o = Stored (head ring.grid index mark) o

  in_each :
      (P : Update → Type 0) → ((o : Observation) → P (from ring.index clock o)) → P (Kept (head ring.grid ring.index (mark_of ring e)))
      → ((o : Observation) → P (from (next_index ring.grid ring.index) clock o)) → P accepted
  unfolding accepted_update
  in_each P here kept next = go ring.used (still ring e clock) (overwrites ring.grid e clock) _ _ _
    where
      go :
          (a b c : Bool) (x y z : Observation)
          → P (cond (not a) (from ring.index clock x) (cond b (Kept (head ring.grid ring.index (mark_of ring e))) (cond c (from ring.index clock y) (from (next_index ring.grid ring.index) clock z))))
      go false b c x y z = here x
      go true true c x y z = kept
      go true false true x y z = here y
      go true false false x y z = next z

  pub grid_stays : (after_of accepted).grid ≡ ring.grid
  grid_stays = in_each (λ (u : Update). (after_of u).grid ≡ ring.grid) (λ o. refl) refl (λ o. refl)

  pub stays_inside : outside ring ≡ false → outside (after_of accepted) ≡ false
  stays_inside h = in_each (λ (u : Update). outside (after_of u) ≡ false) (λ o. h) h (λ o. next_inside ring clock h)

  pub unwritten : (entries : Entries) (k : ℕ) → 5 * ring.grid.length ≤ k → number_at (stored_in entries (Ok accepted)) k ≡ number_at entries k
  unwritten entries k h =
      in_each (λ (u : Update). number_at (stored_in entries (Ok u)) k ≡ number_at entries k)
      (λ o. stored_behind entries (head ring.grid ring.index clock) o k h) refl
      (λ o. stored_behind entries (head ring.grid (next_index ring.grid ring.index) clock) o k h)

-- ---- what lies at or past the length is not looked at: entries that are alike before n, and of full length
pub record Alike (n : ℕ) (a b : Entries) : Type 0 where
  pub long : length a ≡ ring_words
  pub other_long : length b ≡ ring_words
  pub before : (k : ℕ) → k < n → number_at a k ≡ number_at b k

set_alike : (n : ℕ) (a b : Entries) (i v : ℕ) → i < ring_words → Alike n a b → Alike n (set a i v) (set b i v)
set_alike n a b i v h t = record { long = length-set a i v ∙ t.long; other_long = length-set b i v ∙ t.other_long; before = λ k l. go k l (eqb k i) refl }
  where
    go : (k : ℕ) → k < n → (c : Bool) → eqb k i ≡ c → number_at (set a i v) k ≡ number_at (set b i v) k
    go k l true e =
        rw (eqb-true k i e)
        (get_or-set_same a i v 0 (rw t.long h) ∙ sym (get_or-set_same b i v 0 (rw t.other_long h)))
    go k l false e =
        let other = eqb-false k i e in
        get_or-set_other a i k v 0 other ∙ t.before k l ∙ sym (get_or-set_other b i k v 0 other)

with_alike : (n : ℕ) (a b : Entries) (i : ℕ) (e : Entry) → i < 100 → Alike n a b → Alike n (with_entry a i e) (with_entry b i e)
unfolding with_entry
with_alike n a b i e h t =
    set_alike n _ _ (5 * i + 4) _ (omega arith)
    (set_alike n _ _ (5 * i + 3) _ (omega arith)
    (set_alike n _ _ (5 * i + 2) _ (omega arith)
    (set_alike n _ _ (5 * i + 1) _ (omega arith)
    (set_alike n a b (5 * i) _ (omega arith) t))))

pub stored_alike : (n : ℕ) (a b : Entries) (u : Result Update ℕ) → Alike n a b → Alike n (stored_in a u) (stored_in b u)
stored_alike n a b (Err x) t = t
stored_alike n a b (Ok (Kept x)) t = t
stored_alike n a b (Ok (Stored ring o)) t = go (outside ring) refl
  where
    go : (c : Bool) → outside ring ≡ c → Alike n (cond c a (with_entry a ring.index (entry_of o))) (cond c b (with_entry b ring.index (entry_of o)))
    go true e = t
    go false e = with_alike n a b ring.index (entry_of o) (entry_inside ring e) t

pub seen_alike : (ring : Ring) (a b : Entries) → Alike (5 * ring.grid.length) a b → seen ring a ≡ seen ring b
unfolding entry_at
seen_alike ring a b t = go (outside ring) refl
  where
    go : (c : Bool) → outside ring ≡ c → cond c (record { clock = 0; sum0 = 0; sum1 = 0 }) (newest ring a) ≡ cond c (record { clock = 0; sum0 = 0; sum1 = 0 }) (newest ring b)
    go true e = refl
    go false e =
        let i = (inside_means ring e).1 in
        rw (
          t.before (5 * ring.index) (omega arith),
          t.before (5 * ring.index + 1) (omega arith),
          t.before (5 * ring.index + 2) (omega arith),
          t.before (5 * ring.index + 3) (omega arith),
          t.before (5 * ring.index + 4) (omega arith),
        )
