-- What happens to a pool: calls, accepted openings, and all that leaves it alone. What demand 3 says holds of any list of these.
-- Assumes nothing.
use Prim.Native.Nat.{ℕ, ◌≤◌}
use mathlib.Core.Path.{◌≡◌, refl, sym, ap, ◌∙◌}
use mathlib.Core.Bool.{Bool, true, false, cond, not, ◌&&◌, false≢true, true≢false}
use mathlib.Core.List.{List, [], ◌∷◌, ◌++◌}
use native.Mathlib.Omega.{arith}
use lib.Dec.{eqb}
use Rattle.root.specs.Root.{root_at, root}
use Rattle.opening.specs.declared.Opening.{Opening}
use Rattle.oracle.specs.Ring.{entry_at}
use Rattle.receipt.specs.declared.Receipt.{Receipt}
use Rattle.receipt.specs.Receipt.{refusal}
use Rattle.pool.specs.Calls.{zero_pool, zero_entries, opening}
use Rattle.calls.specs.declared.Call.{Call}
use Rattle.calls.specs.Next.{State, next, left}
use Rattle.calls.proofs.Decisions.{zero_state, number_of}
use Rattle.calls.proofs.Within.{call_kind, opening_receipt}
use Rattle.history.specs.Run.{call, stop as ends, step}
use Rattle.history.specs.Afresh.{Reckoning, start, reckon_one, reckon, counted}
use Rattle.history.specs.Demand3.{held_books, product, supply²}
use Rattle.history.proofs.Products.{floor_goes_on}
use Rattle.history.proofs.Kept.{Sound, held}
use Rattle.history.proofs.Locked.{Locked, call_locked, opening_locked, both_alive}
use Rattle.history.proofs.ListTheorem.{run_keeps, opening_keeps}
use Rattle.sheet.specs.Turns.{is_opening}
use Rattle.shipped.specs.Openings.{reckon_next, reckon_all, no_opening, Went, stop, calls, opens, stays, of_calls, Runs, HoldsAlong}

pub went_on : {s t u : State} {xs ys : List Receipt} → Went s xs t → Went t ys u → Went s (xs ++ ys) u
went_on stop g = g
went_on (calls c f) g = calls c (went_on f g)
went_on (opens o z f) g = opens o z (went_on f g)
went_on (stays n f) g = stays n (went_on f g)

-- ---- what holds at every point, with the books reckoned up to it
pub record SoundAt (r : Reckoning) (s : State) : Type 0 where
  pub sound : Sound s
  pub floor : supply² s ≤ product s
  pub reckoned : held s ≡ r

-- before an accepted opening all is 0
pub zeros_sound : SoundAt (start 0 0) zero_state
unfolding zero_pool zero_entries entry_at held_books start root root_at
zeros_sound = record {
  sound = record {
    ring_sound = record { whole = refl; behind = λ e. absurd (false≢true e); fresh = λ e. (refl, refl) };
    covered = record { covered0 = omega arith; covered1 = omega arith };
  };
  floor = omega arith;
  reckoned = refl;
}

-- what is reckoned of each
nothing_counted : (r : Reckoning) (n : ℕ) → reckon_next r (refusal n) ≡ r
unfolding reckon_next refusal reckon_one counted
nothing_counted r n = go (eqb n 0)
  where
    go : (b : Bool) → cond b r r ≡ r
    go true = refl
    go false = refl

call_counted : (r : Reckoning) (x : Receipt) → is_opening x ≡ false → reckon_next r x ≡ reckon_one r x
unfolding reckon_next
call_counted r x e = rw e

module _ (o : Opening) (z : number_of (opening o) ≡ 0) where
  pub opening_counted : (r : Reckoning) → reckon_next r (opening o).after.receipt ≡ start o.amount0 o.amount1
  unfolding reckon_next
  opening_counted r = let x = opening_receipt o z in rw (x.kind, x.in0, x.in1)

  pub opening_seen : is_opening (opening o).after.receipt ≡ true
  opening_seen = let x = opening_receipt o z in rw x.kind

  pub opening_sound : SoundAt (start o.amount0 o.amount1) (left (opening o))
  opening_sound = let k = opening_keeps o z in record { sound = k.sound; floor = k.floor; reckoned = k.reckoned }

call_sound : (r : Reckoning) (s : State) (c : Call) → SoundAt r s → SoundAt (reckon_next r (next s c).after.receipt) (left (next s c))
unfolding reckon
call_sound r s c h =
    let x = (next s c).after.receipt in
    let k = run_keeps (step (call c) (next s c) refl ends) h.sound in
    rw (call_counted r x (call_kind s c))
    (record {
      sound = k.sound;
      floor = floor_goes_on _ _ _ _ k.grows.rise k.grows.empty h.floor;
      reckoned = sym k.reckoned ∙ ap (λ (q : Reckoning). reckon_one q x) h.reckoned;
    })

pub went_sound : {s s' : State} {xs : List Receipt} (r : Reckoning) → Went s xs s' → SoundAt r s → SoundAt (reckon_all r xs) s'
unfolding reckon_all
went_sound r stop h = h
went_sound {s} r (calls c f) h = went_sound _ f (call_sound r s c h)
went_sound r (opens o z f) h = went_sound _ f (rw (opening_counted o z r) (opening_sound o z))
went_sound r (stays n f) h = went_sound _ f (rw (nothing_counted r n) h)

-- ---- with no accepted opening it is a run
refusal_dropped : (n : ℕ) (xs : List Receipt) → of_calls (refusal n ∷ xs) ≡ of_calls xs
unfolding of_calls refusal
refusal_dropped n xs = refl

call_same : (x : Receipt) (xs ys : List Receipt) → of_calls xs ≡ of_calls ys → of_calls (x ∷ xs) ≡ of_calls (x ∷ ys)
unfolding of_calls
call_same x xs ys e = rw e

none_opens : (x : Receipt) (xs : List Receipt) → no_opening (x ∷ xs) ≡ true → (is_opening x ≡ false) × (no_opening xs ≡ true)
unfolding no_opening
none_opens x xs n = both (is_opening x) (no_opening xs) n
  where
    both : (a b : Bool) → (not a && b) ≡ true → (a ≡ false) × (b ≡ true)
    both true b e = absurd (false≢true e)
    both false b e = (refl, e)

pub went_runs : {s s' : State} {xs : List Receipt} → Went s xs s' → no_opening xs ≡ true → Runs s xs s'
went_runs stop n = record { receipts = []; ran = ends; same = refl }
went_runs {s} (calls c f) n =
    let more = went_runs f (none_opens _ _ n).1 in
    record {
      receipts = (next s c).after.receipt ∷ more.receipts;
      ran = step (call c) (next s c) refl more.ran;
      same = call_same _ _ _ more.same;
    }
went_runs (opens o z f) n = absurd (false≢true (sym (none_opens _ _ n).0 ∙ opening_seen o z))
went_runs (stays k f) n =
    let more = went_runs f (none_opens _ _ n).1 in
    record { receipts = more.receipts; ran = more.ran; same = more.same ∙ sym (refusal_dropped k _) }

-- ---- the hundred that stays: nothing takes it away, and an accepted opening brings it
went_keeps_locked : {s s' : State} {xs : List Receipt} → Went s xs s' → Locked s → Locked s'
went_keeps_locked stop h = h
went_keeps_locked {s} (calls c f) h = went_keeps_locked f (call_locked s c h)
went_keeps_locked (opens o z f) h = went_keeps_locked f (opening_locked o z)
went_keeps_locked (stays n f) h = went_keeps_locked f h

once_opened : {s s' : State} {xs : List Receipt} → Went s xs s' → no_opening xs ≡ false → Locked s'
unfolding no_opening refusal
once_opened stop e = absurd (true≢false e)
once_opened {s} (calls c f) e = once_opened f (rw (call_kind s c) at e)
once_opened (opens o z f) e = went_keeps_locked f (opening_locked o z)
once_opened (stays n f) e = once_opened f e

-- with what was there before
pub went_locked :
    {s s' : State} {xs : List Receipt} (before : List Receipt) → (no_opening before ≡ false → Locked s) → Went s xs s'
    → no_opening (before ++ xs) ≡ false → Locked s'
unfolding no_opening
went_locked [] h f e = once_opened f e
went_locked {s} {s'} {xs} (x ∷ before) h f e = go (is_opening x) h e (λ h e. went_locked before h f e)
  where
    go :
        (b : Bool) → (not b && no_opening before ≡ false → Locked s) → not b && no_opening (before ++ xs) ≡ false
        → ((no_opening before ≡ false → Locked s) → no_opening (before ++ xs) ≡ false → Locked s') → Locked s'
    go true h e rest = went_keeps_locked f (h refl)
    go false h e rest = rest h e

-- ---- points that follow each other so
pub holds_along :
    (point : ℕ → State) (receipts : ℕ → List Receipt) (between : ℕ → ℕ → List Receipt)
    → ((k : ℕ) → SoundAt (reckon_all (start 0 0) (receipts k)) (point k))
    → ((k : ℕ) → no_opening (receipts k) ≡ false → Locked (point k))
    → ((i j : ℕ) → i ≤ j → Went (point i) (between i j) (point j))
    → HoldsAlong point receipts between
holds_along point receipts between at locked went = record {
  went = went;
  runs = runs;
  afresh = λ i. ap (λ (r : Reckoning). r.books) (at i).reckoned;
  floor = λ i. (at i).floor;
  rise = λ i j h n. (run_keeps (runs i j h n).ran (at i).sound).grows.rise;
  locked = locked;
  alive = λ i e. both_alive (point i) (at i).floor (locked i e);
}
  where
    runs : (i j : ℕ) → i ≤ j → no_opening (between i j) ≡ true → Runs (point i) (between i j) (point j)
    runs i j h n = went_runs (went i j h) n
