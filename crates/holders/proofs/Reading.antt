-- A list read into plain numbers, entry by entry: the numbers are the list's that is read, and a list that is not read has no seat either.
-- Assumes nothing.
use Rattle.std.proofs.Common.{◌≡◌, ℕ, ◌+◌, ◌<◌, ◌≤◌, Bool, true, false, cond, ltb, List, [], ◌∷◌, ◌++◌, length, get_or, set, take, map, replicate, sym, refl, ap, ◌∙◌, add-one, arith, length-set, take-suc-set, ltb-true, lt-ltb, le-ltb, ne_eqb}
use lib.Seq.{take-length}
use Rattle.std.specs.List.{flat_map}
use Rattle.std.proofs.lemmas.List.{map_more}
use Rattle.refusal.specs.Tests.{outcome}
use Rattle.register.specs.declared.Holder.{Holder}
use Rattle.register.specs.Holders.{most_holders, zero_holder}
use Rattle.register.specs.Changes.{register_tests, with_opener}
use Rattle.register.specs.Numbers.{entries_of, numbers_of}
use Rattle.register.proofs.Pairs.{entries_back}
use Rattle.seats.specs.Stages.{seat_of}
use Rattle.holders.specs.Stages.{readable}

-- ---- an entry as its two numbers, and entries as theirs
abbrev pub pair_of : Holder → List ℕ
pair_of e = e.number ∷ e.balance ∷ []

flat : (es : List Holder) → flat_map (λ (e : List ℕ). e) (map pair_of es) ≡ numbers_of es
unfolding numbers_of
flat [] = refl
flat (e ∷ es) = ap (λ (m : List ℕ). e.number ∷ e.balance ∷ m) (flat es)

-- ---- the first i entries are read
pub record Filled (es : List Holder) (pairs : List (List ℕ)) (i : ℕ) : Type 0 where
  pub room : length pairs ≡ 256
  pub front : take i pairs ≡ map pair_of (take i es)

pub one_filled :
    (es : List Holder) (pairs : List (List ℕ)) (i : ℕ) → Filled es pairs i → i < length es → i < 256
    → Filled es (set pairs i (pair_of (get_or es i zero_holder))) (i + 1)
one_filled es pairs i f l h =
    let e = pair_of (get_or es i zero_holder) in
    record {
      room = length-set pairs i e ∙ f.room;
      front =
          ap (λ (n : ℕ). take n (set pairs i e)) (add-one i)
          ∙ take-suc-set pairs i e (omega (arith, f.room, h))
          ∙ ap (λ (n : List (List ℕ)). n ++ (e ∷ [])) f.front
          ∙ sym (map_more pair_of es i zero_holder l);
    }

pub read_whole : (es : List Holder) (pairs : List (List ℕ)) → Filled es pairs (length es) → entries_of (flat_map (λ (e : List ℕ). e) (take (length es) pairs)) ≡ es
read_whole es pairs f =
    ap (λ (ps : List (List ℕ)). entries_of (flat_map (λ (e : List ℕ). e) ps)) (f.front ∙ ap (map pair_of) (take-length es))
    ∙ ap entries_of (flat es)
    ∙ entries_back es

-- ---- how many are read
pub none_read : (es : List Holder) → most_holders < length es → [] ≡ readable es
unfolding readable
none_read es h = rw (lt-ltb most_holders (length es) h)

pub all_read : (es : List Holder) → length es ≤ most_holders → es ≡ readable es
unfolding readable
all_read es h = rw (le-ltb most_holders (length es) h)

-- ---- an empty list and one of over 256 entries: 3
pub seat_read : (k : ℕ) (es : List Holder) → seat_of k (readable es) ≡ seat_of k es
unfolding readable seat_of register_tests outcome
seat_read k es = go (ltb most_holders (length es)) refl
  where
    go : (b : Bool) → ltb most_holders (length es) ≡ b → seat_of k (cond b [] es) ≡ seat_of k es
    go true h = rw (ne_eqb (length es) 0 (λ z. omega (arith, z, ltb-true most_holders (length es) h)), h)
    go false h = refl

-- ---- an opening's list, written over zeros
pub opener_first : (e : Holder) (es fs : List Holder) → fs ≡ replicate (length es) zero_holder → (length fs ≡ 0 → ⊥) → set fs 0 e ≡ with_opener e es
unfolding with_opener
opener_first e [] fs is z = absurd (z (ap length is))
opener_first e (x ∷ es) fs is z = rw is refl

pub opener_nowhere : (e : Holder) (es fs : List Holder) → fs ≡ replicate (length es) zero_holder → length fs ≡ 0 → fs ≡ with_opener e es
unfolding with_opener
opener_nowhere e [] fs is z = is
opener_nowhere e (x ∷ es) fs is z = absurd (omega (arith, z, ap length is))
