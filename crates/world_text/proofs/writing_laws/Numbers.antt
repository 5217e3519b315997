-- Numbers of keys, which don't change when more keys get one.
use Rattle.std.proofs.Common.{◌≡◌, ℕ, suc, ◌+◌, ◌⊎◌, List, [], ◌∷◌, ◌++◌, length, Bool, true, false, Option, Some, None, inl, inr, refl, ap, sym, ◌∙◌, subst, arith, append_assoc, append-nil}
use Rattle.std.specs.Prelude.{◌==◌, ◌||◌, cond, not, if◌then◌else◌, nat_lt, position, option_map}
use Rattle.std.specs.List.{position_or_len}
use Rattle.std.proofs.lemmas.Bool.Decides.{nat_tests}
use Rattle.lisp_graph.specs.KeyedGraph.{KeyedGraph}
use Rattle.lisp_graph.specs.declared.walk.Seen.{Seen}
use Rattle.lisp_graph.specs.declared.walk.Seen.TheVariants.{Fix, Nil, Cons, Block}
use Rattle.world_text.specs.writing.Numbering.{AllVisited, Chained, Visited, Walked, done, ends, goes, is_numbered, more, none, step}
use Rattle.world_text.specs.writing.Visits.{Grows}

-- Places of keys

-- the place of a key
abbrev pub number_of : List ℕ → ℕ → Option ℕ
number_of keys key = position (λ k. key == k) keys

true_or_false : (b : Bool) → (b ≡ true) ⊎ (b ≡ false)
true_or_false true = inl refl
true_or_false false = inr refl

lt_suc : (n size : ℕ) → nat_lt (1 + n) (suc size) ≡ nat_lt n size
lt_suc n size = elim (true_or_false (nat_lt n size)) [
  | inl below ↦ let e : nat_lt (1 + n) (suc size) ≡ true = grind (arith, nat_tests, below) in e ∙ sym below
  | inr past ↦ let e : nat_lt (1 + n) (suc size) ≡ false = grind (arith, nat_tests, past) in e ∙ sym past
]

-- a key is the first one, or its number is one more than in the rest
pub number_cons : (first : ℕ) (keys : List ℕ) (key : ℕ) → number_of (first ∷ keys) key ≡ (if key == first then Some 0 else option_map (λ k. 1 + k) (number_of keys key))
number_cons first keys key = of_tests (key == first) (position_or_len (λ k. key == k) keys) (length keys)
  where
    found : (b : Bool) (n : ℕ) → (if b then Some (1 + n) else None) ≡ option_map (λ k. 1 + k) (if b then Some n else None)
    found true n = refl
    found false n = refl

    of_tests : (b : Bool) (n size : ℕ) → (if nat_lt (cond (not b) (1 + n) 0) (suc size) then Some (cond (not b) (1 + n) 0) else None)
        ≡ (if b then Some 0 else option_map (λ k. 1 + k) (if nat_lt n size then Some n else None))
    of_tests true n size = let e : nat_lt 0 (suc size) ≡ true = grind (arith, nat_tests) in rw e refl
    of_tests false n size = rw (lt_suc n size) (found (nat_lt n size) n)

-- a key that has a number keeps it
number_front : (keys later : List ℕ) (key number : ℕ) → number_of keys key ≡ Some number → number_of (keys ++ later) key ≡ Some number
number_front [] later key number is = absurd (cc (is))
number_front (first ∷ keys) later key number is =
    number_cons first (keys ++ later) key ∙ by_test (key == first) (number_of keys key) (number_of (keys ++ later) key) number (sym (number_cons first keys key) ∙ is) (number_front keys later key)
  where
    by_test : (b : Bool) (before now : Option ℕ) (number : ℕ) → (if b then Some 0 else option_map (λ k. 1 + k) before) ≡ Some number
        → ((n : ℕ) → before ≡ Some n → now ≡ Some n) → (if b then Some 0 else option_map (λ k. 1 + k) now) ≡ Some number
    by_test true before now number is stays = is
    by_test false None now number is stays = absurd (cc (is))
    by_test false (Some n) now number is stays = ap (option_map (λ k. 1 + k)) (stays n refl) ∙ is

-- one that has none gets the next
pub number_last : (keys later : List ℕ) (key : ℕ) → is_numbered keys key ≡ false → number_of (keys ++ key ∷ later) key ≡ Some (length keys)
number_last [] later key fresh =
    let e : (key == key) ≡ true = grind (arith, nat_tests) in
    number_cons key later key ∙ ap (λ b. if b then Some 0 else option_map (λ k. 1 + k) (number_of later key)) e
number_last (first ∷ keys) later key fresh =
    let parts = or_false (key == first) (is_numbered keys key) fresh in
    number_cons first (keys ++ key ∷ later) key ∙ ap (λ b. if b then Some 0 else option_map (λ k. 1 + k) (number_of (keys ++ key ∷ later) key)) parts.0
    ∙ ap (option_map (λ k. 1 + k)) (number_last keys later key parts.1) ∙ ap Some (omega arith)
  where
    or_false : (a b : Bool) → (a || b) ≡ false → (a ≡ false) × (b ≡ false)
    or_false true b is = absurd (cc (is))
    or_false false b is = (refl, is)

-- Lists of keys that grow

pub grows_none : (keys : List ℕ) → Grows keys keys
grows_none keys = record { later = []; is = sym (append-nil keys) }

pub grows_one : (keys : List ℕ) (key : ℕ) → Grows keys (keys ++ key ∷ [])
grows_one keys key = record { later = key ∷ []; is = refl }

pub grows_twice : {keys middle all : List ℕ} → Grows keys middle → Grows middle all → Grows keys all
grows_twice {keys} {middle} {all} first second = record {
  later = first.later ++ second.later;
  is = second.is ∙ ap (λ (l : List ℕ). l ++ second.later) first.is ∙ append_assoc keys first.later second.later;
}

pub chain_grows : {graph : KeyedGraph} {keys : List ℕ} {key : ℕ} {all : List ℕ} → Chained graph keys key all → Grows (keys ++ key ∷ []) all
chain_grows (ends keys key last) = grows_none (keys ++ key ∷ [])
chain_grows (goes keys key next all later rest) = grows_twice (grows_one (keys ++ key ∷ []) next) (chain_grows rest)

pub visit_grows : (graph : KeyedGraph) (keys all : List ℕ) (value : Seen) → Visited graph keys value all → Grows keys all
visit_grows graph keys all (Fix number) is = subst (λ (l : List ℕ). Grows keys l) (sym is) (grows_none keys)
visit_grows graph keys all Nil is = subst (λ (l : List ℕ). Grows keys l) (sym is) (grows_none keys)
visit_grows graph keys all (Cons key) (inl old) = subst (λ (l : List ℕ). Grows keys l) (sym old.1) (grows_none keys)
visit_grows graph keys all (Cons key) (inr new) = grows_twice (grows_one keys key) (chain_grows new.1)
visit_grows graph keys all (Block key) (inl old) = subst (λ (l : List ℕ). Grows keys l) (sym old.1) (grows_none keys)
visit_grows graph keys all (Block key) (inr new) = subst (λ (l : List ℕ). Grows keys l) (sym new.1) (grows_one keys key)

pub all_grow : {graph : KeyedGraph} {keys : List ℕ} {values : List Seen} {all : List ℕ} → AllVisited graph keys values all → Grows keys all
all_grow (none keys) = grows_none keys
all_grow {graph} (more keys middle all value values one rest) = grows_twice (visit_grows graph keys middle value one) (all_grow rest)

pub walk_grows : {graph : KeyedGraph} {keys : List ℕ} {number : ℕ} {all : List ℕ} → Walked graph keys number all → Grows keys all
walk_grows (done keys number past) = grows_none keys
walk_grows {graph} (step keys middle all number key at one rest) = grows_twice (all_grow one) (walk_grows rest)

-- Numbers that don't change

pub number_stays : {keys all : List ℕ} (key number : ℕ) → Grows keys all → number_of keys key ≡ Some number → number_of all key ≡ Some number
number_stays {keys} {all} key number grows is = ap (λ (l : List ℕ). number_of l key) grows.is ∙ number_front keys grows.later key number is

-- the number of a key that was added is the length of the list before
pub number_next : (keys : List ℕ) {all : List ℕ} (key : ℕ) → Grows (keys ++ key ∷ []) all → is_numbered keys key ≡ false → number_of all key ≡ Some (length keys)
number_next keys {all} key grows fresh = number_stays key (length keys) grows (number_last keys [] key fresh)

pub number_chained : {graph : KeyedGraph} (keys : List ℕ) {last all : List ℕ} (key : ℕ) → Chained graph keys key last → Grows last all → is_numbered keys key ≡ false → number_of all key ≡ Some (length keys)
number_chained keys key chained grows fresh = number_next keys key (grows_twice (chain_grows chained) grows) fresh

-- a key with a number is one of them
pub numbered_some : (keys : List ℕ) (key number : ℕ) → number_of keys key ≡ Some number → is_numbered keys key ≡ true
numbered_some keys key number is = elim (true_or_false (is_numbered keys key)) [
  | inl numbered ↦ numbered
  | inr fresh ↦ absurd (none_of keys key fresh number is)
]
  where
    by_test : (b rest : Bool) (place : Option ℕ) (number : ℕ) → (b || rest) ≡ false → (if b then Some 0 else option_map (λ k. 1 + k) place) ≡ Some number
        → (rest ≡ false → (n : ℕ) → place ≡ Some n → ⊥) → ⊥
    by_test true rest place number fresh is absent = absurd (cc (fresh))
    by_test false rest None number fresh is absent = absurd (cc (is))
    by_test false rest (Some n) number fresh is absent = absent fresh n refl

    none_of : (keys : List ℕ) (key : ℕ) → is_numbered keys key ≡ false → (number : ℕ) → number_of keys key ≡ Some number → ⊥
    none_of [] key fresh number is = absurd (cc (is))
    none_of (first ∷ keys) key fresh number is = by_test (key == first) (is_numbered keys key) (number_of keys key) number fresh (sym (number_cons first keys key) ∙ is) (none_of keys key)
