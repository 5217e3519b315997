-- Texts that are gathered one after another.
use Rattle.std.proofs.Common.{◌≡◌, ℕ, ◌+◌, ◌<◌, ◌≤◌, List, [], ◌∷◌, ◌++◌, length, take, drop, get_or, sym, subst, ap, ◌∙◌, arith, append_assoc, take-append-drop, Result, Ok, Err}
use Rattle.std.proofs.lemmas.List.{append-nil, drop_more, take_all}
use Rattle.std.proofs.lemmas.List.Concat.{flat_map-append}
use Rattle.std.proofs.lemmas.List.Folds.{flat_map-map}
use Rattle.std.proofs.lemmas.List.FromFn.{get_or-range_with_len, length-range_with_len}
use Rattle.std.specs.Prelude.{map}
use Rattle.std.specs.List.{flat_map, range_with_len}
use Rattle.outer_ports.specs.Ports.{IsCut}
use Rattle.outer_ports.specs.Buffers.{Gathered, Gathers}
use Rattle.outer_ports.proofs.Gains.{cut_behind, cut_longer, parts_more}
use Rattle.outer_ports.proofs.BufferGains.{gathered_more, gathered_nothing}
use Rattle.inside_text.specs.Words.{line}

-- nothing was gathered yet
pub none_yet : {P : List ℕ → Type 0} (pending : List ℕ) → Gathered P P pending (pending ++ [])
none_yet {P} pending = subst (λ (w : List ℕ). Gathered P P pending w) (sym (append-nil pending)) (gathered_nothing pending)

-- a text, and another after it
pub gathered_both : {P Q R : List ℕ → Type 0} {pending pending' : List ℕ} (had a b : List ℕ) → Gathered P Q pending (had ++ a) → Gathered Q R pending' (pending ++ b) → Gathered P R pending' (had ++ (a ++ b))
gathered_both {P} {Q} {R} {pending} {pending'} had a b first then = subst (λ (w : List ℕ). Gathered P R pending' w) (append_assoc had a b) (gathered_more b first then)

pub gathers_then : {T E : Type 0} {P Q R : List ℕ → Type 0} {pending pending' : List ℕ} (had a b : List ℕ) {r : Result T E} → Gathered P Q pending (had ++ a) → Gathers Q R pending pending' b r → Gathers P R had pending' (a ++ b) r
gathers_then had a b {r = Ok x} first then = record { whole = gathered_both had a b first then.whole; part = _ }
gathers_then {P = P} {Q} {R} {pending} {pending'} had a b {r = Err e} first then = record {
  whole = _;
  part = (a ++ then.part.0, cut_behind b then.part.0 a then.part.1, gathered_both had a then.part.0 first then.part.2);
}

-- a text in which the sink failed, before another
pub gathers_cut : {T E : Type 0} {P Q : List ℕ → Type 0} {pending : List ℕ} (had a b : List ℕ) (r : Result T E) (e : E) → r ≡ Err e
    → (front : List ℕ) × IsCut a front × Gathered P Q pending (had ++ front) → Gathers P Q had pending (a ++ b) r
gathers_cut {P = P} {Q} {pending} had a b r e failed part =
    rw failed (record { whole = _; part = (part.0, cut_longer a part.0 b part.1, part.2) })

-- the texts of a list, split into those before one of them, that one, and those after it
split_at : {X : Type 0} (f : X → List ℕ) (xs : List X) (i : ℕ) (d : X) → i < length xs → flat_map f xs ≡ flat_map f (take i xs) ++ (f (get_or xs i d) ++ flat_map f (drop (i + 1) xs))
split_at f xs i d below =
    ap (flat_map f) (sym (take-append-drop i xs)) ∙ flat_map-append f (take i xs) (drop i xs)
    ∙ ap (λ (w : List ℕ). flat_map f (take i xs) ++ w) (ap (flat_map f) (drop_more xs i d below))

module _ {X : Type 0} (f : X → List ℕ) (xs : List X) (i : ℕ) (d : X) (below : i < length xs) {P Q R : List ℕ → Type 0} {pending pending' : List ℕ} (had : List ℕ)
    (first : Gathered P Q pending (had ++ flat_map f (take i xs))) where
  -- the next text was gathered
  pub gathered_next : Gathered Q R pending' (pending ++ f (get_or xs i d)) → Gathered P R pending' (had ++ flat_map f (take (i + 1) xs))
  gathered_next then =
      subst (λ (w : List ℕ). Gathered P R pending' (had ++ w)) (sym (parts_more f xs i d below)) (gathered_both had (flat_map f (take i xs)) (f (get_or xs i d)) first then)

  -- the sink failed in it
  pub gathers_next_cut : {T E : Type 0} (r : Result T E) (e : E) → r ≡ Err e → (front : List ℕ) × IsCut (f (get_or xs i d)) front × Gathered Q R pending' (pending ++ front) → Gathers P R had pending' (flat_map f xs) r
  gathers_next_cut r e failed part =
      subst (λ (w : List ℕ). Gathers P R had pending' w r) (sym (split_at f xs i d below))
      (gathers_then had (flat_map f (take i xs)) (f (get_or xs i d) ++ flat_map f (drop (i + 1) xs)) first
      (gathers_cut pending (f (get_or xs i d)) (flat_map f (drop (i + 1) xs)) r e failed part))

-- all texts of a list were gathered
pub gathered_all : {X : Type 0} (f : X → List ℕ) (xs : List X) (n : ℕ) {P Q : List ℕ → Type 0} {pending : List ℕ} (had : List ℕ) → length xs ≤ n → Gathered P Q pending (had ++ flat_map f (take n xs)) → Gathered P Q pending (had ++ flat_map f xs)
gathered_all f xs n {P} {Q} {pending} had all h = subst (λ (w : List _). Gathered P Q pending (had ++ flat_map f w)) (take_all n xs all) h

-- The same for numbers in a row

inside : (a n i : ℕ) → i < n → i < length (range_with_len a n)
inside a n i below = omega (arith, below, length-range_with_len a n)

module _ (f : ℕ → List ℕ) (a n i : ℕ) (below : i < n) {P Q R : List ℕ → Type 0} {pending pending' : List ℕ} (had : List ℕ)
    (first : Gathered P Q pending (had ++ flat_map f (take i (range_with_len a n)))) where
  pub gathered_row : Gathered Q R pending' (pending ++ f (a + i)) → Gathered P R pending' (had ++ flat_map f (take (i + 1) (range_with_len a n)))
  gathered_row then =
      gathered_next f (range_with_len a n) i 0 (inside a n i below) had first (subst (λ (k : ℕ). Gathered Q R pending' (pending ++ f k)) (sym (get_or-range_with_len a n i 0 below)) then)

  pub gathers_row_cut : {T E : Type 0} (r : Result T E) (e : E) → r ≡ Err e → (front : List ℕ) × IsCut (f (a + i)) front × Gathered Q R pending' (pending ++ front) → Gathers P R had pending' (flat_map f (range_with_len a n)) r
  gathers_row_cut r e failed part =
      gathers_next_cut f (range_with_len a n) i 0 (inside a n i below) had first r e failed
      (subst (λ (k : ℕ). (front : List ℕ) × IsCut (f k) front × Gathered Q R pending' (pending ++ front)) (sym (get_or-range_with_len a n i 0 below)) part)

-- a line of words
pub line_is : {X : Type 0} (text : X → List ℕ) (first : List ℕ) (words : List X) → line (first ∷ map text words) ≡ first ++ (flat_map (λ word. 32 ∷ text word) words ++ 10 ∷ [])
line_is text first words = ap (λ (w : List ℕ). (first ++ w) ++ 10 ∷ []) (flat_map-map (λ word. 32 ∷ word) text words) ∙ append_assoc first (flat_map (λ word. 32 ∷ text word) words) (10 ∷ [])

-- numbers from 0 on

module _ (f : ℕ → List ℕ) (n i : ℕ) (below : i < n) {P Q R : List ℕ → Type 0} {pending pending' : List ℕ} (had : List ℕ)
    (first : Gathered P Q pending (had ++ flat_map f (take i (range_with_len 0 n)))) where
  pub gathered_first : Gathered Q R pending' (pending ++ f i) → Gathered P R pending' (had ++ flat_map f (take (i + 1) (range_with_len 0 n)))
  gathered_first then = gathered_row f 0 n i below had first (subst (λ (k : ℕ). Gathered Q R pending' (pending ++ f k)) (let e : i ≡ 0 + i = omega arith in e) then)

  pub gathers_first_cut : {T E : Type 0} {Same : E → Type 0} (r : Result T E) → (e : E) × (r ≡ Err e) × Same e → (front : List ℕ) × IsCut (f i) front × Gathered Q R pending' (pending ++ front) → Gathers P R had pending' (flat_map f (range_with_len 0 n)) r
  gathers_first_cut r failed part =
      gathers_row_cut f 0 n i below had first r failed.0 failed.1
      (subst (λ (k : ℕ). (front : List ℕ) × IsCut (f k) front × Gathered Q R pending' (pending ++ front)) (let e : i ≡ 0 + i = omega arith in e) part)

-- all of them, and no more
pub gathered_to : (f : ℕ → List ℕ) (a n k : ℕ) {P Q : List ℕ → Type 0} {pending : List ℕ} (had : List ℕ) → n ≤ k → Gathered P Q pending (had ++ flat_map f (take k (range_with_len a n))) → Gathered P Q pending (had ++ flat_map f (range_with_len a n))
gathered_to f a n k had all h = gathered_all f (range_with_len a n) k had (omega (arith, all, length-range_with_len a n)) h
