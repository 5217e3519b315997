-- The walk over the pages in frames, in the order of use.
use Rattle.std.proofs.Common.{◌≡◌, ℕ, ◌+◌, ◌≤◌, eqb, List, [], ◌∷◌, ◌++◌, length, Option, Some, None, Result, Err, refl, sym, ap, subst, ◌∙◌, arith, append_assoc}
use Rattle.std.specs.Prelude.{Contains}
use Rattle.std.specs.List.{flat_map, IsDistinct}
use Rattle.std.proofs.lemmas.List.{append-nil, length-append}
use Rattle.std.proofs.lemmas.List.Concat.{flat_map-append}
use Rattle.area_space.specs.index_lists.Chains.{first_of, next_in}
use Rattle.area_space.specs.index_lists.Members.{IsApart}
use Rattle.area_space.proofs.index_lists.Members.{apart_from_distinct, contains_from_has}
use Rattle.outer_ports.specs.Ports.{IsCut}
use Rattle.outer_ports.specs.Buffers.{Gathered, Gathers}
use Rattle.inside_text.proofs.TextSequences.{gathered_both, gathers_cut, gathers_then}
use Rattle.inside_text.proofs.Rows.{has_at, next_behind}

-- The lines of `turn` pages were gathered, and `next` is the next page.
pub record Told (f : ℕ → List ℕ) (pages had : List ℕ) (turn : ℕ) (next : Option ℕ) (P Q : List ℕ → Type 0) (pending : List ℕ) : Type 0 where
  pub done : List ℕ
  pub rest : List ℕ
  pub order : pages ≡ done ++ rest
  pub next_is : next ≡ first_of rest
  pub count : length done ≡ turn
  pub gathered : Gathered P Q pending (had ++ flat_map f done)

none_rest : (rest : List ℕ) → None ≡ first_of rest → rest ≡ []
none_rest [] e = refl
none_rest (x ∷ xs) e = absurd (cc (e))

some_rest : (rest : List ℕ) (x : ℕ) → Some x ≡ first_of rest → (tail : List ℕ) × (rest ≡ x ∷ tail)
some_rest [] x e = absurd (cc (e))
some_rest (y ∷ ys) x e = (ys, (let same : x ≡ y = cc (e) in ap (λ (k : ℕ). k ∷ ys) (sym same)))

short_rest : (done rest : List ℕ) → length (done ++ rest) ≤ length done → rest ≡ []
short_rest done [] low = refl
short_rest done (x ∷ xs) low = absurd (let n = length-append done (x ∷ xs) in omega (arith, low, n))

module _ (f : ℕ → List ℕ) (pages had : List ℕ) where
  pub told_start : {P : List ℕ → Type 0} (next : Option ℕ) → next ≡ first_of pages → Gathered P P had (had ++ []) → Told f pages had 0 next P P had
  told_start next is none = record { done = []; rest = pages; order = refl; next_is = is; count = refl; gathered = none }

  whole : {P Q : List ℕ → Type 0} {pending : List ℕ} {turn : ℕ} {next : Option ℕ} (t : Told f pages had turn next P Q pending) → t.rest ≡ [] → Gathered P Q pending (had ++ flat_map f pages)
  whole {P} {Q} {pending} t empty = subst (λ (w : List ℕ). Gathered P Q pending (had ++ flat_map f w)) (sym (t.order ∙ ap (λ (w : List ℕ). t.done ++ w) empty ∙ append-nil t.done)) t.gathered

  pub told_none : {P Q : List ℕ → Type 0} {pending : List ℕ} {turn : ℕ} {next : Option ℕ} → Told f pages had turn next P Q pending → next ≡ None → Gathered P Q pending (had ++ flat_map f pages)
  told_none t none = whole t (none_rest t.rest (sym none ∙ t.next_is))

  pub told_end : {P Q : List ℕ → Type 0} {pending : List ℕ} {turn : ℕ} {next : Option ℕ} → Told f pages had turn next P Q pending → length pages ≤ turn → Gathered P Q pending (had ++ flat_map f pages)
  told_end t all = whole t (short_rest t.done t.rest (let o = ap length t.order in let n = t.count in omega (arith, o, n, all)))

  split : {P Q : List ℕ → Type 0} {pending : List ℕ} {turn : ℕ} {next : Option ℕ} (t : Told f pages had turn next P Q pending) (page : ℕ) → next ≡ Some page → (tail : List ℕ) × (pages ≡ t.done ++ page ∷ tail)
  split t page is = let s = some_rest t.rest page (sym is ∙ t.next_is) in (s.0, t.order ∙ ap (λ (w : List ℕ). t.done ++ w) s.1)

  pub told_page : {P Q : List ℕ → Type 0} {pending : List ℕ} {turn : ℕ} {next : Option ℕ} → Told f pages had turn next P Q pending → (page : ℕ) → next ≡ Some page → Contains pages page
  told_page t page is = let s = split t page is in subst (λ (w : List ℕ). Contains w page) (sym s.1) (contains_from_has page (t.done ++ page ∷ s.0) (has_at t.done page s.0))

  pub told_more : {P Q R : List ℕ → Type 0} {pending pending' : List ℕ} {turn : ℕ} {next : Option ℕ} → IsDistinct eqb pages → Told f pages had turn next P Q pending → (page : ℕ) → next ≡ Some page → (next' : Option ℕ) → next' ≡ next_in pages page
      → Gathered Q R pending' (pending ++ f page) → Told f pages had (turn + 1) next' P R pending'
  told_more {P} {Q} {R} {pending} {pending'} once t page is next' next_is then =
      let s = split t page is in
      let apart : IsApart (t.done ++ page ∷ s.0) = subst IsApart s.1 (apart_from_distinct pages once) in
      record {
        done = t.done ++ page ∷ [];
        rest = s.0;
        order = s.1 ∙ sym (append_assoc t.done (page ∷ []) s.0);
        next_is = next_is ∙ ap (λ (w : List ℕ). next_in w page) s.1 ∙ next_behind t.done page s.0 apart;
        count = (let n = length-append t.done (page ∷ []) in let m = t.count in omega (arith, n, m));
        gathered = subst (λ (w : List ℕ). Gathered P R pending' (had ++ w)) (sym (flat_map-append f t.done (page ∷ []) ∙ ap (λ (w : List ℕ). flat_map f t.done ++ w) (append-nil (f page)))) (gathered_both had (flat_map f t.done) (f page) t.gathered then);
      }

  pub told_cut : {T E : Type 0} {P Q R : List ℕ → Type 0} {pending pending' : List ℕ} {turn : ℕ} {next : Option ℕ} → Told f pages had turn next P Q pending → (page : ℕ) → next ≡ Some page → (r : Result T E) (e : E) → r ≡ Err e
      → (front : List ℕ) × IsCut (f page) front × Gathered Q R pending' (pending ++ front) → Gathers P R had pending' (flat_map f pages) r
  told_cut {P = P} {Q} {R} {pending} {pending'} t page is r e failed part =
      let s = split t page is in
      subst (λ (w : List ℕ). Gathers P R had pending' w r) (sym (ap (flat_map f) s.1 ∙ flat_map-append f t.done (page ∷ s.0)))
      (gathers_then had (flat_map f t.done) (f page ++ flat_map f s.0) t.gathered (gathers_cut pending (f page) (flat_map f s.0) r e failed part))
