-- The lowest numbered objects that are one less deep.
use Rattle.std.proofs.Common.{◌≡◌, ℕ, suc, ◌+◌, ◌<◌, ◌⊎◌, inl, inr, Bool, true, false, ◌&&◌, ◌||◌, refl, sym, ◌∙◌, ap, ap₂, subst, arith, List, [], ◌∷◌, ◌++◌, length, get_or, set, take, Option, Some, None, length-set, get_or-set_same, get_or-set_other}
use Rattle.std.specs.Prelude.{nat_lt}
use Rattle.std.proofs.lemmas.Bool.{cases_Bool, cases_eq, cases_lt, lt-ltb, ne_eqb}
use Rattle.std.proofs.lemmas.List.{take_more}
use Rattle.lisp_graph.specs.declared.object.Value.{Value}
use Rattle.lisp_graph.specs.declared.object.Value.TheVariants.{Ref}
use Rattle.lisp_graph.specs.declared.object.Object.{Object}
use Rattle.lisp_graph.specs.Graph.{body_refers, is_ref, object_at, refers_in}
use Rattle.why_held.specs.Chains.{depth_at}
use Rattle.why_held.specs.Choice.{is_nearer, is_one_less}
use Rattle.why_held.specs.Nearest.{AreNearest, IsFirstBelow, Offered, is_less_deep, nearest_at, or_this}
use Rattle.why_held.specs.Search.{IsWithin, parts_of}
use Rattle.why_held.proofs.References.{is_ref-same, parts_refer, ref_of, refers_head, refers_in-cons, refers_in-nil, refers_one}

-- Values

and_false : (x : Bool) → (x && false) ≡ false
and_false true = refl
and_false false = refl

or_no : (o : Option ℕ) (b : Bool) (n : ℕ) → b ≡ false → or_this o b n ≡ o
or_no (Some x) b n e = refl
or_no None true n e = absurd cc
or_no None false n e = refl

or_two : (o : Option ℕ) (x y z : Bool) (n : ℕ) → or_this (or_this o (x && y) n) (x && z) n ≡ or_this o (x && (y || z)) n
or_two (Some p) x y z n = refl
or_two None false y z n = refl
or_two None true true z n = refl
or_two None true false z n = refl

refers_append : (n : ℕ) (vs ws : List Value) → refers_in n (vs ++ ws) ≡ (refers_in n vs || refers_in n ws)
refers_append n [] ws = sym (ap (λ (x : Bool). x || refers_in n ws) (refers_in-nil n))
refers_append n (v ∷ vs) ws =
    refers_in-cons n v (vs ++ ws) ∙ ap (λ (x : Bool). is_ref n v || x) (refers_append n vs ws) ∙ or_assoc (is_ref n v) (refers_in n vs) (refers_in n ws) ∙ sym (ap (λ (x : Bool). x || refers_in n ws) (refers_in-cons n v vs))
  where
    or_assoc : (x y z : Bool) → (x || (y || z)) ≡ ((x || y) || z)
    or_assoc true y z = refl
    or_assoc false y z = refl

module _ (depths : List (Option ℕ)) (from : ℕ) where
  deeper : ℕ → Bool
  deeper to = is_one_less (depth_at depths from) (depth_at depths to)

  pub offered_none : (nearest : List (Option ℕ)) → Offered depths from [] nearest nearest
  offered_none nearest = record {
    size = refl;
    each = λ to. sym (or_no (nearest_at nearest to) (is_one_less (depth_at depths from) (depth_at depths to) && refers_in to []) from
        (ap (λ (x : Bool). is_one_less (depth_at depths from) (depth_at depths to) && x) (refers_in-nil to) ∙ and_false (is_one_less (depth_at depths from) (depth_at depths to))));
  }

  -- a value that changes nothing
  pub offered_same : (v : Value) (nearest : List (Option ℕ)) → ((to : ℕ) → is_ref to v ≡ true → or_this (nearest_at nearest to) (is_one_less (depth_at depths from) (depth_at depths to)) from ≡ nearest_at nearest to)
      → Offered depths from (v ∷ []) nearest nearest
  offered_same v nearest h = record { size = refl; each = λ to. go to (cases_Bool (refers_in to (v ∷ []))) }
    where
      and_true : (x : Bool) → (x && true) ≡ x
      and_true true = refl
      and_true false = refl

      go : (to : ℕ) → (refers_in to (v ∷ []) ≡ true) ⊎ (refers_in to (v ∷ []) ≡ false) → nearest_at nearest to ≡ or_this (nearest_at nearest to) (is_one_less (depth_at depths from) (depth_at depths to) && refers_in to (v ∷ [])) from
      go to (inl e) =
          let passes : (is_one_less (depth_at depths from) (depth_at depths to) && refers_in to (v ∷ [])) ≡ is_one_less (depth_at depths from) (depth_at depths to) =
          ap (λ (x : Bool). is_one_less (depth_at depths from) (depth_at depths to) && x) e ∙ and_true (is_one_less (depth_at depths from) (depth_at depths to)) in
          sym (ap (λ (x : Bool). or_this (nearest_at nearest to) x from) passes ∙ h to (refers_one to v e))
      go to (inr e) =
          let passes : (is_one_less (depth_at depths from) (depth_at depths to) && refers_in to (v ∷ [])) ≡ false =
          ap (λ (x : Bool). is_one_less (depth_at depths from) (depth_at depths to) && x) e ∙ and_false (is_one_less (depth_at depths from) (depth_at depths to)) in
          sym (or_no (nearest_at nearest to) (is_one_less (depth_at depths from) (depth_at depths to) && refers_in to (v ∷ [])) from passes)

  pub offered_plain : (v : Value) (nearest : List (Option ℕ)) → ((n : ℕ) → v ≡ Ref n → ⊥) → Offered depths from (v ∷ []) nearest nearest
  offered_plain v nearest h = offered_same v nearest (λ to e. absurd (h to (ref_of to v e)))

  ref_is : (object to : ℕ) → is_ref to (Ref object) ≡ true → object ≡ to
  ref_is object to e = let same : Ref object ≡ Ref to = ref_of to (Ref object) e in cc

  pub offered_level : (object : ℕ) (nearest : List (Option ℕ)) → is_one_less (depth_at depths from) (depth_at depths object) ≡ false → Offered depths from (Ref object ∷ []) nearest nearest
  offered_level object nearest l = offered_same (Ref object) nearest (λ to e.
      or_no (nearest_at nearest to) (is_one_less (depth_at depths from) (depth_at depths to)) from (ap (λ (n : ℕ). is_one_less (depth_at depths from) (depth_at depths n)) (sym (ref_is object to e)) ∙ l))

  some_stays : (o : Option ℕ) (p : ℕ) (b : Bool) → o ≡ Some p → or_this o b from ≡ o
  some_stays (Some q) p b e = refl
  some_stays None p b e = absurd cc

  pub offered_known : (object p : ℕ) (nearest : List (Option ℕ)) → nearest_at nearest object ≡ Some p → Offered depths from (Ref object ∷ []) nearest nearest
  offered_known object p nearest known = offered_same (Ref object) nearest (λ to e.
      some_stays (nearest_at nearest to) p (is_one_less (depth_at depths from) (depth_at depths to)) (ap (nearest_at nearest) (sym (ref_is object to e)) ∙ known))

  pub offered_new : (object : ℕ) (old new : List (Option ℕ)) → object < length old → nearest_at old object ≡ None → is_one_less (depth_at depths from) (depth_at depths object) ≡ true
      → new ≡ set old object (Some from) → Offered depths from (Ref object ∷ []) old new
  offered_new object old new within fresh l e = record { size = ap length e ∙ length-set old object (Some from); each = λ to. go to (cases_eq to object) }
    where
      not_there : (to : ℕ) → (to ≡ object → ⊥) → refers_in to (Ref object ∷ []) ≡ false
      not_there to ne = elim (cases_Bool (refers_in to (Ref object ∷ []))) [ inl x ↦ absurd (ne (sym (ref_is object to (refers_one to (Ref object) x)))) | inr x ↦ x ]

      here : nearest_at new object ≡ or_this (nearest_at old object) (is_one_less (depth_at depths from) (depth_at depths object) && refers_in object (Ref object ∷ [])) from
      here =
          let is : nearest_at new object ≡ Some from = ap (λ (xs : List (Option ℕ)). nearest_at xs object) e ∙ get_or-set_same old object (Some from) None within in
          let passes : (is_one_less (depth_at depths from) (depth_at depths object) && refers_in object (Ref object ∷ [])) ≡ true = ap₂ (λ (x y : Bool). x && y) l (refers_head object (Ref object) [] (is_ref-same object)) in
          is ∙ sym (ap₂ (λ (o : Option ℕ) (b : Bool). or_this o b from) fresh passes)

      go : (to : ℕ) → (to ≡ object) ⊎ (to ≡ object → ⊥) → nearest_at new to ≡ or_this (nearest_at old to) (is_one_less (depth_at depths from) (depth_at depths to) && refers_in to (Ref object ∷ [])) from
      go to (inl same) =
          let P : ℕ → Type 0 = λ n. nearest_at new n ≡ or_this (nearest_at old n) (is_one_less (depth_at depths from) (depth_at depths n) && refers_in n (Ref object ∷ [])) from in
          subst P (sym same) here
      go to (inr ne) =
          let is : nearest_at new to ≡ nearest_at old to = ap (λ (xs : List (Option ℕ)). nearest_at xs to) e ∙ get_or-set_other old object to (Some from) None ne in
          let passes : (is_one_less (depth_at depths from) (depth_at depths to) && refers_in to (Ref object ∷ [])) ≡ false =
          ap (λ (x : Bool). is_one_less (depth_at depths from) (depth_at depths to) && x) (not_there to ne) ∙ and_false (is_one_less (depth_at depths from) (depth_at depths to)) in
          is ∙ sym (or_no (nearest_at old to) (is_one_less (depth_at depths from) (depth_at depths to) && refers_in to (Ref object ∷ [])) from passes)

  pub offered_append : (vs ws : List Value) (a b c : List (Option ℕ)) → Offered depths from vs a b → Offered depths from ws b c → Offered depths from (vs ++ ws) a c
  offered_append vs ws a b c f g = record {
    size = g.size ∙ f.size;
    each = λ to.
        g.each to
        ∙ ap (λ (o : Option ℕ). or_this o (is_one_less (depth_at depths from) (depth_at depths to) && refers_in to ws) from) (f.each to)
        ∙ or_two (nearest_at a to) (is_one_less (depth_at depths from) (depth_at depths to)) (refers_in to vs) (refers_in to ws) from
        ∙ sym (ap (λ (x : Bool). or_this (nearest_at a to) (is_one_less (depth_at depths from) (depth_at depths to) && x) from) (refers_append to vs ws));
  }

  pub offered_more : (vs : List Value) (k more : ℕ) (v d : Value) (a b c : List (Option ℕ)) → k < length vs → get_or vs k d ≡ v → more ≡ k + 1
      → Offered depths from (take k vs) a b → Offered depths from (v ∷ []) b c → Offered depths from (take more vs) a c
  offered_more vs k more v d a b c l is e f g =
      let are : take more vs ≡ take k vs ++ v ∷ [] = ap (λ (n : ℕ). take n vs) e ∙ take_more vs k d l ∙ ap (λ (x : Value). take k vs ++ x ∷ []) is in
      let P : List Value → Type 0 = λ xs. Offered depths from xs a c in
      subst P (sym are) (offered_append (take k vs) (v ∷ []) a b c f g)

-- One object after another

first_step : (test : ℕ → Bool) (count : ℕ) (o : Option ℕ) (b : Bool) → test count ≡ b → IsFirstBelow test count o → IsFirstBelow test (suc count) (or_this o b count)
first_step test count (Some n) b e f = ((let l = f.0 in omega arith), f.1)
first_step test count None true e f = (omega arith, (e, f))
first_step test count None false e f = λ n l. elim (cases_eq n count) [ inl same ↦ ap test same ∙ e | inr ne ↦ f n (omega arith) ]

pub nearest_next : (objects : List Object) (depths : List (Option ℕ)) (most count more : ℕ) (object : Object) (old new : List (Option ℕ)) → AreNearest objects depths most count old → object ≡ object_at objects count → more ≡ count + 1
    → Offered depths count (parts_of object.body) old new → AreNearest objects depths most more new
nearest_next objects depths most count more object old new f is e g = record {
  size = g.size ∙ f.size;
  each = λ to shallow. (
      let same : refers_in to (parts_of object.body) ≡ body_refers to (object_at objects count).body = parts_refer to object.body ∙ ap (λ (o : Object). body_refers to o.body) is in
      let test : is_nearer objects depths to count ≡ (is_one_less (depth_at depths count) (depth_at depths to) && refers_in to (parts_of object.body)) =
      sym (ap (λ (x : Bool). is_one_less (depth_at depths count) (depth_at depths to) && x) same) in
      let step = first_step (is_nearer objects depths to) count (nearest_at old to) (is_one_less (depth_at depths count) (depth_at depths to) && refers_in to (parts_of object.body)) test (f.each to shallow) in
      let m : more ≡ suc count = omega arith in
      let P : Option ℕ → Type 0 = λ o. IsFirstBelow (is_nearer objects depths to) (suc count) o in
      let Q : ℕ → Type 0 = λ n. IsFirstBelow (is_nearer objects depths to) n (nearest_at new to) in
      subst Q (sym m) (subst P (sym (g.each to)) step));
}

-- An object that isn't less deep than the deepest ones that matter

not_nearer : (less more : Option ℕ) (most : ℕ) → is_less_deep less most ≡ false → IsWithin most more → is_one_less less more ≡ false
not_nearer None None most deep shallow = refl
not_nearer None (Some b) most deep shallow = refl
not_nearer (Some a) None most deep shallow = absurd shallow
not_nearer (Some a) (Some b) most deep shallow = elim (cases_lt a most) [
  | inl l ↦ (let e : nat_lt a most ≡ true = lt-ltb a most l in absurd cc)
  | inr l ↦ ne_eqb (suc a) b (λ e. absurd (omega (arith, shallow)))
]

pub nearest_skip : (objects : List Object) (depths : List (Option ℕ)) (most count more : ℕ) (nearest : List (Option ℕ)) → AreNearest objects depths most count nearest → is_less_deep (depth_at depths count) most ≡ false → more ≡ count + 1
    → AreNearest objects depths most more nearest
nearest_skip objects depths most count more nearest f deep e = record {
  size = f.size;
  each = λ to shallow. (
      let test : is_nearer objects depths to count ≡ false = ap (λ (x : Bool). x && body_refers to (object_at objects count).body) (not_nearer (depth_at depths count) (depth_at depths to) most deep shallow) in
      let step = first_step (is_nearer objects depths to) count (nearest_at nearest to) false test (f.each to shallow) in
      let m : more ≡ suc count = omega arith in
      let P : Option ℕ → Type 0 = λ o. IsFirstBelow (is_nearer objects depths to) (suc count) o in
      let Q : ℕ → Type 0 = λ n. IsFirstBelow (is_nearer objects depths to) n (nearest_at nearest to) in
      subst Q (sym m) (subst P (or_no (nearest_at nearest to) false count refl) step));
}
