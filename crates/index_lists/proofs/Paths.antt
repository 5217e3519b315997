-- What a join of two places does to a path.
use Rattle.std.proofs.Common.{◌≡◌, ◌≢◌, ℕ, zero, suc, ◌≤◌, List, [], ◌∷◌, ◌++◌, length, refl, sym, ap, subst, ◌∙◌, arith, inl, inr}
use Rattle.std.proofs.lemmas.Bool.{eq-eqb, ne_eqb, cases_eq}
use Rattle.index_lists.specs.declared.links.Link.{Link}
use Rattle.index_lists.specs.Link.{after_of, before_of, Joins, Owns}
use Rattle.index_lists.specs.Members.{Lacks, IsApart, Has}
use Rattle.index_lists.specs.Rings.{walk, IsPath}
use Rattle.index_lists.specs.Chains.{without}
use Rattle.index_lists.proofs.Members.{without_absent, without_here, without_there}

-- a path that the join does not touch
pub path_kept : (old new : List Link) (a b : ℕ) → Joins old new a b → (from : ℕ) (xs : List ℕ) (to : ℕ)
    → from ≢ a → Lacks a xs → Lacks b xs → to ≢ b → IsPath old from xs to → IsPath new from xs to
path_kept old new a b j from [] to fa la lb tb p = (j.after_else from fa ∙ p.0, j.before_else to tb ∙ p.1)
path_kept old new a b j from (x ∷ xs) to fa la lb tb p =
    (j.after_else from fa ∙ p.0, j.before_else x lb.0 ∙ p.1, path_kept old new a b j x xs to la.0 la.1 lb.1 tb p.2)

-- the place before the end of a path is on it
pub before_end_ne : (links : List Link) (q from : ℕ) (xs : List ℕ) (to : ℕ) → from ≢ q → Lacks q xs → IsPath links from xs to → before_of links to ≢ q
before_end_ne links q from [] to f l p = λ e. f (sym p.1 ∙ e)
before_end_ne links q from (x ∷ xs) to f l p = before_end_ne links q x xs to l.0 l.1 p.2

-- a path with its last place joined to another end
pub path_retarget : (old new : List Link) (a b : ℕ) → Joins old new a b → (from : ℕ) (xs : List ℕ) (to : ℕ)
    → before_of old to ≡ a → Lacks from xs → IsApart xs → Lacks b xs → IsPath old from xs to → IsPath new from xs b
path_retarget old new a b j from [] to e lf ap' lb p =
    let same : from ≡ a = sym p.1 ∙ e in (subst (λ (q : ℕ). after_of new q ≡ b) (sym same) j.after_here, j.before_here ∙ sym same)
path_retarget old new a b j from (x ∷ xs) to e lf ap' lb p =
    let ne : from ≢ a = λ h. before_end_ne old from x xs to lf.0 lf.1 p.2 (e ∙ sym h) in
    (j.after_else from ne ∙ p.0, j.before_else x lb.0 ∙ p.1, path_retarget old new a b j x xs to e ap'.0 ap'.1 lb.1 p.2)

-- a path, and one more place at its end
pub path_push : (links : List Link) (from : ℕ) (xs : List ℕ) (mid to : ℕ) → IsPath links from xs mid
    → after_of links mid ≡ to → before_of links to ≡ mid → IsPath links from (xs ++ mid ∷ []) to
path_push links from [] mid to p a b = (p.0, p.1, (a, b))
path_push links from (x ∷ xs) mid to p a b = (p.0, p.1, path_push links x xs mid to p.2 a b)

-- an owner has changed
pub path_owned : (old new : List Link) (a b : ℕ) → Owns old new a b → (from : ℕ) (xs : List ℕ) (to : ℕ) → IsPath old from xs to → IsPath new from xs to
path_owned old new a b j from [] to p = (j.same_after from ∙ p.0, j.same_before to ∙ p.1)
path_owned old new a b j from (x ∷ xs) to p = (j.same_after from ∙ p.0, j.same_before x ∙ p.1, path_owned old new a b j x xs to p.2)

-- the place before a node of a path
pub before_ne : (links : List Link) (q node from : ℕ) (xs : List ℕ) (to : ℕ) → from ≢ q → Lacks q xs → Has node xs → IsPath links from xs to → before_of links node ≢ q
before_ne links q node from [] to f l h p = absurd h
before_ne links q node from (x ∷ xs) to f l h p =
    elim (cases_eq x node) [ inl e ↦ subst (λ (n : ℕ). before_of links n ≢ q) e (λ s. f (sym p.1 ∙ s)) | inr ne ↦ before_ne links q node x xs to l.0 l.1 (h ne) p.2 ]

-- the place after a place of a path
after_start_ne : (links : List Link) (q from : ℕ) (xs : List ℕ) (to : ℕ) → to ≢ q → Lacks q xs → IsPath links from xs to → after_of links from ≢ q
after_start_ne links q from [] to t l p = λ s. t (sym p.0 ∙ s)
after_start_ne links q from (x ∷ xs) to t l p = λ s. l.0 (sym p.0 ∙ s)

pub after_ne : (links : List Link) (q node from : ℕ) (xs : List ℕ) (to : ℕ) → to ≢ q → Lacks q xs → Has node xs → IsPath links from xs to → after_of links node ≢ q
after_ne links q node from [] to t l h p = absurd h
after_ne links q node from (x ∷ xs) to t l h p =
    elim (cases_eq x node) [ inl e ↦ subst (λ (n : ℕ). after_of links n ≢ q) e (after_start_ne links q x xs to t l.1 p.2) | inr ne ↦ after_ne links q node x xs to t l.1 (h ne) p.2 ]

-- the same if the node is the first
at_node : (old new : List Link) (node : ℕ) → Joins old new (before_of old node) (after_of old node) → (from x : ℕ) (xs : List ℕ) (to : ℕ)
    → x ≡ node → Lacks from (x ∷ xs) → IsApart (x ∷ xs) → Lacks to (x ∷ xs) → IsPath old from (x ∷ xs) to → IsPath new from xs to
at_node old new node j from x [] to e lf d lt p =
    let is_before : before_of old node ≡ from = ap (before_of old) (sym e) ∙ p.1 in
    let is_after : after_of old node ≡ to = ap (after_of old) (sym e) ∙ p.2.0 in
    (subst (λ (q : ℕ). after_of new q ≡ to) is_before (j.after_here ∙ is_after), subst (λ (q : ℕ). before_of new q ≡ from) is_after (j.before_here ∙ is_before))
at_node old new node j from x (y ∷ ys) to e lf d lt p =
    let is_before : before_of old node ≡ from = ap (before_of old) (sym e) ∙ p.1 in
    let is_after : after_of old node ≡ y = ap (after_of old) (sym e) ∙ p.2.0 in
    let lacks_from : Lacks (before_of old node) (y ∷ ys) = subst (λ (q : ℕ). Lacks q (y ∷ ys)) (sym is_before) lf.1 in
    let lacks_y : Lacks (after_of old node) ys = subst (λ (q : ℕ). Lacks q ys) (sym is_after) d.1.0 in
    let to_ne : to ≢ after_of old node = λ s. lt.1.0 (sym is_after ∙ sym s) in (
      subst (λ (q : ℕ). after_of new q ≡ y) is_before (j.after_here ∙ is_after),
      subst (λ (q : ℕ). before_of new q ≡ from) is_after (j.before_here ∙ is_before),
      path_kept old new (before_of old node) (after_of old node) j y ys to lacks_from.0 lacks_from.1 lacks_y to_ne p.2.2,
    )

-- a node is taken out of a path: the places around it are joined
pub path_unlink : (old new : List Link) (node : ℕ) → Joins old new (before_of old node) (after_of old node) → (from : ℕ) (xs : List ℕ) (to : ℕ)
    → Has node xs → Lacks from xs → IsApart xs → Lacks to xs → IsPath old from xs to → IsPath new from (without node xs) to
path_unlink old new node j from [] to h lf d lt p = absurd h
path_unlink old new node j from (x ∷ xs) to h lf d lt p =
    elim (cases_eq x node) [
      | inl e ↦ subst (λ (ys : List ℕ). IsPath new from ys to) (sym (without_here node x xs e ∙ without_absent node xs (subst (λ (n : ℕ). Lacks n xs) e d.0)))
          (at_node old new node j from x xs to e lf d lt p)
      | inr ne ↦
          let a_ne : from ≢ before_of old node = λ s. before_ne old from node x xs to lf.0 lf.1 (h ne) p.2 (sym s) in
          let b_ne : x ≢ after_of old node = λ s. after_ne old x node x xs to (λ t. lt.0 (sym t)) d.0 (h ne) p.2 (sym s) in
          subst (λ (ys : List ℕ). IsPath new from ys to) (sym (without_there node x xs ne))
          (j.after_else from a_ne ∙ p.0, j.before_else x b_ne ∙ p.1, path_unlink old new node j x xs to (h ne) d.0 d.1 lt.1 p.2)
    ]

-- a walk follows the path
pub walk_path : (links : List Link) (stop more place : ℕ) (xs : List ℕ) → IsPath links place xs stop → Lacks stop xs → length xs ≤ more → walk links stop more place ≡ xs
unfolding walk
walk_path links stop zero place [] p l h = refl
walk_path links stop zero place (x ∷ xs) p l h = absurd (omega arith)
walk_path links stop (suc more) place [] p l h = rw (eq-eqb _ _ p.0) refl
walk_path links stop (suc more) place (x ∷ xs) p l h =
    rw (p.0, ne_eqb x stop l.0) (ap (λ (ys : List ℕ). x ∷ ys) (walk_path links stop more x xs p.2 l.1 (omega arith)))
