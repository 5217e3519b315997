-- What a change of the links does to the ring of one list.
use Rattle.std.proofs.Common.{◌≡◌, ◌≢◌, ℕ, ◌+◌, ◌<◌, ◌≤◌, true, eqb, List, [], ◌∷◌, ◌++◌, length, refl, sym, ap, subst, ◌∙◌, arith, inl, inr}
use Rattle.std.specs.List.{list_any}
use Rattle.std.proofs.lemmas.Bool.{eqb-true, cases_eq, or_cases}
use Rattle.std.proofs.lemmas.Map.Steps.{length-le_from_distinct_below}
use Rattle.index_lists.specs.declared.links.Link.{Link}
use Rattle.index_lists.specs.Link.{after_of, before_of, owner_of, Joins, Owns}
use Rattle.index_lists.specs.Members.{Lacks, Has}
use Rattle.index_lists.specs.Rings.{walk, IsPath, AreOwned, IsRing}
use Rattle.index_lists.specs.Chains.{without}
use Rattle.index_lists.proofs.Members.{without_here, without_there, lacks_itself, has_not_lacks, apart_push, apart_without, distinct_from_apart}
use Rattle.index_lists.proofs.Paths.{path_kept, path_retarget, path_push, path_owned, path_unlink, walk_path}

-- a place of another owner is not among the nodes of a list
pub lacks_by_owner : (links : List Link) (nodes l q : ℕ) (xs : List ℕ) → owner_of links q ≢ l → AreOwned links nodes l xs → Lacks q xs
lacks_by_owner links nodes l q [] ne o = tt
lacks_by_owner links nodes l q (x ∷ xs) ne o = ((λ e. ne (ap (owner_of links) (sym e) ∙ o.0)), lacks_by_owner links nodes l q xs ne o.2)

-- nor is an end place
pub lacks_by_bound : (links : List Link) (nodes l q : ℕ) (xs : List ℕ) → nodes ≤ q → AreOwned links nodes l xs → Lacks q xs
lacks_by_bound links nodes l q [] b o = tt
lacks_by_bound links nodes l q (x ∷ xs) b o = (omega arith, lacks_by_bound links nodes l q xs b o.2)

-- the remaining owned nodes are owned
pub owned_without : (links : List Link) (nodes l n : ℕ) (xs : List ℕ) → AreOwned links nodes l xs → AreOwned links nodes l (without n xs)
owned_without links nodes l n [] o = tt
owned_without links nodes l n (x ∷ xs) o =
    elim (cases_eq x n) [
      | inl e ↦ subst (AreOwned links nodes l) (sym (without_here n x xs e)) (owned_without links nodes l n xs o.2)
      | inr ne ↦ subst (AreOwned links nodes l) (sym (without_there n x xs ne)) (o.0, o.1, owned_without links nodes l n xs o.2)
    ]

-- a node of a list has that list as its owner
pub has_owner : (links : List Link) (nodes l q : ℕ) (xs : List ℕ) → Has q xs → AreOwned links nodes l xs → (owner_of links q ≡ l) × (q < nodes)
has_owner links nodes l q [] h o = absurd h
has_owner links nodes l q (x ∷ xs) h o =
    elim (cases_eq x q) [ inl e ↦ (ap (owner_of links) (sym e) ∙ o.0, omega arith) | inr ne ↦ has_owner links nodes l q xs (h ne) o.2 ]

-- a join changes no owner
pub owned_joined : (old new : List Link) (a b nodes l : ℕ) (xs : List ℕ) → Joins old new a b → AreOwned old nodes l xs → AreOwned new nodes l xs
owned_joined old new a b nodes l [] j o = tt
owned_joined old new a b nodes l (x ∷ xs) j o = (j.same_owner x ∙ o.0, o.1, owned_joined old new a b nodes l xs j o.2)

-- nor does a change of another place's owner
pub owned_owned : (old new : List Link) (a b nodes l : ℕ) (xs : List ℕ) → Owns old new a b → Lacks a xs → AreOwned old nodes l xs → AreOwned new nodes l xs
owned_owned old new a b nodes l [] j la o = tt
owned_owned old new a b nodes l (x ∷ xs) j la o = (j.owner_else x la.0 ∙ o.0, o.1, owned_owned old new a b nodes l xs j la.1 o.2)

-- owned nodes, and one more
pub owned_push : (links : List Link) (nodes l n : ℕ) (xs : List ℕ) → owner_of links n ≡ l → n < nodes → AreOwned links nodes l xs → AreOwned links nodes l (xs ++ n ∷ [])
owned_push links nodes l n [] e b o = (e, b, tt)
owned_push links nodes l n (x ∷ xs) e b o = (o.0, o.1, owned_push links nodes l n xs e b o.2)

-- a property of all places of a path holds of the place before its end
pub before_end_is : (links : List Link) (P : ℕ → Type 0) (from : ℕ) (xs : List ℕ) (to : ℕ) → P from → ((q : ℕ) → Has q xs → P q) → IsPath links from xs to → P (before_of links to)
before_end_is links P from [] to f h p = subst P (sym p.1) f
before_end_is links P from (x ∷ xs) to f h p = before_end_is links P x xs to (h x (λ ne. absurd (ne refl))) (λ q m. h q (λ _. m)) p.2

-- and of the place before any of its nodes
pub before_is : (links : List Link) (P : ℕ → Type 0) (node from : ℕ) (xs : List ℕ) (to : ℕ) → P from → ((q : ℕ) → Has q xs → P q) → Has node xs → IsPath links from xs to → P (before_of links node)
before_is links P node from [] to f h m p = absurd m
before_is links P node from (x ∷ xs) to f h m p =
    elim (cases_eq x node) [
      | inl e ↦ subst (λ (n : ℕ). P (before_of links n)) e (subst P (sym p.1) f)
      | inr ne ↦ before_is links P node x xs to (h x (λ ne'. absurd (ne' refl))) (λ q k. h q (λ _. k)) (m ne) p.2
    ]

-- and of the place after its start
pub after_start_is : (links : List Link) (P : ℕ → Type 0) (from : ℕ) (xs : List ℕ) (to : ℕ) → P to → ((q : ℕ) → Has q xs → P q) → IsPath links from xs to → P (after_of links from)
after_start_is links P from [] to t h p = subst P (sym p.0) t
after_start_is links P from (x ∷ xs) to t h p = subst P (sym p.0) (h x (λ ne. absurd (ne refl)))

-- and of the place after any of its nodes
pub after_is : (links : List Link) (P : ℕ → Type 0) (node from : ℕ) (xs : List ℕ) (to : ℕ) → P to → ((q : ℕ) → Has q xs → P q) → Has node xs → IsPath links from xs to → P (after_of links node)
after_is links P node from [] to t h m p = absurd m
after_is links P node from (x ∷ xs) to t h m p =
    elim (cases_eq x node) [
      | inl e ↦ subst (λ (n : ℕ). P (after_of links n)) e (after_start_is links P x xs to t (λ q k. h q (λ _. k)) p.2)
      | inr ne ↦ after_is links P node x xs to t (λ q k. h q (λ _. k)) (m ne) p.2
    ]

-- a ring of another list, over a join of two places that are not its own
pub ring_kept : (old new : List Link) (a b nodes l : ℕ) (xs : List ℕ) → Joins old new a b → owner_of old a ≢ l → owner_of old b ≢ l → IsRing old nodes l xs → IsRing new nodes l xs
ring_kept old new a b nodes l xs j na nb r =
    let end_not : (q : ℕ) → owner_of old q ≢ l → nodes + l ≢ q = λ q ne e. ne (ap (owner_of old) (sym e) ∙ r.head) in
    record {
      path = path_kept old new a b j _ xs _ (end_not a na) (lacks_by_owner old nodes l a xs na r.owned) (lacks_by_owner old nodes l b xs nb r.owned) (end_not b nb) r.path;
      head = j.same_owner _ ∙ r.head;
      owned = owned_joined old new a b nodes l xs j r.owned;
      apart = r.apart;
    }

-- a ring, over a change of the owner of a place that is not its own
pub ring_owned : (old new : List Link) (a b nodes l : ℕ) (xs : List ℕ) → Owns old new a b → nodes + l ≢ a → Lacks a xs → IsRing old nodes l xs → IsRing new nodes l xs
ring_owned old new a b nodes l xs j ne la r = record {
  path = path_owned old new a b j _ xs _ r.path;
  head = j.owner_else _ ne ∙ r.head;
  owned = owned_owned old new a b nodes l xs j la r.owned;
  apart = r.apart;
}

-- a node is linked in at the end of a ring
pub ring_push : (one two three four : List Link) (nodes l n : ℕ) (xs : List ℕ) → Joins one two (before_of one (nodes + l)) n → Joins two three n (nodes + l) → Owns three four n l
    → n < nodes → Lacks n xs → IsRing one nodes l xs → IsRing four nodes l (xs ++ n ∷ [])
ring_push one two three four nodes l n xs j k o bn ln r =
    let end = nodes + l in
    let le : Lacks end xs = lacks_by_bound one nodes l end xs (omega arith) r.owned in
    let ne : end ≢ n = omega arith in
    let en : n ≢ end = omega arith in
    let p = path_retarget one two _ n j end xs end refl le r.apart ln r.path in
    let q = path_kept two three n end k end xs n ne ln le en p in
    record {
      path = path_owned three four n l o end _ end (path_push three end xs n end q k.after_here k.before_here);
      head = o.owner_else end ne ∙ (k.same_owner end ∙ (j.same_owner end ∙ r.head));
      owned = owned_push four nodes l n xs o.owner_here bn
          (owned_owned three four n l nodes l xs o ln (owned_joined two three n end nodes l xs k (owned_joined one two _ n nodes l xs j r.owned)));
      apart = apart_push n xs ln r.apart;
    }

-- a node is taken out of its ring
pub ring_unlink : (one two three : List Link) (nodes l n none : ℕ) (xs : List ℕ) → Joins one two (before_of one n) (after_of one n) → Owns two three n none
    → Has n xs → IsRing one nodes l xs → IsRing three nodes l (without n xs)
ring_unlink one two three nodes l n none xs j o h r =
    let end = nodes + l in
    let le : Lacks end xs = lacks_by_bound one nodes l end xs (omega arith) r.owned in
    let ne : end ≢ n = λ e. has_not_lacks n xs h (subst (λ (q : ℕ). Lacks q xs) e le) in
    record {
      path = path_owned two three n none o end _ end (path_unlink one two n j end xs end h le r.apart le r.path);
      head = o.owner_else end ne ∙ (j.same_owner end ∙ r.head);
      owned = owned_owned two three n none nodes l _ o (lacks_itself n xs) (owned_joined one two _ _ nodes l _ j (owned_without one nodes l n xs r.owned));
      apart = apart_without n xs r.apart;
    }

-- a place has the owner that it has
pub owns_itself : (links : List Link) (at owner : ℕ) → owner_of links at ≡ owner → Owns links links at owner
owns_itself links at owner is = record {
  same_length = refl;
  same_after = λ k. refl;
  same_before = λ k. refl;
  owner_here = is;
  owner_else = λ k ne. refl;
}

any_below : (links : List Link) (nodes l : ℕ) (xs : List ℕ) → AreOwned links nodes l xs → (q : ℕ) → list_any (eqb q) xs ≡ true → q < nodes
any_below links nodes l [] o q e = absurd (cc)
any_below links nodes l (x ∷ xs) o q e =
    elim (or_cases (eqb q x) (list_any (eqb q) xs) e) [ inl h ↦ (let s = eqb-true q x h in omega arith) | inr h ↦ any_below links nodes l xs o.2 q h ]

-- a list has no more nodes than there are
pub ring_fits : (links : List Link) (nodes l : ℕ) (xs : List ℕ) → IsRing links nodes l xs → length xs ≤ nodes
ring_fits links nodes l xs r = length-le_from_distinct_below xs nodes (distinct_from_apart xs r.apart) (any_below links nodes l xs r.owned)

-- so a walk from its end finds them all
pub ring_walk : (links : List Link) (nodes l : ℕ) (xs : List ℕ) → IsRing links nodes l xs → walk links (nodes + l) nodes (nodes + l) ≡ xs
ring_walk links nodes l xs r =
    walk_path links (nodes + l) nodes (nodes + l) xs r.path (lacks_by_bound links nodes l (nodes + l) xs (omega arith) r.owned) (ring_fits links nodes l xs r)
