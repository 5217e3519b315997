-- What a change of the links does to all the lists.
use Rattle.std.proofs.Common.{◌≡◌, ◌≢◌, ℕ, ◌+◌, ◌<◌, ◌^◌, List, [], ◌∷◌, ◌++◌, length, get_or, set, sym, ap, subst, ◌∙◌, arith, inl, inr, get_or-set_same, get_or-set_other, length-set}
use Rattle.std.proofs.lemmas.Bool.{cases_eq}
use Rattle.std.proofs.lemmas.List.FromFn.{fill_by_all}
use Rattle.index_lists.specs.declared.links.Link.{Link}
use Rattle.index_lists.specs.Link.{after_of, before_of, owner_of, Joins, Owns}
use Rattle.index_lists.specs.Members.{Lacks, Has}
use Rattle.index_lists.specs.Rings.{walk, lists_of, IsRing, Holds}
use Rattle.index_lists.specs.Chains.{without}
use Rattle.index_lists.proofs.Members.{has_without, has_push_old, has_push_new, lacks_itself}
use Rattle.index_lists.proofs.Rings.{lacks_by_owner, has_owner, before_end_is, before_is, after_is, owns_itself, ring_kept, ring_owned, ring_push, ring_unlink, ring_walk}

-- the lists that the links hold are those that a walk finds
pub lists_of_lem : (links : List Link) (nodes lists : ℕ) (all : List (List ℕ)) → Holds links nodes lists all → lists_of links nodes lists ≡ all
unfolding lists_of
lists_of_lem links nodes lists all h =
    sym (fill_by_all (λ l. walk links (nodes + l) nodes (nodes + l)) all lists [] h.count (λ l b. sym (ring_walk links nodes l _ (h.rings l b))))

-- so they may be called by that name
pub holds_itself : (links : List Link) (nodes lists : ℕ) (all : List (List ℕ)) → Holds links nodes lists all → Holds links nodes lists (lists_of links nodes lists)
holds_itself links nodes lists all h = subst (Holds links nodes lists) (sym (lists_of_lem links nodes lists all h)) h

-- a free node goes to the end of a list
pub holds_push : (one two three four : List Link) (nodes lists l n : ℕ) (all : List (List ℕ))
    → Joins one two (before_of one (nodes + l)) n → Joins two three n (nodes + l) → Owns three four n l
    → l < lists → n < nodes → owner_of one n ≡ 4294967295 → Holds one nodes lists all
    → Holds four nodes lists (set all l (get_or all l [] ++ n ∷ []))
holds_push one two three four nodes lists l n all j k o bl bn free h =
    let xs = get_or all l [] in
    let r = h.rings l bl in
    let last = before_of one (nodes + l) in
    let last_owner : owner_of one last ≡ l =
    before_end_is one (λ q. owner_of one q ≡ l) (nodes + l) xs (nodes + l) r.head (λ q m. (has_owner one nodes l q xs m r.owned).0) r.path in
    let room : nodes + lists < 2 ^ 32 = h.room in
    let in_all : l < length all = rw h.count bl in
    let free_of : (m : ℕ) → m < lists → owner_of one n ≢ m = λ m b e. absurd (omega arith) in
    let lacks : (m : ℕ) → m < lists → Lacks n (get_or all m []) = λ m b. lacks_by_owner one nodes m n _ (free_of m b) (h.rings m b).owned in
    let same : (q : ℕ) → q ≢ n → owner_of four q ≡ owner_of one q = λ q ne. o.owner_else q ne ∙ (k.same_owner q ∙ j.same_owner q) in
    record {
      total = o.same_length ∙ (k.same_length ∙ (j.same_length ∙ h.total));
      room = h.room;
      count = length-set all l _ ∙ h.count;
      rings = λ m b. elim (cases_eq m l) [
        | inl e ↦ subst (λ (q : ℕ). IsRing four nodes q (get_or (set all l (xs ++ n ∷ [])) q [])) (sym e)
            (subst (IsRing four nodes l) (sym (get_or-set_same all l (xs ++ n ∷ []) [] in_all)) (ring_push one two three four nodes l n xs j k o bn (lacks l bl) r))
        | inr ne ↦ subst (IsRing four nodes m) (sym (get_or-set_other all l m (xs ++ n ∷ []) [] ne))
            (ring_owned three four n l nodes m _ o (omega arith) (lacks m b)
            (ring_kept two three n (nodes + l) nodes m _ k (λ e. free_of m b (sym (j.same_owner n) ∙ e)) (λ e. ne (sym e ∙ (j.same_owner (nodes + l) ∙ r.head)))
            (ring_kept one two last n nodes m _ j (λ e. ne (sym e ∙ last_owner)) (free_of m b) (h.rings m b))))
      ];
      placed = λ q b ne. elim (cases_eq q n) [
        | inl e ↦
            let owner_is : owner_of four q ≡ l = ap (owner_of four) e ∙ o.owner_here in (
              omega arith,
              subst (λ (p : ℕ). Has q (get_or (set all l (xs ++ n ∷ [])) p [])) (sym owner_is)
                  (subst (Has q) (sym (get_or-set_same all l (xs ++ n ∷ []) [] in_all)) (subst (λ (p : ℕ). Has p (xs ++ n ∷ [])) (sym e) (has_push_new n xs))),
            )
        | inr q_ne ↦
            let s = same q q_ne in
            let old = h.placed q b (λ t. ne (s ∙ t)) in (
              omega arith,
              subst (λ (p : ℕ). Has q (get_or (set all l (xs ++ n ∷ [])) p [])) (sym s)
                  (elim (cases_eq (owner_of one q) l) [
                    | inl e ↦ subst (λ (p : ℕ). Has q (get_or (set all l (xs ++ n ∷ [])) p [])) (sym e)
                        (subst (Has q) (sym (get_or-set_same all l (xs ++ n ∷ []) [] in_all)) (has_push_old q n xs (subst (λ (p : ℕ). Has q (get_or all p [])) e old.1)))
                    | inr o_ne ↦ subst (Has q) (sym (get_or-set_other all l (owner_of one q) (xs ++ n ∷ []) [] o_ne)) old.1
                  ]),
            )
      ];
    }

-- a node leaves its list
pub holds_unlink : (one two three : List Link) (nodes lists n l : ℕ) (all : List (List ℕ))
    → Joins one two (before_of one n) (after_of one n) → Owns two three n 4294967295
    → n < nodes → l < lists → owner_of one n ≡ l → Holds one nodes lists all → Holds three nodes lists (set all l (without n (get_or all l [])))
holds_unlink one two three nodes lists n l all j o bn bl owner_is h =
    let room : nodes + lists < 2 ^ 32 = h.room in
    let held : owner_of one n ≢ 4294967295 = λ e. absurd (omega arith) in
    let xs = get_or all l [] in
    let has : Has n xs = subst (λ (q : ℕ). Has n (get_or all q [])) owner_is (h.placed n bn held).1 in
    let r = h.rings l bl in
    let owned : (q : ℕ) → Has q xs → owner_of one q ≡ l = λ q m. (has_owner one nodes l q xs m r.owned).0 in
    let before_owner : owner_of one (before_of one n) ≡ l = before_is one (λ q. owner_of one q ≡ l) n (nodes + l) xs (nodes + l) r.head owned has r.path in
    let after_owner : owner_of one (after_of one n) ≡ l = after_is one (λ q. owner_of one q ≡ l) n (nodes + l) xs (nodes + l) r.head owned has r.path in
    let in_all : l < length all = rw h.count bl in
    record {
      total = o.same_length ∙ (j.same_length ∙ h.total);
      room = h.room;
      count = length-set all l _ ∙ h.count;
      rings = λ m b. elim (cases_eq m l) [
        | inl e ↦ subst (λ (q : ℕ). IsRing three nodes q (get_or (set all l (without n xs)) q [])) (sym e)
            (subst (IsRing three nodes l) (sym (get_or-set_same all l (without n xs) [] in_all)) (ring_unlink one two three nodes l n 4294967295 xs j o has r))
        | inr ne ↦ subst (IsRing three nodes m) (sym (get_or-set_other all l m (without n xs) [] ne))
            (ring_owned two three n 4294967295 nodes m _ o (omega arith) (lacks_by_owner one nodes m n _ (λ e. ne (sym e ∙ owner_is)) (h.rings m b).owned)
            (ring_kept one two (before_of one n) (after_of one n) nodes m _ j (λ e. ne (sym e ∙ before_owner)) (λ e. ne (sym e ∙ after_owner)) (h.rings m b)))
      ];
      placed = λ q b ne.
          let q_ne : q ≢ n = λ e. ne (ap (owner_of three) e ∙ o.owner_here) in
          let s : owner_of three q ≡ owner_of one q = o.owner_else q q_ne ∙ j.same_owner q in
          let old = h.placed q b (λ t. ne (s ∙ t)) in (
            omega arith,
            subst (λ (p : ℕ). Has q (get_or (set all l (without n xs)) p [])) (sym s)
                (elim (cases_eq (owner_of one q) l) [
                  | inl e ↦ subst (λ (p : ℕ). Has q (get_or (set all l (without n xs)) p [])) (sym e)
                      (subst (Has q) (sym (get_or-set_same all l (without n xs) [] in_all)) (has_without q n xs q_ne (subst (λ (p : ℕ). Has q (get_or all p [])) e old.1)))
                  | inr o_ne ↦ subst (Has q) (sym (get_or-set_other all l (owner_of one q) (without n xs) [] o_ne)) old.1
                ]),
          );
    }

-- a node goes to the end of its list
pub holds_relink : (one two three four : List Link) (nodes lists l n : ℕ) (all : List (List ℕ))
    → Joins one two (before_of one n) (after_of one n) → Joins two three (before_of two (nodes + l)) n → Joins three four n (nodes + l)
    → n < nodes → l < lists → owner_of one n ≡ l → Holds one nodes lists all
    → Holds four nodes lists (set all l (without n (get_or all l []) ++ n ∷ []))
holds_relink one two three four nodes lists l n all i j k bn bl owner_is h =
    let room : nodes + lists < 2 ^ 32 = h.room in
    let held : owner_of one n ≢ 4294967295 = λ e. absurd (omega arith) in
    let xs = get_or all l [] in
    let ys = without n xs ++ n ∷ [] in
    let has : Has n xs = subst (λ (q : ℕ). Has n (get_or all q [])) owner_is (h.placed n bn held).1 in
    let r = h.rings l bl in
    let owned : (q : ℕ) → Has q xs → owner_of one q ≡ l = λ q m. (has_owner one nodes l q xs m r.owned).0 in
    let before_owner : owner_of one (before_of one n) ≡ l = before_is one (λ q. owner_of one q ≡ l) n (nodes + l) xs (nodes + l) r.head owned has r.path in
    let after_owner : owner_of one (after_of one n) ≡ l = after_is one (λ q. owner_of one q ≡ l) n (nodes + l) xs (nodes + l) r.head owned has r.path in
    let out : IsRing two nodes l (without n xs) = ring_unlink one two two nodes l n l xs i (owns_itself two n l (i.same_owner n ∙ owner_is)) has r in
    let last = before_of two (nodes + l) in
    let last_owner : owner_of two last ≡ l =
    before_end_is two (λ q. owner_of two q ≡ l) (nodes + l) (without n xs) (nodes + l) out.head (λ q m. (has_owner two nodes l q (without n xs) m out.owned).0) out.path in
    let in_all : l < length all = rw h.count bl in
    let same : (q : ℕ) → owner_of four q ≡ owner_of one q = λ q. k.same_owner q ∙ (j.same_owner q ∙ i.same_owner q) in
    record {
      total = k.same_length ∙ (j.same_length ∙ (i.same_length ∙ h.total));
      room = h.room;
      count = length-set all l _ ∙ h.count;
      rings = λ m b. elim (cases_eq m l) [
        | inl e ↦ subst (λ (q : ℕ). IsRing four nodes q (get_or (set all l ys) q [])) (sym e)
            (subst (IsRing four nodes l) (sym (get_or-set_same all l ys [] in_all))
            (ring_push two three four four nodes l n (without n xs) j k (owns_itself four n l (same n ∙ owner_is)) bn (lacks_itself n xs) out))
        | inr ne ↦ subst (IsRing four nodes m) (sym (get_or-set_other all l m ys [] ne))
            (ring_kept three four n (nodes + l) nodes m _ k (λ e. ne (sym e ∙ (j.same_owner n ∙ (i.same_owner n ∙ owner_is)))) (λ e. ne (sym e ∙ (j.same_owner (nodes + l) ∙ out.head)))
            (ring_kept two three last n nodes m _ j (λ e. ne (sym e ∙ last_owner)) (λ e. ne (sym e ∙ (i.same_owner n ∙ owner_is)))
            (ring_kept one two (before_of one n) (after_of one n) nodes m _ i (λ e. ne (sym e ∙ before_owner)) (λ e. ne (sym e ∙ after_owner)) (h.rings m b))))
      ];
      placed = λ q b ne.
          let s = same q in
          let old = h.placed q b (λ t. ne (s ∙ t)) in (
            omega arith,
            subst (λ (p : ℕ). Has q (get_or (set all l ys) p [])) (sym s)
                (elim (cases_eq (owner_of one q) l) [
                  | inl e ↦ subst (λ (p : ℕ). Has q (get_or (set all l ys) p [])) (sym e)
                      (subst (Has q) (sym (get_or-set_same all l ys [] in_all))
                      (elim (cases_eq q n) [
                        | inl t ↦ subst (λ (p : ℕ). Has p ys) (sym t) (has_push_new n (without n xs))
                        | inr q_ne ↦ has_push_old q n (without n xs) (has_without q n xs q_ne (subst (λ (p : ℕ). Has q (get_or all p [])) e old.1))
                      ]))
                  | inr o_ne ↦ subst (Has q) (sym (get_or-set_other all l (owner_of one q) ys [] o_ne)) old.1
                ]),
          );
    }
