-- Lists of pages without some of them.
use Rattle.std.proofs.Common.{ℕ, ◌≡◌, ◌+◌, ◌*◌, ◌/◌, ◌<◌, ◌≤◌, Bool, true, false, not, ◌&&◌, List, [], ◌∷◌, filter, refl, sym, ap, subst, ◌∙◌, arith, inl, inr, if◌then◌else◌}
use Rattle.std.specs.Prelude.{Contains, nat_le, nat_lt, ◌==◌}
use Rattle.std.proofs.lemmas.Bool.{cases_lt, cases_eq, cases_Bool, cond-true, cond-false, le-leb, lt-leb, lt-ltb, le-ltb, eq-eqb, ne_eqb}
use Rattle.frame_pool.specs.index_lists.Members.{Has}
use Rattle.frame_pool.proofs.index_lists.Members.{has_from_contains, contains_from_has}
use Rattle.paged_memory.specs.Moves.{is_outside}

-- one test after another
pub filter_both : (f g h : ℕ → Bool) → ((x : ℕ) → h x ≡ (f x && g x)) → (xs : List ℕ) → filter g (filter f xs) ≡ filter h xs
filter_both f g h same [] = refl
filter_both f g h same (x ∷ xs) =
    let rest = filter_both f g h same xs in
    elim (cases_Bool (f x)) [
      | inl on ↦ ap (filter g) (cond-true _ _ _ on) ∙ ap (λ ys. if g x then x ∷ ys else ys) rest ∙ ap (λ b. if b then x ∷ filter h xs else filter h xs) (sym (same x ∙ ap (λ b. b && g x) on))
      | inr off ↦ ap (filter g) (cond-false _ _ _ off) ∙ rest ∙ sym (cond-false _ _ _ (same x ∙ ap (λ b. b && g x) off))
    ]

filter_has : (f : ℕ → Bool) (xs : List ℕ) → ((x : ℕ) → Has x xs → f x ≡ true) → filter f xs ≡ xs
filter_has f [] pass = refl
filter_has f (x ∷ xs) pass = cond-true _ _ _ (pass x (λ ne. absurd (ne refl))) ∙ ap (λ ys. x ∷ ys) (filter_has f xs (λ y h. pass y (λ _. h)))

-- a test that every element passes
pub filter_all : (f : ℕ → Bool) (xs : List ℕ) → ((x : ℕ) → Contains xs x → f x ≡ true) → filter f xs ≡ xs
filter_all f xs pass = filter_has f xs (λ x h. pass x (contains_from_has x xs h))

pub outside_low : (from to page : ℕ) → page < from → is_outside from to page ≡ true
outside_low from to page low = ap (λ b. not (b && nat_lt page to)) (lt-leb from page low)

pub outside_high : (from to page : ℕ) → to ≤ page → is_outside from to page ≡ true
outside_high from to page high = ap (λ b. not (nat_le from page && b)) (le-ltb page to high) ∙ and_false (nat_le from page)
  where
    and_false : (b : Bool) → not (b && false) ≡ true
    and_false true = refl
    and_false false = refl

pub outside_not : (from to page : ℕ) → from ≤ page → page < to → is_outside from to page ≡ false
outside_not from to page a b = ap (λ x. not (x && nat_lt page to)) (le-leb from page a) ∙ ap (λ x. not (true && x)) (lt-ltb page to b)

-- outside of one page
pub outside_one : (page x : ℕ) → not (x == page) ≡ is_outside page (page + 1) x
outside_one page x =
    elim (cases_lt x page) [
      | inl low ↦ ap not (ne_eqb x page (λ e. omega (arith, e, low))) ∙ sym (outside_low page (page + 1) x low)
      | inr high ↦ (elim (cases_eq x page) [
        | inl e ↦ ap not (eq-eqb x page e) ∙ sym (outside_not page (page + 1) x high (omega (arith, e)))
        | inr ne ↦ ap not (ne_eqb x page ne) ∙ sym (outside_high page (page + 1) x (omega arith))
      ])
    ]

-- outside of two spans that meet
pub outside_both : (from mid to x : ℕ) → from ≤ mid → mid ≤ to → is_outside from to x ≡ (is_outside from mid x && is_outside mid to x)
outside_both from mid to x a b =
    elim (cases_lt x from) [
      | inl low ↦ outside_low from to x low ∙ sym (ap (λ t. t && is_outside mid to x) (outside_low from mid x low) ∙ outside_low mid to x (omega arith))
      | inr high ↦ (elim (cases_lt x mid) [
        | inl low ↦ outside_not from to x high (omega arith) ∙ sym (ap (λ t. t && is_outside mid to x) (outside_not from mid x high low))
        | inr above ↦ (elim (cases_lt x to) [
          | inl low ↦ outside_not from to x high low ∙ sym (ap (λ t. t && is_outside mid to x) (outside_high from mid x above) ∙ outside_not mid to x above low)
          | inr past ↦ outside_high from to x past ∙ sym (ap (λ t. t && is_outside mid to x) (outside_high from mid x above) ∙ outside_high mid to x past)
        ])
      ])
    ]

-- outside of no page
pub outside_none : (from x : ℕ) → is_outside from from x ≡ true
outside_none from x = elim (cases_lt x from) [ inl low ↦ outside_low from from x low | inr high ↦ outside_high from from x high ]

-- outside of the pages of a region
pub outside_region : (region x : ℕ) → is_outside (region * 16) (region * 16 + 16) x ≡ not (x / 16 == region)
outside_region region x =
    elim (cases_eq (x / 16) region) [
      | inl e ↦ outside_not (region * 16) (region * 16 + 16) x (omega (arith, e)) (omega (arith, e)) ∙ sym (ap not (eq-eqb (x / 16) region e))
      | inr ne ↦ (elim (cases_lt x (region * 16)) [
        | inl low ↦ outside_low (region * 16) (region * 16 + 16) x low
        | inr high ↦ outside_high (region * 16) (region * 16 + 16) x (omega arith)
      ]) ∙ sym (ap not (ne_eqb (x / 16) region ne))
    ]

contains_filter_has : (f : ℕ → Bool) (q : ℕ) (xs : List ℕ) → Has q xs → f q ≡ true → Has q (filter f xs)
contains_filter_has f q [] h e = h
contains_filter_has f q (x ∷ xs) h e =
    elim (cases_eq x q) [
      | inl s ↦ (let there : Has q (x ∷ filter f xs) = λ ne. absurd (ne s) in let on : f x ≡ true = ap f s ∙ e in subst (Has q) (sym (cond-true (f x) (x ∷ filter f xs) (filter f xs) on)) there)
      | inr ne ↦ (
          let rest = contains_filter_has f q xs (h ne) e in
          elim (cases_Bool (f x)) [
            | inl on ↦ subst (Has q) (sym (cond-true (f x) (x ∷ filter f xs) (filter f xs) on)) (λ _. rest)
            | inr off ↦ subst (Has q) (sym (cond-false (f x) (x ∷ filter f xs) (filter f xs) off)) rest
          ])
    ]

pub Contains-filter : (f : ℕ → Bool) (q : ℕ) (xs : List ℕ) → Contains xs q → f q ≡ true → Contains (filter f xs) q
Contains-filter f q xs m e = contains_from_has q (filter f xs) (contains_filter_has f q xs (has_from_contains q xs m.0 m.1 m.2) e)
