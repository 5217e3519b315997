-- What the calls of a set of pages do to it.
use Rattle.std.proofs.Common.{◌≡◌, ◌≢◌, ℕ, zero, suc, ◌+◌, ◌*◌, ◌/◌, ◌%◌, ◌<◌, ◌≤◌, ◌^◌, Some, None, List, [], slice_index, replicate, refl, sym, ◌∙◌, ap, subst, arith, inl, inr}
use Rattle.std.specs.Prelude.{Contains, ◌==◌}
use Rattle.std.specs.Int.{bit_at, trailing_zeros, w64}
use Rattle.std.proofs.lemmas.Bool.{cases_eq, eq-eqb, ne_eqb, eqb-true}
use Rattle.std.proofs.lemmas.Nat.Bits.{bit_at-zero, bit_at-trailing_zeros}
use Rattle.index_lists.specs.Chains.{first_of}
use Rattle.area_space.proofs.BitLaws.{bit_in}
use Rattle.area_space.proofs.AscendingNumbers.{has_listed, listed_has, ascending_listed, first_listed, none_listed}
use Rattle.area_space.specs.Bits.{bit_of, pages_of, IsPages, SetsBit, ClearsBit}
use Rattle.area_space.specs.PageList.{PageList, Adds, Drops}
use Rattle.index_lists.proofs.Members.{contains_from_has, has_from_contains}

-- a page is listed if its bit is 1
pub listed_bit : (bits : List ℕ) (count page : ℕ) → Contains (pages_of bits count) page → bit_of bits page ≡ 1
listed_bit bits count page m = (let h = has_listed (λ q. bit_of bits q == 1) 0 count page (has_from_contains page (pages_of bits count) m.0 m.1 m.2) in eqb-true (bit_of bits page) 1 h.2)

pub bit_listed : (bits : List ℕ) (count page : ℕ) → page < count → bit_of bits page ≡ 1 → Contains (pages_of bits count) page
bit_listed bits count page low e = contains_from_has page (pages_of bits count) (listed_has (λ q. bit_of bits q == 1) 0 count page (omega arith) (omega arith) (eq-eqb (bit_of bits page) 1 e))

pub pages_added : (bits words new_bits new_words : List ℕ) (count page : ℕ) → IsPages bits words count → page < count → SetsBit bits new_bits page → SetsBit words new_words (page / 64)
    → IsPages new_bits new_words count
pages_added bits words new_bits new_words count page p low b w = record {
  few = p.few;
  lower_size = (let s = b.size in let o = p.lower_size in omega arith);
  upper_size = (let s = b.size in let t = w.size in let o = p.upper_size in omega arith);
  lower_few = (let s = b.size in let o = p.lower_few in omega arith);
  upper_few = (let s = w.size in let o = p.upper_few in omega arith);
  exact = λ word.
      elim (cases_eq word (page / 64)) [
        | inl e ↦ ((λ _. subst (λ (k : ℕ). slice_index new_bits k ≢ 0) (sym e) (bit_in new_bits page b.here)), (λ _. subst (λ (k : ℕ). bit_of new_words k ≡ 1) (sym e) w.here))
        | inr ne ↦ (
          (λ one z. (p.exact word).0 (sym (w.others word ne) ∙ one) (sym (b.words word ne) ∙ z)),
          (λ some. w.others word ne ∙ (p.exact word).1 (λ z. some (b.words word ne ∙ z))),
        )
      ];
  within = λ q one.
      elim (cases_eq q page) [
        | inl e ↦ omega arith
        | inr ne ↦ p.within q (sym (b.others q ne) ∙ one)
      ];
}

pub added_pages : (bits words new_bits : List ℕ) (count page : ℕ) → IsPages bits words count → page < count → SetsBit bits new_bits page
    → Adds (record { count = count; pages = pages_of bits count }) (record { count = count; pages = pages_of new_bits count }) page page
added_pages bits words new_bits count page p low b = record {
  count = refl;
  ascending = ascending_listed (λ q. bit_of new_bits q == 1) 0 count;
  members = λ q. (
    (λ m. elim (cases_eq q page) [
      | inl e ↦ inr (omega arith, omega arith)
      | inr ne ↦ (let one : bit_of bits q ≡ 1 = sym (b.others q ne) ∙ listed_bit new_bits count q m in inl (bit_listed bits count q (p.within q one) one))
    ]),
    (λ s. elim s [
      | inl old ↦
          elim (cases_eq q page) [
            | inl e ↦ subst (Contains (pages_of new_bits count)) (sym e) (bit_listed new_bits count page low b.here)
            | inr ne ↦ (let one = listed_bit bits count q old in bit_listed new_bits count q (p.within q one) (b.others q ne ∙ one))
          ]
      | inr (a, c) ↦ (let e : q ≡ page = omega arith in subst (Contains (pages_of new_bits count)) (sym e) (bit_listed new_bits count page low b.here))
    ]),
  );
}

-- a page that is in is added again
pub added_again : (bits : List ℕ) (count page : ℕ) → Contains (pages_of bits count) page → Adds (record { count = count; pages = pages_of bits count }) (record { count = count; pages = pages_of bits count }) page page
added_again bits count page m = record {
  count = refl;
  ascending = ascending_listed (λ q. bit_of bits q == 1) 0 count;
  members = λ q. (
    (λ old. inl old),
    (λ s. elim s [
      | inl old ↦ old
      | inr (a, b) ↦ (let e : q ≡ page = omega arith in subst (Contains (pages_of bits count)) (sym e) m)
    ]),
  );
}

pub dropped_pages : (bits words new_bits : List ℕ) (count page : ℕ) → IsPages bits words count → ClearsBit bits new_bits page
    → Drops (record { count = count; pages = pages_of bits count }) (record { count = count; pages = pages_of new_bits count }) page
dropped_pages bits words new_bits count page p b = record {
  count = refl;
  ascending = ascending_listed (λ q. bit_of new_bits q == 1) 0 count;
  members = λ q. (
    (λ m.
        let now = listed_bit new_bits count q m in
        let ne : q ≢ page = λ e. (let z : bit_of new_bits q ≡ bit_of new_bits page = ap (bit_of new_bits) e in let h = b.here in omega arith) in
        let one : bit_of bits q ≡ 1 = sym (b.others q ne) ∙ now in
        (bit_listed bits count q (p.within q one) one, ne)),
    (λ (m, ne). let one = listed_bit bits count q m in bit_listed new_bits count q (p.within q one) (b.others q ne ∙ one)),
  );
}

-- a bit is cleared, and its word isn't 0
pub pages_dropped : (bits words new_bits : List ℕ) (count page : ℕ) → IsPages bits words count → ClearsBit bits new_bits page → slice_index new_bits (page / 64) ≢ 0
    → IsPages new_bits words count
pages_dropped bits words new_bits count page p b some = record {
  few = p.few;
  lower_size = (let s = b.size in let o = p.lower_size in omega arith);
  upper_size = (let s = b.size in let o = p.upper_size in omega arith);
  lower_few = (let s = b.size in let o = p.lower_few in omega arith);
  upper_few = p.upper_few;
  exact = λ word.
      elim (cases_eq word (page / 64)) [
        | inl e ↦ (
          (λ _. subst (λ (k : ℕ). slice_index new_bits k ≢ 0) (sym e) some),
          (λ _. subst (λ (k : ℕ). bit_of words k ≡ 1) (sym e) ((p.exact (page / 64)).1 (b.some some))),
        )
        | inr ne ↦ (
          (λ one z. (p.exact word).0 one (sym (b.words word ne) ∙ z)),
          (λ s. (p.exact word).1 (λ z. s (b.words word ne ∙ z))),
        )
      ];
  within = λ q one.
      elim (cases_eq q page) [
        | inl e ↦ (let z : bit_of new_bits q ≡ bit_of new_bits page = ap (bit_of new_bits) e in let h = b.here in absurd (omega arith))
        | inr ne ↦ p.within q (sym (b.others q ne) ∙ one)
      ];
}

-- a bit is cleared, and its word is 0 now
pub pages_dropped_word : (bits words new_bits new_words : List ℕ) (count page : ℕ) → IsPages bits words count → ClearsBit bits new_bits page → ClearsBit words new_words (page / 64) → slice_index new_bits (page / 64) ≡ 0
    → IsPages new_bits new_words count
pages_dropped_word bits words new_bits new_words count page p b w none = record {
  few = p.few;
  lower_size = (let s = b.size in let o = p.lower_size in omega arith);
  upper_size = (let s = b.size in let t = w.size in let o = p.upper_size in omega arith);
  lower_few = (let s = b.size in let o = p.lower_few in omega arith);
  upper_few = (let s = w.size in let o = p.upper_few in omega arith);
  exact = λ word.
      elim (cases_eq word (page / 64)) [
        | inl e ↦ (
          (λ one. (let z : bit_of new_words word ≡ bit_of new_words (page / 64) = ap (bit_of new_words) e in let h = w.here in absurd (omega arith))),
          (λ s. absurd (s (ap (slice_index new_bits) e ∙ none))),
        )
        | inr ne ↦ (
          (λ one z. (p.exact word).0 (sym (w.others word ne) ∙ one) (sym (b.words word ne) ∙ z)),
          (λ s. w.others word ne ∙ (p.exact word).1 (λ z. s (b.words word ne ∙ z))),
        )
      ];
  within = λ q one.
      elim (cases_eq q page) [
        | inl e ↦ (let z : bit_of new_bits q ≡ bit_of new_bits page = ap (bit_of new_bits) e in let h = b.here in absurd (omega arith))
        | inr ne ↦ p.within q (sym (b.others q ne) ∙ one)
      ];
}

pub no_pages : (bits : List ℕ) (count : ℕ) → ((k : ℕ) → slice_index bits k ≡ 0) → pages_of bits count ≡ []
no_pages bits count b = none_listed (λ q. bit_of bits q == 1) 0 count (λ r. ne_eqb (bit_of bits r) 1 (λ one. bit_in bits r one (b (r / 64))))

-- the lowest bit of the lowest word
pub first_page : (bits words : List ℕ) (count word bit : ℕ) → IsPages bits words count → bit_of words word ≡ 1 → ((other : ℕ) → other < word → bit_of words other ≡ 0)
    → bit < 64 → bit_at (slice_index bits word) bit ≡ 1 → ((i : ℕ) → i < bit → bit_at (slice_index bits word) i ≡ 0)
    → first_of (pages_of bits count) ≡ Some (word * 64 + bit)
first_page bits words count word bit p one least low here below =
    let q : ℕ = word * 64 + bit in
    let a : q / 64 ≡ word = omega arith in
    let b : q % 64 ≡ bit = omega arith in
    let is : bit_of bits q ≡ 1 = ap (λ (k : ℕ). bit_at (slice_index bits k) (q % 64)) a ∙ (ap (bit_at (slice_index bits word)) b ∙ here) in
    first_listed (λ r. bit_of bits r == 1) 0 count q (omega arith) (let w = p.within q is in omega arith) (eq-eqb (bit_of bits q) 1 is)
    (λ r under. ne_eqb (bit_of bits r) 1 (λ set.
    elim (cases_eq (r / 64) word) [
      | inl e ↦ (let z = below (r % 64) (omega arith) in let y : bit_of bits r ≡ bit_at (slice_index bits word) (r % 64) = ap (λ (k : ℕ). bit_at (slice_index bits k) (r % 64)) e in absurd (omega arith))
      | inr ne ↦ (let z = least (r / 64) (omega arith) in let y = (p.exact (r / 64)).1 (bit_in bits r set) in absurd (omega arith))
    ]))

pub no_first : (bits words : List ℕ) (count : ℕ) → IsPages bits words count → ((k : ℕ) → slice_index words k ≡ 0) → first_of (pages_of bits count) ≡ None
no_first bits words count p w = ap first_of (none_listed (λ q. bit_of bits q == 1) 0 count (λ r. ne_eqb (bit_of bits r) 1 (λ set. bit_in words (r / 64) ((p.exact (r / 64)).1 (bit_in bits r set)) (w (r / 64 / 64)))))

-- pages from one on to another are in, and one more
pub added_more : (one two three : PageList) (from page : ℕ) → from ≤ page → Adds one two from page → Adds two three (page + 1) (page + 1) → Adds one three from (page + 1)
added_more one two three from page low a b = record {
  count = b.count ∙ a.count;
  ascending = b.ascending;
  members = λ q. (
    (λ m. elim ((b.members q).0 m) [
      | inl mid ↦ elim ((a.members q).0 mid) [
        | inl old ↦ inl old
        | inr (x, y) ↦ inr (x, omega arith)
      ]
      | inr (x, y) ↦ inr (omega arith, y)
    ]),
    (λ s. elim s [
      | inl old ↦ (b.members q).1 (inl ((a.members q).1 (inl old)))
      | inr (x, y) ↦ elim (cases_eq q (page + 1)) [
        | inl e ↦ (b.members q).1 (inr (omega arith, omega arith))
        | inr ne ↦ (b.members q).1 (inl ((a.members q).1 (inr (x, omega arith))))
      ]
    ]),
  );
}

-- the number of pages said otherwise
pub adds_counted : (one two : PageList) (n from to : ℕ) → Adds one two from to → Adds (record { count = n; pages = one.pages }) (record { count = n; pages = two.pages }) from to
adds_counted one two n from to a = record { count = refl; ascending = a.ascending; members = a.members }

pub drops_counted : (one two : PageList) (n page : ℕ) → Drops one two page → Drops (record { count = n; pages = one.pages }) (record { count = n; pages = two.pages }) page
drops_counted one two n page a = record { count = refl; ascending = a.ascending; members = a.members }

-- the lowest bit of the first word that isn't 0
pub lowest_at : (bits : List ℕ) (word : ℕ) → slice_index bits word ≢ 0 → slice_index bits word < 2 ^ 64 → ((k : ℕ) → k < word → slice_index bits k ≡ 0)
    → (bit_of bits (word * 64 + trailing_zeros w64 (slice_index bits word)) ≡ 1) × ((other : ℕ) → other < word * 64 + trailing_zeros w64 (slice_index bits word) → bit_of bits other ≡ 0) × (trailing_zeros w64 (slice_index bits word) < 64)
lowest_at bits word ne fits before =
    let n = slice_index bits word in
    let z = bit_at-trailing_zeros w64 n (omega arith) fits in
    let tz = trailing_zeros w64 n in
    let low : tz < 64 = z.0 in
    let a : (word * 64 + tz) / 64 ≡ word = omega arith in
    let b : (word * 64 + tz) % 64 ≡ tz = omega arith in (
      ap (λ (k : ℕ). bit_at (slice_index bits k) ((word * 64 + tz) % 64)) a ∙ (ap (bit_at n) b ∙ z.1),
      λ other l. elim (cases_eq (other / 64) word) [
        | inl e ↦ ap (λ (k : ℕ). bit_at (slice_index bits k) (other % 64)) e ∙ z.2 (other % 64) (omega arith)
        | inr far ↦ ap (λ (x : ℕ). bit_at x (other % 64)) (before (other / 64) (omega arith)) ∙ bit_at-zero (other % 64)
      ],
      low,
    )

pub zeros : (n k : ℕ) → slice_index (replicate n 0) k ≡ 0
zeros zero k = refl
zeros (suc n) zero = refl
zeros (suc n) (suc k) = zeros n k
