-- Each list of bytes contains saves, is no store, or is damaged.
use Rattle.std.proofs.Common.{◌≡◌, ◌≢◌, ◌⊎◌, inl, inr, ⊎_elim, ℕ, zero, suc, ◌<◌, ◌≤◌, List, [], ◌∷◌, ◌++◌, length, take, drop, Option, Some, None, refl, sym, ◌∙◌, ap, arith, append_assoc, length-append, take-append-drop}
use Rattle.std.specs.List.{AllByRecursion}
use Rattle.std.proofs.lemmas.Bool.{cases_Bool, cases_eq, cases_lt}
use Rattle.std.proofs.lemmas.List.{append-nil, drop_at, length-drop, length-take-le, take_at}
use Rattle.band_store.specs.byteorder.Endian.{big_bytes, big_number}
use Rattle.band_store.specs.byteorder.Numbers.{big_number-reads_back}
use Rattle.lisp_graph.specs.Name.{is_name}
use Rattle.band_store.specs.Format.{HasNoRecord, IsSave, Save, gate_behind, header, record_of, records}
use Rattle.band_store.specs.Gates.{HasNoHead, IsHead}
use Rattle.band_run.specs.declared.reply.Reply.{Reply}
use Rattle.band_run.specs.declared.reply.Reply.TheVariants as R
use Rattle.band_run.specs.Bands.{IsFirst}

same_or_not : (a b : List ℕ) → (a ≡ b) ⊎ (a ≢ b)
same_or_not [] [] = inl refl
same_or_not [] (y ∷ ys) = inr (λ e. cc (e))
same_or_not (x ∷ xs) [] = inr (λ e. cc (e))
same_or_not (x ∷ xs) (y ∷ ys) =
    ⊎_elim
    (λ first. ⊎_elim (λ rest. inl (λ i. first i ∷ rest i)) (λ other. inr (λ e. other (cc (e)))) (same_or_not xs ys))
    (λ other. inr (λ e. other (cc (e)))) (cases_eq x y)

-- Heads

abbrev name_of : ℕ → List ℕ → List ℕ
name_of n after = take n after

abbrev size_of : ℕ → List ℕ → ℕ
size_of n after = big_number 4 (take 4 (drop n after))

abbrev rest_of : ℕ → List ℕ → List ℕ
rest_of n after = drop 4 (drop n after)

-- what the head is, if the bytes begin with one
pub record OnlyHead (n : ℕ) (after name : List ℕ) (size : ℕ) (behind : List ℕ) : Type 0 where
  pub named : name ≡ name_of n after
  pub sized : size ≡ size_of n after
  pub left : behind ≡ rest_of n after

number_back : (size : ℕ) → size ≤ 1048576 → big_number 4 (big_bytes 4 size) ≡ size
number_back size short = ap (big_number 4) (sym (append-nil (big_bytes 4 size))) ∙ big_number-reads_back 4 size [] (omega arith)

only_head : (n : ℕ) (after name : List ℕ) (size : ℕ) (head : IsHead name size (n ∷ after)) → OnlyHead n after name size head.behind
only_head n after name size head =
    let count : n ≡ length name = (let e = head.is in cc) in
    let tail : after ≡ name ++ (big_bytes 4 size ++ head.behind) = (let e = head.is in cc) in
    let left : drop n after ≡ big_bytes 4 size ++ head.behind = ap (drop n) tail ∙ drop_at name (big_bytes 4 size ++ head.behind) n (sym count) in
    record {
      named = sym (ap (take n) tail ∙ take_at name (big_bytes 4 size ++ head.behind) n (sym count));
      sized = sym (ap (λ (l : List ℕ). big_number 4 (take 4 l)) left ∙ ap (big_number 4) (take_at (big_bytes 4 size) head.behind 4 refl) ∙ number_back size head.short);
      left = sym (ap (drop 4) left ∙ drop_at (big_bytes 4 size) head.behind 4 refl);
    }

abbrev HasHead : List ℕ → Type 0
HasHead bytes = (name : List ℕ) × (size : ℕ) × IsHead name size bytes

abbrev put_back : ℕ → List ℕ → List ℕ
put_back n after = length (name_of n after) ∷ (name_of n after ++ (big_bytes 4 (size_of n after) ++ rest_of n after))

head_or_not : (bytes : List ℕ) → HasHead bytes ⊎ HasNoHead bytes
head_or_not [] = inr (λ name size head. let e = head.is in cc (e))
head_or_not (n ∷ after) =
    ⊎_elim
    (λ named. ⊎_elim
    (λ long. inr (λ name size head. let o = only_head n after name size head in omega (arith, long, head.short, o.sized)))
    (λ short. ⊎_elim
    (λ is. inl (name_of n after, size_of n after, record { named = named; short = omega (arith, short); behind = rest_of n after; is = is }))
    (λ other. inr (λ name size head. let o = only_head n after name size head in other (head.is ∙ same name size head o)))
    (same_or_not (n ∷ after) (put_back n after)))
    (cases_lt 1048576 (size_of n after)))
    (λ unnamed. inr (λ name size head. let o = only_head n after name size head in let e = sym (sym (ap is_name o.named) ∙ head.named) ∙ unnamed in cc (e)))
    (cases_Bool (is_name (name_of n after)))
  where
    same : (name : List ℕ) (size : ℕ) (head : IsHead name size (n ∷ after)) → OnlyHead n after name size head.behind → length name ∷ (name ++ (big_bytes 4 size ++ head.behind)) ≡ put_back n after
    same name size head o i = length (o.named i) ∷ (o.named i ++ (big_bytes 4 (o.sized i) ++ o.left i))

-- Records

pub record HasRecord (bytes : List ℕ) : Type 0 where
  pub save : Save
  pub good : IsSave save
  pub gate : ℕ
  pub behind : List ℕ
  pub is : bytes ≡ record_of save ++ gate ∷ behind

abbrev record_head : (save : Save) (behind bytes : List ℕ) → IsSave save → bytes ≡ record_of save ++ behind → IsHead save.name (length save.text) bytes
record_head save behind bytes good is = record {
  named = good.name;
  short = good.text;
  behind = save.text ++ behind;
  is = is ∙ ap (λ (l : List ℕ). length save.name ∷ l) (append_assoc save.name (big_bytes 4 (length save.text) ++ save.text) behind ∙ ap (λ (l : List ℕ). save.name ++ l) (append_assoc (big_bytes 4 (length save.text)) save.text behind));
}

some_first : (xs : List ℕ) → 0 < length xs → (x : ℕ) × (rest : List ℕ) × (xs ≡ x ∷ rest)
some_first [] some = absurd (omega arith)
some_first (x ∷ xs) some = (x, xs, refl)

record_of_head : (name : List ℕ) (size : ℕ) (bytes : List ℕ) (head : IsHead name size bytes) → size < length head.behind → HasRecord bytes
record_of_head name size bytes head long =
    let text = take size head.behind in
    let sized : length text ≡ size = length-take-le size head.behind (omega arith) in
    let next = some_first (drop size head.behind) (omega (arith, length-drop size head.behind)) in
    let split : head.behind ≡ text ++ next.0 ∷ next.1 = sym (take-append-drop size head.behind) ∙ ap (λ (l : List ℕ). text ++ l) next.2 in
    record {
      save = record { name = name; text = text };
      good = record { name = head.named; text = omega (arith, head.short, sized) };
      gate = next.0;
      behind = next.1;
      is = head.is ∙ (λ i. length name ∷ (name ++ (big_bytes 4 (sym sized i) ++ split i)))
          ∙ ap (λ (l : List ℕ). length name ∷ l) (ap (λ (l : List ℕ). name ++ l) (sym (append_assoc (big_bytes 4 (length text)) text (next.0 ∷ next.1))) ∙ sym (append_assoc name (big_bytes 4 (length text) ++ text) (next.0 ∷ next.1)));
    }

record_or_not : (bytes : List ℕ) → HasRecord bytes ⊎ HasNoRecord bytes
record_or_not [] = inr (λ save gate behind good is. cc (is))
record_or_not (n ∷ after) =
    ⊎_elim
    (λ head. ⊎_elim
    (λ long. inl (record_of_head head.0 head.1 (n ∷ after) head.2 long))
    (λ few. inr (λ save gate behind good is.
    let a = only_head n after head.0 head.1 head.2 in
    let b = only_head n after save.name (length save.text) (record_head save (gate ∷ behind) (n ∷ after) good is) in
    omega (arith, few, ap length (a.left ∙ sym b.left), a.sized ∙ sym b.sized, length-append save.text (gate ∷ behind))))
    (cases_lt head.1 (length head.2.behind)))
    (λ none. inr (λ save gate behind good is. none save.name (length save.text) (record_head save (gate ∷ behind) (n ∷ after) good is)))
    (head_or_not (n ∷ after))

-- All records

-- the first records, and what follows the last of them
pub record Ends (tail : List ℕ) : Type 0 where
  pub saves : List Save
  pub good : AllByRecursion IsSave saves
  pub gate : ℕ
  pub behind : List ℕ
  pub is : tail ≡ records saves ++ gate ∷ behind
  pub end : (gate ≢ 1) ⊎ ((gate ≡ 1) × HasNoRecord behind)

ends_of : (most : ℕ) (tail : List ℕ) → length tail ≤ most → 0 < length tail → Ends tail
ends_of most [] fits some = absurd (omega arith)
ends_of zero (x ∷ rest) fits some = absurd (omega arith)
ends_of (suc most) (x ∷ rest) fits some =
    ⊎_elim
    (λ is_open. ⊎_elim
    (λ has.
    let later = ends_of most (has.gate ∷ has.behind) (omega (arith, fits, ap length has.is, length-append (record_of has.save) (has.gate ∷ has.behind))) (omega arith) in
    record {
      saves = has.save ∷ later.saves;
      good = (has.good, later.good);
      gate = later.gate;
      behind = later.behind;
      is = (λ i. is_open i ∷ has.is i) ∙ ap (λ (l : List ℕ). (1 ∷ record_of has.save) ++ l) later.is ∙ sym (append_assoc (1 ∷ record_of has.save) (records later.saves) (later.gate ∷ later.behind));
      end = later.end;
    })
    (λ none. record { saves = []; good = tt; gate = x; behind = rest; is = refl; end = inr (is_open, none) })
    (record_or_not rest))
    (λ shut. record { saves = []; good = tt; gate = x; behind = rest; is = refl; end = inl shut })
    (cases_eq x 1)

abbrev pub HasStart : List ℕ → Type 0
HasStart bytes = (refusal : Option Reply) × (saves : List Save) × IsFirst bytes refusal saves

pub start_of : (bytes : List ℕ) → HasStart bytes
start_of bytes =
    ⊎_elim
    (λ short. (Some R.NotAStore, [], (inl short, refl)))
    (λ long. ⊎_elim
    (λ has.
    let all : bytes ≡ header ++ drop 8 bytes = sym (take-append-drop 8 bytes) ∙ ap (λ (l : List ℕ). l ++ drop 8 bytes) has in
    let e = ends_of (length (drop 8 bytes)) (drop 8 bytes) (omega arith) (omega (arith, length-drop 8 bytes)) in
    let whole : bytes ≡ header ++ (records e.saves ++ e.gate ∷ e.behind) = all ∙ ap (λ (l : List ℕ). header ++ l) e.is in
    ⊎_elim
    (λ shut. (None, e.saves, record { good = e.good; gate = e.gate; shut = shut; behind = e.behind; is = whole }))
    (λ broken. (
      Some (R.Damaged (gate_behind e.saves)),
      [],
      (record { saves = e.saves; good = e.good; gate = refl; behind = e.behind; is = whole ∙ ap (λ (g : ℕ). header ++ (records e.saves ++ g ∷ e.behind)) broken.0; none = broken.1 }, refl),
    ))
    e.end)
    (λ other. (Some R.NotAStore, [], (inr other, refl)))
    (same_or_not (take 8 bytes) header))
    (cases_lt (length bytes) 9)
