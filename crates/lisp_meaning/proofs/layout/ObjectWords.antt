-- The words of an object at an address, and the words of one that is laid out.
use Rattle.std.proofs.Common.{◌≡◌, ℕ, zero, suc, ◌+◌, ◌^◌, ◌<◌, ◌≤◌, ◌⊎◌, inl, inr, ◌==◌, refl, sym, ◌∙◌, ap, subst, arith, Option, Some, None, length}
use Rattle.std.proofs.lemmas.Option.{slice_get_within}
use Rattle.lisp_graph.specs.declared.object.Body.{Body}
use Rattle.lisp_graph.specs.declared.object.Body.TheVariants.{Cons, Block}
use Rattle.lisp_graph.specs.declared.object.Value.{Value}
use Rattle.lisp_meaning.specs.reading.Classes.{Class, region_of}
use Rattle.lisp_meaning.specs.invariants.Fits.{Holds, CellCdr, PairCode, IsPairHead, IsPairTail, IsCell, IsHead, IsField, Fits, Roled}
use Rattle.lisp_meaning.specs.invariants.Laid.{Shape, ACell, APair, ABlock, size, kind_in, role_in, laid}
use Rattle.lisp_meaning.specs.invariants.Roles.{Kind, AsCons, AsBlock, Role, Blank, Scratch, Waste, HuskWord, PairHead, PairTail, Cell, Head, Field, Moved, Relaid, names_as, owner, RoleMap, car_of, cdr_of, field_of, header_of, Begins}
use Rattle.lisp_meaning.specs.machine.State.{Store, object, in_use}
use Rattle.lisp_graph.specs.store_word.Words.{Parts}
use Rattle.lisp_graph.specs.store_word.declared.word.CdrCode.TheVariants.{Next as CdrNext, Normal as CdrNormal}
use Rattle.lisp_graph.specs.store_word.declared.word.Content.TheVariants.{Header}
use Rattle.lisp_meaning.proofs.maps.Puts.{put_at-same}
use Rattle.lisp_meaning.proofs.maps.Frames.{Frame, holds, cell_cdr}
use Rattle.lisp_meaning.proofs.layout.Layout.{role_new}

pub positive : (t : Shape) → 0 < size t
positive (ACell i) = omega arith
positive APair = omega arith
positive (ABlock i) = omega arith

pub owner_in : (t : Shape) (n j : ℕ) → owner (role_in t n j) ≡ Some n
owner_in (ACell i) n j = refl
owner_in APair n zero = refl
owner_in APair n (suc j) = refl
owner_in (ABlock count) n zero = refl
owner_in (ABlock count) n (suc j) = refl

pub names_in : (t : Shape) (n : ℕ) → names_as (kind_in t) (role_in t n 0) ≡ Some n
names_in (ACell i) n = refl
names_in APair n = refl
names_in (ABlock count) n = refl

pub begins_in : (t : Shape) (n : ℕ) → Begins (kind_in t) (role_in t n 0) n
begins_in (ACell i) n = inr (i, refl)
begins_in APair n = inl refl
begins_in (ABlock count) n = refl

-- the kind of an object is that of the word at which it begins
pub kind_begun : (kind : Kind) (t : Shape) (n : ℕ) → Begins kind (role_in t n 0) n → kind ≡ kind_in t
kind_begun AsCons (ACell i) n b = refl
kind_begun AsCons APair n b = refl
kind_begun AsCons (ABlock count) n (inl e) = cc
kind_begun AsCons (ABlock count) n (inr e) = let x = e.1 in cc
kind_begun AsBlock (ACell i) n b = cc
kind_begun AsBlock APair n b = cc
kind_begun AsBlock (ABlock count) n b = refl

-- an object's words, all of them in one region
pub record Standing (k : RoleMap) (n a : ℕ) (shape : Shape) : Type 0 where
  pub place : k.at n ≡ a
  pub only : (j : ℕ) → j < size shape → k.role (a + j) ≡ role_in shape n j
  pub all : (c : ℕ) → owner (k.role c) ≡ Some n → (a ≤ c) × (c < a + size shape)
  pub region : (j : ℕ) → j < size shape → region_of (a + j) ≡ region_of a

size_from : Option (ℕ × ℕ) → ℕ
size_from None = 0
size_from (Some p) = p.1

-- the number of a field is below the header's
pub field_within : (body : Body) (i kind count : ℕ) (v : Value) → header_of body ≡ Some (kind, count) → field_of body i ≡ Some v → i < count
unfolding size_from
field_within (Cons x y) i kind count v h e = cc
field_within (Block code fields) i kind count v h e = let z : length fields ≡ count = ap size_from h in let w = slice_get_within fields i v e in omega arith

module _ (W : ℕ → Parts) (regions : ℕ → Class) (k : RoleMap) (s : Store) (R : Roled W regions k s) (n a : ℕ) where
  fits_as : (c : ℕ) (r : Role) → k.role c ≡ r → Fits regions k s c (W c) r
  fits_as c r e = let P : Role → Type 0 = λ x. Fits regions k s c (W c) x in subst P e (R.fits c)

  pub cell_fits : (i : ℕ) → k.role a ≡ Cell n i → IsCell k s a (W a) n i
  cell_fits i e = fits_as a (Cell n i) e

  pub head_fits : k.role a ≡ PairHead n → IsPairHead k s a (W a) n
  head_fits e = fits_as a (PairHead n) e

  pub tail_fits : k.role a ≡ PairHead n → IsPairTail k s (suc a) (W (suc a)) n
  tail_fits e = fits_as (suc a) (PairTail n) (head_fits e).tail

  pub block_fits : k.role a ≡ Head n → IsHead k s a (W a) n
  block_fits e = fits_as a (Head n) e

  pub field_fits : (e : k.role a ≡ Head n) (i : ℕ) → i < (block_fits e).size → IsField k s (suc a + i) (W (suc a + i)) n i
  field_fits e i l = fits_as (suc a + i) (Field n i) ((block_fits e).fields i l)

  -- a word that is part of n, by its role
  pub part_at : (c : ℕ) (r : Role) → Fits regions k s c (W c) r → owner r ≡ Some n
      → (k.at n ≡ c) ⊎ ((suc (k.at n) ≡ c) × (k.role (k.at n) ≡ PairHead n)) ⊎ ((i : ℕ) × (suc (k.at n) + i ≡ c) × (k.role (k.at n) ≡ Head n) × ((v : Value) × (field_of (object s n).body i ≡ Some v)))
  part_at c (PairHead m) f o = inl (let z : n ≡ m = cc in ap k.at z ∙ f.place)
  part_at c (Cell m i) f o = inl (let z : n ≡ m = cc in ap k.at z ∙ f.place)
  part_at c (Head m) f o = inl (let z : n ≡ m = cc in ap k.at z ∙ f.place)
  part_at c (PairTail m) f o = inr (inl (let z : n ≡ m = cc in (ap (λ (i : ℕ). suc (k.at i)) z ∙ f.place, ap (λ (i : ℕ). k.role (k.at i)) z ∙ f.head ∙ ap PairHead (sym z))))
  part_at c (Field m i) f o = inr (inr (let z : n ≡ m = cc in (
    i,
    ap (λ (j : ℕ). suc (k.at j) + i) z ∙ f.place,
    ap (λ (j : ℕ). k.role (k.at j)) z ∙ f.head ∙ ap Head (sym z),
    (f.value.0, ap (λ (j : ℕ). field_of (object s j).body i) z ∙ f.value.1),
  )))
  part_at c Blank f o = cc
  part_at c Scratch f o = cc
  part_at c Waste f o = cc
  part_at c (HuskWord m) f o = cc
  part_at c (Moved kind m) f o = cc
  part_at c (Relaid kind m) f o = cc

  pub stands_cell : (i : ℕ) → k.role a ≡ Cell n i → Standing k n a (ACell i)
  stands_cell i e = record {
    place = (cell_fits i e).place;
    only = λ j l. ap k.role (let z : a + j ≡ a = omega arith in z) ∙ e;
    all = λ c o. go c (part_at c (k.role c) (R.fits c) o);
    region = λ j l. ap region_of (let z : a + j ≡ a = omega arith in z);
  }
    where
      go : (c : ℕ) → (k.at n ≡ c) ⊎ ((suc (k.at n) ≡ c) × (k.role (k.at n) ≡ PairHead n)) ⊎ ((i : ℕ) × (suc (k.at n) + i ≡ c) × (k.role (k.at n) ≡ Head n) × ((v : Value) × (field_of (object s n).body i ≡ Some v)))
          → (a ≤ c) × (c < a + 1)
      go c (inl x) = let y = (cell_fits i e).place in (omega arith, omega arith)
      go c (inr (inl x)) = let y = ap k.role (cell_fits i e).place in let z = x.1 in cc
      go c (inr (inr x)) = let y = ap k.role (cell_fits i e).place in let z = x.2 in cc

  pub stands_pair : k.role a ≡ PairHead n → Standing k n a APair
  stands_pair e = record {
    place = (head_fits e).place;
    only = λ j l. only j l;
    all = λ c o. go c (part_at c (k.role c) (R.fits c) o);
    region = λ j l. region j l;
  }
    where
      only : (j : ℕ) → j < 2 → k.role (a + j) ≡ role_in APair n j
      only zero l = ap k.role (let z : a + 0 ≡ a = omega arith in z) ∙ e
      only (suc zero) l = ap k.role (let z : a + 1 ≡ suc a = omega arith in z) ∙ (head_fits e).tail
      only (suc (suc j)) l = absurd (omega arith)

      region : (j : ℕ) → j < 2 → region_of (a + j) ≡ region_of a
      region zero l = ap region_of (let z : a + 0 ≡ a = omega arith in z)
      region (suc zero) l = ap region_of (let z : a + 1 ≡ suc a = omega arith in z) ∙ (tail_fits e).region ∙ ap region_of (head_fits e).place
      region (suc (suc j)) l = absurd (omega arith)

      go : (c : ℕ) → (k.at n ≡ c) ⊎ ((suc (k.at n) ≡ c) × (k.role (k.at n) ≡ PairHead n)) ⊎ ((i : ℕ) × (suc (k.at n) + i ≡ c) × (k.role (k.at n) ≡ Head n) × ((v : Value) × (field_of (object s n).body i ≡ Some v)))
          → (a ≤ c) × (c < a + 2)
      go c (inl x) = let y = (head_fits e).place in (omega arith, omega arith)
      go c (inr (inl x)) = let y = (head_fits e).place in let z = x.0 in (omega arith, omega arith)
      go c (inr (inr x)) = let y = ap k.role (head_fits e).place in let z = x.2 in cc

  pub stands_block : (e : k.role a ≡ Head n) → Standing k n a (ABlock (block_fits e).size)
  stands_block e = record {
    place = (block_fits e).place;
    only = λ j l. only j l;
    all = λ c o. go c (part_at c (k.role c) (R.fits c) o);
    region = λ j l. region j l;
  }
    where
      only : (j : ℕ) → j < suc (block_fits e).size → k.role (a + j) ≡ role_in (ABlock (block_fits e).size) n j
      only zero l = ap k.role (let z : a + 0 ≡ a = omega arith in z) ∙ e
      only (suc j) l = ap k.role (let z : a + suc j ≡ suc a + j = omega arith in z) ∙ (block_fits e).fields j (omega arith)

      region : (j : ℕ) → j < suc (block_fits e).size → region_of (a + j) ≡ region_of a
      region zero l = ap region_of (let z : a + 0 ≡ a = omega arith in z)
      region (suc j) l = ap region_of (let z : a + suc j ≡ suc a + j = omega arith in z) ∙ (field_fits e j (omega arith)).region ∙ ap region_of (block_fits e).place

      go : (c : ℕ) → (k.at n ≡ c) ⊎ ((suc (k.at n) ≡ c) × (k.role (k.at n) ≡ PairHead n)) ⊎ ((i : ℕ) × (suc (k.at n) + i ≡ c) × (k.role (k.at n) ≡ Head n) × ((v : Value) × (field_of (object s n).body i ≡ Some v)))
          → (a ≤ c) × (c < a + suc (block_fits e).size)
      go c (inl x) = let y = (block_fits e).place in (omega arith, omega arith)
      go c (inr (inl x)) = let y = ap k.role (block_fits e).place in let z = x.1 in cc
      go c (inr (inr x)) =
          let y = (block_fits e).place in
          let l = field_within (object s n).body x.0 (block_fits e).kind (block_fits e).size x.3.0 (block_fits e).header x.3.1 in
          let z = x.1 in (omega arith, omega arith)

-- the words at b once n is laid there
module _ (W' : ℕ → Parts) (regions : ℕ → Class) (k : RoleMap) (s s' : Store) (n a gone b : ℕ) (first rest : Role) (age : ℕ)
    (only : (j : ℕ) → j < gone → owner (k.role (a + j)) ≡ Some n) (used : in_use s' n) where
  pub new_cell : (i : ℕ) → ((j : ℕ) → j < 1 → k.role (b + j) ≡ Scratch) → age ≡ 0 → i < 1024 → (object s' n).charge ≡ 3
      → Holds k.role (W' b).content (car_of (object s' n).body) → CellCdr k.role b i (cdr_of (object s' n).body) (W' b).cdr
      → Frame k (laid k n a gone b (ACell i) first rest age) s s' (λ m. m == n)
      → (j : ℕ) → j < 1 → Fits regions (laid k n a gone b (ACell i) first rest age) s' (b + j) (W' (b + j)) (role_in (ACell i) n j)
  new_cell i scratch young few charge car cdr f j l =
      let P : ℕ → Type 0 = λ c. IsCell (laid k n a gone b (ACell i) first rest age) s' c (W' c) n i in
      subst P (let z : b ≡ b + j = omega arith in z) (record {
        used = used;
        place = put_at-same k.at n b n refl;
        charge = charge;
        few = few;
        age = put_at-same k.age b age b refl ∙ young;
        car = holds regions k (laid k n a gone b (ACell i) first rest age) s s' (λ m. m == n) f (W' b).content _ _ refl car;
        cdr = cell_cdr regions k (laid k n a gone b (ACell i) first rest age) s s' (λ m. m == n) f b i _ _ (W' b).cdr refl cdr;
      })

  pub new_pair : ((j : ℕ) → j < 2 → k.role (b + j) ≡ Scratch) → age ≤ 1 → region_of (suc b) ≡ region_of b
      → (W' b).cdr ≡ CdrNormal → PairCode (object s' n).charge (W' (suc b)).cdr
      → Holds k.role (W' b).content (car_of (object s' n).body) → Holds k.role (W' (suc b)).content (cdr_of (object s' n).body)
      → Frame k (laid k n a gone b APair first rest age) s s' (λ m. m == n)
      → (j : ℕ) → j < 2 → Fits regions (laid k n a gone b APair first rest age) s' (b + j) (W' (b + j)) (role_in APair n j)
  new_pair scratch young near code code2 car cdr f = go
    where
      at_b : (laid k n a gone b APair first rest age).at n ≡ b
      at_b = put_at-same k.at n b n refl

      go : (j : ℕ) → j < 2 → Fits regions (laid k n a gone b APair first rest age) s' (b + j) (W' (b + j)) (role_in APair n j)
      go zero l =
          let P : ℕ → Type 0 = λ c. IsPairHead (laid k n a gone b APair first rest age) s' c (W' c) n in
          subst P (let z : b ≡ b + 0 = omega arith in z) (record {
            used = used;
            place = at_b;
            code = code;
            tail = ap (laid k n a gone b APair first rest age).role (let z : suc b ≡ b + 1 = omega arith in z) ∙ role_new k n a gone b APair first rest age only scratch 1 (omega arith);
            age = (let x = put_at-same k.age b age b refl in omega arith);
            car = holds regions k (laid k n a gone b APair first rest age) s s' (λ m. m == n) f (W' b).content _ _ refl car;
          })
      go (suc zero) l =
          let P : ℕ → Type 0 = λ c. IsPairTail (laid k n a gone b APair first rest age) s' c (W' c) n in
          subst P (let z : suc b ≡ b + 1 = omega arith in z) (record {
            used = used;
            place = ap suc at_b;
            head = ap (laid k n a gone b APair first rest age).role (at_b ∙ (let z : b ≡ b + 0 = omega arith in z)) ∙ role_new k n a gone b APair first rest age only scratch 0 (omega arith);
            region = near ∙ ap region_of (sym at_b);
            code = code2;
            cdr = holds regions k (laid k n a gone b APair first rest age) s s' (λ m. m == n) f (W' (suc b)).content _ _ refl cdr;
          })
      go (suc (suc j)) l = absurd (omega arith)

  pub new_block : (kind count : ℕ) → ((j : ℕ) → j < suc count → k.role (b + j) ≡ Scratch) → 2 ^ age ≤ suc count → ((j : ℕ) → j < suc count → region_of (b + j) ≡ region_of b)
      → (W' b).cdr ≡ CdrNext → (W' b).content ≡ Header kind count → header_of (object s' n).body ≡ Some (kind, count) → (object s' n).charge ≡ suc count
      → ((i : ℕ) → i < count → Holds k.role (W' (suc b + i)).content (field_of (object s' n).body i))
      → Frame k (laid k n a gone b (ABlock count) first rest age) s s' (λ m. m == n)
      → (j : ℕ) → j < suc count → Fits regions (laid k n a gone b (ABlock count) first rest age) s' (b + j) (W' (b + j)) (role_in (ABlock count) n j)
  new_block kind count scratch young near code content header charge values f = go
    where
      at_b : (laid k n a gone b (ABlock count) first rest age).at n ≡ b
      at_b = put_at-same k.at n b n refl

      go : (j : ℕ) → j < suc count → Fits regions (laid k n a gone b (ABlock count) first rest age) s' (b + j) (W' (b + j)) (role_in (ABlock count) n j)
      go zero l =
          let P : ℕ → Type 0 = λ c. IsHead (laid k n a gone b (ABlock count) first rest age) s' c (W' c) n in
          let Q : ℕ → Type 0 = λ i. 2 ^ i ≤ suc count in
          subst P (let z : b ≡ b + 0 = omega arith in z) (record {
            used = used;
            place = at_b;
            code = code;
            kind = kind;
            size = count;
            content = content;
            header = header;
            charge = charge;
            age = subst Q (sym (put_at-same k.age b age b refl)) young;
            fields = λ i q. ap (laid k n a gone b (ABlock count) first rest age).role (let z : suc b + i ≡ b + suc i = omega arith in z)
                ∙ role_new k n a gone b (ABlock count) first rest age only scratch (suc i) (omega arith);
          })
      go (suc i) l =
          let P : ℕ → Type 0 = λ c. IsField (laid k n a gone b (ABlock count) first rest age) s' c (W' c) n i in
          subst P (let z : suc b + i ≡ b + suc i = omega arith in z) (record {
            used = used;
            place = ap (λ (x : ℕ). suc x + i) at_b;
            head = ap (laid k n a gone b (ABlock count) first rest age).role (at_b ∙ (let z : b ≡ b + 0 = omega arith in z)) ∙ role_new k n a gone b (ABlock count) first rest age only scratch 0 (omega arith);
            region = ap region_of (let z : suc b + i ≡ b + suc i = omega arith in z) ∙ near (suc i) l ∙ ap region_of (sym at_b);
            value = holds regions k (laid k n a gone b (ABlock count) first rest age) s s' (λ m. m == n) f (W' (suc b + i)).content _ _ refl (values i (omega arith));
          })
