-- An index of extents, and the directory of the texts that they contain.
use Rattle.std.proofs.Common.{◌≡◌, ℕ, ◌+◌, ◌≤◌, cond, Bool, true, false, List, [], ◌∷◌, ◌++◌, length, take, drop, map, fold, slice_get, get_or, zero, suc, ◌<◌, Option, Some, None, refl, sym, ◌∙◌, ap, subst, arith, append_assoc, length-append}
use Rattle.std.specs.declared.cmp.Ordering.{Ordering}
use Rattle.std.specs.declared.cmp.Ordering.TheVariants.{Less, Equal, Greater}
use Rattle.std.specs.Ordering.{is_eq}
use Rattle.std.specs.FinMap.Entries.{by_order}
use Rattle.std.proofs.lemmas.List.{take_at, drop_at}
use Rattle.byteorder.specs.Endian.{big_bytes}
use Rattle.band_store.specs.declared.directory.Extent.{Extent}
use Rattle.band_store.specs.Directory.{directory, index, listing, name_order, named, placed, put_name, sizes}
use Rattle.band_store.specs.Format.{Holds, Save, first_gate, header, record_of, record_size, records}
use Rattle.band_store.specs.Store.{IsOpenOn, Store}
use Rattle.band_store.proofs.RecordBytes.{length-big_bytes, length-record_of}

abbrev pub Extents : Type 0
Extents = List (List ℕ × Extent)

abbrev pub NamedTexts : Type 0
NamedTexts = List (List ℕ × List ℕ)

-- the text lies at the extent
pub record Stands (bytes : List ℕ) (extent : Extent) (text : List ℕ) : Type 0 where
  pub size : extent.size ≡ length text
  pub here : take extent.size (drop extent.at bytes) ≡ text
  pub within : extent.at + extent.size ≤ length bytes

-- the same names, each with an extent at which its text lies
abbrev pub Alike : List ℕ → Extents → NamedTexts → Type 0
Alike bytes [] [] = Unit {0}
Alike bytes [] (text ∷ texts) = ⊥
Alike bytes (extent ∷ extents) [] = ⊥
Alike bytes (extent ∷ extents) (text ∷ texts) = (extent.0 ≡ text.0) × Stands bytes extent.1 text.1 × Alike bytes extents texts

-- a record before its text, including its gate
abbrev pub head_of : Save → List ℕ
head_of save = 1 ∷ length save.name ∷ (save.name ++ big_bytes 4 (length save.text))

pub split_record : (save : Save) → 1 ∷ record_of save ≡ head_of save ++ save.text
split_record save = ap (λ (l : List ℕ). 1 ∷ length save.name ∷ l) (sym (append_assoc save.name (big_bytes 4 (length save.text)) save.text))

pub length-head_of : (save : Save) → length (head_of save) ≡ 6 + length save.name
length-head_of save = omega (arith, length-append save.name (big_bytes 4 (length save.text)), length-big_bytes (length save.text))

module _ (bytes : List ℕ) where
  put_by : (o : Ordering) (name : List ℕ) (extent : Extent) (text : List ℕ) (e : List ℕ × Extent) (t : List ℕ × List ℕ) (es es' : Extents) (ts ts' : NamedTexts) → Stands bytes extent text → e.0 ≡ t.0 → Stands bytes e.1 t.1 → Alike bytes es ts → Alike bytes es' ts'
      → Alike bytes (by_order o ((name, extent) ∷ e ∷ es) ((e.0, extent) ∷ es) (e ∷ es')) (by_order o ((name, text) ∷ t ∷ ts) ((t.0, text) ∷ ts) (t ∷ ts'))
  put_by Less name extent text e t es es' ts ts' stands same first rest put = (refl, stands, (same, first, rest))
  put_by Equal name extent text e t es es' ts ts' stands same first rest put = (same, stands, rest)
  put_by Greater name extent text e t es es' ts ts' stands same first rest put = (same, first, put)

  -- putting a name and its text in both keeps them alike
  put_alike : (name : List ℕ) (extent : Extent) (text : List ℕ) (es : Extents) (ts : NamedTexts) → Stands bytes extent text → Alike bytes es ts → Alike bytes (put_name name extent es) (put_name name text ts)
  put_alike name extent text [] [] stands alike = (refl, stands, tt)
  put_alike name extent text [] (t ∷ ts) stands alike = absurd alike
  put_alike name extent text (e ∷ es) [] stands alike = absurd alike
  put_alike name extent text (e ∷ es) (t ∷ ts) stands alike =
      subst (λ (o : Ordering). Alike bytes (by_order (name_order name e.0) ((name, extent) ∷ e ∷ es) ((e.0, extent) ∷ es) (e ∷ put_name name extent es)) (by_order o ((name, text) ∷ t ∷ ts) ((t.0, text) ∷ ts) (t ∷ put_name name text ts)))
      (ap (name_order name) alike.0)
      (put_by (name_order name e.0) name extent text e t es (put_name name extent es) ts (put_name name text ts) stands alike.0 alike.1 alike.2 (put_alike name extent text es ts stands alike.2))

  last_alike : (es all : Extents) (ts texts : NamedTexts) → Alike bytes es ts → Alike bytes all texts
      → Alike bytes (fold (λ bands (entry : List ℕ × Extent). put_name entry.0 entry.1 bands) all es) (fold (λ bands (entry : List ℕ × List ℕ). put_name entry.0 entry.1 bands) texts ts)
  last_alike [] all [] texts alike so_far = so_far
  last_alike [] all (t ∷ ts) texts alike so_far = absurd alike
  last_alike (e ∷ es) all [] texts alike so_far = absurd alike
  last_alike (e ∷ es) all (t ∷ ts) texts alike so_far =
      last_alike es (put_name e.0 e.1 all) ts (put_name t.0 t.1 texts) alike.2
      (subst (λ (name : List ℕ). Alike bytes (put_name e.0 e.1 all) (put_name name t.1 texts)) alike.0 (put_alike e.0 e.1 t.1 all texts alike.1 so_far))

  -- the text of each save lies at its extent
  placed_alike : (saves : List Save) (gate : ℕ) (front tail : List ℕ) → length front ≡ gate → bytes ≡ front ++ (records saves ++ tail) → Alike bytes (placed gate saves) (map (λ (save : Save). (save.name, save.text)) saves)
  placed_alike [] gate front tail long is = tt
  placed_alike (save ∷ saves) gate front tail long is = (
    refl,
    record {
      size = refl;
      here = ap (take (length save.text)) behind ∙ take_at save.text (records saves ++ tail) (length save.text) refl;
      within = omega (arith, ap length to_text, length-append (front ++ head_of save) (save.text ++ (records saves ++ tail)), length-append save.text (records saves ++ tail), head_long);
    },
    placed_alike saves (gate + record_size save) (front ++ 1 ∷ record_of save) tail (omega (arith, length-append front (1 ∷ record_of save), length-record_of save)) to_next,
  )
    where
      to_next : bytes ≡ (front ++ 1 ∷ record_of save) ++ (records saves ++ tail)
      to_next = is ∙ ap (λ (l : List ℕ). front ++ l) (append_assoc (1 ∷ record_of save) (records saves) tail) ∙ sym (append_assoc front (1 ∷ record_of save) (records saves ++ tail))

      to_text : bytes ≡ (front ++ head_of save) ++ (save.text ++ (records saves ++ tail))
      to_text = to_next ∙ ap (λ (l : List ℕ). (front ++ l) ++ (records saves ++ tail)) (split_record save) ∙ ap (λ (l : List ℕ). l ++ (records saves ++ tail)) (sym (append_assoc front (head_of save) save.text))
          ∙ append_assoc (front ++ head_of save) save.text (records saves ++ tail)

      head_long : length (front ++ head_of save) ≡ gate + 6 + length save.name
      head_long = omega (arith, length-append front (head_of save), length-head_of save)

      behind : drop (gate + 6 + length save.name) bytes ≡ save.text ++ (records saves ++ tail)
      behind = ap (drop (gate + 6 + length save.name)) to_text ∙ drop_at (front ++ head_of save) (save.text ++ (records saves ++ tail)) (gate + 6 + length save.name) head_long

-- the index and the directory of the saves that the bytes contain
pub texts_stand : (saves : List Save) (bytes : List ℕ) → Holds saves bytes → Alike bytes (index saves) (directory saves)
texts_stand saves bytes holds =
    last_alike bytes (placed first_gate saves) [] (map (λ (save : Save). (save.name, save.text)) saves) [] (placed_alike bytes saves first_gate header (holds.gate ∷ holds.behind) refl holds.is) tt

-- What follows for a name, and for all names

find_by : (bytes : List ℕ) (tied : Bool) (e : Extent) (t : List ℕ) (found : Option Extent) (text : Option (List ℕ)) (extent : Extent) → Stands bytes e t
    → (found ≡ Some extent → (w : List ℕ) × (text ≡ Some w) × Stands bytes extent w) → cond tied (Some e) found ≡ Some extent → (w : List ℕ) × (cond tied (Some t) text ≡ Some w) × Stands bytes extent w
find_by bytes true e t found text extent stands rest is = let same : e ≡ extent = cc in (t, refl, subst (λ (x : Extent). Stands bytes x t) same stands)
find_by bytes false e t found text extent stands rest is = rest is

-- the text of a name lies at the name's extent
pub found_text : (bytes : List ℕ) (name : List ℕ) (es : Extents) (ts : NamedTexts) (extent : Extent) → Alike bytes es ts → named name es ≡ Some extent → (text : List ℕ) × (named name ts ≡ Some text) × Stands bytes extent text
found_text bytes name [] [] extent alike is = absurd cc
found_text bytes name [] (t ∷ ts) extent alike is = absurd alike
found_text bytes name (e ∷ es) [] extent alike is = absurd alike
found_text bytes name (e ∷ es) (t ∷ ts) extent alike is =
    let found = find_by bytes (is_eq (name_order name e.0)) e.1 t.1 (named name es) (named name ts) extent alike.1 (found_text bytes name es ts extent alike.2) is in
    (found.0, ap (λ (n : List ℕ). cond (is_eq (name_order name n)) (Some t.1) (named name ts)) (sym alike.0) ∙ found.1, found.2)

none_by : (tied : Bool) (e : Extent) (t : List ℕ) (found : Option Extent) (text : Option (List ℕ)) → (found ≡ None → text ≡ None) → cond tied (Some e) found ≡ None → cond tied (Some t) text ≡ None
none_by true e t found text rest is = absurd cc
none_by false e t found text rest is = rest is

pub no_text : (bytes : List ℕ) (name : List ℕ) (es : Extents) (ts : NamedTexts) → Alike bytes es ts → named name es ≡ None → named name ts ≡ None
no_text bytes name [] [] alike is = refl
no_text bytes name [] (t ∷ ts) alike is = absurd alike
no_text bytes name (e ∷ es) [] alike is = absurd alike
no_text bytes name (e ∷ es) (t ∷ ts) alike is =
    ap (λ (n : List ℕ). cond (is_eq (name_order name n)) (Some t.1) (named name ts)) (sym alike.0) ∙ none_by (is_eq (name_order name e.0)) e.1 t.1 (named name es) (named name ts) (no_text bytes name es ts alike.2) is

pub same_length : (bytes : List ℕ) (es : Extents) (ts : NamedTexts) → Alike bytes es ts → length es ≡ length ts
same_length bytes [] [] alike = refl
same_length bytes [] (t ∷ ts) alike = absurd alike
same_length bytes (e ∷ es) [] alike = absurd alike
same_length bytes (e ∷ es) (t ∷ ts) alike = omega (arith, same_length bytes es ts alike.2)

-- the names and the lengths of the texts
pub same_listing : (bytes : List ℕ) (es : Extents) (ts : NamedTexts) → Alike bytes es ts → sizes es ≡ listing ts
same_listing bytes [] [] alike = refl
same_listing bytes [] (t ∷ ts) alike = absurd alike
same_listing bytes (e ∷ es) [] alike = absurd alike
same_listing bytes (e ∷ es) (t ∷ ts) alike = λ i. (alike.0 i, alike.1.size i) ∷ same_listing bytes es ts alike.2 i

-- the name and the size at a position
pub size_here : (es : Extents) (i : ℕ) (d : List ℕ × Extent) → i < length es → slice_get (sizes es) i ≡ Some ((get_or es i d).0, (get_or es i d).1.size)
size_here [] i d within = absurd (omega arith)
size_here (e ∷ es) zero d within = refl
size_here (e ∷ es) (suc i) d within = size_here es i d (omega arith)

pub size_past : (es : Extents) (i : ℕ) → length es ≤ i → slice_get (sizes es) i ≡ None
size_past [] i past = refl
size_past (e ∷ es) zero past = absurd (omega arith)
size_past (e ∷ es) (suc i) past = size_past es i (omega arith)

-- what an open store finds under a name
pub open_text : (store : Store) (bytes : List ℕ) (saves : List Save) (name : List ℕ) (extent : Extent) → IsOpenOn store bytes saves → named name store.bands ≡ Some extent
    → (named name (directory saves) ≡ Some (take extent.size (drop extent.at bytes))) × (extent.at + extent.size ≤ length bytes)
open_text store bytes saves name extent is found =
    let text = found_text bytes name (index saves) (directory saves) extent (texts_stand saves bytes is.holds) (ap (named name) (sym is.names) ∙ found) in
    (text.1 ∙ ap Some (sym text.2.here), text.2.within)

pub open_none : (store : Store) (bytes : List ℕ) (saves : List Save) (name : List ℕ) → IsOpenOn store bytes saves → named name store.bands ≡ None → named name (directory saves) ≡ None
open_none store bytes saves name is none = no_text bytes name (index saves) (directory saves) (texts_stand saves bytes is.holds) (ap (named name) (sym is.names) ∙ none)
