-- What is at the address to which a reference to a block leads.
use Rattle.std.proofs.Common.{◌≡◌, ℕ, suc, ◌+◌, ◌<◌, ◌≤◌, arith, refl, sym, ◌∙◌, ap, subst, length, Option, Some, None}
use Rattle.store_word.specs.Words.{header_of as parts_of}
use Rattle.store_word.specs.declared.word.Content.{Content}
use Rattle.store_word.specs.declared.word.Content.TheVariants.{Null, Nil, List as ListAt, Struct as StructAt, Header, HeaderForward, GcForward, Fixnum}
use Rattle.area_space.specs.lisp_graph.declared.object.Value.{Value}
use Rattle.area_space.specs.lisp_graph.declared.object.Value.TheVariants as V
use Rattle.mem_port.specs.Store as Memory
use Rattle.area_space.specs.Table.{Table}
use Rattle.obj_layout.specs.Forwards.{word_at, Final}
use Rattle.obj_layout.specs.Shapes.{IsWhole, shape_from, word_count}
use Rattle.transporter.specs.lisp_meaning.State.{object}
use Rattle.transporter.specs.lisp_meaning.Roles.{AsBlock, Begins, Head, Kind, RoleMap, as_ref, header_of, names_as, value_of}
use Rattle.transporter.specs.lisp_ground.GroundInvariant.{GroundInvariant}
use Rattle.transporter.specs.lisp_meaning.Interpretation.{Interpretation}
use Rattle.transporter.proofs.lisp_ground.words.FinalAddresses.{final_is_place, has_final, name_in_use, named_as_kind}
use Rattle.transporter.proofs.lisp_ground.words.Shapes.{head_shape, head_whole}
use Rattle.block_store.specs.declared.header.Head.{Head as Place}
use Rattle.block_store.specs.Headers.{CanFind, HasMeaning, IsHead, TellsCode, TellsLength}

some_ref : (x y : ℕ) → Some (V.Ref x) ≡ Some (V.Ref y) → x ≡ y
some_ref x y e = cc

named_by_ref : (o : Option ℕ) (n : ℕ) → as_ref o ≡ Some (V.Ref n) → o ≡ Some n
named_by_ref None n e = absurd (let x : None ≡ Some (V.Ref n) = e in cc)
named_by_ref (Some i) n e = ap Some (some_ref i n e)

-- the name to which a reference to a block refers
pub ref_named : (k : RoleMap) (content : Content) (at n : ℕ) → content ≡ StructAt at → value_of k.role content ≡ Some (V.Ref n) → names_as AsBlock (k.role at) ≡ Some n
ref_named k content at n is value = named_by_ref (names_as AsBlock (k.role at)) n (ap (value_of k.role) (sym is) ∙ value)

some_named : (o : Option ℕ) (v : Value) → as_ref o ≡ Some v → (n : ℕ) × (o ≡ Some n)
some_named None v e = absurd (let x : None ≡ Some v = e in cc)
some_named (Some i) v e = (i, refl)

-- it refers to one
pub value_named : (k : RoleMap) (content : Content) (at : ℕ) (v : Value) → content ≡ StructAt at → value_of k.role content ≡ Some v → (n : ℕ) × (names_as AsBlock (k.role at) ≡ Some n)
value_named k content at v is value = some_named (names_as AsBlock (k.role at)) v (ap (value_of k.role) (sym is) ∙ value)

same_header : (a b c d : ℕ) → Header a b ≡ Header c d → (a ≡ c) × (b ≡ d)
same_header a b c d e = (cc, cc)

abbrev pub code_in : Option (ℕ × ℕ) → ℕ
code_in None = 0
code_in (Some p) = p.0

abbrev pub count_in : Option (ℕ × ℕ) → ℕ
count_in None = 0
count_in (Some p) = p.1

-- what is read of a header
pub header_content : (content : Content) (code count : ℕ) → parts_of content ≡ Some (code, count) → content ≡ Header code count
header_content Null code count e = absurd (let x : None ≡ Some (code, count) = e in cc)
header_content Nil code count e = absurd (let x : None ≡ Some (code, count) = e in cc)
header_content (ListAt at) code count e = absurd (let x : None ≡ Some (code, count) = e in cc)
header_content (StructAt at) code count e = absurd (let x : None ≡ Some (code, count) = e in cc)
header_content (Header a b) code count e = let x : Some (a, b) ≡ Some (code, count) = e in ap (λ (i : ℕ). Header i b) (ap code_in x) ∙ ap (Header code) (ap count_in x)
header_content (HeaderForward at) code count e = absurd (let x : None ≡ Some (code, count) = e in cc)
header_content (GcForward at) code count e = absurd (let x : None ≡ Some (code, count) = e in cc)
header_content (Fixnum i) code count e = absurd (let x : None ≡ Some (code, count) = e in cc)

module _ (m : Memory.Store) (t : Table) (it : Interpretation) (on : GroundInvariant m t it) (at n : ℕ) (named : names_as AsBlock (it.map.role at) ≡ Some n) where
  -- the block begins at its place
  pub head_role : it.map.role (it.map.at n) ≡ Head n
  head_role =
      subst (λ (x : Kind). Begins x (it.map.role (it.map.at n)) n) (named_as_kind m t it on AsBlock at n named)
      (on.kept.roled.begins n (name_in_use m t it on AsBlock at n named))

  -- there is its header, with its code and the number of its fields
  pub header_there : (to : ℕ) → Final m.words at to → (code : ℕ) × (count : ℕ) × ((word_at m.words to).content ≡ Header code count) × (header_of (object it.store n).body ≡ Some (code, count))
  header_there to final =
      let h = head_shape m t it on (it.map.at n) n head_role in
      let place = final_is_place m t it on AsBlock at n named to final in
      (h.0, h.1, ap (λ (a : ℕ). (word_at m.words a).content) place ∙ h.3, h.4)

  -- all words of the block are in the memory
  pub block_inside : (to code count : ℕ) → Final m.words at to → (word_at m.words to).content ≡ Header code count → to + count < length m.words
  block_inside to code count final is =
      let whole = head_whole m t it on (it.map.at n) n head_role in
      let place = final_is_place m t it on AsBlock at n named to final in
      let there = subst (λ (a : ℕ). IsWhole m.words a) (sym place) whole in
      let few : to + suc count ≤ length m.words = subst (λ (c : Content). to + word_count (shape_from c (word_at m.words to).cdr) ≤ length m.words) is there in
      omega arith

-- a content with a value that refers to a block refers to one that can be found
pub can_find : (m : Memory.Store) (t : Table) (content : Content) → HasMeaning m t content → CanFind m.words content
can_find m t content x = record {
  place = λ at is. has_final m t x.it x.kept AsBlock at (value_named x.it.map content at x.value is x.value_is).0 (value_named x.it.map content at x.value is x.value_is).1;
  header = λ at to is final. (let h = header_there m t x.it x.kept at (value_named x.it.map content at x.value is x.value_is).0 (value_named x.it.map content at x.value is x.value_is).1 to final in (h.0, h.1, h.2));
  inside = λ at to code count is final header. block_inside m t x.it x.kept at (value_named x.it.map content at x.value is x.value_is).0 (value_named x.it.map content at x.value is x.value_is).1 to code count final header;
}

-- what was found is what it refers to
pub head_tells : (m : Memory.Store) (t : Table) (content : Content) (head : Place) → IsHead m.words content head → (it : Interpretation) (n : ℕ) → GroundInvariant m t it
    → value_of it.map.role content ≡ Some (V.Ref n) → header_of (object it.store n).body ≡ Some (head.code, head.length)
head_tells m t content head x it n on value =
    let h = header_there m t it on x.reference n (ref_named it.map content x.reference n x.is value) head.at x.final in
    let e = same_header head.code head.length h.0 h.1 (sym x.header ∙ h.2) in
    h.3 ∙ sym (ap (λ (c : ℕ). Some (c, h.1)) e.0) ∙ sym (ap (λ (c : ℕ). Some (head.code, c)) e.1)

pub tells_length : (m : Memory.Store) (t : Table) (content : Content) (head : Place) → IsHead m.words content head → TellsLength m t content head.length
tells_length m t content head x it n on value = (head.code, head_tells m t content head x it n on value)

pub tells_code : (m : Memory.Store) (t : Table) (content : Content) (head : Place) → IsHead m.words content head → TellsCode m t content head.code
tells_code m t content head x it n on value = (head.length, head_tells m t content head x it n on value)
