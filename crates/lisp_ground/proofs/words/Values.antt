-- A word that has a value has no address in a free region.
use Rattle.std.proofs.Common.{◌≡◌, ℕ, ◌/◌, true, slice_get, refl, sym, ◌∙◌, ap, subst, Option, Some, None}
use Rattle.area_space.specs.store_word.Words.{Parts}
use Rattle.area_space.specs.store_word.declared.word.Content.{Content}
use Rattle.area_space.specs.store_word.declared.word.Content.TheVariants.{Null, Nil as NilWord, Fixnum, List as ListAt, Struct as StructAt, Header, HeaderForward, GcForward}
use Rattle.area_space.specs.lisp_graph.declared.object.Value.{Value}
use Rattle.area_space.specs.mem_port.Store.{Store}
use Rattle.area_space.specs.Table.{Table, IsUnclassed}
use Rattle.lisp_meaning.specs.Image.{Region, is_free, region}
use Rattle.lisp_meaning.specs.Roles.{Kind, AsCons, AsBlock, Blank, names_as, as_ref, value_of}
use Rattle.lisp_ground.specs.Image.{no_rest, ground_image}
use Rattle.lisp_ground.specs.GroundInvariant.{GroundInvariant, NamesUsed}
use Rattle.lisp_meaning.specs.Interpretation.{Interpretation}
use Rattle.lisp_ground.proofs.regions.Regions.{region_is, region_free}

blank_names_none : (kind : Kind) → names_as kind Blank ≡ None
blank_names_none AsCons = refl
blank_names_none AsBlock = refl

ref_names : (o : Option ℕ) (v : Value) → as_ref o ≡ Some v → (n : ℕ) × (o ≡ Some n)
ref_names None v e = absurd cc
ref_names (Some n) v e = (n, refl)

module _ (m : Store) (t : Table) (it : Interpretation) (on : GroundInvariant m t it) where
  -- an address that has a name is in no free region
  pub named_used : (kind : Kind) (a n : ℕ) → names_as kind (it.map.role a) ≡ Some n → IsUnclassed t (a / 4096) → ⊥
  named_used kind a n named free =
      let is : is_free (region (ground_image m t) a).standing ≡ true = ap (λ (r : Region). is_free r.standing) (region_is m t no_rest (a / 4096) on.table ∙ region_free t (a / 4096) free) in
      let blank : it.map.role a ≡ Blank = on.kept.covered.free a is in
      let none : names_as kind (it.map.role a) ≡ None = ap (names_as kind) blank ∙ blank_names_none kind in
      absurd cc

  -- a word that has a value has no other address
  pub value_names_used : (c : Content) (v : Value) → value_of it.map.role c ≡ Some v → NamesUsed t c
  value_names_used Null v e = λ to has. absurd cc
  value_names_used NilWord v e = λ to has. absurd cc
  value_names_used (Fixnum i) v e = λ to has. absurd cc
  value_names_used (ListAt a) v e = λ to has free.
      (let n = ref_names (names_as AsCons (it.map.role a)) v e in
      let same : a ≡ to = cc in
      named_used AsCons a n.0 n.1 (subst (λ (x : ℕ). IsUnclassed t (x / 4096)) (sym same) free))
  value_names_used (StructAt a) v e = λ to has free.
      (let n = ref_names (names_as AsBlock (it.map.role a)) v e in
      let same : a ≡ to = cc in
      named_used AsBlock a n.0 n.1 (subst (λ (x : ℕ). IsUnclassed t (x / 4096)) (sym same) free))
  value_names_used (Header code size) v e = λ to has. absurd cc
  value_names_used (HeaderForward a) v e = absurd cc
  value_names_used (GcForward a) v e = absurd cc

  -- nor has a word of the memory
  pub word_names_used : (a : ℕ) (w : Parts) → slice_get m.words a ≡ Some w → NamesUsed t w.content
  word_names_used a w got = λ to has. on.named a to w got has
