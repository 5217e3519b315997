-- Stores into objects on a ground.
use Rattle.std.proofs.Common.{◌≡◌, ℕ, suc, ◌+◌, ◌<◌, ◌⊎◌, inl, inr, true, false, IsTrue, List, length, sym, ◌∙◌, ap, arith, Option, Some, None}
use Rattle.std.proofs.lemmas.Bool.{cases_Bool}
use Rattle.area_space.specs.store_word.Words.{Parts}
use Rattle.area_space.specs.lisp_graph.declared.object.Value.{Value}
use Rattle.area_space.specs.lisp_graph.declared.object.Body.TheVariants.{Block}
use Rattle.area_space.specs.mem_port.Store.{Store}
use Rattle.area_space.specs.Table.{Table}
use Rattle.lisp_meaning.specs.State.{object}
use Rattle.lisp_meaning.specs.Image.{Image, word, is_used}
use Rattle.lisp_meaning.specs.Classes.{classes}
use Rattle.lisp_meaning.specs.Roles.{AsCons, AsBlock, Role, Blank, owner, value_of, header_of}
use Rattle.lisp_meaning.specs.Rewriting.{StandsThere}
use Rattle.lisp_meaning.proofs.roles.RunNames.{pair_there}
use Rattle.lisp_meaning.proofs.layout.ObjectWords.{head_fits, block_fits}
use Rattle.lisp_meaning.proofs.reading.ReadRoles.{used_where, above_read}
use Rattle.lisp_meaning.proofs.invariant.Rewrites.{car_stored, cdr_stored, field_stored, resettled}
use Rattle.lisp_ground.specs.Image.{ground_image}
use Rattle.lisp_ground.specs.GroundInvariant.{GroundInvariant}
use Rattle.lisp_meaning.specs.Interpretation.{Interpretation}
use Rattle.lisp_ground.specs.Rewriting.{CarStoredOn, CdrStoredOn, FieldStoredOn, ResettledOn}
use Rattle.lisp_ground.proofs.invariant.WordStores.{stores_at, stored_on}
use Rattle.lisp_ground.proofs.words.Shapes.{cons_stands, block_stands}

-- the size in a header
abbrev size_in : Option (ℕ × ℕ) → ℕ
size_in None = 0
size_in (Some p) = p.1

pub same_header_size : (o : Option (ℕ × ℕ)) (p q : ℕ × ℕ) → o ≡ Some p → o ≡ Some q → p.1 ≡ q.1
same_header_size o p q e f = sym (ap size_in e) ∙ ap size_in f

module _ (m : Store) (t : Table) (it : Interpretation) (on : GroundInvariant m t it) where
  abbrev g : Image
  g = ground_image m t

  -- a part of an object is below a used end
  pub part_used : (a n : ℕ) → owner (it.map.role a) ≡ Some n → IsTrue (is_used g a)
  part_used a n o = (used_where g it.map it.store on.kept.roled on.kept.covered a n o).0

  -- so is a word that has a value
  pub value_used : (a : ℕ) (v : Value) → value_of it.map.role (word g a).content ≡ Some v → IsTrue (is_used g a)
  value_used a v e = go (cases_Bool (is_used g a))
    where
      go : (is_used g a ≡ true) ⊎ (is_used g a ≡ false) → IsTrue (is_used g a)
      go (inl u) = u
      go (inr u) =
          let null = above_read g it.map it.store on.kept.roled on.kept.covered a u in
          let none : value_of it.map.role (word g a).content ≡ None = ap (λ (w : Parts). value_of it.map.role w.content) null in
          absurd cc

  cons_used : (a n : ℕ) → StandsThere g it.map AsCons a n → IsTrue (is_used g a)
  cons_used a n st = go (cons_stands m t it on a n st)
    where
      go : (it.map.role a ≡ Rattle.lisp_meaning.specs.Roles.PairHead n) ⊎ ((i : ℕ) × (it.map.role a ≡ Rattle.lisp_meaning.specs.Roles.Cell n i)) → IsTrue (is_used g a)
      go (inl r) = part_used a n (ap owner r)
      go (inr r) = part_used a n (ap owner r.1)

  tail_used : (a n : ℕ) → StandsThere g it.map AsCons a n → (word g a).cdr ≡ Rattle.area_space.specs.store_word.declared.word.CdrCode.TheVariants.Normal → IsTrue (is_used g (suc a))
  tail_used a n st code =
      let r = pair_there (word g) (classes g) it.map it.store on.kept.roled a n st.named st.here code in
      part_used (suc a) n (ap owner (head_fits (word g) (classes g) it.map it.store on.kept.roled n a r).tail)

  field_used : (a n i code : ℕ) (fields : List Value) → StandsThere g it.map AsBlock a n → (object it.store n).body ≡ Block code fields → i < length fields → IsTrue (is_used g (suc a + i))
  field_used a n i code fields st body low =
      let r = block_stands m t it on a n st in
      let f = block_fits (word g) (classes g) it.map it.store on.kept.roled n a r in
      let size : f.size ≡ length fields = same_header_size (header_of (object it.store n).body) (f.kind, f.size) (code, length fields) f.header (ap header_of body) in
      part_used (suc a + i) n (ap owner (f.fields i (omega arith)))

pub car_stored_on : CarStoredOn
car_stored_on m m' t it a n car cdr new on st body w =
    let u = cons_used m t it on a n st in
    stored_on m m' t it on a w.stored new w.stores u w.value_is _
    (car_stored (ground_image m t) m'.words it a n car cdr new on.kept st body (stores_at m m' t it on a w.stored new w.stores u w.value_is w.code))

pub cdr_stored_on : CdrStoredOn
cdr_stored_on m m' t it a n car cdr new on st code body w =
    let u = tail_used m t it on a n st code in
    stored_on m m' t it on (suc a) w.stored new w.stores u w.value_is _
    (cdr_stored (ground_image m t) m'.words it a n car cdr new on.kept st code body (stores_at m m' t it on (suc a) w.stored new w.stores u w.value_is w.code))

pub field_stored_on : FieldStoredOn
field_stored_on m m' t it a n i code fields new on st body low w =
    let u = field_used m t it on a n i code fields st body low in
    stored_on m m' t it on (suc a + i) w.stored new w.stores u w.value_is _
    (field_stored (ground_image m t) m'.words it a n i code fields new on.kept st body low (stores_at m m' t it on (suc a + i) w.stored new w.stores u w.value_is w.code))

pub resettled_on : ResettledOn
resettled_on m m' t it a value on is w =
    let u = value_used m t it on a value is in
    stored_on m m' t it on a w.stored value w.stores u w.value_is _
    (resettled (ground_image m t) m'.words it a value on.kept is (stores_at m m' t it on a w.stored value w.stores u w.value_is w.code))
