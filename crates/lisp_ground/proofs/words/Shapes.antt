-- Shapes and charges on a ground: what the words at a final address show of the object there.
use Rattle.std.proofs.Common.{◌≡◌, ℕ, zero, suc, ◌+◌, ◌<◌, ◌≤◌, ◌⊎◌, inl, inr, length, refl, sym, ◌∙◌, ap, subst, arith, Option, Some}
use Rattle.area_space.specs.store_word.declared.word.CdrCode.{CdrCode}
use Rattle.area_space.specs.store_word.declared.word.CdrCode.TheVariants.{Next as CdrNext, Nil as CdrNil, Normal as CdrNormal, Second as CdrSecond}
use Rattle.area_space.specs.store_word.declared.word.Content.{Content}
use Rattle.area_space.specs.store_word.declared.word.Content.TheVariants.{Null, Nil as NilWord, Fixnum, List as ListAt, Struct as StructAt, Header, HeaderForward, GcForward}
use Rattle.area_space.specs.lisp_graph.declared.object.Value.{Value}
use Rattle.area_space.specs.mem_port.Store.{Store}
use Rattle.area_space.specs.Table.{Table}
use Rattle.lisp_meaning.specs.State.{object}
use Rattle.lisp_meaning.specs.Image.{Image, word}
use Rattle.lisp_meaning.specs.Classes.{classes}
use Rattle.lisp_meaning.specs.Roles.{Kind, AsCons, AsBlock, Role, PairHead, Cell, Head, Field, owner, value_of, cdr_of, header_of}
use Rattle.lisp_meaning.specs.Fits.{PairCode, CellCdr}
use Rattle.lisp_meaning.specs.Rewriting.{StandsThere}
use Rattle.lisp_meaning.proofs.roles.RunNames.{cons_there, block_there}
use Rattle.lisp_meaning.proofs.layout.ObjectWords.{cell_fits, head_fits, tail_fits, block_fits}
use Rattle.lisp_meaning.proofs.reading.ReadRoles.{used_where}
use Rattle.obj_layout.specs.declared.shape.Shape.{Shape}
use Rattle.obj_layout.specs.declared.shape.Shape.TheVariants.{Pair, Cell as CellShape, BlockOf}
use Rattle.obj_layout.specs.Forwards.{word_at}
use Rattle.obj_layout.specs.Shapes.{cons_shape, shape_from, shape_of, word_count, pair_charge, charge_from, charge_at, IsWhole}
use Rattle.lisp_ground.specs.Image.{ground_image}
use Rattle.lisp_ground.specs.GroundInvariant.{GroundInvariant}
use Rattle.lisp_meaning.specs.Interpretation.{Interpretation}
use Rattle.lisp_ground.proofs.invariant.WordStores.{used_inside}

-- The shape of an object and its first word

cons_pair : (code : CdrCode) → cons_shape code ≡ Pair → code ≡ CdrNormal
cons_pair CdrNormal e = refl
cons_pair CdrNext e = cc
cons_pair CdrNil e = cc
cons_pair CdrSecond e = cc

pub pair_code : (c : Content) (code : CdrCode) → shape_from c code ≡ Pair → code ≡ CdrNormal
pair_code Null code e = cons_pair code e
pair_code NilWord code e = cons_pair code e
pair_code (Fixnum i) code e = cons_pair code e
pair_code (ListAt a) code e = cons_pair code e
pair_code (StructAt a) code e = cons_pair code e
pair_code (Header x size) code e = cc
pair_code (HeaderForward a) code e = cons_pair code e
pair_code (GcForward a) code e = cons_pair code e

-- a cell isn't coded normal
pub cell_code : (c : Content) (code : CdrCode) → shape_from c code ≡ CellShape → code ≡ CdrNormal → ⊥
cell_code c code e normal = go c (ap (shape_from c) (sym normal) ∙ e)
  where
    go : (c : Content) → shape_from c CdrNormal ≡ CellShape → ⊥
    go Null e = cc
    go NilWord e = cc
    go (Fixnum i) e = cc
    go (ListAt a) e = cc
    go (StructAt a) e = cc
    go (Header x size) e = cc
    go (HeaderForward a) e = cc
    go (GcForward a) e = cc

-- a word that has a value is no header
pub value_shape : (role : ℕ → Role) (c : Content) (code : CdrCode) (v : Value) → value_of role c ≡ Some v → shape_from c code ≡ cons_shape code
value_shape role Null code v e = refl
value_shape role NilWord code v e = refl
value_shape role (Fixnum i) code v e = refl
value_shape role (ListAt a) code v e = refl
value_shape role (StructAt a) code v e = refl
value_shape role (Header x size) code v e = cc
value_shape role (HeaderForward a) code v e = refl
value_shape role (GcForward a) code v e = refl

code_charge : (charge : ℕ) (code : CdrCode) → PairCode charge code → pair_charge code ≡ charge
code_charge charge code (inl e) = ap pair_charge e.1 ∙ sym e.0
code_charge charge code (inr e) = ap pair_charge e.1 ∙ sym e.0

cell_shape_by : (role : ℕ → Role) (a i : ℕ) (cdr : Option Value) (code : CdrCode) → CellCdr role a i cdr code → cons_shape code ≡ CellShape
cell_shape_by role a i cdr CdrNext x = refl
cell_shape_by role a i cdr CdrNil x = refl
cell_shape_by role a i cdr CdrNormal x = absurd x
cell_shape_by role a i cdr CdrSecond x = absurd x

module _ (m : Store) (t : Table) (it : Interpretation) (on : GroundInvariant m t it) (b n : ℕ) where
  abbrev g : Image
  g = ground_image m t

  part_inside : (a : ℕ) → owner (it.map.role a) ≡ Some n → a < length m.words
  part_inside a o = used_inside m t a on.table on.ground (used_where g it.map it.store on.kept.roled on.kept.covered a n o).0

  -- By what the word is for

  pub pair_shape : it.map.role b ≡ PairHead n → shape_of (word_at m.words b) ≡ Pair
  pair_shape r =
      let f = head_fits (word g) (classes g) it.map it.store on.kept.roled n b r in
      value_shape it.map.role (word_at m.words b).content (word_at m.words b).cdr f.car.0 f.car.2 ∙ ap cons_shape f.code

  pub cell_shape : (i : ℕ) → it.map.role b ≡ Cell n i → shape_of (word_at m.words b) ≡ CellShape
  cell_shape i r =
      let f = cell_fits (word g) (classes g) it.map it.store on.kept.roled n b i r in
      value_shape it.map.role (word_at m.words b).content (word_at m.words b).cdr f.car.0 f.car.2 ∙ cell_shape_by it.map.role b i (cdr_of (object it.store n).body) (word_at m.words b).cdr f.cdr

  pub head_shape : it.map.role b ≡ Head n → (code : ℕ) × (size : ℕ) × (shape_of (word_at m.words b) ≡ BlockOf code size) × ((word_at m.words b).content ≡ Header code size) × (header_of (object it.store n).body ≡ Some (code, size))
  head_shape r =
      let f = block_fits (word g) (classes g) it.map it.store on.kept.roled n b r in
      (f.kind, f.size, ap (λ (c : Content). shape_from c (word_at m.words b).cdr) f.content, f.content, f.header)

  pub pair_charged : it.map.role b ≡ PairHead n → charge_at m.words b ≡ (object it.store n).charge
  pair_charged r =
      let f = tail_fits (word g) (classes g) it.map it.store on.kept.roled n b r in
      ap (λ (x : Shape). charge_from x (word_at m.words (suc b)).cdr) (pair_shape r) ∙ code_charge (object it.store n).charge (word_at m.words (suc b)).cdr f.code

  pub cell_charged : (i : ℕ) → it.map.role b ≡ Cell n i → charge_at m.words b ≡ (object it.store n).charge
  cell_charged i r = ap (λ (x : Shape). charge_from x (word_at m.words (suc b)).cdr) (cell_shape i r) ∙ sym (cell_fits (word g) (classes g) it.map it.store on.kept.roled n b i r).charge

  pub head_charged : it.map.role b ≡ Head n → charge_at m.words b ≡ (object it.store n).charge
  unfolding head_shape
  head_charged r =
      let f = block_fits (word g) (classes g) it.map it.store on.kept.roled n b r in
      ap (λ (x : Shape). charge_from x (word_at m.words (suc b)).cdr) (head_shape r).2 ∙ sym f.charge

  pub pair_whole : it.map.role b ≡ PairHead n → IsWhole m.words b
  pair_whole r =
      let f = head_fits (word g) (classes g) it.map it.store on.kept.roled n b r in
      let low : suc b < length m.words = part_inside (suc b) (ap owner f.tail) in
      subst (λ (x : Shape). b + word_count x ≤ length m.words) (sym (pair_shape r)) (omega arith)

  pub cell_whole : (i : ℕ) → it.map.role b ≡ Cell n i → IsWhole m.words b
  cell_whole i r =
      let low : b < length m.words = part_inside b (ap owner r) in
      subst (λ (x : Shape). b + word_count x ≤ length m.words) (sym (cell_shape i r)) (omega arith)

  pub head_whole : it.map.role b ≡ Head n → IsWhole m.words b
  unfolding head_shape
  head_whole r =
      let f = block_fits (word g) (classes g) it.map it.store on.kept.roled n b r in
      subst (λ (x : Shape). b + word_count x ≤ length m.words) (sym (head_shape r).2) (by_size f.size f.fields)
    where
      by_size : (size : ℕ) → ((i : ℕ) → i < size → it.map.role (suc b + i) ≡ Field n i) → b + suc size ≤ length m.words
      by_size zero fields = let low : b < length m.words = part_inside b (ap owner r) in omega arith
      by_size (suc size) fields = let low : suc b + size < length m.words = part_inside (suc b + size) (ap owner (fields size (omega arith))) in omega arith

  -- By a reference that leads to no forward

  pub cons_stands : StandsThere g it.map AsCons b n → (it.map.role b ≡ PairHead n) ⊎ ((i : ℕ) × (it.map.role b ≡ Cell n i))
  cons_stands st = cons_there (word g) (classes g) it.map it.store on.kept.roled b n st.named st.here

  pub block_stands : StandsThere g it.map AsBlock b n → it.map.role b ≡ Head n
  block_stands st = block_there (word g) (classes g) it.map it.store on.kept.roled b n st.named st.here

  -- a cons is kept as its shape says
  pub pair_there : StandsThere g it.map AsCons b n → shape_of (word_at m.words b) ≡ Pair → it.map.role b ≡ PairHead n
  pair_there st e = go (cons_stands st)
    where
      go : (it.map.role b ≡ PairHead n) ⊎ ((i : ℕ) × (it.map.role b ≡ Cell n i)) → it.map.role b ≡ PairHead n
      go (inl r) = r
      go (inr r) = let x = cell_shape r.0 r.1 in absurd cc

  pub cell_there : StandsThere g it.map AsCons b n → shape_of (word_at m.words b) ≡ CellShape → (i : ℕ) × (it.map.role b ≡ Cell n i)
  cell_there st e = go (cons_stands st)
    where
      go : (it.map.role b ≡ PairHead n) ⊎ ((i : ℕ) × (it.map.role b ≡ Cell n i)) → (i : ℕ) × (it.map.role b ≡ Cell n i)
      go (inl r) = let x = pair_shape r in absurd cc
      go (inr r) = r

  pub cons_no_block : StandsThere g it.map AsCons b n → (code size : ℕ) → shape_of (word_at m.words b) ≡ BlockOf code size → ⊥
  cons_no_block st code size e = go (cons_stands st)
    where
      go : (it.map.role b ≡ PairHead n) ⊎ ((i : ℕ) × (it.map.role b ≡ Cell n i)) → ⊥
      go (inl r) = let x = pair_shape r in cc
      go (inr r) = let x = cell_shape r.0 r.1 in cc

  -- an object is charged what its words show, and is in the memory
  pub charge_is : (kind : Kind) → StandsThere g it.map kind b n → charge_at m.words b ≡ (object it.store n).charge
  charge_is AsBlock st = head_charged (block_stands st)
  charge_is AsCons st = go (cons_stands st)
    where
      go : (it.map.role b ≡ PairHead n) ⊎ ((i : ℕ) × (it.map.role b ≡ Cell n i)) → charge_at m.words b ≡ (object it.store n).charge
      go (inl r) = pair_charged r
      go (inr r) = cell_charged r.0 r.1

  pub whole : (kind : Kind) → StandsThere g it.map kind b n → IsWhole m.words b
  whole AsBlock st = head_whole (block_stands st)
  whole AsCons st = go (cons_stands st)
    where
      go : (it.map.role b ≡ PairHead n) ⊎ ((i : ℕ) × (it.map.role b ≡ Cell n i)) → IsWhole m.words b
      go (inl r) = pair_whole r
      go (inr r) = cell_whole r.0 r.1
