-- What the word in a register refers to.
use Rattle.std.proofs.Common.{◌≡◌, ◌≢◌, ℕ, ◌<◌, refl, ◌∙◌, ap, List, length, get_or, Some, None, arith}
use Rattle.std.proofs.lemmas.List.{get_or_read}
use Rattle.store_word.specs.Words.{Parts, null_word, tag_of}
use Rattle.store_word.specs.declared.word.Content.{Content}
use Rattle.store_word.specs.declared.word.Content.TheVariants.{Null, Nil as NilWord, List as ListAt, Struct as StructAt, Header, HeaderForward, GcForward, Fixnum}
use Rattle.store_word.specs.declared.word.Tag.TheVariants.{Struct as StructTag}
use Rattle.lisp_graph.specs.declared.object.Value.{Value}
use Rattle.lisp_graph.specs.declared.object.Value.TheVariants as V
use Rattle.lisp_graph.specs.declared.object.Object.{Object}
use Rattle.lisp_graph.specs.declared.object.Body.{Body}
use Rattle.lisp_graph.specs.declared.object.Body.TheVariants.{Cons, Block}
use Rattle.lisp_graph.specs.Graph.{object_at, value_at}
use Rattle.lisp_graph.specs.Effect.{when_block, when_block_body}
use Rattle.mem_port.specs.Store.{Store}
use Rattle.area_space.specs.Table.{Table}
use Rattle.block_store.specs.lisp_meaning.State.{State}
use Rattle.block_store.specs.lisp_meaning.Roles.{AsBlock, AsCons, RoleMap, value_of}
use Rattle.block_store.specs.lisp_meaning.Interpretation.{interpretation}
use Rattle.block_store.proofs.lisp_ground.words.References.{references_lead}
use Rattle.block_store.specs.Headers.{HasMeaning}
use Rattle.heap_state.specs.Represents.{Represents}
use Rattle.heap_state.specs.Consistent.{RepresentsState}
use Rattle.heap_commands.specs.Growth.{IsBlock}

-- what is done with a block is done with it, and with no other value
pub with_block : {A : Type 0} (objects : List Object) (v : Value) (n code : ℕ) (fields : List Value) → v ≡ V.Ref n → (object_at objects n).body ≡ Block code fields → (found : ℕ → ℕ → List Value → A) (other : A)
    → when_block objects v found other ≡ found n code fields
with_block objects v n code fields is body found other = ap (λ (x : Value). when_block objects x found other) is ∙ ap (λ (b : Body). when_block_body b (found n) other) body

pub with_cons : {A : Type 0} (objects : List Object) (v : Value) (n : ℕ) (car cdr : Value) → v ≡ V.Ref n → (object_at objects n).body ≡ Cons car cdr → (found : ℕ → ℕ → List Value → A) (other : A) → when_block objects v found other ≡ other
with_cons objects v n car cdr is body found other = ap (λ (x : Value). when_block objects x found other) is ∙ ap (λ (b : Body). when_block_body b (found n) other) body

value_is : (v w : Value) → Some v ≡ Some w → w ≡ v
value_is v w e = cc

module _ (m : Store) (t : Table) (k : RoleMap) (s : State) (registers : List Parts) (b : Represents m t registers k s) where
  -- a word tagged STRUCT that has a value refers to a block
  pub struct_block : (content : Content) (v : Value) → value_of k.role content ≡ Some v → (tag_of content ≢ StructTag → ⊥) → IsBlock s v
  struct_block (StructAt a) v is struct =
      let r = references_lead.values m t (interpretation k s) b.kept AsBlock a v is in
      let x = references_lead.blocks m t (interpretation k s) b.kept r.name r.leads.used r.leads.kind_is in
      record { name = r.name; code = x.code; fields = x.fields; value = r.value; body = x.body }
  struct_block Null v is struct = absurd (struct (λ e. cc))
  struct_block NilWord v is struct = absurd (struct (λ e. cc))
  struct_block (ListAt a) v is struct = absurd (struct (λ e. cc))
  struct_block (Header code n) v is struct = absurd (struct (λ e. cc))
  struct_block (HeaderForward a) v is struct = absurd (struct (λ e. cc))
  struct_block (GcForward a) v is struct = absurd (struct (λ e. cc))
  struct_block (Fixnum i) v is struct = absurd (struct (λ e. cc))

  -- and one of another tag to none
  pub other_word : {A : Type 0} (content : Content) (v : Value) → value_of k.role content ≡ Some v → tag_of content ≢ StructTag → (found : ℕ → ℕ → List Value → A) (other : A) → when_block s.store.objects v found other ≡ other
  other_word (StructAt a) v is tag found other = absurd (tag refl)
  other_word (ListAt a) v is tag found other =
      let r = references_lead.values m t (interpretation k s) b.kept AsCons a v is in
      let x = references_lead.conses m t (interpretation k s) b.kept r.name r.leads.used r.leads.kind_is in
      with_cons s.store.objects v r.name x.car x.cdr r.value x.body found other
  other_word NilWord v is tag found other = ap (λ (x : Value). when_block s.store.objects x found other) (value_is V.Nil v is)
  other_word (Fixnum i) v is tag found other = ap (λ (x : Value). when_block s.store.objects x found other) (value_is (V.Fix i) v is)
  other_word Null v is tag found other = absurd (let x : None ≡ Some v = is in cc)
  other_word (Header code n) v is tag found other = absurd (let x : None ≡ Some v = is in cc)
  other_word (HeaderForward a) v is tag found other = absurd (let x : None ≡ Some v = is in cc)
  other_word (GcForward a) v is tag found other = absurd (let x : None ≡ Some v = is in cc)

  -- the word in a register has its value
  pub register_means : (r : ℕ) (word : Parts) → word ≡ get_or registers r word → r < length registers → value_of k.role word.content ≡ Some (value_at s.registers r)
  register_means r word is low = ap (λ (w : Parts). value_of k.role w.content) (get_or_read registers r word low is null_word) ∙ b.means r (let count = b.count in omega arith)

-- a register's word has a value
pub register_meaning : (m : Store) (t : Table) (registers : List Parts) (r : ℕ) (word : Parts) → word ≡ get_or registers r word → RepresentsState m t registers → r < length registers → HasMeaning m t word.content
register_meaning m t registers r word is x low = record {
  it = interpretation x.map x.state;
  kept = x.represents.kept;
  value = value_at x.state.registers r;
  value_is = register_means m t x.map x.state registers x.represents r word is low;
}
