-- The words of registers, read as conses.
use Rattle.std.proofs.Common.{◌≡◌, ◌≢◌, ℕ, ◌<◌, ◌⊎◌, inl, inr, Bool, true, false, ◌||◌, ◌==◌, IsTrue, refl, sym, ◌∙◌, ap, subst, List, length, get_or, Some, None, arith}
use Rattle.std.proofs.lemmas.Bool.{eqb-true}
use Rattle.std.proofs.lemmas.List.{get_or_read}
use Rattle.store_word.specs.Words.{Parts, null_word, tag_of}
use Rattle.store_word.specs.declared.word.Content.{Content}
use Rattle.store_word.specs.declared.word.Content.TheVariants.{Null, Nil as NilWord, List as ListAt, Struct as StructAt, Header, HeaderForward, GcForward, Fixnum}
use Rattle.store_word.specs.declared.word.Tag.TheVariants.{List as ListTag}
use Rattle.lisp_graph.specs.declared.object.Object.{Object}
use Rattle.lisp_graph.specs.declared.object.Body.{Body}
use Rattle.lisp_graph.specs.declared.object.Body.TheVariants.{Cons}
use Rattle.lisp_graph.specs.declared.object.Value.{Value}
use Rattle.lisp_graph.specs.declared.object.Value.TheVariants as V
use Rattle.lisp_graph.specs.Effect.{when_cons, when_cons_body}
use Rattle.lisp_graph.specs.Graph.{object_at}
use Rattle.mem_port.specs.Store as Memory
use Rattle.area_space.specs.Table.{Table}
use Rattle.block_store.specs.lisp_meaning.State.{State, Store, object}
use Rattle.block_store.specs.lisp_meaning.Roles.{AsBlock, AsCons, RoleMap, value_of}
use Rattle.block_store.specs.lisp_meaning.Sound.{Reach}
use Rattle.block_store.specs.lisp_ground.GroundInvariant.{GroundInvariant}
use Rattle.block_store.specs.lisp_meaning.Interpretation.{Interpretation, interpretation}
use Rattle.block_store.proofs.lisp_ground.words.References.{references_lead}
use Rattle.block_store.specs.transporter.Settling.{RefersToOld}
use Rattle.heap_state.specs.Consistent.{RepresentsState}
use Rattle.heap_state.specs.Represents.{Represents}
use Rattle.heap_state.specs.Settled.{IsSettled}
use Rattle.heap_state.proofs.StateChanges.{kept_register}
use Rattle.cdr_lists.specs.Parts.{CanSet}
use Rattle.cdr_lists.specs.Reading.{CanRead, IsReadable}

-- the word of a register
module _ (m : Memory.Store) (t : Table) (registers : List Parts) (r : ℕ) (low : r < length registers) (of : Parts) (read : of ≡ get_or registers r of) where
  -- has its value
  pub value_there : (k : RoleMap) (s : State) → Represents m t registers k s → value_of k.role of.content ≡ Some (get_or s.registers r V.Nil)
  value_there k s b = ap (λ (w : Parts). value_of k.role w.content) (get_or_read registers r of low read null_word) ∙ b.means r (let count = b.count in omega arith)

  -- can be read as a cons
  pub can_read : (k : RoleMap) (s : State) → Represents m t registers k s → Reach s s.phase → CanRead m t (interpretation k s) s.registers of.content (get_or s.registers r V.Nil)
  can_read k s b reach = record {
    kept = b.kept;
    value_is = value_there k s b;
    survives = λ region old. kept_register m t registers k s r region b reach (let count = b.count in omega arith) old;
  }

  pub settled_word : IsSettled t registers r → RefersToOld t of → ⊥
  settled_word settled old = settled (subst (RefersToOld t) (get_or_read registers r of low read null_word) old)

  pub readable : RepresentsState m t registers → IsSettled t registers r → IsReadable m t of
  readable x settled = record {
    it = interpretation x.map x.state;
    registers = x.state.registers;
    value = get_or x.state.registers r V.Nil;
    can = can_read x.map x.state x.represents x.reach;
    fresh = settled_word settled;
  }

-- a part of the cons can become the value of another register
pub settable : (m : Memory.Store) (t : Table) (registers : List Parts) (target from : ℕ) (target_in : target < length registers) (from_in : from < length registers) (of value : Parts) (read : of ≡ get_or registers target of) (value_read : value ≡ get_or registers from value)
    → RepresentsState m t registers → IsSettled t registers target → IsSettled t registers from → CanSet m t of value
unfolding readable
settable m t registers target from target_in from_in of value read value_read x of_settled value_settled = record {
  can = readable m t registers target target_in of read x of_settled;
  new = get_or x.state.registers from V.Nil;
  new_is = value_there m t registers from from_in value value_read x.map x.state x.represents;
  young = settled_word m t registers from from_in value value_read value_settled;
}

-- What a word refers to, by its tag

-- a word tagged LIST has an address
pub list_tagged : (c : Content) → (tag_of c ≢ ListTag → ⊥) → (a : ℕ) × (c ≡ ListAt a)
list_tagged (ListAt a) list = (a, refl)
list_tagged Null list = absurd (list (λ e. cc))
list_tagged NilWord list = absurd (list (λ e. cc))
list_tagged (StructAt a) list = absurd (list (λ e. cc))
list_tagged (Header i j) list = absurd (list (λ e. cc))
list_tagged (HeaderForward a) list = absurd (list (λ e. cc))
list_tagged (GcForward a) list = absurd (list (λ e. cc))
list_tagged (Fixnum i) list = absurd (list (λ e. cc))

-- a value is a cons
pub record IsConsValue (s : Store) (v : Value) : Type 0 where
  pub name : ℕ
  pub value : v ≡ V.Ref name
  pub car : Value
  pub cdr : Value
  pub body : (object s name).body ≡ Cons car cdr

-- it can be read by its name
pub read_name : (m : Memory.Store) (t : Table) (it : Interpretation) (registers : List Value) (c : Content) (v : Value) (n : ℕ) → v ≡ V.Ref n → CanRead m t it registers c v → CanRead m t it registers c (V.Ref n)
read_name m t it registers c v n is can = subst (CanRead m t it registers c) is can

value_is : (v w : Value) → Some v ≡ Some w → w ≡ v
value_is v w e = cc

module _ (m : Memory.Store) (t : Table) (it : Interpretation) (on : GroundInvariant m t it) where
  -- that of a word tagged LIST is one
  pub cons_value : (c : Content) (v : Value) (a : ℕ) → value_of it.map.role c ≡ Some v → c ≡ ListAt a → IsConsValue it.store v
  cons_value c v a is list =
      let r = references_lead.values m t it on AsCons a v (sym (ap (value_of it.map.role) list) ∙ is) in
      let c = references_lead.conses m t it on r.name r.leads.used r.leads.kind_is in
      record { name = r.name; value = r.value; car = c.car; cdr = c.cdr; body = c.body }

  -- and that of another word isn't
  pub not_cons : {A : Type 0} (c : Content) (v : Value) (found : ℕ → Value → Value → A) (other : A) → value_of it.map.role c ≡ Some v → tag_of c ≢ ListTag → when_cons it.store.objects v found other ≡ other
  not_cons {A} NilWord v found other is wrong = ap (λ (x : Value). when_cons it.store.objects x found other) (value_is V.Nil v is)
  not_cons {A} (Fixnum i) v found other is wrong = ap (λ (x : Value). when_cons it.store.objects x found other) (value_is (V.Fix i) v is)
  not_cons {A} (StructAt a) v found other is wrong =
      let r = references_lead.values m t it on AsBlock a v is in
      let b = references_lead.blocks m t it on r.name r.leads.used r.leads.kind_is in
      ap (λ (x : Value). when_cons it.store.objects x found other) r.value ∙ ap (λ (body : Body). when_cons_body body (found r.name) other) b.body
  not_cons {A} (ListAt a) v found other is wrong = absurd (wrong refl)
  not_cons {A} Null v found other is wrong = absurd (let x : None ≡ Some v = is in cc)
  not_cons {A} (Header i j) v found other is wrong = absurd (let x : None ≡ Some v = is in cc)
  not_cons {A} (HeaderForward a) v found other is wrong = absurd (let x : None ≡ Some v = is in cc)
  not_cons {A} (GcForward a) v found other is wrong = absurd (let x : None ≡ Some v = is in cc)

-- what is done with a cons
pub cons_case : {A : Type 0} (objects : List Object) (v : Value) (n : ℕ) (car cdr : Value) (found : ℕ → Value → Value → A) (other : A) → v ≡ V.Ref n → (object_at objects n).body ≡ Cons car cdr → when_cons objects v found other ≡ found n car cdr
cons_case {A} objects v n car cdr found other is body = ap (λ (x : Value). when_cons objects x found other) is ∙ ap (λ (b : Body). when_cons_body b (found n) other) body

-- The registers that a command reads

pub either : (a b : Bool) → IsTrue (a || b) → IsTrue a ⊎ IsTrue b
either true b h = inl refl
either false b h = inr h

pub only_one : (from i : ℕ) → IsTrue (i == from) → i ≡ from
only_one from i h = eqb-true i from h

pub only_two : (left right i : ℕ) → IsTrue (i == left || i == right) → (i ≡ left) ⊎ (i ≡ right)
only_two left right i h = elim (either (i == left) (i == right) h) [ inl l ↦ inl (only_one left i l) | inr r ↦ inr (only_one right i r) ]
