-- A cons that is given by the address of a reference to it.
use Rattle.std.proofs.Common.{◌≡◌, ℕ, ◌/◌, refl, sym, ◌∙◌, ap, subst, List, Some}
use Rattle.store_word.specs.Words.{Parts}
use Rattle.store_word.specs.declared.word.Content.{Content}
use Rattle.store_word.specs.declared.word.Content.TheVariants.{List as ListAt}
use Rattle.lisp_graph.specs.declared.object.Value.{Value}
use Rattle.lisp_graph.specs.declared.object.Value.TheVariants as V
use Rattle.lisp_graph.specs.declared.object.Body.TheVariants.{Cons}
use Rattle.mem_port.specs.Store as Memory
use Rattle.area_space.specs.Table.{Table, IsOld}
use Rattle.transporter.specs.lisp_meaning.State.{object}
use Rattle.transporter.specs.lisp_meaning.Changes.{put_body}
use Rattle.transporter.specs.lisp_meaning.Roles.{AsCons, as_ref, names_as, value_of}
use Rattle.transporter.proofs.lisp_ground.words.References.{references_lead}
use Rattle.transporter.specs.lisp_ground.GroundInvariant.{GroundInvariant}
use Rattle.transporter.specs.lisp_meaning.Interpretation.{Interpretation}
use Rattle.transporter.specs.Settled.{MeansOn}
use Rattle.transporter.specs.Settling.{RefersToOld, IsKeptValue, reference_of}
use Rattle.transporter.specs.Transports.{RepresentedByLaterMap}
use Rattle.cdr_lists.specs.Reading.{CanRead, IsReadable, KeepsCons, ReadsCar, ReadsCdr}
use Rattle.cdr_lists.specs.Parts.{CanSet, SetOn, SetsCar, SetsCdr}
use Rattle.cdr_lists.specs.Words.{plain}

-- the ground represents some objects, of which a reference to this address means a cons; if a region is old, the collection that runs keeps this cons
pub record CanReadAt (m : Memory.Store) (t : Table) (it : Interpretation) (registers : List Value) (at n : ℕ) : Type 0 where
  pub kept : GroundInvariant m t it
  pub named : names_as AsCons (it.map.role at) ≡ Some n
  pub survives : (region : ℕ) → IsOld t region → IsKeptValue t registers it.store it.aim (V.Ref n)

-- the same for some map, and the address isn't old
pub record IsReadableAt (m : Memory.Store) (t : Table) (at : ℕ) : Type 0 where
  pub it : Interpretation
  pub registers : List Value
  pub name : ℕ
  pub can : CanReadAt m t it registers at name
  pub fresh : IsOld t (at / 4096) → ⊥

-- a part of that cons can become the value of a word
pub record CanSetAt (m : Memory.Store) (t : Table) (at : ℕ) (word : Parts) : Type 0 where
  pub it : Interpretation
  pub registers : List Value
  pub name : ℕ
  pub can : CanReadAt m t it registers at name
  pub fresh : IsOld t (at / 4096) → ⊥
  pub value : Value
  pub value_is : value_of it.map.role word.content ≡ Some value
  pub young : RefersToOld t word → ⊥

abbrev pub ReadsCarAt : Memory.Store → Table → Memory.Store → Table → ℕ → Parts → Type 0
ReadsCarAt m t m' t' at word =
    (it : Interpretation) (registers : List Value) (n : ℕ) (car cdr : Value)
    → CanReadAt m t it registers at n → (object it.store n).body ≡ Cons car cdr → MeansOn m t m' t' it word car

abbrev pub ReadsCdrAt : Memory.Store → Table → Memory.Store → Table → ℕ → Parts → Type 0
ReadsCdrAt m t m' t' at word =
    (it : Interpretation) (registers : List Value) (n : ℕ) (car cdr : Value)
    → CanReadAt m t it registers at n → (object it.store n).body ≡ Cons car cdr → MeansOn m t m' t' it word cdr

abbrev pub KeepsConsAt : Memory.Store → Table → Memory.Store → Table → ℕ → Type 0
KeepsConsAt m t m' t' at =
    (it : Interpretation) (registers : List Value) (n : ℕ)
    → CanReadAt m t it registers at n → RepresentedByLaterMap m t m' t' it

abbrev pub SetsCarAt : Memory.Store → Table → Memory.Store → Table → ℕ → Content → Type 0
SetsCarAt m t m' t' at written =
    (it : Interpretation) (registers : List Value) (n : ℕ) (car cdr new : Value)
    → CanReadAt m t it registers at n → (object it.store n).body ≡ Cons car cdr → value_of it.map.role written ≡ Some new
    → SetOn m t m' t' it (put_body it.store n (Cons new cdr)) 0

abbrev pub SetsCdrAt : Memory.Store → Table → Memory.Store → Table → ℕ → Content → Type 0
SetsCdrAt m t m' t' at written =
    (it : Interpretation) (registers : List Value) (n : ℕ) (car cdr new : Value)
    → CanReadAt m t it registers at n → (object it.store n).body ≡ Cons car cdr → value_of it.map.role written ≡ Some new
    → SetOn m t m' t' it (put_body it.store n (Cons car new)) 2

same_name : (n i : ℕ) → V.Ref n ≡ V.Ref i → n ≡ i
same_name n i e = cc

-- From a word to the address in it

-- the value is that of a cons
record NamesCons (m : Memory.Store) (t : Table) (it : Interpretation) (registers : List Value) (at : ℕ) (v : Value) : Type 0 where
  name : ℕ
  value : v ≡ V.Ref name
  can : CanReadAt m t it registers at name

module _ (m : Memory.Store) (t : Table) (content : Content) (at : ℕ) (is : content ≡ ListAt at) where
  names_cons : (it : Interpretation) (registers : List Value) (v : Value) → CanRead m t it registers content v → NamesCons m t it registers at v
  names_cons it registers v can =
      let r = references_lead.values m t it can.kept AsCons at v (sym (ap (value_of it.map.role) is) ∙ can.value_is) in
      record {
        name = r.name;
        value = r.value;
        can = record { kept = can.kept; named = r.named; survives = λ region old. subst (IsKeptValue t registers it.store it.aim) r.value (can.survives region old) };
      }

  pub read_at : (it : Interpretation) (registers : List Value) (n : ℕ) → CanRead m t it registers content (V.Ref n) → CanReadAt m t it registers at n
  read_at it registers n can =
      let x = names_cons it registers (V.Ref n) can in
      subst (CanReadAt m t it registers at) (sym (same_name n x.name x.value)) x.can

  pub reads_car : (m' : Memory.Store) (t' : Table) (word : Parts) → ReadsCarAt m t m' t' at word → ReadsCar m t m' t' content word
  reads_car m' t' word reads it registers n car cdr can = reads it registers n car cdr (read_at it registers n can)

  pub reads_cdr_of : (m' : Memory.Store) (t' : Table) (word : Parts) → ReadsCdrAt m t m' t' at word → ReadsCdr m t m' t' content word
  reads_cdr_of m' t' word reads it registers n car cdr can = reads it registers n car cdr (read_at it registers n can)

  pub keeps_cons : (m' : Memory.Store) (t' : Table) → KeepsConsAt m t m' t' at → KeepsCons m t m' t' content
  keeps_cons m' t' keeps it registers v can =
      let x = names_cons it registers v can in
      keeps it registers x.name x.can

  pub sets_car : (m' : Memory.Store) (t' : Table) (written : Content) → SetsCarAt m t m' t' at written → SetsCar m t m' t' content written
  sets_car m' t' written sets it registers n car cdr new can = sets it registers n car cdr new (read_at it registers n can)

  pub sets_cdr : (m' : Memory.Store) (t' : Table) (written : Content) → SetsCdrAt m t m' t' at written → SetsCdr m t m' t' content written
  sets_cdr m' t' written sets it registers n car cdr new can = sets it registers n car cdr new (read_at it registers n can)

pub readable_at : (m : Memory.Store) (t : Table) (word : Parts) (at : ℕ) → word.content ≡ ListAt at → IsReadable m t word → IsReadableAt m t at
readable_at m t word at is x =
    let named = names_cons m t word.content at is x.it x.registers x.value x.can in
    record {
      it = x.it;
      registers = x.registers;
      name = named.name;
      can = named.can;
      fresh = λ old. x.fresh (at, ap reference_of is, old);
    }

pub settable_at : (m : Memory.Store) (t : Table) (of word : Parts) (at : ℕ) → of.content ≡ ListAt at → CanSet m t of word → CanSetAt m t at word
settable_at m t of word at is x =
    let named = names_cons m t of.content at is x.can.it x.can.registers x.can.value x.can.can in
    record {
      it = x.can.it;
      registers = x.can.registers;
      name = named.name;
      can = named.can;
      fresh = λ old. x.can.fresh (at, ap reference_of is, old);
      value = x.new;
      value_is = x.new_is;
      young = x.young;
    }

-- the same for a reference
pub set_here : (m : Memory.Store) (t : Table) (at : ℕ) (word : Parts) → CanSet m t (plain (ListAt at)) word → CanSetAt m t at word
set_here m t at word x = settable_at m t (plain (ListAt at)) word at refl x

-- And from an address to a reference

same_address : (a b : ℕ) → Some a ≡ Some b → a ≡ b
same_address a b e = cc

module _ (m : Memory.Store) (t : Table) (at : ℕ) where
  read_word : (it : Interpretation) (registers : List Value) (n : ℕ) → CanReadAt m t it registers at n → CanRead m t it registers (ListAt at) (V.Ref n)
  read_word it registers n can = record { kept = can.kept; value_is = ap as_ref can.named; survives = can.survives }

  pub settable_word : (word : Parts) → CanSetAt m t at word → CanSet m t (plain (ListAt at)) word
  settable_word word x = record {
    can = record {
      it = x.it;
      registers = x.registers;
      value = V.Ref x.name;
      can = read_word x.it x.registers x.name x.can;
      fresh = λ old. x.fresh (subst (λ (a : ℕ). IsOld t (a / 4096)) (sym (same_address at old.0 old.1)) old.2);
    };
    new = x.value;
    new_is = x.value_is;
    young = x.young;
  }

  pub keeps_at : (m' : Memory.Store) (t' : Table) → KeepsCons m t m' t' (ListAt at) → KeepsConsAt m t m' t' at
  keeps_at m' t' keeps it registers n can = keeps it registers (V.Ref n) (read_word it registers n can)

  pub sets_cdr_at : (m' : Memory.Store) (t' : Table) (written : Content) → SetsCdr m t m' t' (ListAt at) written → SetsCdrAt m t m' t' at written
  sets_cdr_at m' t' written sets it registers n car cdr new can = sets it registers n car cdr new (read_word it registers n can)
