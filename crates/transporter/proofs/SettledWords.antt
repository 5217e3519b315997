-- A word is settled.
use Rattle.std.proofs.Common.{ℕ, ◌≡◌, ◌/◌, ◌^◌, ◌<◌, List, Option, Some, None, refl, sym, ◌∙◌, ap, subst, inr, arith}
use Rattle.store_word.specs.Words.{Parts}
use Rattle.store_word.specs.declared.word.Content.{Content}
use Rattle.store_word.specs.declared.word.Content.TheVariants.{Null, Nil as NilWord, List as ListAt, Struct as StructAt, Header, HeaderForward, GcForward, Fixnum}
use Rattle.area_space.specs.lisp_graph.declared.object.Value.{Value}
use Rattle.area_space.specs.lisp_graph.declared.object.Value.TheVariants as V
use Rattle.mem_port.specs.Store.{Store}
use Rattle.area_space.specs.Table.{Table, live, stale, IsLive, IsOld}
use Rattle.area_space.specs.Sound.{IsTable}
use Rattle.lisp_ground.specs.lisp_meaning.Roles.{Kind, AsCons, AsBlock, Role, names_as, as_ref, value_of}
use Rattle.lisp_ground.specs.GroundInvariant.{GroundInvariant}
use Rattle.transporter.specs.Settling.{reference_of, content_to, readdressed, CanSettle, IsSettleable, Settles, SettlesOn}
use Rattle.transporter.specs.Transports.{CanTransport, IsTransportable, ReachesOn}
use Rattle.transporter.proofs.ParcelRoles.{not_blank}
use Rattle.lisp_ground.specs.lisp_meaning.Interpretation.{Interpretation}
use Rattle.transporter.proofs.MovedParcels.{role_inside}

-- A reference with a value

-- what it is a reference to: an object of a kind, by name
pub record Names (role : ℕ → Role) (content : Content) (at : ℕ) (v : Value) : Type 0 where
  pub kind : Kind
  pub name : ℕ
  pub named : names_as kind (role at) ≡ Some name
  pub value : v ≡ V.Ref name
  -- and any other reference of the kind to it has the same value
  pub again : (new : ℕ → Role) (to : ℕ) → names_as kind (new to) ≡ Some name → value_of new (content_to content to) ≡ Some v
  pub other : (to : ℕ) → reference_of (content_to content to) ≡ Some to

ref_name : (o : Option ℕ) (v : Value) → as_ref o ≡ Some v → (n : ℕ) × (o ≡ Some n) × (v ≡ V.Ref n)
ref_name None v e = absurd (cc)
ref_name (Some n) v e = (n, refl, (let x : V.Ref n ≡ v = cc in sym x))

-- a reference of a kind, by what its address is
names-by : (role : ℕ → Role) (kind : Kind) (content : Content) (at : ℕ) (v : Value) → ((new : ℕ → Role) (to : ℕ) → value_of new (content_to content to) ≡ as_ref (names_as kind (new to))) → ((to : ℕ) → reference_of (content_to content to) ≡ Some to)
    → as_ref (names_as kind (role at)) ≡ Some v → Names role content at v
names-by role kind content at v means other value =
    let r = ref_name (names_as kind (role at)) v value in
    record {
      kind = kind;
      name = r.0;
      named = r.1;
      value = r.2;
      again = λ new to named. means new to ∙ ap as_ref named ∙ ap Some (sym r.2);
      other = other;
    }

pub names-of : (role : ℕ → Role) (content : Content) (at : ℕ) (v : Value) → reference_of content ≡ Some at → value_of role content ≡ Some v → Names role content at v
names-of role (ListAt a) at v ref value =
    let same : a ≡ at = cc in
    names-by role AsCons (ListAt a) at v (λ new to. refl) (λ to. refl) (ap (λ (b : ℕ). as_ref (names_as AsCons (role b))) (sym same) ∙ value)
names-of role (StructAt a) at v ref value =
    let same : a ≡ at = cc in
    names-by role AsBlock (StructAt a) at v (λ new to. refl) (λ to. refl) (ap (λ (b : ℕ). as_ref (names_as AsBlock (role b))) (sym same) ∙ value)
names-of role Null at v ref value = absurd (cc)
names-of role NilWord at v ref value = absurd (cc)
names-of role (Header c n) at v ref value = absurd (cc)
names-of role (HeaderForward a) at v ref value = absurd (cc)
names-of role (GcForward a) at v ref value = absurd (cc)
names-of role (Fixnum i) at v ref value = absurd (cc)

-- Before

pub reference-inside : {m : Store} {t : Table} {word : Parts} (at : ℕ) → IsSettleable m t word → reference_of word.content ≡ Some at → at / 4096 < t.regions
reference-inside {m} {t} {word} at x ref =
    let n = names-of x.it.map.role word.content at x.value ref (x.can.value at ref) in
    let inside = role_inside m t x.it x.can.kept at (not_blank (x.it.map.role at) n.kind n.name n.named) in
    let size = x.can.kept.ground.size in
    omega arith

pub settle-transport : (m : Store) (t : Table) (it : Interpretation) (registers : List Value) (word : Parts) (v : Value) (at : ℕ) → CanSettle m t it registers word v
    → (ref : reference_of word.content ≡ Some at) → IsOld t (at / 4096) → (names : Names it.map.role word.content at v) → CanTransport m t it registers names.kind at names.name
settle-transport m t it registers word v at can ref old names =
    let keeps = can.survives (at, ref, old) in
    record {
      kept = can.kept;
      survives = record { named = names.named; kept = keeps.name names.name names.value; reaches = keeps.reaches };
      running = keeps.running;
    }

pub settle-transportable : {m : Store} {t : Table} {word : Parts} (at : ℕ) → IsSettleable m t word → reference_of word.content ≡ Some at → IsOld t (at / 4096) → IsTransportable m t at
settle-transportable {m} {t} {word} at x ref old =
    let names = names-of x.it.map.role word.content at x.value ref (x.can.value at ref) in
    record {
      it = x.it;
      registers = x.registers;
      kind = names.kind;
      name = names.name;
      can = settle-transport m t x.it x.registers word x.value at x.can ref old names;
    }

-- After

-- an address of a live region is below 2^28
pub live-small : {t : Table} {to : ℕ} → IsTable t → IsLive t (to / 4096) → to < 2 ^ 28
live-small {t} {to} v alive = let inside = v.sound.within (live alive.0) (to / 4096) alive.1 in let few = v.few_regions in omega arith

pub live-not_old : {t : Table} {region : ℕ} → IsTable t → IsLive t region → IsOld t region → ⊥
live-not_old {t} {region} v alive old = let both = v.sound.one_list (live alive.0) (stale old.0) region alive.1 old.1 in omega arith

-- nothing is old
pub settles-same : (m : Store) (t : Table) (it : Interpretation) (word : Parts) → GroundInvariant m t it → SettlesOn m t m t it word word
settles-same m t it word on = record {
  later = record { map = it.map; kept = on; refines = λ kind a n e. e; work = omega arith };
  value = λ v e. e;
}

-- the object was transported
pub settles-moved : (m m' : Store) (t t' : Table) (it : Interpretation) (word : Parts) (v : Value) (at to : ℕ) → reference_of word.content ≡ Some at → value_of it.map.role word.content ≡ Some v
    → (names : Names it.map.role word.content at v) → ReachesOn m t m' t' it names.kind to names.name → SettlesOn m t m' t' it word (readdressed word to)
settles-moved m m' t t' it word v at to ref value names r = record {
  later = r.later;
  value = λ w e.
      let same : v ≡ w = (let x = sym value ∙ e in cc) in
      names.again r.later.map.role to r.named ∙ ap Some same;
}

pub settles-word : {t t' : Table} {word : Parts} {at : ℕ} (to : ℕ) (content : (b : ℕ) → reference_of (content_to word.content b) ≡ Some b) → reference_of word.content ≡ Some at → IsOld t (at / 4096) → IsTable t' → IsLive t' (to / 4096)
    → Settles t t' word (readdressed word to)
settles-word {t} {t'} {word} {at} to content ref old v alive = record {
  is = inr (to, (at, ref, old), refl);
  fresh = λ x. (
      let same : to ≡ x.0 = (let e = sym (content to) ∙ x.1 in cc) in
      live-not_old v alive (subst (λ (a : ℕ). IsOld t' (a / 4096)) (sym same) x.2));
}
