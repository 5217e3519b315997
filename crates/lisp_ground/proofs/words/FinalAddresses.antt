-- Final addresses on a ground: they are the places of objects.
use Rattle.std.proofs.Common.{◌≡◌, ℕ, suc, ◌+◌, ◌<◌, inl, inr, IsTrue, List, length, refl, sym, ◌∙◌, ap, subst, arith, Some}
use Rattle.area_space.specs.store_word.Words.{Parts}
use Rattle.area_space.specs.store_word.declared.word.Content.{Content}
use Rattle.area_space.specs.store_word.declared.word.Content.TheVariants.{Null, Nil as NilWord, Fixnum, List as ListAt, Struct as StructAt, Header, HeaderForward, GcForward}
use Rattle.area_space.specs.mem_port.Store.{Store}
use Rattle.area_space.specs.Table.{Table}
use Rattle.lisp_meaning.specs.State.{in_use, object}
use Rattle.lisp_meaning.specs.Image.{Image, word, is_used}
use Rattle.lisp_meaning.specs.Classes.{classes}
use Rattle.lisp_meaning.specs.Forwards as G
use Rattle.lisp_meaning.specs.Roles.{Kind, AsCons, AsBlock, Role, names_as, kind_of, Begins}
use Rattle.lisp_meaning.specs.Rewriting.{StandsThere}
use Rattle.lisp_meaning.proofs.roles.Chains.{named_by}
use Rattle.lisp_meaning.proofs.roles.FinalAddresses.{final, kind_named}
use Rattle.lisp_meaning.proofs.maps.Patches.{begins_owner}
use Rattle.lisp_meaning.proofs.reading.ReadRoles.{used_where}
use Rattle.obj_layout.specs.Forwards as F
use Rattle.obj_layout.specs.Forwards.{word_at, Final, HasFinal, IsFinal}
use Rattle.obj_layout.proofs.ForwardChains.{leads-same}
use Rattle.lisp_ground.specs.Image.{ground_image}
use Rattle.lisp_ground.specs.GroundInvariant.{GroundInvariant}
use Rattle.lisp_meaning.specs.Interpretation.{Interpretation}
use Rattle.lisp_ground.proofs.invariant.WordStores.{used_inside}

-- Both layers follow forwards alike

pub same_forward : (c : Content) → F.forward_of c ≡ G.forward_of c
same_forward Null = refl
same_forward NilWord = refl
same_forward (Fixnum i) = refl
same_forward (ListAt a) = refl
same_forward (StructAt a) = refl
same_forward (Header code size) = refl
same_forward (HeaderForward a) = refl
same_forward (GcForward a) = refl

same_leads : (m : Store) (t : Table) (moves relays a b : ℕ) → G.Leads (ground_image m t) moves relays a b → F.Leads m.words (relays + moves) a b
same_leads m t moves relays a b (G.here none) = F.here (same_forward (word_at m.words a).content ∙ none)
same_leads m t moves relays a b (G.gc_forward {moves = left} {b = next} forward rest) =
    let P : ℕ → Type 0 = λ n. F.Leads m.words n a b in
    subst P (let z : suc (relays + left) ≡ relays + suc left = omega arith in z) (F.on (ap F.forward_of forward) (same_leads m t left relays next b rest))
same_leads m t moves relays a b (G.header_forward {relays = left} {b = next} forward rest) =
    let P : ℕ → Type 0 = λ n. F.Leads m.words n a b in
    subst P (let z : suc (left + moves) ≡ suc left + moves = omega arith in z) (F.on (ap F.forward_of forward) (same_leads m t moves left next b rest))

pub same_final : (m : Store) (t : Table) (a b : ℕ) → G.Final (ground_image m t) a b → Final m.words a b
same_final m t a b f = (f.1 + f.0, (let l = f.2 in let h = f.3 in omega arith), same_leads m t f.0 f.1 a b f.4)

pub one_final : (words : List Parts) (a b c : ℕ) → Final words a b → Final words a c → b ≡ c
one_final words a b c f h = leads-same f.2 h.2

module _ (m : Store) (t : Table) (it : Interpretation) (on : GroundInvariant m t it) where
  abbrev g : Image
  g = ground_image m t

  -- a name that is used has its place below a used end, in the memory
  pub place_used : (n : ℕ) → in_use it.store n → IsTrue (is_used g (it.map.at n))
  place_used n u = (used_where g it.map it.store on.kept.roled on.kept.covered (it.map.at n) n (begins_owner (kind_of (object it.store n).body) (it.map.role (it.map.at n)) n (on.kept.roled.begins n u))).0

  pub place_inside : (n : ℕ) → in_use it.store n → it.map.at n < length m.words
  place_inside n u = used_inside m t (it.map.at n) on.table on.ground (place_used n u)

  -- an address with a name: the name is used, and its place is the final address
  module _ (kind : Kind) (a n : ℕ) (named : names_as kind (it.map.role a) ≡ Some n) where
    pub name_in_use : in_use it.store n
    name_in_use = (named_by (word g) (classes g) it.map it.store kind n a (it.map.role a) (on.kept.roled.fits a) named).used

    pub final_place : Final m.words a (it.map.at n)
    final_place = same_final m t a (it.map.at n) (final g (classes g) it.map it.store on.kept.roled kind n a named)

    pub has_final : HasFinal m.words a
    has_final = (it.map.at n, place_inside n name_in_use, final_place)

    pub final_is_place : (b : ℕ) → Final m.words a b → b ≡ it.map.at n
    final_is_place b f = one_final m.words a b (it.map.at n) f final_place

    -- which has the name, and is of that kind
    pub named_as_kind : kind_of (object it.store n).body ≡ kind
    named_as_kind = kind_named g (classes g) it.map it.store on.kept.roled kind n a named

    pub place_named : names_as kind (it.map.role (it.map.at n)) ≡ Some n
    place_named = subst (λ (x : Kind). names_as x (it.map.role (it.map.at n)) ≡ Some n) named_as_kind (begun (kind_of (object it.store n).body) (it.map.role (it.map.at n)) (on.kept.roled.begins n name_in_use))
      where
        begun : (x : Kind) (r : Role) → Begins x r n → names_as x r ≡ Some n
        begun AsCons r (inl e) = ap (names_as AsCons) e
        begun AsCons r (inr e) = ap (names_as AsCons) e.1
        begun AsBlock r e = ap (names_as AsBlock) e

    -- the object is there
    pub stands_there : (b : ℕ) → Final m.words a b → IsFinal m.words b → StandsThere g it.map kind b n
    stands_there b f is = record {
      named = ap (λ (x : ℕ). names_as kind (it.map.role x)) (final_is_place b f) ∙ place_named;
      here = sym (same_forward (word_at m.words b).content) ∙ is.no_forward;
    }

  -- at the place of an object there is no forward
  pub final_here : (kind : Kind) (b n : ℕ) → StandsThere g it.map kind b n → IsFinal m.words b
  final_here kind b n st = record {
    inside = subst (λ (x : ℕ). x < length m.words) (sym (final_is_place kind b n st.named b (0, omega arith, F.here (same_forward (word_at m.words b).content ∙ st.here)))) (place_inside n (name_in_use kind b n st.named));
    no_forward = same_forward (word_at m.words b).content ∙ st.here;
  }

  pub at_place : (kind : Kind) (b n : ℕ) → StandsThere g it.map kind b n → b ≡ it.map.at n
  at_place kind b n st = final_is_place kind b n st.named b (0, omega arith, F.here (same_forward (word_at m.words b).content ∙ st.here))
