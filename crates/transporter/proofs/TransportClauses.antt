-- The clauses of a transport, put together.
use Rattle.std.proofs.Common.{ℕ, ◌≡◌, ◌⊎◌, ◌/◌, ◌<◌, List, Option, Some, None, refl, sym, ◌∙◌, ap, subst, inl, inr, arith}
use Rattle.std.specs.Prelude.{IsSome}
use Rattle.store_word.specs.Words.{Parts}
use Rattle.area_space.specs.lisp_graph.declared.object.Value.{Value}
use Rattle.area_space.specs.lisp_graph.declared.command.Condemn.{Condemn}
use Rattle.mem_port.specs.Store.{Store, StoresNothing}
use Rattle.area_space.specs.Table.{Table, areas_of, levels_of, IsLive, IsOld, IsUnclassed}
use Rattle.obj_layout.specs.Forwards.{Final, HasFinal, IsFinal}
use Rattle.obj_layout.proofs.ForwardChains.{stores_nothing-twice}
use Rattle.lisp_ground.specs.lisp_meaning.Classes.{classes}
use Rattle.lisp_ground.specs.lisp_meaning.Roles.{Kind}
use Rattle.lisp_ground.specs.Image.{ground_image}
use Rattle.lisp_ground.specs.After.{old_on}
use Rattle.lisp_ground.specs.Placing.{Opens}
use Rattle.lisp_ground.proofs.words.FinalAddresses.{has_final}
use Rattle.lisp_ground.proofs.words.Values.{named_used}
use Rattle.lisp_ground.proofs.regions.Owners.{region_cases}
use Rattle.lisp_ground.proofs.words.Places.{place_kept_on}
use Rattle.lisp_ground.proofs.invariant.WordStores.{kept_on_same}
use Rattle.transporter.specs.Parcels.{IsParcel, StandsWhole}
use Rattle.transporter.specs.LiveWordsUnchanged.{LiveWordsUnchanged}
use Rattle.transporter.specs.Relocations.{OpensAtMost, IsMovable, MovesHere}
use Rattle.transporter.specs.Transports.{CanTransport, IsTransportable, ReachesOn, MovesFrom, moved as moved_from, WordsUnchanged}
use Rattle.transporter.proofs.ParcelRoles.{named-along}
use Rattle.lisp_ground.specs.lisp_meaning.Interpretation.{Interpretation}
use Rattle.transporter.proofs.MovedParcels.{opened-words}
use Rattle.transporter.proofs.MovableParcels.{stands-whole, movable}
use Rattle.transporter.proofs.LiveObjects.{live-read, live-then, live-relocated, live-faulted}
use Rattle.transporter.proofs.MovedObjects.{old-opened, moved-later}

-- Before

-- an object has a final address
pub can-final : {m : Store} {t : Table} {at : ℕ} → IsTransportable m t at → HasFinal m.words at
can-final {m} {t} {at} x = has_final m t x.it x.can.kept x.kind at x.name x.can.survives.named

-- a reference to it may be followed first
pub can-along : (m mid : Store) (t : Table) (it : Interpretation) (registers : List Value) (kind : Kind) (at here n : ℕ) → CanTransport m t it registers kind at n
    → Final m.words at here → StoresNothing m mid → CanTransport mid t it registers kind here n
can-along m mid t it registers kind at here n can final stays = record {
  kept = kept_on_same m mid t it can.kept stays;
  survives = record {
    named = named-along m.words (classes (ground_image m t)) it.map it.store can.kept.kept.roled kind n final.2 can.survives.named;
    kept = can.survives.kept;
    reaches = can.survives.reaches;
  };
  running = can.running;
}

-- if its final address is old, it is ready to move
pub can-whole : {m mid : Store} {t : Table} {at : ℕ} (here : ℕ) → IsTransportable m t at → Final m.words at here → IsFinal m.words here → StoresNothing m mid → StandsWhole mid.words here
can-whole {m} {mid} {t} {at} here x final last stays =
    let c = can-along m mid t x.it x.registers x.kind at here x.name x.can final stays in
    stands-whole mid t x.it c.kept x.name here (subst (λ (ws : List Parts). IsFinal ws here) (sym stays.words) last) x.kind c.survives.named

some-aim : (aim : Option Condemn) (what : Condemn) → aim ≡ Some what → IsSome aim
some-aim aim what is = rw is refl

pub can-movable : {m mid : Store} {t : Table} {at : ℕ} (here : ℕ) → IsTransportable m t at → Final m.words at here → IsFinal m.words here → StoresNothing m mid → IsOld t (here / 4096) → IsMovable mid t here
can-movable {m} {mid} {t} {at} here x final last stays old =
    let c = can-along m mid t x.it x.registers x.kind at here x.name x.can final stays in
    movable mid t x.it c.kept x.name here (subst (λ (ws : List Parts). IsFinal ws here) (sym stays.words) last) x.kind c.survives.named old (some-aim t.aim x.it.aim.what x.can.running)

-- After

-- the object is there, live
pub reaches-there : (m mid : Store) (t : Table) (it : Interpretation) (registers : List Value) (kind : Kind) (at here n : ℕ) → CanTransport m t it registers kind at n
    → Final m.words at here → IsFinal m.words here → StoresNothing m mid → (IsOld t (here / 4096) → ⊥) → ReachesOn m t mid t it kind here n
reaches-there m mid t it registers kind at here n can final last stays not_old =
    let c = can-along m mid t it registers kind at here n can final stays in
    let same : old_on mid t it.store it.aim it.map.at ≡ old_on m t it.store it.aim it.map.at = refl in
    record {
      later = record { map = it.map; kept = c.kept; refines = λ kind a n e. e; work = omega arith };
      named = c.survives.named;
      live = go c (region_cases t (here / 4096));
      final = subst (λ (ws : List Parts). IsFinal ws here) (sym stays.words) last;
    }
  where
    go : CanTransport mid t it registers kind here n → IsUnclassed t (here / 4096) ⊎ (IsLive t (here / 4096) ⊎ IsOld t (here / 4096)) → IsLive t (here / 4096)
    go c (inl free) = absurd (named_used mid t it c.kept kind here n c.survives.named free)
    go c (inr (inl live)) = live
    go c (inr (inr old)) = absurd (not_old old)

-- it moved there
pub reaches-moved : (m mid m' : Store) (t t' : Table) (it : Interpretation) (registers : List Value) (kind : Kind) (at here to n : ℕ) → CanTransport m t it registers kind at n
    → Final m.words at here → IsFinal m.words here → StoresNothing m mid → MovesHere mid t m' t' here to → ReachesOn m t m' t' it kind to n
reaches-moved m mid m' t t' it registers kind at here to n can final last stays moved =
    let all = stores_nothing-twice stays moved.stays in
    let c = can-along m moved.read t it registers kind at here n can final all in
    let r = moved-later moved.read t it registers kind here n c (subst (λ (ws : List Parts). IsFinal ws here) (sym all.words) last) moved.parcel
    (subst (λ (ws : List Parts). IsParcel ws here moved.parcel) (sym moved.stays.words) moved.is) moved.fits m' t' to moved.relocates in
    let same : old_on moved.read t it.store it.aim it.map.at ≡ old_on m t it.store it.aim it.map.at = refl in
    record {
      later = record { map = r.later.map; kept = r.later.kept; refines = r.later.refines; work = (let w = r.later.work in omega arith) };
      named = r.named;
      live = r.live;
      final = r.final;
    }

-- its words
pub moves-from : {m mid m' : Store} {t t' : Table} {at : ℕ} (here to : ℕ) → Final m.words at here → StoresNothing m mid → IsOld t (here / 4096) → MovesHere mid t m' t' here to → MovesFrom m t m' t' at to
moves-from {m} {mid} {m'} {t} {t'} {at} here to final stays old moved =
    moved_from here moved.parcel moved.read final old (subst (λ (ws : List Parts). IsParcel ws here moved.parcel) stays.words moved.is) (stores_nothing-twice stays moved.stays) moved.relocates

pub live-after : {m mid m' : Store} {t t' : Table} {at : ℕ} (here to : ℕ) → IsTransportable m t at → StoresNothing m mid → MovesHere mid t m' t' here to → LiveWordsUnchanged m t m' t'
live-after {m} {mid} {m'} {t} {t'} {at} here to x stays moved =
    live-then (live-read (stores_nothing-twice stays moved.stays)) (live-relocated x.can.kept.table moved.fits moved.one_region moved.relocates)

pub live-after_fault : {m mid m' : Store} {t t' : Table} {at : ℕ} → IsTransportable m t at → StoresNothing m mid → OpensAtMost mid t m' t' → LiveWordsUnchanged m t m' t'
live-after_fault {m} {mid} {m'} {t} {t'} {at} x stays o = live-then (live-read stays) (live-faulted x.can.kept.table o)

-- After a swap error

pub stays-read : {m m' : Store} {t : Table} → StoresNothing m m' → WordsUnchanged m t m' t
stays-read {m} {m'} {t} n = record {
  words = n.words;
  placed = refl;
  kept = λ it on. kept_on_same m m' t it on n;
  old = λ it on. refl;
}

stays-then : {m m1 m2 : Store} {t t1 t2 : Table} → WordsUnchanged m t m1 t1 → WordsUnchanged m1 t1 m2 t2 → WordsUnchanged m t m2 t2
stays-then x y = record {
  words = y.words ∙ x.words;
  placed = y.placed ∙ x.placed;
  kept = λ it on. y.kept it (x.kept it on);
  old = λ it on. y.old it (x.kept it on) ∙ x.old it on;
}

stays-opened : {m m' : Store} {t t' : Table} {area level : ℕ} (region : Option ℕ) → area < areas_of t → level < levels_of t → Opens m t m' t' region area level → WordsUnchanged m t m' t'
stays-opened {m} {m'} {t} {t'} {area} {level} region area_in level_in o = record {
  words = opened-words region o;
  placed = go region o;
  kept = λ it on. place_kept_on m m' t t' region area level it on area_in level_in o;
  old = λ it on. old-opened m m' t t' region area level it on (place_kept_on m m' t t' region area level it on area_in level_in o) area_in level_in o;
}
  where
    go : (r : Option ℕ) → Opens m t m' t' r area level → t'.placed ≡ t.placed
    go None o = ap (λ (u : Table). u.placed) o.same
    go (Some r) o = ap (λ (u : Table). u.placed) o.chain

pub stays-faulted : {m mid m' : Store} {t t' : Table} → StoresNothing m mid → OpensAtMost mid t m' t' → WordsUnchanged m t m' t'
stays-faulted {m} {mid} {m'} {t} {t'} stays (inl x) = subst (λ (u : Table). WordsUnchanged m t m' u) (sym x.1) (stays-read (stores_nothing-twice stays x.0))
stays-faulted {m} {mid} {m'} {t} {t'} stays (inr x) =
    let o = x.2 in
    stays-then (stays-read (stores_nothing-twice stays x.1)) (stays-then (stays-opened o.region o.area_in o.level_in o.opens) (stays-read o.stays))
