-- A new machine, a flip of it, and its registers as they are settled.
use Rattle.std.proofs.Common.{ℕ, zero, suc, ◌≡◌, ◌⊎◌, ◌+◌, ◌*◌, ◌/◌, ◌<◌, ◌≤◌, Bool, true, false, ◌&&◌, ◌||◌, nat_lt, None, List, [], ◌∷◌, length, get_or, Some, IsTrue, refl, sym, ◌∙◌, ap, subst, inl, inr, arith}
use Rattle.std.specs.Prelude.{Contains, replicate, slice_index_or}
use Rattle.std.proofs.lemmas.Bool.{or_right, and_parts, and_cases, cases_lt, ltb-false}
use Rattle.std.proofs.lemmas.List.{get_or-replicate, get_or_past, length-replicate}
use Rattle.store_word.specs.Words.{Parts, null_word, address_of}
use Rattle.store_word.specs.declared.space.Space.{Space}
use Rattle.store_word.specs.declared.word.Content.TheVariants.{Nil as NilWord}
use Rattle.lisp_graph.specs.declared.object.Value.{Value}
use Rattle.lisp_graph.specs.declared.object.Value.TheVariants as V
use Rattle.lisp_graph.specs.declared.command.Condemn.{Condemn}
use Rattle.lisp_graph.specs.declared.world.AreaRule.{AreaRule}
use Rattle.lisp_graph.specs.Graph.{is_ref, refers_in}
use Rattle.lisp_graph.specs.World.{AreAreas}
use Rattle.mem_port.specs.Store.{Store, StoresNothing, IsFresh, MarksHold}
use Rattle.area_space.specs.Table.{Table, stale, used_of, IsOld}
use Rattle.area_space.specs.Sound.{IsTable}
use Rattle.area_space.specs.Fresh.{fresh, quotas_in, RoomRuleFor}
use Rattle.area_space.specs.Flips.{Condemns}
use Rattle.area_space.specs.Ground.{IsGround, NamesNoFree}
use Rattle.area_space.proofs.EmptyTable.{room_from}
use Rattle.transporter.specs.lisp_meaning.State.{State, Idle}
use Rattle.transporter.specs.lisp_meaning.Image.{Standing, Free, Live, Old, is_live, word, region, old_at, is_used}
use Rattle.transporter.specs.lisp_meaning.Stands.{Fresh}
use Rattle.transporter.proofs.lisp_ground.words.Words.{get_or_here}
use Rattle.transporter.proofs.lisp_ground.words.UsedWords.{is_used_as}
use Rattle.transporter.specs.lisp_meaning.Opening.{opening}
use Rattle.transporter.specs.lisp_meaning.Empty.{blank_map}
use Rattle.transporter.specs.lisp_meaning.Flip.{flipped}
use Rattle.transporter.specs.lisp_meaning.Units.{units_left}
use Rattle.transporter.specs.lisp_meaning.Roles.{value_of}
use Rattle.transporter.proofs.lisp_meaning.maps.Frames.{refined}
use Rattle.transporter.proofs.lisp_meaning.closure.ClosedSets.{is_ref-same}
use Rattle.transporter.specs.lisp_ground.Image.{Rest, image_of, ground_image}
use Rattle.transporter.specs.lisp_ground.GroundInvariant.{GroundInvariant}
use Rattle.transporter.specs.lisp_meaning.Interpretation.{by_map, interpretation}
use Rattle.transporter.specs.lisp_ground.Collecting.{StandsOn}
use Rattle.transporter.proofs.lisp_ground.invariant.EmptyMachine.{fresh_kept_on}
use Rattle.transporter.proofs.lisp_ground.invariant.OfImage.{kept_image}
use Rattle.transporter.proofs.lisp_ground.invariant.Collections.{flipped_on}
use Rattle.transporter.proofs.lisp_ground.regions.OldAndLive.{old_region}
use Rattle.transporter.proofs.lisp_ground.invariant.WordStores.{kept_on_same}
use Rattle.transporter.specs.LiveWordsUnchanged.{LiveWordsUnchanged}
use Rattle.transporter.specs.Settling.{CanSettle, IsSettleable, SettlesOn}
use Rattle.transporter.specs.Transports.{RepresentedByLaterMap, WordsUnchanged}
use Rattle.test_ground.specs.Trials.{IsOpen, IsRunning, open_objects}

-- A new machine

pub open-new : {m : Store} {t : Table} {front middle : Parts} (space : Space) (areas : List AreaRule) → IsFresh m space.regions space.levels → t ≡ fresh space.regions space.levels areas → IsTable t → RoomRuleFor space.regions space.levels areas → AreAreas areas
    → front.content ≡ NilWord → middle.content ≡ NilWord → IsOpen m t front middle
open-new {m} {t} {front} {middle} space areas f is v room are front_is middle_is =
    let on = fresh_kept_on m (record { space = space; areas = areas; objects = []; roots = V.Nil ∷ V.Nil ∷ [] }) space.regions f (subst IsTable is v) (room_from space.regions space.levels areas room) (record { objects = refl; roots = nil }) in
    record {
      map = blank_map;
      space = space;
      areas = areas;
      store = (opening (record { space = space; areas = areas; objects = []; roots = V.Nil ∷ V.Nil ∷ [] })).store;
      first = V.Nil;
      second = V.Nil;
      on = subst (λ (u : Table). GroundInvariant m u (open_objects blank_map space areas (opening (record { space = space; areas = areas; objects = []; roots = V.Nil ∷ V.Nil ∷ [] })).store)) (sym is) on;
      front_is = ap (value_of blank_map.role) front_is;
      middle_is = ap (value_of blank_map.role) middle_is;
      idle = ap (λ (u : Table). u.aim) is;
      young = λ region old. none (subst (λ (u : Table). IsOld u region) is old);
      some = are.count.0;
    }
  where
    nil : (r : ℕ) → r < 2 → get_or (V.Nil ∷ V.Nil ∷ []) r V.Nil ≡ V.Nil
    nil zero l = refl
    nil (suc zero) l = refl
    nil (suc (suc r)) l = absurd (omega arith)

    empty : {region : ℕ} (n c : ℕ) → Contains (slice_index_or (replicate n []) c []) region → ⊥
    empty {region} n c has = go (cases_lt c n)
      where
        none : Contains {X = ℕ} [] region → ⊥
        none x = let y = x.1 in omega arith

        go : (c < n) ⊎ (n ≤ c) → ⊥
        go (inl l) = none (subst (λ (xs : List ℕ). Contains xs region) (get_or-replicate n c [] [] l) has)
        go (inr past) = none (subst (λ (xs : List ℕ). Contains xs region) (get_or_past (replicate n []) c [] (let size : length (replicate {A = List ℕ} n []) ≡ n = length-replicate n [] in omega arith)) has)

    none : {region : ℕ} → IsOld (fresh space.regions space.levels areas) region → ⊥
    none {region} old = empty (2 * (length (quotas_in areas) * (space.levels + 1))) (stale old.0) old.1

-- A flip

standing_live : (s : Standing) → is_live s ≡ true → s ≡ Live
standing_live Live e = refl
standing_live Free e = absurd (cc)
standing_live Old e = absurd (cc)

module _ (m : Store) (t u : Table) (front middle : Parts) (x : IsOpen m t front middle) (what : Condemn) (condemned : Condemns t u what) (ground : IsGround m u) (named : NamesNoFree m u) (v : IsTable u) (marks : MarksHold m) where
  abbrev state : State
  state = record { space = x.space; areas = x.areas; registers = x.first ∷ x.second ∷ []; store = x.store; phase = Idle }

  abbrev rest : Rest
  rest = record { registers = front ∷ middle ∷ []; register_left = λ r. true; word_left = λ a. is_used (ground_image m u) a && is_live (region (ground_image m u) a).standing }

  values : (r : ℕ) → r < 2 → value_of x.map.role (get_or (front ∷ middle ∷ []) r null_word).content ≡ Some (get_or (x.first ∷ x.second ∷ []) r V.Nil)
  values zero l = x.front_is
  values (suc zero) l = x.middle_is
  values (suc (suc r)) l = absurd (omega arith)

  none_old : (a : ℕ) → old_at (image_of m t rest) a ≡ false
  none_old a = go (old_at (image_of m t rest) a) refl
    where
      go : (b : Bool) → old_at (image_of m t rest) a ≡ b → old_at (image_of m t rest) a ≡ false
      go false e = e
      go true e = absurd (x.young (a / 4096) (old_region m t rest x.on.table a e))

  before : StandsOn m t rest x.map state
  before = record {
    strong = record {
      kept = kept_image m t rest (open_objects x.map x.space x.areas x.store) x.on marks;
      count = refl;
      registers = values;
      phase = (x.idle, none_old);
      reach = tt;
      work = tt;
    };
    ground = x.on;
  }

  -- a word of a live region that doesn't remain to be scanned is above its used end, so it is NULL
  shut : (a : ℕ) → a < length m.words → (is_used (ground_image m u) a ≡ false) ⊎ (is_live (region (ground_image m u) a).standing ≡ false) → (region (image_of m u rest) a).standing ≡ Live
      → Fresh (image_of m u rest) (word (image_of m u rest) a).content
  shut a l (inr e) live to has = let z : is_live (region (ground_image m u) a).standing ≡ true = ap is_live live in absurd (cc)
  shut a l (inl e) live to has =
      let used : nat_lt a (4096 * (a / 4096) + used_of u (a / 4096)) ≡ false = sym (is_used_as m u rest a v) ∙ e in
      let past = ltb-false a (4096 * (a / 4096) + used_of u (a / 4096)) used in
      let null : get_or m.words a null_word ≡ null_word = get_or_here m.words a null_word null_word (ground.blank a l (omega arith)) in
      let none : address_of (get_or m.words a null_word).content ≡ None = ap (λ (w : Parts). address_of w.content) null in
      absurd (cc)

  pages : ℕ
  pages = units_left (image_of m u rest)

  after : StandsOn m u rest x.map (flipped state what (units_left (image_of m u rest)))
  after = flipped_on m t u rest rest x.map state what (units_left (image_of m u rest)) before refl (record {
    condemned = condemned;
    fits = record { ground = ground; named = named; table = v; marks = marks };
    registers = refl;
    scanned = record {
      left = λ a l e. (let both = and_parts (is_used (ground_image m u) a) (is_live (region (ground_image m u) a).standing) e in (both.0, standing_live (region (ground_image m u) a).standing both.1));
      registers = λ r l e. absurd (cc);
      words = λ a l live e. shut a l (and_cases (is_used (ground_image m u) a) (is_live (region (ground_image m u) a).standing) e) live;
      finished = λ e. absurd (cc);
      unfinished = λ e. (let z = e.0 0 (omega arith) in absurd (cc));
    };
    units = (let n : ℕ = units_left (image_of m u rest) in omega arith);
  })

  pub running-flipped : IsRunning m u front middle
  running-flipped = record {
    it = interpretation x.map (flipped state what (units_left (image_of m u rest)));
    first = x.first;
    second = x.second;
    on = after.ground;
    front_is = x.front_is;
    middle_is = x.middle_is;
    running = ap (λ (w : Table). w.aim) condemned.same;
    reaches = after.strong.reach;
  }

-- Registers that are settled

first-refers : (n : ℕ) (first second : Value) → first ≡ V.Ref n → IsTrue (refers_in n (first ∷ second ∷ []))
unfolding refers_in
first-refers n first second is = ap (λ (v : Value). is_ref n v || refers_in n (second ∷ [])) is ∙ ap (λ (b : Bool). b || refers_in n (second ∷ [])) (is_ref-same n)

second-refers : (n : ℕ) (first second : Value) → second ≡ V.Ref n → IsTrue (refers_in n (first ∷ second ∷ []))
unfolding refers_in
second-refers n first second is = or_right (is_ref n first) (refers_in n (second ∷ [])) (ap (λ (v : Value). is_ref n v || refers_in n []) is ∙ ap (λ (b : Bool). b || refers_in n []) (is_ref-same n))

pub front-settles : {m : Store} {t : Table} {front middle : Parts} (x : IsRunning m t front middle) → CanSettle m t x.it (x.first ∷ x.second ∷ []) front x.first
front-settles {m} {t} {front} {middle} x = record {
  kept = x.on;
  value = λ at ref. x.front_is;
  survives = λ old. record { running = x.running; reaches = x.reaches; name = λ n is. x.reaches.closed.from_registers n (first-refers n x.first x.second is) };
}

pub middle-settles : {m : Store} {t : Table} {front middle : Parts} (x : IsRunning m t front middle) → CanSettle m t x.it (x.first ∷ x.second ∷ []) middle x.second
middle-settles {m} {t} {front} {middle} x = record {
  kept = x.on;
  value = λ at ref. x.middle_is;
  survives = λ old. record { running = x.running; reaches = x.reaches; name = λ n is. x.reaches.closed.from_registers n (second-refers n x.first x.second is) };
}

pub front-settleable : {m : Store} {t : Table} {front middle : Parts} → IsRunning m t front middle → IsSettleable m t front
front-settleable x = record { it = x.it; registers = x.first ∷ x.second ∷ []; value = x.first; can = front-settles x }

pub middle-settleable : {m : Store} {t : Table} {front middle : Parts} → IsRunning m t front middle → IsSettleable m t middle
middle-settleable x = record { it = x.it; registers = x.first ∷ x.second ∷ []; value = x.second; can = middle-settles x }

-- by a later map
later-running : {m m' : Store} {t t' : Table} {front middle front' middle' : Parts} (x : IsRunning m t front middle) (y : RepresentedByLaterMap m t m' t' x.it) → t'.aim ≡ t.aim
    → value_of y.map.role front'.content ≡ Some x.first → value_of y.map.role middle'.content ≡ Some x.second → IsRunning m' t' front' middle'
later-running x y aim front_is middle_is = record {
  it = by_map x.it y.map;
  first = x.first;
  second = x.second;
  on = y.kept;
  front_is = front_is;
  middle_is = middle_is;
  running = aim ∙ x.running;
  reaches = x.reaches;
}

pub front-settled : {m m' : Store} {t t' : Table} {front middle new : Parts} (x : IsRunning m t front middle) → SettlesOn m t m' t' x.it front new → LiveWordsUnchanged m t m' t' → IsRunning m' t' new middle
front-settled {middle = middle} x y alive = later-running x y.later alive.table.aim (y.value x.first x.front_is) (refined x.it.map.role y.later.map.role y.later.refines middle.content x.second x.middle_is)

pub middle-settled : {m m' : Store} {t t' : Table} {front middle new : Parts} (x : IsRunning m t front middle) → SettlesOn m t m' t' x.it middle new → LiveWordsUnchanged m t m' t' → IsRunning m' t' front new
middle-settled {front = front} x y alive = later-running x y.later alive.table.aim (refined x.it.map.role y.later.map.role y.later.refines front.content x.first x.front_is) (y.value x.second x.middle_is)

-- after a swap error, and after reads
pub running-stays : {m m' : Store} {t t' : Table} {front middle : Parts} → IsRunning m t front middle → WordsUnchanged m t m' t' → LiveWordsUnchanged m t m' t' → IsRunning m' t' front middle
running-stays x y alive = record {
  it = x.it;
  first = x.first;
  second = x.second;
  on = y.kept x.it x.on;
  front_is = x.front_is;
  middle_is = x.middle_is;
  running = alive.table.aim ∙ x.running;
  reaches = x.reaches;
}

pub running-same : {m m' : Store} {t : Table} {front middle : Parts} → IsRunning m t front middle → StoresNothing m m' → IsRunning m' t front middle
running-same {m} {m'} {t} x n = record {
  it = x.it;
  first = x.first;
  second = x.second;
  on = kept_on_same m m' t x.it x.on n;
  front_is = x.front_is;
  middle_is = x.middle_is;
  running = x.running;
  reaches = x.reaches;
}
