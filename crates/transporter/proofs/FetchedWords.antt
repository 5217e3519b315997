-- A word of the memory is settled and written back.
use Rattle.std.proofs.Common.{ℕ, ◌≡◌, ◌≢◌, ◌⊎◌, ◌+◌, ◌*◌, ◌/◌, ◌<◌, List, length, Some, slice_get, IsTrue, refl, sym, ◌∙◌, ap, subst, inl, inr, arith}
use Rattle.std.proofs.lemmas.Bool.{lt-ltb}
use Rattle.std.proofs.lemmas.List.{get_or-set_same, get_or-set_other}
use Rattle.store_word.specs.Words.{Parts, null_word}
use Rattle.area_space.specs.lisp_graph.declared.object.Value.{Value}
use Rattle.mem_port.specs.Store.{Store, StoresNothing}
use Rattle.area_space.specs.Table.{Table, used_of}
use Rattle.area_space.specs.Sound.{IsTable}
use Rattle.obj_layout.specs.Forwards.{word_at}
use Rattle.obj_layout.proofs.ForwardChains.{word_at-read}
use Rattle.lisp_ground.specs.lisp_meaning.Image.{word, is_used}
use Rattle.lisp_ground.specs.lisp_meaning.Roles.{value_of}
use Rattle.lisp_ground.proofs.lisp_meaning.maps.Frames.{refined}
use Rattle.lisp_ground.proofs.lisp_meaning.invariant.Rewrites.{resettled}
use Rattle.lisp_ground.specs.Image.{no_rest, ground_image}
use Rattle.lisp_ground.specs.GroundInvariant.{GroundInvariant}
use Rattle.lisp_ground.specs.lisp_meaning.Interpretation.{Interpretation, by_map}
use Rattle.lisp_ground.specs.After.{old_on}
use Rattle.lisp_ground.proofs.words.UsedWords.{is_used_as}
use Rattle.lisp_ground.proofs.invariant.WordStores.{kept_on_same, stores_at, stored_on}
use Rattle.transporter.specs.LiveWordsUnchanged.{IsLiveWord, LiveWordsUnchanged, LiveWordsUnchangedExcept}
use Rattle.transporter.specs.Settling.{readdressed, RefersToOld, CanSettle, IsSettleable, Replaces, Settles, SettlesOn, SettlesAlways}
use Rattle.transporter.specs.Transports.{RepresentedByLaterMap, WordsUnchanged}
use Rattle.transporter.proofs.LiveObjects.{still-live}

-- Calls that store nothing

pub later-read : (m m' : Store) (t : Table) (it : Interpretation) → GroundInvariant m t it → StoresNothing m m' → RepresentedByLaterMap m t m' t it
later-read m m' t it on n =
    let same : old_on m' t it.store it.aim it.map.at ≡ old_on m t it.store it.aim it.map.at = refl in
    record { map = it.map; kept = kept_on_same m m' t it on n; refines = λ kind a n e. e; work = omega arith }

pub later-stays : (m mid m' : Store) (t t' : Table) (it : Interpretation) → GroundInvariant m t it → StoresNothing m mid → WordsUnchanged mid t m' t' → RepresentedByLaterMap m t m' t' it
later-stays m mid m' t t' it on n x =
    let there = kept_on_same m mid t it on n in
    let same : old_on mid t it.store it.aim it.map.at ≡ old_on m t it.store it.aim it.map.at = refl in
    let old = x.old it there in
    let placed = x.placed in
    record { map = it.map; kept = x.kept it there; refines = λ kind a n e. e; work = omega arith }

pub later-then_read : (m m1 m2 : Store) (t t1 : Table) (it : Interpretation) → RepresentedByLaterMap m t m1 t1 it → StoresNothing m1 m2 → RepresentedByLaterMap m t m2 t1 it
later-then_read m m1 m2 t t1 it x n =
    let same : old_on m2 t1 it.store it.aim x.map.at ≡ old_on m1 t1 it.store it.aim x.map.at = refl in
    record { map = x.map; kept = kept_on_same m1 m2 t1 (by_map it x.map) x.kept n; refines = x.refines; work = (let w = x.work in omega arith) }

pub settle-read : (m mid : Store) (t : Table) (it : Interpretation) (registers : List Value) (w : Parts) (v : Value) → CanSettle m t it registers w v → StoresNothing m mid
    → CanSettle mid t it registers w v
settle-read m mid t it registers w v can n = record {
  kept = kept_on_same m mid t it can.kept n;
  value = can.value;
  survives = can.survives;
}

pub settleable-read : {m mid : Store} {t : Table} {w : Parts} → IsSettleable m t w → StoresNothing m mid → IsSettleable mid t w
settleable-read {m} {mid} {t} {w} x n = record {
  it = x.it;
  registers = x.registers;
  value = x.value;
  can = settle-read m mid t x.it x.registers w x.value x.can n;
}

pub settles-read : (m mid m' : Store) (t t' : Table) (it : Interpretation) (old new : Parts) → StoresNothing m mid → SettlesOn mid t m' t' it old new → SettlesOn m t m' t' it old new
settles-read m mid m' t t' it old new n x =
    let same : old_on mid t it.store it.aim it.map.at ≡ old_on m t it.store it.aim it.map.at = refl in
    record {
      later = record { map = x.later.map; kept = x.later.kept; refines = x.later.refines; work = (let w = x.later.work in omega arith) };
      value = x.value;
    }

-- A live word is in the memory

pub live-inside : (m : Store) {t : Table} {a : ℕ} → IsTable t → length m.words ≡ 4096 * t.regions → IsLiveWord t a → a < length m.words
live-inside m {t} {a} v size w =
    let inside = v.sound.within _ (a / 4096) w.live.1 in
    omega arith

live-used : (m : Store) (t : Table) (a : ℕ) → IsTable t → IsLiveWord t a → IsTrue (is_used (ground_image m t) a)
live-used m t a v w = is_used_as m t no_rest a v ∙ lt-ltb a (4096 * (a / 4096) + used_of t (a / 4096)) (let u = w.used in omega arith)

-- What is written back

pub same-code : {t t' : Table} {old new : Parts} → Settles t t' old new → new.cdr ≡ old.cdr
same-code {t} {t'} {old} {new} x = go x.is
  where
    go : (new ≡ old) ⊎ ((to : ℕ) × RefersToOld t old × (new ≡ readdressed old to)) → new.cdr ≡ old.cdr
    go (inl e) = ap (λ (w : Parts). w.cdr) e
    go (inr e) = ap (λ (w : Parts). w.cdr) e.2

pub fetched : (m m1 m2 : Store) (t t1 : Table) (it : Interpretation) (registers : List Value) (v : Value) (at : ℕ) (old new : Parts) → IsLiveWord t1 at → word_at m1.words at ≡ old
    → CanSettle m t it registers old v → Settles t t1 old new → SettlesOn m t m1 t1 it old new → Replaces m1 m2 at old new → SettlesOn m t m2 t1 it old new
unfolding later-then_read
fetched m m1 m2 t t1 it registers v at old new alive is can settles x (inl same) = record {
  later = later-then_read m m1 m2 t t1 it x.later same.1;
  value = x.value;
}
fetched m m1 m2 t t1 it registers v at old new alive is can settles x (inr stores) = go settles.is
  where
    on : GroundInvariant m1 t1 (by_map it x.later.map)
    on = x.later.kept

    go : (new ≡ old) ⊎ ((to : ℕ) × RefersToOld t old × (new ≡ readdressed old to)) → SettlesOn m t m2 t1 it old new
    go (inl e) = absurd (stores.0 e)
    go (inr e) =
        let value = can.value e.1.0 e.1.1 in
        let there = x.value v value in
        let used = live-used m1 t1 at on.table alive in
        let before : value_of x.later.map.role (word (ground_image m1 t1) at).content ≡ Some v = ap (λ (w : Parts). value_of x.later.map.role w.content) is ∙ refined it.map.role x.later.map.role x.later.refines old.content v value in
        let stored = stores_at m1 m2 t1 (by_map it x.later.map) on at new v stores.1 used there (same-code settles ∙ ap (λ (w : Parts). w.cdr) (sym is)) in
        let after = stored_on m1 m2 t1 (by_map it x.later.map) on at new v stores.1 used there it.store
        (resettled (ground_image m1 t1) m2.words (by_map it x.later.map) at v on.kept before stored) in
        record {
          later = record { map = x.later.map; kept = after.kept; refines = x.later.refines; work = (let a = after.old in let w = x.later.work in omega arith) };
          value = x.value;
        }

-- after its object was transported and before it is written: its address is one of the memory, live, and has the word that was read
pub record IsUnwritten (m : Store) (t : Table) (at : ℕ) (word : Parts) : Type 0 where
  pub inside : at < length m.words
  pub alive : IsLiveWord t at
  pub same : word_at m.words at ≡ word

pub unwritten-there : {m mid m1 : Store} {t t1 : Table} {at : ℕ} {word new : Parts} → IsLiveWord t at → IsSettleable m t (word_at m.words at) → StoresNothing m mid → slice_get m.words at ≡ Some word → LiveWordsUnchanged mid t m1 t1
    → SettlesAlways mid t m1 t1 word new
    → IsUnwritten m1 t1 at word
unwritten-there {m} {mid} {m1} {t} {t1} {at} {word} {new} alive x reads read same settles =
    let is = word_at-read m.words m.words at word refl read in
    let y = settleable-read (subst (λ (w : Parts). IsSettleable m t w) is x) reads in
    let kept = (settles y.it y.registers y.value y.can).later.kept in
    let there = still-live same.table alive in
    record {
      inside = live-inside m1 kept.table kept.ground.size there;
      alive = there;
      same = same.words at alive ∙ ap (λ (ws : List Parts). word_at ws at) reads.words ∙ is;
    }

pub fetched-word : {m1 m2 : Store} {at : ℕ} {old new : Parts} → at < length m1.words → word_at m1.words at ≡ old → Replaces m1 m2 at old new → word_at m2.words at ≡ new
fetched-word {m1} {m2} {at} {old} {new} inside is (inl same) = ap (λ (ws : List Parts). word_at ws at) same.1.words ∙ is ∙ sym same.0
fetched-word {m1} {m2} {at} {old} {new} inside is (inr stores) = ap (λ (ws : List Parts). word_at ws at) stores.1.words ∙ get_or-set_same m1.words at new null_word inside

pub fetched-others : {m m1 m2 : Store} {t t1 : Table} {at : ℕ} {old new : Parts} → LiveWordsUnchanged m t m1 t1 → Replaces m1 m2 at old new → LiveWordsUnchangedExcept m t m2 t1 at
fetched-others {m} {m1} {m2} {t} {t1} {at} {old} {new} alive r = record { table = alive.table; words = λ a ne w. other r a ne ∙ alive.words a w }
  where
    other : Replaces m1 m2 at old new → (a : ℕ) → a ≢ at → word_at m2.words a ≡ word_at m1.words a
    other (inl same) a ne = ap (λ (ws : List Parts). word_at ws a) same.1.words
    other (inr stores) a ne = ap (λ (ws : List Parts). word_at ws a) stores.1.words ∙ get_or-set_other m1.words at a new null_word ne

pub same-but : {m m' : Store} {t t' : Table} (at : ℕ) → LiveWordsUnchanged m t m' t' → LiveWordsUnchangedExcept m t m' t' at
same-but at alive = record { table = alive.table; words = λ a ne w. alive.words a w }
