-- A cell whose car was settled is relocated.
use Rattle.std.proofs.Common.{◌≡◌, ℕ, ◌⊎◌, inl, inr, refl, sym, ◌∙◌, ap, subst, arith, List, None}
use Rattle.std.specs.Prelude.{OnOk, Result, Ok, Err}
use Rattle.store_word.specs.Words.{Parts}
use Rattle.store_word.specs.declared.word.Content.{Content}
use Rattle.store_word.specs.declared.word.Content.TheVariants.{List as ListAt, Struct as StructAt}
use Rattle.lisp_graph.specs.declared.object.Value.{Value}
use Rattle.mem_port.specs.Store.{StoresNothing}
use Rattle.mem_port.specs.Store as Memory
use Rattle.area_space.specs.Table.{Table}
use Rattle.obj_layout.specs.Forwards.{word_at, forward_of, Final, IsFinal, here}
use Rattle.transporter.specs.lisp_meaning.Roles.{value_of}
use Rattle.transporter.specs.lisp_meaning.Interpretation.{Interpretation, by_map}
use Rattle.transporter.proofs.lisp_meaning.maps.Frames.{refined}
use Rattle.transporter.specs.Growth.{Grows}
use Rattle.transporter.specs.LiveWordsUnchanged.{IsLiveWord, LiveWordsUnchanged, LiveWordsUnchangedExcept, OnlyGrows}
use Rattle.transporter.specs.Moving.{FetchMoves, MovesAtMost}
use Rattle.transporter.specs.Settling.{RefersToOld, IsSettleable, Settles, content_to, readdressed, SettlesAlways, RemainsRepresented}
use Rattle.transporter.specs.Preserving.{NoOldAddresses, FreshOn}
use Rattle.transporter.specs.Transports.{RepresentedByLaterMap, WordsUnchanged}
use Rattle.transporter.proofs.LiveObjects.{grows-then, old-before, still-live}
use Rattle.transporter.proofs.FetchedWords.{live-inside}
use Rattle.cdr_lists.specs.Parts.{IsCellAt, LaysPair, RelaysCell, SettlesWord}
use Rattle.cdr_lists.proofs.ConsAddresses.{CanSetAt, SetsCdrAt}
use Rattle.cdr_lists.proofs.ConsAddresses.{CanReadAt, IsReadableAt, KeepsConsAt}
use Rattle.cdr_lists.proofs.PartReads.{car_faulted, car_live, car_settleable, car_settles, cons_here, settled_code}

pub no_change : (m : Memory.Store) → StoresNothing m m
no_change m = record { words = refl; levels = refl; top = refl; unmarked = λ page e. e }

pub final_itself : (words : List Parts) (a : ℕ) → IsFinal words a → Final words a a
final_itself words a last = (0, omega arith, here last.no_forward)

-- what may be set may be read
pub readable : (m : Memory.Store) (t : Table) (at : ℕ) (word : Parts) → CanSetAt m t at word → IsReadableAt m t at
readable m t at word can = record { it = can.it; registers = can.registers; name = can.name; can = can.can; fresh = can.fresh }

-- a cons that can be read can be read by a later map, too
pub read_later : (m m2 : Memory.Store) (t t2 : Table) (it : Interpretation) (registers : List Value) (at n : ℕ) → CanReadAt m t it registers at n → OnlyGrows t t2 → (x : RepresentedByLaterMap m t m2 t2 it)
    → CanReadAt m2 t2 (by_map it x.map) registers at n
read_later m m2 t t2 it registers at n can grows x = record {
  kept = x.kept;
  named = x.refines Rattle.transporter.specs.lisp_meaning.Roles.AsCons at n can.named;
  survives = λ region old. (let h = can.survives region (old-before grows old) in record { running = grows.aim ∙ h.running; reaches = h.reaches; name = h.name });
}

-- and set
pub set_later : (m m2 : Memory.Store) (t t2 : Table) (at : ℕ) (word : Parts) (can : CanSetAt m t at word) → OnlyGrows t t2 → (x : RepresentedByLaterMap m t m2 t2 can.it) → CanSetAt m2 t2 at word
set_later m m2 t t2 at word can grows x = record {
  it = by_map can.it x.map;
  registers = can.registers;
  name = can.name;
  can = read_later m m2 t t2 can.it can.registers at can.name can.can grows x;
  fresh = λ old. can.fresh (old-before grows old);
  value = can.value;
  value_is = refined can.it.map.role x.map.role x.refines word.content can.value can.value_is;
  young = λ old. can.young (old.0, old.1, old-before grows old.2);
}

-- a settled word is a forward only if the word before it was
settled_forward : {t t' : Table} {old new : Parts} → Settles t t' old new → forward_of old.content ≡ None → forward_of new.content ≡ None
settled_forward {t} {t'} {old} {new} x none = go x.is
  where
    other : (c : Content) (to : ℕ) → forward_of c ≡ None → forward_of (content_to c to) ≡ None
    other (ListAt a) to e = refl
    other (StructAt a) to e = refl
    other c to e = e

    go : (new ≡ old) ⊎ ((to : ℕ) × RefersToOld t old × (new ≡ readdressed old to)) → forward_of new.content ≡ None
    go (inl e) = ap (λ (w : Parts). forward_of w.content) e ∙ none
    go (inr e) = ap (λ (w : Parts). forward_of w.content) e.2 ∙ other old.content e.0 none

module _ (m : Memory.Store) (t : Table) (cell : ℕ) (cdr : Parts) (can : CanSetAt m t cell cdr) (is : IsCellAt m cell (word_at m.words cell)) where
  pub cell_live : IsLiveWord t cell
  cell_live = car_live m m t cell (readable m t cell cdr can) (no_change m) cell (final_itself m.words cell is.final) is.final

  pub cell_settleable : IsSettleable m t (word_at m.words cell)
  cell_settleable = car_settleable m m t cell (readable m t cell cdr can) (no_change m) cell (final_itself m.words cell is.final) is.final

  -- a swap error occurred when the car was settled
  pub cell_faulted : (m2 : Memory.Store) (t2 : Table)
      → RemainsRepresented m t m2 t2 (word_at m.words cell) → KeepsConsAt m t m2 t2 cell
  cell_faulted m2 t2 later = car_faulted m m m2 t t2 cell cell (no_change m) (final_itself m.words cell is.final) later

  module _ (m2 : Memory.Store) (t2 : Table) (car : Parts)
      (settles : SettlesAlways m t m2 t2 (word_at m.words cell) car)
      (word : Settles t t2 (word_at m.words cell) car) (written : word_at m2.words cell ≡ car) (grows : OnlyGrows t t2) where
    -- the same objects by a later map
    pub fetched_later : KeepsConsAt m t m2 t2 cell
    fetched_later it registers n x =
        let c = cons_here m t it registers cell n x in
        (settles it registers c.car (car_settles m t it registers cell n x cell (final_itself m.words cell is.final) c.car c.cdr c.body)).later

    later : RepresentedByLaterMap m t m2 t2 can.it
    later = fetched_later can.it can.registers can.name can.can

    pub fetched_set : CanSetAt m2 t2 cell cdr
    fetched_set = set_later m m2 t t2 cell cdr can grows later

    pub fetched_cell : IsCellAt m2 cell car
    fetched_cell = record {
      final = record {
        inside = live-inside m2 later.kept.table later.kept.ground.size (still-live grows cell_live);
        no_forward = ap (λ (w : Parts). forward_of w.content) written ∙ settled_forward word is.final.no_forward;
      };
      is = written;
      no_pair = λ e. is.no_pair (sym (settled_code word) ∙ e);
    }

    module _ (m3 : Memory.Store) (t3 : Table) where
      pub laid_set : (content : Content) → SetsCdrAt m2 t2 m3 t3 cell content → SetsCdrAt m t m3 t3 cell content
      laid_set content sets it registers n old_car old_cdr new x body value =
          let l = fetched_later it registers n x in
          let y = sets (by_map it l.map) registers n old_car old_cdr new (read_later m m2 t t2 it registers cell n x grows l) body (refined it.map.role l.map.role l.refines content new value) in
          record {
            map = y.map;
            kept = y.kept;
            refines = λ kind a i e. y.refines kind a i (l.refines kind a i e);
            work = (let u = l.work in let v = y.work in omega arith);
          }

      pub laid_faulted : WordsUnchanged m2 t2 m3 t3 → KeepsConsAt m t m3 t3 cell
      laid_faulted stays it registers n x =
          let l = fetched_later it registers n x in
          let old = stays.old (by_map it l.map) l.kept in
          let placed = stays.placed in
          record { map = l.map; kept = stays.kept (by_map it l.map) l.kept; refines = l.refines; work = (let u = l.work in omega arith) }

-- a cell whose car was settled was relocated
pub cell_relaid : {m m2 m3 : Memory.Store} {t t2 t3 : Table} {cell : ℕ} {car cdr : Parts} → Settles t t2 (word_at m.words cell) car → word_at m2.words cell ≡ car → FetchMoves m t m2 t2 cell → MovesAtMost m t m2 t2 1 → Grows t t2 → LiveWordsUnchangedExcept m t m2 t2 cell
    → LaysPair m2 t2 m3 t3 cell car cdr × LiveWordsUnchangedExcept m2 t2 m3 t3 cell → RelaysCell m t m3 t3 cell cdr
cell_relaid {m} {m2} {m3} {t} {t2} {t3} {cell} {car} {cdr} settled written moves few grows x y = record {
  between = m2;
  table = t2;
  moves = moves;
  few = few;
  grows = grows;
  settled = subst (λ (w : Parts). Settles t t2 (word_at m.words cell) w) (sym written) settled;
  lays = subst (λ (w : Parts). LaysPair m2 t2 m3 t3 cell w cdr) (sym written) y.0;
  others = record { table = grows-then x.table y.1.table; words = λ a ne l. y.1.words a ne (still-live x.table l) ∙ x.words a ne l };
}

-- or a swap error occurred after that
pub cell_settled : {m m2 m3 : Memory.Store} {t t2 t3 : Table} {cell : ℕ} {car : Parts} → Settles t t2 (word_at m.words cell) car → word_at m2.words cell ≡ car → LiveWordsUnchangedExcept m t m2 t2 cell → IsLiveWord t cell → LiveWordsUnchanged m2 t2 m3 t3
    → SettlesWord m t m3 t3 cell
cell_settled {m} {m2} {m3} {t} {t2} {t3} {cell} {car} settled written x l y = record {
  settled = subst (λ (w : Parts). Settles t t3 (word_at m.words cell) w) (sym (y.words cell (still-live x.table l) ∙ written)) (record { is = settled.is; fresh = λ old. settled.fresh (old.0, old.1, old-before y.table old.2) });
  others = record { table = grows-then x.table y.table; words = λ a ne w. y.words a (still-live x.table w) ∙ x.words a ne w };
}

-- a settled word that was written is fresh if all are
pub fetched_fresh : (m2 : Memory.Store) {t t2 : Table} {cell : ℕ} {car : Parts} → OnlyGrows t t2 → IsLiveWord t cell → word_at m2.words cell ≡ car → NoOldAddresses m2 t2 → FreshOn t2 car.content
fetched_fresh m2 {t} {t2} {cell} {car} grows live written all = subst (λ (w : Parts). FreshOn t2 w.content) written (all cell (still-live grows live))

-- a fact holds of a result, whether it is one or not
pub on_ok : {A : Type 0} {E : Type 0} (r : Result A E) (P : Type 0) → P → OnOk r P
on_ok (Ok x) P p = p
on_ok (Err e) P p = tt
