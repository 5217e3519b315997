-- A flip and a reclaim, from the invariant of the whole machine to that of the machine after it.
use Rattle.std.proofs.Common.{◌≡◌, ℕ, zero, suc, ◌+◌, ◌*◌, ◌<◌, ◌≤◌, ◌⊎◌, inl, inr, Bool, true, false, not, ◌&&◌, if◌then◌else◌, refl, sym, subst, ◌∙◌, ap, arith, List, length, get_or, Option, Some, None, IsTrue}
use Rattle.std.specs.Prelude.{is_some}
use Rattle.std.proofs.lemmas.Bool.{cases_Bool, cases_lt, cases_eq}
use Rattle.std.proofs.lemmas.List.{get_or_past}
use Rattle.lisp_graph.specs.store_word.Words.{Parts, null_word, address_of}
use Rattle.lisp_graph.specs.store_word.declared.word.Content.{Content}
use Rattle.lisp_graph.specs.store_word.declared.word.Content.TheVariants.{Null, Nil as NilWord, Fixnum, List as ListAt, Struct as StructAt, Header, HeaderForward, GcForward}
use Rattle.lisp_graph.specs.declared.object.Value.{Value}
use Rattle.lisp_graph.specs.declared.object.Value.TheVariants as V
use Rattle.lisp_graph.specs.declared.command.Condemn.{Condemn}
use Rattle.lisp_graph.specs.declared.world.AreaRule.{AreaRule}
use Rattle.lisp_graph.specs.Totals.{total, if_true}
use Rattle.lisp_graph.proofs.Totals.{total-le, total-suc}
use Rattle.lisp_meaning.specs.machine.State.{rule_of, is_static, condemns, survivor, Condemned, no_aim, aim_of, Collection, Phase, Idle, Running, Store, State, object, is_held, in_use}
use Rattle.lisp_meaning.specs.machine.Charges.{charges}
use Rattle.lisp_meaning.specs.machine.Reach.{Closed}
use Rattle.lisp_meaning.specs.machine.Flip.{graph_of, is_condemned_level, condemned_by, gone_by, husks_left, aim_by, flipped, Settles}
use Rattle.lisp_meaning.specs.machine.Sound.{IsOwing}
use Rattle.lisp_meaning.specs.reading.Image.{Standing, Free, Live, Old, Image, word, region, is_old, is_free, old_at}
use Rattle.lisp_meaning.specs.reading.Classes.{Class, class_at, classes, region_of, is_old_at}
use Rattle.lisp_meaning.specs.reading.Units.{units_left, NothingLeft}
use Rattle.lisp_meaning.specs.invariants.Roles.{AsCons, AsBlock, Role, Blank, names_as, as_ref, value_of, RoleMap}
use Rattle.lisp_meaning.specs.invariants.Fits.{Fits}
use Rattle.lisp_meaning.specs.reading.Stands.{IsScanned, PhaseOf, Work}
use Rattle.lisp_meaning.specs.invariants.Invariant.{MemoryInvariant, MachineInvariant}
use Rattle.lisp_meaning.specs.invariants.Interpretation.{Interpretation, interpretation}
use Rattle.lisp_meaning.specs.keeping.TableChanges.{TableFlipped, freed, free_class, TableFreed, condemned_classes}
use Rattle.lisp_meaning.specs.keeping.Collecting.{InvariantIsSound, Flipped, Reclaimed}
use Rattle.lisp_meaning.proofs.sums.Charges.{total-none}
use Rattle.lisp_meaning.proofs.roles.OldRegions.{dropped}
use Rattle.lisp_meaning.proofs.invariant.AfterFlip.{kept_flipped}
use Rattle.lisp_meaning.proofs.invariant.AfterReclaim.{held_closed, Settled, kept_reclaimed}
use Rattle.lisp_meaning.proofs.closure.Collections.{bound_held, flipped_reaches}

-- what a total counts is at most the total
total-part : (f : ℕ → ℕ) (n m : ℕ) → m < n → f m ≤ total f n
total-part f zero m l = absurd (omega arith)
total-part f (suc n) m l = go (cases_eq m n) (total-part f n m)
  where
    go : (m ≡ n) ⊎ (m ≡ n → ⊥) → (m < n → f m ≤ total f n) → f m ≤ total f (suc n)
    go (inl z) before = let x = ap f z in let e = total-suc f n in omega arith
    go (inr ne) before = let x = before (omega arith) in let e = total-suc f n in omega arith

none_left : (b : Bool) → if_true b 1 ≤ 0 → b ≡ false
none_left true l = absurd (omega arith)
none_left false l = refl

pub nothing_left : (g : Image) → units_left g ≡ 0 → NothingLeft g
nothing_left g e = (
  λ r l. none_left (g.register_left r) (let x = total-part (λ i. if_true (g.register_left i) 1) (length g.registers) r l in omega arith),
  λ a l. none_left (g.word_left a) (let x = total-part (λ i. if_true (g.word_left i) 1) (length g.words) a l in omega arith),
)

-- the state that a machine represents is sound: work is owed for the units that remain
pub strong_sound : InvariantIsSound
strong_sound g k s h few = record {
  registers = few;
  references = record { names = h.kept.names; closed = held_closed g k s h; reach = h.reach };
  owing = owing s.phase h.phase h.work;
}
  where
    owing : (p : Phase) → PhaseOf g p → Work g s.store k.at p → IsOwing p
    owing Idle f w = tt
    owing (Running c) f w = λ over. go over (cases_eq (units_left g) 0)
      where
        go : c.over ≡ false → (units_left g ≡ 0) ⊎ (units_left g ≡ 0 → ⊥) → c.paid < c.owed
        go over (inl z) = let x = f.1.unfinished (nothing_left g z) in cc
        go over (inr ne) = let x = w over in omega arith

-- A flip

-- the husks that stay, and those that are gone
husks_by : (areas : List AreaRule) (s : Store) (what : Condemn) (x y : ℕ) → husks_left areas s what x y ≡ if_true (not (condemned_classes areas what x y)) (s.husks x y)
husks_by areas s what x y = go (is_static (rule_of areas x).kind)
  where
    go : (b : Bool) → (if b then s.husks x y else if_true (not (condemns what y)) (s.husks x y)) ≡ if_true (not (not b && condemns what y)) (s.husks x y)
    go true = refl
    go false = refl

gone_sum : (areas : List AreaRule) (s : Store) (top : ℕ) (what : Condemn) (x : ℕ) → gone_by areas s top what x ≡ total (λ y. if_true (condemned_classes areas what x y) (s.husks x y)) (suc top)
gone_sum areas s top what x = go (is_static (rule_of areas x).kind)
  where
    go : (b : Bool) → (if b then 0 else total (λ y. if_true (condemns what y) (s.husks x y)) (suc top)) ≡ total (λ y. if_true (not b && condemns what y) (s.husks x y)) (suc top)
    go true = sym (total-none (λ y. 0) (suc top) (λ m l. refl))
    go false = refl

module _ (g : Image) (it : Interpretation) (h : MemoryInvariant g (record it { aim = no_aim })) (what : Condemn) where
  -- a name is condemned if and only if its class is
  condemned_there : (n : ℕ) → condemned_by it.areas it.store what n ≡ (is_held it.store n && condemned_classes it.areas what (class_at (classes g) (it.map.at n)).area (class_at (classes g) (it.map.at n)).level)
  condemned_there n = go (it.store.held n) refl
    where
      none : (b : Bool) → (b && false) ≡ false
      none true = refl
      none false = refl

      go : (o : Option ℕ) → it.store.held n ≡ o → condemned_by it.areas it.store what n ≡ (is_held it.store n && condemned_classes it.areas what (class_at (classes g) (it.map.at n)).area (class_at (classes g) (it.map.at n)).level)
      go None e =
          ap (λ (o : Option ℕ). not (is_static (rule_of it.areas (object it.store n).area).kind) && is_condemned_level what o) e ∙ none (not (is_static (rule_of it.areas (object it.store n).area).kind))
          ∙ sym (ap (λ (o : Option ℕ). is_some o && condemned_classes it.areas what (class_at (classes g) (it.map.at n)).area (class_at (classes g) (it.map.at n)).level) e)
      go (Some level) e =
          let u : in_use it.store n = ap is_some e in
          ap (λ (o : Option ℕ). not (is_static (rule_of it.areas (object it.store n).area).kind) && is_condemned_level what o) e
          ∙ ap (λ (a : ℕ). not (is_static (rule_of it.areas a).kind) && condemns what level) (sym (h.classes_of.area n u))
          ∙ ap (λ (l : ℕ). not (is_static (rule_of it.areas (class_at (classes g) (it.map.at n)).area).kind) && condemns what l) (sym (h.classes_of.spared n level e refl).1)
          ∙ sym (ap (λ (o : Option ℕ). is_some o && condemned_classes it.areas what (class_at (classes g) (it.map.at n)).area (class_at (classes g) (it.map.at n)).level) e)

-- the machine after a flip represents the flipped state
module _ (g g' : Image) (k : RoleMap) (s : State) (h : MachineInvariant g k s) (idle : s.phase ≡ Idle) (what : Condemn) (pages : ℕ) (t : TableFlipped g g' s.space.levels (condemned_classes s.areas what))
    (registers : g'.registers ≡ g.registers) (collection : g'.collection ≡ Some what) (scanned : IsScanned g' false) (units : units_left g' ≤ s.space.registers + 256 * pages) where
  kept_idle : MemoryInvariant g (record (interpretation k s) { aim = no_aim })
  kept_idle = let P : Phase → Type 0 = λ p. MemoryInvariant g (record (interpretation k s) { aim = aim_of p }) in subst P idle h.kept

  none_old : (a : ℕ) → is_old_at (classes g) a ≡ false
  none_old = let P : Phase → Type 0 = λ p. PhaseOf g p in (subst P idle h.phase).1

  closed : Closed (graph_of s) (is_held s.store)
  closed = held_closed g k s h

  kept_flip : MemoryInvariant g' (interpretation k (flipped s what pages))
  kept_flip = kept_flipped g g' (interpretation k s) kept_idle (condemned_classes s.areas what) t (husks_left s.areas s.store what) (aim_by s what pages) none_old
      (husks_by s.areas s.store what) (gone_sum s.areas s.store s.space.levels what) (condemned_there g (interpretation k s) kept_idle what) (bound_held s what closed)

  -- what is in old regions was condemned, so it is owed
  old_owed : charges (record s.store { husks = husks_left s.areas s.store what }) (λ n. condemned_by s.areas s.store what n && is_old (region g' (k.at n)).standing) ≤ charges s.store (condemned_by s.areas s.store what)
  old_owed = total-le (λ n. if_true (condemned_by s.areas s.store what n && is_old (region g' (k.at n)).standing) (object s.store n).charge) (λ n. if_true (condemned_by s.areas s.store what n) (object s.store n).charge) (length s.store.objects)
      (λ n l. less (condemned_by s.areas s.store what n) (is_old (region g' (k.at n)).standing) (object s.store n).charge)
    where
      less : (a b : Bool) (c : ℕ) → if_true (a && b) c ≤ if_true a c
      less true true c = omega arith
      less true false c = omega arith
      less false b c = omega arith

  pub flip_strong : MachineInvariant g' k (flipped s what pages)
  flip_strong = record {
    kept = kept_flip;
    count = ap (λ (ws : List Parts). length ws) registers ∙ h.count;
    registers = λ r l. ap (λ (ws : List Parts). value_of k.role (get_or ws r null_word).content) registers ∙ h.registers r l;
    phase = (collection, scanned);
    reach = (let r = flipped_reaches s what (record { names = h.kept.names; closed = closed; reach = h.reach }) pages in record { condemned = r.condemned; bound = r.bound; closed = r.closed });
    work = λ f. (let a = old_owed in let b = units in omega arith);
  }

-- A reclaim

abbrev pub level_after : (ℕ → ℕ) → Option ℕ → Option ℕ
level_after f None = None
level_after f (Some level) = Some (f level)

-- what a reclaim keeps: what was moved, at its survivor's level, and what wasn't condemned
abbrev pub held_after : (ℕ → Class) → RoleMap → ℕ → Store → Condemned → ℕ → Option ℕ
held_after regions k top s aim n = if is_old_at regions (k.at n) then None else (if aim.condemned n then level_after (survivor top aim.what) (s.held n) else s.held n)

-- the state after it
abbrev pub reclaimed : Image → RoleMap → State → Condemned → State
reclaimed g k s aim = record s { phase = Idle; store = record s.store { held = held_after (classes g) k s.space.levels s.store aim } }

-- the machine after the reclaim of a finished collection represents that state
module _ (g g' : Image) (k : RoleMap) (s : State) (c : Collection) (h : MachineInvariant g k s) (running : s.phase ≡ Running c) (over : c.over ≡ true) (t : TableFreed g g')
    (registers : g'.registers ≡ g.registers) (collection : g'.collection ≡ None) where
  kept_running : MemoryInvariant g (record (interpretation k s) { aim = c.aim })
  kept_running = let P : Phase → Type 0 = λ p. MemoryInvariant g (record (interpretation k s) { aim = aim_of p }) in subst P running h.kept

  scan : IsScanned g c.over
  scan = let P : Phase → Type 0 = λ p. PhaseOf g p in (subst P running h.phase).1

  -- every word that has a value is fresh if nothing remains to be scanned
  fresh : (a b : ℕ) (v : Value) → is_old_at (classes g) a ≡ false → value_of k.role (word g a).content ≡ Some v → address_of (word g a).content ≡ Some b → is_old_at (classes g) b ≡ false
  fresh a b v e has at = go (region g a).standing refl (cases_lt a (length g.words))
    where
      go : (st : Standing) → (region g a).standing ≡ st → (a < length g.words) ⊎ (length g.words ≤ a) → is_old_at (classes g) b ≡ false
      go st z (inr l) = let x = ap (λ (w : Parts). address_of w.content) (get_or_past g.words a null_word l) in cc
      go Live z (inl l) = scan.words a l z ((scan.finished over).1 a l) b at
      go Old z (inl l) = let x : is_old (region g a).standing ≡ false = e in let y = ap is_old z in cc
      go Free z (inl l) =
          let r = kept_running.covered.free a (ap is_free z) in
          let P : Role → Type 0 = λ x. Fits (classes g) k s.store a (word g a) x in
          let w = subst P r (kept_running.roled.fits a) in let x = ap (λ (u : Parts). address_of u.content) w in cc

  old_held : (n : ℕ) → is_old_at (classes g) (k.at n) ≡ true → held_after (classes g) k s.space.levels s.store c.aim n ≡ None
  old_held n e = ap (λ (b : Bool). if b then None else (if c.aim.condemned n then level_after (survivor s.space.levels c.aim.what) (s.store.held n) else s.store.held n)) e

  live_held : (n : ℕ) → is_old_at (classes g) (k.at n) ≡ false
      → held_after (classes g) k s.space.levels s.store c.aim n ≡ (if c.aim.condemned n then level_after (survivor s.space.levels c.aim.what) (s.store.held n) else s.store.held n)
  live_held n e = ap (λ (b : Bool). if b then None else (if c.aim.condemned n then level_after (survivor s.space.levels c.aim.what) (s.store.held n) else s.store.held n)) e

  doomed_held : (n : ℕ) → c.aim.condemned n ≡ true → (if c.aim.condemned n then level_after (survivor s.space.levels c.aim.what) (s.store.held n) else s.store.held n) ≡ level_after (survivor s.space.levels c.aim.what) (s.store.held n)
  doomed_held n e = ap (λ (b : Bool). if b then level_after (survivor s.space.levels c.aim.what) (s.store.held n) else s.store.held n) e

  spared_held : (n : ℕ) → c.aim.condemned n ≡ false → (if c.aim.condemned n then level_after (survivor s.space.levels c.aim.what) (s.store.held n) else s.store.held n) ≡ s.store.held n
  spared_held n e = ap (λ (b : Bool). if b then level_after (survivor s.space.levels c.aim.what) (s.store.held n) else s.store.held n) e

  unheld_after : (n : ℕ) → s.store.held n ≡ None → held_after (classes g) k s.space.levels s.store c.aim n ≡ None
  unheld_after n e = go (cases_Bool (is_old_at (classes g) (k.at n))) (cases_Bool (c.aim.condemned n))
    where
      go : (is_old_at (classes g) (k.at n) ≡ true) ⊎ (is_old_at (classes g) (k.at n) ≡ false) → (c.aim.condemned n ≡ true) ⊎ (c.aim.condemned n ≡ false) → held_after (classes g) k s.space.levels s.store c.aim n ≡ None
      go (inl o) d = old_held n o
      go (inr o) (inl d) = live_held n o ∙ doomed_held n d ∙ ap (level_after (survivor s.space.levels c.aim.what)) e
      go (inr o) (inr d) = live_held n o ∙ spared_held n d ∙ e

  settled : Settled g k s.space.levels s.store (record s.store { held = held_after (classes g) k s.space.levels s.store c.aim }) c.aim
  settled = record {
    objects = refl;
    husks = λ x y. refl;
    gone = old_held;
    unheld = unheld_after;
    spared = λ n level e d o. live_held n o ∙ spared_held n d ∙ e;
    moved = λ n level e d o. live_held n o ∙ doomed_held n d ∙ ap (level_after (survivor s.space.levels c.aim.what)) e;
  }

  kept_after : MemoryInvariant g' (interpretation (dropped (classes g) k) (reclaimed g k s c.aim))
  kept_after = kept_reclaimed g g' (record (interpretation k s) { aim = c.aim }) (record s.store { held = held_after (classes g) k s.space.levels s.store c.aim }) kept_running t settled fresh

  -- a value with no old address is what it was
  value_after : (w : Content) (v : Value) → ((b : ℕ) → address_of w ≡ Some b → is_old_at (classes g) b ≡ false) → value_of k.role w ≡ Some v → value_of (dropped (classes g) k).role w ≡ Some v
  value_after Null v f e = cc
  value_after NilWord v f e = e
  value_after (Fixnum i) v f e = e
  value_after (ListAt b) v f e = ap (λ (t : Bool). as_ref (names_as AsCons (if t then Blank else k.role b))) (f b refl) ∙ e
  value_after (StructAt b) v f e = ap (λ (t : Bool). as_ref (names_as AsBlock (if t then Blank else k.role b))) (f b refl) ∙ e
  value_after (Header code n) v f e = cc
  value_after (HeaderForward b) v f e = cc
  value_after (GcForward b) v f e = cc

  none_old_after : (a : ℕ) → old_at g' a ≡ false
  none_old_after a = ap (λ (x : Class). is_old x.standing) (t.classes_free (region_of a)) ∙ go (cases_Bool (is_old (classes g (region_of a)).standing))
    where
      go : (is_old (classes g (region_of a)).standing ≡ true) ⊎ (is_old (classes g (region_of a)).standing ≡ false) → is_old (freed (classes g) (region_of a)).standing ≡ false
      go (inl e) = ap (λ (b : Bool). is_old (if b then free_class else classes g (region_of a)).standing) e
      go (inr e) = ap (λ (b : Bool). is_old (if b then free_class else classes g (region_of a)).standing) e ∙ e

  pub reclaim_strong : MachineInvariant g' (dropped (classes g) k) (reclaimed g k s c.aim)
  reclaim_strong = record {
    kept = kept_after;
    count = ap (λ (ws : List Parts). length ws) registers ∙ h.count;
    registers = λ r l. ap (λ (ws : List Parts). value_of (dropped (classes g) k).role (get_or ws r null_word).content) registers
        ∙ value_after (get_or g.registers r null_word).content (get_or s.registers r V.Nil)
        (λ b e. let z = h.count in scan.registers r (omega arith) ((scan.finished over).0 r (omega arith)) b e) (h.registers r l);
    phase = (collection, none_old_after);
    reach = tt;
    work = tt;
  }

  -- and it is one in which the collection settles
  pub reclaim_settles : Settles s c.aim (reclaimed g k s c.aim)
  reclaim_settles = record {
    phase = refl;
    space = refl;
    areas = refl;
    registers = refl;
    objects = refl;
    husks = refl;
    nothing_new = unheld_after;
    spared = λ n e. spared n e (s.store.held n) refl;
    doomed = λ n level d e. doomed n level d e (kept_running.classes_of.doomed n level e d);
    closed = held_closed g' (dropped (classes g) k) (reclaimed g k s c.aim) reclaim_strong;
  }
    where
      spared : (n : ℕ) → c.aim.condemned n ≡ false → (o : Option ℕ) → s.store.held n ≡ o → held_after (classes g) k s.space.levels s.store c.aim n ≡ s.store.held n
      spared n d None e = unheld_after n e ∙ sym e
      spared n d (Some level) e = live_held n (ap is_old (kept_running.classes_of.spared n level e d).0) ∙ spared_held n d

      doomed : (n level : ℕ) → c.aim.condemned n ≡ true → s.store.held n ≡ Some level
          → (((region g (k.at n)).standing ≡ Old) × ((region g (k.at n)).level ≡ level)) ⊎ (((region g (k.at n)).standing ≡ Live) × ((region g (k.at n)).level ≡ survivor s.space.levels c.aim.what level) × (c.aim.bound n ≡ true))
          → (held_after (classes g) k s.space.levels s.store c.aim n ≡ None) ⊎ ((held_after (classes g) k s.space.levels s.store c.aim n ≡ Some (survivor s.space.levels c.aim.what level)) × IsTrue (c.aim.bound n))
      doomed n level d e (inl x) = inl (old_held n (ap is_old x.0))
      doomed n level d e (inr x) = inr (live_held n (ap is_old x.0) ∙ doomed_held n d ∙ ap (level_after (survivor s.space.levels c.aim.what)) e, x.2)

-- As laws

pub flipped_is : Flipped
flipped_is g g' k s what pages h idle t registers collection scanned units = flip_strong g g' k s h idle what pages t registers collection scanned units

pub reclaimed_is : Reclaimed
reclaimed_is g g' k s c h running over t registers collection =
    (dropped (classes g) k, reclaimed g k s c.aim, reclaim_strong g g' k s c h running over t registers collection, reclaim_settles g g' k s c h running over t registers collection)
