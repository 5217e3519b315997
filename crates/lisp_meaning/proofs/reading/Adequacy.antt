-- The invariant implies that the machine represents the state.
use Rattle.std.proofs.Common.{◌≡◌, ℕ, zero, suc, ◌+◌, ◌*◌, ◌<◌, ◌⊎◌, inl, inr, Bool, true, false, ◌&&◌, refl, sym, ◌∙◌, ap, arith, Some, length, get_or}
use Rattle.std.proofs.lemmas.Bool.{cases_Bool}
use Rattle.lisp_graph.specs.declared.object.Value.TheVariants as V
use Rattle.lisp_graph.specs.declared.object.Value.{Value}
use Rattle.lisp_meaning.specs.machine.Charges.{account}
use Rattle.lisp_meaning.specs.invariants.ChargesIn.{charges_in, spare_in, spares_in, is_cell}
use Rattle.lisp_meaning.specs.reading.Classes.{class_at, in_class, in_old_class, classes, of_class}
use Rattle.lisp_meaning.specs.invariants.Fits.{CellCdr, Roled}
use Rattle.lisp_meaning.specs.reading.Image.{Image, word, region, is_free}
use Rattle.lisp_meaning.specs.invariants.Invariant.{MemoryInvariant, MachineInvariant}
use Rattle.lisp_meaning.specs.invariants.Roles.{Kind, AsCons, AsBlock, Role, Cell, value_of, RoleMap, kind_of, cdr_of, Begins}
use Rattle.lisp_meaning.specs.reading.Stands.{is_cell_word, is_cell_of, stands_in, cells_in, machine_account, Room, StandsUnder}
use Rattle.lisp_meaning.specs.machine.State.{Store, object, in_use, is_held, State}
use Rattle.lisp_graph.specs.store_word.Words.{null_word}
use Rattle.lisp_graph.specs.store_word.declared.word.CdrCode.{CdrCode}
use Rattle.lisp_graph.specs.store_word.declared.word.CdrCode.TheVariants.{Next as CdrNext, Nil as CdrNil, Normal as CdrNormal, Second as CdrSecond}
use Rattle.lisp_graph.specs.store_word.declared.word.Content.{Content}
use Rattle.lisp_graph.specs.store_word.declared.word.Content.TheVariants.{Null, Nil as NilWord, Fixnum, List as ListAt, Struct as StructAt, Header, HeaderForward, GcForward}
use Rattle.lisp_graph.specs.Totals.{total, if_true}
use Rattle.lisp_graph.proofs.Totals.{total-zero, total-suc, total-cong, total-add}
use Rattle.lisp_meaning.proofs.sums.Accounts.{account_of_classes}
use Rattle.lisp_meaning.proofs.maps.Patches.{begins_owner}
use Rattle.lisp_meaning.proofs.layout.ObjectWords.{cell_fits, head_fits, block_fits}
use Rattle.lisp_meaning.proofs.reading.HuskWords.{husk_words_few}
use Rattle.lisp_meaning.proofs.reading.ReadRoles.{means, distinct, objects_read, no_stale_read, above_read, used_where}
use Rattle.lisp_meaning.specs.invariants.Interpretation.{Interpretation, interpretation}

-- a name's word is that of a cell if and only if its role is one
cell_value : (role : ℕ → Role) (c : Content) (v : Value) → value_of role c ≡ Some v → (is_cell_of c CdrNext ≡ true) × (is_cell_of c CdrNil ≡ true) × (is_cell_of c CdrNormal ≡ false)
cell_value role Null v e = cc
cell_value role NilWord v e = (refl, refl, refl)
cell_value role (Fixnum i) v e = (refl, refl, refl)
cell_value role (ListAt a) v e = (refl, refl, refl)
cell_value role (StructAt a) v e = (refl, refl, refl)
cell_value role (Header code n) v e = cc
cell_value role (HeaderForward a) v e = cc
cell_value role (GcForward a) v e = cc

module _ (g : Image) (k : RoleMap) (s : Store) (R : Roled (word g) (classes g) k s) where
  cell_read : (n : ℕ) → in_use s n → is_cell_word (word g (k.at n)) ≡ is_cell (k.role (k.at n))
  cell_read n u = go (kind_of (object s n).body) (R.begins n u)
    where
      at_cell : (i : ℕ) → k.role (k.at n) ≡ Cell n i → (code : CdrCode) → (word g (k.at n)).cdr ≡ code → CellCdr k.role (k.at n) i (cdr_of (object s n).body) code → is_cell_word (word g (k.at n)) ≡ true
      at_cell i e CdrNext z c = let f = (cell_fits (word g) (classes g) k s R n (k.at n) i e).car in ap (is_cell_of (word g (k.at n)).content) z ∙ (cell_value k.role (word g (k.at n)).content f.0 f.2).0
      at_cell i e CdrNil z c = let f = (cell_fits (word g) (classes g) k s R n (k.at n) i e).car in ap (is_cell_of (word g (k.at n)).content) z ∙ (cell_value k.role (word g (k.at n)).content f.0 f.2).1
      at_cell i e CdrNormal z c = absurd c
      at_cell i e CdrSecond z c = absurd c

      go : (kind : Kind) → Begins kind (k.role (k.at n)) n → is_cell_word (word g (k.at n)) ≡ is_cell (k.role (k.at n))
      go AsCons (inl e) =
          let f = head_fits (word g) (classes g) k s R n (k.at n) e in
          ap (is_cell_of (word g (k.at n)).content) f.code ∙ (cell_value k.role (word g (k.at n)).content f.car.0 f.car.2).2 ∙ ap is_cell (sym e)
      go AsCons (inr e) = at_cell e.0 e.1 (word g (k.at n)).cdr refl (cell_fits (word g) (classes g) k s R n (k.at n) e.0 e.1).cdr ∙ ap is_cell (sym e.1)
      go AsBlock e = ap (λ (c : Content). is_cell_of c (word g (k.at n)).cdr) (block_fits (word g) (classes g) k s R n (k.at n) e).content ∙ ap is_cell (sym e)

and_assoc : (a b c : Bool) → ((a && b) && c) ≡ (a && (b && c))
and_assoc true b c = refl
and_assoc false b c = refl

-- two for each that passes
total-twice : (p : ℕ → Bool) (n : ℕ) → 2 * total (λ m. if_true (p m) 1) n ≡ total (λ m. if_true (p m) 2) n
total-twice p zero = let a = total-zero (λ m. if_true (p m) 1) in let b = total-zero (λ m. if_true (p m) 2) in omega arith
total-twice p (suc n) =
    let i = total-twice p n in
    let a = total-suc (λ m. if_true (p m) 1) n in
    let b = total-suc (λ m. if_true (p m) 2) n in
    let c = two (p n) in
    omega arith
  where
    two : (t : Bool) → 2 * if_true t 1 ≡ if_true t 2
    two true = refl
    two false = refl

module _ (g : Image) (it : Interpretation) (h : MemoryInvariant g it) where
  spares_read : (area level : ℕ) → 2 * cells_in g it.store it.map.at (of_class area level) ≡ spares_in it.store it.map (classes g) (in_class area level)
  spares_read area level = total-twice (λ n. stands_in g it.store it.map.at (of_class area level) n && is_cell_word (word g (it.map.at n))) (length it.store.objects) ∙ total-cong (λ n. if_true (stands_in g it.store it.map.at (of_class area level) n && is_cell_word (word g (it.map.at n))) 2) (spare_in it.store it.map (classes g) (in_class area level)) (length it.store.objects)
      (λ n l. each n (cases_Bool (is_held it.store n)))
    where
      each : (n : ℕ) → (is_held it.store n ≡ true) ⊎ (is_held it.store n ≡ false)
          → if_true (stands_in g it.store it.map.at (of_class area level) n && is_cell_word (word g (it.map.at n))) 2 ≡ spare_in it.store it.map (classes g) (in_class area level) n
      each n (inl u) =
          ap (λ (b : Bool). if_true (stands_in g it.store it.map.at (of_class area level) n && b) 2) (cell_read g it.map it.store h.roled n u)
          ∙ ap (λ (b : Bool). if_true b 2) (and_assoc (is_held it.store n) (of_class area level (region g (it.map.at n))) (is_cell (it.map.role (it.map.at n))))
      each n (inr u) =
          ap (λ (b : Bool). if_true ((b && of_class area level (region g (it.map.at n))) && is_cell_word (word g (it.map.at n))) 2) u
          ∙ ap (λ (b : Bool). if_true (b && (of_class area level (region g (it.map.at n)) && is_cell (it.map.role (it.map.at n)))) 2) (sym u)

  -- (f)
  room_read : Room g it.store it.aim it.map.at
  room_read = record {
    live = λ area level. (let a = spares_read area level in let b = h.room_live area level in let c = h.live_charges area level in let d = h.live_husks area level in omega arith);
    husks = λ area level. (let a = husk_words_few g it.map it.store h.roled h.covered h.names area level in let b = h.room_husks area level (length g.words) in let c = h.live_husks area level in omega arith);
    old = h.room_old;
    chains = h.chains;
    above = above_read g it.map it.store h.roled h.covered;
  }

  -- (e)
  pub where_held : (n : ℕ) → in_use it.store n → ((class_at (classes g) (it.map.at n)).area ≡ (object it.store n).area) × ((class_at (classes g) (it.map.at n)).level < suc it.top) × (is_free (class_at (classes g) (it.map.at n)).standing ≡ false)
  where_held n u = (h.classes_of.area n u, h.levels n u, (used_where g it.map it.store h.roled h.covered (it.map.at n) n (begins_owner (kind_of (object it.store n).body) (it.map.role (it.map.at n)) n (h.roled.begins n u))).1)

  pub account_read : (a : ℕ) → machine_account g it.top a ≡ account it.top it.store it.aim a
  account_read a =
      let live : ℕ → ℕ = g.live_charge a in
      let old : ℕ → ℕ = g.old_charge a in
      let x = total-add (λ l. g.live_charge a l + g.live_husks a l + g.old_charge a l) (g.old_husks a) (suc it.top) in
      let y = total-add (λ l. g.live_charge a l + g.live_husks a l) (g.old_charge a) (suc it.top) in
      let z = total-add (g.live_charge a) (g.live_husks a) (suc it.top) in
      let v = total-add (g.live_charge a) (g.old_charge a) (suc it.top) in
      let husks = total-cong (g.live_husks a) (it.store.husks a) (suc it.top) (λ l q. h.live_husks a l) in
      let gone = h.old_husks a in
      let sums = total-cong (λ l. g.live_charge a l + g.old_charge a l) (λ l. charges_in it.store it.map.at (classes g) (in_class a l) + charges_in it.store it.map.at (classes g) (in_old_class a l)) (suc it.top)
      (λ l q. (let c = h.live_charges a l in let d = h.old_charges a l in omega arith)) in
      let all = account_of_classes it.store it.map.at (classes g) a (suc it.top) where_held in
      omega arith

pub stands_under : (g : Image) (k : RoleMap) (s : State) → MachineInvariant g k s → StandsUnder g s k.at
stands_under g k s h = record {
  distinct = distinct g k s.store h.kept.roled;
  objects = objects_read g k s.store h.kept.roled h.kept.covered h.kept.names;
  registers = record { count = h.count; each = λ r l. means g k s.store h.kept.roled (get_or g.registers r null_word).content (get_or s.registers r V.Nil) (h.registers r l) };
  classes = h.kept.classes_of;
  phase = h.phase;
  accounts = λ a l. (account_read g (interpretation k s) h.kept a, h.kept.quota a l);
  room = room_read g (interpretation k s) h.kept;
  no_stale = no_stale_read g k s.store h.kept.roled h.kept.covered;
  marks = h.kept.marks;
  reach = h.reach;
  work = h.work;
}
