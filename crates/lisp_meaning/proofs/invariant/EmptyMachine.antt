-- An empty machine keeps the invariant for a bare world.
use Rattle.std.proofs.Common.{◌≡◌, ℕ, suc, ◌+◌, ◌*◌, ◌/◌, ◌&&◌, ◌<◌, Bool, true, false, if◌then◌else◌, refl, sym, ◌∙◌, ap, arith, List, length, get_or, Some, None, nat_lt}
use Rattle.std.specs.Prelude.{is_some}
use Rattle.std.proofs.lemmas.Bool.{le-ltb}
use Rattle.lisp_graph.specs.store_word.Words.{Parts, null_word, address_of}
use Rattle.lisp_graph.specs.declared.object.Value.{Value}
use Rattle.lisp_graph.specs.declared.object.Value.TheVariants as V
use Rattle.lisp_graph.specs.declared.object.Object.{Object}
use Rattle.lisp_graph.specs.declared.world.World.{World}
use Rattle.lisp_graph.specs.Totals.{total, if_true}
use Rattle.lisp_graph.proofs.Totals.{total-zero}
use Rattle.lisp_meaning.specs.machine.State.{no_aim, is_held, in_use, object}
use Rattle.lisp_meaning.specs.machine.Charges.{account, per_area}
use Rattle.lisp_meaning.specs.machine.Opening.{opening}
use Rattle.lisp_meaning.specs.reading.Image.{Image, word, no_region, Region, is_used, is_old, is_free, used_words}
use Rattle.lisp_meaning.specs.reading.Classes.{classes, of_class, old_of, in_class, in_old_class}
use Rattle.lisp_meaning.specs.invariants.Roles.{Kind, AsCons, AsBlock, Blank, names_as, value_of}
use Rattle.lisp_meaning.specs.invariants.Fits.{Roled}
use Rattle.lisp_meaning.specs.invariants.ChargesIn.{charge_in, spare_in, husk_word_in}
use Rattle.lisp_meaning.specs.invariants.Invariant.{MachineInvariant}
use Rattle.lisp_meaning.specs.keeping.Empty.{IsEmpty, IsBare, blank_map}
use Rattle.lisp_meaning.proofs.sums.Charges.{total-none}

module _ (g : Image) (w : World) (e : IsEmpty g (length w.roots)) (b : IsBare w) where
  -- no name is held
  unheld : (n : ℕ) → (opening w).store.held n ≡ None
  unheld n = ap (λ (t : Bool). if t then Some 0 else None) (le-ltb n (length w.objects) (let z = ap (λ (xs : List Object). length xs) b.objects in omega arith))

  unused_name : (n : ℕ) → in_use (opening w).store n → ⊥
  unused_name n u = let x = ap is_some (unheld n) in cc

  none : (f : ℕ → ℕ) → total f (length w.objects) ≡ 0
  none f = ap (λ (xs : List Object). total f (length xs)) b.objects ∙ total-zero f

  no_address : (a c : ℕ) → address_of (word g a).content ≡ Some c → ⊥
  no_address a c h = let x = ap (λ (u : Parts). address_of u.content) (e.words a) in cc

  nothing_used : (p : Region → Bool) → p no_region ≡ false → used_words g p ≡ 0
  nothing_used p h = total-none (λ i. if_true (p (get_or g.regions i no_region)) (get_or g.regions i no_region).used) (length g.regions)
      (λ m l. ap (λ (r : Region). if_true (p r) r.used) (e.regions m) ∙ ap (λ (t : Bool). if_true t 0) h)

  no_account : (a : ℕ) → account w.space.levels (opening w).store no_aim a ≡ 0
  no_account a = let x = total-none (λ l. 0) (suc w.space.levels) (λ m l. refl) in let y = none (λ n. if_true (is_held (opening w).store n && per_area (opening w).store a n) (object (opening w).store n).charge) in omega arith

  empty_roled : Roled (word g) (classes g) blank_map (opening w).store
  empty_roled = record {
    fits = e.words;
    begins = λ n u. absurd (unused_name n u);
    young = λ kind a n h. absurd (nothing kind n h);
  }
    where
      nothing : (kind : Kind) (n : ℕ) → names_as kind Blank ≡ Some n → ⊥
      nothing AsCons n h = cc
      nothing AsBlock n h = cc

  unused : (a : ℕ) → is_used g a ≡ false
  unused a = ap (λ (r : Region). nat_lt a (4096 * (a / 4096) + r.used)) (e.regions (a / 4096)) ∙ le-ltb a (4096 * (a / 4096) + 0) (omega arith)

  register_nil : (r : ℕ) → r < length w.roots → value_of blank_map.role (get_or g.registers r null_word).content ≡ Some (get_or w.roots r V.Nil)
  register_nil r l = ap (value_of blank_map.role) (e.nil r l) ∙ ap (λ (v : Value). Some v) (sym (b.roots r l))

  pub empty_strong : MachineInvariant g blank_map (opening w)
  empty_strong = record {
    kept = record {
      roled = empty_roled;
      covered = record { used = λ a u h. (let x = unused a in let y : is_used g a ≡ true = u in cc); unused = λ a u. refl; free = λ a u. refl; done = λ a h. cc };
      names = λ n u. absurd (unused_name n u);
      condemned = λ n h. cc;
      bound = λ n h. cc;
      classes_of = record { area = λ n u. absurd (unused_name n u); spared = λ n l h f. (let x = unheld n in cc); doomed = λ n l h f. cc };
      levels = λ n u. absurd (unused_name n u);
      live_charges = λ a l. e.live_charge a l ∙ sym (none (charge_in (opening w).store blank_map.at (classes g) (in_class a l)));
      old_charges = λ a l. e.old_charge a l ∙ sym (none (charge_in (opening w).store blank_map.at (classes g) (in_old_class a l)));
      live_husks = e.live_husks;
      old_husks = λ a. total-none (g.old_husks a) (suc w.space.levels) (λ m l. e.old_husks a m);
      quota = λ a l. (let z = no_account a in omega arith);
      room_live = λ a l. (let x = nothing_used (of_class a l) refl in let y = none (spare_in (opening w).store blank_map (classes g) (in_class a l)) in omega arith);
      room_husks = λ a l i. (let x = total-none (husk_word_in blank_map (classes g) a l) i (λ m q. refl) in let y = e.live_husks a l in omega arith);
      room_old = λ a. (let x = nothing_used (old_of a) refl in omega arith);
      chains = λ i l h f. (let x = ap (λ (r : Region). is_free r.standing) (e.regions i) in cc);
      marks = record { marked = λ a c h l. absurd (no_address a c h); not_free = λ a c h. absurd (no_address a c h) };
    };
    count = e.count;
    registers = register_nil;
    phase = (e.collection, λ a. ap (λ (r : Region). is_old r.standing) (e.regions (a / 4096)));
    reach = tt;
    work = tt;
  }
