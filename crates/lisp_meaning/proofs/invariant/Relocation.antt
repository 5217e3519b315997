-- An object that is relocated, in any shapes, from the invariant to the invariant.
use Rattle.std.proofs.Common.{◌≡◌, ℕ, suc, ◌+◌, ◌-◌, ◌<◌, ◌≤◌, ◌⊎◌, inl, inr, Bool, true, false, ◌==◌, if◌then◌else◌, refl, sym, ◌∙◌, ap, arith, Some, List, length}
use Rattle.std.proofs.lemmas.Bool.{cases_Bool}
use Rattle.lisp_graph.specs.store_word.Words.{Parts}
use Rattle.lisp_graph.specs.Totals.{if_true}
use Rattle.lisp_meaning.specs.machine.State.{rule_of, survivor, Store, object}
use Rattle.lisp_meaning.specs.machine.Charges.{account}
use Rattle.lisp_meaning.specs.reading.Image.{Image, word, region, is_free, Live, Old}
use Rattle.lisp_meaning.specs.reading.Classes.{Class, class_at, region_of, classes, in_old}
use Rattle.lisp_meaning.specs.reading.Marks.{Marks}
use Rattle.lisp_meaning.specs.invariants.Roles.{Kind, AsCons, Role, HuskWord, Relaid, Refines}
use Rattle.lisp_meaning.specs.invariants.Fits.{Roled}
use Rattle.lisp_meaning.specs.invariants.ChargesIn.{is_cell, charges_in, is_of_husk}
use Rattle.lisp_meaning.specs.invariants.Invariant.{MemoryInvariant}
use Rattle.lisp_meaning.specs.invariants.Interpretation.{Interpretation}
use Rattle.lisp_meaning.specs.invariants.Laid.{Shape, size, kind_in, role_in, scratched, relaid_to}
use Rattle.lisp_meaning.specs.invariants.Placed.{Placed, Recharged}
use Rattle.lisp_meaning.proofs.maps.Puts.{put_at-same, put_at-other}
use Rattle.lisp_meaning.proofs.maps.Frames.{Frame}
use Rattle.lisp_meaning.proofs.layout.Layout.{role_new}
use Rattle.lisp_meaning.proofs.layout.ObjectWords.{Standing, positive}
use Rattle.lisp_meaning.proofs.layout.Placement.{frame_then, ground_frame}
use Rattle.lisp_meaning.proofs.reading.Husks.{husks_relaid}
use Rattle.lisp_meaning.proofs.roles.RolesAfterLayout.{laid_roles, laid_where}
use Rattle.lisp_meaning.proofs.invariant.ObjectTransport.{PlacedRoles, placed_roles}
use Rattle.lisp_meaning.proofs.invariant.AfterRelocation.{Relays, kept_relaid, relaid_old}

-- the level of an object in a live region: its held level or, if it is condemned and has moved, its survivor's
pub live_level : (g : Image) (it : Interpretation) → MemoryInvariant g it → (n level : ℕ) → it.store.held n ≡ Some level → (region g (it.map.at n)).standing ≡ Live
    → (region g (it.map.at n)).level ≡ (if it.aim.condemned n then survivor it.top it.aim.what level else level)
live_level g it h n level held live = go (cases_Bool (it.aim.condemned n))
  where
    go : (it.aim.condemned n ≡ true) ⊎ (it.aim.condemned n ≡ false) → (region g (it.map.at n)).level ≡ (if it.aim.condemned n then survivor it.top it.aim.what level else level)
    go (inr e) = (h.classes_of.spared n level held e).1 ∙ sym (ap (λ (b : Bool). if b then survivor it.top it.aim.what level else level) e)
    go (inl e) = moved (h.classes_of.doomed n level held e) ∙ sym (ap (λ (b : Bool). if b then survivor it.top it.aim.what level else level) e)
      where
        moved : (((region g (it.map.at n)).standing ≡ Old) × ((region g (it.map.at n)).level ≡ level)) ⊎ (((region g (it.map.at n)).standing ≡ Live) × ((region g (it.map.at n)).level ≡ survivor it.top it.aim.what level) × (it.aim.bound n ≡ true))
            → (region g (it.map.at n)).level ≡ survivor it.top it.aim.what level
        moved (inl x) = let y = x.0 in cc
        moved (inr x) = x.1

module _ (g g1 : Image) (it : Interpretation) (s' : Store) (h : MemoryInvariant g it) (n a b area level husk : ℕ) (old new : Shape)
    (p : Placed g g1 b (size new) area level) (c : Recharged g g1 area level (object it.store n).charge (object s' n).charge husk) (ws : List Parts) (marks : Marks (record g1 { words = ws }))
    (r : Relays it.store s' n area level husk) (st : Standing it.map n a old) (there : class_at (classes g) a ≡ record { area = area; level = level; standing = Live })
    (roled : Roled (word (record g1 { words = ws })) (classes g1) (relaid_to it.map n a old b new) s') (f : Frame (scratched it.map b (size new)) (relaid_to it.map n a old b new) it.store s' (λ m. m == n))
    (quota : (x : ℕ) → x < length it.areas → account it.top s' it.aim x ≤ (rule_of it.areas x).quota)
    (pays : size new + if_true (is_cell (role_in new n 0)) 2 + (object it.store n).charge ≤ if_true (is_cell (role_in old n 0)) 2 + (object s' n).charge + husk) where
  roles : PlacedRoles it.map n a b old new
  roles = placed_roles g g1 it h n a b area level old new p st

  at_new : (relaid_to it.map n a old b new).at n ≡ b
  at_new = put_at-same it.map.at n b n refl

  role_there : (relaid_to it.map n a old b new).role ((relaid_to it.map n a old b new).at n) ≡ role_in new n 0
  role_there =
      ap (relaid_to it.map n a old b new).role (at_new ∙ (let q : b ≡ b + 0 = omega arith in q))
      ∙ role_new (scratched it.map b (size new)) n a (size old) b new (Relaid (kind_in old) n) (HuskWord a) (suc (it.map.age a)) roles.only (λ j l. roles.inside (b + j) (omega arith, omega arith)) 0 (positive new)

  role_here : it.map.role (it.map.at n) ≡ role_in old n 0
  role_here = ap it.map.role (st.place ∙ (let q : a ≡ a + 0 = omega arith in q)) ∙ st.only 0 (positive old)

  whole : Frame it.map (relaid_to it.map n a old b new) it.store s' (λ m. m == n)
  whole = frame_then it.map (scratched it.map b (size new)) (relaid_to it.map n a old b new) it.store it.store s' (λ m. m == n) (ground_frame g g1 it h b (size new) area level p) f

  -- the old words become a husk, or the one old word of a cell a forward, and then there is none
  abbrev pub Husk : Type 0
  Husk = (husk ≡ size old) ⊎ ((kind_in old ≡ AsCons) × (size old ≡ 1) × (husk ≡ 0))

  which : Husk → (i : ℕ) → is_of_husk ((relaid_to it.map n a old b new).role i) ≡ true → ((relaid_to it.map n a old b new).role i ≡ it.map.role i) ⊎ ((a ≤ i) × (i < a + husk))
  which husk_is i e =
      go husk_is (laid_where it.map n a (size old) b new (Relaid (kind_in old) n) (HuskWord a) (suc (it.map.age a)) roles.only roles.inside roles.outside (λ z. cc) (λ z. cc) (λ z. cc) (λ z. cc) i e)
    where
      go : Husk → ((relaid_to it.map n a old b new).role i ≡ it.map.role i)
          ⊎ ((i ≡ a) × (0 < size old) × ((relaid_to it.map n a old b new).role i ≡ Relaid (kind_in old) n)) ⊎ ((a < i) × (i < a + size old) × ((relaid_to it.map n a old b new).role i ≡ HuskWord a))
          → ((relaid_to it.map n a old b new).role i ≡ it.map.role i) ⊎ ((a ≤ i) × (i < a + husk))
      go w (inl r) = inl r
      go (inl w) (inr (inl x)) = let u = x.0 in let v = x.1 in inr (omega arith, omega arith)
      go (inl w) (inr (inr x)) = let u = x.0 in let v = x.1 in inr (omega arith, omega arith)
      go (inr w) (inr (inl x)) = let y = ap is_of_husk x.2 ∙ ap (λ (q : Kind). is_of_husk (Relaid q n)) w.0 in cc
      go (inr w) (inr (inr x)) = let u = x.0 in let v = x.1 in let q = w.1 in absurd (omega arith)

  -- they are in the object's class
  near : Husk → (i : ℕ) → (a ≤ i) × (i < a + husk) → class_at (classes g1) i ≡ record { area = area; level = level; standing = Live }
  near husk_is i x = go husk_is
    where
      inside : husk ≤ size old → class_at (classes g1) i ≡ record { area = area; level = level; standing = Live }
      inside few =
          let l = x.0 in let y = x.1 in
          ap (classes g1) (ap region_of (let z : i ≡ a + (i - a) = omega arith in z) ∙ st.region (i - a) (omega arith)) ∙ p.class a (ap (λ (q : Class). is_free q.standing) there) ∙ there

      go : Husk → class_at (classes g1) i ≡ record { area = area; level = level; standing = Live }
      go (inl w) = inside (omega arith)
      go (inr w) = let z = w.2 in inside (omega arith)

  pub kept_laid_anew : Husk → MemoryInvariant (record g1 { words = ws }) (record it { map = relaid_to it.map n a old b new; store = s' })
  kept_laid_anew husk_is = kept_relaid g g1 it (relaid_to it.map n a old b new) s' h n b (size new) area level husk p c ws marks r (ap (class_at (classes g)) st.place ∙ there) roled whole
      (laid_roles it.map n a (size old) b new (Relaid (kind_in old) n) (HuskWord a) (suc (it.map.age a)) roles.only roles.inside roles.outside (λ z. cc) (λ z. cc) (λ z. cc) (λ z. cc))
      (λ m ne. put_at-other it.map.at n b m ne) (ap region_of at_new) quota
      (let x = ap (λ (y : Role). if_true (is_cell y) 2) role_there in let z = ap (λ (y : Role). if_true (is_cell y) 2) role_here in let w = pays in omega arith)
      (husks_relaid g g1 it.map (relaid_to it.map n a old b new) b (size new) area level h.covered p a husk (object it.store n).charge (object s' n).charge c (which husk_is) (near husk_is) h.room_husks)

  pub laid_anew_old : charges_in s' (relaid_to it.map n a old b new).at (classes g1) in_old ≡ charges_in it.store it.map.at (classes g) in_old
  laid_anew_old = relaid_old g g1 it (relaid_to it.map n a old b new) s' h n b (size new) area level husk p c ws marks r (ap (class_at (classes g)) st.place ∙ there) roled whole
      (laid_roles it.map n a (size old) b new (Relaid (kind_in old) n) (HuskWord a) (suc (it.map.age a)) roles.only roles.inside roles.outside (λ z. cc) (λ z. cc) (λ z. cc) (λ z. cc))
      (λ m ne. put_at-other it.map.at n b m ne) (ap region_of at_new) quota
      (let x = ap (λ (y : Role). if_true (is_cell y) 2) role_there in let z = ap (λ (y : Role). if_true (is_cell y) 2) role_here in let w = pays in omega arith)

  pub laid_anew_refines : Refines it.map.role (relaid_to it.map n a old b new).role
  laid_anew_refines = whole.refine
