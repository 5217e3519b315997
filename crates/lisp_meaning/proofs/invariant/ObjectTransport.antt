-- The whole transport of one object, from the invariant to the invariant: words placed and copied, and the GC-FORWARD written.
use Rattle.std.proofs.Common.{◌≡◌, ℕ, suc, ◌+◌, ◌<◌, ◌≤◌, ◌⊎◌, inl, inr, true, false, ◌==◌, refl, sym, ◌∙◌, ap, subst, arith, Option, Some, None, List, IsTrue}
use Rattle.std.specs.Prelude.{is_some}
use Rattle.std.proofs.lemmas.Bool.{cases_eq, cases_Bool}
use Rattle.lisp_graph.specs.store_word.Words.{Parts}
use Rattle.lisp_graph.specs.store_word.declared.word.Content.TheVariants.{Header, GcForward}
use Rattle.lisp_graph.specs.Totals.{if_true}
use Rattle.lisp_meaning.specs.machine.State.{object, in_use, survivor}
use Rattle.lisp_meaning.specs.reading.Image.{Image, word, region, is_free, Live, Old, is_live, is_old}
use Rattle.lisp_meaning.specs.reading.Classes.{Class, class_at, is_old_at, is_live_at, region_of, classes}
use Rattle.lisp_meaning.specs.reading.Marks.{Marks}
use Rattle.lisp_meaning.specs.invariants.Roles.{Role, Scratch, Waste, Head, Moved, owner, RoleMap}
use Rattle.lisp_meaning.specs.invariants.Fits.{Roled}
use Rattle.lisp_meaning.specs.invariants.ChargesIn.{is_cell, is_of_husk}
use Rattle.lisp_meaning.specs.invariants.Invariant.{MemoryInvariant}
use Rattle.lisp_meaning.specs.invariants.Interpretation.{Interpretation, by_map}
use Rattle.lisp_meaning.specs.invariants.Laid.{Shape, ABlock, size, kind_in, role_in, scratched, moved_to}
use Rattle.lisp_meaning.proofs.maps.LaterMaps.{LessOld}
use Rattle.lisp_meaning.specs.invariants.Placed.{Placed, Rehomed}
use Rattle.lisp_meaning.proofs.maps.Puts.{put_at-same, put_at-other}
use Rattle.lisp_meaning.proofs.maps.Frames.{Frame}
use Rattle.lisp_meaning.proofs.layout.Layout.{role_new}
use Rattle.lisp_meaning.proofs.layout.ObjectWords.{Standing, positive, owner_in, block_fits, stands_block}
use Rattle.lisp_meaning.proofs.layout.ObjectCopy.{flip_block, flip_block_frame}
use Rattle.lisp_meaning.proofs.layout.Placement.{frame_then, opened, ground, scratch_role, other_role, ground_frame, class_else}
use Rattle.lisp_meaning.proofs.roles.RolesAfterLayout.{laid_roles, laid_where}
use Rattle.lisp_meaning.proofs.sums.MoveSums.{Moves, moves_then, moves_written, moves_one, moves_as}
use Rattle.lisp_meaning.proofs.invariant.AfterTransport.{Carried, kept_moved, less_old}

-- What an old place is

module _ (g : Image) (it : Interpretation) (h : MemoryInvariant g it) (n a area from : ℕ)
    (used : in_use it.store n) (place : it.map.at n ≡ a) (there : class_at (classes g) a ≡ record { area = area; level = from; standing = Old }) where
  -- only condemned objects are in old regions
  pub old_condemned : it.aim.condemned n ≡ true
  old_condemned = go (cases_Bool (it.aim.condemned n)) (it.store.held n) refl used
    where
      go : (it.aim.condemned n ≡ true) ⊎ (it.aim.condemned n ≡ false) → (o : Option ℕ) → it.store.held n ≡ o → IsTrue (is_some o) → it.aim.condemned n ≡ true
      go (inl e) o z u = e
      go (inr e) None z u = absurd (let x : false ≡ true = u in cc)
      go (inr e) (Some l) z u =
          let v = (h.classes_of.spared n l z e).0 in
          let x : (region g (it.map.at n)).standing ≡ Old = ap (λ (i : ℕ). (region g i).standing) place ∙ ap (λ (c : Class). c.standing) there in
          let y = sym v ∙ x in cc

  pub old_area : (object it.store n).area ≡ area
  old_area = sym (h.classes_of.area n used) ∙ ap (λ (i : ℕ). (region g i).area) place ∙ ap (λ (c : Class). c.area) there

-- a word that belongs to an object isn't among the words that are placed
pub not_placed : (g g1 : Image) (it : Interpretation) → MemoryInvariant g it → (b count area level : ℕ) → Placed g g1 b count area level
    → (c n : ℕ) → owner (it.map.role c) ≡ Some n → (b ≤ c) × (c < b + count) → ⊥
not_placed g g1 it h b count area level p c n o x = let z = ap owner (h.covered.unused c (p.unused c x.0 x.1)) in cc

-- The roles about the words that are placed for an object

pub record PlacedRoles (k : RoleMap) (n a b : ℕ) (old new : Shape) : Type 0 where
  pub outside : (i : ℕ) → ((b ≤ i) × (i < b + size new) → ⊥) → (scratched k b (size new)).role i ≡ k.role i
  pub inside : (i : ℕ) → (b ≤ i) × (i < b + size new) → (scratched k b (size new)).role i ≡ Scratch
  pub only : (j : ℕ) → j < size old → owner ((scratched k b (size new)).role (a + j)) ≡ Some n

pub placed_roles : (g g1 : Image) (it : Interpretation) → MemoryInvariant g it → (n a b area level : ℕ) (old new : Shape)
    → Placed g g1 b (size new) area level → Standing it.map n a old → PlacedRoles it.map n a b old new
placed_roles g g1 it h n a b area level old new p st = record {
  outside = outside;
  inside = scratch_role g g1 it h b (size new) area level p;
  only = λ j l. ap owner (outside (a + j) (not_placed g g1 it h b (size new) area level p (a + j) n (owned j l))) ∙ owned j l;
}
  where
    outside : (i : ℕ) → ((b ≤ i) × (i < b + size new) → ⊥) → (scratched it.map b (size new)).role i ≡ it.map.role i
    outside = other_role g g1 it h b (size new) area level p

    owned : (j : ℕ) → j < size old → owner (it.map.role (a + j)) ≡ Some n
    owned j l = ap owner (st.only j l) ∙ owner_in old n j

-- Any object, from one shape to another

module _ (g g1 : Image) (it : Interpretation) (h : MemoryInvariant g it) (n a b area level from : ℕ) (old new : Shape)
    (p : Placed g g1 b (size new) area level) (c : Rehomed g g1 area from level (object it.store n).charge) (ws : List Parts) (marks : Marks (record g1 { words = ws }))
    (used : in_use it.store n) (st : Standing it.map n a old) (there : class_at (classes g) a ≡ record { area = area; level = from; standing = Old }) (is_bound : it.aim.bound n ≡ true)
    (roled : Roled (word (record g1 { words = ws })) (classes g1) (moved_to it.map n a old b new) it.store)
    (f : Frame (scratched it.map b (size new)) (moved_to it.map n a old b new) it.store it.store (λ m. m == n))
    (survives : survivor it.top it.aim.what from ≡ level) (low : level < suc it.top) (pays : size new + if_true (is_cell (role_in new n 0)) 2 ≤ (object it.store n).charge) where
  roles : PlacedRoles it.map n a b old new
  roles = placed_roles g g1 it h n a b area level old new p st

  at_new : (moved_to it.map n a old b new).at n ≡ b
  at_new = put_at-same it.map.at n b n refl

  role_there : (moved_to it.map n a old b new).role ((moved_to it.map n a old b new).at n) ≡ role_in new n 0
  role_there =
      ap (moved_to it.map n a old b new).role (at_new ∙ (let q : b ≡ b + 0 = omega arith in q))
      ∙ role_new (scratched it.map b (size new)) n a (size old) b new (Moved (kind_in old) n) Waste (it.map.age a) roles.only (λ j l. roles.inside (b + j) (omega arith, omega arith)) 0 (positive new)

  was_old : class_at (classes g1) (it.map.at n) ≡ record { area = area; level = from; standing = Old }
  was_old = class_else g g1 it h b (size new) area level p n used ∙ ap (class_at (classes g)) st.place ∙ there

  places : (m : ℕ) → (m ≡ n) ⊎ (m ≡ n → ⊥) → ((moved_to it.map n a old b new).at m ≡ it.map.at m) ⊎ Carried g it.map (moved_to it.map n a old b new) it.store it.aim b area from m
  places m (inr ne) = inl (put_at-other it.map.at n b m ne)
  places m (inl z) =
      let P : ℕ → Type 0 = λ i. Carried g it.map (moved_to it.map n a old b new) it.store it.aim b area from i in
      inr (subst P (sym z) (record {
        condemned = old_condemned g it h n a area from used st.place there;
        bound = is_bound;
        area_of = old_area g it h n a area from used st.place there;
        was = ap (class_at (classes g)) st.place ∙ there;
        near = ap region_of at_new;
      }))

  moves : Moves (classes g1) it.map (moved_to it.map n a old b new) it.store (record { area = area; level = from; standing = Old }) (record { area = area; level = level; standing = Live })
      (object it.store n).charge (if_true (is_cell (role_in new n 0)) 2)
  moves = moves_as (classes g1) it.map (moved_to it.map n a old b new) it.store _ _ (0 + (object it.store n).charge) (0 + if_true (is_cell ((moved_to it.map n a old b new).role ((moved_to it.map n a old b new).at n))) 2) _ _
      (omega arith) (let z = ap (λ (r : Role). if_true (is_cell r) 2) role_there in omega arith)
      (moves_then (classes g1) it.map (scratched it.map b (size new)) (moved_to it.map n a old b new) it.store _ _ 0 0 (object it.store n).charge (if_true (is_cell ((moved_to it.map n a old b new).role ((moved_to it.map n a old b new).at n))) 2)
      (moves_written (word g) (classes g1) it.map (scratched it.map b (size new)) it.store _ _ (opened g g1 it h b (size new) area level p) (ground_frame g g1 it h b (size new) area level p) (λ m. refl))
      (moves_one (word g1) (classes g1) (scratched it.map b (size new)) (moved_to it.map n a old b new) it.store n _ _ (ground g g1 it h b (size new) area level p) f (h.names n used) used
      (λ m ne. put_at-other it.map.at n b m ne) was_old (ap (class_at (classes g1)) at_new ∙ p.class_there)))

  no_husk : (i : ℕ) → is_of_husk ((moved_to it.map n a old b new).role i) ≡ true → (moved_to it.map n a old b new).role i ≡ it.map.role i
  no_husk i e =
      go (laid_where it.map n a (size old) b new (Moved (kind_in old) n) Waste (it.map.age a) roles.only roles.inside roles.outside (λ z. cc) (λ z. cc) (λ z. cc) (λ z. cc) i e)
    where
      go : ((moved_to it.map n a old b new).role i ≡ it.map.role i)
          ⊎ ((i ≡ a) × (0 < size old) × ((moved_to it.map n a old b new).role i ≡ Moved (kind_in old) n)) ⊎ ((a < i) × (i < a + size old) × ((moved_to it.map n a old b new).role i ≡ Waste))
          → (moved_to it.map n a old b new).role i ≡ it.map.role i
      go (inl r) = r
      go (inr (inl x)) = let y = ap is_of_husk x.2 in cc
      go (inr (inr x)) = let y = ap is_of_husk x.2 in cc

  -- the invariant after the transport
  pub kept_object_moved : MemoryInvariant (record g1 { words = ws }) (by_map it (moved_to it.map n a old b new))
  kept_object_moved = kept_moved g g1 it (moved_to it.map n a old b new) h b (size new) area level from (object it.store n).charge (if_true (is_cell (role_in new n 0)) 2) p c ws marks roled
      (laid_roles it.map n a (size old) b new (Moved (kind_in old) n) Waste (it.map.age a) roles.only roles.inside roles.outside (λ z. cc) (λ z. cc) (λ z. cc) (λ z. cc))
      (λ m u. places m (cases_eq m n)) moves survives low pays no_husk

  pub object_less_old : LessOld g (record g1 { words = ws }) it.map (moved_to it.map n a old b new) it.store (object it.store n).charge
  object_less_old = less_old g g1 it (moved_to it.map n a old b new) h b (size new) area level from (object it.store n).charge (if_true (is_cell (role_in new n 0)) 2) p c ws marks roled
      (laid_roles it.map n a (size old) b new (Moved (kind_in old) n) Waste (it.map.age a) roles.only roles.inside roles.outside (λ z. cc) (λ z. cc) (λ z. cc) (λ z. cc))
      (λ m u. places m (cases_eq m n)) moves survives low pays

  -- and each other word means what it meant
  pub object_moved_frame : Frame it.map (moved_to it.map n a old b new) it.store it.store (λ m. m == n)
  object_moved_frame = frame_then it.map (scratched it.map b (size new)) (moved_to it.map n a old b new) it.store it.store it.store (λ m. m == n) (ground_frame g g1 it h b (size new) area level p) f

-- A pair, a block: copied as they are

module _ (g g1 : Image) (it : Interpretation) (h : MemoryInvariant g it) (n a b area level from count : ℕ)
    (p : Placed g g1 b count area level) (there : class_at (classes g) a ≡ record { area = area; level = from; standing = Old }) where
  pub old_there : is_old_at (classes g1) a ≡ true
  old_there = ap (λ (x : Class). is_old x.standing) (p.class a (ap (λ (x : Class). is_free x.standing) there) ∙ there)

  pub live_there : is_live_at (classes g1) b ≡ true
  live_there = ap (λ (x : Class). is_live x.standing) p.class_there

  pub written_there : (j : ℕ) → j < count → (scratched it.map b count).role (b + j) ≡ Scratch
  written_there j l = scratch_role g g1 it h b count area level p (b + j) (omega arith, omega arith)

  -- a word of an object keeps its role, and is unchanged
  pub still_owned : (i m : ℕ) → owner (it.map.role i) ≡ Some m → (scratched it.map b count).role i ≡ it.map.role i
  still_owned i m o = other_role g g1 it h b count area level p i (not_placed g g1 it h b count area level p i m o)

  pub same_owned : (i m : ℕ) → owner (it.map.role i) ≡ Some m → word g1 i ≡ word g i
  same_owned i m o = p.words i (not_placed g g1 it h b count area level p i m o)

module _ (g g1 : Image) (it : Interpretation) (h : MemoryInvariant g it) (n a b area level from count : ℕ)
    (p : Placed g g1 b (suc count) area level) (c : Rehomed g g1 area from level (object it.store n).charge) (ws : List Parts) (marks : Marks (record g1 { words = ws }))
    (ra : it.map.role a ≡ Head n) (code : ℕ) (sized : (word g a).content ≡ Header code count) (there : class_at (classes g) a ≡ record { area = area; level = from; standing = Old }) (is_bound : it.aim.bound n ≡ true)
    (copy : (j : ℕ) → j < suc count → word g1 (b + j) ≡ word g (a + j))
    (forward : (word (record g1 { words = ws }) a).content ≡ GcForward b) (others : (i : ℕ) → (i ≡ a → ⊥) → word (record g1 { words = ws }) i ≡ word g1 i)
    (survives : survivor it.top it.aim.what from ≡ level) (low : level < suc it.top) where
  block_used : in_use it.store n
  block_used = (block_fits (word g) (classes g) it.map it.store h.roled n a ra).used

  -- the header's length is the block's
  size_is : count ≡ (block_fits (word g) (classes g) it.map it.store h.roled n a ra).size
  size_is = let f = block_fits (word g) (classes g) it.map it.store h.roled n a ra in let z : Header code count ≡ Header f.kind f.size = sym sized ∙ f.content in (let y : count ≡ f.size = cc in y)

  block_standing : Standing it.map n a (ABlock count)
  block_standing = let P : ℕ → Type 0 = λ i. Standing it.map n a (ABlock i) in subst P (sym size_is) (stands_block (word g) (classes g) it.map it.store h.roled n a ra)

  rh0 : (scratched it.map b (suc count)).role a ≡ Head n
  rh0 = still_owned g g1 it h n a b area level from (suc count) p there a n (ap owner ra) ∙ ra

  block_ground : Roled (word g1) (classes g1) (scratched it.map b (suc count)) it.store
  block_ground = ground g g1 it h b (suc count) area level p

  same_head : word g1 a ≡ word g a
  same_head = same_owned g g1 it h n a b area level from (suc count) p there a n (ap owner ra)

  size_there : count ≡ (block_fits (word g1) (classes g1) (scratched it.map b (suc count)) it.store block_ground n a rh0).size
  size_there =
      let f = block_fits (word g1) (classes g1) (scratched it.map b (suc count)) it.store block_ground n a rh0 in
      let z : Header code count ≡ Header f.kind f.size = sym (ap (λ (u : Parts). u.content) same_head ∙ sized) ∙ f.content in (let y : count ≡ f.size = cc in y)

  copied : (j : ℕ) → j < suc count → word g1 (b + j) ≡ word g1 (a + j)
  copied j l = copy j l ∙ sym (same_owned g g1 it h n a b area level from (suc count) p there (a + j) n (ap owner (block_standing.only j l) ∙ owner_in (ABlock count) n j))

  block_roled : Roled (word (record g1 { words = ws })) (classes g1) (moved_to it.map n a (ABlock count) b (ABlock count)) it.store
  block_roled = flip_block (word g1) (word (record g1 { words = ws })) (classes g1) (scratched it.map b (suc count)) it.store block_ground n a b block_used
      (old_there g g1 it h n a b area level from (suc count) p there) (live_there g g1 it h n a b area level from (suc count) p there) forward others rh0 count size_there
      (written_there g g1 it h n a b area level from (suc count) p there) p.near copied

  block_frame : Frame (scratched it.map b (suc count)) (moved_to it.map n a (ABlock count) b (ABlock count)) it.store it.store (λ m. m == n)
  block_frame = flip_block_frame (word g1) (word (record g1 { words = ws })) (classes g1) (scratched it.map b (suc count)) it.store block_ground n a b block_used
      (old_there g g1 it h n a b area level from (suc count) p there) (live_there g g1 it h n a b area level from (suc count) p there) forward others rh0 count size_there
      (written_there g g1 it h n a b area level from (suc count) p there) p.near copied

  block_pays : suc count + 0 ≤ (object it.store n).charge
  block_pays = let x = (block_fits (word g) (classes g) it.map it.store h.roled n a ra).charge in let y = size_is in omega arith

  pub kept_block_moved : MemoryInvariant (record g1 { words = ws }) (by_map it (moved_to it.map n a (ABlock count) b (ABlock count)))
  kept_block_moved = kept_object_moved g g1 it h n a b area level from (ABlock count) (ABlock count) p c ws marks block_used block_standing there is_bound
      block_roled block_frame survives low block_pays

  pub block_less_old : LessOld g (record g1 { words = ws }) it.map (moved_to it.map n a (ABlock count) b (ABlock count)) it.store (object it.store n).charge
  block_less_old = object_less_old g g1 it h n a b area level from (ABlock count) (ABlock count) p c ws marks block_used block_standing there is_bound
      block_roled block_frame survives low block_pays

  pub block_moved_frame : Frame it.map (moved_to it.map n a (ABlock count) b (ABlock count)) it.store it.store (λ m. m == n)
  block_moved_frame = object_moved_frame g g1 it h n a b area level from (ABlock count) (ABlock count) p c ws marks block_used block_standing there is_bound
      block_roled block_frame survives low block_pays
