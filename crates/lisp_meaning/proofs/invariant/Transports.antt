-- Transports keep the invariant.
use Rattle.std.proofs.Common.{◌≡◌, ℕ, zero, suc, ◌+◌, ◌-◌, ◌*◌, ◌<◌, ◌≤◌, ◌⊎◌, inl, inr, true, refl, sym, ◌∙◌, ap, subst, arith, Option, Some, None, List}
use Rattle.std.proofs.lemmas.Bool.{cases_lt}
use Rattle.std.proofs.lemmas.Grind.{common_steps}
use Rattle.lisp_graph.specs.store_word.Words.{Parts}
use Rattle.lisp_graph.specs.store_word.declared.word.CdrCode.TheVariants.{Next as CdrNext, Nil as CdrNil, Normal as CdrNormal}
use Rattle.lisp_graph.specs.store_word.declared.word.Content.{Content}
use Rattle.lisp_graph.specs.store_word.declared.word.Content.TheVariants.{Header, GcForward}
use Rattle.lisp_graph.specs.declared.object.Value.{Value}
use Rattle.lisp_graph.specs.declared.object.Value.TheVariants as V
use Rattle.lisp_graph.specs.declared.command.Condemn.{Condemn}
use Rattle.lisp_graph.specs.declared.command.Condemn.TheVariants.{Full, Chosen}
use Rattle.lisp_meaning.specs.machine.State.{survivor, object, in_use}
use Rattle.lisp_meaning.specs.machine.Sound.{is_kept}
use Rattle.lisp_meaning.specs.reading.Image.{Old, Image, word, with_words}
use Rattle.lisp_meaning.specs.reading.Classes.{classes, class_at, region_of}
use Rattle.lisp_meaning.specs.reading.Forwards.{forward_of}
use Rattle.lisp_meaning.specs.invariants.Roles.{AsCons, AsBlock, PairHead, Cell, names_as, name_at, as_ref}
use Rattle.lisp_meaning.specs.invariants.Laid.{ABlock, scratched, moved_to}
use Rattle.lisp_meaning.specs.invariants.Placed.{Rehomed}
use Rattle.lisp_meaning.specs.invariants.Invariant.{MemoryInvariant}
use Rattle.lisp_meaning.specs.invariants.Interpretation.{Interpretation}
use Rattle.lisp_meaning.specs.keeping.After.{After}
use Rattle.lisp_meaning.specs.keeping.Transport.{Survives, CellsStand, RunIsShort, BlockMoved, RunToPairMoved, RunToNilMoved, CutRunMoved}
use Rattle.lisp_meaning.proofs.layout.ObjectWords.{head_fits, cell_fits, block_fits}
use Rattle.lisp_meaning.proofs.roles.RunNames.{name_at_is, cons_there, pair_there, cell_there, block_there, follower_named, follower_cdr, follower_near, run_cells, follower_kept, kept_bound}
use Rattle.lisp_meaning.proofs.invariant.ObjectTransport.{old_condemned, kept_block_moved, block_less_old, block_moved_frame}
use Rattle.lisp_meaning.proofs.maps.LaterMaps.{RunLater}
use Rattle.lisp_meaning.proofs.layout.RunEnds.{run_nil_moved, run_last_moved, run_pair_moved}
use Rattle.lisp_meaning.proofs.reading.ReferenceMeaning.{laid_named, one_named}
use Rattle.lisp_meaning.proofs.sums.OldCharges.{standing_less}

survivor_low : (top : ℕ) (what : Condemn) (level : ℕ) → survivor top what level < suc top
survivor_low top Full level = omega arith
survivor_low top (Chosen levels) level = grind (arith, common_steps)

-- A block

abbrev size_of : Content → ℕ
size_of (Header code size) = size
size_of _ = 0

pub block_moved : BlockMoved
block_moved g g1 ws it registers a b n code size area level h v header w copies =
    let r = block_there (word g) (classes g) it.map it.store h.roled a n v.named (ap forward_of header) in
    let f = block_fits (word g) (classes g) it.map it.store h.roled n a r in
    let bound = kept_bound it.store it.aim n v.kept (old_condemned g it h n a area level f.used f.place w.old) in
    let size_is : f.size ≡ size = ap size_of (sym f.content ∙ header) in
    let charge : suc size ≡ (object it.store n).charge = (let x = f.charge in omega arith) in
    let P : ℕ → Type 0 = λ c. Rehomed g g1 area level (survivor it.top it.aim.what level) c in
    let forward : (word (with_words g1 ws) a).content ≡ GcForward b =
    ap (λ (c : ℕ). (word (with_words g1 ws) c).content) (let z : a ≡ a + 0 = omega arith in z) ∙ ap (λ (x : Parts). x.content) (w.forwarded 0 (omega arith)) ∙ ap GcForward (let z : b + 0 ≡ b = omega arith in z) in
    let others : (i : ℕ) → (i ≡ a → ⊥) → word (with_words g1 ws) i ≡ word g1 i = λ i ne. w.others i (λ x. let l = x.0 in let y = x.1 in ne (omega arith)) in
    let low = survivor_low it.top it.aim.what level in
    let kept = kept_block_moved g g1 it h n a b area (survivor it.top it.aim.what level) level size w.placed (subst P charge w.charged) ws w.marks r code header w.old bound copies forward others refl low in
    let frame = block_moved_frame g g1 it h n a b area (survivor it.top it.aim.what level) level size w.placed (subst P charge w.charged) ws w.marks r code header w.old bound copies forward others refl low in
    let less = block_less_old g g1 it h n a b area (survivor it.top it.aim.what level) level size w.placed (subst P charge w.charged) ws w.marks r code header w.old bound copies forward others refl low in
    record {
      map = moved_to it.map n a (ABlock size) b (ABlock size);
      kept = kept;
      refines = frame.refine;
      there = one_named (moved_to it.map n a (ABlock size) b (ABlock size)) AsBlock b n (laid_named (scratched it.map b (suc size)) n a (suc size) b (ABlock size) _ _ (it.map.age a));
      old = standing_less g (with_words g1 ws) it (moved_to it.map n a (ABlock size) b (ABlock size)) it.store (suc size) h kept (let x = less.less in omega arith);
    }

-- Runs

-- names and places of a run
module _ (g : Image) (it : Interpretation) (registers : List Value) (h : MemoryInvariant g it) (a n area level : ℕ) (v : Survives it registers AsCons a n)
    (old : class_at (classes g) a ≡ record { area = area; level = level; standing = Old }) (count start : ℕ)
    (cells : (i : ℕ) → i < count → it.map.role (a + i) ≡ Cell (name_at it.map (a + i)) (start + i)) (next : (i : ℕ) → i < count → (word g (a + i)).cdr ≡ CdrNext) where
  first : a + 0 ≡ a
  first = omega arith

  after : (i : ℕ) → suc (a + i) ≡ a + suc i
  after i = omega arith

  near : (i : ℕ) → i ≤ count → region_of (a + i) ≡ region_of a
  near zero l = ap region_of first
  near (suc i) l = ap region_of (sym (after i)) ∙ follower_near (word g) (classes g) it.map it.store h.roled (a + i) (name_at it.map (a + i)) (start + i) (cells i l) (next i l) ∙ near i (omega arith)

  named : (i : ℕ) → i ≤ count → names_as AsCons (it.map.role (a + i)) ≡ Some (name_at it.map (a + i))
  named zero l = name_at_is it.map (a + 0) n (ap (λ (c : ℕ). names_as AsCons (it.map.role c)) first ∙ v.named)
  named (suc i) l =
      let P : ℕ → Type 0 = λ c. names_as AsCons (it.map.role c) ≡ Some (name_at it.map c) in
      subst P (after i) (follower_named (word g) (classes g) it.map it.store h.roled (a + i) (name_at it.map (a + i)) (start + i) (cells i l) (next i l))

  used : (i : ℕ) → i < count → in_use it.store (name_at it.map (a + i))
  used i l = (cell_fits (word g) (classes g) it.map it.store h.roled (name_at it.map (a + i)) (a + i) (start + i) (cells i l)).used

  kept_at : (i : ℕ) → i ≤ count → is_kept it.store it.aim (name_at it.map (a + i)) ≡ true
  kept_at zero l =
      let e : Some n ≡ Some (name_at it.map (a + 0)) = sym (ap (λ (c : ℕ). names_as AsCons (it.map.role c)) first ∙ v.named) ∙ named zero l in
      let z : n ≡ name_at it.map (a + 0) = cc in
      ap (is_kept it.store it.aim) (sym z) ∙ v.kept
  kept_at (suc i) l =
      let P : ℕ → Type 0 = λ c. is_kept it.store it.aim (name_at it.map c) ≡ true in
      subst P (after i) (follower_kept it.store (is_kept it.store it.aim) (λ m p. v.reaches.closed.from_objects m p) (name_at it.map (a + i)) (name_at it.map (suc (a + i))) (h.names (name_at it.map (a + i)) (used i l)) (kept_at i (omega arith))
      (follower_cdr (word g) (classes g) it.map it.store h.roled (a + i) (name_at it.map (a + i)) (start + i) (cells i l) (next i l)))

  bound_at : (i : ℕ) → i ≤ count → forward_of (word g (a + i)).content ≡ None → it.aim.bound (name_at it.map (a + i)) ≡ true
  bound_at i l here =
      let p = place (cons_there (word g) (classes g) it.map it.store h.roled (a + i) (name_at it.map (a + i)) (named i l) here) in
      kept_bound it.store it.aim (name_at it.map (a + i)) (kept_at i l) (old_condemned g it h (name_at it.map (a + i)) (a + i) area level p.0 p.1 (ap (classes g) (near i l) ∙ old))
    where
      place : (it.map.role (a + i) ≡ PairHead (name_at it.map (a + i))) ⊎ ((j : ℕ) × (it.map.role (a + i) ≡ Cell (name_at it.map (a + i)) j)) → in_use it.store (name_at it.map (a + i)) × (it.map.at (name_at it.map (a + i)) ≡ a + i)
      place (inl r) = let f = head_fits (word g) (classes g) it.map it.store h.roled (name_at it.map (a + i)) (a + i) r in (f.used, f.place)
      place (inr r) = let f = cell_fits (word g) (classes g) it.map it.store h.roled (name_at it.map (a + i)) (a + i) r.0 r.1 in (f.used, f.place)

-- words that have the cdr code next haven't the code normal
not_normal : (w : Parts) → w.cdr ≡ CdrNext → w.cdr ≡ CdrNormal → ⊥
not_normal w e z = cc

not_normal_nil : (w : Parts) → w.cdr ≡ CdrNil → w.cdr ≡ CdrNormal → ⊥
not_normal_nil w e z = cc

-- the cells of a compact run, by their roles
module _ (g : Image) (it : Interpretation) (h : MemoryInvariant g it) (a n count : ℕ) (named : names_as AsCons (it.map.role a) ≡ Some n)
    (here : (i : ℕ) → i < suc count → forward_of (word g (a + i)).content ≡ None) (cell : (i : ℕ) → i < suc count → (word g (a + i)).cdr ≡ CdrNormal → ⊥)
    (next : (i : ℕ) → i < count → (word g (a + i)).cdr ≡ CdrNext) where
  pub first_cell : (i : ℕ) × (it.map.role a ≡ Cell n i)
  first_cell =
      let z : a + 0 ≡ a = omega arith in
      cell_there (word g) (classes g) it.map it.store h.roled a n named (ap (λ (c : ℕ). forward_of (word g c).content) (sym z) ∙ here 0 (omega arith))
      (λ e. cell 0 (omega arith) (ap (λ (c : ℕ). (word g c).cdr) z ∙ e))

  pub all_cells : (i : ℕ) → i < suc count → it.map.role (a + i) ≡ Cell (name_at it.map (a + i)) (first_cell.0 + i)
  all_cells i l = run_cells (word g) (classes g) it.map it.store h.roled a n first_cell.0 (suc count) first_cell.1 (λ i l. next i (omega arith)) (λ i l. (here i l, cell i l)) i l

-- the invariant by the map of a run that moved
after_run : (g g' : Image) (it : Interpretation) (charge moved b count : ℕ) (name : ℕ → ℕ) → MemoryInvariant g it → RunLater g g' it charge b count name → charge ≡ moved
    → After g g' it it.store moved AsCons b (suc count) name
after_run g g' it charge moved b count name h r e = record {
  map = r.map;
  kept = r.kept;
  refines = r.refines;
  there = λ i l. r.there i (omega arith);
  old = standing_less g g' it r.map it.store moved h r.kept (let x = r.less_old.less in omega arith);
}

outside : (a c count : ℕ) → ((i : ℕ) → i ≤ count → c ≡ a + i → ⊥) → (a ≤ c) × (c < a + suc count) → ⊥
outside a c count out x = let l = x.0 in let y = x.1 in out (c - a) (omega arith) (omega arith)

pub run_to_nil_moved : RunToNilMoved
run_to_nil_moved g g1 ws it registers a b n count area level h v stand here last w copies =
    let p = all_cells g it h a n count v.named plain cell stand.next in
    let start = (first_cell g it h a n count v.named plain cell stand.next).0 in
    let f = cell_fits (word g) (classes g) it.map it.store h.roled (name_at it.map (a + count)) (a + count) (start + count) (p count (omega arith)) in
    after_run g (with_words g1 ws) it (3 * count + (object it.store (name_at it.map (a + count))).charge) (3 * count + 3) b count (λ i. name_at it.map (a + i)) h
    (run_nil_moved g g1 it h a b count start area (survivor it.top it.aim.what level) level w.placed w.charged ws w.marks p stand.next last w.old
    (λ i l. bound_at g it registers h a n area level v w.old count start (λ i l. p i (omega arith)) stand.next i l (plain i (omega arith)))
    copies (λ i l. w.forwarded i (omega arith)) (λ c out. w.others c (outside a c count out)) refl (survivor_low it.top it.aim.what level))
    (let x = f.charge in omega arith)
  where
    plain : (i : ℕ) → i < suc count → forward_of (word g (a + i)).content ≡ None
    plain i l = go (cases_lt i count)
      where
        go : (i < count) ⊎ (count ≤ i) → forward_of (word g (a + i)).content ≡ None
        go (inl l) = stand.here i l
        go (inr x) = ap (λ (j : ℕ). forward_of (word g (a + j)).content) (let z : i ≡ count = omega arith in z) ∙ here

    cell : (i : ℕ) → i < suc count → (word g (a + i)).cdr ≡ CdrNormal → ⊥
    cell i l = go (cases_lt i count)
      where
        go : (i < count) ⊎ (count ≤ i) → (word g (a + i)).cdr ≡ CdrNormal → ⊥
        go (inl l) = not_normal (word g (a + i)) (stand.next i l)
        go (inr x) = not_normal_nil (word g (a + i)) (ap (λ (j : ℕ). (word g (a + j)).cdr) (let z : i ≡ count = omega arith in z) ∙ last)

ref_named : (o : Option ℕ) (n : ℕ) → as_ref o ≡ Some (V.Ref n) → o ≡ Some n
ref_named None n e = cc
ref_named (Some m) n e = cc

pub cut_run_moved : CutRunMoved
cut_run_moved g g1 ws it registers a b n count target area level h v stand same w copies car cdr =
    let cell : (i : ℕ) → i < suc count → (word g (a + i)).cdr ≡ CdrNormal → ⊥ = λ i l. not_normal (word g (a + i)) (stand.next i l) in
    let next : (i : ℕ) → i < count → (word g (a + i)).cdr ≡ CdrNext = λ i l. stand.next i (omega arith) in
    let p = all_cells g it h a n count v.named stand.here cell next in
    let start = (first_cell g it h a n count v.named stand.here cell next).0 in
    let f = cell_fits (word g) (classes g) it.map it.store h.roled (name_at it.map (a + count)) (a + count) (start + count) (p count (omega arith)) in
    let follows = follower_named (word g) (classes g) it.map it.store h.roled (a + count) (name_at it.map (a + count)) (start + count) (p count (omega arith)) (stand.next count (omega arith)) in
    let final = ref_named (names_as AsCons (it.map.role target)) (name_at it.map (suc (a + count))) (same ∙ ap as_ref follows) in
    after_run g (with_words g1 ws) it (3 * count + (object it.store (name_at it.map (a + count))).charge) (3 * count + 3) b count (λ i. name_at it.map (a + i)) h
    (run_last_moved g g1 it h a b count start area (survivor it.top it.aim.what level) level w.placed w.charged ws w.marks p stand.next w.old
    (λ i l. bound_at g it registers h a n area level v w.old count start (λ i l. p i (omega arith)) next i l (stand.here i (omega arith)))
    copies (ap (λ (x : Parts). x.content) car) (ap (λ (x : Parts). x.cdr) car) target (name_at it.map (suc (a + count))) (ap (λ (x : Parts). x.content) cdr) (ap (λ (x : Parts). x.cdr) cdr) follows final
    (λ i l. w.forwarded i (omega arith)) (λ c out. w.others c (outside a c count out)) refl (survivor_low it.top it.aim.what level))
    (let x = f.charge in omega arith)

-- this many cells, or none
some_cells : (g : Image) (it : Interpretation) → MemoryInvariant g it → (a n count : ℕ) → names_as AsCons (it.map.role a) ≡ Some n → CellsStand g a count
    → (start : ℕ) × ((i : ℕ) → i < count → it.map.role (a + i) ≡ Cell (name_at it.map (a + i)) (start + i))
some_cells g it h a n zero named stand = (0, λ i l. absurd (omega arith))
some_cells g it h a n (suc count) named stand =
    let cell : (i : ℕ) → i < suc count → (word g (a + i)).cdr ≡ CdrNormal → ⊥ = λ i l. not_normal (word g (a + i)) (stand.next i l) in
    let next : (i : ℕ) → i < count → (word g (a + i)).cdr ≡ CdrNext = λ i l. stand.next i (omega arith) in
    ((first_cell g it h a n count named stand.here cell next).0, all_cells g it h a n count named stand.here cell next)

pub run_is_short : RunIsShort
run_is_short g it a n zero h named stand = omega arith
run_is_short g it a n (suc count) h named stand =
    let c = some_cells g it h a n (suc count) named stand in
    let f = cell_fits (word g) (classes g) it.map it.store h.roled (name_at it.map (a + count)) (a + count) (c.0 + count) (c.1 count (omega arith)) in
    let x = f.few in omega arith

pub run_to_pair_moved : RunToPairMoved
run_to_pair_moved g g1 ws it registers a b n count area level h v stand here normal w copies =
    let c = some_cells g it h a n count v.named stand in
    let all : (i : ℕ) → i ≤ count → forward_of (word g (a + i)).content ≡ None = λ i l. plain i l (cases_lt i count) in
    let pair = pair_there (word g) (classes g) it.map it.store h.roled (a + count) (name_at it.map (a + count)) (named g it registers h a n area level v w.old count c.0 c.1 stand.next count (omega arith)) here normal in
    after_run g (with_words g1 ws) it (3 * count + (object it.store (name_at it.map (a + count))).charge) (3 * count + (object it.store (name_at it.map (a + count))).charge) b count (λ i. name_at it.map (a + i)) h
    (run_pair_moved g g1 it h a b count c.0 area (survivor it.top it.aim.what level) level w.placed w.charged ws w.marks c.1 stand.next pair w.old
    (λ i l. bound_at g it registers h a n area level v w.old count c.0 c.1 stand.next i l (all i l))
    (λ i l. copies i (omega arith)) (copies count (omega arith))
    (ap (word g1) (let z : suc (b + count) ≡ b + suc count = omega arith in z) ∙ copies (suc count) (omega arith) ∙ ap (word g) (let z : a + suc count ≡ suc (a + count) = omega arith in z))
    (λ i l. w.forwarded i (omega arith)) (λ c out. w.others c (outside a c count out)) refl (survivor_low it.top it.aim.what level))
    refl
  where
    plain : (i : ℕ) → i ≤ count → (i < count) ⊎ (count ≤ i) → forward_of (word g (a + i)).content ≡ None
    plain i l (inl x) = stand.here i x
    plain i l (inr x) = ap (λ (j : ℕ). forward_of (word g (a + j)).content) (let z : i ≡ count = omega arith in z) ∙ here
