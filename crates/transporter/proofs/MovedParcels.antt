-- What moved, as the invariant has it: words placed, charged and forwarded.
use Rattle.std.proofs.Common.{ℕ, zero, suc, ◌≡◌, ◌⊎◌, ◌+◌, ◌-◌, ◌/◌, ◌%◌, ◌<◌, ◌≤◌, Bool, true, false, nat_lt, cond, IsTrue, List, length, slice_get, Option, Some, None, refl, sym, ◌∙◌, ap, subst, inl, inr, arith}
use Rattle.std.specs.Prelude.{Contains, IfSome}
use Rattle.std.proofs.lemmas.Bool.{cases_eq, cases_lt, lt-ltb, le-ltb}
use Rattle.std.proofs.lemmas.Option.{slice_get-get_or, slice_get_past, slice_get_within}
use Rattle.store_word.specs.Words.{Parts, null_word, address_of}
use Rattle.area_space.specs.lisp_graph.declared.command.Condemn.{Condemn}
use Rattle.area_space.specs.lisp_graph.declared.command.Condemn.TheVariants.{Full, Chosen}
use Rattle.mem_port.specs.Store.{Store}
use Rattle.area_space.specs.declared.classes.Origin.TheVariants.{Moved}
use Rattle.area_space.specs.Table.{Table, levels_of, slot_of, live, chain, used_of, IsUnclassed}
use Rattle.area_space.specs.Sound.{IsTable}
use Rattle.area_space.specs.Places.{IsEnd}
use Rattle.area_space.specs.Charges.{committed}
use Rattle.area_space.specs.Flips.{survivor, survivor_of}
use Rattle.area_space.specs.Ground.{IsGround, NamesNoFree}
use Rattle.area_space.proofs.UsedEnds.{end_in_chain, end_region}
use Rattle.obj_layout.specs.Forwards.{word_at}
use Rattle.lisp_ground.specs.lisp_meaning.State as M
use Rattle.lisp_ground.specs.lisp_meaning.Image.{is_used}
use Rattle.lisp_ground.specs.lisp_meaning.Roles.{Blank, AsCons, names_as}
use Rattle.lisp_ground.specs.lisp_meaning.Placed.{Placed, Rehomed}
use Rattle.lisp_ground.specs.lisp_meaning.Transport.{Rehouses}
use Rattle.lisp_ground.specs.Image.{ground_image}
use Rattle.lisp_ground.specs.GroundInvariant.{GroundInvariant, SameForm, NamesUsed}
use Rattle.lisp_ground.specs.Writes.{WritesWithin}
use Rattle.lisp_ground.specs.Laying.{Lays}
use Rattle.lisp_ground.specs.Placing.{Opens}
use Rattle.lisp_ground.proofs.words.UsedEnds.{Extends, committed_extends, used_here, used_other}
use Rattle.lisp_ground.proofs.words.Layout.{laid_ground, laid_named, laid_placed, laid_rehomed}
use Rattle.lisp_ground.proofs.invariant.Marks.{ground_marks}
use Rattle.lisp_ground.proofs.words.Values.{named_used, word_names_used}
use Rattle.lisp_ground.proofs.words.WrittenWords.{ground_written, named_written}
use Rattle.lisp_ground.proofs.invariant.WordStores.{used_below, used_inside}
use Rattle.transporter.specs.declared.parcel.Parcel.{Parcel}
use Rattle.transporter.specs.Parcels.{IsFit, word_count_of, word_more, moved_word, new_word}
use Rattle.transporter.specs.Writes.{Writes, forward_to, pair_word}
use Rattle.transporter.specs.Relocations.{old_class, IsOldIn, Moves}
use Rattle.transporter.proofs.ParcelRoles.{Stands}
use Rattle.lisp_ground.specs.lisp_meaning.Interpretation.{Interpretation}
use Rattle.transporter.proofs.OldCharges.{charged_there, old_class_at}

-- Words that were written, one by one or by a range

pub got-word_at : (ws : List Parts) (a : ℕ) (w : Parts) → slice_get ws a ≡ Some w → word_at ws a ≡ w
got-word_at ws a w e =
    let low = slice_get_within ws a w e in
    let both : Some (word_at ws a) ≡ Some w = sym (slice_get-get_or ws a null_word low) ∙ e in
    cc

same-get : (xs ys : List Parts) (a : ℕ) → length xs ≡ length ys → word_at xs a ≡ word_at ys a → slice_get xs a ≡ slice_get ys a
same-get xs ys a size same = go (cases_lt a (length ys))
  where
    go : (a < length ys) ⊎ (length ys ≤ a) → slice_get xs a ≡ slice_get ys a
    go (inl l) = slice_get-get_or xs a null_word (omega arith) ∙ ap Some same ∙ sym (slice_get-get_or ys a null_word l)
    go (inr past) = slice_get_past xs a (omega arith) ∙ sym (slice_get_past ys a past)

pub within-written : {old new : Store} {at count : ℕ} {word : ℕ → Parts} → Writes old new at count word → WritesWithin old new at count
within-written {old} {new} {at} {count} {word} w = record {
  size = w.size;
  others = λ a out. same-get new.words old.words a w.size (w.others a out);
  levels = w.levels;
  top = w.top;
}

-- A word with a role is used, and in the memory

module _ (m : Store) (t : Table) (it : Interpretation) (h : GroundInvariant m t it) where
  pub role_used : (a : ℕ) → (it.map.role a ≡ Blank → ⊥) → IsTrue (is_used (ground_image m t) a)
  role_used a role = go (is_used (ground_image m t) a) refl
    where
      go : (b : Bool) → is_used (ground_image m t) a ≡ b → IsTrue (is_used (ground_image m t) a)
      go true e = e
      go false e = absurd (role (h.kept.covered.unused a e))

  pub role_inside : (a : ℕ) → (it.map.role a ≡ Blank → ⊥) → a < length m.words
  role_inside a role = used_inside m t a h.table h.ground (role_used a role)

  pub role_below : (a : ℕ) → (it.map.role a ≡ Blank → ⊥) → a % 4096 < used_of t (a / 4096)
  role_below a role = used_below m t a h.table (role_used a role)

-- A place that leaves the words and the sizes

pub opened-form : {m0 m : Store} {t0 t : Table} (region : Option ℕ) {area level : ℕ} → Opens m0 t0 m t region area level → SameForm t0 t
opened-form None o = record { regions = ap (λ (u : Table). u.regions) o.same; top = ap (λ (u : Table). u.top) o.same; quotas = ap (λ (u : Table). u.quotas) o.same; kinds = ap (λ (u : Table). u.kinds) o.same }
opened-form (Some r) o = record { regions = ap (λ (u : Table). u.regions) o.chain; top = ap (λ (u : Table). u.top) o.chain; quotas = ap (λ (u : Table). u.quotas) o.chain; kinds = ap (λ (u : Table). u.kinds) o.chain }

pub opened-words : {m0 m : Store} {t0 t : Table} (region : Option ℕ) {area level : ℕ} → Opens m0 t0 m t region area level → m.words ≡ m0.words
opened-words None o = ap (λ (x : Store). x.words) o.behind
opened-words (Some r) o = ap (λ (x : Store). x.words) o.region_level

-- the level of a survivor is what the rules say
pub survivor-is : (t : Table) (what : Condemn) (top level : ℕ) → t.aim ≡ Some what → t.top ≡ top → survivor t level ≡ M.survivor top what level
survivor-is t what top level aim_is top_is = ap (λ (a : Option Condemn). survivor_of a t.top level) aim_is ∙ ap (λ (n : ℕ). survivor_of (Some what) n level) top_is ∙ go what
  where
    go : (w : Condemn) → survivor_of (Some w) top level ≡ M.survivor top w level
    go Full = refl
    go (Chosen levels) = ap (λ (n : ℕ). cond (nat_lt level top) n 0) (let e : level + 1 ≡ suc level = omega arith in e)

module _ (m : Store) (t : Table) (it : Interpretation) (h : GroundInvariant m t it)
    (p : Parcel) (fits : IsFit p) (stands : Stands it.map it.store p) (area from level to : ℕ) (old : IsOldIn t p.at area from) (level_in : level < levels_of t) (end : IsEnd t (slot_of t area level) to (word_count_of p))
    (m' : Store) (moves : Moves m m' p to) (u : Table) (v : IsTable u) (is : u ≡ record (committed t (slot_of t area level) to (word_count_of p) p.charge (Moved (old_class area from))) { pages = u.pages }) where
  pub extends : Extends t u to (word_count_of p)
  extends = committed_extends t u (slot_of t area level) to (word_count_of p) p.charge (Moved (old_class area from)) is

  -- what a word of the old place has as address is in no free region
  safe_old : (a : ℕ) → a < length m.words → NamesUsed t (word_at m.words a).content
  safe_old a l = word_names_used m t it h a (word_at m.words a) (slice_get-get_or m.words a null_word l)

  inside : (j : ℕ) → j < p.words → p.at + j < length m.words
  inside j l = role_inside m t it h (p.at + j) (stands.words j l)

  safe_pair : (cell : Parts) (rest j : ℕ) → NamesUsed t cell.content → (IsUnclassed t (rest / 4096) → ⊥) → NamesUsed t (pair_word cell rest j).content
  safe_pair cell rest zero a b = a
  safe_pair cell rest (suc j) a b = λ to e. let x : rest ≡ to = cc in subst (λ (r : ℕ). IsUnclassed t (r / 4096) → ⊥) x b

  safe_new : (i : ℕ) → i < word_count_of p → NamesUsed t (new_word m.words p i).content
  safe_new i l = go p.rest stands.rest l
    where
      go : (rest : Option ℕ) → IfSome rest (λ to. (n : ℕ) × (names_as AsCons (it.map.role to) ≡ Some n)) → i < p.words + word_more rest → NamesUsed t (moved_word m.words p.at p.words rest i).content
      go None named l = safe_old (p.at + i) (inside i (omega arith))
      go (Some rest) named l = pick (cases_lt (suc i) p.words)
        where
          free : IsUnclassed t (rest / 4096) → ⊥
          free = named_used m t it h AsCons rest named.0 named.1

          pick : (suc i < p.words) ⊎ (p.words ≤ suc i) → NamesUsed t (moved_word m.words p.at p.words (Some rest) i).content
          pick (inl less) = rw (lt-ltb (suc i) p.words less) (safe_old (p.at + i) (inside i (omega arith)))
          pick (inr past) =
              let some = fits.some in
              let each = fits.each in
              let place : p.at + (p.words - 1) ≡ p.at + p.words - 1 = omega arith in
              let last = subst (λ (a : ℕ). NamesUsed t (word_at m.words a).content) place (safe_old (p.at + (p.words - 1)) (inside (p.words - 1) (omega arith))) in
              rw (le-ltb (suc i) p.words past) (safe_pair (word_at m.words (p.at + p.words - 1)) rest (suc i - p.words) last free)

  pub lays : Lays m t moves.copied u to (word_count_of p) area level
  lays = record {
    area_in = old.area_in;
    level_in = level_in;
    end = end;
    writes = within-written moves.copies;
    safe = λ a w x got. let low = x.0 in let high = x.1 in
        let place : to + (a - to) ≡ a = omega arith in
        let there : new_word m.words p (a - to) ≡ w = sym (moves.copies.there (a - to) (omega arith)) ∙ ap (word_at moves.copied.words) place ∙ got-word_at moves.copied.words a w got in
        subst (λ (x : Parts). NamesUsed t x.content) there (safe_new (a - to) (omega arith));
    sound = v;
  }

  copied_ground : IsGround moves.copied u
  copied_ground = laid_ground m moves.copied t u to (word_count_of p) area level h.table h.ground h.named lays extends

  copied_named : NamesNoFree moves.copied u
  copied_named = laid_named m moves.copied t u to (word_count_of p) area level h.table h.ground h.named lays extends

  still_below : (r : ℕ) → used_of t r ≤ used_of u r
  still_below r = go (cases_eq r (to / 4096))
    where
      go : (r ≡ to / 4096) ⊎ (r ≡ to / 4096 → ⊥) → used_of t r ≤ used_of u r
      go (inl e) =
          let i = end_region t (slot_of t area level) to (word_count_of p) h.table end in
          let y = used_here t u to (word_count_of p) h.table extends i in
          subst (λ (x : ℕ). used_of t x ≤ used_of u x) (sym e) (omega arith)
      go (inr ne) = let y = used_other t u to (word_count_of p) h.table extends r ne in omega arith

  pub forwarded_ground : IsGround m' u
  forwarded_ground = ground_written moves.copied m' u p.at p.objects copied_ground (within-written moves.forwards)
      (λ a x. let low = x.0 in let high = x.1 in
      let each = fits.each in
      let place : p.at + (a - p.at) ≡ a = omega arith in
      let below = subst (λ (c : ℕ). c % 4096 < used_of t (c / 4096)) place (role_below m t it h (p.at + (a - p.at)) (stands.words (a - p.at) (omega arith))) in
      let more = still_below (a / 4096) in
      omega arith)

  live_there : (i : ℕ) → i < word_count_of p → IsUnclassed u ((to + i) / 4096) → ⊥
  live_there i l free =
      let e = end.end in
      let f = end.fits in
      let same : (to + i) / 4096 ≡ to / 4096 = omega arith in
      let there : Contains (chain t (live (slot_of t area level))) (to / 4096) = end_in_chain t (slot_of t area level) to (word_count_of p) end in
      let moved : Contains (chain u (live (slot_of t area level))) (to / 4096) = subst (λ (cs : List (List ℕ)). Contains (chain (record t { chains = cs }) (live (slot_of t area level))) (to / 4096)) (sym extends.chains) there in
      free (live (slot_of t area level)) (subst (λ (r : ℕ). Contains (chain u (live (slot_of t area level))) r) (sym same) moved)

  pub forwarded_named : NamesNoFree m' u
  forwarded_named = named_written moves.copied m' u p.at p.objects copied_named (within-written moves.forwards)
      (λ a w x got to' e free. let low = x.0 in let high = x.1 in
      let each = fits.each in
      let place : p.at + (a - p.at) ≡ a = omega arith in
      let there : forward_to (to + (a - p.at)) ≡ w = sym (moves.forwards.there (a - p.at) (omega arith)) ∙ ap (word_at m'.words) place ∙ got-word_at m'.words a w got in
      let same : Some (to + (a - p.at)) ≡ Some to' = ap (λ (x : Parts). address_of x.content) there ∙ e in
      let is : to + (a - p.at) ≡ to' = cc in
      live_there (a - p.at) (omega arith) (subst (λ (c : ℕ). IsUnclassed u (c / 4096)) (sym is) free))

  -- the premise of the theorems on transports
  pub rehouses : level ≡ M.survivor it.top it.aim.what from → Rehouses (ground_image m t) (ground_image moves.copied u) m'.words it.top it.aim p.at to (word_count_of p) p.objects area from p.charge
  rehouses level_is = record {
    old = old_class_at m t p.at area from h.table old;
    placed = subst (λ (l : ℕ). Placed (ground_image m t) (ground_image moves.copied u) to (word_count_of p) area l) level_is (laid_placed m moves.copied t u to (word_count_of p) area level h.table h.ground h.named lays extends);
    charged = subst (λ (l : ℕ). Rehomed (ground_image m t) (ground_image moves.copied u) area from l p.charge) level_is
        (laid_rehomed m moves.copied t u to (word_count_of p) p.charge area level h.table lays from old.level_in (charged_there m t it h p stands fits.each area from old) is);
    forwarded = moves.forwards.there;
    others = moves.forwards.others;
    marks = ground_marks m' u v forwarded_named;
  }
