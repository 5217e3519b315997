-- What a reference of a kept object leads to is ready to move.
use Rattle.std.proofs.Common.{ℕ, ◌≡◌, ◌+◌, ◌-◌, ◌/◌, ◌%◌, ◌<◌, ◌≤◌, List, [], length, Option, Some, None, refl, sym, ◌∙◌, ap, subst, inl, inr, arith}
use Rattle.std.specs.Prelude.{Contains, IfOk, IfSome, IsSome, OnErr, Result, Ok, Err}
use Rattle.std.proofs.lemmas.Bool.{cases_lt}
use Rattle.std.proofs.lemmas.List.{get_or_past}
use Rattle.store_word.specs.Words.{Parts}
use Rattle.mem_port.specs.Store.{Store, StoresNothing}
use Rattle.area_space.specs.Table.{Table, levels_of, slots_of, stale, chain, IsOld}
use Rattle.area_space.specs.Sound.{IsTable}
use Rattle.area_space.proofs.GroundLaws.{ground_same, named_same}
use Rattle.area_space.proofs.Slots.{slot_again}
use Rattle.area_space.proofs.ChargeChanges.{area_below}
use Rattle.obj_layout.specs.declared.shape.Shape.TheVariants.{Pair as PairShape, Cell as CellShape}
use Rattle.obj_layout.specs.declared.run.RunEnd.{RunEnd}
use Rattle.obj_layout.specs.declared.run.RunEnd.TheVariants.{Nil as EndsNil, Pair as EndsPair, Forwarded}
use Rattle.obj_layout.specs.declared.run.Run.{Run}
use Rattle.obj_layout.specs.Forwards.{word_at, IsFinal}
use Rattle.obj_layout.specs.Shapes.{shape_of, IsWhole}
use Rattle.obj_layout.specs.Runs.{IsRun, StandsBehind, last_code}
use Rattle.lisp_ground.specs.lisp_meaning.Classes.{classes, region_of}
use Rattle.lisp_ground.specs.lisp_meaning.Roles.{Kind, AsCons, AsBlock, names_as}
use Rattle.lisp_ground.specs.lisp_meaning.Rewriting.{StandsThere}
use Rattle.lisp_ground.specs.Image.{ground_image}
use Rattle.lisp_ground.specs.GroundInvariant.{GroundInvariant}
use Rattle.lisp_ground.proofs.sums.Accounts.{levels_agree, areas_agree}
use Rattle.lisp_ground.proofs.words.PlaceRoom.{moved_room}
use Rattle.lisp_ground.proofs.words.Shapes.{block_stands, head_shape, cell_there, cons_no_block, pair_whole, whole}
use Rattle.lisp_ground.proofs.words.Runs.{has_run}
use Rattle.transporter.specs.declared.parcel.Parcel.{Parcel}
use Rattle.transporter.specs.Parcels.{IsFit, IsParcel, a_block, a_pair, a_run, StandsWhole, word_count_of, run_parcel}
use Rattle.transporter.specs.Relocations.{IsOldIn, CanMove, IsMovable, MovesHere, Relocates}
use Rattle.transporter.proofs.ParcelRoles.{Stands, not_blank, block-stands, pair-stands, run-stands, run-pair}
use Rattle.lisp_ground.specs.lisp_meaning.Interpretation.{Interpretation}
use Rattle.transporter.proofs.OldCharges.{charged_there, charged_image}
use Rattle.transporter.proofs.MovedParcels.{role_inside}

-- what holds of an answer
pub if-ok : {A E : Type 0} {P Q : A → Type 0} (r : Result A E) → ((x : A) → P x → Q x) → IfOk r P → IfOk r Q
if-ok (Ok x) f h = f x h
if-ok (Err e) f h = tt

-- What is known stays true if nothing is stored
pub can-read : {s read : Store} {t : Table} {p : Parcel} → StoresNothing s read → CanMove s t p → CanMove read t p
can-read {s} {read} {t} {p} n c = record {
  fits = c.fits;
  inside = subst (λ (ws : List Parts). p.at + p.words ≤ length ws) (sym n.words) c.inside;
  rest_inside = subst (λ (ws : List Parts). IfSome p.rest (λ rest. rest < length ws)) (sym n.words) c.rest_inside;
  one_region = c.one_region;
  area = c.area;
  level = c.level;
  old = c.old;
  charged = c.charged;
  within = c.within;
  running = c.running;
  room = c.room;
  ground = ground_same s read t n.words n.levels n.top c.ground;
  named = named_same s read t n.words c.named;
}

-- a parcel was read, and then it moved
pub moves-here : {s read s' : Store} {t t' : Table} {at to : ℕ} {p : Parcel} → IsParcel s.words at p → IsFit p → CanMove s t p → StoresNothing s read → Relocates read t s' t' p to → MovesHere s t s' t' at to
moves-here {s} {read} {s'} {t} {t'} {at} {to} {p} is fits can stays moved = record {
  parcel = p;
  is = is;
  fits = fits;
  one_region = can.one_region;
  read = read;
  stays = stays;
  relocates = moved;
}

pub parcel-at : {words : List Parts} {at : ℕ} {p : Parcel} → IsParcel words at p → p.at ≡ at
parcel-at (a_block code length is p_is) = ap (λ (q : Parcel). q.at) p_is
parcel-at (a_pair is p_is) = ap (λ (q : Parcel). q.at) p_is
parcel-at {words} {at} {p} (a_run run is few p_is) = ap (λ (q : Parcel). q.at) p_is ∙ go run.ending
  where
    go : (ending : RunEnd) → (run_parcel at run.cells (Rattle.obj_layout.specs.Shapes.charge_at words (at + run.cells)) ending).at ≡ at
    go EndsNil = refl
    go EndsPair = refl
    go (Forwarded to) = refl

-- an old region is in an area and a level
pub old_in : (t : Table) (at : ℕ) → IsTable t → IsOld t (at / 4096) → (area : ℕ) × (level : ℕ) × IsOldIn t at area level
old_in t at v old = (
  old.0 / levels_of t,
  old.0 % levels_of t,
  record {
    area_in = area_below t old.0 slot_in;
    level_in = omega arith;
    region = subst (λ (k : ℕ). Contains (chain t (stale k)) (at / 4096)) (sym (slot_again (levels_of t) old.0 (omega arith))) old.1;
  },
)
  where
    slot_in : old.0 < slots_of t
    slot_in =
        elim (cases_lt (stale old.0) (length t.chains)) [
          | inl l ↦ (let size = v.chains_size in omega arith)
          | inr past ↦ (let none = subst (λ (xs : List ℕ). Contains xs (at / 4096)) (get_or_past t.chains (stale old.0) [] past) old.1 in let z = none.1 in absurd (omega arith))
        ]

module _ (m : Store) (t : Table) (it : Interpretation) (on : GroundInvariant m t it) (n at : ℕ) (last : IsFinal m.words at) where
  there : (kind : Kind) → names_as kind (it.map.role at) ≡ Some n → StandsThere (ground_image m t) it.map kind at n
  there kind named = record { named = named; here = last.no_forward }

  no_run : names_as AsBlock (it.map.role at) ≡ Some n → shape_of (word_at m.words at) ≡ CellShape → ⊥
  no_run named is = let b = head_shape m t it on at n (block_stands m t it on at n (there AsBlock named)) in let e = b.2 in cc

  no_pair : names_as AsBlock (it.map.role at) ≡ Some n → shape_of (word_at m.words at) ≡ PairShape → ⊥
  no_pair named is = let b = head_shape m t it on at n (block_stands m t it on at n (there AsBlock named)) in let e = b.2 in cc

  first-cell : (run : Run) → IsRun m.words at run → shape_of (word_at m.words at) ≡ CellShape
  first-cell run is = let some = is.some in ap (λ (a : ℕ). shape_of (word_at m.words a)) (let z : at ≡ at + 0 = omega arith in z) ∙ (is.cells 0 (omega arith)).shape

  pub stands-whole : (kind : Kind) → names_as kind (it.map.role at) ≡ Some n → StandsWhole m.words at
  stands-whole AsCons named = record {
    last = last;
    whole = whole m t it on at n AsCons (there AsCons named);
    run = λ is. (let c = cell_there m t it on at n (there AsCons named) is in has_run m t it on at n c.0 c.1);
    pair = λ run is ends.
        let behind = subst (StandsBehind m.words (at + run.cells)) ends is.behind in
        let code = is.last ∙ ap last_code ends in
        pair_whole m t it on (at + run.cells) _ (run-pair m.words (classes (ground_image m t)) it.map it.store on.kept.roled at n run named is behind code);
  }
  stands-whole AsBlock named = record {
    last = last;
    whole = whole m t it on at n AsBlock (there AsBlock named);
    run = λ is. absurd (no_run named is);
    pair = λ run is ends. absurd (no_run named (first-cell run is));
  }

  -- by the roles of its words
  pub parcel-stands : (kind : Kind) (p : Parcel) → names_as kind (it.map.role at) ≡ Some n → IsParcel m.words at p → Stands it.map it.store p
  parcel-stands AsBlock p named (a_block code length is p_is) = subst (Stands it.map it.store) (sym p_is) (block-stands m.words (classes (ground_image m t)) it.map it.store on.kept.roled at code length n named last.no_forward is)
  parcel-stands AsBlock p named (a_pair is p_is) = absurd (no_pair named is)
  parcel-stands AsBlock p named (a_run run is few p_is) = absurd (no_run named (first-cell run is))
  parcel-stands AsCons p named (a_block code length is p_is) = absurd (cons_no_block m t it on at n (there AsCons named) code length is)
  parcel-stands AsCons p named (a_pair is p_is) = subst (Stands it.map it.store) (sym p_is) (pair-stands m.words (classes (ground_image m t)) it.map it.store on.kept.roled at n named last.no_forward is)
  parcel-stands AsCons p named (a_run run is few p_is) = subst (Stands it.map it.store) (sym p_is) (run-stands m.words (classes (ground_image m t)) it.map it.store on.kept.roled at n run named is run.ending is.last is.behind)

  pub movable : (kind : Kind) → names_as kind (it.map.role at) ≡ Some n → IsOld t (at / 4096) → IsSome t.aim → IsMovable m t at
  movable kind named old running p is fits =
      let stands = parcel-stands kind p named is in
      let place = parcel-at is in
      let where_old = old_in t p.at on.table (subst (λ (a : ℕ). IsOld t (a / 4096)) (sym place) old) in
      let area = where_old.0 in
      let level = where_old.1 in
      let some = fits.some in
      let each = fits.each in
      let near = stands.near (p.words - 1) (omega arith) in
      let end = role_inside m t it on (p.at + (p.words - 1)) (stands.words (p.words - 1) (omega arith)) in
      let levels = levels_agree m t it on in
      let count = areas_agree m t it on in
      let area_in = where_old.2.area_in in
      let level_in = where_old.2.level_in in
      let place_last : p.at + (p.words - 1) ≡ p.at + p.words - 1 = omega arith in
      record {
        fits = fits;
        inside = omega arith;
        rest_inside = rest stands p.rest stands.rest;
        one_region = ap region_of (sym place_last) ∙ near;
        area = where_old.0;
        level = where_old.1;
        old = where_old.2;
        charged = charged_there m t it on p stands each where_old.0 where_old.1 where_old.2;
        within = moved_room m t it on where_old.0 (word_count_of p) p.charge where_old.1 (omega arith) stands.pays (omega arith) (charged_image m t it on p stands each where_old.0 where_old.1 where_old.2);
        running = running;
        room = on.room;
        ground = on.ground;
        named = on.named;
      }
    where
      rest : Stands it.map it.store p → (o : Option ℕ) → IfSome o (λ to. (m : ℕ) × (names_as AsCons (it.map.role to) ≡ Some m)) → IfSome o (λ to. to < length m.words)
      rest stands None named = tt
      rest stands (Some to) named = role_inside m t it on to (not_blank (it.map.role to) AsCons named.0 named.1)

-- what holds after either answer
pub whichever : {A E R Q : Type 0} {P : A → Type 0} (r : Result A E) → ((x : A) → P x → R) → (Q → R) → IfOk r P → OnErr r Q → R
whichever (Ok x) f g h e = f x h
whichever (Err x) f g h e = g e

pub on_err-map : {A E P Q : Type 0} (r : Result A E) → (P → Q) → OnErr r P → OnErr r Q
on_err-map (Ok x) f h = tt
on_err-map (Err x) f h = f h
