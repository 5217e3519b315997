-- A parcel, by the roles of its words.
use Rattle.std.proofs.Common.{ℕ, zero, suc, ◌≡◌, ◌≢◌, ◌⊎◌, ◌+◌, ◌-◌, ◌*◌, ◌<◌, ◌≤◌, List, length, Option, Some, None, refl, sym, ◌∙◌, ap, subst, inl, inr, arith}
use Rattle.std.specs.Prelude.{IfSome}
use Rattle.std.proofs.lemmas.Bool.{cases_lt, cases_eq}
use Rattle.store_word.specs.Words.{Parts}
use Rattle.store_word.specs.declared.word.CdrCode.{CdrCode}
use Rattle.store_word.specs.declared.word.CdrCode.TheVariants.{Next as CdrNext, Nil as CdrNil, Normal as CdrNormal, Second as CdrSecond}
use Rattle.store_word.specs.declared.word.Content.{Content}
use Rattle.store_word.specs.declared.word.Content.TheVariants.{Header}
use Rattle.area_space.specs.lisp_graph.Totals.{total}
use Rattle.area_space.proofs.lisp_graph.Totals.{total-zero, total-suc, total-cong}
use Rattle.obj_layout.specs.declared.shape.Shape.TheVariants.{Pair as PairShape, Cell as CellShape, BlockOf}
use Rattle.obj_layout.specs.declared.run.RunEnd.{RunEnd}
use Rattle.obj_layout.specs.declared.run.RunEnd.TheVariants.{Nil as EndsNil, Pair as EndsPair, Forwarded}
use Rattle.obj_layout.specs.declared.run.Run.{Run}
use Rattle.obj_layout.specs.Forwards.{word_at, Leads, here, on}
use Rattle.obj_layout.specs.Shapes.{shape_of, shape_from, charge_at, charge_from, pair_charge}
use Rattle.obj_layout.specs.Runs.{IsRun, StandsBehind, last_code}
use Rattle.lisp_ground.proofs.lisp_meaning.sums.Charges.{total-const}
use Rattle.lisp_ground.specs.lisp_meaning.State.{Store, object, in_use}
use Rattle.lisp_ground.specs.lisp_meaning.Classes.{Class, region_of}
use Rattle.lisp_ground.specs.lisp_meaning.Forwards.{forward_of}
use Rattle.lisp_ground.specs.lisp_meaning.Roles.{Kind, AsCons, AsBlock, Role, Blank, PairHead, PairTail, Cell, Head, Field, names_as, RoleMap, name_at}
use Rattle.lisp_ground.specs.lisp_meaning.Fits.{Roled, PairCode, Fits}
use Rattle.lisp_ground.proofs.lisp_meaning.layout.ObjectWords.{cell_fits, head_fits, tail_fits, block_fits, field_fits}
use Rattle.lisp_ground.proofs.lisp_meaning.roles.Chains.{Onward, named_by}
use Rattle.lisp_ground.proofs.lisp_meaning.roles.RunNames.{pair_there, cell_there, block_there, follower_named, follower_near, run_cells}
use Rattle.transporter.specs.declared.parcel.Parcel.{Parcel}
use Rattle.transporter.specs.Parcels.{block_parcel, pair_parcel, run_parcel, word_count_of, word_more}

-- the objects that move, by their names: each is held and is at its word, they are charged this much together; each word is part of one, in one region; and a forward after them leads on to an object
pub record Stands (k : RoleMap) (s : Store) (p : Parcel) : Type 0 where
  pub name : ℕ → ℕ
  pub used : (i : ℕ) → i < p.objects → in_use s (name i)
  pub place : (i : ℕ) → i < p.objects → k.at (name i) ≡ p.at + i
  pub charge : total (λ i. (object s (name i)).charge) p.objects ≡ p.charge
  pub words : (j : ℕ) → j < p.words → k.role (p.at + j) ≡ Blank → ⊥
  pub near : (j : ℕ) → j < p.words → region_of (p.at + j) ≡ region_of p.at
  pub pays : word_count_of p ≤ p.charge
  pub rest : IfSome p.rest (λ to. (m : ℕ) × (names_as AsCons (k.role to) ≡ Some m))

-- Codes and shapes

pub normal-pair : (content : Content) (code : CdrCode) → shape_from content code ≡ PairShape → code ≡ CdrNormal
normal-pair (Header c n) code is = absurd (cc)
normal-pair _ CdrNormal is = refl
normal-pair _ CdrNext is = absurd (cc)
normal-pair _ CdrNil is = absurd (cc)
normal-pair _ CdrSecond is = absurd (cc)

pub cell-not_normal : (content : Content) (code : CdrCode) → shape_from content code ≡ CellShape → code ≢ CdrNormal
cell-not_normal (Header c n) code is = absurd (cc)
cell-not_normal _ CdrNormal is = absurd (cc)
cell-not_normal _ CdrNext is = λ e. cc
cell-not_normal _ CdrNil is = λ e. cc
cell-not_normal _ CdrSecond is = λ e. cc

pub header-block : (content : Content) (code : CdrCode) (kind length : ℕ) → shape_from content code ≡ BlockOf kind length → content ≡ Header kind length
header-block (Header c n) code kind length is = let a : c ≡ kind = cc in let b : n ≡ length = cc in ap (λ (x : ℕ). Header x n) a ∙ ap (Header kind) b
header-block _ CdrNormal kind length is = absurd (cc)
header-block _ CdrNext kind length is = absurd (cc)
header-block _ CdrNil kind length is = absurd (cc)
header-block _ CdrSecond kind length is = absurd (cc)

charge-coded : (charge : ℕ) (code : CdrCode) → PairCode charge code → charge ≡ pair_charge code
charge-coded charge code (inl x) = x.0 ∙ sym (ap pair_charge x.1)
charge-coded charge code (inr x) = x.0 ∙ sym (ap pair_charge x.1)

pair-pays : (charge : ℕ) (code : CdrCode) → PairCode charge code → 2 ≤ charge
pair-pays charge code (inl x) = let y = x.0 in omega arith
pair-pays charge code (inr x) = let y = x.0 in omega arith

pub not_blank : (r : Role) (kind : Kind) (n : ℕ) → names_as kind r ≡ Some n → r ≡ Blank → ⊥
not_blank r AsCons n e z = let x = ap (names_as AsCons) z in cc
not_blank r AsBlock n e z = let x = ap (names_as AsBlock) z in cc

module _ (words : List Parts) (regions : ℕ → Class) (k : RoleMap) (s : Store) (R : Roled (word_at words) regions k s) where
  W : ℕ → Parts
  W = word_at words

  -- a forward leads to a word that means the same
  pub named-next : (kind : Kind) (a next n : ℕ) → names_as kind (k.role a) ≡ Some n → forward_of (word_at words a).content ≡ Some next → names_as kind (k.role next) ≡ Some n
  named-next kind a next n e f = go (named_by (word_at words) regions k s kind n a (k.role a) (R.fits a) e).step
    where
      go : ((k.at n ≡ a) × (forward_of (word_at words a).content ≡ None)) ⊎ Onward (word_at words) regions k kind n a → names_as kind (k.role next) ≡ Some n
      go (inl x) = let y = x.1 in absurd (cc)
      go (inr x) = let y = x.forward in let z : x.to ≡ next = cc in subst (λ (b : ℕ). names_as kind (k.role b) ≡ Some n) z x.named

  -- so does its final address
  pub named-along : (kind : Kind) {count a b : ℕ} (n : ℕ) → Leads words count a b → names_as kind (k.role a) ≡ Some n → names_as kind (k.role b) ≡ Some n
  named-along kind n (here none) e = e
  named-along kind {a = a} n (on {next = next} some rest) e = named-along kind n rest (named-next kind a next n e some)

  -- A block

  pub block-stands : (at code length n : ℕ) → names_as AsBlock (k.role at) ≡ Some n → forward_of (word_at words at).content ≡ None → shape_of (word_at words at) ≡ BlockOf code length
      → Stands k s (block_parcel at length)
  block-stands at code length n named none is =
      let r = block_there (word_at words) regions k s R at n named none in
      let f = block_fits (word_at words) regions k s R n at r in
      let content = header-block (word_at words at).content (word_at words at).cdr code length is in
      let size_is : f.size ≡ length = (let e = sym f.content ∙ content in cc) in
      let c = f.charge in
      record {
        name = λ i. n;
        used = λ i l. f.used;
        place = λ i l. f.place ∙ (let e : at ≡ at + i = omega arith in e);
        charge = total-suc (λ i. (object s n).charge) 0 ∙ (let z = total-zero (λ i. (object s n).charge) in omega arith);
        words = λ j l. word r f.fields size_is j l;
        near = λ j l. there r size_is j l;
        pays = omega arith;
        rest = tt;
      }
    where
      word : k.role at ≡ Head n → {size : ℕ} → ((i : ℕ) → i < size → k.role (suc at + i) ≡ Field n i) → size ≡ length → (j : ℕ) → j < suc length → k.role (at + j) ≡ Blank → ⊥
      word r fields is zero l z = let e : k.role (at + 0) ≡ Head n = ap k.role (let e : at + 0 ≡ at = omega arith in e) ∙ r in cc
      word r fields is (suc i) l z =
          let e : k.role (at + suc i) ≡ Field n i = ap k.role (let e : at + suc i ≡ suc at + i = omega arith in e) ∙ fields i (omega arith) in cc

      there : (r : k.role at ≡ Head n) → (block_fits (word_at words) regions k s R n at r).size ≡ length → (j : ℕ) → j < suc length → region_of (at + j) ≡ region_of at
      there r is zero l = ap region_of (let e : at + 0 ≡ at = omega arith in e)
      there r is (suc i) l =
          let f = field_fits (word_at words) regions k s R n at r i (omega arith) in
          let b = block_fits (word_at words) regions k s R n at r in
          ap region_of (let e : at + suc i ≡ suc at + i = omega arith in e) ∙ f.region ∙ ap region_of b.place

  -- A pair

  pub pair-charge : (at n : ℕ) → k.role at ≡ PairHead n → shape_of (word_at words at) ≡ PairShape → (object s n).charge ≡ charge_at words at
  pair-charge at n r is =
      let t = tail_fits (word_at words) regions k s R n at r in
      charge-coded (object s n).charge (word_at words (suc at)).cdr t.code ∙ sym (ap (λ sh. charge_from sh (word_at words (suc at)).cdr) is)

  pub pair-stands : (at n : ℕ) → names_as AsCons (k.role at) ≡ Some n → forward_of (word_at words at).content ≡ None → shape_of (word_at words at) ≡ PairShape
      → Stands k s (pair_parcel at (charge_at words at))
  pair-stands at n named none is =
      let r = pair_there (word_at words) regions k s R at n named none (normal-pair (word_at words at).content (word_at words at).cdr is) in
      let f = head_fits (word_at words) regions k s R n at r in
      let t = tail_fits (word_at words) regions k s R n at r in
      let charged = pair-charge at n r is in
      record {
        name = λ i. n;
        used = λ i l. f.used;
        place = λ i l. f.place ∙ (let e : at ≡ at + i = omega arith in e);
        charge = total-suc (λ i. (object s n).charge) 0 ∙ (let z = total-zero (λ i. (object s n).charge) in omega arith);
        words = λ j l. word r f.tail j l;
        near = λ j l. there t.region f.place j l;
        pays = (let p = pair-pays (object s n).charge (word_at words (suc at)).cdr t.code in omega arith);
        rest = tt;
      }
    where
      word : k.role at ≡ PairHead n → k.role (suc at) ≡ PairTail n → (j : ℕ) → j < 2 → k.role (at + j) ≡ Blank → ⊥
      word r tail zero l z = let e : k.role (at + 0) ≡ PairHead n = ap k.role (let e : at + 0 ≡ at = omega arith in e) ∙ r in cc
      word r tail (suc zero) l z = let e : k.role (at + 1) ≡ PairTail n = ap k.role (let e : at + 1 ≡ suc at = omega arith in e) ∙ tail in cc
      word r tail (suc (suc j)) l z = omega arith

      there : region_of (suc at) ≡ region_of (k.at n) → k.at n ≡ at → (j : ℕ) → j < 2 → region_of (at + j) ≡ region_of at
      there near place zero l = ap region_of (let e : at + 0 ≡ at = omega arith in e)
      there near place (suc zero) l = ap region_of (let e : at + 1 ≡ suc at = omega arith in e) ∙ near ∙ ap region_of place
      there near place (suc (suc j)) l = omega arith

  -- Runs

  module _ (at cells n start : ℕ) (cell : (i : ℕ) → i < cells → k.role (at + i) ≡ Cell (name_at k (at + i)) (start + i)) (next : (i : ℕ) → suc i < cells → (word_at words (at + i)).cdr ≡ CdrNext) where
    cell-used : (i : ℕ) → i < cells → in_use s (name_at k (at + i))
    cell-used i l = (cell_fits (word_at words) regions k s R (name_at k (at + i)) (at + i) (start + i) (cell i l)).used

    cell-place : (i : ℕ) → i < cells → k.at (name_at k (at + i)) ≡ at + i
    cell-place i l = (cell_fits (word_at words) regions k s R (name_at k (at + i)) (at + i) (start + i) (cell i l)).place

    cell-charge : (i : ℕ) → i < cells → (object s (name_at k (at + i))).charge ≡ 3
    cell-charge i l = (cell_fits (word_at words) regions k s R (name_at k (at + i)) (at + i) (start + i) (cell i l)).charge

    cell-near : (i : ℕ) → i < cells → region_of (at + i) ≡ region_of at
    cell-near zero l = ap region_of (let e : at + 0 ≡ at = omega arith in e)
    cell-near (suc i) l =
        ap region_of (let e : at + suc i ≡ suc (at + i) = omega arith in e)
        ∙ follower_near (word_at words) regions k s R (at + i) (name_at k (at + i)) (start + i) (cell i (omega arith)) (next i l) ∙ cell-near i (omega arith)

    cell-blank : (i : ℕ) → i < cells → k.role (at + i) ≡ Blank → ⊥
    cell-blank i l z = let e = cell i l in cc

    cell-charges : total (λ i. (object s (name_at k (at + i))).charge) cells ≡ 3 * cells
    cell-charges = total-cong (λ i. (object s (name_at k (at + i))).charge) (λ i. 3) cells cell-charge ∙ total-const 3 cells

    -- cells alone
    pub cells-stand : (rest : Option ℕ) → 1 ≤ cells → IfSome rest (λ to. (m : ℕ) × (names_as AsCons (k.role to) ≡ Some m))
        → Stands k s (record { at = at; words = cells; objects = cells; charge = 3 * cells; rest = rest })
    cells-stand rest some named = record {
      name = λ i. name_at k (at + i);
      used = cell-used;
      place = cell-place;
      charge = cell-charges;
      words = cell-blank;
      near = cell-near;
      pays = more rest;
      rest = named;
    }
      where
        more : (o : Option ℕ) → cells + word_more o ≤ 3 * cells
        more None = omega arith
        more (Some to) = omega arith

    -- cells, and a pair after them
    pub cells-pair-stand : (charge : ℕ) → (last : (word_at words (at + cells - 1)).cdr ≡ CdrNext) → 1 ≤ cells → k.role (at + cells) ≡ PairHead (name_at k (at + cells)) → (object s (name_at k (at + cells))).charge ≡ charge
        → Stands k s (record { at = at; words = cells + 2; objects = cells + 1; charge = 3 * cells + charge; rest = None })
    cells-pair-stand charge last some r charged = record {
      name = λ i. name_at k (at + i);
      used = λ i l. by-cell (λ i. in_use s (name_at k (at + i))) cell-used f.used i (cases_lt i cells) l;
      place = λ i l. by-cell (λ i. k.at (name_at k (at + i)) ≡ at + i) cell-place f.place i (cases_lt i cells) l;
      charge = ap (total (λ i. (object s (name_at k (at + i))).charge)) (let e : cells + 1 ≡ suc cells = omega arith in e) ∙ (let z = total-suc (λ i. (object s (name_at k (at + i))).charge) cells in let y = cell-charges in omega arith);
      words = λ j l. blank j l (cases_lt j cells) (cases_eq j cells);
      near = λ j l. there j l (cases_lt j cells) (cases_eq j cells);
      pays = (let p = pair-pays (object s (name_at k (at + cells))).charge (word_at words (suc (at + cells))).cdr t.code in omega arith);
      rest = tt;
    }
      where
        f : Rattle.lisp_ground.specs.lisp_meaning.Fits.IsPairHead k s (at + cells) (word_at words (at + cells)) (name_at k (at + cells))
        f = head_fits (word_at words) regions k s R (name_at k (at + cells)) (at + cells) r

        t : Rattle.lisp_ground.specs.lisp_meaning.Fits.IsPairTail k s (suc (at + cells)) (word_at words (suc (at + cells))) (name_at k (at + cells))
        t = tail_fits (word_at words) regions k s R (name_at k (at + cells)) (at + cells) r

        by-cell : (P : ℕ → Type 0) → ((i : ℕ) → i < cells → P i) → P cells → (i : ℕ) → (i < cells) ⊎ (cells ≤ i) → i < cells + 1 → P i
        by-cell P below at_end i (inl l) m = below i l
        by-cell P below at_end i (inr l) m = subst P (let e : cells ≡ i = omega arith in e) at_end

        pair-near : region_of (at + cells) ≡ region_of at
        pair-near =
            let c = cell (cells - 1) (omega arith) in
            let place : at + (cells - 1) ≡ at + cells - 1 = omega arith in
            let code : (word_at words (at + (cells - 1))).cdr ≡ CdrNext = ap (λ (a : ℕ). (word_at words a).cdr) place ∙ last in
            ap region_of (let e : at + cells ≡ suc (at + (cells - 1)) = omega arith in e)
            ∙ follower_near (word_at words) regions k s R (at + (cells - 1)) (name_at k (at + (cells - 1))) (start + (cells - 1)) c code ∙ cell-near (cells - 1) (omega arith)

        blank : (j : ℕ) → j < cells + 2 → (j < cells) ⊎ (cells ≤ j) → (j ≡ cells) ⊎ (j ≡ cells → ⊥) → k.role (at + j) ≡ Blank → ⊥
        blank j l (inl m) e z = cell-blank j m z
        blank j l (inr m) (inl e) z = let x : k.role (at + j) ≡ PairHead (name_at k (at + cells)) = ap (λ (i : ℕ). k.role (at + i)) e ∙ r in cc
        blank j l (inr m) (inr ne) z =
            let q : suc cells ≡ j = omega (arith, ne) in
            let x : k.role (at + j) ≡ PairTail (name_at k (at + cells)) = ap k.role (let e : at + j ≡ suc (at + cells) = omega arith in e) ∙ f.tail in cc

        there : (j : ℕ) → j < cells + 2 → (j < cells) ⊎ (cells ≤ j) → (j ≡ cells) ⊎ (j ≡ cells → ⊥) → region_of (at + j) ≡ region_of at
        there j l (inl m) e = cell-near j m
        there j l (inr m) (inl e) = ap (λ (i : ℕ). region_of (at + i)) e ∙ pair-near
        there j l (inr m) (inr ne) =
            let q : suc cells ≡ j = omega (arith, ne) in
            ap region_of (let e : at + j ≡ suc (at + cells) = omega arith in e) ∙ t.region ∙ ap region_of f.place ∙ pair-near

  -- the cells of a run, by their roles
  module _ (at n : ℕ) (run : Run) (named : names_as AsCons (k.role at) ≡ Some n) (is : IsRun words at run) where
    plain : (i : ℕ) → i < run.cells → (forward_of (word_at words (at + i)).content ≡ None) × ((word_at words (at + i)).cdr ≡ CdrNormal → ⊥)
    plain i l = ((is.cells i l).final.no_forward, cell-not_normal (word_at words (at + i)).content (word_at words (at + i)).cdr (is.cells i l).shape)

    pub run-next : (i : ℕ) → suc i < run.cells → (word_at words (at + i)).cdr ≡ CdrNext
    run-next i l = is.linked i (omega arith)

    pub run-start : (start : ℕ) × (k.role at ≡ Cell n start)
    run-start =
        let z : at + 0 ≡ at = omega arith in
        let some = is.some in
        let first = plain 0 (omega arith) in
        cell_there (word_at words) regions k s R at n named (ap (λ (a : ℕ). forward_of (word_at words a).content) (sym z) ∙ first.0) (λ e. first.1 (ap (λ (a : ℕ). (word_at words a).cdr) z ∙ e))

    pub run-cell : (i : ℕ) → i < run.cells → k.role (at + i) ≡ Cell (name_at k (at + i)) (run-start.0 + i)
    run-cell i l = run_cells (word_at words) regions k s R at n run-start.0 run.cells run-start.1 run-next plain i l

    last-place : at + (run.cells - 1) ≡ at + run.cells - 1
    last-place = let some = is.some in omega arith

    -- what follows the last cell, if that is coded next
    pub run-behind : (word_at words (at + run.cells - 1)).cdr ≡ CdrNext → names_as AsCons (k.role (at + run.cells)) ≡ Some (name_at k (at + run.cells))
    run-behind last =
        let some = is.some in
        let c = run-cell (run.cells - 1) (omega arith) in
        let code : (word_at words (at + (run.cells - 1))).cdr ≡ CdrNext = ap (λ (a : ℕ). (word_at words a).cdr) last-place ∙ last in
        let f = follower_named (word_at words) regions k s R (at + (run.cells - 1)) (name_at k (at + (run.cells - 1))) (run-start.0 + (run.cells - 1)) c code in
        let P : ℕ → Type 0 = λ a. names_as AsCons (k.role a) ≡ Some (name_at k a) in
        subst P (let e : suc (at + (run.cells - 1)) ≡ at + run.cells = omega arith in e) f

    pub run-pair : StandsBehind words (at + run.cells) EndsPair → (word_at words (at + run.cells - 1)).cdr ≡ CdrNext → k.role (at + run.cells) ≡ PairHead (name_at k (at + run.cells))
    run-pair behind last =
        pair_there (word_at words) regions k s R (at + run.cells) (name_at k (at + run.cells)) (run-behind last) behind.final.no_forward
        (normal-pair (word_at words (at + run.cells)).content (word_at words (at + run.cells)).cdr behind.shape)

    pub run-rest : (to : ℕ) → StandsBehind words (at + run.cells) (Forwarded to) → (word_at words (at + run.cells - 1)).cdr ≡ CdrNext → names_as AsCons (k.role to) ≡ Some (name_at k (at + run.cells))
    run-rest to behind last = named-along AsCons (name_at k (at + run.cells)) behind.final.2 (run-behind last)

    pub run-stands : (ending : RunEnd) → (word_at words (at + run.cells - 1)).cdr ≡ last_code ending → StandsBehind words (at + run.cells) ending
        → Stands k s (run_parcel at run.cells (charge_at words (at + run.cells)) ending)
    run-stands EndsNil last behind = cells-stand at run.cells n run-start.0 run-cell run-next None is.some tt
    run-stands EndsPair last behind =
        let r = run-pair behind last in
        cells-pair-stand at run.cells n run-start.0 run-cell run-next (charge_at words (at + run.cells)) last is.some r (pair-charge (at + run.cells) (name_at k (at + run.cells)) r behind.shape)
    run-stands (Forwarded to) last behind = cells-stand at run.cells n run-start.0 run-cell run-next (Some to) is.some (name_at k (at + run.cells), run-rest to behind last)
