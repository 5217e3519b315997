-- New objects on a ground keep what always holds of it.
use Rattle.std.proofs.Common.{◌≡◌, ℕ, suc, ◌+◌, ◌-◌, ◌*◌, ◌<◌, ◌≤◌, inl, inr, List, length, get_or, slice_get, sym, ◌∙◌, ap, subst, arith, Some}
use Rattle.std.proofs.lemmas.Bool.{cases_eq}
use Rattle.area_space.specs.store_word.Words.{Parts, null_word}
use Rattle.area_space.specs.store_word.declared.word.CdrCode.TheVariants.{Next as CdrNext}
use Rattle.area_space.specs.store_word.declared.word.Content.TheVariants.{Header}
use Rattle.area_space.specs.lisp_graph.declared.object.Value.{Value}
use Rattle.area_space.specs.lisp_graph.declared.object.Value.TheVariants as V
use Rattle.area_space.specs.mem_port.Store.{Store}
use Rattle.area_space.specs.declared.classes.Origin.TheVariants.{New}
use Rattle.area_space.specs.Table.{Table}
use Rattle.lisp_meaning.specs.Roles.{AsCons, AsBlock, value_of}
use Rattle.lisp_meaning.proofs.invariant.Allocation.{pair_made, block_made, list_made}
use Rattle.lisp_ground.specs.Image.{ground_image}
use Rattle.lisp_ground.specs.GroundInvariant.{GroundInvariant, NamesUsed}
use Rattle.lisp_meaning.specs.Interpretation.{Interpretation}
use Rattle.lisp_ground.specs.Writes.{Within}
use Rattle.lisp_ground.specs.Laying.{Lays}
use Rattle.lisp_ground.specs.Making.{Commits, MakesPair, MakesBlock, MakesCells, PairMadeOn, BlockMadeOn, ListMadeOn}
use Rattle.lisp_ground.proofs.sums.Accounts.{levels_agree, areas_agree}
use Rattle.lisp_ground.proofs.words.Words.{get_or_here}
use Rattle.lisp_ground.proofs.words.Values.{value_names_used}
use Rattle.lisp_ground.proofs.words.UsedEnds.{committed_extends}
use Rattle.lisp_ground.proofs.words.Layout.{laid_marks, laid_placed, laid_charged, laid_on}

-- one of the words that were written
pub the_word : (words : List Parts) (a : ℕ) (w x : Parts) → slice_get words a ≡ Some w → slice_get words a ≡ Some x → w ≡ x
the_word words a w x e f = let both : Some w ≡ Some x = sym e ∙ f in cc

module _ (m m' : Store) (t t' : Table) (it : Interpretation) (on : GroundInvariant m t it) (area level : ℕ) (low : area < length it.areas) (level_low : level ≤ it.top) where
  lays : (b count charge : ℕ) → Commits m t m' t' b count area level charge → ((a : ℕ) (w : Parts) → Within b count a → slice_get m'.words a ≡ Some w → NamesUsed t w.content) → Lays m t m' t' b count area level
  lays b count charge c safe = record {
    area_in = (let e = areas_agree m t it on in omega arith);
    level_in = (let e = levels_agree m t it on in omega arith);
    end = c.end;
    writes = c.writes;
    safe = safe;
    sound = c.sound;
  }

  value_safe : (a : ℕ) (w x : Parts) (v : Value) → slice_get m'.words a ≡ Some x → value_of it.map.role x.content ≡ Some v → slice_get m'.words a ≡ Some w → NamesUsed t w.content
  value_safe a w x v there value got = subst (λ (p : Parts). NamesUsed t p.content) (the_word m'.words a x w there got) (value_names_used m t it on x.content v value)

  pair_on : (b charge : ℕ) (car cdr : Value) → MakesPair m t m' t' it.map b area level charge car cdr → Lays m t m' t' b 2 area level
  pair_on b charge car cdr p = lays b 2 charge p.commits safe
    where
      safe : (a : ℕ) (w : Parts) → Within b 2 a → slice_get m'.words a ≡ Some w → NamesUsed t w.content
      safe a w x got =
          let from = x.0 in
          let to = x.1 in
          elim (cases_eq a b) [
            | inl e ↦ value_safe b w p.first car p.first_at p.car_is (subst (λ (i : ℕ). slice_get m'.words i ≡ Some w) e got)
            | inr ne ↦ (let e : a ≡ suc b = omega arith in value_safe (suc b) w p.second cdr p.second_at p.cdr_is (subst (λ (i : ℕ). slice_get m'.words i ≡ Some w) e got))
          ]

  block_on : (b code : ℕ) (fields : List Value) → MakesBlock m t m' t' it.map b area level code fields → Lays m t m' t' b (suc (length fields)) area level
  block_on b code fields p = lays b (suc (length fields)) (suc (length fields)) p.commits safe
    where
      safe : (a : ℕ) (w : Parts) → Within b (suc (length fields)) a → slice_get m'.words a ≡ Some w → NamesUsed t w.content
      safe a w x got =
          let from = x.0 in
          let to = x.1 in
          elim (cases_eq a b) [
            | inl e ↦ (
                let is : record { cdr = CdrNext; content = Header code (length fields) } ≡ w = the_word m'.words a _ w (ap (slice_get m'.words) e ∙ p.header_at) got in
                subst (λ (y : Parts). NamesUsed t y.content) is (λ to_there has. absurd cc))
            | inr ne ↦ (
                let i : ℕ = a - suc b in
                let e : a ≡ suc b + (a - suc b) = omega arith in
                let f = p.fields_at (a - suc b) (omega arith) in
                value_safe (suc b + (a - suc b)) w f.0 (get_or fields (a - suc b) V.Nil) f.1 f.2 (subst (λ (j : ℕ). slice_get m'.words j ≡ Some w) e got))
          ]

  cells_on : (b : ℕ) (values : List Value) → MakesCells m t m' t' it.map b area level values → Lays m t m' t' b (length values) area level
  cells_on b values p = lays b (length values) (3 * length values) p.commits safe
    where
      safe : (a : ℕ) (w : Parts) → Within b (length values) a → slice_get m'.words a ≡ Some w → NamesUsed t w.content
      safe a w x got =
          let from = x.0 in
          let to = x.1 in
          let e : a ≡ b + (a - b) = omega arith in
          let f = p.cells_at (a - b) (omega arith) in
          value_safe (b + (a - b)) w f.0 (get_or values (a - b) V.Nil) f.1 f.2 (subst (λ (j : ℕ). slice_get m'.words j ≡ Some w) e got)

pub pair_made_on : PairMadeOn
pair_made_on m m' t t' it b area level charge car cdr on low level_low fits p =
    let l = pair_on m m' t t' it on area level low level_low b charge car cdr p in
    let x = committed_extends t t' _ b 2 charge New p.commits.commit in
    let first = get_or_here m'.words b p.first null_word p.first_at in
    let second = get_or_here m'.words (suc b) p.second null_word p.second_at in
    laid_on m m' t t' b 2 area level it _ 0 AsCons b 1 (λ i. length it.store.objects) on l x
    (pair_made (ground_image m t) (ground_image m' t') it b area level charge car cdr on.kept level_low fits (record {
      placed = laid_placed m m' t t' b 2 area level on.table on.ground on.named l x;
      charged = laid_charged m m' t t' b 2 charge area level on.table l p.commits.commit;
      marks = laid_marks m m' t t' b 2 area level on.table on.ground on.named l x;
      car_is = ap (λ (w : Parts). value_of it.map.role w.content) first ∙ p.car_is;
      car_code = ap (λ (w : Parts). w.cdr) first ∙ p.first_code;
      cdr_is = ap (λ (w : Parts). value_of it.map.role w.content) second ∙ p.cdr_is;
      cdr_code = subst (λ (w : Parts). Rattle.lisp_meaning.specs.Fits.PairCode charge w.cdr) (sym second) p.second_code;
    }))

pub block_made_on : BlockMadeOn
block_made_on m m' t t' it b area level code fields on low level_low fits p =
    let count = suc (length fields) in
    let l = block_on m m' t t' it on area level low level_low b code fields p in
    let x = committed_extends t t' _ b (suc (length fields)) (suc (length fields)) New p.commits.commit in
    let header = get_or_here m'.words b (record { cdr = CdrNext; content = Header code (length fields) }) null_word p.header_at in
    laid_on m m' t t' b (suc (length fields)) area level it _ 0 AsBlock b 1 (λ i. length it.store.objects) on l x
    (block_made (ground_image m t) (ground_image m' t') it b area level code fields on.kept level_low fits (record {
      placed = laid_placed m m' t t' b (suc (length fields)) area level on.table on.ground on.named l x;
      charged = laid_charged m m' t t' b (suc (length fields)) (suc (length fields)) area level on.table l p.commits.commit;
      marks = laid_marks m m' t t' b (suc (length fields)) area level on.table on.ground on.named l x;
      header = ap (λ (w : Parts). w.content) header;
      header_code = ap (λ (w : Parts). w.cdr) header;
      fields_are = λ j low_j. (let f = p.fields_at j low_j in ap (λ (w : Parts). value_of it.map.role w.content) (get_or_here m'.words (suc b + j) f.0 null_word f.1) ∙ f.2);
    }))

pub list_made_on : ListMadeOn
list_made_on m m' t t' it b area level values on low level_low fits few p =
    let l = cells_on m m' t t' it on area level low level_low b values p in
    let x = committed_extends t t' _ b (length values) (3 * length values) New p.commits.commit in
    let cell : (i : ℕ) (low_i : i < length values) → get_or m'.words (b + i) null_word ≡ (p.cells_at i low_i).0 = λ i low_i. get_or_here m'.words (b + i) (p.cells_at i low_i).0 null_word (p.cells_at i low_i).1 in
    laid_on m m' t t' b (length values) area level it _ 0 AsCons b (length values) (λ i. length it.store.objects + i) on l x
    (list_made (ground_image m t) (ground_image m' t') it b area level values on.kept level_low fits few (record {
      placed = laid_placed m m' t t' b (length values) area level on.table on.ground on.named l x;
      charged = laid_charged m m' t t' b (length values) (3 * length values) area level on.table l p.commits.commit;
      marks = laid_marks m m' t t' b (length values) area level on.table on.ground on.named l x;
      cars_are = λ i low_i. ap (λ (w : Parts). value_of it.map.role w.content) (cell i low_i) ∙ (p.cells_at i low_i).2;
      next = λ i inner. (let low_i : i < length values = omega arith in ap (λ (w : Parts). w.cdr) (cell i low_i) ∙ (p.cells_at i low_i).3 inner);
      last = λ i end. (let low_i : i < length values = omega arith in ap (λ (w : Parts). w.cdr) (cell i low_i) ∙ (p.cells_at i low_i).4 end);
    }))
