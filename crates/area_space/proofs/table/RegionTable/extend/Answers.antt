use Rattle.std.proofs.Common.{◌≡◌, ◌*◌, subst, sym, arith, ◌∙◌, ◌/◌, slice_index}
use Rattle.std.proofs.lemmas.List.{get_or_default}
use Rattle.area_space.proofs.UsedEnds.{end_bounds, extended_is, words_small}
use Rattle.area_space.proofs.PageSets.{adds_counted}
use Rattle.area_space.proofs.TableFields.{noted_is}
use Rattle.area_space.specs.Inside.{table_of}
use Rattle.area_space.proofs.table.RegionTable.extend.Goals as goal
use Rattle.area_space.specs.Places.{IsEnd, extended}
use Rattle.area_space.specs.Table.{Table}

pub invariant_of-self : goal.invariant_of-self
invariant_of-self c =
    let k = c.self.invariant in
    let end = subst (λ (t : Table). IsEnd t c.requires.end.0 c.args.at c.args.words) (sym c.self.view_is) c.requires.end.1 in
    let bounds = end_bounds (table_of c.self.inside) c.requires.end.0 c.args.at c.args.words c.self.invariant.table (subst (λ (t : Table). IsEnd t c.requires.end.0 c.args.at c.args.words) (sym c.self.view_is) c.requires.end.1) in
    let e : c.index_mut.result.now ≡ slice_index c.self.inside.used.items (c.args.at / 4096) = c.index_mut.ensures.value ∙ get_or_default c.self.inside.used.items (c.args.at / 4096) c.index_mut.result.now 0 (omega arith) in
    rw e (record {
      table = noted_is (extended (table_of c.self.inside) c.args.at c.args.words) c.self.inside.aim c.self.inside.last c.insert_span.new.self.pages (extended_is (table_of c.self.inside) c.requires.end.0 c.args.at c.args.words k.table end);
      regions_is = k.regions_is;
      areas_is = k.areas_is;
      pages_is = c.insert_span.ensures.count ∙ k.pages_is;
      free_is = k.free_is;
      debts_is = k.debts_is;
      classes_is = k.classes_is;
    })

pub returns-clause-sound : goal.returns-clause-sound
returns-clause-sound c =
    let end = subst (λ (t : Table). IsEnd t c.requires.end.0 c.args.at c.args.words) (sym c.self.view_is) c.requires.end.1 in
    let bounds = end_bounds (table_of c.self.inside) c.requires.end.0 c.args.at c.args.words c.self.invariant.table (subst (λ (t : Table). IsEnd t c.requires.end.0 c.args.at c.args.words) (sym c.self.view_is) c.requires.end.1) in
    let e : c.index_mut.result.now ≡ slice_index c.self.inside.used.items (c.args.at / 4096) = c.index_mut.ensures.value ∙ get_or_default c.self.inside.used.items (c.args.at / 4096) c.index_mut.result.now 0 (omega arith) in
    rw e (noted_is (extended (table_of c.self.inside) c.args.at c.args.words) c.self.inside.aim c.self.inside.last c.insert_span.new.self.pages (extended_is (table_of c.self.inside) c.requires.end.0 c.args.at c.args.words c.self.invariant.table end))

pub index_mut-requires : goal.index_mut-requires
index_mut-requires c =
    let bounds = end_bounds (table_of c.self.inside) c.requires.end.0 c.args.at c.args.words c.self.invariant.table (subst (λ (t : Table). IsEnd t c.requires.end.0 c.args.at c.args.words) (sym c.self.view_is) c.requires.end.1) in
    let whole = c.self.inside.used.ok.0 in
    omega arith

pub overflow_add-index_mut : goal.overflow_add-index_mut
overflow_add-index_mut c =
    let bounds = end_bounds (table_of c.self.inside) c.requires.end.0 c.args.at c.args.words c.self.invariant.table (subst (λ (t : Table). IsEnd t c.requires.end.0 c.args.at c.args.words) (sym c.self.view_is) c.requires.end.1) in
    let e : c.index_mut.result.now ≡ slice_index c.self.inside.used.items (c.args.at / 4096) = c.index_mut.ensures.value ∙ get_or_default c.self.inside.used.items (c.args.at / 4096) c.index_mut.result.now 0 (omega arith) in
    omega arith

pub overflow_add-self : goal.overflow_add-self
overflow_add-self c =
    let bounds = end_bounds (table_of c.self.inside) c.requires.end.0 c.args.at c.args.words c.self.invariant.table (subst (λ (t : Table). IsEnd t c.requires.end.0 c.args.at c.args.words) (sym c.self.view_is) c.requires.end.1) in
    let counted = c.self.invariant.table.counted in
    let small = words_small (table_of c.self.inside) c.self.invariant.table in
    omega arith

pub overflow_add-at : goal.overflow_add-at
overflow_add-at c =
    let bounds = end_bounds (table_of c.self.inside) c.requires.end.0 c.args.at c.args.words c.self.invariant.table (subst (λ (t : Table). IsEnd t c.requires.end.0 c.args.at c.args.words) (sym c.self.view_is) c.requires.end.1) in
    omega arith

pub insert_span-requires-clause-in_range : goal.insert_span-requires-clause-in_range
insert_span-requires-clause-in_range c =
    let bounds = end_bounds (table_of c.self.inside) c.requires.end.0 c.args.at c.args.words c.self.invariant.table (subst (λ (t : Table). IsEnd t c.requires.end.0 c.args.at c.args.words) (sym c.self.view_is) c.requires.end.1) in
    let pages = c.self.invariant.pages_is in
    omega arith

pub returns-clause-pages : goal.returns-clause-pages
returns-clause-pages c = rw (← c.self.view_is) (adds_counted c.self.inside.scan c.insert_span.new.self (16 * c.self.inside.chains.nodes) _ _ c.insert_span.ensures)
