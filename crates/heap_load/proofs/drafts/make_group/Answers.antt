use Rattle.std.proofs.Common.{◌≡◌, ℕ, ◌+◌, ◌<◌, sym, ap, ◌∙◌, subst, arith, List, [], ◌∷◌, length}
use Rattle.store_word.specs.Words.{Parts}
use Rattle.lisp_graph.specs.Groups.{group_size}
use Rattle.mem_port.specs.Store.{Store}
use Rattle.area_space.specs.Table.{Table}
use Rattle.block_store.specs.obj_layout.Forwards.{word_at}
use Rattle.cdr_lists.specs.Lists.{CanList, ListedOn, cell_word}
use Rattle.cdr_lists.proofs.PartStores.{on_err}
use Rattle.heap_load.proofs.ListCells.{can_list, cells_inside, drafted_group, group_within, word_here, zeros}
use Rattle.heap_load.proofs.NewDrafts.{drafted_left}
use Rattle.heap_load.proofs.ConsPlaces.{laid_group}
use Rattle.heap_load.proofs.GroupSequences.{size_whole}
use Rattle.heap_load.proofs.drafts.make_group.Goals as goal

-- what can be made of equal items
can_here : (m : Store) (t : Table) (area from : ℕ) (registers : List Parts) (items zeros : List ℕ) → from ≡ area → items ≡ zeros → CanList m t area 0 registers zeros → CanList m t from 0 registers items
can_here m t area from registers items zeros e f can =
    subst (λ (a : ℕ). CanList m t a 0 registers items) (sym e) (subst (λ (l : List ℕ). CanList m t area 0 registers l) (sym f) can)

listed_here : (m m' : Store) (t t' : Table) (area from : ℕ) (registers : List Parts) (items zeros : List ℕ) (at : ℕ) → from ≡ area → items ≡ zeros → ListedOn m t m' t' from 0 registers items at → ListedOn m t m' t' area 0 registers zeros at
listed_here m m' t t' area from registers items zeros at e f made =
    subst (λ (a : ℕ). ListedOn m t m' t' a 0 registers zeros at) e (subst (λ (l : List ℕ). ListedOn m t m' t' from 0 registers l at) f made)

words_here : (words registers : List Parts) (items zeros : List ℕ) (at : ℕ) → items ≡ zeros → ((i : ℕ) → i < length items → word_at words (at + i) ≡ cell_word registers items i) → (i : ℕ) → i < length zeros → word_at words (at + i) ≡ cell_word registers zeros i
words_here words registers items zeros at f is = subst (λ (l : List ℕ). (i : ℕ) → i < length l → word_at words (at + i) ≡ cell_word registers l i) f is

pub make_list-requires : goal.make_list-requires
make_list-requires g c =
    let r = c.requires in
    can_here _ _ _ _ (c.nil.result ∷ []) c.first_items-items.result (zeros c.args.group.count) c.area_of-area.ensures c.first_items-items.ensures
    (can_list _ _ c.args.world.now c.args.places.now c.args.group.number c.args.group.count r.agrees r.loadable r.made r.in_range c.nil.result c.nil.ensures r.at_most)

pub put_cells-requires : goal.put_cells-requires
put_cells-requires g c =
    let r = c.requires in
    let e = c.area_of-area.ensures in
    let within = group_within _ _ c.args.world.now c.args.places.now c.args.group.number c.args.group.count r.agrees r.loadable r.made r.in_range in
    let inside = cells_inside _ _ c.args.world.now c.args.places.now c.args.group.number c.args.group.count r.agrees r.loadable r.made r.in_range _ c.make_list.new.ground.table c.nil.result c.nil.ensures c.in_ok-from.from
    (listed_here _ _ _ _ _ _ (c.nil.result ∷ []) c.first_items-items.result (zeros c.args.group.count) c.in_ok-from.from e c.first_items-items.ensures c.in_ok-from.ensures.made)
    (words_here _ (c.nil.result ∷ []) c.first_items-items.result (zeros c.args.group.count) c.in_ok-from.from c.first_items-items.ensures c.in_ok-from.ensures.words) in
    let small = c.make_list.new.ground.sound in
    let places = r.places in
    record { in_range = omega arith; at_most = omega arith }

pub returns-in_err-from-clause-left : goal.returns-in_err-from-clause-left
returns-in_err-from-clause-left g c = on_err c.from_residual.result _ (drafted_left _ _ _ _ c.args.world.now c.args.places.now c.args.group.number c.requires.made c.in_err-from.ensures.fault.fault c.in_err-from.ensures.stays_ground.preserves.grows)

pub returns-clause-drafted : goal.returns-clause-drafted
returns-clause-drafted g c =
    let r = c.requires in
    let e = c.area_of-area.ensures in
    drafted_group _ _ c.args.world.now c.args.places.now c.args.group.number c.args.group.count r.agrees r.loadable r.made r.in_range _ _ c.nil.result c.nil.ensures c.in_ok-from.from
    (listed_here _ _ _ _ _ _ (c.nil.result ∷ []) c.first_items-items.result (zeros c.args.group.count) c.in_ok-from.from e c.first_items-items.ensures c.in_ok-from.ensures.made)
    (words_here _ (c.nil.result ∷ []) c.first_items-items.result (zeros c.args.group.count) c.in_ok-from.from c.first_items-items.ensures c.in_ok-from.ensures.words)
    c.put_cells.new.places c.in_ok-from.ensures.stays_ground.preserves.grows c.put_cells.ensures.before c.put_cells.ensures.cells

pub returns-clause-stays_laid : goal.returns-clause-stays_laid
returns-clause-stays_laid g c =
    let r = c.requires in
    let e = c.area_of-area.ensures in
    let kept = (returns-clause-drafted g c).holds.kept in
    laid_group _ _ _ _ c.args.world.now c.args.places.now c.put_cells.new.places c.args.group.number r.made r.laid c.in_ok-from.ensures.stays_ground.live kept.table kept.ground.size c.put_cells.ensures.before
    c.args.group.count c.in_ok-from.from (ap group_size r.agrees ∙ size_whole c.args.group.count r.at_most) c.put_cells.ensures.cells
    (word_here _ _ c.args.world.now c.args.places.now c.args.group.number c.args.group.count r.agrees r.loadable r.made r.in_range _ c.make_list.new.ground.table c.nil.result c.nil.ensures c.in_ok-from.from
    (listed_here _ _ _ _ _ _ (c.nil.result ∷ []) c.first_items-items.result (zeros c.args.group.count) c.in_ok-from.from e c.first_items-items.ensures c.in_ok-from.ensures.made)
    (words_here _ (c.nil.result ∷ []) c.first_items-items.result (zeros c.args.group.count) c.in_ok-from.from c.first_items-items.ensures c.in_ok-from.ensures.words))
