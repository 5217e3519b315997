-- A heap that was just opened represents the opening of its world.
use Rattle.std.proofs.Common.{◌≡◌, ℕ, ◌+◌, ◌*◌, ◌<◌, refl, sym, ◌∙◌, ap, subst, arith, List, length, get_or, replicate, Some}
use Rattle.std.specs.Prelude.{Contains}
use Rattle.std.proofs.lemmas.List.{get_or-replicate, length-map, length-replicate}
use Rattle.store_word.specs.Words.{Parts, null_word}
use Rattle.store_word.specs.declared.space.Space.{Space}
use Rattle.store_word.specs.declared.word.Content.TheVariants.{Nil as NilWord}
use Rattle.lisp_graph.specs.declared.object.Value.{Value}
use Rattle.lisp_graph.specs.declared.object.Value.TheVariants as V
use Rattle.lisp_graph.specs.declared.world.AreaRule.{AreaRule}
use Rattle.mem_port.specs.Store.{IsFresh, IsSound}
use Rattle.mem_port.specs.Store as Memory
use Rattle.area_space.specs.Table.{IsOld, Table, stale}
use Rattle.area_space.specs.Fresh.{fresh, quotas_in}
use Rattle.area_space.proofs.EmptyTable.{fresh_is, room_from}
use Rattle.area_space.proofs.FreeSets.{empties}
use Rattle.word_graph.specs.lisp_meaning.Opening.{opening}
use Rattle.word_graph.specs.lisp_meaning.Empty.{blank_map, IsBare}
use Rattle.word_graph.specs.lisp_meaning.Roles.{value_of}
use Rattle.word_graph.specs.lisp_ground.GroundInvariant.{GroundInvariant}
use Rattle.word_graph.specs.lisp_meaning.Interpretation.{interpretation}
use Rattle.word_graph.proofs.lisp_ground.invariant.EmptyMachine.{fresh_kept_on}
use Rattle.lisp_heap.specs.HeapView.{HeapView, Counts, contents_of}
use Rattle.lisp_heap.specs.Form.{IsForm, world_with}
use Rattle.lisp_heap.specs.Stands.{Stands, IsSound as IsSoundHeap}
use Rattle.heap_commands.specs.cdr_lists.Words.{plain}
use Rattle.scavenger.specs.Scan.{Scan, nothing_left}
use Rattle.heap_state.specs.RepresentsAll.{RepresentsAll}
use Rattle.lisp_graph.specs.declared.world.World.{World}
use Rattle.lisp_heap.proofs.ListedMemory.{listed}

-- no region of a new table is old
fresh_none_old : (regions top : ℕ) (rules : List AreaRule) → (region : ℕ) → IsOld (fresh regions top rules) region → ⊥
fresh_none_old regions top rules r old =
    let x = subst (λ (xs : List ℕ). Contains xs r) (empties (2 * (length (quotas_in rules) * (top + 1))) (stale old.0)) old.1 in
    absurd (omega (arith, x.1))

module _ (m : Memory.Store) (pages : ℕ) (space : Space) (areas : List AreaRule) (form : IsForm space areas) (new : IsFresh m space.regions space.levels) (sound : IsSound m pages) (faults : ℕ) (resident : List ℕ) (counts : Counts) where
  abbrev world : World
  world = world_with space areas

  bare : IsBare world
  bare = record { objects = refl; roots = λ r l. (let n = length-replicate space.registers V.Nil in get_or-replicate space.registers r V.Nil V.Nil (omega arith)) }

  abbrev table : Table
  table = fresh space.regions space.levels areas

  abbrev registers : List Parts
  registers = replicate space.registers (plain NilWord)

  ground : GroundInvariant m table (interpretation blank_map (opening world))
  ground =
      fresh_kept_on m world space.regions new (fresh_is space.regions space.levels areas form.sizes.regions.1 form.sizes.levels.1 form.rules) (room_from space.regions space.levels areas form.room) bare

  each : (r : ℕ) → r < length (replicate space.registers V.Nil) → value_of blank_map.role (get_or registers r null_word).content ≡ Some (get_or (replicate space.registers V.Nil) r V.Nil)
  each r l =
      let low : r < space.registers = (let n = length-replicate space.registers V.Nil in omega arith) in
      ap (λ (w : Parts). value_of blank_map.role w.content) (get_or-replicate space.registers r (plain NilWord) null_word low)
      ∙ sym (ap (λ (v : Value). Some v) (get_or-replicate space.registers r V.Nil V.Nil low))

  abbrev scan : Scan
  scan = nothing_left space.registers (16 * space.regions)

  all : RepresentsAll m table scan registers blank_map (opening world)
  all = record {
    represents = record {
      kept = ground;
      count = length-replicate space.registers (plain NilWord) ∙ sym (length-replicate space.registers V.Nil);
      means = each;
      aims = (refl, fresh_none_old space.regions space.levels areas);
    };
    scans = record { over = refl; count = length-replicate space.registers (plain NilWord); pages = length-replicate (16 * space.regions) 0 };
    reach = tt;
    marks = sound.marked;
  }

  abbrev opened : HeapView
  opened = contents_of m table scan registers space faults resident counts

  pub opened_stands : Stands opened (opening world)
  opened_stands = record { map = blank_map; represents = listed m table scan registers blank_map (opening world) all; space = refl; kinds = refl }

  pub opened_sound : IsSoundHeap opened
  opened_sound =
      let count = length-map areas (λ (rule : AreaRule). rule.kind) in
      let some = form.rules.count in
      record {
        stands = (opening world, opened_stands);
        sizes = form.sizes;
        areas = (omega arith, omega arith);
        registers = length-replicate space.registers (plain NilWord);
        regions = refl;
      }
