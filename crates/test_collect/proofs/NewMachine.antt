-- A machine that was just opened.
use Rattle.std.proofs.Common.{◌≡◌, ℕ, ◌+◌, ◌*◌, ◌<◌, refl, sym, ◌∙◌, ap, subst, arith, List, [], length, get_or, replicate, Some}
use Rattle.std.specs.Prelude.{Contains}
use Rattle.std.proofs.lemmas.List.{get_or-replicate, length-replicate}
use Rattle.store_word.specs.Words.{Parts, null_word}
use Rattle.store_word.specs.declared.space.Space.{Space}
use Rattle.store_word.specs.declared.word.Content.TheVariants.{Nil as NilWord}
use Rattle.lisp_graph.specs.declared.object.Value.{Value}
use Rattle.lisp_graph.specs.declared.object.Value.TheVariants as V
use Rattle.lisp_graph.specs.declared.world.AreaRule.{AreaRule}
use Rattle.lisp_graph.specs.declared.world.World.{World}
use Rattle.lisp_graph.specs.World.{AreAreas, IsSpace}
use Rattle.mem_port.specs.Store.{IsFresh, IsSound}
use Rattle.mem_port.specs.Store as Memory
use Rattle.area_space.specs.Table.{IsOld, Table, stale}
use Rattle.area_space.specs.Fresh.{RoomRuleFor, fresh, quotas_in}
use Rattle.area_space.proofs.EmptyTable.{fresh_is, room_from}
use Rattle.area_space.proofs.FreeSets.{empties}
use Rattle.heap_state.specs.lisp_meaning.Opening.{opening}
use Rattle.heap_state.specs.lisp_meaning.Empty.{blank_map}
use Rattle.heap_state.specs.lisp_meaning.Roles.{value_of}
use Rattle.heap_state.specs.lisp_ground.GroundInvariant.{GroundInvariant}
use Rattle.heap_state.specs.lisp_meaning.Interpretation.{interpretation}
use Rattle.heap_state.proofs.lisp_ground.invariant.EmptyMachine.{fresh_kept_on}
use Rattle.heap_commands.specs.cdr_lists.Words.{plain}
use Rattle.scavenger.specs.Scan.{Scan, nothing_left}
use Rattle.heap_state.specs.RepresentsAll.{RepresentsAll}
use Rattle.test_collect.specs.Machines.{IsMachine}

-- no region of a new table is old
pub fresh_none_old : (regions top : ℕ) (rules : List AreaRule) → (region : ℕ) → IsOld (fresh regions top rules) region → ⊥
fresh_none_old regions top rules r old =
    let x = subst (λ (xs : List ℕ). Contains xs r) (empties (2 * (length (quotas_in rules) * (top + 1))) (stale old.0)) old.1 in
    absurd (omega (arith, x.1))

module _ (m : Memory.Store) (pages : ℕ) (space : Space) (areas : List AreaRule) (sizes : IsSpace space) (eight : space.registers ≡ 8) (rate : space.rate ≡ 0) (rules : AreAreas areas) (room : RoomRuleFor space.regions space.levels areas)
    (new : IsFresh m space.regions space.levels) (sound : IsSound m pages) where
  -- the world with nil in each register
  abbrev world : World
  world = record { space = space; areas = areas; objects = []; roots = replicate 8 V.Nil }

  abbrev table : Table
  table = fresh space.regions space.levels areas

  abbrev nils : List Parts
  nils = replicate 8 (plain NilWord)

  abbrev scan : Scan
  scan = nothing_left space.registers (16 * space.regions)

  ground : GroundInvariant m table (interpretation blank_map (opening world))
  ground =
      fresh_kept_on m world space.regions new (fresh_is space.regions space.levels areas sizes.regions.1 sizes.levels.1 rules) (room_from space.regions space.levels areas room)
      (record { objects = refl; roots = λ r l. get_or-replicate 8 r V.Nil V.Nil l })

  each : (r : ℕ) → r < length (replicate 8 V.Nil) → value_of blank_map.role (get_or nils r null_word).content ≡ Some (get_or (replicate 8 V.Nil) r V.Nil)
  each r l =
      ap (λ (w : Parts). value_of blank_map.role w.content) (get_or-replicate 8 r (plain NilWord) null_word l)
      ∙ sym (ap (λ (v : Value). Some v) (get_or-replicate 8 r V.Nil V.Nil l))

  all : RepresentsAll m table scan nils blank_map (opening world)
  all = record {
    represents = record { kept = ground; count = refl; means = each; aims = (refl, fresh_none_old space.regions space.levels areas) };
    scans = record { over = refl; count = sym eight; pages = length-replicate (16 * space.regions) 0 };
    reach = tt;
    marks = sound.marked;
  }

  pub opened_machine : IsMachine m table scan nils areas
  opened_machine = record {
    map = blank_map;
    state = opening world;
    represents = all;
    areas_are = refl;
    some = (let n = rules.count.0 in omega arith);
    rate = rate;
    eight = eight;
    count = refl;
  }
