-- The small world can be loaded.
use Rattle.std.proofs.Common.{◌≡◌, ℕ, zero, suc, refl, sym, ap, ◌∙◌, subst, arith, List, replicate, Some}
use Rattle.std.proofs.lemmas.List.{get_or-replicate}
use Rattle.store_word.specs.Words.{Parts, null_word}
use Rattle.lisp_graph.specs.declared.object.Value.{Value}
use Rattle.lisp_graph.specs.declared.object.Value.TheVariants as V
use Rattle.lisp_graph.specs.declared.world.World.{World}
use Rattle.mem_port.specs.Store.{IsFresh, Store}
use Rattle.area_space.specs.Fresh.{fresh, RoomRuleFor}
use Rattle.area_space.specs.Sound.{IsTable}
use Rattle.area_space.specs.Table.{IsOld, Table}
use Rattle.area_space.proofs.EmptyTable.{room_from}
use Rattle.heap_state.specs.lisp_meaning.Charges.{account_now}
use Rattle.heap_state.specs.lisp_meaning.Opening.{opening}
use Rattle.heap_state.specs.lisp_meaning.Empty.{blank_map}
use Rattle.heap_state.specs.lisp_meaning.Roles.{value_of}
use Rattle.heap_state.specs.lisp_ground.GroundInvariant.{GroundInvariant}
use Rattle.heap_state.specs.lisp_meaning.Interpretation.{interpretation}
use Rattle.heap_state.proofs.lisp_ground.invariant.EmptyMachine.{fresh_kept_on}
use Rattle.heap_commands.specs.cdr_lists.Words.{plain}
use Rattle.heap_load.specs.Loading.{RepresentsWorld, FitsQuotas, emptied}
use Rattle.test_collect.specs.SmallWorld.{IsSmall, small_areas, small_world}
use Rattle.test_collect.proofs.NewMachine.{fresh_none_old}
use Rattle.store_word.specs.declared.word.Content.TheVariants.{Nil as NilWord}
use Rattle.lisp_graph.specs.Totals.{total}

quotas_are : (name : List ℕ) → FitsQuotas (small_world name)
unfolding total
quotas_are name zero low = let e : account_now (opening (small_world name)) 0 ≡ 18 = refl in omega (arith, e)
quotas_are name (suc area) low = absurd (omega arith)

pub small_fits : (world : World) → IsSmall world → FitsQuotas world
small_fits world x = subst FitsQuotas (sym x.is) (quotas_are x.name)

-- a new ground and NIL registers represent it without objects
pub small_represents : (m : Store) (t : Table) (world : World) → IsSmall world → IsFresh m 16 1 → t ≡ fresh world.space.regions world.space.levels world.areas → IsTable t → RepresentsWorld m t (replicate 3 (plain NilWord)) (emptied world)
small_represents m t world x f is v = subst (λ (w : World). RepresentsWorld m t (replicate 3 (plain NilWord)) (emptied w)) (sym x.is) (here x.name (is ∙ ap (λ (w : World). fresh w.space.regions w.space.levels w.areas) x.is))
  where
    room : (name : List ℕ) → RoomRuleFor 16 1 (small_areas name)
    room name = omega arith

    here : (name : List ℕ) → t ≡ fresh 16 1 (small_areas name) → RepresentsWorld m t (replicate 3 (plain NilWord)) (emptied (small_world name))
    here name e = record {
      map = blank_map;
      represents = record {
        kept = subst (λ (u : Table). GroundInvariant m u (interpretation blank_map (opening (emptied (small_world name))))) (sym e)
            (fresh_kept_on m (emptied (small_world name)) 16 f (subst IsTable e v) (room_from 16 1 (small_areas name) (room name)) (record { objects = refl; roots = λ r l. get_or-replicate 3 r V.Nil V.Nil l }));
        count = refl;
        means = λ r l. ap (λ (p : Parts). value_of blank_map.role p.content) (get_or-replicate 3 r (plain NilWord) null_word l) ∙ sym (ap (λ (v : Value). Some v) (get_or-replicate 3 r V.Nil V.Nil l));
        aims = (ap (λ (u : Table). u.aim) e, λ region old. fresh_none_old 16 1 (small_areas name) region (subst (λ (u : Table). IsOld u region) e old));
      };
    }
