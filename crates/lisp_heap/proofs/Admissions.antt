-- An allocation on a heap: what was admitted and then made, and what was refused.
use Rattle.std.proofs.Common.{◌≡◌, ◌≢◌, ℕ, ◌+◌, ◌-◌, ◌*◌, ◌<◌, ◌≤◌, refl, sym, ◌∙◌, ap, subst, arith, true, List, length, get_or, Some}
use Rattle.std.specs.Prelude.{Vec}
use Rattle.std.specs.Vec.{with_items}
use Rattle.std.proofs.lemmas.List.{with_items_is}
use Rattle.store_word.specs.Words.{Parts, null_word}
use Rattle.store_word.specs.declared.space.Space.{Space}
use Rattle.lisp_graph.specs.declared.command.Command.{Command}
use Rattle.lisp_graph.specs.declared.reply.Reply.{Reply}
use Rattle.lisp_graph.specs.declared.reply.Reply.TheVariants as R
use Rattle.lisp_graph.specs.Effect.{Effect, effect}
use Rattle.mem_port.specs.Store.{MarksHold}
use Rattle.mem_port.specs.View.{AccountsForFaultsIf}
use Rattle.mem_port.specs.declared.memory.Memory.{Ghosts}
use Rattle.area_space.specs.View.{GroundView, view}
use Rattle.area_space.specs.declared.ground.Ground.{Ground}
use Rattle.word_graph.specs.lisp_meaning.State.{State}
use Rattle.word_graph.specs.lisp_meaning.Flip.{graph_of}
use Rattle.word_graph.specs.lisp_meaning.Run.{allocates}
use Rattle.word_graph.specs.lisp_meaning.Sound.{IsAllowed}
use Rattle.scavenger.specs.Scan.{Scan}
use Rattle.heap_state.specs.Performs.{PerformsAt}
use Rattle.heap_state.specs.Reads.{is_fault}
use Rattle.heap_commands.specs.NewMarks as made
use Rattle.heap_collect.specs.Admitting.{Wants}
use Rattle.heap_collect.specs.Laws.{AdmittedIsStep}
use Rattle.heap_collect.proofs.Admissions.{prepared_goes}
use Rattle.lisp_heap.specs.Admits.{Admits, Prepares, Unmade}
use Rattle.lisp_heap.specs.HeapView.{HeapView, contents_at, counted, lists_of}
use Rattle.lisp_heap.specs.Costs.{Makes}
use Rattle.lisp_heap.specs.Making.{ScansFirst}
use Rattle.lisp_heap.specs.NewMarks.{MarksMade}
use Rattle.lisp_heap.specs.Stands.{IsSound, Runs}
use Rattle.lisp_heap.proofs.Allocations.{Admitted, Made, Prepared, costs_made, made as made_there, none_refused, object_marked, standing_prepared}
use Rattle.lisp_heap.proofs.AllocationMoments.{moment, moment_same, ready_there}
use Rattle.lisp_heap.proofs.ScanOrder.{up_to_listed}
use Rattle.lisp_heap.proofs.MemoryReports.{tells_then, told_behind}
use Rattle.lisp_heap.proofs.Units.{allocated_some}

-- an allocation was made or refused: the heap is sound, the command ran, it took what it may, and marked what it may
pub record Allocated (old new : HeapView) (before after charge words read to : ℕ) (c : Command) (r : Reply) : Type 0 where
  pub sound : IsSound new
  pub runs : Runs old new before after c r
  pub makes : Makes old new before after charge words read r
  pub order : r ≡ R.Fine → ScansFirst old new charge words read
  pub unmarked : r ≡ R.Fine → MarksMade c old new (get_or new.registers to null_word) words

module _ {M : Type 0} {g : Ghosts M} (ground : Ground M g) {scan : Scan} {registers : List Parts} {space : Space} {area : ℕ} where
  pub prepared_parts : (p : Prepares (view ground) scan space (g.resident ground.mem)) → IsSound (contents_at ground scan registers space) → area < length ground.table.kinds
      → Prepared (g.seen ground.mem) p.ground.mem.store ground.table p.ground.table scan p.begun registers space (g.faults ground.mem) (g.resident ground.mem) (counted g ground.mem) area
  prepared_parts p sound area_in = record { sound = sound; silent = p.silent.step; done = p.silent.done; placed = p.silent.placed; regions = p.silent.regions; frees = p.silent.frees; area_in = area_in }

  module _ (ground2 : Ground M g) {scan2 : Scan} {registers2 : List Parts} {charge before mid level : ℕ} (a : Admits (view ground) (view ground2) scan scan2 registers registers2 space (g.resident ground.mem) area charge before mid level) where
    pub admitted_parts : Admitted a.first.ground.mem.store (g.seen ground2.mem) a.first.ground.table ground2.table a.first.begun scan2 registers registers2 space.rate area charge
    admitted_parts = record { ahead = a.units.ahead; left = a.left; preserved = a.on.registers; regions = a.on.table.form.regions; some = a.on.some; grows = a.on.table.placed; table = a.on.table; marks = a.on.marks }

    -- it was made
    module _ (ground3 : Ground M g) (registers3 : List Parts) (after words read fixed to : ℕ) (c : Command) (r : Reply) (sound : IsSound (contents_at ground scan registers space)) (area_in : area < length ground.table.kinds)
        (all : allocates c ≡ true) (allowed : IsAllowed c) (wants : (s : State) → Wants s c area charge) (fine : (s : State) (e : Effect) → effect (graph_of s) c ≡ Some e → e.reply ≡ R.Fine)
        (law : AdmittedIsStep) (marks : MarksHold (g.seen ground3.mem)) (performs : PerformsAt (g.seen ground2.mem) ground2.table registers2 (g.seen ground3.mem) ground3.table registers3 c r area level) (tells : AccountsForFaultsIf (view ground2).mem (view ground3).mem mid after (is_fault r))
        (few : r ≢ R.Fault → ground3.table.placed ≤ ground2.table.placed + (words + 2048 * read)) (cost : r ≢ R.Fault → after ≤ mid + 4 * (ground3.table.placed - ground2.table.placed) + fixed) (bound : fixed + 4 * words ≤ 128 * charge)
        (object : r ≡ R.Fine → made.MarksMade (g.seen ground2.mem) ground2.table (g.seen ground3.mem) ground3.table (get_or registers3 to null_word) words) where
      there : Made (contents_at ground scan registers space) (contents_at ground3 scan2 registers3 space) before after c r ground2.table.placed
      there =
          made_there (prepared_parts a.first sound area_in) admitted_parts (g.seen ground3.mem) ground3.table registers3 before after c r level (g.faults ground3.mem) (g.resident ground3.mem) (counted g ground3.mem)
          a.level_is all allowed wants performs law prepared_goes marks
          (told_behind (contents_at ground scan registers space) (contents_at ground3 scan2 registers3 space) a.first.ground.mem before after c r all a.first.silent.faults a.first.silent.taken a.first.resident (tells_then a.tells tells)) fine

      sure : r ≡ R.Fine → r ≢ R.Fault
      sure is fault = let bad : R.Fine ≡ R.Fault = sym is ∙ fault in absurd (cc)

      pub allocated_parts : Allocated (contents_at ground scan registers space) (contents_at ground3 scan2 registers3 space) before after charge words read to c r
      allocated_parts =
          let z = there in
          record {
            sound = z.sound;
            runs = z.runs;
            makes = record {
              costs = λ is. costs_made (contents_at ground scan registers space) (contents_at ground3 scan2 registers3 space) a.first.begun a.first.ground.table.placed ground2.table.placed before mid after charge words read fixed a.first.silent.done a.first.silent.placed
                  (allocated_some (contents_at ground scan registers space) (contents_at ground3 scan2 registers3 space) sound z.sound a.first.begun a.first.silent.done a.first.silent.unchanged a.units.begun a.on.over (space.rate * charge) a.on.some a.units.count) a.units.count
                  a.on.table.placed a.units.at_most a.units.cost z.grows (few (sure is)) (cost (sure is)) bound;
              refused = λ refused. absurd (none_refused r z.answer refused);
            };
            order = λ is. record {
              ready = moment (lists_of a.first.ground.mem.store) a.first.ground.table a.first.begun registers;
              silent = ready_there ground a.first (standing_prepared (prepared_parts a.first sound area_in));
              makes = record {
                scanned = moment (lists_of (g.seen ground2.mem)) ground2.table scan2 registers2;
                order = λ runs. up_to_listed (a.units.order runs);
                idle = λ none. (let y = a.idle none in moment_same (ap (λ (v : GroundView). lists_of v.mem.store) y.0) (ap (λ (v : GroundView). v.table) y.0) y.1 y.2);
                still = refl;
                grows = z.grows;
                few = (let low = few (sure is) in omega arith);
              };
            };
            unmarked = λ is. object_marked (prepared_parts a.first sound area_in) admitted_parts (g.seen ground3.mem) ground3.table registers3 before after c r level (g.faults ground3.mem) (g.resident ground3.mem) (counted g ground3.mem)
                a.level_is all allowed wants performs z.sound (get_or registers3 to null_word) words (object is);
          }

-- a vector lent the words of the registers
module _ {M Z : Type 0} {g : Ghosts M} (ground ground3 : Ground M g) (v : Vec Parts Z) {registers registers3 : List Parts} (is : registers ≡ v.items) (count : length registers ≡ v.len) {scan scan3 : Scan} {space : Space} {before after charge words read : ℕ} {c : Command} {r : Reply} where
  pub allocated_lent : (to : ℕ) → Allocated (contents_at ground scan registers space) (contents_at ground3 scan3 registers3 space) before after charge words read to c r
      → Allocated (contents_at ground scan v.items space) (contents_at ground3 scan3 (with_items v registers3).items space) before after charge words read to c r
  allocated_lent to x =
      subst (λ (ws : List Parts). Allocated (contents_at ground scan v.items space) (contents_at ground3 scan3 ws space) before after charge words read to c r) (sym (with_items_is v registers3 (x.runs.world.registers ∙ count)))
      (subst (λ (ws : List Parts). Allocated (contents_at ground scan ws space) (contents_at ground3 scan3 registers3 space) before after charge words read to c r) is x)

-- it was refused
pub allocated_none : {old new : HeapView} {before after charge words read to : ℕ} {c : Command} {r : Reply} → Unmade old new before after c r → Allocated old new before after charge words read to c r
allocated_none x = record { sound = x.sound; runs = x.runs; makes = record { costs = λ fine. absurd (x.unmade fine); refused = x.refused }; order = λ fine. absurd (x.unmade fine); unmarked = λ fine. absurd (x.unmade fine) }
