use Rattle.std.proofs.Common.{◌∙◌, ◌++◌, ◌∷◌, [], true, ℕ, List, ap, length, arith}
use Rattle.lisp_graph.specs.declared.object.Value.{Value}
use Rattle.world_text.specs.writing.Spelling.{ClosingLine}
use Rattle.world_text.specs.writing.File.{object_lines_of, root_lines_of, text_of}
use Rattle.world_text.proofs.writing_laws.FileLaws.{file_parts}
use Rattle.world_text.proofs.writing_laws.Walks.{is_dump, is_walk, visited_long}
use Rattle.world_text.proofs.writing.dump.dump_text.Goals as goal

pub dumped_registers-requires : goal.dumped_registers-requires
dumped_registers-requires g c = c.new-visits.ensures.sound (g.W.Walk.graph c.args.walk.now)

pub push_end-requires : goal.push_end-requires
push_end-requires g c = omega (arith, ap length c.as_slice.ensures, visited_long c.in_ok-registers.ensures.value, c.in_ok-registers.ensures.at_most)

pub returns-clause-value : goal.returns-clause-value
returns-clause-value g c =
    let G = g.W.Walk.graph c.args.walk.now in
    let areas = c.args.areas.now in
    let wrote = c.in_ok-write_objects.ensures.value in
    let walk = is_walk (g.W.Walk.graph c.dumped_registers.new.walk) G c.new-visits.result c.dumped_registers.new.visits c.write_objects.new.visits c.in_ok-registers.registers wrote.objects
    c.dumped_registers.ensures.unchanged c.new-visits.ensures.empty c.in_ok-registers.ensures.value wrote.dumped in
    is_dump G c.args.space.now areas c.write_objects.new.visits.keys wrote.objects c.in_ok-registers.registers c.push_end.new.text c.in_ok-write_objects.ensures.at_most walk
    (file_parts c.args.space.now areas wrote.objects c.in_ok-registers.registers c.in_ok-head.head c.write_objects.new.writer.text c.push_end.new.text c.in_ok-head.ensures
    (wrote.text ∙ ap (λ (text : List ℕ). text ++ text_of areas (object_lines_of 0 0 wrote.objects)) c.new-writer.ensures.text)
    (c.in_ok-push_end.ensures ∙ ap (λ (roots : List Value). c.write_objects.new.writer.text ++ text_of [] (root_lines_of 0 roots ++ ClosingLine true ∷ [])) c.as_slice.ensures))
