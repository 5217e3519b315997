use Rattle.std.proofs.Common.{◌∷◌, ◌∙◌, [], true, take, map, ap, List, ℕ, ◌++◌}
use Rattle.world_text.specs.writing.Spelling.{AreaLine, CapacityLine, FormatLine, SpaceLine}
use Rattle.world_text.specs.writing.File.{text_of}
use Rattle.world_text.proofs.writing_laws.FileLaws.{text_more}
use Rattle.world_text.proofs.writing.file.head_text.Goals as goal

pub returns : goal.returns
returns c =
    let areas = c.args.areas.now in
    let space = c.args.space.now in
    let one = c.in_ok-push_format.ensures ∙ ap (λ (text : List ℕ). text ++ text_of areas (FormatLine true ∷ [])) c.new-text.ensures in
    let two = text_more areas (FormatLine true ∷ []) (SpaceLine space ∷ []) [] c.push_format.new.text c.push_space.new.text one c.in_ok-push_space.ensures in
    let three = text_more areas (FormatLine true ∷ SpaceLine space ∷ []) (map AreaLine areas) [] c.push_space.new.text c.push_areas.new.text two c.in_ok-push_areas.ensures in
    text_more areas (FormatLine true ∷ SpaceLine space ∷ map AreaLine areas) (CapacityLine (take space.levels space.capacity) ∷ []) [] c.push_areas.new.text c.push_capacity.new.text three c.in_ok-push_capacity.ensures
