use Rattle.inside_text.proofs.pages.tell_row_of.Goals as goal

pub returns-clause-gathers : goal.returns-clause-gathers
returns-clause-gathers g c = rw (c.as_bytes-number.ensures.value, c.format.ensures.text) at c.tell_line.ensures.gathers
