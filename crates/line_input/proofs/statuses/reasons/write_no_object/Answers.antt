use Rattle.line_input.proofs.statuses.reasons.write_no_object.Goals as goal

pub returns-clause-written : goal.returns-clause-written
returns-clause-written g c = rw (c.as_bytes-number.ensures.value, c.format.ensures.text, c.as_bytes-missing.ensures.value, c.format-2.ensures.text) at c.give_parts.ensures.written
