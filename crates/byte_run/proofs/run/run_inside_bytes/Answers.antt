use Rattle.std.proofs.Common.{◌∙◌, None, ap, inl, inr, map, refl, string_bytes, sym}
use Rattle.inside_run.specs.Outcome.{fail_of}
use Rattle.byte_run.proofs.Modes.{ran_out, refused_of}
use Rattle.byte_run.proofs.run.run_inside_bytes.Goals.{in-Ok-Some, in-Ok-None, in-Err}
use Rattle.byte_run.proofs.run.run_inside_bytes.Goals as goal

pub returns : goal.returns
returns c = elim c.answer_of.ensures [
  | inl out ↦ inl (out.0, inl out.1)
  | inr same ↦ elim c.match-arguments_of.branch [
    | in-Ok-Some w ↦
        let bytes = ap (λ v. v.items) same.1 ∙ ap (λ s. s.bytes.items) w.sink-is in
        let r = w.run_inside_words-status.ensures in
        inr (record {
          fail = fail_of w.in-Ok-Some.words.items;
          requests = inl (map string_bytes w.in-Ok-Some.words.items, rw w.in-Ok-Some.field-0-is at w.in-Ok-Some.ensures.ok, refl);
          status = r.0;
          is = same.0 ∙ w.status-is ∙ r.1;
          does = rw (bytes, sym w.as_slice.ensures.value) r.2;
        })
    | in-Ok-None w ↦
        let bytes = ap (λ v. v.items) same.1 ∙ ap (λ s. s.bytes.items) w.sink-is in
        inr (record {
          fail = None;
          requests = inr (w.in-Ok-None.ensures.refused (rw w.in-Ok-None.field-0-is refl), refl);
          status = w.report.result;
          is = same.0 ∙ w.status-is ∙ w.code-status.ensures;
          does = rw bytes (refused_of c.new-sink.ensures.bytes w.report.ensures.written);
        })
    | in-Err w ↦
        let bytes = ap (λ v. v.items) same.1 ∙ ap (λ s. s.bytes.items) w.sink-is in
        inl (rw bytes (ran_out c.answer_of.result.status c.new-sink.ensures.bytes w.report-in-Err.ensures.written (same.0 ∙ w.status-is ∙ w.code-status-in-Err.ensures) (λ one. same.2 (sym same.0 ∙ one))))
  ]
]
