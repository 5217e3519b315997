use Rattle.std.proofs.Common.{◌∙◌, sym, subst}
use Rattle.lisp_graph.specs.declared.reply.Reply.{Reply}
use Rattle.store_word.specs.declared.word.Content.{Content}
use Rattle.store_word.specs.declared.word.Content.TheVariants.{Struct as StructAt}
use Rattle.heap_state.specs.Words.{Shows}
use Rattle.heap_state.proofs.values.show.Goals as goal

pub returns-in_ok-header-in-Struct-clause-value : goal.returns-in_ok-header-in-Struct-clause-value
returns-in_ok-header-in-Struct-clause-value g c =
    let words = (g.M.Memory.seen c.args.mem.now).words in
    let is = sym c.content.ensures.value ∙ c.in-Struct.is in
    let shown = subst (λ (reply : Reply). Shows words (StructAt c.in-Struct.at) reply) (sym c.header_reply.ensures.value) c.in_ok-header-in-Struct.ensures.value in
    subst (λ (content : Content). Shows words content c.header_reply.result) (sym is) shown
