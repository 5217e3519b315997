use Rattle.std.proofs.Common.{sym, ◌∙◌, ap, List}
use Rattle.std.specs.Option.{is_some}
use Rattle.store_word.specs.Words.{Parts, header_of}
use Rattle.obj_layout.specs.Forwards.{word_at}
use Rattle.block_store.proofs.BlockReferences.{header_content}
use Rattle.block_store.proofs.header.find.Goals as goal

pub unwrap-code-requires : goal.unwrap-code-requires
unwrap-code-requires g c =
    let found = c.in_ok-found-in-Struct.ensures in
    let header = c.in_ok-header-in-Struct.header in
    let read = c.in_ok-header-in-Struct.ensures.value ∙ ap (λ (ws : List Parts). word_at ws c.in_ok-found-in-Struct.found.at) found.unchanged.words in
    let is = c.requires.header c.in-Struct.reference c.in_ok-found-in-Struct.found.at (sym c.content.ensures.value ∙ c.in-Struct.is) found.value in
    ap is_some (c.header_parts.ensures.value ∙ ap header_of (ap (λ (w : Parts). w.content) read ∙ is.2))

pub returns-in_ok-header-in-Struct-clause-value : goal.returns-in_ok-header-in-Struct-clause-value
returns-in_ok-header-in-Struct-clause-value g c =
    let found = c.in_ok-found-in-Struct.ensures in
    let header = c.in_ok-header-in-Struct.header in
    let read = c.in_ok-header-in-Struct.ensures.value ∙ ap (λ (ws : List Parts). word_at ws c.in_ok-found-in-Struct.found.at) found.unchanged.words in
    let is = ap (λ (w : Parts). w.content) (sym read) ∙ header_content header.content c.unwrap-code.result.0 c.unwrap-code.result.1 (sym c.header_parts.ensures.value ∙ c.unwrap-code.ensures) in
    record {
      reference = c.in-Struct.reference;
      is = sym c.content.ensures.value ∙ c.in-Struct.is;
      final = found.value;
      last = found.last;
      header = is;
      inside = c.requires.inside c.in-Struct.reference c.in_ok-found-in-Struct.found.at c.unwrap-code.result.0 c.unwrap-code.result.1 (sym c.content.ensures.value ∙ c.in-Struct.is) found.value is;
    }
