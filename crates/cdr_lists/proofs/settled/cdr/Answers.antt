use Rattle.std.proofs.Common.{ℕ, suc, true, ◌≡◌, ◌+◌, refl, rules, sym, ◌∙◌, ap, arith, subst}
use Rattle.store_word.specs.Words.{Parts}
use Rattle.store_word.specs.declared.word.Content.TheVariants.{List as ListAt}
use Rattle.store_word.specs.declared.word.CdrCode.TheVariants.{Nil as CdrNil, Normal}
use Rattle.mem_port.proofs.CallReports.{answered, answered-if, answers, quiet-then_fault, quiet-twice}
use Rattle.obj_layout.specs.Forwards.{word_at}
use Rattle.transporter.proofs.LiveObjects.{live-read, live-then}
use Rattle.transporter.specs.Moving.{FetchMoves}
use Rattle.transporter.specs.Settling.{reference_of}
use Rattle.transporter.proofs.TransportSequences.{fetch_moves-read, same-stores}
use Rattle.transporter.proofs.ScannedWords.{read-stays_fresh}
use Rattle.transporter.proofs.GroundReads.{fetched-costs, fetched-keeps, read-costs, read-keeps}
use Rattle.cdr_lists.specs.Faults.{is_fault}
use Rattle.cdr_lists.proofs.ConsAddresses.{keeps_cons, readable_at, reads_cdr_of}
use Rattle.cdr_lists.proofs.FreshWords.{live_fresh}
use Rattle.cdr_lists.proofs.ConsReferences.{can_find, code_after, code_there, reads_keep_cons, same_place}
use Rattle.cdr_lists.proofs.PartStores.{on_err}
use Rattle.cdr_lists.proofs.FinalWords.{cdr_is, list_behind}
use Rattle.cdr_lists.proofs.ConsRefusals.{refuses_none}
use Rattle.cdr_lists.proofs.PartReads.{reads_cdr, cdr_live, cdr_settleable, cdr_fetched, cdr_faulted, settled_at, list_fresh}
use Rattle.cdr_lists.proofs.settled.cdr.Goals as goal

-- If the cons isn't found

pub read_cons-requires : goal.read_cons-requires
read_cons-requires g c = can_find _ _ c.args.of c.requires

pub returns-in_err-cons-clause-unchanged : goal.returns-in_err-cons-clause-unchanged
returns-in_err-cons-clause-unchanged g c = reads_keep_cons c.args.ground.now.table c.args.of.content c.in_err-cons.ensures.unchanged

pub returns-in_err-cons-clause-stays_ground : goal.returns-in_err-cons-clause-stays_ground
returns-in_err-cons-clause-stays_ground g c = read-keeps _ _ c.args.ground.now.table c.in_err-cons.ensures.unchanged

-- The second word of a pair

pub fetch-requires-clause-in_range : goal.fetch-requires-clause-in_range
fetch-requires-clause-in_range g c =
    let cons = c.in_ok-cons.ensures in
    let p = cons.value.place in
    cdr_live _ _ _ p.reference (readable_at _ _ c.args.of p.reference p.is c.requires) cons.unchanged c.in_ok-cons.cons.at p.final p.last (code_after cons.value cons.unchanged ∙ c.in-Normal.is) (c.in_ok-cons.cons.at + 1) (omega arith)

pub fetch-requires-clause-can : goal.fetch-requires-clause-can
fetch-requires-clause-can g c =
    let cons = c.in_ok-cons.ensures in
    let p = cons.value.place in
    cdr_settleable _ _ _ p.reference (readable_at _ _ c.args.of p.reference p.is c.requires) cons.unchanged c.in_ok-cons.cons.at p.final p.last (code_after cons.value cons.unchanged ∙ c.in-Normal.is) (c.in_ok-cons.cons.at + 1) (omega arith)

pub returns-in_err-second-in-Normal-clause-live : goal.returns-in_err-second-in-Normal-clause-live
returns-in_err-second-in-Normal-clause-live g c =
    on_err c.from_residual-in_err-second-in-Normal.result _ (live-then (live-read c.in_ok-cons.ensures.unchanged) c.in_err-second-in-Normal.ensures.live)

pub returns-in_err-second-in-Normal-clause-unchanged : goal.returns-in_err-second-in-Normal-clause-unchanged
returns-in_err-second-in-Normal-clause-unchanged g c =
    let cons = c.in_ok-cons.ensures in
    let p = cons.value.place in
    keeps_cons _ _ c.args.of.content p.reference p.is _ _
    (cdr_faulted _ _ _ _ _ p.reference c.in_ok-cons.cons.at cons.unchanged p.final (code_after cons.value cons.unchanged ∙ c.in-Normal.is) (c.in_ok-cons.cons.at + 1) (omega arith) c.in_err-second-in-Normal.ensures.fault)

pub returns-in_ok-second-in-Normal-clause-unchanged : goal.returns-in_ok-second-in-Normal-clause-unchanged
returns-in_ok-second-in-Normal-clause-unchanged g c =
    let cons = c.in_ok-cons.ensures in
    let p = cons.value.place in
    keeps_cons _ _ c.args.of.content p.reference p.is _ _
    (cdr_faulted _ _ _ _ _ p.reference c.in_ok-cons.cons.at cons.unchanged p.final (code_after cons.value cons.unchanged ∙ c.in-Normal.is) (c.in_ok-cons.cons.at + 1) (omega arith)
    (λ it registers v can. (c.in_ok-second-in-Normal.ensures.settles it registers v can).later))

pub returns-in_ok-second-in-Normal-clause-value : goal.returns-in_ok-second-in-Normal-clause-value
returns-in_ok-second-in-Normal-clause-value g c =
    let cons = c.in_ok-cons.ensures in
    let p = cons.value.place in
    let second = c.in_ok-second-in-Normal.ensures in
    let content = ap (λ (w : Parts). w.content) c.with_cdr.ensures in
    record {
      cdr = reads_cdr_of _ _ c.args.of.content p.reference p.is _ _ _
          (cdr_fetched _ _ _ _ _ p.reference c.in_ok-cons.cons.at cons.unchanged p.final (code_after cons.value cons.unchanged ∙ c.in-Normal.is) (c.in_ok-cons.cons.at + 1) (omega arith) c.in_ok-second-in-Normal.second c.with_cdr.result second.settles content);
      fresh = λ old. second.word.fresh (old.0, ap reference_of (sym content) ∙ old.1, old.2);
      word = search rules;
      pair = λ to there normal.
          let place : suc to ≡ c.in_ok-cons.cons.at + 1 = (let e = same_place _ c.args.of.content to c.in_ok-cons.cons.at there p in omega arith) in
          settled_at _ _ _ _ _ (c.in_ok-cons.cons.at + 1) (suc to) c.in_ok-second-in-Normal.second _ cons.unchanged second.word second.written second.registers content place;
      cell = λ to there other. absurd (other (code_there to cons.value there ∙ c.in-Normal.is));
      words = λ to there normal.
          let place : c.in_ok-cons.cons.at + 1 ≡ suc to = (let e = same_place _ c.args.of.content to c.in_ok-cons.cons.at there p in omega arith) in
          subst (λ (a : ℕ). FetchMoves (g.M.Memory.seen c.args.ground.now.mem) c.args.ground.now.table (g.M.Memory.seen c.fetch.new.ground.mem) c.fetch.new.ground.table a) place (fetch_moves-read cons.unchanged second.words same-stores);
    }

pub returns-in_err-second-in-Normal-clause-stays_ground : goal.returns-in_err-second-in-Normal-clause-stays_ground
returns-in_err-second-in-Normal-clause-stays_ground g c =
    let cons = c.in_ok-cons.ensures in
    let p = cons.value.place in
    let second = c.in_err-second-in-Normal.ensures in
    let live = cdr_live _ _ _ p.reference (readable_at _ _ c.args.of p.reference p.is c.requires) cons.unchanged c.in_ok-cons.cons.at p.final p.last (code_after cons.value cons.unchanged ∙ c.in-Normal.is) (c.in_ok-cons.cons.at + 1) (omega arith) in
    fetched-keeps _ _ _ _ cons.unchanged second.table second.moves second.preserves second.marks
    (λ all. let read = read-stays_fresh _ cons.unchanged all in second.stays_fresh (live_fresh (g.M.Memory.seen c.read_cons.new.mem) _ (c.in_ok-cons.cons.at + 1) read live) read)

pub returns-in_ok-second-in-Normal-clause-stays_ground : goal.returns-in_ok-second-in-Normal-clause-stays_ground
returns-in_ok-second-in-Normal-clause-stays_ground g c =
    let cons = c.in_ok-cons.ensures in
    let p = cons.value.place in
    let second = c.in_ok-second-in-Normal.ensures in
    let live = cdr_live _ _ _ p.reference (readable_at _ _ c.args.of p.reference p.is c.requires) cons.unchanged c.in_ok-cons.cons.at p.final p.last (code_after cons.value cons.unchanged ∙ c.in-Normal.is) (c.in_ok-cons.cons.at + 1) (omega arith) in
    fetched-keeps _ _ _ _ cons.unchanged second.table second.moves second.preserves second.marks
    (λ all. let read = read-stays_fresh _ cons.unchanged all in second.stays_fresh (live_fresh (g.M.Memory.seen c.read_cons.new.mem) _ (c.in_ok-cons.cons.at + 1) read live) read)

pub returns-in_err-second-in-Normal-clause-accounted : goal.returns-in_err-second-in-Normal-clause-accounted
returns-in_err-second-in-Normal-clause-accounted g c =
    let is : is_fault c.from_residual-in_err-second-in-Normal.result ≡ true =
    (let was = c.in_err-second-in-Normal.was in let from = c.from_residual-in_err-second-in-Normal.ensures in let branch = c.branch-second.ensures in let is = c.in_err-second-in-Normal.is in grind arith) in
    quiet-then_fault c.in_err-second-in-Normal.field-0.0 (answered-if c.in_ok-cons.ensures.accounted) c.in_err-second-in-Normal.ensures.accounted _ is

pub returns-in_ok-second-in-Normal-clause-accounted : goal.returns-in_ok-second-in-Normal-clause-accounted
returns-in_ok-second-in-Normal-clause-accounted g c = answers (quiet-twice (answered-if c.in_ok-cons.ensures.accounted) (answered c.in_ok-second-in-Normal.second c.in_ok-second-in-Normal.ensures.accounted))

-- The last cell

pub returns-in-Nil-clause-unchanged : goal.returns-in-Nil-clause-unchanged
returns-in-Nil-clause-unchanged g c = reads_keep_cons c.args.ground.now.table c.args.of.content c.in_ok-cons.ensures.unchanged

pub returns-in-Nil-clause-value : goal.returns-in-Nil-clause-value
returns-in-Nil-clause-value g c =
    let words = (g.M.Memory.seen c.args.ground.now.mem).words in
    let cons = c.in_ok-cons.ensures in
    let p = cons.value.place in
    let at = c.in_ok-cons.cons.at in
    let nil = cdr_is words at CdrNil (sym c.in-Nil.is ∙ sym cons.value.code) in
    let no_pair : CdrNil ≡ Normal → ⊥ = λ e. cc in
    record {
      cdr = reads_cdr_of _ _ c.args.of.content p.reference p.is _ _ _ (reads_cdr _ _ _ p.reference at c.nil.result cons.unchanged p.final (ap (λ (w : Parts). w.content) c.nil.ensures ∙ nil));
      fresh = search rules;
      word = search rules;
      pair = λ to there normal. absurd (no_pair (sym c.in-Nil.is ∙ sym (code_there to cons.value there) ∙ normal));
      cell = λ to there other. (cons.unchanged, refl);
      words = λ to there normal. absurd (no_pair (sym c.in-Nil.is ∙ sym (code_there to cons.value there) ∙ normal));
    }

pub returns-in-Nil-clause-stays_ground : goal.returns-in-Nil-clause-stays_ground
returns-in-Nil-clause-stays_ground g c = read-keeps _ _ c.args.ground.now.table c.in_ok-cons.ensures.unchanged

-- Another cell

pub returns-in_default-clause-unchanged : goal.returns-in_default-clause-unchanged
returns-in_default-clause-unchanged g c = reads_keep_cons c.args.ground.now.table c.args.of.content c.in_ok-cons.ensures.unchanged

pub returns-in_default-clause-value : goal.returns-in_default-clause-value
returns-in_default-clause-value g c =
    let words = (g.M.Memory.seen c.args.ground.now.mem).words in
    let cons = c.in_ok-cons.ensures in
    let p = cons.value.place in
    let at = c.in_ok-cons.cons.at in
    let place : at + 1 ≡ suc at = omega arith in
    let behind = list_behind c.in_ok-cons.cons.code at (word_at words (suc at)).content c.in_default.not-Nil c.in_default.not-Normal in
    let content = ap (λ (w : Parts). w.content) c.list_at.ensures in
    let code = sym (code_after cons.value cons.unchanged) in
    record {
      cdr = reads_cdr_of _ _ c.args.of.content p.reference p.is _ _ _ (reads_cdr _ _ _ p.reference at c.list_at.result cons.unchanged p.final (content ∙ ap (λ (a : ℕ). ListAt a) place ∙ behind ∙ cdr_is words at c.in_ok-cons.cons.code (sym cons.value.code)));
      fresh = list_fresh _ (g.M.Memory.seen c.read_cons.new.mem) _ p.reference (readable_at _ _ c.args.of p.reference p.is c.requires) cons.unchanged at p.final p.last
          (λ e. c.in_default.not-Nil (code ∙ e)) (λ e. c.in_default.not-Normal (code ∙ e)) c.list_at.result (at + 1) (omega arith) content;
      word = search rules;
      pair = λ to there normal. absurd (c.in_default.not-Normal (sym (code_there to cons.value there) ∙ normal));
      cell = λ to there other. (cons.unchanged, refl);
      words = λ to there normal. absurd (c.in_default.not-Normal (sym (code_there to cons.value there) ∙ normal));
    }

pub returns-in_default-clause-stays_ground : goal.returns-in_default-clause-stays_ground
returns-in_default-clause-stays_ground g c = read-keeps _ _ c.args.ground.now.table c.in_ok-cons.ensures.unchanged

-- The cost

pub returns-in_err-cons-clause-costs : goal.returns-in_err-cons-clause-costs
returns-in_err-cons-clause-costs g c = let cons = c.in_err-cons.ensures.cost in read-costs _ _ _ _ _ 61 refl (omega arith)

pub returns-in-Nil-clause-costs : goal.returns-in-Nil-clause-costs
returns-in-Nil-clause-costs g c = let cons = c.in_ok-cons.ensures.cost in read-costs _ _ _ _ _ 61 refl (omega arith)

pub returns-in_default-clause-costs : goal.returns-in_default-clause-costs
returns-in_default-clause-costs g c = let cons = c.in_ok-cons.ensures.cost in read-costs _ _ _ _ _ 61 refl (omega arith)

pub returns-in_ok-second-in-Normal-clause-costs : goal.returns-in_ok-second-in-Normal-clause-costs
returns-in_ok-second-in-Normal-clause-costs g c =
    let cons = c.in_ok-cons.ensures.cost in
    let second = c.in_ok-second-in-Normal.ensures in
    fetched-costs _ _ _ c.read_cons.new.steps _ _ 61 (omega arith) second.at_most (λ calm. second.cost) second.cost_at_most

pub returns-in_err-second-in-Normal-clause-costs : goal.returns-in_err-second-in-Normal-clause-costs
returns-in_err-second-in-Normal-clause-costs g c =
    let is : is_fault c.from_residual-in_err-second-in-Normal.result ≡ true =
    (let was = c.in_err-second-in-Normal.was in let from = c.from_residual-in_err-second-in-Normal.ensures in let branch = c.branch-second.ensures in let is = c.in_err-second-in-Normal.is in grind arith) in
    let cons = c.in_ok-cons.ensures.cost in
    let second = c.in_err-second-in-Normal.ensures in
    fetched-costs _ _ _ c.read_cons.new.steps _ _ 61 (omega arith) second.at_most (λ calm. let both = sym is ∙ calm in absurd cc) second.cost_at_most

-- What is refused

pub returns-in_ok-second-in-Normal-clause-refused : goal.returns-in_ok-second-in-Normal-clause-refused
returns-in_ok-second-in-Normal-clause-refused g c = refuses_none _ _ _ _ _ _ (λ e. cc) (λ other. let e = c.in_ok-cons.ensures.refused.1 other in cc)

pub returns-in-Nil-clause-refused : goal.returns-in-Nil-clause-refused
returns-in-Nil-clause-refused g c = refuses_none _ _ _ _ _ _ (λ e. cc) (λ other. let e = c.in_ok-cons.ensures.refused.1 other in cc)

pub returns-in_default-clause-refused : goal.returns-in_default-clause-refused
returns-in_default-clause-refused g c = refuses_none _ _ _ _ _ _ (λ e. cc) (λ other. let e = c.in_ok-cons.ensures.refused.1 other in cc)
