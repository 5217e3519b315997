use Rattle.std.proofs.Common.{◌≡◌, ◌∙◌, ◌<◌, ℕ, sym, subst, arith, List, length, get_or}
use Rattle.std.proofs.lemmas.List.{length-replicate}
use Rattle.store_word.specs.Words.{null_word}
use Rattle.lisp_graph.specs.declared.object.Value.{Value}
use Rattle.lisp_graph.specs.declared.object.Value.TheVariants as V
use Rattle.heap_load.specs.Places.{PlaceView, word_of}
use Rattle.heap_load.proofs.LoadedWorlds.{represents_left, represents_loaded, represents_some, groups_loaded}
use Rattle.heap_load.proofs.loading.load.Goals as goal

pub returns-in_err-make_drafts-clause-some : goal.returns-in_err-make_drafts-clause-some
returns-in_err-make_drafts-clause-some g c = represents_left _ _ _ _ c.args.registers.now c.args.world.now c.requires.empty c.in_err-make_drafts.ensures.left

pub returns-in_err-fill_drafts-clause-some : goal.returns-in_err-fill_drafts-clause-some
returns-in_err-fill_drafts-clause-some g c = represents_left _ _ _ _ c.args.registers.now c.args.world.now c.requires.empty c.in_err-fill_drafts.ensures.left

-- roots that are read from equal lists
roots_here : (registers : List Rattle.store_word.specs.Words.Parts) (read roots : List Value) (old new : List PlaceView) → read ≡ roots → old ≡ new
    → ((r : ℕ) → r < length read → get_or registers r null_word ≡ word_of old (get_or read r V.Nil)) → (r : ℕ) → r < length roots → get_or registers r null_word ≡ word_of new (get_or roots r V.Nil)
roots_here registers read roots old new e f are =
    subst (λ (l : List Value). (r : ℕ) → r < length l → get_or registers r null_word ≡ word_of new (get_or l r V.Nil)) e
    (subst (λ (places : List PlaceView). (r : ℕ) → r < length read → get_or registers r null_word ≡ word_of places (get_or read r V.Nil)) f are)

pub returns-clause-represented : goal.returns-clause-represented
returns-clause-represented g c =
    let world = c.args.world.now in
    let kept = c.set_roots.auto.registers in
    let count = c.requires.empty.represents.count in
    let nils = length-replicate world.space.registers V.Nil in
    let roots = c.requires.accepted.roots in
    represents_loaded _ _ c.set_roots.new.registers world c.deref.result.now (record { is = c.requires.accepted; fits = c.requires.fits }) c.in_ok-fill_drafts.ensures.filled (omega arith)
    (roots_here c.set_roots.new.registers c.as_slice.result.now world.roots c.deref-2.result.now c.deref.result.now c.as_slice.ensures (c.deref-2.ensures.value ∙ sym c.deref.ensures.value) c.set_roots.ensures)

pub returns-clause-some : goal.returns-clause-some
returns-clause-some g c = represents_some _ _ c.set_roots.new.registers c.args.world.now (returns-clause-represented g c)

pub returns-clause-groups : goal.returns-clause-groups
returns-clause-groups g c =
    let world = c.args.world.now in
    let kept = c.set_roots.auto.registers in
    let count = c.requires.empty.represents.count in
    let nils = length-replicate world.space.registers V.Nil in
    let roots = c.requires.accepted.roots in
    groups_loaded _ _ world c.deref.result.now c.in_ok-fill_drafts.ensures.filled c.in_ok-fill_drafts.ensures.stays_laid c.set_roots.new.registers (record { is = c.requires.accepted; fits = c.requires.fits }) (omega arith)
    (roots_here c.set_roots.new.registers c.as_slice.result.now world.roots c.deref-2.result.now c.deref.result.now c.as_slice.ensures (c.deref-2.ensures.value ∙ sym c.deref.ensures.value) c.set_roots.ensures)
