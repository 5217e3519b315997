use Rattle.std.proofs.lemmas.List.{length-replicate}
use Rattle.store_word.specs.Words.{null_word}
use Rattle.std.proofs.Common.{ℕ, ◌*◌, length, List, [], ◌∷◌, ◌++◌, sym, ◌∙◌, ap, subst, arith, rules}
use Rattle.index_lists.specs.Chains.{Chains, IsFree, with_list, list_at}
use Rattle.frame_pool.proofs.NewPool.{filled_free, range_more, fresh_kept}
use Rattle.frame_pool.proofs.PoolUpdates.{pool_sound, latest-none}
use Rattle.frame_pool.proofs.pool.FramePool.new.Goals as goal

pub push_back-requires-clause-free : goal.push_back-requires-clause-free
push_back-requires-clause-free c = subst (λ (v : Chains). IsFree v c.loop-frame.frame) (sym c.loop-frame.invariant.filled) (filled_free c.args.frames c.loop-frame.frame)

pub loop-frame-preserved : goal.loop-frame-preserved
loop-frame-preserved c = record {
  filled = c.push_back.ensures.after ∙ (ap (λ (v : Chains). with_list v 0 (list_at v 0 ++ c.loop-frame.frame ∷ [])) c.loop-frame.invariant.filled
      ∙ ap (λ (xs : List ℕ). (let v : Chains = record { nodes = c.args.frames; lists = xs ∷ [] ∷ [] } in v)) (sym (range_more c.loop-frame.frame)));
  sound = c.push_back.ensures.sound;
}

pub invariant_of-result : goal.invariant_of-result
invariant_of-result c = (
  fresh_kept _ c.args.frames c.loop-frame.frame _ _ _ c.loop-frame.invariant.filled (omega arith) c.requires c.loop-frame.invariant.sound (search rules) (search rules) (ap length c.in_ok-words.ensures ∙ length-replicate (c.args.frames * 256) null_word),
  latest-none _ _ 0 (ap (λ (v : Chains). list_at v 1) c.loop-frame.invariant.filled),
)

pub returns-clause-sound : goal.returns-clause-sound
returns-clause-sound c =
    pool_sound _ _ _ _ (fresh_kept _ c.args.frames c.loop-frame.frame _ _ _ c.loop-frame.invariant.filled (omega arith) c.requires c.loop-frame.invariant.sound (search rules) (search rules) (ap length c.in_ok-words.ensures ∙ length-replicate (c.args.frames * 256) null_word))
