-- The used words of classes, as calls change the table.
use Rattle.std.proofs.Common.{◌≡◌, ◌≢◌, ℕ, ◌+◌, ◌<◌, Bool, true, false, if◌then◌else◌, List, sym, ◌∙◌, ap, arith}
use Rattle.index_lists.proofs.Members.{contains_from_has}
use Rattle.lisp_graph.specs.declared.command.Condemn.{Condemn}
use Rattle.area_space.specs.declared.classes.Origin.{Origin}
use Rattle.area_space.specs.Table.{Table, slots_of, live, stale, chain, IsUnclassed, IsOld}
use Rattle.area_space.specs.Sound.{IsTable}
use Rattle.area_space.specs.Room.{words_in, words_of_class}
use Rattle.area_space.specs.Places.{IsEnd, opened, extended}
use Rattle.area_space.specs.Charges.{committed}
use Rattle.area_space.specs.Flips.{Slot, state_of, after_flip, condemns, Condemns}
use Rattle.area_space.specs.Frees.{Frees}
use Rattle.area_space.proofs.Chains.{words_in-same}
use Rattle.area_space.proofs.UsedEnds.{words_extended, words_extended_other}
use Rattle.area_space.proofs.FlipSteps.{nothing_in}
use Rattle.area_space.proofs.GroundLaws.{committed_beside}
use Rattle.area_space.proofs.NewRegions.{words_opened}

-- the words of a class, by its chain and the used ends
by_chain : (t u : Table) (c d : ℕ) → chain u c ≡ chain t d → u.used ≡ t.used → words_of_class u c ≡ words_of_class t d
by_chain t u c d same used = ap (λ (xs : List ℕ). words_in u.used xs) same ∙ ap (λ (us : List ℕ). words_in us (chain t d)) used

pub opened_words : (t : Table) (slot region class : ℕ) → IsTable t → slot < slots_of t → IsUnclassed t region → words_of_class (opened t (live slot) region) class ≡ words_of_class t class
opened_words t slot region class v low free = words_opened t (live slot) region v (let s = v.chains_size in omega arith) free class

-- a commit

beside_words : (t u : Table) (slot at words charge class : ℕ) (o : Origin) → u ≡ record (committed t slot at words charge o) { pages = u.pages } → words_of_class u class ≡ words_of_class (extended t at words) class
beside_words t u slot at words charge class o is =
    let b = committed_beside t slot at words charge o in
    by_chain (extended t at words) u class class (ap (λ (w : Table). chain w class) is ∙ chain_beside t slot at words charge class o) (ap (λ (w : Table). w.used) is ∙ b.uses)
  where
    chain_beside : (t : Table) (slot at words charge class : ℕ) (o : Origin) → chain (committed t slot at words charge o) class ≡ chain t class
    chain_beside t slot at words charge class o = let b = committed_beside t slot at words charge o in ap (λ (cs : List (List ℕ)). chain (record t { chains = cs }) class) b.chains

pub committed_words : (t u : Table) (slot at words charge : ℕ) (o : Origin) → IsTable t → IsEnd t slot at words → u ≡ record (committed t slot at words charge o) { pages = u.pages }
    → words_of_class u (live slot) ≡ words_of_class t (live slot) + words
committed_words t u slot at words charge o v e is = beside_words t u slot at words charge (live slot) o is ∙ words_extended t slot at words v e

pub committed_words_other : (t u : Table) (slot at words charge class : ℕ) (o : Origin) → IsTable t → IsEnd t slot at words → u ≡ record (committed t slot at words charge o) { pages = u.pages }
    → class ≢ live slot → words_of_class u class ≡ words_of_class t class
committed_words_other t u slot at words charge class o v e is ne = beside_words t u slot at words charge class o is ∙ words_extended_other t slot at words class v e ne

-- a flip

pub condemned_live_words : (t u : Table) (what : Condemn) (slot : ℕ) → Condemns t u what → slot < slots_of t → words_of_class u (live slot) ≡ (if condemns t what slot then 0 else words_of_class t (live slot))
condemned_live_words t u what slot f low =
    by_case (condemns t what slot) (f.slots slot low) (ap (λ (w : Table). w.used) f.same)
  where
    by_case : (b : Bool) → state_of u slot ≡ after_flip b (state_of t slot) → u.used ≡ t.used → words_of_class u (live slot) ≡ (if b then 0 else words_of_class t (live slot))
    by_case true e used = ap (words_in u.used) (ap (λ (x : Slot). x.live_chain) e)
    by_case false e used = by_chain t u (live slot) (live slot) (ap (λ (x : Slot). x.live_chain) e) used

pub condemned_old_words : (t u : Table) (what : Condemn) (slot : ℕ) → ((region : ℕ) → IsOld t region → ⊥) → Condemns t u what → slot < slots_of t → words_of_class u (stale slot) ≡ (if condemns t what slot then words_of_class t (live slot) else 0)
condemned_old_words t u what slot none f low =
    by_case (condemns t what slot) (f.slots slot low) (ap (λ (w : Table). w.used) f.same)
  where
    by_case : (b : Bool) → state_of u slot ≡ after_flip b (state_of t slot) → u.used ≡ t.used → words_of_class u (stale slot) ≡ (if b then words_of_class t (live slot) else 0)
    by_case true e used = by_chain t u (stale slot) (live slot) (ap (λ (x : Slot). x.old_chain) e) used
    by_case false e used = ap (words_in u.used) (ap (λ (x : Slot). x.old_chain) e ∙ nothing_in (chain t (stale slot)) (λ r m. none r (slot, m)))

-- a reclaim

pub freed_live_words : (t u : Table) (slot : ℕ) → IsTable t → Frees t u → slot < slots_of t → words_of_class u (live slot) ≡ words_of_class t (live slot)
freed_live_words t u slot v f low =
    ap (words_in u.used) (ap (λ (x : Slot). x.live_chain) (f.slots slot low))
    ∙ sym (words_in-same t.used u.used (chain t (live slot)) (λ r has. sym (f.kept r (λ old. (let one = v.sound.one_list (live slot) (stale old.0) r (contains_from_has r (chain t (live slot)) has) old.1 in absurd (omega arith)))).0))

pub freed_old_words : (t u : Table) (slot : ℕ) → Frees t u → slot < slots_of t → words_of_class u (stale slot) ≡ 0
freed_old_words t u slot f low = ap (words_in u.used) (ap (λ (x : Slot). x.old_chain) (f.slots slot low))
