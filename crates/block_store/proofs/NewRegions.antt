-- A region is opened if it is needed.
use Rattle.std.proofs.Common.{◌≡◌, ◌≢◌, ℕ, ◌+◌, ◌/◌, ◌<◌, inl, inr, sym, ◌∙◌, ap, subst, arith, List, [], length, slice_index_or, Option, Some, None}
use Rattle.std.specs.Prelude.{Contains}
use Rattle.std.proofs.lemmas.Bool.{cases_eq}
use Rattle.store_word.specs.declared.word.Content.{Content}
use Rattle.store_word.specs.declared.word.Content.TheVariants.{Struct as StructAt, Header}
use Rattle.area_space.proofs.index_lists.ListUpdates.{Contains-push_back}
use Rattle.area_space.specs.lisp_graph.Effect.{grown_length}
use Rattle.mem_port.specs.Store as Memory
use Rattle.area_space.specs.declared.classes.Class.{Class as TableClass}
use Rattle.area_space.specs.Table.{Table, IsUnclassed, areas_of, levels_of, chain, live, slot_of}
use Rattle.area_space.specs.Places.{opened}
use Rattle.area_space.specs.Sound.{IsTable}
use Rattle.area_space.proofs.NewRegions.{slot_below, chain_opened, chain_opened_other}
use Rattle.obj_layout.specs.Forwards.{word_at, Final}
use Rattle.transporter.specs.lisp_ground.Placing.{Opens}
use Rattle.transporter.specs.Relocations.{OpensIfFull}
use Rattle.transporter.proofs.lisp_ground.words.FinalAddresses.{one_final}
use Rattle.block_store.specs.declared.header.Head.{Head as Place}
use Rattle.block_store.specs.Headers.{IsHead, IsLiveIn}
use Rattle.block_store.specs.Opening.{OpensAsNeeded, OpensForGrown}

-- no other region enters a chain
still-free : (t : Table) (class r i : ℕ) → class < length t.chains → i ≢ r → IsUnclassed t i → IsUnclassed (opened t class r) i
still-free t class r i below ne free c m =
    elim (cases_eq c class) [
      | inl e ↦ free class (Contains-push_back i r (chain t class) (subst (λ (xs : List ℕ). Contains xs i) (ap (chain (opened t class r)) e ∙ chain_opened t class r below) m) ne)
      | inr other ↦ free c (subst (λ (xs : List ℕ). Contains xs i) (chain_opened_other t class r c other) m)
    ]

-- a place is found
pub place-needed : (m m1 : Memory.Store) (t t1 : Table) (area level words : ℕ) (region : Option ℕ) → IsTable t → area < areas_of t → level < levels_of t → Opens m t m1 t1 region area level
    → OpensIfFull t (slot_of t area level) words region → OpensAsNeeded t t1 (slot_of t area level) words
place-needed m m1 t t1 area level words None v area_in level_in opens needed r free taken = absurd (taken (subst (λ (u : Table). IsUnclassed u r) (sym opens.same) free))
place-needed m m1 t t1 area level words (Some q) v area_in level_in opens needed r free taken =
    elim (cases_eq r q) [
      | inl e ↦ subst (λ (x : ℕ). OpensIfFull t (slot_of t area level) words (Some x)) (sym e) needed
      | inr ne ↦ absurd (taken (subst (λ (u : Table). IsUnclassed u r) (sym opens.chain) (still-free t (live (slot_of t area level)) q r (let a = slot_below t area level area_in level_in in let b = v.chains_size in omega arith) ne free)))
    ]

-- what follows leaves the chains
pub needed-after : (t t1 t2 : Table) (slot words : ℕ) → t2.chains ≡ t1.chains → OpensAsNeeded t t1 slot words → OpensAsNeeded t t2 slot words
needed-after t t1 t2 slot words same x r free taken = x r free (λ f. taken (λ l m. f l (subst (λ (chains : List (List ℕ)). Contains (slice_index_or chains l []) r) same m)))

-- The class of a block that grows is the one that was found, and so is its length

module _ (m : Memory.Store) (t : Table) (content : Content) (head : Place) (is : IsHead m.words content head) (class : TableClass) (there : IsLiveIn t head.at class) (v : IsTable t) where
  same-place : (reference here : ℕ) → content ≡ StructAt reference → Final m.words reference here → head.at ≡ here
  same-place reference here refers final = one_final m.words reference head.at here (subst (λ (a : ℕ). Final m.words a head.at) (same is.reference reference (sym is.is ∙ refers)) is.final) final
    where
      same : (a b : ℕ) → StructAt a ≡ StructAt b → a ≡ b
      same a b e = cc

  same-slot : (here slot : ℕ) → head.at ≡ here → Contains (chain t (live slot)) (here / 4096) → slot_of t class.area class.level ≡ slot
  same-slot here slot at stands =
      let one = v.sound.one_list (live (slot_of t class.area class.level)) (live slot) (here / 4096) (subst (λ (a : ℕ). Contains (chain t (live (slot_of t class.area class.level))) (a / 4096)) at there.region) stands in
      omega arith

  same-length : (here code count : ℕ) → head.at ≡ here → (word_at m.words here).content ≡ Header code count → head.length ≡ count
  same-length here code count at header = same head.code head.length code count (sym is.header ∙ ap (λ (a : ℕ). (word_at m.words a).content) at ∙ header)
    where
      same : (a n b k : ℕ) → Header a n ≡ Header b k → n ≡ k
      same a n b k e = cc

  pub grown-needed : (t' : Table) (wanted : ℕ) → OpensAsNeeded t t' (slot_of t class.area class.level) (grown_length head.length wanted + 1) → OpensForGrown m t t' content wanted
  grown-needed t' wanted x reference here slot code count refers final header stands =
      let at = same-place reference here refers final in
      subst (λ (s : ℕ). OpensAsNeeded t t' s (grown_length count wanted + 1)) (same-slot here slot at stands)
      (subst (λ (n : ℕ). OpensAsNeeded t t' (slot_of t class.area class.level) (grown_length n wanted + 1)) (same-length here code count at header) x)
