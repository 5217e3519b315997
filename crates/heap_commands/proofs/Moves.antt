-- What a command moves: registers are settled, and then a part is read or written.
use Rattle.std.proofs.Common.{◌≡◌, ◌≢◌, ℕ, ◌+◌, ◌<◌, ◌≤◌, inl, inr, sym, subst, List, length, get_or, arith}
use Rattle.std.proofs.lemmas.List.{get_or_read}
use Rattle.store_word.specs.Words.{Parts, null_word, tag_of}
use Rattle.store_word.specs.declared.word.CdrCode.TheVariants.{Normal}
use Rattle.store_word.specs.declared.word.Tag.TheVariants.{List as ListTag}
use Rattle.mem_port.specs.Store.{Store, StoresNothing}
use Rattle.area_space.specs.Table.{Table}
use Rattle.block_store.specs.obj_layout.Forwards.{word_at}
use Rattle.block_store.specs.transporter.Moving.{MovesAtMost}
use Rattle.block_store.proofs.transporter.TransportSequences.{moves-more, moves-then, read-writes, writes-moves}
use Rattle.cdr_lists.specs.Parts.{RelaysCdr}
use Rattle.cdr_lists.specs.Reading.{IsConsPlace}
use Rattle.block_store.specs.transporter.Settling.{RefersToOld}
use Rattle.heap_state.specs.Consistent.{RepresentsState}
use Rattle.heap_state.specs.Settled.{IsSettled}
use Rattle.heap_commands.specs.Moves.{MovesOrLays}
use Rattle.heap_commands.proofs.StoreMarks.{cons_at, normal_cases, place}

-- nothing was placed after it
pub moves_still : {m m1 m2 : Store} {t t1 t2 : Table} {n : ℕ} → MovesAtMost m t m1 t1 n → MovesAtMost m1 t1 m2 t2 0 → MovesAtMost m t m2 t2 n
moves_still {m} {m1} {m2} {t} {t1} {t2} {n} x y = moves-more (let e : n + 0 ≤ n = omega arith in e) (moves-then x y)

-- nothing was stored after it
pub moves_read : {m m1 m2 : Store} {t t1 t2 : Table} {n : ℕ} → MovesAtMost m t m1 t1 n → StoresNothing m1 m2 → t2 ≡ t1 → MovesAtMost m t m2 t2 n
moves_read {m} {m1} {m2} {t} {t1} {t2} {n} x stays same = subst (λ (u : Table). MovesAtMost m t m2 u n) (sym same) (moves_still x (writes-moves (read-writes t1 stays)))

-- the word of a settled register has no old address
pub settled_word : (t : Table) (registers : List Parts) (target : ℕ) (of : Parts) → target < length registers → of ≡ get_or registers target of → IsSettled t registers target → RefersToOld t of → ⊥
settled_word t registers target of target_in read settled = subst (λ (w : Parts). RefersToOld t w → ⊥) (sym (get_or_read registers target of target_in read null_word)) settled

-- a cdr was written
module _ (m m1 m2 : Store) (t t1 t2 : Table) (registers : List Parts) (target from : ℕ) (target_in : target < length registers) (from_in : from < length registers) (of cdr : Parts) (read : of ≡ get_or registers target of) (cdr_read : cdr ≡ get_or registers from cdr) (x : RepresentsState m1 t1 registers) (list : tag_of of.content ≢ ListTag → ⊥) where
  there : MovesAtMost m t m1 t1 2 → ((at : ℕ) → IsConsPlace m1.words of.content at → (word_at m1.words at).cdr ≡ Normal → MovesAtMost m1 t1 m2 t2 0) → RelaysCdr m1 t1 m2 t2 of.content cdr → MovesOrLays m t m2 t2 of cdr
  there before stored relaid =
      let at = cons_at m1 m2 t1 t2 registers target target_in of read x list in
      let here = place m1 m2 t1 t2 registers target target_in of read x list in
      elim (normal_cases (word_at m1.words at).cdr) [
        | inl e ↦ inl (moves-more (omega arith) (moves_still before (stored at here e)))
        | inr ne ↦ (let y = relaid at here ne in inr (record { ready = m1; table = t1; settled = before; cell = at; place = here; no_pair = ne; between = y.between; room = y.table; car = y.few; lays = y.lays }))
      ]

  pub cdr_moves : MovesAtMost m t m1 t1 2 → ((at : ℕ) → IsConsPlace m1.words of.content at → (word_at m1.words at).cdr ≡ Normal → MovesAtMost m1 t1 m2 t2 0) → RelaysCdr m1 t1 m2 t2 of.content cdr
      → MovesOrLays m t m2 t2 (get_or registers target null_word) (get_or registers from null_word)
  cdr_moves before stored relaid =
      subst (λ (w : Parts). MovesOrLays m t m2 t2 w (get_or registers from null_word)) (get_or_read registers target of target_in read null_word)
      (subst (λ (w : Parts). MovesOrLays m t m2 t2 of w) (get_or_read registers from cdr from_in cdr_read null_word) (there before stored relaid))
