-- A part of a cons is written.
use Rattle.std.proofs.Common.{◌≡◌, ◌≢◌, ℕ, suc, ◌+◌, ◌<◌, inl, inr, refl, sym, ◌∙◌, ap, subst, arith, List, length, slice_get, Some}
use Rattle.std.specs.Prelude.{OnErr, IsOk, Result, Ok, Err, slice_set}
use Rattle.store_word.specs.Words.{Parts}
use Rattle.store_word.specs.declared.word.Content.{Content}
use Rattle.store_word.specs.declared.word.Content.TheVariants.{HeaderForward}
use Rattle.store_word.specs.declared.word.CdrCode.{CdrCode}
use Rattle.store_word.specs.declared.word.CdrCode.TheVariants.{Normal}
use Rattle.mem_port.specs.Store.{Stores, StoresNothing, level_of_word}
use Rattle.mem_port.specs.Store as Memory
use Rattle.area_space.specs.Table.{Table}
use Rattle.transporter.specs.lisp_meaning.Classes.{classes}
use Rattle.transporter.specs.lisp_meaning.Roles.{AsCons, names_as, owner, value_of}
use Rattle.transporter.specs.lisp_meaning.Rewriting.{StandsThere}
use Rattle.transporter.proofs.lisp_meaning.roles.RunNames.{pair_there}
use Rattle.transporter.proofs.lisp_meaning.reading.ReadRoles.{used_where}
use Rattle.transporter.proofs.lisp_meaning.layout.ObjectWords.{head_fits, tail_fits}
use Rattle.obj_layout.specs.Forwards.{word_at, Final, IsFinal}
use Rattle.transporter.specs.lisp_ground.Image.{ground_image}
use Rattle.transporter.specs.lisp_ground.GroundInvariant.{GroundInvariant}
use Rattle.transporter.specs.lisp_meaning.Interpretation.{Interpretation}
use Rattle.transporter.proofs.lisp_ground.words.FinalAddresses.{stands_there}
use Rattle.transporter.proofs.lisp_ground.invariant.Stores.{car_stored_on, cdr_stored_on}
use Rattle.transporter.proofs.lisp_ground.invariant.WordStores.{kept_on_same, used_inside}
use Rattle.transporter.proofs.TransportSequences.{fetch_moves-read, moves-after_read, same-stores}
use Rattle.cdr_lists.proofs.ConsReferences.{same_place}
use Rattle.cdr_lists.proofs.NewWords.{pair_written}
use Rattle.cdr_lists.proofs.NewPlaces.{KeepsOn}
use Rattle.mem_port.proofs.Lookups.{get-set_other}
use Rattle.transporter.proofs.lisp_ground.words.WrittenWords.{reads_within, stored_there, stores_within, within_wider}
use Rattle.transporter.specs.Settling.{Settles}
use Rattle.transporter.specs.Marking.{IsForward, MarksFollow}
use Rattle.transporter.proofs.LiveObjects.{live-read, live-then}
use Rattle.transporter.proofs.PageMarks.{marks-but, plain-value}
use Rattle.cdr_lists.specs.Parts.{MarksCdr, RelaysCdr, RelaysCell, SettlesCellAtMost, SettlesWordAtMost, WritesCar, WritesCdr, WritesRelay}
use Rattle.cdr_lists.specs.Reading.{IsConsPlace}
use Rattle.cdr_lists.proofs.ConsAddresses.{CanSetAt, SetsCarAt, SetsCdrAt}
use Rattle.cdr_lists.specs.Words.{plain}
use Rattle.cdr_lists.proofs.ConsAddresses.{CanReadAt, KeepsConsAt}
use Rattle.cdr_lists.proofs.LiveParts.{final_fresh}
use Rattle.cdr_lists.proofs.PartReads.{later_after}
use Rattle.transporter.specs.lisp_ground.After.{old_on}
use Rattle.lisp_graph.specs.declared.object.Value.{Value}

-- reads and what a cell becomes mark no page of another word
pub marks_cdr : {m m' : Memory.Store} {t t' : Table} {content : Content} → MarksFollow m t m' t' → MarksCdr m t m' t' content
marks_cdr marks = record { pair = λ at there normal. marks-but (suc at) marks; cell = λ at there other. marks }

-- a fact about an error holds of a result, whether it is one or not
pub on_err : {A : Type 0} {E : Type 0} (r : Result A E) (P : Type 0) → P → OnErr r P
on_err (Ok x) P p = tt
on_err (Err e) P p = p

-- there is no error
pub no_err : {A : Type 0} {E : Type 0} (r : Result A E) (P : Type 0) → IsOk r → OnErr r P
no_err (Ok x) P ok = tt
no_err (Err e) P ok = absurd (cc)

-- what was inside still is, after reads
pub store_inside : {m n : Memory.Store} {a : ℕ} → StoresNothing m n → a < length m.words → a < length n.words
store_inside {m} {n} {a} reads low = subst (λ (ws : List Parts). a < length ws) (sym reads.words) low

-- what is read keeps the ground
pub reads_keep : (m n : Memory.Store) (t : Table) → StoresNothing m n → KeepsOn m t n t
reads_keep m n t reads it on = kept_on_same m n t it on reads

module _ (m : Memory.Store) (t : Table) (at : ℕ) (word : Parts) (can : CanSetAt m t at word) where
  -- the final address, after the memory was read
  module _ (n : Memory.Store) (reads : StoresNothing m n) (cons : ℕ) (final : Final m.words at cons) (last : IsFinal m.words cons) where
    stands_after : (it : Interpretation) (name : ℕ) (on : GroundInvariant m t it) → names_as AsCons (it.map.role at) ≡ Some name
        → StandsThere (ground_image n t) it.map AsCons cons name
    stands_after it name on named =
        stands_there n t it (reads_keep m n t reads it on) AsCons at name named cons
        (subst (λ (ws : List Parts). Final ws at cons) (sym reads.words) final) (subst (λ (ws : List Parts). IsFinal ws cons) (sym reads.words) last)

    -- the name is that of the final address
    pub named_there : (it : Interpretation) (name : ℕ) (on : GroundInvariant m t it) → names_as AsCons (it.map.role at) ≡ Some name → names_as AsCons (it.map.role cons) ≡ Some name
    named_there it name on named = (stands_after it name on named).named

    -- so there a part can be set, too
    pub can_read_there : (it : Interpretation) (registers : List Value) (name : ℕ) → CanReadAt m t it registers at name → CanReadAt n t it registers cons name
    can_read_there it registers name x = record { kept = reads_keep m n t reads it x.kept; named = named_there it name x.kept x.named; survives = x.survives }

    pub can_set_there : CanSetAt n t cons word
    can_set_there = record {
      it = can.it;
      registers = can.registers;
      name = can.name;
      can = can_read_there can.it can.registers can.name can.can;
      fresh = final_fresh m t can.it can.can.kept at can.name can.can.named can.fresh cons final;
      value = can.value;
      value_is = can.value_is;
      young = can.young;
    }

    pub sets_cdr_there : (m' : Memory.Store) (t' : Table) (content : Content) → SetsCdrAt n t m' t' cons content → SetsCdrAt m t m' t' at content
    sets_cdr_there m' t' content sets it registers name car cdr new x body value =
        let y = sets it registers name car cdr new (can_read_there it registers name x) body value in
        let same : old_on n t it.store it.aim it.map.at ≡ old_on m t it.store it.aim it.map.at = refl in
        record { map = y.map; kept = y.kept; refines = y.refines; work = (let w = y.work in omega arith) }

    -- a swap error there is one here
    pub keeps_cons_there : (m' : Memory.Store) (t' : Table) → KeepsConsAt n t m' t' cons → KeepsConsAt m t m' t' at
    keeps_cons_there m' t' keeps it registers name x =
        later_after m n m' t t' it reads (keeps it registers name (can_read_there it registers name x))

    -- the second word of a pair is in the memory
    pub second_inside : (word_at n.words cons).cdr ≡ Normal → cons + 1 < length n.words
    second_inside code =
        let on = reads_keep m n t reads can.it can.can.kept in
        let st = stands_after can.it can.name can.can.kept can.can.named in
        let pair = pair_there (word_at n.words) (classes (ground_image n t)) can.it.map can.it.store on.kept.roled cons can.name st.named st.here code in
        let head = head_fits (word_at n.words) (classes (ground_image n t)) can.it.map can.it.store on.kept.roled can.name cons pair in
        let inside = used_inside n t (suc cons) on.table on.ground (used_where (ground_image n t) can.it.map can.it.store on.kept.roled on.kept.covered (suc cons) can.name (ap owner head.tail)).0 in
        omega arith

    -- and isn't a forward
    pub second_plain : (word_at n.words cons).cdr ≡ Normal → IsForward (word_at n.words (cons + 1)) → ⊥
    second_plain code f =
        let on = reads_keep m n t reads can.it can.can.kept in
        let st = stands_after can.it can.name can.can.kept can.can.named in
        let pair = pair_there (word_at n.words) (classes (ground_image n t)) can.it.map can.it.store on.kept.roled cons can.name st.named st.here code in
        let tail = tail_fits (word_at n.words) (classes (ground_image n t)) can.it.map can.it.store on.kept.roled can.name cons pair in
        let next : cons + 1 ≡ suc cons = omega arith in
        plain-value can.it.map.role (word_at n.words (suc cons)).content tail.cdr.0 tail.cdr.2 (subst (λ (a : ℕ). IsForward (word_at n.words a)) next f)

    -- the car was stored, with the code of the word before it
    pub car_set : (m' : Memory.Store) (content : Content) (w : Parts) → w.cdr ≡ (word_at n.words cons).cdr → w.content ≡ content → Stores n m' cons w → SetsCarAt m t m' t at content
    car_set m' content w code is stores it registers name car cdr new x body value =
        let on = x.kept in
        let named = x.named in
        let same : old_on n t it.store it.aim it.map.at ≡ old_on m t it.store it.aim it.map.at = refl in
        let after = car_stored_on n m' t it cons name car cdr new (reads_keep m n t reads it on) (stands_after it name on named) body (record {
          stored = w;
          stores = stores;
          value_is = ap (value_of it.map.role) is ∙ value;
          code = code;
        }) in
        record { map = it.map; kept = after.kept; refines = λ kind a i e. e; work = (let w = after.old in omega arith) }

    -- the second word of a pair was
    pub cdr_set : (m' : Memory.Store) (content : Content) (w : Parts) → (word_at n.words cons).cdr ≡ Normal → w.cdr ≡ (word_at n.words (cons + 1)).cdr → w.content ≡ content → Stores n m' (cons + 1) w → SetsCdrAt m t m' t at content
    cdr_set m' content w normal code is stores it registers name car cdr new x body value =
        let on = x.kept in
        let named = x.named in
        let same : old_on n t it.store it.aim it.map.at ≡ old_on m t it.store it.aim it.map.at = refl in
        let next : cons + 1 ≡ suc cons = omega arith in
        let after = cdr_stored_on n m' t it cons name car cdr new (reads_keep m n t reads it on) (stands_after it name on named) normal body (record {
          stored = w;
          stores = subst (λ (a : ℕ). Stores n m' a w) next stores;
          value_is = ap (value_of it.map.role) is ∙ value;
          code = code ∙ ap (λ (a : ℕ). (word_at n.words a).cdr) next;
        }) in
        record { map = it.map; kept = after.kept; refines = λ kind a i e. e; work = (let w = after.old in omega arith) }

-- The word that was stored

stores_after : (m n m' : Memory.Store) (at : ℕ) (w : Parts) → StoresNothing m n → Stores n m' at w → Stores m m' at w
stores_after m n m' at w reads st = record {
  words = st.words ∙ ap (λ (ws : List Parts). slice_set ws at w) reads.words;
  levels = st.levels ∙ reads.levels;
  top = st.top ∙ reads.top;
  unmarked = λ page clean zero. st.unmarked page (reads.unmarked page clean) (λ e. ap (λ (ls : List ℕ). level_of_word ls w) reads.levels ∙ zero e);
}

module _ (m n m' : Memory.Store) (content : Content) (at : ℕ) (p : IsConsPlace m.words content at) (reads : StoresNothing m n) (w value : Parts) (code : CdrCode) (is : w ≡ record value { cdr = code }) where
  word_there : (a : ℕ) → (word_at m.words a).cdr ≡ code → w ≡ record value { cdr = (word_at m.words a).cdr }
  word_there a found = is ∙ ap (λ (c : CdrCode). record value { cdr = c }) (sym found)

  -- as the first word of a cons
  pub car_written : (word_at m.words at).cdr ≡ code → Stores n m' at w → WritesCar m m' content value
  car_written found stores to q =
      subst (λ (a : ℕ). Stores m m' a (record value { cdr = (word_at m.words a).cdr })) (same_place m.words content at to p q)
      (subst (λ (x : Parts). Stores m m' at x) (word_there at found) (stores_after m n m' at w reads stores))

  -- as the second word of a pair
  pub cdr_written : (word_at m.words (at + 1)).cdr ≡ code → Stores n m' (at + 1) w → WritesCdr m m' content value
  cdr_written found stores to q normal =
      let next : at + 1 ≡ suc to = (let e = same_place m.words content at to p q in omega arith) in
      subst (λ (a : ℕ). Stores m m' a (record value { cdr = (word_at m.words a).cdr })) next
      (subst (λ (x : Parts). Stores m m' (at + 1) x) (word_there (at + 1) found) (stores_after m n m' (at + 1) w reads stores))

-- no pair is in the place of a cell
pub no_pair_there : (m m' : Memory.Store) (content : Content) (at : ℕ) (value : Parts) → IsConsPlace m.words content at → (word_at m.words at).cdr ≢ Normal → WritesCdr m m' content value
no_pair_there m m' content at value p ne to q normal = absurd (ne (ap (λ (a : ℕ). (word_at m.words a).cdr) (same_place m.words content at to p q) ∙ normal))

-- nor a cell in that of a pair
pub no_cell_there : (m m' : Memory.Store) (t t' : Table) (content : Content) (at : ℕ) (value : Parts) → IsConsPlace m.words content at → (word_at m.words at).cdr ≡ Normal → RelaysCdr m t m' t' content value
no_cell_there m m' t t' content at value p normal to q ne = absurd (ne (ap (λ (a : ℕ). (word_at m.words a).cdr) (same_place m.words content to at q p) ∙ normal))

-- a cell was relocated after some reads
pub relaid_there : (m n m' : Memory.Store) (t t' : Table) (content : Content) (at : ℕ) (value : Parts) → IsConsPlace m.words content at → StoresNothing m n → RelaysCell n t m' t' at value → RelaysCdr m t m' t' content value
relaid_there m n m' t t' content at value p reads x to q ne = subst (λ (a : ℕ). RelaysCell m t m' t' a value) (same_place m.words content at to p q) (record {
  between = x.between;
  table = x.table;
  moves = fetch_moves-read reads x.moves same-stores;
  few = moves-after_read reads x.few;
  grows = x.grows;
  settled = subst (λ (w : Parts). Settles t x.table w (word_at x.between.words at)) (ap (λ (ws : List Parts). word_at ws at) reads.words) x.settled;
  lays = x.lays;
  others = record { table = x.others.table; words = λ a apart l. x.others.words a apart l ∙ ap (λ (ws : List Parts). word_at ws a) reads.words };
})

-- a swap error occurred after some reads
pub cell_at_most : (m n m' : Memory.Store) (t t' : Table) (content : Content) (at : ℕ) → IsConsPlace m.words content at → (word_at m.words at).cdr ≢ Normal → StoresNothing m n → SettlesWordAtMost n t m' t' at → SettlesCellAtMost m t m' t' content
cell_at_most m n m' t t' content at p ne reads (inl live) = inl (live-then (live-read reads) live)
cell_at_most m n m' t t' content at p ne reads (inr x) = inr (record {
  at = at;
  place = p;
  cell = ne;
  settled = record {
    settled = subst (λ (w : Parts). Settles t t' w (word_at m'.words at)) (ap (λ (ws : List Parts). word_at ws at) reads.words) x.settled;
    others = record { table = x.others.table; words = λ a apart l. x.others.words a apart l ∙ ap (λ (ws : List Parts). word_at ws a) reads.words };
  };
})

-- the words of a pair and a forward to it were stored, one after another
pub relay_written : (m0 m1 m2 m3 m4 : Memory.Store) (cell at : ℕ) (first second w : Parts) → StoresNothing m0 m1 → Stores m1 m2 at first → Stores m2 m3 (at + 1) second → Stores m3 m4 cell w
    → w ≡ plain (HeaderForward at) → at + 1 < length m0.words → cell < length m0.words → WritesRelay m0 m4 cell at first second
relay_written m0 m1 m2 m3 m4 cell at first second w reads one two three is pair_low cell_low =
    let size1 = ap (λ (ws : List Parts). length ws) reads.words in
    let a = reads_within m0 m1 at 2 reads in
    let b = within_wider m1 m2 at 1 at 2 (stores_within m1 m2 at first one) (omega arith) (omega arith) in
    let c = within_wider m2 m3 (at + 1) 1 at 2 (stores_within m2 m3 (at + 1) second two) (omega arith) (omega arith) in
    let size2 = b.size in
    let size3 = c.size in
    record {
      mid = m3;
      pair = pair_written reads one two pair_low;
      first_at = ap (λ (ws : List Parts). slice_get ws at) two.words ∙ get-set_other m2.words (at + 1) at second (λ e. omega arith) ∙ stored_there m1 m2 at first one (omega arith);
      second_at = stored_there m2 m3 (at + 1) second two (omega arith);
      rest = subst (λ (p : Parts). Stores m3 m4 cell p) is three;
      forward_at = stored_there m3 m4 cell w three (omega arith) ∙ ap (λ (p : Parts). Some p) is;
    }

-- no pair is there, so each fact about one holds
pub no_pair_else : {A : Type 0} (m : Memory.Store) (content : Content) (at : ℕ) → IsConsPlace m.words content at → (word_at m.words at).cdr ≢ Normal → (to : ℕ) → IsConsPlace m.words content to → (word_at m.words to).cdr ≡ Normal → A
no_pair_else m content at p ne to q normal = absurd (ne (ap (λ (a : ℕ). (word_at m.words a).cdr) (same_place m.words content at to p q) ∙ normal))
