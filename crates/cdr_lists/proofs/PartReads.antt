-- What is read of a cons is settled and written back.
use Rattle.std.proofs.Common.{◌≡◌, ℕ, suc, ◌/◌, ◌<◌, ◌⊎◌, inl, inr, refl, sym, ◌∙◌, ap, subst, arith, List, length, Option, Some}
use Rattle.std.specs.Prelude.{IfSome}
use Rattle.store_word.specs.Words.{Parts}
use Rattle.store_word.specs.declared.word.CdrCode.{CdrCode}
use Rattle.store_word.specs.declared.word.CdrCode.TheVariants.{Normal, Nil as CdrNil}
use Rattle.store_word.specs.declared.word.Content.{Content}
use Rattle.store_word.specs.declared.word.Content.TheVariants.{List as ListAt}
use Rattle.lisp_graph.specs.declared.object.Value.{Value}
use Rattle.lisp_graph.specs.declared.object.Body.{Body}
use Rattle.lisp_graph.specs.declared.object.Body.TheVariants.{Cons}
use Rattle.lisp_graph.specs.Graph.{is_ref}
use Rattle.mem_port.specs.Store.{StoresNothing}
use Rattle.mem_port.specs.Store as Memory
use Rattle.area_space.specs.Table.{Table, IsOld}
use Rattle.obj_layout.specs.Forwards.{word_at, Final, IsFinal}
use Rattle.transporter.specs.lisp_meaning.State.{object}
use Rattle.transporter.specs.lisp_meaning.Sound.{is_kept}
use Rattle.transporter.specs.lisp_meaning.Roles.{AsCons, value_of}
use Rattle.transporter.specs.lisp_meaning.Interpretation.{Interpretation}
use Rattle.transporter.proofs.lisp_meaning.closure.ClosedSets.{car_inside, cdr_inside, is_ref-same}
use Rattle.transporter.specs.lisp_ground.After.{old_on}
use Rattle.transporter.proofs.lisp_ground.words.FinalAddresses.{final_is_place, name_in_use}
use Rattle.transporter.proofs.lisp_ground.invariant.WordStores.{kept_on_same}
use Rattle.transporter.specs.LiveWordsUnchanged.{IsLiveWord, LiveWordsUnchangedExcept}
use Rattle.transporter.specs.Settling.{CanSettle, RefersToOld, IsKeptValue, IsSettleable, Settles, readdressed, reference_of, SettlesAlways, RemainsRepresented}
use Rattle.transporter.specs.Transports.{RepresentedByLaterMap}
use Rattle.transporter.specs.Moving.{FetchMoves, stays as stays_put}
use Rattle.transporter.proofs.LiveObjects.{live-read}
use Rattle.transporter.proofs.FetchedWords.{same-but, settles-read}
use Rattle.transporter.proofs.TransportSequences.{fetch_moves-of, same-stores}
use Rattle.transporter.proofs.SettledWords.{settles-same}
use Rattle.transporter.specs.lisp_ground.Leading.{IsConsIn, cdr_by, cdr_in}
use Rattle.transporter.proofs.lisp_ground.words.References.{references_lead}
use Rattle.transporter.specs.Settled.{SettlesAt}
use Rattle.cdr_lists.proofs.ConsAddresses.{CanReadAt, IsReadableAt, KeepsConsAt, ReadsCarAt, ReadsCdrAt}
use Rattle.cdr_lists.proofs.LiveParts.{first_live, second_live, behind_fresh}

same_car : (body : Body) (a d x y : Value) → body ≡ Cons a d → body ≡ Cons x y → a ≡ x
same_car body a d x y e f = let z = sym e ∙ f in cc

same_cdr : (body : Body) (a d x y : Value) → body ≡ Cons a d → body ≡ Cons x y → d ≡ y
same_cdr body a d x y e f = let z = sym e ∙ f in cc

-- Reads precede

pub can_read_after : (m m1 : Memory.Store) (t : Table) (it : Interpretation) (registers : List Value) (at n : ℕ) → CanReadAt m t it registers at n → StoresNothing m m1 → CanReadAt m1 t it registers at n
can_read_after m m1 t it registers at n can stays = record { kept = kept_on_same m m1 t it can.kept stays; named = can.named; survives = can.survives }

pub later_after : (m m1 m2 : Memory.Store) (t t2 : Table) (it : Interpretation) → StoresNothing m m1 → RepresentedByLaterMap m1 t m2 t2 it → RepresentedByLaterMap m t m2 t2 it
later_after m m1 m2 t t2 it stays x =
    let same : old_on m1 t it.store it.aim it.map.at ≡ old_on m t it.store it.aim it.map.at = refl in
    record { map = x.map; kept = x.kept; refines = x.refines; work = (let w = x.work in omega arith) }

module _ (m : Memory.Store) (t : Table) (it : Interpretation) (registers : List Value) (at n : ℕ) (can : CanReadAt m t it registers at n) where
  -- the cons that the address means
  pub cons_here : IsConsIn m.words it.map it.store n
  cons_here =
      let l = references_lead.names m t it can.kept AsCons at n can.named in
      references_lead.conses m t it can.kept n l.used l.kind_is

  below : n < length it.store.objects
  below = can.kept.kept.names n (name_in_use m t it can.kept AsCons at n can.named)

  module _ (to : ℕ) (final : Final m.words at to) (car cdr : Value) (body : (object it.store n).body ≡ Cons car cdr) where
    place : it.map.at n ≡ to
    place = sym (final_is_place m t it can.kept AsCons at n can.named to final)

    -- the values of its parts
    pub car_value : value_of it.map.role (word_at m.words to).content ≡ Some car
    car_value =
        let x = cons_here in
        ap (λ (a : ℕ). value_of it.map.role (word_at m.words a).content) (sym place) ∙ x.car_value ∙ ap Some (same_car (object it.store n).body x.car x.cdr car cdr x.body body)

    pub cdr_value : value_of it.map.role (cdr_in m.words to) ≡ Some cdr
    cdr_value =
        let x = cons_here in
        ap (λ (a : ℕ). value_of it.map.role (cdr_in m.words a)) (sym place) ∙ x.cdr_value ∙ ap Some (same_cdr (object it.store n).body x.car x.cdr car cdr x.body body)

    pub second_value : (word_at m.words to).cdr ≡ Normal → value_of it.map.role (word_at m.words (suc to)).content ≡ Some cdr
    second_value code = ap (λ (c : CdrCode). value_of it.map.role (cdr_by c to (word_at m.words (suc to)).content)) (sym code) ∙ cdr_value

    -- which a collection keeps
    car_kept : (region : ℕ) → IsOld t region → IsKeptValue t registers it.store it.aim car
    car_kept region old =
        let x = can.survives region old in
        record {
          running = x.running;
          reaches = x.reaches;
          name = λ i e. car_inside (record { registers = registers; objects = it.store.objects }) (is_kept it.store it.aim) x.reaches.closed n below (x.name n refl) car cdr body i (ap (is_ref i) e ∙ is_ref-same i);
        }

    pub cdr_kept : (region : ℕ) → IsOld t region → IsKeptValue t registers it.store it.aim cdr
    cdr_kept region old =
        let x = can.survives region old in
        record {
          running = x.running;
          reaches = x.reaches;
          name = λ i e. cdr_inside (record { registers = registers; objects = it.store.objects }) (is_kept it.store it.aim) x.reaches.closed n below (x.name n refl) car cdr body i (ap (is_ref i) e ∙ is_ref-same i);
        }

    -- so the words can be settled
    pub car_settles : CanSettle m t it registers (word_at m.words to) car
    car_settles = record { kept = can.kept; value = λ a ref. car_value; survives = λ old. car_kept (old.0 / 4096) old.2 }

    pub cdr_settles : (word_at m.words to).cdr ≡ Normal → CanSettle m t it registers (word_at m.words (suc to)) cdr
    cdr_settles code = record { kept = can.kept; value = λ a ref. second_value code; survives = λ old. cdr_kept (old.0 / 4096) old.2 }

-- Before the words are settled

module _ (m m1 : Memory.Store) (t : Table) (at : ℕ) (x : IsReadableAt m t at) (stays : StoresNothing m m1) (to : ℕ) (final : Final m.words at to) (last : IsFinal m.words to) where
  after : CanReadAt m1 t x.it x.registers at x.name
  after = can_read_after m m1 t x.it x.registers at x.name x.can stays

  final_after : Final m1.words at to
  final_after = subst (λ (ws : List Parts). Final ws at to) (sym stays.words) final

  last_after : IsFinal m1.words to
  last_after = subst (λ (ws : List Parts). IsFinal ws to) (sym stays.words) last

  pub car_live : IsLiveWord t to
  car_live = first_live m1 t x.it after.kept at x.name after.named x.fresh to final_after

  pub car_settleable : IsSettleable m1 t (word_at m1.words to)
  car_settleable =
      let c = cons_here m1 t x.it x.registers at x.name after in
      record {
        it = x.it;
        registers = x.registers;
        value = c.car;
        can = car_settles m1 t x.it x.registers at x.name after to final_after c.car c.cdr c.body;
      }

  module _ (code : (word_at m1.words to).cdr ≡ Normal) (next : ℕ) (is : next ≡ suc to) where
    pub cdr_live : IsLiveWord t next
    cdr_live = subst (λ (a : ℕ). IsLiveWord t a) (sym is) (second_live m1 t x.it after.kept at x.name after.named x.fresh to final_after last_after code)

    pub cdr_settleable : IsSettleable m1 t (word_at m1.words next)
    cdr_settleable =
        let c = cons_here m1 t x.it x.registers at x.name after in
        subst (λ (a : ℕ). IsSettleable m1 t (word_at m1.words a)) (sym is) (record {
          it = x.it;
          registers = x.registers;
          value = c.cdr;
          can = cdr_settles m1 t x.it x.registers at x.name after to final_after c.car c.cdr c.body code;
        })

-- After

pub reads_cdr : (m m1 : Memory.Store) (t : Table) (at to : ℕ) (word : Parts) → StoresNothing m m1 → Final m.words at to → word.content ≡ cdr_in m.words to → ReadsCdrAt m t m1 t at word
reads_cdr m m1 t at to word stays final is it registers n car cdr can body = record {
  later = record { map = it.map; kept = kept_on_same m m1 t it can.kept stays; refines = λ kind a i e. e; work = (let same : old_on m1 t it.store it.aim it.map.at ≡ old_on m t it.store it.aim it.map.at = refl in omega arith) };
  value_is = ap (value_of it.map.role) is ∙ cdr_value m t it registers at n can to final car cdr body;
}

module _ (m m1 m2 : Memory.Store) (t t2 : Table) (at to : ℕ) (stays : StoresNothing m m1) (final : Final m.words at to) where
  final_read : Final m1.words at to
  final_read = subst (λ (ws : List Parts). Final ws at to) (sym stays.words) final

  can_read : (it : Interpretation) (registers : List Value) (n : ℕ) → CanReadAt m t it registers at n → CanReadAt m1 t it registers at n
  can_read it registers n can = can_read_after m m1 t it registers at n can stays

  -- the car was settled
  pub car_fetched : (new word : Parts)
      → SettlesAlways m1 t m2 t2 (word_at m1.words to) new
      → word.content ≡ new.content → ReadsCarAt m t m2 t2 at word
  car_fetched new word settles is it registers n car cdr can body =
      let can1 = can_read it registers n can in
      let x = settles it registers car (car_settles m1 t it registers at n can1 to final_read car cdr body) in
      let y = settles-read m m1 m2 t t2 it (word_at m1.words to) new stays x in
      record {
        later = y.later;
        value_is = ap (value_of y.later.map.role) is ∙ y.value car (car_value m1 t it registers at n can1 to final_read car cdr body);
      }

  -- or a swap error occurred
  pub car_faulted : RemainsRepresented m1 t m2 t2 (word_at m1.words to) → KeepsConsAt m t m2 t2 at
  car_faulted later it registers n can =
      let can1 = can_read it registers n can in
      let c = cons_here m1 t it registers at n can1 in
      later_after m m1 m2 t t2 it stays (later it registers c.car (car_settles m1 t it registers at n can1 to final_read c.car c.cdr c.body))

  module _ (code : (word_at m1.words to).cdr ≡ Normal) (next : ℕ) (place : next ≡ suc to) where
    settles_next : (it : Interpretation) (registers : List Value) (n : ℕ) (can : CanReadAt m t it registers at n) (car cdr : Value) → (object it.store n).body ≡ Cons car cdr
        → CanSettle m1 t it registers (word_at m1.words next) cdr
    settles_next it registers n can car cdr body =
        subst (λ (a : ℕ). CanSettle m1 t it registers (word_at m1.words a) cdr) (sym place)
        (cdr_settles m1 t it registers at n (can_read it registers n can) to final_read car cdr body code)

    -- the second word of a pair was settled
    pub cdr_fetched : (new word : Parts)
        → SettlesAlways m1 t m2 t2 (word_at m1.words next) new
        → word.content ≡ new.content → ReadsCdrAt m t m2 t2 at word
    cdr_fetched new word settles is it registers n car cdr can body =
        let x = settles it registers cdr (settles_next it registers n can car cdr body) in
        let y = settles-read m m1 m2 t t2 it (word_at m1.words next) new stays x in
        record {
          later = y.later;
          value_is = ap (value_of y.later.map.role) is
              ∙ y.value cdr (ap (λ (a : ℕ). value_of it.map.role (word_at m1.words a).content) place ∙ second_value m1 t it registers at n (can_read it registers n can) to final_read car cdr body code);
        }

    pub cdr_faulted : RemainsRepresented m1 t m2 t2 (word_at m1.words next) → KeepsConsAt m t m2 t2 at
    cdr_faulted later it registers n can =
        let c = cons_here m1 t it registers at n (can_read it registers n can) in
        later_after m m1 m2 t t2 it stays (later it registers c.cdr (settles_next it registers n can c.car c.cdr c.body))

-- the word that was settled has its old cdr code
pub settled_code : {t t' : Table} {old new : Parts} → Settles t t' old new → new.cdr ≡ old.cdr
settled_code {t} {t'} {old} {new} x = go x.is
  where
    go : (new ≡ old) ⊎ ((to : ℕ) × RefersToOld t old × (new ≡ readdressed old to)) → new.cdr ≡ old.cdr
    go (inl e) = ap (λ (w : Parts). w.cdr) e
    go (inr e) = ap (λ (w : Parts). w.cdr) e.2

pub settled_at : (m m1 m2 : Memory.Store) (t t2 : Table) (a b : ℕ) (new : Parts) (content : Content) → StoresNothing m m1 → Settles t t2 (word_at m1.words a) new → word_at m2.words a ≡ new → LiveWordsUnchangedExcept m1 t m2 t2 a → content ≡ new.content → b ≡ a
    → SettlesAt m t m2 t2 b content
settled_at m m1 m2 t t2 a b new content stays settles written others is place = subst (λ (x : ℕ). SettlesAt m t m2 t2 x content) (sym place) (record {
  code = ap (λ (w : Parts). w.cdr) written ∙ settled_code settles ∙ ap (λ (ws : List Parts). (word_at ws a).cdr) stays.words;
  settled = ap (λ (w : Parts). w.content) written ∙ sym is;
  others = record { table = others.table; words = λ i ne w. others.words i ne w ∙ ap (λ (ws : List Parts). word_at ws i) stays.words };
})

-- If the car was read on the way, and has no old address

pub first_read : (words : List Parts) (at : ℕ) (o : Option Parts) (first : Parts) → IfSome o (λ word. word ≡ word_at words at) → o ≡ Some first → first ≡ word_at words at
first_read words at o first is some = (let P : Option Parts → Type 0 = λ o. IfSome o (λ word. word ≡ word_at words at) in subst P some is)

module _ (m m1 : Memory.Store) (t : Table) (to : ℕ) (first : Parts) (stays : StoresNothing m m1) (is : first ≡ word_at m.words to) where
  first_after : first ≡ word_at m1.words to
  first_after = is ∙ ap (λ (ws : List Parts). word_at ws to) (sym stays.words)

  -- it can be settled
  pub first_settleable : (at : ℕ) → IsReadableAt m t at → Final m.words at to → IsFinal m.words to → IsSettleable m1 t first
  first_settleable at x final last = subst (λ (w : Parts). IsSettleable m1 t w) (sym first_after) (car_settleable m m1 t at x stays to final last)

  -- so it is returned unchanged
  pub first_answered : (at : ℕ) (word : Parts) → Final m.words at to → word.content ≡ first.content → ReadsCarAt m t m1 t at word
  first_answered at word final same =
      car_fetched m m1 m1 t t at to stays final (word_at m1.words to) word (λ it registers v can. settles-same m1 t it (word_at m1.words to) can.kept)
      (same ∙ ap (λ (w : Parts). w.content) first_after)

  module _ (young : RefersToOld t first → ⊥) where
    -- nothing is written back
    pub first_settled : (b : ℕ) (content : Content) → content ≡ first.content → b ≡ to → SettlesAt m t m1 t b content
    first_settled b content same there =
        settled_at m m1 m1 t t to b first content stays (record { is = inl first_after; fresh = young }) (sym first_after) (same-but to (live-read same-stores)) same there

    -- and nothing moves
    pub first_unmoved : (b : ℕ) → b ≡ to → FetchMoves m t m1 t b
    first_unmoved b there =
        subst (λ (a : ℕ). FetchMoves m t m1 t a) (sym there) (fetch_moves-of stays (sym is) (stays_put young same-stores refl refl) (inl (refl, same-stores)) (sym first_after))

-- the list that follows a cell has no old address
pub list_fresh : (m m1 : Memory.Store) (t : Table) (at : ℕ) (x : IsReadableAt m t at) (stays : StoresNothing m m1) (to : ℕ) (final : Final m.words at to) (last : IsFinal m.words to)
    → ((word_at m1.words to).cdr ≡ CdrNil → ⊥) → ((word_at m1.words to).cdr ≡ Normal → ⊥) → (word : Parts) (next : ℕ) → next ≡ suc to → word.content ≡ ListAt next → RefersToOld t word → ⊥
list_fresh m m1 t at x stays to final last no_nil no_normal word next place is old =
    let on = kept_on_same m m1 t x.it x.can.kept stays in
    let final1 = subst (λ (ws : List Parts). Final ws at to) (sym stays.words) final in
    let last1 = subst (λ (ws : List Parts). IsFinal ws to) (sym stays.words) last in
    let there : next ≡ old.0 = (let z = sym (ap reference_of is) ∙ old.1 in cc) in
    behind_fresh m1 t x.it on at x.name x.can.named x.fresh to final1 last1 no_nil no_normal (subst (λ (a : ℕ). IsOld t (a / 4096)) (sym there ∙ place) old.2)
