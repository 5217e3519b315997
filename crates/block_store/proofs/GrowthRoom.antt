-- A block that is to grow: its address, and the room that there is for it.
use Rattle.std.proofs.Common.{◌≡◌, ℕ, zero, suc, ◌+◌, ◌-◌, ◌*◌, ◌/◌, ◌%◌, ◌<◌, ◌≤◌, ◌⊎◌, inl, inr, refl, sym, ◌∙◌, ap, subst, arith, Bool, true, false, List, length, Some}
use Rattle.std.specs.Prelude.{Contains}
use Rattle.std.proofs.lemmas.Bool.{cases_lt, cases_eq}
use Rattle.store_word.specs.Words.{Parts}
use Rattle.store_word.specs.declared.word.Content.{Content}
use Rattle.area_space.specs.lisp_graph.declared.object.Value.{Value}
use Rattle.area_space.specs.lisp_graph.declared.object.Value.TheVariants as V
use Rattle.area_space.specs.lisp_graph.declared.object.Body.TheVariants.{Block}
use Rattle.area_space.specs.lisp_graph.Effect.{grown_length}
use Rattle.mem_port.specs.Store.{StoresNothing}
use Rattle.mem_port.specs.Store as Memory
use Rattle.area_space.specs.declared.classes.Class.{Class as TableClass}
use Rattle.area_space.specs.Table.{Table, IsLive, IsOld, chain, class_from, class_number, levels_of, live, quota_of, slot_of, stale, used_of}
use Rattle.area_space.specs.Accounts.{account_of}
use Rattle.area_space.specs.Room.{words_of_area}
use Rattle.area_space.specs.Places.{IsEnd}
use Rattle.area_space.specs.Sound.{IsTable}
use Rattle.transporter.specs.lisp_meaning.State.{in_use, object, rule_of}
use Rattle.transporter.specs.lisp_meaning.Charges.{account}
use Rattle.transporter.specs.lisp_meaning.Image.{Live, Region, region}
use Rattle.transporter.specs.lisp_meaning.Roles.{AsBlock, header_of, names_as, owner, value_of}
use Rattle.transporter.proofs.lisp_meaning.invariant.BlockGrowth.{grown_wide}
use Rattle.transporter.specs.lisp_ground.Image.{ground_image, no_rest, region_at}
use Rattle.transporter.specs.lisp_ground.GroundInvariant.{GroundInvariant}
use Rattle.transporter.specs.lisp_meaning.Interpretation.{Interpretation}
use Rattle.transporter.proofs.lisp_ground.sums.Accounts.{account_agrees, areas_agree, quota_agrees}
use Rattle.transporter.proofs.lisp_ground.words.FinalAddresses.{final_is_place, name_in_use}
use Rattle.transporter.proofs.lisp_ground.words.PlaceRoom.{new_room}
use Rattle.transporter.proofs.lisp_ground.regions.Regions.{region_is, region_live}
use Rattle.transporter.proofs.lisp_ground.regions.Slots.{slot_area, slot_level}
use Rattle.obj_layout.specs.Forwards.{word_at, forward_of}
use Rattle.area_space.specs.lisp_graph.Graph.{value_at}
use Rattle.transporter.specs.LiveWordsUnchanged.{IsLiveWord}
use Rattle.transporter.specs.Marking.{IsForward}
use Rattle.transporter.specs.Settling.{RefersToOld, reference_of}
use Rattle.block_store.specs.declared.header.Head.{Head as Place}
use Rattle.block_store.specs.Headers.{HasMeaning, IsHead, IsLiveIn, TellsArea}
use Rattle.block_store.specs.Growing.{CanGrow, GrowsWithin}
use Rattle.block_store.proofs.BlockReferences.{code_in, count_in, head_role, head_tells, ref_named, tells_length}
use Rattle.block_store.proofs.FieldReads.{is_block, ref_value}
use Rattle.block_store.proofs.LiveFields.{field_live, field_near, field_value, live_word, place_fresh}
use Rattle.transporter.proofs.PageMarks.{no-forward, plain-value}

-- a reference to a block that can grow has a value
pub grow_meaning : (m : Memory.Store) (t : Table) (of : Parts) (wanted : ℕ) → CanGrow m t of wanted → HasMeaning m t of.content
grow_meaning m t of wanted x = record { it = x.it; kept = x.kept; value = x.value; value_is = x.value_is }

-- Its address

module _ (m : Memory.Store) (t : Table) (content : Content) (head : Place) (is : IsHead m.words content head) (it : Interpretation) (on : GroundInvariant m t it) (n : ℕ) (value : value_of it.map.role content ≡ Some (V.Ref n)) where
  pub grown_named : names_as AsBlock (it.map.role is.reference) ≡ Some n
  grown_named = ref_named it.map content is.reference n is.is value

  pub grown_place : head.at ≡ it.map.at n
  grown_place = final_is_place m t it on AsBlock is.reference n grown_named head.at is.final

  pub grown_used : in_use it.store n
  grown_used = name_in_use m t it on AsBlock is.reference n grown_named

  pub grown_body : (code : ℕ) × (fields : List Value) × ((object it.store n).body ≡ Block code fields)
  grown_body = is_block (object it.store n).body head.code head.length (head_tells m t content head is it n on value)

  pub grown_header : (code : ℕ) (fields : List Value) → (object it.store n).body ≡ Block code fields → (head.code ≡ code) × (head.length ≡ length fields)
  grown_header code fields body =
      let e : Some (head.code, head.length) ≡ Some (code, length fields) = sym (head_tells m t content head is it n on value) ∙ ap header_of body in
      (ap code_in e, ap count_in e)

  -- none of its words is a forward
  pub words_plain : (j : ℕ) → j < head.length + 1 → IsForward (word_at m.words (head.at + j)) → ⊥
  words_plain zero low f = no-forward _ (ap forward_of is.header) (subst (λ (a : ℕ). IsForward (word_at m.words a)) (let e : head.at + 0 ≡ head.at = omega arith in e) f)
  words_plain (suc j) low f =
      let b = grown_body in
      let size = (grown_header b.0 b.1 b.2).1 in
      let there : head.at + suc j ≡ suc (it.map.at n) + j = (let e = grown_place in omega arith) in
      plain-value it.map.role (word_at m.words (suc (it.map.at n) + j)).content (value_at b.1 j) (field_value m t it on is.reference n grown_named b.0 b.1 b.2 j (omega arith)) (subst (λ (a : ℕ). IsForward (word_at m.words a)) there f)

  module _ (fresh : IsOld t (is.reference / 4096) → ⊥) where
    stays_fresh : IsOld t (it.map.at n / 4096) → ⊥
    stays_fresh = place_fresh m t it on is.reference n grown_named fresh

    -- its words are used ones of one live region
    pub grown_words : (j : ℕ) → j < head.length + 1 → IsLiveWord t (head.at + j) × ((head.at + j) / 4096 ≡ head.at / 4096)
    grown_words zero low = (
      subst (λ (a : ℕ). IsLiveWord t a) (let e = grown_place in let x : it.map.at n ≡ head.at + 0 = omega arith in x)
          (live_word m t it on (it.map.at n) n (ap owner (head_role m t it on is.reference n grown_named)) stays_fresh),
      ap (λ (a : ℕ). a / 4096) (let x : head.at + 0 ≡ head.at = omega arith in x),
    )
    grown_words (suc j) low =
        let b = grown_body in
        let size = (grown_header b.0 b.1 b.2).1 in
        let there : suc (it.map.at n) + j ≡ head.at + suc j = (let e = grown_place in omega arith) in (
          subst (λ (a : ℕ). IsLiveWord t a) there (field_live m t it on is.reference n grown_named b.0 b.1 b.2 j (omega arith) fresh),
          ap (λ (a : ℕ). a / 4096) (sym there) ∙ field_near m t it on is.reference n grown_named b.0 b.1 b.2 j (omega arith) ∙ ap (λ (a : ℕ). a / 4096) (sym grown_place),
        )

  -- the class in which it is has its area, and the level of its region
  module _ (class : TableClass) (there : IsLiveIn t head.at class) where
    region_there : region (ground_image m t) head.at ≡ region_at t (head.at / 4096)
    region_there = region_is m t no_rest (head.at / 4096) on.table

    region_here : region_at t (head.at / 4096) ≡ record { standing = Live; area = slot_of t class.area class.level / levels_of t; level = slot_of t class.area class.level % levels_of t; used = used_of t (head.at / 4096) }
    region_here = region_live t (head.at / 4096) (slot_of t class.area class.level) on.table there.region

    pub grown_area : (object it.store n).area ≡ class.area
    grown_area =
        sym (on.kept.classes_of.area n grown_used) ∙ ap (λ (a : ℕ). (region (ground_image m t) a).area) (sym grown_place) ∙ ap (λ (r : Region). r.area) (region_there ∙ region_here)
        ∙ slot_area t class.area class.level there.level_in

    pub grown_level : (region (ground_image m t) (it.map.at n)).level ≡ class.level
    grown_level =
        ap (λ (a : ℕ). (region (ground_image m t) a).level) (sym grown_place) ∙ ap (λ (r : Region). r.level) (region_there ∙ region_here) ∙ slot_level t class.area class.level there.level_in

-- A settled word that refers to a block refers to one in a live region

module _ (m : Memory.Store) (t : Table) (of : Parts) (x : HasMeaning m t of.content) (young : RefersToOld t of → ⊥) (head : Place) (is : IsHead m.words of.content head) where
  meant : (n : ℕ) × (x.value ≡ V.Ref n)
  meant = ref_value (names_as AsBlock (x.it.map.role is.reference)) x.value (ap (value_of x.it.map.role) (sym is.is) ∙ x.value_is)

  young_reference : IsOld t (is.reference / 4096) → ⊥
  young_reference old = young (is.reference, ap reference_of is.is, old)

  pub words_live : (j : ℕ) → j < head.length + 1 → IsLiveWord t (head.at + j) × ((head.at + j) / 4096 ≡ head.at / 4096)
  words_live = grown_words m t of.content head is x.it x.kept meant.0 (x.value_is ∙ ap (λ (v : Value). Some v) meant.1) young_reference

  pub live_head : IsLive t (head.at / 4096)
  live_head = subst (λ (r : ℕ). IsLive t r) (words_live 0 (omega arith)).1 (words_live 0 (omega arith)).0.live

-- in the area of its class
pub tells_area : (m : Memory.Store) (t : Table) (content : Content) (head : Place) → IsHead m.words content head → (class : TableClass) → IsLiveIn t head.at class → TellsArea m t content class.area
tells_area m t content head is class there it n on value = grown_area m t content head is it on n value class there

-- What there is room for

module _ (m : Memory.Store) (t : Table) (of : Parts) (wanted : ℕ) (x : CanGrow m t of wanted) (few : wanted ≤ 2047) (head : Place) (is : IsHead m.words of.content head) where
  name : (n : ℕ) × (x.value ≡ V.Ref n)
  name = ref_value (names_as AsBlock (x.it.map.role is.reference)) x.value (ap (value_of x.it.map.role) (sym is.is) ∙ x.value_is)

  refers : value_of x.it.map.role of.content ≡ Some (V.Ref name.0)
  refers = x.value_is ∙ ap (λ (v : Value). Some v) name.1

  block : (code : ℕ) × (fields : List Value) × ((object x.it.store name.0).body ≡ Block code fields)
  block = grown_body m t of.content head is x.it x.kept name.0 refers

  size : head.length ≡ length block.1
  size = (grown_header m t of.content head is x.it x.kept name.0 refers block.0 block.1 block.2).1

  pub fewer_fields : head.length < wanted
  fewer_fields = let low = x.fewer name.0 block.0 block.1 name.1 block.2 in let e = size in omega arith

  pub wide_more : head.length < grown_length head.length wanted
  wide_more = (grown_wide head.length wanted fewer_fields few).0

  pub plain_words : (j : ℕ) → j < head.length + 1 → IsForward (word_at m.words (head.at + j)) → ⊥
  plain_words = words_plain m t of.content head is x.it x.kept name.0 refers

  pub live_words : (j : ℕ) → j < head.length + 1 → IsLiveWord t (head.at + j) × ((head.at + j) / 4096 ≡ head.at / 4096)
  live_words = words_live m t of (grow_meaning m t of wanted x) x.young head is

  module _ (class : TableClass) (there : IsLiveIn t head.at class) where
    area_is : (object x.it.store name.0).area ≡ class.area
    area_is = grown_area m t of.content head is x.it x.kept name.0 refers class there

    pub area_low : class.area < length x.it.areas
    area_low = let a = areas_agree m t x.it x.kept in let b = there.area_in in omega arith

    pub wide_fits : account x.it.top x.it.store x.it.aim class.area + suc (grown_length head.length wanted) ≤ (rule_of x.it.areas class.area).quota
    wide_fits =
        let fits = x.quota name.0 block.0 block.1 name.1 block.2 in
        let by_size = subst (λ (c : ℕ). account x.it.top x.it.store x.it.aim (object x.it.store name.0).area + suc (grown_length c wanted) ≤ (rule_of x.it.areas (object x.it.store name.0).area).quota) (sym size) fits in
        subst (λ (a : ℕ). account x.it.top x.it.store x.it.aim a + suc (grown_length head.length wanted) ≤ (rule_of x.it.areas a).quota) area_is by_size

    pub room_for_wide : words_of_area t class.area + (grown_length head.length wanted + 1) ≤ 2 * quota_of t class.area
    room_for_wide =
        let room = new_room m t x.it x.kept class.area (suc (grown_length head.length wanted)) (suc (grown_length head.length wanted)) area_low (omega arith) wide_fits in
        omega arith

    -- by the table
    pub account_fits : account_of t class.area + suc (grown_length head.length wanted) ≤ quota_of t class.area
    account_fits =
        let a = account_agrees m t x.it x.kept class.area in
        let q = quota_agrees m t x.it x.kept class.area area_low in
        let fits = wide_fits in
        omega arith

    pub grows_within : GrowsWithin m t of.content wanted
    grows_within = record {
      count = head.length;
      area = class.area;
      length_is = tells_length m t of.content head is;
      area_is = tells_area m t of.content head is class there;
      area_in = there.area_in;
      fewer = fewer_fields;
      fits = account_fits;
    }

    -- and so for any objects
    pub fits_all : (it : Interpretation) → GroundInvariant m t it → account it.top it.store it.aim class.area + suc (grown_length head.length wanted) ≤ (rule_of it.areas class.area).quota
    fits_all it on =
        let a = account_agrees m t it on class.area in
        let low : class.area < length it.areas = (let b = areas_agree m t it on in let c = there.area_in in omega arith) in
        let q = quota_agrees m t it on class.area low in
        let fits = account_fits in
        omega arith

-- used words of a live region are apart from those at a used end
pub live_apart : (t : Table) (slot to words at count : ℕ) → IsEnd t slot to words → 1 ≤ count → ((j : ℕ) → j < count → IsLiveWord t (at + j) × ((at + j) / 4096 ≡ at / 4096)) → (at + count ≤ to) ⊎ (to + words ≤ at)
live_apart t slot to words at count end some each =
    let last = each (count - 1) (omega arith) in
    let used = last.0.used in
    let near = last.1 in
    let place : at + (count - 1) + 1 ≡ at + count = omega arith in
    let e = end.end in
    let f = end.fits in
    go last.0.used near (cases_eq (at / 4096) (to / 4096)) (cases_lt (at / 4096) (to / 4096))
  where
    go : (at + (count - 1)) % 4096 < used_of t ((at + (count - 1)) / 4096) → (at + (count - 1)) / 4096 ≡ at / 4096 → (at / 4096 ≡ to / 4096) ⊎ (at / 4096 ≡ to / 4096 → ⊥) → (at / 4096 < to / 4096) ⊎ (to / 4096 ≤ at / 4096) → (at + count ≤ to) ⊎ (to + words ≤ at)
    go used near (inl same) order =
        let u = ap (used_of t) (near ∙ same) in
        let e = end.end in
        inl (omega arith)
    go used near (inr ne) (inl less) = inl (omega arith)
    go used near (inr ne) (inr more) =
        let e = end.end in
        let f = end.fits in
        inr (omega arith)

-- The class of an address

pub class_there : (t : Table) (at : ℕ) (class : TableClass) → IsTable t → IsLive t (at / 4096) → Contains (chain t (class_number t class)) (at / 4096) → Contains (chain t (live (slot_of t class.area class.level))) (at / 4096)
class_there t at class v live_there holds = go class.stale refl
  where
    go : (b : Bool) → class.stale ≡ b → Contains (chain t (live (slot_of t class.area class.level))) (at / 4096)
    go false e = subst (λ (b : Bool). Contains (chain t (class_from b (slot_of t class.area class.level))) (at / 4096)) e holds
    go true e =
        let old = subst (λ (b : Bool). Contains (chain t (class_from b (slot_of t class.area class.level))) (at / 4096)) e holds in
        let both : live live_there.0 ≡ stale (slot_of t class.area class.level) = v.sound.one_list (live live_there.0) (stale (slot_of t class.area class.level)) (at / 4096) live_there.1 old in
        absurd (omega arith)
