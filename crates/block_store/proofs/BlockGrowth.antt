-- A block is placed again, written and committed, and its husk is recorded.
use Rattle.std.proofs.Common.{◌≡◌, ℕ, zero, suc, ◌+◌, ◌-◌, ◌*◌, ◌/◌, ◌<◌, ◌≤◌, ◌^◌, ◌⊎◌, inl, inr, refl, sym, ◌∙◌, ap, subst, arith, List, length, slice_get, slice_index, slice_set, Option, Some, None}
use Rattle.std.specs.Prelude.{Contains}
use Rattle.std.proofs.lemmas.Bool.{cases_lt, lt-ltb, le-ltb}
use Rattle.std.proofs.lemmas.List.{get_or-set_same}
use Rattle.std.proofs.lemmas.Option.{slice_get-get_or}
use Rattle.store_word.specs.Words.{Parts, null_word}
use Rattle.store_word.specs.declared.word.CdrCode.TheVariants.{Next}
use Rattle.store_word.specs.declared.word.Content.{Content}
use Rattle.store_word.specs.declared.word.Content.TheVariants.{Null, Struct as StructAt, Nil as NilWord, Header, HeaderForward}
use Rattle.area_space.specs.lisp_graph.declared.object.Value.{Value}
use Rattle.area_space.specs.lisp_graph.declared.object.Body.TheVariants.{Block}
use Rattle.area_space.specs.lisp_graph.Effect.{grown_block, grown_length}
use Rattle.mem_port.specs.Store.{StoresNothing, level_of_word}
use Rattle.mem_port.specs.Store as Memory
use Rattle.area_space.specs.declared.classes.Class.{Class as TableClass}
use Rattle.area_space.specs.declared.classes.Origin.TheVariants.{New}
use Rattle.area_space.specs.Table.{Table, areas_of, chain, levels_of, live, page_list, slot_of}
use Rattle.area_space.specs.PageList.{Adds}
use Rattle.area_space.specs.Places.{IsEnd}
use Rattle.area_space.specs.Charges.{AllowsOrigin, committed, husked}
use Rattle.area_space.specs.Sound.{IsTable}
use Rattle.obj_layout.specs.Forwards.{word_at, Final, IsFinal}
use Rattle.transporter.specs.lisp_meaning.State.{object, rule_of}
use Rattle.transporter.specs.lisp_meaning.Changes.{with_grown}
use Rattle.transporter.specs.lisp_meaning.Charges.{account}
use Rattle.transporter.specs.lisp_meaning.Roles.{AsBlock, names_as}
use Rattle.transporter.specs.lisp_meaning.Rewriting.{StandsThere}
use Rattle.transporter.specs.lisp_ground.Image.{ground_image}
use Rattle.transporter.specs.lisp_ground.GroundInvariant.{GroundInvariant, SameForm}
use Rattle.transporter.specs.lisp_meaning.Interpretation.{Interpretation}
use Rattle.transporter.specs.lisp_ground.After.{AfterOn}
use Rattle.transporter.specs.lisp_ground.Placing.{Opens}
use Rattle.transporter.specs.lisp_ground.Rewriting.{MakesGrown, RelaysOn}
use Rattle.transporter.specs.lisp_ground.Writes.{Within, WritesWithin}
use Rattle.transporter.proofs.lisp_ground.words.FinalAddresses.{one_final, stands_there}
use Rattle.transporter.proofs.lisp_ground.words.Places.{new_allowed}
use Rattle.transporter.proofs.lisp_ground.invariant.Relocations.{block_grown_on}
use Rattle.transporter.proofs.lisp_ground.invariant.WordStores.{kept_on_same}
use Rattle.transporter.specs.Growth.{OpensOrStays}
use Rattle.transporter.specs.LiveWordsUnchanged.{IsLiveWord, LiveWordsUnchanged}
use Rattle.transporter.specs.Preserving.{NoOldAddresses, FreshOn, PreservesScanned}
use Rattle.transporter.specs.Transports.{WordsUnchanged}
use Rattle.transporter.specs.Writes.{Writes}
use Rattle.transporter.proofs.LiveObjects.{grows-same, live-opened, live-read, live-then, still-live}
use Rattle.transporter.specs.Settling.{RefersToOld}
use Rattle.transporter.proofs.UsedEnds.{Extends, committed-extends, end-alive}
use Rattle.transporter.proofs.MovedParcels.{opened-form, opened-words, within-written}
use Rattle.transporter.proofs.ScannedWords.{fresh-grown, laid-stays_fresh, laid-preserves, live-fresh, opened-preserves}
use Rattle.transporter.proofs.TransportClauses.{stays-faulted}
use Rattle.block_store.specs.declared.header.Head.{Head as Place}
use Rattle.block_store.specs.Headers.{IsHead, IsLiveIn}
use Rattle.block_store.specs.Growing.{CanGrow, GrowsBlock, IsHusk, LaysAnew, PlacesGrown, grown_word, husk_word}
use Rattle.block_store.proofs.GrowthRoom.{fewer_fields, fits_all, grown_area, grown_header, grown_level, grown_named, live_apart, live_words, plain_words, wide_fits, area_low, wide_more}
use Rattle.transporter.proofs.NewRegions.{end_there, opened_at_most, opened_live, opened_or_same, place_low, words_inside}
use Rattle.block_store.proofs.ScannedWords.{none-fresh, opened-stays_fresh}
use Rattle.transporter.specs.Marking.{IsForward, MarksFollow}
use Rattle.transporter.proofs.PageMarks.{marks-first, marks-opened, marks-placed, marks-read, marks-then}

-- The result of growing a block: the wider block, its husk, and the changes of the table and of all other memory
pub record LeavesGrown (m : Memory.Store) (t : Table) (m' : Memory.Store) (t' : Table) (content : Content) (wanted at : ℕ) : Type 0 where
  pub grows : GrowsBlock m t m' t' content wanted at
  pub husk : (reference here : ℕ) → content ≡ StructAt reference → Final m.words reference here → IsHusk m m' here at wanted
  pub placed : (reference here : ℕ) → content ≡ StructAt reference → Final m.words reference here → PlacesGrown m t t' here at wanted
  pub preserves : PreservesScanned m t m' t'
  pub stays_fresh : NoOldAddresses m t → NoOldAddresses m' t'
  pub marks : MarksFollow m t m' t'

-- A block of `count` fields at `here` is written again at the end of its class, and its charge is committed there; its old words are a husk
record Laid (m mid m' : Memory.Store) (t c t' : Table) (here at code count wanted area level : ℕ) : Type 0 where
  area_in : area < areas_of t
  level_in : level < levels_of t
  stands : Contains (chain t (live (slot_of t area level))) (here / 4096)
  end : IsEnd t (slot_of t area level) at (grown_length count wanted + 1)
  writes : Writes m mid at (grown_length count wanted + 1) (grown_word m.words here code count (grown_length count wanted))
  leaves : Writes mid m' here (count + 1) (husk_word at)
  old_inside : here + count + 1 ≤ length m.words
  new_inside : at + grown_length count wanted + 1 ≤ length m.words
  commit : c ≡ record (committed t (slot_of t area level) at (grown_length count wanted + 1) (grown_length count wanted + 1) New) { pages = c.pages }
  husk : t' ≡ husked c (live (slot_of t area level)) (count + 1)
  enough : count + 1 ≤ slice_index c.charges (live (slot_of t area level))
  sound : IsTable t'

module _ (m mid m' : Memory.Store) (t c t' : Table) (here at code count wanted area level : ℕ) (l : Laid m mid m' t c t' here at code count wanted area level) where
  wider : grown_length count wanted + 1 ≡ suc (grown_length count wanted)
  wider = omega arith

  old_words : (j : ℕ) → j < count + 1 → slice_get m'.words (here + j) ≡ Some (husk_word at j)
  old_words j low = slice_get-get_or m'.words (here + j) null_word (let a = l.old_inside in let b = l.writes.size in let d = l.leaves.size in omega arith) ∙ ap (λ (x : Parts). Some x) (l.leaves.there j low)

  blank : (j : ℕ) → 0 < j → j < suc count → slice_get m'.words (here + j) ≡ Some null_word
  blank zero some low = absurd (omega arith)
  blank (suc j) some low = old_words (suc j) (omega arith)

  relays : RelaysOn m t mid m' t' here at (suc (grown_length count wanted)) area level count
  relays = record {
    area_in = l.area_in;
    level_in = l.level_in;
    stands = l.stands;
    end = subst (λ (n : ℕ). IsEnd t (slot_of t area level) at n) wider l.end;
    writes = subst (λ (n : ℕ). WritesWithin m mid at n) wider (within-written l.writes);
    rewrites = subst (λ (n : ℕ). WritesWithin mid m' here n) (let e : count + 1 ≡ suc count = omega arith in e) (within-written l.leaves);
    forward = husk_word at 0;
    forward_at = ap (slice_get m'.words) (let e : here ≡ here + 0 = omega arith in e) ∙ old_words 0 (omega arith);
    leads = refl;
    blanks = blank;
    sound = l.sound;
  }

  new_word : (j : ℕ) → j < grown_length count wanted + 1 → word_at mid.words (at + j) ≡ grown_word m.words here code count (grown_length count wanted) j
  new_word = l.writes.there

  field_word : (j : ℕ) → j < grown_length count wanted → word_at mid.words (suc at + j) ≡ grown_word m.words here code count (grown_length count wanted) (suc j)
  field_word j low = ap (word_at mid.words) (let e : suc at + j ≡ at + suc j = omega arith in e) ∙ new_word (suc j) (omega arith)

  first_word : word_at mid.words at ≡ record { cdr = Next; content = Header code (grown_length count wanted) }
  first_word = ap (word_at mid.words) (let e : at ≡ at + 0 = omega arith in e) ∙ new_word 0 (omega arith)

  header : slice_get mid.words at ≡ Some (record { cdr = Next; content = Header code (grown_length count wanted) })
  header = slice_get-get_or mid.words at null_word (let a = l.new_inside in let b = l.writes.size in omega arith) ∙ ap (λ (x : Parts). Some x) first_word

  copied_word : (j : ℕ) → j < count → j < grown_length count wanted → word_at mid.words (suc at + j) ≡ word_at m.words (suc here + j)
  copied_word j low inside = field_word j inside ∙ rw (lt-ltb j count low) refl

  nil_word : (j : ℕ) → count ≤ j → j < grown_length count wanted → word_at mid.words (suc at + j) ≡ record { cdr = Next; content = NilWord }
  nil_word j past inside = field_word j inside ∙ rw (le-ltb j count past) refl

  makes : count ≤ grown_length count wanted → MakesGrown m mid here at code count (grown_length count wanted)
  makes more = record {
    header_at = header;
    copied = λ j low. ap (λ (x : Parts). x.content) (copied_word j low (omega arith));
    nils = λ j past low. ap (λ (x : Parts). x.content) (nil_word j past low);
  }

  commits : c ≡ record (committed t (slot_of t area level) at (suc (grown_length count wanted)) (suc (grown_length count wanted)) New) { pages = c.pages }
  commits = subst (λ (n : ℕ). c ≡ record (committed t (slot_of t area level) at n n New) { pages = c.pages }) wider l.commit

-- The ground represents the objects with the wider block

laid_grows : (m mid m' : Memory.Store) (t c t' : Table) (here at code wanted area level : ℕ) (fields : List Value) → Laid m mid m' t c t' here at code (length fields) wanted area level → length fields < wanted → wanted ≤ 2047
    → (it : Interpretation) (n : ℕ) → GroundInvariant m t it → StandsThere (ground_image m t) it.map AsBlock here n → (object it.store n).body ≡ Block code fields
    → account it.top it.store it.aim area + suc (grown_length (length fields) wanted) ≤ (rule_of it.areas area).quota
    → AfterOn m t m' t' it (with_grown it.store n (grown_block area code fields (grown_length (length fields) wanted)) area level (suc (length fields))) 0 AsBlock at 1 (λ i. n)
laid_grows m mid m' t c t' here at code wanted area level fields l more few it n on st body fits =
    let size : length fields + 1 ≡ suc (length fields) = omega arith in
    block_grown_on m mid m' t c t' it here at n code wanted area level fields on st body more few fits (relays m mid m' t c t' here at code (length fields) wanted area level l)
    (commits m mid m' t c t' here at code (length fields) wanted area level l) (subst (λ (i : ℕ). t' ≡ husked c (live (slot_of t area level)) i) size l.husk) (let e = l.enough in omega arith)
    (makes m mid m' t c t' here at code (length fields) wanted area level l (omega arith))

-- a husk leaves the rest of the table alone
pub husked-extends : {t c t' : Table} {slot at words : ℕ} (class husk : ℕ) → t' ≡ husked c class husk → Extends t c slot at words → Extends t t' slot at words
husked-extends {t} {c} {t'} {slot} {at} {words} class husk is e = subst (λ (u : Table). Extends t u slot at words) (sym is) (record {
  end = e.end;
  form = record { regions = e.form.regions; top = e.form.top; quotas = e.form.quotas; kinds = e.form.kinds };
  aim = e.aim;
  chains = e.chains;
  marks = e.marks;
  used = e.used;
  placed = e.placed;
  pages = record { count = e.pages.count; ascending = e.pages.ascending; members = e.pages.members };
})

-- After the place

module _ (m : Memory.Store) (t : Table) (of : Parts) (wanted : ℕ) (x : CanGrow m t of wanted) (few : wanted ≤ 2047) (head : Place) (is : IsHead m.words of.content head) (m1 : Memory.Store) (reads : StoresNothing m m1)
    (class : TableClass) (there : IsLiveIn t head.at class) (m2 : Memory.Store) (t2 : Table) (region : Option ℕ) (opens : Opens m1 t m2 t2 region class.area class.level) where
  on1 : GroundInvariant m1 t x.it
  on1 = kept_on_same m m1 t x.it x.kept reads

  -- on a swap error nothing more is stored
  pub grow_stays : (m3 : Memory.Store) → StoresNothing m2 m3 → WordsUnchanged m t m3 t2
  grow_stays m3 stays = stays-faulted reads (opened_at_most m1 t x.it on1 class.area class.level there.area_in there.level_in m2 t2 region opens m3 stays)

  faulted_live : (m3 : Memory.Store) → StoresNothing m2 m3 → LiveWordsUnchanged m t m3 t2
  faulted_live m3 stays = live-then (live-read reads) (opened_live m1 t x.it on1 class.area class.level there.area_in there.level_in m2 t2 region opens m3 stays)

  pub room_or_same : OpensOrStays t t2
  room_or_same = opened_or_same m1 t x.it on1 class.area class.level there.area_in there.level_in m2 t2 region opens

  pub faulted_preserves : (m3 : Memory.Store) → StoresNothing m2 m3 → PreservesScanned m t m3 t2
  faulted_preserves m3 stays = opened-preserves (faulted_live m3 stays) room_or_same

  pub faulted_marks : (m3 : Memory.Store) → StoresNothing m2 m3 → MarksFollow m t m3 t2
  faulted_marks m3 stays = marks-then (marks-read t reads) (marks-then (marks-opened region x.kept.table there.area_in there.level_in opens) (marks-read t2 stays))

  pub faulted_stays_fresh : (m3 : Memory.Store) → StoresNothing m2 m3 → NoOldAddresses m t → NoOldAddresses m3 t2
  faulted_stays_fresh m3 stays = opened-stays_fresh m m3 t t2 x.kept.table opens.sound (faulted_live m3 stays) room_or_same

  here_stays : WordsUnchanged m t m2 t2
  here_stays = grow_stays m2 (record { words = refl; levels = refl; top = refl; unmarked = λ page e. e })

  words_same : m2.words ≡ m.words
  words_same = opened-words region opens ∙ reads.words

  form : SameForm t t2
  form = opened-form region opens

  same_slot : slot_of t class.area class.level ≡ slot_of t2 class.area class.level
  same_slot = ap (λ (n : ℕ). class.area * (n + 1) + class.level) (sym form.top)

  grows : LiveWordsUnchanged m1 t m2 t2
  grows = live-opened region x.kept.table there.area_in there.level_in opens

  words_there : (j : ℕ) → j < head.length + 1 → IsLiveWord t2 (head.at + j) × ((head.at + j) / 4096 ≡ head.at / 4096)
  words_there j low = let w = live_words m t of wanted x few head is j low in (still-live grows.table w.0, w.1)

  stands : Contains (chain t2 (live (slot_of t2 class.area class.level))) (head.at / 4096)
  stands = subst (λ (slot : ℕ). Contains (chain t2 (live slot)) (head.at / 4096)) same_slot (grows.table.live_chains (slot_of t class.area class.level) (head.at / 4096) there.region)

  pub old_inside : head.at + head.length + 1 ≤ length m2.words
  old_inside = let low = is.inside in let size = ap length words_same in omega arith

  module _ (at : ℕ) (end : IsEnd t2 (slot_of t class.area class.level) at (grown_length head.length wanted + 1)) where
    end_here : IsEnd t2 (slot_of t2 class.area class.level) at (grown_length head.length wanted + 1)
    end_here = end_there m1 t x.it on1 class.area class.level there.area_in there.level_in m2 t2 region opens at (grown_length head.length wanted + 1) end

    pub wide_inside : at + grown_length head.length wanted + 1 ≤ length m2.words
    wide_inside =
        let low = words_inside m1 t x.it on1 class.area class.level there.area_in there.level_in m2 t2 region opens at (grown_length head.length wanted + 1) end in
        omega arith

    pub wide_low : at < 2 ^ 28
    wide_low = place_low m1 t x.it on1 class.area class.level there.area_in there.level_in m2 t2 region opens at (grown_length head.length wanted + 1) end (omega arith)

    pub wide_apart : (head.at + head.length + 1 ≤ at) ⊎ (at + grown_length head.length wanted + 1 ≤ head.at)
    wide_apart = go (live_apart t2 (slot_of t2 class.area class.level) at (grown_length head.length wanted + 1) head.at (head.length + 1) end_here (omega arith) words_there)
      where
        go : (head.at + (head.length + 1) ≤ at) ⊎ (at + (grown_length head.length wanted + 1) ≤ head.at) → (head.at + head.length + 1 ≤ at) ⊎ (at + grown_length head.length wanted + 1 ≤ head.at)
        go (inl l) = inl (omega arith)
        go (inr l) = inr (omega arith)

    pub wide_allowed : (slot : ℕ) → IsEnd t2 slot at (grown_length head.length wanted + 1) → AllowsOrigin t2 slot (grown_length head.length wanted + 1) New
    wide_allowed slot e =
        let fits = wide_fits m t of wanted x few head is class there in
        new_allowed m2 t2 x.it (here_stays.kept x.it x.kept) class.area class.level at (grown_length head.length wanted + 1) (area_low m t of wanted x few head is class there)
        (let a = there.level_in in let b = form.top in omega arith) end_here (grown_length head.length wanted + 1) (omega arith) slot e

    module _ (m3 : Memory.Store) (laid : LaysAnew m2 m3 head at (grown_length head.length wanted)) (c : Table)
        (commit : c ≡ record (committed t2 (slot_of t2 class.area class.level) at (grown_length head.length wanted + 1) (grown_length head.length wanted + 1) New) { pages = c.pages }) where
      same_chains : (slot : ℕ) → chain c slot ≡ chain t2 slot
      same_chains slot = ap (λ (u : Table). chain u slot) commit

      pub husk_stands : Contains (chain c (live (slot_of t2 class.area class.level))) (head.at / 4096)
      husk_stands = subst (λ (rs : List ℕ). Contains rs (head.at / 4096)) (sym (same_chains (live (slot_of t2 class.area class.level)))) stands

      charged_here : head.length + 1 ≤ slice_index c.charges (live (slot_of t2 class.area class.level))
      charged_here =
          let more = wide_more m t of wanted x few head is in
          let slot_in = end_here.inside in
          let size = opens.sound.charges_size in
          let there : slice_index c.charges (live (slot_of t2 class.area class.level)) ≡ slice_index (slice_set t2.charges (live (slot_of t2 class.area class.level)) (slice_index t2.charges (live (slot_of t2 class.area class.level)) + (grown_length head.length wanted + 1))) (live (slot_of t2 class.area class.level)) =
          ap (λ (u : Table). slice_index u.charges (live (slot_of t2 class.area class.level))) commit in
          let value = get_or-set_same t2.charges (live (slot_of t2 class.area class.level)) (slice_index t2.charges (live (slot_of t2 class.area class.level)) + (grown_length head.length wanted + 1)) 0 (omega arith) in
          omega arith

      pub husk_enough : (slot : ℕ) → Contains (chain c (live slot)) (head.at / 4096) → head.length + 1 ≤ slice_index c.charges (live slot)
      husk_enough slot holds =
          let same : live slot ≡ live (slot_of t2 class.area class.level) =
          opens.sound.sound.one_list (live slot) (live (slot_of t2 class.area class.level)) (head.at / 4096) (subst (λ (rs : List ℕ). Contains rs (head.at / 4096)) (same_chains (live slot)) holds) stands in
          subst (λ (i : ℕ). head.length + 1 ≤ slice_index c.charges i) (sym same) charged_here

      module _ (t3 : Table) (husk : t3 ≡ husked c (live (slot_of t2 class.area class.level)) (head.length + 1)) (sound : IsTable t3) where
        whole : Laid m2 laid.copied m3 t2 c t3 head.at at head.code head.length wanted class.area class.level
        whole = record {
          area_in = (let a = there.area_in in let b = ap length form.quotas in omega arith);
          level_in = (let a = there.level_in in let b = form.top in omega arith);
          stands = stands;
          end = end_here;
          writes = laid.writes;
          leaves = laid.leaves;
          old_inside = old_inside;
          new_inside = wide_inside;
          commit = commit;
          husk = husk;
          enough = charged_here;
          sound = sound;
        }

        -- the block has grown, whatever objects there are
        pub block_grows : GrowsBlock m t m3 t3 of.content wanted at
        block_grows it n code level fields on value body level_is =
            let named = grown_named m t of.content head is it on n value in
            let same = grown_header m t of.content head is it on n value code fields body in
            let area = grown_area m t of.content head is it on n value class there in
            let at_level : level ≡ class.level = sym level_is ∙ grown_level m t of.content head is it on n value class there in
            let on2 = here_stays.kept it on in
            let final = subst (λ (ws : List Parts). Final ws is.reference head.at) (sym words_same) is.final in
            let last = subst (λ (ws : List Parts). IsFinal ws head.at) (sym words_same) is.last in
            let st = stands_there m2 t2 it on2 AsBlock is.reference n named head.at final last in
            let more : length fields < wanted = (let low = fewer_fields m t of wanted x few head is in let e = same.1 in omega arith) in
            let by_code = subst (λ (i : ℕ). Laid m2 laid.copied m3 t2 c t3 head.at at i head.length wanted class.area class.level) same.0 whole in
            let by_size = subst (λ (i : ℕ). Laid m2 laid.copied m3 t2 c t3 head.at at code i wanted class.area class.level) same.1 by_code in
            let fits = subst (λ (i : ℕ). account it.top it.store it.aim class.area + suc (grown_length i wanted) ≤ (rule_of it.areas class.area).quota) same.1 (fits_all m t of wanted x few head is class there it on) in
            let after = laid_grows m2 laid.copied m3 t2 c t3 head.at at code wanted class.area class.level fields by_size more few it n on2 st body fits in
            let there_now = subst (λ (a : ℕ). AfterOn m2 t2 m3 t3 it (with_grown it.store n (grown_block a code fields (grown_length (length fields) wanted)) a class.level (suc (length fields))) 0 AsBlock at 1 (λ i. n)) (sym area) after in
            let result = subst (λ (l : ℕ). AfterOn m2 t2 m3 t3 it (with_grown it.store n (grown_block (object it.store n).area code fields (grown_length (length fields) wanted)) (object it.store n).area l (suc (length fields))) 0 AsBlock at 1 (λ i. n)) (sym at_level) there_now in
            record {
              map = result.map;
              kept = result.kept;
              refines = result.refines;
              there = ap (λ (a : ℕ). names_as AsBlock (result.map.role a)) (let e : at ≡ at + 0 = omega arith in e) ∙ result.there 0 (omega arith);
              old = (let old = result.old in let was = here_stays.old it on in omega arith);
              placed = (
                  let a : t3.placed ≡ c.placed = ap (λ (u : Table). u.placed) husk in
                  let b : c.placed ≡ t2.placed + (grown_length head.length wanted + 1) = ap (λ (u : Table). u.placed) commit in
                  let d = here_stays.placed in
                  let e = ap (λ (i : ℕ). grown_length i wanted) same.1 in
                  omega arith);
            }

        -- its words at the new place
        grown_there : (i : ℕ) → i < grown_length head.length wanted + 1 → word_at m3.words (at + i) ≡ grown_word m.words head.at head.code head.length (grown_length head.length wanted) i
        grown_there i low =
            laid.leaves.others (at + i) (out wide_apart) ∙ laid.writes.there i low ∙ ap (λ (ws : List Parts). grown_word ws head.at head.code head.length (grown_length head.length wanted) i) words_same
          where
            out : (head.at + head.length + 1 ≤ at) ⊎ (at + grown_length head.length wanted + 1 ≤ head.at) → (head.at ≤ at + i) × (at + i < head.at + (head.length + 1)) → ⊥
            out (inl l) y = let b = y.1 in omega arith
            out (inr l) y = let a = y.0 in omega arith

        -- and its old place is a husk
        pub block_husk : (reference here : ℕ) → of.content ≡ StructAt reference → Final m.words reference here → IsHusk m m3 here at wanted
        block_husk reference here refers final =
            let base : head.at ≡ here = one_final m.words reference head.at here (subst (λ (a : ℕ). Final m.words a head.at) (same_reference is.reference reference (sym is.is ∙ refers)) is.final) final in
            subst (λ (a : ℕ). IsHusk m m3 a at wanted) base (record {
              code = head.code;
              count = head.length;
              header = is.header;
              husk = laid.leaves.there;
              grown = grown_there;
              others = λ a out apart. laid.leaves.others a out ∙ laid.writes.others a apart ∙ ap (λ (ws : List Parts). word_at ws a) words_same;
            })
          where
            same_reference : (a b : ℕ) → StructAt a ≡ StructAt b → a ≡ b
            same_reference a b e = cc

        -- What it does to scanned words

        module _ (pages : Adds (page_list t2) (page_list c) (at / 256) ((at + (grown_length head.length wanted + 1) - 1) / 256)) where
          extends : Extends t2 t3 (slot_of t2 class.area class.level) at (grown_length head.length wanted + 1)
          extends = husked-extends (live (slot_of t2 class.area class.level)) (head.length + 1) husk
              (committed-extends t2 c (slot_of t2 class.area class.level) at (grown_length head.length wanted + 1) (grown_length head.length wanted + 1) New c.pages t2.last end_here commit pages)

          -- at which address its words were placed
          pub block_placed : (reference here : ℕ) → of.content ≡ StructAt reference → Final m.words reference here → PlacesGrown m t t3 here at wanted
          block_placed reference here refers final =
              let base : head.at ≡ here = one_final m.words reference head.at here (subst (λ (a : ℕ). Final m.words a head.at) (same_reference is.reference reference (sym is.is ∙ refers)) is.final) final in
              subst (λ (a : ℕ). PlacesGrown m t t3 a at wanted) base (record {
                code = head.code;
                count = head.length;
                header = is.header;
                area = class.area;
                level = class.level;
                class = there.region;
                table = c;
                placed = record { room = t2; opens = room_or_same; end = end_here; commit = commit; pages = pages };
                husk = subst (λ (slot : ℕ). t3 ≡ husked c (live slot) (head.length + 1)) (sym same_slot) husk;
              })
            where
              same_reference : (a b : ℕ) → StructAt a ≡ StructAt b → a ≡ b
              same_reference a b e = cc

          husk_fresh : (i : ℕ) → FreshOn t3 (husk_word at i).content
          husk_fresh zero = live-fresh (HeaderForward at) at sound (end-alive t2 t3 (slot_of t2 class.area class.level) at (grown_length head.length wanted + 1) extends) refl
          husk_fresh (suc i) = none-fresh t3 Null refl

          others_same : (a : ℕ) → (Within at (grown_length head.length wanted + 1) a → ⊥) → (Within head.at (head.length + 1) a → ⊥) → word_at m3.words a ≡ word_at m.words a
          others_same a apart out = laid.leaves.others a out ∙ laid.writes.others a apart ∙ ap (λ (ws : List Parts). word_at ws a) words_same

          old_or_fresh : (a : ℕ) → (Within at (grown_length head.length wanted + 1) a → ⊥) → (a < head.at) ⊎ (head.at ≤ a) → (a < head.at + (head.length + 1)) ⊎ (head.at + (head.length + 1) ≤ a)
              → (word_at m3.words a ≡ word_at m.words a) ⊎ FreshOn t3 (word_at m3.words a).content
          old_or_fresh a apart (inl below) either = inl (others_same a apart (λ y. let low = y.0 in omega arith))
          old_or_fresh a apart (inr from) (inr past) = inl (others_same a apart (λ y. let high = y.1 in omega arith))
          old_or_fresh a apart (inr from) (inl within) =
              let place : head.at + (a - head.at) ≡ a = omega arith in
              let is = laid.leaves.there (a - head.at) (omega arith) in
              inr (subst (λ (i : ℕ). FreshOn t3 (word_at m3.words i).content) place (subst (λ (w : Parts). FreshOn t3 w.content) (sym is) (husk_fresh (a - head.at))))

          -- pages get marks by the words of the wider block, and by the forward of the husk
          pub block_marks : MarksFollow m t m3 t3
          block_marks =
              marks-then (marks-read t reads) (marks-then (marks-opened region x.kept.table there.area_in there.level_in opens) (marks-then (marks-placed sound extends laid.writes) (marks-first grows-same laid.leaves (omega arith) plain (λ i low. husk_young i) refl (λ i low. husk_level i))))
            where
              out : (i : ℕ) → i < head.length + 1 → (head.at + head.length + 1 ≤ at) ⊎ (at + grown_length head.length wanted + 1 ≤ head.at) → Within at (grown_length head.length wanted + 1) (head.at + i) → ⊥
              out i low (inl l) y = let a = y.0 in omega arith
              out i low (inr l) y = let b = y.1 in omega arith

              husk_young : (i : ℕ) → RefersToOld t3 (husk_word at i) → ⊥
              husk_young zero old = absurd (let e : None ≡ Some old.0 = old.1 in cc)
              husk_young (suc i) old = absurd (let e : None ≡ Some old.0 = old.1 in cc)

              husk_level : (i : ℕ) → 0 < i → level_of_word laid.copied.levels (husk_word at i) ≡ 0
              husk_level zero some = absurd (omega arith)
              husk_level (suc i) some = refl

              plain : (i : ℕ) → i < head.length + 1 → IsForward (word_at laid.copied.words (head.at + i)) → ⊥
              plain i low f = plain_words m t of wanted x few head is i low (subst IsForward (laid.writes.others (head.at + i) (out i low wide_apart) ∙ ap (λ (ws : List Parts). word_at ws (head.at + i)) words_same) f)

          pub block_preserves : PreservesScanned m t m3 t3
          block_preserves =
              laid-preserves m m3 t t2 t3 sound room_or_same (slot_of t2 class.area class.level) at (grown_length head.length wanted + 1) (omega arith) extends x.kept.table
              (λ a l apart. old_or_fresh a apart (cases_lt a head.at) (cases_lt a (head.at + (head.length + 1))))

          new_fresh : NoOldAddresses m t → (i : ℕ) → i < grown_length head.length wanted + 1 → FreshOn t3 (grown_word m.words head.at head.code head.length (grown_length head.length wanted) i).content
          new_fresh all zero low = none-fresh t3 (Header head.code (grown_length head.length wanted)) refl
          new_fresh all (suc i) low = go (cases_lt i head.length)
            where
              go : (i < head.length) ⊎ (head.length ≤ i) → FreshOn t3 (grown_word m.words head.at head.code head.length (grown_length head.length wanted) (suc i)).content
              go (inl field) =
                  let same : grown_word m.words head.at head.code head.length (grown_length head.length wanted) (suc i) ≡ word_at m.words (suc head.at + i) = rw (lt-ltb i head.length field) refl in
                  let place : head.at + suc i ≡ suc head.at + i = omega arith in
                  let there = subst (λ (a : ℕ). IsLiveWord t a) place (live_words m t of wanted x few head is (suc i) (omega arith)).0 in
                  subst (λ (w : Parts). FreshOn t3 w.content) (sym same) (fresh-grown (word_at m.words (suc head.at + i)).content block_preserves.grows (all (suc head.at + i) there))
              go (inr past) =
                  let same : grown_word m.words head.at head.code head.length (grown_length head.length wanted) (suc i) ≡ record { cdr = Next; content = NilWord } = rw (le-ltb i head.length past) refl in
                  subst (λ (w : Parts). FreshOn t3 w.content) (sym same) (none-fresh t3 NilWord refl)

          pub block_stays_fresh : NoOldAddresses m t → NoOldAddresses m3 t3
          block_stays_fresh all =
              laid-stays_fresh m m3 t t2 t3 (slot_of t2 class.area class.level) at (grown_length head.length wanted + 1) x.kept.table sound room_or_same extends block_preserves
              (λ i low. subst (λ (w : Parts). FreshOn t3 w.content) (sym (grown_there i low)) (new_fresh all i low)) all

  -- The same, by a length that was computed

  module _ (wide : ℕ) (wide_is : wide ≡ grown_length head.length wanted) (at : ℕ) (end : IsEnd t2 (slot_of t class.area class.level) at (wide + 1)) where
    end_is : IsEnd t2 (slot_of t class.area class.level) at (grown_length head.length wanted + 1)
    end_is = subst (λ (n : ℕ). IsEnd t2 (slot_of t class.area class.level) at (n + 1)) wide_is end

    pub new_end : IsEnd t2 (slot_of t2 class.area class.level) at (wide + 1)
    new_end = subst (λ (n : ℕ). IsEnd t2 (slot_of t2 class.area class.level) at (n + 1)) (sym wide_is) (end_here at end_is)

    pub new_inside : at + wide + 1 ≤ length m2.words
    new_inside = subst (λ (n : ℕ). at + n + 1 ≤ length m2.words) (sym wide_is) (wide_inside at end_is)

    pub new_low : at < 2 ^ 28
    new_low = wide_low at end_is

    pub new_apart : (head.at + head.length + 1 ≤ at) ⊎ (at + wide + 1 ≤ head.at)
    new_apart = subst (λ (n : ℕ). (head.at + head.length + 1 ≤ at) ⊎ (at + n + 1 ≤ head.at)) (sym wide_is) (wide_apart at end_is)

    pub new_charge_allowed : (slot : ℕ) → IsEnd t2 slot at (wide + 1) → AllowsOrigin t2 slot (wide + 1) New
    new_charge_allowed slot e =
        subst (λ (n : ℕ). AllowsOrigin t2 slot (n + 1) New) (sym wide_is) (wide_allowed at end_is slot (subst (λ (n : ℕ). IsEnd t2 slot at (n + 1)) wide_is e))

    module _ (m3 : Memory.Store) (laid : LaysAnew m2 m3 head at wide) (c : Table) (commit : c ≡ record (committed t2 (slot_of t2 class.area class.level) at (wide + 1) (wide + 1) New) { pages = c.pages }) where
      laid_is : LaysAnew m2 m3 head at (grown_length head.length wanted)
      laid_is = subst (λ (n : ℕ). LaysAnew m2 m3 head at n) wide_is laid

      commit_is : c ≡ record (committed t2 (slot_of t2 class.area class.level) at (grown_length head.length wanted + 1) (grown_length head.length wanted + 1) New) { pages = c.pages }
      commit_is = subst (λ (n : ℕ). c ≡ record (committed t2 (slot_of t2 class.area class.level) at (n + 1) (n + 1) New) { pages = c.pages }) wide_is commit

      pub old_stands : Contains (chain c (live (slot_of t2 class.area class.level))) (head.at / 4096)
      old_stands = husk_stands at end_is m3 laid_is c commit_is

      pub old_charged : (slot : ℕ) → Contains (chain c (live slot)) (head.at / 4096) → head.length + 1 ≤ slice_index c.charges (live slot)
      old_charged = husk_enough at end_is m3 laid_is c commit_is

      -- all of it, once the husk is recorded
      pub new_grown : (t3 : Table) → t3 ≡ husked c (live (slot_of t2 class.area class.level)) (head.length + 1) → IsTable t3 → Adds (page_list t2) (page_list c) (at / 256) ((at + (wide + 1) - 1) / 256) → LeavesGrown m t m3 t3 of.content wanted at
      new_grown t3 husk sound pages =
          let pages_is : Adds (page_list t2) (page_list c) (at / 256) ((at + (grown_length head.length wanted + 1) - 1) / 256) = subst (λ (n : ℕ). Adds (page_list t2) (page_list c) (at / 256) ((at + (n + 1) - 1) / 256)) wide_is pages in
          record {
            grows = block_grows at end_is m3 laid_is c commit_is t3 husk sound;
            husk = block_husk at end_is m3 laid_is c commit_is t3 husk sound;
            placed = block_placed at end_is m3 laid_is c commit_is t3 husk sound pages_is;
            preserves = block_preserves at end_is m3 laid_is c commit_is t3 husk sound pages_is;
            stays_fresh = block_stays_fresh at end_is m3 laid_is c commit_is t3 husk sound pages_is;
            marks = block_marks at end_is m3 laid_is c commit_is t3 husk sound pages_is;
          }
