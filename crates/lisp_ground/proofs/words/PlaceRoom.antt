-- There is room for a place: the used words of an area and those of a new object are at most twice its quota.
use Rattle.std.proofs.Common.{◌≡◌, ℕ, zero, suc, ◌+◌, ◌*◌, ◌<◌, ◌≤◌, ◌⊎◌, inl, inr, Bool, true, false, ◌&&◌, length, ap, arith}
use Rattle.std.proofs.lemmas.Bool.{cases_Bool, cases_eq}
use Rattle.area_space.specs.lisp_graph.Totals.{total, if_true}
use Rattle.area_space.proofs.lisp_graph.Totals.{total-suc, total-cong, total-le, total-add}
use Rattle.area_space.specs.mem_port.Store.{Store}
use Rattle.area_space.specs.Table.{Table, levels_of, slot_of, live, stale, quota_of}
use Rattle.area_space.specs.Room.{words_of_class, words_of_area}
use Rattle.lisp_meaning.specs.State.{rule_of, is_held, object}
use Rattle.lisp_meaning.specs.Charges.{account, charges, per_area}
use Rattle.lisp_meaning.specs.ChargesIn.{spares_in}
use Rattle.lisp_meaning.specs.Image.{Image, used_words}
use Rattle.lisp_meaning.specs.Classes.{classes, of_class, old_of, in_class}
use Rattle.lisp_ground.specs.Image.{no_rest, ground_image}
use Rattle.lisp_ground.specs.GroundInvariant.{GroundInvariant}
use Rattle.lisp_meaning.specs.Interpretation.{Interpretation}
use Rattle.lisp_meaning.proofs.reading.Adequacy.{account_read}
use Rattle.lisp_ground.proofs.sums.Accounts.{levels_agree, quota_agrees}
use Rattle.lisp_ground.proofs.words.UsedByRegion.{live_words_are, old_words_are}

-- a number is at most the sum
pub at_most_total : (f : ℕ → ℕ) (i n : ℕ) → i < n → f i ≤ total f n
at_most_total f i zero low = absurd (omega arith)
at_most_total f i (suc n) low =
    let s = total-suc f n in
    elim (cases_eq i n) [
      | inl e ↦ (let x = ap f e in omega arith)
      | inr ne ↦ (let x = at_most_total f i n (omega arith) in omega arith)
    ]

module _ (m : Store) (t : Table) (it : Interpretation) (on : GroundInvariant m t it) (area : ℕ) where
  abbrev g : Image
  g = ground_image m t

  -- the words of an area are those of its live classes and its old ones
  pub words_split : words_of_area t area ≡ total (λ l. used_words g (of_class area l)) (suc it.top) + used_words g (old_of area)
  words_split =
      let parts = total-add (λ l. words_of_class t (live (slot_of t area l))) (λ l. words_of_class t (stale (slot_of t area l))) (levels_of t) in
      let lives = total-cong (λ l. used_words g (of_class area l)) (λ l. words_of_class t (live (slot_of t area l))) (levels_of t) (λ l low. live_words_are m t no_rest area l on.table low) in
      let olds = old_words_are m t no_rest area on.table in
      let top_is = ap (total (λ l. used_words g (of_class area l))) (levels_agree m t it on) in
      omega arith

  -- what is condemned is held, so its charges are within the account
  condemned_within : charges it.store (λ n. it.aim.condemned n && per_area it.store area n) ≤ charges it.store (λ n. is_held it.store n && per_area it.store area n)
  condemned_within = total-le (λ n. if_true (it.aim.condemned n && per_area it.store area n) (object it.store n).charge) (λ n. if_true (is_held it.store n && per_area it.store area n) (object it.store n).charge) (length it.store.objects) (λ n l. each n (cases_Bool (it.aim.condemned n)))
    where
      each : (n : ℕ) → (it.aim.condemned n ≡ true) ⊎ (it.aim.condemned n ≡ false) → if_true (it.aim.condemned n && per_area it.store area n) (object it.store n).charge ≤ if_true (is_held it.store n && per_area it.store area n) (object it.store n).charge
      each n (inl c) =
          let u : is_held it.store n ≡ true = on.kept.condemned n c in
          let x = ap (λ (b : Bool). if_true (b && per_area it.store area n) (object it.store n).charge) c in
          let y = ap (λ (b : Bool). if_true (b && per_area it.store area n) (object it.store n).charge) u in
          omega arith
      each n (inr c) = let x = ap (λ (b : Bool). if_true (b && per_area it.store area n) (object it.store n).charge) c in omega arith

  old_within : area < length it.areas → used_words g (old_of area) ≤ quota_of t area
  old_within low =
      let a = on.kept.room_old area in
      let b = condemned_within in
      let c = on.kept.quota area low in
      let q = quota_agrees m t it on area low in
      omega arith

  -- the live classes' numbers are within the account
  live_within : total (λ l. g.live_charge area l + g.live_husks area l) (suc it.top) + total (g.old_charge area) (suc it.top) ≤ account it.top it.store it.aim area
  live_within =
      let a = account_read g it on.kept area in
      let x = total-add (λ l. g.live_charge area l + g.live_husks area l + g.old_charge area l) (g.old_husks area) (suc it.top) in
      let y = total-add (λ l. g.live_charge area l + g.live_husks area l) (g.old_charge area) (suc it.top) in
      omega arith

  -- and the used words, with what cells may need, are within those numbers
  used_within : total (λ l. used_words g (of_class area l)) (suc it.top) + total (λ l. spares_in it.store it.map (classes g) (in_class area l)) (suc it.top) ≤ total (λ l. g.live_charge area l + g.live_husks area l) (suc it.top)
  used_within =
      let x = total-add (λ l. used_words g (of_class area l)) (λ l. spares_in it.store it.map (classes g) (in_class area l)) (suc it.top) in
      let y = total-le (λ l. used_words g (of_class area l) + spares_in it.store it.map (classes g) (in_class area l)) (λ l. g.live_charge area l + g.live_husks area l) (suc it.top) (λ l low. on.kept.room_live area l) in
      omega arith

  -- for a new object, with its charge
  pub new_room : (words charge : ℕ) → area < length it.areas → words ≤ charge → account it.top it.store it.aim area + charge ≤ (rule_of it.areas area).quota → words_of_area t area + words ≤ 2 * quota_of t area
  new_room words charge low few fits =
      let a = words_split in
      let b = old_within low in
      let c = live_within in
      let d = used_within in
      let q = quota_agrees m t it on area low in
      omega arith

  -- for an object that moves out of an old class
  pub moved_room : (words charge from : ℕ) → area < length it.areas → words ≤ charge → from < suc it.top → charge ≤ g.old_charge area from → words_of_area t area + words ≤ 2 * quota_of t area
  moved_room words charge from low few from_low enough =
      let a = words_split in
      let b = old_within low in
      let c = live_within in
      let d = used_within in
      let e = at_most_total (g.old_charge area) from (suc it.top) from_low in
      let f = on.kept.quota area low in
      let q = quota_agrees m t it on area low in
      omega arith

  -- for what the cells of a live class may need
  pub spare_room : (words level : ℕ) → area < length it.areas → level < suc it.top → words ≤ spares_in it.store it.map (classes g) (in_class area level) → words_of_area t area + words ≤ 2 * quota_of t area
  spare_room words level low level_low few =
      let a = words_split in
      let b = old_within low in
      let c = live_within in
      let d = used_within in
      let e = at_most_total (λ l. spares_in it.store it.map (classes g) (in_class area l)) level (suc it.top) level_low in
      let f = on.kept.quota area low in
      let q = quota_agrees m t it on area low in
      omega arith
