-- What a cell that is relocated does to scanned words.
use Rattle.std.proofs.Common.{◌≡◌, ℕ, ◌+◌, ◌/◌, ◌<◌, ◌⊎◌, inl, inr, refl, sym, ◌∙◌, ap, subst, arith, List, length, Some, None}
use Rattle.std.proofs.lemmas.Bool.{cases_eq}
use Rattle.store_word.specs.Words.{Parts, null_word}
use Rattle.store_word.specs.declared.word.Content.TheVariants.{HeaderForward}
use Rattle.mem_port.specs.Store as Memory
use Rattle.area_space.specs.Table.{Table}
use Rattle.area_space.specs.Sound.{IsTable}
use Rattle.obj_layout.specs.Forwards.{word_at}
use Rattle.transporter.specs.lisp_ground.Writes.{Within}
use Rattle.transporter.proofs.lisp_ground.words.Words.{get_or_same}
use Rattle.transporter.specs.Growth.{OpensOrStays}
use Rattle.transporter.specs.LiveWordsUnchanged.{IsLiveWord, LiveWordsUnchangedExcept}
use Rattle.transporter.specs.Preserving.{NoOldAddresses, FreshOn, PreservesScanned}
use Rattle.transporter.specs.Marking.{IsForward, MarksFollow}
use Rattle.transporter.proofs.lisp_ground.words.WrittenWords.{stores_within}
use Rattle.transporter.proofs.UsedEnds.{Extends, end-alive, used-apart}
use Rattle.transporter.proofs.PageMarks.{marks-forward, marks-placed, marks-then}
use Rattle.transporter.proofs.MovedParcels.{got-word_at}
use Rattle.transporter.proofs.ScannedWords.{laid-stays_fresh, laid-preserves, live-fresh, opened-grows}
use Rattle.cdr_lists.specs.Parts.{WritesRelay}
use Rattle.cdr_lists.specs.Words.{plain}

module _ (m m1 m2 : Memory.Store) (t room t2 : Table) (v : IsTable t) (v2 : IsTable t2) (same : m1.words ≡ m.words) (opens : OpensOrStays t room) (slot at cell : ℕ) (first second : Parts) (x : Extends room t2 slot at 2) (w : WritesRelay m1 m2 cell at first second) where
  forward_fresh : FreshOn t2 (word_at m2.words cell).content
  forward_fresh =
      let is = ap (λ (p : Parts). p.content) (got-word_at m2.words cell _ w.forward_at) in
      subst (FreshOn t2) (sym is) (live-fresh (HeaderForward at) at v2 (end-alive room t2 slot at 2 x) refl)

  -- the words except the cell's are those that were written before the forward
  behind : (a : ℕ) → (a ≡ cell → ⊥) → word_at m2.words a ≡ word_at w.mid.words a
  behind a ne = get_or_same m2.words w.mid.words a null_word ((stores_within w.mid m2 cell (plain (HeaderForward at)) w.rest).others a (λ h. let low = h.0 in let high = h.1 in ne (omega arith)))

  -- no word changes except the cell's and the pair's
  pub relay_rest : (a : ℕ) → (a ≡ cell → ⊥) → (Within at 2 a → ⊥) → word_at m2.words a ≡ word_at m.words a
  relay_rest a ne apart = behind a ne ∙ w.pair.others a apart ∙ ap (λ (ws : List Parts). word_at ws a) same

  pub relay_preserves : PreservesScanned m t m2 t2
  relay_preserves = laid-preserves m m2 t room t2 v2 opens slot at 2 (omega arith) x v kept
    where
      kept : (a : ℕ) → IsLiveWord t a → (Within at 2 a → ⊥) → (word_at m2.words a ≡ word_at m.words a) ⊎ FreshOn t2 (word_at m2.words a).content
      kept a l apart = elim (cases_eq a cell) [
        | inl e ↦ inr (subst (λ (i : ℕ). FreshOn t2 (word_at m2.words i).content) (sym e) forward_fresh)
        | inr ne ↦ inl (relay_rest a ne apart)
      ]

  -- the pair lies past what was used
  behind_live : (a : ℕ) → IsLiveWord t a → Within at 2 a → ⊥
  behind_live a l = used-apart room t2 slot at 2 x a (let u = l.used in let r = (opened-grows v opens).used (a / 4096) in omega arith)

  pub relay_others : LiveWordsUnchangedExcept m t m2 t2 cell
  relay_others = record {
    table = relay_preserves.grows;
    words = λ a ne l. relay_rest a ne (behind_live a l);
  }

  -- pages get marks by the pair, and by the forward
  pub relay_marks : cell < length m1.words → IsLiveWord t cell → (IsForward (word_at m1.words cell) → ⊥) → MarksFollow m1 room m2 t2
  relay_marks inside live no_forward =
      let same_cell = w.pair.others cell (behind_live cell live) in
      let size = w.pair.size in
      marks-then (marks-placed v2 x w.pair)
      (marks-forward t2 cell (plain (HeaderForward at)) w.rest (omega arith) (λ f. no_forward (subst IsForward same_cell f)) refl (λ old. let e : None ≡ Some old.0 = old.1 in absurd (cc)))

  pub relay_first : IsLiveWord t cell → word_at m2.words at ≡ first
  relay_first live = behind at (λ e. behind_live cell live ((omega arith), (omega arith))) ∙ got-word_at w.mid.words at first w.first_at

  pub relay_second : IsLiveWord t cell → word_at m2.words (at + 1) ≡ second
  relay_second live = behind (at + 1) (λ e. behind_live cell live ((omega arith), (omega arith))) ∙ got-word_at w.mid.words (at + 1) second w.second_at

  pub relay_forward : word_at m2.words cell ≡ plain (HeaderForward at)
  relay_forward = got-word_at m2.words cell _ w.forward_at

  -- if the words of the pair are fresh
  pub relay_stays_fresh : IsLiveWord t cell → FreshOn t2 first.content → FreshOn t2 second.content → NoOldAddresses m t → NoOldAddresses m2 t2
  relay_stays_fresh live car cdr = laid-stays_fresh m m2 t room t2 slot at 2 v v2 opens x relay_preserves new
    where
      apart : (a : ℕ) → Within at 2 a → a ≡ cell → ⊥
      apart a within e = used-apart room t2 slot at 2 x cell (let u = live.used in let r = (opened-grows v opens).used (cell / 4096) in omega arith) (subst (Within at 2) e within)

      part : (i : ℕ) → i < 2 → word_at m2.words (at + i) ≡ word_at w.mid.words (at + i)
      part i low = behind (at + i) (λ e. apart (at + i) ((omega arith), (omega arith)) e)

      new : (i : ℕ) → i < 2 → FreshOn t2 (word_at m2.words (at + i)).content
      new i low = elim (cases_eq i 0) [
        | inl e ↦
            let place : at + i ≡ at = omega arith in
            let is = part i low ∙ ap (word_at w.mid.words) place ∙ got-word_at w.mid.words at first w.first_at in
            subst (λ (p : Parts). FreshOn t2 p.content) (sym is) car
        | inr ne ↦
            let place : at + i ≡ at + 1 = omega arith in
            let is = part i low ∙ ap (word_at w.mid.words) place ∙ got-word_at w.mid.words (at + 1) second w.second_at in
            subst (λ (p : Parts). FreshOn t2 p.content) (sym is) cdr
      ]
