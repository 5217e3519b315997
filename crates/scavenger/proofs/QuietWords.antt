-- Words without an old address are scanned one after another, and nothing moves.
use Rattle.std.proofs.Common.{◌≡◌, ℕ, zero, suc, ◌+◌, ◌-◌, ◌*◌, ◌/◌, ◌%◌, ◌<◌, ◌≤◌, ◌||◌, Bool, nat_le, false, inl, List, [], ◌∷◌, length, slice_set, slice_index, Some, None, refl, sym, ◌∙◌, ap, subst, arith}
use Rattle.std.proofs.lemmas.Bool.{lt-leb}
use Rattle.std.proofs.lemmas.List.{get_or-set_same}
use Rattle.store_word.specs.Words.{Parts, address_of}
use Rattle.store_word.specs.declared.word.Content.{Content}
use Rattle.store_word.specs.declared.word.Content.TheVariants.{Null, Nil, List as ListAt, Struct as StructAt, Header, HeaderForward, GcForward, Fixnum}
use Rattle.mem_port.specs.Reading.{Passes}
use Rattle.mem_port.specs.Store.{Store}
use Rattle.area_space.specs.Table.{Table, used_of}
use Rattle.transporter.specs.obj_layout.Forwards.{word_at}
use Rattle.transporter.specs.Moving.{stays as stays_put}
use Rattle.transporter.specs.Settling.{RefersToOld, reference_of}
use Rattle.transporter.proofs.LiveObjects.{live-read}
use Rattle.transporter.proofs.FetchedWords.{same-but}
use Rattle.transporter.proofs.TransportSequences.{same-stores}
use Rattle.transporter.proofs.ScannedWords.{read-preserves}
use Rattle.transporter.proofs.SettledWords.{settles-same}
use Rattle.scavenger.specs.declared.scan_set.Unit.TheVariants.{Word}
use Rattle.scavenger.specs.Scan.{Scan}
use Rattle.scavenger.specs.Left.{IsPaged, next_of}
use Rattle.scavenger.specs.Collecting.{IsCollecting}
use Rattle.scavenger.specs.Moves.{WordMoves, MovesEach, none_moved}
use Rattle.scavenger.specs.Scanning.{EndsPage, HasAfter, MayBeOld, ScansWord, StillCollects, page_done, stays, word, word_done, words_done}
use Rattle.scavenger.specs.Sweeping.{ScansMany, ScansQuiet, nothing}
use Rattle.scavenger.proofs.PageEnds.{ended-paged}
use Rattle.scavenger.proofs.UnfinishedPages.{left-closed}
use Rattle.scavenger.proofs.FollowingWords.{following-next}
use Rattle.scavenger.proofs.NextUnits.{NextWord, next-word, next-first}
use Rattle.scavenger.proofs.UnitScans.{word-scans}
use Rattle.scavenger.proofs.ScanSequences.{collecting-after, one-more, still-twice}
use Rattle.scavenger.proofs.MovedWords.{moves-one, next-moves}

-- the later of two writes to a place remains
set-twice : (xs : List ℕ) (i x y : ℕ) → slice_set (slice_set xs i x) i y ≡ slice_set xs i y
set-twice [] i x y = refl
set-twice (z ∷ xs) zero x y = refl
set-twice (z ∷ xs) (suc i) x y = ap (λ (zs : List ℕ). z ∷ zs) (set-twice xs i x y)

-- neither of two tests is true
none-true : (b c : Bool) → b ≡ false → c ≡ false → (b || c) ≡ false
none-true b c x y = rw x y

-- a page with a used word after those that are scanned isn't done
after-left : (s : Scan) (t : Table) (page first : ℕ) → slice_index s.pages page ≡ first → first < 256 → 256 * (page % 16) + first < used_of t (page / 16) → page_done s t page ≡ false
after-left s t page first is low used =
    none-true (nat_le 256 (slice_index s.pages page)) (nat_le (used_of t (page / 16)) (256 * (page % 16) + slice_index s.pages page))
    (lt-leb 256 (slice_index s.pages page) (omega arith)) (lt-leb (used_of t (page / 16)) (256 * (page % 16) + slice_index s.pages page) (omega arith))

-- One word

module _ (m : Store) (t : Table) (scan : Scan) (registers : List Parts) (at : ℕ) (x : IsCollecting m t scan registers) (is : next_of scan t ≡ Some (Word at)) (young : RefersToOld t (word_at m.words at) → ⊥) (after : HasAfter t at 1) where
  here : NextWord scan t at
  here = next-word scan t at is

  inside : at / 256 < length scan.pages
  inside = let low = here.low in let size = x.collects.clean.pages in omega arith

  left : page_done (word_done scan at) t (at / 256) ≡ false
  left = after-left (word_done scan at) t (at / 256) (at % 256 + 1) (get_or-set_same scan.pages (at / 256) (at % 256 + 1) 0 inside) after.0 after.1

  ending : EndsPage m t (word_done scan at) m t (at / 256)
  ending = stays left refl refl

  paged : IsPaged (word_done scan at) t
  paged = ended-paged m m t t scan at (next-first scan t at here).0 inside x.collects.clean.paged ending

  -- it is scanned, and its page has another word to scan
  pub quiet-scans : ScansWord m t scan registers m t (word_done scan at) registers at
  quiet-scans = word-scans m m m t t t scan (word_done scan at) registers at (word_at m.words at) is (read-preserves t same-stores) (inl (inl refl)) (same-but at (live-read same-stores))
      (record { is = inl refl; fresh = young }) refl ending
      (λ it values v can. settles-same m t it (word_at m.words at) can.kept)
      (sym (left-closed m m t t scan at ending x.collects.kept.table.used_size paged here.going left))

  -- nothing moves
  pub quiet-moves : WordMoves m t scan m t at
  quiet-moves = record {
    memory = m;
    table = t;
    fetched = record { between = m; moves = stays_put young same-stores refl refl; stored = inl (refl, same-stores) };
    ends = stays left refl refl;
  }

  -- the following word is next
  pub quiet-next : next_of (word_done scan at) t ≡ Some (Word (at + 1))
  quiet-next = following-next scan t at is inside left

-- A reference to an old address is an address in an old region

reference-address : (c : Content) (at : ℕ) → reference_of c ≡ Some at → address_of c ≡ Some at
reference-address (ListAt a) at is = is
reference-address (StructAt a) at is = is
reference-address Null at is = absurd (let x : None ≡ Some at = is in cc)
reference-address Nil at is = absurd (let x : None ≡ Some at = is in cc)
reference-address (Header code size) at is = absurd (let x : None ≡ Some at = is in cc)
reference-address (HeaderForward a) at is = absurd (let x : None ≡ Some at = is in cc)
reference-address (GcForward a) at is = absurd (let x : None ≡ Some at = is in cc)
reference-address (Fixnum n) at is = absurd (let x : None ≡ Some at = is in cc)

-- so the words before the first that may have one have none
pub passed-young : (words : List Parts) (t : Table) (at count passed : ℕ) → Passes words (λ w. MayBeOld t w) at count passed → (i : ℕ) → i < passed → RefersToOld t (word_at words (at + i)) → ⊥
passed-young words t at count passed x i low old = x.before i low (old.0, reference-address (word_at words (at + i)).content old.0 old.1, λ inside. old.2)

-- Several words

-- this many are scanned, and the one after them is next
pub record Passed (m : Store) (t : Table) (scan : Scan) (registers : List Parts) (at count : ℕ) : Type 0 where
  pub many : ScansMany m t scan registers m t (words_done scan at count) registers count
  pub each : MovesEach m t scan registers m t (words_done scan at count) registers count
  pub still : StillCollects m t scan registers m t (words_done scan at count) registers count
  pub next : next_of (words_done scan at count) t ≡ Some (Word (at + count))

-- one more
done-more : (scan : Scan) (at n : ℕ) → at % 256 + (n + 1) < 256 → word_done (words_done scan at n) (at + n) ≡ words_done scan at (n + 1)
done-more scan at n low =
    let page : (at + n) / 256 ≡ at / 256 = omega arith in
    let first : (at + n) % 256 + 1 ≡ at % 256 + (n + 1) = omega arith in
    let more : scan.done + n + 1 ≡ scan.done + (n + 1) = omega arith in
    let set : slice_set (slice_set scan.pages (at / 256) (at % 256 + n)) ((at + n) / 256) ((at + n) % 256 + 1) ≡ slice_set scan.pages (at / 256) (at % 256 + (n + 1)) =
    rw (page, first) (set-twice scan.pages (at / 256) (at % 256 + n) (at % 256 + (n + 1))) in
    ap (λ (ps : List ℕ). (let r : Scan = record scan { pages = ps; done = scan.done + n + 1 } in r)) set ∙ ap (λ (d : ℕ). (let r : Scan = record scan { pages = slice_set scan.pages (at / 256) (at % 256 + (n + 1)); done = d } in r)) more

passed-more : (m : Store) (t : Table) (scan : Scan) (registers : List Parts) (at n : ℕ) → IsCollecting m t scan registers → HasAfter t at (n + 1) → (RefersToOld t (word_at m.words (at + n)) → ⊥)
    → Passed m t scan registers at n → Passed m t scan registers at (n + 1)
passed-more m t scan registers at n x after young p =
    let low = after.0 in
    let used = after.1 in
    let page : (at + n) / 256 ≡ at / 256 = omega arith in
    let first : (at + n) % 256 ≡ at % 256 + n = omega arith in
    let one_low : (at + n) % 256 + 1 < 256 = omega arith in
    let one_used : 256 * ((at + n) / 256 % 16) + ((at + n) % 256 + 1) < used_of t ((at + n) / 256 / 16) = rw (page, first) (let e : at % 256 + n + 1 ≡ at % 256 + (n + 1) = omega arith in rw e used) in
    let now = words_done scan at n in
    let going = collecting-after m m t t scan now registers registers n x p.still in
    let one = quiet-scans m t now registers (at + n) going p.next young (one_low, one_used) in
    let moved = next-moves m m t t now registers registers (next_of now t) (Some (Word (at + n))) p.next (quiet-moves m t now registers (at + n) going p.next young (one_low, one_used)) in
    let next = quiet-next m t now registers (at + n) going p.next young (one_low, one_used) in
    let same = done-more scan at n low in
    let to : at + n + 1 ≡ at + (n + 1) = omega arith in
    record {
      many = subst (λ (s : Scan). ScansMany m t scan registers m t s registers (n + 1)) same (one-more m m m t t t scan now (word_done now (at + n)) registers registers registers n p.many (word (at + n) one));
      each = subst (λ (s : Scan). MovesEach m t scan registers m t s registers (n + 1)) same (moves-one m m m t t t scan now (word_done now (at + n)) registers registers registers n p.each (word (at + n) one) moved);
      still = subst (λ (s : Scan). StillCollects m t scan registers m t s registers (n + 1)) same (still-twice m m m t t t scan now (word_done now (at + n)) registers registers registers n 1 p.still one.still);
      next = subst (λ (s : Scan). next_of s t ≡ Some (Word (at + n + 1))) same next ∙ ap (λ (b : ℕ). Some (Word b)) to;
    }

-- so the words before the first that has an old address
pub quiet-passed : (m : Store) (t : Table) (scan : Scan) (registers : List Parts) (at k : ℕ) → IsCollecting m t scan registers → next_of scan t ≡ Some (Word at) → HasAfter t at (k + 1)
    → ((i : ℕ) → i < k + 1 → RefersToOld t (word_at m.words (at + i)) → ⊥) → Passed m t scan registers at (k + 1)
quiet-passed m t scan registers at zero x is after young =
    let e : at + 0 ≡ at = omega arith in
    let here : RefersToOld t (word_at m.words at) → ⊥ = subst (λ (b : ℕ). RefersToOld t (word_at m.words b) → ⊥) e (young 0 (omega arith)) in
    let one = quiet-scans m t scan registers at x is here after in
    record {
      many = one-more m m m t t t scan scan (word_done scan at) registers registers registers 0 nothing (word at one);
      each = moves-one m m m t t t scan scan (word_done scan at) registers registers registers 0 none_moved (word at one) (next-moves m m t t scan registers registers (next_of scan t) (Some (Word at)) is (quiet-moves m t scan registers at x is here after));
      still = one.still;
      next = quiet-next m t scan registers at x is here after;
    }
quiet-passed m t scan registers at (suc k) x is after young =
    let e : suc k + 1 ≡ k + 1 + 1 = omega arith in
    let before : HasAfter t at (k + 1) = (let low = after.0 in let used = after.1 in (omega arith, omega arith)) in
    subst (λ (n : ℕ). Passed m t scan registers at n) (sym e) (passed-more m t scan registers at (k + 1) x (subst (λ (n : ℕ). HasAfter t at n) e after) (young (k + 1) (omega arith))
    (quiet-passed m t scan registers at k x is before (λ j low. young j (omega arith))))

-- no word was passed, or some
pub quiet-words : {m : Store} {t : Table} {scan scan' : Scan} {registers : List Parts} (at count passed : ℕ) → IsCollecting m t scan registers → next_of scan t ≡ Some (Word at) → HasAfter t at count → passed ≤ count → 0 < passed
    → Passes m.words (λ w. MayBeOld t w) at count passed → scan' ≡ words_done scan at passed → ScansQuiet m t scan registers scan' passed × (next_of scan' t ≡ Some (Word (at + passed)))
quiet-words {m} {t} {scan} {scan'} {registers} at count passed x is after few some read done =
    let k : ℕ = passed - 1 in
    let e : k + 1 ≡ passed = omega arith in
    let low = after.0 in
    let used = after.1 in
    let p : Passed m t scan registers at passed =
    subst (λ (n : ℕ). Passed m t scan registers at n) e (quiet-passed m t scan registers at k x is (omega arith, omega arith) (λ i l. passed-young m.words t at count passed read i (omega arith))) in
    subst (λ (s : Scan). ScansQuiet m t scan registers s passed × (next_of s t ≡ Some (Word (at + passed)))) (sym done) (record { many = p.many; each = p.each }, p.next)

-- the words and the page that they are on
pub words-inside : {m : Store} {t : Table} {scan : Scan} {registers : List Parts} (at count : ℕ) → IsCollecting m t scan registers → next_of scan t ≡ Some (Word at) → HasAfter t at count → (at / 256 < length scan.pages) × (at + count ≤ length m.words)
words-inside {m} {t} {scan} {registers} at count x is after =
    let low = (next-word scan t at is).low in
    let pages = x.collects.clean.pages in
    let size = x.collects.kept.ground.size in
    let page = after.0 in
    (omega arith, omega arith)
