-- The images that represent no state, and the right ones beside them.
use Rattle.std.proofs.Common.{subst, ◌≡◌, ◌==◌, ℕ, zero, suc, ◌+◌, ◌*◌, ◌/◌, ◌<◌, ◌≤◌, ◌⊎◌, inl, inr, Bool, true, false, ◌&&◌, if◌then◌else◌, refl, sym, ap, arith, [], ◌∷◌, Option, Some, None, is_some, IsTrue}
use Rattle.std.specs.Prelude.{nat_lt, get_or}
use Rattle.std.proofs.lemmas.Bool.{eqb-true, ltb-true}
use Rattle.lisp_graph.specs.store_word.Words.{Parts, null_word, address_of}
use Rattle.lisp_graph.specs.declared.object.Value.TheVariants as V
use Rattle.lisp_graph.specs.declared.command.Condemn.{Condemn}
use Rattle.lisp_graph.specs.declared.command.Condemn.TheVariants.{Full, Chosen}
use Rattle.lisp_graph.specs.Totals.{total, if_true}
use Rattle.lisp_meaning.specs.machine.Maps.{some_below}
use Rattle.lisp_meaning.specs.machine.State.{no_aim, survivor, object, in_use}
use Rattle.lisp_meaning.specs.reading.Image.{Live, Old, no_region, Image, word, region, is_live, is_old, is_free, old_at, is_used}
use Rattle.lisp_meaning.specs.reading.Classes.{of_class}
use Rattle.lisp_meaning.specs.reading.Forwards.{Final, here}
use Rattle.lisp_meaning.specs.reading.Value.{Means, nil}
use Rattle.lisp_meaning.specs.reading.Objects.{StandsAt, Within, Objects, whole_block, last_cell}
use Rattle.lisp_meaning.specs.reading.Marks.{Marks}
use Rattle.lisp_meaning.specs.reading.Stands.{Classes, Fresh, IsScanned, Room, Work}
use Rattle.lisp_meaning.specs.examples.Worked.{image, nothing}
use Rattle.lisp_meaning.specs.examples.Misread as E
use Rattle.lisp_meaning.specs.examples.Misread.{neighbours, two_objects, words_in, block_after_husk, husk_of, husks_alone, chain, five_below, marked_by, referring_to, scanning, used_region, one_pair, pair_in, condemning, owing, running}

-- Objects

below_two : (n : ℕ) → in_use two_objects n → n < 2
below_two n u = by (nat_lt n 2) refl u
  where
    by : (b : Bool) → nat_lt n 2 ≡ b → IsTrue (is_some {T = ℕ} (if b then Some 0 else None)) → n < 2
    by true e u = ltb-true n 2 e
    by false e u = absurd (cc)

third : Objects (image neighbours nothing nothing None) two_objects (λ n. 2 * n)
third = record {
  names = below_two;
  final = λ n u. final n u;
  used = λ n u. used n u;
  stands = λ n u. stands n u;
  apart = λ m n a u v w x. apart m n a u v w x;
}
  where
    g : Image
    g = image neighbours nothing nothing None

    final : (n : ℕ) → in_use two_objects n → Final g (2 * n) (2 * n)
    final zero u = (0, 0, omega arith, omega arith, here refl)
    final (suc zero) u = (0, 0, omega arith, omega arith, here refl)
    final (suc (suc n)) u = let l = below_two (suc (suc n)) u in absurd (omega arith)

    used : (n : ℕ) → in_use two_objects n → IsTrue (is_used g (2 * n)) × (is_free (region g (2 * n)).standing ≡ false)
    used zero u = (refl, refl)
    used (suc zero) u = (refl, refl)
    used (suc (suc n)) u = let l = below_two (suc (suc n)) u in absurd (omega arith)

    stands : (n : ℕ) → in_use two_objects n → StandsAt g two_objects (λ n. 2 * n) (2 * n) (object two_objects n)
    stands zero u = whole_block 0 refl refl refl refl (λ i l. field i l)
      where
        field : (i : ℕ) → i < 1 → Means g two_objects (λ n. 2 * n) (word g (1 + i)).content (get_or (V.Nil ∷ []) i V.Nil)
        field zero l = nil
        field (suc i) l = absurd (omega arith)
    stands (suc zero) u = last_cell 2 refl refl refl nil
    stands (suc (suc n)) u = let l = below_two (suc (suc n)) u in absurd (omega arith)

    apart : (m n a : ℕ) → in_use two_objects m → in_use two_objects n → Within g (2 * m) a → Within g (2 * n) a → m ≡ n
    apart zero zero a u v w x = refl
    apart zero (suc zero) a u v w x = let low : a < 2 = w.1 in let high : 2 ≤ a = x.0 in absurd (omega arith)
    apart (suc zero) zero a u v w x = let low : a < 2 = x.1 in let high : 2 ≤ a = w.0 in absurd (omega arith)
    apart (suc zero) (suc zero) a u v w x = refl
    apart (suc (suc m)) n a u v w x = let l = below_two (suc (suc m)) u in absurd (omega arith)
    apart m (suc (suc n)) a u v w x = let l = below_two (suc (suc n)) v in absurd (omega arith)

pub words_apart : E.WordsApart
words_apart = record {
  third = third;
  second = λ o. (
      let low : 1 < 2 = omega arith in
      let e = o.apart 0 1 1 refl refl (omega arith, low) (omega arith, low) in
      absurd (cc)
      );
}

-- Room

few : (b : Bool) (used : ℕ) → used ≤ 4000 → if_true b 1 + (if_true b used + 0) + 0 ≤ 4096
few true used l = omega arith
few false used l = omega arith

more : Room (chain 2049) husks_alone no_aim (λ n. n)
unfolding total
more = record {
  live = λ area level. few (of_class area level (used_region Live 0 1)) 2049 (omega arith);
  husks = λ area level. (let x : 0 ≤ 4096 = omega arith in x);
  old = λ area. (let x : 0 ≤ 0 = omega arith in x);
  chains = λ i l free last. chains i l last;
  above = λ a e. refl;
}
  where
    chains : (i : ℕ) → i < 2 → (i == 1) ≡ false → 2048 < (get_or (chain 2049).regions i no_region).used
    chains zero l last = (let x : 2048 < 2049 = omega arith in x)
    chains (suc zero) l last = absurd (cc)
    chains (suc (suc i)) l last = absurd (omega arith)

pub chain_is_full : E.ChainIsFull
chain_is_full = record {
  more = more;
  half = λ r. (let x : 2048 < 2048 = r.chains 0 (omega arith) refl refl in absurd (omega arith));
}

one : (b : Bool) → if_true b 1 + 0 + 0 ≤ 4096
one true = omega arith
one false = omega arith

one_word : (b : Bool) → if_true (b && true) 1 + 0 ≤ 4096
one_word true = omega arith
one_word false = omega arith

below : Room (five_below 1) husks_alone no_aim (λ n. n)
unfolding total some_below
below = record {
  live = λ area level. one (of_class area level (used_region Live 0 1));
  husks = λ area level. one_word (of_class area level (used_region Live 0 1));
  old = λ area. (let x : 0 ≤ 0 = omega arith in x);
  chains = λ i l free last. absurd (cc);
  above = λ a e. above a e;
}
  where
    above : (a : ℕ) → is_used (five_below 1) a ≡ false → word (five_below 1) a ≡ null_word
    above zero e = absurd (cc)
    above (suc a) e = refl

pub null_above : E.NullAbove
null_above = record {
  below = below;
  above = λ r. (let e = ap (λ (w : Parts). w.content) (r.above 0 refl) in absurd (cc));
}

room_four : (b : Bool) → if_true b 10 + 0 + 2 * (if_true (b && false) 1 + (if_true (b && false) 1 + (if_true (b && false) 1 + 0))) ≤ if_true b 3 + (if_true b 3 + (if_true b 2 + 0)) + 4
room_four true = omega arith
room_four false = omega arith

husks_four : (b : Bool)
    → if_true (b && false) 1 + (if_true (b && false) 1 + (if_true (b && false) 1 + (if_true (b && false) 1 + (if_true (b && false) 1 + (if_true (b && false) 1
    + (if_true (b && true) 1 + (if_true (b && true) 1 + (if_true (b && true) 1 + (if_true (b && true) 1 + 0))))))))) ≤ 4
husks_four true = omega arith
husks_four false = omega arith

four_words : Room (words_in block_after_husk (used_region Live 0 10 ∷ [])) (husk_of 4) no_aim (λ n. 4 + 2 * n)
unfolding total some_below
four_words = record {
  live = λ area level. room_four (of_class area level (used_region Live 0 10));
  husks = λ area level. husks_four (of_class area level (used_region Live 0 10));
  old = λ area. (let x : 0 ≤ 0 = omega arith in x);
  chains = λ i l free last. absurd (cc);
  above = λ a e. above a e;
}
  where
    above : (a : ℕ) → is_used (words_in block_after_husk (used_region Live 0 10 ∷ [])) a ≡ false → word (words_in block_after_husk (used_region Live 0 10 ∷ [])) a ≡ null_word
    above zero e = absurd (cc)
    above (suc zero) e = refl
    above (suc (suc zero)) e = refl
    above (suc (suc (suc zero))) e = refl
    above (suc (suc (suc (suc zero)))) e = absurd (cc)
    above (suc (suc (suc (suc (suc zero))))) e = absurd (cc)
    above (suc (suc (suc (suc (suc (suc zero)))))) e = absurd (cc)
    above (suc (suc (suc (suc (suc (suc (suc zero))))))) e = absurd (cc)
    above (suc (suc (suc (suc (suc (suc (suc (suc zero)))))))) e = absurd (cc)
    above (suc (suc (suc (suc (suc (suc (suc (suc (suc zero))))))))) e = absurd (cc)
    above (suc (suc (suc (suc (suc (suc (suc (suc (suc (suc a)))))))))) e = refl

three_words : Room (words_in block_after_husk (used_region Live 0 10 ∷ [])) (husk_of 3) no_aim (λ n. 4 + 2 * n) → ⊥
unfolding total some_below
three_words r = let x : 4 ≤ 3 = r.husks 0 0 in absurd (omega arith)

pub husks_are_few : E.HusksAreFew
husks_are_few = record { four = four_words; three = three_words }

-- Marks

-- an option has one value
same : {m n : ℕ} → Some m ≡ Some n → m ≡ n
same e = cc

marked : Marks (marked_by (λ p l. p == 0 && l == 1))
marked = record { marked = λ a b e l. mark a b e; not_free = λ a b e. live a b e }
  where
    g : Image
    g = marked_by (λ p l. p == 0 && l == 1)

    mark : (a b : ℕ) → address_of (word g a).content ≡ Some b → IsTrue (g.marks (a / 256) (region g b).level)
    mark zero b e = subst (λ (x : ℕ). IsTrue (g.marks 0 (region g x).level)) (same e) refl
    mark (suc a) b e = absurd (cc)

    live : (a b : ℕ) → address_of (word g a).content ≡ Some b → is_free (region g b).standing ≡ false
    live zero b e = subst (λ (x : ℕ). is_free (region g x).standing ≡ false) (same e) refl
    live (suc a) b e = absurd (cc)

pub page_is_marked : E.PageIsMarked
page_is_marked = record {
  marked = marked;
  other_page = λ m. (let l : 1 ≤ 1 = omega arith in let x = m.marked 0 256 refl l in absurd (cc));
  other_level = λ m. (let l : 1 ≤ 1 = omega arith in let x = m.marked 0 256 refl l in absurd (cc));
}

old : Marks (referring_to Old)
old = record { marked = λ a b e l. mark a b e l; not_free = λ a b e. stays a b e }
  where
    g : Image
    g = referring_to Old

    mark : (a b : ℕ) → address_of (word g a).content ≡ Some b → 1 ≤ (region g b).level → IsTrue (g.marks (a / 256) (region g b).level)
    mark zero b e l = (let x : 1 ≤ 0 = subst (λ (x : ℕ). 1 ≤ (region g x).level) (sym (same e)) l in absurd (omega arith))
    mark (suc a) b e l = absurd (cc)

    stays : (a b : ℕ) → address_of (word g a).content ≡ Some b → is_free (region g b).standing ≡ false
    stays zero b e = subst (λ (x : ℕ). is_free (region g x).standing ≡ false) (same e) refl
    stays (suc a) b e = absurd (cc)

pub none_is_free : E.NoneIsFree
none_is_free = record {
  old = old;
  free = λ m. (let x = m.not_free 0 4096 refl in absurd (cc));
}

-- The scan

both : IsScanned (scanning Old true true) false
both = record {
  left = λ a l e. left a l;
  registers = λ r l e. registers r l e;
  words = λ a l live e. words a l e;
  finished = λ e. absurd (cc);
  unfinished = λ n. (let x = n.0 0 (omega arith) in absurd (cc));
}
  where
    g : Image
    g = scanning Old true true

    left : (a : ℕ) → a < 1 → IsTrue (is_used g a) × ((region g a).standing ≡ Live)
    left zero l = (refl, refl)
    left (suc a) l = absurd (omega arith)

    registers : (r : ℕ) → r < 1 → g.register_left r ≡ false → Fresh g (get_or g.registers r null_word).content
    registers zero l e = absurd (cc)
    registers (suc r) l e = absurd (omega arith)

    words : (a : ℕ) → a < 1 → g.word_left a ≡ false → Fresh g (word g a).content
    words zero l e = absurd (cc)
    words (suc a) l e = absurd (omega arith)

not_and : (b : Bool) → (b && false) ≡ true → ⊥
not_and true e = cc
not_and false e = cc

-- nothing remains to be scanned: an address of a live region is none of an old one
none_left : (b : Bool) → (b && false) ≡ false
none_left true = refl
none_left false = refl

none : IsScanned (scanning Live false false) true
none = record {
  left = λ a l e. absurd (not_and (a == 0) e);
  registers = λ r l e. registers r l;
  words = λ a l live e. words a l;
  finished = λ e. (λ r l. none_left (r == 0), λ a l. none_left (a == 0));
  unfinished = λ n. refl;
}
  where
    g : Image
    g = scanning Live false false

    fresh : (a : ℕ) → Some 4096 ≡ Some a → old_at g a ≡ false
    fresh a e = subst (λ (x : ℕ). old_at g x ≡ false) (same e) refl

    registers : (r : ℕ) → r < 1 → Fresh g (get_or g.registers r null_word).content
    registers zero l = fresh
    registers (suc r) l = absurd (omega arith)

    words : (a : ℕ) → a < 1 → Fresh g (word g a).content
    words zero l = fresh
    words (suc a) l = absurd (omega arith)

pub old_is_left : E.OldIsLeft
old_is_left = record {
  both = both;
  word_alone = λ x. (let y = x.registers 0 (omega arith) refl 4096 refl in absurd (cc));
  register_alone = λ x. (let y = x.words 0 (omega arith) refl refl 4096 refl in absurd (cc));
  over = λ x. (let y = (x.finished refl).0 0 (omega arith) in absurd (cc));
  none = none;
  not_over = λ x. (let y = x.unfinished (λ r l. none_left (r == 0), λ a l. none_left (a == 0)) in absurd (cc));
}

-- Accounts

equal : E.Tells 2 2
unfolding total
equal zero l = (refl, (let x : 2 ≤ 2 = omega arith in x))
equal (suc a) l = absurd (omega arith)

not_two : (n : ℕ) → n ≡ 1 → n ≡ 2 → ⊥
not_two n a b = absurd (omega arith)

less : E.Tells 1 2 → ⊥
unfolding total
less t = not_two 1 refl (t 0 (omega arith)).0

above_quota : E.Tells 2 1 → ⊥
unfolding total
above_quota t = let x : 2 ≤ 1 = (t 0 (omega arith)).1 in absurd (omega arith)

pub account_is_true : E.AccountIsTrue
account_is_true = record { equal = equal; less = less; above_quota = above_quota }

-- Classes

other_name : (n : ℕ) → in_use one_pair (suc n) → ⊥
other_name n u = by (suc n == 0) refl u
  where
    by : (b : Bool) → (suc n == 0) ≡ b → IsTrue (is_some {T = ℕ} (if b then Some 0 else None)) → ⊥
    by true e u = let x = eqb-true (suc n) 0 e in absurd (omega arith)
    by false e u = absurd (cc)

not_old : Live ≡ Old → ⊥
not_old e = let x = ap is_live e in absurd (cc)

not_live : Old ≡ Live → ⊥
not_live e = let x = ap is_live e in absurd (cc)

not_one : (n : ℕ) → n ≡ 1 → n ≡ 0 → ⊥
not_one n a b = absurd (omega arith)

live : Classes (pair_in Live 0) 1 one_pair no_aim (λ n. n)
live = record { area = λ n u. area n u; spared = λ n level e c. spared n level e; doomed = λ n level e c. absurd (cc) }
  where
    area : (n : ℕ) → in_use one_pair n → (region (pair_in Live 0) n).area ≡ (object one_pair n).area
    area zero u = refl
    area (suc n) u = absurd (other_name n u)

    spared : (n level : ℕ) → one_pair.held n ≡ Some level → ((region (pair_in Live 0) n).standing ≡ Live) × ((region (pair_in Live 0) n).level ≡ level)
    spared zero level e = (refl, same e)
    spared (suc n) level e = absurd (other_name n (ap is_some e))

pub spared_stays_live : E.SparedStaysLive
spared_stays_live = record {
  live = live;
  other_level = λ c. not_one 1 refl (c.spared 0 0 refl refl).1;
  old = λ c. not_live (c.spared 0 0 refl refl).0;
}

abbrev Doomed : Image → Bool → ℕ → ℕ → Type 0
Doomed g bound n level =
    (((region g n).standing ≡ Old) × ((region g n).level ≡ level))
    ⊎ (((region g n).standing ≡ Live) × ((region g n).level ≡ survivor 1 Full level) × ((condemning bound).bound n ≡ true))

condemned : (g : Image) (bound : Bool) → (region g 0).area ≡ 0 → Doomed g bound 0 0 → Classes g 1 one_pair (condemning bound) (λ n. n)
condemned g bound at_area at_level = record { area = λ n u. area n u; spared = λ n level e c. spared n level e c; doomed = λ n level e c. doomed n level e }
  where
    area : (n : ℕ) → in_use one_pair n → (region g n).area ≡ (object one_pair n).area
    area zero u = at_area
    area (suc n) u = absurd (other_name n u)

    spared : (n level : ℕ) → one_pair.held n ≡ Some level → (n == 0) ≡ false → ((region g n).standing ≡ Live) × ((region g n).level ≡ level)
    spared zero level e c = absurd (cc)
    spared (suc n) level e c = absurd (other_name n (ap is_some e))

    doomed : (n level : ℕ) → one_pair.held n ≡ Some level → Doomed g bound n level
    doomed zero level e = subst (λ (l : ℕ). Doomed g bound 0 l) (same e) at_level
    doomed (suc n) level e = absurd (other_name n (ap is_some e))

unbound : Doomed (pair_in Live 0) false 0 0 → ⊥
unbound (inl x) = not_old x.0
unbound (inr x) = let y = x.2 in absurd (cc)

other_survivor : Doomed (pair_in Live 1) true 0 0 → ⊥
other_survivor (inl x) = not_old x.0
other_survivor (inr x) = not_one 1 refl x.1

other_level : Doomed (pair_in Old 1) false 0 0 → ⊥
other_level (inl x) = not_one 1 refl x.1
other_level (inr x) = not_live x.0

pub doomed_moves_bound : E.DoomedMovesBound
doomed_moves_bound = record {
  moved = condemned (pair_in Live 0) true refl (inr (refl, refl, refl));
  waiting = condemned (pair_in Old 0) false refl (inl (refl, refl));
  unbound = λ c. unbound (c.doomed 0 0 refl refl);
  other_survivor = λ c. other_survivor (c.doomed 0 0 refl refl);
  other_level = λ c. other_level (c.doomed 0 0 refl refl);
}

-- The phase and the work

none_old : (i : ℕ) → is_old (get_or (referring_to Live).regions i no_region).standing ≡ false
none_old zero = refl
none_old (suc zero) = refl
none_old (suc (suc i)) = refl

is_chosen : Option Condemn → Bool
is_chosen None = false
is_chosen (Some Full) = false
is_chosen (Some (Chosen levels)) = true

pub phase_is_told : E.PhaseIsTold
phase_is_told = record {
  same = (refl, record { left = both.left; registers = both.registers; words = both.words; finished = both.finished; unfinished = both.unfinished });
  other = λ p. (let x = ap is_chosen p.0 in absurd (cc));
  none = λ p. (let x = ap (λ (o : Option Condemn). is_some o) p.0 in absurd (cc));
  idle = (refl, λ a. none_old (a / 4096));
  idle_and_old = λ p. (let x = p.1 4096 in absurd (cc));
}

five : Work (running (Some Full)) one_pair (λ n. 4096) (owing 5)
unfolding total
five over = let x : 5 ≤ 5 = omega arith in x

four : Work (running (Some Full)) one_pair (λ n. 4096) (owing 4) → ⊥
unfolding total
four w = let x : 5 ≤ 4 = w refl in absurd (omega arith)

pub work_is_owed : E.WorkIsOwed
work_is_owed = record { five = five; four = four }
