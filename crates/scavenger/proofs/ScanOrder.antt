-- The next unit is that of the definition of collections.
use Rattle.std.proofs.Common.{◌≡◌, ℕ, zero, suc, ◌*◌, ◌/◌, Bool, ◌&&◌, length, refl, sym, ◌∙◌, ap, Option, Some, None}
use Rattle.mem_port.specs.Store.{Store}
use Rattle.area_space.specs.Table.{Table}
use Rattle.transporter.specs.lisp_meaning.Image.{Image}
use Rattle.transporter.specs.lisp_meaning.Units.{lowest, lowest_or, on_page_of, first_of}
use Rattle.transporter.specs.lisp_ground.Image.{Rest, image_of, page_start}
use Rattle.transporter.proofs.lisp_ground.regions.LatestTransport.{latest_page}
use Rattle.scavenger.specs.Left.{register_left, word_left, is_page, unit_of, near_of, rest_of}
use Rattle.scavenger.specs.Laws.{NextIsDefined, meant}

lowest-same : (p q : ℕ → Bool) (n : ℕ) → ((m : ℕ) → p m ≡ q m) → lowest p n ≡ lowest q n
unfolding lowest
lowest-same p q zero same = refl
lowest-same p q (suc n) same = ap (λ (o : Option ℕ). lowest_or o n (p n)) (lowest-same p q n same) ∙ ap (lowest_or (lowest q n) n) (same n)

-- the page of the latest transport
on-latest : (m : Store) (t : Table) (rest : Rest) (a : ℕ) → on_page_of (image_of m t rest).last_moved a ≡ is_page t.last (a / 256)
on-latest m t rest a = go t.last refl
  where
    go : (o : Option ℕ) → t.last ≡ o → on_page_of (page_start t.last) a ≡ is_page t.last (a / 256)
    go None e = ap (λ (l : Option ℕ). on_page_of (page_start l) a) e ∙ sym (ap (λ (l : Option ℕ). is_page l (a / 256)) e)
    go (Some page) e = latest_page m t rest page e a ∙ sym (ap (λ (l : Option ℕ). is_page l (a / 256)) e)

same-order : (near register far : Option ℕ) → meant (unit_of near register far) ≡ first_of near register far
same-order (Some a) register far = refl
same-order None (Some r) far = refl
same-order None None (Some a) = refl
same-order None None None = refl

pub next-defined : NextIsDefined
next-defined m t scan registers g x =
    let g_here : Image = image_of m t (rest_of scan t registers) in
    let near : near_of scan t ≡ lowest (λ a. word_left scan t a && on_page_of (page_start t.last) a) (length m.words) =
    lowest-same (λ a. word_left scan t a && is_page t.last (a / 256)) (λ a. word_left scan t a && on_page_of (page_start t.last) a) (4096 * t.regions) (λ a. ap (λ (b : Bool). word_left scan t a && b) (sym (on-latest m t (rest_of scan t registers) a)))
    ∙ ap (lowest (λ a. word_left scan t a && on_page_of (page_start t.last) a)) (sym g.size) in
    same-order (near_of scan t) (lowest (register_left scan) scan.registers) (lowest (word_left scan t) (4096 * t.regions))
    ∙ ap (λ (o : Option ℕ). first_of o (lowest (register_left scan) scan.registers) (lowest (word_left scan t) (4096 * t.regions))) near
    ∙ ap (λ (n : ℕ). first_of (lowest (λ a. word_left scan t a && on_page_of (page_start t.last) a) (length m.words)) (lowest (register_left scan) n) (lowest (word_left scan t) (4096 * t.regions))) (sym x.count)
    ∙ ap (λ (n : ℕ). first_of (lowest (λ a. word_left scan t a && on_page_of (page_start t.last) a) (length m.words)) (lowest (register_left scan) (length registers)) (lowest (word_left scan t) n)) (sym g.size)
