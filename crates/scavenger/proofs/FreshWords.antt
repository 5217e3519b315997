-- Words without an old address, by the table and by the image.
use Rattle.std.proofs.Common.{◌≡◌, ℕ, ◌/◌, ◌%◌, ◌<◌, ◌≤◌, ◌⊎◌, inl, inr, true, false, length, ap, None}
use Rattle.std.proofs.lemmas.Bool.{cases_Bool}
use Rattle.store_word.specs.Words.{Parts, null_word, address_of}
use Rattle.store_word.specs.declared.word.Content.{Content}
use Rattle.mem_port.specs.Store.{Store}
use Rattle.area_space.specs.Table.{Table, used_of}
use Rattle.area_space.specs.Sound.{IsTable}
use Rattle.area_space.specs.Ground.{IsGround}
use Rattle.transporter.specs.obj_layout.Forwards.{word_at}
use Rattle.transporter.specs.lisp_meaning.Image.{old_at}
use Rattle.transporter.specs.lisp_meaning.Stands.{Fresh}
use Rattle.transporter.specs.lisp_ground.Image.{Rest, image_of}
use Rattle.transporter.proofs.lisp_ground.words.Words.{get_or_here}
use Rattle.transporter.proofs.lisp_ground.regions.OldAndLive.{old_region, not_old_region}
use Rattle.transporter.specs.Preserving.{FreshOn}

pub fresh-image : (m : Store) (t : Table) (rest : Rest) (content : Content) → IsTable t → FreshOn t content → Fresh (image_of m t rest) content
fresh-image m t rest content v fresh b e = go (cases_Bool (old_at (image_of m t rest) b))
  where
    go : (old_at (image_of m t rest) b ≡ true) ⊎ (old_at (image_of m t rest) b ≡ false) → old_at (image_of m t rest) b ≡ false
    go (inl old) = absurd (fresh b e (old_region m t rest v b old))
    go (inr young) = young

pub image-fresh : (m : Store) (t : Table) (rest : Rest) (content : Content) → IsTable t → Fresh (image_of m t rest) content → FreshOn t content
image-fresh m t rest content v fresh b e old = not_old_region m t rest v b (fresh b e) old

-- a word that isn't used is NULL
pub unused-fresh : (m : Store) (t : Table) (a : ℕ) → IsGround m t → a < length m.words → used_of t (a / 4096) ≤ a % 4096 → FreshOn t (word_at m.words a).content
unused-fresh m t a g low past b e old =
    let null : word_at m.words a ≡ null_word = get_or_here m.words a null_word null_word (g.blank a low past) in
    let none : address_of (word_at m.words a).content ≡ None = ap (λ (w : Parts). address_of w.content) null in
    absurd cc
