-- The directory has the text of each name's last save.
use Rattle.std.proofs.Common.{◌≡◌, ℕ, cond, Bool, true, false, List, [], ◌∷◌, map, fold, Option, Some, None, is_some, bytes_eq, refl, ◌∙◌, ap}
use Rattle.std.specs.declared.cmp.Ordering.{Ordering}
use Rattle.std.specs.declared.cmp.Ordering.TheVariants.{Less, Equal, Greater}
use Rattle.std.specs.Ordering.{is_eq, ordering_reverse}
use Rattle.std.specs.FinMap.Entries.{find-put}
use Rattle.std.specs.Cmp.Lexicographic.{nat_list_cmp_total}
use Rattle.std.proofs.lemmas.Map.Text.{is_eq-slice_cmp}
use Rattle.band_store.specs.Directory.{directory, last_text, name_order, named, put_name}
use Rattle.band_store.specs.Format.{Save}
use Rattle.band_store.proofs.Texts.{NamedTexts}

-- names compare as equal if they have the same bytes
ties : (x y : List ℕ) → is_eq (name_order x y) ≡ bytes_eq y x
ties x y = ap is_eq (nat_list_cmp_total.antisymm x y) ∙ turned (name_order y x) ∙ is_eq-slice_cmp y x
  where
    turned : (o : Ordering) → is_eq (ordering_reverse o) ≡ is_eq o
    turned Less = refl
    turned Equal = refl
    turned Greater = refl

last_by : (last : Option (List ℕ)) (same : Bool) (text : List ℕ) (before : Option (List ℕ)) → cond (is_some last) last (cond same (Some text) before)
    ≡ cond (is_some (cond (is_some last) last (cond same (Some text) None))) (cond (is_some last) last (cond same (Some text) None)) before
last_by (Some last) same text before = refl
last_by None true text before = refl
last_by None false text before = refl

-- the last saves replace what was there
lasts : (saves : List Save) (name : List ℕ) (bands : NamedTexts) → named name (fold (λ all (entry : List ℕ × List ℕ). put_name entry.0 entry.1 all) bands (map (λ (save : Save). (save.name, save.text)) saves))
    ≡ cond (is_some (last_text name saves)) (last_text name saves) (named name bands)
lasts [] name bands = refl
lasts (save ∷ saves) name bands =
    lasts saves name (put_name save.name save.text bands)
    ∙ ap (λ (o : Option (List ℕ)). cond (is_some (last_text name saves)) (last_text name saves) o) (find-put name_order nat_list_cmp_total name save.name save.text bands ∙ ap (λ b. cond b (Some save.text) (named name bands)) (ties name save.name))
    ∙ last_by (last_text name saves) (bytes_eq save.name name) save.text (named name bands)

pub directory_last : (saves : List Save) (name : List ℕ) → named name (directory saves) ≡ last_text name saves
directory_last saves name = lasts saves name [] ∙ or_none (last_text name saves)
  where
    or_none : (last : Option (List ℕ)) → cond (is_some last) last None ≡ last
    or_none (Some last) = refl
    or_none None = refl
