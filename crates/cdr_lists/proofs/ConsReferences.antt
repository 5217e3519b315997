-- A cons is found by a word.
use Rattle.std.proofs.Common.{◌≡◌, ℕ, sym, ◌∙◌, ap, subst, List}
use Rattle.store_word.specs.Words.{Parts}
use Rattle.store_word.specs.declared.word.Content.{Content}
use Rattle.store_word.specs.declared.word.Content.TheVariants.{List as ListAt}
use Rattle.mem_port.specs.Store.{StoresNothing}
use Rattle.mem_port.specs.Store as Memory
use Rattle.area_space.specs.Table.{Table}
use Rattle.obj_layout.specs.Forwards.{word_at, Final}
use Rattle.transporter.specs.lisp_meaning.Roles.{AsCons}
use Rattle.transporter.proofs.lisp_ground.words.FinalAddresses.{has_final, one_final}
use Rattle.transporter.proofs.FetchedWords.{later-read}
use Rattle.cdr_lists.specs.Reading.{CanFind, IsConsAt, IsConsPlace, IsReadable, KeepsCons}
use Rattle.cdr_lists.specs.declared.places.ConsHead.{ConsHead}
use Rattle.cdr_lists.proofs.ConsAddresses.{readable_at}

pub can_find : (m : Memory.Store) (t : Table) (word : Parts) → IsReadable m t word → CanFind m.words word.content
can_find m t word x at is =
    let r = readable_at m t word at is x in
    has_final m t r.it r.can.kept AsCons at r.name r.can.named

-- only reads were made
pub reads_keep_cons : {m m1 : Memory.Store} (t : Table) (content : Content) → StoresNothing m m1 → KeepsCons m t m1 t content
reads_keep_cons {m} {m1} t content stays it registers v can = later-read m m1 t it can.kept stays

-- a word refers to one place
pub same_place : (words : List Parts) (content : Content) (a b : ℕ) → IsConsPlace words content a → IsConsPlace words content b → a ≡ b
same_place words content a b x y =
    let same : x.reference ≡ y.reference = same_reference x.reference y.reference (sym x.is ∙ y.is) in
    one_final words y.reference a b (subst (λ (r : ℕ). Final words r a) same x.final) y.final
  where
    same_reference : (i j : ℕ) → ListAt i ≡ ListAt j → i ≡ j
    same_reference i j e = cc

-- a cons that was read has its cdr code there, and does after reads
pub code_after : {m n : Memory.Store} {content : Content} {cons : ConsHead} → IsConsAt m.words content cons → StoresNothing m n → (word_at n.words cons.at).cdr ≡ cons.code
code_after {m} {n} {content} {cons} is reads = ap (λ (ws : List Parts). (word_at ws cons.at).cdr) reads.words ∙ is.code

-- and it is that of each place to which the word refers
pub code_there : {words : List Parts} {content : Content} {cons : ConsHead} (to : ℕ) → IsConsAt words content cons → IsConsPlace words content to → (word_at words to).cdr ≡ cons.code
code_there {words} {content} {cons} to is there = ap (λ (a : ℕ). (word_at words a).cdr) (same_place words content to cons.at there is.place) ∙ is.code
