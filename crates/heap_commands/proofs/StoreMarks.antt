-- A command that stores into an object marks one page.
use Rattle.std.proofs.Common.{◌≡◌, ◌≢◌, ℕ, suc, ◌+◌, ◌/◌, ◌<◌, ◌⊎◌, inl, inr, refl, sym, ◌∙◌, ap, List, length, get_or, Some, None, arith}
use Rattle.std.proofs.lemmas.Bool.{cases_eq}
use Rattle.std.proofs.lemmas.List.{get_or-set_same}
use Rattle.store_word.specs.Words.{Parts, null_word, tag_of}
use Rattle.store_word.specs.declared.word.CdrCode.{CdrCode}
use Rattle.store_word.specs.declared.word.CdrCode.TheVariants.{Next as CdrNext, Nil as CdrNil, Normal, Second}
use Rattle.store_word.specs.declared.word.Content.{Content}
use Rattle.store_word.specs.declared.word.Content.TheVariants.{Null, Nil as NilWord, List as ListAt, Struct as StructAt, Header, HeaderForward, GcForward, Fixnum}
use Rattle.store_word.specs.declared.word.Tag.TheVariants.{List as ListTag, Struct as StructTag}
use Rattle.lisp_graph.specs.declared.object.Value.{Value}
use Rattle.lisp_graph.specs.declared.object.Value.TheVariants as V
use Rattle.lisp_graph.specs.declared.reply.Reply.{Reply}
use Rattle.lisp_graph.specs.declared.reply.Reply.TheVariants as R
use Rattle.mem_port.specs.Store.{Store, Stores, level_of_word}
use Rattle.area_space.specs.Table.{Table}
use Rattle.block_store.specs.lisp_ground.Leading.{Refers}
use Rattle.block_store.proofs.lisp_ground.words.References.{references_lead}
use Rattle.block_store.proofs.lisp_ground.invariant.Stores.{same_header_size}
use Rattle.block_store.specs.lisp_meaning.State.{object}
use Rattle.block_store.specs.lisp_meaning.Roles.{AsBlock, AsCons, header_of, value_of}
use Rattle.block_store.specs.lisp_meaning.Interpretation.{interpretation}
use Rattle.block_store.specs.obj_layout.Forwards.{Leads, forward_of, here, on, word_at}
use Rattle.block_store.specs.transporter.Marking.{MarksFollow, MarksFollowBut}
use Rattle.block_store.proofs.transporter.PageMarks.{marks-but}
use Rattle.block_store.specs.Fields.{MarksField, WritesField}
use Rattle.block_store.specs.Headers.{TellsLength}
use Rattle.cdr_lists.specs.Parts.{MarksCar, MarksCdr, WritesCar, WritesCdr}
use Rattle.cdr_lists.specs.Reading.{IsConsPlace}
use Rattle.heap_state.specs.Consistent.{RepresentsState}
use Rattle.heap_state.specs.Marks.{MarksByStoring}
use Rattle.heap_commands.proofs.ConsRegisters.{list_tagged, value_there}

-- the address to which forwards lead has no forward
ends_plain : (words : List Parts) (count at to : ℕ) → Leads words count at to → forward_of (word_at words to).content ≡ None
ends_plain words _ at _ (here e) = e
ends_plain words (suc count) at to (on {next = next} f rest) = ends_plain words count next to rest

-- a word tagged STRUCT has an address
struct_tagged : (c : Content) → (tag_of c ≢ StructTag → ⊥) → (a : ℕ) × (c ≡ StructAt a)
struct_tagged (StructAt a) struct = (a, refl)
struct_tagged Null struct = absurd (struct (λ e. cc))
struct_tagged NilWord struct = absurd (struct (λ e. cc))
struct_tagged (ListAt a) struct = absurd (struct (λ e. cc))
struct_tagged (Header i j) struct = absurd (struct (λ e. cc))
struct_tagged (HeaderForward a) struct = absurd (struct (λ e. cc))
struct_tagged (GcForward a) struct = absurd (struct (λ e. cc))
struct_tagged (Fixnum i) struct = absurd (struct (λ e. cc))

-- a cdr code is that of a pair's first word, or another
pub normal_cases : (c : CdrCode) → (c ≡ Normal) ⊎ (c ≢ Normal)
normal_cases Normal = inl refl
normal_cases CdrNext = inr (λ e. cc)
normal_cases CdrNil = inr (λ e. cc)
normal_cases Second = inr (λ e. cc)

-- a word was stored
stored_marks : {m m' : Store} {t t' : Table} (r : Reply) (at : ℕ) (w : Parts) → at < length m.words → Stores m m' at w → MarksFollowBut m t m' t' at → MarksByStoring r m t m' t'
stored_marks {m} {m'} {t} {t'} r at w inside stores but = record { at = at; but = but; low = low }
  where
    here_is : word_at m'.words at ≡ w
    here_is = ap (λ (words : List Parts). word_at words at) stores.words ∙ get_or-set_same m.words at w null_word inside

    low : r ≢ R.Fault → level_of_word m'.levels (word_at m'.words at) ≡ 0 → MarksFollow m t m' t'
    low sure none =
        let level : level_of_word m.levels w ≡ 0 = ap (λ (levels : List ℕ). level_of_word levels w) (sym stores.levels) ∙ ap (level_of_word m'.levels) (sym here_is) ∙ none in
        record {
          turns = but.turns;
          unmarked = λ page clean. elim (cases_eq page (at / 256)) [
            | inl e ↦ inl (stores.unmarked page clean (λ same. level))
            | inr ne ↦ but.unmarked page ne clean
          ];
        }

-- The word of a register refers to the object that is stored into
module _ (m m' : Store) (t t' : Table) (registers : List Parts) (target : ℕ) (low : target < length registers) (of : Parts) (read : of ≡ get_or registers target of) (x : RepresentsState m t registers) where
  module _ (list : tag_of of.content ≢ ListTag → ⊥) where
    pub refers : Refers m.words x.map x.state.store AsCons (list_tagged of.content list).0 (get_or x.state.registers target V.Nil)
    refers =
        let a = list_tagged of.content list in
        let value = get_or x.state.registers target V.Nil in
        let is : value_of x.map.role (ListAt a.0) ≡ Some value = sym (ap (value_of x.map.role) a.1) ∙ value_there m t registers target low of read x.map x.state x.represents in
        references_lead.values m t (interpretation x.map x.state) x.represents.kept AsCons a.0 value is

    abbrev pub cons_at : ℕ
    cons_at = x.map.at refers.name

    pub place : IsConsPlace m.words of.content cons_at
    place =
        let final = refers.leads.final in
        record {
          reference = (list_tagged of.content list).0;
          is = (list_tagged of.content list).1;
          final = final;
          last = record { inside = refers.leads.inside; no_forward = ends_plain m.words final.0 (list_tagged of.content list).0 cons_at final.2 };
        }

    second_in : (word_at m.words cons_at).cdr ≡ Normal → suc cons_at < length m.words
    second_in = (references_lead.conses m t (interpretation x.map x.state) x.represents.kept refers.name refers.leads.used refers.leads.kind_is).second

    pub marks_car : (value : Parts) → WritesCar m m' of.content value → MarksCar m t m' t' of.content → MarksByStoring R.Fine m t m' t'
    marks_car value writes marks = stored_marks R.Fine cons_at _ refers.leads.inside (writes cons_at place) (marks cons_at place)

    pub marks_cdr : (value : Parts) → WritesCdr m m' of.content value → MarksCdr m t m' t' of.content → MarksByStoring R.Fine m t m' t'
    marks_cdr value writes marks = elim (normal_cases (word_at m.words cons_at).cdr) [
      | inl e ↦ stored_marks R.Fine (suc cons_at) _ (second_in e) (writes cons_at place e) (marks.pair cons_at place e)
      | inr ne ↦ (let follow = marks.cell cons_at place ne in record { at = 0; but = marks-but 0 follow; low = λ sure none. follow })
    ]

    -- a swap error occurred
    pub marks_faulted : MarksCdr m t m' t' of.content → MarksByStoring R.Fault m t m' t'
    marks_faulted marks = elim (normal_cases (word_at m.words cons_at).cdr) [
      | inl e ↦ record { at = suc cons_at; but = marks.pair cons_at place e; low = λ sure. absurd (sure refl) }
      | inr ne ↦ (let follow = marks.cell cons_at place ne in record { at = 0; but = marks-but 0 follow; low = λ sure none. follow })
    ]

  pub marks_field : (index count : ℕ) (value : Parts) → (tag_of of.content ≢ StructTag → ⊥) → TellsLength m t of.content count → index < count → WritesField m m' of.content index value → MarksField m t m' t' of.content index → MarksByStoring R.Fine m t m' t'
  marks_field index count value struct tells few writes marks =
      let a = struct_tagged of.content struct in
      let v = get_or x.state.registers target V.Nil in
      let means = value_there m t registers target low of read x.map x.state x.represents in
      let is : value_of x.map.role (StructAt a.0) ≡ Some v = sym (ap (value_of x.map.role) a.1) ∙ means in
      let r = references_lead.values m t (interpretation x.map x.state) x.represents.kept AsBlock a.0 v is in
      let b = references_lead.blocks m t (interpretation x.map x.state) x.represents.kept r.name r.leads.used r.leads.kind_is in
      let told = tells (interpretation x.map x.state) r.name x.represents.kept (means ∙ ap (λ (w : Value). Some w) r.value) in
      let size = same_header_size (header_of (object x.state.store r.name).body) (told.0, count) (b.code, length b.fields) told.1 (ap header_of b.body) in
      let inside = b.inside in
      stored_marks R.Fine (suc (x.map.at r.name) + index) _ (omega arith) (writes a.0 (x.map.at r.name) a.1 r.leads.final) (marks a.0 (x.map.at r.name) a.1 r.leads.final)
