-- The fields of a block that isn't old are in used words of live regions.
use Rattle.std.proofs.Common.{◌≡◌, ℕ, suc, ◌+◌, ◌/◌, ◌<◌, sym, ◌∙◌, ap, subst, arith, List, length, Option, Some}
use Rattle.std.proofs.lemmas.Option.{slice_get-get_or}
use Rattle.store_word.specs.Words.{Parts}
use Rattle.area_space.specs.lisp_graph.declared.object.Value.{Value}
use Rattle.area_space.specs.lisp_graph.declared.object.Value.TheVariants as V
use Rattle.area_space.specs.lisp_graph.declared.object.Body.TheVariants.{Block}
use Rattle.area_space.specs.lisp_graph.Graph.{value_at}
use Rattle.mem_port.specs.Store as Memory
use Rattle.area_space.specs.Table.{Table, IsOld}
use Rattle.obj_layout.specs.Forwards.{word_at}
use Rattle.transporter.specs.lisp_meaning.State.{object}
use Rattle.transporter.specs.lisp_meaning.Classes.{classes}
use Rattle.transporter.specs.lisp_meaning.Roles.{AsBlock, Field, Head, names_as, owner, field_of, header_of, value_of}
use Rattle.transporter.specs.lisp_meaning.Fits.{Holds, IsField}
use Rattle.transporter.proofs.lisp_meaning.layout.ObjectWords.{block_fits, field_fits}
use Rattle.transporter.specs.lisp_ground.Image.{ground_image}
use Rattle.transporter.specs.lisp_ground.GroundInvariant.{GroundInvariant}
use Rattle.transporter.specs.lisp_meaning.Interpretation.{Interpretation}
use Rattle.transporter.proofs.lisp_ground.invariant.Stores.{same_header_size}
use Rattle.transporter.specs.LiveWordsUnchanged.{IsLiveWord}
use Rattle.transporter.proofs.LiveWords as Live
use Rattle.block_store.proofs.BlockReferences.{head_role}

value_held : (role : ℕ → Rattle.transporter.specs.lisp_meaning.Roles.Role) (word : Parts) (part : Option Value) (v : Value) → Holds role word.content part → part ≡ Some v → value_of role word.content ≡ Some v
value_held role word part v holds is = holds.2 ∙ sym holds.1 ∙ is

module _ (m : Memory.Store) (t : Table) (it : Interpretation) (on : GroundInvariant m t it) where
  pub live_word : (a n : ℕ) → owner (it.map.role a) ≡ Some n → (IsOld t (a / 4096) → ⊥) → IsLiveWord t a
  live_word = Live.live_word m t it on

  -- if a reference isn't old, neither is what it refers to
  pub place_fresh : (at n : ℕ) → names_as AsBlock (it.map.role at) ≡ Some n → (IsOld t (at / 4096) → ⊥) → IsOld t (it.map.at n / 4096) → ⊥
  place_fresh = Live.place_fresh m t it on AsBlock

  module _ (at n : ℕ) (named : names_as AsBlock (it.map.role at) ≡ Some n) (code : ℕ) (fields : List Value) (body : (object it.store n).body ≡ Block code fields) (index : ℕ) (low : index < length fields) where
    role : it.map.role (it.map.at n) ≡ Head n
    role = head_role m t it on at n named

    size_is : (block_fits (word_at m.words) (classes (ground_image m t)) it.map it.store on.kept.roled n (it.map.at n) role).size ≡ length fields
    size_is =
        let f = block_fits (word_at m.words) (classes (ground_image m t)) it.map it.store on.kept.roled n (it.map.at n) role in
        same_header_size (header_of (object it.store n).body) (f.kind, f.size) (code, length fields) f.header (ap header_of body)

    field_there : IsField it.map it.store (suc (it.map.at n) + index) (word_at m.words (suc (it.map.at n) + index)) n index
    field_there = field_fits (word_at m.words) (classes (ground_image m t)) it.map it.store on.kept.roled n (it.map.at n) role index (let e = size_is in omega arith)

    -- the field has its value
    pub field_value : value_of it.map.role (word_at m.words (suc (it.map.at n) + index)).content ≡ Some (value_at fields index)
    field_value = value_held it.map.role (word_at m.words (suc (it.map.at n) + index)) (field_of (object it.store n).body index) (value_at fields index) field_there.value
        (ap (λ (b : Rattle.area_space.specs.lisp_graph.declared.object.Body.Body). field_of b index) body ∙ slice_get-get_or fields index V.Nil low)

    -- it is in the region of the block
    pub field_near : (suc (it.map.at n) + index) / 4096 ≡ it.map.at n / 4096
    field_near = field_there.region

    field_role : it.map.role (suc (it.map.at n) + index) ≡ Field n index
    field_role = (block_fits (word_at m.words) (classes (ground_image m t)) it.map it.store on.kept.roled n (it.map.at n) role).fields index (let e = size_is in omega arith)

    -- if the reference isn't old, it is in a live region
    pub field_live : (IsOld t (at / 4096) → ⊥) → IsLiveWord t (suc (it.map.at n) + index)
    field_live fresh = live_word (suc (it.map.at n) + index) n (ap owner field_role) (subst (λ (r : ℕ). IsOld t r → ⊥) (sym field_there.region) (place_fresh at n named fresh))
