-- Definitions that two layers have agree.
use Rattle.std.proofs.Common.{◌≡◌, ◌==◌, ◌-◌, Bool, true, ◌&&◌, nat_lt, refl, arith}
use Rattle.std.specs.Int.{bit_at}
use Rattle.std.proofs.lemmas.Bool.{and_parts, lt-ltb, eqb-true, eq-eqb}
use Rattle.area_space.specs.store_word.declared.word.CdrCode.{CdrCode}
use Rattle.area_space.specs.store_word.declared.word.CdrCode.TheVariants.{Next as CdrNext, Nil as CdrNil, Normal as CdrNormal, Second as CdrSecond}
use Rattle.area_space.specs.store_word.declared.word.Content.{Content}
use Rattle.area_space.specs.store_word.declared.word.Content.TheVariants.{Null, Nil as NilWord, Fixnum, List as ListAt, Struct as StructAt, Header, HeaderForward, GcForward}
use Rattle.obj_layout.specs.Shapes.{shape_of, word_count}
use Rattle.lisp_meaning.specs.Objects.{words_at}
use Rattle.lisp_ground.specs.Laws.{LevelsAgree, CondemnedAgree, WordsAgree}
use Rattle.lisp_ground.proofs.words.FinalAddresses.{same_forward, same_final}
use Rattle.lisp_ground.proofs.invariant.Flips.{slot_condemned}

pub levels_agree : LevelsAgree
levels_agree = record {
  table = λ levels level. refl;
  set = λ levels level l. (
    (λ e. eqb-true (bit_at levels.0 (level - 1)) 1 (and_parts (nat_lt 0 level) (bit_at levels.0 (level - 1) == 1) e).1),
    (λ e. both (nat_lt 0 level) (bit_at levels.0 (level - 1) == 1) (lt-ltb 0 level (omega arith)) (eq-eqb (bit_at levels.0 (level - 1)) 1 e)),
  );
}
  where
    both : (a b : Bool) → a ≡ true → b ≡ true → (a && b) ≡ true
    both a b x y = cc

pub condemned_agree : CondemnedAgree
condemned_agree = slot_condemned

words_by_code : (content : Content) (code : CdrCode) → words_at (record { cdr = code; content = content }) ≡ word_count (shape_of (record { cdr = code; content = content }))
words_by_code (Header kind size) code = refl
words_by_code Null CdrNext = refl
words_by_code Null CdrNil = refl
words_by_code Null CdrNormal = refl
words_by_code Null CdrSecond = refl
words_by_code NilWord CdrNext = refl
words_by_code NilWord CdrNil = refl
words_by_code NilWord CdrNormal = refl
words_by_code NilWord CdrSecond = refl
words_by_code (Fixnum i) CdrNext = refl
words_by_code (Fixnum i) CdrNil = refl
words_by_code (Fixnum i) CdrNormal = refl
words_by_code (Fixnum i) CdrSecond = refl
words_by_code (ListAt a) CdrNext = refl
words_by_code (ListAt a) CdrNil = refl
words_by_code (ListAt a) CdrNormal = refl
words_by_code (ListAt a) CdrSecond = refl
words_by_code (StructAt a) CdrNext = refl
words_by_code (StructAt a) CdrNil = refl
words_by_code (StructAt a) CdrNormal = refl
words_by_code (StructAt a) CdrSecond = refl
words_by_code (HeaderForward a) CdrNext = refl
words_by_code (HeaderForward a) CdrNil = refl
words_by_code (HeaderForward a) CdrNormal = refl
words_by_code (HeaderForward a) CdrSecond = refl
words_by_code (GcForward a) CdrNext = refl
words_by_code (GcForward a) CdrNil = refl
words_by_code (GcForward a) CdrNormal = refl
words_by_code (GcForward a) CdrSecond = refl

pub words_agree : WordsAgree
words_agree = record { forward = same_forward; final = same_final; size = λ w. words_by_code w.content w.cdr }
