-- A command that allocates nothing pays nothing, and no silent step precedes it.
use Rattle.std.proofs.Common.{◌≡◌, ℕ, refl, sym, ◌∙◌, ap, subst, Bool, false, ◌&&◌, List, None, length, nat_lt}
use Rattle.std.specs.Prelude.{MatchBool}
use Rattle.std.proofs.lemmas.Bool.{cond_both}
use Rattle.lisp_graph.specs.declared.command.Command.{Command}
use Rattle.lisp_graph.specs.declared.command.Command.TheVariants as C
use Rattle.lisp_graph.specs.declared.object.Object.{Object}
use Rattle.lisp_graph.specs.declared.object.Body.{Body}
use Rattle.lisp_graph.specs.declared.object.Body.TheVariants as B
use Rattle.lisp_graph.specs.declared.object.Value.{Value}
use Rattle.lisp_graph.specs.declared.object.Value.TheVariants as V
use Rattle.lisp_graph.specs.declared.reply.Reply.TheVariants as R
use Rattle.lisp_graph.specs.Graph.{Graph, object_at, value_at}
use Rattle.lisp_graph.specs.Effect.{Effect, effect, when_block, when_block_body, when_cons, when_cons_body, when_field, answered}
use Rattle.word_graph.specs.lisp_meaning.State.{State}
use Rattle.word_graph.specs.lisp_meaning.Flip.{graph_of}
use Rattle.word_graph.specs.lisp_meaning.Step.{wanted_by}
use Rattle.word_graph.specs.lisp_meaning.Run.{Silent, SilentFlip, SilentReclaim, allocates, collects_itself}
use Rattle.heap_state.specs.StepsTo.{PaysAhead}
use Rattle.heap_state.specs.Wanting.{paid_wanting}

-- What requires no charge

cons_body : (body : Body) (found : Value → Value → Effect) (other : Effect) → ((car cdr : Value) → (found car cdr).wanted ≡ None) → other.wanted ≡ None → (when_cons_body body found other).wanted ≡ None
cons_body (B.Cons car cdr) found other x y = x car cdr
cons_body (B.Block code fields) found other x y = y

cons : (objects : List Object) (v : Value) (found : ℕ → Value → Value → Effect) (other : Effect) → ((n : ℕ) (car cdr : Value) → (found n car cdr).wanted ≡ None) → other.wanted ≡ None → (when_cons objects v found other).wanted ≡ None
cons objects (V.Ref n) found other x y = cons_body (object_at objects n).body (found n) other (x n) y
cons objects V.Nil found other x y = y
cons objects (V.Fix n) found other x y = y

block_body : (body : Body) (found : ℕ → List Value → Effect) (other : Effect) → ((code : ℕ) (fields : List Value) → (found code fields).wanted ≡ None) → other.wanted ≡ None → (when_block_body body found other).wanted ≡ None
block_body (B.Cons car cdr) found other x y = y
block_body (B.Block code fields) found other x y = x code fields

block : (objects : List Object) (v : Value) (found : ℕ → ℕ → List Value → Effect) (other : Effect) → ((n code : ℕ) (fields : List Value) → (found n code fields).wanted ≡ None) → other.wanted ≡ None → (when_block objects v found other).wanted ≡ None
block objects (V.Ref n) found other x y = block_body (object_at objects n).body (found n) other (x n) y
block objects V.Nil found other x y = y
block objects (V.Fix n) found other x y = y

field : (g : Graph) (fields : List Value) (index : ℕ) (found : Effect) → found.wanted ≡ None → (when_field g fields index found).wanted ≡ None
field g fields index found x = cond_both (nat_lt index (length fields)) found (answered (R.NoField (length fields)) g) (λ (e : Effect). e.wanted ≡ None) (λ t. x) (λ t. refl)

unwanted : (g : Graph) (c : Command) → allocates c ≡ false → wanted_by (effect g c) ≡ None
unwanted g (C.Set to value) free = refl
unwanted g (C.Move to from) free = refl
unwanted g (C.Car to from) free = cons g.objects (value_at g.registers from) _ _ (λ n car cdr. refl) refl
unwanted g (C.Cdr to from) free = cons g.objects (value_at g.registers from) _ _ (λ n car cdr. refl) refl
unwanted g (C.Rplaca target from) free = cons g.objects (value_at g.registers target) _ _ (λ n car cdr. refl) refl
unwanted g (C.Rplacd target from) free = cons g.objects (value_at g.registers target) _ _ (λ n car cdr. refl) refl
unwanted g (C.Get to from index) free = block g.objects (value_at g.registers from) _ _ (λ n code fields. field g fields index _ refl) refl
unwanted g (C.Put target index from) free = block g.objects (value_at g.registers target) _ _ (λ n code fields. field g fields index _ refl) refl
unwanted g (C.Size of) free = block g.objects (value_at g.registers of) _ _ (λ n code fields. refl) refl
unwanted g (C.Eq left right) free = refl
unwanted g (C.Flip what) free = refl
unwanted g (C.Scavenge count) free = refl
unwanted g C.Reclaim free = refl
unwanted g (C.PageOut count) free = refl
unwanted g C.Stats free = refl
unwanted g C.Dump free = refl
unwanted g _ free = absurd (cc (free))

pub pays_nothing : (s : State) (c : Command) → allocates c ≡ false → PaysAhead s c 0
pays_nothing s c free e is =
    let nothing : e.wanted ≡ None = sym (ap wanted_by is) ∙ unwanted (graph_of s) c free in
    sym (ap (paid_wanting s) nothing)

-- No silent step

pub not_silent : (s : State) (c : Command) → allocates c ≡ false → Silent s c s
not_silent s c free =
    let none : (allocates c && collects_itself s) ≡ false = ap (λ (b : Bool). b && collects_itself s) free in
    subst (λ (b : Bool). MatchBool b ((mid : State) × SilentReclaim s s.phase mid × SilentFlip mid s) (s ≡ s)) (sym none) refl
