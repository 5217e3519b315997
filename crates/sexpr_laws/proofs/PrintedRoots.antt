-- Printed roots are read back.
use Rattle.std.proofs.Common.{◌≡◌, ℕ, zero, suc, ◌+◌, ◌<◌, ◌≤◌, List, [], ◌∷◌, ◌++◌, length, map, drop, Bool, true, false, Some, None, Result, Ok, refl, ap, sym, ◌∙◌, subst, arith, append_assoc, length-append}
use Rattle.std.specs.Prelude.{if◌then◌else◌, flat_map, nat_lt, pos, replicate, slice_set}
use Rattle.std.proofs.lemmas.Bool.Decides.{nat_tests}
use Rattle.std.proofs.lemmas.List.{length-map, length-replicate, map-append}
use Rattle.file_modes.specs.lisp_graph.declared.object.Value.{Value}
use Rattle.file_modes.specs.lisp_graph.declared.object.Value.TheVariants.{Fix, Nil}
use Rattle.file_modes.specs.lisp_graph.declared.object.Object.{Object}
use Rattle.file_modes.specs.world_text.Next.{◌>>=◌}
use Rattle.file_modes.specs.sexpr_text.declared.token.Piece.{Piece}
use Rattle.file_modes.specs.sexpr_text.declared.token.Token.{Token}
use Rattle.file_modes.specs.sexpr_text.declared.token.Token.TheVariants.{Root, Atom}
use Rattle.file_modes.specs.sexpr_text.declared.fault.SexprReason.TheVariants.{NoRegister, RegisterTwice}
use Rattle.file_modes.specs.sexpr_text.declared.fault.SexprFault.{SexprFault}
use Rattle.file_modes.specs.sexpr_text.Pieces.{token_at}
use Rattle.file_modes.specs.sexpr_text.Reading.{Read, expression, found_at, integer_in, natural_below, refused}
use Rattle.file_modes.specs.sexpr_text.Roots.{Rooted, has_root, register_at, root_at, with_root}
use Rattle.file_modes.proofs.sexpr_text.RootLaws.{Goes, goes_root}
use Rattle.file_modes.specs.sexpr_print.Printing.{Prints, PrintsRoots, done, line, nothing}
use Rattle.file_modes.proofs.dump_laws.NumberingGrowth.{Grows, grows_none, grows_twice}
use Rattle.sexpr_laws.proofs.TokenPrefixes.{Begins, begins_long, splits, takes}
use Rattle.sexpr_laws.proofs.Copies.{copies, prints_grow, since, since_later, value_in}
use Rattle.sexpr_laws.proofs.Expressions.{Context, Left, prints_read, read_of}
use Rattle.sexpr_laws.proofs.PrinterState.{Going, IsSetting, going_plain, graph_with, prints_going}
use Rattle.sexpr_laws.proofs.Labels.{labels_of}
use Rattle.sexpr_laws.proofs.ReaderSteps.{Labels}

-- Lines of roots, and the names that were printed after them

pub data PrintsAll (objects : List Object) (shared : ℕ → Bool) : ℕ → List ℕ → List Value → List (List Token) → List ℕ → Type 0 where
  no_more : (register : ℕ) (printed : List ℕ) → PrintsAll objects shared register printed [] [] printed
  a_nil : (register : ℕ) (printed after : List ℕ) (values : List Value) (lines : List (List Token)) → PrintsAll objects shared (register + 1) printed values lines after
      → PrintsAll objects shared register printed (Nil ∷ values) lines after
  a_line : (register : ℕ) (printed middle after : List ℕ) (value : Value) (values : List Value) (tokens : List Token) (lines : List (List Token))
      → Prints objects shared printed value tokens middle → PrintsAll objects shared (register + 1) middle values lines after
      → PrintsAll objects shared register printed (value ∷ values) ((Root ∷ Atom (Fix (pos register)) ∷ tokens) ∷ lines) after

pub record PrintsTo (objects : List Object) (shared : ℕ → Bool) (register : ℕ) (printed : List ℕ) (values : List Value) (lines : List (List Token)) : Type 0 where
  pub after : List ℕ
  pub prints : PrintsAll objects shared register printed values lines after

pub prints_to : {objects : List Object} {shared : ℕ → Bool} {register : ℕ} {printed : List ℕ} {values : List Value} {lines : List (List Token)} → PrintsRoots objects shared register printed values lines → PrintsTo objects shared register printed values lines
prints_to (done register printed) = record { after = printed; prints = no_more register printed }
prints_to (nothing register printed values lines prints) = let rest = prints_to prints in record { after = rest.after; prints = a_nil register printed rest.after values lines rest.prints }
prints_to (line register printed middle value values tokens lines some prints others) =
    let rest = prints_to others in
    record { after = rest.after; prints = a_line register printed middle rest.after value values tokens lines prints rest.prints }

pub all_grow : {objects : List Object} {shared : ℕ → Bool} {register : ℕ} {printed : List ℕ} {values : List Value} {lines : List (List Token)} {after : List ℕ} → PrintsAll objects shared register printed values lines after → Grows printed after
all_grow (no_more register printed) = grows_none printed
all_grow (a_nil register printed after values lines others) = all_grow others
all_grow (a_line register printed middle after value values tokens lines prints others) = grows_twice (prints_grow prints) (all_grow others)

pub all_going : {objects : List Object} {shared : ℕ → Bool} {register : ℕ} {printed : List ℕ} {values : List Value} {lines : List (List Token)} {after : List ℕ} → PrintsAll objects shared register printed values lines after
    → (registers : List Value) (names : List ℕ) → IsSetting (graph_with registers objects) names shared → Going (graph_with registers objects) names printed values → Going (graph_with registers objects) names after []
all_going (no_more register printed) registers names setting going = going
all_going {objects} (a_nil register printed after values lines others) registers names setting going =
    all_going others registers names setting (going_plain (graph_with registers objects) names printed Nil values (λ name. refl) going)
all_going (a_line register printed middle after value values tokens lines prints others) registers names setting going =
    all_going others registers names setting (prints_going prints registers names values setting going)

-- Registers

-- these are the values of the registers so far, and the others have none
pub record Stands (now : Rooted) (objects : List Object) (shared : ℕ → Bool) (all printed : List ℕ) (register : ℕ) (had : List Value) (left : ℕ) : Type 0 where
  pub roots : now.roots ≡ had ++ replicate left Nil
  pub count : length had ≡ register
  pub given : (other : ℕ) → register ≤ other → has_root now.given other ≡ false
  pub objects_are : now.objects ≡ copies objects all printed
  pub labels : now.labels ≡ labels_of shared printed

register_is : (registers register : ℕ) (given : List Bool) (pieces : List Piece) → register < registers → has_root given register ≡ false → token_at pieces ≡ Atom (Fix (pos register)) → register_at registers given pieces ≡ Ok register
unfolding register_at
register_is registers register given pieces within fresh is =
    let below : nat_lt register registers ≡ true = grind (arith, nat_tests, within) in
    ap (λ (token : Token). integer_in pieces token >>= λ number. found_at pieces NoRegister (natural_below registers number) >>= λ register. if has_root given register then refused pieces RegisterTwice else Ok register) is
    ∙ ap (λ (b : Bool). found_at pieces NoRegister (if b then Some register else None) >>= λ register. if has_root given register then refused pieces RegisterTwice else Ok register) below
    ∙ ap (λ (b : Bool). if b then refused pieces RegisterTwice else Ok register) fresh

root_is : (now : Rooted) (pieces : List Piece) (register : ℕ) (read : Read Value) → register_at (length now.roots) now.given pieces ≡ Ok register → expression (length (drop 1 pieces)) (length now.objects) now.labels (drop 1 pieces) ≡ Ok read
    → root_at now pieces ≡ Ok (with_root now register read.value read.objects read.labels, read.rest)
unfolding root_at
root_is now pieces register read at reads =
    ap (λ (r : Result ℕ SexprFault). r >>= λ register. expression (length (drop 1 pieces)) (length now.objects) now.labels (drop 1 pieces) >>= λ read. Ok (with_root now register read.value read.objects read.labels, read.rest)) at
    ∙ ap (λ (r : Result (Read Value) SexprFault). r >>= λ read. Ok (with_root now register read.value read.objects read.labels, read.rest)) reads

set_next : (had : List Value) (left register : ℕ) (value : Value) → length had ≡ register → slice_set (had ++ replicate (suc left) Nil) register value ≡ (had ++ value ∷ []) ++ replicate left Nil
set_next had left register value count = ap (λ (n : ℕ). slice_set (had ++ replicate (suc left) Nil) n value) (sym count) ∙ here had
  where
    here : (front : List Value) → slice_set (front ++ replicate (suc left) Nil) (length front) value ≡ (front ++ value ∷ []) ++ replicate left Nil
    here [] = refl
    here (one ∷ front) = ap (λ (l : List Value). one ∷ l) (here front)

given_other : (given : List Bool) (register other : ℕ) → register < other → has_root (slice_set given register true) other ≡ has_root given other
given_other [] register other below = refl
given_other (one ∷ given) zero zero below = absurd (omega arith)
given_other (one ∷ given) zero (suc other) below = refl
given_other (one ∷ given) (suc register) zero below = absurd (omega arith)
given_other (one ∷ given) (suc register) (suc other) below = given_other given register other (omega arith)

-- one more root
stands_more : (now : Rooted) (objects : List Object) (shared : ℕ → Bool) (all printed middle : List ℕ) (register : ℕ) (had : List Value) (left : ℕ) (value : Value) → Stands now objects shared all printed register had (suc left) → Grows printed middle
    → Stands (with_root now register value (since objects all printed middle) (labels_of shared middle)) objects shared all middle (register + 1) (had ++ value ∷ []) left
stands_more now objects shared all printed middle register had left value stands grows = record {
  roots = ap (λ (l : List Value). slice_set l register value) stands.roots ∙ set_next had left register value stands.count;
  count = omega (arith, length-append had (value ∷ []), stands.count);
  given = λ other behind. given_other now.given register other (omega arith) ∙ stands.given other (omega arith);
  objects_are = ap (λ (os : List Object). os ++ since objects all printed middle) stands.objects_are
      ∙ ap (λ (os : List Object). copies objects all printed ++ os) (since_later objects all printed middle grows)
      ∙ sym (map-append _ printed grows.later)
      ∙ ap (copies objects all) (sym grows.is);
  labels = refl;
}

-- What was read in the end

pub record RootsRead (whole : Result Rooted SexprFault) (objects : List Object) (all : List ℕ) (had values : List Value) (after : List ℕ) (rest : List Piece) : Type 0 where
  pub now : Rooted
  pub goes : Goes whole now rest
  pub roots : now.roots ≡ had ++ map (value_in all) values
  pub objects_are : now.objects ≡ copies objects all after

read_more : (whole : Result Rooted SexprFault) (objects : List Object) (all : List ℕ) (had : List Value) (value : Value) (values : List Value) (after : List ℕ) (rest : List Piece) → RootsRead whole objects all (had ++ value_in all value ∷ []) values after rest
    → RootsRead whole objects all had (value ∷ values) after rest
read_more whole objects all had value values after rest read = record {
  now = read.now;
  goes = read.goes;
  roots = read.roots ∙ append_assoc had (value_in all value ∷ []) (map (value_in all) values);
  objects_are = read.objects_are;
}

pub roots_read : {objects : List Object} {shared : ℕ → Bool} {register : ℕ} {printed : List ℕ} {values : List Value} {lines : List (List Token)} {after : List ℕ} → PrintsAll objects shared register printed values lines after
    → (context : Context objects shared) → Left objects shared context printed values → Grows after context.all → (whole : Result Rooted SexprFault) (now : Rooted) (had : List Value) (pieces rest : List Piece)
    → Goes whole now pieces → Stands now objects shared context.all printed register had (length values) → Begins (flat_map (λ line. line) lines) pieces rest → RootsRead whole objects context.all had values after rest
roots_read {objects} (no_more register printed) context going last whole now had pieces rest goes stands begins = record {
  now = now;
  goes = subst (λ (p : List Piece). Goes whole now p) begins goes;
  roots = stands.roots;
  objects_are = stands.objects_are;
}
roots_read {objects} {shared} (a_nil register printed after values lines others) context going last whole now had pieces rest goes stands begins =
    let plain = going_plain (graph_with context.registers objects) context.names printed Nil values (λ name. refl) going in
    let next : Stands now objects shared context.all printed (register + 1) (had ++ Nil ∷ []) (length values) = record {
      roots = stands.roots ∙ sym (append_assoc had (Nil ∷ []) (replicate (length values) Nil));
      count = omega (arith, length-append had (Nil ∷ []), stands.count);
      given = λ other behind. stands.given other (omega arith);
      objects_are = stands.objects_are;
      labels = stands.labels;
    } in
    read_more whole objects context.all had Nil values after rest (roots_read others context plain last whole now (had ++ Nil ∷ []) pieces rest goes next begins)
roots_read {objects} {shared} (a_line register printed middle after value values tokens lines prints others) context going last whole now had pieces rest goes stands begins =
    let root = takes Root (Atom (Fix (pos register)) ∷ (tokens ++ flat_map (λ line. line) lines)) pieces rest begins in
    let number = takes (Atom (Fix (pos register))) (tokens ++ flat_map (λ line. line) lines) (drop 1 pieces) rest root.behind in
    let parted = splits tokens (flat_map (λ line. line) lines) (drop 1 (drop 1 pieces)) rest number.behind in
    let shorter = begins_long tokens (drop 1 (drop 1 pieces)) parted.middle parted.before in
    let after_all = grows_twice (all_grow others) last in
    let left = prints_going prints context.registers context.names values context.setting going in
    let within : register < length now.roots = omega (arith, ap length stands.roots, length-append had (replicate (suc (length values)) Nil), length-replicate (suc (length values)) Nil, stands.count) in
    let at = register_is (length now.roots) register now.given (drop 1 pieces) within (stands.given register (omega arith)) number.token in
    let long : length now.objects ≡ length printed = ap length stands.objects_are ∙ length-map printed _ in
    let read = ap (λ (n : ℕ). expression (length (drop 1 (drop 1 pieces))) n now.labels (drop 1 (drop 1 pieces))) long
    ∙ ap (λ (l : Labels). expression (length (drop 1 (drop 1 pieces))) (length printed) l (drop 1 (drop 1 pieces))) stands.labels
    ∙ prints_read prints context values going after_all (length (drop 1 (drop 1 pieces))) (drop 1 (drop 1 pieces)) parted.middle (omega arith) parted.before in
    let next : Rooted = with_root now register (value_in context.all value) (since objects context.all printed middle) (labels_of shared middle) in
    let on = goes_root whole now next pieces parted.middle goes root.token (root_is now (drop 1 pieces) register (read_of objects shared context.all printed middle (value_in context.all value) parted.middle) at read) (omega (arith, root.long, number.long)) in
    read_more whole objects context.all had value values after rest
    (roots_read others context left last whole next (had ++ value_in context.all value ∷ []) parted.middle rest on (stands_more now objects shared context.all printed middle register had (length values) (value_in context.all value) stands (prints_grow prints)) parted.behind)
