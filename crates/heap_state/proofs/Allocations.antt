-- Allocations: the quota before, and the state after.
use Rattle.std.proofs.Common.{◌≡◌, ℕ, ◌+◌, ◌*◌, ◌<◌, ◌≤◌, ◌⊎◌, inl, inr, Bool, false, if◌then◌else◌, nat_lt, refl, sym, ◌∙◌, ap, subst, List, length, slice_set, Some, arith}
use Rattle.std.proofs.lemmas.Bool.{le-ltb}
use Rattle.store_word.specs.Words.{Parts}
use Rattle.store_word.specs.declared.word.Content.TheVariants.{List as ListAt, Struct as StructAt}
use Rattle.lisp_graph.specs.declared.command.Command.{Command}
use Rattle.lisp_graph.specs.declared.reply.Reply.{Reply}
use Rattle.lisp_graph.specs.declared.reply.Reply.TheVariants as R
use Rattle.lisp_graph.specs.declared.object.Value.{Value}
use Rattle.lisp_graph.specs.Effect.{Effect, Wanted, effect}
use Rattle.mem_port.specs.Store.{Store}
use Rattle.area_space.specs.Accounts.{account_of}
use Rattle.area_space.specs.Table.{Table, areas_of, levels_of, quota_of}
use Rattle.area_space.specs.Sound.{IsTable}
use Rattle.transporter.specs.lisp_meaning.State.{State, aim_of, new_level, rule_of}
use Rattle.transporter.specs.lisp_meaning.State as M
use Rattle.transporter.specs.lisp_meaning.Charges.{account_now}
use Rattle.transporter.specs.lisp_meaning.Flip.{graph_of}
use Rattle.transporter.specs.lisp_meaning.Roles.{RoleMap, value_of}
use Rattle.transporter.specs.lisp_meaning.Step.{allocated, answer_of, answer_wanting, counted, exceeds, exhausted}
use Rattle.transporter.specs.lisp_ground.After.{old_on}
use Rattle.transporter.specs.lisp_ground.GroundInvariant.{GroundInvariant}
use Rattle.transporter.specs.lisp_meaning.Interpretation.{interpretation}
use Rattle.transporter.proofs.lisp_ground.sums.Accounts.{account_agrees, areas_agree, levels_agree, quota_agrees}
use Rattle.transporter.specs.Growth.{OpensOrStays}
use Rattle.transporter.specs.LiveWordsUnchanged.{OnlyGrows}
use Rattle.transporter.specs.Making.{HasQuota, PlacesNew}
use Rattle.transporter.specs.Preserving.{FreshOn}
use Rattle.transporter.proofs.UsedEnds.{end-alive, new-extends}
use Rattle.transporter.proofs.ScannedWords.{live-fresh, preserves-then}
use Rattle.heap_state.specs.Consistent.{RepresentsState}
use Rattle.heap_state.specs.Represents.{Represents}
use Rattle.heap_state.specs.RepresentsLater.{RepresentsLater, RepresentsSame}
use Rattle.heap_state.specs.Performs.{AnswersOn, FaultsOn, Performs, PerformsAt}
use Rattle.heap_state.specs.Wanting.{owed_wanting}
use Rattle.heap_state.proofs.StateChanges.{represented_twice, later_means, register_set}
use Rattle.heap_state.proofs.PageMarks.{marks_after}
use Rattle.heap_state.proofs.SettledRegister.{aims_grown, registers_fresh, registers_then}
use Rattle.heap_state.proofs.CommandEffects.{Leaves, counted_represented, no_more}

-- The quota

-- what the table's quota allows, the state's quota allows
pub quota_left : (m : Store) (t : Table) (registers : List Parts) (k : RoleMap) (s : State) (area level charge : ℕ) → Represents m t registers k s → area < areas_of t → level < levels_of t → account_of t area + charge ≤ quota_of t area
    → HasQuota (interpretation k s) area level charge
quota_left m t registers k s area level charge b area_in level_in fits =
    let areas = areas_agree m t (interpretation k s) b.kept in
    let levels = levels_agree m t (interpretation k s) b.kept in
    let low : area < length s.areas = omega arith in
    let account = account_agrees m t (interpretation k s) b.kept area in
    let quota = quota_agrees m t (interpretation k s) b.kept area low in
    record { area_in = low; level_in = omega arith; fits = omega arith }

over_false : (a b : ℕ) → b ≤ a → nat_lt a b ≡ false
over_false a b low = le-ltb a b low

pub fits_quota : {k : RoleMap} (s : State) (area level charge : ℕ) → HasQuota (interpretation k s) area level charge → exceeds s (record { area = area; charge = charge }) ≡ false
fits_quota s area level charge q = over_false (rule_of s.areas area).quota (account_now s area + charge) q.fits

-- it allows as much after registers were settled
pub account_same : (m m' : Store) (t t' : Table) (registers registers' : List Parts) (area : ℕ) → RepresentsState m t registers → RepresentsSame m t registers m' t' registers' → account_of t' area ≡ account_of t area
account_same m m' t t' registers registers' area x represented =
    let y = represented x.map x.state x.represents x.reach in
    account_agrees m' t' (interpretation y.map x.state) y.represents.kept area
    ∙ sym (account_agrees m t (interpretation x.map x.state) x.represents.kept area)

-- What is placed

opened_placed : (t room : Table) → OpensOrStays t room → room.placed ≡ t.placed
opened_placed t room (inl same) = ap (λ (u : Table). u.placed) same
opened_placed t room (inr o) = ap (λ (u : Table). u.placed) o.table

pub placed_more : (t t' : Table) (area level at words charge : ℕ) → PlacesNew t t' area level at words charge → t'.placed ≡ t.placed + words
placed_more t t' area level at words charge p =
    let a = ap (λ (u : Table). u.placed) p.commit in
    let b = opened_placed t p.room p.opens in
    omega arith

-- a reference to what was placed is fresh
pub list_fresh : (t t' : Table) (area level at words charge : ℕ) → IsTable t' → PlacesNew t t' area level at words charge → FreshOn t' (ListAt at)
list_fresh t t' area level at words charge v p = live-fresh (ListAt at) at v (end-alive p.room t' _ at words (new-extends p)) refl

pub block_fresh : (t t' : Table) (area level at words charge : ℕ) → IsTable t' → PlacesNew t t' area level at words charge → FreshOn t' (StructAt at)
block_fresh t t' area level at words charge v p = live-fresh (StructAt at) at v (end-alive p.room t' _ at words (new-extends p)) refl

-- The state after

-- objects were made, and a register refers to the first of them
pub made_represented : (m m' : Store) (t t' : Table) (registers : List Parts) (k map : RoleMap) (s : State) (store : M.Store) (to : ℕ) (word : Parts) (v : Value) (words charge : ℕ) → OnlyGrows t t' → Represents m t registers k s → GroundInvariant m' t' (record (interpretation map s) { store = store })
    → Rattle.transporter.specs.lisp_meaning.Roles.Refines k.role map.role → to < length registers → value_of map.role word.content ≡ Some v → old_on m' t' store (aim_of s.phase) map.at ≡ old_on m t s.store (aim_of s.phase) k.at → t'.placed ≡ t.placed + words → words ≤ charge
    → RepresentsLater m t m' t' (slice_set registers to word) k s (record s { registers = slice_set s.registers to v; store = store }) charge
made_represented m m' t t' registers k map s store to word v words charge grows b kept refines low is old placed few =
    let now : Represents m' t' registers map (record s { store = store }) = record { kept = kept; count = b.count; means = later_means k map registers s.registers refines b.means; aims = aims_grown t t' s.phase grows b.aims } in
    record {
      map = map;
      represents = register_set m' t' registers map (record s { store = store }) to word v now low is;
      refines = refines;
      work = omega arith;
    }

abbrev after_allocation : State → Command → Effect → Wanted → State
after_allocation s c e w = counted w.charge (s.space.rate * w.charge) (allocated s c w.area e.graph)

-- the reply to an allocation that fits its quota
pub allocation_answers : (m m' : Store) (t t' : Table) (registers' : List Parts) (k : RoleMap) (s : State) (c : Command) (e : Effect) (w : Wanted) → effect (graph_of s) c ≡ Some e → e.wanted ≡ Some w → e.reply ≡ R.Fine → exceeds s w ≡ false
    → RepresentsLater m t m' t' registers' k s (allocated s c w.area e.graph) w.charge → AnswersOn m t m' t' registers' c R.Fine k s
allocation_answers m m' t t' registers' k s c e w is wants fine fits represented = record {
  effect_of = e;
  is = is;
  reply = sym fine ∙ sym (ap (λ (a : Reply × State). a.0) answer_is);
  sure = λ no_fault. let z : R.Fine ≡ R.Fault = no_fault in cc;
  represented = subst (λ (a : Reply × State). RepresentsLater m t m' t' registers' k s a.1 (owed_wanting s c e e.wanted)) (sym answer_is)
      (subst (λ (n : ℕ). RepresentsLater m t m' t' registers' k s (after_allocation s c e w) n) (sym owed_is) (counted_represented m m' t t' registers' k s (allocated s c w.area e.graph) w.charge (s.space.rate * w.charge) w.charge represented));
}
  where
    answer_is : answer_of s c e ≡ (e.reply, after_allocation s c e w)
    answer_is = ap (answer_wanting s c e) wants ∙ ap (λ (b : Bool). if b then (exhausted s w, s) else (e.reply, after_allocation s c e w)) fits

    owed_is : owed_wanting s c e e.wanted ≡ w.charge
    owed_is = ap (owed_wanting s c e) wants ∙ ap (λ (b : Bool). if b then 0 else w.charge) fits

-- For each state whose new objects are of a level

pub performs_at : (m m' : Store) (t t' : Table) (registers registers' : List Parts) (c : Command) (r : Reply) (area level : ℕ) → Performs m t registers m' t' registers' c r → PerformsAt m t registers m' t' registers' c r area level
performs_at m m' t t' registers registers' c r area level p k s b reach is = record { performed = p.performed k s b reach; preserves = p.preserves; others = p.others; stays_fresh = p.stays_fresh; marks = p.marks; settled = p.settled }

-- registers were settled, and then the command acted
pub performs_at_after : (m m1 m2 : Store) (t t1 t2 : Table) (r0 r1 r2 : List Parts) (c : Command) (r : Reply) (area level : ℕ) → Leaves m t r0 m1 t1 r1 → PerformsAt m1 t1 r1 m2 t2 r2 c r area level → PerformsAt m t r0 m2 t2 r2 c r area level
performs_at_after m m1 m2 t t1 t2 r0 r1 r2 c r area level x y k s b reach is =
    let p = x.represented k s b reach in
    let z = y p.map s p.represents reach is in
    record {
      performed = performed p z.performed;
      preserves = preserves-then x.preserves z.preserves;
      others = registers_then t1 t2 r0 r1 r2 z.preserves.grows x.others z.others;
      stays_fresh = λ fresh words. z.stays_fresh (registers_fresh t t1 r0 r1 x.preserves.grows x.others fresh) (x.stays_fresh fresh words);
      marks = marks_after m m1 m2 t t1 t2 c r x.marks z.marks;
      settled = z.settled;
    }
  where
    performed : (p : RepresentsLater m t m1 t1 r1 k s s 0) → FaultsOn m1 t1 m2 t2 r2 c r p.map s ⊎ AnswersOn m1 t1 m2 t2 r2 c r p.map s → FaultsOn m t m2 t2 r2 c r k s ⊎ AnswersOn m t m2 t2 r2 c r k s
    performed p (inl f) = inl (f.0, f.1, represented_twice m m1 m2 t t1 t2 r1 r2 k s s s 0 0 p f.2)
    performed p (inr a) = inr (record {
      effect_of = a.effect_of;
      is = a.is;
      reply = a.reply;
      sure = a.sure;
      represented = no_more m m2 t t2 r2 k s _ _ (represented_twice m m1 m2 t t1 t2 r1 r2 k s s _ 0 _ p a.represented);
    })
