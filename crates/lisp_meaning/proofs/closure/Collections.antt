-- A flip and the end of a collection keep what is held closed, and each collection can end.
use Rattle.std.proofs.Common.{◌≡◌, ℕ, ◌⊎◌, inl, inr, Bool, true, false, not, ◌&&◌, ◌||◌, refl, sym, subst, ◌∙◌, ap, arith, List, length, Option, Some, None, IsTrue, if◌then◌else◌}
use Rattle.std.specs.Prelude.{is_some}
use Rattle.std.proofs.lemmas.Bool.{or_cases, or_left, or_right, and_parts, not-true}
use Rattle.lisp_graph.specs.declared.command.Condemn.{Condemn}
use Rattle.lisp_graph.specs.declared.object.Object.{Object}
use Rattle.lisp_graph.specs.Graph.{refers_in}
use Rattle.lisp_meaning.specs.machine.State.{survivor, Condemned, Phase, Idle, State, is_held, in_use}
use Rattle.lisp_meaning.specs.machine.Reach.{Closed, closure}
use Rattle.lisp_meaning.specs.machine.Flip.{graph_of, is_condemned_level, condemned_by, roots_of, bound_by, aim_by, flipped, Settles}
use Rattle.lisp_meaning.specs.machine.Sound.{is_kept, Reaches, Reach, IsClosed}
use Rattle.lisp_meaning.specs.Laws.{is_root}
use Rattle.lisp_meaning.proofs.closure.Closure.{closure_start, closure_closed, closure_inside}
use Rattle.lisp_meaning.proofs.closure.ClosedSets.{closed_same}

-- what a flip binds is held, if what is held is closed
pub bound_held : (s : State) (what : Condemn) → Closed (graph_of s) (is_held s.store) → (n : ℕ) → bound_by s what n ≡ true → is_held s.store n ≡ true
bound_held s what c n e =
    closure_inside s.store.objects (is_held s.store) (roots_of s what) (λ m n l u r. c.from_objects m n l u r)
    (λ n f. go n (or_cases (refers_in n s.registers) (is_held s.store n && not (condemned_by s.areas s.store what n)) f)) n e
  where
    go : (n : ℕ) → (refers_in n s.registers ≡ true) ⊎ ((is_held s.store n && not (condemned_by s.areas s.store what n)) ≡ true) → is_held s.store n ≡ true
    go n (inl x) = c.from_registers n x
    go n (inr x) = (and_parts (is_held s.store n) (not (condemned_by s.areas s.store what n)) x).0

pub condemned_held : (s : State) (what : Condemn) (n : ℕ) → condemned_by s.areas s.store what n ≡ true → is_held s.store n ≡ true
condemned_held s what n e = go (s.store.held n) (and_parts _ (is_condemned_level what (s.store.held n)) e).1
  where
    go : (o : Option ℕ) → is_condemned_level what o ≡ true → is_some o ≡ true
    go None x = cc
    go (Some level) x = refl

module _ (s : State) (what : Condemn) (h : IsClosed s) where
  -- a kept name is bound: it is a root, or led to
  kept_bound : (n : ℕ) → (bound_by s what n || (is_held s.store n && not (condemned_by s.areas s.store what n))) ≡ true → bound_by s what n ≡ true
  kept_bound n e = go (or_cases (bound_by s what n) (is_held s.store n && not (condemned_by s.areas s.store what n)) e)
    where
      go : (bound_by s what n ≡ true) ⊎ ((is_held s.store n && not (condemned_by s.areas s.store what n)) ≡ true) → bound_by s what n ≡ true
      go (inl x) = x
      go (inr x) = closure_start s.store.objects (roots_of s what) n (or_right (refers_in n s.registers) (is_held s.store n && not (condemned_by s.areas s.store what n)) x)

  pub flipped_reaches : (pages : ℕ) → Reaches s.registers s.store (aim_by s what pages)
  flipped_reaches pages = record {
    condemned = condemned_held s what;
    bound = bound_held s what h.closed;
    closed = record {
      from_registers = λ n e. or_left (bound_by s what n) (is_held s.store n && not (condemned_by s.areas s.store what n))
          (closure_start s.store.objects (roots_of s what) n (or_left (refers_in n s.registers) (is_held s.store n && not (condemned_by s.areas s.store what n)) e));
      from_objects = λ m n l k e. or_left (bound_by s what n) (is_held s.store n && not (condemned_by s.areas s.store what n))
          (closure_closed s.store.objects (roots_of s what) m n l
          (h.names n (h.closed.from_objects m n l (bound_held s what h.closed m (kept_bound m k)) e)) (kept_bound m k) e);
    };
  }

  pub flipped_closed : (pages : ℕ) → IsClosed (flipped s what pages)
  flipped_closed pages = record {
    names = h.names;
    closed = record { from_registers = h.closed.from_registers; from_objects = h.closed.from_objects };
    reach = (let r = flipped_reaches pages in record { condemned = r.condemned; bound = r.bound; closed = r.closed });
  }

-- a name held after was held before
pub settles_less : (s : State) (aim : Condemned) (new : State) → Settles s aim new → (n : ℕ) → in_use new.store n → in_use s.store n
settles_less s aim new t n u = go (s.store.held n) refl
  where
    go : (o : Option ℕ) → s.store.held n ≡ o → is_some (s.store.held n) ≡ true
    go None e = let x = t.nothing_new n e in let y = ap is_some x in cc
    go (Some level) e = ap is_some e

pub settles_closed : (s : State) (aim : Condemned) (new : State) → IsClosed s → Settles s aim new → IsClosed new
settles_closed s aim new h t = record {
  names = λ n u. let l = h.names n (settles_less s aim new t n u) in let e = ap (λ (xs : List Object). length xs) t.objects in omega arith;
  closed = t.closed;
  reach = subst (λ (p : Phase). Reach new p) (sym t.phase) tt;
}

-- Some state settles: the one that keeps all that is bound.

abbrev pub settled_level : Bool → Bool → ℕ → Option ℕ → Option ℕ
settled_level condemned bound survives None = None
settled_level condemned bound survives (Some level) = if condemned then (if bound then Some survives else None) else Some level

abbrev pub level_or_zero : Option ℕ → ℕ
level_or_zero None = 0
level_or_zero (Some level) = level

abbrev pub settled : State → Condemned → State
settled s aim = record s {
  phase = Idle;
  store = record s.store { held = λ n. settled_level (aim.condemned n) (aim.bound n) (survivor s.space.levels aim.what (level_or_zero (s.store.held n))) (s.store.held n) };
}

-- a name is held after if and only if it is kept
settled_held : (condemned bound : Bool) (survives : ℕ) (o : Option ℕ) → (bound ≡ true → is_some o ≡ true)
    → is_some (settled_level condemned bound survives o) ≡ (bound || (is_some o && not condemned))
settled_held true true survives None h = (let x = h refl in cc)
settled_held false true survives None h = (let x = h refl in cc)
settled_held true false survives None h = refl
settled_held false false survives None h = refl
settled_held true true survives (Some level) h = refl
settled_held true false survives (Some level) h = refl
settled_held false true survives (Some level) h = refl
settled_held false false survives (Some level) h = refl

pub settled_settles : (s : State) (aim : Condemned) → Reaches s.registers s.store aim → Settles s aim (settled s aim)
settled_settles s aim r = record {
  phase = refl;
  space = refl;
  areas = refl;
  registers = refl;
  objects = refl;
  husks = refl;
  nothing_new = λ n e. ap (settled_level (aim.condemned n) (aim.bound n) (survivor s.space.levels aim.what (level_or_zero (s.store.held n)))) e;
  spared = λ n e. spared (aim.condemned n) (aim.bound n) _ (s.store.held n) e;
  doomed = λ n level c e. doomed n level c e;
  closed = closed_same (graph_of s) (is_kept s.store aim) (is_held (settled s aim).store) r.closed
      (record { up = λ n e. same n ∙ e; down = λ n l e. sym (same n) ∙ e });
}
  where
    same : (n : ℕ) → is_held (settled s aim).store n ≡ is_kept s.store aim n
    same n = settled_held (aim.condemned n) (aim.bound n) (survivor s.space.levels aim.what (level_or_zero (s.store.held n))) (s.store.held n) (r.bound n)

    spared : (condemned bound : Bool) (survives : ℕ) (o : Option ℕ) → condemned ≡ false → settled_level condemned bound survives o ≡ o
    spared true bound survives o e = cc
    spared false bound survives None e = refl
    spared false bound survives (Some level) e = refl

    by : (level : ℕ) (bound : Bool) → (settled_level true bound (survivor s.space.levels aim.what level) (Some level) ≡ None)
        ⊎ ((settled_level true bound (survivor s.space.levels aim.what level) (Some level) ≡ Some (survivor s.space.levels aim.what level)) × (bound ≡ true))
    by level true = inr (refl, refl)
    by level false = inl refl

    doomed : (n level : ℕ) → aim.condemned n ≡ true → s.store.held n ≡ Some level
        → ((settled s aim).store.held n ≡ None) ⊎ (((settled s aim).store.held n ≡ Some (survivor s.space.levels aim.what level)) × IsTrue (aim.bound n))
    doomed n level c e = go (by level (aim.bound n))
      where
        is : (settled s aim).store.held n ≡ settled_level true (aim.bound n) (survivor s.space.levels aim.what level) (Some level)
        is = (λ i. settled_level (c i) (aim.bound n) (survivor s.space.levels aim.what (level_or_zero (e i))) (e i))

        go : (settled_level true (aim.bound n) (survivor s.space.levels aim.what level) (Some level) ≡ None)
            ⊎ ((settled_level true (aim.bound n) (survivor s.space.levels aim.what level) (Some level) ≡ Some (survivor s.space.levels aim.what level)) × (aim.bound n ≡ true))
            → ((settled s aim).store.held n ≡ None) ⊎ (((settled s aim).store.held n ≡ Some (survivor s.space.levels aim.what level)) × IsTrue (aim.bound n))
        go (inl x) = inl (is ∙ x)
        go (inr x) = inr (is ∙ x.0, x.1)

-- a settle loses no name that the registers and the names that weren't condemned lead to
pub settles_reachable : (old : State) (aim : Condemned) (new : State) → Settles old aim new
    → (n : ℕ) → closure old.store.objects (is_root old aim) n ≡ true → is_held new.store n ≡ true
settles_reachable old aim new t n e =
    closure_inside new.store.objects (is_held new.store) (is_root old aim) (λ m p l u r. t.closed.from_objects m p l u r) start n
    ((λ i. closure (t.objects i) (is_root old aim) n) ∙ e)
  where
    start : (m : ℕ) → is_root old aim m ≡ true → is_held new.store m ≡ true
    start m r = go (or_cases (refers_in m old.registers) (is_held old.store m && not (aim.condemned m)) r)
      where
        go : (refers_in m old.registers ≡ true) ⊎ ((is_held old.store m && not (aim.condemned m)) ≡ true) → is_held new.store m ≡ true
        go (inl x) = t.closed.from_registers m (ap (refers_in m) t.registers ∙ x)
        go (inr x) = let y = and_parts (is_held old.store m) (not (aim.condemned m)) x in ap is_some (t.spared m (not-true (aim.condemned m) y.1)) ∙ y.0
