use Rattle.std.proofs.Common.{refl, ◌∙◌, arith}
use Rattle.lisp_ground.proofs.lisp_meaning.maps.Frames.{refined}
use Rattle.transporter.proofs.LiveObjects.{live-then, still-live, old-stays, old-before}
use Rattle.transporter.proofs.PageMarks.{marks-then, marks-then_but, marks-but_then}
use Rattle.transporter.proofs.TransportSequences.{moves-then}
use Rattle.transporter.proofs.ScannedWords.{preserves-then}
use Rattle.transporter.proofs.laws.transports_add_up.Goals as goal

pub returns : goal.returns
returns c = record {
  later = λ m m1 m2 t t1 t2 it x y. (
    record { map = y.map; kept = y.kept; refines = λ kind a n e. y.refines kind a n (x.refines kind a n e); work = (let a = x.work in let b = y.work in omega arith) },
    refl,
  );
  values = λ m m' t t' it x content v e. refined it.map.role x.map.role x.refines content v e;
  live = λ m m1 m2 t t1 t2 x y. live-then x y;
  tables = record {
    live = λ t t' a g w. still-live g w;
    old = λ t t' word g h. (h.0, h.1, old-stays g h.2);
    no_other = λ t t' word g h. (h.0, h.1, old-before g h.2);
    kept = λ t t' registers s aim v g h. record { running = g.aim ∙ h.running; reaches = h.reaches; name = h.name };
  };
  preserves = λ m m1 m2 t t1 t2 x y. preserves-then x y;
  marks = record {
    both = λ m m1 m2 t t1 t2 x y. marks-then x y;
    writes_last = λ m m1 m2 t t1 t2 at x y. marks-then_but x y;
    writes_first = λ m m1 m2 t t1 t2 at x y. marks-but_then x y;
  };
  moves = λ m m1 m2 t t1 t2 n k x y. moves-then x y;
}
