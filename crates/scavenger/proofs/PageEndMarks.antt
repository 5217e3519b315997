-- A page that ends places nothing, and gets no marks.
use Rattle.std.proofs.Common.{ℕ, List, refl, sym, ap, subst, inl, arith}
use Rattle.store_word.specs.Words.{Parts}
use Rattle.mem_port.specs.Store.{Store}
use Rattle.area_space.specs.Table.{Table}
use Rattle.transporter.specs.obj_layout.Forwards.{word_at}
use Rattle.transporter.specs.Marking.{IsForward, MarksFollow}
use Rattle.transporter.specs.Moving.{WritesLive}
use Rattle.transporter.specs.Settling.{RefersToOld}
use Rattle.scavenger.specs.Scan.{Scan}
use Rattle.scavenger.specs.Scanning.{EndsPage, ends, stays}
use Rattle.scavenger.proofs.PageEnds.{ended-memory, ended-table}

pub ended-writes : {m m' : Store} {t t' : Table} {scan : Scan} {page : ℕ} → EndsPage m t scan m' t' page → WritesLive m t m' t'
ended-writes {m} {m'} {t} {t'} {scan} {page} (ends done but drops marked) = record {
  room = t;
  opens = inl refl;
  but = but;
  words = λ a free. ap (λ (ws : List Parts). word_at ws a) marked.words;
  codes = λ a. ap (λ (ws : List Parts). (word_at ws a).cdr) marked.words;
}
ended-writes {m} {m'} {t} {t'} {scan} {page} (stays going same there) = record {
  room = t';
  opens = inl same;
  but = refl;
  words = λ a free. ap (λ (s : Store). word_at s.words a) there;
  codes = λ a. ap (λ (s : Store). (word_at s.words a).cdr) there;
}

pub ended-marked : {m m' : Store} {t t' : Table} {scan : Scan} {page : ℕ} → EndsPage m t scan m' t' page → MarksFollow m t m' t'
ended-marked {m} {m'} {t} {t'} {scan} {page} e = subst (λ (u : Table). MarksFollow m t m' u) (sym (ended-table e)) (record {
  turns = record {
    used = λ region. omega arith;
    forwards = λ a is. inl (subst (λ (ws : List Parts). IsForward (word_at ws a)) (sym (ended-memory e).words) is);
    olds = λ a old. inl (subst (λ (ws : List Parts). RefersToOld t (word_at ws a)) (ended-memory e).words old);
  };
  unmarked = λ other clean. inl ((ended-memory e).unmarked other clean);
})
