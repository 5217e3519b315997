-- What a command does to a scan.
use Rattle.std.proofs.Common.{◌≡◌, ℕ, ◌+◌, ◌*◌, ◌≤◌, true, false, sym, ◌∙◌, ap, List, get_or, arith}
use Rattle.store_word.specs.Words.{Parts, null_word}
use Rattle.store_word.specs.declared.word.Content.{Content}
use Rattle.lisp_graph.specs.declared.command.Command.{Command}
use Rattle.lisp_graph.specs.declared.reply.Reply.{Reply}
use Rattle.mem_port.specs.Store.{Store}
use Rattle.area_space.specs.Table.{Table}
use Rattle.area_space.specs.Sound.{IsTable}
use Rattle.area_space.specs.Ground.{IsGround}
use Rattle.obj_layout.specs.Forwards.{word_at}
use Rattle.transporter.specs.lisp_meaning.State.{State, Running, Collection, Condemned, aim_of}
use Rattle.transporter.specs.lisp_meaning.Roles.{RoleMap}
use Rattle.transporter.specs.lisp_meaning.Stands.{Fresh}
use Rattle.transporter.specs.lisp_ground.Image.{Rest, image_of}
use Rattle.transporter.specs.lisp_ground.After.{old_on}
use Rattle.transporter.proofs.lisp_ground.regions.OldAndLive.{live_standing, not_old_region}
use Rattle.transporter.specs.Preserving.{NoOldAddresses, FreshOn, PreservesScanned, RegistersPreserved}
use Rattle.transporter.proofs.FetchedWords.{live-inside}
use Rattle.scavenger.specs.Scan.{Scan}
use Rattle.scavenger.specs.Left.{register_left, word_left, rest_of, units_of}
use Rattle.scavenger.specs.Collecting.{ScanInvariant}
use Rattle.scavenger.specs.Laws.{CleanStays, UnitsStay}
use Rattle.heap_state.specs.Represents.{Represents}
use Rattle.heap_state.specs.RepresentsLater.{RepresentsLater}
use Rattle.heap_state.specs.Performs.{PerformsOn}
use Rattle.heap_state.specs.Scans.{IsScanless}
use Rattle.heap_state.specs.Settled.{NoOldAddressesInRegisters}

image_fresh : (m : Store) (t : Table) (rest : Rest) (content : Content) → IsTable t → Fresh (image_of m t rest) content → FreshOn t content
image_fresh m t rest content v fresh b e old = not_old_region m t rest v b (fresh b e) old

-- if a scan has finished, registers and words are fresh
module _ (m : Store) (t : Table) (scan : Scan) (registers : List Parts) (v : IsTable t) (g : IsGround m t) (x : ScanInvariant m t scan registers) (over : scan.over ≡ true) where
  pub over_registers : NoOldAddressesInRegisters t registers
  over_registers r low = image_fresh m t (rest_of scan t registers) (get_or registers r null_word).content v (x.scanned.registers r low (done r))
    where
      done : (r : ℕ) → register_left scan r ≡ false
      done r = cc

  pub over_words : NoOldAddresses m t
  over_words a live =
      image_fresh m t (rest_of scan t registers) (word_at m.words a).content v
      (x.scanned.words a (live-inside m v g.size live) (live_standing m t (rest_of scan t registers) v a live.live) (shut a))
    where
      shut : (a : ℕ) → word_left scan t a ≡ false
      shut a = cc

-- what a command does to words and registers that were scanned
pub record PreservesWork (m : Store) (t : Table) (registers : List Parts) (m' : Store) (t' : Table) (registers' : List Parts) : Type 0 where
  pub preserves : PreservesScanned m t m' t'
  pub others : RegistersPreserved t' registers registers'
  pub stays_fresh : NoOldAddressesInRegisters t registers → NoOldAddresses m t → NoOldAddresses m' t'

pub preserves_work : {m m' : Store} {t t' : Table} {registers registers' : List Parts} {c : Command} {r : Reply} {k : RoleMap} {s : State} → PerformsOn m t registers m' t' registers' c r k s → PreservesWork m t registers m' t' registers'
preserves_work p = record { preserves = p.preserves; others = p.others; stays_fresh = p.stays_fresh }

module _ (clean : CleanStays) (units : UnitsStay) (m m' : Store) (t t' : Table) (scan : Scan) (registers registers' : List Parts) (k : RoleMap) (s : State)
    (b : Represents m t registers k s) (p : PreservesWork m t registers m' t' registers') where
  pub scanless_on : IsScanless t scan registers → IsScanless t' scan registers'
  scanless_on x = record { over = x.over; count = p.others.count ∙ x.count; pages = x.pages ∙ ap (λ (n : ℕ). 16 * n) (sym p.preserves.grows.form.regions) }

  -- by a change that places no more than it owes
  module _ (owed : ℕ) (s' : State) (y : RepresentsLater m t m' t' registers' k s s' owed) (x : Collection) (w : ScanInvariant m t scan registers) where
    pub clean_on : ScanInvariant m' t' scan registers'
    clean_on =
        let v = b.kept.table in
        let g = b.kept.ground in
        let stays_fresh : scan.over ≡ true → NoOldAddresses m' t' = λ over. p.stays_fresh (over_registers m t scan registers v g w over) (over_words m t scan registers v g w over) in
        clean m m' t t' scan registers registers' v g y.represents.kept.table y.represents.kept.ground w p.preserves p.others stays_fresh

    pub work_on : s.phase ≡ Running x → aim_of s'.phase ≡ x.aim
        → units_of m' scan t' registers' + old_on m' t' s'.store x.aim y.map.at ≤ units_of m scan t registers + old_on m t s.store x.aim k.at + owed
    work_on was is =
        let few = units m m' t t' scan registers registers' b.kept.table b.kept.ground y.represents.kept.table y.represents.kept.ground w p.preserves p.others.count in
        let before : old_on m t s.store (aim_of s.phase) k.at ≡ old_on m t s.store x.aim k.at = ap (λ (a : Condemned). old_on m t s.store a k.at) (ap aim_of was) in
        let after : old_on m' t' s'.store (aim_of s'.phase) y.map.at ≡ old_on m' t' s'.store x.aim y.map.at = ap (λ (a : Condemned). old_on m' t' s'.store a y.map.at) is in
        let work = y.work in
        omega arith
