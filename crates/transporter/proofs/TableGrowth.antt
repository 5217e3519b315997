-- How the table has changed after a transport.
use Rattle.std.proofs.Common.{ℕ, ◌≡◌, ◌+◌, ◌*◌, ◌<◌, Option, Some, None, sym, ap, subst, inl, inr}
use Rattle.mem_port.specs.Store.{Store}
use Rattle.area_space.specs.Table.{Table, areas_of, levels_of, slot_of}
use Rattle.area_space.specs.Places.{IsEnd}
use Rattle.area_space.specs.Flips.{survivor}
use Rattle.lisp_ground.specs.Placing.{Opens}
use Rattle.transporter.specs.Parcels.{word_count_of}
use Rattle.transporter.specs.Relocations.{OpensAtMost, MovesHere}
use Rattle.transporter.specs.Growth.{OpensOrStays, Grows}
use Rattle.transporter.proofs.Places.{few_words, some_words, survivor_in}
use Rattle.transporter.proofs.MovedParcels.{opened-form}

pub opens-or-stays : {m m' : Store} {t t' : Table} {area level : ℕ} (region : Option ℕ) → area < areas_of t → level < levels_of t → Opens m t m' t' region area level → OpensOrStays t t'
opens-or-stays None area_in level_in o = inl o.same
opens-or-stays {m} {m'} {t} {t'} {area} {level} (Some r) area_in level_in o = inr (record { area = area; level = level; area_in = area_in; level_in = level_in; region = r; free = o.free; lowest = o.lowest; table = o.chain })

pub grows-moved : {m m' : Store} {t t' : Table} {here : ℕ} (to : ℕ) → MovesHere m t m' t' here to → Grows t t'
grows-moved {m} {m'} {t} {t'} {here} to moved =
    let r = moved.relocates in
    let form = opened-form r.region r.opens in
    let slot_is : slot_of t r.area (survivor t r.level) ≡ slot_of r.table r.area (survivor t r.level) = ap (λ (top : ℕ). r.area * (top + 1) + survivor t r.level) (sym form.top) in
    inr (record {
      room = r.table;
      opens = opens-or-stays r.region r.old.area_in (survivor_in t r.level r.old.level_in) r.opens;
      area = r.area;
      from = r.level;
      level = survivor t r.level;
      to = to;
      words = word_count_of moved.parcel;
      charge = moved.parcel.charge;
      some = some_words moved.parcel moved.fits;
      few = few_words moved.parcel moved.fits;
      end = subst (λ (k : ℕ). IsEnd r.table k to (word_count_of moved.parcel)) slot_is r.end;
      commits = r.commits;
    })

pub opens-faulted : {m m' : Store} {t t' : Table} → OpensAtMost m t m' t' → OpensOrStays t t'
opens-faulted (inl x) = inl x.1
opens-faulted (inr x) = let o = x.2 in opens-or-stays o.region o.area_in o.level_in o.opens

pub grows-faulted : {m m' : Store} {t t' : Table} → OpensAtMost m t m' t' → Grows t t'
grows-faulted x = inl (opens-faulted x)
