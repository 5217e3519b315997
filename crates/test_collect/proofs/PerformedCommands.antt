-- Commands that were performed.
use Rattle.std.proofs.Common.{ℕ, ◌+◌, ◌≤◌, refl, List}
use Rattle.store_word.specs.Words.{Parts}
use Rattle.lisp_graph.specs.declared.command.Command.TheVariants as C
use Rattle.lisp_graph.specs.declared.reply.Reply.TheVariants as R
use Rattle.mem_port.specs.Store.{Store, StoresNothing}
use Rattle.area_space.specs.Accounts.{account_of}
use Rattle.area_space.specs.Table.{Table, quota_of}
use Rattle.heap_state.specs.Consistent.{RepresentsState}
use Rattle.heap_state.proofs.CommandEffects.{Leaves, leaves_same, performs_after, performs_fault}
use Rattle.heap_commands.specs.Growth.{CanGrowIn, WantsGrowth}
use Rattle.test_collect.specs.Machines.{IsPlayed}

pub same_store : (m : Store) → StoresNothing m m
same_store m = record { words = refl; levels = refl; top = refl; unmarked = λ page none. none }

-- nothing was stored
pub unplayed : (m m' : Store) (t : Table) (registers : List Parts) → StoresNothing m m' → IsPlayed m t registers m' t registers
unplayed m m' t registers stays = record { command = C.Eq 0 0; reply = R.Fault; allowed = tt; acts = λ s. (_, refl); performs = performs_fault m m' t t registers registers (C.Eq 0 0) refl (leaves_same m m' t registers stays) }

module _ {m m1 : Store} {t t1 : Table} {registers registers1 : List Parts} where
  -- registers were settled before
  pub performed_after : {m2 : Store} {t2 : Table} {registers2 : List Parts} → Leaves m t registers m1 t1 registers1 → IsPlayed m1 t1 registers1 m2 t2 registers2 → IsPlayed m t registers m2 t2 registers2
  performed_after {m2} {t2} {registers2} x p = record { command = p.command; reply = p.reply; allowed = p.allowed; acts = p.acts; performs = performs_after m m1 m2 t t1 t2 registers registers1 registers2 p.command p.reply x p.performs }

pub can_grow : {m : Store} {t : Table} {registers : List Parts} (target wanted area charge : ℕ) → RepresentsState m t registers → WantsGrowth m t registers target wanted area charge → account_of t area + charge ≤ quota_of t area → CanGrowIn m t registers target wanted
can_grow target wanted area charge x w fits = record { map = x.map; state = x.state; represents = x.represents; area = area; charge = charge; growing = w.grows x.map x.state x.represents; area_in = w.area_in; fits = fits }
