-- What each call preserves of a disk in memory.
use Rattle.std.proofs.Common.{◌≡◌, ℕ, ◌+◌, ◌==◌, true, false, Bool, if◌then◌else◌, ◌≤◌, List, [], ◌∷◌, ◌++◌, length, take, drop, sum_by, fold, refl, sym, ◌∙◌, ap, subst, arith}
use Rattle.std.proofs.lemmas.List.{length-drop, length-take-le}
use Rattle.std.proofs.lemmas.List.Sums.{fold_push, sum_by-append}
use Rattle.band_disk.specs.declared.log.Entry.{Entry}
use Rattle.band_disk.specs.declared.log.Entry.TheVariants.{Write, Sync, Restart}
use Rattle.band_disk.specs.declared.log.Log.{Log}
use Rattle.band_disk.specs.Disks.{overwritten}
use Rattle.band_disk.specs.Logs.{AreWithin, Call, DiskContents, MemoryDisk, Restarted, accepts, after_call, counted, noted, failed, Synced, Writes, Wrote, after, as_read, bytes_of, contents_of, left_by, spoiled, unsynced, unsynced_after, with_writes}
use Rattle.band_disk.specs.Entries.{IsLog, IsNoted, calls_of, log_calls, written_size}
use Rattle.band_disk.specs.Memory.{LogInvariant}
use Rattle.band_disk.proofs.WriteSequences.{length-overwritten, length-with_writes, spoiled_within, with_writes-append, within_push}

writes_from : (tear : ℕ) (contents : DiskContents) (calls : List Call) → (fold (after tear) contents calls).writes ≡ fold unsynced_after contents.writes calls
writes_from tear contents [] = refl
writes_from tear contents (call ∷ calls) = writes_from tear (after tear contents call) calls

-- the writes of the contents are those since the last sync
pub writes_are : (tear : ℕ) (start : List ℕ) (calls : List Call) → (contents_of tear start calls).writes ≡ unsynced calls
writes_are tear start calls = writes_from tear (record { synced = start; writes = [] }) calls

-- the contents after one more call
pub contents_push : (tear : ℕ) (start : List ℕ) (calls : List Call) (call : Call) → contents_of tear start (calls ++ call ∷ []) ≡ after tear (contents_of tear start calls) call
contents_push tear start calls call = fold_push (after tear) (record { synced = start; writes = [] }) calls call

-- how many bytes the calls wrote
pub bytes_of-calls_of : (entries : List Entry) (written : List ℕ) → written_size entries ≤ length written → sum_by bytes_of (calls_of entries written) ≡ written_size entries
bytes_of-calls_of [] written le = refl
bytes_of-calls_of (Write at len ∷ entries) written le =
    omega (
      arith,
      sum_by-append bytes_of (Wrote at (take len written) ∷ []) (calls_of entries (drop len written)),
      length-take-le len written (omega arith),
      bytes_of-calls_of entries (drop len written) (omega (arith, length-drop len written)),
    )
bytes_of-calls_of (Sync ∷ entries) written le = bytes_of-calls_of entries written le
bytes_of-calls_of (Restart ∷ entries) written le = bytes_of-calls_of entries written le

-- the log's bytes are those that its calls wrote
pub written_is : (log : Log) → IsLog log → sum_by bytes_of (log_calls log) ≡ length log.written.items
written_is log is = bytes_of-calls_of log.entries.items log.written.items (omega (arith, is.size)) ∙ is.size

module _ (old : Log) (start bytes synced : List ℕ) (room tear : ℕ) (kept : LogInvariant old start bytes synced room tear) where
  -- the bytes as read are the synced bytes with the unsynced writes applied
  pub read_is : bytes ≡ with_writes synced (unsynced (log_calls old))
  read_is = kept.read ∙ ap (with_writes (contents_of tear start (log_calls old)).synced) (writes_are tear start (log_calls old)) ∙ ap (λ (b : List ℕ). with_writes b (unsynced (log_calls old))) (sym kept.durable)

  pub kept_write : (new : Log) (at : ℕ) (piece : List ℕ) → IsNoted old (Wrote at piece) new → at ≤ length bytes → at + length piece ≤ room → LogInvariant new start (overwritten at piece bytes) synced room tear
  kept_write new at piece is place fits = record {
    is_log = is.log;
    entries = is.places ∙ kept.entries;
    written = is.space ∙ kept.written;
    read = ap (overwritten at piece) kept.read ∙ sym (with_writes-append (contents_of tear start (log_calls old)).synced (contents_of tear start (log_calls old)).writes ((at, piece) ∷ [])) ∙ ap as_read (sym contents);
    durable = kept.durable ∙ ap (λ (c : DiskContents). c.synced) (sym contents);
    within = subst (AreWithin room synced) (sym unsynced_now) (within_push room synced (unsynced (log_calls old)) at piece kept.within (omega (arith, ap length read_is)) fits);
    size = omega (arith, kept.size, length-overwritten at piece bytes place);
    durable_size = kept.durable_size;
  }
    where
      contents : contents_of tear start (log_calls new) ≡ after tear (contents_of tear start (log_calls old)) (Wrote at piece)
      contents = ap (contents_of tear start) is.calls ∙ contents_push tear start (log_calls old) (Wrote at piece)

      unsynced_now : unsynced (log_calls new) ≡ unsynced (log_calls old) ++ (at, piece) ∷ []
      unsynced_now = ap unsynced is.calls ∙ fold_push unsynced_after [] (log_calls old) (Wrote at piece)

  -- a call after which everything is synced
  pub kept_settled : (new : Log) (call : Call) (left : List ℕ) → IsNoted old call new → left ≡ (after tear (contents_of tear start (log_calls old)) call).synced → ((writes : Writes) → unsynced_after writes call ≡ []) → length left ≤ room → LogInvariant new start left left room tear
  kept_settled new call left is leaves settles short = record {
    is_log = is.log;
    entries = is.places ∙ kept.entries;
    written = is.space ∙ kept.written;
    read = leaves ∙ ap (λ (w : Writes). with_writes (after tear (contents_of tear start (log_calls old)) call).synced w) (sym (settles (contents_of tear start (log_calls old)).writes)) ∙ ap as_read (sym contents);
    durable = leaves ∙ ap (λ (c : DiskContents). c.synced) (sym contents);
    within = subst (AreWithin room left) (sym (ap unsynced is.calls ∙ fold_push unsynced_after [] (log_calls old) call ∙ settles (unsynced (log_calls old)))) tt;
    size = short;
    durable_size = short;
  }
    where
      contents : contents_of tear start (log_calls new) ≡ after tear (contents_of tear start (log_calls old)) call
      contents = ap (contents_of tear start) is.calls ∙ contents_push tear start (log_calls old) call

  -- after a sync what is read is durable
  pub kept_sync : (new : Log) (left : List ℕ) → IsNoted old Synced new → left ≡ with_writes synced (unsynced (log_calls old)) → LogInvariant new start bytes left room tear
  kept_sync new left is lays =
      let same : left ≡ bytes = lays ∙ sym read_is in
      subst (λ (b : List ℕ). LogInvariant new start b left room tear) same (kept_settled new Synced left is (same ∙ kept.read) (λ _. refl) (omega (arith, kept.size, ap length same)))

  -- what wasn't synced lies within the room
  pub lies_within : AreWithin room (contents_of tear start (log_calls old)).synced (contents_of tear start (log_calls old)).writes
  lies_within = subst (AreWithin room (contents_of tear start (log_calls old)).synced) (sym (writes_are tear start (log_calls old))) (subst (λ (b : List ℕ). AreWithin room b (unsynced (log_calls old))) kept.durable kept.within)

  -- the bytes after a restart
  pub left_is : left_by tear synced (unsynced (log_calls old)) ≡ (after tear (contents_of tear start (log_calls old)) Restarted).synced
  left_is = ap (λ (b : List ℕ). left_by tear b (unsynced (log_calls old))) kept.durable ∙ ap (left_by tear (contents_of tear start (log_calls old)).synced) (sym (writes_are tear start (log_calls old)))

  pub left_short : length (left_by tear synced (unsynced (log_calls old))) ≤ room
  left_short = shorter (tear == 0) (tear == 1) (unsynced (log_calls old)) kept.within
    where
      shorter : (lost all : Bool) (writes : Writes) → AreWithin room synced writes → length (if lost then synced else if all then with_writes synced writes else with_writes synced (spoiled writes)) ≤ room
      shorter true all writes within = kept.durable_size
      shorter false true writes within = length-with_writes room synced writes kept.durable_size within
      shorter false false writes within = length-with_writes room synced (spoiled writes) kept.durable_size (spoiled_within room synced synced writes refl within)

-- a call that was logged
pub made : (old counted_one new : MemoryDisk) (call : Call) → true ≡ accepts old call → counted_one ≡ counted old → new ≡ noted counted_one call → new ≡ after_call old call
made old counted_one new call goes is_counted is_new =
    is_new ∙ ap (λ d. noted d call) is_counted ∙ ap (λ (b : Bool). if b then noted (counted old) call else failed (counted old)) goes
