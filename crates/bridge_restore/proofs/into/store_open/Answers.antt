use Rattle.std.proofs.Common.{◌≡◌, ◌-◌, ◌∙◌, ℕ, sym, subst, arith}
use Rattle.std.specs.Prelude.{IfSome, Some, Option}
use Rattle.spool_log.specs.Memory.{end_of}
use Rattle.spool_log.specs.State.{view}
use Rattle.notes.specs.declared.note.Note.{Note}
use Rattle.notes.specs.declared.note.Note.TheVariants.{DiskFault}
use Rattle.bridge_restore.specs.Into.{Counts, FailsDisk, IsStoreNote}
use Rattle.bridge_restore.specs.Told.{told}
use Rattle.bridge_restore.proofs.Ending.{whys_known, tells_as, fails_why, why_fails, seen_counts}
use Rattle.bridge_restore.proofs.into.store_open.Goals as goal

pub returns-clause-known : goal.returns-clause-known
returns-clause-known g c = subst (λ (o : Option Note). IfSome o IsStoreNote) (sym c.why_note-why.ensures) (whys_known c.store_seen-ended.result)

pub returns-clause-disks : goal.returns-clause-disks
returns-clause-disks g c =
    rw (c.into_disk-target.ensures)
    (tells_as (FailsDisk c.store_seen-ended.result) (c.why_note-why.result ≡ Some DiskFault) _ _ _ _
    (λ fails. c.why_note-why.ensures ∙ fails_why c.store_seen-ended.result fails)
    (λ is. why_fails c.store_seen-ended.result (sym c.why_note-why.ensures ∙ is)) c.store_seen-ended.ensures.disks)

pub returns-clause-stored : goal.returns-clause-stored
returns-clause-stored g c = λ slots tells known.
    let after = c.store_seen-ended.new.target in
    let old = view c.args.target.memory c.args.target.doubt (g.E.Disk.moment c.args.target.disk) in
    let new = view after.memory after.doubt (g.E.Disk.moment after.disk) in
    let entries = told c.args.tag slots in
    let ended = c.store_seen-ended.result in
    let count_is : c.saturating_sub-count.result ≡ end_of after.memory - end_of c.args.target.memory =
    omega (arith, c.saturating_sub-count.ensures, c.end.ensures.end, c.end-begin.ensures.end) in
    rw (c.into_disk-target.ensures)
    record {
      result = ended;
      memory = after.memory;
      doubt = after.doubt;
      why_is = c.why_note-why.ensures;
      stores = λ u tells' held.
          let did = c.store_seen-ended.ensures.stored slots u tells tells' known held in
          (did, subst (λ (n : ℕ). Counts n u entries ended old new c.args.tag did) (sym count_is) (seen_counts u entries old new held c.args.tag ended did));
    }
