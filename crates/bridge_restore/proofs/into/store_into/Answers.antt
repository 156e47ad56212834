use Rattle.std.proofs.Common.{◌≡◌, ◌∙◌, inl, inr, refl, sym, ap, subst}
use Rattle.std.specs.Prelude.{Some}
use Rattle.edge_disk.proofs.Calls.{calls_none, calls_as}
use Rattle.edge_disk.proofs.Moments.{untouched_refl}
use Rattle.spool_log.specs.declared.fault.RecoverFault.TheVariants as Recover
use Rattle.spool_log.specs.State.{view}
use Rattle.notes.specs.declared.note.Note.TheVariants.{DiskFault}
use Rattle.bridge_parts.specs.Refused.{note_of_recover}
use Rattle.bridge_parts.specs.Run.{disk_run}
use Rattle.bridge_restore.specs.Into.{IsStoreNote}
use Rattle.bridge_restore.specs.Told.{told}
use Rattle.bridge_restore.proofs.Ending.{tells_later, from_seen, closed_images, recover_known, recover_failed}
use Rattle.bridge_restore.proofs.into.store_into.Goals as goal

-- it is opened

pub returns-in-Ok-clause-disks : goal.returns-in-Ok-clause-disks
returns-in-Ok-clause-disks g c = tells_later _ _ _ _ _ _ c.in-Ok.ensures.calls c.store_open.ensures.disks

pub returns-in-Ok-clause-stored : goal.returns-in-Ok-clause-stored
returns-in-Ok-clause-stored g c = λ slots tells known.
    let ended = c.store_open.ensures.stored slots tells known in
    let spool = c.in-Ok.target in
    inr (record {
      result = ended.result;
      memory = ended.memory;
      doubt = ended.doubt;
      why_is = ended.why_is;
      stores = λ tells'.
          let opened = c.in-Ok.ensures.opened tells' in
          let did = ended.stores opened.0 tells' opened.1.reached in
          from_seen c.args.tag opened.0 (told c.args.tag slots) (disk_run g.E.Disk.tells g.E.Disk.moment c.args.target c.store_open.result.target) ended.memory ended.doubt
          (view spool.memory spool.doubt (g.E.Disk.moment spool.disk)) c.store_open.result.count opened.1.stood (c.in-Ok.ensures.any_moment tells') ended.result did.0 did.1;
    })

-- it is refused

pub returns-in-Err-clause-known : goal.returns-in-Err-clause-known
returns-in-Err-clause-known g c = subst IsStoreNote (sym c.recover_note.ensures) (recover_known c.in-Err.field-0.fault)

pub returns-in-Err-clause-disks : goal.returns-in-Err-clause-disks
returns-in-Err-clause-disks g c =
    let fault = c.in-Err.field-0.fault in
    let note_is = c.recover_note.ensures in
    inr (
      calls_none _,
      calls_as _ _ _ _ c.in-Err.ensures.calls
          (λ by. let same : c.recover_note.result ≡ DiskFault = cc in recover_failed fault (sym note_is ∙ same))
          (λ by. ap Some (note_is ∙ ap note_of_recover by)),
    )

pub returns-in-Err-clause-told : goal.returns-in-Err-clause-told
returns-in-Err-clause-told g c = λ tells. untouched_refl _

pub returns-in-Err-clause-stored : goal.returns-in-Err-clause-stored
returns-in-Err-clause-stored g c = λ slots tells known.
    let fault = c.in-Err.field-0.fault in
    inl (
      record {
        fault = fault;
        why_is = ap Some c.recover_note.ensures;
        broken = c.in-Err.ensures.broken;
        any_moment = λ tells'. closed_images fault _ _ (c.in-Err.ensures.any_moment tells');
      },
      refl,
    )
