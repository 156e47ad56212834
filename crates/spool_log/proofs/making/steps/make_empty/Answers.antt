use Rattle.std.proofs.Common.{sym, ◌∙◌, subst}
use Rattle.spool_state.specs.Image.{StandsFor}
use Rattle.spool_state.specs.Empty.{empty_state}
use Rattle.spool_log.proofs.Scans.Faults.{on_ok}
use Rattle.spool_log.proofs.Formats.Formats.{format_synced, format_erased, format_body, body_no_name, named_stands, format_named}
use Rattle.spool_log.proofs.making.steps.make_empty.Goals as goal

pub returns-in_err-sync-clause-any_moment : goal.returns-in_err-sync-clause-any_moment
returns-in_err-sync-clause-any_moment g c = λ tells.
    format_synced c.args.slots c.args.size _ (g.met.D.Disk.lawful c.args.disk.now tells) c.requires.layout _ (c.sync.ensures.told tells)

pub returns-in_err-erase_name-clause-any_moment : goal.returns-in_err-erase_name-clause-any_moment
returns-in_err-erase_name-clause-any_moment g c = λ tells.
    format_erased c.args.slots c.args.size _ (g.met.D.Disk.lawful c.args.disk.now tells) c.requires.layout _ _ (g.met.D.Disk.lawful c.sync.new.self tells) (c.sync.ensures.told tells) (c.erase_name.ensures.any_moment tells)

pub returns-in_err-write_body-clause-any_moment : goal.returns-in_err-write_body-clause-any_moment
returns-in_err-write_body-clause-any_moment g c = λ tells.
    let lawful = g.met.D.Disk.lawful c.args.disk.now tells in
    let erased = format_erased c.args.slots c.args.size _ lawful c.requires.layout _ _ (g.met.D.Disk.lawful c.sync.new.self tells) (c.sync.ensures.told tells) (c.erase_name.ensures.any_moment tells) in
    format_body c.args.slots c.args.size _ lawful c.requires.layout _ _ (g.met.D.Disk.lawful c.erase_name.new.disk tells) (c.erase_name.ensures.calls.size ∙ c.sync.ensures.calls.size) (c.in_ok-erase_name.ensures.erased tells) erased (c.write_body.ensures.any_moment tells)

pub write_name-requires-clause-none : goal.write_name-requires-clause-none
write_name-requires-clause-none g c = λ tells.
    body_no_name c.args.slots c.args.size _ (g.met.D.Disk.lawful c.args.disk.now tells) c.requires.layout _ _ (g.met.D.Disk.lawful c.erase_name.new.disk tells) (g.met.D.Disk.lawful c.write_body.new.disk tells) (c.erase_name.ensures.calls.size ∙ c.sync.ensures.calls.size) (c.in_ok-erase_name.ensures.erased tells) (c.write_body.ensures.any_moment tells)

pub returns-clause-empty : goal.returns-clause-empty
returns-clause-empty g c =
    on_ok c.write_name.result _ _ c.write_name.ensures.written (λ named tells.
    subst (StandsFor (empty_state c.args.slots c.args.size)) (sym (named tells))
    (named_stands c.args.slots c.args.size _ (g.met.D.Disk.lawful c.args.disk.now tells) c.requires.layout _ (g.met.D.Disk.lawful c.write_body.new.disk tells) (c.write_body.ensures.calls.size ∙ c.erase_name.ensures.calls.size ∙ c.sync.ensures.calls.size) (c.in_ok-write_body.ensures.written tells)))

pub returns-clause-any_moment : goal.returns-clause-any_moment
returns-clause-any_moment g c = λ tells.
    let lawful = g.met.D.Disk.lawful c.args.disk.now tells in
    let size = c.erase_name.ensures.calls.size ∙ c.sync.ensures.calls.size in
    let erased = format_erased c.args.slots c.args.size _ lawful c.requires.layout _ _ (g.met.D.Disk.lawful c.sync.new.self tells) (c.sync.ensures.told tells) (c.erase_name.ensures.any_moment tells) in
    let body = format_body c.args.slots c.args.size _ lawful c.requires.layout _ _ (g.met.D.Disk.lawful c.erase_name.new.disk tells) size (c.in_ok-erase_name.ensures.erased tells) erased (c.write_body.ensures.any_moment tells) in
    format_named c.args.slots c.args.size _ lawful c.requires.layout _ _ (g.met.D.Disk.lawful c.write_body.new.disk tells) (c.write_body.ensures.calls.size ∙ size) (c.in_ok-write_body.ensures.written tells) body (c.write_name.ensures.any_moment tells)
