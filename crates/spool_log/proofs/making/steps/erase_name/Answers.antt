use Rattle.std.proofs.Common.{rules, ◌≡◌, sym, ◌∙◌}
use Rattle.edge_disk.proofs.Moments.{untouched}
use Rattle.spool_state.specs.Image.{magic}
use Rattle.spool_log.proofs.Formats.Naming.{name_erased}
use Rattle.spool_log.proofs.making.steps.erase_name.Goals as goal

pub returns-in_err-write_at-clause-any_moment : goal.returns-in_err-write_at-clause-any_moment
returns-in_err-write_at-clause-any_moment g c = λ tells.
    let name : c.read_at.new.buf ≡ magic = search rules in
    name_erased _ _ _ (g.met.D.Disk.lawful c.args.disk.now tells) c.requires.room (c.requires.settled tells) (c.read_at.ensures.told tells) (sym (c.in_ok-read_at.ensures.read tells) ∙ name) (c.write_at.ensures.told tells)

pub returns-clause-any_moment : goal.returns-clause-any_moment
returns-clause-any_moment g c = λ tells.
    let name : c.read_at.new.buf ≡ magic = search rules in
    untouched _ _ _ _ (name_erased _ _ _ (g.met.D.Disk.lawful c.args.disk.now tells) c.requires.room (c.requires.settled tells) (c.read_at.ensures.told tells) (sym (c.in_ok-read_at.ensures.read tells) ∙ name) (c.write_at.ensures.told tells))
    (c.sync.ensures.told tells)
