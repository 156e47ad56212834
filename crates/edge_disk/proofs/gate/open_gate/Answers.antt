use Rattle.edge_disk.proofs.Moments.{untouched}
use Rattle.edge_disk.proofs.GateSteps.{gate_written}
use Rattle.edge_disk.proofs.gate.open_gate.Goals as goal

pub returns-in_err-write_at-clause-any_moment : goal.returns-in_err-write_at-clause-any_moment
returns-in_err-write_at-clause-any_moment g c = λ tells.
    gate_written _ _ _ c.requires.room (g.met.D.Disk.lawful c.args.disk.now tells) (c.requires.settled tells) (c.write_at.ensures.told tells)

pub returns-clause-any_moment : goal.returns-clause-any_moment
returns-clause-any_moment g c = λ tells.
    let one = gate_written _ _ _ c.requires.room (g.met.D.Disk.lawful c.args.disk.now tells) (c.requires.settled tells) (c.write_at.ensures.told tells) in
    untouched _ _ _ _ one (c.sync.ensures.told tells)
