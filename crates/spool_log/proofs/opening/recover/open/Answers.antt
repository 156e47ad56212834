use Rattle.std.proofs.Common.{inl, inr, ℕ, List, sym, ap, subst}
use Rattle.std.specs.Prelude.{Result, IfErr, MatchResult}
use Rattle.spool_state.specs.SpoolState.{SpoolState}
use Rattle.spool_state.specs.Image.{StandsFor}
use Rattle.edge_disk.specs.Disk.{LeavesOnly}
use Rattle.edge_disk.proofs.Moments.{still_settled, untouched_then}
use Rattle.spool_log.specs.declared.fault.RecoverFault.{RecoverFault}
use Rattle.spool_log.specs.declared.fault.RecoverFault.TheVariants.{DiskFault}
use Rattle.spool_log.specs.declared.memory.Memory.{Memory}
use Rattle.spool_log.specs.Fault.{as_recover}
use Rattle.spool_log.specs.Knows.{IsStored}
use Rattle.spool_log.specs.Opening.{Refuses, IsRefusedAs, IsOpening, IsRefusing}
use Rattle.spool_log.proofs.Opens.Mending.{err_is}
use Rattle.spool_log.proofs.Opens.Recovering.{open_read, refused_read, open_raised_as, refused_raised, read_broken, read_refused, refused_as, found_as, same_stored, refused_unbroken}
use Rattle.spool_log.proofs.opening.recover.open.Goals as goal

pub returns-in_err-memory-clause-refused : goal.returns-in_err-memory-clause-refused
returns-in_err-memory-clause-refused g c =
    subst (λ (r : Result Memory RecoverFault). IfErr r (λ fault. (s : SpoolState) → g.D.Disk.tells → StandsFor s (g.D.Disk.moment c.args.disk.now).reads → Refuses c.args.opening s fault)) (sym (err_is _ _ c.from_residual-in_err-memory.ensures.1))
    (λ s tells stands. read_refused c.args.opening s _ c.in_err-memory.field-0.0 (c.in_err-memory.ensures.broken tells) (subst (StandsFor s) (sym (c.sync.ensures.told tells).same) stands))

pub returns-in_err-memory-clause-broken : goal.returns-in_err-memory-clause-broken
returns-in_err-memory-clause-broken g c =
    subst (λ (r : Result Memory RecoverFault). IfErr r (λ fault. g.D.Disk.tells → IsRefusedAs c.args.opening (g.D.Disk.moment c.args.disk.now).reads fault)) (sym (err_is _ _ c.from_residual-in_err-memory.ensures.1))
    (λ tells. subst (λ (d : List ℕ). IsRefusedAs c.args.opening d (as_recover c.in_err-memory.field-0.0)) (c.sync.ensures.told tells).same (read_broken c.args.opening _ c.in_err-memory.field-0.0 (c.in_err-memory.ensures.broken tells)))

pub raise-requires-clause-settled : goal.raise-requires-clause-settled
raise-requires-clause-settled g c = λ tells. still_settled _ _ (c.in_ok-sync.ensures.durable tells) (c.read_device.ensures.told tells)

pub raise-requires-clause-stored : goal.raise-requires-clause-stored
raise-requires-clause-stored g c = λ tells.
    let state = c.in_ok-memory.ensures.found tells in
    ∣ (state.0, subst (IsStored state.0 c.in_ok-memory.memory) (sym (c.read_device.ensures.told tells).same) state.1) ∣₁

pub returns-in_err-raise-in-Raise-clause-refused : goal.returns-in_err-raise-in-Raise-clause-refused
returns-in_err-raise-in-Raise-clause-refused g c =
    subst (λ (r : Result Memory RecoverFault). IfErr r (λ fault. (s : SpoolState) → g.D.Disk.tells → StandsFor s (g.D.Disk.moment c.args.disk.now).reads → Refuses c.args.opening s fault)) (sym (err_is _ _ c.from_residual-in_err-raise-in-Raise.ensures.1))
    (λ s tells stands.
    let here = subst (StandsFor s) (sym (c.sync.ensures.told tells).same) stands in
    let stored = subst (IsStored s c.in_ok-memory.memory) (sym (c.read_device.ensures.told tells).same) (same_stored s c.in_ok-memory.memory _ (c.in_ok-memory.ensures.found tells) here) in
    refused_as c.args.opening c.in-Raise.is s c.in_err-raise-in-Raise.field-0.0 (c.in_err-raise-in-Raise.ensures.refused s tells stored))

pub returns-in_err-raise-in-Raise-clause-broken : goal.returns-in_err-raise-in-Raise-clause-broken
returns-in_err-raise-in-Raise-clause-broken g c =
    subst (λ (r : Result Memory RecoverFault). IfErr r (λ fault. g.D.Disk.tells → IsRefusedAs c.args.opening (g.D.Disk.moment c.args.disk.now).reads fault)) (sym (err_is _ _ c.from_residual-in_err-raise-in-Raise.ensures.1))
    (λ tells.
    let state = c.in_ok-memory.ensures.found tells in
    let stored = subst (IsStored state.0 c.in_ok-memory.memory) (sym (c.read_device.ensures.told tells).same) state.1 in
    let stands = subst (StandsFor state.0) (c.sync.ensures.told tells).same state.1.stands in
    refused_unbroken c.args.opening state.0 _ c.in_err-raise-in-Raise.field-0.0 stands (refused_as c.args.opening c.in-Raise.is state.0 c.in_err-raise-in-Raise.field-0.0 (c.in_err-raise-in-Raise.ensures.refused state.0 tells stored)))

pub returns-in_err-raise-in-Raise-clause-any_moment : goal.returns-in_err-raise-in-Raise-clause-any_moment
returns-in_err-raise-in-Raise-clause-any_moment g c = λ tells.
    let old = g.D.Disk.moment c.args.disk.now in
    let new = g.D.Disk.moment c.raise.new.disk in
    let state = c.in_ok-memory.ensures.found tells in
    let stored = subst (IsStored state.0 c.in_ok-memory.memory) (sym (c.read_device.ensures.told tells).same) state.1 in
    let lawful = g.met.D.Disk.lawful c.args.disk.now tells in
    let read = untouched_then _ _ _ lawful (c.sync.ensures.told tells) (c.read_device.ensures.told tells) in
    let stands = subst (StandsFor state.0) (c.sync.ensures.told tells).same state.1.stands in
    subst (λ (r : Result Memory RecoverFault). MatchResult r (λ _. LeavesOnly (IsOpening c.args.opening old) old new) (λ fault. LeavesOnly (IsRefusing c.args.opening fault old) old new)) (sym (err_is _ _ c.from_residual-in_err-raise-in-Raise.ensures.1))
    (refused_raised c.args.opening c.in-Raise.is c.in_err-raise-in-Raise.field-0.0 state.0 old _ new lawful read stands
    (elim c.in_err-raise-in-Raise.ensures.unchanged [ inl failed ↦ inl failed | inr same ↦ inr (ap g.D.Disk.moment same) ]) (c.raise.ensures.any_moment state.0 tells stored))

pub returns-in_err-sync-clause-any_moment : goal.returns-in_err-sync-clause-any_moment
returns-in_err-sync-clause-any_moment g c = λ tells.
    let old = g.D.Disk.moment c.args.disk.now in
    let new = g.D.Disk.moment c.sync.new.self in
    subst (λ (r : Result Memory RecoverFault). MatchResult r (λ _. LeavesOnly (IsOpening c.args.opening old) old new) (λ fault. LeavesOnly (IsRefusing c.args.opening fault old) old new)) (sym (err_is _ _ c.from_residual.ensures.1))
    (refused_read c.args.opening DiskFault old new (g.met.D.Disk.lawful c.args.disk.now tells) (c.sync.ensures.told tells))

pub returns-in_err-memory-clause-any_moment : goal.returns-in_err-memory-clause-any_moment
returns-in_err-memory-clause-any_moment g c = λ tells.
    let old = g.D.Disk.moment c.args.disk.now in
    let new = g.D.Disk.moment c.read_device.new.disk in
    let lawful = g.met.D.Disk.lawful c.args.disk.now tells in
    subst (λ (r : Result Memory RecoverFault). MatchResult r (λ _. LeavesOnly (IsOpening c.args.opening old) old new) (λ fault. LeavesOnly (IsRefusing c.args.opening fault old) old new)) (sym (err_is _ _ c.from_residual-in_err-memory.ensures.1))
    (refused_read c.args.opening (as_recover c.in_err-memory.field-0.0) old new lawful (untouched_then _ _ _ lawful (c.sync.ensures.told tells) (c.read_device.ensures.told tells)))

pub returns-in-Keep-clause-durable : goal.returns-in-Keep-clause-durable
returns-in-Keep-clause-durable g c = λ tells. still_settled _ _ (c.in_ok-sync.ensures.durable tells) (c.read_device.ensures.told tells)

pub returns-in-Keep-clause-any_moment : goal.returns-in-Keep-clause-any_moment
returns-in-Keep-clause-any_moment g c = λ tells.
    let lawful = g.met.D.Disk.lawful c.args.disk.now tells in
    open_read c.args.opening _ _ lawful (untouched_then _ _ _ lawful (c.sync.ensures.told tells) (c.read_device.ensures.told tells))

pub returns-in_ok-raise-in-Raise-clause-any_moment : goal.returns-in_ok-raise-in-Raise-clause-any_moment
returns-in_ok-raise-in-Raise-clause-any_moment g c = λ tells.
    let state = c.in_ok-memory.ensures.found tells in
    let stored = subst (IsStored state.0 c.in_ok-memory.memory) (sym (c.read_device.ensures.told tells).same) state.1 in
    let lawful = g.met.D.Disk.lawful c.args.disk.now tells in
    let read = untouched_then _ _ _ lawful (c.sync.ensures.told tells) (c.read_device.ensures.told tells) in
    let stands = subst (StandsFor state.0) (c.sync.ensures.told tells).same state.1.stands in
    open_raised_as c.args.opening c.in-Raise.is state.0 _ _ _ lawful read stands (c.raise.ensures.any_moment state.0 tells stored)

pub returns-in_ok-raise-in-Raise-clause-found : goal.returns-in_ok-raise-in-Raise-clause-found
returns-in_ok-raise-in-Raise-clause-found g c = λ tells.
    let state = c.in_ok-memory.ensures.found tells in
    let stored = subst (IsStored state.0 c.in_ok-memory.memory) (sym (c.read_device.ensures.told tells).same) state.1 in
    let stands = subst (StandsFor state.0) (c.sync.ensures.told tells).same state.1.stands in
    found_as c.args.opening c.in-Raise.is state.0 _ _ _ stands (c.in_ok-raise-in-Raise.ensures.stored state.0 tells stored)
