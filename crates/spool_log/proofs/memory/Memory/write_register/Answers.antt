use Rattle.std.proofs.Common.{◌≡◌, inl, inr, ℕ, List, ◌+◌, ◌^◌, [], ◌∷◌, ap, sym, subst, arith}
use Rattle.std.proofs.Math.Logic.{∥∥₁_map}
use Rattle.std.proofs.lemmas.Bool.{cases_lt}
use Rattle.spool_state.specs.Change.{registered}
use Rattle.spool_state.specs.Keeping.{KeepsSpool}
use Rattle.spool_state.proofs.Registered.{sound-registered}
use Rattle.edge_disk.specs.Disk.{Moment, LeavesOnly}
use Rattle.edge_disk.specs.Leave.{Lets}
use Rattle.edge_disk.proofs.Leaving.{lets_as}
use Rattle.known_numbers.specs.declared.stretch.Stretch.{Stretch}
use Rattle.disk_cell.specs.Register.{GoesSet}
use Rattle.disk_cell.proofs.Frames.{knows_images, knows_holds}
use Rattle.spool_answers.specs.Stages.{StandsForOne}
use Rattle.spool_log.proofs.Stored.{register_known, stays}
use Rattle.spool_log.proofs.Changes.Leaving.{set_keeps}
use Rattle.spool_log.proofs.Changes.Marking.{may_lie}
use Rattle.spool_log.proofs.Changes.Registered.{has_as, register_new, set_moments, step_as}
use Rattle.spool_log.proofs.memory.Memory.write_register.Goals as goal

pub set-requires-clause-known : goal.set-requires-clause-known
set-requires-clause-known g c = λ tells.
    knows_images c.args.self.now.register _ (c.requires.settled tells) (register_known c.args.self.now.register _ (∥∥₁_map (c.requires.stored tells) (λ p. p.1.register)))

pub returns-clause-stored : goal.returns-clause-stored
returns-clause-stored g c = λ s tells stored.
    let knows = stored.knows in
    let numbers = c.args.numbers.now in
    let lie = may_lie s c.args.self.now numbers knows stored.stands.sound c.requires.numbers in
    let register = c.set.new.self in
    let new = (g.D.Disk.moment c.set.new.disk).reads in
    let known = c.in_ok-set.ensures.known tells in
    let content = c.in_ok-set.ensures.content in
    let run = content.run_is in
    let cursor : register.content.cursor ≡ numbers.cursor = omega (arith, content.cursor_is, c.cursor.ensures.cursor) in
    let stretches : register.content.known.items ≡ numbers.stretches = cc (content.known_is, c.stretches.ensures.stretches) in
    let ordinal : register.ordinal ≡ s.ordinal + 1 = omega (arith, c.in_ok-set.ensures.ordinal, knows.ordinal) in
    let sound = sound-registered s c.args.run numbers.cursor numbers.stretches stored.stands.sound c.requires.run (omega (arith, c.in_ok-set.ensures.worn, knows.ordinal)) lie.0 lie.1 c.cursor.ensures.sound lie.2 in
    let has = has_as register.ordinal (s.ordinal + 1) register.content.run c.args.run register.content.cursor numbers.cursor register.content.known.items numbers.stretches new ordinal run cursor stretches (knows_holds register new known) in
    record {
      stands = register_new s _ new stored.stands (c.in_ok-set.ensures.outside tells) c.args.run numbers sound has;
      knows = record {
        size = knows.size;
        slots = knows.slots;
        run = run;
        cursor = cursor;
        known = stretches;
        ordinal = ordinal;
        older = knows.older;
        active = knows.active;
        bookmark = knows.bookmark;
      };
      register = known;
    }

pub returns-in_err-set-clause-any_moment : goal.returns-in_err-set-clause-any_moment
returns-in_err-set-clause-any_moment g c = λ s tells stored.
    let knows = stored.knows in
    let numbers = c.args.numbers.now in
    let after = registered s c.args.run numbers.cursor numbers.stretches in
    let lie = may_lie s c.args.self.now numbers knows stored.stands.sound c.requires.numbers in
    let old = g.D.Disk.moment c.args.disk.now in
    let settled = c.requires.settled tells in
    elim (cases_lt c.args.self.now.register.ordinal (2 ^ 63)) [
      | inl fits ↦ set_moments s c.args.self.now.register c.args.run numbers old _ settled stored.stands knows.ordinal knows.run knows.cursor knows.known
          (sound-registered s c.args.run numbers.cursor numbers.stretches stored.stands.sound c.requires.run (omega (arith, fits, knows.ordinal)) lie.0 lie.1 c.cursor.ensures.sound lie.2)
          (step_as c.args.self.now.register c.args.run c.cursor.result numbers.cursor c.stretches.result.now numbers.stretches old _ c.cursor.ensures.cursor c.stretches.ensures.stretches (c.set.ensures.any_moment tells))
      | inr last ↦ subst (λ (m : Moment). LeavesOnly (StandsForOne s (after ∷ [])) old m) (sym (ap g.D.Disk.moment (c.set.ensures.unchanged (omega (arith, last, c.args.self.now.register.last)))))
          (stays s (after ∷ []) old (g.met.D.Disk.lawful c.args.disk.now tells) settled stored.stands)
    ]

pub returns-clause-any_moment : goal.returns-clause-any_moment
returns-clause-any_moment g c = λ s tells stored.
    let knows = stored.knows in
    let numbers = c.args.numbers.now in
    let lie = may_lie s c.args.self.now numbers knows stored.stands.sound c.requires.numbers in
    let old = g.D.Disk.moment c.args.disk.now in
    set_moments s c.args.self.now.register c.args.run numbers old _ (c.requires.settled tells) stored.stands knows.ordinal knows.run knows.cursor knows.known
    (sound-registered s c.args.run numbers.cursor numbers.stretches stored.stands.sound c.requires.run (omega (arith, c.in_ok-set.ensures.worn, knows.ordinal)) lie.0 lie.1 c.cursor.ensures.sound lie.2)
    (step_as c.args.self.now.register c.args.run c.cursor.result numbers.cursor c.stretches.result.now numbers.stretches old _ c.cursor.ensures.cursor c.stretches.ensures.stretches (c.set.ensures.any_moment tells))

pub set-requires-clause-leave : goal.set-requires-clause-leave
set-requires-clause-leave g c = λ fits.
    let self = c.args.self.now in
    let m = g.D.Disk.moment c.args.disk.now in
    let numbers = c.args.numbers.now in
    let run = c.args.run in
    let released = g.D.Disk.may_release in
    let lets = lets_as g.D.Disk.tells g.D.Disk.moment g.D.Disk.may_tear (GoesSet m self.register run numbers.cursor numbers.stretches) (KeepsSpool released) (λ t now torn goes.
    ∥∥₁_map (c.requires.stored t) (λ p.
    let s = p.0 in
    let knows = p.1.knows in
    let lie = may_lie s self numbers knows p.1.stands.sound c.requires.numbers in
    let sound = sound-registered s run numbers.cursor numbers.stretches p.1.stands.sound c.requires.run (omega (arith, fits, knows.ordinal)) lie.0 lie.1 c.cursor.ensures.sound lie.2 in
    set_keeps released s m (c.requires.settled t) p.1.stands self run numbers knows sound c.requires.rises c.requires.numbers.reaches c.requires.keeps c.requires.earned now torn goes)) c.requires.leave in
    subst (λ (l : List Stretch). Lets g.D.Disk.tells g.D.Disk.moment g.D.Disk.may_tear (GoesSet m self.register run c.cursor.result l)) (sym c.stretches.ensures.stretches)
    (subst (λ (n : ℕ). Lets g.D.Disk.tells g.D.Disk.moment g.D.Disk.may_tear (GoesSet m self.register run n numbers.stretches)) (sym c.cursor.ensures.cursor) lets)
