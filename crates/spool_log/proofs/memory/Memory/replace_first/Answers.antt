use Rattle.std.proofs.Common.{List, [], ◌∷◌, ◌++◌, refl, ap, subst, sym, ◌∙◌, arith}
use Rattle.std.proofs.Math.Logic.{∥∥₁_prop, ∥∥₁_elim, ∥∥₁_map}
use Rattle.spool_state.specs.SpoolState.{OpenSlot}
use Rattle.spool_state.specs.Change.{added, begun, shut}
use Rattle.spool_state.proofs.Shut.{end-shut}
use Rattle.disk_cell.specs.Register as Cells
use Rattle.disk_cell.specs.declared.register.Register.{Register}
use Rattle.spool_log.specs.Knows.{IsStored, KnowsSlot, KnowsSlots}
use Rattle.spool_answers.specs.Stages.{last_of, replace_stages}
use Rattle.spool_log.proofs.Numbers.{end_known}
use Rattle.spool_log.proofs.Changes.Replacing.{first_stored, first_images, older_known, shut_stage, shut_stages, shut_outside, shut_here, next_shut}
use Rattle.spool_log.proofs.Changes.Leaving.{tears_shut}
use Rattle.spool_log.proofs.Changes.Starting.{register_kept}
use Rattle.spool_log.specs.Reading.Marked.{IsMarked}
use Rattle.spool_log.proofs.Scans.Marked.{marked_shut, marked_begun, marked_group}
use Rattle.spool_log.proofs.memory.Memory.replace_first.Goals as goal

pub returns-in_err-shut-clause-any_moment : goal.returns-in_err-shut-clause-any_moment
returns-in_err-shut-clause-any_moment g c = λ s tells stored.
    let settled = c.requires.settled tells in
    let first = first_stored s c.args.self.now _ stored c.requires.confirmed c.index-first.result.now c.index-first.ensures in
    shut_stage s first _ settled stored.stands _ (c.shut.ensures.any_moment first.slot.segment tells (first_images s first _ settled stored.stands)) c.args.entries.now

pub returns-in_err-slot-clause-any_moment : goal.returns-in_err-slot-clause-any_moment
returns-in_err-slot-clause-any_moment g c = λ s tells stored.
    let settled = c.requires.settled tells in
    let knows = stored.knows in
    let first = first_stored s c.args.self.now _ stored c.requires.confirmed c.index-first.result.now c.index-first.ensures in
    let run = c.shut.ensures.any_moment first.slot.segment tells (first_images s first _ settled stored.stands) in
    let here = shut_here s first _ settled stored.stands _ run (g.met.D.Disk.lawful c.shut.new.disk tells) (c.in_ok-shut.ensures.closed tells) in
    let next = next_shut s first stored.stands.sound c.args.self.now.size c.args.self.now.active _ c.next_at.result knows.size knows.active c.next_at.ensures c.requires.small c.requires.full in
    shut_stages s first _ settled stored.stands _ run c.args.entries.now _
    (c.begin_with.ensures.any_moment (shut s first.rest) first.slot.place tells here next (omega (arith, end-shut s first.slot first.rest first.is stored.stands.sound, end_known s c.args.self.now.active stored.stands.sound knows.active, c.requires.numbers)))

pub returns-clause-any_moment : goal.returns-clause-any_moment
returns-clause-any_moment g c = λ s tells stored.
    let settled = c.requires.settled tells in
    let knows = stored.knows in
    let first = first_stored s c.args.self.now _ stored c.requires.confirmed c.index-first.result.now c.index-first.ensures in
    let run = c.shut.ensures.any_moment first.slot.segment tells (first_images s first _ settled stored.stands) in
    let here = shut_here s first _ settled stored.stands _ run (g.met.D.Disk.lawful c.shut.new.disk tells) (c.in_ok-shut.ensures.closed tells) in
    let next = next_shut s first stored.stands.sound c.args.self.now.size c.args.self.now.active _ c.next_at.result knows.size knows.active c.next_at.ensures c.requires.small c.requires.full in
    shut_stages s first _ settled stored.stands _ run c.args.entries.now _
    (c.begin_with.ensures.any_moment (shut s first.rest) first.slot.place tells here next (omega (arith, end-shut s first.slot first.rest first.is stored.stands.sound, end_known s c.args.self.now.active stored.stands.sound knows.active, c.requires.numbers)))

pub returns-clause-stored : goal.returns-clause-stored
returns-clause-stored g c = λ s tells stored.
    let settled = c.requires.settled tells in
    let knows = stored.knows in
    let new = g.D.Disk.moment c.begin_with.new.disk in
    let first = first_stored s c.args.self.now _ stored c.requires.confirmed c.index-first.result.now c.index-first.ensures in
    let run = c.shut.ensures.any_moment first.slot.segment tells (first_images s first _ settled stored.stands) in
    let lawful = g.met.D.Disk.lawful c.shut.new.disk tells in
    let here = shut_here s first _ settled stored.stands _ run lawful (c.in_ok-shut.ensures.closed tells) in
    let next = next_shut s first stored.stands.sound c.args.self.now.size c.args.self.now.active _ c.next_at.result knows.size knows.active c.next_at.ensures c.requires.small c.requires.full in
    let done = c.in_ok-slot.ensures.stands (shut s first.rest) first.slot.place tells here next (omega (arith, end-shut s first.slot first.rest first.is stored.stands.sound, end_known s c.args.self.now.active stored.stands.sound knows.active, c.requires.numbers)) in
    let kept = register_kept s first.slot.place _ _ c.args.self.now.register _ _ stored.stands refl (shut_outside s first _ settled stored.stands _ run lawful) stored.register in
    let kept_last = register_kept (shut s first.rest) first.slot.place _ _ c.args.self.now.register _ _ here next.at_is (c.in_ok-slot.ensures.outside tells) kept in
    subst (λ (l : List OpenSlot). IsStored (last_of s (replace_stages s l c.args.entries.now)) c.shift.new.self new.reads) (sym first.is) (record {
      stands = done.0;
      knows = record {
        size = c.shift.ensures.size ∙ knows.size;
        slots = c.shift.ensures.slots ∙ knows.slots;
        run = ap (λ (r : Register). r.content.run) c.shift.ensures.register ∙ knows.run;
        cursor = ap (λ (r : Register). r.content.cursor) c.shift.ensures.register ∙ knows.cursor;
        known = ap (λ (r : Register). r.content.known.items) c.shift.ensures.register ∙ knows.known;
        ordinal = ap (λ (r : Register). r.ordinal) c.shift.ensures.register ∙ knows.ordinal;
        older = subst (KnowsSlots s.size (first.rest ++ s.active ∷ [])) (sym c.shift.ensures.older) (older_known s first c.args.self.now.older.items s.active c.args.self.now.active refl knows.active);
        active = subst (KnowsSlot s.size (added (begun (shut s first.rest) first.slot.place) c.args.entries.now).active) (sym c.shift.ensures.active) done.1;
        bookmark = subst (IsMarked (first.rest ++ s.active ∷ []) (added (begun (shut s first.rest) first.slot.place) c.args.entries.now).active) (sym c.shift.ensures.bookmark)
            (marked_group (first.rest ++ s.active ∷ []) (begun (shut s first.rest) first.slot.place).active c.args.entries.now _
            (marked_begun first.rest s.active (begun (shut s first.rest) first.slot.place).active _ refl
            (marked_shut first.slot first.rest s.active _ (subst (λ (l : List OpenSlot). IsMarked l s.active c.args.self.now.bookmark) first.is knows.bookmark))));
      };
      register = subst (λ (r : Register). Cells.Knows r new.reads) (sym c.shift.ensures.register) kept_last;
    })

pub shut-requires-clause-leave : goal.shut-requires-clause-leave
shut-requires-clause-leave g c =
    c.requires.leave c.args.disk.now _ 1 (λ tells d torn image same.
    ∥∥₁_elim (c.requires.stored tells) ∥∥₁_prop (λ p.
    let first = first_stored p.0 c.args.self.now _ p.1 c.requires.confirmed c.index-first.result.now c.index-first.ensures in
    tears_shut g.D.Disk.may_release p.0 _ (c.requires.settled tells) p.1.stands first d torn image same))

pub begin_with-requires-clause-next : goal.begin_with-requires-clause-next
begin_with-requires-clause-next g c = λ tells.
    ∥∥₁_map (c.requires.stored tells) (λ p.
    let s = p.0 in
    let settled = c.requires.settled tells in
    let knows = p.1.knows in
    let sound = p.1.stands.sound in
    let first = first_stored s c.args.self.now _ p.1 c.requires.confirmed c.index-first.result.now c.index-first.ensures in
    let run = c.shut.ensures.any_moment first.slot.segment tells (first_images s first _ settled p.1.stands) in
    let here = shut_here s first _ settled p.1.stands _ run (g.met.D.Disk.lawful c.shut.new.disk tells) (c.in_ok-shut.ensures.closed tells) in
    let next = next_shut s first sound c.args.self.now.size c.args.self.now.active _ c.next_at.result knows.size knows.active c.next_at.ensures c.requires.small c.requires.full in
    (shut s first.rest, first.slot.place, here, next, omega (arith, end-shut s first.slot first.rest first.is sound, end_known s c.args.self.now.active sound knows.active, c.requires.numbers)))
