use Rattle.std.proofs.Common.{rules, ◌≡◌, ℕ, List, [], ◌∷◌, ◌++◌, Option, Some, None, refl, sym, ◌∙◌, subst, arith}
use Rattle.std.specs.Prelude.{All}
use Rattle.disk_cell.specs.Fault.{IsBroken}
use Rattle.disk_cell.specs.Register as Cells
use Rattle.spool_state.proofs.Registers.{HasRoom}
use Rattle.spool_log.specs.Device.{numbers_in}
use Rattle.spool_log.specs.Knows.{KnowsSlots}
use Rattle.spool_log.specs.Reading.Judging.{HasSoundNumbers, IsJudgementOf}
use Rattle.spool_log.specs.Reading.{IsSlotsFault, KnowsOpened}
use Rattle.spool_log.proofs.Scans.Faults.{if_err}
use Rattle.spool_log.proofs.Scans.Readings.{has_room, load_breaks, slots_break, judged_breaks, state_known, all_lie, three_told}
use Rattle.spool_log.proofs.reading.device.read_device.Goals as goal

pub returns-in_err-register-clause-broken : goal.returns-in_err-register-clause-broken
returns-in_err-register-clause-broken g c =
    if_err c.from_residual-in_err-register.result _ _ c.from_residual-in_err-register.ensures.1 (λ tells.
    load_breaks c.in_ok-header.header (g.D.Disk.moment c.args.disk.now) (g.met.D.Disk.lawful c.args.disk.now tells) c.in_ok-header.ensures.layout (c.in_ok-header.ensures.known tells) c.in_err-register.field-0.0
    (subst (λ (l : List ℕ). IsBroken c.in_err-register.field-0.0 l) (c.read.ensures.told tells).same (c.in_err-register.ensures.broken tells)))

pub returns-in_err-older-clause-told : goal.returns-in_err-older-clause-told
returns-in_err-older-clause-told g c = λ tells. three_told _ _ _ _ (g.met.D.Disk.lawful c.args.disk.now tells) (c.read.ensures.told tells) (c.load.ensures.untouched tells) (c.read_slots.ensures.told tells)

pub returns-in_err-older-clause-broken : goal.returns-in_err-older-clause-broken
returns-in_err-older-clause-broken g c =
    if_err c.from_residual-in_err-older.result _ _ c.from_residual-in_err-older.ensures.1 (λ tells.
    let header = c.in_ok-header.header in
    let register = c.in_ok-register.register in
    let first = (c.read.ensures.told tells).same in
    let both = (c.load.ensures.untouched tells).same ∙ first in
    let room : HasRoom register.ordinal register.content.run register.content.cursor register.content.known.items = has_room register (search rules) c.in_ok-register.ensures.fits in
    slots_break header (g.D.Disk.moment c.args.disk.now) (g.met.D.Disk.lawful c.args.disk.now tells) c.in_ok-header.ensures.layout (c.in_ok-header.ensures.known tells)
    register (subst (λ (l : List ℕ). Cells.Knows register l) first (c.in_ok-register.ensures.known tells)) room c.in_err-older.field-0.0
    (subst (λ (l : List ℕ). IsSlotsFault header.slots header.size l c.in_err-older.field-0.0) both (c.in_err-older.ensures.broken tells)))

pub returns-in-Some-clause-told : goal.returns-in-Some-clause-told
returns-in-Some-clause-told g c = λ tells. three_told _ _ _ _ (g.met.D.Disk.lawful c.args.disk.now tells) (c.read.ensures.told tells) (c.load.ensures.untouched tells) (c.read_slots.ensures.told tells)

pub returns-in-Some-clause-broken : goal.returns-in-Some-clause-broken
returns-in-Some-clause-broken g c = λ tells.
    let header = c.in_ok-header.header in
    let register = c.in_ok-register.register in
    let items = c.in_ok-older.older.items in
    let first = (c.read.ensures.told tells).same in
    let both = (c.load.ensures.untouched tells).same ∙ first in
    let room : HasRoom register.ordinal register.content.run register.content.cursor register.content.known.items = has_room register (search rules) c.in_ok-register.ensures.fits in
    judged_breaks header (g.D.Disk.moment c.args.disk.now) (g.met.D.Disk.lawful c.args.disk.now tells) c.in_ok-header.ensures.layout (c.in_ok-header.ensures.known tells)
    register (subst (λ (l : List ℕ). Cells.Knows register l) first (c.in_ok-register.ensures.known tells)) room
    items (subst (λ (l : List ℕ). KnowsOpened header.slots header.size items l) both (c.in_ok-older.ensures.known tells))
    c.in-Some.at
    (λ size slots knows.
    subst (λ (n : ℕ). IsJudgementOf size slots (numbers_in register.content) n (Some c.in-Some.at)) c.offset_of-cell.ensures
    (c.in-Some.ensures.judged size slots (subst (KnowsSlots size slots) (sym c.deref.ensures.value) knows)))

pub invariant_of-result : goal.invariant_of-result
invariant_of-result g c =
    let layout = c.in_ok-header.ensures.layout in
    let items = c.in_ok-older.older.items in
    let is : items ≡ c.pop.new.self.items ++ c.in-Some-pop.active ∷ [] = c.in-Some-pop.ensures.items in
    let read = c.in_default.ensures in
    let lie = all_lie c.in_ok-header.header.slots c.in_ok-header.header.size items c.pop.new.self.items c.in-Some-pop.active c.in_ok-older.ensures.placed (subst (All HasSoundNumbers) c.deref.ensures.value (read.sound refl)) is in
    let upto = read.upto refl c.in-Some-pop.active c.pop.new.self.items (c.deref.ensures.value ∙ is) in
    record {
      large = layout.large;
      small = layout.small;
      some = layout.some;
      few = layout.few;
      spare = omega (arith, c.in_ok-older.ensures.spare, c.pop.ensures.capacity);
      older_lie = lie.0;
      active_lies = lie.1;
      go_on = read.go_on refl c.in-Some-pop.active c.pop.new.self.items (c.deref.ensures.value ∙ is);
      early = lie.2;
      apart = (read.known refl).apart;
      cursor_upto = upto.0;
      known_upto = upto.1;
    }

pub returns-clause-told : goal.returns-clause-told
returns-clause-told g c = λ tells. three_told _ _ _ _ (g.met.D.Disk.lawful c.args.disk.now tells) (c.read.ensures.told tells) (c.load.ensures.untouched tells) (c.read_slots.ensures.told tells)

pub returns-clause-found : goal.returns-clause-found
returns-clause-found g c = λ tells.
    let header = c.in_ok-header.header in
    let register = c.in_ok-register.register in
    let items = c.in_ok-older.older.items in
    let first = (c.read.ensures.told tells).same in
    let both = (c.load.ensures.untouched tells).same ∙ first in
    let room : HasRoom register.ordinal register.content.run register.content.cursor register.content.known.items = has_room register (search rules) c.in_ok-register.ensures.fits in
    state_known header (g.D.Disk.moment c.args.disk.now) (g.met.D.Disk.lawful c.args.disk.now tells) c.in_ok-header.ensures.layout (c.in_ok-header.ensures.known tells)
    register (subst (λ (l : List ℕ). Cells.Knows register l) first (c.in_ok-register.ensures.known tells)) room
    items (subst (λ (l : List ℕ). KnowsOpened header.slots header.size items l) both (c.in_ok-older.ensures.known tells))
    c.pop.new.self.items c.in-Some-pop.active _ c.in-Some-pop.ensures.items refl refl refl refl refl refl
    (λ size slots knows.
    subst (λ (n : ℕ). IsJudgementOf size slots (numbers_in register.content) n None) c.offset_of-cell.ensures
    (subst (λ (r : Option ℕ). IsJudgementOf size slots (numbers_in register.content) c.offset_of-cell.result r) c.in_default.is
    (c.fault_place.ensures.judged size slots (subst (KnowsSlots size slots) (sym c.deref.ensures.value) knows))))
