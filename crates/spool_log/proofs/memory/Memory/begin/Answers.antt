use Rattle.std.proofs.Common.{◌≡◌, ℕ, ◌+◌, ◌*◌, List, [], ◌∷◌, ◌++◌, get_or, arith, refl, ap, subst, sym, ◌∙◌}
use Rattle.std.specs.Prelude.{All}
use Rattle.std.proofs.Math.Logic.{∥∥₁_map}
use Rattle.std.proofs.lemmas.List.Elements.{All-nil, All-cons, All-append}
use Rattle.spool_state.specs.Change.{begun}
use Rattle.spool_state.specs.Image.{slot_at}
use Rattle.spool_state.proofs.Adding.{end_later}
use Rattle.spool_state.proofs.Frames.{inside}
use Rattle.spool_slots.specs.declared.slot.Slot.{Slot}
use Rattle.spool_log.specs.Device.{LiesIn, GoOn}
use Rattle.spool_log.specs.Memory.{end_of}
use Rattle.spool_log.specs.Knows.{KnowsSlots}
use Rattle.spool_log.proofs.Numbers.{no_proof, end_known, knows_push}
use Rattle.spool_log.proofs.Scans.Marked.{marked_begun, marked_group}
use Rattle.spool_log.proofs.Scans.Chained.{go_on-push}
use Rattle.spool_log.proofs.Changes.Starting.{next_known, register_kept}
use Rattle.spool_log.proofs.memory.Memory.begin.Goals as goal

-- where it begins
place_of : (size place read : ℕ) (s_size : ℕ) → read ≡ place → size ≡ s_size → 12288 + read * size ≡ slot_at s_size place
place_of size place read s_size is same = λ i. 12288 + is i * same i

pub begin_with-requires-clause-closed : goal.begin_with-requires-clause-closed
begin_with-requires-clause-closed g c = λ tells one.
    no_proof (c.requires.stored tells) (λ p.
    let closed = c.requires.closed tells p.0 p.1 in
    let is : c.next_at-head.result.at ≡ slot_at p.0.size c.args.place = c.next_at-head.ensures.at_is ∙ place_of c.args.self.now.size c.args.place c.from.result p.0.size c.from.ensures p.1.knows.size in
    p.1.stands.closed c.args.place closed.within closed.inactive closed.elsewhere (ap (λ (k : ℕ). get_or (g.D.Disk.moment c.args.disk.now).reads k 0) (sym is) ∙ one))

pub returns-in_err-slot-clause-any_moment : goal.returns-in_err-slot-clause-any_moment
returns-in_err-slot-clause-any_moment g c = λ s tells stored.
    let knows = stored.knows in
    let next = next_known s c.args.self.now.size c.args.self.now.active c.args.place _ _ _ stored.stands.sound knows.size knows.active (c.requires.closed tells s stored) c.next_at-head.ensures
    (place_of c.args.self.now.size c.args.place c.from.result s.size c.from.ensures knows.size) c.requires.small c.requires.full in
    c.begin_with.ensures.any_moment s c.args.place tells stored.stands next (omega (arith, end_known s c.args.self.now.active stored.stands.sound knows.active, c.requires.numbers))

pub returns-clause-any_moment : goal.returns-clause-any_moment
returns-clause-any_moment g c = λ s tells stored.
    let knows = stored.knows in
    let next = next_known s c.args.self.now.size c.args.self.now.active c.args.place _ _ _ stored.stands.sound knows.size knows.active (c.requires.closed tells s stored) c.next_at-head.ensures
    (place_of c.args.self.now.size c.args.place c.from.result s.size c.from.ensures knows.size) c.requires.small c.requires.full in
    c.begin_with.ensures.any_moment s c.args.place tells stored.stands next (omega (arith, end_known s c.args.self.now.active stored.stands.sound knows.active, c.requires.numbers))

pub returns-clause-stored : goal.returns-clause-stored
returns-clause-stored g c = λ s tells stored.
    let knows = stored.knows in
    let next = next_known s c.args.self.now.size c.args.self.now.active c.args.place _ _ _ stored.stands.sound knows.size knows.active (c.requires.closed tells s stored) c.next_at-head.ensures
    (place_of c.args.self.now.size c.args.place c.from.result s.size c.from.ensures knows.size) c.requires.small c.requires.full in
    let done = c.in_ok-slot.ensures.stands s c.args.place tells stored.stands next (omega (arith, end_known s c.args.self.now.active stored.stands.sound knows.active, c.requires.numbers)) in
    record {
      stands = done.0;
      knows = record {
        size = knows.size;
        slots = knows.slots;
        run = knows.run;
        cursor = knows.cursor;
        known = knows.known;
        ordinal = knows.ordinal;
        older = subst (KnowsSlots s.size (s.older ++ s.active ∷ [])) (sym {A = List Slot} c.push_reserved.ensures.items) (knows_push s.size s.older c.args.self.now.older.items s.active c.args.self.now.active knows.older knows.active);
        active = done.1;
        bookmark = marked_group (s.older ++ s.active ∷ []) (begun s c.args.place).active c.args.entries.now _ (marked_begun s.older s.active (begun s c.args.place).active _ refl knows.bookmark);
      };
      register = register_kept s c.args.place _ _ c.args.self.now.register _ _ stored.stands next.at_is (c.in_ok-slot.ensures.outside tells) stored.register;
    }

pub invariant_of-self : goal.invariant_of-self
invariant_of-self g c =
    let self = c.args.self.now in
    let slot = c.in_ok-slot.slot in
    let is = c.in_ok-slot.ensures.slot in
    let head = c.next_at-head.ensures in
    let items = c.push_reserved.ensures.items in
    let at : slot.at ≡ slot_at self.size c.args.place = is.at_is ∙ head.at_is ∙ ap (λ (n : ℕ). 12288 + n * self.size) c.from.ensures in
    let first : slot.first ≡ end_of self = is.first_is ∙ head.first_is in
    record {
      large = self.large;
      small = self.small;
      some = self.some;
      few = self.few;
      spare = omega (arith, self.spare, c.push_reserved.ensures.capacity);
      older_lie = subst (All (LiesIn self.slots self.size)) (sym items)
          (All-append (LiesIn self.slots self.size) self.older.items (self.active ∷ []) self.older_lie (All-cons (LiesIn self.slots self.size) self.active [] self.active_lies (All-nil (LiesIn self.slots self.size))));
      active_lies = record {
        wide = is.size_is ∙ head.size_is;
        inside = omega (arith, at, inside self.size c.args.place self.slots c.requires.place);
        ends = omega (arith, first, is.count_is, c.requires.numbers);
      };
      go_on = subst (λ (l : List Slot). GoOn l slot.first) (sym items) (go_on-push self.older.items self.active slot.first self.go_on first);
      early = omega (arith, is.ordinal_is, head.ordinal_is, first, self.early);
      apart = self.apart;
      cursor_upto = omega (arith, first, self.cursor_upto);
      known_upto = end_later (end_of self) (slot.first + slot.count) self.register.content.known.items (omega (arith, first)) self.known_upto;
    }

pub begin_with-requires-clause-next : goal.begin_with-requires-clause-next
begin_with-requires-clause-next g c = λ tells.
    ∥∥₁_map (c.requires.stored tells) (λ p.
    let s = p.0 in
    let knows = p.1.knows in
    let sound = p.1.stands.sound in
    let next = next_known s c.args.self.now.size c.args.self.now.active c.args.place _ _ _ sound knows.size knows.active (c.requires.closed tells s p.1) c.next_at-head.ensures
    (place_of c.args.self.now.size c.args.place c.from.result s.size c.from.ensures knows.size) c.requires.small c.requires.full in
    (s, c.args.place, p.1.stands, next, omega (arith, end_known s c.args.self.now.active sound knows.active, c.requires.numbers)))
