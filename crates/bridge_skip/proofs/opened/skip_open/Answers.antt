use Rattle.std.proofs.Common.{◌≡◌, ◌<◌, ◌≤◌, inl, inr, List, [], get_or, length, refl, sym, subst, arith}
use Rattle.edge_disk.proofs.Moments.{started}
use Rattle.event_form.specs.declared.event.Event.{Event}
use Rattle.spool_answers.specs.declared.numbered.Numbered.{Numbered}
use Rattle.spool_log.specs.State.{view}
use Rattle.bridge_skip.proofs.Outside.{sure_pends}
use Rattle.notes.specs.declared.note.Note.TheVariants.{Fine}
use Rattle.bridge_parts.proofs.Numbers.{end_seen}
use Rattle.bridge_parts.specs.Run.{disk_run, output_run}
use Rattle.bridge_skip.specs.Line.{PrintsEvent}
use Rattle.bridge_skip.specs.Skipped.{IsUnread, SkipsEvent}
use Rattle.bridge_skip.proofs.Finding.{first_pending, other_first, none_first, past_end}
use Rattle.bridge_skip.proofs.Running.{unread, event_after}
use Rattle.bridge_skip.proofs.opened.skip_open.Goals as goal
use Rattle.bridge_skip.proofs.opened.skip_open.Goals.{in_default-2, in_default}

pub returns-then-number-end-clause-skipped : goal.returns-then-number-end-clause-skipped
returns-then-number-end-clause-skipped g c = λ s tells held.
    let m = g.D.Disk.moment c.args.spool.now.disk in
    let seen = end_seen s [] (view c.args.spool.now.memory c.args.spool.now.doubt m) held in
    inl (record {
      why = inl (refl, past_end s c.args.number (omega (arith, seen, c.end.ensures.end, c.if-number-end.true)));
      unprinted = refl;
      any_moment = started m.image m (g.met.D.Disk.lawful c.args.spool.now.disk tells) (λ d image. image);
    })

pub returns-in-Err-clause-skipped : goal.returns-in-Err-clause-skipped
returns-in-Err-clause-skipped g c = λ s tells held.
    let read = sure_pends s c.args.number 1 _ _ _ held (c.in-Err.ensures.pends s [] tells held) in
    inl (record { why = inr (subst IsUnread (sym c.pend_note.ensures) (unread c.in-Err.fault read.pends)); unprinted = refl; any_moment = read.any_moment })

pub skip_event-requires-clause-earned : goal.skip_event-requires-clause-earned
skip_event-requires-clause-earned g c = λ now same printed. c.requires.earned now same (λ tells s held.
    let read = sure_pends s c.args.number 1 _ _ _ held (c.in-Ok.ensures.pends s [] tells held) in
    let one = c.in-Some.one.now in
    let place = subst (λ (l : List Numbered). one ≡ get_or l 0 one) c.deref.ensures.value c.in-Some.ensures.item.1 in
    let some = subst (λ (l : List Numbered). 0 < length l) c.deref.ensures.value c.in-Some.ensures.item.3.0 in
    let found = first_pending s c.args.number c.in-Ok.given.items read.pends one place some c.if-one-number.true in
    (found.0, found.1, subst (λ (e : Event). PrintsEvent e Fine (g.K.Sink.taken c.args.output.now) (g.K.Sink.taken now)) (sym found.2) printed))

pub returns-in-Some-clause-skipped : goal.returns-in-Some-clause-skipped
returns-in-Some-clause-skipped g c = λ s tells held.
    let read = sure_pends s c.args.number 1 _ _ _ held (c.in-Ok.ensures.pends s [] tells held) in
    let one = c.in-Some.one.now in
    let place = subst (λ (l : List Numbered). one ≡ get_or l 0 one) c.deref.ensures.value c.in-Some.ensures.item.1 in
    let some = subst (λ (l : List Numbered). 0 < length l) c.deref.ensures.value c.in-Some.ensures.item.3.0 in
    let found = first_pending s c.args.number c.in-Ok.given.items read.pends one place some c.if-one-number.true in
    let old = g.D.Disk.moment c.args.spool.now.disk in
    let mid = g.D.Disk.moment c.pending.new.self.disk in
    let new = g.D.Disk.moment c.skip_event.new.spool.disk in
    let disk = disk_run g.D.Disk.tells g.D.Disk.moment c.args.spool.now.disk c.skip_event.new.spool.disk in
    let output = output_run g.K.Sink.taken g.K.Sink.write_faults c.args.output.now c.skip_event.new.output in
    inr (
      found.0,
      found.1,
      subst (λ (e : Event). SkipsEvent c.args.number e s disk output c.skip_event.result) (sym found.2)
          (event_after c.args.number s g.D.Disk.tells _ _ old mid new output c.skip_event.result read.any_moment one.entry.event (c.skip_event.ensures.skipped s tells read.reached)),
    )

pub returns-clause-skipped : goal.returns-clause-skipped
returns-clause-skipped g c = λ s tells held.
    let read = sure_pends s c.args.number 1 _ _ _ held (c.in-Ok.ensures.pends s [] tells held) in
    let given = c.in-Ok.given.items in
    elim c.match-first.branch [
      | in_default-2 w ↦
          let one = w.in-Some.one.now in
          let place = subst (λ (l : List Numbered). one ≡ get_or l 0 one) c.deref.ensures.value w.in-Some.ensures.item.1 in
          let some = subst (λ (l : List Numbered). 0 < length l) c.deref.ensures.value w.in-Some.ensures.item.3.0 in
          inl (record { why = inl (w.result-is, other_first s c.args.number given read.pends one place some w.if-one-number.false); unprinted = refl; any_moment = read.any_moment })
      | in_default w ↦
          let none = subst (λ (l : List Numbered). length l ≤ 0) c.deref.ensures.value (rw w.in_default.is at c.first.ensures.item).3 in
          inl (record { why = inl (w.result-is, none_first s c.args.number given read.pends none); unprinted = refl; any_moment = read.any_moment })
    ]
