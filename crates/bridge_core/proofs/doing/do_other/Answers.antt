use Rattle.std.proofs.Common.{refl}
use Rattle.bridge_core.proofs.OneCommand.{has_polls}
use Rattle.bridge_core.proofs.doing.do_other.Goals as goal

-- ---- what the words can name, and what their command may do

pub format-note-requires-clause-size : goal.format-note-requires-clause-size
format-note-requires-clause-size g c = (rw c.in-Format.is at c.requires.asked).1.asks.in_range

pub format-note-requires-clause-prints : goal.format-note-requires-clause-prints
format-note-requires-clause-prints g c = rw c.in-Format.is at c.requires.prints

pub format-note-requires-clause-tears : goal.format-note-requires-clause-tears
format-note-requires-clause-tears g c = rw c.in-Format.is at c.requires.tears

pub list-note-requires : goal.list-note-requires
list-note-requires g c = record { prints = rw c.in-List.is at c.requires.prints; tears = rw c.in-List.is at c.requires.tears }

pub replay-note-requires : goal.replay-note-requires
replay-note-requires g c = rw c.none-listed.ensures (record { answers = rw c.in-Replay.is at c.requires.replays; tears = rw c.in-Replay.is at c.requires.tears })

pub load-note-requires-clause-few : goal.load-note-requires-clause-few
load-note-requires-clause-few g c = (rw c.in-Load.is at c.requires.asked).1.asks.few

pub load-note-requires-clause-prints : goal.load-note-requires-clause-prints
load-note-requires-clause-prints g c = rw c.in-Load.is at c.requires.prints

pub drain_out-note-requires-clause-polls : goal.drain_out-note-requires-clause-polls
drain_out-note-requires-clause-polls g c =
    let asked = rw (c.in-Drain-default-None.is, c.in-Drain-default-None.place-is) at c.requires.asked in
    rw c.outward_of-outward.ensures (has_polls c.in-Drain-default-None.receiver _ _ asked.1)

pub drain_out-note-requires-clause-prints : goal.drain_out-note-requires-clause-prints
drain_out-note-requires-clause-prints g c = rw c.in-Drain-default-None.is at c.requires.prints

pub drain_out-note-requires-clause-tears : goal.drain_out-note-requires-clause-tears
drain_out-note-requires-clause-tears g c = rw c.in-Drain-default-None.is at c.requires.tears

pub drain_out-note-requires-clause-releases : goal.drain_out-note-requires-clause-releases
drain_out-note-requires-clause-releases g c =
    rw c.outward_of-outward.ensures (rw (c.in-Drain-default-None.is, c.in-Drain-default-None.place-is) at c.requires.releases)

pub drain_to-note-requires-clause-tears : goal.drain_to-note-requires-clause-tears
drain_to-note-requires-clause-tears g c = rw c.in-Drain-default-Some.is at c.requires.tears

pub drain_to-note-requires-clause-releases : goal.drain_to-note-requires-clause-releases
drain_to-note-requires-clause-releases g c =
    rw (c.outward_of-outward-in-Drain-default-Some.ensures, c.as_str.ensures)
    (rw (c.in-Drain-default-Some.is, c.in-Drain-default-Some.place-is) at c.requires.releases)

pub drain_to-note-requires-clause-polls : goal.drain_to-note-requires-clause-polls
drain_to-note-requires-clause-polls g c =
    let asked = rw (c.in-Drain-default-Some.is, c.in-Drain-default-Some.place-is) at c.requires.asked in
    rw c.outward_of-outward-in-Drain-default-Some.ensures (has_polls c.in-Drain-default-Some.receiver _ _ asked.1)

pub drain_to-note-requires-clause-prints : goal.drain_to-note-requires-clause-prints
drain_to-note-requires-clause-prints g c = rw c.in-Drain-default-Some.is at c.requires.prints

pub drain_to-note-requires-clause-named : goal.drain_to-note-requires-clause-named
drain_to-note-requires-clause-named g c =
    rw c.as_str.ensures (rw (c.in-Drain-default-Some.is, c.in-Drain-default-Some.place-is) at c.requires.dials)

-- ---- what was done

pub returns-in-Format-clause-done : goal.returns-in-Format-clause-done
returns-in-Format-clause-done g c = rw (c.in-Format.is, c.of.ensures.disk, c.of.ensures.note, c.of.ensures.doors)
    (c.format-note.ensures, record { same = refl; given = refl; left = refl; faults = refl }, record { same = refl; told = refl }, refl)

pub returns-in-List-clause-done : goal.returns-in-List-clause-done
returns-in-List-clause-done g c = rw (c.in-List.is, c.of-in-List.ensures.disk, c.of-in-List.ensures.note, c.of-in-List.ensures.doors)
    (c.list-note.ensures, record { same = refl; given = refl; left = refl; faults = refl }, record { same = refl; told = refl }, refl)

pub returns-in-Replay-clause-done : goal.returns-in-Replay-clause-done
returns-in-Replay-clause-done g c = rw (c.in-Replay.is, c.of-in-Replay.ensures.disk, c.of-in-Replay.ensures.note, c.of-in-Replay.ensures.doors)
    (rw c.none-listed.ensures at c.replay-note.ensures, record { same = refl; told = refl }, refl)

pub returns-in-Drain-default-None-clause-done : goal.returns-in-Drain-default-None-clause-done
returns-in-Drain-default-None-clause-done g c =
    rw (
      c.in-Drain-default-None.is,
      c.in-Drain-default-None.place-is,
      c.of-in-Drain-default-None.ensures.disk,
      c.of-in-Drain-default-None.ensures.note,
      c.of-in-Drain-default-None.ensures.doors,
    )
    (rw c.outward_of-outward.ensures at c.drain_out-note.ensures.drained, c.drain_out-note.ensures.told, refl)

pub returns-in-Drain-default-Some-clause-done : goal.returns-in-Drain-default-Some-clause-done
returns-in-Drain-default-Some-clause-done g c =
    rw (
      c.in-Drain-default-Some.is,
      c.in-Drain-default-Some.place-is,
      c.of-in-Drain-default-Some.ensures.disk,
      c.of-in-Drain-default-Some.ensures.note,
      c.of-in-Drain-default-Some.ensures.doors,
    )
    (rw (c.outward_of-outward-in-Drain-default-Some.ensures, c.as_str.ensures) at c.drain_to-note.ensures, record { same = refl; given = refl; left = refl; faults = refl }, refl)

pub returns-in-Load-clause-done : goal.returns-in-Load-clause-done
returns-in-Load-clause-done g c = rw (c.in-Load.is, c.of-in-Load.ensures.disk, c.of-in-Load.ensures.note, c.of-in-Load.ensures.doors)
    (c.load-note.ensures, record { same = refl; size = refl; faults = refl }, record { same = refl; given = refl; left = refl; faults = refl }, record { same = refl; told = refl }, refl)
