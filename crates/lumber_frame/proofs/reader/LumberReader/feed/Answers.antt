-- What the reader holds after a piece.
use Rattle.std.proofs.Common.{◌≡◌, ◌+◌, ◌≤◌, ◌^◌, ◌∙◌, Some, ◌++◌, length, length-append, ap, sym, subst, refl, arith}
use Rattle.std.specs.Prelude.{slice_range}
use Rattle.std.proofs.Math.Dec.{eqb}
use Rattle.std.proofs.lemmas.Bool.{eqb-true}
use Rattle.std.proofs.lemmas.List.{append-nil}
use Rattle.lumber_frame.specs.Reading.{Reader, ReadsOn, fault_of}
use Rattle.lumber_frame.specs.Running.{Stops}
use Rattle.lumber_frame.specs.Scanning.{Scans}
use Rattle.lumber_frame.specs.Spelling.{IsFrameFor}
use Rattle.lumber_frame.proofs.RunningLaws.{lumber_splits}
use Rattle.stream_grammar.proofs.Splitting.{holds_fault, holds_on, read_fault, read_faulty, read_on, rest_behind, rest_grows}
use Rattle.lumber_frame.proofs.reader.LumberReader.feed.Goals as goal

pub returns-in-Some-clause-feeds : goal.returns-in-Some-clause-feeds
returns-in-Some-clause-feeds c =
    let old = c.args.self.now in
    let q = sym (ap (λ (r : Reader). r.fault) c.self.view_is) ∙ c.in-Some.is in
    (q, read_faulty (lumber_splits old.side) old.rest c.args.piece.now old.waiting old.at c.in-Some.fault old.fault q)

pub invariant_of-self-in-Some-fault : goal.invariant_of-self-in-Some-fault
invariant_of-self-in-Some-fault c =
    let i = c.self.inside in
    let x = c.in_ok-frames.field-0 in
    let piece = c.args.piece.now in
    let b = i.rest.items ++ piece in
    let k = subst (λ h. Scans i.side (h ++ piece) x) c.deref.ensures.value c.in_ok-frames.ensures.scans in
    let room : i.at + length i.rest.items + length piece ≤ 2 ^ 40 = rw (← c.self.view_is) at c.requires in
    holds_fault (lumber_splits i.side) (IsFrameFor i.side) b c.clear.new.self.items i.waiting.items x.frames.items c.append.new.self.items i.at x.end x.phase x.fault k.splits c.self.invariant.limits k.limits (omega (arith, room, length-append i.rest.items piece)) c.in_ok-append.ensures.items c.clear.ensures.items

pub returns-in-Some-fault-clause-feeds : goal.returns-in-Some-fault-clause-feeds
returns-in-Some-fault-clause-feeds c =
    let i = c.self.inside in
    let x = c.in_ok-frames.field-0 in
    let piece = c.args.piece.now in
    let b = i.rest.items ++ piece in
    let k = subst (λ h. Scans i.side (h ++ piece) x) c.deref.ensures.value c.in_ok-frames.ensures.scans in
    let at = i.at + (x.end + x.phase.at) in
    let new : Reader = record { side = i.side; waiting = c.append.new.self.items; at = i.at + x.end; rest = c.clear.new.self.items; fault = Some (fault_of at c.in-Some-fault.why) } in
    let q = subst (Stops i.side k.splits.tail k.splits.rest x.phase) c.in-Some-fault.is k.splits.stops in
    let place : at ≡ i.at + (x.end + length k.splits.rest) = omega (arith, q.2) in
    let r = read_fault (lumber_splits i.side) i.rest.items piece c.clear.new.self.items i.waiting.items x.frames.items c.append.new.self.items i.at x.end at x.phase x.fault c.in-Some-fault.why i.fault new.fault k.splits c.in_default.is c.in-Some-fault.is c.in_ok-append.ensures.items place c.clear.ensures.items refl in
    (refl, subst (λ (r : Reader). ReadsOn r piece new) c.self.view_is r)

pub returns-then-is_empty-clause-feeds : goal.returns-then-is_empty-clause-feeds
returns-then-is_empty-clause-feeds c =
    let i = c.self.inside in
    let x = c.in_ok-frames.field-0 in
    let piece = c.args.piece.now in
    let b = i.rest.items ++ piece in
    let k = subst (λ h. Scans i.side (h ++ piece) x) c.deref.ensures.value c.in_ok-frames.ensures.scans in
    let new : Reader = record { side = i.side; waiting = i.waiting.items; at = i.at; rest = c.extend_from_slice.new.self.items; fault = i.fault } in
    let m : x.frames.len ≡ length x.frames.items = x.frames.ok.0 in
    let em : c.is_empty.result ≡ eqb x.frames.len 0 = c.is_empty.ensures in
    let z : x.frames.len ≡ 0 = eqb-true x.frames.len 0 (sym em ∙ c.if-is_empty.true) in
    let g = rest_grows (lumber_splits i.side) b x.frames.items x.end x.phase x.fault k.splits c.in_default-fault.is (sym m ∙ z) in
    let waits : i.waiting.items ≡ i.waiting.items ++ x.frames.items = sym (ap (λ v. i.waiting.items ++ v) g.1 ∙ append-nil i.waiting.items) in
    let r = read_on (lumber_splits i.side) i.rest.items piece new.rest i.waiting.items x.frames.items i.waiting.items i.at x.end i.at x.phase x.fault i.fault i.fault k.splits c.in_default.is c.in_default-fault.is waits (omega (arith, g.0)) (c.in_ok-extend_from_slice.ensures.items ∙ sym g.2) c.in_default.is in
    (c.in_default.is, subst (λ (r : Reader). ReadsOn r piece new) c.self.view_is r)

pub invariant_of-self-2 : goal.invariant_of-self-2
invariant_of-self-2 c =
    let i = c.self.inside in
    let x = c.in_ok-frames.field-0 in
    let piece = c.args.piece.now in
    let b = i.rest.items ++ piece in
    let k = subst (λ h. Scans i.side (h ++ piece) x) c.deref.ensures.value c.in_ok-frames.ensures.scans in
    let copy = c.in_ok-rest.ensures ∙ ap (λ h. slice_range (h ++ piece) x.end (c.len.result + length piece)) c.deref-2.ensures.value in
    let l : c.len.result ≡ length i.rest.items = c.len.ensures ∙ i.rest.ok.0 in
    let to : c.len.result + length piece ≡ length b = omega (arith, l, length-append i.rest.items piece) in
    let rest = rest_behind (lumber_splits i.side) b c.in_ok-rest.rest.items x.frames.items x.end (c.len.result + length piece) x.phase x.fault k.splits c.in_default-fault.is to copy in
    let room : i.at + length i.rest.items + length piece ≤ 2 ^ 40 = rw (← c.self.view_is) at c.requires in
    holds_on (lumber_splits i.side) (IsFrameFor i.side) b c.in_ok-rest.rest.items i.waiting.items x.frames.items c.append-2.new.self.items i.at x.end x.phase x.fault k.splits c.self.invariant.limits k.limits (omega (arith, room, length-append i.rest.items piece)) c.in_ok-append-2.ensures.items rest

pub returns-clause-feeds : goal.returns-clause-feeds
returns-clause-feeds c =
    let i = c.self.inside in
    let x = c.in_ok-frames.field-0 in
    let piece = c.args.piece.now in
    let b = i.rest.items ++ piece in
    let k = subst (λ h. Scans i.side (h ++ piece) x) c.deref.ensures.value c.in_ok-frames.ensures.scans in
    let copy = c.in_ok-rest.ensures ∙ ap (λ h. slice_range (h ++ piece) x.end (c.len.result + length piece)) c.deref-2.ensures.value in
    let l : c.len.result ≡ length i.rest.items = c.len.ensures ∙ i.rest.ok.0 in
    let to : c.len.result + length piece ≡ length b = omega (arith, l, length-append i.rest.items piece) in
    let rest = rest_behind (lumber_splits i.side) b c.in_ok-rest.rest.items x.frames.items x.end (c.len.result + length piece) x.phase x.fault k.splits c.in_default-fault.is to copy in
    let new : Reader = record { side = i.side; waiting = c.append-2.new.self.items; at = i.at + x.end; rest = c.in_ok-rest.rest.items; fault = i.fault } in
    let r = read_on (lumber_splits i.side) i.rest.items piece c.in_ok-rest.rest.items i.waiting.items x.frames.items c.append-2.new.self.items i.at x.end (i.at + x.end) x.phase x.fault i.fault i.fault k.splits c.in_default.is c.in_default-fault.is c.in_ok-append-2.ensures.items refl rest c.in_default.is in
    (c.in_default.is, subst (λ (r : Reader). ReadsOn r piece new) c.self.view_is r)
