-- What the window holds after a piece.
use Rattle.std.proofs.Common.{◌≡◌, ◌+◌, ◌-◌, ◌≤◌, ◌^◌, ◌∙◌, Some, length, length-take-le, take, drop, ap, subst, refl, arith}
use Rattle.std.specs.Vec.{vec_capacity}
use Rattle.lumber_frame.specs.declared.fault.LumberFault.{LumberFault}
use Rattle.lumber_frame.specs.declared.limits.TheConstants.{ROOM}
use Rattle.lumber_frame.specs.declared.side.Side.TheVariants.{Receiver}
use Rattle.stream_grammar.specs.Filling.{window_of}
use Rattle.stream_grammar.specs.Reading.{Window, ReadsOn, taken_of}
use Rattle.lumber_frame.specs.Reading.{receiver}
use Rattle.lumber_frame.specs.Spelling.{Spells}
use Rattle.lumber_frame.specs.Running.{Stops}
use Rattle.stream_grammar.proofs.Splitting.{fills_on, shifts, window_on, window_fault}
use Rattle.lumber_frame.proofs.RunningLaws.{lumber_splits}
use Rattle.lumber_frame.proofs.window.LumberWindow.feed.Goals as goal

pub invariant_of-self : goal.invariant_of-self
invariant_of-self c =
    let i = c.self.inside in
    let j = c.judge-judged.result in
    let piece = c.args.piece.now in
    let b = i.bytes.items in
    let w = c.self.invariant in
    let n = c.shift_in.new.bytes.items in
    let old = window_of b i.from i.whole i.at i.fault in
    let limit : old.at + length old.rest + length piece ≤ 2 ^ 40 = rw (← c.self.view_is) at c.requires in
    let s = shifts (lumber_splits Receiver) b (vec_capacity i.bytes) i.from i.whole i.at i.phase i.fault piece c.deref.result.now (c.len.result - i.from) c.min-taken.result j.end j.kept j.phase j.fault n w c.deref.ensures.value (ap (λ z. z - i.from) (c.len.ensures ∙ i.bytes.ok.0)) c.min-taken.ensures c.judge-judged.ensures.judges c.shift_in.ensures.items limit in
    fills_on (lumber_splits Receiver) b (vec_capacity i.bytes) i.from i.whole i.at i.phase i.fault piece c.min-taken.result j.end j.kept j.phase j.fault n (vec_capacity c.shift_in.new.bytes) w s c.shift_in.ensures.capacity

pub returns-in-Some-fault-clause-feeds : goal.returns-in-Some-fault-clause-feeds
returns-in-Some-fault-clause-feeds c =
    let i = c.self.inside in
    let j = c.judge-judged.result in
    let piece = c.args.piece.now in
    let b = i.bytes.items in
    let w = c.self.invariant in
    let n = c.shift_in.new.bytes.items in
    let old = window_of b i.from i.whole i.at i.fault in
    let limit : old.at + length old.rest + length piece ≤ 2 ^ 40 = rw (← c.self.view_is) at c.requires in
    let s = shifts (lumber_splits Receiver) b (vec_capacity i.bytes) i.from i.whole i.at i.phase i.fault piece c.deref.result.now (c.len.result - i.from) c.min-taken.result j.end j.kept j.phase j.fault n w c.deref.ensures.value (ap (λ z. z - i.from) (c.len.ensures ∙ i.bytes.ok.0)) c.min-taken.ensures c.judge-judged.ensures.judges c.shift_in.ensures.items limit in
    let e : LumberFault = record { at = i.at + j.end + j.phase.at; why = c.in-Some-fault.why } in
    let new = window_of n 0 (i.whole - i.from + j.end) (i.at + j.end) (Some e) in
    let x = s.judges.splits in
    let q = subst (Stops Receiver x.tail x.rest j.phase) c.in-Some-fault.is x.stops in
    let r = window_fault (lumber_splits Receiver) old new (take c.min-taken.result piece) j.end j.kept e.at j.phase j.fault e.why s.judges c.in_default.is c.in-Some-fault.is s.front refl s.back (omega (arith, q.2)) refl in
    (refl, λ _. subst (λ (z : Window LumberFault). ReadsOn receiver (Spells Receiver) z (take (taken_of ROOM z piece) piece) new) c.self.view_is (subst (λ z. ReadsOn receiver (Spells Receiver) old (take z piece) new) s.taken r))

pub returns-in-Some-fault-clause-room : goal.returns-in-Some-fault-clause-room
returns-in-Some-fault-clause-room c =
    let i = c.self.inside in
    let j = c.judge-judged.result in
    let piece = c.args.piece.now in
    let b = i.bytes.items in
    let w = c.self.invariant in
    let n = c.shift_in.new.bytes.items in
    let old = window_of b i.from i.whole i.at i.fault in
    let limit : old.at + length old.rest + length piece ≤ 2 ^ 40 = rw (← c.self.view_is) at c.requires in
    let s = shifts (lumber_splits Receiver) b (vec_capacity i.bytes) i.from i.whole i.at i.phase i.fault piece c.deref.result.now (c.len.result - i.from) c.min-taken.result j.end j.kept j.phase j.fault n w c.deref.ensures.value (ap (λ z. z - i.from) (c.len.ensures ∙ i.bytes.ok.0)) c.min-taken.ensures c.judge-judged.ensures.judges c.shift_in.ensures.items limit in
    let x : i.at + j.end + length (drop (i.whole - i.from + j.end) n) ≤ old.at + length old.rest + taken_of ROOM old piece = omega (arith, ap length s.back, s.judges.kept, s.most, length-take-le c.min-taken.result piece (omega (arith, c.min-taken.ensures)), s.taken) in
    subst (λ (z : Window LumberFault). i.at + j.end + length (drop (i.whole - i.from + j.end) n) ≤ z.at + length z.rest + taken_of ROOM z piece) c.self.view_is x

pub invariant_of-self-in_default-fault : goal.invariant_of-self-in_default-fault
invariant_of-self-in_default-fault c =
    let i = c.self.inside in
    let j = c.judge-judged.result in
    let piece = c.args.piece.now in
    let b = i.bytes.items in
    let w = c.self.invariant in
    let n = c.shift_in.new.bytes.items in
    let old = window_of b i.from i.whole i.at i.fault in
    let limit : old.at + length old.rest + length piece ≤ 2 ^ 40 = rw (← c.self.view_is) at c.requires in
    let s = shifts (lumber_splits Receiver) b (vec_capacity i.bytes) i.from i.whole i.at i.phase i.fault piece c.deref.result.now (c.len.result - i.from) c.min-taken.result j.end j.kept j.phase j.fault n w c.deref.ensures.value (ap (λ z. z - i.from) (c.len.ensures ∙ i.bytes.ok.0)) c.min-taken.ensures c.judge-judged.ensures.judges c.shift_in.ensures.items limit in
    fills_on (lumber_splits Receiver) b (vec_capacity i.bytes) i.from i.whole i.at i.phase i.fault piece c.min-taken.result j.end j.kept j.phase j.fault n (vec_capacity c.shift_in.new.bytes) w s c.shift_in.ensures.capacity

pub returns-clause-feeds : goal.returns-clause-feeds
returns-clause-feeds c =
    let i = c.self.inside in
    let j = c.judge-judged.result in
    let piece = c.args.piece.now in
    let b = i.bytes.items in
    let w = c.self.invariant in
    let n = c.shift_in.new.bytes.items in
    let old = window_of b i.from i.whole i.at i.fault in
    let limit : old.at + length old.rest + length piece ≤ 2 ^ 40 = rw (← c.self.view_is) at c.requires in
    let s = shifts (lumber_splits Receiver) b (vec_capacity i.bytes) i.from i.whole i.at i.phase i.fault piece c.deref.result.now (c.len.result - i.from) c.min-taken.result j.end j.kept j.phase j.fault n w c.deref.ensures.value (ap (λ z. z - i.from) (c.len.ensures ∙ i.bytes.ok.0)) c.min-taken.ensures c.judge-judged.ensures.judges c.shift_in.ensures.items limit in
    let new = window_of n 0 (i.whole - i.from + j.end) (i.at + j.end) i.fault in
    let r = window_on (lumber_splits Receiver) old new (take c.min-taken.result piece) j.end j.kept j.phase j.fault s.judges c.in_default.is c.in_default-fault.is s.front refl s.back c.in_default.is in
    let t : c.min-taken.result ≡ taken_of ROOM c.args.self.now piece = subst (λ (z : Window LumberFault). c.min-taken.result ≡ taken_of ROOM z piece) c.self.view_is s.taken in
    (t, c.in_default.is, subst (λ (z : Window LumberFault). ReadsOn receiver (Spells Receiver) z (take c.min-taken.result piece) new) c.self.view_is r)

pub returns-clause-room : goal.returns-clause-room
returns-clause-room c =
    let i = c.self.inside in
    let j = c.judge-judged.result in
    let piece = c.args.piece.now in
    let b = i.bytes.items in
    let w = c.self.invariant in
    let n = c.shift_in.new.bytes.items in
    let old = window_of b i.from i.whole i.at i.fault in
    let limit : old.at + length old.rest + length piece ≤ 2 ^ 40 = rw (← c.self.view_is) at c.requires in
    let s = shifts (lumber_splits Receiver) b (vec_capacity i.bytes) i.from i.whole i.at i.phase i.fault piece c.deref.result.now (c.len.result - i.from) c.min-taken.result j.end j.kept j.phase j.fault n w c.deref.ensures.value (ap (λ z. z - i.from) (c.len.ensures ∙ i.bytes.ok.0)) c.min-taken.ensures c.judge-judged.ensures.judges c.shift_in.ensures.items limit in
    let x : i.at + j.end + length (drop (i.whole - i.from + j.end) n) ≤ old.at + length old.rest + taken_of ROOM old piece = omega (arith, ap length s.back, s.judges.kept, s.most, length-take-le c.min-taken.result piece (omega (arith, c.min-taken.ensures)), s.taken) in
    subst (λ (z : Window LumberFault). i.at + j.end + length (drop (i.whole - i.from + j.end) n) ≤ z.at + length z.rest + taken_of ROOM z piece) c.self.view_is x
