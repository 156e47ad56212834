-- The unfinished request leaves.
use Rattle.std.proofs.Common.{◌≡◌, ◌-◌, ◌∙◌, length, refl, sym, ap, arith}
use Rattle.http_edge.specs.declared.held.Held.{Held}
use Rattle.http_edge.specs.declared.part.HeadPart.TheVariants.{Blank}
use Rattle.http_edge.specs.declared.past.Past.{Past}
use Rattle.http_edge.specs.declared.stage.Stage.TheVariants.{Plain}
use Rattle.http_edge.proofs.HeldLaws.{none_some}
use Rattle.http_edge.proofs.LeavingLaws.{becomes, leaves_fills, past_fits}
use Rattle.http_edge.proofs.held.Held.leave.Goals as goal

pub unreachable-requires : goal.unreachable-requires
unreachable-requires c = none_some _ c.requires.begun (sym c.take.ensures.value ∙ c.in_default.is)

pub returns-clause-fills : goal.returns-clause-fills
returns-clause-fills c =
    let h = c.args.self.now in
    let f = c.requires.fills in
    let s = f.space in
    let u = f.unread_space in
    let t = c.truncate.ensures.capacity in
    let k = c.clear.ensures.capacity in
    let new : Held = record h { begun = c.take.new.self; bytes = c.truncate.new.self; unread = c.clear.new.self; part = Blank; stage = Plain 0; size = 0; beside = 0; read = 0 } in
    (leaves_fills h new f c.requires.queue (record { queue_is = c.requires.queue; heads_is = refl; beside_is = refl; bytes_are = c.truncate.ensures.items; space = omega (arith, s, t); from_is = refl; whole_is = refl; at_is = refl; begun_is = c.take.ensures.after; size_is = refl; stage_is = refl; read_is = refl; unread_is = c.clear.ensures.items; unread_space = omega (arith, u, k); part_is = refl; fault_is = c.requires.fault })).0

pub returns-clause-emptied : goal.returns-clause-emptied
returns-clause-emptied c =
    let h = c.args.self.now in
    let f = c.requires.fills in
    let s = f.space in
    let u = f.unread_space in
    let t = c.truncate.ensures.capacity in
    let k = c.clear.ensures.capacity in
    let new : Held = record h { begun = c.take.new.self; bytes = c.truncate.new.self; unread = c.clear.new.self; part = Blank; stage = Plain 0; size = 0; beside = 0; read = 0 } in
    (leaves_fills h new f c.requires.queue (record { queue_is = c.requires.queue; heads_is = refl; beside_is = refl; bytes_are = c.truncate.ensures.items; space = omega (arith, s, t); from_is = refl; whole_is = refl; at_is = refl; begun_is = c.take.ensures.after; size_is = refl; stage_is = refl; read_is = refl; unread_is = c.clear.ensures.items; unread_space = omega (arith, u, k); part_is = refl; fault_is = c.requires.fault })).1

pub returns-clause-becomes : goal.returns-clause-becomes
returns-clause-becomes c =
    let h = c.args.self.now in
    let held : c.len.result - h.whole ≡ length h.bytes.items - h.whole = ap (λ n. n - h.whole) (c.len.ensures ∙ h.bytes.ok.0) in
    let past : Past = record { head = c.in-Some.head; at = h.at; stage = h.stage; held = c.len.result - h.whole; read = h.read; unread = c.in_ok-unread.unread } in
    becomes h past c.in-Some.head c.requires.queue (sym c.take.ensures.value ∙ c.in-Some.is) c.requires.fault refl refl refl held refl (c.in_ok-unread.ensures.items ∙ c.deref.ensures.value)

pub returns-clause-past : goal.returns-clause-past
returns-clause-past c =
    let h = c.args.self.now in
    let held : c.len.result - h.whole ≡ length h.bytes.items - h.whole = ap (λ n. n - h.whole) (c.len.ensures ∙ h.bytes.ok.0) in
    let past : Past = record { head = c.in-Some.head; at = h.at; stage = h.stage; held = c.len.result - h.whole; read = h.read; unread = c.in_ok-unread.unread } in
    let b = becomes h past c.in-Some.head c.requires.queue (sym c.take.ensures.value ∙ c.in-Some.is) c.requires.fault refl refl refl held refl (c.in_ok-unread.ensures.items ∙ c.deref.ensures.value) in
    past_fits h past c.requires.fills b c.requires.reached refl held refl refl (c.in_ok-unread.ensures.items ∙ c.deref.ensures.value)
