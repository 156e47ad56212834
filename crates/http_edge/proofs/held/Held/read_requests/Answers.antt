-- What a window holds after requests.
use Rattle.std.proofs.Common.{◌+◌, take, refl, arith}
use Rattle.http_edge.specs.declared.held.Held.{Held}
use Rattle.http_edge.proofs.GiveLaws.{beside_short}
use Rattle.http_edge.proofs.HeldLaws.{kept_feed, requests_feed, requests_ready, scan_head}
use Rattle.http_edge.proofs.held.Held.read_requests.Goals as goal

pub scan-requires : goal.scan-requires
scan-requires c =
    let h = c.args.self.now in
    let f = c.requires.fills in
    let b = beside_short h (take c.args.had h.unread.items) f in
    let n = c.requires.room in
    let p = c.requires.packed in
    let s = f.space in
    let l = h.bytes.ok.0 in
    omega (arith, b.1, n, p, s, l)

pub overflow_add-self : goal.overflow_add-self
overflow_add-self c =
    let h = c.args.self.now in
    let f = c.requires.fills in
    let b = beside_short h (take c.args.had h.unread.items) f in
    let n = c.requires.room in
    let s = c.in-Ok.ensures.scans.scans in
    let w = s.whole in
    let r = s.rest in
    omega (arith, b.0, n, w, r)

pub settle-requires-clause-head : goal.settle-requires-clause-head
settle-requires-clause-head c =
    let x = c.in-Ok.scanned in
    let s = c.in-Ok.ensures.scans in
    scan_head c.args.all.now s.got s.body s.queue x.heads x.left s.scans

pub returns : goal.returns
returns c = λ piece e.
    let h = c.args.self.now in
    let u = take c.args.had h.unread.items in
    let f = c.requires.fills in
    let x = c.in-Ok.scanned in
    let s = c.in-Ok.ensures.scans in
    let mid : Held = record h { queue = c.scan.new.queue; heads = h.heads + x.heads; bytes = c.scan.new.bytes } in
    let space = f.space in
    let grows = c.scan.ensures.capacity in
    let ready = requests_ready h mid u c.args.all.now s.got s.body s.queue x.heads x.left f c.requires.open.1 s.scans s.added (omega (arith, space, grows)) s.queued refl refl refl c.requires.room c.requires.place in
    requests_feed h mid c.settle.new.self u c.args.all.now piece s.got s.body s.queue x.heads x.left c.settle.result f c.requires.open.0 c.requires.open.1 e s.scans s.added s.queued refl ready c.settle.ensures.settles c.settle.ensures.told

pub returns-in_default : goal.returns-in_default
returns-in_default c = λ piece e.
    let h = c.args.self.now in
    let f = c.requires.fills in
    let a = f.unread_space in
    let b = c.truncate.ensures.capacity in
    kept_feed h _ (take c.args.had h.unread.items) piece f c.requires.open.0 (record { queue_is = c.in_default.ensures.waits; heads_is = refl; beside_is = refl; bytes_are = c.in_default.ensures.kept; space = c.scan.ensures.capacity; from_is = refl; whole_is = refl; at_is = refl; begun_is = refl; size_is = refl; stage_is = refl; read_is = refl; unread_is = c.truncate.ensures.items; unread_space = omega (arith, a, b); part_is = refl; fault_is = refl })
