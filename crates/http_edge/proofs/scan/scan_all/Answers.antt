-- What has been read of some bytes, request by request.
use Rattle.std.proofs.Common.{◌++◌, ◌∷◌, [], ◌∙◌, List, ℕ, refl, sym, ap, subst, arith, append_assoc, append-nil}
use Rattle.http_edge.specs.declared.next.Next.TheVariants.{Whole, Part, Open, Bad}
use Rattle.http_edge.specs.declared.waiting.Waiting.{Waiting}
use Rattle.http_edge.specs.declared.waiting.Waiting.TheVariants.{Request}
use Rattle.http_edge.specs.Scanning.{Scans}
use Rattle.http_edge.specs.Waits.{told_if}
use Rattle.std.proofs.Math.Nat.{le_trans}
use Rattle.http_edge.proofs.ScanLaws.{at_begin, cut_back, grown, next_at, scan_bad, scan_more, scan_open, scan_part, parked_after, told_after}
use Rattle.http_edge.proofs.scan.scan_all.Goals as goal

pub requests-init : goal.requests-init
requests-init c = (([], sym (append-nil c.args.queue.now.items), at_begin c.args.buf.now c.args.bytes.now.items c.args.bytes.now.items [] refl refl), omega arith)

pub requests-preserved : goal.requests-preserved
requests-preserved c =
    let l = c.requests in
    let q = l.invariant.0 in
    let b = c.args.buf.now in
    let w = c.in-Whole in
    let items = l.bytes.items in
    let more = c.next_request.new.bytes.items in
    let n = next_at b items more l.from c.in_ok-parked.field-0 (Whole w.parked w.asks w.used) w.is c.in_ok-parked.ensures.next in
    let k = c.next_request.ensures.capacity in
    let j = l.invariant.1 in
    let one : List Waiting = Request w.parked ∷ [] in
    let queued = parked_after c.args.queue.now.items l.queue.items q.0 c.tell.new.queue.items c.push_back.new.self.items w.asks w.parked q.1 c.in_ok-tell-in-Whole.ensures.ok c.in_ok-push_back-in-Whole.ensures.items in
    (((q.0 ++ told_if w.asks) ++ one, queued, scan_more b c.args.bytes.now.items items more q.0 ((q.0 ++ told_if w.asks) ++ one) l.heads l.from w.used w.parked w.asks q.2 n refl), omega (arith, j, k))

pub returns-in-Part-clause-scans : goal.returns-in-Part-clause-scans
returns-in-Part-clause-scans c =
    let l = c.requests in
    let q = l.invariant.0 in
    let b = c.args.buf.now in
    let p = c.in-Part.part in
    let items = l.bytes.items in
    let more = c.next_request.new.bytes.items in
    let a = q.2 in
    let n = next_at b items more l.from c.in_ok-parked.field-0 (Part p) c.in-Part.is c.in_ok-parked.ensures.next in
    record {
      queue = q.0 ++ told_if p.asks;
      got = a.got;
      body = n.got;
      queued = told_after c.args.queue.now.items l.queue.items q.0 c.tell-in-Part.new.queue.items p.asks q.1 c.in_ok-tell-in-Part.ensures.ok;
      added = n.added ∙ ap (λ (v : List ℕ). v ++ n.got) a.added ∙ append_assoc c.args.bytes.now.items a.got n.got;
      scans = scan_part b c.args.bytes.now.items items more q.0 (q.0 ++ told_if p.asks) l.heads l.from p a n refl;
    }

pub returns-in-Open-clause-scans : goal.returns-in-Open-clause-scans
returns-in-Open-clause-scans c =
    let l = c.requests in
    let q = l.invariant.0 in
    let b = c.args.buf.now in
    let items = l.bytes.items in
    let more = c.next_request.new.bytes.items in
    let a = q.2 in
    let n = next_at b items more l.from c.in_ok-parked.field-0 Open c.in-Open.is c.in_ok-parked.ensures.next in
    let same = n.added ∙ (λ i. a.added i ++ n.nexts.2 i) ∙ append_assoc c.args.bytes.now.items a.got [] in
    record { queue = q.0; got = a.got; body = []; queued = q.1; added = same; scans = scan_open b c.args.bytes.now.items items more q.0 l.heads l.from a n }

pub returns-in-Bad-clause-scans : goal.returns-in-Bad-clause-scans
returns-in-Bad-clause-scans c =
    let l = c.requests in
    let q = l.invariant.0 in
    let b = c.args.buf.now in
    let w = c.in-Bad in
    let items = l.bytes.items in
    let more = c.next_request.new.bytes.items in
    let a = q.2 in
    let n = next_at b items more l.from c.in_ok-parked.field-0 (Bad w.why w.asks w.at) w.is c.in_ok-parked.ensures.next in
    let kept = cut_back c.args.bytes.now.items items more c.truncate.new.self.items n.got c.len-body.result n.added (c.len-body.ensures ∙ l.bytes.ok.0) c.truncate.ensures.items in
    let now = q.0 ++ told_if w.asks in
    record {
      queue = now;
      got = a.got;
      body = [];
      queued = told_after c.args.queue.now.items l.queue.items q.0 c.tell-in-Bad.new.queue.items w.asks q.1 c.in_ok-tell-in-Bad.ensures.ok;
      added = kept ∙ a.added ∙ ap (λ (v : List ℕ). c.args.bytes.now.items ++ v) (sym (append-nil a.got));
      scans = subst (Scans b a.got [] now l.heads) (sym c.cleared-left.ensures) (scan_bad b c.args.bytes.now.items items more q.0 now l.heads l.from w.at w.why w.asks a n refl);
    }

pub returns-in_err-parked-clause-added : goal.returns-in_err-parked-clause-added
returns-in_err-parked-clause-added c =
    let l = c.requests in
    let a = l.invariant.0.2 in
    (a.got, c.in_err-parked.ensures.kept ∙ a.added)

pub returns-in_err-parked-clause-queued : goal.returns-in_err-parked-clause-queued
returns-in_err-parked-clause-queued c =
    let q = c.requests.invariant.0 in
    (q.0, q.1)

pub returns-in_err-parked-clause-capacity : goal.returns-in_err-parked-clause-capacity
returns-in_err-parked-clause-capacity c = le_trans c.requests.invariant.1 c.next_request.ensures.capacity

pub returns-in_err-tell-in-Whole-clause-added : goal.returns-in_err-tell-in-Whole-clause-added
returns-in_err-tell-in-Whole-clause-added c =
    let l = c.requests in
    let a = l.invariant.0.2 in
    let n = c.in_ok-parked.ensures.next in
    (a.got ++ n.got, grown c.args.bytes.now.items l.bytes.items c.next_request.new.bytes.items a.got n.got a.added n.added)

pub returns-in_err-tell-in-Whole-clause-queued : goal.returns-in_err-tell-in-Whole-clause-queued
returns-in_err-tell-in-Whole-clause-queued c =
    let q = c.requests.invariant.0 in
    (q.0, c.in_err-tell-in-Whole.ensures.err ∙ q.1)

pub returns-in_err-tell-in-Whole-clause-capacity : goal.returns-in_err-tell-in-Whole-clause-capacity
returns-in_err-tell-in-Whole-clause-capacity c = le_trans c.requests.invariant.1 c.next_request.ensures.capacity

pub returns-in_err-push_back-in-Whole-clause-added : goal.returns-in_err-push_back-in-Whole-clause-added
returns-in_err-push_back-in-Whole-clause-added c =
    let l = c.requests in
    let a = l.invariant.0.2 in
    let n = c.in_ok-parked.ensures.next in
    (a.got ++ n.got, grown c.args.bytes.now.items l.bytes.items c.next_request.new.bytes.items a.got n.got a.added n.added)

pub returns-in_err-push_back-in-Whole-clause-queued : goal.returns-in_err-push_back-in-Whole-clause-queued
returns-in_err-push_back-in-Whole-clause-queued c =
    let q = c.requests.invariant.0 in
    let w = c.in-Whole in
    (q.0 ++ told_if w.asks, c.in_err-push_back-in-Whole.ensures.items ∙ told_after c.args.queue.now.items c.requests.queue.items q.0 c.tell.new.queue.items w.asks q.1 c.in_ok-tell-in-Whole.ensures.ok)

pub returns-in_err-push_back-in-Whole-clause-capacity : goal.returns-in_err-push_back-in-Whole-clause-capacity
returns-in_err-push_back-in-Whole-clause-capacity c = le_trans c.requests.invariant.1 c.next_request.ensures.capacity

pub returns-in_err-tell-in-Part-clause-added : goal.returns-in_err-tell-in-Part-clause-added
returns-in_err-tell-in-Part-clause-added c =
    let l = c.requests in
    let a = l.invariant.0.2 in
    let n = c.in_ok-parked.ensures.next in
    (a.got ++ n.got, grown c.args.bytes.now.items l.bytes.items c.next_request.new.bytes.items a.got n.got a.added n.added)

pub returns-in_err-tell-in-Part-clause-queued : goal.returns-in_err-tell-in-Part-clause-queued
returns-in_err-tell-in-Part-clause-queued c =
    let q = c.requests.invariant.0 in
    (q.0, c.in_err-tell-in-Part.ensures.err ∙ q.1)

pub returns-in_err-tell-in-Part-clause-capacity : goal.returns-in_err-tell-in-Part-clause-capacity
returns-in_err-tell-in-Part-clause-capacity c = le_trans c.requests.invariant.1 c.next_request.ensures.capacity

pub returns-in-Part-clause-added : goal.returns-in-Part-clause-added
returns-in-Part-clause-added c =
    let l = c.requests in
    let a = l.invariant.0.2 in
    let n = c.in_ok-parked.ensures.next in
    (a.got ++ n.got, grown c.args.bytes.now.items l.bytes.items c.next_request.new.bytes.items a.got n.got a.added n.added)

pub returns-in-Part-clause-queued : goal.returns-in-Part-clause-queued
returns-in-Part-clause-queued c =
    let q = c.requests.invariant.0 in
    let p = c.in-Part.part in
    (q.0 ++ told_if p.asks, told_after c.args.queue.now.items c.requests.queue.items q.0 c.tell-in-Part.new.queue.items p.asks q.1 c.in_ok-tell-in-Part.ensures.ok)

pub returns-in-Part-clause-capacity : goal.returns-in-Part-clause-capacity
returns-in-Part-clause-capacity c = le_trans c.requests.invariant.1 c.next_request.ensures.capacity

pub returns-in-Open-clause-added : goal.returns-in-Open-clause-added
returns-in-Open-clause-added c =
    let l = c.requests in
    let a = l.invariant.0.2 in
    let n = c.in_ok-parked.ensures.next in
    (a.got ++ n.got, grown c.args.bytes.now.items l.bytes.items c.next_request.new.bytes.items a.got n.got a.added n.added)

pub returns-in-Open-clause-queued : goal.returns-in-Open-clause-queued
returns-in-Open-clause-queued c =
    let q = c.requests.invariant.0 in
    (q.0, q.1)

pub returns-in-Open-clause-capacity : goal.returns-in-Open-clause-capacity
returns-in-Open-clause-capacity c = le_trans c.requests.invariant.1 c.next_request.ensures.capacity

pub returns-in_err-tell-in-Bad-clause-added : goal.returns-in_err-tell-in-Bad-clause-added
returns-in_err-tell-in-Bad-clause-added c =
    let l = c.requests in
    let a = l.invariant.0.2 in
    let n = c.in_ok-parked.ensures.next in
    (a.got, cut_back c.args.bytes.now.items l.bytes.items c.next_request.new.bytes.items c.truncate.new.self.items n.got c.len-body.result n.added (c.len-body.ensures ∙ l.bytes.ok.0) c.truncate.ensures.items ∙ a.added)

pub returns-in_err-tell-in-Bad-clause-queued : goal.returns-in_err-tell-in-Bad-clause-queued
returns-in_err-tell-in-Bad-clause-queued c =
    let q = c.requests.invariant.0 in
    (q.0, c.in_err-tell-in-Bad.ensures.err ∙ q.1)

pub returns-in-Bad-clause-added : goal.returns-in-Bad-clause-added
returns-in-Bad-clause-added c =
    let l = c.requests in
    let a = l.invariant.0.2 in
    let n = c.in_ok-parked.ensures.next in
    (a.got, cut_back c.args.bytes.now.items l.bytes.items c.next_request.new.bytes.items c.truncate.new.self.items n.got c.len-body.result n.added (c.len-body.ensures ∙ l.bytes.ok.0) c.truncate.ensures.items ∙ a.added)

pub returns-in-Bad-clause-queued : goal.returns-in-Bad-clause-queued
returns-in-Bad-clause-queued c =
    let q = c.requests.invariant.0 in
    let w = c.in-Bad in
    (q.0 ++ told_if w.asks, told_after c.args.queue.now.items c.requests.queue.items q.0 c.tell-in-Bad.new.queue.items w.asks q.1 c.in_ok-tell-in-Bad.ensures.ok)
