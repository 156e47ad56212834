-- What a window holds of a body, and after it.
use Rattle.std.proofs.Common.{◌≡◌, ◌∙◌, ◌+◌, ◌-◌, ◌++◌, ◌∷◌, ℕ, List, [], length, drop, take, refl, sym, ap, subst, arith, append_assoc, length-append, length-drop}
use Rattle.std.specs.Prelude.{Some, insert}
use Rattle.http_edge.specs.declared.gather.Ending.TheVariants.{Whole}
use Rattle.http_edge.specs.declared.held.Held.{Held}
use Rattle.http_edge.specs.declared.left.Left.{Left}
use Rattle.http_edge.specs.declared.waiting.Parked.{Parked}
use Rattle.http_edge.specs.declared.waiting.Waiting.{Waiting}
use Rattle.http_edge.specs.declared.waiting.Waiting.TheVariants.{Request}
use Rattle.http_edge.specs.Filling.{Settles}
use Rattle.http_edge.specs.Gathering.{Gathers}
use Rattle.http_edge.specs.Heads.{IsOpenHead}
use Rattle.http_edge.specs.Keeping.{answer, moved}
use Rattle.http_edge.specs.Scanning.{Scans}
use Rattle.http_edge.proofs.BodyHeldLaws.{bad_feed, cleared_head, gathered_held, open_feed, whole_feed}
use Rattle.http_edge.proofs.GiveLaws.{beside_short}
use Rattle.http_edge.proofs.HeldLaws.{cut_off, kept_feed, none_some, scan_head}
use Rattle.http_edge.proofs.NextLaws.{window}
use Rattle.http_edge.proofs.ScanLaws.{insert_between, queue_back}
use Rattle.http_edge.proofs.held.Held.read_all.Goals as goal

pub gather-used-requires-clause-room : goal.gather-used-requires-clause-room
gather-used-requires-clause-room c =
    let h = c.args.self.now in
    let f = c.requires.fills in
    let b = beside_short h h.unread.items f in
    let n = c.requires.room in
    let p = c.requires.packed in
    let s = f.space in
    let l = h.bytes.ok.0 in
    omega (arith, b.1, n, p, s, l)

pub scan-requires : goal.scan-requires
scan-requires c =
    let h = c.args.self.now in
    let all = c.args.all.now in
    let g = c.gather-used in
    let x = subst (λ (n : ℕ). Gathers h.stage (n - h.whole) all h.bytes.items g.new.bytes.items g.result) (c.len-before.ensures ∙ h.bytes.ok.0) g.ensures.gathers in
    let y = gathered_held h all g.new.bytes.items g.result Whole x c.in-Whole.is in
    let f = c.requires.fills in
    let b = beside_short h h.unread.items f in
    let n = c.requires.room in
    let p = c.requires.packed in
    let s = f.space in
    let cap = g.ensures.capacity in
    let few = x.few in
    let inside = y.0 in
    let l : length g.new.bytes.items ≡ length h.bytes.items + length x.got = ap length x.added ∙ length-append h.bytes.items x.got in
    let v = g.new.bytes.ok.0 in
    let k : length (take (length all - g.result.used) (drop g.result.used all)) ≡ length all - g.result.used = ap length (window all g.result.used) ∙ length-drop g.result.used all in
    omega (arith, b.1, n, p, s, cap, few, inside, l, v, k)

pub overflow_add-self-in-Whole : goal.overflow_add-self-in-Whole
overflow_add-self-in-Whole c =
    let h = c.args.self.now in
    let all = c.args.all.now in
    let f = c.requires.fills in
    let b = beside_short h h.unread.items f in
    let n = c.requires.room in
    let s = c.in-Ok.ensures.scans.scans in
    let w = s.whole in
    let r = s.rest in
    let k : length (take (length all - c.gather-used.result.used) (drop c.gather-used.result.used all)) ≡ length all - c.gather-used.result.used = ap length (window all c.gather-used.result.used) ∙ length-drop c.gather-used.result.used all in
    omega (arith, b.0, n, w, r, k)

pub settle-requires-clause-head : goal.settle-requires-clause-head
settle-requires-clause-head c =
    let all = c.args.all.now in
    let x = c.in-Ok.scanned in
    let s = c.in-Ok.ensures.scans in
    scan_head (take (length all - c.gather-used.result.used) (drop c.gather-used.result.used all)) s.got s.body s.queue x.heads x.left s.scans

pub settle-requires-in-Bad-clause-head : goal.settle-requires-in-Bad-clause-head
settle-requires-in-Bad-clause-head c = λ e. subst (λ (l : Left). IsOpenHead (drop (length c.args.all.now - l.rest) c.args.all.now)) (sym c.cleared.ensures) (cleared_head c.args.all.now)

pub returns-in_default-reserve : goal.returns-in_default-reserve
returns-in_default-reserve c = λ piece e.
    let h = c.args.self.now in
    let f = c.requires.fills in
    let x = c.gather-used.ensures.gathers in
    let s = c.in-Ok.ensures.scans in
    let more = c.scan.new.bytes.items in
    let added : more ≡ h.bytes.items ++ (x.got ++ (s.got ++ s.body)) = s.added ∙ ap (λ (v : List ℕ). v ++ (s.got ++ s.body)) x.added ∙ append_assoc h.bytes.items x.got (s.got ++ s.body) in
    let kept = cut_off h.bytes.items more c.truncate-in_default-reserve-2.new.self.items (x.got ++ (s.got ++ s.body)) c.len-before.result added (c.len-before.ensures ∙ h.bytes.ok.0) c.truncate-in_default-reserve-2.ensures.items in
    let a = c.gather-used.ensures.capacity in
    let b = c.scan.ensures.capacity in
    let d = c.truncate-in_default-reserve-2.ensures.capacity in
    let queue = queue_back h.queue.items c.scan.new.queue.items c.truncate-in_default-reserve.new.self.items s.queue c.len-count.result s.queued (c.len-count.ensures ∙ h.queue.ok.0) (c.truncate-in_default-reserve.ensures.items ∙ ap (take c.len-count.result) c.reserve.ensures.items) in
    kept_feed h _ h.unread.items piece f c.requires.begun.0 (record { queue_is = queue; heads_is = refl; beside_is = refl; bytes_are = kept; space = omega (arith, a, b, d); from_is = refl; whole_is = refl; at_is = refl; begun_is = refl; size_is = refl; stage_is = refl; read_is = refl; unread_is = refl; unread_space = f.unread_space; part_is = refl; fault_is = refl })

pub returns-in-Some : goal.returns-in-Some
returns-in-Some c = λ piece e.
    let h = c.args.self.now in
    let all = c.args.all.now in
    let f = c.requires.fills in
    let g = c.gather-used in
    let x = c.in-Ok.scanned in
    let s = c.in-Ok.ensures.scans in
    let tail = window all g.result.used in
    let gathers = subst (λ (n : ℕ). Gathers h.stage (n - h.whole) all h.bytes.items g.new.bytes.items g.result) (c.len-before.ensures ∙ h.bytes.ok.0) g.ensures.gathers in
    let mid : Held = record h { queue = c.insert_reserved.new.queue; heads = h.heads + (h.size + x.heads); bytes = c.scan.new.bytes; begun = c.take.new.self } in
    let head = c.in-Some.head in
    let body = c.len.result - h.whole in
    let parked : Parked = record { head = head; size = h.size; body = body } in
    let queue : mid.queue.items ≡ (h.queue.items ++ Request parked ∷ []) ++ s.queue = c.insert_reserved.ensures ∙ ap (λ (v : List Waiting). insert v c.len-count.result (Request parked)) (c.in-Ok-reserve.ensures.items ∙ s.queued) ∙ insert_between h.queue.items s.queue (Request parked) c.len-count.result (c.len-count.ensures ∙ h.queue.ok.0) in
    let begun : h.begun ≡ Some head = sym c.take.ensures.value ∙ c.in-Some.is in
    let scans = subst (λ (v : List ℕ). Scans v s.got s.body s.queue x.heads x.left) tail s.scans in
    let settles = subst (λ (v : List ℕ). Settles mid (h.at + (h.read + g.result.used)) v x.left c.settle.new.self) tail c.settle.ensures.settles in
    let a = f.space in
    let b = g.ensures.capacity in
    let d = c.scan.ensures.capacity in
    let n : body ≡ length g.new.bytes.items - h.whole = ap (λ (v : ℕ). v - h.whole) (c.len.ensures ∙ g.new.bytes.ok.0) in
    whole_feed h mid c.settle.new.self all piece g.new.bytes.items s.got s.body g.result head body s.queue x.heads x.left c.settle.result f c.requires.begun.0 begun e gathers c.in-Whole.is scans n s.added (omega (arith, a, b, d)) queue refl refl refl c.requires.room c.requires.place settles c.settle.ensures.told

pub returns-in-Open : goal.returns-in-Open
returns-in-Open c = λ piece e.
    let h = c.args.self.now in
    let all = c.args.all.now in
    let f = c.requires.fills in
    let g = c.gather-used in
    let a = f.space in
    let b = g.ensures.capacity in
    let gathers = subst (λ (n : ℕ). Gathers h.stage (n - h.whole) all h.bytes.items g.new.bytes.items g.result) (c.len-before.ensures ∙ h.bytes.ok.0) g.ensures.gathers in
    let unread = c.append.ensures.items ∙ (λ i. c.clear.ensures.items i ++ window all g.result.used i) in
    let d = f.unread_space in
    let k = c.clear.ensures.capacity in
    let j = c.append.ensures.capacity in
    open_feed h _ all piece g.new.bytes.items g.result c.in-Open.stage f c.requires.begun.0 c.requires.begun.1 e gathers c.in-Open.is (record { queue_is = refl; heads_is = refl; beside_is = refl; bytes_are = refl; space = omega (arith, a, b); from_is = refl; whole_is = refl; at_is = refl; begun_is = refl; size_is = refl; stage_is = refl; read_is = refl; unread_is = unread; unread_space = omega (arith, d, k, j); fault_is = refl }) c.requires.room c.requires.place

pub returns-in-Bad : goal.returns-in-Bad
returns-in-Bad c = λ piece e.
    let h = c.args.self.now in
    let all = c.args.all.now in
    let f = c.requires.fills in
    let g = c.gather-used in
    let mid : Held = record h { bytes = c.truncate-in-Bad.new.self } in
    let gathers = subst (λ (n : ℕ). Gathers h.stage (n - h.whole) all h.bytes.items g.new.bytes.items g.result) (c.len-before.ensures ∙ h.bytes.ok.0) g.ensures.gathers in
    let a = f.space in
    let b = g.ensures.capacity in
    let d = c.truncate-in-Bad.ensures.capacity in
    let st = subst (λ (l : Left). Settles mid h.at all l c.settle-in-Bad.new.self) c.cleared.ensures c.settle-in-Bad.ensures.settles in
    let told = c.settle-in-Bad.ensures.told ∙ ap (λ (l : Left). answer (moved h.at l.fault)) c.cleared.ensures in
    bad_feed h mid c.settle-in-Bad.new.self all piece g.new.bytes.items g.result c.in-Bad.why c.place-at.result c.settle-in-Bad.result f c.requires.begun.0 c.requires.begun.1 e gathers c.in-Bad.is c.place-at.ensures c.truncate-in-Bad.ensures.items (omega (arith, a, b, d)) refl refl refl refl st told

pub returns-in_default : goal.returns-in_default
returns-in_default c = λ piece e.
    let h = c.args.self.now in
    let f = c.requires.fills in
    let x = c.gather-used.ensures.gathers in
    let kept = cut_off h.bytes.items c.scan.new.bytes.items c.truncate.new.self.items x.got c.len-before.result (c.in_default.ensures.kept ∙ x.added) (c.len-before.ensures ∙ h.bytes.ok.0) c.truncate.ensures.items in
    let a = c.gather-used.ensures.capacity in
    let b = c.scan.ensures.capacity in
    let d = c.truncate.ensures.capacity in
    kept_feed h _ h.unread.items piece f c.requires.begun.0 (record { queue_is = c.in_default.ensures.waits; heads_is = refl; beside_is = refl; bytes_are = kept; space = omega (arith, a, b, d); from_is = refl; whole_is = refl; at_is = refl; begun_is = refl; size_is = refl; stage_is = refl; read_is = refl; unread_is = refl; unread_space = f.unread_space; part_is = refl; fault_is = refl })

pub unreachable-requires : goal.unreachable-requires
unreachable-requires c = none_some _ c.requires.begun.1 (sym c.take.ensures.value ∙ c.in_default-take.is)
