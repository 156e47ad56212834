-- What a window holds once a piece is read of a cut head.
use Rattle.std.proofs.Common.{◌≡◌, ℕ, ◌+◌, ◌-◌, ◌<◌, ◌≤◌, ◌^◌, false, List, [], ◌∷◌, ◌++◌, length, take, drop, refl, sym, ap, ◌∙◌, subst, arith, inl, length-append, length-drop, append_assoc, append-nil, take-append-drop}
use Rattle.std.specs.Prelude.{Some, None, Result, Ok}
use Rattle.std.specs.Vec.{vec_capacity}
use Rattle.event_form.specs.declared.feed_fault.FeedFault.{FeedFault}
use Rattle.http_edge.specs.declared.fault.HttpFault.{HttpFault}
use Rattle.http_edge.specs.declared.fault.HttpWhy.{HttpWhy}
use Rattle.http_edge.specs.declared.held.Held.{Held}
use Rattle.http_edge.specs.declared.part.HeadPart.{HeadPart}
use Rattle.http_edge.specs.declared.stage.Stage.{Stage}
use Rattle.http_edge.specs.Filling.{FeedsTo, FeedsWith, Fills, Settles, reading_with, window_with}
use Rattle.http_edge.specs.Heads.{IsOpenHead}
use Rattle.http_edge.specs.HttpStream.{IsFault}
use Rattle.http_edge.specs.Keeping.{answer, moved}
use Rattle.http_edge.specs.Parts.{IsPart}
use Rattle.http_edge.specs.Reading as reading
use Rattle.http_edge.specs.Reading.{Reading}
use Rattle.http_edge.specs.Scanning.{Scans, ScansTo, cleared}
use Rattle.http_edge.specs.Steps.{Fits}
use Rattle.http_edge.proofs.FaultLaws.{fault_more}
use Rattle.http_edge.proofs.FeedLaws.{feeds_begin}
use Rattle.http_edge.proofs.HeldLaws.{requests_feed, requests_ready}
use Rattle.http_edge.proofs.NextLaws.{into_fault}
use Rattle.http_edge.proofs.PartLaws.{part_open}
use Rattle.http_edge.proofs.ScanLaws.{at_begin, scan_bad}
use Rattle.http_edge.proofs.StreamLaws.{no_requests}

none_of : (v : List ℕ) → length v ≡ 0 → v ≡ []
none_of [] e = refl
none_of (c ∷ v) e = absurd (omega (arith, e))

-- all bytes are those of a head that isn't whole
scans_open : (all : List ℕ) (stage : Stage) → length all < 16384 → IsOpenHead all → Fits stage 0 → ScansTo all [] 0 None stage [] 0 all None
scans_open all stage short open_is fits = record {
  before = [];
  told = [];
  requests = no_requests all;
  items_are = refl;
  fits = fits;
  short = short;
  room = omega arith;
  place = tt;
  leaves = record { going = inl (short, open_is, refl); holds = (refl, refl, refl, short, open_is); fits = fits; short = short };
}

-- the head goes on
pub open_head_feeds : (h : Held) (more new : List ℕ) (part : HeadPart) → Fills h → h.fault ≡ None → h.begun ≡ None → new ≡ h.unread.items ++ more → length new < 16384 → IsPart part new → FeedsTo (window_with h h.unread.items) more (Ok tt) (window_with h new)
open_head_feeds h more new part f clean none e short is =
    let u = h.unread.items in
    let n = f.none none in
    let d = length-drop h.whole h.bytes.items in
    let nothing : drop h.whole h.bytes.items ≡ [] = none_of (drop h.whole h.bytes.items) (let k = n.0 in omega (arith, d, k)) in
    let zero : length h.bytes.items - h.whole ≡ 0 = (let k = n.0 in omega (arith, k)) in
    let old = reading_with h u in
    let s = scans_open new h.stage short (part_open part new is) (subst (Fits h.stage) zero f.fits) in
    let fed = feeds_begin old new [] 0 None h.stage [] 0 new None clean none s more e in
    let here : h.at ≡ h.at + 0 = omega arith in
    let now : reading_with h new ≡ record { waiting = old.waiting ++ []; at = h.at + 0; begun = None; stage = h.stage; body = []; read = 0; unread = new; fault = None } = λ i. record { waiting = sym (append-nil old.waiting) i; at = here i; begun = none i; stage = h.stage; body = nothing i; read = n.1 i; unread = new; fault = clean i } in
    subst (reading.Feeds old more (Ok tt)) (sym now) fed

settles_cleared : (mid new : Held) (base : ℕ) (a b : List ℕ) (from : ℕ) (fault : HttpFault) → Settles mid base a (cleared from fault) new → Settles mid base b (cleared from fault) new
settles_cleared mid new base a b from fault s =
    let x = length-drop (length a - 0) a in
    let y = length-drop (length b - 0) b in
    let left : drop (length a - 0) a ≡ [] = none_of (drop (length a - 0) a) (omega (arith, x)) in
    let right : drop (length b - 0) b ≡ [] = none_of (drop (length b - 0) b) (omega (arith, y)) in
    record {
      queue_is = s.queue_is;
      heads_are = s.heads_are;
      beside_is = s.beside_is;
      bytes_are = s.bytes_are;
      bytes_space = s.bytes_space;
      from_is = s.from_is;
      whole_is = s.whole_is;
      at_is = s.at_is;
      begun_is = s.begun_is;
      size_is = s.size_is;
      stage_is = s.stage_is;
      read_is = s.read_is;
      unread_is = s.unread_is ∙ left ∙ sym right;
      space = s.space;
      head = s.head;
      fault_is = s.fault_is;
    }

-- the head is at fault
pub bad_head_feed : (h mid new : Held) (more read : List ℕ) (why : HttpWhy) (r : Result (Unit {0}) (FeedFault HttpFault)) → Fills h → h.fault ≡ None → h.begun ≡ None → mid.bytes.items ≡ h.bytes.items → mid.queue.items ≡ h.queue.items → mid.heads ≡ h.heads → mid.from ≡ h.from → mid.beside ≡ h.beside → 1064960 ≤ vec_capacity mid.bytes → h.heads + h.size + (length h.bytes.items - h.from) + length h.unread.items + length more ≤ 1064960 + h.beside → h.at + h.read + length h.unread.items + length more ≤ 2 ^ 40 → (n : ℕ) → read ≡ h.unread.items ++ take n more → IsFault read why 0 [] → Settles mid h.at [] (cleared 0 (record { at = 0; why = why })) new → r ≡ answer (moved h.at (Some (record { at = 0; why = why }))) → FeedsWith h h.unread.items more r new
bad_head_feed h mid new more read why r f clean none bytes queue heads from beside space room place n read_is bad st told =
    let u = h.unread.items in
    let all = u ++ more in
    let fault : HttpFault = record { at = 0; why = why } in
    let l = cleared 0 fault in
    let split : read ++ drop n more ≡ all = ap (λ (v : List ℕ). v ++ drop n more) read_is ∙ append_assoc u (take n more) (drop n more) ∙ ap (λ (v : List ℕ). u ++ v) (take-append-drop n more) in
    let bad_all : IsFault all why 0 [] = subst (λ (v : List ℕ). IsFault v why 0 []) split (fault_more read (drop n more) why 0 [] bad) in
    let a = at_begin all [] [] [] refl refl in
    let got : a.got ≡ [] = sym a.added in
    let s : Scans all a.got [] [] 0 l = scan_bad all [] [] [] [] [] 0 0 0 why false a (into_fault all [] why bad_all) refl in
    let added : mid.bytes.items ≡ h.bytes.items ++ (a.got ++ []) = bytes ∙ sym (append-nil h.bytes.items) ∙ ap (λ (v : List ℕ). h.bytes.items ++ (v ++ [])) (sym got) in
    let waiting : mid.queue.items ≡ h.queue.items ++ [] = queue ∙ sym (append-nil h.queue.items) in
    let k : length all ≡ length u + length more = length-append u more in
    let same : mid.heads ≡ h.heads + 0 = omega (arith, heads) in
    let ready = requests_ready h mid u all a.got [] [] 0 l f none s added space waiting same from beside (omega (arith, room, k)) (omega (arith, place, k)) in
    requests_feed h mid new u all more a.got [] [] 0 l r f clean none refl s added waiting from ready (settles_cleared mid new h.at [] all 0 fault st) told
