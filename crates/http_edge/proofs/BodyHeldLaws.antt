-- What a window holds once a piece is read after a head.
use Rattle.std.proofs.Common.{◌≡◌, ℕ, ◌+◌, ◌-◌, ◌≤◌, ◌^◌, List, [], ◌∷◌, ◌++◌, length, take, drop, refl, sym, ap, ◌∙◌, subst, arith, length-append, length-drop, length-take-le, append_assoc, append-nil, take-append-drop}
use Rattle.std.specs.Prelude.{Option, Some, None, IsSome, Result, Ok, Err, slice_range}
use Rattle.std.specs.Vec.{vec_capacity}
use Rattle.std.proofs.lemmas.List.{take-append-le, take_all}
use Rattle.event_form.specs.declared.feed_fault.FeedFault.{FeedFault}
use Rattle.event_form.specs.declared.feed_fault.FeedFault.TheVariants.{Fault}
use Rattle.http_edge.specs.declared.fault.HttpFault.{HttpFault}
use Rattle.http_edge.specs.declared.fault.HttpWhy.{HttpWhy}
use Rattle.http_edge.specs.declared.gather.Ending.{Ending}
use Rattle.http_edge.specs.declared.gather.Ending.TheVariants.{Whole, Open, Bad}
use Rattle.http_edge.specs.declared.gather.Gathered.{Gathered}
use Rattle.http_edge.specs.declared.head.Head.{Head}
use Rattle.http_edge.specs.declared.held.Held.{Held}
use Rattle.http_edge.specs.declared.left.Left.{Left}
use Rattle.http_edge.specs.declared.request.HttpItem.{HttpItem}
use Rattle.http_edge.specs.declared.request.HttpItem.TheVariants as item
use Rattle.http_edge.specs.declared.stage.Stage.{Stage}
use Rattle.http_edge.specs.declared.stage.Stage.TheVariants.{Plain}
use Rattle.http_edge.specs.declared.waiting.Parked.{Parked}
use Rattle.http_edge.specs.declared.waiting.Waiting.{Waiting}
use Rattle.http_edge.specs.declared.waiting.Waiting.TheVariants.{Continue, Request}
use Rattle.http_edge.specs.Filling.{FeedsTo, FeedsWith, Fills, IsHeldOf, Settles, beside_after, first_head, reading_of, window_of}
use Rattle.http_edge.specs.Gathering.{Gathers, GathersTo}
use Rattle.http_edge.specs.Heads.{IsOpenHead}
use Rattle.http_edge.specs.Keeping.{answer, moved}
use Rattle.http_edge.specs.Reading as reading
use Rattle.http_edge.specs.Reading.{Reading}
use Rattle.http_edge.specs.Scanning.{IsBegun, Scans, cleared, place_of}
use Rattle.http_edge.specs.Steps.{Fits}
use Rattle.http_edge.specs.Waits.{AreHeads, IsHead, bodies_of, heads_of, items_in, with_body}
use Rattle.http_edge.proofs.AfterLaws.{bad_feeds, feeds_after, gathered, open_feeds, some_head}
use Rattle.http_edge.proofs.HeldLaws.{Ready, feeds_window, first_after, first_more, grown, scan_broken, scan_none, scan_short, settled_fills, waiting_long}
use Rattle.http_edge.proofs.OpeningLaws.{open_nil}
use Rattle.http_edge.proofs.ScanLaws.{are_append, bodies_append, heads_append, items_append}

-- what a gathering comes to, after the body that is held
pub gathered_held : (h : Held) (all new : List ℕ) (g : Gathered) (e : Ending) → (x : Gathers h.stage (length h.bytes.items - h.whole) all h.bytes.items new g) → g.end ≡ e → GathersTo h.stage (length (drop h.whole h.bytes.items)) all x.got g.used e
gathered_held h all new g e x is = gathered h.stage (length h.bytes.items - h.whole) (drop h.whole h.bytes.items) all x.got g.used g.end e (sym (length-drop h.whole h.bytes.items)) is x.gathers

-- the body goes on
pub record GoesOn (h new : Held) (bytes all : List ℕ) (used : ℕ) (stage : Stage) : Type 0 where
  pub queue_is : new.queue.items ≡ h.queue.items
  pub heads_is : new.heads ≡ h.heads
  pub beside_is : new.beside ≡ h.beside
  pub bytes_are : new.bytes.items ≡ bytes
  pub space : 1064960 ≤ vec_capacity new.bytes
  pub from_is : new.from ≡ h.from
  pub whole_is : new.whole ≡ h.whole
  pub at_is : new.at ≡ h.at
  pub begun_is : new.begun ≡ h.begun
  pub size_is : new.size ≡ h.size
  pub stage_is : new.stage ≡ stage
  pub read_is : new.read ≡ h.read + used
  pub unread_is : new.unread.items ≡ drop used all
  pub unread_space : 16384 ≤ vec_capacity new.unread
  pub fault_is : new.fault ≡ h.fault

pub open_feed : (h new : Held) (all piece bytes : List ℕ) (g : Gathered) (stage : Stage) → Fills h → h.fault ≡ None → IsSome h.begun → all ≡ h.unread.items ++ piece → Gathers h.stage (length h.bytes.items - h.whole) all h.bytes.items bytes g → g.end ≡ Open stage → GoesOn h new bytes all g.used stage → h.heads + h.size + (length h.bytes.items - h.from) + length all ≤ 1064960 + h.beside → h.at + h.read + length all ≤ 2 ^ 40 → FeedsWith h h.unread.items piece (Ok tt) new
open_feed h new all piece bytes g stage f clean begun all_is x is k room place =
    let b = some_head h.begun begun in
    let y = gathered_held h all bytes g (Open stage) x is in
    let got = x.got in
    let few = x.few in
    let inside = y.0.inside in
    let nb : length new.bytes.items ≡ length h.bytes.items + length got = ap length k.bytes_are ∙ ap length x.added ∙ length-append h.bytes.items got in
    let unread : length new.unread.items ≡ length all - g.used = ap length k.unread_is ∙ length-drop g.used all in
    let queue = sym k.queue_is in
    let q : bodies_of new.queue.items ≡ bodies_of h.queue.items = ap bodies_of k.queue_is in
    let a = k.from_is in
    let w = k.whole_is in
    let c = k.beside_is in
    let d = k.size_is in
    let e = k.heads_is in
    let i = f.inside in
    let o = f.order in
    let never : new.begun ≡ None → ⊥ = λ n. let z : Some b.0 ≡ None = sym b.1 ∙ sym k.begun_is ∙ n in (cc) in
    let rest : length (drop h.whole h.bytes.items) + length got ≡ length new.bytes.items - new.whole = (let z = length-drop h.whole h.bytes.items in omega (arith, z, nb, w, i)) in
    let g2 = grown h.bytes.items new.bytes.items [] (drop h.whole h.bytes.items ++ got) got h.from h.whole new.whole o i (k.bytes_are ∙ x.added) refl (omega (arith, w)) in
    let waiting : items_in new.queue.items (slice_range new.bytes.items new.from new.whole) ≡ items_in h.queue.items (slice_range h.bytes.items h.from h.whole) = ap (λ (n : ℕ). items_in new.queue.items (slice_range new.bytes.items n new.whole)) a ∙ (λ j. items_in (k.queue_is j) ((g2.0 ∙ append-nil (slice_range h.bytes.items h.from h.whole)) j)) in
    let old = reading_of h in
    let now : reading_of new ≡ record { waiting = old.waiting; at = old.at; begun = old.begun; stage = stage; body = old.body ++ got; read = old.read + g.used; unread = drop g.used all; fault = old.fault } = λ j. record { waiting = waiting j; at = k.at_is j; begun = k.begun_is j; stage = k.stage_is j; body = g2.1 j; read = k.read_is j; unread = k.unread_is j; fault = k.fault_is j } in
    let done = open_feeds old all b.0 got g.used stage (reading_of new) clean b.1 y now piece all_is in
    let long : length all ≡ length h.unread.items + length piece = ap length all_is ∙ length-append h.unread.items piece in
    record {
      fills = record {
        space = k.space;
        unread_space = k.unread_space;
        order = omega (arith, o, a, w);
        inside = omega (arith, i, w, nb);
        bodies = (let z = f.bodies in omega (arith, z, a, w, q));
        heads_are = e ∙ f.heads_are ∙ ap heads_of queue;
        are_heads = subst AreHeads queue f.are_heads;
        begun_is = subst (λ (n : Option Head). IsBegun n new.size) (sym k.begun_is) (subst (IsBegun h.begun) (sym d) f.begun_is);
        first = (let z = f.first in let v : first_head h.queue.items h.size ≡ first_head new.queue.items new.size = (λ j. first_head (queue j) (sym d j)) in omega (arith, z, v, c));
        alone = λ n. c ∙ f.alone (queue ∙ n) ∙ sym d;
        bound = omega (arith, room, a, c, d, e, nb, unread, few, inside, o, i);
        fits = subst (λ (t : Stage). Fits t (length new.bytes.items - new.whole)) (sym k.stage_is) (subst (Fits stage) rest y.0.fits);
        short = (let z = y.2 in let v : length new.unread.items ≡ length (drop g.used all) = ap length k.unread_is in omega (arith, z, v));
        room = (let z = k.at_is in let v = k.read_is in omega (arith, place, z, v, unread, inside));
        head = λ n. absurd (never n);
        none = λ n. absurd (never n);
        broken = subst (λ (z : Option HttpFault). IsHeldOf z new.read new.unread.items) (sym (k.fault_is ∙ clean)) tt;
      };
      feeds = done;
      room = (let z = k.at_is in let v = k.read_is in omega (arith, long, z, v, unread, inside));
    }

beside_same : (q r : List Waiting) (w : Waiting) (b s : ℕ) → beside_after ((q ++ w ∷ []) ++ r) b s ≡ b
beside_same [] r w b s = refl
beside_same (v ∷ q) r w b s = refl

first_zero : (q r : List Waiting) → first_head q 0 ≤ first_head (q ++ r) 0
first_zero [] r = omega arith
first_zero (Continue ∷ q) r = first_zero q r
first_zero (Request p ∷ q) r = omega arith

-- the unfinished request's head, once that waits
first_parked : (q : List Waiting) (p : Parked) (b t : ℕ) → b ≤ first_head q p.size → b ≤ first_head (q ++ Request p ∷ []) t
first_parked [] p b t few = few
first_parked (Continue ∷ q) p b t few = let n = first_zero q (Request p ∷ []) in omega (arith, n, few)
first_parked (Request r ∷ q) p b t few = few

never_empty : (q : List Waiting) (w : Waiting) → q ++ w ∷ [] ≡ [] → ⊥
never_empty [] w e = cc
never_empty (v ∷ q) w e = cc

pub whole_feed : (h mid new : Held) (all piece bytes got body : List ℕ) (g : Gathered) (head : Head) (n : ℕ) (queue : List Waiting) (heads : ℕ) (l : Left) (r : Result (Unit {0}) (FeedFault HttpFault)) → Fills h → h.fault ≡ None → h.begun ≡ Some head → all ≡ h.unread.items ++ piece → Gathers h.stage (length h.bytes.items - h.whole) all h.bytes.items bytes g → g.end ≡ Whole → Scans (drop g.used all) got body queue heads l → n ≡ length bytes - h.whole → mid.bytes.items ≡ bytes ++ (got ++ body) → 1064960 ≤ vec_capacity mid.bytes → mid.queue.items ≡ (h.queue.items ++ Request (record { head = head; size = h.size; body = n }) ∷ []) ++ queue → mid.heads ≡ h.heads + (h.size + heads) → mid.from ≡ h.from → mid.beside ≡ h.beside → h.heads + h.size + (length h.bytes.items - h.from) + length all ≤ 1064960 + h.beside → h.at + h.read + length all ≤ 2 ^ 40 → Settles mid (h.at + (h.read + g.used)) (drop g.used all) l new → r ≡ answer (moved (h.at + (h.read + g.used)) l.fault) → FeedsWith h h.unread.items piece r new
whole_feed h mid new all piece bytes got body g head n queue heads l r f clean begun all_is x is s n_is bytes_are space queue_is heads_is from_is beside_is room place st told =
    let p : Parked = record { head = head; size = h.size; body = n } in
    let base = h.at + (h.read + g.used) in
    let after = drop g.used all in
    let y = gathered_held h all bytes g Whole x is in
    let first_got = x.got in
    let few = x.few in
    let inside = y.0 in
    let o = f.order in
    let i = f.inside in
    let d = length-drop h.whole h.bytes.items in
    let bl : length bytes ≡ length h.bytes.items + length first_got = ap length x.added ∙ length-append h.bytes.items first_got in
    let ml : length mid.bytes.items ≡ length bytes + (length got + length body) = (let a = ap length bytes_are in let b = length-append bytes (got ++ body) in let c = length-append got body in omega (arith, a, b, c)) in
    let al : length after ≡ length all - g.used = length-drop g.used all in
    let q : bodies_of mid.queue.items ≡ bodies_of h.queue.items + (n + 0) + bodies_of queue = (let a : bodies_of mid.queue.items ≡ bodies_of (h.queue.items ++ Request p ∷ []) + bodies_of queue = ap bodies_of queue_is ∙ bodies_append (h.queue.items ++ Request p ∷ []) queue in let b : bodies_of (h.queue.items ++ Request p ∷ []) ≡ bodies_of h.queue.items + (n + 0) = bodies_append h.queue.items (Request p ∷ []) in omega (arith, a, b)) in
    let k : heads_of mid.queue.items ≡ heads_of h.queue.items + (h.size + 0) + heads_of queue = (let a : heads_of mid.queue.items ≡ heads_of (h.queue.items ++ Request p ∷ []) + heads_of queue = ap heads_of queue_is ∙ heads_append (h.queue.items ++ Request p ∷ []) queue in let b : heads_of (h.queue.items ++ Request p ∷ []) ≡ heads_of h.queue.items + (h.size + 0) = heads_append h.queue.items (Request p ∷ []) in omega (arith, a, b)) in
    let bodies = f.bodies in
    let got_is = s.bodies in
    let body_is = s.body_is in
    let part = s.part in
    let all_whole = s.whole in
    let rest = s.rest in
    let h_heads = f.heads_are in
    let s_heads = s.heads_are in
    let is_head : IsHead head h.size = subst (λ (b : Option Head). IsBegun b h.size) begun f.begun_is in
    let parked : h.beside ≤ first_head (h.queue.items ++ Request p ∷ []) l.size = first_parked h.queue.items p h.beside l.size f.first in
    let same : beside_after mid.queue.items mid.beside l.size ≡ h.beside = (λ j. beside_after (queue_is j) (beside_is j) l.size) ∙ beside_same h.queue.items queue (Request p) h.beside l.size in
    let ready : Ready mid base after l = record {
      space = space;
      body = omega (arith, ml, body_is);
      bodies = omega (arith, from_is, q, bodies, n_is, got_is, body_is, ml, bl, o, i);
      heads_are = omega (arith, heads_is, k, h_heads, s_heads);
      are_heads = subst AreHeads (sym queue_is) (are_append (h.queue.items ++ Request p ∷ []) queue (are_append h.queue.items (Request p ∷ []) f.are_heads (is_head, tt)) s.are_heads);
      begun_is = s.begun;
      first = (let z : h.beside ≤ first_head ((h.queue.items ++ Request p ∷ []) ++ queue) l.size = first_more (h.queue.items ++ Request p ∷ []) queue h.beside l.size l.size parked (λ e. absurd (never_empty h.queue.items (Request p) e)) in let v : first_head mid.queue.items l.size ≡ first_head ((h.queue.items ++ Request p ∷ []) ++ queue) l.size = ap (λ (u : List Waiting). first_head u l.size) queue_is in first_after mid.queue.items mid.beside l.size (omega (arith, z, v, beside_is)));
      bound = omega (arith, heads_is, ml, bl, from_is, room, part, all_whole, rest, same, few, inside, al, o, i);
      fits = subst (Fits l.stage) (sym body_is) s.scans.fits;
      short = scan_short after got body queue heads l s;
      rest = omega (arith, rest);
      room = omega (arith, place, rest, al, inside);
      none = scan_none after got body queue heads l s;
      broken = scan_broken after got body queue heads l s;
    } in
    let bd = drop h.whole h.bytes.items in
    let w = slice_range h.bytes.items h.from h.whole in
    let wl = waiting_long h.bytes.items h.from h.whole o i in
    let front = bd ++ first_got in
    let fl : length front ≡ length bd + length first_got = length-append bd first_got in
    let gl : length (front ++ got) ≡ length front + length got = length-append front got in
    let next : new.whole ≡ h.whole + length (front ++ got) = (let z = st.whole_is in omega (arith, z, ml, bl, body_is, gl, fl, d, i)) in
    let g2 = grown h.bytes.items new.bytes.items (front ++ got) body (first_got ++ (got ++ body)) h.from h.whole new.whole o i (st.bytes_are ∙ bytes_are ∙ ap (λ (v : List ℕ). v ++ (got ++ body)) x.added ∙ append_assoc h.bytes.items first_got (got ++ body)) (regroup bd first_got got body) next in
    let from : new.from ≡ h.from = st.from_is ∙ from_is in
    let one : take n front ≡ front = take_all n front (omega (arith, n_is, bl, fl, d, i)) in
    let nf : n ≡ length front = omega (arith, n_is, bl, fl, d, i) in
    let waiting : items_in new.queue.items (slice_range new.bytes.items new.from new.whole) ≡ (items_in h.queue.items w ++ item.Request (with_body head front) ∷ []) ++ items_in queue got = (
    ap (λ (v : ℕ). items_in new.queue.items (slice_range new.bytes.items v new.whole)) from
    ∙ (λ j. items_in ((st.queue_is ∙ queue_is) j) ((g2.0 ∙ sym (append_assoc w front got)) j))
    ∙ items_append (h.queue.items ++ Request p ∷ []) queue (w ++ front) got (let a : bodies_of (h.queue.items ++ Request p ∷ []) ≡ bodies_of h.queue.items + (n + 0) = bodies_append h.queue.items (Request p ∷ []) in let b = length-append w front in omega (arith, a, b, bodies, wl, nf))
    ∙ ap (λ (v : List HttpItem). v ++ items_in queue got) (items_append h.queue.items (Request p ∷ []) w front (omega (arith, bodies, wl)) ∙ ap (λ (v : List ℕ). items_in h.queue.items w ++ item.Request (with_body head v) ∷ []) one)
    ) in
    let old = reading_of h in
    let now : Reading = record { waiting = (old.waiting ++ item.Request (with_body head (old.body ++ first_got)) ∷ []) ++ items_in queue got; at = base + l.from; begun = l.begun; stage = l.stage; body = body; read = l.read; unread = drop (length after - l.rest) after; fault = moved base l.fault } in
    let is_now : reading_of new ≡ now = λ j. record { waiting = waiting j; at = st.at_is j; begun = st.begun_is j; stage = st.stage_is j; body = g2.1 j; read = st.read_is j; unread = st.unread_is j; fault = st.fault_is j } in
    let fed = feeds_after old all head first_got g.used base (items_in queue got) l.from l.begun l.stage body l.read (drop (length after - l.rest) after) l.fault clean begun y refl s.scans piece all_is in
    let done : reading.Feeds old piece (answer (moved base l.fault)) (reading_of new) = subst (reading.Feeds old piece (answer (moved base l.fault))) (sym is_now) fed in
    record {
      fills = settled_fills mid new base after l st ready;
      feeds = subst (λ (v : Result (Unit {0}) (FeedFault HttpFault)). FeedsTo (window_of h) piece v (window_of new)) (sym told) (feeds_window (window_of h) (window_of new) piece (moved base l.fault) done);
      room = (
          let a = st.at_is in
          let b = st.read_is in
          let c : length new.unread.items ≡ l.rest = (let z = ap length st.unread_is in let v = length-drop (length after - l.rest) after in let u = ready.rest in omega (arith, z, v, u)) in
          let e : length all ≡ length h.unread.items + length piece = ap length all_is ∙ length-append h.unread.items piece in
          omega (arith, a, b, c, e, rest, al, inside)
          );
    }
  where
    regroup : (a b c d : List ℕ) → a ++ (b ++ (c ++ d)) ≡ ((a ++ b) ++ c) ++ d
    regroup a b c d = sym (append_assoc a b (c ++ d)) ∙ sym (append_assoc (a ++ b) c d)

bad_first : (q : List Waiting) (b s t : ℕ) → b ≤ first_head q s → beside_after q b t ≤ first_head q t
bad_first [] b s t few = omega arith
bad_first (Continue ∷ q) b s t few = few
bad_first (Request p ∷ q) b s t few = few

bad_room : (q : List Waiting) (heads from whole b : ℕ) → heads ≡ heads_of q → from + bodies_of q ≡ whole → heads + (whole - from) ≤ 1064960 + b → heads + (whole - from) ≤ 1064960 + beside_after q b 0
bad_room [] heads from whole b h e few = omega (arith, h, e)
bad_room (w ∷ q) heads from whole b h e few = few

pub bad_feed : (h mid new : Held) (all piece bytes : List ℕ) (g : Gathered) (why : HttpWhy) (at : ℕ) (r : Result (Unit {0}) (FeedFault HttpFault)) → Fills h → h.fault ≡ None → IsSome h.begun → all ≡ h.unread.items ++ piece → Gathers h.stage (length h.bytes.items - h.whole) all h.bytes.items bytes g → g.end ≡ Bad why → at ≡ place_of why (h.read + g.used) → mid.bytes.items ≡ take h.whole bytes → 1064960 ≤ vec_capacity mid.bytes → mid.queue.items ≡ h.queue.items → mid.heads ≡ h.heads → mid.from ≡ h.from → mid.beside ≡ h.beside → Settles mid h.at all (cleared 0 (record { at = at; why = why })) new → r ≡ answer (moved h.at (Some (record { at = at; why = why }))) → FeedsWith h h.unread.items piece r new
bad_feed h mid new all piece bytes g why at r f clean begun all_is x is at_is bytes_are space queue_is heads_is from_is beside_is st told =
    let fault : HttpFault = record { at = at; why = why } in
    let l = cleared 0 fault in
    let b = some_head h.begun begun in
    let y = gathered_held h all bytes g (Bad why) x is in
    let o = f.order in
    let i = f.inside in
    let bodies = f.bodies in
    let bl : length bytes ≡ length h.bytes.items + length x.got = ap length x.added ∙ length-append h.bytes.items x.got in
    let kept : mid.bytes.items ≡ take h.whole h.bytes.items = bytes_are ∙ ap (take h.whole) x.added ∙ take-append-le h.whole h.bytes.items x.got i in
    let ml : length mid.bytes.items ≡ h.whole = ap length kept ∙ length-take-le h.whole h.bytes.items i in
    let q : bodies_of mid.queue.items ≡ bodies_of h.queue.items = ap bodies_of queue_is in
    let bound = f.bound in
    let h_heads = f.heads_are in
    let none : length (drop (length all - 0) all) ≡ 0 = (let z = length-drop (length all - 0) all in omega (arith, z)) in
    let ready : Ready mid h.at all l = record {
      space = space;
      body = omega arith;
      bodies = omega (arith, from_is, q, bodies, ml);
      heads_are = heads_is ∙ h_heads ∙ ap heads_of (sym queue_is);
      are_heads = subst AreHeads (sym queue_is) f.are_heads;
      begun_is = refl;
      first = bad_first mid.queue.items mid.beside h.size 0 (let z = f.first in let v : first_head mid.queue.items h.size ≡ first_head h.queue.items h.size = ap (λ (u : List Waiting). first_head u h.size) queue_is in omega (arith, z, v, beside_is));
      bound = (
          let z : h.heads + (h.whole - h.from) ≤ 1064960 + beside_after h.queue.items h.beside 0 = bad_room h.queue.items h.heads h.from h.whole h.beside h_heads bodies (omega (arith, bound, i, o)) in
          let v : beside_after mid.queue.items mid.beside 0 ≡ beside_after h.queue.items h.beside 0 = (λ j. beside_after (queue_is j) (beside_is j) 0) in
          omega (arith, z, v, heads_is, ml, from_is)
          );
      fits = omega arith;
      short = omega arith;
      rest = omega arith;
      room = (let z = f.room in omega (arith, z));
      none = λ e. (refl, refl);
      broken = (refl, none_of (drop (length all - 0) all) none);
    } in
    let t = take h.whole h.bytes.items in
    let tl = length-take-le h.whole h.bytes.items i in
    let gone : drop h.whole t ≡ [] = none_of (drop h.whole t) (let z = length-drop h.whole t in omega (arith, z, tl)) in
    let g2 = grown t h.bytes.items [] (drop h.whole h.bytes.items) (drop h.whole h.bytes.items) h.from h.whole h.whole o (omega (arith, tl)) (sym (take-append-drop h.whole h.bytes.items)) (ap (λ (v : List ℕ). v ++ drop h.whole h.bytes.items) gone) (omega arith) in
    let same : slice_range t h.from h.whole ≡ slice_range h.bytes.items h.from h.whole = sym (g2.0 ∙ append-nil (slice_range t h.from h.whole)) in
    let whole : new.whole ≡ h.whole = (let z = st.whole_is in omega (arith, z, ml)) in
    let from : new.from ≡ h.from = st.from_is ∙ from_is in
    let new_bytes : new.bytes.items ≡ t = st.bytes_are ∙ kept in
    let waiting : items_in new.queue.items (slice_range new.bytes.items new.from new.whole) ≡ items_in h.queue.items (slice_range h.bytes.items h.from h.whole) = (λ j. items_in ((st.queue_is ∙ queue_is) j) (slice_range (new_bytes j) (from j) (whole j))) ∙ ap (items_in h.queue.items) same in
    let body : drop new.whole new.bytes.items ≡ [] = (λ j. drop (whole j) (new_bytes j)) ∙ gone in
    let here : new.at ≡ h.at = (let z = st.at_is in omega (arith, z)) in
    let old = reading_of h in
    let now : Reading = record { waiting = old.waiting; at = old.at; begun = None; stage = Plain 0; body = []; read = 0; unread = drop (length all - 0) all; fault = Some (record { at = h.at + at; why = why }) } in
    let is_now : reading_of new ≡ now = λ j. record { waiting = waiting j; at = here j; begun = st.begun_is j; stage = st.stage_is j; body = body j; read = st.read_is j; unread = st.unread_is j; fault = st.fault_is j } in
    let fed = bad_feeds old all b.0 x.got g.used why at None (Plain 0) [] 0 (drop (length all - 0) all) clean b.1 y at_is (omega (arith, none)) piece all_is in
    let done : FeedsTo (window_of h) piece (Err (Fault (record { at = h.at + at; why = why }))) (window_of new) = subst (reading.Feeds old piece (Err (Fault (record { at = h.at + at; why = why })))) (sym is_now) fed in
    record {
      fills = settled_fills mid new h.at all l st ready;
      feeds = subst (λ (v : Result (Unit {0}) (FeedFault HttpFault)). FeedsTo (window_of h) piece v (window_of new)) (sym told) done;
      room = (
          let a = st.read_is in
          let c : length new.unread.items ≡ 0 = ap length st.unread_is ∙ none in
          omega (arith, here, a, c)
          );
    }
  where
    none_of : (v : List ℕ) → length v ≡ 0 → v ≡ []
    none_of [] e = refl
    none_of (c ∷ v) e = absurd (omega (arith, e))

-- after a fault no bytes are left unread
pub cleared_head : (all : List ℕ) → IsOpenHead (drop (length all - 0) all)
cleared_head all =
    let n = length-drop (length all - 0) all in
    subst IsOpenHead (sym (none_left (drop (length all - 0) all) (omega (arith, n)))) open_nil
  where
    none_left : (v : List ℕ) → length v ≡ 0 → v ≡ []
    none_left [] e = refl
    none_left (c ∷ v) e = absurd (omega (arith, e))
