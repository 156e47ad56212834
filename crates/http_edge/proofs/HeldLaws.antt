-- What a window holds once a piece is read.
use Rattle.std.proofs.Common.{◌≡◌, ℕ, ◌+◌, ◌-◌, ◌<◌, ◌≤◌, ◌^◌, List, [], ◌∷◌, ◌++◌, length, take, drop, refl, sym, ap, ◌∙◌, subst, arith, length-append, length-drop, length-take-le, append_assoc, take-append-drop}
use Rattle.std.specs.Prelude.{IsSome, Option, Some, None, Result, Err, slice_range}
use Rattle.std.specs.Vec.{vec_capacity}
use Rattle.std.proofs.lemmas.List.{drop-take, drop-append-le, drop_at, take_at}
use Rattle.event_form.specs.declared.feed_fault.FeedFault.{FeedFault}
use Rattle.event_form.specs.declared.feed_fault.FeedFault.TheVariants.{NoMemory}
use Rattle.http_edge.specs.declared.fault.HttpFault.{HttpFault}
use Rattle.http_edge.specs.declared.head.Head.{Head}
use Rattle.http_edge.specs.declared.held.Held.{Held}
use Rattle.http_edge.specs.declared.left.Left.{Left}
use Rattle.http_edge.specs.declared.part.HeadPart.{HeadPart}
use Rattle.http_edge.specs.declared.stage.Stage.{Stage}
use Rattle.http_edge.specs.declared.waiting.Waiting.{Waiting}
use Rattle.http_edge.specs.declared.waiting.Waiting.TheVariants.{Continue, Request}
use Rattle.http_edge.specs.Filling.{FeedsTo, FeedsWith, Fills, FillsWith, IsHeldOf, Settles, beside_after, first_head, reading_of, reading_with, window_of, window_with}
use Rattle.http_edge.specs.Keeping.{answer, moved}
use Rattle.http_edge.specs.Heads.{IsOpenHead}
use Rattle.http_edge.specs.Parts.{IsPart}
use Rattle.http_edge.specs.Reading as reading
use Rattle.http_edge.specs.Reading.{Reading}
use Rattle.http_edge.specs.Scanning.{IsBegun, Leaves, Scans, StandsWithin}
use Rattle.http_edge.specs.Steps.{Fits}
use Rattle.http_edge.specs.Waits.{AreHeads, bodies_of, heads_of, items_in}
use Rattle.http_edge.specs.Window.{Window}
use Rattle.http_edge.proofs.FeedLaws.{feeds_begin}
use Rattle.http_edge.proofs.OpeningLaws.{open_nil}
use Rattle.http_edge.proofs.ScanLaws.{are_append, bodies_append, heads_append, items_append}

-- bytes that grew, cut at places
pub grown : (b n x y z : List ℕ) (from whole next : ℕ) → from ≤ whole → whole ≤ length b → n ≡ b ++ z → drop whole b ++ z ≡ x ++ y → next ≡ whole + length x → (slice_range n from next ≡ slice_range b from whole ++ x) × (drop next n ≡ y)
grown b n x y z from whole next o i n_is e k =
    let t = take whole b in
    let long : length t ≡ whole = length-take-le whole b i in
    let m : from + (whole - from) ≡ whole = omega (arith, o) in
    let split : n ≡ t ++ (x ++ y) = n_is ∙ ap (λ (v : List ℕ). v ++ z) (sym (take-append-drop whole b)) ∙ append_assoc t (drop whole b) z ∙ ap (λ (v : List ℕ). t ++ v) e in
    let front : slice_range b from whole ≡ drop from t = sym (drop-take from (whole - from) b) ∙ ap (λ (j : ℕ). drop from (take j b)) m in
    let rest : drop from n ≡ (drop from t ++ x) ++ y = ap (drop from) split ∙ drop-append-le from t (x ++ y) (omega (arith, o, long)) ∙ sym (append_assoc (drop from t) x y) in
    let d = length-drop from t in
    let s = length-append (drop from t) x in
    let r = length-append t x in (
      ap (take (next - from)) rest ∙ take_at (drop from t ++ x) y (next - from) (omega (arith, d, s, k, long, o)) ∙ ap (λ (v : List ℕ). v ++ x) (sym front),
      ap (drop next) (split ∙ sym (append_assoc t x y)) ∙ drop_at (t ++ x) y next (omega (arith, r, k, long)),
    )

-- how many bytes the waiting bodies have
pub waiting_long : (b : List ℕ) (from whole : ℕ) → from ≤ whole → whole ≤ length b → length (slice_range b from whole) ≡ whole - from
waiting_long b from whole o i = let n = length-drop from b in length-take-le (whole - from) (drop from b) (omega (arith, n, o, i))

first_zero : (q r : List Waiting) (s : ℕ) → first_head q 0 ≤ first_head (q ++ r) 0
first_zero [] r s = omega arith
first_zero (Continue ∷ q) r s = first_zero q r s
first_zero (Request p ∷ q) r s = omega arith

-- the first head in line stays the first
pub first_more : (q r : List Waiting) (b s t : ℕ) → b ≤ first_head q s → (q ≡ [] → b ≡ 0) → b ≤ first_head (q ++ r) t
first_more [] r b s t few none = let e = none refl in omega (arith, e)
first_more (Continue ∷ q) r b s t few none = let n = first_zero q r 0 in omega (arith, n, few)
first_more (Request p ∷ q) r b s t few none = few

pub first_after : (q : List Waiting) (b s : ℕ) → b ≤ first_head q s → beside_after q b s ≤ first_head q s
first_after [] b s few = omega arith
first_after (w ∷ q) b s few = few

pub alone_after : (q : List Waiting) (b s : ℕ) → q ≡ [] → beside_after q b s ≡ s
alone_after [] b s e = refl
alone_after (w ∷ q) b s e = absurd (cc)

-- what is kept beside doesn't fall while something waits
pub beside_grows : (q : List Waiting) (b s : ℕ) → (q ≡ [] → b ≡ 0) → b ≤ beside_after q b s
beside_grows [] b s none = let e = none refl in omega (arith, e)
beside_grows (w ∷ q) b s none = omega arith

pub none_before : (q r : List Waiting) → q ++ r ≡ [] → q ≡ []
none_before [] r e = refl
none_before (w ∷ q) r e = absurd (cc)

-- what is taken over fits the rest
pub record Ready (mid : Held) (base : ℕ) (more : List ℕ) (l : Left) : Type 0 where
  pub space : 1064960 ≤ vec_capacity mid.bytes
  pub body : l.body ≤ length mid.bytes.items
  pub bodies : mid.from + bodies_of mid.queue.items + l.body ≡ length mid.bytes.items
  pub heads_are : mid.heads ≡ heads_of mid.queue.items
  pub are_heads : AreHeads mid.queue.items
  pub begun_is : IsBegun l.begun l.size
  pub first : beside_after mid.queue.items mid.beside l.size ≤ first_head mid.queue.items l.size
  pub bound : mid.heads + l.size + (length mid.bytes.items - mid.from) + l.rest ≤ 1064960 + beside_after mid.queue.items mid.beside l.size
  pub fits : Fits l.stage l.body
  pub short : l.rest < 16384
  pub rest : l.rest ≤ length more
  pub room : base + l.from + l.read + l.rest ≤ 2 ^ 40
  pub none : l.begun ≡ None → (l.body ≡ 0) × (l.read ≡ 0)
  pub broken : IsHeldOf l.fault l.read (drop (length more - l.rest) more)

held_moved : (f : Option HttpFault) (base read : ℕ) (u : List ℕ) → IsHeldOf f read u → IsHeldOf (moved base f) read u
held_moved None base read u x = x
held_moved (Some e) base read u x = x

pub settled_fills : (mid new : Held) (base : ℕ) (more : List ℕ) (l : Left) → Settles mid base more l new → Ready mid base more l → Fills new
settled_fills mid new base more l s x =
    let nb : length new.bytes.items ≡ length mid.bytes.items = ap length s.bytes_are in
    let u : length new.unread.items ≡ l.rest = (let k = length-drop (length more - l.rest) more in let j : length new.unread.items ≡ length (drop (length more - l.rest) more) = ap length s.unread_is in let i = x.rest in omega (arith, j, k, i)) in
    let queue = sym s.queue_is in
    let w = s.whole_is in
    let f = s.from_is in
    let bodies = x.bodies in
    let body = x.body in
    let whole : length new.bytes.items - new.whole ≡ l.body = omega (arith, nb, w, body) in
    let q : bodies_of new.queue.items ≡ bodies_of mid.queue.items = ap bodies_of s.queue_is in
    let at : new.beside ≡ beside_after new.queue.items mid.beside l.size = s.beside_is ∙ ap (λ (v : List Waiting). beside_after v mid.beside l.size) queue in
    let size = s.size_is in
    record {
      space = (let k = x.space in let j = s.bytes_space in omega (arith, k, j));
      unread_space = s.space;
      order = omega (arith, w, f, bodies, body);
      inside = omega (arith, nb, w);
      bodies = omega (arith, w, f, bodies, body, q);
      heads_are = s.heads_are ∙ x.heads_are ∙ ap heads_of queue;
      are_heads = subst AreHeads queue x.are_heads;
      begun_is = subst (λ (b : Option Head). IsBegun b new.size) (sym s.begun_is) (subst (IsBegun l.begun) (sym size) x.begun_is);
      first = (
          let k = x.first in
          let j : first_head mid.queue.items l.size ≡ first_head new.queue.items new.size = (λ i. first_head (queue i) (sym size i)) in
          let b = s.beside_is in
          omega (arith, k, j, b)
          );
      alone = λ e. at ∙ alone_after new.queue.items mid.beside l.size e ∙ sym size;
      bound = (let k = x.bound in let h = s.heads_are in let b = s.beside_is in omega (arith, k, h, b, size, nb, f, u));
      fits = subst (λ (t : Stage). Fits t (length new.bytes.items - new.whole)) (sym s.stage_is) (subst (Fits l.stage) (sym whole) x.fits);
      short = (let k = x.short in omega (arith, k, u));
      room = (let k = x.room in let a = s.at_is in let r = s.read_is in omega (arith, k, a, r, u));
      head = s.head;
      none = λ e. let n = x.none (sym s.begun_is ∙ e) in let r = s.read_is in (omega (arith, n.0, w, nb, body), omega (arith, n.1, r));
      broken = subst (λ (v : List ℕ). IsHeldOf new.fault new.read v) (sym s.unread_is) (subst (λ (n : ℕ). IsHeldOf new.fault n (drop (length more - l.rest) more)) (sym s.read_is) (subst (λ (g : Option HttpFault). IsHeldOf g l.read (drop (length more - l.rest) more)) (sym s.fault_is) (held_moved l.fault base l.read (drop (length more - l.rest) more) x.broken)));
    }

-- after a scan
pub scan_broken : (b got body : List ℕ) (queue : List Waiting) (heads : ℕ) (l : Left) → Scans b got body queue heads l → IsHeldOf l.fault l.read (drop (length b - l.rest) b)
scan_broken b got body queue heads l s = go l.fault s.scans.leaves
  where
    go : (f : Option HttpFault) → Leaves f l.from (drop l.from b) s.scans.told l.begun l.stage body l.read (drop (length b - l.rest) b) → IsHeldOf f l.read (drop (length b - l.rest) b)
    go None x = tt
    go (Some e) x = (x.3, x.4)

pub scan_none : (b got body : List ℕ) (queue : List Waiting) (heads : ℕ) (l : Left) → Scans b got body queue heads l → l.begun ≡ None → (l.body ≡ 0) × (l.read ≡ 0)
scan_none b got body queue heads l s e =
    let r : l.read ≡ 0 = go l.fault s.scans.leaves in
    let p = s.part in
    let n = s.body_is in
    (omega (arith, r, p, n), r)
  where
    go : (f : Option HttpFault) → Leaves f l.from (drop l.from b) s.scans.told l.begun l.stage body l.read (drop (length b - l.rest) b) → l.read ≡ 0
    go None x = (subst (λ (g : Option Head). reading.Holds g l.stage body l.read (drop (length b - l.rest) b) (drop l.from b)) e x.holds).1
    go (Some f) x = x.3

-- what isn't read of a head is the beginning of one
pub scan_head : (b got body : List ℕ) (queue : List Waiting) (heads : ℕ) (l : Left) → Scans b got body queue heads l → l.begun ≡ None → IsOpenHead (drop (length b - l.rest) b)
scan_head b got body queue heads l s e = go l.fault s.scans.leaves
  where
    go : (f : Option HttpFault) → Leaves f l.from (drop l.from b) s.scans.told l.begun l.stage body l.read (drop (length b - l.rest) b) → IsOpenHead (drop (length b - l.rest) b)
    go None x = let h = subst (λ (g : Option Head). reading.Holds g l.stage body l.read (drop (length b - l.rest) b) (drop l.from b)) e x.holds in subst IsOpenHead h.0 h.4
    go (Some f) x = subst IsOpenHead (sym x.4) open_nil

pub scan_short : (b got body : List ℕ) (queue : List Waiting) (heads : ℕ) (l : Left) → Scans b got body queue heads l → l.rest < 16384
scan_short b got body queue heads l s =
    let n = length-drop (length b - l.rest) b in
    let m = s.rest in
    let k = s.scans.short in
    omega (arith, n, m, k)

pub within : (f : Option HttpFault) (n m : ℕ) → n ≤ m → StandsWithin f n → StandsWithin f m
within None n m few x = tt
within (Some e) n m few x = omega (arith, few, x)

-- what an answer says
pub feeds_window : (old new : Window) (piece : List ℕ) (f : Option HttpFault) → reading.Feeds old.reading piece (answer f) new.reading → FeedsTo old piece (answer f) new
feeds_window old new piece None x = x
feeds_window old new piece (Some e) x = x

-- requests are read where no head was whole
pub requests_ready : (h mid : Held) (u all got body : List ℕ) (queue : List Waiting) (heads : ℕ) (l : Left) → FillsWith h u → h.begun ≡ None → Scans all got body queue heads l → mid.bytes.items ≡ h.bytes.items ++ (got ++ body) → 1064960 ≤ vec_capacity mid.bytes → mid.queue.items ≡ h.queue.items ++ queue → mid.heads ≡ h.heads + heads → mid.from ≡ h.from → mid.beside ≡ h.beside → h.heads + h.size + (length h.bytes.items - h.from) + length all ≤ 1064960 + h.beside → h.at + h.read + length all ≤ 2 ^ 40 → Ready mid h.at all l
requests_ready h mid u all got body queue heads l f open_is s bytes space queue_is heads_is from_is beside_is room place =
    let n : length mid.bytes.items ≡ length h.bytes.items + (length got + length body) = (let a = ap length bytes in let b = length-append h.bytes.items (got ++ body) in let c = length-append got body in omega (arith, a, b, c)) in
    let size : h.size ≡ 0 = subst (λ (b : Option Head). IsBegun b h.size) open_is f.begun_is in
    let q : bodies_of mid.queue.items ≡ bodies_of h.queue.items + bodies_of queue = ap bodies_of queue_is ∙ bodies_append h.queue.items queue in
    let k : heads_of mid.queue.items ≡ heads_of h.queue.items + heads_of queue = ap heads_of queue_is ∙ heads_append h.queue.items queue in
    let whole = (f.none open_is).0 in
    let bodies = f.bodies in
    let got_is = s.bodies in
    let body_is = s.body_is in
    let order = f.order in
    let part = s.part in
    let all_whole = s.whole in
    let rest = s.rest in
    let h_heads = f.heads_are in
    let s_heads = s.heads_are in
    let nothing : h.queue.items ≡ [] → h.beside ≡ 0 = λ e. f.alone e ∙ size in
    let grows : h.beside ≤ beside_after mid.queue.items h.beside l.size = beside_grows mid.queue.items h.beside l.size (λ e. nothing (none_before h.queue.items queue (sym queue_is ∙ e))) in
    let same : beside_after mid.queue.items mid.beside l.size ≡ beside_after mid.queue.items h.beside l.size = ap (λ (b : ℕ). beside_after mid.queue.items b l.size) beside_is in
    record {
      space = space;
      body = omega (arith, n, body_is);
      bodies = omega (arith, from_is, q, bodies, whole, got_is, body_is, n);
      heads_are = omega (arith, heads_is, k, h_heads, s_heads);
      are_heads = subst AreHeads (sym queue_is) (are_append h.queue.items queue f.are_heads s.are_heads);
      begun_is = s.begun;
      first = (let z : h.beside ≤ first_head (h.queue.items ++ queue) l.size = first_more h.queue.items queue h.beside h.size l.size f.first nothing in let y : first_head mid.queue.items l.size ≡ first_head (h.queue.items ++ queue) l.size = ap (λ (v : List Waiting). first_head v l.size) queue_is in first_after mid.queue.items mid.beside l.size (omega (arith, z, y, beside_is)));
      bound = omega (arith, heads_is, n, from_is, room, part, all_whole, rest, grows, same, size, order, whole);
      fits = subst (Fits l.stage) (sym body_is) s.scans.fits;
      short = scan_short all got body queue heads l s;
      rest = omega (arith, rest);
      room = (let r = (f.none open_is).1 in omega (arith, place, rest, r));
      none = scan_none all got body queue heads l s;
      broken = scan_broken all got body queue heads l s;
    }

pub requests_feed : (h mid new : Held) (u all piece got body : List ℕ) (queue : List Waiting) (heads : ℕ) (l : Left) (r : Result (Unit {0}) (FeedFault HttpFault)) → FillsWith h u → h.fault ≡ None → h.begun ≡ None → all ≡ u ++ piece → Scans all got body queue heads l → mid.bytes.items ≡ h.bytes.items ++ (got ++ body) → mid.queue.items ≡ h.queue.items ++ queue → mid.from ≡ h.from → Ready mid h.at all l → Settles mid h.at all l new → r ≡ answer (moved h.at l.fault) → FeedsWith h u piece r new
requests_feed h mid new u all piece got body queue heads l r f clean open_is all_is s bytes queue_is from_is ready st told =
    let whole = (f.none open_is).0 in
    let n : length mid.bytes.items ≡ length h.bytes.items + (length got + length body) = (let a = ap length bytes in let b = length-append h.bytes.items (got ++ body) in let c = length-append got body in omega (arith, a, b, c)) in
    let body_is = s.body_is in
    let next : new.whole ≡ h.whole + length got = (let w = st.whole_is in omega (arith, w, n, body_is, whole)) in
    let d = length-drop h.whole h.bytes.items in
    let nothing : drop h.whole h.bytes.items ≡ [] = none_of (drop h.whole h.bytes.items) (omega (arith, d, whole)) in
    let g = grown h.bytes.items new.bytes.items got body (got ++ body) h.from h.whole new.whole f.order f.inside (st.bytes_are ∙ bytes) (ap (λ (v : List ℕ). v ++ (got ++ body)) nothing) next in
    let from : new.from ≡ h.from = st.from_is ∙ from_is in
    let w = waiting_long h.bytes.items h.from h.whole f.order f.inside in
    let bodies = f.bodies in
    let waiting : items_in new.queue.items (slice_range new.bytes.items new.from new.whole) ≡ items_in h.queue.items (slice_range h.bytes.items h.from h.whole) ++ items_in queue got = ap (λ (k : ℕ). items_in new.queue.items (slice_range new.bytes.items k new.whole)) from ∙ (λ i. items_in ((st.queue_is ∙ queue_is) i) (g.0 i)) ∙ items_append h.queue.items queue (slice_range h.bytes.items h.from h.whole) got (omega (arith, w, bodies)) in
    let old = reading_with h u in
    let now : Reading = record { waiting = old.waiting ++ items_in queue got; at = h.at + l.from; begun = l.begun; stage = l.stage; body = body; read = l.read; unread = drop (length all - l.rest) all; fault = moved h.at l.fault } in
    let is : reading_of new ≡ now = λ i. record { waiting = waiting i; at = st.at_is i; begun = st.begun_is i; stage = st.stage_is i; body = g.1 i; read = st.read_is i; unread = st.unread_is i; fault = st.fault_is i } in
    let fed = feeds_begin old all (items_in queue got) l.from l.begun l.stage body l.read (drop (length all - l.rest) all) l.fault clean open_is s.scans piece all_is in
    let done : reading.Feeds old piece (answer (moved h.at l.fault)) (reading_of new) = subst (reading.Feeds old piece (answer (moved h.at l.fault))) (sym is) fed in
    record {
      fills = settled_fills mid new h.at all l st ready;
      feeds = subst (λ (q : Result (Unit {0}) (FeedFault HttpFault)). FeedsTo (window_with h u) piece q (window_of new)) (sym told) (feeds_window (window_with h u) (window_of new) piece (moved h.at l.fault) done);
      room = (
          let a = st.at_is in
          let b = st.read_is in
          let c : length new.unread.items ≡ l.rest = (let x = ap length st.unread_is in let y = length-drop (length all - l.rest) all in let z = ready.rest in omega (arith, x, y, z)) in
          let e : length all ≡ length u + length piece = ap length all_is ∙ length-append u piece in
          let z = s.rest in
          omega (arith, a, b, c, e, z)
          );
    }
  where
    none_of : (v : List ℕ) → length v ≡ 0 → v ≡ []
    none_of [] e = refl
    none_of (c ∷ v) e = absurd (omega (arith, e))

-- all is as before, where these bytes aren't read
pub record Kept (h new : Held) (u : List ℕ) : Type 0 where
  pub queue_is : new.queue.items ≡ h.queue.items
  pub heads_is : new.heads ≡ h.heads
  pub beside_is : new.beside ≡ h.beside
  pub bytes_are : new.bytes.items ≡ h.bytes.items
  pub space : vec_capacity h.bytes ≤ vec_capacity new.bytes
  pub from_is : new.from ≡ h.from
  pub whole_is : new.whole ≡ h.whole
  pub at_is : new.at ≡ h.at
  pub begun_is : new.begun ≡ h.begun
  pub size_is : new.size ≡ h.size
  pub stage_is : new.stage ≡ h.stage
  pub read_is : new.read ≡ h.read
  pub unread_is : new.unread.items ≡ u
  pub unread_space : 16384 ≤ vec_capacity new.unread
  pub part_is : new.part ≡ h.part
  pub fault_is : new.fault ≡ h.fault

pub kept_fills : (h new : Held) (u : List ℕ) → FillsWith h u → Kept h new u → Fills new
kept_fills h new u f k =
    let queue = sym k.queue_is in
    let nb : length new.bytes.items ≡ length h.bytes.items = ap length k.bytes_are in
    let v : length new.unread.items ≡ length u = ap length k.unread_is in
    let q : bodies_of new.queue.items ≡ bodies_of h.queue.items = ap bodies_of k.queue_is in
    let a = k.from_is in
    let b = k.whole_is in
    let c = k.beside_is in
    let d = k.size_is in
    let e = k.heads_is in
    let rest : length h.bytes.items - h.whole ≡ length new.bytes.items - new.whole = omega (arith, nb, b) in
    record {
      space = (let x = k.space in let y = f.space in omega (arith, x, y));
      unread_space = k.unread_space;
      order = (let x = f.order in omega (arith, x, a, b));
      inside = (let x = f.inside in omega (arith, x, b, nb));
      bodies = (let x = f.bodies in omega (arith, x, a, b, q));
      heads_are = e ∙ f.heads_are ∙ ap heads_of queue;
      are_heads = subst AreHeads queue f.are_heads;
      begun_is = subst (λ (g : Option Head). IsBegun g new.size) (sym k.begun_is) (subst (IsBegun h.begun) (sym d) f.begun_is);
      first = (let x = f.first in let y : first_head h.queue.items h.size ≡ first_head new.queue.items new.size = (λ i. first_head (queue i) (sym d i)) in omega (arith, x, y, c));
      alone = λ n. c ∙ f.alone (queue ∙ n) ∙ sym d;
      bound = (let x = f.bound in omega (arith, x, a, c, d, e, nb, v));
      fits = subst (λ (t : Stage). Fits t (length new.bytes.items - new.whole)) (sym k.stage_is) (subst (Fits h.stage) rest f.fits);
      short = (let x = f.short in omega (arith, x, v));
      room = (let x = f.room in let y = k.at_is in let z = k.read_is in omega (arith, x, y, z, v));
      head = λ n. subst (λ (p : HeadPart). IsPart p new.unread.items) (sym k.part_is) (subst (IsPart h.part) (sym k.unread_is) (f.head (sym k.begun_is ∙ n)));
      none = λ n. let x = f.none (sym k.begun_is ∙ n) in let z = k.read_is in (omega (arith, x.0, b, nb), omega (arith, x.1, z));
      broken = subst (λ (w : List ℕ). IsHeldOf new.fault new.read w) (sym k.unread_is) (subst (λ (n : ℕ). IsHeldOf new.fault n u) (sym k.read_is) (subst (λ (g : Option HttpFault). IsHeldOf g h.read u) (sym k.fault_is) f.broken));
    }

pub kept_window : (h new : Held) (u : List ℕ) → Kept h new u → window_of new ≡ window_with h u
kept_window h new u k = λ i. record {
  reading = record { waiting = items_in (k.queue_is i) (slice_range (k.bytes_are i) (k.from_is i) (k.whole_is i)); at = k.at_is i; begun = k.begun_is i; stage = k.stage_is i; body = drop (k.whole_is i) (k.bytes_are i); read = k.read_is i; unread = k.unread_is i; fault = k.fault_is i };
  heads = k.heads_is i + k.size_is i;
  beside = k.beside_is i;
}

pub kept_feed : (h new : Held) (u piece : List ℕ) → FillsWith h u → h.fault ≡ None → Kept h new u → FeedsWith h u piece (Err NoMemory) new
kept_feed h new u piece f sound k = record {
  fills = kept_fills h new u f k;
  feeds = (kept_window h new u k, sound);
  room = (let a = k.at_is in let b = k.read_is in let v : length new.unread.items ≡ length u = ap length k.unread_is in omega (arith, a, b, v));
}

-- what is there isn't missing
pub none_some : {A : Type 0} (o : Option A) → IsSome o → o ≡ None → ⊥
none_some o some none = cc

-- bytes that were appended are gone again
pub cut_off : (old more kept added : List ℕ) (n : ℕ) → more ≡ old ++ added → n ≡ length old → kept ≡ take n more → kept ≡ old
cut_off old more kept added n e l k = k ∙ ap (take n) e ∙ take_at old added n (sym l)
