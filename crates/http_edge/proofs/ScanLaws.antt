-- How whole requests are read one after another, and their bodies appended.
use Rattle.std.proofs.Common.{◌≡◌, ℕ, ◌+◌, ◌-◌, ◌≤◌, Bool, true, false, List, [], ◌∷◌, ◌++◌, length, take, drop, refl, sym, ap, ◌∙◌, subst, arith, length-append, length-drop, append_assoc, append-nil}
use Rattle.std.proofs.lemmas.List.{drop-append-le, take-append-le}
use Rattle.std.specs.Prelude.{Some, None, insert}
use Rattle.std.proofs.lemmas.List.{take_all, take_at, drop_at}
use Rattle.http_edge.specs.declared.fault.HttpWhy.{HttpWhy}
use Rattle.http_edge.specs.declared.next.Next.{Next}
use Rattle.http_edge.specs.declared.next.Next.TheVariants.{Whole, Part, Open, Bad}
use Rattle.http_edge.specs.declared.next.Unfinished.{Unfinished}
use Rattle.http_edge.specs.declared.request.HttpItem.{HttpItem}
use Rattle.http_edge.specs.declared.request.HttpItem.TheVariants as item
use Rattle.http_edge.specs.declared.stage.Stage.TheVariants.{Plain}
use Rattle.http_edge.specs.declared.waiting.Parked.{Parked}
use Rattle.http_edge.specs.declared.waiting.Waiting.{Waiting}
use Rattle.http_edge.specs.declared.waiting.Waiting.TheVariants.{Continue, Request}
use Rattle.http_edge.specs.HttpStream.{AreRequests, items_if}
use Rattle.http_edge.specs.Waits.{AreHeads, told_if, items_in, bodies_of, heads_of, with_body}
use Rattle.http_edge.specs.Scanning.{NextsInto, IsLeft, Scans, cleared}
use Rattle.http_edge.proofs.StreamLaws.{requests_more, scans_left, scans_bad, left_open, left_moved, no_requests}

-- two lists of items, and the bodies of both
pub items_append : (q r : List Waiting) (a b : List ℕ) → bodies_of q ≡ length a → items_in (q ++ r) (a ++ b) ≡ items_in q a ++ items_in r b
items_append [] r [] b e = refl
items_append [] r (c ∷ a) b e = absurd (omega (arith, e))
items_append (Continue ∷ q) r a b e = ap (λ (v : List HttpItem). item.Continue ∷ v) (items_append q r a b e)
items_append (Request p ∷ q) r a b e =
    let n = length-drop p.body a in
    let front : take p.body (a ++ b) ≡ take p.body a = take-append-le p.body a b (omega (arith, e)) in
    let back : drop p.body (a ++ b) ≡ drop p.body a ++ b = drop-append-le p.body a b (omega (arith, e)) in
    (λ i. item.Request (with_body p.head (front i)) ∷ items_in (q ++ r) (back i)) ∙ ap (λ (v : List HttpItem). item.Request (with_body p.head (take p.body a)) ∷ v) (items_append q r (drop p.body a) b (omega (arith, n, e)))

pub bodies_append : (q r : List Waiting) → bodies_of (q ++ r) ≡ bodies_of q + bodies_of r
bodies_append [] r = omega arith
bodies_append (Continue ∷ q) r = bodies_append q r
bodies_append (Request p ∷ q) r = let e = bodies_append q r in omega (arith, e)

pub heads_append : (q r : List Waiting) → heads_of (q ++ r) ≡ heads_of q + heads_of r
heads_append [] r = omega arith
heads_append (Continue ∷ q) r = heads_append q r
heads_append (Request p ∷ q) r = let e = heads_append q r in omega (arith, e)

pub are_append : (q r : List Waiting) → AreHeads q → AreHeads r → AreHeads (q ++ r)
are_append [] r x y = y
are_append (Continue ∷ q) r x y = are_append q r x y
are_append (Request p ∷ q) r x y = (x.0, are_append q r x.1 y)

pub told_items : (b : Bool) → items_in (told_if b) [] ≡ items_if b
told_items true = refl
told_items false = refl

pub told_bodies : (b : Bool) → bodies_of (told_if b) ≡ 0
told_bodies true = refl
told_bodies false = refl

pub told_heads : (b : Bool) → heads_of (told_if b) ≡ 0
told_heads true = refl
told_heads false = refl

pub told_are : (b : Bool) → AreHeads (told_if b)
told_are true = tt
told_are false = tt

-- whole requests are read up to a place, and these wait
pub record ScanAt (b old items : List ℕ) (queue : List Waiting) (heads from : ℕ) : Type 0 where
  pub got : List ℕ
  pub added : items ≡ old ++ got
  pub requests : AreRequests b (items_in queue got) from (drop from b)
  pub bodies : bodies_of queue ≡ length got
  pub heads_are : heads ≡ heads_of queue
  pub are_heads : AreHeads queue
  pub whole : heads + length got ≤ from
  pub inside : from ≤ length b

pub at_begin : (b old items : List ℕ) (queue : List Waiting) → items ≡ old → queue ≡ [] → ScanAt b old items queue 0 0
at_begin b old items queue e q = record {
  got = [];
  added = e ∙ sym (append-nil old);
  requests = subst (λ (v : List Waiting). AreRequests b (items_in v []) 0 b) (sym q) (no_requests b);
  bodies = ap bodies_of q;
  heads_are = sym (ap heads_of q);
  are_heads = subst AreHeads (sym q) tt;
  whole = omega arith;
  inside = omega arith;
}

-- what a look at the bytes from a place on tells
pub next_at : (b old new : List ℕ) (from : ℕ) (s t : Next) → s ≡ t → NextsInto (take (length b - from) (drop from b)) old new s → NextsInto (drop from b) old new t
next_at b old new from s t e x =
    let n = length-drop from b in
    subst (NextsInto (drop from b) old new) e (subst (λ (v : List ℕ). NextsInto v old new s) (take_all (length b - from) (drop from b) (omega (arith, n))) x)

-- the items that wait, and those told of the next request
told_more : (queue : List Waiting) (got : List ℕ) (asks : Bool) → bodies_of queue ≡ length got → items_in (queue ++ told_if asks) got ≡ items_in queue got ++ items_if asks
told_more queue got asks n =
    ap (items_in (queue ++ told_if asks)) (sym (append-nil got)) ∙ items_append queue (told_if asks) got [] n ∙ ap (λ (v : List HttpItem). items_in queue got ++ v) (told_items asks)

told_more_bodies : (queue : List Waiting) (asks : Bool) → bodies_of (queue ++ told_if asks) ≡ bodies_of queue
told_more_bodies queue asks = let e = bodies_append queue (told_if asks) in let f = told_bodies asks in omega (arith, e, f)

told_more_heads : (queue : List Waiting) (asks : Bool) → heads_of (queue ++ told_if asks) ≡ heads_of queue
told_more_heads queue asks = let e = heads_append queue (told_if asks) in let f = told_heads asks in omega (arith, e, f)

-- one more request waits
pub parked_more : (queue : List Waiting) (got more : List ℕ) (asks : Bool) (p : Parked) → bodies_of queue ≡ length got → p.body ≡ length more → items_in ((queue ++ told_if asks) ++ Request p ∷ []) (got ++ more) ≡ (items_in queue got ++ items_if asks) ++ item.Request (with_body p.head more) ∷ []
parked_more queue got more asks p n m =
    let k : bodies_of (queue ++ told_if asks) ≡ length got = told_more_bodies queue asks ∙ n in
    let one : take p.body more ≡ more = take_all p.body more (omega (arith, m)) in
    items_append (queue ++ told_if asks) (Request p ∷ []) got more k ∙ (λ i. told_more queue got asks n i ++ item.Request (with_body p.head (one i)) ∷ [])

pub scan_more : (b old items more : List ℕ) (queue now : List Waiting) (heads from used : ℕ) (p : Parked) (asks : Bool) → ScanAt b old items queue heads from → NextsInto (drop from b) items more (Whole p asks used) → now ≡ (queue ++ told_if asks) ++ Request p ∷ [] → ScanAt b old more now (heads + p.size) (from + used)
scan_more b old items more queue now heads from used p asks a n e =
    let is = n.nexts in
    let k : bodies_of now ≡ length (a.got ++ n.got) = (
    let x : bodies_of now ≡ bodies_of (queue ++ told_if asks) + (p.body + 0) = ap bodies_of e ∙ bodies_append (queue ++ told_if asks) (Request p ∷ []) in
    let y = told_more_bodies queue asks in
    let z = length-append a.got n.got in
    omega (arith, x, y, z, a.bodies, is.5)
    ) in
    let h : heads + p.size ≡ heads_of now = (
    let x : heads_of now ≡ heads_of (queue ++ told_if asks) + (p.size + 0) = ap heads_of e ∙ heads_append (queue ++ told_if asks) (Request p ∷ []) in
    let y = told_more_heads queue asks in
    let z = a.heads_are in
    omega (arith, x, y, z)
    ) in
    let sum = length-append a.got n.got in
    let room = length-drop from b in
    let inside = a.inside in
    let whole = a.whole in
    record {
      got = a.got ++ n.got;
      added = n.added ∙ ap (λ (v : List ℕ). v ++ n.got) a.added ∙ append_assoc old a.got n.got;
      requests = requests_more b (items_in queue a.got) from used (with_body p.head n.got) asks a.requests is.0 is.2 is.3 (items_in now (a.got ++ n.got)) (ap (λ (q : List Waiting). items_in q (a.got ++ n.got)) e ∙ parked_more queue a.got n.got asks p a.bodies is.5);
      bodies = k;
      heads_are = h;
      are_heads = subst AreHeads (sym e) (are_append (queue ++ told_if asks) (Request p ∷ []) (are_append queue (told_if asks) a.are_heads (told_are asks)) (is.4, tt));
      whole = (let few = is.6 in omega (arith, sum, whole, few));
      inside = (let few = is.2 in omega (arith, few, room, inside));
    }

none_of : (l : List ℕ) → length l ≡ 0 → l ≡ []
none_of [] e = refl
none_of (c ∷ l) e = absurd (omega (arith, e))

-- a request is unfinished
pub scan_part : (b old items more : List ℕ) (queue now : List Waiting) (heads from : ℕ) (p : Unfinished) → (a : ScanAt b old items queue heads from) → (n : NextsInto (drop from b) items more (Part p)) → now ≡ queue ++ told_if p.asks → Scans b a.got n.got now heads (record { from = from; begun = Some p.head; size = p.size; stage = p.stage; body = p.body; read = p.used; rest = length b - from - p.used; fault = None })
scan_part b old items more queue now heads from p a n e =
    let is = n.nexts in
    let room = length-drop from b in
    let inside = a.inside in
    let few = is.1 in
    let rest : length b - (length b - from - p.used) ≡ from + p.used = omega (arith, room, inside, few) in
    record {
      scans = scans_left b (items_in queue a.got) (items_if p.asks) (items_in now a.got) from (Some p.head) p.stage n.got p.used (drop (length b - (length b - from - p.used)) b) a.requests (ap (λ (q : List Waiting). items_in q a.got) e ∙ told_more queue a.got p.asks a.bodies) is.1 (ap (λ (k : ℕ). drop k b) rest) (left_moved b from (items_if p.asks) (Some p.head) p.stage n.got p.used is.0);
      bodies = ap bodies_of e ∙ told_more_bodies queue p.asks ∙ a.bodies;
      heads_are = a.heads_are ∙ sym (ap heads_of e ∙ told_more_heads queue p.asks);
      are_heads = subst AreHeads (sym e) (are_append queue (told_if p.asks) a.are_heads (told_are p.asks));
      begun = is.2;
      body_is = is.3;
      whole = a.whole;
      part = is.4;
      rest = omega (arith, room, inside, few);
    }

-- no head is whole
pub scan_open : (b old items more : List ℕ) (queue : List Waiting) (heads from : ℕ) → (a : ScanAt b old items queue heads from) → NextsInto (drop from b) items more Open → Scans b a.got [] queue heads (record { from = from; begun = None; size = 0; stage = Plain 0; body = 0; read = 0; rest = length b - from; fault = None })
scan_open b old items more queue heads from a n =
    let is = n.nexts in
    let inside = a.inside in
    let rest : length b - (length b - from) ≡ from + 0 = omega (arith, inside) in
    let here : drop from b ≡ drop (from + 0) b = ap (λ (k : ℕ). drop k b) (let z : from ≡ from + 0 = omega arith in z) in
    record {
      scans = scans_left b (items_in queue a.got) [] (items_in queue a.got) from None (Plain 0) [] 0 (drop (length b - (length b - from)) b) a.requests (sym (append-nil (items_in queue a.got))) (omega arith) (ap (λ (k : ℕ). drop k b) rest) (subst (IsLeft (drop from b) [] None (Plain 0) [] 0) here (left_open (drop from b) [] refl is.0 is.1));
      bodies = a.bodies;
      heads_are = a.heads_are;
      are_heads = a.are_heads;
      begun = refl;
      body_is = refl;
      whole = a.whole;
      part = omega arith;
      rest = omega (arith, inside);
    }

-- a request is at fault
pub scan_bad : (b old items more : List ℕ) (queue now : List Waiting) (heads from at : ℕ) (why : HttpWhy) (asks : Bool) → (a : ScanAt b old items queue heads from) → NextsInto (drop from b) items more (Bad why asks at) → now ≡ queue ++ told_if asks → Scans b a.got [] now heads (cleared from (record { at = from + at; why = why }))
scan_bad b old items more queue now heads from at why asks a n e =
    let is = n.nexts in
    let inside = a.inside in
    let m = length-drop (length b - 0) b in
    let none : drop (length b - 0) b ≡ [] = none_of (drop (length b - 0) b) (omega (arith, m)) in
    record {
      scans = scans_bad b (items_in queue a.got) (items_if asks) (items_in now a.got) from at why (drop (length b - 0) b) a.requests (ap (λ (q : List Waiting). items_in q a.got) e ∙ told_more queue a.got asks a.bodies) is.0 is.1 none;
      bodies = ap bodies_of e ∙ told_more_bodies queue asks ∙ a.bodies;
      heads_are = a.heads_are ∙ sym (ap heads_of e ∙ told_more_heads queue asks);
      are_heads = subst AreHeads (sym e) (are_append queue (told_if asks) a.are_heads (told_are asks));
      begun = refl;
      body_is = refl;
      whole = a.whole;
      part = omega arith;
      rest = omega (arith, inside);
    }

-- the bytes without those of a body at fault
pub cut_back : (old items more kept got : List ℕ) (n : ℕ) → more ≡ items ++ got → n ≡ length items → kept ≡ take n more → kept ≡ items
cut_back old items more kept got n e l k = k ∙ ap (take n) e ∙ take_at items got n (sym l)

-- bytes to which some were added, and then more
pub grown : (old items more got next : List ℕ) → items ≡ old ++ got → more ≡ items ++ next → more ≡ old ++ (got ++ next)
grown old items more got next e f = f ∙ ap (λ (v : List ℕ). v ++ next) e ∙ append_assoc old got next

-- a queue with those that waited before, those of some requests, and those given of the next one
pub told_after : (before now queue after : List Waiting) (asks : Bool) → now ≡ before ++ queue → after ≡ now ++ told_if asks → after ≡ before ++ (queue ++ told_if asks)
told_after before now queue after asks e f = f ∙ ap (λ (v : List Waiting). v ++ told_if asks) e ∙ append_assoc before queue (told_if asks)

-- the same, and then a request
pub parked_after : (before now queue told after : List Waiting) (asks : Bool) (p : Parked) → now ≡ before ++ queue → told ≡ now ++ told_if asks → after ≡ told ++ Request p ∷ [] → after ≡ before ++ ((queue ++ told_if asks) ++ Request p ∷ [])
parked_after before now queue told after asks p e f g = g ∙ ap (λ (v : List Waiting). v ++ Request p ∷ []) (told_after before now queue told asks e f) ∙ append_assoc before (queue ++ told_if asks) (Request p ∷ [])

-- an item put between two lists
pub insert_between : (q r : List Waiting) (w : Waiting) (n : ℕ) → n ≡ length q → insert (q ++ r) n w ≡ (q ++ w ∷ []) ++ r
insert_between q r w n e = (λ i. take_at q r n (sym e) i ++ w ∷ drop_at q r n (sym e) i) ∙ sym (append_assoc q (w ∷ []) r)

-- the items that waited before
pub queue_back : (before now kept more : List Waiting) (n : ℕ) → now ≡ before ++ more → n ≡ length before → kept ≡ take n now → kept ≡ before
queue_back before now kept more n e l k = k ∙ ap (take n) e ∙ take_at before more n (sym l)
