-- What a window counts, and what it holds once an item is given.
use Rattle.std.proofs.Common.{◌≡◌, ℕ, ◌+◌, ◌-◌, ◌<◌, ◌≤◌, List, [], ◌∷◌, ◌++◌, length, take, drop, refl, sym, ap, ◌∙◌, subst, arith, length-drop, length-take-le, append_assoc}
use Rattle.std.specs.Prelude.{Option, Some, None, slice_range}
use Rattle.std.specs.Vec.{vec_capacity}
use Rattle.std.proofs.lemmas.List.{drop-drop, drop-take, take_at}
use Rattle.std.proofs.Math.Seq.{take-add}
use Rattle.http_edge.specs.declared.fault.HttpFault.{HttpFault}
use Rattle.http_edge.specs.declared.limits.TheConstants.{ROOM}
use Rattle.http_edge.specs.declared.head.Head.{Head}
use Rattle.http_edge.specs.declared.held.Held.{Held}
use Rattle.http_edge.specs.declared.part.HeadPart.{HeadPart}
use Rattle.http_edge.specs.declared.request.HttpItem.{HttpItem}
use Rattle.http_edge.specs.declared.request.HttpItem.TheVariants as item
use Rattle.http_edge.specs.declared.stage.Stage.{Stage}
use Rattle.http_edge.specs.declared.stage.Stage.TheVariants.{Plain, Line, Data, End, Trailer}
use Rattle.http_edge.specs.declared.waiting.Parked.{Parked}
use Rattle.http_edge.specs.declared.waiting.Waiting.{Waiting}
use Rattle.http_edge.specs.declared.waiting.Waiting.TheVariants.{Continue, Request}
use Rattle.http_edge.specs.Filling.{Fills, FillsWith, IsHeldOf, IsPacked, beside_after, counted, first_head, reading_of, window_of}
use Rattle.http_edge.specs.Lending.{GivesItem}
use Rattle.http_edge.specs.Parts.{IsPart}
use Rattle.http_edge.specs.Reading as reading
use Rattle.http_edge.specs.Reading.{Reading}
use Rattle.http_edge.specs.Scanning.{IsBegun}
use Rattle.http_edge.specs.Steps.{Fits}
use Rattle.http_edge.specs.Waits.{AreHeads, IsHead, bodies_of, heads_of, items_in, with_body}
use Rattle.http_edge.specs.Window.{Window, CountsHeads, LinesUp, bodies, first_of, held_of, total}
use Rattle.http_edge.proofs.FeedLaws.{reads_waiting}
use Rattle.http_edge.proofs.HeldLaws.{alone_after, first_after, waiting_long}

bodies_in : (q : List Waiting) (b : List ℕ) → bodies_of q ≡ length b → bodies (items_in q b) ≡ bodies_of q
bodies_in [] b e = refl
bodies_in (Continue ∷ q) b e = bodies_in q b e
bodies_in (Request p ∷ q) b e =
    let n = length-take-le p.body b (omega (arith, e)) in
    let m = length-drop p.body b in
    let k = bodies_in q (drop p.body b) (omega (arith, e, m)) in
    omega (arith, n, k)

-- what is counted is what contracts see
pub counted_is : (h : Held) → Fills h → counted h ≡ held_of (window_of h)
counted_is h f =
    let o = f.order in
    let i = f.inside in
    let w = waiting_long h.bytes.items h.from h.whole o i in
    let b = f.bodies in
    let n = bodies_in h.queue.items (slice_range h.bytes.items h.from h.whole) (omega (arith, w, b)) in
    let d = length-drop h.whole h.bytes.items in
    omega (arith, o, i, b, n, d)

fits_few : (stage : Stage) (n : ℕ) → Fits stage n → n ≤ 1048576
fits_few (Plain left) n x = omega (arith, x)
fits_few Line n x = x
fits_few (Data left) n x = let k = x.1 in omega (arith, k)
fits_few End n x = x
fits_few Trailer n x = x

-- where nothing waits there is room
pub none_room : (h : Held) → Fills h → h.queue.items ≡ [] → held_of (window_of h) < 1064960
none_room h f e =
    let c = counted_is h f in
    let a = f.alone e in
    let k : h.heads ≡ 0 = f.heads_are ∙ ap heads_of e in
    let n : bodies_of h.queue.items ≡ 0 = ap bodies_of e in
    let b = f.bodies in
    let few = fits_few h.stage (length h.bytes.items - h.whole) f.fits in
    let short = f.short in
    omega (arith, c, a, k, n, b, few, short)

first_short : (q : List Waiting) (begun : Option Head) (size : ℕ) → AreHeads q → IsBegun begun size → first_head q size ≤ 16384
first_short [] None size are is = omega (arith, is)
first_short [] (Some head) size are is = is.3
first_short (Continue ∷ q) begun size are is = first_short q None 0 are refl
first_short (Request p ∷ q) begun size are is = are.0.3

first_few : (q : List Waiting) (size : ℕ) → first_head q size ≤ heads_of q + size
first_few [] size = omega arith
first_few (Continue ∷ q) size = let n = first_few q 0 in omega (arith, n)
first_few (Request p ∷ q) size = omega arith

-- what is kept beside is at most 16,384 bytes, and part of the heads
pub beside_short : (h : Held) (u : List ℕ) → FillsWith h u → (h.beside ≤ 16384) × (h.beside ≤ h.heads + h.size)
beside_short h u f =
    let a = first_short h.queue.items h.begun h.size f.are_heads f.begun_is in
    let b = first_few h.queue.items h.size in
    let c = f.first in
    let d = f.heads_are in
    (omega (arith, a, c), omega (arith, b, c, d))

zero_head : (q : List Waiting) (s : ℕ) → first_head q 0 ≤ first_head q s
zero_head [] s = omega arith
zero_head (Continue ∷ q) s = omega arith
zero_head (Request p ∷ q) s = omega arith

lines_up : (q : List Waiting) (b : List ℕ) (begun : Option Head) (size : ℕ) → AreHeads q → IsBegun begun size → (ns : List ℕ) × LinesUp (items_in q b) begun ns × (heads_of q + size ≡ total ns) × (first_head q size ≤ first_of ns)
lines_up [] b None size are is = let e : size ≡ 0 = is in ([], refl, omega (arith, e), omega (arith, e))
lines_up [] b (Some head) size are is = (size ∷ [], (size, is, refl), omega arith, omega arith)
lines_up (Continue ∷ q) b begun size are is =
    let x = lines_up q b begun size are is in
    let z = zero_head q size in
    let few = x.3 in
    (x.0, x.1, x.2, omega (arith, z, few))
lines_up (Request p ∷ q) b begun size are is =
    let x = lines_up q (drop p.body b) begun size are.1 is in
    let sum = x.2 in
    (p.size ∷ x.0, (p.size, x.0, are.0, refl, x.1), omega (arith, sum), omega arith)

pub counts : (h : Held) → Fills h → CountsHeads (window_of h)
counts h f =
    let x = lines_up h.queue.items (slice_range h.bytes.items h.from h.whole) h.begun h.size f.are_heads f.begun_is in
    let k = f.heads_are in
    let sum = x.2 in
    let few = x.3 in
    let first = f.first in
    (x.0, x.1, omega (arith, k, sum), omega (arith, few, first))

-- but for what waits, all is as before
pub record Pops (old new : Held) : Type 0 where
  pub bytes_are : new.bytes.items ≡ old.bytes.items
  pub space : 1064960 ≤ vec_capacity new.bytes
  pub whole_is : new.whole ≡ old.whole
  pub at_is : new.at ≡ old.at
  pub begun_is : new.begun ≡ old.begun
  pub size_is : new.size ≡ old.size
  pub stage_is : new.stage ≡ old.stage
  pub read_is : new.read ≡ old.read
  pub unread_is : new.unread.items ≡ old.unread.items
  pub unread_space : 16384 ≤ vec_capacity new.unread
  pub part_is : new.part ≡ old.part
  pub fault_is : new.fault ≡ old.fault

-- what waits now fits the rest
pub record Popped (new : Held) (whole size : ℕ) : Type 0 where
  pub order : new.from ≤ whole
  pub bodies : new.from + bodies_of new.queue.items ≡ whole
  pub heads_are : new.heads ≡ heads_of new.queue.items
  pub are_heads : AreHeads new.queue.items
  pub first : new.beside ≤ first_head new.queue.items size
  pub alone : new.queue.items ≡ [] → new.beside ≡ size

pub popped_fills : (old new : Held) → Fills old → Pops old new → Popped new old.whole old.size → new.heads + old.size + (length old.bytes.items - new.from) + length old.unread.items ≤ 1064960 + new.beside → Fills new
popped_fills old new f p x bound =
    let nb : length new.bytes.items ≡ length old.bytes.items = ap length p.bytes_are in
    let u : length new.unread.items ≡ length old.unread.items = ap length p.unread_is in
    let w = p.whole_is in
    let s = p.size_is in
    let rest : length old.bytes.items - old.whole ≡ length new.bytes.items - new.whole = omega (arith, nb, w) in
    record {
      space = p.space;
      unread_space = p.unread_space;
      order = (let a = x.order in omega (arith, a, w));
      inside = (let a = f.inside in omega (arith, a, w, nb));
      bodies = x.bodies ∙ sym w;
      heads_are = x.heads_are;
      are_heads = x.are_heads;
      begun_is = subst (λ (g : Option Head). IsBegun g new.size) (sym p.begun_is) (subst (IsBegun old.begun) (sym s) f.begun_is);
      first = subst (λ (n : ℕ). new.beside ≤ first_head new.queue.items n) (sym s) x.first;
      alone = λ n. x.alone n ∙ sym s;
      bound = omega (arith, bound, s, nb, u);
      fits = subst (λ (t : Stage). Fits t (length new.bytes.items - new.whole)) (sym p.stage_is) (subst (Fits old.stage) rest f.fits);
      short = (let a = f.short in omega (arith, a, u));
      room = (let a = f.room in let b = p.at_is in let c = p.read_is in omega (arith, a, b, c, u));
      head = λ n. subst (λ (q : HeadPart). IsPart q new.unread.items) (sym p.part_is) (subst (IsPart old.part) (sym p.unread_is) (f.head (sym p.begun_is ∙ n)));
      none = λ n. let a = f.none (sym p.begun_is ∙ n) in let c = p.read_is in (omega (arith, a.0, w, nb), omega (arith, a.1, c));
      broken = subst (λ (v : List ℕ). IsHeldOf new.fault new.read v) (sym p.unread_is) (subst (λ (n : ℕ). IsHeldOf new.fault n old.unread.items) (sym p.read_is) (subst (λ (g : Option HttpFault). IsHeldOf g old.read old.unread.items) (sym p.fault_is) f.broken));
    }

-- what is read stays so, once the first item is given
gives : (old new : Window) (i : HttpItem) → old.reading.waiting ≡ i ∷ new.reading.waiting → new.reading ≡ record old.reading { waiting = new.reading.waiting } → held_of new ≤ held_of old → GivesItem old i new
gives old new i first same less = record {
  first = first;
  same = same;
  at_is = ap (λ (r : Reading). r.at) same;
  come_is = ap reading.come same;
  less = less;
  reads = λ fed given x. subst (reading.Reads fed (given ++ i ∷ [])) (sym same) (reads_waiting fed (given ++ old.reading.waiting) ((given ++ i ∷ []) ++ new.reading.waiting) old.reading new.reading.waiting old.reading.fault (ap (λ (v : List HttpItem). given ++ v) first ∙ sym (append_assoc given (i ∷ []) new.reading.waiting)) x);
}

same_reading : (old new : Held) → Pops old new → reading_of new ≡ record (reading_of old) { waiting = (reading_of new).waiting }
same_reading old new p = λ i. record { waiting = (reading_of new).waiting; at = p.at_is i; begun = p.begun_is i; stage = p.stage_is i; body = drop (p.whole_is i) (p.bytes_are i); read = p.read_is i; unread = p.unread_is i; fault = p.fault_is i }

zero_after : (q : List Waiting) (b s : ℕ) → b ≤ first_head q 0 → (beside_after q b s ≤ first_head q s) × (b ≤ beside_after q b s)
zero_after [] b s few = (omega arith, omega (arith, few))
zero_after (Continue ∷ q) b s few = (few, omega arith)
zero_after (Request p ∷ q) b s few = (few, omega arith)

pub give_continue : (old new : Held) → Fills old → Pops old new → old.queue.items ≡ Continue ∷ new.queue.items → new.from ≡ old.from → new.heads ≡ old.heads → new.beside ≡ beside_after new.queue.items old.beside old.size → Fills new × GivesItem (window_of old) item.Continue (window_of new)
give_continue old new f p e from heads beside =
    let first : old.beside ≤ first_head new.queue.items 0 = subst (λ (q : List Waiting). old.beside ≤ first_head q old.size) e f.first in
    let z = zero_after new.queue.items old.beside old.size first in
    let z0 = z.0 in
    let z1 = z.1 in
    let q : bodies_of old.queue.items ≡ bodies_of new.queue.items = ap bodies_of e in
    let bound = f.bound in
    let b = f.bodies in
    let n : Fills new = popped_fills old new f p (record {
      order = (let a = f.order in omega (arith, a, from));
      bodies = omega (arith, b, q, from);
      heads_are = heads ∙ f.heads_are ∙ ap heads_of e;
      are_heads = subst AreHeads e f.are_heads;
      first = omega (arith, z0, beside);
      alone = λ g. beside ∙ alone_after new.queue.items old.beside old.size g;
    }) (omega (arith, bound, from, heads, beside, z1)) in
    let w = p.whole_is in
    let waiting : (reading_of old).waiting ≡ item.Continue ∷ (reading_of new).waiting = ap (λ (v : List Waiting). items_in v (slice_range old.bytes.items old.from old.whole)) e ∙ ap (λ (v : List HttpItem). item.Continue ∷ v) (λ i. items_in new.queue.items (slice_range (sym p.bytes_are i) (sym from i) (sym w i))) in
    let c = counted_is old f in
    let d = counted_is new n in
    let nb : length new.bytes.items ≡ length old.bytes.items = ap length p.bytes_are in
    let u : length new.unread.items ≡ length old.unread.items = ap length p.unread_is in
    let s = p.size_is in
    (n, gives (window_of old) (window_of new) item.Continue waiting (same_reading old new p) (omega (arith, c, d, nb, u, s, from, heads, beside, z1)))

-- a part of a part
part_first : (b : List ℕ) (from n whole : ℕ) → from + n ≤ whole → whole ≤ length b → (take n (slice_range b from whole) ≡ slice_range b from (from + n)) × (drop n (slice_range b from whole) ≡ slice_range b (from + n) whole)
part_first b from n whole o i =
    let x = drop from b in
    let m = whole - (from + n) in
    let k : whole - from ≡ n + m = omega (arith, o) in
    let j : n ≡ from + n - from = omega arith in
    let l : length (take n x) ≡ n = (let d = length-drop from b in length-take-le n x (omega (arith, d, o, i))) in (
      ap (λ (v : ℕ). take n (take v x)) k ∙ ap (take n) (take-add n m x) ∙ take_at (take n x) (take m (drop n x)) n l ∙ ap (λ (v : ℕ). take v x) j,
      ap (λ (v : ℕ). drop n (take v x)) k ∙ drop-take n m x ∙ ap (take m) (drop-drop n from b),
    )

pub give_request : (old new : Held) (p : Parked) → Fills old → Pops old new → old.queue.items ≡ Request p ∷ new.queue.items → new.from ≡ old.from + p.body → new.heads ≡ old.heads - p.size → new.beside ≡ beside_after new.queue.items 0 old.size → new.lent ≡ p.head → Fills new × (old.from ≤ old.from + p.body) × (old.from + p.body ≤ length new.bytes.items) × GivesItem (window_of old) (item.Request (with_body new.lent (slice_range new.bytes.items old.from (old.from + p.body)))) (window_of new)
give_request old new p f s e from heads beside lent =
    let few : old.beside ≤ p.size = subst (λ (q : List Waiting). old.beside ≤ first_head q old.size) e f.first in
    let q : bodies_of old.queue.items ≡ p.body + bodies_of new.queue.items = ap bodies_of e in
    let k : old.heads ≡ p.size + heads_of new.queue.items = f.heads_are ∙ ap heads_of e in
    let are : IsHead p.head p.size × AreHeads new.queue.items = subst AreHeads e f.are_heads in
    let b = f.bodies in
    let i = f.inside in
    let bound = f.bound in
    let first : new.beside ≤ first_head new.queue.items old.size = subst (λ (n : ℕ). n ≤ first_head new.queue.items old.size) (sym beside) (first_after new.queue.items 0 old.size (omega arith)) in
    let n : Fills new = popped_fills old new f s (record {
      order = omega (arith, b, q, from);
      bodies = omega (arith, b, q, from);
      heads_are = omega (arith, heads, k);
      are_heads = are.1;
      first = first;
      alone = λ g. beside ∙ alone_after new.queue.items 0 old.size g;
    }) (omega (arith, bound, from, heads, k, few)) in
    let part = part_first old.bytes.items old.from p.body old.whole (omega (arith, b, q)) i in
    let w = s.whole_is in
    let nb : length new.bytes.items ≡ length old.bytes.items = ap length s.bytes_are in
    let given : HttpItem = item.Request (with_body new.lent (slice_range new.bytes.items old.from (old.from + p.body))) in
    let waiting : (reading_of old).waiting ≡ given ∷ (reading_of new).waiting = (
    ap (λ (v : List Waiting). items_in v (slice_range old.bytes.items old.from old.whole)) e
    ∙ (λ j. item.Request (with_body (sym lent j) (part.0 j)) ∷ items_in new.queue.items (part.1 j))
    ∙ (λ j. item.Request (with_body new.lent (slice_range (sym s.bytes_are j) old.from (old.from + p.body))) ∷ items_in new.queue.items (slice_range (sym s.bytes_are j) (sym from j) (sym w j)))
    ) in
    let c = counted_is old f in
    let d = counted_is new n in
    let u : length new.unread.items ≡ length old.unread.items = ap length s.unread_is in
    let z = s.size_is in
    (n, omega arith, omega (arith, b, q, i, nb), gives (window_of old) (window_of new) given waiting (same_reading old new s) (omega (arith, c, d, nb, u, z, from, heads, k, few)))

-- once the bytes of what was given are gone, contracts see the same
pub packed_window : (old new : Held) → Fills old → IsPacked old new → window_of new ≡ window_of old
packed_window old new f p =
    let b = old.bytes.items in
    let n : old.whole - old.from - 0 ≡ old.whole - old.from = omega arith in
    let m : old.from + (old.whole - old.from) ≡ old.whole = (let o = f.order in omega (arith, o)) in
    let front : slice_range new.bytes.items 0 (old.whole - old.from) ≡ slice_range b old.from old.whole = ap (λ (v : List ℕ). slice_range v 0 (old.whole - old.from)) p.bytes_are ∙ ap (λ (k : ℕ). take k (drop old.from b)) n in
    let back : drop (old.whole - old.from) new.bytes.items ≡ drop old.whole b = ap (drop (old.whole - old.from)) p.bytes_are ∙ drop-drop (old.whole - old.from) old.from b ∙ ap (λ (k : ℕ). drop k b) m in
    ap window_of p.same ∙ (λ i. record {
      reading = record { waiting = items_in old.queue.items (front i); at = old.at; begun = old.begun; stage = old.stage; body = back i; read = old.read; unread = old.unread.items; fault = old.fault };
      heads = old.heads + old.size;
      beside = old.beside;
    })

-- what is held, over other memory that has the same
pub refilled : (old new : Held) → Fills old → new ≡ record old { queue = new.queue; bytes = new.bytes; joined = new.joined } → new.queue.items ≡ old.queue.items → new.bytes.items ≡ old.bytes.items → ROOM ≤ vec_capacity new.bytes → Fills new
refilled old new f same q is enough =
    let over = sym is in
    let line = sym q in
    subst Fills (sym same) (record {
      space = enough;
      unread_space = f.unread_space;
      order = f.order;
      inside = subst (λ (b : List ℕ). old.whole ≤ length b) over f.inside;
      bodies = subst (λ (w : List Waiting). old.from + bodies_of w ≡ old.whole) line f.bodies;
      heads_are = subst (λ (w : List Waiting). old.heads ≡ heads_of w) line f.heads_are;
      are_heads = subst AreHeads line f.are_heads;
      begun_is = f.begun_is;
      first = subst (λ (w : List Waiting). old.beside ≤ first_head w old.size) line f.first;
      alone = subst (λ (w : List Waiting). w ≡ [] → old.beside ≡ old.size) line f.alone;
      bound = subst (λ (b : List ℕ). old.heads + old.size + (length b - old.from) + length old.unread.items ≤ ROOM + old.beside) over f.bound;
      fits = subst (λ (b : List ℕ). Fits old.stage (length b - old.whole)) over f.fits;
      short = f.short;
      room = f.room;
      head = f.head;
      none = subst (λ (b : List ℕ). old.begun ≡ None → (old.whole ≡ length b) × (old.read ≡ 0)) over f.none;
      broken = f.broken;
    })

-- contracts see the same
pub refilled_window : (old new : Held) → new ≡ record old { queue = new.queue; bytes = new.bytes; joined = new.joined } → new.queue.items ≡ old.queue.items → new.bytes.items ≡ old.bytes.items → window_of new ≡ window_of old
refilled_window old new same q is = ap window_of same ∙ (λ i. record {
  reading = record { waiting = items_in (q i) (slice_range (is i) old.from old.whole); at = old.at; begun = old.begun; stage = old.stage; body = drop old.whole (is i); read = old.read; unread = old.unread.items; fault = old.fault };
  heads = old.heads + old.size;
  beside = old.beside;
})
