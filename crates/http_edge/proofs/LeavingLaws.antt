-- What a window holds once the unfinished request has left it, and where it goes on.
use Rattle.std.proofs.Common.{◌≡◌, ℕ, ◌+◌, ◌-◌, ◌≤◌, ◌^◌, List, [], ◌∷◌, length, take, drop, refl, sym, ap, ◌∙◌, subst, arith, length-drop, length-take-le}
use Rattle.std.specs.Prelude.{Option, Some, None, slice_range}
use Rattle.std.specs.Vec.{vec_capacity}
use Rattle.http_edge.specs.declared.fault.HttpFault.{HttpFault}
use Rattle.http_edge.specs.declared.head.Head.{Head}
use Rattle.http_edge.specs.declared.held.Held.{Held}
use Rattle.http_edge.specs.declared.part.HeadPart.{HeadPart}
use Rattle.http_edge.specs.declared.part.HeadPart.TheVariants.{Blank}
use Rattle.http_edge.specs.declared.past.Past.{Past}
use Rattle.http_edge.specs.declared.request.HttpItem.{HttpItem}
use Rattle.http_edge.specs.declared.stage.Stage.{Stage}
use Rattle.http_edge.specs.declared.stage.Stage.TheVariants.{Plain}
use Rattle.http_edge.specs.declared.waiting.Waiting.{Waiting}
use Rattle.http_edge.specs.declared.waiting.Waiting.TheVariants.{Continue, Request}
use Rattle.http_edge.specs.Filling.{Fills, IsEmptied, IsHeldOf, reading_of}
use Rattle.http_edge.specs.Parts.{IsPart}
use Rattle.http_edge.specs.Past.{Becomes, IsPast}
use Rattle.http_edge.specs.Reading.{Reading, Reads}
use Rattle.http_edge.specs.Scanning.{IsBegun}
use Rattle.http_edge.specs.Steps.{Fits}
use Rattle.http_edge.specs.Waits.{AreHeads, bodies_of, heads_of, items_in}

none_left : (v : List ℕ) → length v ≡ 0 → v ≡ []
none_left [] e = refl
none_left (c ∷ v) e = absurd (omega (arith, e))

-- where no item waits, nothing is queued
pub no_items : (q : List Waiting) (b : List ℕ) → items_in q b ≡ [] → q ≡ []
no_items [] b e = refl
no_items (Continue ∷ q) b e = absurd (cc)
no_items (Request p ∷ q) b e = absurd (cc)

-- what stays of a window that an unfinished request leaves
pub record Leaves (h new : Held) : Type 0 where
  pub queue_is : new.queue.items ≡ []
  pub heads_is : new.heads ≡ h.heads
  pub beside_is : new.beside ≡ 0
  pub bytes_are : new.bytes.items ≡ take h.whole h.bytes.items
  pub space : 1064960 ≤ vec_capacity new.bytes
  pub from_is : new.from ≡ h.from
  pub whole_is : new.whole ≡ h.whole
  pub at_is : new.at ≡ h.at
  pub begun_is : new.begun ≡ None
  pub size_is : new.size ≡ 0
  pub stage_is : new.stage ≡ Plain 0
  pub read_is : new.read ≡ 0
  pub unread_is : new.unread.items ≡ []
  pub unread_space : 16384 ≤ vec_capacity new.unread
  pub part_is : new.part ≡ Blank
  pub fault_is : new.fault ≡ None

pub leaves_fills : (h new : Held) → Fills h → h.queue.items ≡ [] → Leaves h new → Fills new × IsEmptied h new
leaves_fills h new f none l =
    let i = f.inside in
    let nb : length new.bytes.items ≡ h.whole = ap length l.bytes_are ∙ length-take-le h.whole h.bytes.items i in
    let u : length new.unread.items ≡ 0 = ap length l.unread_is in
    let w = l.whole_is in
    let a = l.from_is in
    let heads : h.heads ≡ 0 = f.heads_are ∙ ap heads_of none in
    let e = l.heads_is in
    let bodies : h.from + bodies_of [] ≡ h.whole = subst (λ (q : List Waiting). h.from + bodies_of q ≡ h.whole) none f.bodies in
    let beside = l.beside_is in
    let size = l.size_is in
    let gone : drop new.whole new.bytes.items ≡ [] = none_left (drop new.whole new.bytes.items) (omega (arith, length-drop new.whole new.bytes.items, nb, w)) in
    let empty : length new.bytes.items - new.whole ≡ 0 = omega (arith, nb, w) in (
      record {
        space = l.space;
        unread_space = l.unread_space;
        order = omega (arith, w, a, bodies);
        inside = omega (arith, nb, w);
        bodies = subst (λ (q : List Waiting). new.from + bodies_of q ≡ new.whole) (sym l.queue_is) (omega (arith, w, a, bodies));
        heads_are = subst (λ (q : List Waiting). new.heads ≡ heads_of q) (sym l.queue_is) (omega (arith, heads, e));
        are_heads = subst AreHeads (sym l.queue_is) tt;
        begun_is = subst (λ (b : Option Head). IsBegun b new.size) (sym l.begun_is) size;
        first = omega (arith, beside);
        alone = λ q. omega (arith, beside, size);
        bound = omega (arith, e, heads, size, nb, a, bodies, u);
        fits = subst (λ (t : Stage). Fits t (length new.bytes.items - new.whole)) (sym l.stage_is) (subst (Fits (Plain 0)) (sym empty) (omega arith));
        short = omega (arith, u);
        room = (let r = f.room in let at = l.at_is in let read = l.read_is in omega (arith, r, at, read, u));
        head = λ b. subst (λ (q : HeadPart). IsPart q new.unread.items) (sym l.part_is) (subst (IsPart Blank) (sym l.unread_is) ([], refl));
        none = λ b. let read = l.read_is in (omega (arith, nb, w), read);
        broken = subst (λ (x : Option HttpFault). IsHeldOf x new.read new.unread.items) (sym l.fault_is) tt;
      },
      record {
        reading_is = λ j. record { waiting = items_in (l.queue_is j) (slice_range new.bytes.items new.from new.whole); at = l.at_is j; begun = l.begun_is j; stage = l.stage_is j; body = gone j; read = l.read_is j; unread = l.unread_is j; fault = l.fault_is j };
        none = omega (arith, e, heads, size, beside, nb, a, bodies, u);
      },
    )

-- what was read of the request
pub becomes : (h : Held) (p : Past) (head : Head) → h.queue.items ≡ [] → h.begun ≡ Some head → h.fault ≡ None → p.head ≡ head → p.at ≡ h.at → p.stage ≡ h.stage → p.held ≡ length h.bytes.items - h.whole → p.read ≡ h.read → p.unread.items ≡ h.unread.items → Becomes (reading_of h) p
becomes h p head none begun clean head_is at_is stage_is held_is read_is unread_is = (
  λ j. record { waiting = items_in (sym none j) (slice_range h.bytes.items h.from h.whole); at = at_is j; begun = (ap (λ (x : Head). Some x) head_is ∙ sym begun) j; stage = stage_is j; body = drop h.whole h.bytes.items; read = read_is j; unread = unread_is j; fault = sym clean j },
  held_is ∙ sym (length-drop h.whole h.bytes.items),
)

pub past_fits : (h : Held) (p : Past) → Fills h → Becomes (reading_of h) p → ((fed : List ℕ) × (given : List HttpItem) × Reads fed given (reading_of h)) → p.stage ≡ h.stage → p.held ≡ length h.bytes.items - h.whole → p.at ≡ h.at → p.read ≡ h.read → p.unread.items ≡ h.unread.items → IsPast p
past_fits h p f b (fed, given, reads) stage_is held_is at_is read_is unread_is =
    let u : length p.unread.items ≡ length h.unread.items = ap length unread_is in
    let r = f.room in
    let s = f.short in
    record {
      fits = subst (λ (t : Stage). Fits t p.held) (sym stage_is) (subst (Fits h.stage) (sym held_is) f.fits);
      short = omega (arith, u, s);
      room = omega (arith, r, at_is, read_is, u);
      reached = record { fed = fed; given = given; body = drop h.whole h.bytes.items; long = sym b.1; reads = subst (λ (x : Reading). Reads fed given x) (sym b.0) reads };
    }

-- the window goes on at an offset, or with a fault
pub goes_fills : (h new : Held) (at : ℕ) (fault : Option HttpFault) → Fills h → h.begun ≡ None → h.unread.items ≡ [] → at ≤ 2 ^ 40 → new ≡ record h { at = at; fault = fault } → Fills new
goes_fills h new at fault f begun unread place e = subst Fills (sym e) (record {
  space = f.space;
  unread_space = f.unread_space;
  order = f.order;
  inside = f.inside;
  bodies = f.bodies;
  heads_are = f.heads_are;
  are_heads = f.are_heads;
  begun_is = f.begun_is;
  first = f.first;
  alone = f.alone;
  bound = f.bound;
  fits = f.fits;
  short = f.short;
  room = (let n = (f.none begun).1 in let u : length h.unread.items ≡ 0 = ap length unread in omega (arith, place, n, u));
  head = f.head;
  none = f.none;
  broken = held fault;
})
  where
    held : (x : Option HttpFault) → IsHeldOf x h.read h.unread.items
    held None = tt
    held (Some x) = ((f.none begun).1, unread)
