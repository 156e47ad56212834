-- What a head and what is gathered after it come to.
use Rattle.std.proofs.Common.{append-nil, false, ◌≡◌, ℕ, ◌+◌, ◌-◌, ◌<◌, ◌≤◌, List, [], ◌∷◌, ◌++◌, length, take, drop, refl, sym, ap, ◌∙◌, subst, arith, inr, length-drop, length-take-le, take-append-drop}
use Rattle.std.specs.Prelude.{Some}
use Rattle.std.proofs.lemmas.List.{drop-drop, take_all}
use Rattle.std.proofs.Math.Seq.{take-add, take-append_seam}
use Rattle.httparse.specs.Grammar.{RequestHead, print_request}
use Rattle.http_edge.specs.declared.fault.HttpWhy.{HttpWhy}
use Rattle.http_edge.specs.declared.fault.HttpWhy.TheVariants.{BadHead, BadLength, TooLong, BadChunk}
use Rattle.http_edge.specs.declared.gather.Ending.TheVariants as ending
use Rattle.http_edge.specs.declared.gather.Gathered.{Gathered}
use Rattle.http_edge.specs.declared.head.Head.{Head}
use Rattle.http_edge.specs.declared.next.Next.TheVariants as next
use Rattle.http_edge.specs.Heads.{IsOpenHead}
use Rattle.http_edge.specs.declared.look.Opening.{Opening}
use Rattle.http_edge.specs.declared.request.HttpRequest.{HttpRequest}
use Rattle.http_edge.specs.declared.request.HttpItem.{HttpItem}
use Rattle.http_edge.specs.declared.request.HttpItem.TheVariants.{Request}
use Rattle.http_edge.specs.declared.stage.Stage.{Stage}
use Rattle.http_edge.specs.Lengths.{size_of, asks}
use Rattle.http_edge.specs.Bodies.{Reaches, IsBody, Awaits}
use Rattle.http_edge.specs.HttpStream.{BeginsWith, IsRequest, IsFault, IsOpen, items_if, items_of, told_of}
use Rattle.http_edge.specs.Reading.{head_of}
use Rattle.http_edge.specs.Steps.{Fits, IsOpening}
use Rattle.http_edge.specs.Gathering.{Gathers, GathersTo}
use Rattle.http_edge.specs.Scanning.{IsLeft, NextsInto, place_of}
use Rattle.http_edge.specs.Waits.{IsHead, with_body}

-- a head and a body's text are a request
pub is_request : (b : List ℕ) (h : RequestHead) (head : Head) (text x z body : List ℕ) → BeginsWith b h text → head ≡ head_of h → IsBody (size_of h) body x → z ≡ print_request h ++ x → IsRequest (with_body head body) z
is_request b h head text x z body begins e is f = record {
  head = h;
  text = x;
  begins = record { holds = record { reads = (begins.holds.reads.0, f); few = begins.holds.few }; short = begins.short };
  request_is = ap (λ (k : Head). with_body k body) e;
  body = is;
}

-- what is told of a request is told of its head
pub told_first : (h : RequestHead) (head : Head) (body : List ℕ) (told : List HttpItem) → head ≡ head_of h → told ≡ told_of h → items_of (with_body head body) ≡ told ++ Request (with_body head body) ∷ []
told_first h head body told e f = ap (λ (v : List HttpItem). v ++ Request (with_body head body) ∷ []) (ap (λ (k : Head). items_if (asks k.minor k.fields)) e ∙ sym f)

-- what is after a head that has come to an open body
pub is_open : (b : List ℕ) (h : RequestHead) (front unread body : List ℕ) (stage : Stage) (told : List HttpItem) → BeginsWith b h (front ++ unread) → Reaches (size_of h) stage body front → Awaits stage unread → told ≡ told_of h → IsOpen b told
is_open b h front unread body stage told begins r w e = inr (h, front ++ unread, begins, record { stage = stage; body = body; front = front; unread = unread; reaches = r; awaits = w; text_is = refl }, e)

-- how far after a head its window goes
opening_rest : (b : List ℕ) (o : Opening) (used : ℕ) → o.len ≤ length b → drop used (drop o.len b) ≡ drop (o.len + used) b
opening_rest b o used inside = drop-drop used o.len b

pub window : (b : List ℕ) (len : ℕ) → take (length b - len) (drop len b) ≡ drop len b
window b len = let n = length-drop len b in take_all (length b - len) (drop len b) (omega (arith, n))

front_of : (b : List ℕ) (h : RequestHead) (text : List ℕ) (len used : ℕ) → BeginsWith b h text → len ≡ length (print_request h) → len ≤ length b → take (len + used) b ≡ print_request h ++ take used (drop len b)
front_of b h text len used begins e inside =
    let head : take len b ≡ print_request h = (λ i. take (e i) (begins.holds.reads.1 i)) ∙ take_whole (print_request h) text in
    take-add len used b ∙ ap (λ (v : List ℕ). v ++ take used (drop len b)) head
  where
    take_whole : (x y : List ℕ) → take (length x) (x ++ y) ≡ x
    take_whole x y = take-append_seam x y

pub next_whole : (b : List ℕ) (o : Opening) (data_read : List ℕ) (used : ℕ) → IsOpening b o → GathersTo o.stage 0 (drop o.len b) data_read used ending.Whole → (r : HttpRequest) → r ≡ with_body o.head data_read → IsRequest r (take (o.len + used) b) × (0 < o.len + used) × (o.len + used ≤ length b) × (items_of r ≡ items_if o.asks ++ Request r ∷ [])
next_whole b o data_read used i (few, is) r e =
    let h = i.head in
    let is_body = is (size_of h) [] [] refl i.reaches in
    let room = length-drop o.len b in
    let inside = i.inside in
    let some = i.some in
    let told : items_if o.asks ≡ told_of h = ap items_if (i.asks_is ∙ ap (λ (k : Head). asks k.minor k.fields) i.head_is) in (
      subst (λ (q : HttpRequest). IsRequest q (take (o.len + used) b)) (sym e) (is_request b h o.head (drop o.len b) (take used (drop o.len b)) (take (o.len + used) b) data_read i.begins i.head_is is_body (front_of b h (drop o.len b) o.len used i.begins i.len_is inside)),
      omega (arith, some),
      omega (arith, room, few, inside),
      subst (λ (q : HttpRequest). items_of q ≡ items_if o.asks ++ Request q ∷ []) (sym e) (told_first h o.head data_read (items_if o.asks) i.head_is told),
    )

pub next_part : (b : List ℕ) (o : Opening) (data_read : List ℕ) (used : ℕ) (now : Stage) → IsOpening b o → GathersTo o.stage 0 (drop o.len b) data_read used (ending.Open now) → IsLeft b (items_if o.asks) (Some o.head) now data_read (o.len + used) (drop (o.len + used) b) × (o.len + used ≤ length b)
next_part b o data_read used now i (brings, awaits, short) =
    let h = i.head in
    let w = drop o.len b in
    let room = length-drop o.len b in
    let few = brings.inside in
    let inside = i.inside in
    let r = brings.reaches (size_of h) [] [] refl i.reaches in
    let rest : drop used w ≡ drop (o.len + used) b = opening_rest b o used inside in
    let begins : BeginsWith b h (take used w ++ drop (o.len + used) b) = subst (BeginsWith b h) (sym (take-append-drop used w) ∙ ap (λ (v : List ℕ). take used w ++ v) rest) i.begins in
    let waits : Awaits now (drop (o.len + used) b) = subst (Awaits now) rest awaits in
    let told : items_if o.asks ≡ told_of h = ap items_if (i.asks_is ∙ ap (λ (k : Head). asks k.minor k.fields) i.head_is) in
    let n : length (take used w) ≡ used = length-take-le used w few in
    let none : 0 + length data_read ≡ length data_read = omega arith in
    let read : o.len + used ≡ length (print_request h) + length (take used w) = omega (arith, n, i.len_is) in (
      record {
        going = is_open b h (take used w) (drop (o.len + used) b) data_read now (items_if o.asks) begins r waits told;
        holds = (h, take used w, begins, i.head_is, r, waits, read);
        fits = subst (Fits now) none brings.fits;
        short = subst (λ (v : List ℕ). length v < 16384) rest short;
      },
      omega (arith, room, few, inside),
    )

pub next_bad : (b : List ℕ) (o : Opening) (data_read : List ℕ) (used : ℕ) (why : HttpWhy) → IsOpening b o → GathersTo o.stage 0 (drop o.len b) data_read used (ending.Bad why) → IsFault b why (place_of why (o.len + used)) (items_if o.asks) × (place_of why (o.len + used) ≤ length b)
next_bad b o data_read used BadHead i g = absurd g
next_bad b o data_read used BadLength i g = absurd g
next_bad b o data_read used TooLong i (few, is) =
    let h = i.head in
    let told : items_if o.asks ≡ told_of h = ap items_if (i.asks_is ∙ ap (λ (k : Head). asks k.minor k.fields) i.head_is) in
    (inr (h, drop o.len b, i.begins, is (size_of h) [] [] refl i.reaches, refl, told), omega arith)
next_bad b o data_read used BadChunk i (few, is) =
    let h = i.head in
    let bad = is (size_of h) [] [] refl i.reaches in
    let room = length-drop o.len b in
    let inside = i.inside in
    let told : items_if o.asks ≡ told_of h = ap items_if (i.asks_is ∙ ap (λ (k : Head). asks k.minor k.fields) i.head_is) in
    ((h, drop o.len b, 0 + used, i.begins, bad.0, bad.1, omega (arith, i.len_is), told), omega (arith, room, few, inside))

is_head : (b : List ℕ) (o : Opening) → IsOpening b o → IsHead o.head o.len
is_head b o i = (i.head, i.head_is, i.len_is, (let n = i.begins.short in let m = i.len_is in omega (arith, n, m)))

-- what is after a head, where the body's bytes are appended
pub into_whole : (b old new after : List ℕ) (o : Opening) (g : Gathered) (body : ℕ) → IsOpening b o → after ≡ drop o.len b → (x : Gathers o.stage 0 after old new g) → g.end ≡ ending.Whole → body ≡ length x.got → NextsInto b old new (next.Whole (record { head = o.head; size = o.len; body = body }) o.asks (o.len + g.used))
into_whole b old new after o g body i e x w n =
    let y : GathersTo o.stage 0 (drop o.len b) x.got g.used ending.Whole = subst (λ (v : List ℕ). GathersTo o.stage 0 v x.got g.used ending.Whole) e (subst (GathersTo o.stage 0 after x.got g.used) w x.gathers) in
    let z = next_whole b o x.got g.used i y (with_body o.head x.got) refl in
    let few = x.few in
    let inside = z.2 in
    record { got = x.got; added = x.added; few = omega (arith, few, inside); nexts = (z.0, z.1, z.2, z.3, is_head b o i, n, omega (arith, few)) }

pub into_part : (b old new after : List ℕ) (o : Opening) (g : Gathered) (body : ℕ) (stage : Stage) → IsOpening b o → after ≡ drop o.len b → (x : Gathers o.stage 0 after old new g) → g.end ≡ ending.Open stage → body ≡ length x.got → NextsInto b old new (next.Part (record { head = o.head; size = o.len; asks = o.asks; body = body; stage = stage; used = o.len + g.used }))
into_part b old new after o g body stage i e x w n =
    let y : GathersTo o.stage 0 (drop o.len b) x.got g.used (ending.Open stage) = subst (λ (v : List ℕ). GathersTo o.stage 0 v x.got g.used (ending.Open stage)) e (subst (GathersTo o.stage 0 after x.got g.used) w x.gathers) in
    let z = next_part b o x.got g.used stage i y in
    let few = x.few in
    let inside = z.1 in
    record { got = x.got; added = x.added; few = omega (arith, few, inside); nexts = (z.0, z.1, is_head b o i, n, omega (arith, few)) }

pub into_bad : (b old new after : List ℕ) (o : Opening) (g : Gathered) (why : HttpWhy) (at : ℕ) → IsOpening b o → after ≡ drop o.len b → (x : Gathers o.stage 0 after old new g) → g.end ≡ ending.Bad why → at ≡ place_of why (o.len + g.used) → NextsInto b old new (next.Bad why o.asks at)
into_bad b old new after o g why at i e x w p =
    let y : GathersTo o.stage 0 (drop o.len b) x.got g.used (ending.Bad why) = subst (λ (v : List ℕ). GathersTo o.stage 0 v x.got g.used (ending.Bad why)) e (subst (GathersTo o.stage 0 after x.got g.used) w x.gathers) in
    let z = next_bad b o x.got g.used why i y in
    let few = x.few in
    let used = used_inside o.stage (drop o.len b) x.got why g.used y in
    let n = length-drop o.len b in
    record { got = x.got; added = x.added; few = omega (arith, few, used, n); nexts = subst (λ (m : ℕ). IsFault b why m (items_if o.asks) × (m ≤ length b)) (sym p) z }
  where
    used_inside : (stage : Stage) (v got : List ℕ) (why : HttpWhy) (used : ℕ) → GathersTo stage 0 v got used (ending.Bad why) → used ≤ length v
    used_inside stage v got BadHead used y = absurd y
    used_inside stage v got BadLength used y = absurd y
    used_inside stage v got TooLong used y = y.0
    used_inside stage v got BadChunk used y = y.0

-- where no head is whole nothing is appended
pub into_open : (b old : List ℕ) → (length b < 16384) → IsOpenHead b → NextsInto b old old next.Open
into_open b old short head = record { got = []; added = sym (append-nil old); few = omega arith; nexts = (short, head, refl) }

pub into_fault : (b old : List ℕ) (why : HttpWhy) → IsFault b why 0 [] → NextsInto b old old (next.Bad why false 0)
into_fault b old why x = record { got = []; added = sym (append-nil old); few = omega arith; nexts = (x, omega arith) }
