-- What a head and what is brought after it come to.
use Rattle.std.proofs.Common.{◌≡◌, ℕ, ◌+◌, ◌-◌, ◌<◌, ◌≤◌, List, [], ◌++◌, length, take, drop, refl, sym, ap, ◌∙◌, subst, arith, inr, length-drop, length-take-le, take-append-drop}
use Rattle.std.specs.Prelude.{Some}
use Rattle.std.proofs.lemmas.List.{drop-drop}
use Rattle.std.proofs.Math.Seq.{take-add, take-append_seam}
use Rattle.httparse.specs.Grammar.{ResponseHead, print_response, status_code}
use Rattle.http_edge.specs.declared.fault.HttpWhy.{HttpWhy}
use Rattle.http_edge.specs.declared.fault.HttpWhy.TheVariants.{BadHead, BadLength, TooLong, BadChunk}
use Rattle.http_edge.specs.declared.gather.Ending.{Ending}
use Rattle.http_edge.specs.declared.gather.Ending.TheVariants as ending
use Rattle.http_edge.specs.declared.stage.Stage.{Stage}
use Rattle.http_edge.specs.Bodies.{IsBody, Reaches, Awaits}
use Rattle.http_edge.specs.Steps.{Fits}
use Rattle.http_edge.specs.Gathering.{GathersTo}
use Rattle.http_edge.specs.Scanning.{place_of}
use Rattle.http_edge.proofs.NextLaws.{window}
use Rattle.http_reply.specs.declared.look.Opening.{Opening}
use Rattle.http_reply.specs.Heads.{BeginsWith}
use Rattle.http_reply.specs.Sizes.{size_of}
use Rattle.http_reply.specs.ReplyStream.{IsReply, IsFault, IsOpen}
use Rattle.http_reply.specs.Steps.{IsOpening}
use Rattle.http_reply.specs.Scanning.{IsLeft}

-- a head and a body's text are a reply
pub is_reply : (b : List ℕ) (h : ResponseHead) (status : ℕ) (text x z body : List ℕ) (at : ℕ) → BeginsWith b h text → status ≡ status_code h → IsBody (size_of h) body x → z ≡ print_response h ++ x → IsReply (record { status = status; body = body; at = at }) z
is_reply b h status text x z body at begins e is f = record {
  head = h;
  text = x;
  begins = record { holds = record { reads = (begins.holds.reads.0, f); few = begins.holds.few }; short = begins.short };
  reply_is = λ i. record { status = e i; body = body; at = at };
  body = is;
}

-- what is after a head that has come to an open body
pub is_open : (b : List ℕ) (h : ResponseHead) (front unread body : List ℕ) (stage : Stage) → BeginsWith b h (front ++ unread) → Reaches (size_of h) stage body front → Awaits stage unread → IsOpen b
is_open b h front unread body stage begins r w = inr (h, front ++ unread, begins, record { stage = stage; body = body; front = front; unread = unread; reaches = r; awaits = w; text_is = refl })

front_of : (b : List ℕ) (h : ResponseHead) (text : List ℕ) (len used : ℕ) → BeginsWith b h text → len ≡ length (print_response h) → take (len + used) b ≡ print_response h ++ take used (drop len b)
front_of b h text len used begins e =
    let head : take len b ≡ print_response h = (λ i. take (e i) (begins.holds.reads.1 i)) ∙ take-append_seam (print_response h) text in
    take-add len used b ∙ ap (λ (v : List ℕ). v ++ take used (drop len b)) head

pub next_whole : (b : List ℕ) (o : Opening) (got : List ℕ) (used : ℕ) → IsOpening b o → GathersTo o.stage 0 (drop o.len b) got used ending.Whole → ((at : ℕ) → IsReply (record { status = o.status; body = got; at = at }) (take (o.len + used) b)) × (0 < o.len + used) × (o.len + used ≤ length b)
next_whole b o got used i (few, is) =
    let h = i.head in
    let is_body = is (size_of h) [] [] refl i.reaches in
    let room = length-drop o.len b in
    let inside = i.inside in
    let some = i.some in (
      λ at. is_reply b h o.status (drop o.len b) (take used (drop o.len b)) (take (o.len + used) b) got at i.begins i.status_is is_body (front_of b h (drop o.len b) o.len used i.begins i.len_is),
      omega (arith, some),
      omega (arith, room, few, inside),
    )

pub next_part : (b : List ℕ) (o : Opening) (got : List ℕ) (used : ℕ) (now : Stage) → IsOpening b o → GathersTo o.stage 0 (drop o.len b) got used (ending.Open now) → IsLeft b (Some o.status) now got (o.len + used) (drop (o.len + used) b) × (o.len + used ≤ length b)
next_part b o got used now i (brings, awaits, short) =
    let h = i.head in
    let w = drop o.len b in
    let room = length-drop o.len b in
    let few = brings.inside in
    let inside = i.inside in
    let r = brings.reaches (size_of h) [] [] refl i.reaches in
    let rest : drop used w ≡ drop (o.len + used) b = drop-drop used o.len b in
    let begins : BeginsWith b h (take used w ++ drop (o.len + used) b) = subst (BeginsWith b h) (sym (take-append-drop used w) ∙ ap (λ (v : List ℕ). take used w ++ v) rest) i.begins in
    let waits : Awaits now (drop (o.len + used) b) = subst (Awaits now) rest awaits in
    let n : length (take used w) ≡ used = length-take-le used w few in
    let none : 0 + length got ≡ length got = omega arith in
    let read : o.len + used ≡ length (print_response h) + length (take used w) = omega (arith, n, i.len_is) in (
      record {
        going = is_open b h (take used w) (drop (o.len + used) b) got now begins r waits;
        holds = (h, take used w, begins, i.status_is, r, waits, read);
        fits = subst (Fits now) none brings.fits;
        short = subst (λ (v : List ℕ). length v < 16384) rest short;
      },
      omega (arith, room, few, inside),
    )

pub next_bad : (b : List ℕ) (o : Opening) (got : List ℕ) (used : ℕ) (why : HttpWhy) → IsOpening b o → GathersTo o.stage 0 (drop o.len b) got used (ending.Bad why) → IsFault b why (place_of why (o.len + used)) × (place_of why (o.len + used) ≤ length b)
next_bad b o got used BadHead i g = absurd g
next_bad b o got used BadLength i g = absurd g
next_bad b o got used TooLong i (few, is) = let h = i.head in (inr (h, drop o.len b, i.begins, is (size_of h) [] [] refl i.reaches, refl), omega arith)
next_bad b o got used BadChunk i (few, is) =
    let h = i.head in
    let bad = is (size_of h) [] [] refl i.reaches in
    let room = length-drop o.len b in
    let inside = i.inside in
    ((h, drop o.len b, 0 + used, i.begins, bad.0, bad.1, omega (arith, i.len_is)), omega (arith, room, few, inside))

-- what is brought of the bytes after a head
pub gathers_at : (stage : Stage) (b got : List ℕ) (len used : ℕ) (e f : Ending) → e ≡ f → GathersTo stage 0 (take (length b - len) (drop len b)) got used e → GathersTo stage 0 (drop len b) got used f
gathers_at stage b got len used e f is g = subst (GathersTo stage 0 (drop len b) got used) is (subst (λ (v : List ℕ). GathersTo stage 0 v got used e) (window b len) g)
