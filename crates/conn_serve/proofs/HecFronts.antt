-- Items at the front of the bytes of a stream of requests.
use Rattle.std.proofs.Common.{◌≡◌, ◌⊎◌, inl, inr, ℕ, ◌+◌, ◌*◌, ◌<◌, ◌≤◌, Bool, true, false, List, [], ◌∷◌, ◌++◌, length, refl, sym, ◌∙◌, ap, subst, arith, append_assoc, length-append}
use Rattle.std.specs.Prelude.{Option, None, Some}
use Rattle.std.specs.List.{flat_map}
use Rattle.stream_grammar.specs.Framing.{AreSpelled}
use Rattle.httparse.specs.Grammar.{RequestHead, print_request}
use Rattle.http_edge.specs.declared.fault.HttpWhy.{HttpWhy}
use Rattle.http_edge.specs.declared.fault.HttpWhy.TheVariants.{BadHead, BadLength, TooLong, BadChunk}
use Rattle.http_edge.specs.declared.head.Head.{Head}
use Rattle.http_edge.specs.declared.request.HttpItem.{HttpItem}
use Rattle.http_edge.specs.declared.request.HttpItem.TheVariants.{Continue, Request}
use Rattle.http_edge.specs.declared.request.HttpRequest.{HttpRequest}
use Rattle.http_edge.specs.declared.stage.Stage.{Stage}
use Rattle.http_edge.specs.Heads.{head_fields}
use Rattle.http_edge.specs.Lengths.{asks}
use Rattle.http_edge.specs.HttpStream.{BeginsWith, IsFault, IsFaulty, IsOpen, IsRequest, IsStream, items_if, items_of, told_of}
use Rattle.http_edge.specs.Reading.{Holds}
use Rattle.http_edge.proofs.BuildLaws.{some_head}
use Rattle.http_edge.proofs.FaultLaws.{begins_more}
use Rattle.http_edge.proofs.FeedLaws.{requests_more_text}
use Rattle.http_edge.proofs.ReadingLaws.{request_begins}
use Rattle.conn_serve.specs.Hec.{AreTold}
use Rattle.conn_serve.proofs.Fronts.{spelled_few}

-- what is told of the head that the rest begins with, if anything is
abbrev Going : List ℕ → List HttpItem → Type 0
Going rest told = (told ≡ []) ⊎ ((h : RequestHead) × (text : List ℕ) × BeginsWith rest h text × (told ≡ told_of h))

open_going : (rest : List ℕ) (told : List HttpItem) → IsOpen rest told → Going rest told
open_going rest told (inl (short, head, e)) = inl e
open_going rest told (inr (h, text, begins, o, e)) = inr (h, text, begins, e)

fault_going : (rest : List ℕ) (why : HttpWhy) (place : ℕ) (told : List HttpItem) → IsFault rest why place told → Going rest told
fault_going rest BadHead place told (never, at, e) = inl e
fault_going rest BadLength place told (h, text, begins, bad, at, e) = inl e
fault_going rest TooLong place told (inl (long, head, at, e)) = inl e
fault_going rest TooLong place told (inr (h, text, begins, long, at, e)) = inr (h, text, begins, e)
fault_going rest BadChunk place told (h, text, at, begins, size, bad, is, e) = inr (h, text, begins, e)

-- the items of a stream stand at its front, and so do those before a fault
pub stream_told : (b : List ℕ) (items : List HttpItem) (at : ℕ) (rest : List ℕ) → IsStream b items at rest → AreTold b items at
stream_told b items at rest s = record { before = s.before; rest = rest; told = s.told; requests = s.requests; items_are = s.items_are; going = open_going rest s.told s.going }

pub faulty_told : (b : List ℕ) (items : List HttpItem) (at place : ℕ) (why : HttpWhy) → IsFaulty b items at place why → AreTold b items at
faulty_told b items at place why f = record { before = f.before; rest = f.rest; told = f.told; requests = f.requests; items_are = f.items_are; going = fault_going f.rest why f.offset f.told f.fault }

-- whatever follows
pub told_more : (b : List ℕ) (items : List HttpItem) (at : ℕ) (piece : List ℕ) → AreTold b items at → AreTold (b ++ piece) items at
told_more b items at piece t = record {
  before = t.before;
  rest = t.rest ++ piece;
  told = t.told;
  requests = requests_more_text b piece t.rest t.before at t.requests;
  items_are = t.items_are;
  going = more t.going;
}
  where
    more : Going t.rest t.told → Going (t.rest ++ piece) t.told
    more (inl e) = inl e
    more (inr (h, text, begins, e)) = inr (h, text ++ piece, begins_more t.rest h text piece begins, e)

-- ---- the first of the items

one_item : (t : Bool) (x : HttpItem) (xs ys : List HttpItem) → items_if t ≡ x ∷ (xs ++ ys) → x ∷ xs ≡ items_if t
one_item true x [] ys e = cc
one_item true x (z ∷ xs) ys e = absurd cc
one_item false x xs ys e = absurd cc

-- Some bytes begin with whole requests, whose items, with what is told of a head that follows them, are these.
record Cut (b : List ℕ) (xs : List HttpItem) : Type 0 where
  requests : List HttpRequest
  first : List ℕ
  last : List ℕ
  told : List HttpItem
  spelled : AreSpelled IsRequest requests first
  whole : b ≡ first ++ last
  are : xs ≡ flat_map items_of requests ++ told
  going : Going last told

cut_none : (b : List ℕ) → Cut b []
cut_none b = record { requests = []; first = []; last = b; told = []; spelled = refl; whole = refl; are = refl; going = inl refl }

-- a request before them
cut_then : (r : HttpRequest) (x b : List ℕ) (xs ys : List HttpItem) → IsRequest r x → Cut b xs → ys ≡ items_of r ++ xs → Cut (x ++ b) ys
cut_then r x b xs ys is c e = record {
  requests = r ∷ c.requests;
  first = x ++ c.first;
  last = c.last;
  told = c.told;
  spelled = (x, c.first, is, refl, c.spelled);
  whole = ap (λ (l : List ℕ). x ++ l) c.whole ∙ sym (append_assoc x c.first c.last);
  are = e ∙ ap (λ (l : List HttpItem). items_of r ++ l) c.are ∙ sym (append_assoc (items_of r) (flat_map items_of c.requests) c.told);
  going = c.going;
}

-- a head alone is told of
cut_head : (r : HttpRequest) (x b : List ℕ) (i : HttpItem) → IsRequest r x → asks r.minor r.fields ≡ true → i ≡ Continue → Cut (x ++ b) (i ∷ [])
cut_head r x b i is asked e =
    let same : asks r.minor r.fields ≡ asks is.head.minor (head_fields is.head) = ap (λ (q : HttpRequest). asks q.minor q.fields) is.request_is in
    record {
      requests = [];
      first = [];
      last = x ++ b;
      told = i ∷ [];
      spelled = refl;
      whole = refl;
      are = refl;
      going = inr (is.head, is.text ++ b, request_begins (x ++ b) r x b is refl, ap (λ (j : HttpItem). j ∷ []) e ∙ ap items_if (sym asked ∙ same));
    }

-- the items of a request, whatever stands before those that follow it
cut_on : (r : HttpRequest) (x b : List ℕ) (i : HttpItem) (behind told : List HttpItem) → IsRequest r x → (ys : List HttpItem) → ((zs : List HttpItem) → behind ++ told ≡ zs ++ ys → Cut b zs)
    → (zs : List HttpItem) (t : Bool) → asks r.minor r.fields ≡ t → ((items_if t ++ Request r ∷ []) ++ behind) ++ told ≡ i ∷ (zs ++ ys) → Cut (x ++ b) (i ∷ zs)
cut_on r x b i behind told is ys next zs false unasked f =
    let head : i ≡ Request r = cc in
    let tail : behind ++ told ≡ zs ++ ys = cc in
    cut_then r x b zs (i ∷ zs) is (next zs tail) (ap (λ (k : HttpItem). k ∷ zs) head ∙ sym (ap (λ (t : Bool). (items_if t ++ Request r ∷ []) ++ zs) unasked))
cut_on r x b i behind told is ys next [] true asked f = let head : i ≡ Continue = cc in cut_head r x b i is asked head
cut_on r x b i behind told is ys next (z ∷ zs) true asked f =
    let head : i ≡ Continue = cc in
    let second : z ≡ Request r = cc in
    let tail : behind ++ told ≡ zs ++ ys = cc in
    cut_then r x b zs (i ∷ z ∷ zs) is (next zs tail) (ap (λ (k : HttpItem). k ∷ z ∷ zs) head ∙ ap (λ (k : HttpItem). Continue ∷ k ∷ zs) second ∙ sym (ap (λ (t : Bool). (items_if t ++ Request r ∷ []) ++ zs) asked))

cut : (rs : List HttpRequest) (front rest : List ℕ) (told xs ys : List HttpItem) → AreSpelled IsRequest rs front → Going rest told → flat_map items_of rs ++ told ≡ xs ++ ys → Cut (front ++ rest) xs
cut rs front rest told [] ys s going e = cut_none (front ++ rest)
cut [] front rest told (x ∷ xs) ys s going e = elim going [
  | inl none ↦ let impossible : [] ≡ x ∷ (xs ++ ys) = sym none ∙ e in absurd cc
  | inr (h, text, begins, is) ↦ record {
    requests = [];
    first = [];
    last = rest;
    told = x ∷ xs;
    spelled = refl;
    whole = ap (λ (l : List ℕ). l ++ rest) s;
    are = refl;
    going = inr (h, text, begins, one_item (asks h.minor (head_fields h)) x xs ys (sym is ∙ e));
  }
]
cut (r ∷ rs) front rest told (x ∷ xs) ys s going e =
    subst (λ (l : List ℕ). Cut l (x ∷ xs)) (sym (ap (λ (l : List ℕ). l ++ rest) s.3 ∙ append_assoc s.0 s.1 rest))
    (cut_on r s.0 (s.1 ++ rest) x (flat_map items_of rs) told s.2 ys (λ zs tail. cut rs s.1 rest told zs ys s.4 going tail) xs (asks r.minor r.fields) refl e)

-- the first of the items stand at the front too
pub told_first : (b : List ℕ) (xs ys : List HttpItem) (at : ℕ) → AreTold b (xs ++ ys) at → (place : ℕ) × AreTold b xs place
told_first b xs ys at t =
    let q = t.requests in
    let c = cut q.requests q.front t.rest t.told xs ys q.spelled t.going (ap (λ (l : List HttpItem). l ++ t.told) (sym q.items_are) ∙ sym t.items_are) in (
      length c.first,
      record {
        before = flat_map items_of c.requests;
        rest = c.last;
        told = c.told;
        requests = record { requests = c.requests; front = c.first; spelled = c.spelled; whole = q.whole ∙ c.whole; at_is = refl; items_are = refl };
        items_are = c.are;
        going = c.going;
      },
    )

-- ---- how many they are

some_request : (r : HttpRequest) (x : List ℕ) → IsRequest r x → 0 < length x
some_request r x is = omega (arith, ap length is.begins.holds.reads.1, length-append (print_request is.head) is.text, some_head is.head)

few_told : (t : Bool) → length (items_if t) ≤ 1
few_told true = omega arith
few_told false = omega arith

few_items : (rs : List HttpRequest) → length (flat_map items_of rs) ≤ 2 * length rs
few_items [] = omega arith
few_items (r ∷ rs) =
    omega (arith, few_items rs, few_told (asks r.minor r.fields), length-append (items_of r) (flat_map items_of rs), length-append (items_if (asks r.minor r.fields)) (Request r ∷ []))

few_going : (rest : List ℕ) (told : List HttpItem) → Going rest told → length told ≤ 1
few_going rest told (inl e) = omega (arith, ap length e)
few_going rest told (inr (h, text, begins, e)) = omega (arith, ap length e, few_told (asks h.minor (head_fields h)))

-- at most two for a byte, and one
pub told_few : (b : List ℕ) (items : List HttpItem) (at : ℕ) → AreTold b items at → length items ≤ 2 * length b + 1
told_few b items at t =
    let q = t.requests in
    omega (
      arith,
      ap length t.items_are,
      length-append t.before t.told,
      ap length q.items_are,
      few_items q.requests,
      spelled_few IsRequest some_request q.requests q.front q.spelled,
      few_going t.rest t.told t.going,
      ap length q.whole,
      length-append q.front t.rest,
    )

-- ---- the rest

-- how many bytes of an unfinished request have come
pub holds_come : (begun : Option Head) (stage : Stage) (body : List ℕ) (read : ℕ) (unread rest : List ℕ) → Holds begun stage body read unread rest → length rest ≡ read + length unread
holds_come None stage body read unread rest (is, none, empty, short, begins) = omega (arith, ap length is, none)
holds_come (Some head) stage body read unread rest (h, front, begins, is, reaches, awaits, size) =
    omega (arith, ap length begins.holds.reads.1, length-append (print_request h) (front ++ unread), length-append front unread, size)

pub stream_size : (b : List ℕ) (items : List HttpItem) (at : ℕ) (rest : List ℕ) → IsStream b items at rest → at + length rest ≡ length b
stream_size b items at rest s = omega (arith, s.requests.at_is, ap length s.requests.whole, length-append s.requests.front rest)
