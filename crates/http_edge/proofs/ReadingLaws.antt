-- What is read without a fault, the bytes alone decide.
use Rattle.std.proofs.Common.{◌≡◌, ℕ, ◌+◌, List, [], ◌∷◌, ◌++◌, length, refl, sym, ap, ◌∙◌, subst, arith, inl, inr, length-append, append_assoc, append-nil}
use Rattle.std.specs.List.{flat_map}
use Rattle.httparse.specs.Grammar.{RequestHead, ReadsRequest}
use Rattle.httparse.proofs.GrammarLemmas.{request_unique, ReadsRequest-append, ReadsSection-append}
use Rattle.stream_grammar.specs.Framing.{AreSpelled, HasNoFrame}
use Rattle.http_edge.specs.declared.request.HttpItem.{HttpItem}
use Rattle.http_edge.specs.declared.request.HttpRequest.{HttpRequest}
use Rattle.http_edge.specs.declared.stage.Stage.{Stage}
use Rattle.http_edge.specs.declared.stage.Stage.TheVariants.{Plain, Line, Data, End, Trailer}
use Rattle.http_edge.specs.Lengths.{BodySize, Sized, Chunked, BadSize, size_of}
use Rattle.http_edge.specs.Chunks.{HoldsTrailer}
use Rattle.http_edge.specs.Bodies.{IsChunkedBody, IsBody, IsOpenBody, Reaches, Awaits}
use Rattle.http_edge.specs.HttpStream.{BeginsWith, IsRequest, IsOpen, AreRequests, items_of, told_of}
use Rattle.http_edge.specs.Laws.{OneReading}
use Rattle.http_edge.proofs.OnceLaws.{requests_once}
use Rattle.http_edge.proofs.StageLaws.{Stays, same_stage}

-- what is due at the stage of an open body isn't whole
pub open_stays : (stage : Stage) (u : List ℕ) → Awaits stage u → Stays stage u
open_stays (Plain left) u w = tt
open_stays Line u w = λ n line more is e. w.1 is.line more (is.is, e ∙ ap (λ (x : List ℕ). x ++ more) is.text_is)
open_stays (Data left) u w = w
open_stays End u (inl e) = λ more f. cc
open_stays End u (inr e) = λ more f. cc
open_stays Trailer u w = tt

-- a trailer, and bytes that follow
pub trailer_more : (t y : List ℕ) → HoldsTrailer t [] → HoldsTrailer (t ++ y) y
trailer_more t y h = record { fields = h.fields; last = h.last; reads = ReadsSection-append t h.fields h.last [] y h.reads; few = h.few }

-- the stage after a whole body's chunks
pub at_end : (stage : Stage) (body other front text back u y : List ℕ) → Reaches Chunked stage body front → Stays stage u → text ≡ front ++ u → (j : IsChunkedBody other back) → text ≡ back ++ y → (stage ≡ Trailer) × (u ≡ j.trailer ++ y)
at_end stage body other front text back u y r w f j e =
    let q = same_stage stage Trailer body other front j.front u (j.trailer ++ y) r w j.reaches tt (sym f ∙ e ∙ ap (λ (x : List ℕ). x ++ y) j.text_is ∙ append_assoc j.front j.trailer y) in
    (q.0, q.2)

chunked_open : (text other back y : List ℕ) → (o : IsOpenBody Chunked text) → IsChunkedBody other back → text ≡ back ++ y → ⊥
chunked_open text other back y o j e =
    let q = at_end o.stage o.body other o.front text back o.unread y o.reaches (open_stays o.stage o.unread o.awaits) o.text_is j e in
    let w = subst (λ (s : Stage). Awaits s o.unread) q.0 o.awaits in
    w.1 y (subst (λ (v : List ℕ). HoldsTrailer v y) (sym q.1) (trailer_more j.trailer y j.holds))

sized_open : (stage : Stage) (n : ℕ) (body front u text back y : List ℕ) → Reaches (Sized n) stage body front → Awaits stage u → text ≡ front ++ u → length back ≡ n → text ≡ back ++ y → ⊥
sized_open (Plain left) n body front u text back y (s, fits, is) (some, none) f l e =
    let z : n ≡ length body + left = cc in
    let a : length text ≡ length body = ap length (f ∙ ap (λ (w : List ℕ). front ++ w) none ∙ append-nil front ∙ is) in
    let b : length text ≡ length back + length y = ap length e ∙ length-append back y in
    omega (arith, z, a, b, l, some)
sized_open Line n body front u text back y r w f l e = let z = r.0 in absurd (cc)
sized_open (Data left) n body front u text back y r w f l e = let z = r.0 in absurd (cc)
sized_open End n body front u text back y r w f l e = let z = r.0 in absurd (cc)
sized_open Trailer n body front u text back y r w f l e = let z = r.0 in absurd (cc)

-- an open body is no whole one, whatever follows that
pub open_no_body : (size : BodySize) (text other back y : List ℕ) → IsOpenBody size text → IsBody size other back → text ≡ back ++ y → ⊥
open_no_body (Sized n) text other back y o (x, l, m) e = sized_open o.stage n o.body o.front o.unread text back y o.reaches o.awaits o.text_is (ap length x ∙ l) e
open_no_body Chunked text other back y o j e = chunked_open text other back y o j e
open_no_body BadSize text other back y o j e = absurd j

-- a request at the front begins with its head
pub request_begins : (rest : List ℕ) (r : HttpRequest) (x y : List ℕ) → (i : IsRequest r x) → rest ≡ x ++ y → BeginsWith rest i.head (i.text ++ y)
request_begins rest r x y i e = record {
  holds = record { reads = subst (λ (w : List ℕ). ReadsRequest w i.head (i.text ++ y)) (sym e) (ReadsRequest-append x i.head i.text y i.begins.holds.reads); few = i.begins.holds.few };
  short = i.begins.short;
}

-- two heads at one front
pub head_once : (rest : List ℕ) (h k : RequestHead) (text other : List ℕ) → BeginsWith rest h text → BeginsWith rest k other → (h ≡ k) × (text ≡ other)
head_once rest h k text other a b = request_unique rest h k text other a.holds.reads b.holds.reads

-- an unfinished request is no whole one, whatever follows that
pub open_no_request : (rest : List ℕ) (told : List HttpItem) → IsOpen rest told → HasNoFrame IsRequest rest
open_no_request rest told (inl (short, head, n)) r x y i e = head.none i.head (i.text ++ y) (request_begins rest r x y i e).holds
open_no_request rest told (inr (h, text, begins, o, n)) r x y i e =
    let q = head_once rest h i.head text (i.text ++ y) begins (request_begins rest r x y i e) in
    open_no_body (size_of h) text r.body i.text y o (subst (λ (k : RequestHead). IsBody (size_of k) r.body i.text) (sym q.0) i.body) q.1

told_once : (rest : List ℕ) (told others : List HttpItem) → IsOpen rest told → IsOpen rest others → told ≡ others
told_once rest told others (inl (a, o, e)) (inl (b, p, f)) = e ∙ sym f
told_once rest told others (inl (a, o, e)) (inr (h, text, begins, p, f)) = absurd (o.none h text begins.holds)
told_once rest told others (inr (h, text, begins, o, e)) (inl (b, p, f)) = absurd (p.none h text begins.holds)
told_once rest told others (inr (h, text, begins, o, e)) (inr (k, other, also, p, f)) = e ∙ ap told_of (head_once rest h k text other begins also).0 ∙ sym f

requests_same : (rs ss : List HttpRequest) (front back rest last : List ℕ) → AreSpelled IsRequest rs front → AreSpelled IsRequest ss back → HasNoFrame IsRequest rest → HasNoFrame IsRequest last → front ++ rest ≡ back ++ last → (rs ≡ ss) × (front ≡ back) × (rest ≡ last)
requests_same [] [] front back rest last a b o p e = (refl, a ∙ sym b, ap (λ (w : List ℕ). w ++ rest) (sym a) ∙ e ∙ ap (λ (w : List ℕ). w ++ last) b)
requests_same [] (s ∷ ss) front back rest last a (x, y, is, f, more) o p e = absurd (o s x (y ++ last) is (ap (λ (w : List ℕ). w ++ rest) (sym a) ∙ e ∙ ap (λ (w : List ℕ). w ++ last) f ∙ append_assoc x y last))
requests_same (r ∷ rs) [] front back rest last (x, y, is, f, more) b o p e = absurd (p r x (y ++ rest) is (ap (λ (w : List ℕ). w ++ last) (sym b) ∙ sym e ∙ ap (λ (w : List ℕ). w ++ rest) f ∙ append_assoc x y rest))
requests_same (r ∷ rs) (s ∷ ss) front back rest last (x, y, is, f, more) (z, w, also, g, less) o p e =
    let q = requests_once r s x z (y ++ rest) (w ++ last) is also (sym (append_assoc x y rest) ∙ ap (λ (v : List ℕ). v ++ rest) (sym f) ∙ e ∙ ap (λ (v : List ℕ). v ++ last) g ∙ append_assoc z w last) in
    let t = requests_same rs ss y w rest last more less o p q.2 in
    ((λ i. q.0 i ∷ t.0 i), f ∙ (λ i. q.1 i ++ t.1 i) ∙ sym g, t.2)

-- Bytes are whole requests, and a rest that begins with none, in one way only.
pub one_split : (fed : List ℕ) (items others : List HttpItem) (m n : ℕ) (rest last : List ℕ) → AreRequests fed items m rest → AreRequests fed others n last → HasNoFrame IsRequest rest → HasNoFrame IsRequest last → (items ≡ others) × (m ≡ n) × (rest ≡ last)
one_split fed items others m n rest last a b o p =
    let q = requests_same a.requests b.requests a.front b.front rest last a.spelled b.spelled o p (sym a.whole ∙ b.whole) in (
      a.items_are ∙ ap (λ (v : List HttpRequest). flat_map items_of v) q.0 ∙ sym b.items_are,
      a.at_is ∙ ap (λ (v : List ℕ). length v) q.1 ∙ sym b.at_is,
      q.2,
    )

pub one_reading : OneReading
one_reading fed items others m n rest last a b =
    let q = one_split fed a.before b.before m n rest last a.requests b.requests (open_no_request rest a.told a.going) (open_no_request last b.told b.going) in
    let t = told_once rest a.told b.told a.going (subst (λ (w : List ℕ). IsOpen w b.told) (sym q.2) b.going) in
    (a.items_are ∙ (λ i. q.0 i ++ t i) ∙ sym b.items_are, q.1, q.2)
