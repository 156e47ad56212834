-- How whole requests follow one another.
use Rattle.std.proofs.Common.{◌≡◌, ℕ, ◌+◌, ◌-◌, ◌<◌, ◌≤◌, Bool, List, [], ◌∷◌, ◌++◌, length, take, drop, refl, sym, ap, ◌∙◌, subst, arith, inl, length-append, length-drop, length-take-le, append_assoc, append-nil, take-append-drop}
use Rattle.std.specs.Prelude.{Option, Some, None}
use Rattle.std.specs.List.{flat_map}
use Rattle.std.proofs.lemmas.List.{drop-drop}
use Rattle.stream_grammar.specs.Framing.{AreSpelled}
use Rattle.http_edge.specs.declared.fault.HttpWhy.{HttpWhy}
use Rattle.http_edge.specs.declared.head.Head.{Head}
use Rattle.http_edge.specs.declared.request.HttpItem.{HttpItem}
use Rattle.http_edge.specs.declared.request.HttpItem.TheVariants.{Request}
use Rattle.http_edge.specs.declared.request.HttpRequest.{HttpRequest}
use Rattle.http_edge.specs.declared.stage.Stage.{Stage}
use Rattle.http_edge.specs.declared.stage.Stage.TheVariants.{Plain}
use Rattle.http_edge.specs.Heads.{IsOpenHead}
use Rattle.http_edge.specs.HttpStream.{IsRequest, items_if, items_of, IsFault, AreRequests}
use Rattle.http_edge.specs.Scanning.{IsLeft, ScansTo}

pub spelled_append : (rs ss : List HttpRequest) (a b : List ℕ) → AreSpelled IsRequest rs a → AreSpelled IsRequest ss b → AreSpelled IsRequest (rs ++ ss) (a ++ b)
spelled_append [] ss a b x y = subst (AreSpelled IsRequest ss) (ap (λ (v : List ℕ). v ++ b) (sym x)) y
spelled_append (r ∷ rs) ss a b (t, u, is, e, x) y = (t, u ++ b, is, ap (λ (v : List ℕ). v ++ b) e ∙ append_assoc t u b, spelled_append rs ss u b x y)

pub items_append : (rs ss : List HttpRequest) → flat_map items_of (rs ++ ss) ≡ flat_map items_of rs ++ flat_map items_of ss
items_append [] ss = refl
items_append (r ∷ rs) ss = ap (λ (v : List HttpItem). items_of r ++ v) (items_append rs ss) ∙ sym (append_assoc (items_of r) (flat_map items_of rs) (flat_map items_of ss))

pub no_requests : (b : List ℕ) → AreRequests b [] 0 b
no_requests b = record { requests = []; front = []; spelled = refl; whole = refl; at_is = refl; items_are = refl }

-- requests, and after them, a piece further on, more requests
pub requests_then : (fed piece rest : List ℕ) (before more : List HttpItem) (at from : ℕ) (last : List ℕ) → AreRequests fed before at rest → AreRequests (rest ++ piece) more from last → AreRequests (fed ++ piece) (before ++ more) (at + from) last
requests_then fed piece rest before more at from last s f = record {
  requests = s.requests ++ f.requests;
  front = s.front ++ f.front;
  spelled = spelled_append s.requests f.requests s.front f.front s.spelled f.spelled;
  whole = ap (λ (v : List ℕ). v ++ piece) s.whole ∙ append_assoc s.front rest piece ∙ ap (λ (v : List ℕ). s.front ++ v) f.whole ∙ sym (append_assoc s.front f.front last);
  at_is = (λ i. s.at_is i + f.at_is i) ∙ sym (length-append s.front f.front);
  items_are = (λ i. s.items_are i ++ f.items_are i) ∙ sym (items_append s.requests f.requests);
}

-- one request
pub one_request : (r : HttpRequest) (x : List ℕ) (y : List ℕ) → IsRequest r x → AreRequests (x ++ y) (items_of r) (length x) y
one_request r x y is = record { requests = r ∷ []; front = x; spelled = (x, [], is, sym (append-nil x), refl); whole = refl; at_is = refl; items_are = sym (append-nil (items_of r)) }

-- one more request of a piece
pub requests_more : (b : List ℕ) (items : List HttpItem) (from used : ℕ) (r : HttpRequest) (asks : Bool) → AreRequests b items from (drop from b) → IsRequest r (take used (drop from b)) → used ≤ length (drop from b) → items_of r ≡ items_if asks ++ Request r ∷ [] → (now : List HttpItem) → now ≡ (items ++ items_if asks) ++ Request r ∷ [] → AreRequests b now (from + used) (drop (from + used) b)
requests_more b items from used r asks s is few told now e =
    let w = drop from b in
    let one : AreRequests (take used w ++ drop used w) (items_of r) (length (take used w)) (drop used w) = one_request r (take used w) (drop used w) is in
    let one_here : AreRequests (w ++ []) (items_of r) (length (take used w)) (drop used w) = subst (λ (v : List ℕ). AreRequests v (items_of r) (length (take used w)) (drop used w)) (take-append-drop used w ∙ sym (append-nil w)) one in
    let all = requests_then b [] w items (items_of r) from (length (take used w)) (drop used w) s one_here in
    let n : from + length (take used w) ≡ from + used = ap (λ (k : ℕ). from + k) (length-take-le used w few) in
    let i : items ++ items_of r ≡ now = ap (λ (v : List HttpItem). items ++ v) told ∙ sym (append_assoc items (items_if asks) (Request r ∷ [])) ∙ sym e in
    subst (λ (v : List ℕ). AreRequests b now (from + used) v) (drop-drop used from b) (subst (λ (k : ℕ). AreRequests b now k (drop used w)) n (subst (λ (v : List HttpItem). AreRequests b v (from + length (take used w)) (drop used w)) i (subst (λ (v : List ℕ). AreRequests v (items ++ items_of r) (from + length (take used w)) (drop used w)) (append-nil b) all)))

pub requests_inside : (b : List ℕ) (items : List HttpItem) (from : ℕ) (rest : List ℕ) → AreRequests b items from rest → from ≤ length b
requests_inside b items from rest f =
    let n : length b ≡ length f.front + length rest = ap length f.whole ∙ length-append f.front rest in
    omega (arith, n, f.at_is)

-- an unfinished head is held as it is
pub left_open : (rest body : List ℕ) → body ≡ [] → (length rest < 16384) → IsOpenHead rest → IsLeft rest [] None (Plain 0) body 0 rest
left_open rest body e short head = record {
  going = inl (short, head, refl);
  holds = (refl, refl, e, short, head);
  fits = let n : length body ≡ 0 = ap length e in omega (arith, n);
  short = short;
}

-- what a scan brought, by what stood after the last whole request
pub scans_left : (b : List ℕ) (before told items : List HttpItem) (from : ℕ) (begun : Option Head) (stage : Stage) (body : List ℕ) (read : ℕ) (unread : List ℕ) → AreRequests b before from (drop from b) → items ≡ before ++ told → read ≤ length (drop from b) → unread ≡ drop (from + read) b → IsLeft (drop from b) told begun stage body read (drop (from + read) b) → ScansTo b items from begun stage body read unread None
scans_left b before told items from begun stage body read unread s e few u l =
    let inside = requests_inside b before from (drop from b) s in
    let n = length-drop from b in
    let m : length unread ≡ length b - (from + read) = ap length u ∙ length-drop (from + read) b in
    let now : IsLeft (drop from b) told begun stage body read unread = subst (IsLeft (drop from b) told begun stage body read) (sym u) l in
    record {
      before = before;
      told = told;
      requests = s;
      items_are = e;
      fits = now.fits;
      short = now.short;
      room = omega (arith, m, n, few, inside);
      place = tt;
      leaves = now;
    }

pub scans_bad : (b : List ℕ) (before told items : List HttpItem) (from at : ℕ) (why : HttpWhy) (unread : List ℕ) → AreRequests b before from (drop from b) → items ≡ before ++ told → IsFault (drop from b) why at told → at ≤ length (drop from b) → unread ≡ [] → ScansTo b items from None (Plain 0) [] 0 unread (Some (record { at = from + at; why = why }))
scans_bad b before told items from at why unread s e bad few none =
    let inside = requests_inside b before from (drop from b) s in
    let n = length-drop from b in
    let m : length unread ≡ 0 = ap length none in
    record {
      before = before;
      told = told;
      requests = s;
      items_are = e;
      fits = omega arith;
      short = omega (arith, m);
      room = omega (arith, m, inside);
      place = omega (arith, inside, few, n);
      leaves = (at, bad, refl, refl, none);
    }

pub left_moved : (b : List ℕ) (from : ℕ) (told : List HttpItem) (begun : Option Head) (stage : Stage) (body : List ℕ) (used : ℕ) → IsLeft (drop from b) told begun stage body used (drop used (drop from b)) → IsLeft (drop from b) told begun stage body used (drop (from + used) b)
left_moved b from told begun stage body used l = subst (IsLeft (drop from b) told begun stage body used) (drop-drop used from b) l
