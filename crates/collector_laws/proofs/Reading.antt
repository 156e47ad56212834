-- What is posted is read first, and what follows after it.
use Rattle.std.proofs.Common.{◌≡◌, inl, inr, ℕ, ◌+◌, List, [], ◌∷◌, ◌++◌, length, refl, sym, ap, subst, arith, append-nil, length-append}
use Rattle.std.specs.Prelude.{◌%◌, ◌-◌, Option, Some, None, codes}
use Rattle.std.specs.Fmt.{decimal}
use Rattle.std.proofs.lemmas.Fmt.{length-decimal-le}
use Rattle.stream_grammar.specs.Reading.{Drops, ReadsTo, as_bytes}
use Rattle.http_edge.specs.declared.fault.HttpFault.{HttpFault}
use Rattle.http_edge.specs.declared.request.HttpItem.{HttpItem}
use Rattle.http_edge.specs.declared.request.HttpItem.TheVariants.{Request}
use Rattle.http_edge.specs.declared.request.HttpRequest.{HttpRequest}
use Rattle.http_edge.specs.HttpStream.{AreRequests, IsFaulty, IsStream, items_of}
use Rattle.http_edge.specs.Reading.{Reading, http, parts}
use Rattle.http_edge.proofs.FaultOnceLaws.{fault_or_stream, one_fault}
use Rattle.http_edge.proofs.ReadingLaws.{one_reading}
use Rattle.http_edge.proofs.SomeReadingLaws.{some_reading}
use Rattle.http_edge.proofs.StreamLaws.{one_request, requests_then}
use Rattle.hec_sender.specs.Requests.{run_from}
use Rattle.hec_sender.proofs.Fitting.{request_fits}
use Rattle.collector_laws.specs.Posts.{post_at}
use Rattle.collector_laws.specs.Sent.{IsSpelled, PostedIsRead, QueriesArePosted, ReadsFirst, RequestsArePosted, moved}
use Rattle.collector_laws.proofs.Spelling.{posted_spells}

-- ---- bytes after a whole request of which nothing else is told

requests_behind : (r : HttpRequest) (x more : List ℕ) (items : List HttpItem) (at : ℕ) (rest : List ℕ) → IsSpelled r x → AreRequests more items at rest → AreRequests (x ++ more) (Request r ∷ items) (length x + at) rest
requests_behind r x more items at rest s a =
    let one : AreRequests (x ++ more) (items_of r) (length x) more = one_request r x more s.is in
    let behind : AreRequests (more ++ []) items at rest = subst (λ (v : List ℕ). AreRequests v items at rest) (sym (append-nil more)) a in
    let all : AreRequests ((x ++ more) ++ []) (items_of r ++ items) (length x + at) rest = requests_then (x ++ more) [] more (items_of r) items (length x) at rest one behind in
    subst (λ (is : List HttpItem). AreRequests (x ++ more) (is ++ items) (length x + at) rest) s.items_are (subst (λ (v : List ℕ). AreRequests v (items_of r ++ items) (length x + at) rest) (append-nil (x ++ more)) all)

stream_behind : (r : HttpRequest) (x more : List ℕ) (items : List HttpItem) (at : ℕ) (rest : List ℕ) → IsSpelled r x → IsStream more items at rest → IsStream (x ++ more) (Request r ∷ items) (length x + at) rest
stream_behind r x more items at rest s t = record {
  before = Request r ∷ t.before;
  told = t.told;
  requests = requests_behind r x more t.before at rest s t.requests;
  items_are = ap (λ (is : List HttpItem). Request r ∷ is) t.items_are;
  going = t.going;
}

fault_behind : (r : HttpRequest) (x more : List ℕ) (items : List HttpItem) (at : ℕ) (e : HttpFault) → IsSpelled r x → IsFaulty more items at e.at e.why → IsFaulty (x ++ more) (Request r ∷ items) (length x + at) (length x + e.at) e.why
fault_behind r x more items at e s f = record {
  before = Request r ∷ f.before;
  told = f.told;
  rest = f.rest;
  offset = f.offset;
  requests = requests_behind r x more f.before at f.rest s f.requests;
  items_are = ap (λ (is : List HttpItem). Request r ∷ is) f.items_are;
  place_is = let p = f.place_is in omega (arith, p);
  fault = f.fault;
}

-- ---- the laws

pub bytes_read : (Held : List ℕ → List ℕ → Type 0) → PostedIsRead (as_bytes Held)
bytes_read Held path terms body text more items at held None p s = stream_behind (post_at path terms body) text more items at held (posted_spells path terms body text p) s
bytes_read Held path terms body text more items at held (Some e) p (rest, f, holds) = (rest, fault_behind (post_at path terms body) text more items at e (posted_spells path terms body text p) f, holds)

pub parts_read : PostedIsRead parts
parts_read path terms body text more items at held None p (rest, s, holds) = (rest, stream_behind (post_at path terms body) text more items at rest (posted_spells path terms body text p) s, holds)
parts_read path terms body text more items at held (Some e) p (f, none) = (fault_behind (post_at path terms body) text more items at e (posted_spells path terms body text p) f, none)

-- what is read in parts is read in bytes too
in_bytes : (fed : List ℕ) (items : List HttpItem) (at : ℕ) (r : Reading) (fault : Option HttpFault) → ReadsTo http parts fed items at r fault → (held : List ℕ) × ReadsTo http Drops fed items at held fault
in_bytes fed items at r None (rest, s, holds) = (rest, s)
in_bytes fed items at r (Some e) (f, none) = ([], ([], f, refl))

-- bytes decide the items and the place
same_items : (fed : List ℕ) (items others : List HttpItem) (m n : ℕ) (held kept : List ℕ) (d e : Option HttpFault) → ReadsTo http Drops fed items m held d → ReadsTo http Drops fed others n kept e → (items ≡ others) × (m ≡ n)
same_items fed items others m n held kept None None s t = let q = one_reading fed items others m n held kept s t in (q.0, q.1)
same_items fed items others m n held kept None (Some e) s (rest, f, none) = let q = fault_or_stream fed others items n m e.at e.why held f s in (sym q.2, sym q.3)
same_items fed items others m n held kept (Some d) None (rest, f, none) t = let q = fault_or_stream fed items others m n d.at d.why kept f t in (q.2, q.3)
same_items fed items others m n held kept (Some d) (Some e) (rest, f, none) (last, g, nothing) = let q = one_fault fed items others m n d.at e.at d.why e.why f g in (q.0, q.1)

pub reads_first : ReadsFirst
reads_first path terms body text more taken r p reads =
    let n = length text in
    let all = in_bytes (text ++ more) (taken ++ r.waiting) r.at r r.fault reads in
    let follows = some_reading more in
    let now = bytes_read (λ rest held. held ≡ []) path terms body text more follows.0 follows.1 follows.2 follows.3 p follows.4 in
    let same = same_items (text ++ more) (taken ++ r.waiting) (Request (post_at path terms body) ∷ follows.0) r.at (n + follows.1) all.0 follows.2 r.fault (moved n follows.3) all.1 now in
    record { others = follows.0; at = follows.1; held = follows.2; fault = follows.3; follows = follows.4; items_are = same.0; at_is = same.1 }

-- ---- what is posted

pub requests_are : RequestsArePosted
requests_are terms place entries events = record { known = inl refl; fits = request_fits (run_from place entries) entries (128 - place % 128) refl events; text_is = refl }

pub queries_are : QueriesArePosted
queries_are terms id few =
    let short = length-decimal-le 20 id (omega arith) (omega (arith, few)) few in
    record { known = inr refl; fits = omega (arith, short, length-append (codes "{\"acks\":[" ++ decimal id) (codes "]}"), length-append (codes "{\"acks\":[") (decimal id)); text_is = refl }
