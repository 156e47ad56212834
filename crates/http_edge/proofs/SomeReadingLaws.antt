-- All bytes are whole requests, and an unfinished one or none, or one at fault.
use Rattle.std.proofs.Common.{◌≡◌, ℕ, zero, suc, ◌+◌, ◌<◌, ◌≤◌, List, [], ◌++◌, length, refl, sym, ap, ◌∙◌, subst, arith, inl, inr, length-append, append_assoc, append-nil}
use Rattle.std.specs.Prelude.{◌⊎◌, Option, Some, None}
use Rattle.std.proofs.lemmas.Bool.{cases_lt}
use Rattle.std.proofs.lemmas.List.{take_all}
use Rattle.httparse.specs.Grammar.{RequestHead, print_request}
use Rattle.stream_grammar.specs.Laws.{SomeReading}
use Rattle.stream_grammar.specs.Reading.{Drops, ReadsTo}
use Rattle.http_edge.specs.declared.fault.HttpFault.{HttpFault}
use Rattle.http_edge.specs.declared.fault.HttpWhy.{HttpWhy}
use Rattle.http_edge.specs.declared.fault.HttpWhy.TheVariants.{BadHead, BadLength, TooLong, BadChunk}
use Rattle.http_edge.specs.declared.request.HttpItem.{HttpItem}
use Rattle.http_edge.specs.declared.request.HttpRequest.{HttpRequest}
use Rattle.http_edge.specs.Heads.{IsOpenHead}
use Rattle.http_edge.specs.Lengths.{size_of}
use Rattle.http_edge.specs.Bodies.{IsBody}
use Rattle.http_edge.specs.HttpStream.{BeginsWith, IsRequest, IsOpen, IsFault, AreRequests, request_of, items_of, told_of}
use Rattle.http_edge.specs.Reading.{http}
use Rattle.http_edge.proofs.BuildLaws.{some_head}
use Rattle.http_edge.proofs.StreamLaws.{no_requests, requests_then, one_request}
use Rattle.http_edge.proofs.LineVerdictLaws.{HeadTurn, head_turn}
use Rattle.http_edge.proofs.BodyVerdictLaws.{BodyVerdict, some_body}

-- one more request after requests
requests_push : (fed x more : List ℕ) (items : List HttpItem) (at : ℕ) (r : HttpRequest) → AreRequests fed items at (x ++ more) → IsRequest r x → AreRequests fed (items ++ items_of r) (at + length x) more
requests_push fed x more items at r a is =
    let one = subst (λ (v : List ℕ). AreRequests v (items_of r) (length x) more) (sym (append-nil (x ++ more))) (one_request r x more is) in
    subst (λ (v : List ℕ). AreRequests v (items ++ items_of r) (at + length x) more) (append-nil fed) (requests_then fed [] (x ++ more) items (items_of r) at (length x) more a one)

-- a head and a body's text
request_is : (rest text front : List ℕ) (h : RequestHead) (body : List ℕ) → BeginsWith rest h text → IsBody (size_of h) body front → IsRequest (request_of h body) (print_request h ++ front)
request_is rest text front h body b is = record { head = h; text = front; begins = record { holds = record { reads = (b.holds.reads.0, refl); few = b.holds.few }; short = b.short }; request_is = refl; body = is }

abbrev HasReading : List ℕ → Type 0
HasReading fed = (items : List HttpItem) × (at : ℕ) × (held : List ℕ) × (fault : Option HttpFault) × ReadsTo http Drops fed items at held fault

opens : (fed rest : List ℕ) (items told : List HttpItem) (at : ℕ) → AreRequests fed items at rest → IsOpen rest told → HasReading fed
opens fed rest items told at a o = (items ++ told, at, rest, None, record { before = items; told = told; requests = a; items_are = refl; going = o })

fails : (fed rest : List ℕ) (items told : List HttpItem) (at offset : ℕ) (why : HttpWhy) → AreRequests fed items at rest → IsFault rest why offset told → HasReading fed
fails fed rest items told at offset why a f =
    let e : HttpFault = record { at = at + offset; why = why } in
    (items ++ told, at, [], Some e, ([], record { before = items; told = told; rest = rest; offset = offset; requests = a; items_are = refl; place_is = refl; fault = f }, refl))

-- requests, and fewer than n bytes after them
reading_on : (n : ℕ) (fed rest : List ℕ) (items : List HttpItem) (at : ℕ) → length rest < n → AreRequests fed items at rest → HasReading fed
reading_on zero fed rest items at short a = absurd (omega (arith, short))
reading_on (suc n) fed rest items at short a = go (λ more now place less requests. reading_on n fed more now place less requests) (head_turn rest) (cases_lt (length rest) 16384)
  where
    go : ((more : List ℕ) (now : List HttpItem) (place : ℕ) → length more < n → AreRequests fed now place more → HasReading fed) → HeadTurn rest → (length rest < 16384) ⊎ (16384 ≤ length rest) → HasReading fed
    go ih (inr (inr never)) f = fails fed rest items [] at 0 BadHead a (never, refl, refl)
    go ih (inr (inl o)) (inr long) = fails fed rest items [] at 0 TooLong a (inl (long, o, refl, refl))
    go ih (inr (inl o)) (inl few) = opens fed rest items [] at a (inl (few, subst IsOpenHead (take_all 16384 rest (omega (arith, few))) o, refl))
    go ih (inl (h, text, b)) f = choose (some_body (size_of h) text)
      where
        choose : BodyVerdict (size_of h) text → HasReading fed
        choose (inr (inl o)) = opens fed rest items (told_of h) at a (inr (h, text, b, o, refl))
        choose (inr (inr (inl z))) = fails fed rest items [] at 0 BadLength a (h, text, b, z, refl, refl)
        choose (inr (inr (inr (inl long)))) = fails fed rest items (told_of h) at 0 TooLong a (inr (h, text, b, long, refl, refl))
        choose (inr (inr (inr (inr (z, (place, bad)))))) = fails fed rest items (told_of h) at (length (print_request h) + place) BadChunk a (h, text, place, b, z, bad, refl, refl)
        choose (inl (body, front, more, is, e)) =
            let r = request_of h body in
            let x = print_request h ++ front in
            let whole : rest ≡ x ++ more = b.holds.reads.1 ∙ ap (λ (v : List ℕ). print_request h ++ v) e ∙ sym (append_assoc (print_request h) front more) in
            let m : length rest ≡ length x + length more = ap length whole ∙ length-append x more in
            let k : length x ≡ length (print_request h) + length front = length-append (print_request h) front in
            let j = some_head h in
            ih more (items ++ items_of r) (at + length x) (omega (arith, m, k, j, short)) (requests_push fed x more items at r (subst (AreRequests fed items at) whole a) (request_is rest text front h body b is))

pub some_reading : SomeReading http Drops
some_reading fed = reading_on (length fed + 1) fed fed [] 0 (omega arith) (no_requests fed)
