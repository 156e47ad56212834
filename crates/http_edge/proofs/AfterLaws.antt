-- What a reader has read after a piece after a head.
use Rattle.std.proofs.Common.{◌≡◌, ℕ, ◌+◌, List, [], ◌∷◌, ◌++◌, length, take, drop, refl, sym, ap, ◌∙◌, subst, arith, inr, length-append, length-take-le, append_assoc, append-nil, take-append-drop}
use Rattle.std.specs.Prelude.{Option, Some, None, IsSome, Ok, Err}
use Rattle.httparse.specs.Grammar.{RequestHead, print_request}
use Rattle.event_form.specs.declared.feed_fault.FeedFault.TheVariants.{Fault}
use Rattle.http_edge.specs.declared.fault.HttpFault.{HttpFault}
use Rattle.http_edge.specs.declared.fault.HttpWhy.{HttpWhy}
use Rattle.http_edge.specs.declared.fault.HttpWhy.TheVariants.{BadHead, BadLength, TooLong, BadChunk}
use Rattle.http_edge.specs.declared.gather.Ending.{Ending}
use Rattle.http_edge.specs.declared.gather.Ending.TheVariants.{Whole, Open, Bad}
use Rattle.http_edge.specs.declared.head.Head.{Head}
use Rattle.http_edge.specs.declared.request.HttpItem.{HttpItem}
use Rattle.http_edge.specs.declared.request.HttpItem.TheVariants.{Request}
use Rattle.http_edge.specs.declared.request.HttpRequest.{HttpRequest}
use Rattle.http_edge.specs.declared.stage.Stage.{Stage}
use Rattle.http_edge.specs.Lengths.{size_of}
use Rattle.http_edge.specs.Bodies.{Reaches}
use Rattle.http_edge.specs.HttpStream.{BeginsWith, IsRequest, IsFault, AreRequests, items_of, told_of}
use Rattle.http_edge.specs.Reading.{Reading, ReadsTo, Reads, Holds, Feeds}
use Rattle.http_edge.specs.Keeping.{FeedsAll, answer, moved}
use Rattle.http_edge.specs.Gathering.{GathersTo}
use Rattle.http_edge.specs.Scanning.{ScansTo, place_of}
use Rattle.http_edge.proofs.FaultLaws.{begins_more}
use Rattle.http_edge.specs.Waits.{with_body}
use Rattle.http_edge.proofs.NextLaws.{is_request, told_first, is_open}
use Rattle.http_edge.proofs.StreamLaws.{requests_then}
use Rattle.http_edge.proofs.FeedLaws.{told_head, reads_none, requests_more_text}

-- the body's text and the bytes after it
text_more : (front unread piece all : List ℕ) (used : ℕ) → all ≡ unread ++ piece → (front ++ unread) ++ piece ≡ (front ++ take used all) ++ drop used all
text_more front unread piece all used e = append_assoc front unread piece ∙ ap (λ (v : List ℕ). front ++ v) (sym e ∙ sym (take-append-drop used all)) ∙ sym (append_assoc front (take used all) (drop used all))

pub open_feeds : (old : Reading) (all : List ℕ) (head : Head) (got : List ℕ) (used : ℕ) (now : Stage) (new : Reading) → old.fault ≡ None → old.begun ≡ Some head → GathersTo old.stage (length old.body) all got used (Open now) → new ≡ record { waiting = old.waiting; at = old.at; begun = old.begun; stage = now; body = old.body ++ got; read = old.read + used; unread = drop used all; fault = old.fault } → FeedsAll old all (Ok tt) new
open_feeds old all head got used now new e b (brings, awaits, short) n piece f = subst (Feeds old piece (Ok tt)) (sym n) (
  e,
  λ fed taken r.
      let x = reads_none fed (taken ++ old.waiting) old e r in
      let h = subst (λ (g : Option Head). Holds g old.stage old.body old.read old.unread x.0) b x.2 in
      let tree = h.0 in
      let front = h.1 in
      let few = brings.inside in
      let reach = brings.reaches (size_of tree) old.body front refl h.4 in
      let begins : BeginsWith (x.0 ++ piece) tree ((front ++ take used all) ++ drop used all) = subst (BeginsWith (x.0 ++ piece) tree) (text_more front old.unread piece all used f) (begins_more x.0 tree (front ++ old.unread) piece h.2) in
      let told = told_head x.0 x.1.told tree (front ++ old.unread) x.1.going h.2 in
      let k : length (front ++ take used all) ≡ length front + used = length-append front (take used all) ∙ ap (λ (m : ℕ). length front + m) (length-take-le used all few) in
      let read = h.6 in
      subst (ReadsTo (fed ++ piece) (taken ++ old.waiting) (record { waiting = old.waiting; at = old.at; begun = old.begun; stage = now; body = old.body ++ got; read = old.read + used; unread = drop used all; fault = old.fault })) (sym e) (
        x.0 ++ piece,
        record {
          before = x.1.before;
          told = x.1.told;
          requests = requests_more_text fed piece x.0 x.1.before old.at x.1.requests;
          items_are = x.1.items_are;
          going = is_open (x.0 ++ piece) tree (front ++ take used all) (drop used all) (old.body ++ got) now x.1.told begins reach awaits told;
        },
        subst (λ (g : Option Head). Holds g now (old.body ++ got) (old.read + used) (drop used all) (x.0 ++ piece)) (sym b) (tree, front ++ take used all, begins, h.3, reach, awaits, omega (arith, read, k)),
      ),
)

pub bad_feeds : (old : Reading) (all : List ℕ) (head : Head) (got : List ℕ) (used : ℕ) (why : HttpWhy) (place : ℕ) (begun : Option Head) (stage : Stage) (body : List ℕ) (read : ℕ) (unread : List ℕ) → old.fault ≡ None → old.begun ≡ Some head → GathersTo old.stage (length old.body) all got used (Bad why) → place ≡ place_of why (old.read + used) → read + length unread ≡ 0 → FeedsAll old all (Err (Fault (record { at = old.at + place; why = why }))) (record { waiting = old.waiting; at = old.at; begun = begun; stage = stage; body = body; read = read; unread = unread; fault = Some (record { at = old.at + place; why = why }) })
bad_feeds old all head got used why place begun stage body read unread e b g p none piece f = (
  refl,
  λ fed taken r.
      let x = reads_none fed (taken ++ old.waiting) old e r in
      let h = subst (λ (k : Option Head). Holds k old.stage old.body old.read old.unread x.0) b x.2 in
      let told = told_head x.0 x.1.told h.0 (h.1 ++ old.unread) x.1.going h.2 in
      let begins : BeginsWith (x.0 ++ piece) h.0 (h.1 ++ all) = subst (BeginsWith (x.0 ++ piece) h.0) (append_assoc h.1 old.unread piece ∙ ap (λ (v : List ℕ). h.1 ++ v) (sym f)) (begins_more x.0 h.0 (h.1 ++ old.unread) piece h.2) in (
        record {
          before = x.1.before;
          told = x.1.told;
          rest = x.0 ++ piece;
          offset = place;
          requests = requests_more_text fed piece x.0 x.1.before old.at x.1.requests;
          items_are = x.1.items_are;
          place_is = refl;
          fault = subst (λ (m : ℕ). IsFault (x.0 ++ piece) why m x.1.told) (sym p) (faulty why g h.0 h.1 begins h.4 h.6 told);
        },
        none,
      ),
)
  where
    faulty : (why : HttpWhy) → GathersTo old.stage (length old.body) all got used (Bad why) → (tree : RequestHead) (front : List ℕ) → {rest : List ℕ} → BeginsWith rest tree (front ++ all) → Reaches (size_of tree) old.stage old.body front → old.read ≡ length (print_request tree) + length front → {told : List HttpItem} → told ≡ told_of tree → IsFault rest why (place_of why (old.read + used)) told
    faulty BadHead g tree front begins r read told = absurd g
    faulty BadLength g tree front begins r read told = absurd g
    faulty TooLong (few, is) tree front begins r read told = inr (tree, front ++ all, begins, is (size_of tree) old.body front refl r, refl, told)
    faulty BadChunk (few, is) tree front begins r read told = let bad = is (size_of tree) old.body front refl r in (tree, front ++ all, length front + used, begins, bad.0, bad.1, omega (arith, read), told)

-- the items of one request more, and of those after it
items_after : (taken waiting told one more before later first : List HttpItem) → taken ++ waiting ≡ first ++ told → more ≡ before ++ later → taken ++ ((waiting ++ one) ++ more) ≡ (first ++ ((told ++ one) ++ before)) ++ later
items_after taken waiting told one more before later first e f = left taken waiting one more ∙ (λ i. (e i ++ one) ++ f i) ∙ right first told one before later
  where
    left : (a b c d : List HttpItem) → a ++ ((b ++ c) ++ d) ≡ ((a ++ b) ++ c) ++ d
    left a b c d = simp append_assoc

    right : (a b c d e : List HttpItem) → ((a ++ b) ++ c) ++ (d ++ e) ≡ (a ++ ((b ++ c) ++ d)) ++ e
    right a b c d e = simp append_assoc

-- the bytes of one request, and those after it
bytes_after : (print front unread piece all : List ℕ) (used : ℕ) → all ≡ unread ++ piece → (print ++ (front ++ unread)) ++ piece ≡ (print ++ (front ++ take used all)) ++ drop used all
bytes_after print front unread piece all used e = append_assoc print (front ++ unread) piece ∙ ap (λ (v : List ℕ). print ++ v) (text_more front unread piece all used e) ∙ sym (append_assoc print (front ++ take used all) (drop used all))

-- what is after one request
one_then : (r : HttpRequest) (x y : List ℕ) (more : List HttpItem) (from : ℕ) (last : List ℕ) → IsRequest r x → AreRequests y more from last → AreRequests (x ++ y) (items_of r ++ more) (length x + from) last
one_then r x y more from last is s = requests_then x y [] (items_of r) more (length x) from last (record { requests = r ∷ []; front = x; spelled = (x, [], is, sym (append-nil x), refl); whole = sym (append-nil x); at_is = refl; items_are = sym (append-nil (items_of r)) }) s

pub some_head : (begun : Option Head) → IsSome begun → (head : Head) × (begun ≡ Some head)
some_head None s = absurd (cc)
some_head (Some head) s = (head, refl)

pub gathered : (stage : Stage) (n : ℕ) (body all got : List ℕ) (used : ℕ) (e f : Ending) → n ≡ length body → e ≡ f → GathersTo stage n all got used e → GathersTo stage (length body) all got used f
gathered stage n body all got used e f k i g = subst (GathersTo stage (length body) all got used) i (subst (λ (m : ℕ). GathersTo stage m all got used e) k g)

pub feeds_after : (old : Reading) (all : List ℕ) (head : Head) (got : List ℕ) (used base : ℕ) (items : List HttpItem) (from : ℕ) (begun : Option Head) (stage : Stage) (body : List ℕ) (read : ℕ) (unread : List ℕ) (fault : Option HttpFault) → old.fault ≡ None → old.begun ≡ Some head → GathersTo old.stage (length old.body) all got used Whole → base ≡ old.at + (old.read + used) → ScansTo (drop used all) items from begun stage body read unread fault → FeedsAll old all (answer (moved base fault)) (record { waiting = (old.waiting ++ Request (with_body head (old.body ++ got)) ∷ []) ++ items; at = base + from; begun = begun; stage = stage; body = body; read = read; unread = unread; fault = moved base fault })
feeds_after old all head got used base items from begun stage body read unread fault e b (few, is) place s piece f = go fault s
  where
    known : (fed : List ℕ) (taken : List HttpItem) → Reads fed taken old → (before told : List HttpItem) → AreRequests (drop used all) before from (drop from (drop used all)) → items ≡ before ++ told → (first : List HttpItem) × AreRequests (fed ++ piece) (first ++ before) (base + from) (drop from (drop used all)) × (taken ++ ((old.waiting ++ Request (with_body head (old.body ++ got)) ∷ []) ++ items) ≡ (first ++ before) ++ told)
    known fed taken reads before told more m =
        let x = reads_none fed (taken ++ old.waiting) old e reads in
        let h = subst (λ (g : Option Head). Holds g old.stage old.body old.read old.unread x.0) b x.2 in
        let tree = h.0 in
        let front = h.1 in
        let told_is = told_head x.0 x.1.told tree (front ++ old.unread) x.1.going h.2 in
        let body_is = is (size_of tree) old.body front refl h.4 in
        let z = print_request tree ++ (front ++ take used all) in
        let one = is_request x.0 tree head (front ++ old.unread) (front ++ take used all) z (old.body ++ got) h.2 h.3 body_is refl in
        let bytes : x.0 ++ piece ≡ z ++ drop used all = ap (λ (v : List ℕ). v ++ piece) h.2.holds.reads.1 ∙ bytes_after (print_request tree) front old.unread piece all used f in
        let both = requests_then fed piece x.0 x.1.before (items_of (with_body head (old.body ++ got)) ++ before) old.at (length z + from) (drop from (drop used all)) x.1.requests (subst (λ (v : List ℕ). AreRequests v (items_of (with_body head (old.body ++ got)) ++ before) (length z + from) (drop from (drop used all))) (sym bytes) (one_then (with_body head (old.body ++ got)) z (drop used all) before from (drop from (drop used all)) one more)) in
        let long : length z ≡ old.read + used = (let k = length-append (print_request tree) (front ++ take used all) in let l = length-append front (take used all) in let t = length-take-le used all few in let read = h.6 in omega (arith, k, l, t, read)) in
        let at_is : old.at + (length z + from) ≡ base + from = omega (arith, long, place) in
        let first_is : items_of (with_body head (old.body ++ got)) ≡ x.1.told ++ Request (with_body head (old.body ++ got)) ∷ [] = told_first tree head (old.body ++ got) x.1.told h.3 told_is in
        let items_is = items_after taken old.waiting x.1.told (Request (with_body head (old.body ++ got)) ∷ []) items before told x.1.before x.1.items_are m in (
          x.1.before ++ items_of (with_body head (old.body ++ got)),
          subst (λ (n : ℕ). AreRequests (fed ++ piece) ((x.1.before ++ items_of (with_body head (old.body ++ got))) ++ before) n (drop from (drop used all))) at_is (subst (λ (v : List HttpItem). AreRequests (fed ++ piece) v (old.at + (length z + from)) (drop from (drop used all))) (sym (append_assoc x.1.before (items_of (with_body head (old.body ++ got))) before)) both),
          items_is ∙ ap (λ (v : List HttpItem). v ++ told) (ap (λ (v : List HttpItem). x.1.before ++ (v ++ before)) (sym first_is) ∙ sym (append_assoc x.1.before (items_of (with_body head (old.body ++ got))) before)),
        )

    go : (fault : Option HttpFault) → ScansTo (drop used all) items from begun stage body read unread fault → Feeds old piece (answer (moved base fault)) (record { waiting = (old.waiting ++ Request (with_body head (old.body ++ got)) ∷ []) ++ items; at = base + from; begun = begun; stage = stage; body = body; read = read; unread = unread; fault = moved base fault })
    go None s = (
      refl,
      λ fed taken reads.
          let k = known fed taken reads s.before s.told s.requests s.items_are in
          (drop from (drop used all), record { before = k.0 ++ s.before; told = s.told; requests = k.1; items_are = k.2; going = s.leaves.going }, s.leaves.holds),
    )
    go (Some fault) s = (
      refl,
      λ fed taken reads.
          let k = known fed taken reads s.before s.told s.requests s.items_are in
          let l = s.leaves in
          let after = l.2 in (
            record {
              before = k.0 ++ s.before;
              told = s.told;
              rest = drop from (drop used all);
              offset = l.0;
              requests = k.1;
              items_are = k.2;
              place_is = omega (arith, after);
              fault = l.1;
            },
            (let n : length unread ≡ 0 = ap length l.4 in let m = l.3 in omega (arith, n, m)),
          ),
    )
