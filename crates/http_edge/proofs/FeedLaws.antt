-- What a reader has read after a piece.
use Rattle.std.proofs.Common.{◌≡◌, ℕ, ◌+◌, List, [], ◌++◌, length, drop, refl, sym, ap, ◌∙◌, subst, arith, inl, inr, append_assoc, append-nil}
use Rattle.std.specs.Prelude.{Option, Some, None, Err}
use Rattle.httparse.specs.Grammar.{RequestHead}
use Rattle.httparse.proofs.GrammarLemmas.{request_unique}
use Rattle.event_form.specs.declared.feed_fault.FeedFault.TheVariants.{Fault}
use Rattle.http_edge.specs.declared.fault.HttpFault.{HttpFault}
use Rattle.http_edge.specs.declared.head.Head.{Head}
use Rattle.http_edge.specs.declared.request.HttpItem.{HttpItem}
use Rattle.http_edge.specs.declared.stage.Stage.{Stage}
use Rattle.http_edge.specs.Heads.{IsOpenHead}
use Rattle.http_edge.specs.HttpStream.{BeginsWith, IsOpen, IsStream, IsFaulty, AreRequests, told_of}
use Rattle.http_edge.specs.Reading.{Reading, ReadsTo, Reads, Holds, Feeds}
use Rattle.http_edge.specs.Keeping.{FeedsAll, answer, moved}
use Rattle.http_edge.specs.Scanning.{ScansTo}
use Rattle.http_edge.proofs.FaultLaws.{fault_more}
use Rattle.http_edge.proofs.StreamLaws.{requests_then}

-- nothing is told of a head that is not whole
pub told_none : (rest : List ℕ) (told : List HttpItem) → IsOpen rest told → IsOpenHead rest → told ≡ []
told_none rest told (inl (a, o, e)) h = e
told_none rest told (inr (k, text, begins, o, e)) h = absurd (h.none k text begins.holds)

-- what is told of a head that is whole
pub told_head : (rest : List ℕ) (told : List HttpItem) (h : RequestHead) (text : List ℕ) → IsOpen rest told → BeginsWith rest h text → told ≡ told_of h
told_head rest told h text (inl (a, o, e)) begins = absurd (o.none h text begins.holds)
told_head rest told h text (inr (k, other, b, o, e)) begins = e ∙ ap told_of (request_unique rest k h other text b.holds.reads begins.holds.reads).0

-- a reader without a fault
pub reads_none : (fed : List ℕ) (items : List HttpItem) (r : Reading) → r.fault ≡ None → ReadsTo fed items r r.fault → (rest : List ℕ) × IsStream fed items r.at rest × Holds r.begun r.stage r.body r.read r.unread rest
reads_none fed items r e x = subst (ReadsTo fed items r) e x

-- a piece after whole requests
pub requests_more_text : (fed piece rest : List ℕ) (items : List HttpItem) (at : ℕ) → AreRequests fed items at rest → AreRequests (fed ++ piece) items at (rest ++ piece)
requests_more_text fed piece rest items at s = record {
  requests = s.requests;
  front = s.front;
  spelled = s.spelled;
  whole = ap (λ (v : List ℕ). v ++ piece) s.whole ∙ append_assoc s.front rest piece;
  at_is = s.at_is;
  items_are = s.items_are;
}

pub feeds_faulty : (old : Reading) (piece : List ℕ) (e : HttpFault) → old.fault ≡ Some e → Feeds old piece (Err (Fault e)) old
feeds_faulty old piece e q = (
  q,
  λ fed taken r.
      let k = subst (ReadsTo fed (taken ++ old.waiting) old) q r in
      let f = k.0 in
      subst (ReadsTo (fed ++ piece) (taken ++ old.waiting) old) (sym q) (
        record {
          before = f.before;
          told = f.told;
          rest = f.rest ++ piece;
          offset = f.offset;
          requests = requests_more_text fed piece f.rest f.before old.at f.requests;
          items_are = f.items_are;
          place_is = f.place_is;
          fault = fault_more f.rest piece e.why f.offset f.told f.fault;
        },
        k.1,
      ),
)

-- the items of requests after requests
pub items_then : (taken waiting more first before told : List HttpItem) → taken ++ waiting ≡ first → more ≡ before ++ told → taken ++ (waiting ++ more) ≡ (first ++ before) ++ told
items_then taken waiting more first before told e f = sym (append_assoc taken waiting more) ∙ (λ i. e i ++ f i) ∙ sym (append_assoc first before told)

pub feeds_begin : (old : Reading) (all : List ℕ) (items : List HttpItem) (from : ℕ) (begun : Option Head) (stage : Stage) (body : List ℕ) (read : ℕ) (unread : List ℕ) (fault : Option HttpFault) → old.fault ≡ None → old.begun ≡ None → ScansTo all items from begun stage body read unread fault → FeedsAll old all (answer (moved old.at fault)) (record { waiting = old.waiting ++ items; at = old.at + from; begun = begun; stage = stage; body = body; read = read; unread = unread; fault = moved old.at fault })
feeds_begin old all items from begun stage body read unread fault e b s piece f = go fault s
  where
    first : (fed : List ℕ) (taken : List HttpItem) → Reads fed taken old → (rest : List ℕ) × (before : List HttpItem) × AreRequests fed before old.at rest × (taken ++ old.waiting ≡ before) × (all ≡ rest ++ piece)
    first fed taken r =
        let x = reads_none fed (taken ++ old.waiting) old e r in
        let h = subst (λ (g : Option Head). Holds g old.stage old.body old.read old.unread x.0) b x.2 in
        let none = told_none x.0 x.1.told x.1.going h.4 in
        (x.0, x.1.before, x.1.requests, x.1.items_are ∙ ap (λ (v : List HttpItem). x.1.before ++ v) none ∙ append-nil x.1.before, f ∙ ap (λ (v : List ℕ). v ++ piece) (sym h.0))

    go : (fault : Option HttpFault) → ScansTo all items from begun stage body read unread fault → Feeds old piece (answer (moved old.at fault)) (record { waiting = old.waiting ++ items; at = old.at + from; begun = begun; stage = stage; body = body; read = read; unread = unread; fault = moved old.at fault })
    go None s = (
      refl,
      λ fed taken r.
          let x = first fed taken r in (
            drop from all,
            record {
              before = x.1 ++ s.before;
              told = s.told;
              requests = requests_then fed piece x.0 x.1 s.before old.at from (drop from all) x.2 (subst (λ (v : List ℕ). AreRequests v s.before from (drop from all)) x.4 s.requests);
              items_are = items_then taken old.waiting items x.1 s.before s.told x.3 s.items_are;
              going = s.leaves.going;
            },
            s.leaves.holds,
          ),
    )
    go (Some fault) s = (
      refl,
      λ fed taken r.
          let x = first fed taken r in
          let l = s.leaves in
          let place = l.2 in (
            record {
              before = x.1 ++ s.before;
              told = s.told;
              rest = drop from all;
              offset = l.0;
              requests = requests_then fed piece x.0 x.1 s.before old.at from (drop from all) x.2 (subst (λ (v : List ℕ). AreRequests v s.before from (drop from all)) x.4 s.requests);
              items_are = items_then taken old.waiting items x.1 s.before s.told x.3 s.items_are;
              place_is = omega (arith, place);
              fault = l.1;
            },
            (let n : length unread ≡ 0 = ap length l.4 in let m = l.3 in omega (arith, n, m)),
          ),
    )

-- what waits is no part of what was read
pub reads_waiting : (fed : List ℕ) (items more : List HttpItem) (r : Reading) (waiting : List HttpItem) (fault : Option HttpFault) → items ≡ more → ReadsTo fed items r fault → ReadsTo fed more (record r { waiting = waiting }) fault
reads_waiting fed items more r waiting None e x = (x.0, subst (λ (v : List HttpItem). IsStream fed v r.at x.0) e x.1, x.2)
reads_waiting fed items more r waiting (Some f) e x = (subst (λ (v : List HttpItem). IsFaulty fed v r.at f.at f.why) e x.0, x.1)
