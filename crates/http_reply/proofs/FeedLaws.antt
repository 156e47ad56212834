-- What a reader has read after a piece.
use Rattle.std.proofs.Common.{◌≡◌, ℕ, ◌+◌, List, [], ◌++◌, length, take, drop, refl, sym, ap, ◌∙◌, subst, arith, inl, inr, ◌<◌, length-append, length-take-le, append_assoc, append-nil, take-append-drop, zero-add}
use Rattle.std.specs.Prelude.{Option, Some, None, IsSome, Result, Ok, Err}
use Rattle.httparse.specs.Grammar.{ResponseHead, print_response}
use Rattle.event_form.specs.declared.feed_fault.FeedFault.{FeedFault}
use Rattle.event_form.specs.declared.feed_fault.FeedFault.TheVariants.{Fault}
use Rattle.http_edge.specs.declared.fault.HttpFault.{HttpFault}
use Rattle.http_edge.specs.declared.fault.HttpWhy.{HttpWhy}
use Rattle.http_edge.specs.declared.fault.HttpWhy.TheVariants.{BadHead, BadLength, TooLong, BadChunk}
use Rattle.http_edge.specs.declared.gather.Ending.{Ending}
use Rattle.http_edge.specs.declared.gather.Ending.TheVariants.{Whole, Open, Bad}
use Rattle.http_edge.specs.declared.stage.Stage.{Stage}
use Rattle.http_edge.specs.Bodies.{Reaches}
use Rattle.http_edge.specs.Gathering.{GathersTo}
use Rattle.http_edge.specs.Scanning.{place_of}
use Rattle.http_reply.specs.declared.left.Left.{Left}
use Rattle.http_reply.specs.declared.reply.HttpReply.{HttpReply}
use Rattle.http_reply.specs.declared.scan.Scanned.{Scanned}
use Rattle.http_reply.specs.Heads.{BeginsWith, IsOpenHead}
use Rattle.http_reply.specs.Sizes.{size_of}
use Rattle.http_reply.specs.ReplyStream.{AreReplies, IsStream, IsFaulty, IsFault, IsReply, given_of}
use Rattle.http_reply.specs.Reading.{Reading, ReadsTo, Reads, Holds, Feeds}
use Rattle.http_reply.specs.Keeping.{FeedsAll, answer, settled}
use Rattle.http_reply.specs.Scanning.{IsCleared, Leaves, Scans, ScansTo}
use Rattle.http_reply.proofs.FaultLaws.{begins_more, fault_more}
use Rattle.http_reply.proofs.OpeningLaws.{open_nil}
use Rattle.http_reply.proofs.NextLaws.{is_reply, is_open}
use Rattle.http_reply.proofs.StreamLaws.{replies_then, replies_more_text, one_reply}

-- a reader without a fault
reads_none : (fed : List ℕ) (given : List HttpReply) (r : Reading) → r.fault ≡ None → ReadsTo fed given r r.fault → (rest : List ℕ) × IsStream fed given r.at rest × Holds r.begun r.stage r.body r.read r.unread rest
reads_none fed given r e x = subst (ReadsTo fed given r) e x

pub feeds_faulty : (old : Reading) (piece : List ℕ) (e : HttpFault) → old.fault ≡ Some e → Feeds old piece (Err (Fault e)) old
feeds_faulty old piece e q = (
  q,
  λ fed taken r.
      let k = subst (ReadsTo fed (taken ++ old.waiting) old) q r in
      let f = k.0 in
      subst (ReadsTo (fed ++ piece) (taken ++ old.waiting) old) (sym q) (
        record {
          rest = f.rest ++ piece;
          offset = f.offset;
          replies = replies_more_text 0 fed piece f.rest (taken ++ old.waiting) old.at f.replies;
          place_is = f.place_is;
          fault = fault_more f.rest piece e.why f.offset f.fault;
        },
        k.1,
      ),
)

-- replies, and after them what a scan of the rest and a piece brought
scanned_to : (fed piece rest all : List ℕ) (first given now w : List HttpReply) (at from : ℕ) (begun : Option ℕ) (stage : Stage) (body : List ℕ) (read : ℕ) (unread : List ℕ) (fault : Option HttpFault) → AreReplies 0 fed first at rest → all ≡ rest ++ piece → ScansTo at all given from begun stage body read unread fault → now ≡ first ++ given → ReadsTo (fed ++ piece) now (record { waiting = w; at = at + from; begun = begun; stage = stage; body = body; read = read; unread = unread; fault = fault }) fault
scanned_to fed piece rest all first given now w at from begun stage body read unread fault s f x n = go fault x
  where
    both : AreReplies at all given from (drop from all) → AreReplies 0 (fed ++ piece) now (at + from) (drop from all)
    both y = subst (λ (v : List HttpReply). AreReplies 0 (fed ++ piece) v (at + from) (drop from all)) (sym n) (replies_then 0 fed piece rest first given at from (drop from all) s (subst (λ (m : ℕ). AreReplies m (rest ++ piece) given from (drop from all)) (sym (zero-add at)) (subst (λ (v : List ℕ). AreReplies at v given from (drop from all)) f y)))

    go : (fault : Option HttpFault) → ScansTo at all given from begun stage body read unread fault → ReadsTo (fed ++ piece) now (record { waiting = w; at = at + from; begun = begun; stage = stage; body = body; read = read; unread = unread; fault = fault }) fault
    go None x = (drop from all, record { replies = both x.replies; going = x.leaves.going }, x.leaves.holds)
    go (Some e) x =
        let l = x.leaves in (
          record { rest = drop from all; offset = l.0; replies = both x.replies; place_is = l.2; fault = l.1 },
          (let k : length unread ≡ 0 = ap length l.4 in let m = l.3 in omega (arith, k, m)),
        )

-- what a call leaves and answers
told_feeds : (old : Reading) (piece : List ℕ) (fault : Option HttpFault) (new : Reading) → new.fault ≡ fault → ((fed : List ℕ) (taken : List HttpReply) → Reads fed taken old → Reads (fed ++ piece) taken new) → Feeds old piece (answer fault) new
told_feeds old piece None new e f = (e, f)
told_feeds old piece (Some fault) new e f = (e, f)

-- bytes that begin a reply, and a piece after them
pub begin_feeds : (old : Reading) (all : List ℕ) (s : Scanned) (waiting : List HttpReply) (new : Reading) (result : Result (Unit {0}) (FeedFault HttpFault)) → old.fault ≡ None → old.begun ≡ None → Scans old.at all s → waiting ≡ old.waiting ++ s.replies.items → new ≡ settled (record old { waiting = waiting }) old.at s.left → result ≡ answer s.left.fault → FeedsAll old all result new
begin_feeds old all s waiting new result e b x w n a piece f =
    let l = s.left in
    let now : Reading = record { waiting = waiting; at = old.at + l.from; begun = l.begun; stage = l.stage; body = l.body.items; read = l.read; unread = l.unread.items; fault = l.fault } in
    subst (λ (q : Result (Unit {0}) (FeedFault HttpFault)). Feeds old piece q new) (sym a) (subst (Feeds old piece (answer l.fault)) (sym n) (told_feeds old piece l.fault now refl (λ fed taken r.
    let y = reads_none fed (taken ++ old.waiting) old e r in
    let h = subst (λ (g : Option ℕ). Holds g old.stage old.body old.read old.unread y.0) b y.2 in
    scanned_to fed piece y.0 all (taken ++ old.waiting) s.replies.items (taken ++ waiting) waiting old.at l.from l.begun l.stage l.body.items l.read l.unread.items l.fault y.1.replies (f ∙ ap (λ (v : List ℕ). v ++ piece) (sym h.0)) x (ap (λ (v : List HttpReply). taken ++ v) w ∙ sym (append_assoc taken old.waiting s.replies.items)))))

-- the body's text and the bytes after it
text_more : (front unread piece all : List ℕ) (used : ℕ) → all ≡ unread ++ piece → (front ++ unread) ++ piece ≡ (front ++ take used all) ++ drop used all
text_more front unread piece all used e = append_assoc front unread piece ∙ ap (λ (v : List ℕ). front ++ v) (sym e ∙ sym (take-append-drop used all)) ∙ sym (append_assoc front (take used all) (drop used all))

pub some_status : (begun : Option ℕ) → IsSome begun → (status : ℕ) × (begun ≡ Some status)
some_status None s = absurd (cc)
some_status (Some status) s = (status, refl)

pub gathered : (stage : Stage) (n : ℕ) (body all got : List ℕ) (used : ℕ) (e f : Ending) → n ≡ length body → e ≡ f → GathersTo stage n all got used e → GathersTo stage (length body) all got used f
gathered stage n body all got used e f k i g = subst (GathersTo stage (length body) all got used) i (subst (λ (m : ℕ). GathersTo stage m all got used e) k g)

-- a body that goes on
pub open_feeds : (old : Reading) (all : List ℕ) (status : ℕ) (got : List ℕ) (used : ℕ) (now : Stage) (new : Reading) → old.fault ≡ None → old.begun ≡ Some status → GathersTo old.stage (length old.body) all got used (Open now) → new ≡ record old { stage = now; body = old.body ++ got; read = old.read + used; unread = drop used all } → FeedsAll old all (Ok tt) new
open_feeds old all status got used now new e b (brings, awaits, short) n piece f = subst (Feeds old piece (Ok tt)) (sym n) (
  e,
  λ fed taken r.
      let x = reads_none fed (taken ++ old.waiting) old e r in
      let h = subst (λ (g : Option ℕ). Holds g old.stage old.body old.read old.unread x.0) b x.2 in
      let tree = h.0 in
      let front = h.1 in
      let few = brings.inside in
      let reach = brings.reaches (size_of tree) old.body front refl h.4 in
      let begins : BeginsWith (x.0 ++ piece) tree ((front ++ take used all) ++ drop used all) = subst (BeginsWith (x.0 ++ piece) tree) (text_more front old.unread piece all used f) (begins_more x.0 tree (front ++ old.unread) piece h.2) in
      let k : length (front ++ take used all) ≡ length front + used = length-append front (take used all) ∙ ap (λ (m : ℕ). length front + m) (length-take-le used all few) in
      let read = h.6 in
      subst (ReadsTo (fed ++ piece) (taken ++ old.waiting) (record { waiting = old.waiting; at = old.at; begun = old.begun; stage = now; body = old.body ++ got; read = old.read + used; unread = drop used all; fault = old.fault })) (sym e) (
        x.0 ++ piece,
        record {
          replies = replies_more_text 0 fed piece x.0 (taken ++ old.waiting) old.at x.1.replies;
          going = is_open (x.0 ++ piece) tree (front ++ take used all) (drop used all) (old.body ++ got) now begins reach awaits;
        },
        subst (λ (g : Option ℕ). Holds g now (old.body ++ got) (old.read + used) (drop used all) (x.0 ++ piece)) (sym b) (tree, front ++ take used all, begins, h.3, reach, awaits, omega (arith, read, k)),
      ),
)

-- a body at fault
pub bad_feeds : (old : Reading) (all : List ℕ) (status : ℕ) (got : List ℕ) (used : ℕ) (why : HttpWhy) (place : ℕ) (l : Left) (new : Reading) (result : Result (Unit {0}) (FeedFault HttpFault)) → old.fault ≡ None → old.begun ≡ Some status → GathersTo old.stage (length old.body) all got used (Bad why) → place ≡ old.at + place_of why (old.read + used) → IsCleared l 0 (record { at = place; why = why }) → new ≡ settled old old.at l → result ≡ answer l.fault → FeedsAll old all result new
bad_feeds old all status got used why place l new result e b g p z n a piece f =
    let fault : HttpFault = record { at = place; why = why } in
    let now : Reading = record { waiting = old.waiting; at = old.at + l.from; begun = l.begun; stage = l.stage; body = l.body.items; read = l.read; unread = l.unread.items; fault = Some fault } in
    let new_is : new ≡ now = n ∙ ap (λ (q : Option HttpFault). record { waiting = old.waiting; at = old.at + l.from; begun = l.begun; stage = l.stage; body = l.body.items; read = l.read; unread = l.unread.items; fault = q }) z.fault_is in
    let result_is : result ≡ Err (Fault fault) = a ∙ ap answer z.fault_is in
    let at_is : old.at + l.from ≡ old.at = let i = z.from_is in omega (arith, i) in
    let none : l.read + length l.unread.items ≡ 0 = let i = z.read_is in let m : length l.unread.items ≡ 0 = ap length z.unread_is in omega (arith, i, m) in
    subst (λ (q : Result (Unit {0}) (FeedFault HttpFault)). Feeds old piece q new) (sym result_is) (subst (Feeds old piece (Err (Fault fault))) (sym new_is) (
      refl,
      λ fed taken r.
          let x = reads_none fed (taken ++ old.waiting) old e r in
          let h = subst (λ (k : Option ℕ). Holds k old.stage old.body old.read old.unread x.0) b x.2 in
          let begins : BeginsWith (x.0 ++ piece) h.0 (h.1 ++ all) = subst (BeginsWith (x.0 ++ piece) h.0) (append_assoc h.1 old.unread piece ∙ ap (λ (v : List ℕ). h.1 ++ v) (sym f)) (begins_more x.0 h.0 (h.1 ++ old.unread) piece h.2) in (
            subst (λ (m : ℕ). IsFaulty (fed ++ piece) (taken ++ old.waiting) m place why) (sym at_is) (record {
              rest = x.0 ++ piece;
              offset = place_of why (old.read + used);
              replies = replies_more_text 0 fed piece x.0 (taken ++ old.waiting) old.at x.1.replies;
              place_is = p;
              fault = faulty why g h.0 h.1 begins h.4 h.6;
            }),
            none,
          ),
    ))
  where
    faulty : (why : HttpWhy) → GathersTo old.stage (length old.body) all got used (Bad why) → (tree : ResponseHead) (front : List ℕ) → {rest : List ℕ} → BeginsWith rest tree (front ++ all) → Reaches (size_of tree) old.stage old.body front → old.read ≡ length (print_response tree) + length front → IsFault rest why (place_of why (old.read + used))
    faulty BadHead g tree front begins r read = absurd g
    faulty BadLength g tree front begins r read = absurd g
    faulty TooLong (few, is) tree front begins r read = inr (tree, front ++ all, begins, is (size_of tree) old.body front refl r, refl)
    faulty BadChunk (few, is) tree front begins r read = let bad = is (size_of tree) old.body front refl r in (tree, front ++ all, length front + used, begins, bad.0, bad.1, omega (arith, read))

-- the bytes of one reply, and those after it
bytes_after : (print front unread piece all : List ℕ) (used : ℕ) → all ≡ unread ++ piece → (print ++ (front ++ unread)) ++ piece ≡ (print ++ (front ++ take used all)) ++ drop used all
bytes_after print front unread piece all used e = append_assoc print (front ++ unread) piece ∙ ap (λ (v : List ℕ). print ++ v) (text_more front unread piece all used e) ∙ sym (append_assoc print (front ++ take used all) (drop used all))

-- a body that is whole, and the replies after it
pub after_feeds : (old : Reading) (all : List ℕ) (status : ℕ) (got : List ℕ) (used base : ℕ) (s : Scanned) (waiting : List HttpReply) (new : Reading) (result : Result (Unit {0}) (FeedFault HttpFault)) → old.fault ≡ None → old.begun ≡ Some status → GathersTo old.stage (length old.body) all got used Whole → base ≡ old.at + (old.read + used) → Scans base (drop used all) s → waiting ≡ (old.waiting ++ given_of (record { status = status; body = old.body ++ got; at = old.at })) ++ s.replies.items → new ≡ settled (record old { waiting = waiting }) base s.left → result ≡ answer s.left.fault → FeedsAll old all result new
after_feeds old all status got used base s waiting new result e b (few, is) place x w n a piece f =
    let l = s.left in
    let reply : HttpReply = record { status = status; body = old.body ++ got; at = old.at } in
    let now : Reading = record { waiting = waiting; at = base + l.from; begun = l.begun; stage = l.stage; body = l.body.items; read = l.read; unread = l.unread.items; fault = l.fault } in
    subst (λ (q : Result (Unit {0}) (FeedFault HttpFault)). Feeds old piece q new) (sym a) (subst (Feeds old piece (answer l.fault)) (sym n) (told_feeds old piece l.fault now refl (λ fed taken r.
    let y = reads_none fed (taken ++ old.waiting) old e r in
    let h = subst (λ (g : Option ℕ). Holds g old.stage old.body old.read old.unread y.0) b y.2 in
    let tree = h.0 in
    let front = h.1 in
    let z = print_response tree ++ (front ++ take used all) in
    let one : IsReply reply z = is_reply y.0 tree status (front ++ old.unread) (front ++ take used all) z (old.body ++ got) old.at h.2 h.3 (is (size_of tree) old.body front refl h.4) refl in
    let bytes : y.0 ++ piece ≡ z ++ drop used all = ap (λ (v : List ℕ). v ++ piece) h.2.holds.reads.1 ∙ bytes_after (print_response tree) front old.unread piece all used f in
    let more : AreReplies (0 + old.at) (y.0 ++ piece) (given_of reply) (length z) (drop used all) = subst (λ (m : ℕ). AreReplies m (y.0 ++ piece) (given_of reply) (length z) (drop used all)) (sym (zero-add old.at)) (subst (λ (v : List ℕ). AreReplies old.at v (given_of reply) (length z) (drop used all)) (sym bytes) (one_reply reply z (drop used all) one)) in
    let both = replies_then 0 fed piece y.0 (taken ++ old.waiting) (given_of reply) old.at (length z) (drop used all) y.1.replies more in
    let long : length z ≡ old.read + used = (let k = length-append (print_response tree) (front ++ take used all) in let j = length-append front (take used all) in let t = length-take-le used all few in let read = h.6 in omega (arith, k, j, t, read)) in
    let far : old.at + length z ≡ base = omega (arith, long, place) in
    let first = (taken ++ old.waiting) ++ given_of reply in
    let here : AreReplies 0 (fed ++ piece) first base (drop used all) = subst (λ (m : ℕ). AreReplies 0 (fed ++ piece) first m (drop used all)) far both in
    let is_now : taken ++ waiting ≡ first ++ s.replies.items = ap (λ (v : List HttpReply). taken ++ v) w ∙ regroup taken old.waiting (given_of reply) s.replies.items in
    subst (λ (v : List ℕ). ReadsTo v (taken ++ waiting) now l.fault) (append-nil (fed ++ piece)) (scanned_to (fed ++ piece) [] (drop used all) (drop used all) first s.replies.items (taken ++ waiting) waiting base l.from l.begun l.stage l.body.items l.read l.unread.items l.fault here (sym (append-nil (drop used all))) x is_now))))
  where
    regroup : (a b c d : List HttpReply) → a ++ ((b ++ c) ++ d) ≡ ((a ++ b) ++ c) ++ d
    regroup a b c d = simp append_assoc

-- what waits is no part of what was read
pub reads_waiting : (fed : List ℕ) (given more : List HttpReply) (r : Reading) (waiting : List HttpReply) (fault : Option HttpFault) → given ≡ more → ReadsTo fed given r fault → ReadsTo fed more (record r { waiting = waiting }) fault
reads_waiting fed given more r waiting None e x = (x.0, subst (λ (v : List HttpReply). IsStream fed v r.at x.0) e x.1, x.2)
reads_waiting fed given more r waiting (Some f) e x = (subst (λ (v : List HttpReply). IsFaulty fed v r.at f.at f.why) e x.0, x.1)

-- what isn't read of a head is the beginning of one
pub scan_head : (base : ℕ) (b : List ℕ) (s : Scanned) → Scans base b s → s.left.begun ≡ None → IsOpenHead s.left.unread.items
scan_head base b s x e = go s.left.fault x.leaves
  where
    go : (f : Option HttpFault) → Leaves f (base + s.left.from) (drop s.left.from b) s.left.begun s.left.stage s.left.body.items s.left.read s.left.unread.items → IsOpenHead s.left.unread.items
    go None y = let h = subst (λ (g : Option ℕ). Holds g s.left.stage s.left.body.items s.left.read s.left.unread.items (drop s.left.from b)) e y.holds in subst IsOpenHead h.0 h.4
    go (Some f) y = subst IsOpenHead (sym y.4) open_nil

-- a head that goes on
pub head_feeds : (old : Reading) (piece all : List ℕ) → old.fault ≡ None → old.begun ≡ None → all ≡ old.unread ++ piece → length all < 16384 → IsOpenHead all → Feeds old piece (Ok tt) (record old { unread = all })
head_feeds old piece all e b f short open_is = (
  e,
  λ fed taken r.
      let x = reads_none fed (taken ++ old.waiting) old e r in
      let h = subst (λ (g : Option ℕ). Holds g old.stage old.body old.read old.unread x.0) b x.2 in
      let more = replies_more_text 0 fed piece x.0 (taken ++ old.waiting) old.at x.1.replies in
      subst (ReadsTo (fed ++ piece) (taken ++ old.waiting) (record old { unread = all })) (sym e) (
        all,
        record {
          replies = subst (λ (v : List ℕ). AreReplies 0 (fed ++ piece) (taken ++ old.waiting) old.at v) (ap (λ (v : List ℕ). v ++ piece) h.0 ∙ sym f) more;
          going = inl (short, open_is);
        },
        subst (λ (g : Option ℕ). Holds g old.stage old.body old.read all all) (sym b) (refl, h.1, h.2, short, open_is),
      ),
)
