-- The bytes alone decide what is read.
use Rattle.std.proofs.Common.{◌≡◌, ℕ, ◌+◌, ◌-◌, ◌≤◌, List, [], ◌∷◌, ◌++◌, length, take, refl, sym, ap, ◌∙◌, subst, arith, inl, inr, append_assoc, append-nil}
use Rattle.std.specs.Prelude.{◌⊎◌, Some, None}
use Rattle.std.specs.List.{flat_map}
use Rattle.std.proofs.lemmas.List.{take_all}
use Rattle.httparse.specs.Grammar.{ResponseHead, ReadsResponse, print_response, status_code}
use Rattle.httparse.proofs.GrammarLemmas.{response_unique, ReadsResponse-append}
use Rattle.http_edge.specs.declared.fault.HttpFault.{HttpFault}
use Rattle.http_edge.specs.declared.fault.HttpWhy.{HttpWhy}
use Rattle.http_edge.specs.declared.fault.HttpWhy.TheVariants.{BadHead, BadLength, TooLong, BadChunk}
use Rattle.http_edge.specs.Lengths.{BodySize, Chunked, BadSize}
use Rattle.http_edge.specs.Bodies.{IsBody, IsOpenBody, IsTooLong, IsBadChunk}
use Rattle.http_edge.proofs.OnceLaws.{body_once}
use Rattle.http_edge.proofs.ReadingLaws.{open_no_body}
use Rattle.http_edge.proofs.FaultOnceLaws.{window_begins, bad_once, long_no_bad, bad_no_body, bad_no_open, long_no_open, long_no_body, no_open_bad}
use Rattle.http_reply.specs.declared.reply.HttpReply.{HttpReply}
use Rattle.http_reply.specs.Heads.{BeginsWith, HasNoHead, NeverHasHead, IsOpenHead}
use Rattle.http_reply.specs.Sizes.{size_of}
use Rattle.http_reply.specs.ReplyStream.{IsReply, AreSpelledFrom, AreReplies, IsOpen, IsFault, given_of}
use Rattle.stream_grammar.specs.Laws.{OneReading}
use Rattle.stream_grammar.specs.Reading.{Drops}
use Rattle.http_reply.specs.Reading.{replies}

-- two heads at one front
pub head_once : (rest : List ℕ) (h k : ResponseHead) (text other : List ℕ) → BeginsWith rest h text → BeginsWith rest k other → (h ≡ k) × (text ≡ other)
head_once rest h k text other a b = response_unique rest h k text other a.holds.reads b.holds.reads

-- a reply at the front begins with its head
reply_begins : (rest : List ℕ) (r : HttpReply) (x y : List ℕ) → (i : IsReply r x) → rest ≡ x ++ y → BeginsWith rest i.head (i.text ++ y)
reply_begins rest r x y i e = record {
  holds = record { reads = subst (λ (w : List ℕ). ReadsResponse w i.head (i.text ++ y)) (sym e) (ReadsResponse-append x i.head i.text y i.begins.holds.reads); few = i.begins.holds.few };
  short = i.begins.short;
}

-- no reply's bytes are a proper front of another one's, whatever follows
reply_once : (r s : HttpReply) (x y a b : List ℕ) → IsReply r x → IsReply s y → r.at ≡ s.at → x ++ a ≡ y ++ b → (r ≡ s) × (x ≡ y) × (a ≡ b)
reply_once r s x y a b i j at e =
    let q = response_unique (x ++ a) i.head j.head (i.text ++ a) (j.text ++ b) (ReadsResponse-append x i.head i.text a i.begins.holds.reads) (subst (λ (w : List ℕ). ReadsResponse w j.head (j.text ++ b)) (sym e) (ReadsResponse-append y j.head j.text b j.begins.holds.reads)) in
    let p = body_once (size_of i.head) r.body s.body i.text j.text a b i.body (subst (λ (h : ResponseHead). IsBody (size_of h) s.body j.text) (sym q.0) j.body) q.1 in (
      i.reply_is ∙ (λ h. record { status = status_code (q.0 h); body = p.0 h; at = at h }) ∙ sym j.reply_is,
      i.begins.holds.reads.1 ∙ (λ h. print_response (q.0 h) ++ p.1 h) ∙ sym j.begins.holds.reads.1,
      p.2,
    )

-- the bytes begin with no whole reply
abbrev pub HasNoReply : List ℕ → Type 0
HasNoReply rest = (r : HttpReply) (x y : List ℕ) → IsReply r x → rest ≡ x ++ y → ⊥

-- an unfinished reply is no whole one, whatever follows that
open_no_reply : (rest : List ℕ) → IsOpen rest → HasNoReply rest
open_no_reply rest (inl (short, head)) r x y i e = head.none i.head (i.text ++ y) (reply_begins rest r x y i e).holds
open_no_reply rest (inr (h, text, begins, o)) r x y i e =
    let q = head_once rest h i.head text (i.text ++ y) begins (reply_begins rest r x y i e) in
    open_no_body (size_of h) text r.body i.text y o (subst (λ (k : ResponseHead). IsBody (size_of k) r.body i.text) (sym q.0) i.body) q.1

replies_same : (at : ℕ) (rs ss : List HttpReply) (front back rest last : List ℕ) → AreSpelledFrom at rs front → AreSpelledFrom at ss back → HasNoReply rest → HasNoReply last → front ++ rest ≡ back ++ last → (rs ≡ ss) × (front ≡ back) × (rest ≡ last)
replies_same at [] [] front back rest last a b o p e = (refl, a ∙ sym b, ap (λ (w : List ℕ). w ++ rest) (sym a) ∙ e ∙ ap (λ (w : List ℕ). w ++ last) b)
replies_same at [] (s ∷ ss) front back rest last a (x, y, is, place, f, more) o p e = absurd (o s x (y ++ last) is (ap (λ (w : List ℕ). w ++ rest) (sym a) ∙ e ∙ ap (λ (w : List ℕ). w ++ last) f ∙ append_assoc x y last))
replies_same at (r ∷ rs) [] front back rest last (x, y, is, place, f, more) b o p e = absurd (p r x (y ++ rest) is (ap (λ (w : List ℕ). w ++ last) (sym b) ∙ sym e ∙ ap (λ (w : List ℕ). w ++ rest) f ∙ append_assoc x y rest))
replies_same at (r ∷ rs) (s ∷ ss) front back rest last (x, y, is, place, f, more) (z, w, also, there, g, less) o p e =
    let q = reply_once r s x z (y ++ rest) (w ++ last) is also (place ∙ sym there) (sym (append_assoc x y rest) ∙ ap (λ (v : List ℕ). v ++ rest) (sym f) ∙ e ∙ ap (λ (v : List ℕ). v ++ last) g ∙ append_assoc z w last) in
    let far : at + length z ≡ at + length x = ap (λ (v : List ℕ). at + length v) (sym q.1) in
    let t = replies_same (at + length x) rs ss y w rest last more (subst (λ (n : ℕ). AreSpelledFrom n ss w) far less) o p q.2 in
    ((λ i. q.0 i ∷ t.0 i), f ∙ (λ i. q.1 i ++ t.1 i) ∙ sym g, t.2)

-- bytes are whole replies, and a rest that begins with none, in one way only
one_split : (fed : List ℕ) (rs ss : List HttpReply) (m n : ℕ) (rest last : List ℕ) → AreReplies 0 fed rs m rest → AreReplies 0 fed ss n last → HasNoReply rest → HasNoReply last → (rs ≡ ss) × (m ≡ n) × (rest ≡ last)
one_split fed rs ss m n rest last a b o p =
    let q = replies_same 0 a.replies b.replies a.front b.front rest last a.spelled b.spelled o p (sym a.whole ∙ b.whole) in (
      a.given_are ∙ ap (λ (v : List HttpReply). flat_map given_of v) q.0 ∙ sym b.given_are,
      a.at_is ∙ ap (λ (v : List ℕ). length v) q.1 ∙ sym b.at_is,
      q.2,
    )

-- a head that ends in the first 16,384 bytes is in them
window_head : (rest : List ℕ) (h : ResponseHead) (text : List ℕ) → BeginsWith rest h text → HasNoHead (take 16384 rest) → ⊥
window_head rest h text b none =
    let z = take (16384 - length (print_response h)) text in
    none h z (record { reads = (b.holds.reads.0, ap (take 16384) b.holds.reads.1 ∙ window_begins 16384 (print_response h) text b.short); few = b.holds.few })

-- a fault of the head, and of the body after a head
abbrev pub InHead : List ℕ → HttpWhy → Type 0
InHead rest why = HasNoHead (take 16384 rest) × (((why ≡ BadHead) × NeverHasHead (take 16384 rest)) ⊎ ((why ≡ TooLong) × (16384 ≤ length rest) × IsOpenHead (take 16384 rest)))

abbrev pub InBody : ResponseHead → List ℕ → HttpWhy → ℕ → Type 0
InBody h text BadHead place = ⊥
InBody h text BadLength place = (size_of h ≡ BadSize) × (place ≡ 0)
InBody h text TooLong place = IsTooLong (size_of h) text × (place ≡ 0)
InBody h text BadChunk place = (size_of h ≡ Chunked) × ((at : ℕ) × IsBadChunk text at × (place ≡ length (print_response h) + at))

abbrev pub Parted : List ℕ → HttpWhy → ℕ → Type 0
Parted rest why place = (InHead rest why × (place ≡ 0)) ⊎ ((h : ResponseHead) × (text : List ℕ) × BeginsWith rest h text × InBody h text why place)

now : (w : List ℕ) → NeverHasHead w → HasNoHead w
now w never = subst HasNoHead (append-nil w) (never [])

parted : (rest : List ℕ) (why : HttpWhy) (place : ℕ) → IsFault rest why place → Parted rest why place
parted rest BadHead place (never, p) = inl ((now (take 16384 rest) never, inl (refl, never)), p)
parted rest BadLength place (h, text, b, z, p) = inr (h, text, b, (z, p))
parted rest TooLong place (inl (long, o, p)) = inl ((o.none, inr (refl, long, o)), p)
parted rest TooLong place (inr (h, text, b, long, p)) = inr (h, text, b, (long, p))
parted rest BadChunk place (h, text, at, b, z, bad, p) = inr (h, text, b, (z, (at, bad, p)))

never_open : (w : List ℕ) → NeverHasHead w → IsOpenHead w → ⊥
never_open w never o = never o.going.more o.going.head [] o.going.holds

heads_alike : (rest : List ℕ) (why other : HttpWhy) → InHead rest why → InHead rest other → why ≡ other
heads_alike rest why other (none, inl (e, never)) (nor, inl (f, still)) = e ∙ sym f
heads_alike rest why other (none, inl (e, never)) (nor, inr (f, long, o)) = absurd (never_open (take 16384 rest) never o)
heads_alike rest why other (none, inr (e, long, o)) (nor, inl (f, never)) = absurd (never_open (take 16384 rest) never o)
heads_alike rest why other (none, inr (e, long, o)) (nor, inr (f, much, p)) = e ∙ sym f

bodies_alike : (h : ResponseHead) (text : List ℕ) (why other : HttpWhy) (p q : ℕ) → InBody h text why p → InBody h text other q → (p ≡ q) × (why ≡ other)
bodies_alike h text BadHead other p q a b = absurd a
bodies_alike h text BadLength BadHead p q a b = absurd b
bodies_alike h text BadLength BadLength p q (z, e) (y, f) = (e ∙ sym f, refl)
bodies_alike h text BadLength TooLong p q (z, e) (long, f) = absurd (subst (λ (s : BodySize). IsTooLong s text) z long)
bodies_alike h text BadLength BadChunk p q (z, e) (y, f) = absurd (cc)
bodies_alike h text TooLong BadHead p q a b = absurd b
bodies_alike h text TooLong BadLength p q (long, e) (z, f) = absurd (subst (λ (s : BodySize). IsTooLong s text) z long)
bodies_alike h text TooLong TooLong p q (long, e) (y, f) = (e ∙ sym f, refl)
bodies_alike h text TooLong BadChunk p q (long, e) (y, (at, bad, f)) = absurd (long_no_bad text at (subst (λ (s : BodySize). IsTooLong s text) y long) bad)
bodies_alike h text BadChunk BadHead p q a b = absurd b
bodies_alike h text BadChunk BadLength p q (z, e) (y, f) = absurd (cc)
bodies_alike h text BadChunk TooLong p q (y, (at, bad, f)) (long, e) = absurd (long_no_bad text at (subst (λ (s : BodySize). IsTooLong s text) y long) bad)
bodies_alike h text BadChunk BadChunk p q (y, (at, bad, f)) (z, (by, ill, g)) = (f ∙ ap (λ (n : ℕ). length (print_response h) + n) (bad_once text at by bad ill) ∙ sym g, refl)

parted_alike : (rest : List ℕ) (why other : HttpWhy) (p q : ℕ) → Parted rest why p → Parted rest other q → (p ≡ q) × (why ≡ other)
parted_alike rest why other p q (inl (a, e)) (inl (b, f)) = (e ∙ sym f, heads_alike rest why other a b)
parted_alike rest why other p q (inl ((none, a), e)) (inr (h, text, begins, b)) = absurd (window_head rest h text begins none)
parted_alike rest why other p q (inr (h, text, begins, b)) (inl ((none, a), e)) = absurd (window_head rest h text begins none)
parted_alike rest why other p q (inr (h, text, begins, a)) (inr (k, last, also, b)) =
    let s = head_once rest h k text last begins also in
    bodies_alike k last why other p q (subst (λ (v : List ℕ). InBody k v why p) s.1 (subst (λ (v : ResponseHead). InBody v text why p) s.0 a)) b

-- what is at fault begins with no whole reply
fault_no_reply : (rest : List ℕ) (why : HttpWhy) (place : ℕ) → IsFault rest why place → HasNoReply rest
fault_no_reply rest why place f r x y i e = go (parted rest why place f)
  where
    in_body : (why : HttpWhy) → InBody i.head (i.text ++ y) why place → ⊥
    in_body BadHead a = a
    in_body BadLength (z, p) = subst (λ (s : BodySize). IsBody s r.body i.text) z i.body
    in_body TooLong (long, p) = long_no_body (size_of i.head) (i.text ++ y) r.body i.text y long i.body refl
    in_body BadChunk (z, (at, bad, p)) = bad_no_body (i.text ++ y) r.body i.text y at bad (subst (λ (s : BodySize). IsBody s r.body i.text) z i.body) refl

    go : Parted rest why place → ⊥
    go (inl ((none, a), p)) = window_head rest i.head (i.text ++ y) (reply_begins rest r x y i e) none
    go (inr (h, text, begins, a)) =
        let s = head_once rest h i.head text (i.text ++ y) begins (reply_begins rest r x y i e) in
        in_body why (subst (λ (v : List ℕ). InBody i.head v why place) s.1 (subst (λ (v : ResponseHead). InBody v text why place) s.0 a))

-- a fault is no unfinished reply
fault_no_open : (rest : List ℕ) (why : HttpWhy) (place : ℕ) → Parted rest why place → IsOpen rest → ⊥
fault_no_open rest why place (inl ((none, inl (w, never)), p)) (inl (short, o)) = never_open rest (subst NeverHasHead (take_all 16384 rest (omega (arith, short))) never) o
fault_no_open rest why place (inl ((none, inr (w, long, q)), p)) (inl (short, o)) = omega (arith, long, short)
fault_no_open rest why place (inl ((none, a), p)) (inr (h, text, begins, o)) = window_head rest h text begins none
fault_no_open rest why place (inr (h, text, begins, a)) (inl (short, o)) = o.none h text begins.holds
fault_no_open rest why place (inr (h, text, begins, a)) (inr (k, last, also, o)) =
    let s = head_once rest h k text last begins also in
    go why (subst (λ (v : List ℕ). InBody k v why place) s.1 (subst (λ (v : ResponseHead). InBody v text why place) s.0 a))
  where
    go : (why : HttpWhy) → InBody k last why place → ⊥
    go BadHead a = a
    go BadLength (z, p) = no_open_bad last (subst (λ (v : BodySize). IsOpenBody v last) z o)
    go TooLong (long, p) = long_no_open (size_of k) last long o
    go BadChunk (z, (at, bad, p)) = bad_no_open last at bad (subst (λ (v : BodySize). IsOpenBody v last) z o)

pub one_reading : OneReading replies Drops
one_reading fed rs ss m n rest last None None a b =
    let q = one_split fed rs ss m n rest last a.replies b.replies (open_no_reply rest a.going) (open_no_reply last b.going) in
    (q.0, q.1, q.2, refl)
one_reading fed rs ss m n rest last None (Some e) a (none, b, dropped) =
    let q = one_split fed rs ss m n rest b.rest a.replies b.replies (open_no_reply rest a.going) (fault_no_reply b.rest e.why b.offset b.fault) in
    absurd (fault_no_open b.rest e.why b.offset (parted b.rest e.why b.offset b.fault) (subst IsOpen q.2 a.going))
one_reading fed rs ss m n rest last (Some d) None (none, a, dropped) b =
    let q = one_split fed rs ss m n a.rest last a.replies b.replies (fault_no_reply a.rest d.why a.offset a.fault) (open_no_reply last b.going) in
    absurd (fault_no_open a.rest d.why a.offset (parted a.rest d.why a.offset a.fault) (subst IsOpen (sym q.2) b.going))
one_reading fed rs ss m n rest last (Some d) (Some e) (none, a, dropped) (other, b, lost) =
    let q = one_split fed rs ss m n a.rest b.rest a.replies b.replies (fault_no_reply a.rest d.why a.offset a.fault) (fault_no_reply b.rest e.why b.offset b.fault) in
    let f : IsFault a.rest e.why b.offset = subst (λ (v : List ℕ). IsFault v e.why b.offset) (sym q.2) b.fault in
    let r = parted_alike a.rest d.why e.why a.offset b.offset (parted a.rest d.why a.offset a.fault) (parted a.rest e.why b.offset f) in
    let place = a.place_is ∙ (λ i. q.1 i + r.0 i) ∙ sym b.place_is in
    let same : ◌≡◌ {A = HttpFault} d e = λ i. record { at = place i; why = r.1 i } in
    (q.0, q.1, dropped ∙ sym lost, ap (λ (v : HttpFault). Some v) same)
