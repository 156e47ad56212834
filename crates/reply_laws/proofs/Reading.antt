-- What is written is read first, and what follows after it.
use Rattle.std.proofs.Common.{◌≡◌, ℕ, ◌+◌, Bool, true, false, List, [], ◌∷◌, ◌++◌, length, map, refl, sym, ◌∙◌, ap, subst, arith, append_assoc, length-append, if◌then◌else◌}
use Rattle.std.specs.Prelude.{Option, Some, None}
use Rattle.std.specs.List.{flat_map}
use Rattle.std.proofs.lemmas.Bool.{cond-false}
use Rattle.std.proofs.lemmas.List.{map-append}
use Rattle.stream_grammar.specs.Reading.{Drops, ReadsTo, as_bytes}
use Rattle.http_edge.specs.declared.fault.HttpFault.{HttpFault}
use Rattle.http_reply.specs.declared.reply.HttpReply.{HttpReply}
use Rattle.http_reply.specs.Reading.{Reading, parts, replies}
use Rattle.http_reply.specs.ReplyStream.{AreReplies, AreSpelledFrom, IsFaulty, IsReply, IsStream, given_of}
use Rattle.http_reply.specs.Sizes.{is_interim}
use Rattle.http_reply.proofs.OnceLaws.{one_reading}
use Rattle.http_reply.proofs.SomeReadingLaws.{some_reading}
use Rattle.reply_laws.specs.Written.{ReadsFirst, WrittenIsRead, later, moved, reply_at}
use Rattle.reply_laws.proofs.Spelling.{written_spells}
use Rattle.reply_laws.proofs.Statuses.{not_interim}

-- ---- replies so many bytes further on

is_later : (n : ℕ) (r : HttpReply) (x : List ℕ) → IsReply r x → IsReply (later n r) x
is_later n r x is = record { head = is.head; text = is.text; begins = is.begins; reply_is = ap (λ (s : HttpReply). later n s) is.reply_is; body = is.body }

spelled_later : (n at : ℕ) (rs : List HttpReply) (b : List ℕ) → AreSpelledFrom at rs b → AreSpelledFrom (n + at) (map (later n) rs) b
spelled_later n at [] b none = none
spelled_later n at (r ∷ rs) b (x, y, is, place, e, more) =
    let far : n + (at + length x) ≡ (n + at) + length x = omega arith in
    (x, y, is_later n r x is, ap (λ (k : ℕ). n + k) place, e, subst (λ (k : ℕ). AreSpelledFrom k (map (later n) rs) y) far (spelled_later n (at + length x) rs y more))

given_one : (n : ℕ) (r : HttpReply) → map (later n) (given_of r) ≡ given_of (later n r)
given_one n r = by (is_interim r.status)
  where
    by : (interim : Bool) → map (later n) (if interim then [] else r ∷ []) ≡ (if interim then [] else later n r ∷ [])
    by true = refl
    by false = refl

given_later : (n : ℕ) (rs : List HttpReply) → map (later n) (flat_map given_of rs) ≡ flat_map given_of (map (later n) rs)
given_later n [] = refl
given_later n (r ∷ rs) = map-append (later n) (given_of r) (flat_map given_of rs) ∙ (λ i. given_one n r i ++ given_later n rs i)

-- ---- bytes after a whole reply

replies_behind : (r : HttpReply) (x more : List ℕ) (given : List HttpReply) (at : ℕ) (rest : List ℕ) → IsReply r x → r.at ≡ 0 → is_interim r.status ≡ false → AreReplies 0 more given at rest → AreReplies 0 (x ++ more) (r ∷ map (later (length x)) given) (length x + at) rest
replies_behind r x more given at rest is first final a =
    let n = length x in
    let far : n + 0 ≡ 0 + n = omega arith in
    let one : given_of r ≡ r ∷ [] = cond-false (is_interim r.status) [] (r ∷ []) final in
    record {
      replies = r ∷ map (later n) a.replies;
      front = x ++ a.front;
      spelled = (x, a.front, is, first, refl, subst (λ (k : ℕ). AreSpelledFrom k (map (later n) a.replies) a.front) far (spelled_later n 0 a.replies a.front a.spelled));
      whole = ap (λ (v : List ℕ). x ++ v) a.whole ∙ sym (append_assoc x a.front rest);
      at_is = ap (λ (k : ℕ). n + k) a.at_is ∙ sym (length-append x a.front);
      given_are = λ i. sym one i ++ (ap (λ (v : List HttpReply). map (later n) v) a.given_are ∙ given_later n a.replies) i;
    }

stream_behind : (r : HttpReply) (x more : List ℕ) (given : List HttpReply) (at : ℕ) (rest : List ℕ) → IsReply r x → r.at ≡ 0 → is_interim r.status ≡ false → IsStream more given at rest → IsStream (x ++ more) (r ∷ map (later (length x)) given) (length x + at) rest
stream_behind r x more given at rest is first final s = record { replies = replies_behind r x more given at rest is first final s.replies; going = s.going }

fault_behind : (r : HttpReply) (x more : List ℕ) (given : List HttpReply) (at : ℕ) (e : HttpFault) → IsReply r x → r.at ≡ 0 → is_interim r.status ≡ false → IsFaulty more given at e.at e.why → IsFaulty (x ++ more) (r ∷ map (later (length x)) given) (length x + at) (length x + e.at) e.why
fault_behind r x more given at e is first final f = record {
  rest = f.rest;
  offset = f.offset;
  replies = replies_behind r x more given at f.rest is first final f.replies;
  place_is = let p = f.place_is in omega (arith, p);
  fault = f.fault;
}

-- ---- the laws

pub bytes_read : (Held : List ℕ → List ℕ → Type 0) → WrittenIsRead (as_bytes Held)
bytes_read Held status closing body text more given at held None w s =
    stream_behind (reply_at 0 status body) text more given at held (written_spells status closing body 0 text w).is refl (not_interim status w.known) s
bytes_read Held status closing body text more given at held (Some e) w (rest, f, holds) =
    (rest, fault_behind (reply_at 0 status body) text more given at e (written_spells status closing body 0 text w).is refl (not_interim status w.known) f, holds)

pub parts_read : WrittenIsRead parts
parts_read status closing body text more given at held None w (rest, s, holds) =
    (rest, stream_behind (reply_at 0 status body) text more given at rest (written_spells status closing body 0 text w).is refl (not_interim status w.known) s, holds)
parts_read status closing body text more given at held (Some e) w (f, none) =
    (fault_behind (reply_at 0 status body) text more given at e (written_spells status closing body 0 text w).is refl (not_interim status w.known) f, none)

-- what is read in parts is read in bytes too
in_bytes : (fed : List ℕ) (given : List HttpReply) (at : ℕ) (r : Reading) (fault : Option HttpFault) → ReadsTo replies parts fed given at r fault → (held : List ℕ) × ReadsTo replies Drops fed given at held fault
in_bytes fed given at r None (rest, s, holds) = (rest, s)
in_bytes fed given at r (Some e) (f, none) = ([], ([], f, refl))

pub reads_first : ReadsFirst
reads_first status closing body text more given r w reads =
    let n = length text in
    let all = in_bytes (text ++ more) (given ++ r.waiting) r.at r r.fault reads in
    let follows = some_reading more in
    let now = bytes_read (λ rest held. held ≡ []) status closing body text more follows.0 follows.1 follows.2 follows.3 w follows.4 in
    let same = one_reading (text ++ more) (given ++ r.waiting) (reply_at 0 status body ∷ map (later n) follows.0) r.at (n + follows.1) all.0 follows.2 r.fault (moved n follows.3) all.1 now in
    record { others = follows.0; at = follows.1; held = follows.2; fault = follows.3; follows = follows.4; given_are = same.0; at_is = same.1; fault_is = same.3 }
