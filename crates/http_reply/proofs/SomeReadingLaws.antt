-- All bytes are whole replies, and an unfinished one or none, or one at fault.
use Rattle.std.proofs.Common.{◌≡◌, ℕ, zero, suc, ◌+◌, ◌<◌, ◌≤◌, List, [], ◌++◌, length, refl, sym, ap, ◌∙◌, subst, arith, inl, inr, length-append, append_assoc, append-nil, zero-add}
use Rattle.std.specs.Prelude.{◌⊎◌, Option, Some, None}
use Rattle.std.proofs.lemmas.Bool.{cases_lt}
use Rattle.std.proofs.lemmas.List.{take_all}
use Rattle.httparse.specs.Grammar.{ResponseHead, print_response}
use Rattle.http_edge.specs.declared.fault.HttpFault.{HttpFault}
use Rattle.http_edge.specs.declared.fault.HttpWhy.{HttpWhy}
use Rattle.http_edge.specs.declared.fault.HttpWhy.TheVariants.{BadHead, BadLength, TooLong, BadChunk}
use Rattle.http_edge.specs.Bodies.{IsBody}
use Rattle.http_edge.proofs.BodyVerdictLaws.{BodyVerdict, some_body}
use Rattle.http_reply.specs.declared.reply.HttpReply.{HttpReply}
use Rattle.http_reply.specs.Heads.{BeginsWith, IsOpenHead}
use Rattle.http_reply.specs.Sizes.{size_of}
use Rattle.http_reply.specs.ReplyStream.{IsReply, IsOpen, IsFault, AreReplies, reply_of, given_of}
use Rattle.http_reply.specs.Reading.{replies}
use Rattle.stream_grammar.specs.Laws.{SomeReading}
use Rattle.stream_grammar.specs.Reading.{Drops, ReadsTo}
use Rattle.http_reply.proofs.OpeningLaws.{some_head}
use Rattle.http_reply.proofs.StreamLaws.{no_replies, replies_then, one_reply}
use Rattle.http_reply.proofs.VerdictLaws.{HeadTurn, head_turn}

-- one more reply after replies
replies_push : (fed x more : List ℕ) (given : List HttpReply) (at : ℕ) (r : HttpReply) → AreReplies 0 fed given at (x ++ more) → IsReply r x → r.at ≡ at → AreReplies 0 fed (given ++ given_of r) (at + length x) more
replies_push fed x more given at r a is e =
    let one = subst (λ (v : List ℕ). AreReplies r.at v (given_of r) (length x) more) (sym (append-nil (x ++ more))) (one_reply r x more is) in
    let here = subst (λ (n : ℕ). AreReplies n ((x ++ more) ++ []) (given_of r) (length x) more) (e ∙ sym (zero-add at)) one in
    subst (λ (v : List ℕ). AreReplies 0 v (given ++ given_of r) (at + length x) more) (append-nil fed) (replies_then 0 fed [] (x ++ more) given (given_of r) at (length x) more a here)

-- a head and a body's text
reply_is : (rest text front : List ℕ) (h : ResponseHead) (body : List ℕ) (at : ℕ) → BeginsWith rest h text → IsBody (size_of h) body front → IsReply (reply_of at h body) (print_response h ++ front)
reply_is rest text front h body at b is = record { head = h; text = front; begins = record { holds = record { reads = (b.holds.reads.0, refl); few = b.holds.few }; short = b.short }; reply_is = refl; body = is }

abbrev HasReading : List ℕ → Type 0
HasReading fed = (given : List HttpReply) × (at : ℕ) × (held : List ℕ) × (fault : Option HttpFault) × ReadsTo replies Drops fed given at held fault

opens : (fed rest : List ℕ) (given : List HttpReply) (at : ℕ) → AreReplies 0 fed given at rest → IsOpen rest → HasReading fed
opens fed rest given at a o = (given, at, rest, None, record { replies = a; going = o })

fails : (fed rest : List ℕ) (given : List HttpReply) (at offset : ℕ) (why : HttpWhy) → AreReplies 0 fed given at rest → IsFault rest why offset → HasReading fed
fails fed rest given at offset why a f = (given, at, [], Some (record { at = at + offset; why = why }), ([], record { rest = rest; offset = offset; replies = a; place_is = refl; fault = f }, refl))

-- replies, and fewer than n bytes after them
reading_on : (n : ℕ) (fed rest : List ℕ) (given : List HttpReply) (at : ℕ) → length rest < n → AreReplies 0 fed given at rest → HasReading fed
reading_on zero fed rest given at short a = absurd (omega (arith, short))
reading_on (suc n) fed rest given at short a = go (λ more now place less replies. reading_on n fed more now place less replies) (head_turn rest) (cases_lt (length rest) 16384)
  where
    go : ((more : List ℕ) (now : List HttpReply) (place : ℕ) → length more < n → AreReplies 0 fed now place more → HasReading fed) → HeadTurn rest → (length rest < 16384) ⊎ (16384 ≤ length rest) → HasReading fed
    go ih (inr (inr never)) f = fails fed rest given at 0 BadHead a (never, refl)
    go ih (inr (inl o)) (inr long) = fails fed rest given at 0 TooLong a (inl (long, o, refl))
    go ih (inr (inl o)) (inl few) = opens fed rest given at a (inl (few, subst IsOpenHead (take_all 16384 rest (omega (arith, few))) o))
    go ih (inl (h, text, b)) f = choose (some_body (size_of h) text)
      where
        choose : BodyVerdict (size_of h) text → HasReading fed
        choose (inr (inl o)) = opens fed rest given at a (inr (h, text, b, o))
        choose (inr (inr (inl z))) = fails fed rest given at 0 BadLength a (h, text, b, z, refl)
        choose (inr (inr (inr (inl long)))) = fails fed rest given at 0 TooLong a (inr (h, text, b, long, refl))
        choose (inr (inr (inr (inr (z, (place, bad)))))) = fails fed rest given at (length (print_response h) + place) BadChunk a (h, text, place, b, z, bad, refl)
        choose (inl (body, front, more, is, e)) =
            let r = reply_of at h body in
            let x = print_response h ++ front in
            let whole : rest ≡ x ++ more = b.holds.reads.1 ∙ ap (λ (v : List ℕ). print_response h ++ v) e ∙ sym (append_assoc (print_response h) front more) in
            let m : length rest ≡ length x + length more = ap length whole ∙ length-append x more in
            let k : length x ≡ length (print_response h) + length front = length-append (print_response h) front in
            let j = some_head h in
            ih more (given ++ given_of r) (at + length x) (omega (arith, m, k, j, short)) (replies_push fed x more given at r (subst (AreReplies 0 fed given at) whole a) (reply_is rest text front h body at b is) refl)

pub some_reading : SomeReading replies Drops
some_reading fed = reading_on (length fed + 1) fed fed [] 0 (omega arith) (no_replies 0 fed)
