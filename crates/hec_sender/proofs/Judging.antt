-- What replies say.
use Rattle.std.proofs.Common.{◌≡◌, ℕ, ◌∙◌, Bool, true, false, cond, Option, Some, None, List, refl, sym, ap}
use Rattle.std.specs.Prelude.{◌==◌, codes}
use Rattle.serde_json.specs.Data.{Data}
use Rattle.serde_json.specs.Find.{get}
use Rattle.http_reply.specs.declared.reply.HttpReply.{HttpReply}
use Rattle.hec_sender.specs.declared.query.Query.{Query}
use Rattle.hec_sender.specs.declared.verdict.Verdict.{Verdict}
use Rattle.hec_sender.specs.declared.verdict.Verdict.TheVariants.{Asks, Denies, Refuses, Faults}
use Rattle.hec_sender.specs.Replies.{IsValueOf, Says, ack_of, by_ack, by_code, by_id, by_number, code_of, is_success, verdict_of, whole_number}

-- ---- a body has one value

one_value : (body : List ℕ) (v w : Option Data) → IsValueOf body v → IsValueOf body w → v ≡ w
one_value body None None a b = refl
one_value body None (Some w) a b = absurd (let none = a b.0 in let some = b.1 in cc)
one_value body (Some v) None a b = absurd (let none = b a.0 in let some = a.1 in cc)
one_value body (Some v) (Some w) a b = sym a.1 ∙ b.1

pub one_verdict : (asked : Option Query) (reply : HttpReply) (v w : Verdict) → Says asked reply v → Says asked reply w → v ≡ w
one_verdict asked reply v w a b = a.2 ∙ ap (verdict_of asked reply.status) (one_value reply.body a.0 b.0 a.1 b.1) ∙ sym b.2

-- ---- only a query is denied, and only a request gives an id

not_denied_code : (status : ℕ) (success : Verdict) (code : Option ℕ) → (success ≡ Denies → ⊥) → by_code status success code ≡ Denies → ⊥
not_denied_code status success None not e = cc
not_denied_code status success (Some code) not e = by (is_success status code) e
  where
    by : (b : Bool) → cond b success (Refuses code) ≡ Denies → ⊥
    by true e = not e
    by false e = cc

not_denied_number : (n : Option ℕ) → by_number n ≡ Denies → ⊥
not_denied_number None e = cc
not_denied_number (Some id) e = cc

not_denied_id : (id : Option Data) → by_id id ≡ Denies → ⊥
not_denied_id None e = cc
not_denied_id (Some value) e = not_denied_number (whole_number value) e

not_denied : (status : ℕ) (value : Option Data) → verdict_of None status value ≡ Denies → ⊥
not_denied status None e = cc
not_denied status (Some value) e = not_denied_code status (by_id (get (codes "ackId") value)) (code_of value) (not_denied_id (get (codes "ackId") value)) e

pub request_not_denied : (asked : Option Query) (reply : HttpReply) → asked ≡ None → Says asked reply Denies → ⊥
request_not_denied None reply is s = not_denied reply.status s.0 (sym s.2)
request_not_denied (Some query) reply is s = cc

not_asks_code : (status id : ℕ) (code : Option ℕ) → by_code status Faults code ≡ Asks id → ⊥
not_asks_code status id None e = cc
not_asks_code status id (Some code) e = by (is_success status code) e
  where
    by : (b : Bool) → cond b Faults (Refuses code) ≡ Asks id → ⊥
    by true e = cc
    by false e = cc

not_asks_ack : (other : Verdict) (id : ℕ) (ack : Option Bool) → (other ≡ Asks id → ⊥) → by_ack other ack ≡ Asks id → ⊥
not_asks_ack other id None not e = not e
not_asks_ack other id (Some true) not e = cc
not_asks_ack other id (Some false) not e = cc

not_asks : (query : Query) (status id : ℕ) (value : Option Data) → verdict_of (Some query) status value ≡ Asks id → ⊥
not_asks query status id None e = cc
not_asks query status id (Some value) e = not_asks_ack (by_code status Faults (code_of value)) id (cond (status == 200) (ack_of query.id value) None) (not_asks_code status id (code_of value)) e

pub query_gives_no_id : (query : Query) (reply : HttpReply) (id : ℕ) → Says (Some query) reply (Asks id) → ⊥
query_gives_no_id query reply id s = not_asks query reply.status id s.0 (sym s.2)
