-- Replies as they are written, and as they are read.
use Rattle.std.specs.Prelude.{◌≡◌, ℕ, ◌+◌, ◌≤◌, Bool, ◌||◌, ◌==◌, IsTrue, List, ◌∷◌, ◌++◌, length, map, Option, Some, None, codes}
use Rattle.std.specs.List.{list_any}
use Rattle.httparse.specs.Grammar.{ResponseHead}
use Rattle.stream_grammar.specs.Reading.{Drops, Holding, ReadsTo}
use Rattle.http_edge.specs.declared.fault.HttpFault.{HttpFault}
use Rattle.http_edge.specs.declared.limits.TheConstants.{MOST_BODY}
use Rattle.http_edge.specs.Fields.{field_value, is_close}
use Rattle.http_edge.specs.Reply.{is_status, reply_text}
use Rattle.http_reply.specs.declared.reply.HttpReply.{HttpReply}
use Rattle.http_reply.specs.Heads.{head_fields}
use Rattle.http_reply.specs.Reading.{Reading, Reads, replies}
use Rattle.http_reply.specs.ReplyStream.{IsReply}

-- the text is what is written for a reply with this status and this body, after which the connection ends or not
pub record IsWritten (status : ℕ) (closing : Bool) (body text : List ℕ) : Type 0 where
  pub known : IsTrue (is_status status)
  pub fits : length body ≤ MOST_BODY
  pub text_is : text ≡ reply_text status closing body

-- the reply with this status and this body, at an offset
abbrev pub reply_at : ℕ → ℕ → List ℕ → HttpReply
reply_at at status body = record { status = status; body = body; at = at }

-- the head says that the connection ends with its reply (RFC 9112, section 9.3)
abbrev pub ends : ResponseHead → Bool
ends h = h.minor == 0 || list_any is_close (head_fields h)

-- The text is that reply by the grammar of replies, and no more. Its head says whether the connection ends, and that the body is
-- JSON.
pub record IsSpelled (status : ℕ) (closing : Bool) (body : List ℕ) (at : ℕ) (text : List ℕ) : Type 0 where
  pub is : IsReply (reply_at at status body) text
  pub ends_is : ends is.head ≡ closing
  pub type_is : field_value (codes "content-type") (head_fields is.head) ≡ Some (codes "application/json")

-- What is written is spelled so, at any offset.
abbrev pub WrittenSpells : Type 0
WrittenSpells =
    (status : ℕ) (closing : Bool) (body : List ℕ) (at : ℕ) (text : List ℕ) → IsWritten status closing body text
    → IsSpelled status closing body at text

-- a reply and a fault so many bytes further on
abbrev pub later : ℕ → HttpReply → HttpReply
later n r = record { status = r.status; body = r.body; at = n + r.at }

abbrev pub moved : ℕ → Option HttpFault → Option HttpFault
moved n None = None
moved n (Some e) = Some (record { at = n + e.at; why = e.why })

-- What is written is read first, whatever follows, and what follows is read after it.
abbrev pub WrittenIsRead : {H : Type 0} → Holding H → Type 0
WrittenIsRead {H} h =
    (status : ℕ) (closing : Bool) (body text more : List ℕ) (given : List HttpReply) (at : ℕ) (held : H) (fault : Option HttpFault)
    → IsWritten status closing body text → ReadsTo replies h more given at held fault
    → ReadsTo replies h (text ++ more) (reply_at 0 status body ∷ map (later (length text)) given) (length text + at) held
    (moved (length text) fault)

-- A reader has this reply of so many bytes first. The others that it has, its place and its fault are those of the bytes that
-- follow, where these stand alone, so many bytes further on.
pub record IsFirst (first : HttpReply) (n : ℕ) (more : List ℕ) (given : List HttpReply) (r : Reading) : Type 0 where
  pub others : List HttpReply
  pub at : ℕ
  pub held : List ℕ
  pub fault : Option HttpFault
  pub follows : ReadsTo replies Drops more others at held fault
  pub given_are : given ++ r.waiting ≡ first ∷ map (later n) others
  pub at_is : r.at ≡ n + at
  pub fault_is : r.fault ≡ moved n fault

-- Whatever a reader has read of bytes that begin with what is written, that reply is the first.
abbrev pub ReadsFirst : Type 0
ReadsFirst =
    (status : ℕ) (closing : Bool) (body text more : List ℕ) (given : List HttpReply) (r : Reading)
    → IsWritten status closing body text → Reads (text ++ more) given r
    → IsFirst (reply_at 0 status body) (length text) more given r
