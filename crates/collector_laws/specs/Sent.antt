-- What the collector's sender writes, as a receiver of requests reads it.
use Rattle.std.specs.Prelude.{◌≡◌, ℕ, ◌+◌, ◌<◌, ◌^◌, ◌++◌, false, List, [], ◌∷◌, length, All, Option, Some, None}
use Rattle.event_form.specs.declared.event.Entry.{Entry}
use Rattle.event_form.specs.Event.{IsEvent}
use Rattle.stream_grammar.specs.Framing.{AreSpelled}
use Rattle.stream_grammar.specs.Reading.{Drops, Holding, ReadsTo}
use Rattle.http_edge.specs.declared.fault.HttpFault.{HttpFault}
use Rattle.http_edge.specs.declared.request.HttpItem.{HttpItem}
use Rattle.http_edge.specs.declared.request.HttpItem.TheVariants.{Request}
use Rattle.http_edge.specs.declared.request.HttpRequest.{HttpRequest}
use Rattle.http_edge.specs.Fields.{closes}
use Rattle.http_edge.specs.HttpStream.{IsRequest, items_of}
use Rattle.http_edge.specs.Reading.{Reading, Reads, http}
use Rattle.http_reply.specs.declared.reply.HttpReply.{HttpReply}
use Rattle.hec_sender.specs.declared.terms.Terms.{Terms}
use Rattle.hec_sender.specs.Progress.{Progress, TakesAll, session_text, unconfirmed}
use Rattle.hec_sender.specs.Requests.{request_of}
use Rattle.hec_sender.specs.Texts.{acks_text, objects_text, query_text, request_text}
use Rattle.collector_laws.specs.Posts.{IsPath, IsPosted, events_path, post_at, query_path}

-- The text is this request by the grammar of requests, and no more. Nothing is told of it before it is whole, and the connection goes
-- on after it.
pub record IsSpelled (r : HttpRequest) (text : List ℕ) : Type 0 where
  pub is : IsRequest r text
  pub items_are : items_of r ≡ Request r ∷ []
  pub goes_on : closes r ≡ false

-- What is posted is spelled so.
abbrev pub PostedSpells : Type 0
PostedSpells = (path : List ℕ) (terms : Terms) (body text : List ℕ) → IsPosted path terms body text → IsSpelled (post_at path terms body) text

-- a fault so many bytes further on
abbrev pub moved : ℕ → Option HttpFault → Option HttpFault
moved n None = None
moved n (Some e) = Some (record { at = n + e.at; why = e.why })

-- What is posted is read first, whatever follows, and what follows is read after it.
abbrev pub PostedIsRead : {H : Type 0} → Holding H → Type 0
PostedIsRead {H} h =
    (path : List ℕ) (terms : Terms) (body text more : List ℕ) (items : List HttpItem) (at : ℕ) (held : H) (fault : Option HttpFault)
    → IsPosted path terms body text → ReadsTo http h more items at held fault
    → ReadsTo http h (text ++ more) (Request (post_at path terms body) ∷ items) (length text + at) held (moved (length text) fault)

-- A reading has this request of so many bytes first. The items after it, and its place, are those of the bytes that follow, where these
-- stand alone, so many bytes further on.
pub record IsFirst (first : HttpRequest) (n : ℕ) (more : List ℕ) (taken : List HttpItem) (r : Reading) : Type 0 where
  pub others : List HttpItem
  pub at : ℕ
  pub held : List ℕ
  pub fault : Option HttpFault
  pub follows : ReadsTo http Drops more others at held fault
  pub items_are : taken ++ r.waiting ≡ Request first ∷ others
  pub at_is : r.at ≡ n + at

-- Whatever has been read of bytes that begin with what is posted, that request is the first.
abbrev pub ReadsFirst : Type 0
ReadsFirst =
    (path : List ℕ) (terms : Terms) (body text more : List ℕ) (taken : List HttpItem) (r : Reading)
    → IsPosted path terms body text → Reads (text ++ more) taken r
    → IsFirst (post_at path terms body) (length text) more taken r

-- Each request that is written for entries, and each query, is posted so.
abbrev pub RequestsArePosted : Type 0
RequestsArePosted =
    (terms : Terms) (place : ℕ) (entries : List Entry) → All (λ (e : Entry). IsEvent e.event) entries
    → IsPosted events_path terms (objects_text (request_of place entries)) (request_text terms (request_of place entries))

abbrev pub QueriesArePosted : Type 0
QueriesArePosted = (terms : Terms) (id : ℕ) → id < 2 ^ 64 → IsPosted query_path terms (acks_text id) (query_text terms id)

-- a post of the sender's, to one of its paths, with its token and its channel
abbrev pub IsPost : Terms → HttpRequest → Type 0
IsPost terms r = (path : List ℕ) × (body : List ℕ) × IsPath path × (r ≡ post_at path terms body)

-- the text is posts, one after another
abbrev pub ArePosts : Terms → List ℕ → Type 0
ArePosts terms text = (posts : List HttpRequest) × AreSpelled IsRequest posts text × All (IsPost terms) posts

-- So what is written in a session, of entries and of what these replies of the collector have brought, is posts, one after another.
abbrev pub SessionIsPosts : Type 0
SessionIsPosts =
    (terms : Terms) (entries : List Entry) (polls : ℕ) (replies : List HttpReply) (p : Progress) → All (λ (e : Entry). IsEvent e.event) entries
    → TakesAll polls unconfirmed replies p → ArePosts terms (session_text terms entries p)
