-- Requests as the collector's sender posts them.
use Rattle.std.specs.Prelude.{◌≡◌, ◌⊎◌, ℕ, ◌<◌, ◌≤◌, ◌^◌, ◌++◌, List, [], ◌∷◌, length, codes}
use Rattle.std.specs.Fmt.{decimal}
use Rattle.http_edge.specs.declared.field.Field.{Field}
use Rattle.http_edge.specs.declared.limits.TheConstants.{MOST_BODY}
use Rattle.http_edge.specs.declared.request.HttpRequest.{HttpRequest}
use Rattle.hec_sender.specs.declared.terms.Terms.{Terms}
use Rattle.hec_sender.specs.Texts.{guid_text, post_text}

-- the numbers of the token and of the channel have 128 bits
pub record AreGuids (terms : Terms) : Type 0 where
  pub token : terms.token < 2 ^ 128
  pub channel : terms.channel < 2 ^ 128

-- the endpoints for events and for queries of acknowledgement ids
abbrev pub events_path : List ℕ
events_path = codes "/services/collector/event"

abbrev pub query_path : List ℕ
query_path = codes "/services/collector/ack"

abbrev pub IsPath : List ℕ → Type 0
IsPath path = (path ≡ events_path) ⊎ (path ≡ query_path)

-- a field
abbrev pub field : List ℕ → List ℕ → Field
field name value = record { name = name; value = value }

-- the fields of a post of so many bytes
abbrev pub post_fields : Terms → ℕ → List Field
post_fields terms size =
    field (codes "Host") (codes "collector")
    ∷ field (codes "Authorization") (codes "Splunk " ++ guid_text terms.token)
    ∷ field (codes "X-Splunk-Request-Channel") (guid_text terms.channel)
    ∷ field (codes "Content-Type") (codes "application/json")
    ∷ field (codes "Content-Length") (decimal size) ∷ []

-- the post of a body to a path
abbrev pub post_at : List ℕ → Terms → List ℕ → HttpRequest
post_at path terms body = record { method = codes "POST"; target = path; minor = 1; fields = post_fields terms (length body); body = body }

-- the text is what the sender writes to post this body to this path
pub record IsPosted (path : List ℕ) (terms : Terms) (body text : List ℕ) : Type 0 where
  pub known : IsPath path
  pub fits : length body ≤ MOST_BODY
  pub text_is : text ≡ post_text terms path body
