-- What is written to a collector: Splunk's "HTTP Event Collector" and "HTTP Event Collector indexer acknowledgment", in requests of
-- HTTP/1.1 (RFC 9112).
use Rattle.std.specs.Prelude.{ℕ, zero, suc, List, [], ◌∷◌, ◌++◌, length, codes, Option, Some, None}
use Rattle.std.specs.Fmt.{decimal}
use Rattle.std.specs.Int.{to_be_bytes}
use mir.Syntax.{w128}
use Rattle.uuid.specs.Text.{hyphenated_text, lower}
use Rattle.event_form.specs.declared.event.Entry.{Entry}
use Rattle.event_map.proofs.Functions.{hec_object_of}
use Rattle.http_edge.specs.Reply.{crlf}
use Rattle.hec_sender.specs.declared.query.Query.{Query}
use Rattle.hec_sender.specs.declared.terms.Terms.{Terms}

-- a number as a GUID, with hyphens and lower-case letters (RFC 9562, section 4)
abbrev pub guid_text : ℕ → List ℕ
guid_text number = hyphenated_text lower (to_be_bytes w128 number)

-- the head of a POST to a path, of a body of so many bytes
abbrev pub post_head : Terms → List ℕ → ℕ → List ℕ
post_head terms path size =
    codes "POST " ++ path ++ codes " HTTP/1.1" ++ crlf
    ++ codes "Host: collector" ++ crlf
    ++ codes "Authorization: Splunk " ++ guid_text terms.token ++ crlf
    ++ codes "X-Splunk-Request-Channel: " ++ guid_text terms.channel ++ crlf
    ++ codes "Content-Type: application/json" ++ crlf
    ++ codes "Content-Length: " ++ decimal size ++ crlf
    ++ crlf

abbrev pub post_text : Terms → List ℕ → List ℕ → List ℕ
post_text terms path body = post_head terms path (length body) ++ body

-- the event objects of some entries, without separators, each the one that event_map's relation allows
abbrev pub objects_text : List Entry → List ℕ
objects_text [] = []
objects_text (e ∷ es) = hec_object_of e.event ++ objects_text es

-- the request of some entries
abbrev pub request_text : Terms → List Entry → List ℕ
request_text terms entries = post_text terms (codes "/services/collector/event") (objects_text entries)

-- {"acks":[N]}
abbrev pub acks_text : ℕ → List ℕ
acks_text id = codes "{\"acks\":[" ++ decimal id ++ codes "]}"

-- the query of an acknowledgement id
abbrev pub query_text : Terms → ℕ → List ℕ
query_text terms id = post_text terms (codes "/services/collector/ack") (acks_text id)

-- the same query, so many times
abbrev pub queries_text : Terms → ℕ → ℕ → List ℕ
queries_text terms id zero = []
queries_text terms id (suc n) = queries_text terms id n ++ query_text terms id

-- what is written after a request, by what is asked for it: nothing, or its queries
abbrev pub asked_text : Terms → Option Query → List ℕ
asked_text terms None = []
asked_text terms (Some query) = queries_text terms query.id query.times
