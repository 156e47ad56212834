-- How a list of entries is cut into requests, and the text of a session.
use Rattle.std.specs.Prelude.{◌≡◌, ℕ, suc, ◌+◌, ◌-◌, ◌%◌, ◌<◌, nat_le, max, if◌then◌else◌, List, [], ◌∷◌, ◌++◌, length, take, drop, Option}
use Rattle.event_form.specs.declared.event.Entry.{Entry}
use Rattle.event_map.proofs.Functions.{hec_object_of}
use Rattle.hec_sender.specs.declared.limits.TheConstants.{WINDOW, MOST_BODY}
use Rattle.hec_sender.specs.declared.query.Query.{Query}
use Rattle.hec_sender.specs.declared.terms.Terms.{Terms}
use Rattle.hec_sender.specs.Texts.{request_text, asked_text}

-- how many of the first entries have objects that fit together in so many bytes
abbrev pub fitting : ℕ → List Entry → ℕ
fitting room [] = 0
fitting room (e ∷ es) = if nat_le (length (hec_object_of e.event)) room then suc (fitting (room - length (hec_object_of e.event)) es) else 0

-- how many of the first entries of a run make a request: as many as fit in a body, and at least one
abbrev pub request_size : List Entry → ℕ
request_size run = max 1 (fitting MOST_BODY run)

-- Of the entries from a place of the list on, those of the same run. The list is cut into runs of WINDOW.
abbrev pub run_from : ℕ → List Entry → List Entry
run_from place entries = take (WINDOW - place % WINDOW) entries

-- of the entries from a place of the list on, those of the next request
abbrev pub request_of : ℕ → List Entry → List Entry
request_of place entries = take (request_size (run_from place entries)) entries

-- how many of the entries from a place of the list on stand in the first requests, of which there are as many as in `confirmed`
abbrev pub known_from : ℕ → List (Option Query) → List Entry → ℕ
known_from place [] entries = 0
known_from place (asked ∷ confirmed) [] = 0
known_from place (asked ∷ confirmed) (e ∷ es) =
    length (request_of place (e ∷ es))
    + known_from (place + length (request_of place (e ∷ es))) confirmed (drop (length (request_of place (e ∷ es))) (e ∷ es))

-- those requests, each followed by what was asked for it
abbrev pub confirmed_text : Terms → ℕ → List (Option Query) → List Entry → List ℕ
confirmed_text terms place [] entries = []
confirmed_text terms place (asked ∷ confirmed) [] = []
confirmed_text terms place (asked ∷ confirmed) (e ∷ es) =
    (request_text terms (request_of place (e ∷ es)) ++ asked_text terms asked)
    ++ confirmed_text terms (place + length (request_of place (e ∷ es))) confirmed (drop (length (request_of place (e ∷ es))) (e ∷ es))

-- where entries are left from a place on, their next request, followed by what is asked for it
abbrev pub next_text : Terms → ℕ → Option Query → List Entry → List ℕ
next_text terms place asked [] = []
next_text terms place asked (e ∷ es) = request_text terms (request_of place (e ∷ es)) ++ asked_text terms asked

-- A text has the request of the entry at this place: it begins with some first requests, each followed by what was asked for it,
-- and the entry stands in one of them.
pub record IsSent (terms : Terms) (entries : List Entry) (out : List ℕ) (place : ℕ) : Type 0 where
  pub requests : List (Option Query)
  pub rest : List ℕ
  pub within : place < known_from 0 requests entries
  pub begins : out ≡ confirmed_text terms 0 requests entries ++ rest
