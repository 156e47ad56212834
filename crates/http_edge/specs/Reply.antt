-- The bytes of a reply (RFC 9112, sections 4 and 6; RFC 9110, section 15).
use Rattle.std.specs.Prelude.{ℕ, Bool, ◌==◌, List, [], ◌∷◌, ◌++◌, length, codes, if◌then◌else◌}
use Rattle.std.specs.List.{list_any}
use Rattle.std.specs.Fmt.{decimal}

-- the end of a line
abbrev pub crlf : List ℕ
crlf = 13 ∷ 10 ∷ []

-- the statuses that are answered here
abbrev pub is_status : ℕ → Bool
is_status s = list_any (λ t. s == t) (200 ∷ 400 ∷ 401 ∷ 403 ∷ 404 ∷ 405 ∷ 500 ∷ 503 ∷ [])

-- their reasons
abbrev pub reason_of : ℕ → List ℕ
reason_of s =
    if s == 200 then codes "OK"
    else if s == 400 then codes "Bad Request"
    else if s == 401 then codes "Unauthorized"
    else if s == 403 then codes "Forbidden"
    else if s == 404 then codes "Not Found"
    else if s == 405 then codes "Method Not Allowed"
    else if s == 500 then codes "Internal Server Error"
    else codes "Service Unavailable"

-- the field of a reply after which the connection ends
abbrev pub connection : Bool → List ℕ
connection closing = if closing then codes "Connection: close" ++ crlf else []

-- the status line, the fields and the empty line of a reply with a body of so many bytes
abbrev pub reply_head : ℕ → Bool → ℕ → List ℕ
reply_head status closing size =
    codes "HTTP/1.1 " ++ decimal status ++ codes " " ++ reason_of status ++ crlf
    ++ codes "Content-Type: application/json" ++ crlf
    ++ codes "Content-Length: " ++ decimal size ++ crlf
    ++ connection closing ++ crlf

-- that head, and the body
abbrev pub reply_text : ℕ → Bool → List ℕ → List ℕ
reply_text status closing body = reply_head status closing (length body) ++ body
