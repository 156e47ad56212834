-- How a reply says that its body is framed (RFC 9112, section 6.3).
use Rattle.std.specs.Prelude.{ℕ, Bool, ◌&&◌, ◌||◌, nat_lt, nat_le, List, codes, is_some, if◌then◌else◌}
use Rattle.httparse.specs.Grammar.{ResponseHead, status_code}
use Rattle.http_edge.specs.declared.field.Field.{Field}
use Rattle.http_edge.specs.Fields.{field_value}
use Rattle.http_edge.specs.Lengths.{BodySize, Sized, BadSize, body_size}
use Rattle.http_reply.specs.Heads.{head_fields}

-- the status of an interim reply, which another one follows (RFC 9110, section 15.2)
abbrev pub is_interim : ℕ → Bool
is_interim status = nat_le 100 status && nat_lt status 200

-- a field says how long the body is
abbrev pub has_length : List Field → Bool
has_length fields = is_some (field_value (codes "content-length") fields) || is_some (field_value (codes "transfer-encoding") fields)

-- an interim reply has no body, and each other one must say how long its body is
abbrev pub reply_size : ℕ → ℕ → List Field → BodySize
reply_size status minor fields = if is_interim status then Sized 0 else if has_length fields then body_size minor fields else BadSize

abbrev pub size_of : ResponseHead → BodySize
size_of h = reply_size (status_code h) h.minor (head_fields h)
