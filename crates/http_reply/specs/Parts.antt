-- How far the head of a reply has been read that isn't whole (RFC 9112, sections 2, 4 and 5).
use Rattle.std.specs.Prelude.{◌≡◌, ℕ, ◌≤◌, List, [], ◌∷◌, ◌++◌, length, Some, None}
use Rattle.std.specs.Char.{is_ascii_digit}
use Rattle.httparse.specs.Ascii.{carriage_return, space}
use Rattle.httparse.specs.Grammar.{AllPass, LineEnd, print_end, print_blank, print_version, print_reason, ResponseHead, IsResponseHead}
use Rattle.http_edge.specs.LineParts.{AreLines}
use Rattle.http_reply.specs.declared.part.HeadPart.{HeadPart}
use Rattle.http_reply.specs.declared.part.HeadPart.TheVariants.{Blank, Return, Code, Reason, End, Fields, Other}
use Rattle.http_reply.specs.Heads.{IsOpenHead}

-- the version and the space after it
abbrev pub IsVersion : List ℕ → Type 0
IsVersion t = (minor : ℕ) × (minor ≤ 1) × (t ≡ print_version minor ++ space ∷ [])

-- a status code
abbrev pub IsCode : List ℕ → Type 0
IsCode t = (length t ≡ 3) × AllPass is_ascii_digit t

-- the start line of a head but for its end
abbrev pub start_line : ResponseHead → List ℕ
start_line h = print_blank h.blank ++ (print_version h.minor ++ space ∷ (h.digits ++ print_reason h.reason))

-- the start line of a head, and then these bytes
abbrev pub after_start : ResponseHead → List ℕ → List ℕ
after_start h t = print_blank h.blank ++ (print_version h.minor ++ space ∷ (h.digits ++ (print_reason h.reason ++ (print_end h.line_end ++ t))))

-- the bytes are so far read of a head
abbrev pub IsPart : HeadPart → List ℕ → Type 0
IsPart Blank b = (ends : List LineEnd) × (b ≡ print_blank ends)
IsPart Return b = (ends : List LineEnd) × (b ≡ print_blank ends ++ carriage_return ∷ [])
IsPart Code b = (h : ResponseHead) × IsResponseHead h × (h.reason ≡ None) × (b ≡ start_line h)
IsPart Reason b = (h : ResponseHead) × IsResponseHead h × ((phrase : List ℕ) × (h.reason ≡ Some phrase)) × (b ≡ start_line h)
IsPart End b = (h : ResponseHead) × IsResponseHead h × (b ≡ start_line h ++ carriage_return ∷ [])
IsPart (Fields lines) b = (h : ResponseHead) × (s : List ℕ) × IsResponseHead h × AreLines lines s × (b ≡ after_start h s)
IsPart Other b = IsOpenHead b
