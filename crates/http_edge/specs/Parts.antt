-- How far a head has been read that isn't whole (RFC 9112, sections 2, 3 and 5).
use Rattle.std.specs.Prelude.{◌≡◌, ℕ, ◌+◌, ◌≤◌, List, [], ◌∷◌, ◌++◌, length}
use Rattle.httparse.specs.Ascii.{carriage_return, space}
use Rattle.httparse.specs.Grammar.{is_uri_byte, AllPass, IsToken, LineEnd, print_end, print_blank, print_version, RequestHead, IsRequestHead}
use Rattle.http_edge.specs.declared.part.HeadPart.{HeadPart}
use Rattle.http_edge.specs.declared.part.HeadPart.TheVariants.{Blank, Return, Method, Target, Fields, Other}
use Rattle.http_edge.specs.Heads.{IsOpenHead}
use Rattle.http_edge.specs.LineParts.{AreLines}

-- the version and the end of a start line
abbrev pub IsVersion : List ℕ → Type 0
IsVersion t = (minor : ℕ) × (end : LineEnd) × (minor ≤ 1) × (t ≡ print_version minor ++ print_end end)

-- the start line of a head, and then these bytes
abbrev pub after_start : RequestHead → List ℕ → List ℕ
after_start h t = print_blank h.blank ++ (h.method ++ space ∷ (h.target ++ space ∷ (print_version h.minor ++ (print_end h.line_end ++ t))))

-- the bytes are so far read of a head
abbrev pub IsPart : HeadPart → List ℕ → Type 0
IsPart Blank b = (ends : List LineEnd) × (b ≡ print_blank ends)
IsPart Return b = (ends : List LineEnd) × (b ≡ print_blank ends ++ carriage_return ∷ [])
IsPart Method b = (ends : List LineEnd) × (method : List ℕ) × IsToken method × (b ≡ print_blank ends ++ method)
IsPart (Target from) b =
    (ends : List LineEnd) × (method : List ℕ) × (target : List ℕ) × IsToken method × AllPass is_uri_byte target
    × (b ≡ (print_blank ends ++ method) ++ space ∷ target) × (from ≡ length (print_blank ends ++ method) + 1)
IsPart (Fields lines) b = (h : RequestHead) × (s : List ℕ) × IsRequestHead h × AreLines lines s × (b ≡ after_start h s)
IsPart Other b = IsOpenHead b
