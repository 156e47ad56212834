-- How the beginning of a reply's head goes on, byte by byte.
use Rattle.std.proofs.Common.{◌≡◌, ℕ, ◌+◌, ◌<◌, ◌≤◌, true, List, [], ◌∷◌, ◌++◌, length, take, drop, refl, sym, ap, ◌∙◌, subst, arith, suc, length-append, append_assoc, append-nil, take-append-drop}
use Rattle.std.specs.Prelude.{Option, Some, None}
use Rattle.std.specs.Char.{is_ascii_digit}
use Rattle.std.proofs.lemmas.List.{flat_map_more, take_all}
use Rattle.std.proofs.lemmas.List.Elements.{All-cons, All-nil, All-push}
use Rattle.std.proofs.Math.Seq.{take-add}
use Rattle.httparse.specs.Grammar.{is_value_byte, AllPass, LineEnd, crlf, lf, print_end, print_blank, print_version, print_reason, reason_phrase, IsField, print_section, ResponseHead, IsResponseHead}
use Rattle.httparse.proofs.GrammarLemmas.{response_unique, print_response-append, ReadsResponse-append}
use Rattle.http_edge.specs.declared.line_part.LinePart.TheVariants.{Begin}
use Rattle.http_edge.specs.declared.line_part.LinesPart.{LinesPart}
use Rattle.http_edge.specs.LineParts.{AreLines, at_field}
use Rattle.http_edge.proofs.LinePartLaws.{no_lines, section_completes}
use Rattle.http_reply.specs.declared.part.HeadPart.{HeadPart}
use Rattle.http_reply.specs.declared.part.HeadPart.TheVariants.{Blank, Return, Code, Reason, End, Fields, Other}
use Rattle.http_reply.specs.Heads.{HoldsHead, IsOpenHead}
use Rattle.http_reply.specs.Parts.{IsCode, IsPart, IsVersion, after_start, start_line}
use Rattle.http_reply.proofs.HeadLaws.{start_append}

-- more bytes make these a head
abbrev pub Completes : List ℕ → Type 0
Completes b = (more : List ℕ) × (h : ResponseHead) × (0 < length more) × HoldsHead (b ++ more) h []

completes_before : (b : List ℕ) (c : ℕ) → Completes (b ++ c ∷ []) → Completes b
completes_before b c (more, h, some, holds) = (c ∷ more, h, omega (arith, some), subst (λ (v : List ℕ). HoldsHead v h []) (append_assoc b (c ∷ []) more) holds)

-- what can be completed holds no head yet
completes_open : (b : List ℕ) → Completes b → IsOpenHead b
completes_open b (more, h, some, holds) = record {
  none = λ k rest x.
      let q = response_unique (b ++ more) k h (rest ++ more) [] (ReadsResponse-append b k rest more x.reads) holds.reads in
      let n = length-append rest more in
      let e : length (rest ++ more) ≡ 0 = ap length q.1 in
      omega (arith, n, e, some);
  going = record { more = more; head = h; holds = holds };
}

-- ---- empty lines

pub blank_return : (b : List ℕ) → IsPart Blank b → IsPart Return (b ++ 13 ∷ [])
blank_return b (ends, e) = (ends, ap (λ (v : List ℕ). v ++ 13 ∷ []) e)

pub blank_more : (b : List ℕ) → IsPart Blank b → IsPart Blank (b ++ 10 ∷ [])
blank_more b (ends, e) = (ends ++ lf ∷ [], ap (λ (v : List ℕ). v ++ 10 ∷ []) e ∙ flat_map_more print_end [] ends lf)

pub return_blank : (b : List ℕ) → IsPart Return b → IsPart Blank (b ++ 10 ∷ [])
return_blank b (ends, e) = (ends ++ crlf ∷ [], ap (λ (v : List ℕ). v ++ 10 ∷ []) e ∙ append_assoc (print_blank ends) (13 ∷ []) (10 ∷ []) ∙ flat_map_more print_end [] ends crlf)

-- a short head after empty lines
abbrev plain_head : List LineEnd → ResponseHead
plain_head ends = record { blank = ends; minor = 0; digits = 50 ∷ 48 ∷ 48 ∷ []; reason = None; line_end = lf; fields = []; last = lf }

plain_is : (ends : List LineEnd) → IsResponseHead (plain_head ends)
plain_is ends = record {
  minor = omega arith;
  digits = (refl, All-cons (λ v. is_ascii_digit v ≡ true) 50 (48 ∷ 48 ∷ []) refl (All-cons (λ v. is_ascii_digit v ≡ true) 48 (48 ∷ []) refl (All-cons (λ v. is_ascii_digit v ≡ true) 48 [] refl (All-nil (λ v. is_ascii_digit v ≡ true)))));
  reason = All-nil (λ v. is_value_byte v ≡ true);
  fields = All-nil IsField;
}

some_more : (a t : List ℕ) → 0 < length (a ++ 32 ∷ t)
some_more a t =
    let n : length (a ++ 32 ∷ t) ≡ length a + length (32 ∷ t) = length-append a (32 ∷ t) in
    let k : length (32 ∷ t) ≡ suc (length t) = refl in
    omega (arith, n, k)

blank_completes : (b : List ℕ) → IsPart Blank b → Completes b
blank_completes b (ends, e) =
    let k = plain_head ends in
    let tail = k.digits ++ (print_reason k.reason ++ (print_end k.line_end ++ (print_section k.fields k.last ++ []))) in
    let more = print_version 0 ++ 32 ∷ tail in (
      more,
      k,
      some_more (print_version 0) tail,
      record { reads = (plain_is ends, ap (λ (v : List ℕ). v ++ more) e ∙ sym (print_response-append k [])); few = omega arith },
    )

-- ---- the start line

-- a head with another reason
abbrev with_reason : ResponseHead → Option (List ℕ) → ResponseHead
with_reason h reason = record { blank = h.blank; minor = h.minor; digits = h.digits; reason = reason; line_end = h.line_end; fields = h.fields; last = h.last }

reason_is : (h : ResponseHead) (reason : Option (List ℕ)) → IsResponseHead h → AllPass is_value_byte (reason_phrase reason) → IsResponseHead (with_reason h reason)
reason_is h reason x all = record { minor = x.minor; digits = x.digits; reason = all; fields = x.fields }

-- another byte of the reason
longer : (h : ResponseHead) (b : List ℕ) (old new : Option (List ℕ)) (c : ℕ) → h.reason ≡ old → print_reason old ++ c ∷ [] ≡ print_reason new → b ≡ start_line h → b ++ c ∷ [] ≡ start_line (with_reason h new)
longer h b old new c is more e =
    let text : Option (List ℕ) → List ℕ = λ r. print_blank h.blank ++ (print_version h.minor ++ 32 ∷ (h.digits ++ print_reason r)) in
    ap (λ (v : List ℕ). v ++ c ∷ []) (e ∙ ap text is) ∙ flat (print_blank h.blank) (print_version h.minor) h.digits (print_reason old)
    ∙ ap (λ (v : List ℕ). print_blank h.blank ++ (print_version h.minor ++ 32 ∷ (h.digits ++ v))) more
  where
    flat : (x y z r : List ℕ) → (x ++ (y ++ 32 ∷ (z ++ r))) ++ c ∷ [] ≡ x ++ (y ++ 32 ∷ (z ++ (r ++ c ∷ [])))
    flat x y z r = simp append_assoc

pub code_reason : (b : List ℕ) → IsPart Code b → IsPart Reason (b ++ 32 ∷ [])
code_reason b (h, x, none, e) = (with_reason h (Some []), reason_is h (Some []) x (All-nil (λ v. is_value_byte v ≡ true)), ([], refl), longer h b None (Some []) 32 none refl e)

pub reason_more : (c : ℕ) → is_value_byte c ≡ true → (b : List ℕ) → IsPart Reason b → IsPart Reason (b ++ c ∷ [])
reason_more c value b (h, x, (phrase, some), e) =
    let all : AllPass is_value_byte phrase = subst (λ (r : Option (List ℕ)). AllPass is_value_byte (reason_phrase r)) some x.reason in
    let new = phrase ++ c ∷ [] in
    (with_reason h (Some new), reason_is h (Some new) x (All-push (λ v. is_value_byte v ≡ true) phrase c all value), (new, refl), longer h b (Some phrase) (Some new) c some refl e)

pub code_end : (b : List ℕ) → IsPart Code b → IsPart End (b ++ 13 ∷ [])
code_end b (h, x, none, e) = (h, x, ap (λ (v : List ℕ). v ++ 13 ∷ []) e)

pub reason_end : (b : List ℕ) → IsPart Reason b → IsPart End (b ++ 13 ∷ [])
reason_end b (h, x, some, e) = (h, x, ap (λ (v : List ℕ). v ++ 13 ∷ []) e)

-- a head with this end of its start line, and no fields
abbrev ended : ResponseHead → LineEnd → ResponseHead
ended h end = record { blank = h.blank; minor = h.minor; digits = h.digits; reason = h.reason; line_end = end; fields = []; last = lf }

-- the last byte of the start line
line_ends : (h : ResponseHead) (end : LineEnd) (b tail : List ℕ) → IsResponseHead h → b ≡ start_line h ++ tail → tail ++ 10 ∷ [] ≡ print_end end → IsPart (Fields (at_field 0 Begin)) (b ++ 10 ∷ [])
line_ends h end b tail x e f = (
  ended h end,
  [],
  record { minor = x.minor; digits = x.digits; reason = x.reason; fields = All-nil IsField },
  no_lines,
  ap (λ (v : List ℕ). v ++ 10 ∷ []) e ∙ append_assoc (start_line h) tail (10 ∷ []) ∙ ap (λ (v : List ℕ). start_line h ++ v) f ∙ flat (print_blank h.blank) (print_version h.minor) h.digits (print_reason h.reason) (print_end end),
)
  where
    flat : (x y z r d : List ℕ) → (x ++ (y ++ 32 ∷ (z ++ r))) ++ d ≡ x ++ (y ++ 32 ∷ (z ++ (r ++ (d ++ []))))
    flat x y z r d = simp (append_assoc, append-nil)

pub code_line : (b : List ℕ) → IsPart Code b → IsPart (Fields (at_field 0 Begin)) (b ++ 10 ∷ [])
code_line b (h, x, none, e) = line_ends h lf b [] x (e ∙ sym (append-nil (start_line h))) refl

pub reason_line : (b : List ℕ) → IsPart Reason b → IsPart (Fields (at_field 0 Begin)) (b ++ 10 ∷ [])
reason_line b (h, x, some, e) = line_ends h lf b [] x (e ∙ sym (append-nil (start_line h))) refl

pub end_line : (b : List ℕ) → IsPart End b → IsPart (Fields (at_field 0 Begin)) (b ++ 10 ∷ [])
end_line b (h, x, e) = line_ends h crlf b (13 ∷ []) x e refl

-- ---- the fields

-- another byte of the field lines
pub fields_more : (now next : LinesPart) (c : ℕ) → ((s : List ℕ) → AreLines now s → AreLines next (s ++ c ∷ [])) → (b : List ℕ) → IsPart (Fields now) b → IsPart (Fields next) (b ++ c ∷ [])
fields_more now next c go b (h, s, x, lines, e) = (h, s ++ c ∷ [], x, go s lines, ap (λ (v : List ℕ). v ++ c ∷ []) e ∙ start_append h s (c ∷ []))

fields_complete : (now : LinesPart) (b : List ℕ) → IsPart (Fields now) b → Completes b
fields_complete now b (h, s, x, lines, e) =
    let c = section_completes now s lines in
    let k : ResponseHead = record { blank = h.blank; minor = h.minor; digits = h.digits; reason = h.reason; line_end = h.line_end; fields = c.fields; last = c.last } in (
      c.more,
      k,
      c.some,
      record {
        reads = (record { minor = x.minor; digits = x.digits; reason = x.reason; fields = c.are }, ap (λ (v : List ℕ). v ++ c.more) e ∙ start_append h s c.more ∙ ap (after_start h) (c.is ∙ sym (append-nil (print_section c.fields c.last))) ∙ sym (print_response-append k []));
        few = c.few;
      },
    )

line_open : (b : List ℕ) → IsPart (Fields (at_field 0 Begin)) (b ++ 10 ∷ []) → IsOpenHead b
line_open b x = completes_open b (completes_before b 10 (fields_complete (at_field 0 Begin) (b ++ 10 ∷ []) x))

-- what has been read of a head is the beginning of one
pub part_open : (p : HeadPart) (b : List ℕ) → IsPart p b → IsOpenHead b
part_open Blank b x = completes_open b (blank_completes b x)
part_open Return b x = completes_open b (completes_before b 10 (blank_completes (b ++ 10 ∷ []) (return_blank b x)))
part_open Code b x = line_open b (code_line b x)
part_open Reason b x = line_open b (reason_line b x)
part_open End b x = line_open b (end_line b x)
part_open (Fields lines) b x = completes_open b (fields_complete lines b x)
part_open Other b x = x

-- ---- from a head's first byte on

-- a version, a space and a code after empty lines
pub code_passed : (b line : List ℕ) (from : ℕ) → IsPart Blank (take from b) → line ≡ drop from b → IsVersion (take 9 line) → IsCode (take 3 (drop 9 line)) → IsPart Code (take (from + 12) b)
code_passed b line from (ends, e) is (minor, few, version) digits =
    let code = take 3 (drop 9 line) in
    let h : ResponseHead = record { blank = ends; minor = minor; digits = code; reason = None; line_end = lf; fields = []; last = lf } in
    let all : take 12 (drop from b) ≡ (print_version minor ++ 32 ∷ []) ++ code = ap (take 12) (sym is) ∙ take-add 9 3 line ∙ ap (λ (v : List ℕ). v ++ code) version in (
      h,
      record { minor = few; digits = digits; reason = All-nil (λ v. is_value_byte v ≡ true); fields = All-nil IsField },
      refl,
      take-add from 12 b ∙ (λ i. e i ++ all i) ∙ flat (print_blank ends) (print_version minor) code,
    )
  where
    flat : (x y z : List ℕ) → x ++ ((y ++ 32 ∷ []) ++ z) ≡ x ++ (y ++ 32 ∷ (z ++ []))
    flat x y z = simp (append_assoc, append-nil)

-- what has been read of all bytes from a place on
pub part_all : (b rest : List ℕ) (at used : ℕ) (p : HeadPart) → rest ≡ drop at b → length rest ≤ used → IsPart p (take at b ++ take used rest) → IsPart p b
part_all b rest at used p e many x = subst (IsPart p) (ap (λ (v : List ℕ). take at b ++ v) (take_all used rest many ∙ e) ∙ take-append-drop at b) x
