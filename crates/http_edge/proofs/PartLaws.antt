-- How the beginning of a head goes on, byte by byte.
use Rattle.std.proofs.Common.{◌≡◌, ℕ, ◌+◌, ◌-◌, ◌<◌, ◌≤◌, true, List, [], ◌∷◌, ◌++◌, length, take, drop, get_or, length-take-le, length-drop, take-append-drop, refl, sym, ap, ◌∙◌, subst, arith, inl, inr, length-append, append_assoc, append-nil}
use Rattle.std.specs.Prelude.{IsUtf8}
use Rattle.std.proofs.lemmas.List.{flat_map_more, drop-drop, drop_at, take_all, take_at}
use Rattle.std.proofs.lemmas.List.Elements.{All-nil, All-push}
use Rattle.std.proofs.Math.Seq.{take-add}
use Rattle.httparse.specs.Grammar.{is_token_byte, is_uri_byte, IsToken, LineEnd, crlf, lf, print_end, print_blank, print_version, Field, IsField, print_section, RequestHead, IsRequestHead}
use Rattle.httparse.proofs.GrammarLemmas.{request_unique, print_request-append, ReadsRequest-append}
use Rattle.httparse.proofs.OpenLemmas.{some_target}
use Rattle.http_edge.specs.declared.lines.Lines.{Lines}
use Rattle.http_edge.specs.declared.part.HeadPart.{HeadPart}
use Rattle.http_edge.specs.declared.part.HeadPart.TheVariants.{Blank, Return, Method, Target, Fields, Other}
use Rattle.http_edge.specs.declared.line_part.LinePart.TheVariants.{Begin}
use Rattle.http_edge.specs.declared.line_part.LinesPart.{LinesPart}
use Rattle.http_edge.specs.Heads.{HoldsHead, HasNoHead, IsOpenHead}
use Rattle.http_edge.specs.LineCount.{count_lines, at_start, at_line}
use Rattle.http_edge.specs.LineParts.{AreLines, at_field}
use Rattle.http_edge.specs.Parts.{IsPart, IsVersion, after_start}
use Rattle.http_edge.proofs.HeadLaws.{start_append, count_blank, count_method, count_target, count_start_text}
use Rattle.http_edge.proofs.LineLaws.{lines_grow, in_line}
use Rattle.http_edge.proofs.LinePartLaws.{no_lines, section_completes, token_more, token_one}

-- more bytes make these a head
abbrev pub Completes : List ℕ → Type 0
Completes b = (more : List ℕ) × (h : RequestHead) × (0 < length more) × HoldsHead (b ++ more) h []

pub completes_before : (b : List ℕ) (c : ℕ) → Completes (b ++ c ∷ []) → Completes b
completes_before b c (more, h, some, holds) = (c ∷ more, h, omega (arith, some), subst (λ (v : List ℕ). HoldsHead v h []) (append_assoc b (c ∷ []) more) holds)

-- what can be completed holds no head yet
pub completes_open : (b : List ℕ) → Completes b → IsOpenHead b
completes_open b (more, h, some, holds) = record {
  none = λ k rest x.
      let q = request_unique (b ++ more) k h (rest ++ more) [] (ReadsRequest-append b k rest more x.reads) holds.reads in
      let n = length-append rest more in
      let e : length (rest ++ more) ≡ 0 = ap length q.1 in
      omega (arith, n, e, some);
  going = inl (record { more = more; head = h; holds = holds });
}

-- a head with other fields
abbrev pub with_fields : RequestHead → List Field → LineEnd → RequestHead
with_fields h fs last = record { blank = h.blank; method = h.method; target = h.target; minor = h.minor; line_end = h.line_end; fields = fs; last = last }

lines_complete : (h : RequestHead) (now : LinesPart) (s b : List ℕ) → IsRequestHead h → AreLines now s → b ≡ after_start h s → Completes b
lines_complete h now s b x lines f =
    let c = section_completes now s lines in
    let k = with_fields h c.fields c.last in (
      c.more,
      k,
      c.some,
      record {
        reads = (record { method = x.method; target = x.target; target_text = x.target_text; minor = x.minor; fields = c.are }, ap (λ (v : List ℕ). v ++ c.more) f ∙ start_append h s c.more ∙ ap (after_start h) (c.is ∙ sym (append-nil (print_section c.fields c.last))) ∙ sym (print_request-append k []));
        few = c.few;
      },
    )

-- another byte of the field lines
pub fields_more : (now next : LinesPart) (c : ℕ) → ((s : List ℕ) → AreLines now s → AreLines next (s ++ c ∷ [])) → (b : List ℕ) → IsPart (Fields now) b → IsPart (Fields next) (b ++ c ∷ [])
fields_more now next c go b (h, s, x, lines, f) = (h, s ++ c ∷ [], x, go s lines, ap (λ (v : List ℕ). v ++ c ∷ []) f ∙ start_append h s (c ∷ []))

-- a short head with this method
abbrev plain_head : List LineEnd → List ℕ → RequestHead
plain_head ends method = record { blank = ends; method = method; target = some_target.tree; minor = 0; line_end = lf; fields = []; last = lf }

plain_is : (ends : List LineEnd) (method : List ℕ) → IsToken method → IsRequestHead (plain_head ends method)
plain_is ends method token =
    let t = some_target.reads [] in
    record { method = token; target = (t.0.0, t.0.1); target_text = t.1; minor = omega arith; fields = All-nil IsField }

method_completes : (b : List ℕ) → IsPart Method b → Completes b
method_completes b (ends, method, token, e) =
    let k = plain_head ends method in
    let more = 32 ∷ (some_target.tree ++ 32 ∷ (print_version 0 ++ (10 ∷ 10 ∷ []))) in (
      more,
      k,
      omega arith,
      record {
        reads = (plain_is ends method token, ap (λ (v : List ℕ). v ++ more) e ∙ append_assoc (print_blank ends) method more ∙ sym (print_request-append k []));
        few = omega arith;
      },
    )

token_letter : is_token_byte 71 ≡ true
unfolding is_token_byte
token_letter = refl

pub blank_method : (c : ℕ) → is_token_byte c ≡ true → (b : List ℕ) → IsPart Blank b → IsPart Method (b ++ c ∷ [])
blank_method c token b (ends, e) = (ends, c ∷ [], token_one c token, ap (λ (v : List ℕ). v ++ c ∷ []) e)

blank_completes : (b : List ℕ) → IsPart Blank b → Completes b
blank_completes b x = completes_before b 71 (method_completes (b ++ 71 ∷ []) (blank_method 71 token_letter b x))

pub blank_return : (b : List ℕ) → IsPart Blank b → IsPart Return (b ++ 13 ∷ [])
blank_return b (ends, e) = (ends, ap (λ (v : List ℕ). v ++ 13 ∷ []) e)

pub blank_more : (b : List ℕ) → IsPart Blank b → IsPart Blank (b ++ 10 ∷ [])
blank_more b (ends, e) = (ends ++ lf ∷ [], ap (λ (v : List ℕ). v ++ 10 ∷ []) e ∙ flat_map_more print_end [] ends lf)

pub return_blank : (b : List ℕ) → IsPart Return b → IsPart Blank (b ++ 10 ∷ [])
return_blank b (ends, e) = (ends ++ crlf ∷ [], ap (λ (v : List ℕ). v ++ 10 ∷ []) e ∙ append_assoc (print_blank ends) (13 ∷ []) (10 ∷ []) ∙ flat_map_more print_end [] ends crlf)

pub method_more : (c : ℕ) → is_token_byte c ≡ true → (b : List ℕ) → IsPart Method b → IsPart Method (b ++ c ∷ [])
method_more c token b (ends, method, is, e) = (ends, method ++ c ∷ [], token_more method c is token, ap (λ (v : List ℕ). v ++ c ∷ []) e ∙ append_assoc (print_blank ends) method (c ∷ []))

pub method_target : (at : ℕ) (b : List ℕ) → length b ≡ at → IsPart Method b → IsPart (Target (at + 1)) (b ++ 32 ∷ [])
method_target at b long (ends, method, is, e) =
    let n : length b ≡ length (print_blank ends ++ method) = ap length e in
    (ends, method, [], is, All-nil (λ v. is_uri_byte v ≡ true), ap (λ (v : List ℕ). v ++ 32 ∷ []) e, omega (arith, n, long))

pub target_more : (from c : ℕ) → is_uri_byte c ≡ true → (b : List ℕ) → IsPart (Target from) b → IsPart (Target from) (b ++ c ∷ [])
target_more from c x b (ends, method, target, is, all, e, at) = (ends, method, target ++ c ∷ [], is, All-push (λ v. is_uri_byte v ≡ true) target c all x, ap (λ (v : List ℕ). v ++ c ∷ []) e ∙ append_assoc (print_blank ends ++ method) (32 ∷ target) (c ∷ []), at)

-- bytes that end inside a target hold no whole line
target_none : (from : ℕ) (b : List ℕ) → IsPart (Target from) b → HasNoHead b
target_none from b (ends, method, target, is, all, e, at) k rest x =
    let here : count_lines at_start b ≡ in_line 0 = ap (count_lines at_start) (e ∙ append_assoc (print_blank ends) method (32 ∷ target) ∙ ap (λ (v : List ℕ). print_blank ends ++ (method ++ 32 ∷ v)) (sym (append-nil target))) ∙ count_blank ends (method ++ 32 ∷ (target ++ [])) ∙ count_method method (32 ∷ (target ++ [])) is ∙ count_target target [] all in
    let z = print_section k.fields k.last ++ rest in
    let there : count_lines at_start b ≡ count_lines (at_line 1) z = ap (count_lines at_start) (x.reads.1 ∙ print_request-append k rest) ∙ count_start_text k x.reads.0 z in
    let n : 0 ≡ (count_lines (at_line 1) z).ended = ap (λ (s : Lines). s.ended) (sym here ∙ there) in
    let m = lines_grow (at_line 1) z in
    omega (arith, n, m)

-- what has been read of a head is the beginning of one
pub part_open : (p : HeadPart) (b : List ℕ) → IsPart p b → IsOpenHead b
part_open Blank b x = completes_open b (blank_completes b x)
part_open Return b x = completes_open b (completes_before b 10 (blank_completes (b ++ 10 ∷ []) (return_blank b x)))
part_open Method b x = completes_open b (method_completes b x)
part_open (Target from) b x = record { none = target_none from b x; going = inr (x.0, x.1, x.2, x.3, x.4, x.5) }
part_open (Fields lines) b (h, s, x, are, f) = completes_open b (lines_complete h lines s b x are f)
part_open Other b x = x

one_byte : (l : List ℕ) → get_or l 0 0 ≡ 32 → 0 < length l → take 1 l ≡ 32 ∷ []
one_byte [] e some = absurd (omega (arith, some))
one_byte (c ∷ l) e some = ap (λ (v : ℕ). v ∷ []) e

-- a target, a space and a version are a start line
pub target_passed : (b tail : List ℕ) (from to end : ℕ) → IsPart (Target from) (take to b) → to < length b → tail ≡ drop to b → get_or tail 0 0 ≡ 32 → from < to → IsUtf8 (take (to - from) (drop from b)) → IsVersion (take end (drop 1 tail)) → IsPart (Fields (at_field 0 Begin)) (take (to + end + 1) b)
target_passed b tail from to end (ends, method, target, is, all, e, at) inside tail_is byte some text (minor, le, few, v) =
    let front = print_blank ends ++ method in
    let whole : b ≡ (front ++ 32 ∷ []) ++ (target ++ drop to b) = sym (take-append-drop to b) ∙ ap (λ (u : List ℕ). u ++ drop to b) e ∙ split front target (drop to b) in
    let one : length (front ++ 32 ∷ []) ≡ length front + 1 = length-append front (32 ∷ []) in
    let rest : drop from b ≡ target ++ drop to b = ap (drop from) whole ∙ drop_at (front ++ 32 ∷ []) (target ++ drop to b) from (omega (arith, one, at)) in
    let sum : length (take to b) ≡ length front + length (32 ∷ target) = ap length e ∙ length-append front (32 ∷ target) in
    let k : length (take to b) ≡ to = length-take-le to b (omega (arith, inside)) in
    let j : length (32 ∷ target) ≡ length target + 1 = omega arith in
    let long : length target ≡ to - from = omega (arith, sum, k, j, at) in
    let target_is : take (to - from) (drop from b) ≡ target = ap (take (to - from)) rest ∙ take_at target (drop to b) (to - from) long in
    let m = length-drop to b in
    let n : length tail ≡ length (drop to b) = ap length tail_is in
    let space : take 1 tail ≡ 32 ∷ [] = one_byte tail byte (omega (arith, m, n, inside)) in
    let q : to + end + 1 ≡ to + (1 + end) = omega arith in
    let h : RequestHead = record { blank = ends; method = method; target = target; minor = minor; line_end = le; fields = []; last = lf } in
    let x : IsRequestHead h = record { method = is; target = (omega (arith, long, some), all); target_text = subst IsUtf8 target_is text; minor = few; fields = All-nil IsField } in
    let bytes : take (1 + end) (drop to b) ≡ 32 ∷ (print_version minor ++ print_end le) = ap (take (1 + end)) (sym tail_is) ∙ take-add 1 end tail ∙ (λ i. space i ++ v i) in (
      h,
      [],
      x,
      no_lines,
      ap (λ (i : ℕ). take i b) q ∙ take-add to (1 + end) b ∙ (λ i. e i ++ bytes i) ∙ flat (print_blank ends) method target (print_version minor) (print_end le),
    )
  where
    split : (a c d : List ℕ) → (a ++ 32 ∷ c) ++ d ≡ (a ++ 32 ∷ []) ++ (c ++ d)
    split a c d = simp append_assoc

    flat : (a b c d e : List ℕ) → ((a ++ b) ++ 32 ∷ c) ++ 32 ∷ (d ++ e) ≡ a ++ (b ++ 32 ∷ (c ++ 32 ∷ (d ++ (e ++ []))))
    flat a b c d e = simp (append_assoc, append-nil)

-- what has been read of all bytes from a place on
pub part_all : (b line fields : List ℕ) (to n used : ℕ) (p : HeadPart) → line ≡ drop to b → fields ≡ drop n line → length fields ≤ used → IsPart p (take (to + n) b ++ take used fields) → IsPart p b
part_all b line fields to n used p e f many x = subst (IsPart p) (ap (λ (v : List ℕ). take (to + n) b ++ v) (take_all used fields many ∙ f ∙ ap (drop n) e ∙ drop-drop n to b) ∙ take-append-drop (to + n) b) x
