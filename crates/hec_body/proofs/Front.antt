-- The object that some bytes begin with.
use Rattle.std.proofs.Common.{◌≡◌, ℕ, zero, suc, ◌+◌, List, ◌∷◌, ◌++◌, length, get_or, take, drop, sym, ◌∙◌, ap, arith}
use Rattle.std.specs.Prelude.{slice_range}
use Rattle.std.proofs.Math.Seq.{take-append_seam, drop-append_seam, get_or-append_seam}
use Rattle.json_span.specs.Json.{JsonObject}
use Rattle.json_span.specs.Spans.{IsFirst}
use Rattle.json_span.specs.Members.{IsObjectAt}
use Rattle.json_span.specs.declared.span.Span.{Span}
use Rattle.json_span.proofs.ListForms.{object_by_text}
use Rattle.json_span.proofs.ObjectLaws.{first_object}
use Rattle.json_span.proofs.Exact.{first_only}
use Rattle.json_span.proofs.Stretches.{range_whole, drop_split}
use Rattle.hec_body.specs.Events.{BeginsObject}

abbrev pub span_of : (bytes text rest : List ℕ) → BeginsObject bytes text rest → Span
span_of bytes text rest b = record { start = 0 + length b.space; end = 0 + length b.space + length text }

-- the first value is that object
pub begins_first : (bytes text rest : List ℕ) (b : BeginsObject bytes text rest) → IsFirst 127 bytes 0 (span_of bytes text rest b)
begins_first bytes text rest b = object_by_text bytes 0 b.space text rest (omega arith) b.whole b.spaces b.object

-- an object that stands there after white space is such an object
pub object_begins : (bytes : List ℕ) (o : Span) → IsObjectAt bytes 0 o → BeginsObject bytes (slice_range bytes o.start o.end) (slice_range bytes o.end (length bytes))
object_begins bytes o h = record {
  space = slice_range bytes 0 o.start;
  spaces = h.0.text;
  whole = drop_split bytes 0 o.start h.0.order ∙ ap (λ (z : List ℕ). slice_range bytes 0 o.start ++ z) (drop_split bytes o.start o.end h.1.order ∙ ap (λ (z : List ℕ). slice_range bytes o.start o.end ++ z) (range_whole bytes o.end h.1.bound));
  object = h.1.text;
}

-- an object begins with a brace
pub object_brace : (n : ℕ) (x : List ℕ) → JsonObject n x → (y : List ℕ) × (x ≡ 123 ∷ y)
object_brace zero x o = absurd o
object_brace (suc n) x o = (o.0, o.1)

pub begins_brace : (bytes text rest : List ℕ) (b : BeginsObject bytes text rest) → get_or bytes (0 + length b.space) 0 ≡ 123
begins_brace bytes text rest b =
    let brace = object_brace 127 text b.object in
    let start : 0 + length b.space ≡ length b.space = omega arith in
    ap (λ (n : ℕ). get_or bytes n 0) start ∙ ap (λ (z : List ℕ). get_or z (length b.space) 0) (b.whole ∙ ap (λ (z : List ℕ). b.space ++ (z ++ rest)) brace.1) ∙ get_or-append_seam b.space 123 (brace.0 ++ rest) 0

-- and stands there after white space
pub begins_at : (bytes text rest : List ℕ) (b : BeginsObject bytes text rest) → IsObjectAt bytes 0 (span_of bytes text rest b)
begins_at bytes text rest b =
    let first = begins_first bytes text rest b in
    (first.space, first_object bytes 0 (span_of bytes text rest b) first (begins_brace bytes text rest b))

-- what is equal as a whole, and by the lengths of its fronts, is equal by parts
same_parts : (a b x y : List ℕ) → length a ≡ length b → a ++ x ≡ b ++ y → (a ≡ b) × (x ≡ y)
same_parts a b x y l e = (
  sym (take-append_seam a x) ∙ ap (λ (n : ℕ). take n (a ++ x)) l ∙ ap (take (length b)) e ∙ take-append_seam b y,
  sym (drop-append_seam a x) ∙ ap (λ (n : ℕ). drop n (a ++ x)) l ∙ ap (drop (length b)) e ∙ drop-append_seam b y,
)

-- bytes begin with one object
pub one_object : (bytes x y r s : List ℕ) → BeginsObject bytes x r → BeginsObject bytes y s → (x ≡ y) × (r ≡ s)
one_object bytes x y r s a b =
    let same : span_of bytes x r a ≡ span_of bytes y s b = first_only 127 bytes 0 (span_of bytes x r a) (span_of bytes y s b) (begins_first bytes x r a) (begins_first bytes y s b) in
    let start : 0 + length a.space ≡ 0 + length b.space = ap (λ (t : Span). t.start) same in
    let end : 0 + length a.space + length x ≡ 0 + length b.space + length y = ap (λ (t : Span). t.end) same in
    let behind = same_parts a.space b.space (x ++ r) (y ++ s) (omega arith) (sym a.whole ∙ b.whole) in
    same_parts x y r s (omega arith) behind.1
