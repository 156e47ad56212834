-- What a whole head says of its body.
use Rattle.std.proofs.Common.{◌≡◌, ℕ, ◌+◌, ◌<◌, ◌≤◌, true, List, [], ◌∷◌, ◌++◌, length, take, drop, refl, sym, ap, ◌∙◌, subst, arith, inr, suc, length-take, length-append, take-append-drop, append_assoc, append-nil}
use Rattle.std.specs.Prelude.{None, Err, min}
use Rattle.std.specs.Char.{is_ascii_digit}
use Rattle.std.proofs.Math.Seq.{drop-append_seam}
use Rattle.std.proofs.lemmas.List.Elements.{All-nil, All-cons}
use Rattle.httparse.specs.declared.spans.HeaderSpan.{HeaderSpan}
use Rattle.httparse.specs.declared.spans.ResponseSpans.{ResponseSpans}
use Rattle.httparse.specs.Grammar.{ResponseHead, IsResponseHead, IsField, lf, print_response, print_blank, print_version, print_reason, print_end, print_section, is_value_byte, status_code}
use Rattle.httparse.specs.Spans.{IsResponseAt}
use Rattle.httparse.proofs.GrammarLemmas.{print_response-append}
use Rattle.http_edge.specs.declared.fault.HttpWhy.{HttpWhy}
use Rattle.http_edge.specs.declared.fault.HttpWhy.TheVariants.{BadHead, BadLength, TooLong, BadChunk}
use Rattle.http_edge.specs.declared.field.Field.{Field}
use Rattle.http_edge.specs.declared.length.Size.{Size}
use Rattle.http_edge.specs.Lengths.{BodySize}
use Rattle.http_edge.specs.Bodies.{IsTooLong}
use Rattle.http_edge.specs.Steps.{IsSize, StartsAt}
use Rattle.http_reply.specs.Heads.{HoldsHead, IsOpenHead, BeginsWith, head_fields}
use Rattle.http_reply.specs.Sizes.{reply_size, size_of}
use Rattle.http_reply.specs.ReplyStream.{IsFault}

-- a head is not empty
pub some_head : (h : ResponseHead) → 0 < length (print_response h)
some_head h = go (print_blank h.blank) (print_version h.minor) (h.digits ++ (print_reason h.reason ++ (print_end h.line_end ++ (print_section h.fields h.last ++ [])))) (print_response-append h [])
  where
    go : (a b d : List ℕ) → print_response h ++ [] ≡ a ++ (b ++ 32 ∷ d) → 0 < length (print_response h)
    go a b d e =
        let n : length (print_response h) ≡ length (a ++ (b ++ 32 ∷ d)) = ap length (sym (append-nil (print_response h)) ∙ e) in
        let m : length (a ++ (b ++ 32 ∷ d)) ≡ length a + length (b ++ 32 ∷ d) = length-append a (b ++ 32 ∷ d) in
        let k : length (b ++ 32 ∷ d) ≡ length b + length (32 ∷ d) = length-append b (32 ∷ d) in
        let j : length (32 ∷ d) ≡ suc (length d) = refl in
        omega (arith, n, m, k, j)

-- a head in the first 16,384 bytes is at the front of all
pub begun : (b w : List ℕ) (spans : List HeaderSpan) (r : ResponseSpans) (h : ResponseHead) → w ≡ take 16384 b → IsResponseAt w spans r h → length h.fields ≤ 64 → r.len ≤ length w → BeginsWith b h (drop r.len b) × (r.len ≤ length b)
begun b w spans r h e at few fits =
    let split : take 16384 b ++ drop 16384 b ≡ b = take-append-drop 16384 b in
    let z = drop r.len w ++ drop 16384 b in
    let whole : b ≡ print_response h ++ z = sym split ∙ ap (λ (v : List ℕ). v ++ drop 16384 b) (sym e ∙ at.reads.1) ∙ append_assoc (print_response h) (drop r.len w) (drop 16384 b) in
    let rest : drop r.len b ≡ z = ap (λ (n : ℕ). drop n b) at.len ∙ ap (drop (length (print_response h))) whole ∙ drop-append_seam (print_response h) z in
    let short : length w ≡ min 16384 (length b) = ap length e ∙ length-take 16384 b in (
      record { holds = record { reads = (at.reads.0, whole ∙ ap (λ (v : List ℕ). print_response h ++ v) (sym rest)); few = few }; short = omega (arith, at.len, fits, short) },
      omega (arith, fits, short),
    )

-- what the parts of a head say, the head says
pub sized : (s : Size) (status minor : ℕ) (fields : List Field) (h : ResponseHead) → status ≡ status_code h → minor ≡ h.minor → fields ≡ head_fields h → IsSize s (reply_size status minor fields) → IsSize s (size_of h)
sized s status minor fields h e f g x =
    subst (λ (n : ℕ). IsSize s (reply_size n h.minor (head_fields h))) e (subst (λ (n : ℕ). IsSize s (reply_size status n (head_fields h))) f (subst (λ (fs : List Field). IsSize s (reply_size status minor fs)) g x))

-- why a body can't come is a fault
pub refused : (b : List ℕ) (h : ResponseHead) (text : List ℕ) (why : HttpWhy) → BeginsWith b h text → StartsAt (size_of h) (Err why) → IsFault b why 0
refused b h text BadHead begins s = absurd s
refused b h text BadLength begins s = (h, text, begins, s, refl)
refused b h text TooLong begins (n, e, long) = inr (h, text, begins, subst (λ (z : BodySize). IsTooLong z text) (sym e) long, refl)
refused b h text BadChunk begins s = absurd s

-- a head that is as short as may be
short_head : ResponseHead
short_head = record { blank = []; minor = 0; digits = 50 ∷ 48 ∷ 48 ∷ []; reason = None; line_end = lf; fields = []; last = lf }

short_head_is : IsResponseHead short_head
unfolding short_head
short_head_is = record {
  minor = omega arith;
  digits = (refl, All-cons (λ v. is_ascii_digit v ≡ true) 50 (48 ∷ 48 ∷ []) refl (All-cons (λ v. is_ascii_digit v ≡ true) 48 (48 ∷ []) refl (All-cons (λ v. is_ascii_digit v ≡ true) 48 [] refl (All-nil (λ v. is_ascii_digit v ≡ true)))));
  reason = All-nil (λ v. is_value_byte v ≡ true);
  fields = All-nil IsField;
}

no_head : (h : ResponseHead) (rest : List ℕ) → HoldsHead [] h rest → ⊥
no_head h rest x =
    let n = some_head h in
    let m : 0 ≡ length (print_response h) + length rest = ap length x.reads.1 ∙ length-append (print_response h) rest in
    omega (arith, n, m)

-- no bytes are the beginning of a head
pub open_nil : IsOpenHead []
unfolding short_head
open_nil = record { none = no_head; going = record { more = print_response short_head; head = short_head; holds = record { reads = (short_head_is, sym (append-nil (print_response short_head))); few = omega arith } } }
