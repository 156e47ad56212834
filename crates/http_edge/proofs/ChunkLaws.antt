-- What a window says of chunk lines and trailers after it.
use Rattle.std.proofs.Common.{◌≡◌, ◌≢◌, ℕ, ◌+◌, ◌<◌, ◌≤◌, true, false, List, [], ◌∷◌, ◌++◌, length, take, drop, refl, sym, ap, ◌∙◌, arith, inl, inr, length-append, length-take, append_assoc, append-nil, take-append-drop}
use Rattle.std.specs.Prelude.{min}
use Rattle.std.specs.List.{flat_map}
use Rattle.std.proofs.Math.Seq.{take-append_seam}
use Rattle.httparse.specs.Grammar.{ChunkLine, print_chunk_line, print_extension, crlf, print_end, Field, print_field, print_section, HasNoSection, MayBecomeSection}
use Rattle.httparse.specs.Pieces.{Section}
use Rattle.httparse.proofs.PieceLemmas.{Section_skip, token_is_no_newline, newline_not_stopped, front-append}
use Rattle.httparse.specs.Spans.{IsChunkLineAt}
use Rattle.http_edge.specs.LineCount.{count_lines, at_line, is_over}
use Rattle.http_edge.specs.Chunks.{IsLine, HasNoTrailer, NeverHasTrailer, MayBecomeTrailer}
use Rattle.http_edge.proofs.HeadLaws.{Judged, Room, Full, section_judged}

-- what stands at the front of a window stands at the front of all
pub window_front : (m n : ℕ) (u w x y : List ℕ) → w ≡ take m u → w ≡ x ++ y → n ≡ length x → (take n u ≡ x) × (n ≤ length u) × (n ≤ m)
window_front m n u w x y e f k =
    let whole : u ≡ x ++ (y ++ drop m u) = sym (take-append-drop m u) ∙ ap (λ (v : List ℕ). v ++ drop m u) (sym e ∙ f) ∙ append_assoc x y (drop m u) in
    let lx : length u ≡ length x + length (y ++ drop m u) = ap length whole ∙ length-append x (y ++ drop m u) in
    let lw : length w ≡ min m (length u) = ap length e ∙ length-take m u in
    let lf : length w ≡ length x + length y = ap length f ∙ length-append x y in (
      (λ i. take (k i) (whole i)) ∙ take-append_seam x (y ++ drop m u),
      omega (arith, lx, k),
      omega (arith, lw, lf, k),
    )

pub some_chunk_line : (l : ChunkLine) → 0 < length (print_chunk_line l)
unfolding print_chunk_line
some_chunk_line l =
    let n : length (print_chunk_line l) ≡ length (l.digits ++ l.pad ++ print_extension l.extension) + 2 = length-append (l.digits ++ l.pad ++ print_extension l.extension) (print_end crlf) in
    omega (arith, n)

pub line_of : (u w : List ℕ) (used size : ℕ) (l : ChunkLine) → w ≡ take 1024 u → IsChunkLineAt w used size l → IsLine size (take used u) × (used ≤ length u) × (0 < used)
line_of u w used size l e at =
    let f = window_front 1024 used u w (print_chunk_line l) (drop used w) e at.reads.1 at.len_is in
    let n : length (take used u) ≡ used = ap length f.0 ∙ sym at.len_is in
    (record { line = l; is = at.reads.0; text_is = f.0; short = omega (arith, n, f.2); size_is = at.size_is }, f.1, omega (arith, some_chunk_line l, at.len_is))

-- no section is no trailer
pub no_trailer : (t : List ℕ) → HasNoSection t → HasNoTrailer t
no_trailer t none rest h = none h.fields h.last rest h.reads

trailer_full : (t : List ℕ) → Full 64 t → NeverHasTrailer t
trailer_full t (fs, c, v, all, is, token, many) more rest holds =
    let skip = Section_skip fs holds.fields holds.last (t ++ more) ((c ∷ v) ++ more) rest (all, front-append t (flat_map print_field fs) (c ∷ v) more is) holds.reads in
    go skip.0 skip.1 skip.2
  where
    go : (hs : List Field) → holds.fields ≡ fs ++ hs → Section (hs, holds.last) (c ∷ (v ++ more)) rest → ⊥
    go [] e s = newline_not_stopped holds.last rest (c ∷ (v ++ more)) (sym s.1) (token_is_no_newline c token)
    go (g ∷ hs) e s =
        let n : length holds.fields ≡ length fs + length (g ∷ hs) = ap (λ (l : List Field). length l) e ∙ length-append fs (g ∷ hs) in
        let few = holds.few in
        let z : length (g ∷ hs) ≡ length hs + 1 = omega arith in
        omega (arith, n, few, z, many)

trailer_room : (t : List ℕ) → Room 64 t → MayBecomeTrailer t
trailer_room t (fs, last, more, all, is, few) = (more, record { fields = fs; last = last; reads = (all, is ∙ sym (append-nil (print_section fs last))); few = few })

abbrev pub TrailerJudged : List ℕ → Type 0
TrailerJudged t = Judged 64 (count_lines (at_line 1) t) t

pub trailer_judged : (t : List ℕ) → HasNoSection t → MayBecomeSection t → TrailerJudged t
trailer_judged t none (more, fields, last, (all, is)) = section_judged fields last 64 1 t more refl all (is ∙ append-nil (print_section fields last)) some
  where
    some : more ≢ []
    some i = none fields last [] (all, sym (append-nil t) ∙ ap (λ (v : List ℕ). t ++ v) (sym i) ∙ is)

pub trailer_bad : (t : List ℕ) → TrailerJudged t → is_over (count_lines (at_line 1) t) ≡ true → NeverHasTrailer t
trailer_bad t (inl (o, h)) e = absurd (cc)
trailer_bad t (inr (o, h)) e = trailer_full t h

pub trailer_open : (t : List ℕ) → TrailerJudged t → is_over (count_lines (at_line 1) t) ≡ false → MayBecomeTrailer t
trailer_open t (inl (o, h)) e = trailer_room t h
trailer_open t (inr (o, h)) e = absurd (cc)
