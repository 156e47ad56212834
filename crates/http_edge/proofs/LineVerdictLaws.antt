-- Whether bytes are a head, a chunk line or a trailer, may become one, or never will.
use Rattle.std.proofs.Common.{◌≡◌, ℕ, ◌+◌, ◌<◌, ◌≤◌, List, [], ◌∷◌, ◌++◌, length, take, drop, refl, sym, ap, ◌∙◌, subst, arith, inl, inr, length-append, length-take, append_assoc, append-nil, take-append-drop, Option, Some, None}
use Rattle.std.specs.Prelude.{◌⊎◌, min}
use Rattle.std.specs.Char.{is_ascii_hexdigit}
use Rattle.std.proofs.lemmas.Bool.{cases_eq, cases_lt}
use Rattle.std.proofs.lemmas.List.{take_all}
use Rattle.httparse.specs.Ascii.{crlf_bytes}
use Rattle.httparse.specs.Grammar.{is_ows, is_extension_byte, AllPass, RequestHead, print_request, print_section, ChunkLine, ReadsChunkLine, print_chunk_line, chunk_size, HasNoChunkLine, MayBecomeChunkLine, NeverHasChunkLine}
use Rattle.httparse.specs.Pieces.{Begins, Then, Never, Completes, Stops, Bytes, Run, HexDigits, Extension, Chunk, Section}
use Rattle.httparse.proofs.RunLemmas.{run_unique, run_unstopped, Stops-append}
use Rattle.httparse.proofs.PieceLemmas.{Refutes_by, Never_intro, NotYet_intro, Refutes_first, Refutes_next, front-append}
use Rattle.httparse.proofs.OpenLemmas.{Completes_next, some_extension, Extension_without, padding_cut, digits_cut, chunk_may, section_may}
use Rattle.httparse.proofs.ChunkLemmas.{Run_deterministic, HexDigits_deterministic, HexDigits_long, chunk_line, chunk_from_pieces, HasNoChunkLine_intro, NeverHasChunkLine_intro}
use Rattle.httparse.proofs.HeadLemmas.{section_not_yet, section_never}
use Rattle.httparse.proofs.GrammarLemmas.{request_unique, ReadsRequest-append, section_unique, ReadsSection-append}
use Rattle.http_edge.specs.declared.stage.Stage.TheVariants.{Line, Trailer}
use Rattle.http_edge.specs.Heads.{HoldsHead, HasNoHead, NeverHasHead, IsOpenHead}
use Rattle.http_edge.specs.Chunks.{IsLine, HoldsTrailer, HasNoTrailer, NeverHasTrailer, MayBecomeTrailer}
use Rattle.http_edge.specs.Bodies.{Awaits, Breaks}
use Rattle.http_edge.specs.HttpStream.{BeginsWith}
use Rattle.http_edge.proofs.HeadLaws.{HeadJudged, head_judged}
use Rattle.http_edge.proofs.ChunkLaws.{TrailerJudged, no_trailer, trailer_judged, trailer_bad, trailer_open}
use Rattle.http_edge.proofs.VerdictLaws.{Verdict, RequestVerdict, Split, split_run, all_of, verdict_bytes, verdict_section, verdict_request}

-- ---- chunk lines

no_extension : (e : Option (List ℕ)) (rest : List ℕ) → Extension e [] rest → ⊥
no_extension None rest h = let z = h.1 in cc
no_extension (Some x) rest h = let z = h.1 in cc

extension_some : (e : Option (List ℕ)) (c : ℕ) (t rest : List ℕ) → c ≡ 59 → Extension e (c ∷ t) rest → (x : List ℕ) × AllPass is_extension_byte x × (t ≡ x ++ (crlf_bytes ++ rest))
extension_some None c t rest is h = let f = h.1 in let z : c ≡ 13 = cc in absurd (omega (arith, is, z))
extension_some (Some x) c t rest is h = let f = h.1 in (x, h.0, cc)

extension_none : (e : Option (List ℕ)) (c : ℕ) (t rest : List ℕ) → (c ≡ 59 → ⊥) → Extension e (c ∷ t) rest → c ∷ t ≡ crlf_bytes ++ rest
extension_none None c t rest other h = h.1
extension_none (Some x) c t rest other h = let f = h.1 in absurd (other (cc))

verdict_extension : (s : List ℕ) → Verdict Extension (Completes Extension) s
verdict_extension [] = inr (inl (NotYet_intro (λ h. no_extension h.0 h.1 h.2), some_extension))
verdict_extension (c ∷ s) = go (cases_eq c 59)
  where
    of_text : c ≡ 59 → Split is_extension_byte s → Verdict Extension (Completes Extension) (c ∷ s)
    of_text e (w, r, all, is, inl f) =
        let whole = all_of is_extension_byte s w r all is f in
        let text = λ (h : Begins Extension (c ∷ s)). extension_some h.0 c s h.1 e h.2 in
        inr (inl (NotYet_intro (λ h. run_unstopped is_extension_byte (text h).0 (crlf_bytes ++ h.1) (subst (AllPass is_extension_byte) (text h).2 whole) refl), record { more = crlf_bytes; tree = Some s; reads = λ rest. (whole, ap (λ (v : ℕ). v ∷ (s ++ (crlf_bytes ++ rest))) e) }))
    of_text e (w, r, all, is, inr stops) = choose (verdict_bytes crlf_bytes r)
      where
        end : (more : List ℕ) → Begins Extension (c ∷ s ++ more) → Begins (Bytes crlf_bytes) (r ++ more)
        end more h =
            let x = extension_some h.0 c (s ++ more) h.1 e h.2 in
            let q = run_unique is_extension_byte x.0 w (crlf_bytes ++ h.1) (r ++ more) x.1 all refl (Stops-append is_extension_byte r more stops) (sym x.2 ∙ front-append s w r more is) in
            (tt, h.1, sym q.1)

        choose : Verdict (Bytes crlf_bytes) (Completes (Bytes crlf_bytes)) r → Verdict Extension (Completes Extension) (c ∷ s)
        choose (inl (u, z, at)) = inl (Some w, z, (all, λ i. e i ∷ (is ∙ ap (λ (v : List ℕ). w ++ v) at) i))
        choose (inr (inl (none, x))) = inr (inl (Refutes_by end none, record { more = x.more; tree = Some w; reads = λ rest. (all, λ i. e i ∷ (front-append s w r (x.more ++ rest) is ∙ ap (λ (v : List ℕ). w ++ v) (x.reads rest)) i) }))
        choose (inr (inr never)) = inr (inr (Refutes_by end never))

    of_end : (c ≡ 59 → ⊥) → Verdict (Bytes crlf_bytes) (Completes (Bytes crlf_bytes)) (c ∷ s) → Verdict Extension (Completes Extension) (c ∷ s)
    of_end other (inl (u, z, at)) = inl (None, z, (tt, at))
    of_end other (inr (inl (none, x))) = inr (inl (Refutes_by (λ more h. (tt, h.1, extension_none h.0 c (s ++ more) h.1 other h.2)) none, Extension_without x))
    of_end other (inr (inr never)) = inr (inr (Refutes_by (λ more h. (tt, h.1, extension_none h.0 c (s ++ more) h.1 other h.2)) never))

    go : (c ≡ 59) ⊎ (c ≡ 59 → ⊥) → Verdict Extension (Completes Extension) (c ∷ s)
    go (inl e) = of_text e (split_run is_extension_byte s)
    go (inr other) = of_end other (verdict_bytes crlf_bytes (c ∷ s))

verdict_pad : (s : List ℕ) → Verdict (Then (Run is_ows) Extension) (Completes (Then (Run is_ows) Extension)) s
verdict_pad s = go (split_run is_ows s)
  where
    go : Split is_ows s → Verdict (Then (Run is_ows) Extension) (Completes (Then (Run is_ows) Extension)) s
    go (w, r, all, is, inl e) =
        let whole = all_of is_ows s w r all is e in
        inr (inl (Refutes_first (Run is_ows) Extension (NotYet_intro (λ h. run_unstopped is_ows h.0 h.1 (subst (AllPass is_ows) h.2.1 whole) h.2.2)), padding_cut whole))
    go (w, r, all, is, inr stops) = choose (verdict_extension r)
      where
        choose : Verdict Extension (Completes Extension) r → Verdict (Then (Run is_ows) Extension) (Completes (Then (Run is_ows) Extension)) s
        choose (inl (e, z, x)) = inl ((w, e), z, (r, (all, is, stops), x))
        choose (inr (inl (none, x))) = inr (inl (Refutes_next Extension (Run_deterministic is_ows) {a = w} (all, is, stops) none, Completes_next (Run_deterministic is_ows) {a = w} (all, is, stops) x))
        choose (inr (inr never)) = inr (inr (Refutes_next Extension (Run_deterministic is_ows) {a = w} (all, is, stops) never))

verdict_chunk : (s : List ℕ) → Verdict Chunk (Completes Chunk) s
verdict_chunk s = go (split_run is_ascii_hexdigit s)
  where
    never_digits : Never (Begins HexDigits) s → Verdict Chunk (Completes Chunk) s
    never_digits never = inr (inr (Refutes_first HexDigits (Then (Run is_ows) Extension) never))

    cut : AllPass is_ascii_hexdigit s → (16 < length s) ⊎ (length s ≤ 16) → Verdict Chunk (Completes Chunk) s
    cut whole (inl many) = never_digits (HexDigits_long s many (λ k below. whole k 0 (omega (arith, many, below))))
    cut whole (inr few) = inr (inl (Refutes_first HexDigits (Then (Run is_ows) Extension) (NotYet_intro (λ h. run_unstopped is_ascii_hexdigit h.0 h.1 (subst (AllPass is_ascii_hexdigit) h.2.0.1 whole) h.2.0.2)), digits_cut s whole few))

    stopped : (w r : List ℕ) → AllPass is_ascii_hexdigit w → s ≡ w ++ r → Stops is_ascii_hexdigit r → (0 < length w) ⊎ (length w ≤ 0) → (16 < length w) ⊎ (length w ≤ 16) → Verdict Chunk (Completes Chunk) s
    stopped w r all is stops some few = choose some few
      where
        same : (more : List ℕ) → (h : Begins HexDigits (s ++ more)) → length h.0 ≡ length w
        same more h = ap length (run_unique is_ascii_hexdigit h.0 w h.1 (r ++ more) h.2.0.0 all h.2.0.2 (Stops-append is_ascii_hexdigit r more stops) (sym h.2.0.1 ∙ front-append s w r more is)).0

        after : HexDigits w s r → Verdict (Then (Run is_ows) Extension) (Completes (Then (Run is_ows) Extension)) r → Verdict Chunk (Completes Chunk) s
        after digits (inl (t, z, x)) = inl ((w, t), z, (r, digits, x))
        after digits (inr (inl (none, x))) = inr (inl (Refutes_next (Then (Run is_ows) Extension) HexDigits_deterministic {a = w} digits none, Completes_next HexDigits_deterministic {a = w} digits x))
        after digits (inr (inr never)) = inr (inr (Refutes_next (Then (Run is_ows) Extension) HexDigits_deterministic {a = w} digits never))

        choose : (0 < length w) ⊎ (length w ≤ 0) → (16 < length w) ⊎ (length w ≤ 16) → Verdict Chunk (Completes Chunk) s
        choose (inr none) f = never_digits (Never_intro (λ more h. let n = same more h in let k = h.2.1 in omega (arith, n, k, none)))
        choose (inl some) (inl many) = never_digits (Never_intro (λ more h. let n = same more h in let k = h.2.2 in omega (arith, n, k, many)))
        choose (inl some) (inr few) = after ((all, is, stops), some, few) (verdict_pad r)

    go : Split is_ascii_hexdigit s → Verdict Chunk (Completes Chunk) s
    go (w, r, all, is, inl e) = cut (all_of is_ascii_hexdigit s w r all is e) (cases_lt 16 (length s))
    go (w, r, all, is, inr stops) = stopped w r all is stops (cases_lt 0 (length w)) (cases_lt 16 (length w))

abbrev pub ChunkLineVerdict : List ℕ → Type 0
ChunkLineVerdict b = ((l : ChunkLine) × (rest : List ℕ) × ReadsChunkLine b l rest) ⊎ ((HasNoChunkLine b × MayBecomeChunkLine b) ⊎ NeverHasChunkLine b)

verdict_chunk_line : (b : List ℕ) → ChunkLineVerdict b
verdict_chunk_line b = go (verdict_chunk b)
  where
    go : Verdict Chunk (Completes Chunk) b → ChunkLineVerdict b
    go (inl (t, rest, x)) = inl (chunk_line t, rest, chunk_from_pieces b t rest x)
    go (inr (inl (none, x))) = inr (inl (HasNoChunkLine_intro none, chunk_may x))
    go (inr (inr never)) = inr (inr (NeverHasChunkLine_intro never))

-- ---- windows

-- what stands at the front of a window
pub in_window : (m : ℕ) (u x y : List ℕ) → take m u ≡ x ++ y → (u ≡ x ++ (y ++ drop m u)) × (length x ≤ m)
in_window m u x y e =
    let n : length x + length y ≡ min m (length u) = sym (length-append x y) ∙ ap length (sym e) ∙ length-take m u in
    (sym (take-append-drop m u) ∙ ap (λ (v : List ℕ). v ++ drop m u) e ∙ append_assoc x y (drop m u), omega (arith, n))

abbrev pub LineTurn : List ℕ → Type 0
LineTurn u = ((n : ℕ) × (line : List ℕ) × (more : List ℕ) × IsLine n line × (u ≡ line ++ more)) ⊎ (Awaits Line u ⊎ Breaks Line u)

pub line_turn : (u : List ℕ) → LineTurn u
line_turn u = go (verdict_chunk_line (take 1024 u)) (cases_lt (length u) 1024)
  where
    go : ChunkLineVerdict (take 1024 u) → (length u < 1024) ⊎ (1024 ≤ length u) → LineTurn u
    go (inl (l, rest, (is, e))) f = let w = in_window 1024 u (print_chunk_line l) rest e in inl (chunk_size l, print_chunk_line l, rest ++ drop 1024 u, record { line = l; is = is; text_is = refl; short = w.1; size_is = refl }, w.0)
    go (inr (inl (none, may))) (inl short) = let e = take_all 1024 u (omega (arith, short)) in inr (inl (short, subst HasNoChunkLine e none, subst MayBecomeChunkLine e may))
    go (inr (inl (none, may))) (inr long) = inr (inr (inr (long, none)))
    go (inr (inr never)) f = inr (inr (inl never))

-- ---- trailers

trailer_alone : (t rest : List ℕ) → HoldsTrailer t rest → (x : List ℕ) × HoldsTrailer x [] × (t ≡ x ++ rest)
trailer_alone t rest h = (print_section h.fields h.last, record { fields = h.fields; last = h.last; reads = (h.reads.0, sym (append-nil (print_section h.fields h.last))); few = h.few }, h.reads.1)

abbrev pub TrailerVerdict : List ℕ → Type 0
TrailerVerdict t = ((rest : List ℕ) × HoldsTrailer t rest) ⊎ ((HasNoTrailer t × MayBecomeTrailer t) ⊎ NeverHasTrailer t)

verdict_trailer : (t : List ℕ) → TrailerVerdict t
verdict_trailer t = go (verdict_section (length t + 1) t (omega arith))
  where
    judged : HasNoTrailer t → TrailerJudged t → TrailerVerdict t
    judged none (inl (o, h)) = inr (inl (none, trailer_open t (inl (o, h)) o))
    judged none (inr (o, h)) = inr (inr (trailer_bad t (inr (o, h)) o))

    go : Verdict Section (Completes Section) t → TrailerVerdict t
    go (inr (inl (none, x))) = judged (no_trailer t (section_not_yet none)) (trailer_judged t (section_not_yet none) (section_may x))
    go (inr (inr never)) = inr (inr (λ more. no_trailer (t ++ more) (section_never never more)))
    go (inl ((fields, last), rest, x)) = choose (cases_lt 64 (length fields))
      where
        choose : (64 < length fields) ⊎ (length fields ≤ 64) → TrailerVerdict t
        choose (inr few) = inl (rest, record { fields = fields; last = last; reads = x; few = few })
        choose (inl many) =
            inr (inr (λ more other h.
            let q = section_unique (t ++ more) fields h.fields last h.last (rest ++ more) other (ReadsSection-append t fields last rest more x) h.reads in
            let n = ap length q.0 in
            let few = h.few in
            omega (arith, n, few, many)))

abbrev pub TrailerTurn : List ℕ → Type 0
TrailerTurn u = ((t : List ℕ) × (more : List ℕ) × HoldsTrailer t [] × (length t ≤ 16384) × (u ≡ t ++ more)) ⊎ (Awaits Trailer u ⊎ Breaks Trailer u)

pub trailer_turn : (u : List ℕ) → TrailerTurn u
trailer_turn u = go (verdict_trailer (take 16384 u)) (cases_lt (length u) 16384)
  where
    go : TrailerVerdict (take 16384 u) → (length u < 16384) ⊎ (16384 ≤ length u) → TrailerTurn u
    go (inl (rest, h)) f = let x = trailer_alone (take 16384 u) rest h in let w = in_window 16384 u x.0 rest x.2 in inl (x.0, rest ++ drop 16384 u, x.1, w.1, w.0)
    go (inr (inl (none, may))) (inl short) = let e = take_all 16384 u (omega (arith, short)) in inr (inl (short, subst HasNoTrailer e none, subst MayBecomeTrailer e may))
    go (inr (inl (none, may))) (inr long) = inr (inr (inr (long, none)))
    go (inr (inr never)) f = inr (inr (inl never))

-- ---- heads

abbrev pub HeadVerdict : List ℕ → Type 0
HeadVerdict b = ((h : RequestHead) × (rest : List ℕ) × HoldsHead b h rest) ⊎ (IsOpenHead b ⊎ NeverHasHead b)

verdict_head : (b : List ℕ) → HeadVerdict b
verdict_head b = go (verdict_request b)
  where
    judged : HasNoHead b → HeadJudged b → HeadVerdict b
    judged none (inl (o, going)) = inr (inl (record { none = none; going = going }))
    judged none (inr (o, never)) = inr (inr never)

    go : RequestVerdict b → HeadVerdict b
    go (inr (inl (none, may))) = judged (λ h rest x. none h rest x.reads) (head_judged b none may)
    go (inr (inr never)) = inr (inr (λ more h rest x. never more h rest x.reads))
    go (inl (h, rest, reads)) = choose (cases_lt 64 (length h.fields))
      where
        choose : (64 < length h.fields) ⊎ (length h.fields ≤ 64) → HeadVerdict b
        choose (inr few) = inl (h, rest, record { reads = reads; few = few })
        choose (inl many) =
            inr (inr (λ more k other x.
            let q = request_unique (b ++ more) h k (rest ++ more) other (ReadsRequest-append b h rest more reads) x.reads in
            let n = ap (λ (v : RequestHead). length v.fields) q.0 in
            let few = x.few in
            omega (arith, n, few, many)))

abbrev pub HeadTurn : List ℕ → Type 0
HeadTurn rest = ((h : RequestHead) × (text : List ℕ) × BeginsWith rest h text) ⊎ (IsOpenHead (take 16384 rest) ⊎ NeverHasHead (take 16384 rest))

-- what stands at the front of the bytes of a request
pub head_turn : (rest : List ℕ) → HeadTurn rest
head_turn rest = go (verdict_head (take 16384 rest))
  where
    go : HeadVerdict (take 16384 rest) → HeadTurn rest
    go (inl (h, more, x)) = let w = in_window 16384 rest (print_request h) more x.reads.1 in inl (h, more ++ drop 16384 rest, record { holds = record { reads = (x.reads.0, w.0); few = x.few }; short = w.1 })
    go (inr v) = inr v
