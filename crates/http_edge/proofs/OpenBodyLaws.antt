-- What a body's text may become.
use Rattle.std.proofs.Common.{◌≡◌, ℕ, ◌+◌, ◌<◌, ◌≤◌, true, List, [], ◌∷◌, ◌++◌, length, take, refl, sym, ap, ◌∙◌, subst, arith, inl, inr, length-append, append_assoc, append-nil, None}
use Rattle.std.specs.Prelude.{◌⊎◌, replicate}
use Rattle.std.specs.List.{flat_map}
use Rattle.std.specs.Char.{is_ascii_hexdigit}
use Rattle.std.proofs.lemmas.Bool.{cases_lt}
use Rattle.std.proofs.lemmas.List.{length-replicate}
use Rattle.std.proofs.lemmas.List.Elements.{All-nil, All-cons}
use Rattle.std.proofs.Math.Seq.{take-append_seam}
use Rattle.httparse.specs.Ascii.{crlf_bytes}
use Rattle.httparse.specs.Grammar.{ChunkLine, IsChunkLine, print_chunk_line, chunk_size, Field, IsField, LineEnd, crlf, lf, print_field, print_section}
use Rattle.stream_grammar.specs.Framing.{AreSpelled}
use Rattle.http_edge.specs.declared.stage.Stage.{Stage}
use Rattle.http_edge.specs.declared.stage.Stage.TheVariants.{Plain, Line, Data, End, Trailer}
use Rattle.http_edge.specs.Lengths.{BodySize, Sized, Chunked, BadSize}
use Rattle.http_edge.specs.Chunks.{IsChunk, AreChunks, HoldsTrailer}
use Rattle.http_edge.specs.Bodies.{IsInChunk, IsPastChunks, IsBody, IsOpenBody, Reaches, Awaits, Breaks}
use Rattle.http_edge.proofs.ChunkLaws.{some_chunk_line}
use Rattle.http_edge.specs.Laws.{BeginsWithBody, IsBodyFault, IsAnyChunk, IsAnyChunked, IsAnyBody, WholeBodies, OpenBodies, FrontsAreOpen, FaultsStay, PlacesAreOpen}
use Rattle.http_edge.proofs.OnceLaws.{body_once}
use Rattle.http_edge.proofs.FaultLaws.{long_more, bad_more}
use Rattle.http_edge.proofs.ReadingLaws.{open_no_body}
use Rattle.http_edge.proofs.FaultOnceLaws.{waits_unbroken, bad_no_body, bad_no_open, long_no_open, long_no_body, no_open_bad}
use Rattle.http_edge.proofs.BodyVerdictLaws.{BodyVerdict, some_body}

-- ---- chunks by the standard

any_chunk : (d text : List ℕ) → IsChunk d text → IsAnyChunk d text
any_chunk d text i = record { line = i.line_is.line; line_is = i.line_is.is; size_is = i.line_is.size_is; some = i.some; text_is = i.text_is ∙ ap (λ (v : List ℕ). v ++ (d ++ crlf_bytes)) i.line_is.text_is }

any_chunks : (ds : List (List ℕ)) (body text : List ℕ) → AreChunks ds body text → AreSpelled IsAnyChunk ds text
any_chunks [] body text (b, t) = t
any_chunks (d ∷ ds) body text (chunk, rb, rt, one, b, t, are) = (chunk, rt, any_chunk d chunk one, t, any_chunks ds rb rt are)

any_push : (ds : List (List ℕ)) (text d chunk : List ℕ) → AreSpelled IsAnyChunk ds text → IsAnyChunk d chunk → AreSpelled IsAnyChunk (ds ++ d ∷ []) (text ++ chunk)
any_push [] text d chunk e is = (chunk, [], is, ap (λ (v : List ℕ). v ++ chunk) e ∙ sym (append-nil chunk), refl)
any_push (c ∷ ds) text d chunk (x, y, one, e, are) is = (x, y ++ chunk, one, ap (λ (v : List ℕ). v ++ chunk) e ∙ append_assoc x y chunk, any_push ds y d chunk are is)

-- the shortest last line
last_line : ChunkLine
last_line = record { digits = 48 ∷ []; pad = []; extension = None }

last_is : IsChunkLine last_line × (chunk_size last_line ≡ 0)
unfolding last_line
last_is = (record { digits = (omega arith, omega arith, All-cons (λ v. is_ascii_hexdigit v ≡ true) 48 [] refl (All-nil _)); pad = All-nil _; extension = tt }, refl)

-- the shortest end of a body after its chunks
ending : List ℕ
ending = print_chunk_line last_line ++ print_section [] lf

ended : (ds : List (List ℕ)) (front text : List ℕ) → AreSpelled IsAnyChunk ds front → text ≡ front ++ ending → IsAnyChunked text
unfolding ending
ended ds front text are e = record { chunks = ds; front = front; last = last_line; fields = []; end = lf; spelled = are; last_is = last_is.0; none = last_is.1; fields_are = All-nil IsField; text_is = e }

-- bytes that follow make the text a body
abbrev pub May : List ℕ → Type 0
May text = (more : List ℕ) × IsAnyChunked (text ++ more)

-- a chunk's line, and some of its data
may_data : (ds : List (List ℕ)) (front part text : List ℕ) (left : ℕ) (l : ChunkLine) → AreSpelled IsAnyChunk ds front → IsChunkLine l → chunk_size l ≡ length part + left → 0 < length part + left → text ≡ front ++ (print_chunk_line l ++ part) → May text
may_data ds front part text left l are is size some e =
    let fill : List ℕ = replicate left 0 in
    let k : length fill ≡ left = length-replicate left 0 in
    let n : length (part ++ fill) ≡ length part + length fill = length-append part fill in
    let chunk = print_chunk_line l ++ ((part ++ fill) ++ crlf_bytes) in
    let one : IsAnyChunk (part ++ fill) chunk = record { line = l; line_is = is; size_is = omega (arith, n, k, size); some = omega (arith, n, k, some); text_is = refl } in
    let more = fill ++ (crlf_bytes ++ ending) in
    (more, ended (ds ++ (part ++ fill) ∷ []) (front ++ chunk) (text ++ more) (any_push ds front (part ++ fill) chunk are one) (ap (λ (v : List ℕ). v ++ more) e ∙ flat front (print_chunk_line l) part fill crlf_bytes ending))
  where
    flat : (a b c d e f : List ℕ) → (a ++ (b ++ c)) ++ (d ++ (e ++ f)) ≡ (a ++ (b ++ ((c ++ d) ++ e))) ++ f
    flat a b c d e f = simp append_assoc

-- a front of a chunk's line
may_line : (ds : List (List ℕ)) (front u text more : List ℕ) (l : ChunkLine) → AreSpelled IsAnyChunk ds front → IsChunkLine l → u ++ more ≡ print_chunk_line l ++ [] → text ≡ front ++ u → May text
may_line ds front u text more l are is at e = go (cases_lt 0 (chunk_size l))
  where
    here : text ++ more ≡ front ++ (print_chunk_line l ++ [])
    here = ap (λ (v : List ℕ). v ++ more) e ∙ append_assoc front u more ∙ ap (λ (v : List ℕ). front ++ v) at

    go : (0 < chunk_size l) ⊎ (chunk_size l ≤ 0) → May text
    go (inl some) =
        let x = may_data ds front [] (text ++ more) (chunk_size l) l are is (omega arith) (omega (arith, some)) here in
        (more ++ x.0, subst IsAnyChunked (append_assoc text more x.0) x.1)
    go (inr none) = (
      more ++ print_section [] lf,
      record {
        chunks = ds;
        front = front;
        last = l;
        fields = [];
        end = lf;
        spelled = are;
        last_is = is;
        none = omega (arith, none);
        fields_are = All-nil IsField;
        text_is = sym (append_assoc text more (print_section [] lf)) ∙ ap (λ (v : List ℕ). v ++ print_section [] lf) here ∙ append_assoc front (print_chunk_line l ++ []) (print_section [] lf) ∙ ap (λ (v : List ℕ). front ++ (v ++ print_section [] lf)) (append-nil (print_chunk_line l));
      },
    )

-- chunks, the last chunk's line, and a trailer
any_trailer : (body front t text : List ℕ) (p : IsPastChunks body front) → HoldsTrailer t [] → text ≡ front ++ t → IsAnyChunked text
any_trailer body front t text p h e =
    let section = print_section h.fields h.last in
    record {
      chunks = p.chunks;
      front = p.front;
      last = p.line_is.line;
      fields = h.fields;
      end = h.last;
      spelled = any_chunks p.chunks body p.front p.are;
      last_is = p.line_is.is;
      none = sym p.line_is.size_is;
      fields_are = h.reads.0;
      text_is = e ∙ (λ i. p.text_is i ++ (h.reads.1 ∙ append-nil section) i) ∙ append_assoc p.front p.line section ∙ ap (λ (v : List ℕ). p.front ++ (v ++ section)) p.line_is.text_is;
    }

in_chunk : (left : ℕ) (body front text : List ℕ) → IsInChunk left body front → text ≡ front ++ [] → May text
in_chunk left body front text i e =
    let whole = e ∙ append-nil front ∙ i.text_is ∙ ap (λ (v : List ℕ). i.front ++ (v ++ i.data_so_far)) i.line_is.text_is in
    may_data i.chunks i.front i.data_so_far text left i.line_is.line (any_chunks i.chunks i.before i.front i.are) i.line_is.is (sym i.line_is.size_is) i.some whole

-- a chunk's data, and CR of CR LF
at_return : (body front u text : List ℕ) → IsInChunk 0 body front → u ≡ 13 ∷ [] → text ≡ front ++ u → May text
at_return body front u text i f e =
    let d = i.data_so_far in
    let chunk = print_chunk_line i.line_is.line ++ (d ++ crlf_bytes) in
    let size = i.line_is.size_is in
    let some = i.some in
    let one : IsAnyChunk d chunk = record { line = i.line_is.line; line_is = i.line_is.is; size_is = omega (arith, size); some = omega (arith, some); text_is = refl } in
    let whole : text ++ (10 ∷ ending) ≡ (i.front ++ (i.line ++ d) ++ (13 ∷ [])) ++ (10 ∷ ending) = ap (λ (v : List ℕ). v ++ (10 ∷ ending)) (e ∙ (λ j. i.text_is j ++ f j)) in
    let are = any_push i.chunks i.front d chunk (any_chunks i.chunks i.before i.front i.are) one in
    (10 ∷ ending, ended (i.chunks ++ d ∷ []) (i.front ++ chunk) (text ++ (10 ∷ ending)) are (whole ∙ flat i.front i.line d ending ∙ ap (λ (v : List ℕ). (i.front ++ (v ++ (d ++ crlf_bytes))) ++ ending) i.line_is.text_is))
  where
    flat : (a b c e : List ℕ) → (a ++ (b ++ c) ++ (13 ∷ [])) ++ (10 ∷ e) ≡ (a ++ (b ++ (c ++ (13 ∷ 10 ∷ [])))) ++ e
    flat a b c e = simp append_assoc

chunked_may : (stage : Stage) (body front u text : List ℕ) → Reaches Chunked stage body front → Awaits stage u → text ≡ front ++ u → May text
chunked_may (Plain left) body front u text r w e = let z = r.0 in absurd (cc)
chunked_may Line body front u text (s, few, (ds, are)) (short, none, (more, l, (is, at))) e = may_line ds front u text more l (any_chunks ds body front are) is at e
chunked_may (Data left) body front u text (s, few, i) (some, none) e = in_chunk left body front text i (e ∙ ap (λ (v : List ℕ). front ++ v) none)
chunked_may End body front u text (s, few, i) (inl none) e = in_chunk 0 body front text i (e ∙ ap (λ (v : List ℕ). front ++ v) none)
chunked_may End body front u text (s, few, i) (inr cr) e = at_return body front u text i cr e
chunked_may Trailer body front u text (s, few, p) (short, none, (more, h)) e = (more, any_trailer body front (u ++ more) (text ++ more) p h (ap (λ (v : List ℕ). v ++ more) e ∙ append_assoc front u more))

sized_may : (stage : Stage) (n : ℕ) (body front u text : List ℕ) → Reaches (Sized n) stage body front → Awaits stage u → text ≡ front ++ u → (more : List ℕ) × (length (text ++ more) ≡ n)
sized_may (Plain left) n body front u text (s, few, is) (some, none) e =
    let z : n ≡ length body + left = cc in
    let a : length text ≡ length body = ap length (e ∙ ap (λ (w : List ℕ). front ++ w) none ∙ append-nil front ∙ is) in
    let fill : List ℕ = replicate left 0 in
    let k : length fill ≡ left = length-replicate left 0 in
    let m : length (text ++ fill) ≡ length text + length fill = length-append text fill in
    (fill, omega (arith, z, a, k, m))
sized_may Line n body front u text r w e = let z = r.0 in absurd (cc)
sized_may (Data left) n body front u text r w e = let z = r.0 in absurd (cc)
sized_may End n body front u text r w e = let z = r.0 in absurd (cc)
sized_may Trailer n body front u text r w e = let z = r.0 in absurd (cc)

open_may : (size : BodySize) (text : List ℕ) → IsOpenBody size text → (more : List ℕ) × IsAnyBody size (text ++ more)
open_may (Sized n) text o = sized_may o.stage n o.body o.front o.unread text o.reaches o.awaits o.text_is
open_may Chunked text o = chunked_may o.stage o.body o.front o.unread text o.reaches o.awaits o.text_is
open_may BadSize text o = absurd (no_open_bad text o)

-- ---- the laws

pub whole_bodies : WholeBodies
whole_bodies (Sized n) body text (e, l, few) = ap length e ∙ l
whole_bodies Chunked body text j = any_trailer body j.front j.trailer text j.reaches.2 j.holds j.text_is
whole_bodies BadSize body text j = j

open_no_fault : (size : BodySize) (text : List ℕ) → IsOpenBody size text → IsBodyFault size text → ⊥
open_no_fault size text o (inl z) = no_open_bad text (subst (λ (v : BodySize). IsOpenBody v text) z o)
open_no_fault size text o (inr (inl long)) = long_no_open size text long o
open_no_fault size text o (inr (inr (z, (place, bad)))) = bad_no_open text place bad (subst (λ (v : BodySize). IsOpenBody v text) z o)

pub open_bodies : OpenBodies
open_bodies size text = (
  λ o. (open_may size text o, λ (body, front, rest, is, e). open_no_body size text body front rest o is e, open_no_fault size text o),
  λ (may, none, sound). go none sound (some_body size text),
)
  where
    go : (BeginsWithBody size text → ⊥) → (IsBodyFault size text → ⊥) → BodyVerdict size text → IsOpenBody size text
    go none sound (inl b) = absurd (none b)
    go none sound (inr (inl o)) = o
    go none sound (inr (inr f)) = absurd (sound f)

pub faults_stay : FaultsStay
faults_stay size text more (inl z) (body, front, rest, is, e) = subst (λ (v : BodySize). IsBody v body front) z is
faults_stay size text more (inr (inl long)) (body, front, rest, is, e) = long_no_body size (text ++ more) body front rest (long_more size text more long) is e
faults_stay size text more (inr (inr (z, (place, bad)))) (body, front, rest, is, e) = bad_no_body (text ++ more) body front rest place (bad_more text more place bad) (subst (λ (v : BodySize). IsBody v body front) z is) e

nil_of : (m : List ℕ) → length m ≡ 0 → m ≡ []
nil_of [] z = refl
nil_of (c ∷ m) z = absurd (omega (arith, z))

pub fronts_are_open : FrontsAreOpen
fronts_are_open size body text more is some = go (some_body size text)
  where
    go : BodyVerdict size text → IsOpenBody size text
    go (inl (other, front, rest, also, e)) =
        let q = body_once size body other (text ++ more) front [] (rest ++ more) is also (append-nil (text ++ more) ∙ ap (λ (v : List ℕ). v ++ more) e ∙ append_assoc front rest more) in
        let n : length rest + length more ≡ 0 = sym (length-append rest more) ∙ ap length (sym q.2) in
        absurd (some (nil_of more (omega (arith, n))))
    go (inr (inl o)) = o
    go (inr (inr f)) = absurd (faults_stay size text more f (body, text ++ more, [], is, sym (append-nil (text ++ more))))

-- ---- the place of a fault

some_text : (l : ChunkLine) (rest : List ℕ) → [] ≡ print_chunk_line l ++ rest → ⊥
some_text l rest e =
    let k = some_chunk_line l in
    let z : 0 ≡ length (print_chunk_line l) + length rest = ap length e ∙ length-append (print_chunk_line l) rest in
    omega (arith, k, z)

some_bytes : (u : List ℕ) → (u ≡ [] → ⊥) → 0 < length u
some_bytes [] none = absurd (none refl)
some_bytes (c ∷ u) none = omega arith

nothing : (a b rest : List ℕ) → [] ≡ (a ++ b) ++ rest → 0 < length b → ⊥
nothing a b rest e some =
    let n : 0 ≡ length (a ++ b) + length rest = ap length e ∙ length-append (a ++ b) rest in
    let m = length-append a b in
    omega (arith, n, m, some)

some_section : (fields : List Field) (end : LineEnd) (rest : List ℕ) → [] ≡ print_section fields end ++ rest → ⊥
some_section fields crlf rest e = nothing (flat_map print_field fields) crlf_bytes rest e (omega arith)
some_section fields lf rest e = nothing (flat_map print_field fields) (10 ∷ []) rest e (omega arith)

waits_line : Awaits Line []
unfolding last_line
waits_line = (omega arith, λ l rest (is, e). some_text l rest e, (print_chunk_line last_line, last_line, (last_is.0, sym (append-nil (print_chunk_line last_line)))))

-- where a fault of chunks may be placed, no byte is a front of what is due
waits_nil : (stage : Stage) (u : List ℕ) → Breaks stage u → Awaits stage []
waits_nil (Plain left) u b = absurd b
waits_nil Line u b = waits_line
waits_nil (Data left) u b = absurd b
waits_nil End u b = inl refl
waits_nil Trailer u b = (omega arith, λ rest h. some_section h.fields h.last rest h.reads.1, (10 ∷ [], record { fields = []; last = lf; reads = (All-nil IsField, refl); few = omega arith }))

pub places_are_open : PlacesAreOpen
places_are_open text place b =
    let w = waits_nil b.stage b.unread b.breaks in
    let n : length text ≡ length b.front + length b.unread = ap length b.text_is ∙ length-append b.front b.unread in
    let at = b.place_is in
    let some = some_bytes b.unread (λ e. waits_unbroken b.stage b.unread (subst (Awaits b.stage) (sym e) w) b.breaks) in
    let front : take place text ≡ b.front = (λ i. take (b.place_is i) (b.text_is i)) ∙ take-append_seam b.front b.unread in (
      omega (arith, n, at, some),
      record { stage = b.stage; body = b.body; front = b.front; unread = []; reaches = b.reaches; awaits = w; text_is = front ∙ sym (append-nil b.front) },
    )
