-- Requests are read in one way only.
use Rattle.std.proofs.Common.{◌≡◌, ℕ, ◌+◌, ◌≤◌, List, [], ◌∷◌, ◌++◌, length, refl, sym, ap, ◌∙◌, subst, arith, inl, inr, length-append, append_assoc}
use Rattle.std.specs.Prelude.{◌⊎◌}
use Rattle.httparse.specs.Ascii.{crlf_bytes}
use Rattle.httparse.specs.Grammar.{RequestHead, ReadsRequest, print_request, print_chunk_line, chunk_size}
use Rattle.httparse.proofs.ChunkLemmas.{chunk_line_unique}
use Rattle.httparse.proofs.GrammarLemmas.{request_unique, section_unique, ReadsRequest-append, ReadsSection-append}
use Rattle.http_edge.specs.Lengths.{BodySize, Sized, Chunked, BadSize, size_of}
use Rattle.http_edge.specs.Chunks.{IsLine, IsChunk, AreChunks, HoldsTrailer}
use Rattle.http_edge.specs.Bodies.{IsPastChunks, IsChunkedBody, IsBody}
use Rattle.http_edge.specs.HttpStream.{request_of}
use Rattle.http_edge.specs.Laws.{RequestsOnce}

-- two fronts of one length
pub cut : (a b x y : List ℕ) → length a ≡ length b → a ++ x ≡ b ++ y → (a ≡ b) × (x ≡ y)
cut [] [] x y n e = (refl, e)
cut [] (d ∷ b) x y n e = absurd (omega (arith, n))
cut (c ∷ a) [] x y n e = absurd (omega (arith, n))
cut (c ∷ a) (d ∷ b) x y n e = go (cut a b x y (omega (arith, n)) (cc)) (cc)
  where
    go : (a ≡ b) × (x ≡ y) → c ≡ d → (c ∷ a ≡ d ∷ b) × (x ≡ y)
    go (f, g) h = (cc, g)

pub line_once : (n m : ℕ) (k l u v : List ℕ) → IsLine n k → IsLine m l → k ++ u ≡ l ++ v → (n ≡ m) × (k ≡ l) × (u ≡ v)
line_once n m k l u v i j e =
    let q = chunk_line_unique (k ++ u) i.line j.line u v (i.is, ap (λ (w : List ℕ). w ++ u) i.text_is) (j.is, e ∙ ap (λ (w : List ℕ). w ++ v) j.text_is) in
    (i.size_is ∙ ap chunk_size q.0 ∙ sym j.size_is, i.text_is ∙ ap print_chunk_line q.0 ∙ sym j.text_is, q.1)

-- a chunk and more, from its line on
pub chunk_opens : (d k u : List ℕ) → (i : IsChunk d k) → k ++ u ≡ i.line ++ (d ++ (crlf_bytes ++ u))
chunk_opens d k u i = ap (λ (w : List ℕ). w ++ u) i.text_is ∙ append_assoc i.line (d ++ crlf_bytes) u ∙ ap (λ (w : List ℕ). i.line ++ w) (append_assoc d crlf_bytes u)

pub chunk_once : (d e k l u v : List ℕ) → IsChunk d k → IsChunk e l → k ++ u ≡ l ++ v → (d ≡ e) × (k ≡ l) × (u ≡ v)
chunk_once d e k l u v i j f =
    let q = line_once (length d) (length e) i.line j.line (d ++ (crlf_bytes ++ u)) (e ++ (crlf_bytes ++ v)) i.line_is j.line_is (sym (chunk_opens d k u i) ∙ f ∙ chunk_opens e l v j) in
    let p = cut d e (crlf_bytes ++ u) (crlf_bytes ++ v) q.0 q.2 in
    let w : u ≡ v = (cut crlf_bytes crlf_bytes u v refl p.1).1 in
    (p.0, i.text_is ∙ (λ h. q.1 h ++ (p.0 h ++ crlf_bytes)) ∙ sym j.text_is, w)

-- the bytes begin with a chunk, whose data and this body aren't longer than another body
abbrev pub StartsChunk : List ℕ → List ℕ → List ℕ → Type 0
StartsChunk body u other = (d : List ℕ) × (chunk : List ℕ) × (w : List ℕ) × IsChunk d chunk × (u ≡ chunk ++ w) × (length body + length d ≤ length other)

-- two lists of chunks in front of the same bytes
pub walk : (ds es : List (List ℕ)) (body other text back u v : List ℕ) → AreChunks ds body text → AreChunks es other back → text ++ u ≡ back ++ v → ((body ≡ other) × (text ≡ back) × (u ≡ v)) ⊎ (StartsChunk body u other ⊎ StartsChunk other v body)
walk [] [] body other text back u v (a, b) (c, d) e =
    let t : text ≡ back = b ∙ sym d in
    inl (a ∙ sym c, t, (cut text back u v (ap length t) e).1)
walk [] (f ∷ fs) body other text back u v (a, b) (chunk, rb, rt, one, c, d, are) e =
    let n : length other ≡ length f + length rb = ap length c ∙ length-append f rb in
    let z : length body ≡ 0 = ap length a in
    inr (inl (f, chunk, rt ++ v, one, ap (λ (w : List ℕ). w ++ u) (sym b) ∙ e ∙ ap (λ (w : List ℕ). w ++ v) d ∙ append_assoc chunk rt v, omega (arith, n, z)))
walk (f ∷ fs) [] body other text back u v (chunk, rb, rt, one, c, d, are) (a, b) e =
    let n : length body ≡ length f + length rb = ap length c ∙ length-append f rb in
    let z : length other ≡ 0 = ap length a in
    inr (inr (f, chunk, rt ++ u, one, ap (λ (w : List ℕ). w ++ v) (sym b) ∙ sym e ∙ ap (λ (w : List ℕ). w ++ u) d ∙ append_assoc chunk rt u, omega (arith, n, z)))
walk (f ∷ fs) (g ∷ gs) body other text back u v (k, rb, rt, one, c, d, are) (l, sb, st, two, a, b, others) e =
    let q = chunk_once f g k l (rt ++ u) (st ++ v) one two (sym (ap (λ (w : List ℕ). w ++ u) d ∙ append_assoc k rt u) ∙ e ∙ ap (λ (w : List ℕ). w ++ v) b ∙ append_assoc l st v) in
    go (walk fs gs rb sb rt st u v are others q.2) q.0 q.1
  where
    more : (d : List ℕ) → f ≡ g → length rb + length d ≤ length sb → length (f ++ rb) + length d ≤ length (g ++ sb)
    more d h few = let n = length-append f rb in let m = length-append g sb in let k : length f ≡ length g = ap length h in omega (arith, n, m, k, few)

    less : (d : List ℕ) → f ≡ g → length sb + length d ≤ length rb → length (g ++ sb) + length d ≤ length (f ++ rb)
    less d h few = let n = length-append f rb in let m = length-append g sb in let k : length f ≡ length g = ap length h in omega (arith, n, m, k, few)

    go : ((rb ≡ sb) × (rt ≡ st) × (u ≡ v)) ⊎ (StartsChunk rb u sb ⊎ StartsChunk sb v rb) → f ≡ g → k ≡ l → ((body ≡ other) × (text ≡ back) × (u ≡ v)) ⊎ (StartsChunk body u other ⊎ StartsChunk other v body)
    go (inl (x, y, z)) h i = inl (c ∙ (λ j. h j ++ x j) ∙ sym a, d ∙ (λ j. i j ++ y j) ∙ sym b, z)
    go (inr (inl (p, chunk, w, is, at, few))) h i =
        let n : length body ≡ length (f ++ rb) = ap length c in
        let m : length other ≡ length (g ++ sb) = ap length a in
        let l = more p h few in
        inr (inl (p, chunk, w, is, at, omega (arith, n, m, l)))
    go (inr (inr (p, chunk, w, is, at, few))) h i =
        let n : length body ≡ length (f ++ rb) = ap length c in
        let m : length other ≡ length (g ++ sb) = ap length a in
        let l = less p h few in
        inr (inr (p, chunk, w, is, at, omega (arith, n, m, l)))

-- the last chunk's line is no chunk's
pub line_no_chunk : (body other line u w : List ℕ) → IsLine 0 line → w ≡ line ++ u → StartsChunk body w other → ⊥
line_no_chunk body other line u w is e (d, chunk, x, one, f, few) =
    let q = line_once 0 (length d) line one.line u (d ++ (crlf_bytes ++ x)) is one.line_is (sym e ∙ f ∙ chunk_opens d chunk x one) in
    let some = one.some in
    let n = q.0 in
    omega (arith, some, n)

trailer_once : (t s a b : List ℕ) → HoldsTrailer t [] → HoldsTrailer s [] → t ++ a ≡ s ++ b → (t ≡ s) × (a ≡ b)
trailer_once t s a b i j e =
    let q = section_unique (t ++ a) i.fields j.fields i.last j.last a b (ReadsSection-append t i.fields i.last [] a i.reads) (j.reads.0, e ∙ (ReadsSection-append s j.fields j.last [] b j.reads).1) in
    let z : a ≡ b = q.2 in
    let n : length t ≡ length s = (let x = length-append t a in let y = length-append s b in let l : length (t ++ a) ≡ length (s ++ b) = ap length e in let m : length a ≡ length b = ap length z in omega (arith, x, y, l, m)) in
    ((cut t s a b n e).0, z)

chunked_once : (body other text back a b : List ℕ) → IsChunkedBody body text → IsChunkedBody other back → text ++ a ≡ back ++ b → (body ≡ other) × (text ≡ back) × (a ≡ b)
chunked_once body other text back a b i j e = go i.reaches.2 j.reaches.2
  where
    go : IsPastChunks body i.front → IsPastChunks other j.front → (body ≡ other) × (text ≡ back) × (a ≡ b)
    go p q = choose (walk p.chunks q.chunks body other p.front q.front (p.line ++ (i.trailer ++ a)) (q.line ++ (j.trailer ++ b)) p.are q.are (sym (spread p.front p.line i.trailer a text i.front p.text_is i.text_is) ∙ e ∙ spread q.front q.line j.trailer b back j.front q.text_is j.text_is))
      where
        spread : (f l t a text front : List ℕ) → front ≡ f ++ l → text ≡ front ++ t → text ++ a ≡ f ++ (l ++ (t ++ a))
        spread f l t a text front x y = ap (λ (w : List ℕ). w ++ a) (y ∙ ap (λ (w : List ℕ). w ++ t) x) ∙ flat f l t a
          where
            flat : (f l t a : List ℕ) → ((f ++ l) ++ t) ++ a ≡ f ++ (l ++ (t ++ a))
            flat f l t a = simp append_assoc

        choose : ((body ≡ other) × (p.front ≡ q.front) × (p.line ++ (i.trailer ++ a) ≡ q.line ++ (j.trailer ++ b))) ⊎ (StartsChunk body (p.line ++ (i.trailer ++ a)) other ⊎ StartsChunk other (q.line ++ (j.trailer ++ b)) body) → (body ≡ other) × (text ≡ back) × (a ≡ b)
        choose (inl (x, y, z)) =
            let l = line_once 0 0 p.line q.line (i.trailer ++ a) (j.trailer ++ b) p.line_is q.line_is z in
            let t = trailer_once i.trailer j.trailer a b i.holds j.holds l.2 in
            (x, i.text_is ∙ (λ h. (p.text_is ∙ (λ k. y k ++ l.1 k) ∙ sym q.text_is) h ++ t.0 h) ∙ sym j.text_is, t.1)
        choose (inr (inl s)) = absurd (line_no_chunk body other p.line (i.trailer ++ a) (p.line ++ (i.trailer ++ a)) p.line_is refl s)
        choose (inr (inr s)) = absurd (line_no_chunk other body q.line (j.trailer ++ b) (q.line ++ (j.trailer ++ b)) q.line_is refl s)

pub body_once : (size : BodySize) (body other text back a b : List ℕ) → IsBody size body text → IsBody size other back → text ++ a ≡ back ++ b → (body ≡ other) × (text ≡ back) × (a ≡ b)
body_once (Sized n) body other text back a b (x, l, m) (y, k, o) e =
    let lengths : length text ≡ length back = ap length x ∙ l ∙ sym k ∙ sym (ap length y) in
    let q = cut text back a b lengths e in
    (sym x ∙ q.0 ∙ y, q.0, q.1)
body_once Chunked body other text back a b i j e = chunked_once body other text back a b i j e
body_once BadSize body other text back a b i j e = absurd i

pub requests_once : RequestsOnce
requests_once r s x y a b i j e =
    let q = request_unique (x ++ a) i.head j.head (i.text ++ a) (j.text ++ b) (ReadsRequest-append x i.head i.text a i.begins.holds.reads) (subst (λ (w : List ℕ). ReadsRequest w j.head (j.text ++ b)) (sym e) (ReadsRequest-append y j.head j.text b j.begins.holds.reads)) in
    let p = body_once (size_of i.head) r.body s.body i.text j.text a b i.body (subst (λ (h : RequestHead). IsBody (size_of h) s.body j.text) (sym q.0) j.body) q.1 in (
      i.request_is ∙ (λ h. request_of (q.0 h) (p.0 h)) ∙ sym j.request_is,
      i.begins.holds.reads.1 ∙ (λ h. print_request (q.0 h) ++ p.1 h) ∙ sym j.begins.holds.reads.1,
      p.2,
    )
