-- How the text of a body goes on.
use Rattle.std.proofs.Common.{◌≡◌, ℕ, ◌+◌, ◌<◌, ◌≤◌, List, [], ◌∷◌, ◌++◌, length, take, get_or, refl, sym, ap, ◌∙◌, subst, arith, append_assoc, append-nil, length-append}
use Rattle.http_edge.specs.declared.stage.Stage.TheVariants.{Line, Data, End}
use Rattle.httparse.specs.Ascii.{crlf_bytes}
use Rattle.http_edge.specs.Lengths.{BodySize}
use Rattle.http_edge.specs.Chunks.{IsLine, IsChunk, AreChunks}
use Rattle.http_edge.specs.Bodies.{IsInChunk, IsTooLong}
use Rattle.http_edge.specs.Turns.{Takes, Passes, Exceeds}

-- a chunk line that makes the body too long
pub line_long : (n held : ℕ) (line more u : List ℕ) → IsLine n line → u ≡ line ++ more → 1048576 < held + n → Exceeds Line held u
line_long n held line more u is split long size body front e (s, fits, (chunks, are)) =
    subst (λ (z : BodySize). IsTooLong z (front ++ u)) (sym s) (body, front, line, more, n, (refl, fits, (chunks, are)), is, ap (λ (v : List ℕ). front ++ v) split, omega (arith, e, long))

-- a chunk after chunks
are_more : (chunks : List (List ℕ)) (body text d chunk : List ℕ) → AreChunks chunks body text → IsChunk d chunk → AreChunks (chunks ++ d ∷ []) (body ++ d) (text ++ chunk)
are_more [] body text d chunk (b, t) is = (chunk, [], [], is, ap (λ (v : List ℕ). v ++ d) b ∙ sym (append-nil d), ap (λ (v : List ℕ). v ++ chunk) t ∙ sym (append-nil chunk), (refl, refl))
are_more (c ∷ cs) body text d chunk (x, rb, rt, one, b, t, are) is =
    (x, rb ++ d, rt ++ chunk, one, ap (λ (v : List ℕ). v ++ d) b ∙ append_assoc c rb d, ap (λ (v : List ℕ). v ++ chunk) t ∙ append_assoc x rt chunk, are_more cs rb rt d chunk are is)

-- CR LF after a chunk's data
pub end_line : (held : ℕ) (x : List ℕ) → x ≡ crlf_bytes → Passes End held Line x
end_line held x is size body front e (s, fits, i) =
    let none : length i.data_so_far + 0 ≡ length i.data_so_far = omega arith in
    let chunk = i.line ++ (i.data_so_far ++ crlf_bytes) in
    let one : IsChunk i.data_so_far chunk = record { line = i.line; line_is = subst (λ (k : ℕ). IsLine k i.line) none i.line_is; some = subst (λ (k : ℕ). 0 < k) none i.some; text_is = refl } in
    let more = are_more i.chunks i.before i.front i.data_so_far chunk i.are one in
    let text : i.front ++ chunk ≡ front ++ x = ap (λ (v : List ℕ). i.front ++ v) (sym (append_assoc i.line i.data_so_far crlf_bytes)) ∙ sym (append_assoc i.front (i.line ++ i.data_so_far) crlf_bytes) ∙ (λ j. sym i.text_is j ++ sym is j) in
    (s, fits, (i.chunks ++ i.data_so_far ∷ [], subst (λ (v : List ℕ). AreChunks (i.chunks ++ i.data_so_far ∷ []) body v) text (subst (λ (v : List ℕ). AreChunks (i.chunks ++ i.data_so_far ∷ []) v (i.front ++ chunk)) (sym i.body_is) more)))

-- data of a chunk, of which so many were due and so many are left
data_more : (left next : ℕ) (body front d : List ℕ) → length d + next ≡ left → IsInChunk left body front → IsInChunk next (body ++ d) (front ++ d)
data_more left next body front d e i =
    let n = length-append i.data_so_far d in
    let due : length i.data_so_far + left ≡ length (i.data_so_far ++ d) + next = omega (arith, n, e) in
    record {
      chunks = i.chunks;
      before = i.before;
      front = i.front;
      line = i.line;
      data_so_far = i.data_so_far ++ d;
      are = i.are;
      line_is = subst (λ (k : ℕ). IsLine k i.line) due i.line_is;
      some = subst (λ (k : ℕ). 0 < k) due i.some;
      body_is = ap (λ (v : List ℕ). v ++ d) i.body_is ∙ append_assoc i.before i.data_so_far d;
      text_is = ap (λ (v : List ℕ). v ++ d) i.text_is ∙ append_assoc i.front (i.line ++ i.data_so_far) d ∙ ap (λ (v : List ℕ). i.front ++ v) (append_assoc i.line i.data_so_far d);
    }

pub data_takes : (left next held : ℕ) (d : List ℕ) → length d + next ≡ left → Takes (Data left) held (Data next) d
data_takes left next held d e size body front at (s, fits, i) =
    let n = length-append body d in (s, omega (arith, n, e, fits), data_more left next body front d e i)

pub data_ends : (left held : ℕ) (d : List ℕ) → length d ≡ left → Takes (Data left) held End d
data_ends left held d e size body front at (s, fits, i) =
    let n = length-append body d in
    let all : length d + 0 ≡ left = omega (arith, e) in (s, omega (arith, n, e, fits), data_more left 0 body front d all i)

-- the first two bytes
pub two_bytes : (u : List ℕ) (a b : ℕ) → 2 ≤ length u → get_or u 0 0 ≡ a → get_or u 1 0 ≡ b → take 2 u ≡ a ∷ b ∷ []
two_bytes [] a b long x y = absurd (omega (arith, long))
two_bytes (c ∷ []) a b long x y = absurd (omega (arith, long))
two_bytes (c ∷ d ∷ u) a b long x y = λ i. x i ∷ y i ∷ []
