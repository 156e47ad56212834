-- Every text begins with a whole body, is open, or is at fault.
use Rattle.std.proofs.Common.{◌≡◌, ℕ, zero, suc, ◌+◌, ◌-◌, ◌<◌, ◌≤◌, List, [], ◌∷◌, ◌++◌, length, take, drop, refl, sym, ap, ◌∙◌, subst, arith, inl, inr, length-append, length-take-le, append_assoc, append-nil, take-append-drop}
use Rattle.std.specs.Prelude.{◌⊎◌}
use Rattle.std.proofs.lemmas.Bool.{cases_eq, cases_lt}
use Rattle.httparse.specs.Ascii.{crlf_bytes}
use Rattle.httparse.specs.Grammar.{print_chunk_line}
use Rattle.http_edge.specs.declared.stage.Stage.{Stage}
use Rattle.http_edge.specs.declared.stage.Stage.TheVariants.{Plain, Line, Data, End, Trailer}
use Rattle.http_edge.specs.Lengths.{BodySize, Sized, Chunked, BadSize}
use Rattle.http_edge.specs.Chunks.{IsLine}
use Rattle.http_edge.specs.Bodies.{IsPastChunks, Reaches, Awaits, Breaks, IsOpenBody, IsChunkedBody}
use Rattle.http_edge.proofs.ChunkLaws.{some_chunk_line}
use Rattle.http_edge.specs.Laws.{BeginsWithBody, IsBodyFault, SomeBody}
use Rattle.http_edge.proofs.BodyLaws.{end_line}
use Rattle.http_edge.proofs.LineVerdictLaws.{LineTurn, TrailerTurn, line_turn, trailer_turn}

abbrev pub BodyVerdict : BodySize → List ℕ → Type 0
BodyVerdict size text = BeginsWithBody size text ⊎ (IsOpenBody size text ⊎ IsBodyFault size text)

-- the bytes at a stage are a front of what is due, or break it
waits : (stage : Stage) (body front u text : List ℕ) → Reaches Chunked stage body front → Awaits stage u → text ≡ front ++ u → BodyVerdict Chunked text
waits stage body front u text r w e = inr (inl (record { stage = stage; body = body; front = front; unread = u; reaches = r; awaits = w; text_is = e }))

breaks : (stage : Stage) (body front u text : List ℕ) → Reaches Chunked stage body front → Breaks stage u → text ≡ front ++ u → BodyVerdict Chunked text
breaks stage body front u text r b e = inr (inr (inr (inr (refl, (length front, record { stage = stage; body = body; front = front; unread = u; reaches = r; breaks = b; text_is = e; place_is = refl })))))

some_line : (n : ℕ) (line : List ℕ) → IsLine n line → 0 < length line
some_line n line is = let k = some_chunk_line is.line in let m : length line ≡ length (print_chunk_line is.line) = ap length is.text_is in omega (arith, k, m)

-- the last chunk's line, and what follows
at_trailer : (body front line u text : List ℕ) → Reaches Chunked Line body front → IsLine 0 line → text ≡ front ++ (line ++ u) → BodyVerdict Chunked text
at_trailer body front line u text (s, few, (chunks, are)) is e = go (trailer_turn u)
  where
    past : IsPastChunks body (front ++ line)
    past = record { chunks = chunks; front = front; line = line; are = are; line_is = is; text_is = refl }

    whole : text ≡ (front ++ line) ++ u
    whole = e ∙ sym (append_assoc front line u)

    go : TrailerTurn u → BodyVerdict Chunked text
    go (inl (t, more, holds, short, f)) =
        let is_body : IsChunkedBody body ((front ++ line) ++ t) = record { front = front ++ line; trailer = t; reaches = (refl, few, past); holds = holds; short = short; text_is = refl } in
        inl (body, (front ++ line) ++ t, more, is_body, whole ∙ ap (λ (v : List ℕ). (front ++ line) ++ v) f ∙ sym (append_assoc (front ++ line) t more))
    go (inr (inl w)) = waits Trailer body (front ++ line) u text (refl, few, past) w whole
    go (inr (inr b)) = breaks Trailer body (front ++ line) u text (refl, few, past) b whole

-- a chunk's line, and what follows
at_data : (body front line u text : List ℕ) (k : ℕ) → Reaches Chunked Line body front → IsLine k line → 0 < k → length body + k ≤ 1048576 → text ≡ front ++ (line ++ u) → length u < k → BodyVerdict Chunked text
at_data body front line u text k (s, few, (chunks, are)) is some fits e short =
    let left = k - length u in
    let n : length u + left ≡ k = omega (arith, short) in
    let m = length-append body u in
    waits (Data left) (body ++ u) (front ++ (line ++ u)) [] text (
      refl,
      omega (arith, m, n, fits),
      record {
        chunks = chunks;
        before = body;
        front = front;
        line = line;
        data_so_far = u;
        are = are;
        line_is = subst (λ (v : ℕ). IsLine v line) (sym n) is;
        some = omega (arith, n, some);
        body_is = refl;
        text_is = refl;
      },
    ) (omega (arith, short), refl) (e ∙ sym (append-nil (front ++ (line ++ u))))

-- what fewer than n bytes come to, where a chunk line is due
abbrev pub Onward : ℕ → List ℕ → Type 0
Onward n text = (more before text_so_far : List ℕ) → length more < n → Reaches Chunked Line before text_so_far → text ≡ text_so_far ++ more → BodyVerdict Chunked text

-- a chunk's line and all its data, and what follows
at_last : (n : ℕ) (body front line d u text : List ℕ) → Onward n text → Reaches Chunked Line body front → IsLine (length d) line → 0 < length d → length body + length d ≤ 1048576 → text ≡ front ++ (line ++ (d ++ u)) → length u < n → BodyVerdict Chunked text
at_last n body front line d u text ih (s, few, (chunks, are)) is some fits e short = go u e short
  where
    ended : Reaches Chunked End (body ++ d) (front ++ (line ++ d))
    ended =
        let zero_more : length d ≡ length d + 0 = omega arith in
        let m = length-append body d in (
          refl,
          omega (arith, m, fits),
          record {
            chunks = chunks;
            before = body;
            front = front;
            line = line;
            data_so_far = d;
            are = are;
            line_is = subst (λ (v : ℕ). IsLine v line) zero_more is;
            some = omega (arith, some);
            body_is = refl;
            text_is = refl;
          },
        )

    spread : (u : List ℕ) → text ≡ front ++ (line ++ (d ++ u)) → text ≡ (front ++ (line ++ d)) ++ u
    spread u e = e ∙ ap (λ (v : List ℕ). front ++ v) (sym (append_assoc line d u)) ∙ sym (append_assoc front (line ++ d) u)

    go : (u : List ℕ) → text ≡ front ++ (line ++ (d ++ u)) → length u < n → BodyVerdict Chunked text
    go [] e short = waits End (body ++ d) (front ++ (line ++ d)) [] text ended (inl refl) (spread [] e)
    go (c ∷ v) e short = first (cases_eq c 13) v e short
      where
        first : (c ≡ 13) ⊎ (c ≡ 13 → ⊥) → (v : List ℕ) → text ≡ front ++ (line ++ (d ++ c ∷ v)) → length (c ∷ v) < n → BodyVerdict Chunked text
        first (inr other) v e short = breaks End (body ++ d) (front ++ (line ++ d)) (c ∷ v) text ended (inl (c, v, refl, other)) (spread (c ∷ v) e)
        first (inl f) [] e short = waits End (body ++ d) (front ++ (line ++ d)) (c ∷ []) text ended (inr (ap (λ (k : ℕ). k ∷ []) f)) (spread (c ∷ []) e)
        first (inl f) (b ∷ w) e short = second (cases_eq b 10)
          where
            second : (b ≡ 10) ⊎ (b ≡ 10 → ⊥) → BodyVerdict Chunked text
            second (inr other) = breaks End (body ++ d) (front ++ (line ++ d)) (c ∷ b ∷ w) text ended (inr (b, w, ap (λ (k : ℕ). k ∷ b ∷ w) f, other)) (spread (c ∷ b ∷ w) e)
            second (inl g) =
                let start = front ++ (line ++ d) in
                let two : c ∷ b ∷ w ≡ crlf_bytes ++ w = λ i. f i ∷ g i ∷ w in
                ih w (body ++ d) (start ++ crlf_bytes) (omega (arith, short)) (end_line (length (body ++ d)) crlf_bytes refl Chunked (body ++ d) start refl ended) (spread (c ∷ b ∷ w) e ∙ ap (λ (v : List ℕ). start ++ v) two ∙ sym (append_assoc start crlf_bytes w))

-- a chunk line is due, and fewer than n bytes follow
chunks_verdict : (n : ℕ) (u body front text : List ℕ) → length u < n → Reaches Chunked Line body front → text ≡ front ++ u → BodyVerdict Chunked text
chunks_verdict zero u body front text short r e = absurd (omega (arith, short))
chunks_verdict (suc n) u body front text short r e = go (λ more before text_so_far less reaches is. chunks_verdict n more before text_so_far text less reaches is) (line_turn u)
  where
    go : Onward n text → LineTurn u → BodyVerdict Chunked text
    go ih (inr (inl w)) = waits Line body front u text r w e
    go ih (inr (inr b)) = breaks Line body front u text r b e
    go ih (inl (k, line, more, is, f)) = choose (cases_lt 1048576 (length body + k)) (cases_lt 0 k) (cases_lt (length more) k)
      where
        whole : text ≡ front ++ (line ++ more)
        whole = e ∙ ap (λ (v : List ℕ). front ++ v) f

        choose : (1048576 < length body + k) ⊎ (length body + k ≤ 1048576) → (0 < k) ⊎ (k ≤ 0) → (length more < k) ⊎ (k ≤ length more) → BodyVerdict Chunked text
        choose (inl long) some few = inr (inr (inr (inl (body, front, line, more, k, r, is, whole, long))))
        choose (inr fits) (inr none) few = let z : k ≡ 0 = omega (arith, none) in at_trailer body front line more text r (subst (λ (v : ℕ). IsLine v line) z is) whole
        choose (inr fits) (inl some) (inl few) = at_data body front line more text k r is some fits whole few
        choose (inr fits) (inl some) (inr enough) =
            let d : length (take k more) ≡ k = length-take-le k more enough in
            let split : more ≡ take k more ++ drop k more = sym (take-append-drop k more) in
            let a : length more ≡ length (take k more) + length (drop k more) = ap length split ∙ length-append (take k more) (drop k more) in
            let b : length u ≡ length line + length more = ap length f ∙ length-append line more in
            let c = some_line k line is in
            at_last n body front line (take k more) (drop k more) text ih r (subst (λ (v : ℕ). IsLine v line) (sym d) is) (omega (arith, d, some)) (omega (arith, d, fits)) (whole ∙ ap (λ (v : List ℕ). front ++ (line ++ v)) split) (omega (arith, a, b, c, short))

sized_verdict : (n : ℕ) (text : List ℕ) → (1048576 < n) ⊎ (n ≤ 1048576) → (length text < n) ⊎ (n ≤ length text) → BodyVerdict (Sized n) text
sized_verdict n text (inl long) f = inr (inr (inr (inl long)))
sized_verdict n text (inr few) (inl short) =
    let left = n - length text in
    let m : n ≡ length text + left = omega (arith, short) in
    inr (inl (record { stage = Plain left; body = text; front = text; unread = []; reaches = (ap Sized m, omega (arith, m, few), refl); awaits = (omega (arith, m, short), refl); text_is = sym (append-nil text) }))
sized_verdict n text (inr few) (inr enough) = inl (take n text, take n text, drop n text, (refl, length-take-le n text enough, few), sym (take-append-drop n text))

pub some_body : SomeBody
some_body (Sized n) text = sized_verdict n text (cases_lt 1048576 n) (cases_lt (length text) n)
some_body Chunked text = chunks_verdict (length text + 1) text [] [] text (omega arith) (refl, omega arith, ([], (refl, refl))) refl
some_body BadSize text = inr (inr (inl refl))
