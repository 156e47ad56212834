-- The text of a chunked body stands at one stage only.
use Rattle.std.proofs.Common.{◌≡◌, ℕ, ◌+◌, ◌<◌, ◌≤◌, List, [], ◌++◌, length, refl, sym, ap, ◌∙◌, arith, inl, inr, length-append, append_assoc, append-nil}
use Rattle.std.specs.Prelude.{◌⊎◌}
use Rattle.httparse.specs.Ascii.{crlf_bytes}
use Rattle.http_edge.specs.declared.stage.Stage.{Stage}
use Rattle.http_edge.specs.declared.stage.Stage.TheVariants.{Plain, Line, Data, End, Trailer}
use Rattle.http_edge.specs.Lengths.{Chunked}
use Rattle.http_edge.specs.Chunks.{IsLine, AreChunks}
use Rattle.http_edge.specs.Bodies.{IsInChunk, IsPastChunks, Reaches}
use Rattle.http_edge.proofs.OnceLaws.{cut, line_once, chunk_opens, walk, StartsChunk, line_no_chunk}

-- what is due at a stage, a trailer aside, isn't whole in these bytes
abbrev pub Stays : Stage → List ℕ → Type 0
Stays (Plain left) u = Unit {0}
Stays Line u = (n : ℕ) (line more : List ℕ) → IsLine n line → u ≡ line ++ more → ⊥
Stays (Data left) u = (0 < left) × (u ≡ [])
Stays End u = (more : List ℕ) → u ≡ crlf_bytes ++ more → ⊥
Stays Trailer u = Unit {0}

-- the bytes are chunks, and then bytes that don't begin with one
record Cut (all : List ℕ) : Type 0 where
  chunks : List (List ℕ)
  before : List ℕ
  front : List ℕ
  rest : List ℕ
  are : AreChunks chunks before front
  all_is : all ≡ front ++ rest
  few : length before ≤ 1048576
  halts : (other : List ℕ) → StartsChunk before rest other → ⊥

meet : (all both : List ℕ) (a : Cut all) (b : Cut both) → all ≡ both → (a.before ≡ b.before) × (a.front ≡ b.front) × (a.rest ≡ b.rest)
meet all both a b e = go (walk a.chunks b.chunks a.before b.before a.front b.front a.rest b.rest a.are b.are (sym a.all_is ∙ e ∙ b.all_is))
  where
    go : ((a.before ≡ b.before) × (a.front ≡ b.front) × (a.rest ≡ b.rest)) ⊎ (StartsChunk a.before a.rest b.before ⊎ StartsChunk b.before b.rest a.before) → (a.before ≡ b.before) × (a.front ≡ b.front) × (a.rest ≡ b.rest)
    go (inl s) = s
    go (inr (inl s)) = absurd (a.halts b.before s)
    go (inr (inr s)) = absurd (b.halts a.before s)

line_cut : (body front u : List ℕ) → Reaches Chunked Line body front → Stays Line u → Cut (front ++ u)
line_cut body front u (s, few, (chunks, are)) stays = record {
  chunks = chunks;
  before = body;
  front = front;
  rest = u;
  are = are;
  all_is = refl;
  few = few;
  halts = λ other (d, chunk, w, one, e, more). stays (length d) one.line (d ++ (crlf_bytes ++ w)) one.line_is (e ∙ chunk_opens d chunk w one);
}

-- a chunk's line and its data, and then bytes
spread : (body front u : List ℕ) (left : ℕ) (i : IsInChunk left body front) → front ++ u ≡ i.front ++ (i.line ++ (i.data_so_far ++ u))
spread body front u left i = ap (λ (z : List ℕ). z ++ u) i.text_is ∙ append_assoc i.front (i.line ++ i.data_so_far) u ∙ ap (λ (z : List ℕ). i.front ++ z) (append_assoc i.line i.data_so_far u)

chunk_cut : (body front u : List ℕ) (left : ℕ) (i : IsInChunk left body front) → length body + left ≤ 1048576 → ((d w : List ℕ) → length i.data_so_far + left ≡ length d → i.data_so_far ++ u ≡ d ++ (crlf_bytes ++ w) → ⊥) → Cut (front ++ u)
chunk_cut body front u left i few none =
    let n : length body ≡ length i.before + length i.data_so_far = ap length i.body_is ∙ length-append i.before i.data_so_far in
    record {
      chunks = i.chunks;
      before = i.before;
      front = i.front;
      rest = i.line ++ (i.data_so_far ++ u);
      are = i.are;
      all_is = spread body front u left i;
      few = omega (arith, n, few);
      halts = λ other (d, chunk, w, one, e, more).
          let q = line_once (length i.data_so_far + left) (length d) i.line one.line (i.data_so_far ++ u) (d ++ (crlf_bytes ++ w)) i.line_is one.line_is (e ∙ chunk_opens d chunk w one) in
          none d w q.0 q.2;
    }

data_none : (part u d w : List ℕ) (left : ℕ) → 0 < left → u ≡ [] → length part + left ≡ length d → part ++ u ≡ d ++ (crlf_bytes ++ w) → ⊥
data_none part u d w left some none n e =
    let a = length-append part u in
    let b = length-append d (crlf_bytes ++ w) in
    let z : length u ≡ 0 = ap length none in
    let l : length (part ++ u) ≡ length (d ++ (crlf_bytes ++ w)) = ap length e in
    omega (arith, n, a, b, z, l, some)

end_none : (part u d w : List ℕ) → Stays End u → length part + 0 ≡ length d → part ++ u ≡ d ++ (crlf_bytes ++ w) → ⊥
end_none part u d w stays n e = stays w (cut part d u (crlf_bytes ++ w) (omega (arith, n)) e).1

past_cut : (body front u : List ℕ) (p : IsPastChunks body front) → length body ≤ 1048576 → Cut (front ++ u)
past_cut body front u p few = record {
  chunks = p.chunks;
  before = body;
  front = p.front;
  rest = p.line ++ u;
  are = p.are;
  all_is = ap (λ (z : List ℕ). z ++ u) p.text_is ∙ append_assoc p.front p.line u;
  few = few;
  halts = λ other s. line_no_chunk body other p.line u (p.line ++ u) p.line_is refl s;
}

data_cut : (body front u : List ℕ) (left : ℕ) → (r : Reaches Chunked (Data left) body front) → Stays (Data left) u → Cut (front ++ u)
data_cut body front u left (s, few, i) (some, none) = chunk_cut body front u left i few (λ d w. data_none i.data_so_far u d w left some none)

end_cut : (body front u : List ℕ) → (r : Reaches Chunked End body front) → Stays End u → Cut (front ++ u)
end_cut body front u (s, few, i) stays = chunk_cut body front u 0 i (omega (arith, few)) (λ d w. end_none i.data_so_far u d w stays)

data_before : (part whole u v : List ℕ) (left : ℕ) → 0 < left → u ≡ [] → length part + left ≡ length whole + 0 → part ++ u ≡ whole ++ v → ⊥
data_before part whole u v left some none n e =
    let a = length-append part u in
    let b = length-append whole v in
    let z : length u ≡ 0 = ap length none in
    let l : length (part ++ u) ≡ length (whole ++ v) = ap length e in
    omega (arith, n, a, b, z, l, some)

-- Two stages of one text are one, with the same bytes before it and after it.
pub same_stage : (s t : Stage) (body other f g u v : List ℕ) → Reaches Chunked s body f → Stays s u → Reaches Chunked t other g → Stays t v → f ++ u ≡ g ++ v → (s ≡ t) × (f ≡ g) × (u ≡ v)
unfolding line_cut data_cut chunk_cut end_cut past_cut
same_stage (Plain left) t body other f g u v r x q y e = let z = r.0 in absurd (cc)
same_stage Line (Plain left) body other f g u v r x q y e = let z = q.0 in absurd (cc)
same_stage (Data less) (Plain left) body other f g u v r x q y e = let z = q.0 in absurd (cc)
same_stage End (Plain left) body other f g u v r x q y e = let z = q.0 in absurd (cc)
same_stage Trailer (Plain left) body other f g u v r x q y e = let z = q.0 in absurd (cc)
same_stage Line Line body other f g u v r x q y e = let m = meet (f ++ u) (g ++ v) (line_cut body f u r x) (line_cut other g v q y) e in (refl, m.1, m.2)
same_stage Line (Data left) body other f g u v r x q y e = let m = meet (f ++ u) (g ++ v) (line_cut body f u r x) (data_cut other g v left q y) e in absurd (x _ _ _ q.2.line_is m.2)
same_stage Line End body other f g u v r x q y e = let m = meet (f ++ u) (g ++ v) (line_cut body f u r x) (end_cut other g v q y) e in absurd (x _ _ _ q.2.line_is m.2)
same_stage Line Trailer body other f g u v r x q y e = let m = meet (f ++ u) (g ++ v) (line_cut body f u r x) (past_cut other g v q.2 q.1) e in absurd (x _ _ _ q.2.line_is m.2)
same_stage (Data left) Line body other f g u v r x q y e = let m = meet (f ++ u) (g ++ v) (data_cut body f u left r x) (line_cut other g v q y) e in absurd (y _ _ _ r.2.line_is (sym m.2))
same_stage End Line body other f g u v r x q y e = let m = meet (f ++ u) (g ++ v) (end_cut body f u r x) (line_cut other g v q y) e in absurd (y _ _ _ r.2.line_is (sym m.2))
same_stage Trailer Line body other f g u v r x q y e = let m = meet (f ++ u) (g ++ v) (past_cut body f u r.2 r.1) (line_cut other g v q y) e in absurd (y _ _ _ r.2.line_is (sym m.2))
same_stage (Data left) (Data more) body other f g u v (s, few, i) x (t, many, j) y e =
    let m = meet (f ++ u) (g ++ v) (data_cut body f u left (s, few, i) x) (data_cut other g v more (t, many, j) y) e in
    let q = line_once (length i.data_so_far + left) (length j.data_so_far + more) i.line j.line (i.data_so_far ++ u) (j.data_so_far ++ v) i.line_is j.line_is m.2 in
    let d : i.data_so_far ≡ j.data_so_far = sym (append-nil i.data_so_far) ∙ ap (λ (w : List ℕ). i.data_so_far ++ w) (sym x.1) ∙ q.2 ∙ ap (λ (w : List ℕ). j.data_so_far ++ w) y.1 ∙ append-nil j.data_so_far in
    let n : length i.data_so_far ≡ length j.data_so_far = ap length d in
    let k = q.0 in
    let l : left ≡ more = omega (arith, n, k) in
    (ap (λ (w : ℕ). Data w) l, i.text_is ∙ (λ h. m.1 h ++ (q.1 h ++ d h)) ∙ sym j.text_is, x.1 ∙ sym y.1)
same_stage (Data left) End body other f g u v (s, few, i) x (t, many, j) y e =
    let m = meet (f ++ u) (g ++ v) (data_cut body f u left (s, few, i) x) (end_cut other g v (t, many, j) y) e in
    let q = line_once (length i.data_so_far + left) (length j.data_so_far + 0) i.line j.line (i.data_so_far ++ u) (j.data_so_far ++ v) i.line_is j.line_is m.2 in
    absurd (data_before i.data_so_far j.data_so_far u v left x.0 x.1 q.0 q.2)
same_stage End (Data left) body other f g u v (s, few, i) x (t, many, j) y e =
    let m = meet (f ++ u) (g ++ v) (end_cut body f u (s, few, i) x) (data_cut other g v left (t, many, j) y) e in
    let q = line_once (length i.data_so_far + 0) (length j.data_so_far + left) i.line j.line (i.data_so_far ++ u) (j.data_so_far ++ v) i.line_is j.line_is m.2 in
    absurd (data_before j.data_so_far i.data_so_far v u left y.0 y.1 (sym q.0) (sym q.2))
same_stage (Data left) Trailer body other f g u v (s, few, i) x (t, many, p) y e =
    let m = meet (f ++ u) (g ++ v) (data_cut body f u left (s, few, i) x) (past_cut other g v p many) e in
    let n = (line_once (length i.data_so_far + left) 0 i.line p.line (i.data_so_far ++ u) v i.line_is p.line_is m.2).0 in
    let some = i.some in
    absurd (omega (arith, n, some))
same_stage Trailer (Data left) body other f g u v (s, few, p) x (t, many, j) y e =
    let m = meet (f ++ u) (g ++ v) (past_cut body f u p few) (data_cut other g v left (t, many, j) y) e in
    let n = (line_once 0 (length j.data_so_far + left) p.line j.line u (j.data_so_far ++ v) p.line_is j.line_is m.2).0 in
    let some = j.some in
    absurd (omega (arith, n, some))
same_stage End End body other f g u v (s, few, i) x (t, many, j) y e =
    let m = meet (f ++ u) (g ++ v) (end_cut body f u (s, few, i) x) (end_cut other g v (t, many, j) y) e in
    let q = line_once (length i.data_so_far + 0) (length j.data_so_far + 0) i.line j.line (i.data_so_far ++ u) (j.data_so_far ++ v) i.line_is j.line_is m.2 in
    let n = q.0 in
    let d = cut i.data_so_far j.data_so_far u v (omega (arith, n)) q.2 in
    (refl, i.text_is ∙ (λ h. m.1 h ++ (q.1 h ++ d.0 h)) ∙ sym j.text_is, d.1)
same_stage End Trailer body other f g u v (s, few, i) x (t, many, p) y e =
    let m = meet (f ++ u) (g ++ v) (end_cut body f u (s, few, i) x) (past_cut other g v p many) e in
    let n = (line_once (length i.data_so_far + 0) 0 i.line p.line (i.data_so_far ++ u) v i.line_is p.line_is m.2).0 in
    let some = i.some in
    absurd (omega (arith, n, some))
same_stage Trailer End body other f g u v (s, few, p) x (t, many, j) y e =
    let m = meet (f ++ u) (g ++ v) (past_cut body f u p few) (end_cut other g v (t, many, j) y) e in
    let n = (line_once 0 (length j.data_so_far + 0) p.line j.line u (j.data_so_far ++ v) p.line_is j.line_is m.2).0 in
    let some = j.some in
    absurd (omega (arith, n, some))
same_stage Trailer Trailer body other f g u v (s, few, p) x (t, many, k) y e =
    let m = meet (f ++ u) (g ++ v) (past_cut body f u p few) (past_cut other g v k many) e in
    let q = line_once 0 0 p.line k.line u v p.line_is k.line_is m.2 in
    (refl, p.text_is ∙ (λ h. m.1 h ++ q.1 h) ∙ sym k.text_is, q.2)

-- Where a line raises a body above the limit, no stage of a body within the limit comes after it.
over : (body line more all : List ℕ) (n : ℕ) (f : List ℕ) (c : Cut all) → (ds : List (List ℕ)) → AreChunks ds body f → IsLine n line → 1048576 < length body + n → f ++ (line ++ more) ≡ all → (body ≡ c.before) × (line ++ more ≡ c.rest)
over body line more all n f c ds are is long e = go (walk ds c.chunks body c.before f c.front (line ++ more) c.rest are c.are (e ∙ c.all_is))
  where
    go : ((body ≡ c.before) × (f ≡ c.front) × (line ++ more ≡ c.rest)) ⊎ (StartsChunk body (line ++ more) c.before ⊎ StartsChunk c.before c.rest body) → (body ≡ c.before) × (line ++ more ≡ c.rest)
    go (inl (x, y, z)) = (x, z)
    go (inr (inl (d, chunk, w, one, at, less))) =
        let k = (line_once n (length d) line one.line more (d ++ (crlf_bytes ++ w)) is one.line_is (at ∙ chunk_opens d chunk w one)).0 in
        let few = c.few in
        absurd (omega (arith, k, less, few, long))
    go (inr (inr s)) = absurd (c.halts body s)

long_chunk : (body other line more v : List ℕ) (n left : ℕ) (g : List ℕ) (j : IsInChunk left other g) → IsLine n line → length other + left ≤ 1048576 → body ≡ j.before → line ++ more ≡ j.line ++ (j.data_so_far ++ v) → 1048576 < length body + n → ⊥
long_chunk body other line more v n left g j is many b e long =
    let k = (line_once n (length j.data_so_far + left) line j.line more (j.data_so_far ++ v) is j.line_is e).0 in
    let l : length body ≡ length j.before = ap length b in
    let m : length other ≡ length j.before + length j.data_so_far = ap length j.body_is ∙ length-append j.before j.data_so_far in
    omega (arith, k, l, m, many, long)

pub long_stays : (t : Stage) (body other f g line more v : List ℕ) (n : ℕ) → Reaches Chunked Line body f → IsLine n line → 1048576 < length body + n → Reaches Chunked t other g → Stays t v → f ++ (line ++ more) ≡ g ++ v → ⊥
unfolding line_cut data_cut chunk_cut end_cut past_cut
long_stays (Plain left) body other f g line more v n r is long q y e = let z = q.0 in cc
long_stays Line body other f g line more v n (s, few, (ds, are)) is long q y e = let o = over body line more (g ++ v) n f (line_cut other g v q y) ds are is long e in y n line more is (sym o.1)
long_stays (Data left) body other f g line more v n (s, few, (ds, are)) is long (t, many, j) y e =
    let o = over body line more (g ++ v) n f (data_cut other g v left (t, many, j) y) ds are is long e in
    long_chunk body other line more v n left g j is many o.0 o.1 long
long_stays End body other f g line more v n (s, few, (ds, are)) is long (t, many, j) y e =
    let o = over body line more (g ++ v) n f (end_cut other g v (t, many, j) y) ds are is long e in
    long_chunk body other line more v n 0 g j is (omega (arith, many)) o.0 o.1 long
long_stays Trailer body other f g line more v n (s, few, (ds, are)) is long (t, many, p) y e =
    let o = over body line more (g ++ v) n f (past_cut other g v p many) ds are is long e in
    let k = (line_once n 0 line p.line more v is p.line_is o.1).0 in
    omega (arith, k, few, long)
