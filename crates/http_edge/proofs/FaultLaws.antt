-- A fault stays, whatever bytes follow.
use Rattle.std.proofs.Common.{◌≡◌, ℕ, ◌+◌, ◌-◌, Bool, true, false, List, [], ◌++◌, length, take, refl, sym, ap, ◌∙◌, subst, arith, inl, inr, length-append, append_assoc, append-nil}
use Rattle.std.specs.Prelude.{nat_le}
use Rattle.std.proofs.lemmas.Bool.{leb-true, leb-false}
use Rattle.std.proofs.lemmas.List.{take_all, take-append-le}
use Rattle.std.proofs.Math.Seq.{take-append-add}
use Rattle.httparse.specs.Grammar.{RequestHead, HasNoChunkLine}
use Rattle.httparse.proofs.GrammarLemmas.{ReadsRequest-append}
use Rattle.http_edge.specs.declared.fault.HttpWhy.{HttpWhy}
use Rattle.http_edge.specs.declared.fault.HttpWhy.TheVariants.{BadHead, BadLength, TooLong, BadChunk}
use Rattle.http_edge.specs.declared.request.HttpItem.{HttpItem}
use Rattle.http_edge.specs.declared.stage.Stage.{Stage}
use Rattle.http_edge.specs.declared.stage.Stage.TheVariants.{Plain, Line, Data, End, Trailer}
use Rattle.http_edge.specs.Heads.{HasNoHead, IsOpenHead}
use Rattle.http_edge.specs.Lengths.{BodySize, Sized, Chunked, BadSize, size_of}
use Rattle.http_edge.specs.Chunks.{HasNoTrailer}
use Rattle.http_edge.specs.Bodies.{IsTooLong, IsBadChunk, Breaks}
use Rattle.http_edge.specs.HttpStream.{BeginsWith, IsFault}

window_more : (m : ℕ) (rest piece : List ℕ) → (more : List ℕ) × (take m (rest ++ piece) ≡ take m rest ++ more)
window_more m rest piece = go (nat_le (length rest) m) refl
  where
    go : (b : Bool) → nat_le (length rest) m ≡ b → (more : List ℕ) × (take m (rest ++ piece) ≡ take m rest ++ more)
    go true e =
        let l = leb-true (length rest) m e in
        let n : length rest + (m - length rest) ≡ m = omega (arith, l) in
        (take (m - length rest) piece, ap (λ (k : ℕ). take k (rest ++ piece)) (sym n) ∙ take-append-add rest piece (m - length rest) ∙ ap (λ (v : List ℕ). v ++ take (m - length rest) piece) (sym (take_all m rest l)))
    go false e =
        let l = leb-false (length rest) m e in
        ([], take-append-le m rest piece (omega (arith, l)) ∙ sym (append-nil (take m rest)))

-- what holds of a window whatever follows it, holds so of a later one
pub never_more : (P : List ℕ → Type 0) (m : ℕ) (rest piece : List ℕ) → ((more : List ℕ) → P (take m rest ++ more)) → (more : List ℕ) → P (take m (rest ++ piece) ++ more)
never_more P m rest piece never more =
    let w = window_more m rest piece in
    subst P (sym (ap (λ (v : List ℕ). v ++ more) w.1 ∙ append_assoc (take m rest) w.0 more)) (never (w.0 ++ more))

pub begins_more : (b : List ℕ) (h : RequestHead) (text piece : List ℕ) → BeginsWith b h text → BeginsWith (b ++ piece) h (text ++ piece)
begins_more b h text piece x = record { holds = record { reads = ReadsRequest-append b h text piece x.holds.reads; few = x.holds.few }; short = x.short }

pub long_more : (size : BodySize) (text piece : List ℕ) → IsTooLong size text → IsTooLong size (text ++ piece)
long_more (Sized n) text piece x = x
long_more Chunked text piece (body, front, line, more, n, r, is, e, long) =
    (body, front, line, more ++ piece, n, r, is, ap (λ (v : List ℕ). v ++ piece) e ∙ append_assoc front (line ++ more) piece ∙ ap (λ (v : List ℕ). front ++ v) (append_assoc line more piece), long)
long_more BadSize text piece x = absurd x

breaks_more : (stage : Stage) (u piece : List ℕ) → Breaks stage u → Breaks stage (u ++ piece)
breaks_more (Plain left) u piece x = absurd x
breaks_more Line u piece (inl never) = inl (never_more HasNoChunkLine 1024 u piece never)
breaks_more Line u piece (inr (long, none)) =
    let n = length-append u piece in
    inr (omega (arith, long, n), subst HasNoChunkLine (sym (take-append-le 1024 u piece long)) none)
breaks_more (Data left) u piece x = absurd x
breaks_more End u piece (inl (c, v, e, other)) = inl (c, v ++ piece, ap (λ (w : List ℕ). w ++ piece) e, other)
breaks_more End u piece (inr (c, v, e, other)) = inr (c, v ++ piece, ap (λ (w : List ℕ). w ++ piece) e, other)
breaks_more Trailer u piece (inl never) = inl (never_more HasNoTrailer 16384 u piece never)
breaks_more Trailer u piece (inr (long, none)) =
    let n = length-append u piece in
    inr (omega (arith, long, n), subst HasNoTrailer (sym (take-append-le 16384 u piece long)) none)

pub bad_more : (text piece : List ℕ) (at : ℕ) → IsBadChunk text at → IsBadChunk (text ++ piece) at
bad_more text piece at x = record {
  stage = x.stage;
  body = x.body;
  front = x.front;
  unread = x.unread ++ piece;
  reaches = x.reaches;
  breaks = breaks_more x.stage x.unread piece x.breaks;
  text_is = ap (λ (v : List ℕ). v ++ piece) x.text_is ∙ append_assoc x.front x.unread piece;
  place_is = x.place_is;
}

pub fault_more : (rest piece : List ℕ) (why : HttpWhy) (place : ℕ) (items : List HttpItem) → IsFault rest why place items → IsFault (rest ++ piece) why place items
fault_more rest piece BadHead place items (never, p, i) = (never_more HasNoHead 16384 rest piece never, p, i)
fault_more rest piece BadLength place items (h, text, b, z, p, i) = (h, text ++ piece, begins_more rest h text piece b, z, p, i)
fault_more rest piece TooLong place items (inl (long, head, p, i)) =
    let n = length-append rest piece in
    inl (omega (arith, long, n), subst IsOpenHead (sym (take-append-le 16384 rest piece long)) head, p, i)
fault_more rest piece TooLong place items (inr (h, text, b, long, p, i)) = inr (h, text ++ piece, begins_more rest h text piece b, long_more (size_of h) text piece long, p, i)
fault_more rest piece BadChunk place items (h, text, at, b, z, bad, p, i) = (h, text ++ piece, at, begins_more rest h text piece b, z, bad_more text piece at bad, p, i)
