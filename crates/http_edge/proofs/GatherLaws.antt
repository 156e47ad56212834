-- How a piece is read after a body, turn by turn.
use Rattle.std.proofs.Common.{refl, ◌≡◌, ℕ, ◌+◌, ◌-◌, ◌≤◌, List, [], ◌++◌, length, take, drop, sym, ap, ◌∙◌, subst, arith, length-append, length-drop, length-take-le, append_assoc, append-nil, take-append-drop}
use Rattle.std.proofs.lemmas.List.{take_all}
use Rattle.std.proofs.Math.Seq.{take-add}
use Rattle.http_edge.specs.declared.fault.HttpWhy.{HttpWhy}
use Rattle.http_edge.specs.declared.fault.HttpWhy.TheVariants.{BadHead, BadLength, TooLong, BadChunk}
use Rattle.http_edge.specs.declared.gather.Ending.TheVariants as ending
use Rattle.http_edge.specs.declared.stage.Stage.{Stage}
use Rattle.http_edge.specs.declared.stage.Stage.TheVariants.{Plain, Line, Data, End, Trailer}
use Rattle.http_edge.specs.declared.step.Turn.{Turn}
use Rattle.http_edge.specs.declared.step.Turn.TheVariants.{Took, Past, Done, Bad}
use Rattle.http_edge.specs.Lengths.{BodySize, Chunked}
use Rattle.http_edge.specs.Bodies.{Reaches, IsBody, IsTooLong, Breaks}
use Rattle.http_edge.specs.Steps.{Fits}
use Rattle.http_edge.specs.Turns.{Turns}
use Rattle.http_edge.specs.Gathering.{Brings, GathersTo}

-- what a turn tells of the window after a place
pub turns_at : (now : Stage) (held n : ℕ) (got : List ℕ) (piece : List ℕ) (from : ℕ) (s t : Turn) → n ≡ length got → s ≡ t → Turns now (held + n) (take (length piece - from) (drop from piece)) s → Turns now (held + length got) (drop from piece) t
turns_at now held n got piece from s t e f x =
    let k = length-drop from piece in
    subst (Turns now (held + length got) (drop from piece)) f (subst (λ (v : List ℕ). Turns now (held + length got) v s) (take_all (length piece - from) (drop from piece) (omega (arith, k))) (subst (λ (m : ℕ). Turns now (held + m) (take (length piece - from) (drop from piece)) s) e x))

pub brings_none : (stage : Stage) (held : ℕ) (piece got : List ℕ) → got ≡ [] → Fits stage held → Brings stage held piece stage got 0
brings_none stage held piece got e fits =
    let n : held ≡ held + length got = omega (arith, ap length e) in
    record {
      inside = omega arith;
      fits = subst (Fits stage) n fits;
      reaches = λ size body front len r. subst (λ (v : List ℕ). Reaches size stage v (front ++ [])) (sym (append-nil body) ∙ ap (λ (v : List ℕ). body ++ v) (sym e)) (subst (Reaches size stage body) (sym (append-nil front)) r);
    }

both : (body got : List ℕ) (held : ℕ) → length body ≡ held → length (body ++ got) ≡ held + length got
both body got held e = length-append body got ∙ ap (λ (n : ℕ). n + length got) e

inside_more : (piece : List ℕ) (from n : ℕ) → from ≤ length piece → n ≤ length (drop from piece) → from + n ≤ length piece
inside_more piece from n a b = omega (arith, length-drop from piece, a, b)

joins : (front piece : List ℕ) (from n : ℕ) → (front ++ take from piece) ++ take n (drop from piece) ≡ front ++ take (from + n) piece
joins front piece from n = append_assoc front (take from piece) (take n (drop from piece)) ∙ ap (λ (v : List ℕ). front ++ v) (sym (take-add from n piece))

pub brings_took : (stage : Stage) (held : ℕ) (piece got : List ℕ) (now next : Stage) (from n : ℕ) (got_now : List ℕ) → Brings stage held piece now got from → Turns now (held + length got) (drop from piece) (Took next n) → got_now ≡ got ++ take (from + n - from) (drop from piece) → Brings stage held piece next got_now (from + n)
brings_took stage held piece got now next from n got_now b (some, few, fits, takes) e =
    let d = take n (drop from piece) in
    let k : from + n - from ≡ n = omega arith in
    let e2 : got_now ≡ got ++ d = e ∙ ap (λ (m : ℕ). got ++ take m (drop from piece)) k in
    let len : length got_now ≡ length got + n = ap length e2 ∙ length-append got d ∙ ap (λ (m : ℕ). length got + m) (length-take-le n (drop from piece) few) in
    let sum : held + length got + n ≡ held + length got_now = omega (arith, len) in
    record {
      inside = inside_more piece from n b.inside few;
      fits = subst (Fits next) sum fits;
      reaches = λ size body front l r.
          let r1 = b.reaches size body front l r in
          let r2 = takes size (body ++ got) (front ++ take from piece) (both body got held l) r1 in
          subst (λ (v : List ℕ). Reaches size next v (front ++ take (from + n) piece)) (append_assoc body got d ∙ ap (λ (v : List ℕ). body ++ v) (sym e2)) (subst (Reaches size next ((body ++ got) ++ d)) (joins front piece from n) r2);
    }

pub brings_past : (stage : Stage) (held : ℕ) (piece got : List ℕ) (now next : Stage) (from n : ℕ) → Brings stage held piece now got from → Turns now (held + length got) (drop from piece) (Past next n) → Brings stage held piece next got (from + n)
brings_past stage held piece got now next from n b (some, few, fits, passes) = record {
  inside = inside_more piece from n b.inside few;
  fits = fits;
  reaches = λ size body front l r.
      let r1 = b.reaches size body front l r in
      subst (Reaches size next (body ++ got)) (joins front piece from n) (passes size (body ++ got) (front ++ take from piece) (both body got held l) r1);
}

pub gathers_whole : (stage : Stage) (held : ℕ) (piece got : List ℕ) (now : Stage) (from n : ℕ) → Brings stage held piece now got from → Turns now (held + length got) (drop from piece) (Done n) → GathersTo stage held piece got (from + n) ending.Whole
gathers_whole stage held piece got now from n b (few, finishes) = (
  inside_more piece from n b.inside few,
  λ size body front l r.
      let r1 = b.reaches size body front l r in
      subst (IsBody size (body ++ got)) (joins front piece from n) (finishes size (body ++ got) (front ++ take from piece) (both body got held l) r1),
)

whole_text : (front piece : List ℕ) (from : ℕ) → front ++ piece ≡ (front ++ take from piece) ++ drop from piece
whole_text front piece from = ap (λ (v : List ℕ). front ++ v) (sym (take-append-drop from piece)) ∙ sym (append_assoc front (take from piece) (drop from piece))

-- only a chunked body is broken
chunked : (now : Stage) (size : BodySize) (body text u : List ℕ) → Reaches size now body text → Breaks now u → size ≡ Chunked
chunked (Plain left) size body text u r b = absurd b
chunked Line size body text u r b = r.0
chunked (Data left) size body text u r b = absurd b
chunked End size body text u r b = r.0
chunked Trailer size body text u r b = r.0

pub gathers_bad : (stage : Stage) (held : ℕ) (piece got : List ℕ) (now : Stage) (from : ℕ) (why : HttpWhy) → Brings stage held piece now got from → Turns now (held + length got) (drop from piece) (Bad why) → GathersTo stage held piece got from (ending.Bad why)
gathers_bad stage held piece got now from BadHead b t = absurd t
gathers_bad stage held piece got now from BadLength b t = absurd t
gathers_bad stage held piece got now from TooLong b t = (
  b.inside,
  λ size body front l r.
      let r1 = b.reaches size body front l r in
      subst (IsTooLong size) (sym (whole_text front piece from)) (t size (body ++ got) (front ++ take from piece) (both body got held l) r1),
)
gathers_bad stage held piece got now from BadChunk b t = (
  b.inside,
  λ size body front l r.
      let r1 = b.reaches size body front l r in
      let e : size ≡ Chunked = chunked now size (body ++ got) (front ++ take from piece) (drop from piece) r1 t in
      let inside = b.inside in (
        e,
        record {
          stage = now;
          body = body ++ got;
          front = front ++ take from piece;
          unread = drop from piece;
          reaches = subst (λ (z : BodySize). Reaches z now (body ++ got) (front ++ take from piece)) e r1;
          breaks = t;
          text_is = whole_text front piece from;
          place_is = sym (length-append front (take from piece) ∙ ap (λ (m : ℕ). length front + m) (length-take-le from piece inside));
        },
      ),
)

-- what has been read of a piece, and appended
pub record GatherAt (stage : Stage) (held : ℕ) (piece old : List ℕ) (now : Stage) (items : List ℕ) (from : ℕ) : Type 0 where
  pub got : List ℕ
  pub added : items ≡ old ++ got
  pub few : length got ≤ from
  pub brings : Brings stage held piece now got from

pub at_first : (stage : Stage) (held : ℕ) (piece old : List ℕ) → Fits stage held → GatherAt stage held piece old stage old 0
at_first stage held piece old fits = record { got = []; added = sym (append-nil old); few = omega arith; brings = brings_none stage held piece [] refl fits }

-- how many bytes were appended
pub count_got : (old items got : List ℕ) (n before : ℕ) → items ≡ old ++ got → n ≡ length items → before ≡ length old → n - before ≡ length got
count_got old items got n before e f g =
    let k : length items ≡ length old + length got = ap length e ∙ length-append old got in
    omega (arith, k, f, g)

pub at_took : (stage : Stage) (held : ℕ) (piece old : List ℕ) (now next : Stage) (items more : List ℕ) (from n : ℕ) → (a : GatherAt stage held piece old now items from) → Turns now (held + length a.got) (drop from piece) (Took next n) → more ≡ items ++ take (from + n - from) (drop from piece) → GatherAt stage held piece old next more (from + n)
at_took stage held piece old now next items more from n a t e =
    let d = take (from + n - from) (drop from piece) in
    let k : from + n - from ≡ n = omega arith in
    let len : length d ≡ n = ap (λ (m : ℕ). length (take m (drop from piece))) k ∙ length-take-le n (drop from piece) t.1 in
    let sum = length-append a.got d in
    let few = a.few in
    record {
      got = a.got ++ d;
      added = e ∙ ap (λ (v : List ℕ). v ++ d) a.added ∙ append_assoc old a.got d;
      few = omega (arith, len, sum, few);
      brings = brings_took stage held piece a.got now next from n (a.got ++ d) a.brings t refl;
    }

pub at_past : (stage : Stage) (held : ℕ) (piece old : List ℕ) (now next : Stage) (items : List ℕ) (from n : ℕ) → (a : GatherAt stage held piece old now items from) → Turns now (held + length a.got) (drop from piece) (Past next n) → GatherAt stage held piece old next items (from + n)
at_past stage held piece old now next items from n a t =
    let few = a.few in
    record { got = a.got; added = a.added; few = omega (arith, few); brings = brings_past stage held piece a.got now next from n a.brings t }
