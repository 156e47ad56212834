-- How a body is read past, and what that comes to.
use Rattle.std.proofs.Common.{◌≡◌, ℕ, ◌+◌, ◌-◌, ◌<◌, ◌≤◌, ◌^◌, List, [], ◌∷◌, ◌++◌, length, take, drop, refl, sym, ap, ◌∙◌, subst, arith, inl, inr, length-append, length-drop, length-take-le, append_assoc, take-append-drop}
use Rattle.std.specs.Prelude.{Some, None, Result, Ok, Err, IfOk}
use Rattle.std.specs.declared.alloc.AllocError.{AllocError}
use Rattle.std.proofs.lemmas.Bool.{cases_lt}
use Rattle.std.proofs.lemmas.List.{take-append-le}
use Rattle.http_edge.specs.declared.fault.HttpWhy.{HttpWhy}
use Rattle.http_edge.specs.declared.fault.HttpWhy.TheVariants.{BadHead, BadLength, TooLong, BadChunk}
use Rattle.http_edge.specs.declared.gather.Ending.{Ending}
use Rattle.http_edge.specs.declared.gather.Ending.TheVariants as ending
use Rattle.http_edge.specs.declared.gather.Passed.{Passed}
use Rattle.http_edge.specs.declared.past.Past.{Past}
use Rattle.http_edge.specs.declared.past.Way.{Way}
use Rattle.http_edge.specs.declared.past.Way.TheVariants as way
use Rattle.http_edge.specs.declared.stage.Stage.{Stage}
use Rattle.http_edge.specs.declared.stage.Stage.TheVariants.{Plain, Line, Data, End, Trailer}
use Rattle.http_edge.specs.declared.step.Turn.{Turn}
use Rattle.http_edge.specs.declared.step.Turn.TheVariants.{Took, Past as past}
use Rattle.http_edge.specs.Gathering.{Brings, GathersPast, GathersTo, Wherever}
use Rattle.http_edge.specs.Bodies.{IsBody, IsOpenBody}
use Rattle.http_edge.specs.Lengths.{size_of}
use Rattle.http_edge.specs.Past.{IsPast, IsReached, PassesAfter, Passes, come_to, ended_at, faulty_at, read_past}
use Rattle.http_edge.specs.Reading.{ReadsOn, Holds}
use Rattle.http_edge.specs.Scanning.{ScansTo, place_of}
use Rattle.http_edge.specs.Steps.{Fits}
use Rattle.http_edge.specs.Turns.{Turns}
use Rattle.http_edge.proofs.AfterLaws.{bad_feeds, feeds_after, open_feeds}
use Rattle.http_edge.proofs.FeedLaws.{reads_none}
use Rattle.http_edge.proofs.GatherLaws.{brings_none, brings_past, brings_took, turns_at}
use Rattle.http_edge.proofs.OpeningLaws.{open_nil}
use Rattle.http_edge.proofs.ReadingLaws.{open_no_body}
use Rattle.http_edge.proofs.StreamLaws.{left_open, no_requests}

-- ---- turn by turn

-- what has been read of a piece, and counted
pub record PassAt (stage : Stage) (held : ℕ) (piece : List ℕ) (now : Stage) (count from : ℕ) : Type 0 where
  pub got : List ℕ
  pub count_is : count ≡ held + length got
  pub brings : Brings stage held piece now got from

pub pass_first : (stage : Stage) (held : ℕ) (piece : List ℕ) → Fits stage held → PassAt stage held piece stage held 0
pass_first stage held piece fits = record { got = []; count_is = omega arith; brings = brings_none stage held piece [] refl fits }

-- what a turn tells of the window after a place
pub turned : (now : Stage) (count held : ℕ) (got piece : List ℕ) (from : ℕ) (s t : Turn) → count ≡ held + length got → s ≡ t → Turns now count (take (length piece - from) (drop from piece)) s → Turns now (held + length got) (drop from piece) t
turned now count held got piece from s t e f x = turns_at now held (length got) got piece from s t refl f (subst (λ (m : ℕ). Turns now m (take (length piece - from) (drop from piece)) s) e x)

pub pass_took : (stage : Stage) (held : ℕ) (piece : List ℕ) (now next : Stage) (count from n : ℕ) → (a : PassAt stage held piece now count from) → Turns now (held + length a.got) (drop from piece) (Took next n) → PassAt stage held piece next (count + n) (from + n)
pass_took stage held piece now next count from n a t =
    let d = take (from + n - from) (drop from piece) in
    let k : from + n - from ≡ n = omega arith in
    let len : length d ≡ n = ap (λ (m : ℕ). length (take m (drop from piece))) k ∙ length-take-le n (drop from piece) t.1 in
    let sum = length-append a.got d in
    let e = a.count_is in
    record { got = a.got ++ d; count_is = omega (arith, len, sum, e); brings = brings_took stage held piece a.got now next from n (a.got ++ d) a.brings t refl }

pub pass_past : (stage : Stage) (held : ℕ) (piece : List ℕ) (now next : Stage) (count from n : ℕ) → (a : PassAt stage held piece now count from) → Turns now (held + length a.got) (drop from piece) (past next n) → PassAt stage held piece next count (from + n)
pass_past stage held piece now next count from n a t = record { got = a.got; count_is = a.count_is; brings = brings_past stage held piece a.got now next from n a.brings t }

pub few_held : (stage : Stage) (n : ℕ) → Fits stage n → n ≤ 1048576
few_held (Plain left) n x = omega (arith, x)
few_held Line n x = x
few_held (Data left) n x = let k = x.1 in omega (arith, k)
few_held End n x = x
few_held Trailer n x = x

-- ---- a piece

-- what a piece brings of a body of so many bytes
brought : (stage : Stage) (n m : ℕ) (all got : List ℕ) (used : ℕ) (e f : Ending) → n ≡ m → e ≡ f → GathersTo stage n all got used e → GathersTo stage m all got used f
brought stage n m all got used e f k i g = subst (GathersTo stage m all got used) i (subst (λ (v : ℕ). GathersTo stage v all got used e) k g)

-- the request ends after the bytes that weren't read before
pub ends_later : (p : Past) (all piece got : List ℕ) (used : ℕ) → IsReached p → all ≡ p.unread.items ++ piece → GathersTo p.stage p.held all got used ending.Whole → length p.unread.items < used
ends_later p all piece got used r e (few, is) = later (length p.unread.items) used none
  where
    none : used ≤ length p.unread.items → ⊥
    none short =
        let x = reads_none r.fed (r.given ++ []) (read_past p r.body) refl r.reads in
        let h : Holds (Some p.head) p.stage r.body p.read p.unread.items x.0 = x.2 in
        let size = size_of h.0 in
        let front = h.1 in
        let whole : IsBody size (r.body ++ got) (front ++ take used all) = is size r.body front r.long h.4 in
        let same : take used all ≡ take used p.unread.items = ap (take used) e ∙ take-append-le used p.unread.items piece short in
        let unfinished : IsOpenBody size (front ++ p.unread.items) = record { stage = p.stage; body = r.body; front = front; unread = p.unread.items; reaches = h.4; awaits = h.5; text_is = refl } in
        open_no_body size (front ++ p.unread.items) (r.body ++ got) (front ++ take used all) (drop used p.unread.items) unfinished whole
        (ap (λ (v : List ℕ). front ++ v) (sym (take-append-drop used p.unread.items)) ∙ sym (append_assoc front (take used p.unread.items) (drop used p.unread.items)) ∙ ap (λ (v : List ℕ). (front ++ v) ++ drop used p.unread.items) (sym same))

    later : (n m : ℕ) → (m ≤ n → ⊥) → n < m
    later n m never = elim (cases_lt n m) [ inl less ↦ less | inr more ↦ absurd (never more) ]

-- more is due
pub goes_past : (old new : Past) (all piece : List ℕ) (p : Passed) (stage : Stage) → IsPast old → all ≡ old.unread.items ++ piece → (g : GathersPast old.stage old.held all p) → p.end ≡ ending.Open stage → old.at + old.read + length all ≤ 2 ^ 40 → new.head ≡ old.head → new.at ≡ old.at → new.stage ≡ stage → new.held ≡ p.held → new.read ≡ old.read + p.used → new.unread.items ≡ drop p.used all
    → IsPast new × Passes old piece way.Open new
goes_past old new all piece p stage f e g is place head_is at_is stage_is held_is read_is unread_is =
    let got = g.got in
    let y = brought old.stage old.held old.held all got p.used p.end (ending.Open stage) refl is g.gathers in
    let inside = y.0.inside in
    let on : (body : List ℕ) → length body ≡ old.held → ReadsOn (read_past old body) piece (read_past new (body ++ got)) = λ body long.
    (open_feeds (read_past old body) all old.head got p.used stage (read_past new (body ++ got)) refl refl (brought old.stage old.held (length body) all got p.used (ending.Open stage) (ending.Open stage) (sym long) refl y)
    (λ j. record { waiting = []; at = at_is j; begun = Some (head_is j); stage = stage_is j; body = body ++ got; read = read_is j; unread = unread_is j; fault = None }) piece e).1 in
    let n : new.held ≡ old.held + length got = held_is ∙ g.held_is in
    let u : length new.unread.items ≡ length all - p.used = ap length unread_is ∙ length-drop p.used all in
    let a : length all ≡ length old.unread.items + length piece = ap length e ∙ length-append old.unread.items piece in
    let r = f.reached in
    let sum = length-append r.body got in
    let long = r.long in (
      record {
        fits = subst (λ (t : Stage). Fits t new.held) (sym stage_is) (subst (Fits stage) (sym n) y.0.fits);
        short = (let z = y.2 in let v : length new.unread.items ≡ length (drop p.used all) = ap length unread_is in omega (arith, z, v));
        room = omega (arith, place, at_is, read_is, u, inside);
        reached = record { fed = r.fed ++ piece; given = r.given; body = r.body ++ got; long = omega (arith, sum, long, n); reads = on r.body r.long r.fed r.given r.reads };
      },
      (got, head_is, at_is, n, omega (arith, at_is, read_is, u, inside, a), on),
    )

-- after the last request nothing is left
scans_none : (b : List ℕ) → b ≡ [] → ScansTo b [] 0 None (Plain 0) [] 0 [] None
scans_none b e = subst (λ (v : List ℕ). ScansTo v [] 0 None (Plain 0) [] 0 [] None) (sym e) (record {
  before = [];
  told = [];
  requests = no_requests [];
  items_are = refl;
  fits = omega arith;
  short = omega arith;
  room = omega arith;
  place = tt;
  leaves = left_open [] [] refl (omega arith) open_nil;
})

none_left : (v : List ℕ) → length v ≡ 0 → v ≡ []
none_left [] e = refl
none_left (c ∷ v) e = absurd (omega (arith, e))

-- the request ends
pub ends_past : (old : Past) (all piece : List ℕ) (p : Passed) (used end : ℕ) → IsPast old → all ≡ old.unread.items ++ piece → (g : GathersPast old.stage old.held all p) → p.end ≡ ending.Whole → used ≡ p.used - length old.unread.items → end ≡ old.at + (old.read + p.used)
    → Passes old piece (way.Whole used end) old
ends_past old all piece p used end f e g is used_is end_is =
    let got = g.got in
    let u = old.unread.items in
    let y = brought old.stage old.held old.held all got p.used p.end ending.Whole refl is g.gathers in
    let some = ends_later old all piece got p.used f.reached e y in
    let few = y.0 in
    let a : length all ≡ length u + length piece = ap length e ∙ length-append u piece in
    let front = u ++ take used piece in
    let fl : length front ≡ length u + used = length-append u (take used piece) ∙ ap (λ (m : ℕ). length u + m) (length-take-le used piece (omega (arith, few, a, used_is, some))) in
    let split : all ≡ front ++ drop used piece = e ∙ ap (λ (v : List ℕ). u ++ v) (sym (take-append-drop used piece)) ∙ sym (append_assoc u (take used piece) (drop used piece)) in
    let same : take p.used all ≡ take p.used front = ap (take p.used) split ∙ take-append-le p.used front (drop used piece) (omega (arith, fl, used_is, some)) in
    let gone : drop p.used front ≡ [] = none_left (drop p.used front) (omega (arith, length-drop p.used front, fl, used_is, some)) in
    let at : end ≡ come_to old + used = omega (arith, end_is, used_is, some) in (
      refl,
      omega (arith, some, used_is),
      omega (arith, few, a, used_is, some),
      at,
      (
        got,
        λ body long.
            let wherever : Wherever old.stage (length body) (λ size b text. IsBody size (b ++ got) (text ++ take p.used front)) = λ size b text n r. subst (λ (v : List ℕ). IsBody size (b ++ got) (text ++ v)) same (y.1 size b text (n ∙ long) r) in
            let whole : GathersTo old.stage (length body) front got p.used ending.Whole = (omega (arith, fl, used_is, some), wherever) in
            let fed = feeds_after (read_past old body) front old.head got p.used (old.at + (old.read + p.used)) [] 0 None (Plain 0) [] 0 [] None refl refl whole refl (scans_none (drop p.used front) gone) (take used piece) refl in
            let here : old.at + (old.read + p.used) + 0 ≡ end = omega (arith, end_is) in
            subst (λ (n : ℕ). ReadsOn (read_past old body) (take used piece) (ended_at n old.head (body ++ got))) here fed.1,
      ),
    )

-- it has a fault
pub breaks_past : (old : Past) (all piece : List ℕ) (p : Passed) (why : HttpWhy) (place at : ℕ) → all ≡ old.unread.items ++ piece → (g : GathersPast old.stage old.held all p) → p.end ≡ ending.Bad why → place ≡ place_of why (old.read + p.used) → at ≡ old.at + place
    → Passes old piece (way.Bad (record { at = at; why = why })) old
breaks_past old all piece p why place at e g is place_is at_is = (
  refl,
  λ body long.
      let y = brought old.stage old.held (length body) all g.got p.used p.end (ending.Bad why) (sym long) is g.gathers in
      let fed = bad_feeds (read_past old body) all old.head g.got p.used why place None (Plain 0) [] 0 [] refl refl y place_is refl piece e in
      subst (λ (n : ℕ). ReadsOn (read_past old body) piece (faulty_at old.at (record { at = n; why = why }))) (sym at_is) fed.1,
)

-- how many bytes were read of a piece
pub pass_inside : (stage : Stage) (held : ℕ) (all : List ℕ) (p : Passed) → GathersPast stage held all p → p.used ≤ length all
pass_inside stage held all p g = inside p.end g.gathers
  where
    inside : (e : Ending) → GathersTo stage held all g.got p.used e → p.used ≤ length all
    inside ending.Whole x = x.0
    inside (ending.Open now) x = x.0.inside
    inside (ending.Bad BadHead) x = absurd x
    inside (ending.Bad BadLength) x = absurd x
    inside (ending.Bad TooLong) x = x.0
    inside (ending.Bad BadChunk) x = x.0

pub ends_after : (p : Past) (all piece : List ℕ) (q : Passed) → IsPast p → all ≡ p.unread.items ++ piece → (g : GathersPast p.stage p.held all q) → q.end ≡ ending.Whole → length p.unread.items < q.used
ends_after p all piece q f e g is = ends_later p all piece g.got q.used f.reached e (brought p.stage p.held p.held all g.got q.used q.end ending.Whole refl is g.gathers)

pub place_few : (why : HttpWhy) (n : ℕ) → place_of why n ≤ n
place_few BadHead n = omega arith
place_few BadLength n = omega arith
place_few TooLong n = omega arith
place_few BadChunk n = omega arith

-- of the bytes that weren't read and a piece
pub passes_piece : (old new : Past) (all piece : List ℕ) (r : Result Way AllocError) → all ≡ old.unread.items ++ piece → IfOk r (λ way. PassesAfter old all way new) → IfOk r (λ way. Passes old piece way new)
passes_piece old new all piece (Ok way) e x = x piece e
passes_piece old new all piece (Err error) e x = x

pub none_before : (u piece : List ℕ) → length u ≡ 0 → piece ≡ u ++ piece
none_before [] piece e = refl
none_before (c ∷ u) piece e = absurd (omega (arith, e))
