-- A fault is the only reading of its bytes.
use Rattle.std.proofs.Common.{◌≡◌, ℕ, ◌+◌, ◌-◌, ◌<◌, ◌≤◌, List, [], ◌++◌, length, take, drop, refl, sym, ap, ◌∙◌, subst, arith, inl, inr, append_assoc, append-nil}
use Rattle.std.specs.Prelude.{◌⊎◌}
use Rattle.std.proofs.lemmas.List.{take_all}
use Rattle.std.proofs.Math.Seq.{take-append-add, drop-append_seam}
use Rattle.httparse.specs.Grammar.{RequestHead, print_request, HasNoChunkLine}
use Rattle.stream_grammar.specs.Framing.{HasNoFrame}
use Rattle.http_edge.specs.declared.fault.HttpWhy.{HttpWhy}
use Rattle.http_edge.specs.declared.fault.HttpWhy.TheVariants.{BadHead, BadLength, TooLong, BadChunk}
use Rattle.http_edge.specs.declared.request.HttpItem.{HttpItem}
use Rattle.http_edge.specs.declared.stage.Stage.{Stage}
use Rattle.http_edge.specs.declared.stage.Stage.TheVariants.{Plain, Line, Data, End, Trailer}
use Rattle.httparse.specs.Grammar.{EndsInTarget}
use Rattle.http_edge.specs.Heads.{HasNoHead, NeverHasHead, BeginsAHead, IsOpenHead}
use Rattle.http_edge.specs.Lengths.{BodySize, Sized, Chunked, BadSize, size_of}
use Rattle.http_edge.specs.Chunks.{IsLine, HasNoTrailer, HoldsTrailer}
use Rattle.http_edge.specs.Bodies.{IsBody, IsChunkedBody, IsOpenBody, IsTooLong, IsBadChunk, Reaches, Awaits, Breaks}
use Rattle.http_edge.specs.HttpStream.{BeginsWith, IsRequest, IsOpen, IsFault, AreRequests, told_of}
use Rattle.http_edge.specs.Laws.{IsLeftOpen, AreBothReasons, OneFault, FaultOrStream, BothReadings}
use Rattle.http_edge.proofs.StageLaws.{Stays, same_stage, long_stays}
use Rattle.http_edge.proofs.ReadingLaws.{open_stays, trailer_more, at_end, request_begins, head_once, open_no_request, one_split}

-- what stands at the front of all stands at the front of a window that holds it
pub window_begins : (m : ℕ) (x y : List ℕ) → length x ≤ m → take m (x ++ y) ≡ x ++ take (m - length x) y
window_begins m x y few = let n : length x + (m - length x) ≡ m = omega (arith, few) in ap (λ (k : ℕ). take k (x ++ y)) (sym n) ∙ take-append-add x y (m - length x)

-- ---- bodies

no_line : (u line more : List ℕ) (n : ℕ) → HasNoChunkLine (take 1024 u) → IsLine n line → u ≡ line ++ more → ⊥
no_line u line more n none is e = none is.line (take (1024 - length line) more) (is.is, ap (take 1024) e ∙ window_begins 1024 line more is.short ∙ ap (λ (x : List ℕ). x ++ take (1024 - length line) more) is.text_is)

-- no bytes that never hold something hold it now
now : (P : List ℕ → Type 0) (w : List ℕ) → ((more : List ℕ) → P (w ++ more)) → P w
now P w never = subst P (append-nil w) (never [])

-- what is due at the stage that a body breaks isn't whole
pub breaks_stays : (stage : Stage) (u : List ℕ) → Breaks stage u → Stays stage u
breaks_stays (Plain left) u b = tt
breaks_stays Line u (inl never) = λ n line more is e. no_line u line more n (now HasNoChunkLine (take 1024 u) never) is e
breaks_stays Line u (inr (long, none)) = λ n line more is e. no_line u line more n none is e
breaks_stays (Data left) u b = absurd b
breaks_stays End u (inl (c, v, e, other)) = λ more f. other (cc)
breaks_stays End u (inr (c, v, e, other)) = λ more f. other (cc)
breaks_stays Trailer u b = tt

-- bytes that are a front of what is due don't break it
pub waits_unbroken : (stage : Stage) (u : List ℕ) → Awaits stage u → Breaks stage u → ⊥
waits_unbroken (Plain left) u w b = b
waits_unbroken Line u (short, none, (more, line, reads)) (inl never) = subst (λ (v : List ℕ). (more : List ℕ) → HasNoChunkLine (v ++ more)) (take_all 1024 u (omega (arith, short))) never more line [] reads
waits_unbroken Line u (short, w, may) (inr (long, none)) = omega (arith, short, long)
waits_unbroken (Data left) u w b = b
waits_unbroken End u (inl e) (inl (c, v, f, other)) = cc
waits_unbroken End u (inl e) (inr (c, v, f, other)) = cc
waits_unbroken End u (inr e) (inl (c, v, f, other)) = other (cc)
waits_unbroken End u (inr e) (inr (c, v, f, other)) = cc
waits_unbroken Trailer u (short, none, (more, holds)) (inl never) = subst (λ (v : List ℕ). (more : List ℕ) → HasNoTrailer (v ++ more)) (take_all 16384 u (omega (arith, short))) never more [] holds
waits_unbroken Trailer u (short, w, may) (inr (long, none)) = omega (arith, short, long)

trailer_unbroken : (u t y : List ℕ) → HoldsTrailer t [] → length t ≤ 16384 → u ≡ t ++ y → Breaks Trailer u → ⊥
trailer_unbroken u t y holds few e b = go b
  where
    z : List ℕ
    z = take (16384 - length t) y

    inside : HoldsTrailer (take 16384 u) z
    inside = subst (λ (v : List ℕ). HoldsTrailer v z) (sym (ap (take 16384) e ∙ window_begins 16384 t y few)) (trailer_more t z holds)

    go : Breaks Trailer u → ⊥
    go (inl never) = now HasNoTrailer (take 16384 u) never z inside
    go (inr (long, none)) = none z inside

pub bad_no_body : (text other back y : List ℕ) (place : ℕ) → IsBadChunk text place → IsChunkedBody other back → text ≡ back ++ y → ⊥
bad_no_body text other back y place b j e =
    let q = at_end b.stage b.body other b.front text back b.unread y b.reaches (breaks_stays b.stage b.unread b.breaks) b.text_is j e in
    trailer_unbroken b.unread j.trailer y j.holds j.short q.1 (subst (λ (s : Stage). Breaks s b.unread) q.0 b.breaks)

pub bad_no_open : (text : List ℕ) (place : ℕ) → IsBadChunk text place → IsOpenBody Chunked text → ⊥
bad_no_open text place b o =
    let q = same_stage o.stage b.stage o.body b.body o.front b.front o.unread b.unread o.reaches (open_stays o.stage o.unread o.awaits) b.reaches (breaks_stays b.stage b.unread b.breaks) (sym o.text_is ∙ b.text_is) in
    waits_unbroken b.stage b.unread (subst (λ (s : Stage). Awaits s b.unread) q.0 (subst (Awaits o.stage) q.2 o.awaits)) b.breaks

pub bad_once : (text : List ℕ) (place other : ℕ) → IsBadChunk text place → IsBadChunk text other → place ≡ other
bad_once text place other a b =
    let q = same_stage a.stage b.stage a.body b.body a.front b.front a.unread b.unread a.reaches (breaks_stays a.stage a.unread a.breaks) b.reaches (breaks_stays b.stage b.unread b.breaks) (sym a.text_is ∙ b.text_is) in
    a.place_is ∙ ap length q.1 ∙ sym b.place_is

pub long_no_bad : (text : List ℕ) (place : ℕ) → IsTooLong Chunked text → IsBadChunk text place → ⊥
long_no_bad text place (body, front, line, more, n, r, is, e, long) b = long_stays b.stage body b.body front b.front line more b.unread n r is long b.reaches (breaks_stays b.stage b.unread b.breaks) (sym e ∙ b.text_is)

pub long_no_open : (size : BodySize) (text : List ℕ) → IsTooLong size text → IsOpenBody size text → ⊥
long_no_open (Sized n) text long o = sized o.stage n o.body o.front o.reaches long
  where
    sized : (stage : Stage) (n : ℕ) (body front : List ℕ) → Reaches (Sized n) stage body front → 1048576 < n → ⊥
    sized (Plain left) n body front (s, few, is) l = let z : n ≡ length body + left = cc in omega (arith, z, few, l)
    sized Line n body front r l = let z = r.0 in cc
    sized (Data left) n body front r l = let z = r.0 in cc
    sized End n body front r l = let z = r.0 in cc
    sized Trailer n body front r l = let z = r.0 in cc
long_no_open Chunked text (body, front, line, more, n, r, is, e, long) o = long_stays o.stage body o.body front o.front line more o.unread n r is long o.reaches (open_stays o.stage o.unread o.awaits) (sym e ∙ o.text_is)
long_no_open BadSize text long o = long

pub long_no_body : (size : BodySize) (text other back y : List ℕ) → IsTooLong size text → IsBody size other back → text ≡ back ++ y → ⊥
long_no_body (Sized n) text other back y long (x, l, few) e = omega (arith, long, few)
long_no_body Chunked text other back y (body, front, line, more, n, r, is, f, long) j e = long_stays Trailer body other front j.front line more (j.trailer ++ y) n r is long j.reaches tt (sym f ∙ e ∙ ap (λ (x : List ℕ). x ++ y) j.text_is ∙ append_assoc j.front j.trailer y)
long_no_body BadSize text other back y long b e = long

-- a body that is framed against the rules isn't read
pub no_open_bad : (text : List ℕ) → IsOpenBody BadSize text → ⊥
no_open_bad text o = go o.stage o.body o.front o.reaches
  where
    go : (stage : Stage) (body front : List ℕ) → Reaches BadSize stage body front → ⊥
    go (Plain left) body front r = let z = r.0 in cc
    go Line body front r = let z = r.0 in cc
    go (Data left) body front r = let z = r.0 in cc
    go End body front r = let z = r.0 in cc
    go Trailer body front r = let z = r.0 in cc

-- ---- heads

-- a head that ends in the first 16,384 bytes is in them
window_head : (rest : List ℕ) (h : RequestHead) (text : List ℕ) → BeginsWith rest h text → HasNoHead (take 16384 rest) → ⊥
window_head rest h text b none =
    let z = take (16384 - length (print_request h)) text in
    none h z (record { reads = (b.holds.reads.0, ap (take 16384) b.holds.reads.1 ∙ window_begins 16384 (print_request h) text b.short); few = b.holds.few })

-- a fault of the head, and of the body after a head
abbrev pub InHead : List ℕ → HttpWhy → Type 0
InHead rest why = HasNoHead (take 16384 rest) × (((why ≡ BadHead) × NeverHasHead (take 16384 rest)) ⊎ ((why ≡ TooLong) × (16384 ≤ length rest) × IsOpenHead (take 16384 rest)))

abbrev pub InBody : RequestHead → List ℕ → HttpWhy → ℕ → List HttpItem → Type 0
InBody h text BadHead place told = ⊥
InBody h text BadLength place told = (size_of h ≡ BadSize) × (place ≡ 0) × (told ≡ [])
InBody h text TooLong place told = IsTooLong (size_of h) text × (place ≡ 0) × (told ≡ told_of h)
InBody h text BadChunk place told = (size_of h ≡ Chunked) × ((at : ℕ) × IsBadChunk text at × (place ≡ length (print_request h) + at)) × (told ≡ told_of h)

abbrev pub Parted : List ℕ → HttpWhy → ℕ → List HttpItem → Type 0
Parted rest why place told = (InHead rest why × (place ≡ 0) × (told ≡ [])) ⊎ ((h : RequestHead) × (text : List ℕ) × BeginsWith rest h text × InBody h text why place told)

parted : (rest : List ℕ) (why : HttpWhy) (place : ℕ) (told : List HttpItem) → IsFault rest why place told → Parted rest why place told
parted rest BadHead place told (never, p, i) = inl ((now HasNoHead (take 16384 rest) never, inl (refl, never)), p, i)
parted rest BadLength place told (h, text, b, z, p, i) = inr (h, text, b, (z, p, i))
parted rest TooLong place told (inl (long, o, p, i)) = inl ((o.none, inr (refl, long, o)), p, i)
parted rest TooLong place told (inr (h, text, b, long, p, i)) = inr (h, text, b, (long, p, i))
parted rest BadChunk place told (h, text, at, b, z, bad, p, i) = inr (h, text, b, (z, (at, bad, p), i))

-- two faults of heads
abbrev pub Alike : List ℕ → HttpWhy → HttpWhy → Type 0
Alike rest why other = (why ≡ other) ⊎ (AreBothReasons why other × IsLeftOpen (take 16384 rest))

left_open : (w : List ℕ) → NeverHasHead w → IsOpenHead w → IsLeftOpen w
left_open w never o = go o.going
  where
    go : BeginsAHead w ⊎ EndsInTarget w → IsLeftOpen w
    go (inl b) = absurd (never b.more b.head [] b.holds)
    go (inr e) = (e, never)

heads_alike : (rest : List ℕ) (why other : HttpWhy) → InHead rest why → InHead rest other → Alike rest why other
heads_alike rest why other (none, inl (e, never)) (nor, inl (f, still)) = inl (e ∙ sym f)
heads_alike rest why other (none, inl (e, never)) (nor, inr (f, long, o)) = inr (inl (e, f), left_open (take 16384 rest) never o)
heads_alike rest why other (none, inr (e, long, o)) (nor, inl (f, never)) = inr (inr (e, f), left_open (take 16384 rest) never o)
heads_alike rest why other (none, inr (e, long, o)) (nor, inr (f, much, p)) = inl (e ∙ sym f)

bodies_alike : (h : RequestHead) (text : List ℕ) (why other : HttpWhy) (p q : ℕ) (told others : List HttpItem) → InBody h text why p told → InBody h text other q others → (told ≡ others) × (p ≡ q) × (why ≡ other)
bodies_alike h text BadHead other p q told others a b = absurd a
bodies_alike h text BadLength BadHead p q told others a b = absurd b
bodies_alike h text BadLength BadLength p q told others (z, e, i) (y, f, j) = (i ∙ sym j, e ∙ sym f, refl)
bodies_alike h text BadLength TooLong p q told others (z, e, i) (long, f, j) = absurd (subst (λ (s : BodySize). IsTooLong s text) z long)
bodies_alike h text BadLength BadChunk p q told others (z, e, i) (y, f, j) = absurd (cc)
bodies_alike h text TooLong BadHead p q told others a b = absurd b
bodies_alike h text TooLong BadLength p q told others (long, e, i) (z, f, j) = absurd (subst (λ (s : BodySize). IsTooLong s text) z long)
bodies_alike h text TooLong TooLong p q told others (long, e, i) (y, f, j) = (i ∙ sym j, e ∙ sym f, refl)
bodies_alike h text TooLong BadChunk p q told others (long, e, i) (y, (at, bad, f), j) = absurd (long_no_bad text at (subst (λ (s : BodySize). IsTooLong s text) y long) bad)
bodies_alike h text BadChunk BadHead p q told others a b = absurd b
bodies_alike h text BadChunk BadLength p q told others (z, e, i) (y, f, j) = absurd (cc)
bodies_alike h text BadChunk TooLong p q told others (y, (at, bad, f), j) (long, e, i) = absurd (long_no_bad text at (subst (λ (s : BodySize). IsTooLong s text) y long) bad)
bodies_alike h text BadChunk BadChunk p q told others (y, (at, bad, f), j) (z, (by, ill, g), i) = (j ∙ sym i, f ∙ ap (λ (n : ℕ). length (print_request h) + n) (bad_once text at by bad ill) ∙ sym g, refl)

parted_alike : (rest : List ℕ) (why other : HttpWhy) (p q : ℕ) (told others : List HttpItem) → Parted rest why p told → Parted rest other q others → (told ≡ others) × (p ≡ q) × Alike rest why other
parted_alike rest why other p q told others (inl (a, e, i)) (inl (b, f, j)) = (i ∙ sym j, e ∙ sym f, heads_alike rest why other a b)
parted_alike rest why other p q told others (inl ((none, a), e, i)) (inr (h, text, begins, b)) = absurd (window_head rest h text begins none)
parted_alike rest why other p q told others (inr (h, text, begins, b)) (inl ((none, a), e, i)) = absurd (window_head rest h text begins none)
parted_alike rest why other p q told others (inr (h, text, begins, a)) (inr (k, last, also, b)) =
    let s = head_once rest h k text last begins also in
    let r = bodies_alike k last why other p q told others (subst (λ (v : List ℕ). InBody k v why p told) s.1 (subst (λ (v : RequestHead). InBody v text why p told) s.0 a)) b in
    (r.0, r.1, inl r.2)

-- what is at fault begins with no whole request
pub fault_no_request : (rest : List ℕ) (why : HttpWhy) (place : ℕ) (told : List HttpItem) → IsFault rest why place told → HasNoFrame IsRequest rest
fault_no_request rest why place told f r x y i e = go (parted rest why place told f)
  where
    in_body : (why : HttpWhy) → InBody i.head (i.text ++ y) why place told → ⊥
    in_body BadHead a = a
    in_body BadLength (z, p, q) = subst (λ (s : BodySize). IsBody s r.body i.text) z i.body
    in_body TooLong (long, p, q) = long_no_body (size_of i.head) (i.text ++ y) r.body i.text y long i.body refl
    in_body BadChunk (z, (at, bad, p), q) = bad_no_body (i.text ++ y) r.body i.text y at bad (subst (λ (s : BodySize). IsBody s r.body i.text) z i.body) refl

    go : Parted rest why place told → ⊥
    go (inl ((none, a), p, q)) = window_head rest i.head (i.text ++ y) (request_begins rest r x y i e) none
    go (inr (h, text, begins, a)) =
        let s = head_once rest h i.head text (i.text ++ y) begins (request_begins rest r x y i e) in
        in_body why (subst (λ (v : List ℕ). InBody i.head v why place told) s.1 (subst (λ (v : RequestHead). InBody v text why place told) s.0 a))

-- the bytes after whole requests
rest_is : (fed : List ℕ) (items : List HttpItem) (m : ℕ) (rest : List ℕ) → AreRequests fed items m rest → rest ≡ drop m fed
rest_is fed items m rest a = sym (drop-append_seam a.front rest) ∙ (λ i. drop (sym a.at_is i) (sym a.whole i))

pub one_fault : OneFault
one_fault fed items others m n place other_place why other a b =
    let q = one_split fed a.before b.before m n a.rest b.rest a.requests b.requests (fault_no_request a.rest why a.offset a.told a.fault) (fault_no_request b.rest other b.offset b.told b.fault) in
    let f : IsFault a.rest other b.offset b.told = subst (λ (v : List ℕ). IsFault v other b.offset b.told) (sym q.2) b.fault in
    let r = parted_alike a.rest why other a.offset b.offset a.told b.told (parted a.rest why a.offset a.told a.fault) (parted a.rest other b.offset b.told f) in (
      a.items_are ∙ (λ i. q.0 i ++ r.0 i) ∙ sym b.items_are,
      q.1,
      a.place_is ∙ (λ i. q.1 i + r.1 i) ∙ sym b.place_is,
      subst (λ (v : List ℕ). Alike v why other) (rest_is fed a.before m a.rest a.requests) r.2,
    )

-- a fault and an unfinished request
fault_or_open : (rest : List ℕ) (why : HttpWhy) (place : ℕ) (told others : List HttpItem) → Parted rest why place told → IsOpen rest others → IsLeftOpen rest × (why ≡ BadHead) × (told ≡ others) × (place ≡ 0)
fault_or_open rest why place told others (inl ((none, inl (w, never)), p, i)) (inl (short, o, j)) = (left_open rest (subst NeverHasHead (take_all 16384 rest (omega (arith, short))) never) o, w, i ∙ sym j, p)
fault_or_open rest why place told others (inl ((none, inr (w, long, q)), p, i)) (inl (short, o, j)) = absurd (omega (arith, long, short))
fault_or_open rest why place told others (inl ((none, a), p, i)) (inr (h, text, begins, o, j)) = absurd (window_head rest h text begins none)
fault_or_open rest why place told others (inr (h, text, begins, a)) (inl (short, o, j)) = absurd (o.none h text begins.holds)
fault_or_open rest why place told others (inr (h, text, begins, a)) (inr (k, last, also, o, j)) =
    let s = head_once rest h k text last begins also in
    absurd (go why (subst (λ (v : List ℕ). InBody k v why place told) s.1 (subst (λ (v : RequestHead). InBody v text why place told) s.0 a)))
  where
    go : (why : HttpWhy) → InBody k last why place told → ⊥
    go BadHead a = a
    go BadLength (z, p, q) = no_open_bad last (subst (λ (v : BodySize). IsOpenBody v last) z o)
    go TooLong (long, p, q) = long_no_open (size_of k) last long o
    go BadChunk (z, (at, bad, p), q) = bad_no_open last at bad (subst (λ (v : BodySize). IsOpenBody v last) z o)

pub fault_or_stream : FaultOrStream
fault_or_stream fed items others m n place why rest a b =
    let q = one_split fed a.before b.before m n a.rest rest a.requests b.requests (fault_no_request a.rest why a.offset a.told a.fault) (open_no_request rest b.told b.going) in
    let f : IsFault rest why a.offset a.told = subst (λ (v : List ℕ). IsFault v why a.offset a.told) q.2 a.fault in
    let r = fault_or_open rest why a.offset a.told b.told (parted rest why a.offset a.told f) b.going in
    let at = a.place_is in
    let zero = r.3 in
    let same = q.1 in
    (r.0, r.1, a.items_are ∙ (λ i. q.0 i ++ r.2 i) ∙ sym b.items_are, same, omega (arith, at, zero, same))

pub both_readings : BothReadings
both_readings fed items m rest a (ends, never) =
    let o : IsOpenHead (take 16384 rest) = record { none = now HasNoHead (take 16384 rest) never; going = inr ends } in (
      record { before = items; told = []; rest = rest; offset = 0; requests = a; items_are = sym (append-nil items); place_is = omega arith; fault = (never, refl, refl) },
      λ short.
          let w : take 16384 rest ≡ rest = take_all 16384 rest (omega (arith, short)) in
          record { before = items; told = []; requests = a; items_are = sym (append-nil items); going = inl (short, subst IsOpenHead w o, refl) },
      λ long. record { before = items; told = []; rest = rest; offset = 0; requests = a; items_are = sym (append-nil items); place_is = omega arith; fault = inl (long, o, refl, refl) },
    )
