-- The items of a load's stream by the collector's protocol: each of its requests is one of a text, and none closes the connection.
use Rattle.std.proofs.Common.{◌≡◌, inl, inr, ℕ, zero, suc, ◌+◌, ◌*◌, ◌<◌, ◌≤◌, Bool, true, false, List, [], ◌∷◌, ◌++◌, length, flat_map, refl, sym, ◌∙◌, ap, subst, arith, length-append}
use Rattle.std.specs.Prelude.{Ok}
use Rattle.std.proofs.lemmas.List.{append-nil, nil_from_length}
use Rattle.event_map.specs.Objects.{event_object}
use Rattle.event_map.specs.Strings.{event_string}
use Rattle.stream_grammar.specs.Framing.{AreSpelled}
use Rattle.http_edge.specs.declared.request.HttpItem.{HttpItem}
use Rattle.http_edge.specs.declared.request.HttpItem.TheVariants.{Continue, Request}
use Rattle.http_edge.specs.declared.request.HttpRequest.{HttpRequest}
use Rattle.http_edge.specs.Fields.{closes}
use Rattle.http_edge.specs.Heads.{head_fields}
use Rattle.http_edge.specs.HttpStream.{IsRequest, items_if, items_of}
use Rattle.http_edge.specs.Lengths.{asks}
use Rattle.http_edge.proofs.OnceLaws.{requests_once}
use Rattle.http_edge.proofs.OpeningLaws.{open_nil}
use Rattle.http_edge.proofs.ReadingLaws.{open_no_request}
use Rattle.hec_body.specs.Events.{IsCut}
use Rattle.hec_sender.specs.Texts.{post_text}
use Rattle.conn_serve.specs.Hec.{AreTold}
use Rattle.load_run.specs.Events.{load_text, load_texts, next_number}
use Rattle.load_run.specs.Stream.{hec_stream}
use Rattle.load_run.proofs.Shorts.{load_text_short, next_low}
use Rattle.ending_laws.specs.Replaying.{HecEnds}
use Rattle.load_laws.proofs.Fronts.{strip}
use Rattle.load_laws.proofs.HecHead.{target, the_terms}
use Rattle.load_laws.proofs.HecObject.{body_size, one_event}
use Rattle.load_laws.proofs.HecRequest.{post_size, request_spelled, stays_open, the_request}
use Rattle.load_laws.proofs.HecText.{AreClear, object_clear, text_clear}

-- ---- the texts

-- a text of 1 to 21 bytes, each of which stands for itself in a JSON string
pub record IsText (text : List ℕ) : Type 0 where
  pub some : 0 < length text
  pub short : length text ≤ 21
  pub clear : AreClear text

abbrev pub AreTexts : List (List ℕ) → Type 0
AreTexts [] = Unit {0}
AreTexts (text ∷ texts) = IsText text × AreTexts texts

text_is : (place x : ℕ) → place < 100000 → x < 2147483648 → IsText (load_text place x)
text_is place x low small = record { some = omega arith; short = load_text_short place x low small; clear = text_clear place x (omega (arith, low)) (omega (arith, small)) }

pub texts_are : (place x n : ℕ) → place + n ≤ 100000 → AreTexts (load_texts place x n)
texts_are place x zero few = tt
texts_are place x (suc n) few = (text_is place (next_number x) (omega (arith, few)) (next_low x), texts_are (place + 1) (next_number x) n (omega (arith, few)))

-- the body of a text's request is one event
abbrev pub object : List ℕ → List ℕ
object text = event_object (event_string text)

pub object_low : (text : List ℕ) → IsText text → length (object text) ≤ 40
object_low [] is = absurd (omega (arith, is.some))
object_low (c ∷ cs) is = omega (arith, is.short, ap length (object_clear c cs is.clear), body_size (c ∷ cs) is.clear)

pub object_cut : (text : List ℕ) → IsText text → IsCut (object text) (Ok (object text ∷ []))
object_cut [] is = absurd (omega (arith, is.some))
object_cut (c ∷ cs) is =
    subst (λ (l : List ℕ). IsCut l (Ok (l ∷ []))) (sym (object_clear c cs is.clear)) (one_event (c ∷ cs) is.clear (omega arith) (omega (arith, is.short)))

-- ---- the requests of the stream

abbrev pub request_of : List ℕ → HttpRequest
request_of text = the_request (object text)

abbrev pub all_requests : List (List ℕ) → List HttpRequest
all_requests [] = []
all_requests (text ∷ texts) = request_of text ∷ all_requests texts

pub length-all_requests : (texts : List (List ℕ)) → length (all_requests texts) ≡ length texts
length-all_requests [] = refl
length-all_requests (text ∷ texts) = ap suc (length-all_requests texts)

pub all_spelled : (texts : List (List ℕ)) → AreTexts texts → AreSpelled IsRequest (all_requests texts) (hec_stream texts)
all_spelled [] are = refl
all_spelled (text ∷ texts) are = (post_text the_terms target (object text), hec_stream texts, request_spelled (object text) (omega (arith, object_low text are.0)), refl, all_spelled texts are.1)

pub length-hec_stream : (texts : List (List ℕ)) → AreTexts texts → length (hec_stream texts) ≤ length texts * 540
length-hec_stream [] are = omega arith
length-hec_stream (text ∷ texts) are =
    let low = object_low text are.0 in
    omega (arith, length-append (post_text the_terms target (object text)) (hec_stream texts), post_size (object text) (omega (arith, low)), low, length-hec_stream texts are.1)

-- a request of a text
abbrev pub IsOwn : HttpRequest → Type 0
IsOwn r = (text : List ℕ) × IsText text × (r ≡ request_of text)

abbrev pub AreOwn : List HttpRequest → Type 0
AreOwn [] = Unit {0}
AreOwn (r ∷ rs) = IsOwn r × AreOwn rs

all_own : (texts : List (List ℕ)) → AreTexts texts → AreOwn (all_requests texts)
all_own [] are = tt
all_own (text ∷ texts) are = ((text, are.0, refl), all_own texts are.1)

own_first : (rs ss : List HttpRequest) → AreOwn (rs ++ ss) → AreOwn rs
own_first [] ss own = tt
own_first (r ∷ rs) ss own = (own.0, own_first rs ss own.1)

-- ---- items

-- each request among them is one of a text
abbrev pub AreLow : List HttpItem → Type 0
AreLow [] = Unit {0}
AreLow (Continue ∷ items) = AreLow items
AreLow (Request r ∷ items) = IsOwn r × AreLow items

-- how many requests are among them
abbrev pub asked : List HttpItem → ℕ
asked [] = 0
asked (Continue ∷ items) = asked items
asked (Request r ∷ items) = suc (asked items)

low_then : (xs ys : List HttpItem) → AreLow xs → AreLow ys → AreLow (xs ++ ys)
low_then [] ys low more = more
low_then (Continue ∷ xs) ys low more = low_then xs ys low more
low_then (Request r ∷ xs) ys low more = (low.0, low_then xs ys low.1 more)

pub low_first : (xs ys : List HttpItem) → AreLow (xs ++ ys) → AreLow xs
low_first [] ys low = tt
low_first (Continue ∷ xs) ys low = low_first xs ys low
low_first (Request r ∷ xs) ys low = (low.0, low_first xs ys low.1)

pub low_last : (xs ys : List HttpItem) → AreLow (xs ++ ys) → AreLow ys
low_last [] ys low = low
low_last (Continue ∷ xs) ys low = low_last xs ys low
low_last (Request r ∷ xs) ys low = low_last xs ys low.1

pub asked_then : (xs ys : List HttpItem) → asked (xs ++ ys) ≡ asked xs + asked ys
asked_then [] ys = omega arith
asked_then (Continue ∷ xs) ys = asked_then xs ys
asked_then (Request r ∷ xs) ys = omega (arith, asked_then xs ys)

told_low : (b : Bool) → AreLow (items_if b)
told_low true = tt
told_low false = tt

told_none : (b : Bool) → asked (items_if b) ≡ 0
told_none true = refl
told_none false = refl

one_low : (b : Bool) (r : HttpRequest) (items : List HttpItem) → IsOwn r → AreLow items → AreLow ((items_if b ++ Request r ∷ []) ++ items)
one_low true r items own low = (own, low)
one_low false r items own low = (own, low)

one_asked : (b : Bool) (r : HttpRequest) (items : List HttpItem) → asked ((items_if b ++ Request r ∷ []) ++ items) ≡ suc (asked items)
one_asked true r items = refl
one_asked false r items = refl

items_low : (rs : List HttpRequest) → AreOwn rs → AreLow (flat_map items_of rs)
items_low [] own = tt
items_low (r ∷ rs) own = one_low (asks r.minor r.fields) r (flat_map items_of rs) own.0 (items_low rs own.1)

items_asked : (rs : List HttpRequest) → asked (flat_map items_of rs) ≡ length rs
items_asked [] = refl
items_asked (r ∷ rs) = one_asked (asks r.minor r.fields) r (flat_map items_of rs) ∙ ap suc (items_asked rs)

some_spelled : (r : HttpRequest) (x : List ℕ) → IsRequest r x → 0 < length x
some_spelled r [] i = absurd (open_no_request [] [] (inl (omega arith, open_nil, refl)) r [] [] i refl)
some_spelled r (c ∷ x) i = omega arith

-- what is told of the stream's bytes: its items are of requests of texts, and the whole stream has as many as there are texts
pub record AreToldOf (texts : List (List ℕ)) (items : List HttpItem) (at : ℕ) : Type 0 where
  pub low : AreLow items
  pub few : asked items ≤ length texts
  pub all : at ≡ length (hec_stream texts) → asked items ≡ length texts

none_more : (rs : List HttpRequest) (b : List ℕ) → AreSpelled IsRequest rs b → b ≡ [] → rs ≡ []
none_more [] b spelled none = refl
none_more (r ∷ rs) b (x, y, spells, whole, others) none = absurd (omega (arith, some_spelled r x spells, ap length none, ap length whole, length-append x y))

going_low : (t : List HttpItem) (b : Bool) → t ≡ items_if b → AreLow t × (asked t ≡ 0)
going_low t b is = (subst AreLow (sym is) (told_low b), ap asked is ∙ told_none b)

pub are_told : (texts : List (List ℕ)) (items : List HttpItem) (at : ℕ) → AreTexts texts → AreTold (hec_stream texts) items at → AreToldOf texts items at
are_told texts items at are t =
    let q = t.requests in
    let s = strip IsRequest requests_once some_spelled q.requests (all_requests texts) q.front t.rest q.spelled (subst (AreSpelled IsRequest (all_requests texts)) q.whole (all_spelled texts are)) in
    let own = own_first q.requests s.0 (subst AreOwn s.1 (all_own texts are)) in
    let told : AreLow t.told × (asked t.told ≡ 0) = elim t.going [
      | inl none ↦ going_low t.told false none
      | inr head ↦ going_low t.told (asks head.0.minor (head_fields head.0)) head.3
    ] in
    let low_before : AreLow t.before = subst AreLow (sym q.items_are) (items_low q.requests own) in
    let asked_before : asked t.before ≡ length q.requests = ap asked q.items_are ∙ items_asked q.requests in
    let many : asked items ≡ length q.requests = omega (arith, ap asked t.items_are, asked_then t.before t.told, asked_before, told.1) in
    let sum : length texts ≡ length q.requests + length s.0 = sym (length-all_requests texts) ∙ ap (λ (l : List HttpRequest). length l) s.1 ∙ length-append q.requests s.0 in
    record {
      low = subst AreLow (sym t.items_are) (low_then t.before t.told low_before told.0);
      few = omega (arith, many, sum);
      all = λ last.
          let none : s.0 ≡ [] = none_more s.0 t.rest s.2 (nil_from_length t.rest (omega (arith, last, q.at_is, ap length q.whole, length-append q.front t.rest))) in
          omega (arith, many, sum, ap (λ (l : List HttpRequest). length l) none);
    }

-- ---- none of them closes the connection

own_open : (r : HttpRequest) → IsOwn r → closes r ≡ false
own_open r (text, is, same) = ap closes same ∙ stays_open (object text)

pub low_open : (before : List HttpItem) (r : HttpRequest) → AreLow (before ++ Request r ∷ []) → closes r ≡ true → ⊥
low_open before r low closing = let none : false ≡ true = sym (own_open r (low_last before (Request r ∷ []) low).0) ∙ closing in cc

pub stream_ends : (texts : List (List ℕ)) → AreTexts texts → HecEnds (hec_stream texts) (flat_map items_of (all_requests texts))
stream_ends texts are = (
  length (hec_stream texts),
  record {
    before = flat_map items_of (all_requests texts);
    rest = [];
    told = [];
    requests = record { requests = all_requests texts; front = hec_stream texts; spelled = all_spelled texts are; whole = sym (append-nil (hec_stream texts)); at_is = refl; items_are = refl };
    items_are = sym (append-nil (flat_map items_of (all_requests texts)));
    going = inl refl;
  },
  inl refl,
)
