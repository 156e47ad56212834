-- The bodies of requests of several entries.
use Rattle.std.proofs.Common.{inl, inr, ◌≡◌, ℕ, List, [], ◌∷◌, ◌++◌, length, refl, sym, ◌∙◌, ap, subst, arith, append_assoc}
use Rattle.std.specs.Prelude.{map}
use Rattle.std.specs.List.{All}
use Rattle.std.proofs.lemmas.List.{append-nil, length-map}
use Rattle.std.proofs.lemmas.List.Elements.{All-cons, All-head, All-nil, All-tail}
use Rattle.event_form.specs.declared.event.Entry.{Entry}
use Rattle.event_form.specs.declared.event.Origin.{Origin}
use Rattle.event_form.specs.declared.event.Origin.TheVariants.{HecEvent}
use Rattle.event_map.proofs.Exact.{hec_object_of-is}
use Rattle.event_map.proofs.Functions.{hec_object_by, hec_object_of}
use Rattle.body_faults.specs.declared.fault.BodyFault.TheVariants.{Format}
use Rattle.hec_body.specs.Events.{BeginsEvents, BeginsObject, IsEventObject, IsFaultBehind}
use Rattle.hec_body.specs.Limits.{IsShort}
use Rattle.hec_sender.specs.Texts.{objects_text}
use Rattle.collector_laws.specs.Taken.{EntryIsOne, FittingIsOne, IsOne, KeptIsTaken, RequestIsRefused, RequestIsTaken}
use Rattle.collector_laws.proofs.Made.{mapped_taken, one_of, refused_there}

abbrev object : Entry → List ℕ
object e = hec_object_of e.event

-- an object begins whatever follows it
begins_more : (bytes text rest more : List ℕ) → BeginsObject bytes text rest → BeginsObject (text ++ more) text more
begins_more bytes text rest more b = record { space = []; spaces = tt; whole = refl; object = b.object }

one_begins : (x more : List ℕ) → IsOne x → BeginsObject (x ++ more) x more
one_begins x more one = begins_more x x one.0.1.0 more one.0.1.1

one_event : (x : List ℕ) → IsOne x → IsEventObject x
one_event x one = one.0.1.2

-- entries whose objects are taken, and any bytes after them
pub begin : (es : List Entry) (rest : List ℕ) → All EntryIsOne es → BeginsEvents (objects_text es ++ rest) (map object es) rest
begin [] rest all = refl
begin (e ∷ es) rest all =
    let one : IsOne (object e) = All-head EntryIsOne e es all in
    let more = objects_text es ++ rest in
    (more, subst (λ (l : List ℕ). BeginsObject l (object e) more) (sym (append_assoc (object e) (objects_text es) rest)) (one_begins (object e) more one), one_event (object e) one, begin es rest (All-tail EntryIsOne e es all))

short : (es : List Entry) → All EntryIsOne es → All IsShort (map object es)
short [] all = All-nil IsShort
short (e ∷ es) all = All-cons IsShort (object e) (map object es) (one_event (object e) (All-head EntryIsOne e es all)).0 (short es (All-tail EntryIsOne e es all))

pub request_taken : RequestIsTaken
request_taken es some few all = (
  ([], subst (λ (l : List ℕ). BeginsEvents l (map object es) []) (append-nil (objects_text es)) (begin es [] all), tt),
  record { some = omega (arith, some, length-map es object); few = omega (arith, few, length-map es object); short = short es all },
)

joined : (before : List Entry) (e : Entry) (after : List Entry) → objects_text (before ++ e ∷ after) ≡ objects_text before ++ (object e ++ objects_text after)
joined [] e after = refl
joined (b ∷ before) e after = ap (λ (l : List ℕ). object b ++ l) (joined before e after) ∙ sym (append_assoc (object b) (objects_text before) (object e ++ objects_text after))

pub request_refused : RequestIsRefused
request_refused before after e few all limits not why =
    let rest = object e ++ objects_text after in
    let number : length (map object before) ≡ length before = length-map before object in
    record {
      texts = map object before;
      rest = rest;
      begins = subst (λ (l : List ℕ). BeginsEvents l (map object before) rest) (sym (joined before e after)) (begin before rest all);
      few = omega (arith, few, number);
      fault_is = subst (λ (n : ℕ). IsFaultBehind n rest (Format (length before))) (sym number) (refused_there e.event (object e) (objects_text after) (length before) (hec_object_of-is e.event limits) not why few);
    }

-- ---- one entry

same_text : (o : Origin) (text : List ℕ) → o ≡ HecEvent → hec_object_by o text ≡ text
same_text o text is = ap (λ (p : Origin). hec_object_by p text) is

pub fitting_one : FittingIsOne
fitting_one e limits (inl (is, one)) = subst IsOne (sym (same_text e.event.origin e.event.text is)) one
fitting_one e limits (inr (is, short, room)) = (mapped_taken e.event (object e) limits (hec_object_of-is e.event limits) is short room).one

-- ---- what was taken is taken again

texts_taken : (body : List ℕ) (texts : List (List ℕ)) (rest : List ℕ) → BeginsEvents body texts rest → All IsOne texts
texts_taken body [] rest begins = All-nil IsOne
texts_taken body (x ∷ texts) rest begins = All-cons IsOne x texts (one_of x (begins_more body x begins.0 [] begins.1) begins.2) (texts_taken begins.0 texts rest begins.3)

pub kept_taken : KeptIsTaken
kept_taken body texts cut = texts_taken body texts cut.0.0 cut.0.1
