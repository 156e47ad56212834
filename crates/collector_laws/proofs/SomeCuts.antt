-- Each event body is events, or has a first fault.
use Rattle.std.proofs.Common.{◌≡◌, ◌⊎◌, inl, inr, ℕ, zero, suc, ◌<◌, ◌≤◌, Bool, true, false, List, [], ◌∷◌, ◌++◌, length, take, drop, refl, sym, ◌∙◌, ap, subst, arith, append_assoc, append-nil, length-append, take-append-drop}
use Rattle.std.specs.Prelude.{codes, slice_range, Ok, Err}
use Rattle.std.specs.List.{All, list_all}
use Rattle.std.proofs.lemmas.Bool.{cases_lt}
use Rattle.std.proofs.lemmas.List.{take_at}
use Rattle.std.proofs.lemmas.List.Elements.{All-append, All-cons, All-nil}
use Rattle.json_span.specs.Json.{is_space, AreSpaces, JsonObject}
use Rattle.json_span.specs.Members.{IsObjectText}
use Rattle.json_span.specs.declared.object.Member.{Member}
use Rattle.json_span.proofs.MembersExist.{members_exist}
use Rattle.json_span.proofs.Stretches.{range_whole}
use Rattle.event_map.proofs.Deciding.{Decided, same_list, some_up_to}
use Rattle.event_map.proofs.ObjectOrNot.{object_or_not}
use Rattle.body_faults.specs.declared.fault.BodyFault.{BodyFault}
use Rattle.body_faults.specs.declared.fault.BodyFault.TheVariants.{NoData, Format, NoEvent, Blank, TooMany, NoMemory}
use Rattle.hec_body.specs.Events.{BeginsEvents, BeginsNoObject, BeginsObject, FirstEventIs, HasEvent, HasNoEvent, IsBlank, IsCut, IsEventObject, IsFaultBehind, IsNamedEvent, whole_of}
use Rattle.hec_body.specs.Limits.{IsShort}
use Rattle.hec_body.proofs.EventLaws.{begins_more, behind_shorter, white, white_passes}
use Rattle.collector_laws.specs.Outcomes.{HasCut, SomeCut}

-- ---- what some bytes begin with

abbrev SomeObject : List ℕ → Type 0
SomeObject bytes = (text : List ℕ) × (rest : List ℕ) × BeginsObject bytes text rest

abbrev Next : List ℕ → Type 0
Next bytes = AreSpaces bytes ⊎ (SomeObject bytes ⊎ BeginsNoObject bytes)

-- an object and white space round it, up to a place
object_there : (bytes : List ℕ) (k : ℕ) → IsObjectText (take k bytes) → SomeObject bytes
object_there bytes k (w, r, ws, e, (x, v, object, f, vs)) =
    let front : take k bytes ≡ w ++ (x ++ v) = e ∙ ap (λ (l : List ℕ). w ++ l) f in
    let whole : bytes ≡ w ++ (x ++ (v ++ drop k bytes)) =
    sym (take-append-drop k bytes) ∙ ap (λ (l : List ℕ). l ++ drop k bytes) front ∙ append_assoc w (x ++ v) (drop k bytes) ∙ ap (λ (l : List ℕ). w ++ l) (append_assoc x v (drop k bytes)) in
    (x, v ++ drop k bytes, record { space = w; spaces = ws; whole = whole; object = object })

object_up_to : (bytes text rest : List ℕ) → BeginsObject bytes text rest → (k : ℕ) × (k ≤ length bytes) × IsObjectText (take k bytes)
object_up_to bytes text rest b =
    let k = length (b.space ++ text) in
    let whole : bytes ≡ (b.space ++ text) ++ rest = b.whole ∙ sym (append_assoc b.space text rest) in
    let front : take k bytes ≡ b.space ++ text = ap (take k) whole ∙ take_at (b.space ++ text) rest k refl in
    (k, omega (arith, ap length whole, length-append (b.space ++ text) rest), subst IsObjectText (sym front) (b.space, text, b.spaces, refl, (text, [], b.object, sym (append-nil text), tt)))

next : (bytes : List ℕ) → Next bytes
next bytes = by (list_all is_space bytes) refl (some_up_to (λ k. IsObjectText (take k bytes)) (λ k. object_or_not (take k bytes)) (length bytes))
  where
    by : (b : Bool) → list_all is_space bytes ≡ b → Decided ((k : ℕ) × (k ≤ length bytes) × IsObjectText (take k bytes)) → Next bytes
    by true all d = inl (white bytes all)
    by false all (inl here) = inr (inl (object_there bytes here.0 here.2))
    by false all (inr never) = inr (inr (λ spaces. let is = white_passes bytes spaces in cc, λ text rest b. never (object_up_to bytes text rest b)))

-- ---- what an object is

-- the members of which none is named so, or the first that is
find : (text : List ℕ) (ms : List Member) → ((value : List ℕ) × FirstEventIs text ms value) ⊎ All (λ (m : Member). ¬ IsNamedEvent text m) ms
find text [] = inr (All-nil (λ (m : Member). ¬ IsNamedEvent text m))
find text (m ∷ ms) = by (same_list (slice_range text m.name.start m.name.end) (codes "\"event\"")) (find text ms)
  where
    by : Decided (IsNamedEvent text m) → ((value : List ℕ) × FirstEventIs text ms value) ⊎ All (λ (n : Member). ¬ IsNamedEvent text n) ms → ((value : List ℕ) × FirstEventIs text (m ∷ ms) value) ⊎ All (λ (n : Member). ¬ IsNamedEvent text n) (m ∷ ms)
    by (inl named) others = inl (slice_range text m.value.start m.value.end, record { before = []; event = m; after = ms; whole = refl; first = All-nil (λ (n : Member). ¬ IsNamedEvent text n); named = named; is = refl })
    by (inr isnt) (inl (value, f)) = inl (value, record { before = m ∷ f.before; event = f.event; after = f.after; whole = ap (λ (l : List Member). m ∷ l) f.whole; first = All-cons (λ (n : Member). ¬ IsNamedEvent text n) m f.before isnt f.first; named = f.named; is = f.is })
    by (inr isnt) (inr none) = inr (All-cons (λ (n : Member). ¬ IsNamedEvent text n) m ms isnt none)

event_or_none : (text : List ℕ) → JsonObject 127 text → ((value : List ℕ) × HasEvent text value) ⊎ HasNoEvent text
event_or_none text is =
    let there = members_exist text (whole_of text) (record { order = omega arith; bound = omega arith; text = subst (JsonObject 127) (range_whole text 0 (omega arith)) is }) in
    elim (find text there.0) [ inl found ↦ inl (found.0, (there.0, there.1, found.1)) | inr none ↦ inr (there.0, there.1, none) ]

blank_or_not : (value : List ℕ) → Decided (IsBlank value)
blank_or_not value = by (same_list value (codes "\"\"")) (same_list value (codes "null"))
  where
    by : Decided (value ≡ codes "\"\"") → Decided (value ≡ codes "null") → Decided (IsBlank value)
    by (inl is) d = inl (inl is)
    by (inr isnt) (inl is) = inl (inr is)
    by (inr isnt) (inr never) = inr (λ b. elim b [ inl is ↦ isnt is | inr is ↦ never is ])

-- a fault, where an object with this text stands as the event of this number
abbrev Refused : ℕ → List ℕ → Type 0
Refused number text = (f : BodyFault) × (f ≡ NoMemory → ⊥) × ((rest more : List ℕ) → number < 10000 → BeginsObject rest text more → IsFaultBehind number rest f)

judged : (number : ℕ) (text : List ℕ) → JsonObject 127 text → IsEventObject text ⊎ Refused number text
judged number text is = by_length (cases_lt 131072 (length text))
  where
    by_value : IsShort text → (value : List ℕ) → HasEvent text value → Decided (IsBlank value) → IsEventObject text ⊎ Refused number text
    by_value short value has (inl blank) = inr (Blank number, λ e. cc, λ rest more room b. (room, (text, more, b, (refl, (short, (value, has, blank))))))
    by_value short value has (inr isnt) = inl (short, (value, has, isnt))

    by_event : IsShort text → ((value : List ℕ) × HasEvent text value) ⊎ HasNoEvent text → IsEventObject text ⊎ Refused number text
    by_event short (inl (value, has)) = by_value short value has (blank_or_not value)
    by_event short (inr none) = inr (NoEvent number, λ e. cc, λ rest more room b. (room, (text, more, b, (refl, (short, none)))))

    by_length : (131072 < length text) ⊎ (length text ≤ 131072) → IsEventObject text ⊎ Refused number text
    by_length (inl long) = inr (Format number, λ e. cc, λ rest more room b. inr (room, (text, more, b, (refl, long))))
    by_length (inr short) = by_event short (event_or_none text is)

-- ---- a body

fault_cut : (body : List ℕ) (texts : List (List ℕ)) (rest : List ℕ) (f : BodyFault) → BeginsEvents body texts rest → length texts ≤ 10000 → (f ≡ NoMemory → ⊥) → IsFaultBehind (length texts) rest f → HasCut IsCut body
fault_cut body texts rest f begins few not is = (Err f, record { texts = texts; rest = rest; begins = begins; few = few; fault_is = is }, λ e. not (let q : f ≡ NoMemory = cc in q))

spaces_cut : (body : List ℕ) (texts : List (List ℕ)) (rest : List ℕ) → BeginsEvents body texts rest → length texts ≤ 10000 → All IsShort texts → AreSpaces rest → HasCut IsCut body
spaces_cut body [] rest begins few short spaces = fault_cut body [] rest NoData begins few (λ e. cc) (refl, spaces)
spaces_cut body (x ∷ texts) rest begins few short spaces = (Ok (x ∷ texts), ((rest, begins, spaces), record { some = omega arith; few = few; short = short }), λ e. cc)

-- after some events, with fewer than n bytes left
on : (n : ℕ) (body : List ℕ) (texts : List (List ℕ)) (rest : List ℕ) → length rest < n → BeginsEvents body texts rest → length texts ≤ 10000 → All IsShort texts → HasCut IsCut body
on zero body texts rest left begins few short = absurd (omega (arith, left))
on (suc n) body texts rest left begins few short = by (λ more less started room each. on n body more.0 more.1 less started room each) (next rest)
  where
    further : ((more : List (List ℕ) × List ℕ) → length more.1 < n → BeginsEvents body more.0 more.1 → length more.0 ≤ 10000 → All IsShort more.0 → HasCut IsCut body)
        → (text more : List ℕ) → BeginsObject rest text more → length texts < 10000 → IsEventObject text ⊎ Refused (length texts) text → HasCut IsCut body
    further ih text more b room (inl event) =
        ih (texts ++ text ∷ [], more) (omega (arith, left, behind_shorter rest text more b)) (begins_more body texts rest text more begins b event)
        (omega (arith, room, length-append texts (text ∷ []))) (All-append IsShort texts (text ∷ []) short (All-cons IsShort text [] event.0 (All-nil IsShort)))
    further ih text more b room (inr (f, not, there)) = fault_cut body texts rest f begins few not (there rest more room b)

    by : ((more : List (List ℕ) × List ℕ) → length more.1 < n → BeginsEvents body more.0 more.1 → length more.0 ≤ 10000 → All IsShort more.0 → HasCut IsCut body) → Next rest → HasCut IsCut body
    by ih (inl spaces) = spaces_cut body texts rest begins few short spaces
    by ih (inr (inr none)) = fault_cut body texts rest (Format (length texts)) begins few (λ e. cc) (inl (refl, none))
    by ih (inr (inl (text, more, b))) = elim (cases_lt (length texts) 10000) [
      | inl room ↦ further ih text more b room (judged (length texts) text b.object)
      | inr full ↦ fault_cut body texts rest TooMany begins few (λ e. cc) (omega (arith, few, full), (text, more, b))
    ]

pub some_cut : SomeCut
some_cut body = on (suc (length body)) body [] body (omega arith) refl (omega arith) (All-nil IsShort)
