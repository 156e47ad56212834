-- The event object of a text: it is one event of a body, and the body has no other.
use Rattle.std.proofs.Common.{◌≡◌, inl, inr, ℕ, ◌+◌, ◌<◌, ◌≤◌, true, List, [], ◌∷◌, ◌++◌, length, get_or, refl, sym, ◌∙◌, ap, subst, arith, length-append, ◌||◌}
use Rattle.std.specs.Prelude.{codes, map, slice_range, nat_le, Ok, Err}
use Rattle.std.proofs.lemmas.Bool.{and_from, cases_lt, le-leb, or_left, or_right}
use Rattle.std.proofs.lemmas.List.{append-nil}
use Rattle.std.proofs.lemmas.List.Elements.{All-cons, All-nil}
use Rattle.json_span.specs.Json.{AreSpaces, Byte, IsEmpty, Json, JsonObject, Spaced}
use Rattle.json_span.specs.Members.{HasMembers, Separator}
use Rattle.json_span.specs.Numbers.{between}
use Rattle.json_span.specs.Spans.{Stretch}
use Rattle.json_span.specs.Strings.{CharKind, EndsString, IsString, Plain, is_plain}
use Rattle.json_span.specs.declared.object.Member.{Member}
use Rattle.json_span.proofs.MembersExist.{members_object}
use Rattle.json_span.proofs.Stretches.{range_parts, range_whole}
use Rattle.body_faults.specs.declared.fault.BodyFault.{BodyFault}
use Rattle.body_faults.specs.declared.fault.BodyFault.TheVariants.{NoMemory}
use Rattle.hec_body.specs.Events.{HasEvent, IsBlank, IsCut, IsNamedEvent, whole_of}
use Rattle.hec_body.specs.Limits.{IsShort}
use Rattle.hec_body.proofs.Cuts.{one_cut}
use Rattle.hec_session.specs.declared.act.HecAct.{HecAct}
use Rattle.hec_session.specs.declared.act.HecAct.TheVariants.{StoreThenSay, SayThenStore, Ask, Say}
use Rattle.hec_session.specs.declared.endpoint.Form.TheVariants.{Objects}
use Rattle.hec_session.specs.declared.say.HecSay.{HecSay}
use Rattle.hec_session.specs.Acts.{Stores, Tells, event_of}
use Rattle.load_laws.proofs.HecText.{AreClear, IsClear, letter_clear}

-- ---- strings

clear_plain : (c : ℕ) → IsClear c → is_plain c ≡ true
clear_plain c clear = elim (cases_lt c 34) [
  | inl below ↦ or_left (between 32 33 c) (between 35 91 c || between 93 127 c) (and_from (nat_le 32 c) (nat_le c 33) (le-leb 32 c clear.low) (le-leb c 33 (omega (arith, below))))
  | inr above ↦ or_right (between 32 33 c) (between 35 91 c || between 93 127 c) (elim (cases_lt c 92) [
    | inl low ↦ or_left (between 35 91 c) (between 93 127 c) (and_from (nat_le 35 c) (nat_le c 91) (le-leb 35 c (omega (arith, above, clear.mark))) (le-leb c 91 (omega (arith, low))))
    | inr high ↦ or_right (between 35 91 c) (between 93 127 c) (and_from (nat_le 93 c) (nat_le c 127) (le-leb 93 c (omega (arith, high, clear.slash))) (le-leb c 127 (omega (arith, clear.high))))
  ])
]

abbrev plains : List ℕ → List CharKind
plains [] = []
plains (c ∷ cs) = Plain ∷ plains cs

ends_clear : (cs : List ℕ) → AreClear cs → EndsString (plains cs) (cs ++ 34 ∷ [])
ends_clear [] clear = refl
ends_clear (c ∷ cs) clear = (c ∷ [], cs ++ 34 ∷ [], (c, refl, clear_plain c clear.0), refl, ends_clear cs clear.1)

string_is : (cs : List ℕ) → AreClear cs → IsString (34 ∷ (cs ++ 34 ∷ []))
string_is cs clear = (cs ++ 34 ∷ [], plains cs, refl, ends_clear cs clear)

name_clear : AreClear (codes "event")
name_clear =
    let e = letter_clear 101 (omega arith) (omega arith) in
    (e, (letter_clear 118 (omega arith) (omega arith), (e, (letter_clear 110 (omega arith) (omega arith), (letter_clear 116 (omega arith) (omega arith), tt)))))

-- ---- the object of a value that is a string

abbrev pub object_text : List ℕ → List ℕ
object_text cs = codes "{\"event\":" ++ ((34 ∷ (cs ++ 34 ∷ [])) ++ codes "}")

module _ (cs : List ℕ) (clear : AreClear cs) where
  value : List ℕ
  value = 34 ∷ (cs ++ 34 ∷ [])

  text : List ℕ
  unfolding value
  text = codes "{\"event\":" ++ (value ++ codes "}")

  size : length text ≡ length value + 10
  unfolding text
  size = omega (arith, length-append value (codes "}"))

  member : Member
  unfolding value
  member = record { name = record { start = 1; end = 8 }; value = record { start = 9; end = 9 + length value } }

  -- the value stands in its place, and after it the closing bracket
  parts : (9 + length value ≤ length text) × (slice_range text 9 (9 + length value) ≡ value) × (slice_range text (9 + length value) (length text) ≡ codes "}")
  unfolding text
  parts = range_parts text value (codes "}") 9 (length text) (omega (arith, size)) (omega arith) (sym (range_whole text 9 (omega (arith, size))))

  name_at : Stretch IsString text 1 8
  unfolding text
  name_at = record { order = omega arith; bound = omega (arith, size); text = string_is (codes "event") name_clear }

  colon_at : Stretch (Separator 58) text 8 9
  unfolding text
  colon_at = record { order = omega arith; bound = omega (arith, size); text = ([], 58 ∷ [], tt, refl, ([], refl, tt)) }

  value_at : Stretch (Json 126) text 9 (9 + length value)
  unfolding text value
  value_at = record { order = omega arith; bound = parts.0; text = subst (Json 126) (sym parts.1) (inl (inl (string_is cs clear))) }

  opening_at : Stretch (Byte 123 AreSpaces) text 0 1
  unfolding text
  opening_at = record { order = omega arith; bound = omega (arith, size); text = ([], refl, tt) }

  closing_at : Stretch (Spaced (Byte 125 IsEmpty)) text (9 + length value) (length text)
  closing_at = record { order = parts.0; bound = omega arith; text = subst (Spaced (Byte 125 IsEmpty)) (sym parts.2) ([], 125 ∷ [], tt, refl, ([], refl, refl)) }

  members : HasMembers text (whole_of text) (member ∷ [])
  unfolding member
  members = (opening_at, record { name = name_at; colon = colon_at; value = value_at }, closing_at)

  named : IsNamedEvent text member
  unfolding text member
  named = refl

  event : HasEvent text value
  unfolding member
  event = (
    member ∷ [],
    members,
    record {
      before = [];
      event = member;
      after = [];
      whole = refl;
      first = All-nil (λ (m : Member). ¬ IsNamedEvent text m);
      named = named;
      is = sym parts.1;
    },
  )

  not_blank : 0 < length cs → IsBlank value → ⊥
  unfolding value
  not_blank some (inl is) = omega (arith, some, ap length is, length-append cs (34 ∷ []))
  not_blank some (inr is) = omega (arith, ap (λ (l : List ℕ). get_or l 0 0) is)

  object : JsonObject 127 text
  object =
      let o = members_object text (whole_of text) (member ∷ []) members in
      subst (JsonObject 127) (sym (range_whole text 0 (omega arith))) o.text

  pub body_size : length (object_text cs) ≡ length cs + 12
  unfolding text value
  body_size = omega (arith, size, length-append cs (34 ∷ []))

  pub one_event : 0 < length cs → length cs ≤ 1000 → IsCut (object_text cs) (Ok (object_text cs ∷ []))
  unfolding text value
  one_event some short =
      let low : length text ≤ 131072 = omega (arith, short, size, length-append cs (34 ∷ [])) in (
        ([], ([], record { space = []; spaces = tt; whole = sym (append-nil text); object = object }, (low, (value, event, not_blank some)), refl), tt),
        record { some = omega arith; few = omega arith; short = All-cons IsShort text [] low (All-nil IsShort) },
      )

-- ---- the act of a body that is one event

-- the act stores the event of this text alone
abbrev pub StoresOne : List ℕ → HecAct → Type 0
StoresOne body (StoreThenSay events) = events.items ≡ event_of Objects body ∷ []
StoresOne body (SayThenStore channel events) = ⊥
StoresOne body (Ask channel ids) = ⊥
StoresOne body (Say say) = ⊥

no_cut : (body : List ℕ) (texts : List (List ℕ)) (fault : BodyFault) (say : HecSay) → IsCut body (Ok texts) → IsCut body (Err fault) → Tells fault say → ⊥
no_cut body texts fault say cut other tells = elim (one_cut body (Ok texts) (Err fault) cut other) [
  | inl never ↦ absurd (cc)
  | inr (inl none) ↦ (let is : fault ≡ NoMemory = cc in subst (λ (f : BodyFault). Tells f say) is tells)
  | inr (inr never) ↦ absurd (cc)
]

same_cut : (body : List ℕ) (texts others : List (List ℕ)) → IsCut body (Ok texts) → IsCut body (Ok others) → texts ≡ others
same_cut body texts others cut other = elim (one_cut body (Ok texts) (Ok others) cut other) [
  | inl never ↦ absurd (cc)
  | inr (inl never) ↦ absurd (cc)
  | inr (inr is) ↦ cc
]

pub stores_one : (body : List ℕ) (act : HecAct) → IsCut body (Ok (body ∷ [])) → Stores Objects body act → StoresOne body act
stores_one body (StoreThenSay events) cut (texts, other, are) = are ∙ ap (map (event_of Objects)) (same_cut body texts (body ∷ []) other cut)
stores_one body (SayThenStore channel events) cut never = never
stores_one body (Ask channel ids) cut never = never
stores_one body (Say say) cut (fault, other, tells) = no_cut body (body ∷ []) fault say cut other tells
