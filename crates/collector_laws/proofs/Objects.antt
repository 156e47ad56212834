-- The object that puts a value under `event`.
use Rattle.std.proofs.Common.{◌≡◌, ◌⊎◌, inl, inr, ℕ, suc, ◌+◌, ◌≤◌, false, true, List, [], ◌∷◌, ◌++◌, length, refl, sym, ◌∙◌, ap, subst, arith, append_assoc, length-append}
use Rattle.std.specs.Prelude.{codes, slice_range}
use Rattle.std.proofs.lemmas.List.Elements.{All-nil}
use Rattle.json_span.specs.Json.{is_space, AreSpaces, Byte, IsEmpty, IsMember, Items, Json, JsonObject, Spaced, Then}
use Rattle.json_span.specs.Members.{HasMembers, Separator}
use Rattle.json_span.specs.Numbers.{IsNumber}
use Rattle.json_span.specs.Spans.{Stretch}
use Rattle.json_span.specs.Strings.{EndsString, IsString, Plain}
use Rattle.json_span.specs.declared.object.Member.{Member}
use Rattle.json_span.proofs.Fronts.{value_first}
use Rattle.json_span.proofs.NumberLaws.{no_quote, values_here}
use Rattle.json_span.proofs.ObjectLaws.{json_object, object_json}
use Rattle.json_span.proofs.StepForth.{json_some}
use Rattle.json_span.proofs.Stretches.{range_parts, range_whole}
use Rattle.hec_body.specs.Events.{BeginsNoObject, HasEvent, IsNamedEvent, whole_of}
use Rattle.hec_body.proofs.Front.{object_brace}

-- ---- its name

abbrev name : List ℕ
name = codes "\"event\""

name_ends : EndsString (Plain ∷ Plain ∷ Plain ∷ Plain ∷ Plain ∷ []) (codes "event\"")
name_ends = (
  101 ∷ [],
  codes "vent\"",
  (101, refl, refl),
  refl,
  (
    118 ∷ [],
    codes "ent\"",
    (118, refl, refl),
    refl,
    (
      101 ∷ [],
      codes "nt\"",
      (101, refl, refl),
      refl,
      (
        110 ∷ [],
        codes "t\"",
        (110, refl, refl),
        refl,
        (116 ∷ [], codes "\"", (116, refl, refl), refl, refl),
      ),
    ),
  ),
)

name_is : IsString name
name_is = (codes "event\"", Plain ∷ Plain ∷ Plain ∷ Plain ∷ Plain ∷ [], refl, name_ends)

-- ---- its text

-- the object of a value, with white space before it and after it
abbrev pub object_of : List ℕ → List ℕ → List ℕ → List ℕ
object_of w value v = codes "{\"event\":" ++ (w ++ (value ++ (v ++ codes "}")))

pub object_size : (w value v : List ℕ) → length (object_of w value v) ≡ length w + length value + length v + 10
object_size w value v = omega (arith, length-append w (value ++ (v ++ codes "}")), length-append value (v ++ codes "}"), length-append v (codes "}"))

-- it is an object, one level deeper than its value
pub object_is : (d : ℕ) (w value v : List ℕ) → AreSpaces w → Json d value → AreSpaces v → JsonObject (suc d) (object_of w value v)
object_is d w value v ws is vs =
    let member : List ℕ = name ++ (58 ∷ (w ++ value)) in
    let closing : List ℕ = v ++ 125 ∷ [] in
    let rest : List ℕ = codes "\"event\":" ++ (w ++ (value ++ closing)) in
    let joined : rest ≡ member ++ closing = ap (λ (l : List ℕ). codes "\"event\":" ++ l) (sym (append_assoc w value closing)) in
    (rest, refl, ([], rest, tt, refl, inr (member, closing, (name, 58 ∷ (w ++ value), name_is, refl, ([], 58 ∷ (w ++ value), tt, refl, (w ++ value, refl, (w, value, ws, refl, is)))), joined, (0, (v, 125 ∷ [], vs, refl, ([], refl, refl))))))

-- ---- its member

module _ (w value v : List ℕ) (ws : AreSpaces w) (is : Json 126 value) (vs : AreSpaces v) where
  text : List ℕ
  text = object_of w value v

  size : length text ≡ length w + length value + length v + 10
  unfolding text
  size = object_size w value v

  start : ℕ
  start = 9 + length w

  end : ℕ
  end = 9 + length w + length value

  member : Member
  unfolding start end
  member = record { name = record { start = 1; end = 8 }; value = record { start = start; end = end } }

  before : (9 + length w ≤ length text) × (slice_range text 9 (9 + length w) ≡ w) × (slice_range text (9 + length w) (length text) ≡ value ++ (v ++ codes "}"))
  unfolding text
  before = range_parts text w (value ++ (v ++ codes "}")) 9 (length text) (omega (arith, size)) (omega arith) (sym (range_whole text 9 (omega (arith, size))))

  here : (end ≤ length text) × (slice_range text start end ≡ value) × (slice_range text end (length text) ≡ v ++ codes "}")
  unfolding start end
  here = range_parts text value (v ++ codes "}") (9 + length w) (length text) before.0 (omega arith) before.2

  colon : slice_range text 8 start ≡ 58 ∷ w
  unfolding text start
  colon =
      let p = range_parts text (58 ∷ w) (value ++ (v ++ codes "}")) 8 (length text) (omega (arith, size)) (omega arith) (sym (range_whole text 8 (omega (arith, size)))) in
      let same : 8 + length (58 ∷ w) ≡ 9 + length w = omega arith in
      subst (λ (n : ℕ). slice_range text 8 n ≡ 58 ∷ w) same p.1

  name_at : Stretch IsString text 1 8
  unfolding text
  name_at = record { order = omega arith; bound = omega (arith, size); text = name_is }

  colon_at : Stretch (Separator 58) text 8 start
  unfolding start
  colon_at = record { order = omega arith; bound = omega (arith, size); text = subst (Separator 58) (sym colon) ([], 58 ∷ w, tt, refl, (w, refl, ws)) }

  value_at : Stretch (Json 126) text start end
  unfolding start end
  value_at = record { order = omega arith; bound = here.0; text = subst (Json 126) (sym here.1) is }

  opening_at : Stretch (Byte 123 AreSpaces) text 0 1
  unfolding text
  opening_at = record { order = omega arith; bound = omega (arith, size); text = ([], refl, tt) }

  closing_at : Stretch (Spaced (Byte 125 IsEmpty)) text end (length text)
  closing_at = record { order = here.0; bound = omega arith; text = subst (Spaced (Byte 125 IsEmpty)) (sym here.2) (v, 125 ∷ [], vs, refl, ([], refl, refl)) }

  members : HasMembers text (whole_of text) (member ∷ [])
  unfolding member
  members = (opening_at, record { name = name_at; colon = colon_at; value = value_at }, closing_at)

  named : IsNamedEvent text member
  unfolding text member
  named = refl

  pub has_event : HasEvent (object_of w value v) value
  unfolding text member
  has_event = (
    member ∷ [],
    members,
    record {
      before = [];
      event = member;
      after = [];
      whole = refl;
      first = All-nil (λ (m : Member). ¬ IsNamedEvent text m);
      named = named;
      is = sym here.1;
    },
  )

-- ---- where its value is too deep

no_brace_number : (x : List ℕ) → IsNumber (123 ∷ x) → ⊥
no_brace_number x n = json_object 0 x (inr (inl n))

-- white space before bytes that are none
spaces_same : (w u x y : List ℕ) (c e : ℕ) → AreSpaces w → AreSpaces u → is_space c ≡ false → is_space e ≡ false → w ++ (c ∷ x) ≡ u ++ (e ∷ y) → c ∷ x ≡ e ∷ y
spaces_same [] [] x y c e ws us cs es same = same
spaces_same [] (s ∷ u) x y c e ws us cs es same = absurd (let q : c ≡ s = cc in let t : is_space s ≡ true = us.0 in let f : is_space s ≡ false = subst (λ (n : ℕ). is_space n ≡ false) q cs in cc)
spaces_same (s ∷ w) [] x y c e ws us cs es same = absurd (let q : s ≡ e = cc in let t : is_space s ≡ true = ws.0 in let f : is_space s ≡ false = subst (λ (n : ℕ). is_space n ≡ false) (sym q) es in cc)
spaces_same (s ∷ w) (t ∷ u) x y c e ws us cs es same = spaces_same w u x y c e ws.1 us.1 cs es (let q : w ++ (c ∷ x) ≡ u ++ (e ∷ y) = cc in q)

-- what stands before bytes that begin with no white space is none
no_space : (w x y : List ℕ) (c : ℕ) → AreSpaces w → is_space c ≡ false → c ∷ x ≡ w ++ y → (w ≡ []) × (c ∷ x ≡ y)
no_space [] x y c ws isnt e = (refl, e)
no_space (s ∷ w) x y c ws isnt e = absurd (let q : c ≡ s = cc in let t : is_space c ≡ true = subst (λ (n : ℕ). is_space n ≡ true) (sym q) ws.0 in cc)

-- of values of which the second begins with a brace, both are one
same_value : (d n : ℕ) (x y a b : List ℕ) → Json d x → Json n (123 ∷ y) → x ++ a ≡ (123 ∷ y) ++ b → x ≡ 123 ∷ y
same_value d n x y a b i j e = elim (values_here d n x (123 ∷ y) a b i j e) [ inl same ↦ same | inr numbers ↦ absurd (no_brace_number y numbers.1) ]

value_some : (d : ℕ) (x : List ℕ) → Json d x → (c : ℕ) × (y : List ℕ) × (x ≡ c ∷ y)
value_some d [] is = absurd (json_some d is)
value_some d (c ∷ x) is = (c, x, refl)

same_end : (x a b : List ℕ) → x ++ a ≡ x ++ b → a ≡ b
same_end [] a b e = e
same_end (c ∷ x) a b e = same_end x a b (let q : x ++ a ≡ x ++ b = cc in q)

-- what stands under `event` in an object of 127 levels, where it begins with a brace: it has 126 levels
module _ (w y v : List ℕ) (n : ℕ) (ws : AreSpaces w) (deep : Json n (123 ∷ y)) where
  abbrev behind_colon : List ℕ
  behind_colon = w ++ ((123 ∷ y) ++ v)

  value_there : (r more : List ℕ) → Spaced (Json 126) r → r ++ more ≡ behind_colon → Json 126 (123 ∷ y)
  value_there r more (u, x, us, e, is) same =
      let some = value_some 126 x is in
      let first : is_space some.0 ≡ false = value_first 126 some.0 some.1 (subst (Json 126) some.2 is) in
      let left : r ++ more ≡ u ++ (some.0 ∷ (some.1 ++ more)) = ap (λ (l : List ℕ). l ++ more) e ∙ append_assoc u x more ∙ ap (λ (l : List ℕ). u ++ (l ++ more)) some.2 in
      let here : some.0 ∷ (some.1 ++ more) ≡ 123 ∷ (y ++ v) = spaces_same u w (some.1 ++ more) (y ++ v) some.0 123 us ws first refl (sym left ∙ same) in
      let joined : x ++ more ≡ (123 ∷ y) ++ v = ap (λ (l : List ℕ). l ++ more) some.2 ∙ here in
      subst (Json 126) (same_value 126 n x y more v is deep joined) is

  colon_there : (r more : List ℕ) → Spaced (Byte 58 (Spaced (Json 126))) r → r ++ more ≡ 58 ∷ behind_colon → Json 126 (123 ∷ y)
  colon_there r more (u, z, us, e, (x, is, value)) same =
      let left : r ++ more ≡ u ++ (58 ∷ (x ++ more)) = ap (λ (l : List ℕ). l ++ more) e ∙ append_assoc u z more ∙ ap (λ (l : List ℕ). u ++ (l ++ more)) is in
      let here = no_space u behind_colon (58 ∷ (x ++ more)) 58 us refl (sym same ∙ left) in
      value_there x more value (let q : x ++ more ≡ behind_colon = let h = here.1 in cc in q)

  member_there : (m more : List ℕ) → IsMember (Json 126) m → m ++ more ≡ name ++ (58 ∷ behind_colon) → Json 126 (123 ∷ y)
  member_there m more (nm, r, is, e, value) same =
      let left : nm ++ (r ++ more) ≡ name ++ (58 ∷ behind_colon) = sym (ap (λ (l : List ℕ). l ++ more) e ∙ append_assoc nm r more) ∙ same in
      let named : nm ≡ name = elim (values_here 0 0 nm name (r ++ more) (58 ∷ behind_colon) (inl is) (inl name_is) left) [ inl it ↦ it | inr numbers ↦ absurd (no_quote (codes "event\"") numbers.1) ] in
      colon_there r more value (same_end name (r ++ more) (58 ∷ behind_colon) (ap (λ (l : List ℕ). l ++ (r ++ more)) (sym named) ∙ left))

  object_there : JsonObject 127 (123 ∷ (name ++ (58 ∷ behind_colon))) → Json 126 (123 ∷ y)
  object_there (rest, e, (u, z, us, is, choice)) =
      let inner : 34 ∷ (codes "event\"" ++ (58 ∷ behind_colon)) ≡ u ++ z = (let q : name ++ (58 ∷ behind_colon) ≡ rest = cc in q) ∙ is in
      let here = no_space u (codes "event\"" ++ (58 ∷ behind_colon)) z 34 us refl inner in
      chosen z here.1 choice
    where
      chosen : (z : List ℕ) → 34 ∷ (codes "event\"" ++ (58 ∷ behind_colon)) ≡ z → Byte 125 IsEmpty z ⊎ Then (IsMember (Json 126)) (Items (IsMember (Json 126)) 125) z → Json 126 (123 ∷ y)
      chosen z same (inl close) = let both : 34 ∷ (codes "event\"" ++ (58 ∷ behind_colon)) ≡ 125 ∷ close.0 = same ∙ close.1 in let q : ◌≡◌ {A = ℕ} 34 125 = cc in absurd (omega (arith, q))
      chosen z same (inr (m, items, member, split, others)) = member_there m items member (sym split ∙ sym same)

-- so an object whose value is deeper is none of 127 levels, whatever follows it
module _ (w value v : List ℕ) (ws : AreSpaces w) (vs : AreSpaces v) (is : JsonObject 127 value) (deep : JsonObject 126 value → ⊥) where
  not_there : JsonObject 127 (object_of w value v) → ⊥
  not_there o =
      let brace = object_brace 127 value is in
      let there : JsonObject 127 (object_of w (123 ∷ brace.0) v) = subst (λ (x : List ℕ). JsonObject 127 (object_of w x v)) brace.1 o in
      let low : Json 126 (123 ∷ brace.0) = object_there w brace.0 (v ++ codes "}") 127 ws (subst (Json 127) brace.1 (object_json 127 value is)) there in
      deep (subst (JsonObject 126) (sym brace.1) (json_object 126 brace.0 low))

  pub none_begins : (more : List ℕ) → BeginsNoObject (object_of w value v ++ more)
  none_begins more = (
    λ spaces. let t : is_space 123 ≡ true = spaces.0 in let f : is_space 123 ≡ false = refl in cc,
    λ text rest b.
        let inner : List ℕ = codes "\"event\":" ++ (w ++ (value ++ (v ++ codes "}"))) in
        let here = no_space b.space (inner ++ more) (text ++ rest) 123 b.spaces refl b.whole in
        let whole = object_json 128 (object_of w value v) (object_is 127 w value v ws (object_json 127 value is) vs) in
        elim (values_here 127 128 text (object_of w value v) rest more (object_json 127 text b.object) whole (sym here.1)) [
          | inl same ↦ not_there (subst (JsonObject 127) same b.object)
          | inr numbers ↦ no_brace_number inner numbers.1
        ],
  )
