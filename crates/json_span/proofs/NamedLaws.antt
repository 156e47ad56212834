-- The walk over an object that is not known to be one, for the first member of a name.
use Rattle.std.proofs.Common.{◌≡◌, ◌≢◌, ℕ, ◌+◌, ◌-◌, ◌≤◌, ◌<◌, false, List, [], ◌∷◌, ◌++◌, length, get_or, refl, sym, ◌∙◌, ap, subst, append_assoc, arith, inl, inr, ◌⊎◌, Option, Some, None}
use Rattle.std.specs.Prelude.{slice_range, IfNone}
use Rattle.std.proofs.lemmas.List.{append-nil}
use Rattle.std.proofs.lemmas.List.Edits.{between_none, length-between}
use Rattle.std.proofs.lemmas.List.Elements.{All-append, All-nil, All-cons}
use Rattle.json_span.specs.Strings.{IsString}
use Rattle.json_span.specs.Json.{is_space, AreSpaces, Spaced, Byte, IsEmpty, Items, IsMember, Json}
use Rattle.json_span.specs.Spans.{Stretch, IsFirst}
use Rattle.json_span.specs.Members.{HasMembers, HasObject, Separator, IsMemberAt, AreFurther, IsSpelt, FirstSpelt, HasNamed, IsObjectAt}
use Rattle.json_span.specs.Walk.{IsFollowed, MembersLeft, IsLeft, ComesFirst, ComesAfter, Chooses}
use Rattle.json_span.specs.declared.span.Span.{Span}
use Rattle.json_span.specs.declared.object.Member.{Member}
use Rattle.json_span.specs.declared.named.Next.{Next}
use Rattle.json_span.specs.declared.named.Next.TheVariants.{Another, End}
use Rattle.json_span.proofs.Exact.{first_only}
use Rattle.json_span.proofs.Following.{first_followed}
use Rattle.json_span.proofs.MemberLaws.{ItemParts, item_parts, next_found, member_parts, member_byte, string_byte, left_found, left_split, left_inside, comma_left, brace_left}
use Rattle.json_span.proofs.MembersExist.{members_object}
use Rattle.json_span.proofs.MembersOnly.{separator_only, value_byte_at}
use Rattle.json_span.proofs.Parts.{then_at, then_back, byte_at, byte_back, separator_back}
use Rattle.json_span.proofs.Stretches.{no_spaces, space_ends, spaces_join, range_split}
use Rattle.json_span.proofs.StringLaws.{string_only}
use Rattle.json_span.proofs.Values.{value_byte, value_some}
use Rattle.json_span.proofs.WalkLaws.{inside}

no_space : (c d : ℕ) → c ≡ d → is_space d ≡ false → is_space c ≡ false
no_space c d e f = subst (λ (z : ℕ). is_space z ≡ false) (sym e) f

-- what holds anyhow holds of a result that may be none
pub none_anyhow : {A : Type 0} (r : Option A) (P : Type 0) → P → IfNone r P
none_anyhow (Some x) P p = tt
none_anyhow None P p = p

-- the byte is the last one
byte_end : (c : ℕ) (bytes : List ℕ) (a b : ℕ) → Stretch (Byte c IsEmpty) bytes a b → b ≡ a + 1
byte_end c bytes a b s =
    let r : Stretch IsEmpty bytes (a + 1) b = (byte_at c IsEmpty bytes a b s).rest in
    let l : length (slice_range bytes (a + 1) b) ≡ b - (a + 1) = length-between bytes (a + 1) b r.bound in
    let z : length (slice_range bytes (a + 1) b) ≡ 0 = ap length r.text in
    omega (arith, l, z, r.order)

-- white space and the closing brace
pub brace_after : (bytes : List ℕ) (from next : ℕ) → Stretch AreSpaces bytes from next → next < length bytes → get_or bytes next 0 ≡ 125 → Stretch (Spaced (Byte 125 IsEmpty)) bytes from (next + 1)
brace_after bytes from next w l b =
    let nothing : Stretch IsEmpty bytes (next + 1) (next + 1) = record { order = omega arith; bound = omega (arith, l); text = between_none bytes (next + 1) } in
    then_back AreSpaces (Byte 125 IsEmpty) bytes from next (next + 1) w (byte_back 125 IsEmpty bytes next (next + 1) b nothing)

left_brace : (bytes : List ℕ) (a end : ℕ) → Stretch IsLeft bytes a end → get_or bytes a 0 ≡ 125 → end ≡ a + 1
left_brace bytes a end l b = go (left_split bytes a end l)
  where
    go : Stretch (Byte 125 IsEmpty) bytes a end ⊎ Stretch MembersLeft bytes a end → end ≡ a + 1
    go (inl i) = byte_end 125 bytes a end i
    go (inr i) = let q : ◌≡◌ {A = ℕ} 125 34 = sym b ∙ (member_byte bytes a end i).1 in absurd (omega (arith, q))

left_other : (bytes : List ℕ) (a end : ℕ) → Stretch IsLeft bytes a end → get_or bytes a 0 ≢ 125 → Stretch MembersLeft bytes a end
left_other bytes a end l b = go (left_split bytes a end l)
  where
    go : Stretch (Byte 125 IsEmpty) bytes a end ⊎ Stretch MembersLeft bytes a end → Stretch MembersLeft bytes a end
    go (inl i) = absurd (b (byte_at 125 IsEmpty bytes a end i).byte)
    go (inr i) = i

-- ---- one member

-- The member that is found at a place is the first of those that stand there.
pub rest_after : (bytes : List ℕ) (m : Member) (end : ℕ) → IsMemberAt bytes m → IsFirst 126 bytes m.value.start m.value → Stretch MembersLeft bytes m.name.start end → Stretch (Items (IsMember (Json 126)) 125) bytes m.value.end end
rest_after bytes m end is first left =
    let p = member_parts bytes m.name.start end left in
    let name : p.name_end ≡ m.name.end = string_only bytes m.name.start p.name_end m.name.end p.name is.name in
    let colon : Stretch (Separator 58) bytes m.name.end p.start = subst (λ (n : ℕ). Stretch (Separator 58) bytes n p.start) name (separator_back 58 bytes p.name_end p.colon p.start p.before p.colon_is p.after) in
    let there = value_byte_at bytes m is in
    let inside_here : p.start < length bytes = omega (arith, value_some bytes 126 p.start p.to p.value, p.value.bound) in
    let start : p.start ≡ m.value.start = separator_only bytes 58 m.name.end p.start m.value.start refl colon is.colon inside_here (value_byte bytes 126 p.start p.to p.value) there.0 there.1 in
    let value : Stretch (Json 126) bytes m.value.start p.to = subst (λ (n : ℕ). Stretch (Json 126) bytes n p.to) start p.value in
    let here : IsFirst 126 bytes m.value.start (record { start = m.value.start; end = p.to }) = first_followed 126 bytes m.value.start m.value.start p.to (no_spaces bytes m.value.start (omega (arith, there.0))) value p.value_followed in
    let to : p.to ≡ m.value.end = ap (λ (s : Span). s.end) (first_only 126 bytes m.value.start (record { start = m.value.start; end = p.to }) m.value here first) in
    subst (λ (n : ℕ). Stretch (Items (IsMember (Json 126)) 125) bytes n end) to p.rest

-- What stands after a name, where a member does.
pub record AfterName (bytes : List ℕ) (colon : ℕ) : Type 0 where
  pub inside : colon < length bytes
  pub is : get_or bytes colon 0 ≡ 58
  pub value : Span
  pub after : Stretch AreSpaces bytes (colon + 1) value.start
  pub json : Stretch (Json 126) bytes value.start value.end
  pub followed : IsFollowed bytes value.end

pub after_name : (bytes : List ℕ) (at name_end colon end : ℕ) → Stretch IsString bytes at name_end → Stretch AreSpaces bytes name_end colon → (colon < length bytes → is_space (get_or bytes colon 0) ≡ false) → Stretch MembersLeft bytes at end → AfterName bytes colon
after_name bytes at name_end colon end name spaces stops left =
    let p = member_parts bytes at end left in
    let e : p.name_end ≡ name_end = string_only bytes at p.name_end name_end p.name name in
    let before : Stretch AreSpaces bytes name_end p.colon = subst (λ (n : ℕ). Stretch AreSpaces bytes n p.colon) e p.before in
    let within : p.colon < length bytes = omega (arith, p.after.order, p.after.bound) in
    let here : colon ≡ p.colon = space_ends bytes name_end colon p.colon spaces before stops within (no_space (get_or bytes p.colon 0) 58 p.colon_is refl) in
    record {
      inside = omega (arith, here, within);
      is = subst (λ (n : ℕ). get_or bytes n 0 ≡ 58) (sym here) p.colon_is;
      value = record { start = p.start; end = p.to };
      after = subst (λ (n : ℕ). Stretch AreSpaces bytes (n + 1) p.start) (sym here) p.after;
      json = p.value;
      followed = p.value_followed;
    }

-- and its value is the first one there
pub value_after : (bytes : List ℕ) (colon place : ℕ) (a : AfterName bytes colon) → Stretch AreSpaces bytes (colon + 1) place → (place < length bytes → is_space (get_or bytes place 0) ≡ false) → IsFirst 126 bytes place a.value
value_after bytes colon place a spaces stops =
    let here : place ≡ a.value.start = space_ends bytes (colon + 1) place a.value.start spaces a.after stops (omega (arith, value_some bytes 126 a.value.start a.value.end a.json, a.json.bound)) (value_byte bytes 126 a.value.start a.value.end a.json) in
    let first : IsFirst 126 bytes a.value.start a.value = first_followed 126 bytes a.value.start a.value.start a.value.end (no_spaces bytes a.value.start (omega (arith, a.json.order, a.json.bound))) a.json a.followed in
    subst (λ (n : ℕ). IsFirst 126 bytes n a.value) (sym here) first

-- a member of a name, a colon and a value that was found
pub member_is : (bytes : List ℕ) (at name_end colon place : ℕ) (value : Span) → Stretch IsString bytes at name_end → Stretch AreSpaces bytes name_end colon → get_or bytes colon 0 ≡ 58 → Stretch AreSpaces bytes (colon + 1) place → IsFirst 126 bytes place value
    → IsMemberAt bytes (record { name = record { start = at; end = name_end }; value = value })
member_is bytes at name_end colon place value name spaces c more first =
    let after : Stretch AreSpaces bytes (colon + 1) value.start = record {
      order = omega (arith, more.order, first.space.order);
      bound = first.space.bound;
      text = subst AreSpaces (sym (range_split bytes (colon + 1) place value.start more.order first.space.order)) (spaces_join (slice_range bytes (colon + 1) place) (slice_range bytes place value.start) more.text first.space.text);
    } in
    record {
      name = name;
      colon = separator_back 58 bytes name_end colon value.start spaces c after;
      value = first.value;
    }

-- the first value after white space is the first one from its own place on
pub first_itself : (levels : ℕ) (bytes : List ℕ) (at : ℕ) (s : Span) → IsFirst levels bytes at s → IsFirst levels bytes s.start s
first_itself levels bytes at s f = record { space = no_spaces bytes s.start (omega (arith, f.value.order, f.value.bound)); value = f.value; longest = f.longest }

-- ---- what comes next

abbrev pub IsInside : List ℕ → Next → Type 0
IsInside bytes (Another at) = at ≤ length bytes
IsInside bytes (End end) = Unit {0}

-- how many bytes are left for members
abbrev pub left_of : List ℕ → Next → ℕ
left_of bytes (Another at) = length bytes + 1 - at
left_of bytes (End end) = 0

-- these members are ahead, up to an object's end
abbrev pub LieAhead : List ℕ → Next → List Member → ℕ → Type 0
LieAhead bytes (Another at) [] end = ⊥
LieAhead bytes (Another at) (m ∷ ms) end = (m.name.start ≡ at) × IsMemberAt bytes m × AreFurther bytes m.value.end ms end
LieAhead bytes (End e) [] end = end ≡ e
LieAhead bytes (End e) (m ∷ ms) end = ⊥

-- what is left of an object that ends there
abbrev pub Remains : List ℕ → Next → ℕ → Type 0
Remains bytes (Another at) end = Stretch MembersLeft bytes at end
Remains bytes (End e) end = end ≡ e

comes_inside : (bytes : List ℕ) (from : ℕ) (next : Next) → ComesAfter bytes from next → IsInside bytes next
comes_inside bytes from (Another at) a = a.0.bound
comes_inside bytes from (End e) a = tt

further_of : (bytes : List ℕ) (from : ℕ) (next : Next) → ComesAfter bytes from next → (rest : List Member) (end : ℕ) → LieAhead bytes next rest end → AreFurther bytes from rest end
further_of bytes from (Another at) a [] end h = absurd h
further_of bytes from (Another at) a (m ∷ ms) end h = (subst (Stretch (Separator 44) bytes from) (sym h.0) a.0, h.1, h.2)
further_of bytes from (End e) a [] end h = subst (Stretch (Spaced (Byte 125 IsEmpty)) bytes from) (sym h) a
further_of bytes from (End e) a (m ∷ ms) end h = absurd h

remains_after : (bytes : List ℕ) (from : ℕ) (next : Next) → ComesAfter bytes from next → (end : ℕ) → Stretch (Items (IsMember (Json 126)) 125) bytes from end → Remains bytes next end
remains_after bytes from (Another at) a end k =
    let t = then_at AreSpaces (Byte 44 AreSpaces) bytes from at a.0 in
    let c = byte_at 44 AreSpaces bytes t.0 at t.2 in
    comma_left bytes from t.0 at end k t.1 (λ _. no_space (get_or bytes t.0 0) 44 c.byte refl) c.byte c.rest a.1
remains_after bytes from (End e) a end k =
    let t = then_at AreSpaces (Byte 125 IsEmpty) bytes from e a in
    let c = byte_at 125 IsEmpty bytes t.0 e t.2 in
    let other : get_or bytes t.0 0 ≢ 44 = λ q. let r : ◌≡◌ {A = ℕ} 125 44 = sym c.byte ∙ q in omega (arith, r) in
    let brace : Stretch (Byte 125 IsEmpty) bytes t.0 end = brace_left bytes from t.0 end k t.1 (λ _. no_space (get_or bytes t.0 0) 125 c.byte refl) other in
    byte_end 125 bytes t.0 end brace ∙ sym (byte_end 125 bytes t.0 e t.2)

-- nothing comes where neither a comma nor the closing brace stands
pub nothing_after : (bytes : List ℕ) (from next end : ℕ) → Stretch AreSpaces bytes from next → (next < length bytes → is_space (get_or bytes next 0) ≡ false) → ((next < length bytes) × (get_or bytes next 0 ≡ 44) → ⊥) → ((next < length bytes) × (get_or bytes next 0 ≡ 125) → ⊥) → Stretch (Items (IsMember (Json 126)) 125) bytes from end → ⊥
nothing_after bytes from next end w stops comma brace k = go (item_parts bytes from end k)
  where
    go : ItemParts bytes from end → ⊥
    go m = which m.what
      where
        same : next ≡ m.next
        same = next_found bytes from end next m w stops

        which : Stretch (Byte 125 IsEmpty) bytes m.next end ⊎ ((get_or bytes m.next 0 ≡ 44) × Stretch (Spaced MembersLeft) bytes (m.next + 1) end) → ⊥
        which (inl i) = brace (omega (arith, same, m.inside), subst (λ (n : ℕ). get_or bytes n 0 ≡ 125) (sym same) (byte_at 125 IsEmpty bytes m.next end i).byte)
        which (inr i) = comma (omega (arith, same, m.inside), subst (λ (n : ℕ). get_or bytes n 0 ≡ 44) (sym same) i.0)

-- ---- the walk

-- The members so far, the first one of the name among them, and what every object that begins at `start` has left.
pub record Walked (bytes : List ℕ) (start : ℕ) (name : List ℕ) (next : Next) (value : Option Span) : Type 0 where
  pub found : List Member
  pub inside : IsInside bytes next
  pub ahead : (rest : List Member) (end : ℕ) → LieAhead bytes next rest end → HasMembers bytes (record { start = start; end = end }) (found ++ rest)
  pub only : (end : ℕ) → HasObject bytes (record { start = start; end = end }) → Remains bytes next end
  pub chosen : FirstSpelt bytes name found value

pub walk_starts : (bytes : List ℕ) (start : ℕ) (name : List ℕ) (next : Next) → get_or bytes start 0 ≡ 123 → ComesFirst bytes (start + 1) next → Walked bytes start name next None
walk_starts bytes start name (Another at) b f = record { found = []; inside = f.0.bound; ahead = ahead; only = only; chosen = All-nil (λ m. ¬ IsSpelt bytes name m) }
  where
    ahead : (rest : List Member) (end : ℕ) → LieAhead bytes (Another at) rest end → HasMembers bytes (record { start = start; end = end }) rest
    ahead [] end h = absurd h
    ahead (m ∷ ms) end h = (byte_back 123 AreSpaces bytes start m.name.start b (subst (Stretch AreSpaces bytes (start + 1)) (sym h.0) f.0), h.1, h.2)

    only : (end : ℕ) → HasObject bytes (record { start = start; end = end }) → Stretch MembersLeft bytes at end
    only end o =
        let i = inside bytes (record { start = start; end = end }) o in
        let l : Stretch IsLeft bytes at end = left_found bytes (start + 1) at end i.rest f.0 f.1 in
        left_other bytes at end l (f.2 (left_inside bytes at end l))
walk_starts bytes start name (End e) b f = record { found = []; inside = tt; ahead = ahead; only = only; chosen = All-nil (λ m. ¬ IsSpelt bytes name m) }
  where
    ahead : (rest : List Member) (end : ℕ) → LieAhead bytes (End e) rest end → HasMembers bytes (record { start = start; end = end }) rest
    ahead [] end h = subst (Stretch (Byte 123 (Spaced (Byte 125 IsEmpty))) bytes start) (sym h) (byte_back 123 (Spaced (Byte 125 IsEmpty)) bytes start e b f)
    ahead (m ∷ ms) end h = absurd h

    only : (end : ℕ) → HasObject bytes (record { start = start; end = end }) → end ≡ e
    only end o =
        let i = inside bytes (record { start = start; end = end }) o in
        let t = then_at AreSpaces (Byte 125 IsEmpty) bytes (start + 1) e f in
        let c = byte_at 125 IsEmpty bytes t.0 e t.2 in
        let l : Stretch IsLeft bytes t.0 end = left_found bytes (start + 1) t.0 end i.rest t.1 (λ _. no_space (get_or bytes t.0 0) 125 c.byte refl) in
        left_brace bytes t.0 end l c.byte ∙ sym (byte_end 125 bytes t.0 e t.2)

chosen_more : (bytes name : List ℕ) (found : List Member) (value : Option Span) (m : Member) (chosen : Option Span) → FirstSpelt bytes name found value → Chooses bytes name value m chosen → FirstSpelt bytes name (found ++ m ∷ []) chosen
chosen_more bytes name found None m None h c = All-append (λ m. ¬ IsSpelt bytes name m) found (m ∷ []) h (All-cons (λ m. ¬ IsSpelt bytes name m) m [] c (All-nil (λ m. ¬ IsSpelt bytes name m)))
chosen_more bytes name found None m (Some v) h c = record { before = found; member = m; after = []; whole = refl; first = h; spelt = c.0; is = c.1 }
chosen_more bytes name found (Some u) m chosen h c = subst (FirstSpelt bytes name (found ++ m ∷ [])) (sym c) (record {
  before = h.before;
  member = h.member;
  after = h.after ++ m ∷ [];
  whole = ap (λ (z : List Member). z ++ m ∷ []) h.whole ∙ append_assoc h.before (h.member ∷ h.after) (m ∷ []);
  first = h.first;
  spelt = h.spelt;
  is = h.is;
})

pub walk_on : (bytes : List ℕ) (start : ℕ) (name : List ℕ) (at : ℕ) (next : Next) (value chosen : Option Span) (m : Member) → Walked bytes start name (Another at) value → m.name.start ≡ at → IsMemberAt bytes m → IsFirst 126 bytes m.value.start m.value
    → ComesAfter bytes m.value.end next → Chooses bytes name value m chosen → Walked bytes start name next chosen
walk_on bytes start name at next value chosen m w b i f a c = record {
  found = w.found ++ m ∷ [];
  inside = comes_inside bytes m.value.end next a;
  ahead = λ rest end h. subst (HasMembers bytes (record { start = start; end = end })) (sym (append_assoc w.found (m ∷ []) rest)) (w.ahead (m ∷ rest) end (b, i, further_of bytes m.value.end next a rest end h));
  only = λ end o. remains_after bytes m.value.end next a end (rest_after bytes m end i f (subst (λ (n : ℕ). Stretch MembersLeft bytes n end) (sym b) (w.only end o)));
  chosen = chosen_more bytes name w.found value m chosen w.chosen c;
}

pub goes_down : (bytes : List ℕ) (at : ℕ) (m : Member) (next : Next) → at ≤ length bytes → m.name.start ≡ at → IsMemberAt bytes m → ComesAfter bytes m.value.end next → left_of bytes next < left_of bytes (Another at)
goes_down bytes at m (Another to) l b i a = let s = string_byte bytes m.name.start m.name.end i.name in omega (arith, l, b, s.0, i.colon.order, i.value.order, a.0.order, a.0.bound)
goes_down bytes at m (End e) l b i a = omega (arith, l)

-- its end
pub walk_has : (bytes : List ℕ) (start : ℕ) (name : List ℕ) (e : ℕ) (value : Option Span) → Walked bytes start name (End e) value → HasNamed bytes (record { start = start; end = e }) name value
walk_has bytes start name e value w = (w.found, subst (HasMembers bytes (record { start = start; end = e })) (append-nil w.found) (w.ahead [] e refl), w.chosen)

pub walk_object : (bytes : List ℕ) (at start : ℕ) (name : List ℕ) (e : ℕ) (value : Option Span) → Stretch AreSpaces bytes at start → Walked bytes start name (End e) value → IsObjectAt bytes at (record { start = start; end = e })
walk_object bytes at start name e value s w =
    let h = walk_has bytes start name e value w in
    (s, members_object bytes (record { start = start; end = e }) h.0 h.1)

-- ---- no object

object_starts : (bytes : List ℕ) (at start : ℕ) (object : Span) → Stretch AreSpaces bytes at start → (start < length bytes → is_space (get_or bytes start 0) ≡ false) → IsObjectAt bytes at object → start ≡ object.start
object_starts bytes at start object s stops o =
    let i = inside bytes object o.1 in
    space_ends bytes at start object.start s o.0 stops (omega (arith, i.order, o.1.bound)) (no_space (get_or bytes object.start 0) 123 i.byte refl)

pub no_brace : (bytes : List ℕ) (at start : ℕ) (object : Span) → Stretch AreSpaces bytes at start → (start < length bytes → is_space (get_or bytes start 0) ≡ false) → ((start < length bytes) × (get_or bytes start 0 ≡ 123) → ⊥) → IsObjectAt bytes at object → ⊥
no_brace bytes at start object s stops n o =
    let i = inside bytes object o.1 in
    let e : start ≡ object.start = object_starts bytes at start object s stops o in
    n (omega (arith, e, i.order, o.1.bound), subst (λ (k : ℕ). get_or bytes k 0 ≡ 123) (sym e) i.byte)

remains_of : (bytes : List ℕ) (at start : ℕ) (name : List ℕ) (next : Next) (value : Option Span) (object : Span) → Stretch AreSpaces bytes at start → (start < length bytes → is_space (get_or bytes start 0) ≡ false) → Walked bytes start name next value → IsObjectAt bytes at object → Remains bytes next object.end
remains_of bytes at start name next value object s stops w o =
    let e : start ≡ object.start = object_starts bytes at start object s stops o in
    w.only object.end (subst (λ (k : ℕ). HasObject bytes (record { start = k; end = object.end })) (sym e) o.1)

pub no_member : (bytes : List ℕ) (at start : ℕ) (name : List ℕ) (place : ℕ) (value : Option Span) (object : Span) → Stretch AreSpaces bytes at start → (start < length bytes → is_space (get_or bytes start 0) ≡ false) → Walked bytes start name (Another place) value
    → ((end : ℕ) → Stretch MembersLeft bytes place end → ⊥) → IsObjectAt bytes at object → ⊥
no_member bytes at start name place value object s stops w n o = n object.end (remains_of bytes at start name (Another place) value object s stops w o)

pub no_next : (bytes : List ℕ) (at start : ℕ) (name : List ℕ) (place : ℕ) (value : Option Span) (m : Member) (object : Span) → Stretch AreSpaces bytes at start → (start < length bytes → is_space (get_or bytes start 0) ≡ false) → Walked bytes start name (Another place) value
    → m.name.start ≡ place → IsMemberAt bytes m → IsFirst 126 bytes m.value.start m.value → ((end : ℕ) → Stretch (Items (IsMember (Json 126)) 125) bytes m.value.end end → ⊥) → IsObjectAt bytes at object → ⊥
no_next bytes at start name place value m object s stops w b i f n o =
    n object.end (rest_after bytes m object.end i f (subst (λ (k : ℕ). Stretch MembersLeft bytes k object.end) (sym b) (remains_of bytes at start name (Another place) value object s stops w o)))
