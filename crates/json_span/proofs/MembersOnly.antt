-- An object's members are determined by its bytes.
use Rattle.std.proofs.Common.{◌≡◌, ℕ, ◌+◌, ◌<◌, false, List, [], ◌∷◌, length, get_or, refl, sym, ap, ◌∙◌, suc, zero, subst, arith}
use Rattle.std.specs.Prelude.{All}
use Rattle.std.proofs.lemmas.List.Elements.{All-from_get_or}
use Rattle.json_span.specs.Json.{is_space, AreSpaces, Byte, Spaced, IsEmpty, Json}
use Rattle.json_span.specs.Machine.{Colon, Comma, EndObject}
use Rattle.json_span.specs.Spans.{Stretch, IsFirst}
use Rattle.json_span.specs.Members.{Separator, IsMemberAt, AreFurther, HasMembers}
use Rattle.json_span.specs.Walk.{IsFollowed}
use Rattle.json_span.specs.declared.span.Span.{Span}
use Rattle.json_span.specs.declared.object.Member.{Member}
use Rattle.json_span.proofs.Stretches.{space_ends, no_spaces}
use Rattle.json_span.proofs.Values.{value_byte, value_some}
use Rattle.json_span.proofs.Exact.{first_only}
use Rattle.json_span.proofs.Following.{first_followed}
use Rattle.json_span.proofs.Parts.{then_at, byte_at, followed}
use Rattle.json_span.proofs.MemberLaws.{name_value, value_more, string_byte}

-- a structural character after white space, and what is after it
record StructureAt (c : ℕ) (P : List ℕ → Type 0) (bytes : List ℕ) (a b : ℕ) : Type 0 where
  place : ℕ
  before : Stretch AreSpaces bytes a place
  inside : place < length bytes
  byte : get_or bytes place 0 ≡ c
  after : Stretch P bytes (place + 1) b

structure_at : (c : ℕ) (P : List ℕ → Type 0) (bytes : List ℕ) (a b : ℕ) → Stretch (Spaced (Byte c P)) bytes a b → StructureAt c P bytes a b
structure_at c P bytes a b s =
    let t = then_at AreSpaces (Byte c P) bytes a b s in
    let y = byte_at c P bytes t.0 b t.2 in
    record { place = t.0; before = t.1; inside = omega (arith, y.order, s.bound); byte = y.byte; after = y.rest }

-- two of them at one place are one
structure_only : (bytes : List ℕ) (c d : ℕ) (P Q : List ℕ → Type 0) (a b e : ℕ) → is_space c ≡ false → is_space d ≡ false → (s : StructureAt c P bytes a b) (t : StructureAt d Q bytes a e) → s.place ≡ t.place
structure_only bytes c d P Q a b e f g s t = space_ends bytes a s.place t.place s.before t.before (λ _. subst (λ z. is_space z ≡ false) (sym s.byte) f) t.inside (subst (λ z. is_space z ≡ false) (sym t.byte) g)

pub separator_only : (bytes : List ℕ) (c a b e : ℕ) → is_space c ≡ false → Stretch (Separator c) bytes a b → Stretch (Separator c) bytes a e → b < length bytes → is_space (get_or bytes b 0) ≡ false → e < length bytes → is_space (get_or bytes e 0) ≡ false → b ≡ e
separator_only bytes c a b e f s t m n p q =
    let x = structure_at c AreSpaces bytes a b s in
    let y = structure_at c AreSpaces bytes a e t in
    let o : x.place ≡ y.place = structure_only bytes c c AreSpaces AreSpaces a b e f f x y in
    space_ends bytes (y.place + 1) b e (subst (λ z. Stretch AreSpaces bytes (z + 1) b) o x.after) y.after (λ _. n) p q

name_byte : (bytes : List ℕ) (m : Member) → IsMemberAt bytes m → (m.name.start < length bytes) × (is_space (get_or bytes m.name.start 0) ≡ false)
name_byte bytes m i =
    let s = string_byte bytes m.name.start m.name.end i.name in
    (omega (arith, s.0, i.name.bound), subst (λ z. is_space z ≡ false) (sym s.1) refl)

pub value_byte_at : (bytes : List ℕ) (m : Member) → IsMemberAt bytes m → (m.value.start < length bytes) × (is_space (get_or bytes m.value.start 0) ≡ false)
value_byte_at bytes m i = (omega (arith, value_some bytes 126 m.value.start m.value.end i.value, i.value.bound), value_byte bytes 126 m.value.start m.value.end i.value)

-- a span that is followed is the only one with its start
span_only : (bytes : List ℕ) (s t : Span) → Stretch (Json 127) bytes s.start s.end → Stretch (Json 127) bytes t.start t.end → IsFollowed bytes s.end → IsFollowed bytes t.end → s.start ≡ t.start → s ≡ t
span_only bytes s t a b f g e =
    let x : IsFirst 127 bytes s.start s = first_followed 127 bytes s.start s.start s.end (no_spaces bytes s.start (omega (arith, a.order, a.bound))) a f in
    let y : IsFirst 127 bytes s.start t = subst (λ z. IsFirst 127 bytes z t) (sym e) (first_followed 127 bytes t.start t.start t.end (no_spaces bytes t.start (omega (arith, b.order, b.bound))) b g) in
    first_only 127 bytes s.start s t x y

member_only : (bytes : List ℕ) (m n : Member) → IsMemberAt bytes m → IsMemberAt bytes n → IsFollowed bytes m.value.end → IsFollowed bytes n.value.end → m.name.start ≡ n.name.start → m ≡ n
member_only bytes m n i j f g e =
    let a : m.name ≡ n.name = span_only bytes m.name n.name (name_value bytes m.name.start m.name.end i.name) (name_value bytes n.name.start n.name.end j.name) (followed 58 AreSpaces bytes m.name.end m.value.start (Colon refl) i.colon) (followed 58 AreSpaces bytes n.name.end n.value.start (Colon refl) j.colon) e in
    let x = value_byte_at bytes m i in
    let y = value_byte_at bytes n j in
    let s : m.value.start ≡ n.value.start = separator_only bytes 58 n.name.end m.value.start n.value.start refl (subst (λ z. Stretch (Separator 58) bytes z.end m.value.start) a i.colon) j.colon x.0 x.1 y.0 y.1 in
    let b : m.value ≡ n.value = span_only bytes m.value n.value (value_more bytes m.value.start m.value.end i.value) (value_more bytes n.value.start n.value.end j.value) f g s in
    ap (λ z. record { name = z; value = m.value }) a ∙ ap (λ z. record { name = n.name; value = z }) b

further_followed : (bytes : List ℕ) (at end : ℕ) (ms : List Member) → AreFurther bytes at ms end → IsFollowed bytes at
further_followed bytes at end [] h = followed 125 IsEmpty bytes at end (EndObject refl) h
further_followed bytes at end (m ∷ ms) h = followed 44 AreSpaces bytes at m.name.start (Comma refl) h.0

brace_comma : (bytes : List ℕ) (a b e : ℕ) → Stretch (Spaced (Byte 125 IsEmpty)) bytes a b → Stretch (Separator 44) bytes a e → ⊥
brace_comma bytes a b e s t =
    let x = structure_at 125 IsEmpty bytes a b s in
    let y = structure_at 44 AreSpaces bytes a e t in
    let o : x.place ≡ y.place = structure_only bytes 125 44 IsEmpty AreSpaces a b e refl refl x y in
    let p : get_or bytes y.place 0 ≡ 125 = subst (λ z. get_or bytes z 0 ≡ 125) o x.byte in
    let q : ◌≡◌ {A = ℕ} 125 44 = sym p ∙ y.byte in
    omega (arith, q)

further_only : (bytes : List ℕ) (at end : ℕ) (ms ns : List Member) → AreFurther bytes at ms end → AreFurther bytes at ns end → ms ≡ ns
further_only bytes at end [] [] h k = refl
further_only bytes at end [] (n ∷ ns) h k = absurd (brace_comma bytes at end n.name.start h k.0)
further_only bytes at end (m ∷ ms) [] h k = absurd (brace_comma bytes at end m.name.start k h.0)
further_only bytes at end (m ∷ ms) (n ∷ ns) h k =
    let x = name_byte bytes m h.1 in
    let y = name_byte bytes n k.1 in
    let s : m.name.start ≡ n.name.start = separator_only bytes 44 at m.name.start n.name.start refl h.0 k.0 x.0 x.1 y.0 y.1 in
    let e : m ≡ n = member_only bytes m n h.1 k.1 (further_followed bytes m.value.end end ms h.2) (further_followed bytes n.value.end end ns k.2) s in
    let r : ms ≡ ns = further_only bytes n.value.end end ms ns (subst (λ z. AreFurther bytes z.value.end ms end) e h.2) k.2 in
    ap (λ z. z ∷ ms) e ∙ ap (λ z. n ∷ z) r

brace_name : (bytes : List ℕ) (object : Span) (n : Member) → Stretch (Byte 123 (Spaced (Byte 125 IsEmpty))) bytes object.start object.end → Stretch (Byte 123 AreSpaces) bytes object.start n.name.start → IsMemberAt bytes n → ⊥
brace_name bytes object n h k i =
    let a = byte_at 123 (Spaced (Byte 125 IsEmpty)) bytes object.start object.end h in
    let b = byte_at 123 AreSpaces bytes object.start n.name.start k in
    let x = structure_at 125 IsEmpty bytes (object.start + 1) object.end a.rest in
    let s = string_byte bytes n.name.start n.name.end i.name in
    let y = name_byte bytes n i in
    let o : x.place ≡ n.name.start = space_ends bytes (object.start + 1) x.place n.name.start x.before b.rest (λ _. subst (λ z. is_space z ≡ false) (sym x.byte) refl) y.0 y.1 in
    let p : get_or bytes n.name.start 0 ≡ 125 = subst (λ z. get_or bytes z 0 ≡ 125) o x.byte in
    let q : ◌≡◌ {A = ℕ} 125 34 = sym p ∙ s.1 in
    omega (arith, q)

-- The members of an object are one list.
pub members_only : (bytes : List ℕ) (object : Span) (ms ns : List Member) → HasMembers bytes object ms → HasMembers bytes object ns → ms ≡ ns
members_only bytes object [] [] h k = refl
members_only bytes object [] (n ∷ ns) h k = absurd (brace_name bytes object n h k.0 k.1)
members_only bytes object (m ∷ ms) [] h k = absurd (brace_name bytes object m k h.0 h.1)
members_only bytes object (m ∷ ms) (n ∷ ns) h k =
    let a = byte_at 123 AreSpaces bytes object.start m.name.start h.0 in
    let b = byte_at 123 AreSpaces bytes object.start n.name.start k.0 in
    let x = name_byte bytes m h.1 in
    let y = name_byte bytes n k.1 in
    let s : m.name.start ≡ n.name.start = space_ends bytes (object.start + 1) m.name.start n.name.start a.rest b.rest (λ _. x.1) y.0 y.1 in
    let e : m ≡ n = member_only bytes m n h.1 k.1 (further_followed bytes m.value.end object.end ms h.2) (further_followed bytes n.value.end object.end ns k.2) s in
    let r : ms ≡ ns = further_only bytes n.value.end object.end ms ns (subst (λ z. AreFurther bytes z.value.end ms object.end) e h.2) k.2 in
    ap (λ z. z ∷ ms) e ∙ ap (λ z. n ∷ z) r

-- Each of them has its name and value where it says.
further_at : (bytes : List ℕ) (at end : ℕ) (ms : List Member) (k : ℕ) (d : Member) → k < length ms → AreFurther bytes at ms end → IsMemberAt bytes (get_or ms k d)
further_at bytes at end [] k d l h = absurd (omega (arith, l))
further_at bytes at end (m ∷ ms) zero d l h = h.1
further_at bytes at end (m ∷ ms) (suc k) d l h = further_at bytes m.value.end end ms k d (omega (arith, l)) h.2

pub members_at : (bytes : List ℕ) (object : Span) (ms : List Member) (k : ℕ) (d : Member) → k < length ms → HasMembers bytes object ms → IsMemberAt bytes (get_or ms k d)
members_at bytes object [] k d l h = absurd (omega (arith, l))
members_at bytes object (m ∷ ms) zero d l h = h.1
members_at bytes object (m ∷ ms) (suc k) d l h = further_at bytes m.value.end object.end ms k d (omega (arith, l)) h.2

pub members_all : (bytes : List ℕ) (object : Span) (ms : List Member) → HasMembers bytes object ms → All (IsMemberAt bytes) ms
members_all bytes object [] h = All-from_get_or (IsMemberAt bytes) [] (record { name = record { start = 0; end = 0 }; value = record { start = 0; end = 0 } }) (λ i l. absurd (omega (arith, l)))
members_all bytes object (m ∷ ms) h = All-from_get_or (IsMemberAt bytes) (m ∷ ms) m (λ i l. members_at bytes object (m ∷ ms) i m l h)
