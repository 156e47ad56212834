-- An object has members, and what has members is an object.
use Rattle.std.proofs.Common.{◌≡◌, ℕ, ◌+◌, List, [], ◌∷◌, get_or, refl, sym, suc, zero, subst, inl, inr}
use Rattle.json_span.specs.Strings.{IsString}
use Rattle.json_span.specs.Json.{AreSpaces, Byte, Spaced, Then, IsEmpty, Further, Items, IsMember, Json}
use Rattle.json_span.specs.Spans.{Stretch}
use Rattle.json_span.specs.Members.{HasObject, Separator, IsMemberAt, AreFurther, HasMembers}
use Rattle.json_span.specs.Walk.{MembersLeft, IsLeft}
use Rattle.json_span.specs.declared.span.Span.{Span}
use Rattle.json_span.specs.declared.object.Member.{Member}
use Rattle.json_span.proofs.Parts.{stretch_map, then_at, then_back, byte_at, byte_back, separator_back}
use Rattle.json_span.proofs.MemberLaws.{left_split}

abbrev V : List ℕ → Type 0
V = Json 126

-- a member's text has its places
record MemberOver (bytes : List ℕ) (start end : ℕ) : Type 0 where
  member : Member
  starts : member.name.start ≡ start
  ends : member.value.end ≡ end
  is : IsMemberAt bytes member

member_over : (bytes : List ℕ) (a b : ℕ) → Stretch (IsMember V) bytes a b → MemberOver bytes a b
member_over bytes a b s =
    let n = then_at IsString (Spaced (Byte 58 (Spaced V))) bytes a b s in
    let c = then_at AreSpaces (Byte 58 (Spaced V)) bytes n.0 b n.2 in
    let y = byte_at 58 (Spaced V) bytes c.0 b c.2 in
    let v = then_at AreSpaces V bytes (c.0 + 1) b y.rest in
    record {
      member = record { name = record { start = a; end = n.0 }; value = record { start = v.0; end = b } };
      starts = refl;
      ends = refl;
      is = record { name = n.1; colon = separator_back 58 bytes n.0 c.0 v.0 c.1 y.byte v.1; value = v.2 };
    }

pub further_exist : (bytes : List ℕ) (n at end : ℕ) → Stretch (Further (IsMember V) 125 n) bytes at end → (ms : List Member) × AreFurther bytes at ms end
further_exist bytes zero at end s = ([], s)
further_exist bytes (suc n) at end s =
    let c = then_at AreSpaces (Byte 44 (Spaced (Then (IsMember V) (Further (IsMember V) 125 n)))) bytes at end s in
    let y = byte_at 44 (Spaced (Then (IsMember V) (Further (IsMember V) 125 n))) bytes c.0 end c.2 in
    let v = then_at AreSpaces (Then (IsMember V) (Further (IsMember V) 125 n)) bytes (c.0 + 1) end y.rest in
    let t = then_at (IsMember V) (Further (IsMember V) 125 n) bytes v.0 end v.2 in
    let m = member_over bytes v.0 t.0 t.1 in
    let r = further_exist bytes n t.0 end t.2 in (
      m.member ∷ r.0,
      (
        subst (Stretch (Separator 44) bytes at) (sym m.starts) (separator_back 44 bytes at c.0 v.0 c.1 y.byte v.1),
        m.is,
        subst (λ z. AreFurther bytes z r.0 end) (sym m.ends) r.1,
      ),
    )

pub members_exist : (bytes : List ℕ) (object : Span) → HasObject bytes object → (ms : List Member) × HasMembers bytes object ms
members_exist bytes object s =
    let o = byte_at 123 (Spaced IsLeft) bytes object.start object.end s in
    let l = then_at AreSpaces IsLeft bytes (object.start + 1) object.end o.rest in
    elim (left_split bytes l.0 object.end l.2) [
      | inl b ↦ ([], byte_back 123 (Spaced (Byte 125 IsEmpty)) bytes object.start object.end o.byte (then_back AreSpaces (Byte 125 IsEmpty) bytes (object.start + 1) l.0 object.end l.1 b))
      | inr i ↦
          let t = then_at (IsMember V) (Items (IsMember V) 125) bytes l.0 object.end i in
          let m = member_over bytes l.0 t.0 t.1 in
          let n = t.2 in
          let r = further_exist bytes n.text.0 t.0 object.end (record { order = n.order; bound = n.bound; text = n.text.1 }) in (
            m.member ∷ r.0,
            (
              subst (Stretch (Byte 123 AreSpaces) bytes object.start) (sym m.starts) (byte_back 123 AreSpaces bytes object.start l.0 o.byte l.1),
              m.is,
              subst (λ z. AreFurther bytes z r.0 object.end) (sym m.ends) r.1,
            ),
          )
    ]

-- The other way.
over_member : (bytes : List ℕ) (m : Member) → IsMemberAt bytes m → Stretch (IsMember V) bytes m.name.start m.value.end
over_member bytes m i =
    let c = then_at AreSpaces (Byte 58 AreSpaces) bytes m.name.end m.value.start i.colon in
    let y = byte_at 58 AreSpaces bytes c.0 m.value.start c.2 in
    let v : Stretch (Spaced V) bytes (c.0 + 1) m.value.end = then_back AreSpaces V bytes (c.0 + 1) m.value.start m.value.end y.rest i.value in
    let b : Stretch (Byte 58 (Spaced V)) bytes c.0 m.value.end = byte_back 58 (Spaced V) bytes c.0 m.value.end y.byte v in
    let n : Stretch (Spaced (Byte 58 (Spaced V))) bytes m.name.end m.value.end = then_back AreSpaces (Byte 58 (Spaced V)) bytes m.name.end c.0 m.value.end c.1 b in
    then_back IsString (Spaced (Byte 58 (Spaced V))) bytes m.name.start m.name.end m.value.end i.name n

items_of : (bytes : List ℕ) (at end : ℕ) (ms : List Member) → AreFurther bytes at ms end → Stretch (Items (IsMember V) 125) bytes at end
items_of bytes at end [] h = stretch_map (Further (IsMember V) 125 zero) (Items (IsMember V) 125) bytes at end (λ x i. (zero, i)) h
items_of bytes at end (m ∷ ms) h =
    let r = items_of bytes m.value.end end ms h.2 in
    let n = r.text.0 in
    let f : Stretch (Further (IsMember V) 125 n) bytes m.value.end end = record { order = r.order; bound = r.bound; text = r.text.1 } in
    let t : Stretch (Then (IsMember V) (Further (IsMember V) 125 n)) bytes m.name.start end = then_back (IsMember V) (Further (IsMember V) 125 n) bytes m.name.start m.value.end end (over_member bytes m h.1) f in
    let c = then_at AreSpaces (Byte 44 AreSpaces) bytes at m.name.start h.0 in
    let y = byte_at 44 AreSpaces bytes c.0 m.name.start c.2 in
    let v : Stretch (Spaced (Then (IsMember V) (Further (IsMember V) 125 n))) bytes (c.0 + 1) end = then_back AreSpaces (Then (IsMember V) (Further (IsMember V) 125 n)) bytes (c.0 + 1) m.name.start end y.rest t in
    let b : Stretch (Byte 44 (Spaced (Then (IsMember V) (Further (IsMember V) 125 n)))) bytes c.0 end = byte_back 44 (Spaced (Then (IsMember V) (Further (IsMember V) 125 n))) bytes c.0 end y.byte v in
    let w : Stretch (Further (IsMember V) 125 (suc n)) bytes at end = then_back AreSpaces (Byte 44 (Spaced (Then (IsMember V) (Further (IsMember V) 125 n)))) bytes at c.0 end c.1 b in
    stretch_map (Further (IsMember V) 125 (suc n)) (Items (IsMember V) 125) bytes at end (λ x i. (suc n, i)) w

object_of : (bytes : List ℕ) (object : Span) (at : ℕ) → get_or bytes object.start 0 ≡ 123 → Stretch AreSpaces bytes (object.start + 1) at → Stretch IsLeft bytes at object.end → HasObject bytes object
object_of bytes object at e w l = byte_back 123 (Spaced IsLeft) bytes object.start object.end e (then_back AreSpaces IsLeft bytes (object.start + 1) at object.end w l)

pub members_object : (bytes : List ℕ) (object : Span) (ms : List Member) → HasMembers bytes object ms → HasObject bytes object
members_object bytes object [] h =
    let o = byte_at 123 (Spaced (Byte 125 IsEmpty)) bytes object.start object.end h in
    let c = then_at AreSpaces (Byte 125 IsEmpty) bytes (object.start + 1) object.end o.rest in
    object_of bytes object c.0 o.byte c.1 (stretch_map (Byte 125 IsEmpty) IsLeft bytes c.0 object.end (λ x i. inl i) c.2)
members_object bytes object (m ∷ ms) h =
    let o = byte_at 123 AreSpaces bytes object.start m.name.start h.0 in
    let t : Stretch MembersLeft bytes m.name.start object.end = then_back (IsMember V) (Items (IsMember V) 125) bytes m.name.start m.value.end object.end (over_member bytes m h.1) (items_of bytes m.value.end object.end ms h.2) in
    object_of bytes object m.name.start o.byte o.rest (stretch_map MembersLeft IsLeft bytes m.name.start object.end (λ x i. inr i) t)
