-- The walk over an object's members.
use Rattle.std.proofs.Common.{◌≡◌, ◌≢◌, ℕ, ◌+◌, ◌<◌, false, List, [], ◌∷◌, ◌++◌, length, get_or, sym, ◌∙◌, subst, append_assoc, arith, inl, inr, ◌⊎◌}
use Rattle.std.proofs.lemmas.List.{append-nil}
use Rattle.json_span.specs.Json.{is_space, AreSpaces, Spaced, Byte, IsEmpty}
use Rattle.json_span.specs.Spans.{Stretch}
use Rattle.json_span.specs.Members.{IsMemberAt, AreFurther, HasMembers, HasObject}
use Rattle.json_span.specs.Walk.{MembersLeft, IsLeft, AreAhead}
use Rattle.json_span.specs.declared.span.Span.{Span}
use Rattle.json_span.specs.declared.object.Member.{Member}
use Rattle.json_span.proofs.Parts.{ByteAt, byte_at, byte_back, then_back}
use Rattle.json_span.proofs.MemberLaws.{left_found, left_split, member_byte}

-- the members so far, and those ahead after them, are the object's
pub record Walk (bytes : List ℕ) (object : Span) (at : ℕ) (found : List Member) : Type 0 where
  pub left : Stretch IsLeft bytes at object.end
  pub ahead : (rest : List Member) → AreAhead bytes at rest object.end → HasMembers bytes object (found ++ rest)

-- inside the opening brace
pub inside : (bytes : List ℕ) (object : Span) → HasObject bytes object → ByteAt 123 (Spaced IsLeft) bytes object.start object.end
inside bytes object s = byte_at 123 (Spaced IsLeft) bytes object.start object.end s

pub walk_begins : (bytes : List ℕ) (object : Span) (at : ℕ) → HasObject bytes object → Stretch AreSpaces bytes (object.start + 1) at → (at < length bytes → is_space (get_or bytes at 0) ≡ false) → Walk bytes object at []
walk_begins bytes object at s w f = record { left = left_found bytes (object.start + 1) at object.end i.rest w f; ahead = ahead }
  where
    i : ByteAt 123 (Spaced IsLeft) bytes object.start object.end
    i = inside bytes object s

    ahead : (rest : List Member) → AreAhead bytes at rest object.end → HasMembers bytes object rest
    ahead [] h = byte_back 123 (Spaced (Byte 125 IsEmpty)) bytes object.start object.end i.byte (then_back AreSpaces (Byte 125 IsEmpty) bytes (object.start + 1) at object.end w h)
    ahead (m ∷ rest) h = (byte_back 123 AreSpaces bytes object.start m.name.start i.byte (subst (Stretch AreSpaces bytes (object.start + 1)) (sym h.0) w), h.1, h.2)

pub walk_goes : (bytes : List ℕ) (object : Span) (at to : ℕ) (found : List Member) (m : Member) → Walk bytes object at found → m.name.start ≡ at → IsMemberAt bytes m → Stretch IsLeft bytes to object.end → ((rest : List Member) → AreAhead bytes to rest object.end → AreFurther bytes m.value.end rest object.end) → Walk bytes object to (found ++ m ∷ [])
walk_goes bytes object at to found m w e i l f = record {
  left = l;
  ahead = λ rest h. subst (HasMembers bytes object) (sym (append_assoc found (m ∷ []) rest)) (w.ahead (m ∷ rest) (e, i, f rest h));
}

pub walk_member : (bytes : List ℕ) (object : Span) (at : ℕ) (found : List Member) → Walk bytes object at found → get_or bytes at 0 ≢ 125 → Stretch MembersLeft bytes at object.end
walk_member bytes object at found w n = go (left_split bytes at object.end w.left)
  where
    go : Stretch (Byte 125 IsEmpty) bytes at object.end ⊎ Stretch MembersLeft bytes at object.end → Stretch MembersLeft bytes at object.end
    go (inl i) = absurd (n (byte_at 125 IsEmpty bytes at object.end i).byte)
    go (inr i) = i

pub walk_ends : (bytes : List ℕ) (object : Span) (at : ℕ) (found : List Member) → Walk bytes object at found → get_or bytes at 0 ≡ 125 → HasMembers bytes object found
walk_ends bytes object at found w q = go (left_split bytes at object.end w.left)
  where
    go : Stretch (Byte 125 IsEmpty) bytes at object.end ⊎ Stretch MembersLeft bytes at object.end → HasMembers bytes object found
    go (inl i) = subst (HasMembers bytes object) (append-nil found) (w.ahead [] i)
    go (inr i) =
        let p : get_or bytes at 0 ≡ 34 = (member_byte bytes at object.end i).1 in
        let r : ◌≡◌ {A = ℕ} 125 34 = sym q ∙ p in
        absurd (omega (arith, r))
