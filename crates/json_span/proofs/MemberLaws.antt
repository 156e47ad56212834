-- The members of an object one by one.
use Rattle.std.proofs.Common.{◌≡◌, ◌≢◌, ℕ, ◌+◌, ◌<◌, false, List, [], ◌∷◌, length, get_or, refl, sym, ap, ◌∙◌, suc, zero, subst, arith, inl, inr, ◌⊎◌}
use Rattle.std.specs.Prelude.{slice_range}
use Rattle.json_span.specs.Strings.{IsString}
use Rattle.json_span.specs.Json.{is_space, AreSpaces, Spaced, Byte, Then, IsEmpty, Further, Items, IsMember, Json}
use Rattle.json_span.specs.Machine.{Comma, EndObject, Colon}
use Rattle.json_span.specs.Spans.{Stretch}
use Rattle.json_span.specs.Members.{Separator, IsMemberAt, AreFurther}
use Rattle.json_span.specs.Walk.{IsFollowed, MembersLeft, IsLeft, AreAhead}
use Rattle.json_span.specs.declared.span.Span.{Span}
use Rattle.json_span.specs.declared.object.Member.{Member}
use Rattle.json_span.proofs.ItemLaws.{member_flat}
use Rattle.json_span.proofs.StepForth.{json_scalar}
use Rattle.json_span.proofs.Fronts.{json_more}
use Rattle.json_span.proofs.Stretches.{space_ends, no_spaces}
use Rattle.json_span.proofs.Parts.{stretch_map, then_at, then_back, byte_at, separator_back, followed}

abbrev V : List ℕ → Type 0
V = Json 126

abbrev K : List ℕ → Type 0
K = Items (IsMember V) 125

-- the places of a member: its name's end, its colon, its value's start and end
pub record MemberParts (bytes : List ℕ) (at end : ℕ) : Type 0 where
  pub name_end : ℕ
  pub colon : ℕ
  pub start : ℕ
  pub to : ℕ
  pub name : Stretch IsString bytes at name_end
  pub name_followed : IsFollowed bytes name_end
  pub before : Stretch AreSpaces bytes name_end colon
  pub colon_is : get_or bytes colon 0 ≡ 58
  pub after : Stretch AreSpaces bytes (colon + 1) start
  pub value : Stretch (Json 126) bytes start to
  pub value_followed : IsFollowed bytes to
  pub rest : Stretch (Items (IsMember (Json 126)) 125) bytes to end

pub items_followed : (bytes : List ℕ) (a b : ℕ) → Stretch K bytes a b → IsFollowed bytes a
items_followed bytes a b s = go s.text.0 s.text.1
  where
    go : (n : ℕ) → Further (IsMember V) 125 n (slice_range bytes a b) → IsFollowed bytes a
    go zero h = followed 125 IsEmpty bytes a b (EndObject refl) (record { order = s.order; bound = s.bound; text = h })
    go (suc n) h = followed 44 (Spaced (Then (IsMember V) (Further (IsMember V) 125 n))) bytes a b (Comma refl) (record { order = s.order; bound = s.bound; text = h })

pub member_parts : (bytes : List ℕ) (at end : ℕ) → Stretch MembersLeft bytes at end → MemberParts bytes at end
member_parts bytes at end s =
    let f : Stretch (Then IsString (Spaced (Byte 58 (Spaced (Then V K))))) bytes at end = stretch_map MembersLeft (Then IsString (Spaced (Byte 58 (Spaced (Then V K))))) bytes at end (member_flat V K) s in
    let n = then_at IsString (Spaced (Byte 58 (Spaced (Then V K)))) bytes at end f in
    let c = then_at AreSpaces (Byte 58 (Spaced (Then V K))) bytes n.0 end n.2 in
    let b = byte_at 58 (Spaced (Then V K)) bytes c.0 end c.2 in
    let v = then_at AreSpaces (Then V K) bytes (c.0 + 1) end b.rest in
    let r = then_at V K bytes v.0 end v.2 in
    record {
      name_end = n.0;
      colon = c.0;
      start = v.0;
      to = r.0;
      name = n.1;
      name_followed = followed 58 (Spaced (Then V K)) bytes n.0 end (Colon refl) n.2;
      before = c.1;
      colon_is = b.byte;
      after = v.1;
      value = r.1;
      value_followed = items_followed bytes r.0 end r.2;
      rest = r.2;
    }

-- what the parts are to the walk
pub name_value : (bytes : List ℕ) (a b : ℕ) → Stretch IsString bytes a b → Stretch (Json 127) bytes a b
name_value bytes a b s = stretch_map IsString (Json 127) bytes a b (λ x i. json_scalar 127 x (inl i)) s

pub value_more : (bytes : List ℕ) (a b : ℕ) → Stretch (Json 126) bytes a b → Stretch (Json 127) bytes a b
value_more bytes a b s = stretch_map (Json 126) (Json 127) bytes a b (λ x i. json_more 126 127 x (omega arith) i) s

pub string_byte : (bytes : List ℕ) (a b : ℕ) → Stretch IsString bytes a b → (a < b) × (get_or bytes a 0 ≡ 34)
string_byte bytes a b s =
    let t = byte_at 34 (λ y. Unit) bytes a b (stretch_map IsString (Byte 34 (λ y. Unit)) bytes a b (λ x i. (i.0, i.2, tt)) s) in
    (t.order, t.byte)

pub member_byte : (bytes : List ℕ) (a b : ℕ) → Stretch MembersLeft bytes a b → (a < b) × (get_or bytes a 0 ≡ 34)
member_byte bytes a b s =
    let m = member_parts bytes a b s in
    let t = string_byte bytes a m.name_end m.name in
    (omega (arith, t.0, m.before.order, m.after.order, m.value.order, m.rest.order), t.1)

-- what a value that is known to stand there is found as
abbrev pub Finds : List ℕ → ℕ → Span → Type 0
Finds bytes at found = (start end : ℕ) → Stretch AreSpaces bytes at start → Stretch (Json 127) bytes start end → IsFollowed bytes end → found ≡ record { start = start; end = end }

pub name_found : (bytes : List ℕ) (at end : ℕ) (name : Span) (m : MemberParts bytes at end) → Finds bytes at name → name ≡ record { start = at; end = m.name_end }
name_found bytes at end name m f = f at m.name_end (no_spaces bytes at (omega (arith, m.name.order, m.name.bound))) (name_value bytes at m.name_end m.name) m.name_followed

pub colon_found : (bytes : List ℕ) (at end found : ℕ) (name : Span) (m : MemberParts bytes at end) → Finds bytes at name → Stretch AreSpaces bytes name.end found → (found < length bytes → is_space (get_or bytes found 0) ≡ false) → found ≡ m.colon
colon_found bytes at end found name m n s f =
    let e : name.end ≡ m.name_end = ap (λ z. z.end) (name_found bytes at end name m n) in
    space_ends bytes m.name_end found m.colon (subst (λ z. Stretch AreSpaces bytes z found) e s) m.before f (omega (arith, m.after.order, m.after.bound)) (subst (λ z. is_space z ≡ false) (sym m.colon_is) refl)

pub value_found : (bytes : List ℕ) (at end colon : ℕ) (value : Span) (m : MemberParts bytes at end) → colon ≡ m.colon → Finds bytes (colon + 1) value → value ≡ record { start = m.start; end = m.to }
value_found bytes at end colon value m e f = f m.start m.to (subst (λ z. Stretch AreSpaces bytes (z + 1) m.start) (sym e) m.after) (value_more bytes m.start m.to m.value) m.value_followed

pub member_here : (bytes : List ℕ) (at end : ℕ) (m : MemberParts bytes at end) (result : Member) → result.name ≡ record { start = at; end = m.name_end } → result.value ≡ record { start = m.start; end = m.to } → (result.name.start ≡ at) × IsMemberAt bytes result × Stretch (Items (IsMember (Json 126)) 125) bytes result.value.end end
member_here bytes at end m result n v =
    let a : result.name.start ≡ at = ap (λ s. s.start) n in
    let b : result.name.end ≡ m.name_end = ap (λ s. s.end) n in
    let c : result.value.start ≡ m.start = ap (λ s. s.start) v in
    let d : result.value.end ≡ m.to = ap (λ s. s.end) v in (
      a,
      record {
        name = subst (λ s. Stretch IsString bytes s.start s.end) (sym n) m.name;
        colon = subst (λ s. Stretch (Spaced (Byte 58 AreSpaces)) bytes s.end result.value.start) (sym n) (subst (λ s. Stretch (Spaced (Byte 58 AreSpaces)) bytes m.name_end s.start) (sym v) (separator_back 58 bytes m.name_end m.colon m.start m.before m.colon_is m.after));
        value = subst (λ s. Stretch (Json 126) bytes s.start s.end) (sym v) m.value;
      },
      subst (λ z. Stretch K bytes z end) (sym d) m.rest,
    )

-- after a member
pub record ItemParts (bytes : List ℕ) (from end : ℕ) : Type 0 where
  pub next : ℕ
  pub before : Stretch AreSpaces bytes from next
  pub inside : next < length bytes
  pub space : is_space (get_or bytes next 0) ≡ false
  pub what : Stretch (Byte 125 IsEmpty) bytes next end ⊎ ((get_or bytes next 0 ≡ 44) × Stretch (Spaced MembersLeft) bytes (next + 1) end)

pub item_parts : (bytes : List ℕ) (from end : ℕ) → Stretch K bytes from end → ItemParts bytes from end
item_parts bytes from end s = go s.text.0 s.text.1
  where
    go : (n : ℕ) → Further (IsMember V) 125 n (slice_range bytes from end) → ItemParts bytes from end
    go zero h =
        let t = then_at AreSpaces (Byte 125 IsEmpty) bytes from end (record { order = s.order; bound = s.bound; text = h }) in
        let b = byte_at 125 IsEmpty bytes t.0 end t.2 in
        record {
          next = t.0;
          before = t.1;
          inside = omega (arith, b.order, s.bound);
          space = subst (λ z. is_space z ≡ false) (sym b.byte) refl;
          what = inl t.2;
        }
    go (suc n) h =
        let t = then_at AreSpaces (Byte 44 (Spaced (Then (IsMember V) (Further (IsMember V) 125 n)))) bytes from end (record { order = s.order; bound = s.bound; text = h }) in
        let b = byte_at 44 (Spaced (Then (IsMember V) (Further (IsMember V) 125 n))) bytes t.0 end t.2 in
        record {
          next = t.0;
          before = t.1;
          inside = omega (arith, b.order, s.bound);
          space = subst (λ z. is_space z ≡ false) (sym b.byte) refl;
          what = inr (b.byte, stretch_map (Spaced (Then (IsMember V) (Further (IsMember V) 125 n))) (Spaced MembersLeft) bytes (t.0 + 1) end (λ x i. let j = i.4 in (i.0, i.1, i.2, i.3, (j.0, j.1, j.2, j.3, (n, j.4)))) b.rest);
        }

pub next_found : (bytes : List ℕ) (from end found : ℕ) (m : ItemParts bytes from end) → Stretch AreSpaces bytes from found → (found < length bytes → is_space (get_or bytes found 0) ≡ false) → found ≡ m.next
next_found bytes from end found m s f = space_ends bytes from found m.next s m.before f m.inside m.space

-- a place where a member is due, after white space
pub left_found : (bytes : List ℕ) (from at end : ℕ) → Stretch (Spaced IsLeft) bytes from end → Stretch AreSpaces bytes from at → (at < length bytes → is_space (get_or bytes at 0) ≡ false) → Stretch IsLeft bytes at end
left_found bytes from at end s w f =
    let t = then_at AreSpaces IsLeft bytes from end s in
    let q = go t.0 t.2 in
    let e : at ≡ t.0 = space_ends bytes from at t.0 w t.1 f (omega (arith, q.0, s.bound)) q.1 in
    subst (λ z. Stretch IsLeft bytes z end) (sym e) t.2
  where
    go : (b : ℕ) → Stretch IsLeft bytes b end → (b < end) × (is_space (get_or bytes b 0) ≡ false)
    go b l = which l.text
      where
        which : IsLeft (slice_range bytes b end) → (b < end) × (is_space (get_or bytes b 0) ≡ false)
        which (inl i) = let k = byte_at 125 IsEmpty bytes b end (record { order = l.order; bound = l.bound; text = i }) in (k.order, subst (λ z. is_space z ≡ false) (sym k.byte) refl)
        which (inr i) = let k = member_byte bytes b end (record { order = l.order; bound = l.bound; text = i }) in (k.0, subst (λ z. is_space z ≡ false) (sym k.1) refl)

pub left_split : (bytes : List ℕ) (at end : ℕ) → Stretch IsLeft bytes at end → Stretch (Byte 125 IsEmpty) bytes at end ⊎ Stretch MembersLeft bytes at end
left_split bytes at end l = go l.text
  where
    go : IsLeft (slice_range bytes at end) → Stretch (Byte 125 IsEmpty) bytes at end ⊎ Stretch MembersLeft bytes at end
    go (inl i) = inl (record { order = l.order; bound = l.bound; text = i })
    go (inr i) = inr (record { order = l.order; bound = l.bound; text = i })

pub left_inside : (bytes : List ℕ) (at end : ℕ) → Stretch IsLeft bytes at end → at < length bytes
left_inside bytes at end l = go (left_split bytes at end l)
  where
    go : Stretch (Byte 125 IsEmpty) bytes at end ⊎ Stretch MembersLeft bytes at end → at < length bytes
    go (inl i) = omega (arith, (byte_at 125 IsEmpty bytes at end i).order, i.bound)
    go (inr i) = omega (arith, (member_byte bytes at end i).0, i.bound)

-- The byte after a member tells what is left.
pub comma_left : (bytes : List ℕ) (from next result end : ℕ) → Stretch K bytes from end → Stretch AreSpaces bytes from next → (next < length bytes → is_space (get_or bytes next 0) ≡ false) → get_or bytes next 0 ≡ 44 → Stretch AreSpaces bytes (next + 1) result → (result < length bytes → is_space (get_or bytes result 0) ≡ false) → Stretch MembersLeft bytes result end
comma_left bytes from next result end s w f c v g = go (item_parts bytes from end s)
  where
    go : ItemParts bytes from end → Stretch MembersLeft bytes result end
    go m = which m.what
      where
        same : next ≡ m.next
        same = next_found bytes from end next m w f

        which : Stretch (Byte 125 IsEmpty) bytes m.next end ⊎ ((get_or bytes m.next 0 ≡ 44) × Stretch (Spaced MembersLeft) bytes (m.next + 1) end) → Stretch MembersLeft bytes result end
        which (inl i) =
            let b : get_or bytes m.next 0 ≡ 125 = (byte_at 125 IsEmpty bytes m.next end i).byte in
            let a : get_or bytes m.next 0 ≡ 44 = subst (λ z. get_or bytes z 0 ≡ 44) same c in
            let q : ◌≡◌ {A = ℕ} 125 44 = sym b ∙ a in
            absurd (omega (arith, q))
        which (inr i) =
            let t = then_at AreSpaces MembersLeft bytes (m.next + 1) end i.1 in
            let k = member_byte bytes t.0 end t.2 in
            let e : result ≡ t.0 = space_ends bytes (m.next + 1) result t.0 (subst (λ z. Stretch AreSpaces bytes (z + 1) result) same v) t.1 g (omega (arith, k.0, t.2.bound)) (subst (λ z. is_space z ≡ false) (sym k.1) refl) in
            subst (λ z. Stretch MembersLeft bytes z end) (sym e) t.2

pub brace_left : (bytes : List ℕ) (from next end : ℕ) → Stretch K bytes from end → Stretch AreSpaces bytes from next → (next < length bytes → is_space (get_or bytes next 0) ≡ false) → get_or bytes next 0 ≢ 44 → Stretch (Byte 125 IsEmpty) bytes next end
brace_left bytes from next end s w f c = go (item_parts bytes from end s)
  where
    go : ItemParts bytes from end → Stretch (Byte 125 IsEmpty) bytes next end
    go m = which m.what
      where
        same : next ≡ m.next
        same = next_found bytes from end next m w f

        which : Stretch (Byte 125 IsEmpty) bytes m.next end ⊎ ((get_or bytes m.next 0 ≡ 44) × Stretch (Spaced MembersLeft) bytes (m.next + 1) end) → Stretch (Byte 125 IsEmpty) bytes next end
        which (inl i) = subst (λ z. Stretch (Byte 125 IsEmpty) bytes z end) (sym same) i
        which (inr i) = absurd (c (subst (λ z. get_or bytes z 0 ≡ 44) (sym same) i.0))

left_member : (bytes : List ℕ) (a b : ℕ) → Stretch MembersLeft bytes a b → Stretch IsLeft bytes a b
left_member bytes a b s = stretch_map MembersLeft IsLeft bytes a b (λ x i. inr i) s

pub comma_is_left : (bytes : List ℕ) (from next result end : ℕ) → Stretch K bytes from end → Stretch AreSpaces bytes from next → (next < length bytes → is_space (get_or bytes next 0) ≡ false) → get_or bytes next 0 ≡ 44 → Stretch AreSpaces bytes (next + 1) result → (result < length bytes → is_space (get_or bytes result 0) ≡ false) → Stretch IsLeft bytes result end
comma_is_left bytes from next result end s w f c v g = left_member bytes result end (comma_left bytes from next result end s w f c v g)

pub brace_is_left : (bytes : List ℕ) (from next end : ℕ) → Stretch K bytes from end → Stretch AreSpaces bytes from next → (next < length bytes → is_space (get_or bytes next 0) ≡ false) → get_or bytes next 0 ≢ 44 → Stretch IsLeft bytes next end
brace_is_left bytes from next end s w f c = stretch_map (Byte 125 IsEmpty) IsLeft bytes next end (λ x i. inl i) (brace_left bytes from next end s w f c)

-- no place has both a closing brace and a member
not_both : (bytes : List ℕ) (a b c : ℕ) → Stretch (Byte 125 IsEmpty) bytes a b → Stretch IsString bytes a c → ⊥
not_both bytes a b c s t =
    let p : get_or bytes a 0 ≡ 125 = (byte_at 125 IsEmpty bytes a b s).byte in
    let q : get_or bytes a 0 ≡ 34 = (string_byte bytes a c t).1 in
    let r : ◌≡◌ {A = ℕ} 125 34 = sym p ∙ q in
    omega (arith, r)

pub comma_ahead : (bytes : List ℕ) (from next result end : ℕ) → Stretch K bytes from end → Stretch AreSpaces bytes from next → (next < length bytes → is_space (get_or bytes next 0) ≡ false) → get_or bytes next 0 ≡ 44 → Stretch AreSpaces bytes (next + 1) result → (result < length bytes → is_space (get_or bytes result 0) ≡ false) → (rest : List Member) → AreAhead bytes result rest end → AreFurther bytes from rest end
comma_ahead bytes from next result end s w f c v g [] h = absurd (not_both bytes result end (m.name_end) h m.name)
  where
    m : MemberParts bytes result end
    m = member_parts bytes result end (comma_left bytes from next result end s w f c v g)
comma_ahead bytes from next result end s w f c v g (r ∷ rest) h = (subst (Stretch (Separator 44) bytes from) (sym h.0) (separator_back 44 bytes from next result w c v), h.1, h.2)

pub brace_ahead : (bytes : List ℕ) (from next end : ℕ) → Stretch K bytes from end → Stretch AreSpaces bytes from next → (next < length bytes → is_space (get_or bytes next 0) ≡ false) → get_or bytes next 0 ≢ 44 → (rest : List Member) → AreAhead bytes next rest end → AreFurther bytes from rest end
brace_ahead bytes from next end s w f c [] h = then_back AreSpaces (Byte 125 IsEmpty) bytes from next end w h
brace_ahead bytes from next end s w f c (r ∷ rest) h = absurd (not_both bytes next end r.name.end (brace_left bytes from next end s w f c) (subst (λ z. Stretch IsString bytes z r.name.end) h.0 h.1.name))
