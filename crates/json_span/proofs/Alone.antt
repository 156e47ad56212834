-- An object's text by itself: its members stand there as they stand in all bytes.
use Rattle.std.proofs.Common.{◌≡◌, ℕ, ◌-◌, ◌≤◌, List, [], ◌∷◌, ◌++◌, length, take, drop, map, sym, ap, ◌∙◌, subst, arith, Option, Some, None}
use Rattle.std.specs.Prelude.{slice_range, option_map}
use Rattle.std.specs.List.{All}
use Rattle.std.proofs.lemmas.List.{map-append}
use Rattle.std.proofs.lemmas.List.Edits.{length-between}
use Rattle.std.proofs.lemmas.List.Elements.{All-nil, All-cons, All-head, All-tail}
use Rattle.std.proofs.Math.Seq.{take-append_seam, drop-append_seam}
use Rattle.json_span.specs.Json.{Byte, AreSpaces, Spaced, IsEmpty}
use Rattle.json_span.specs.Spans.{Stretch}
use Rattle.json_span.specs.Members.{HasMembers, Separator, IsMemberAt, AreFurther, IsSpelt, FirstSpelt, HasNamed}
use Rattle.json_span.specs.declared.span.Span.{Span}
use Rattle.json_span.specs.declared.object.Member.{Member}
use Rattle.json_span.proofs.Stretches.{range_split}

-- places by the text's start
abbrev pub span_from : ℕ → Span → Span
span_from s t = record { start = t.start - s; end = t.end - s }

abbrev pub member_in : ℕ → Member → Member
member_in s m = record { name = span_from s m.name; value = span_from s m.value }

pub range_alone : (bytes : List ℕ) (s e a b : ℕ) → s ≤ a → a ≤ b → b ≤ e → e ≤ length bytes → slice_range (slice_range bytes s e) (a - s) (b - s) ≡ slice_range bytes a b
range_alone bytes s e a b f g h k =
    let x = slice_range bytes s a in
    let y = slice_range bytes a b in
    let z = slice_range bytes b e in
    let whole : slice_range bytes s e ≡ x ++ (y ++ z) = range_split bytes s a e f (omega (arith, g, h)) ∙ ap (λ (w : List ℕ). x ++ w) (range_split bytes a b e g h) in
    let front : length x ≡ a - s = length-between bytes s a (omega (arith, g, h, k)) in
    let part : length y ≡ b - a = length-between bytes a b (omega (arith, h, k)) in
    let size : b - s - (a - s) ≡ length y = omega (arith, part, f, g) in
    ap (λ (w : List ℕ). take (b - s - (a - s)) (drop (a - s) w)) whole
    ∙ ap (λ (n : ℕ). take n (drop (a - s) (x ++ (y ++ z)))) size
    ∙ ap (λ (n : ℕ). take (length y) (drop n (x ++ (y ++ z)))) (sym front)
    ∙ ap (take (length y)) (drop-append_seam x (y ++ z))
    ∙ take-append_seam y z

module _ (bytes : List ℕ) (s e : ℕ) (bound : e ≤ length bytes) where
  stretch_alone : (P : List ℕ → Type 0) (a b : ℕ) → s ≤ a → b ≤ e → Stretch P bytes a b → Stretch P (slice_range bytes s e) (a - s) (b - s)
  stretch_alone P a b f h t = record {
    order = omega (arith, t.order);
    bound = let l : length (slice_range bytes s e) ≡ e - s = length-between bytes s e bound in omega (arith, l, h);
    text = subst P (sym (range_alone bytes s e a b f t.order h bound)) t.text;
  }

  stretch_front : (P : List ℕ → Type 0) (b : ℕ) → b ≤ e → Stretch P bytes s b → Stretch P (slice_range bytes s e) 0 (b - s)
  stretch_front P b h t = let z : s - s ≡ 0 = omega arith in subst (λ (n : ℕ). Stretch P (slice_range bytes s e) n (b - s)) z (stretch_alone P s b (omega arith) h t)

  member_alone : (m : Member) → s ≤ m.name.start → m.value.end ≤ e → IsMemberAt bytes m → IsMemberAt (slice_range bytes s e) (member_in s m)
  member_alone m f h i = record {
    name = stretch_alone _ m.name.start m.name.end f (omega (arith, i.colon.order, i.value.order, h)) i.name;
    colon = stretch_alone _ m.name.end m.value.start (omega (arith, i.name.order, f)) (omega (arith, i.value.order, h)) i.colon;
    value = stretch_alone _ m.value.start m.value.end (omega (arith, i.name.order, i.colon.order, f)) h i.value;
  }

  further_end : (at : ℕ) (ms : List Member) → AreFurther bytes at ms e → at ≤ e
  further_end at [] h = h.order
  further_end at (m ∷ ms) h = let r = further_end m.value.end ms h.2 in omega (arith, r, h.0.order, h.1.name.order, h.1.colon.order, h.1.value.order)

  further_alone : (at : ℕ) (ms : List Member) → s ≤ at → AreFurther bytes at ms e → AreFurther (slice_range bytes s e) (at - s) (map (member_in s) ms) (e - s)
  further_alone at [] f h = stretch_alone (Spaced (Byte 125 IsEmpty)) at e f (omega arith) h
  further_alone at (m ∷ ms) f h =
      let r : m.value.end ≤ e = further_end m.value.end ms h.2 in
      let from : s ≤ m.name.start = omega (arith, f, h.0.order) in (
        stretch_alone (Separator 44) at m.name.start f (omega (arith, r, h.1.name.order, h.1.colon.order, h.1.value.order)) h.0,
        member_alone m from r h.1,
        further_alone m.value.end ms (omega (arith, from, h.1.name.order, h.1.colon.order, h.1.value.order)) h.2,
      )

  -- a member whose name lies in the text
  abbrev IsIn : Member → Type 0
  IsIn m = (s ≤ m.name.start) × (m.name.start ≤ m.name.end) × (m.name.end ≤ e) × (m.value.start ≤ m.value.end) × (m.value.end ≤ e) × (s ≤ m.value.start)

  is_in : (m : Member) → s ≤ m.name.start → m.value.end ≤ e → IsMemberAt bytes m → IsIn m
  is_in m f h i = (f, i.name.order, omega (arith, i.colon.order, i.value.order, h), i.value.order, h, omega (arith, f, i.name.order, i.colon.order))

  further_in : (at : ℕ) (ms : List Member) → s ≤ at → AreFurther bytes at ms e → All IsIn ms
  further_in at [] f h = All-nil IsIn
  further_in at (m ∷ ms) f h =
      let r : m.value.end ≤ e = further_end m.value.end ms h.2 in
      let from : s ≤ m.name.start = omega (arith, f, h.0.order) in
      All-cons IsIn m ms (is_in m from r h.1) (further_in m.value.end ms (omega (arith, from, h.1.name.order, h.1.colon.order, h.1.value.order)) h.2)

  spelt_alone : (name : List ℕ) (m : Member) → IsIn m → slice_range (slice_range bytes s e) (m.name.start - s) (m.name.end - s) ≡ slice_range bytes m.name.start m.name.end
  spelt_alone name m i = range_alone bytes s e m.name.start m.name.end i.0 i.1 i.2 bound

  others_alone : (name : List ℕ) (ms : List Member) → All IsIn ms → All (λ m. ¬ IsSpelt bytes name m) ms → All (λ m. ¬ IsSpelt (slice_range bytes s e) name m) (map (member_in s) ms)
  others_alone name [] i a = All-nil (λ m. ¬ IsSpelt (slice_range bytes s e) name m)
  others_alone name (m ∷ ms) i a =
      All-cons (λ m. ¬ IsSpelt (slice_range bytes s e) name m) (member_in s m) (map (member_in s) ms)
      (λ q. All-head (λ m. ¬ IsSpelt bytes name m) m ms a (sym (spelt_alone name m (All-head IsIn m ms i)) ∙ q))
      (others_alone name ms (All-tail IsIn m ms i) (All-tail (λ m. ¬ IsSpelt bytes name m) m ms a))

  split_in : (before : List Member) (m : Member) (after : List Member) → All IsIn (before ++ m ∷ after) → All IsIn before × IsIn m
  split_in [] m after i = (All-nil IsIn, All-head IsIn m after i)
  split_in (b ∷ before) m after i =
      let r = split_in before m after (All-tail IsIn b (before ++ m ∷ after) i) in
      (All-cons IsIn b before (All-head IsIn b (before ++ m ∷ after) i) r.0, r.1)

  first_alone : (name : List ℕ) (ms : List Member) (value : Option Span) → All IsIn ms → FirstSpelt bytes name ms value → FirstSpelt (slice_range bytes s e) name (map (member_in s) ms) (option_map (span_from s) value)
  first_alone name ms None i a = others_alone name ms i a
  first_alone name ms (Some value) i a =
      let in_parts = split_in a.before a.member a.after (subst (All IsIn) a.whole i) in
      record {
        before = map (member_in s) a.before;
        member = member_in s a.member;
        after = map (member_in s) a.after;
        whole = ap (map (member_in s)) a.whole ∙ map-append (member_in s) a.before (a.member ∷ a.after);
        first = others_alone name a.before in_parts.0 a.first;
        spelt = spelt_alone name a.member in_parts.1 ∙ a.spelt;
        is = ap (span_from s) a.is;
      }

pub members_alone : (bytes : List ℕ) (object : Span) (ms : List Member) → object.end ≤ length bytes → HasMembers bytes object ms → HasMembers (slice_range bytes object.start object.end) (record { start = 0; end = object.end - object.start }) (map (member_in object.start) ms)
members_alone bytes object [] l h = stretch_front bytes object.start object.end l (Byte 123 (Spaced (Byte 125 IsEmpty))) object.end (omega arith) h
members_alone bytes object (m ∷ ms) l h =
    let r : m.value.end ≤ object.end = further_end bytes object.start object.end l m.value.end ms h.2 in (
      stretch_front bytes object.start object.end l (Byte 123 AreSpaces) m.name.start (omega (arith, r, h.1.name.order, h.1.colon.order, h.1.value.order)) h.0,
      member_alone bytes object.start object.end l m h.0.order r h.1,
      further_alone bytes object.start object.end l m.value.end ms (omega (arith, h.0.order, h.1.name.order, h.1.colon.order, h.1.value.order)) h.2,
    )

members_in : (bytes : List ℕ) (object : Span) (ms : List Member) (l : object.end ≤ length bytes) → HasMembers bytes object ms → All (IsIn bytes object.start object.end l) ms
members_in bytes object [] l h = All-nil (IsIn bytes object.start object.end l)
members_in bytes object (m ∷ ms) l h =
    let r : m.value.end ≤ object.end = further_end bytes object.start object.end l m.value.end ms h.2 in
    All-cons (IsIn bytes object.start object.end l) m ms (is_in bytes object.start object.end l m h.0.order r h.1) (further_in bytes object.start object.end l m.value.end ms (omega (arith, h.0.order, h.1.name.order, h.1.colon.order, h.1.value.order)) h.2)

-- the object's text by itself has the same value of that name
pub named_alone : (bytes : List ℕ) (object : Span) (name : List ℕ) (value : Option Span) → object.end ≤ length bytes → HasNamed bytes object name value → HasNamed (slice_range bytes object.start object.end) (record { start = 0; end = object.end - object.start }) name (option_map (span_from object.start) value)
named_alone bytes object name value l h = (
  map (member_in object.start) h.0,
  members_alone bytes object h.0 l h.1,
  first_alone bytes object.start object.end l name h.0 value (members_in bytes object h.0 l h.1) h.2,
)

-- where the value lies in all bytes
pub record LiesIn (object value : Span) : Type 0 where
  pub from : object.start ≤ value.start
  pub order : value.start ≤ value.end
  pub to : value.end ≤ object.end

pub named_lies : (bytes : List ℕ) (object : Span) (name : List ℕ) (value : Span) → object.end ≤ length bytes → HasNamed bytes object name (Some value) → LiesIn object value
named_lies bytes object name value l h =
    let a = h.2 in
    let i = (split_in bytes object.start object.end l a.before a.member a.after (subst (All (IsIn bytes object.start object.end l)) a.whole (members_in bytes object h.0 l h.1))).1 in
    subst (LiesIn object) a.is (record { from = i.5; order = i.3; to = i.4 })
