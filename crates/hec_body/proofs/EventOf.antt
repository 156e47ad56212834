-- The event of an object, by the places of its value in all bytes.
use Rattle.std.proofs.Common.{◌≡◌, ℕ, ◌-◌, ◌≤◌, List, length, sym, ◌∙◌, ap, subst, arith, Bor, Option, Some, None}
use Rattle.std.specs.Prelude.{slice_range, codes, option_map, IfSome, IfNone}
use Rattle.std.proofs.lemmas.List.Edits.{length-between}
use Rattle.json_span.specs.Members.{HasNamed, HasObject}
use Rattle.json_span.specs.declared.span.Span.{Span}
use Rattle.json_span.proofs.Alone.{range_alone, span_from, named_alone, named_lies}
use Rattle.hec_body.specs.Events.{whole_of, HasEvent, HasNoEvent}

abbrev text_of : List ℕ → Span → List ℕ
text_of bytes object = slice_range bytes object.start object.end

-- the object's text has a value of that name by itself
alone : (bytes : List ℕ) (object : Span) (value : Option Span) → HasObject bytes object → HasNamed bytes object (codes "\"event\"") value → HasNamed (text_of bytes object) (whole_of (text_of bytes object)) (codes "\"event\"") (option_map (span_from object.start) value)
alone bytes object value o h =
    let size : object.end - object.start ≡ length (text_of bytes object) = sym (length-between bytes object.start object.end o.bound) in
    subst (λ (n : ℕ). HasNamed (text_of bytes object) (record { start = 0; end = n }) (codes "\"event\"") (option_map (span_from object.start) value)) size (named_alone bytes object (codes "\"event\"") value o.bound h)

pub has_event : (bytes : List ℕ) (object value : Span) → HasObject bytes object → HasNamed bytes object (codes "\"event\"") (Some value) → HasEvent (text_of bytes object) (slice_range bytes value.start value.end)
has_event bytes object value o h =
    let a = alone bytes object (Some value) o h in
    let f = a.2 in
    let l = named_lies bytes object (codes "\"event\"") value o.bound h in
    let here : slice_range (text_of bytes object) (value.start - object.start) (value.end - object.start) ≡ slice_range bytes value.start value.end = range_alone bytes object.start object.end value.start value.end l.from l.order l.to o.bound in (
      a.0,
      a.1,
      record {
        before = f.before;
        event = f.member;
        after = f.after;
        whole = f.whole;
        first = f.first;
        named = f.spelt;
        is = sym here ∙ ap (λ (s : Span). slice_range (text_of bytes object) s.start s.end) (sym f.is);
      },
    )

pub has_no_event : (bytes : List ℕ) (object : Span) → HasObject bytes object → HasNamed bytes object (codes "\"event\"") None → HasNoEvent (text_of bytes object)
has_no_event bytes object o h = alone bytes object None o h

-- the value can be read
pub value_inside : (bytes : List ℕ) (object : Span) (value : Option Span) → HasObject bytes object → HasNamed bytes object (codes "\"event\"") value → IfSome value (λ (s : Span). (s.start ≤ s.end) × (s.end ≤ length bytes))
value_inside bytes object None o h = tt
value_inside bytes object (Some value) o h = let l = named_lies bytes object (codes "\"event\"") value o.bound h in (l.order, omega (arith, l.to, o.bound))

-- the same of the bytes that are read there
pub part_event : (bytes : List ℕ) (object : Span) (value : Option Span) (part : Option (Bor (List ℕ))) → HasObject bytes object → HasNamed bytes object (codes "\"event\"") value
    → option_map (λ (t : Bor (List ℕ)). t.now) part ≡ option_map (λ (s : Span). slice_range bytes s.start s.end) value → IfSome part (λ (t : Bor (List ℕ)). HasEvent (slice_range bytes object.start object.end) t.now)
part_event bytes object (Some v) (Some t) o h e =
    let q : t.now ≡ slice_range bytes v.start v.end = cc in
    subst (HasEvent (slice_range bytes object.start object.end)) (sym q) (has_event bytes object v o h)
part_event bytes object (Some v) None o h e = tt
part_event bytes object None (Some t) o h e = absurd cc
part_event bytes object None None o h e = tt

pub part_none : (bytes : List ℕ) (object : Span) (value : Option Span) (part : Option (Bor (List ℕ))) → HasObject bytes object → HasNamed bytes object (codes "\"event\"") value
    → option_map (λ (t : Bor (List ℕ)). t.now) part ≡ option_map (λ (s : Span). slice_range bytes s.start s.end) value → IfNone part (HasNoEvent (slice_range bytes object.start object.end))
part_none bytes object (Some v) (Some t) o h e = tt
part_none bytes object (Some v) None o h e = absurd cc
part_none bytes object None (Some t) o h e = tt
part_none bytes object None None o h e = has_no_event bytes object o h
