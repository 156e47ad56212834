-- Each raw body is lines, or has a first fault; and each query asks for ids, or for none.
use Rattle.std.proofs.Common.{◌≡◌, ◌⊎◌, inl, inr, ℕ, ◌<◌, ◌≤◌, Bool, true, false, List, [], ◌∷◌, ◌++◌, length, refl, sym, ◌∙◌, ap, arith, append_assoc, append-nil, length-append}
use Rattle.std.specs.Prelude.{codes, IsUtf8, Option, Some, None, Ok, Err}
use Rattle.std.specs.List.{All}
use Rattle.std.specs.Str.{is_utf8}
use Rattle.std.proofs.lemmas.Bool.{cases_lt}
use Rattle.std.proofs.lemmas.List.Elements.{All-append, All-cons, All-nil}
use Rattle.std.proofs.lemmas.Str.{IsUtf8-from_is_utf8, is_utf8-from_IsUtf8}
use Rattle.serde_json.specs.Data.{Data, Items, array, boolean, float, item, negative, no_items, null, number, object, string, unsigned}
use Rattle.serde_json.specs.Find.{get}
use Rattle.serde_json.specs.Read.{read}
use Rattle.event_map.proofs.Deciding.{Decided}
use Rattle.body_faults.specs.declared.fault.BodyFault.TheVariants.{NoData, Format, TooMany}
use Rattle.hec_body.specs.Acks.{AsksFor, distinct, numbers}
use Rattle.hec_body.specs.Limits.{IsShort}
use Rattle.hec_body.specs.Lines.{IsLineCut, filled_lines}
use Rattle.collector_laws.specs.Outcomes.{HasCut, QueryOrNot, SomeLineCut}

-- ---- lines

all_short : (body : List ℕ) (before : List (List ℕ)) → filled_lines body ≡ before → length before ≤ 10000 → All IsShort before → HasCut IsLineCut body
all_short body [] are few short = (Err NoData, are, λ e. cc)
all_short body (x ∷ before) are few short = (Ok (x ∷ before), (sym are, record { some = omega arith; few = few; short = short }), λ e. cc)

-- some short lines, and those after them
on : (body : List ℕ) (before lines : List (List ℕ)) → filled_lines body ≡ before ++ lines → length before ≤ 10000 → All IsShort before → HasCut IsLineCut body
on body before [] are few short = all_short body before (are ∙ append-nil before) few short
on body before (x ∷ lines) are few short =
    by (cases_lt (length before) 10000) (cases_lt 131072 (length x))
    (λ room each. on body (before ++ x ∷ []) lines (are ∙ sym (append_assoc before (x ∷ []) lines)) room each)
  where
    by : (length before < 10000) ⊎ (10000 ≤ length before) → (131072 < length x) ⊎ (length x ≤ 131072) → (length (before ++ x ∷ []) ≤ 10000 → All IsShort (before ++ x ∷ []) → HasCut IsLineCut body) → HasCut IsLineCut body
    by (inr full) d others = (Err TooMany, (before, x, lines, are, omega (arith, few, full), short, tt), λ e. cc)
    by (inl room) (inl long) others = (Err (Format (length before)), (room, (before, x, lines, are, refl, short, long)), λ e. cc)
    by (inl room) (inr low) others = others (omega (arith, room, length-append before (x ∷ []))) (All-append IsShort before (x ∷ []) short (All-cons IsShort x [] low (All-nil IsShort)))

pub some_line_cut : SomeLineCut
some_line_cut body = on body [] (filled_lines body) refl (omega arith) (All-nil IsShort)

-- ---- queries

-- the items are numbers, or they aren't
abbrev AreNumbers : Items → Type 0
AreNumbers items = (asked : List ℕ) × (items ≡ numbers asked)

no_number : (d : Data) (items : Items) → ((n : ℕ) → d ≡ number (unsigned n) → ⊥) → AreNumbers (item d items) → ⊥
no_number d items isnt ([], e) = absurd (cc)
no_number d items isnt (n ∷ ns, e) = isnt n (let q : d ≡ number (unsigned n) = cc in q)

numbers_or_not : (items : Items) → Decided (AreNumbers items)
numbers_or_not no_items = inl ([], refl)
numbers_or_not (item (number (unsigned n)) items) = by (numbers_or_not items)
  where
    by : Decided (AreNumbers items) → Decided (AreNumbers (item (number (unsigned n)) items))
    by (inl (ns, e)) = inl (n ∷ ns, ap (λ (is : Items). item (number (unsigned n)) is) e)
    by (inr never) = inr (λ h. shorter h)
      where
        shorter : AreNumbers (item (number (unsigned n)) items) → ⊥
        shorter ([], e) = absurd (cc)
        shorter (m ∷ ms, e) = never (ms, let q : items ≡ numbers ms = cc in q)
numbers_or_not (item (number (negative z)) items) = inr (no_number (number (negative z)) items (λ n e. cc))
numbers_or_not (item (number (float x)) items) = inr (no_number (number (float x)) items (λ n e. cc))
numbers_or_not (item null items) = inr (no_number null items (λ n e. cc))
numbers_or_not (item (boolean b) items) = inr (no_number (boolean b) items (λ n e. cc))
numbers_or_not (item (string s) items) = inr (no_number (string s) items (λ n e. cc))
numbers_or_not (item (array ds) items) = inr (no_number (array ds) items (λ n e. cc))
numbers_or_not (item (object ms) items) = inr (no_number (object ms) items (λ n e. cc))

-- what is found under `acks` is such an array of at most 10,000, or it isn't
abbrev IsAsked : Option Data → Type 0
IsAsked found = (asked : List ℕ) × (found ≡ Some (array (numbers asked))) × (length asked ≤ 10000)

numbers_once : (xs ys : List ℕ) → numbers xs ≡ numbers ys → xs ≡ ys
numbers_once [] [] e = refl
numbers_once [] (y ∷ ys) e = absurd (cc)
numbers_once (x ∷ xs) [] e = absurd (cc)
numbers_once (x ∷ xs) (y ∷ ys) e = let same = numbers_once xs ys (let q : numbers xs ≡ numbers ys = cc in q) in let first : x ≡ y = cc in cc

asked_or_not : (found : Option Data) → Decided (IsAsked found)
asked_or_not None = inr (λ h. let e = h.1 in cc)
asked_or_not (Some null) = inr (λ h. let e = h.1 in cc)
asked_or_not (Some (boolean b)) = inr (λ h. let e = h.1 in cc)
asked_or_not (Some (number n)) = inr (λ h. let e = h.1 in cc)
asked_or_not (Some (string s)) = inr (λ h. let e = h.1 in cc)
asked_or_not (Some (object ms)) = inr (λ h. let e = h.1 in cc)
asked_or_not (Some (array items)) = by (numbers_or_not items)
  where
    by : Decided (AreNumbers items) → Decided (IsAsked (Some (array items)))
    by (inr never) = inr (λ h. never (h.0, let e = h.1 in let q : items ≡ numbers h.0 = cc in q))
    by (inl (ns, e)) = elim (cases_lt 10000 (length ns)) [
      | inl many ↦ inr (λ h. let is = h.1 in let q : items ≡ numbers h.0 = cc in let same : h.0 ≡ ns = numbers_once h.0 ns (sym q ∙ e) in absurd (omega (arith, many, h.2, ap (λ (l : List ℕ). length l) same)))
      | inr few ↦ inl (ns, ap (λ (is : Items). Some (array is)) e, few)
    ]

query_of : (body : List ℕ) (value : Data) → IsUtf8 body → read body ≡ Some value → Decided (IsAsked (get (codes "acks") value)) → ((ids : List ℕ) × AsksFor body ids) ⊎ ((ids : List ℕ) → ¬ AsksFor body ids)
query_of body value utf8 is (inl (asked, found, few)) = inl (distinct asked, (asked, record { value = value; utf8 = utf8; value_is = is; acks = found; few = few }, refl))
query_of body value utf8 is (inr never) = inr (λ ids h.
    let q = h.1 in
    let there = q.value_is in
    let same : q.value ≡ value = cc in
    never (h.0, ap (λ (d : Data). get (codes "acks") d) (sym same) ∙ q.acks, q.few))

pub query_or_not : QueryOrNot
query_or_not body = by (is_utf8 body) refl (read body) refl
  where
    by : (b : Bool) → is_utf8 body ≡ b → (o : Option Data) → read body ≡ o → ((ids : List ℕ) × AsksFor body ids) ⊎ ((ids : List ℕ) → ¬ AsksFor body ids)
    by false not o is = inr (λ ids h. let yes = is_utf8-from_IsUtf8 body h.1.utf8 in cc)
    by true text None is = inr (λ ids h. let there = h.1.value_is in cc)
    by true text (Some value) is = query_of body value (IsUtf8-from_is_utf8 body text) is (asked_or_not (get (codes "acks") value))
