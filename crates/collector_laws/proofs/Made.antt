-- What the maps make: the object of a value of at most 126 levels, or of a deeper object.
use Rattle.std.proofs.Common.{◌≡◌, ◌⊎◌, inl, inr, ℕ, ◌<◌, ◌≤◌, List, [], ◌∷◌, ◌++◌, length, refl, sym, ◌∙◌, ap, subst, arith, append_assoc}
use Rattle.std.specs.Prelude.{◌≢◌, codes}
use Rattle.std.proofs.lemmas.List.{append-nil}
use Rattle.std.proofs.lemmas.List.Elements.{All-cons, All-nil}
use Rattle.event_form.specs.declared.event.Event.{Event}
use Rattle.event_form.specs.declared.event.Origin.{Origin}
use Rattle.event_form.specs.declared.event.Origin.TheVariants.{Relp, HecRaw, LumberJson, LumberData, HecEvent}
use Rattle.json_span.specs.Json.{AreSpaces, Json, JsonObject}
use Rattle.json_span.specs.Members.{IsObjectText}
use Rattle.json_span.specs.Strings.{IsString, Plain}
use Rattle.json_span.proofs.Fronts.{json_more}
use Rattle.json_span.proofs.ObjectLaws.{json_object, object_json}
use Rattle.event_map.specs.Maps.{HecBy, IsHecObject, OfPairs}
use Rattle.event_map.specs.Objects.{event_object, pairs_object}
use Rattle.event_map.specs.Strings.{event_string}
use Rattle.body_faults.specs.declared.fault.BodyFault.TheVariants.{Format}
use Rattle.hec_body.specs.Events.{BeginsNoObject, BeginsObject, HasEvent, IsBlank, IsEventObject, IsFaultBehind}
use Rattle.hec_body.specs.Limits.{IsLong, IsShort}
use Rattle.hec_body.proofs.Front.{object_brace}
use Rattle.collector_laws.specs.Taken.{HasRoom, IsDeep, IsObjectOf, IsOne, MappedIsTaken, OthersAreRefused, ValueBy}
use Rattle.collector_laws.proofs.Objects.{has_event, none_begins, object_is, object_of}
use Rattle.collector_laws.proofs.Pairs.{pairs_is}
use Rattle.collector_laws.proofs.Strings.{string_is, string_some}

-- ---- its values

dash_is : IsString (codes "\"-\"")
dash_is = (codes "-\"", Plain ∷ [], refl, (45 ∷ [], codes "\"", (45, refl, refl), refl, refl))

value_string : (text : List ℕ) → IsString (event_string text)
value_string [] = dash_is
value_string (c ∷ text) = string_is (c ∷ text)

value_some : (text : List ℕ) → 2 < length (event_string text)
value_some [] = omega arith
value_some (c ∷ text) = string_some (c ∷ text) (omega arith)

string_json : (x : List ℕ) → IsString x → Json 126 x
string_json x is = inl (inl is)

string_not_blank : (x : List ℕ) → IsString x → 2 < length x → IsBlank x → ⊥
string_not_blank x is long (inl none) = omega (arith, long, ap length none)
string_not_blank x is long (inr null) = let e : 34 ∷ is.0 ≡ codes "null" = sym is.2 ∙ null in let q : ◌≡◌ {A = ℕ} 34 110 = cc in omega (arith, q)

object_not_blank : (n : ℕ) (x : List ℕ) → JsonObject n x → IsBlank x → ⊥
object_not_blank n x is (inl none) = let b = object_brace n x is in let e : 123 ∷ b.0 ≡ codes "\"\"" = sym b.1 ∙ none in let q : ◌≡◌ {A = ℕ} 123 34 = cc in omega (arith, q)
object_not_blank n x is (inr null) = let b = object_brace n x is in let e : 123 ∷ b.0 ≡ codes "null" = sym b.1 ∙ null in let q : ◌≡◌ {A = ℕ} 123 110 = cc in omega (arith, q)

-- an object of fewer levels
object_more : (d n : ℕ) (x : List ℕ) → d ≤ n → JsonObject d x → JsonObject n x
object_more d n x few is =
    let b = object_brace d x is in
    subst (JsonObject n) (sym b.1) (json_object n b.0 (subst (Json n) b.1 (json_more d n x few (object_json d x is))))

-- ---- the object of a value of at most 126 levels

pub record IsMade (o : Origin) (text bytes : List ℕ) : Type 0 where
  pub front : List ℕ
  pub value : List ℕ
  pub back : List ℕ
  pub front_is : AreSpaces front
  pub back_is : AreSpaces back
  pub levels : Json 126 value
  pub not_blank : IsBlank value → ⊥
  pub bytes_are : bytes ≡ object_of front value back
  pub value_is : ValueBy o text value

string_made : (o : Origin) (text bytes : List ℕ) → bytes ≡ event_object (event_string text) → ValueBy o text (event_string text) → IsMade o text bytes
string_made o text bytes is by = record {
  front = [];
  value = event_string text;
  back = [];
  front_is = tt;
  back_is = tt;
  levels = string_json (event_string text) (value_string text);
  not_blank = string_not_blank (event_string text) (value_string text) (value_some text);
  bytes_are = is;
  value_is = by;
}

-- the text's object in its event object
inside_text : (text w x v : List ℕ) → text ≡ w ++ (x ++ v) → event_object text ≡ object_of w x v
inside_text text w x v is =
    ap event_object is ∙ ap (λ (l : List ℕ). codes "{\"event\":" ++ l) (append_assoc w (x ++ v) (codes "}") ∙ ap (λ (l : List ℕ). w ++ l) (append_assoc x v (codes "}")))

object_made : (text bytes : List ℕ) → bytes ≡ event_object text → IsObjectOf 126 text → IsMade LumberJson text bytes
object_made text bytes is (w, r, ws, e, (x, v, object, f, vs)) =
    let whole : text ≡ w ++ (x ++ v) = e ∙ ap (λ (l : List ℕ). w ++ l) f in
    record {
      front = w;
      value = x;
      back = v;
      front_is = ws;
      back_is = vs;
      levels = object_json 126 x object;
      not_blank = object_not_blank 126 x object;
      bytes_are = is ∙ inside_text text w x v whole;
      value_is = inl (record { front = w; back = v; front_is = ws; back_is = vs; object = object_more 126 127 x (omega arith) object; text_is = whole });
    }

pairs_made : (text bytes : List ℕ) → OfPairs (λ pairs. event_object (pairs_object pairs)) text bytes → IsMade LumberData text bytes
pairs_made text bytes (h, is) = record {
  front = [];
  value = pairs_object h.pairs;
  back = [];
  front_is = tt;
  back_is = tt;
  levels = object_json 126 (pairs_object h.pairs) (object_more 1 126 (pairs_object h.pairs) (omega arith) (pairs_is h.pairs));
  not_blank = object_not_blank 1 (pairs_object h.pairs) (pairs_is h.pairs);
  bytes_are = is;
  value_is = (h, refl);
}

pub made : (o : Origin) (text bytes : List ℕ) → HecBy o text bytes → o ≢ HecEvent → (o ≡ LumberJson → IsObjectText text → IsObjectOf 126 text) → IsMade o text bytes
made Relp text bytes is not room = string_made Relp text bytes is refl
made HecRaw text bytes is not room = string_made HecRaw text bytes is refl
made LumberJson text bytes (inl object) not room = object_made text bytes object.1 (room refl object.0)
made LumberJson text bytes (inr other) not room = string_made LumberJson text bytes other.1 (inr (other.0, refl))
made LumberData text bytes is not room = pairs_made text bytes is
made HecEvent text bytes is not room = absurd (not refl)

-- ---- it begins what follows it, and is an event where it is short

pub made_begins : (o : Origin) (text bytes more : List ℕ) → IsMade o text bytes → BeginsObject (bytes ++ more) bytes more
made_begins o text bytes more m = record {
  space = [];
  spaces = tt;
  whole = refl;
  object = subst (JsonObject 127) (sym m.bytes_are) (object_is 126 m.front m.value m.back m.front_is m.levels m.back_is);
}

made_event : (o : Origin) (text bytes : List ℕ) → IsMade o text bytes → IsShort bytes → IsEventObject bytes
made_event o text bytes m short = subst IsEventObject (sym m.bytes_are) (
  subst IsShort m.bytes_are short,
  (m.value, has_event m.front m.value m.back m.front_is m.levels m.back_is, m.not_blank),
)

-- a text that begins itself and is an event is one
pub one_of : (bytes : List ℕ) → BeginsObject (bytes ++ []) bytes [] → IsEventObject bytes → IsOne bytes
one_of bytes begins event = (
  ([], ([], subst (λ (l : List ℕ). BeginsObject l bytes []) (append-nil bytes) begins, event, refl), tt),
  record { some = omega arith; few = omega arith; short = All-cons IsShort bytes [] event.0 (All-nil IsShort) },
)

pub mapped_taken : MappedIsTaken
mapped_taken e bytes limits is not short room =
    let m = made e.origin e.text bytes is not room in
    record {
      one = one_of bytes (made_begins e.origin e.text bytes [] m) (made_event e.origin e.text bytes m short);
      value = m.value;
      has = subst (λ (l : List ℕ). HasEvent l m.value) (sym m.bytes_are) (has_event m.front m.value m.back m.front_is m.levels m.back_is);
      value_is = m.value_is;
    }

-- ---- what is refused

-- where the value is deeper, no object begins there, whatever follows
deep_begins : (text bytes more : List ℕ) → HecBy LumberJson text bytes → IsObjectText text → (IsObjectOf 126 text → ⊥) → BeginsNoObject (bytes ++ more)
deep_begins text bytes more (inr other) object deep = absurd (other.0 object)
deep_begins text bytes more (inl same) (w, r, ws, e, (x, v, object, f, vs)) deep =
    let whole : text ≡ w ++ (x ++ v) = e ∙ ap (λ (l : List ℕ). w ++ l) f in
    let are : bytes ≡ object_of w x v = same.1 ∙ inside_text text w x v whole in
    subst (λ (l : List ℕ). BeginsNoObject (l ++ more)) (sym are) (none_begins w x v ws vs object (λ low. deep (w, r, ws, e, (x, v, low, f, vs))) more)

by_origin : (o : Origin) (text bytes : List ℕ) → HecBy o text bytes → o ≡ LumberJson → HecBy LumberJson text bytes
by_origin o text bytes is same = subst (λ (p : Origin). HecBy p text bytes) same is

-- what is wrong where such an event stands as the one of this number, whatever follows
pub refused_there : (e : Event) (bytes more : List ℕ) (number : ℕ) → IsHecObject e bytes → e.origin ≢ HecEvent → (IsLong bytes × HasRoom e) ⊎ IsDeep e → number < 10000
    → IsFaultBehind number (bytes ++ more) (Format number)
refused_there e bytes more number is not (inl long) room = inr (room, (bytes, more, made_begins e.origin e.text bytes more (made e.origin e.text bytes is not long.1), (refl, long.0)))
refused_there e bytes more number is not (inr deep) room = inl (refl, deep_begins e.text bytes more (by_origin e.origin e.text bytes is deep.0) deep.1 deep.2)

pub others_refused : OthersAreRefused
others_refused e bytes limits is not why = record {
  texts = [];
  rest = bytes;
  begins = refl;
  few = omega arith;
  fault_is = subst (λ (l : List ℕ). IsFaultBehind 0 l (Format 0)) (append-nil bytes) (refused_there e bytes [] 0 is not why (omega arith));
}
