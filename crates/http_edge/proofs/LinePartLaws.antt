-- How the field lines of a head go on, byte by byte.
use Rattle.std.proofs.Common.{◌≡◌, ℕ, ◌+◌, ◌<◌, ◌≤◌, true, List, [], ◌∷◌, ◌++◌, length, refl, sym, ap, ◌∙◌, subst, arith, length-append, append_assoc, append-nil}
use Rattle.std.specs.Prelude.{All}
use Rattle.std.specs.List.{flat_map}
use Rattle.std.proofs.lemmas.List.{flat_map_more}
use Rattle.std.proofs.lemmas.List.Elements.{All-cons, All-nil, All-push}
use Rattle.httparse.specs.Grammar.{is_token_byte, is_value_byte, IsToken, LineEnd, crlf, lf, Field, print_field, IsField, print_section}
use Rattle.http_edge.specs.declared.line_part.LinePart.{LinePart}
use Rattle.http_edge.specs.declared.line_part.LinePart.TheVariants.{Begin, Return, Name, Value, End}
use Rattle.http_edge.specs.declared.line_part.LinesPart.{LinesPart}
use Rattle.http_edge.specs.LineParts.{AreLines, IsLinePart, at_field}

-- bytes that follow make these the field lines of a head and the empty line after them
pub record CompletesSection (s : List ℕ) : Type 0 where
  pub fields : List Field
  pub last : LineEnd
  pub more : List ℕ
  pub are : All IsField fields
  pub few : length fields ≤ 64
  pub some : 0 < length more
  pub is : s ++ more ≡ print_section fields last

section_before : (s : List ℕ) (c : ℕ) → CompletesSection (s ++ c ∷ []) → CompletesSection s
section_before s c x = record { fields = x.fields; last = x.last; more = c ∷ x.more; are = x.are; few = x.few; some = omega arith; is = sym (append_assoc s (c ∷ []) x.more) ∙ x.is }

-- no byte of them has been read
pub no_lines : AreLines (at_field 0 Begin) []
no_lines = record { fields = []; last = []; are = All-nil IsField; count_is = refl; few = omega arith; part = refl; text_is = refl }

begin_completes : (n : ℕ) (s : List ℕ) → AreLines (at_field n Begin) s → CompletesSection s
begin_completes n s x =
    let flat = flat_map print_field x.fields in
    let count = x.count_is in
    let few = x.few in
    record { fields = x.fields; last = lf; more = 10 ∷ []; are = x.are; few = omega (arith, count, few); some = omega arith; is = ap (λ (v : List ℕ). v ++ 10 ∷ []) (x.text_is ∙ ap (λ (v : List ℕ). flat ++ v) x.part ∙ append-nil flat) }

return_completes : (n : ℕ) (s : List ℕ) → AreLines (at_field n Return) s → CompletesSection s
return_completes n s x =
    let flat = flat_map print_field x.fields in
    let count = x.count_is in
    let few = x.few in
    record { fields = x.fields; last = crlf; more = 10 ∷ []; are = x.are; few = omega (arith, count, few); some = omega arith; is = ap (λ (v : List ℕ). v ++ 10 ∷ []) (x.text_is ∙ ap (λ (v : List ℕ). flat ++ v) x.part) ∙ append_assoc flat (13 ∷ []) (10 ∷ []) }

-- another byte of a line
same_line : (n : ℕ) (l m : LinePart) (c : ℕ) → ((t : List ℕ) → IsLinePart l n t → IsLinePart m n (t ++ c ∷ [])) → (s : List ℕ) → AreLines (at_field n l) s → AreLines (at_field n m) (s ++ c ∷ [])
same_line n l m c go s x = record {
  fields = x.fields;
  last = x.last ++ c ∷ [];
  are = x.are;
  count_is = x.count_is;
  few = x.few;
  part = go x.last x.part;
  text_is = ap (λ (v : List ℕ). v ++ c ∷ []) x.text_is ∙ append_assoc (flat_map print_field x.fields) x.last (c ∷ []);
}

-- the last byte of a line
next_line : (n : ℕ) (l : LinePart) (c : ℕ) → n < 64 → ((t : List ℕ) → IsLinePart l n t → (g : Field) × IsField g × (t ++ c ∷ [] ≡ print_field g)) → (s : List ℕ) → AreLines (at_field n l) s → AreLines (at_field (n + 1) Begin) (s ++ c ∷ [])
next_line n l c room go s x =
    let fs = x.fields in
    let g = go x.last x.part in
    let flat = flat_map print_field fs in
    let count = x.count_is in
    let k : length (fs ++ g.0 ∷ []) ≡ length fs + 1 = length-append fs (g.0 ∷ []) in
    record {
      fields = fs ++ g.0 ∷ [];
      last = [];
      are = All-push IsField fs g.0 x.are g.1;
      count_is = omega (arith, k, count);
      few = omega (arith, room);
      part = refl;
      text_is = ap (λ (v : List ℕ). v ++ c ∷ []) x.text_is ∙ append_assoc flat x.last (c ∷ []) ∙ ap (λ (v : List ℕ). flat ++ v) g.2 ∙ flat_map_more print_field [] fs g.0 ∙ sym (append-nil (flat_map print_field (fs ++ g.0 ∷ [])));
    }

pub token_one : (c : ℕ) → is_token_byte c ≡ true → IsToken (c ∷ [])
token_one c e = (omega arith, All-cons (λ v. is_token_byte v ≡ true) c [] e (All-nil (λ v. is_token_byte v ≡ true)))

pub token_more : (t : List ℕ) (c : ℕ) → IsToken t → is_token_byte c ≡ true → IsToken (t ++ c ∷ [])
token_more t c x e =
    let n : length (t ++ c ∷ []) ≡ length t + 1 = length-append t (c ∷ []) in
    (omega (arith, n), All-push (λ v. is_token_byte v ≡ true) t c x.1 e)

pub begin_return : (n : ℕ) (s : List ℕ) → AreLines (at_field n Begin) s → AreLines (at_field n Return) (s ++ 13 ∷ [])
begin_return n s = same_line n Begin Return 13 (λ t e. ap (λ (v : List ℕ). v ++ 13 ∷ []) e) s

pub begin_name : (n c : ℕ) → n < 64 → is_token_byte c ≡ true → (s : List ℕ) → AreLines (at_field n Begin) s → AreLines (at_field n Name) (s ++ c ∷ [])
begin_name n c room token s = same_line n Begin Name c (λ t e. (room, subst (λ (v : List ℕ). IsToken (v ++ c ∷ [])) (sym e) (token_one c token))) s

pub name_more : (n c : ℕ) → is_token_byte c ≡ true → (s : List ℕ) → AreLines (at_field n Name) s → AreLines (at_field n Name) (s ++ c ∷ [])
name_more n c token s = same_line n Name Name c (λ t x. (x.0, token_more t c x.1 token)) s

pub name_value : (n : ℕ) (s : List ℕ) → AreLines (at_field n Name) s → AreLines (at_field n Value) (s ++ 58 ∷ [])
name_value n s = same_line n Name Value 58 (λ t x. (x.0, (t, [], x.1, All-nil (λ v. is_value_byte v ≡ true), refl))) s

pub value_more : (n c : ℕ) → is_value_byte c ≡ true → (s : List ℕ) → AreLines (at_field n Value) s → AreLines (at_field n Value) (s ++ c ∷ [])
value_more n c e s = same_line n Value Value c (λ t (room, (name, raw, token, all, is)). (room, (name, raw ++ c ∷ [], token, All-push (λ v. is_value_byte v ≡ true) raw c all e, ap (λ (v : List ℕ). v ++ c ∷ []) is ∙ append_assoc name (58 ∷ raw) (c ∷ [])))) s

pub value_end : (n : ℕ) (s : List ℕ) → AreLines (at_field n Value) s → AreLines (at_field n End) (s ++ 13 ∷ [])
value_end n s = same_line n Value End 13 (λ t x. (x.0, (t, x.1, refl))) s

pub value_line : (n : ℕ) → n < 64 → (s : List ℕ) → AreLines (at_field n Value) s → AreLines (at_field (n + 1) Begin) (s ++ 10 ∷ [])
value_line n room s = next_line n Value 10 room (λ t (few, (name, raw, token, all, is)). (record { name = name; raw = raw; end = lf }, record { name = token; raw = all }, ap (λ (v : List ℕ). v ++ 10 ∷ []) is)) s

pub end_line : (n : ℕ) → n < 64 → (s : List ℕ) → AreLines (at_field n End) s → AreLines (at_field (n + 1) Begin) (s ++ 10 ∷ [])
end_line n room s = next_line n End 10 room (λ t (few, (u, (name, raw, token, all, is), e)). (record { name = name; raw = raw; end = crlf }, record { name = token; raw = all }, ap (λ (v : List ℕ). v ++ 10 ∷ []) (e ∙ ap (λ (v : List ℕ). v ++ 13 ∷ []) is) ∙ append_assoc (name ++ 58 ∷ raw) (13 ∷ []) (10 ∷ []))) s

value_completes : (n : ℕ) (s : List ℕ) → AreLines (at_field n Value) s → CompletesSection s
value_completes n s x = let room = x.part.0 in section_before s 10 (begin_completes (n + 1) (s ++ 10 ∷ []) (value_line n room s x))

-- what has been read of field lines is the beginning of some
pub section_completes : (now : LinesPart) (s : List ℕ) → AreLines now s → CompletesSection s
section_completes now s x = go now.count now.line x
  where
    go : (n : ℕ) (l : LinePart) → AreLines (at_field n l) s → CompletesSection s
    go n Begin x = begin_completes n s x
    go n Return x = return_completes n s x
    go n Name x = section_before s 58 (value_completes n (s ++ 58 ∷ []) (name_value n s x))
    go n Value x = value_completes n s x
    go n End x = let room = x.part.0 in section_before s 10 (begin_completes (n + 1) (s ++ 10 ∷ []) (end_line n room s x))
