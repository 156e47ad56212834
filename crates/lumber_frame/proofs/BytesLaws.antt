-- What is spelled in bytes keeps the limits.
use Rattle.std.proofs.Common.{◌≡◌, ℕ, zero, suc, ◌-◌, ◌^◌, ◌<◌, List, [], ◌∷◌, ◌++◌, refl, sym, ap, ◌∙◌, subst, length, append_assoc, inl, inr, w32, arith}
use Rattle.std.specs.Int.{to_be_bytes}
use Rattle.std.proofs.lemmas.Bool.{cases_lt}
use Rattle.std.proofs.lemmas.List.{take_at, drop_at, get_or-append_right, get_or_append_left}
use Rattle.event_form.specs.Event.{pair_text, pairs_text}
use Rattle.event_form.proofs.Numbers.{IsBytes, IsBytes-drop, IsBytes-take, four_again, four_below}
use Rattle.event_form.proofs.Strings.{pair_parts}
use Rattle.lumber_frame.specs.declared.frame.LumberFrame.{LumberFrame}
use Rattle.lumber_frame.specs.declared.frame.LumberFrame.TheVariants.{Window, Pairs, Json, Ack}
use Rattle.lumber_frame.specs.declared.side.Side.{Side}
use Rattle.lumber_frame.specs.Spelling.{IsNumber, IsString, ArePairsOf, IsFrame, IsFrameFor, IsSpelling, Spells}

pub IsBytes-append : (a b : List ℕ) → IsBytes a → IsBytes b → IsBytes (a ++ b)
IsBytes-append a b p q i =
    elim (cases_lt i (length a)) [
      | inl lt ↦ rw (get_or_append_left a b 0 i lt) (p i)
      | inr le ↦ rw (get_or-append_right a b (length a) i 0 refl le) (q (i - length a))
    ]

IsBytes-front : (a b : List ℕ) → IsBytes (a ++ b) → IsBytes a
IsBytes-front a b p = subst IsBytes (take_at a b (length a) refl) (IsBytes-take (length a) (a ++ b) p)

IsBytes-back : (a b : List ℕ) → IsBytes (a ++ b) → IsBytes b
IsBytes-back a b p = subst IsBytes (drop_at a b (length a) refl) (IsBytes-drop (length a) (a ++ b) p)

-- the bytes are those that are written for the number
number_bytes : (n : ℕ) (b : List ℕ) → IsNumber n b → IsBytes b → b ≡ to_be_bytes w32 n
number_bytes n b i p = sym (ap (to_be_bytes w32) (sym i.value) ∙ four_again b i.four p)

number_below : (n : ℕ) (b : List ℕ) → IsNumber n b → IsBytes b → n < 2 ^ 32
number_below n b i p = omega (arith, i.value, four_below b p)

string_bytes : (b : List ℕ) (s : IsString b) → IsBytes b → b ≡ to_be_bytes w32 (length s.string) ++ s.string
string_bytes b s p = s.whole ∙ ap (λ v. v ++ s.string) (number_bytes (length s.string) s.number s.number_is (IsBytes-front s.number s.string (subst IsBytes s.whole p)))

-- so many pairs
pairs_bytes : (n : ℕ) (b : List ℕ) → ArePairsOf n b → IsBytes b → (pairs : List (List ℕ × List ℕ)) × (length pairs ≡ n) × (b ≡ pairs_text pairs)
pairs_bytes zero b a p = ([], refl, a)
pairs_bytes (suc n) b a p =
    let key = a.3 in
    let value = a.4 in
    let q : IsBytes (a.0 ++ (a.1 ++ a.2)) = subst IsBytes a.5 p in
    let t : IsBytes (a.1 ++ a.2) = IsBytes-back a.0 (a.1 ++ a.2) q in
    let r = pairs_bytes n a.2 a.6 (IsBytes-back a.1 a.2 t) in
    let pair : List ℕ × List ℕ = (key.string, value.string) in
    let k = string_bytes a.0 key (IsBytes-front a.0 (a.1 ++ a.2) q) in
    let v = string_bytes a.1 value (IsBytes-front a.1 a.2 t) in (
      pair ∷ r.0,
      ap suc r.1,
      a.5
          ∙ ap (λ z. z ++ (a.1 ++ a.2)) k
          ∙ append_assoc (to_be_bytes w32 (length key.string)) key.string (a.1 ++ a.2)
          ∙ ap (λ z. to_be_bytes w32 (length key.string) ++ (key.string ++ (z ++ a.2))) v
          ∙ ap (λ z. to_be_bytes w32 (length key.string) ++ (key.string ++ z)) (append_assoc (to_be_bytes w32 (length value.string)) value.string a.2)
          ∙ sym (pair_parts pair a.2)
          ∙ ap (λ z. pair_text pair ++ z) r.2,
    )

-- what is spelled in bytes keeps the limits
pub spelling_frame : (f : LumberFrame) (x : List ℕ) → IsSpelling f x → IsBytes x → IsFrame f
spelling_frame (Window size) x (rest, e, n, small) p = small
spelling_frame (Pairs seq text) x (rest, e, d) p =
    let q : IsBytes rest = IsBytes-drop 2 (50 ∷ 68 ∷ rest) (subst IsBytes e p) in
    let r : IsBytes (d.sequence ++ (d.count ++ text)) = subst IsBytes d.whole q in
    let t : IsBytes text = IsBytes-back d.count text (IsBytes-back d.sequence (d.count ++ text) r) in
    let a = pairs_bytes d.pairs text d.pairs_are t in
    (number_below seq d.sequence d.sequence_is (IsBytes-front d.sequence (d.count ++ text) r), d.short, record { pairs = a.0; few = omega (arith, a.1, d.few); whole = a.2 })
spelling_frame (Json seq text) x (rest, e, d) p =
    let q : IsBytes rest = IsBytes-drop 2 (50 ∷ 74 ∷ rest) (subst IsBytes e p) in
    (number_below seq d.sequence d.sequence_is (IsBytes-front d.sequence (d.number ++ text) (subst IsBytes d.whole q)), d.short)
spelling_frame (Ack seq) x (rest, e, n) p = number_below seq rest n (IsBytes-drop 2 (50 ∷ 65 ∷ rest) (subst IsBytes e p))

pub spells_frame : (side : Side) (f : LumberFrame) (x : List ℕ) → Spells side f x → IsBytes x → IsFrameFor side f
spells_frame side f x s p = (s.0, spelling_frame f x s.1 p)
