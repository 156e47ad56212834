-- What stands after a whole field is what completes the state that it leads to, and only that.
use Rattle.std.proofs.Common.{◌≡◌, ℕ, zero, suc, ◌+◌, ◌-◌, ◌≤◌, Bool, true, false, cond, eqb, List, [], ◌∷◌, ◌++◌, refl, sym, ap, ◌∙◌, subst, get_or, length, append_assoc, length-append, inl, inr, w32, arith}
use Rattle.std.specs.Int.{from_be_bytes}
use Rattle.std.proofs.lemmas.Bool.{le-leb, ne_eqb}
use Rattle.std.proofs.lemmas.List.{append-nil}
use Rattle.lumber_frame.specs.declared.field.Field.{Field}
use Rattle.lumber_frame.specs.declared.field.Field.TheVariants.{VersionByte, TypeByte, WindowSize, AckSequence, PairsSequence, JsonSequence, PairCount, PayloadLength, Payload, KeyLength, Key, ValueLength, Value}
use Rattle.lumber_frame.specs.declared.frame.LumberFrame.{LumberFrame}
use Rattle.lumber_frame.specs.declared.frame.LumberFrame.TheVariants.{Pairs, Json}
use Rattle.lumber_frame.specs.declared.side.Side.{Side}
use Rattle.lumber_frame.specs.declared.side.Side.TheVariants.{Receiver, Sender}
use Rattle.stream_grammar.specs.Automaton.{After}
use Rattle.lumber_frame.specs.Spelling.{IsString}
use Rattle.lumber_frame.specs.Machine.{At, size_of, value_of, type_turn, pairs_turn, payload_turn, key_turn, value_turn, turn, Four, PairsEnd, AfterType, Behind, Completes}

-- what holds of each choice holds of what is chosen
pub by_cases : {A : Type 0} (P : A → Type 0) (p : Bool) (x y : A) → (p ≡ true → P x) → (p ≡ false → P y) → P (cond p x y)
by_cases P true x y t f = t refl
by_cases P false x y t f = f refl

-- a byte alone
pub one_byte : (b : List ℕ) → length b ≡ 1 → b ≡ get_or b 0 0 ∷ []
one_byte [] e = absurd (omega arith)
one_byte (c ∷ []) e = refl
one_byte (c ∷ d ∷ b) e = absurd (omega arith)

-- a field of four bytes
pub four_completes : (side : Side) (field : Field) (text : List ℕ) (f : LumberFrame) (y : List ℕ) → size_of field ≡ 4 → Four (λ n rest. Behind side field text n f rest) y → Completes side (At field text []) f y
four_completes side field text f y s k = (k.0, k.1, omega (arith, k.2), omega (arith, k.2, s), k.3, k.4)

pub completes_four : (side : Side) (field : Field) (text : List ℕ) (f : LumberFrame) (y : List ℕ) → size_of field ≡ 4 → Completes side (At field text []) f y → Four (λ n rest. Behind side field text n f rest) y
completes_four side field text f y s k = (k.0, k.1, omega (arith, k.3, s), k.4, k.5)

-- ---- forth

forth_type : (side : Side) (text : List ℕ) (c : ℕ) (f : LumberFrame) (y : List ℕ) → AfterType side text c f y → After (Completes side) (type_turn side text c) f y
forth_type Receiver text c f y (inl (e, k)) = rw e (four_completes Receiver WindowSize text f y refl k)
forth_type Receiver text c f y (inr (inl (e, k))) = rw e (four_completes Receiver PairsSequence text f y refl k)
forth_type Receiver text c f y (inr (inr (e, k))) = rw e (four_completes Receiver JsonSequence text f y refl k)
forth_type Sender text c f y (e, k) = rw e (four_completes Sender AckSequence text f y refl k)

-- the length of a value, and the value
value_completes : (side : Side) (seq left : ℕ) (text : List ℕ) (f : LumberFrame) (y value more : List ℕ) → IsString value → y ≡ value ++ more → PairsEnd seq left (text ++ value) f more → Completes side (At (ValueLength seq left) text []) f y
value_completes side seq left text f y value more s w k =
    let n = s.number_is.four in
    let q : text ++ value ≡ text ++ (s.number ++ s.string) = ap (λ v. text ++ v) s.whole in (
      s.number,
      s.string ++ more,
      omega (arith, n),
      omega (arith, n),
      w ∙ ap (λ v. v ++ more) s.whole ∙ append_assoc s.number s.string more,
      (s.string, more, sym s.number_is.value, refl, subst (λ t. PairsEnd seq left t f more) q k),
    )

forth_pairs : (side : Side) (seq left : ℕ) (text : List ℕ) (f : LumberFrame) (y : List ℕ) → PairsEnd seq left text f y → After (Completes side) (pairs_turn seq left text) f y
forth_pairs side seq zero text f y (w, short, is) = (is ∙ ap (λ v. Pairs seq (text ++ v)) w ∙ ap (Pairs seq) (append-nil text), w)
forth_pairs side seq (suc left) text f y (k, short, is) =
    let key = k.3 in
    let q : (text ++ (key.number ++ (key.string ++ k.1))) ++ k.2 ≡ text ++ y = regroup text key.number key.string k.1 k.2 ∙ ap (λ v. text ++ v) (ap (λ v. v ++ (k.1 ++ k.2)) (sym key.whole) ∙ sym k.5) in
    let e : eqb (suc left) 0 ≡ false = ne_eqb (suc left) 0 (λ z. omega arith) in
    let d : suc left - 1 ≡ left = omega arith in
    let n = key.number_is.four in
    rw (e, d) (
      key.number,
      key.string ++ (k.1 ++ k.2),
      omega (arith, n),
      omega (arith, n),
      k.5 ∙ ap (λ v. v ++ (k.1 ++ k.2)) key.whole ∙ append_assoc key.number key.string (k.1 ++ k.2),
      (key.string, k.1, k.2, sym key.number_is.value, k.4, refl, (k.6, omega (arith, short, ap length q), is ∙ ap (Pairs seq) (sym q))),
    )
  where
    regroup : (a b c d e : List ℕ) → (a ++ (b ++ (c ++ d))) ++ e ≡ a ++ ((b ++ c) ++ (d ++ e))
    regroup a b c d e = simp append_assoc

string_some : (value : List ℕ) → IsString value → 4 ≤ length value
string_some value s = omega (arith, ap length s.whole, length-append s.number s.string, s.number_is.four)

forth_key : (side : Side) (seq left : ℕ) (text : List ℕ) (f : LumberFrame) (y key value more : List ℕ) → IsString value → y ≡ key ++ (value ++ more) → PairsEnd seq left (text ++ (key ++ value)) f more → After (Completes side) (key_turn seq left text (length key)) f y
forth_key side seq left text f y [] value more s w k = value_completes side seq left text f y value more s w k
forth_key side seq left text f y (c ∷ key) value more s w k =
    let e : eqb (length (c ∷ key)) 0 ≡ false = ne_eqb (length (c ∷ key)) 0 (λ z. omega arith) in
    rw e (c ∷ key, value ++ more, omega arith, omega arith, w, (value, more, s, refl, k))

forth_value : (side : Side) (seq left : ℕ) (text : List ℕ) (f : LumberFrame) (y value more : List ℕ) → y ≡ value ++ more → PairsEnd seq left (text ++ value) f more → After (Completes side) (value_turn seq left text (length value)) f y
forth_value side seq left text f y [] more w k = rw w (forth_pairs side seq left text f more (subst (λ t. PairsEnd seq left t f more) (append-nil text) k))
forth_value side seq left text f y (c ∷ value) more w k =
    let e : eqb (length (c ∷ value)) 0 ≡ false = ne_eqb (length (c ∷ value)) 0 (λ z. omega arith) in
    rw e (c ∷ value, more, omega arith, omega arith, w, k)

forth_payload : (side : Side) (seq : ℕ) (text : List ℕ) (f : LumberFrame) (y : List ℕ) → f ≡ Json seq y → After (Completes side) (payload_turn seq text (length y)) f y
forth_payload side seq text f [] is = (is, refl)
forth_payload side seq text f (c ∷ y) is =
    let e : eqb (length (c ∷ y)) 0 ≡ false = ne_eqb (length (c ∷ y)) 0 (λ z. omega arith) in
    rw e (c ∷ y, [], omega arith, omega arith, sym (append-nil (c ∷ y)), (refl, is))

pub turn_forth : (side : Side) (field : Field) (text b : List ℕ) (f : LumberFrame) (y : List ℕ) → length b ≡ size_of field → Behind side field text b f y → After (Completes side) (turn side field text b (value_of field b)) f y
unfolding turn
turn_forth side VersionByte text b f y l (e, (c, rest, w, k)) = rw e (c ∷ [], rest, omega arith, omega arith, w, k)
turn_forth side TypeByte text b f y l k = forth_type side text (get_or b 0 0) f y k
turn_forth side WindowSize text b f y l (m, w, is) = rw (le-leb (from_be_bytes w32 b) 65536 m) (is, w)
turn_forth side AckSequence text b f y l (w, is) = (is, w)
turn_forth side PairsSequence text b f y l k = four_completes side (PairCount (from_be_bytes w32 b)) text f y refl k
turn_forth side JsonSequence text b f y l k = four_completes side (PayloadLength (from_be_bytes w32 b)) text f y refl k
turn_forth side (PairCount seq) text b f y l (m, k) = rw (le-leb (from_be_bytes w32 b) 1024 m) (forth_pairs side seq (from_be_bytes w32 b) text f y k)
turn_forth side (PayloadLength seq) text b f y l (m, n, is) = rw (le-leb (from_be_bytes w32 b) 131072 m) (subst (λ v. After (Completes side) (payload_turn seq text v) f y) n (forth_payload side seq text f y is))
turn_forth side (Payload seq len) text b f y l (w, is) = (is, w)
turn_forth side (KeyLength seq left) text b f y l (key, value, more, n, s, w, k) =
    let q : text ++ (b ++ (key ++ value)) ≡ (text ++ b) ++ (key ++ value) = sym (append_assoc text b (key ++ value)) in
    let room : length text + 8 + from_be_bytes w32 b ≤ 131072 = omega (arith, k.1, l, n, string_some value s, length-append (text ++ (b ++ (key ++ value))) more, length-append text (b ++ (key ++ value)), length-append b (key ++ value), length-append key value) in
    rw (le-leb (length text + 8 + from_be_bytes w32 b) 131072 room) (subst (λ v. After (Completes side) (key_turn seq left (text ++ b) v) f y) n (forth_key side seq left (text ++ b) f y key value more s w (subst (λ t. PairsEnd seq left t f more) q k)))
turn_forth side (Key seq left len) text b f y l (value, more, s, w, k) = value_completes side seq left (text ++ b) f y value more s w (subst (λ t. PairsEnd seq left t f more) (sym (append_assoc text b value)) k)
turn_forth side (ValueLength seq left) text b f y l (value, more, n, w, k) =
    let room : length text + 4 + from_be_bytes w32 b ≤ 131072 = omega (arith, k.1, l, n, length-append (text ++ (b ++ value)) more, length-append text (b ++ value), length-append b value) in
    rw (le-leb (length text + 4 + from_be_bytes w32 b) 131072 room) (subst (λ v. After (Completes side) (value_turn seq left (text ++ b) v) f y) n (forth_value side seq left (text ++ b) f y value more w (subst (λ t. PairsEnd seq left t f more) (sym (append_assoc text b value)) k)))
turn_forth side (Value seq left len) text b f y l k = forth_pairs side seq left (text ++ b) f y k
