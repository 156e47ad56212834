-- What completes the state that a whole field leads to stands after the field, and the state is a good one.
use Rattle.std.proofs.Common.{◌≡◌, ℕ, zero, suc, ◌+◌, ◌-◌, ◌<◌, ◌≤◌, eqb, leb, List, [], ◌∷◌, ◌++◌, refl, sym, ap, ◌∙◌, subst, get_or, length, append_assoc, length-append, inl, inr, w32, arith}
use Rattle.std.specs.Int.{from_be_bytes}
use Rattle.std.proofs.lemmas.Bool.{eqb-true, eqb-false, leb-true}
use Rattle.std.proofs.lemmas.List.{append-nil}
use Rattle.lumber_frame.specs.declared.field.Field.{Field}
use Rattle.lumber_frame.specs.declared.field.Field.TheVariants.{VersionByte, TypeByte, WindowSize, AckSequence, PairsSequence, JsonSequence, PairCount, PayloadLength, Payload, KeyLength, Key, ValueLength, Value}
use Rattle.lumber_frame.specs.declared.frame.LumberFrame.{LumberFrame}
use Rattle.lumber_frame.specs.declared.frame.LumberFrame.TheVariants.{Pairs, Json}
use Rattle.lumber_frame.specs.declared.side.Side.{Side}
use Rattle.lumber_frame.specs.declared.side.Side.TheVariants.{Receiver, Sender}
use Rattle.stream_grammar.specs.Automaton.{After, Goes, Ends, Fails}
use Rattle.lumber_frame.specs.Spelling.{IsString}
use Rattle.lumber_frame.specs.Machine.{State, At, size_of, value_of, Turning, type_turn, pairs_turn, payload_turn, key_turn, value_turn, turn, PairsEnd, AfterType, Behind, Completes}
use Rattle.lumber_frame.proofs.TurnLaws.{by_cases, one_byte, completes_four}

-- the text has room, with a key or a value that is read
abbrev pub Room : Field → List ℕ → Type 0
Room (Key seq left len) text = length text + len ≤ 131072
Room (Value seq left len) text = length text + len ≤ 131072
Room field text = length text ≤ 131072

-- ---- back

-- what leads to a state that these bytes complete leaves that they stand there
abbrev Back : Side → LumberFrame → List ℕ → Type 0 → Turning → Type 0
Back side f y G z = After (Completes side) z f y → G

back_type : (side : Side) (text : List ℕ) (c : ℕ) (f : LumberFrame) (y : List ℕ) → After (Completes side) (type_turn side text c) f y → AfterType side text c f y
back_type Receiver text c f y =
    let G : Type 0 = AfterType Receiver text c f y in
    by_cases (Back Receiver f y G) (eqb c 87) _ _ (λ e k. inl (eqb-true c 87 e, completes_four Receiver WindowSize text f y refl k)) (λ _.
    by_cases (Back Receiver f y G) (eqb c 68) _ _ (λ e k. inr (inl (eqb-true c 68 e, completes_four Receiver PairsSequence text f y refl k))) (λ _.
    by_cases (Back Receiver f y G) (eqb c 74) _ _ (λ e k. inr (inr (eqb-true c 74 e, completes_four Receiver JsonSequence text f y refl k))) (λ _.
    by_cases (Back Receiver f y G) (eqb c 65) _ _ (λ _ k. absurd k) (λ _.
    by_cases (Back Receiver f y G) (eqb c 67) _ _ (λ _ k. absurd k) (λ _ k. absurd k)))))
back_type Sender text c f y =
    let G : Type 0 = AfterType Sender text c f y in
    by_cases (Back Sender f y G) (eqb c 65) _ _ (λ e k. (eqb-true c 65 e, completes_four Sender AckSequence text f y refl k)) (λ _.
    by_cases (Back Sender f y G) (eqb c 67) _ _ (λ _ k. absurd k) (λ _ k. absurd k))

-- a length and so many bytes are a string
string_is : (number string : List ℕ) → length number ≡ 4 → length string ≡ from_be_bytes w32 number → IsString (number ++ string)
string_is number string n l = record { number = number; string = string; whole = refl; number_is = record { four = n; value = sym l } }

back_value_length : (side : Side) (seq left : ℕ) (text : List ℕ) (f : LumberFrame) (y : List ℕ) → Completes side (At (ValueLength seq left) text []) f y → (value : List ℕ) × (more : List ℕ) × IsString value × (y ≡ value ++ more) × PairsEnd seq left (text ++ value) f more
back_value_length side seq left text f y k =
    let p = k.5 in
    (k.0 ++ p.0, p.1, string_is k.0 p.0 (omega (arith, k.3)) p.2, k.4 ∙ ap (λ v. k.0 ++ v) p.3 ∙ sym (append_assoc k.0 p.0 p.1), p.4)

back_pairs : (side : Side) (seq left : ℕ) (text : List ℕ) (f : LumberFrame) (y : List ℕ) → length text ≤ 131072 → After (Completes side) (pairs_turn seq left text) f y → PairsEnd seq left text f y
back_pairs side seq left text f y room = by_cases (Back side f y (PairsEnd seq left text f y)) (eqb left 0) _ _ (λ e k. ends (eqb-true left 0 e) k.0 k.1) (λ e k. more left (eqb-false left 0 e) k)
  where
    ends : left ≡ 0 → f ≡ Pairs seq text → y ≡ [] → PairsEnd seq left text f y
    ends e is w = subst (λ n. PairsEnd seq n text f y) (sym e) (w, omega (arith, ap length w, length-append text y), is ∙ ap (Pairs seq) (sym (ap (λ v. text ++ v) w ∙ append-nil text)))

    regroup : (a b c d e : List ℕ) → (a ++ (b ++ (c ++ d))) ++ e ≡ a ++ ((b ++ c) ++ (d ++ e))
    regroup a b c d e = simp append_assoc

    more : (n : ℕ) → (n ≡ 0 → ⊥) → Completes side (At (KeyLength seq (n - 1)) text []) f y → PairsEnd seq n text f y
    more zero some k = absurd (some refl)
    more (suc n) some k =
        let p = k.5 in
        let d : suc n - 1 ≡ n = omega arith in
        let e : PairsEnd seq n (text ++ (k.0 ++ (p.0 ++ p.1))) f p.2 = subst (λ m. PairsEnd seq m (text ++ (k.0 ++ (p.0 ++ p.1))) f p.2) d p.6 in
        let w : y ≡ (k.0 ++ p.0) ++ (p.1 ++ p.2) = k.4 ∙ ap (λ v. k.0 ++ v) p.5 ∙ sym (append_assoc k.0 p.0 (p.1 ++ p.2)) in
        let q : (text ++ (k.0 ++ (p.0 ++ p.1))) ++ p.2 ≡ text ++ y = regroup text k.0 p.0 p.1 p.2 ∙ ap (λ v. text ++ v) (sym w) in (
          (k.0 ++ p.0, p.1, p.2, string_is k.0 p.0 (omega (arith, k.3)) p.3, p.4, w, e.0),
          omega (arith, e.1, ap length q),
          e.2 ∙ ap (Pairs seq) q,
        )

back_key : (side : Side) (seq left : ℕ) (text : List ℕ) (len : ℕ) (f : LumberFrame) (y : List ℕ) → After (Completes side) (key_turn seq left text len) f y → (key : List ℕ) × (value : List ℕ) × (more : List ℕ) × (length key ≡ len) × IsString value × (y ≡ key ++ (value ++ more)) × PairsEnd seq left (text ++ (key ++ value)) f more
back_key side seq left text len f y =
    by_cases (Back side f y ((key : List ℕ) × (value : List ℕ) × (more : List ℕ) × (length key ≡ len) × IsString value × (y ≡ key ++ (value ++ more)) × PairsEnd seq left (text ++ (key ++ value)) f more)) (eqb len 0) _ _
    (λ e k. let v = back_value_length side seq left text f y k in ([], v.0, v.1, sym (eqb-true len 0 e), v.2, v.3, v.4))
    (λ e k. let p = k.5 in (k.0, p.0, p.1, omega (arith, k.3), p.2, k.4 ∙ ap (λ v. k.0 ++ v) p.3, p.4))

back_value : (side : Side) (seq left : ℕ) (text : List ℕ) (len : ℕ) (f : LumberFrame) (y : List ℕ) → length text ≤ 131072 → After (Completes side) (value_turn seq left text len) f y → (value : List ℕ) × (more : List ℕ) × (length value ≡ len) × (y ≡ value ++ more) × PairsEnd seq left (text ++ value) f more
back_value side seq left text len f y room =
    by_cases (Back side f y ((value : List ℕ) × (more : List ℕ) × (length value ≡ len) × (y ≡ value ++ more) × PairsEnd seq left (text ++ value) f more)) (eqb len 0) _ _
    (λ e k. ([], y, sym (eqb-true len 0 e), refl, subst (λ t. PairsEnd seq left t f y) (sym (append-nil text)) (back_pairs side seq left text f y room k)))
    (λ e k. (k.0, k.1, omega (arith, k.3), k.4, k.5))

back_payload : (side : Side) (seq : ℕ) (text : List ℕ) (len : ℕ) (f : LumberFrame) (y : List ℕ) → After (Completes side) (payload_turn seq text len) f y → (length y ≡ len) × (f ≡ Json seq y)
back_payload side seq text len f y =
    by_cases (Back side f y ((length y ≡ len) × (f ≡ Json seq y))) (eqb len 0) _ _
    (λ e k. (ap length k.1 ∙ sym (eqb-true len 0 e), k.0 ∙ ap (Json seq) (sym k.1)))
    (λ e k. let w : y ≡ k.0 = k.4 ∙ ap (λ v. k.0 ++ v) k.5.0 ∙ append-nil k.0 in (omega (arith, ap length w, k.3), k.5.1 ∙ ap (Json seq) (sym w)))

pub turn_back : (side : Side) (field : Field) (text b : List ℕ) (f : LumberFrame) (y : List ℕ) → length b ≡ size_of field → Room field text → After (Completes side) (turn side field text b (value_of field b)) f y → Behind side field text b f y
unfolding turn
turn_back side VersionByte text b f y l room =
    by_cases (Back side f y (Behind side VersionByte text b f y)) (eqb (get_or b 0 0) 50) _ _
    (λ e k. (one_byte b l ∙ ap (λ c. c ∷ []) (eqb-true (get_or b 0 0) 50 e), (get_or k.0 0 0, k.1, k.4 ∙ ap (λ v. v ++ k.1) (one_byte k.0 (omega (arith, k.3))), k.5)))
    (λ _ k. absurd k)
turn_back side TypeByte text b f y l room = back_type side text (get_or b 0 0) f y
turn_back side WindowSize text b f y l room =
    by_cases (Back side f y (Behind side WindowSize text b f y)) (leb (from_be_bytes w32 b) 65536) _ _ (λ e k. (leb-true (from_be_bytes w32 b) 65536 e, k.1, k.0)) (λ _ k. absurd k)
turn_back side AckSequence text b f y l room = λ k. (k.1, k.0)
turn_back side PairsSequence text b f y l room = completes_four side (PairCount (from_be_bytes w32 b)) text f y refl
turn_back side JsonSequence text b f y l room = completes_four side (PayloadLength (from_be_bytes w32 b)) text f y refl
turn_back side (PairCount seq) text b f y l room =
    by_cases (Back side f y (Behind side (PairCount seq) text b f y)) (leb (from_be_bytes w32 b) 1024) _ _ (λ e k. (leb-true (from_be_bytes w32 b) 1024 e, back_pairs side seq (from_be_bytes w32 b) text f y room k)) (λ _ k. absurd k)
turn_back side (PayloadLength seq) text b f y l room =
    by_cases (Back side f y (Behind side (PayloadLength seq) text b f y)) (leb (from_be_bytes w32 b) 131072) _ _ (λ e k. let p = back_payload side seq text (from_be_bytes w32 b) f y k in (leb-true (from_be_bytes w32 b) 131072 e, p.0, p.1)) (λ _ k. absurd k)
turn_back side (Payload seq len) text b f y l room = λ k. (k.1, k.0)
turn_back side (KeyLength seq left) text b f y l room =
    by_cases (Back side f y (Behind side (KeyLength seq left) text b f y)) (leb (length text + 8 + from_be_bytes w32 b) 131072) _ _
    (λ e k. let p = back_key side seq left (text ++ b) (from_be_bytes w32 b) f y k in (p.0, p.1, p.2, p.3, p.4, p.5, subst (λ t. PairsEnd seq left t f p.2) (append_assoc text b (p.0 ++ p.1)) p.6))
    (λ _ k. absurd k)
turn_back side (Key seq left len) text b f y l room = λ k.
    let p = back_value_length side seq left (text ++ b) f y k in
    (p.0, p.1, p.2, p.3, subst (λ t. PairsEnd seq left t f p.1) (append_assoc text b p.0) p.4)
turn_back side (ValueLength seq left) text b f y l room =
    by_cases (Back side f y (Behind side (ValueLength seq left) text b f y)) (leb (length text + 4 + from_be_bytes w32 b) 131072) _ _
    (λ e k.
    let m = leb-true (length text + 4 + from_be_bytes w32 b) 131072 e in
    let p = back_value side seq left (text ++ b) (from_be_bytes w32 b) f y (omega (arith, m, l, length-append text b)) k in
    (p.0, p.1, p.2, p.3, subst (λ t. PairsEnd seq left t f p.1) (append_assoc text b p.0) p.4))
    (λ _ k. absurd k)
turn_back side (Value seq left len) text b f y l room = back_pairs side seq left (text ++ b) f y (omega (arith, l, room, length-append text b))

-- ---- the next state

-- the states that a machine can be in: a field isn't whole, and the text has room
abbrev pub IsGood : State → Type 0
IsGood (At field text g) = (length g < size_of field) × Room field text

-- a turn leads to a good state
abbrev Leads : Turning → Type 0
Leads (Goes s) = IsGood s
Leads (Ends f) = Unit {0}
Leads (Fails w) = Unit {0}

leads_pairs : (seq left : ℕ) (text : List ℕ) → length text ≤ 131072 → Leads (pairs_turn seq left text)
leads_pairs seq left text room = by_cases Leads (eqb left 0) _ _ (λ _. tt) (λ _. (omega arith, room))

turn_leads : (side : Side) (field : Field) (text b : List ℕ) → length b ≡ size_of field → Room field text → Leads (turn side field text b (value_of field b))
unfolding turn
turn_leads side VersionByte text b l room = by_cases Leads (eqb (get_or b 0 0) 50) _ _ (λ _. (omega arith, room)) (λ _. tt)
turn_leads Receiver TypeByte text b l room =
    by_cases Leads (eqb (get_or b 0 0) 87) _ _ (λ _. (omega arith, room)) (λ _.
    by_cases Leads (eqb (get_or b 0 0) 68) _ _ (λ _. (omega arith, room)) (λ _.
    by_cases Leads (eqb (get_or b 0 0) 74) _ _ (λ _. (omega arith, room)) (λ _.
    by_cases Leads (eqb (get_or b 0 0) 65) _ _ (λ _. tt) (λ _.
    by_cases Leads (eqb (get_or b 0 0) 67) _ _ (λ _. tt) (λ _. tt)))))
turn_leads Sender TypeByte text b l room =
    by_cases Leads (eqb (get_or b 0 0) 65) _ _ (λ _. (omega arith, room)) (λ _.
    by_cases Leads (eqb (get_or b 0 0) 67) _ _ (λ _. tt) (λ _. tt))
turn_leads side WindowSize text b l room = by_cases Leads (leb (from_be_bytes w32 b) 65536) _ _ (λ _. tt) (λ _. tt)
turn_leads side AckSequence text b l room = tt
turn_leads side PairsSequence text b l room = (omega arith, room)
turn_leads side JsonSequence text b l room = (omega arith, room)
turn_leads side (PairCount seq) text b l room = by_cases Leads (leb (from_be_bytes w32 b) 1024) _ _ (λ _. leads_pairs seq (from_be_bytes w32 b) text room) (λ _. tt)
turn_leads side (PayloadLength seq) text b l room =
    let n = from_be_bytes w32 b in
    by_cases Leads (leb n 131072) _ _ (λ _. by_cases Leads (eqb n 0) _ _ (λ _. tt) (λ e. let some : n ≡ 0 → ⊥ = eqb-false n 0 e in (omega arith, room))) (λ _. tt)
turn_leads side (Payload seq len) text b l room = tt
turn_leads side (KeyLength seq left) text b l room =
    let n = from_be_bytes w32 b in
    let t : length (text ++ b) ≡ length text + length b = length-append text b in
    by_cases Leads (leb (length text + 8 + n) 131072) _ _
    (λ m.
    let r = leb-true (length text + 8 + n) 131072 m in
    by_cases Leads (eqb n 0) _ _ (λ _. (omega arith, omega (arith, r, t, l))) (λ e. let some : n ≡ 0 → ⊥ = eqb-false n 0 e in (omega arith, omega (arith, r, t, l))))
    (λ _. tt)
turn_leads side (Key seq left len) text b l room = (omega arith, omega (arith, length-append text b))
turn_leads side (ValueLength seq left) text b l room =
    let n = from_be_bytes w32 b in
    let t : length (text ++ b) ≡ length text + length b = length-append text b in
    by_cases Leads (leb (length text + 4 + n) 131072) _ _
    (λ m.
    let r = leb-true (length text + 4 + n) 131072 m in
    by_cases Leads (eqb n 0) _ _ (λ _. leads_pairs seq left (text ++ b) (omega (arith, r, t, l))) (λ e. let some : n ≡ 0 → ⊥ = eqb-false n 0 e in (omega arith, omega (arith, r, t, l))))
    (λ _. tt)
turn_leads side (Value seq left len) text b l room = leads_pairs seq left (text ++ b) (omega (arith, l, room, length-append text b))

pub turn_good : (side : Side) (field : Field) (text b : List ℕ) (t : State) → length b ≡ size_of field → Room field text → turn side field text b (value_of field b) ≡ Goes t → IsGood t
turn_good side field text b t l room e = subst Leads e (turn_leads side field text b l room)
