-- What stands before each field of a frame, and that a field at which the machine fails breaks its rule.
use Rattle.std.proofs.Common.{◌≡◌, ℕ, zero, suc, ◌+◌, ◌-◌, ◌≤◌, true, eqb, leb, ltb, List, [], ◌∷◌, ◌++◌, refl, sym, ap, ◌∙◌, subst, get_or, length, append_assoc, length-append, inl, inr, w32, arith}
use Rattle.std.specs.Int.{from_be_bytes}
use Rattle.std.proofs.lemmas.Bool.{eqb-true, eqb-false, leb-true, leb-false, ltb-true, ltb-false}
use Rattle.std.proofs.lemmas.List.{append-nil, append_cancel_right}
use Rattle.lumber_frame.specs.declared.fault.LumberWhy.{LumberWhy}
use Rattle.lumber_frame.specs.declared.field.Field.{Field}
use Rattle.lumber_frame.specs.declared.field.Field.TheVariants.{VersionByte, TypeByte, WindowSize, AckSequence, PairsSequence, JsonSequence, PairCount, PayloadLength, Payload, KeyLength, Key, ValueLength, Value}
use Rattle.lumber_frame.specs.declared.side.Side.{Side}
use Rattle.lumber_frame.specs.declared.side.Side.TheVariants.{Receiver, Sender}
use Rattle.stream_grammar.specs.Automaton.{Goes, Ends, Fails, Going, run}
use Rattle.stream_grammar.proofs.Machine.{along}
use Rattle.lumber_frame.specs.Spelling.{IsNumber, IsString, ArePairsOf}
use Rattle.lumber_frame.specs.Broken.{IsHead, BeforePair, Broken}
use Rattle.lumber_frame.specs.Machine.{State, At, start, size_of, value_of, Turning, pairs_turn, turn, step}
use Rattle.lumber_frame.proofs.TurnLaws.{by_cases, one_byte}
use Rattle.lumber_frame.proofs.BackLaws.{IsGood, turn_good}

-- a head, a pair count, and these bytes of pairs, of which so many are left
pub record PairsRead (left : ℕ) (pairs h : List ℕ) : Type 0 where
  pub head : List ℕ
  pub number : List ℕ
  pub count : ℕ
  pub done : ℕ
  pub head_is : IsHead 68 head
  pub number_is : IsNumber count number
  pub few : count ≤ 1024
  pub pairs_are : ArePairsOf done pairs
  pub total : done + left ≡ count
  pub short : length pairs ≤ 131072
  pub whole : h ≡ head ++ (number ++ pairs)

-- pairs that are read, and then a key
pub record KeyRead (left : ℕ) (text h : List ℕ) : Type 0 where
  pub pairs : List ℕ
  pub front : List ℕ
  pub key : List ℕ
  pub read : PairsRead (suc left) pairs front
  pub key_is : IsString key
  pub short : length pairs + length key + 4 ≤ 131072
  pub text_is : text ≡ pairs ++ key
  pub whole : h ≡ front ++ key

abbrev pub Before : Side → Field → List ℕ → List ℕ → Type 0
Before side VersionByte text h = (h ≡ []) × (text ≡ [])
Before side TypeByte text h = (h ≡ 50 ∷ []) × (text ≡ [])
Before side WindowSize text h = (side ≡ Receiver) × (h ≡ 50 ∷ 87 ∷ [])
Before side AckSequence text h = Unit {0}
Before side PairsSequence text h = (side ≡ Receiver) × (h ≡ 50 ∷ 68 ∷ []) × (text ≡ [])
Before side JsonSequence text h = (side ≡ Receiver) × (h ≡ 50 ∷ 74 ∷ [])
Before side (PairCount seq) text h = (side ≡ Receiver) × IsHead 68 h × (text ≡ [])
Before side (PayloadLength seq) text h = (side ≡ Receiver) × IsHead 74 h
Before side (Payload seq len) text h = Unit {0}
Before side (KeyLength seq left) text h = (side ≡ Receiver) × PairsRead (suc left) text h
Before side (Key seq left len) text h = (side ≡ Receiver) × ((pairs : List ℕ) × (front : List ℕ) × (number : List ℕ) × PairsRead (suc left) pairs front × IsNumber len number × (length pairs + 8 + len ≤ 131072) × (text ≡ pairs ++ number) × (h ≡ front ++ number))
Before side (ValueLength seq left) text h = (side ≡ Receiver) × KeyRead left text h
Before side (Value seq left len) text h = (side ≡ Receiver) × ((front : List ℕ) × (before : List ℕ) × (number : List ℕ) × KeyRead left front before × IsNumber len number × (length front + 4 + len ≤ 131072) × (text ≡ front ++ number) × (h ≡ before ++ number))

-- what a turn leads to stands after the field, or the field breaks a rule
abbrev Holds : Side → List ℕ → List ℕ → Turning → Type 0
Holds side h b (Goes (At field text g)) = (g ≡ []) × Before side field text (h ++ b)
Holds side h b (Ends f) = Unit {0}
Holds side h b (Fails w) = Broken side h b w

pub before_pair : (left : ℕ) (pairs h : List ℕ) → PairsRead (suc left) pairs h → BeforePair pairs h
before_pair left pairs h r = record {
  head = r.head;
  number = r.number;
  count = r.count;
  done = r.done;
  head_is = r.head_is;
  number_is = r.number_is;
  few = r.few;
  pairs_are = r.pairs_are;
  left = omega (arith, r.total);
  short = r.short;
  whole = r.whole;
}

pub pairs_push : (n : ℕ) (pairs key value : List ℕ) → ArePairsOf n pairs → IsString key → IsString value → ArePairsOf (suc n) (pairs ++ (key ++ value))
pairs_push zero pairs key value a k v = (key, value, [], k, v, rw a (ap (λ z. key ++ z) (sym (append-nil value))), refl)
pairs_push (suc n) pairs key value a k v = (
  a.0,
  a.1,
  a.2 ++ (key ++ value),
  a.3,
  a.4,
  ap (λ z. z ++ (key ++ value)) a.5 ∙ append_assoc a.0 (a.1 ++ a.2) (key ++ value) ∙ ap (λ z. a.0 ++ z) (append_assoc a.1 a.2 (key ++ value)),
  pairs_push n a.2 key value a.6 k v,
)

pairs_read_more : (left : ℕ) (pairs h key value : List ℕ) → PairsRead (suc left) pairs h → IsString key → IsString value → length pairs + length key + length value ≤ 131072 → PairsRead left (pairs ++ (key ++ value)) (h ++ (key ++ value))
pairs_read_more left pairs h key value r k v room = record {
  head = r.head;
  number = r.number;
  count = r.count;
  done = suc r.done;
  head_is = r.head_is;
  number_is = r.number_is;
  few = r.few;
  pairs_are = pairs_push r.done pairs key value r.pairs_are k v;
  total = omega (arith, r.total);
  short = omega (arith, room, length-append pairs (key ++ value), length-append key value);
  whole = ap (λ z. z ++ (key ++ value)) r.whole ∙ append_assoc r.head (r.number ++ pairs) (key ++ value) ∙ ap (λ z. r.head ++ z) (append_assoc r.number pairs (key ++ value));
}

string_is : (number string : List ℕ) (n : ℕ) → IsNumber n number → length string ≡ n → IsString (number ++ string)
string_is number string n i l = record { number = number; string = string; whole = refl; number_is = record { four = i.four; value = i.value ∙ sym l } }

number_of : (b : List ℕ) → length b ≡ 4 → IsNumber (from_be_bytes w32 b) b
number_of b l = record { four = l; value = refl }

holds_pairs : (side : Side) (seq left : ℕ) (text h b : List ℕ) → side ≡ Receiver → PairsRead left text (h ++ b) → Holds side h b (pairs_turn seq left text)
holds_pairs side seq left text h b r p = by_cases (Holds side h b) (eqb left 0) _ _ (λ _. tt) (λ e. go left (eqb-false left 0 e) p)
  where
    go : (n : ℕ) → (n ≡ 0 → ⊥) → PairsRead n text (h ++ b) → Holds side h b (Goes (At (KeyLength seq (n - 1)) text []))
    go zero some q = absurd (some refl)
    go (suc n) some q = let d : suc n - 1 ≡ n = omega arith in (refl, (r, subst (λ m. PairsRead (suc m) text (h ++ b)) (sym d) q))

-- a value ends a pair
holds_value : (side : Side) (seq left : ℕ) (front before value text h b : List ℕ) → side ≡ Receiver → KeyRead left front before → IsString value → length front + length value ≤ 131072 → text ≡ front ++ value → h ++ b ≡ before ++ value → Holds side h b (pairs_turn seq left text)
holds_value side seq left front before value text h b r k v room t w =
    let q : text ≡ k.pairs ++ (k.key ++ value) = t ∙ ap (λ z. z ++ value) k.text_is ∙ append_assoc k.pairs k.key value in
    let u : h ++ b ≡ k.front ++ (k.key ++ value) = w ∙ ap (λ z. z ++ value) k.whole ∙ append_assoc k.front k.key value in
    let m : length k.pairs + length k.key + length value ≤ 131072 = omega (arith, room, ap length k.text_is, length-append k.pairs k.key) in
    let p = pairs_read_more left k.pairs k.front k.key value k.read k.key_is v m in
    holds_pairs side seq left text h b r (subst (λ z. PairsRead left text z) (sym u) (subst (λ z. PairsRead left z (k.front ++ (k.key ++ value))) (sym q) p))

holds_type : (side : Side) (text h b : List ℕ) → length b ≡ 1 → h ≡ 50 ∷ [] → text ≡ [] → Holds side h b (turn side TypeByte text b (get_or b 0 0))
unfolding turn
holds_type Receiver text h b l e t =
    let c = get_or b 0 0 in
    let o = one_byte b l in
    let P : Turning → Type 0 = Holds Receiver h b in
    let behind : (x : ℕ) → eqb c x ≡ true → h ++ b ≡ 50 ∷ x ∷ [] = λ x q. ap (λ z. z ++ b) e ∙ ap (λ z. 50 ∷ z) (o ∙ ap (λ z. z ∷ []) (eqb-true c x q)) in
    by_cases P (eqb c 87) _ _ (λ q. (refl, (refl, behind 87 q))) (λ n0.
    by_cases P (eqb c 68) _ _ (λ q. (refl, (refl, behind 68 q, t))) (λ n1.
    by_cases P (eqb c 74) _ _ (λ q. (refl, (refl, behind 74 q))) (λ n2.
    by_cases P (eqb c 65) _ _ (λ q. (refl, e, o ∙ ap (λ z. z ∷ []) (eqb-true c 65 q))) (λ n3.
    by_cases P (eqb c 67) _ _ (λ q. (e, o ∙ ap (λ z. z ∷ []) (eqb-true c 67 q))) (λ n4. (e, (c, o, (eqb-false c 87 n0, eqb-false c 68 n1, eqb-false c 74 n2, eqb-false c 65 n3, eqb-false c 67 n4))))))))
holds_type Sender text h b l e t =
    let c = get_or b 0 0 in
    let o = one_byte b l in
    let P : Turning → Type 0 = Holds Sender h b in
    by_cases P (eqb c 65) _ _ (λ q. (refl, tt)) (λ n0.
    by_cases P (eqb c 67) _ _ (λ q. (e, o ∙ ap (λ z. z ∷ []) (eqb-true c 67 q))) (λ n1. (e, (c, o, (eqb-false c 65 n0, eqb-false c 67 n1)))))

turn_holds : (side : Side) (field : Field) (text h b : List ℕ) → length b ≡ size_of field → Before side field text h → Holds side h b (turn side field text b (value_of field b))
unfolding turn
turn_holds side VersionByte text h b l (e, t) =
    let c = get_or b 0 0 in
    let o = one_byte b l in
    by_cases (Holds side h b) (eqb c 50) _ _
    (λ q. (refl, (ap (λ z. z ++ b) e ∙ o ∙ ap (λ z. z ∷ []) (eqb-true c 50 q), t)))
    (λ q. (e, (c, o, eqb-false c 50 q)))
turn_holds side TypeByte text h b l (e, t) = holds_type side text h b l e t
turn_holds side WindowSize text h b l (r, e) =
    let n = from_be_bytes w32 b in
    by_cases (Holds side h b) (leb n 65536) _ _ (λ _. tt) (λ q. (r, (n, number_of b l, inl (e, leb-false n 65536 q))))
turn_holds side AckSequence text h b l k = tt
turn_holds side PairsSequence text h b l (r, e, t) = (refl, (r, record { sequence = b; four = l; whole = ap (λ z. z ++ b) e }, t))
turn_holds side JsonSequence text h b l (r, e) = (refl, (r, record { sequence = b; four = l; whole = ap (λ z. z ++ b) e }))
turn_holds side (PairCount seq) text h b l (r, head, t) =
    let n = from_be_bytes w32 b in
    by_cases (Holds side h b) (leb n 1024) _ _
    (λ q. holds_pairs side seq n text h b r (record {
      head = h;
      number = b;
      count = n;
      done = zero;
      head_is = head;
      number_is = number_of b l;
      few = leb-true n 1024 q;
      pairs_are = t;
      total = omega arith;
      short = omega (arith, ap length t);
      whole = ap (λ z. h ++ z) (sym (ap (λ z. b ++ z) t ∙ append-nil b));
    }))
    (λ q. (r, (n, number_of b l, inr (head, leb-false n 1024 q))))
turn_holds side (PayloadLength seq) text h b l (r, head) =
    let n = from_be_bytes w32 b in
    by_cases (Holds side h b) (leb n 131072) _ _ (λ _. by_cases (Holds side h b) (eqb n 0) _ _ (λ _. tt) (λ _. (refl, tt))) (λ q. (r, (n, number_of b l, inl (head, leb-false n 131072 q))))
turn_holds side (Payload seq len) text h b l k = tt
turn_holds side (KeyLength seq left) text h b l (r, p) =
    let n = from_be_bytes w32 b in
    by_cases (Holds side h b) (leb (length text + 8 + n) 131072) _ _
    (λ q.
    let m = leb-true (length text + 8 + n) 131072 q in
    by_cases (Holds side h b) (eqb n 0) _ _
    (λ z.
    let k = string_is b [] n (number_of b l) (sym (eqb-true n 0 z)) in
    (refl, (r, record { pairs = text; front = h; key = b; read = p; key_is = subst IsString (append-nil b) k; short = omega (arith, m, l); text_is = refl; whole = refl })))
    (λ _. (refl, (r, (text, h, b, p, number_of b l, m, refl, refl)))))
    (λ q. (r, (n, number_of b l, inr (inl (text, before_pair left text h p, leb-false (length text + 8 + n) 131072 q)))))
turn_holds side (Key seq left len) text h b l (r, (pairs, front, number, p, i, m, t, w)) = (
  refl,
  (
    r,
    record {
      pairs = pairs;
      front = front;
      key = number ++ b;
      read = p;
      key_is = string_is number b len i l;
      short = omega (arith, m, l, i.four, length-append number b);
      text_is = ap (λ z. z ++ b) t ∙ append_assoc pairs number b;
      whole = ap (λ z. z ++ b) w ∙ append_assoc front number b;
    },
  ),
)
turn_holds side (ValueLength seq left) text h b l (r, k) =
    let n = from_be_bytes w32 b in
    let u : length text ≡ length k.pairs + length k.key = ap length k.text_is ∙ length-append k.pairs k.key in
    by_cases (Holds side h b) (leb (length text + 4 + n) 131072) _ _
    (λ q.
    let m = leb-true (length text + 4 + n) 131072 q in
    by_cases (Holds side h b) (eqb n 0) _ _
    (λ z. holds_value side seq left text h b (text ++ b) h b r k (subst IsString (append-nil b) (string_is b [] n (number_of b l) (sym (eqb-true n 0 z)))) (omega (arith, m, l)) refl refl)
    (λ _. (refl, (r, (text, h, b, k, number_of b l, m, refl, refl)))))
    (λ q. (r, (n, number_of b l, inr (inr (k.pairs, k.key, record { front = k.front; before = before_pair left k.pairs k.front k.read; key_is = k.key_is; short = k.short; whole = k.whole }, omega (arith, u, leb-false (length text + 4 + n) 131072 q))))))
turn_holds side (Value seq left len) text h b l (r, (front, before, number, k, i, m, t, w)) = holds_value side seq left front before (number ++ b) (text ++ b) h b r k (string_is number b len i l) (omega (arith, m, l, i.four, length-append number b)) (ap (λ z. z ++ b) t ∙ append_assoc front number b) (ap (λ z. z ++ b) w ∙ append_assoc before number b)

-- the bytes so far are what stands before the field, and its own
abbrev pub Reached : Side → State → List ℕ → Type 0
Reached side (At field text g) x = (h : List ℕ) × Before side field text h × (x ≡ h ++ g) × IsGood (At field text g)

push_length : (g : List ℕ) (c : ℕ) → length (g ++ c ∷ []) ≡ length g + 1
push_length g c = length-append g (c ∷ [])

-- what the machine goes to, or why it fails, by one byte
abbrev Onward : Side → List ℕ → Turning → Type 0
Onward side x (Goes t) = Reached side t x
Onward side x (Ends f) = Unit {0}
Onward side x (Fails w) = (h : List ℕ) × (field : List ℕ) × (x ≡ h ++ field) × Broken side h field w

onward : (side : Side) (s : State) (c : ℕ) (x : List ℕ) → Reached side s x → Onward side (x ++ c ∷ []) (step side s c)
unfolding step
onward side (At field text g) c x (h, before, w, good) =
    let u : x ++ c ∷ [] ≡ h ++ (g ++ c ∷ []) = ap (λ z. z ++ c ∷ []) w ∙ append_assoc h g (c ∷ []) in
    by_cases (Onward side (x ++ c ∷ [])) (ltb (length g + 1) (size_of field)) _ _
    (λ q. (h, before, u, (omega (arith, ltb-true (length g + 1) (size_of field) q, push_length g c), good.1)))
    (λ q.
    let b = g ++ c ∷ [] in
    let s : size_of field ≤ length g + 1 = ltb-false (length g + 1) (size_of field) q in
    let l : length b ≡ size_of field = omega (arith, s, good.0, push_length g c) in
    go (turn side field text b (value_of field b)) (turn_holds side field text h b l before) (λ t e. turn_good side field text b t l good.1 e) u)
  where
    go : (z : Turning) → Holds side h (g ++ c ∷ []) z → ((t : State) → z ≡ Goes t → IsGood t) → x ++ c ∷ [] ≡ h ++ (g ++ c ∷ []) → Onward side (x ++ c ∷ []) z
    go (Goes (At f t k)) i good u = (h ++ (g ++ c ∷ []), i.1, u ∙ sym (ap (λ z. (h ++ (g ++ c ∷ [])) ++ z) i.0 ∙ append-nil (h ++ (g ++ c ∷ []))), good (At f t k) refl)
    go (Ends f) i good u = tt
    go (Fails w) i good u = (h, g ++ c ∷ [], u, i)

-- the machine reaches a state by what stands before its field
pub reached : (side : Side) (t : State) (x : List ℕ) → run (step side) start x ≡ Going t → Reached side t x
reached side t x e = along (step side) (Reached side) (λ s t c h a q. subst (Onward side (h ++ c ∷ [])) q (onward side s c h a)) start t [] x ([], (refl, refl), refl, (omega arith, omega arith)) e

-- where it fails a field breaks its rule
pub fails_broken : (side : Side) (t : State) (h : List ℕ) (c : ℕ) (w : LumberWhy) → run (step side) start h ≡ Going t → step side t c ≡ Fails w → (x : List ℕ) × (field : List ℕ) × (h ++ c ∷ [] ≡ x ++ field) × Broken side x field w
fails_broken side t h c w e q = subst (Onward side (h ++ c ∷ [])) q (onward side t c h (reached side t h e))

-- a whole field that fails breaks its rule
pub turn_broken : (side : Side) (field : Field) (text h g b : List ℕ) (w : LumberWhy) → run (step side) start (h ++ g) ≡ Going (At field text g) → length (g ++ b) ≡ size_of field → turn side field text (g ++ b) (value_of field (g ++ b)) ≡ Fails w → Broken side h (g ++ b) w
turn_broken side field text h g b w e l q =
    let r = reached side (At field text g) (h ++ g) e in
    let u : h ≡ r.0 = append_cancel_right h r.0 g r.2 in
    subst (λ z. Broken side z (g ++ b) w) (sym u) (subst (Holds side r.0 (g ++ b)) q (turn_holds side field text r.0 (g ++ b) l r.1))
