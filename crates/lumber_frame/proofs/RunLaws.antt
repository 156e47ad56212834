-- What whole fields make of the machine, and that it fails at the end of each field that breaks its rule.
use Rattle.std.proofs.Common.{◌≡◌, ℕ, zero, suc, ◌+◌, ◌-◌, ◌<◌, ◌≤◌, true, false, eqb, leb, ltb, List, [], ◌∷◌, ◌++◌, refl, sym, ap, ◌∙◌, take, length, append_assoc, length-append, inl, inr, w32, arith}
use Rattle.std.specs.Int.{from_be_bytes}
use Rattle.std.proofs.lemmas.Bool.{lt-leb, le-leb, lt-ltb, le-ltb, ne_eqb}
use Rattle.std.proofs.lemmas.List.{append-nil, take_at}
use Rattle.std.proofs.Math.Seq.{take-append-add}
use Rattle.lumber_frame.specs.declared.fault.LumberWhy.{LumberWhy}
use Rattle.lumber_frame.specs.declared.fault.LumberWhy.TheVariants.{Version, Kind, Compressed, AckFromWriter, TooLong, TooMany}
use Rattle.lumber_frame.specs.declared.field.Field.{Field}
use Rattle.lumber_frame.specs.declared.field.Field.TheVariants.{VersionByte, TypeByte, WindowSize, PairsSequence, JsonSequence, PairCount, PayloadLength, KeyLength, Key, ValueLength, Value}
use Rattle.lumber_frame.specs.declared.side.Side.{Side}
use Rattle.lumber_frame.specs.declared.side.Side.TheVariants.{Receiver, Sender}
use Rattle.stream_grammar.specs.Automaton.{Goes, Fails, Going, Bad, then, run}
use Rattle.stream_grammar.proofs.Machine.{going_run}
use Rattle.stream_grammar.proofs.FieldFaults.{BreakLaws}
use Rattle.lumber_frame.specs.Spelling.{IsNumber, IsString, ArePairsOf}
use Rattle.lumber_frame.specs.Broken.{IsHead, BeforePair, BeforeValue, IsNoType, Broken}
use Rattle.lumber_frame.specs.Machine.{State, At, start, size_of, value_of, turn, step}
use Rattle.lumber_frame.proofs.FrameLaws.{lumber_laws}
use Rattle.lumber_frame.proofs.BeforeLaws.{fails_broken}

push_length : (g : List ℕ) (c : ℕ) → length (g ++ c ∷ []) ≡ length g + 1
push_length g c = length-append g (c ∷ [])

-- one byte of a field that isn't the last
step_more : (side : Side) (field : Field) (text g : List ℕ) (c : ℕ) → length g + 1 < size_of field → step side (At field text g) c ≡ Goes (At field text (g ++ c ∷ []))
unfolding step
step_more side field text g c l = rw (lt-ltb (length g + 1) (size_of field) l) refl

step_last : (side : Side) (field : Field) (text g : List ℕ) (c : ℕ) → length g + 1 ≡ size_of field → step side (At field text g) c ≡ turn side field text (g ++ c ∷ []) (value_of field (g ++ c ∷ []))
unfolding step
step_last side field text g c l = let s : ltb (length g + 1) (size_of field) ≡ false = le-ltb (length g + 1) (size_of field) (omega arith) in rw s refl

-- bytes of a field that aren't all of it
pub run_part : (side : Side) (field : Field) (text g b : List ℕ) → length g + length b < size_of field → run (step side) (At field text g) b ≡ Going (At field text (g ++ b))
run_part side field text g [] l = ap (λ z. Going (At field text z)) (sym (append-nil g))
run_part side field text g (c ∷ b) l =
    let s = step_more side field text g c (omega (arith, l)) in
    ap (λ p. then p (λ u. run (step side) u b) b) s ∙ run_part side field text (g ++ c ∷ []) b (omega (arith, l, push_length g c)) ∙ ap (λ z. Going (At field text z)) (append_assoc g (c ∷ []) b)

-- the rest of a field, and what follows
pub run_whole : (side : Side) (field : Field) (text g b y : List ℕ) → 0 < length b → length g + length b ≡ size_of field → run (step side) (At field text g) (b ++ y) ≡ then (turn side field text (g ++ b) (value_of field (g ++ b))) (λ u. run (step side) u y) y
run_whole side field text g [] y some l = absurd (omega arith)
run_whole side field text g (c ∷ []) y some l = ap (λ p. then p (λ u. run (step side) u y) y) (step_last side field text g c (omega (arith, l)))
run_whole side field text g (c ∷ d ∷ b) y some l =
    let s = step_more side field text g c (omega (arith, l)) in
    let a : (g ++ c ∷ []) ++ d ∷ b ≡ g ++ c ∷ d ∷ b = append_assoc g (c ∷ []) (d ∷ b) in
    ap (λ p. then p (λ u. run (step side) u ((d ∷ b) ++ y)) ((d ∷ b) ++ y)) s ∙ run_whole side field text (g ++ c ∷ []) (d ∷ b) y (omega arith) (omega (arith, l, push_length g c)) ∙ ap (λ z. then (turn side field text z (value_of field z)) (λ u. run (step side) u y) y) a

-- a whole field after what led to it
then_goes : (side : Side) (field : Field) (text b : List ℕ) (s t : State) → 0 < length b → length b ≡ size_of field → s ≡ At field text [] → turn side field text b (value_of field b) ≡ Goes t → run (step side) s b ≡ Going t
then_goes side field text b s t some l is q =
    ap (λ z. run (step side) z b) is ∙ ap (λ z. run (step side) (At field text []) z) (sym (append-nil b)) ∙ run_whole side field text [] b [] some (omega (arith, l)) ∙ ap (λ p. then p (λ u. run (step side) u []) []) q

then_fails : (side : Side) (field : Field) (text h b : List ℕ) (w : LumberWhy) → run (step side) start h ≡ Going (At field text []) → 0 < length b → length b ≡ size_of field → turn side field text b (value_of field b) ≡ Fails w → run (step side) start (h ++ b) ≡ Bad w []
then_fails side field text h b w e some l q =
    going_run (lumber_laws side) start (At field text []) h b e
    ∙ ap (run (step side) (At field text [])) (sym (append-nil b))
    ∙ run_whole side field text [] b [] some (omega (arith, l))
    ∙ ap (λ p. then p (λ u. run (step side) u []) []) q

both : (side : Side) (s t u : State) (a b : List ℕ) → run (step side) s a ≡ Going t → run (step side) t b ≡ Going u → run (step side) s (a ++ b) ≡ Going u
both side s t u a b e r = going_run (lumber_laws side) s t a b e ∙ r

-- ---- what leads to each field

at_type : (side : Side) → run (step side) start (50 ∷ []) ≡ Going (At TypeByte [] [])
unfolding step turn
at_type side = refl

at_size : run (step Receiver) start (50 ∷ 87 ∷ []) ≡ Going (At WindowSize [] [])
unfolding step turn
at_size = refl

at_pairs : run (step Receiver) start (50 ∷ 68 ∷ []) ≡ Going (At PairsSequence [] [])
unfolding step turn
at_pairs = refl

at_json : run (step Receiver) start (50 ∷ 74 ∷ []) ≡ Going (At JsonSequence [] [])
unfolding step turn
at_json = refl

at_count : (h : List ℕ) → IsHead 68 h → (seq : ℕ) × (run (step Receiver) start h ≡ Going (At (PairCount seq) [] []))
unfolding turn
at_count h i =
    let n = from_be_bytes w32 i.sequence in
    (n, ap (run (step Receiver) start) i.whole ∙ both Receiver start (At PairsSequence [] []) (At (PairCount n) [] []) (50 ∷ 68 ∷ []) i.sequence at_pairs (then_goes Receiver PairsSequence [] i.sequence (At PairsSequence [] []) (At (PairCount n) [] []) (omega (arith, i.four)) i.four refl refl))

at_length : (h : List ℕ) → IsHead 74 h → (seq : ℕ) × (run (step Receiver) start h ≡ Going (At (PayloadLength seq) [] []))
unfolding turn
at_length h i =
    let n = from_be_bytes w32 i.sequence in
    (n, ap (run (step Receiver) start) i.whole ∙ both Receiver start (At JsonSequence [] []) (At (PayloadLength n) [] []) (50 ∷ 74 ∷ []) i.sequence at_json (then_goes Receiver JsonSequence [] i.sequence (At JsonSequence [] []) (At (PayloadLength n) [] []) (omega (arith, i.four)) i.four refl refl))

-- a key
run_key : (side : Side) (seq left : ℕ) (text key : List ℕ) → IsString key → length text + length key + 4 ≤ 131072 → run (step side) (At (KeyLength seq left) text []) key ≡ Going (At (ValueLength seq left) (text ++ key) [])
unfolding turn
run_key side seq left text key k room = ap (run (step side) (At (KeyLength seq left) text [])) k.whole ∙ go k.string k.number_is (ap length k.whole ∙ length-append k.number k.string) ∙ ap (λ z. Going (At (ValueLength seq left) (text ++ z) [])) (sym k.whole)
  where
    go : (string : List ℕ) → IsNumber (length string) k.number → length key ≡ length k.number + length string → run (step side) (At (KeyLength seq left) text []) (k.number ++ string) ≡ Going (At (ValueLength seq left) (text ++ (k.number ++ string)) [])
    go [] i l =
        let m : leb (length text + 8 + from_be_bytes w32 k.number) 131072 ≡ true = le-leb (length text + 8 + from_be_bytes w32 k.number) 131072 (omega (arith, room, l, i.four, i.value)) in
        let z : eqb (from_be_bytes w32 k.number) 0 ≡ true = rw i.value refl in
        let n : k.number ++ [] ≡ k.number = append-nil k.number in
        rw n (then_goes side (KeyLength seq left) text k.number (At (KeyLength seq left) text []) (At (ValueLength seq left) (text ++ k.number) []) (omega (arith, i.four)) i.four refl (rw (m, z) refl))
    go (c ∷ string) i l =
        let n = from_be_bytes w32 k.number in
        let m : leb (length text + 8 + n) 131072 ≡ true = le-leb (length text + 8 + n) 131072 (omega (arith, room, l, i.four, i.value)) in
        let z : eqb n 0 ≡ false = ne_eqb n 0 (λ q. omega (arith, i.value)) in
        let key' = At (Key seq left n) (text ++ k.number) [] in
        both side (At (KeyLength seq left) text []) key' _ k.number (c ∷ string) (then_goes side (KeyLength seq left) text k.number (At (KeyLength seq left) text []) key' (omega (arith, i.four)) i.four refl (rw (m, z) refl)) (then_goes side (Key seq left n) (text ++ k.number) (c ∷ string) key' (At (ValueLength seq left) ((text ++ k.number) ++ c ∷ string) []) (omega arith) (sym i.value) refl refl) ∙ ap (λ v. Going (At (ValueLength seq left) v [])) (append_assoc text k.number (c ∷ string))

-- a value, of a pair that isn't the last
run_value : (side : Side) (seq left : ℕ) (text value : List ℕ) → IsString value → length text + length value ≤ 131072 → run (step side) (At (ValueLength seq (suc left)) text []) value ≡ Going (At (KeyLength seq left) (text ++ value) [])
unfolding turn
run_value side seq left text value k room = ap (run (step side) (At (ValueLength seq (suc left)) text [])) k.whole ∙ go k.string k.number_is (ap length k.whole ∙ length-append k.number k.string) ∙ ap (λ z. Going (At (KeyLength seq left) (text ++ z) [])) (sym k.whole)
  where
    more : eqb (suc left) 0 ≡ false
    more = ne_eqb (suc left) 0 (λ q. omega arith)

    less : suc left - 1 ≡ left
    less = omega arith

    go : (string : List ℕ) → IsNumber (length string) k.number → length value ≡ length k.number + length string → run (step side) (At (ValueLength seq (suc left)) text []) (k.number ++ string) ≡ Going (At (KeyLength seq left) (text ++ (k.number ++ string)) [])
    go [] i l =
        let m : leb (length text + 4 + from_be_bytes w32 k.number) 131072 ≡ true = le-leb (length text + 4 + from_be_bytes w32 k.number) 131072 (omega (arith, room, l, i.four, i.value)) in
        let z : eqb (from_be_bytes w32 k.number) 0 ≡ true = rw i.value refl in
        let n : k.number ++ [] ≡ k.number = append-nil k.number in
        rw n (then_goes side (ValueLength seq (suc left)) text k.number (At (ValueLength seq (suc left)) text []) (At (KeyLength seq left) (text ++ k.number) []) (omega (arith, i.four)) i.four refl (rw (m, z, more, less) refl))
    go (c ∷ string) i l =
        let n = from_be_bytes w32 k.number in
        let m : leb (length text + 4 + n) 131072 ≡ true = le-leb (length text + 4 + n) 131072 (omega (arith, room, l, i.four, i.value)) in
        let z : eqb n 0 ≡ false = ne_eqb n 0 (λ q. omega (arith, i.value)) in
        let value' = At (Value seq (suc left) n) (text ++ k.number) [] in
        both side (At (ValueLength seq (suc left)) text []) value' _ k.number (c ∷ string) (then_goes side (ValueLength seq (suc left)) text k.number (At (ValueLength seq (suc left)) text []) value' (omega (arith, i.four)) i.four refl (rw (m, z) refl)) (then_goes side (Value seq (suc left) n) (text ++ k.number) (c ∷ string) value' (At (KeyLength seq left) ((text ++ k.number) ++ c ∷ string) []) (omega arith) (sym i.value) refl (rw (more, less) refl)) ∙ ap (λ v. Going (At (KeyLength seq left) v [])) (append_assoc text k.number (c ∷ string))

-- so many pairs, and more of them
run_pairs : (side : Side) (seq left n : ℕ) (text b : List ℕ) → ArePairsOf n b → length text + length b ≤ 131072 → run (step side) (At (KeyLength seq (n + left)) text []) b ≡ Going (At (KeyLength seq left) (text ++ b) [])
run_pairs side seq left zero text b a room =
    let e : zero + left ≡ left = omega arith in
    rw (e, a, append-nil text) refl
run_pairs side seq left (suc n) text b a room =
    let e : suc n + left ≡ suc (n + left) = omega arith in
    let key = a.0 in
    let value = a.1 in
    let l : length b ≡ length key + (length value + length a.2) = ap length a.5 ∙ length-append key (value ++ a.2) ∙ ap (λ z. length key + z) (length-append value a.2) in
    let v : 4 ≤ length value = omega (arith, ap length a.4.whole, length-append a.4.number a.4.string, a.4.number_is.four) in
    let k1 = run_key side seq (suc (n + left)) text key a.3 (omega (arith, room, l, v)) in
    let k2 = run_value side seq (n + left) (text ++ key) value a.4 (omega (arith, room, l, length-append text key)) in
    let k3 = run_pairs side seq left n ((text ++ key) ++ value) a.2 a.6 (omega (arith, room, l, length-append (text ++ key) value, length-append text key)) in
    ap (λ z. run (step side) (At (KeyLength seq z) text []) b) e
    ∙ ap (run (step side) (At (KeyLength seq (suc (n + left))) text [])) a.5
    ∙ both side _ _ _ key (value ++ a.2) k1 (both side _ _ _ value a.2 k2 k3)
    ∙ ap (λ z. Going (At (KeyLength seq left) z [])) (append_assoc (text ++ key) value a.2 ∙ append_assoc text key (value ++ a.2) ∙ ap (λ z. text ++ z) (sym a.5))

at_pair : (pairs h : List ℕ) → BeforePair pairs h → (seq : ℕ) × (left : ℕ) × (run (step Receiver) start h ≡ Going (At (KeyLength seq left) pairs []))
unfolding turn
at_pair pairs h i =
    let c = at_count i.head i.head_is in
    let seq = c.0 in
    let n = from_be_bytes w32 i.number in
    let left = i.count - i.done - 1 in
    let m : leb n 1024 ≡ true = le-leb n 1024 (omega (arith, i.few, i.number_is.value)) in
    let z : eqb n 0 ≡ false = ne_eqb n 0 (λ q. omega (arith, i.left, i.number_is.value)) in
    let e : n - 1 ≡ i.done + left = omega (arith, i.left, i.number_is.value) in
    let four = i.number_is.four in
    let first : run (step Receiver) (At (PairCount seq) [] []) i.number ≡ Going (At (KeyLength seq (n - 1)) [] []) = then_goes Receiver (PairCount seq) [] i.number (At (PairCount seq) [] []) (At (KeyLength seq (n - 1)) [] []) (omega (arith, four)) four refl (rw (m, z) refl) in
    let more : run (step Receiver) (At (KeyLength seq (n - 1)) [] []) pairs ≡ Going (At (KeyLength seq left) pairs []) = ap (λ k. run (step Receiver) (At (KeyLength seq k) [] []) pairs) e ∙ run_pairs Receiver seq left i.done [] pairs i.pairs_are (omega (arith, i.short)) in
    (seq, left, ap (run (step Receiver) start) i.whole ∙ both Receiver start (At (PairCount seq) [] []) (At (KeyLength seq left) pairs []) i.head (i.number ++ pairs) c.1 (both Receiver (At (PairCount seq) [] []) (At (KeyLength seq (n - 1)) [] []) (At (KeyLength seq left) pairs []) i.number pairs first more))

at_value : (pairs key h : List ℕ) → BeforeValue pairs key h → (seq : ℕ) × (left : ℕ) × (run (step Receiver) start h ≡ Going (At (ValueLength seq left) (pairs ++ key) []))
at_value pairs key h i =
    let p = at_pair pairs i.front i.before in
    (p.0, p.1, ap (run (step Receiver) start) i.whole ∙ both Receiver start (At (KeyLength p.0 p.1) pairs []) (At (ValueLength p.0 p.1) (pairs ++ key) []) i.front key p.2 (run_key Receiver p.0 p.1 pairs key i.key_is i.short))

-- ---- a broken field

-- the machine stands before the field, and fails with it
pub record BreaksAt (side : Side) (h field : List ℕ) (w : LumberWhy) : Type 0 where
  pub kind : Field
  pub text : List ℕ
  pub reached : run (step side) start h ≡ Going (At kind text [])
  pub some : 0 < length field
  pub size : length field ≡ size_of kind
  pub fails : turn side kind text field (value_of kind field) ≡ Fails w

no_type : (side : Side) (c : ℕ) → IsNoType side c → turn side TypeByte [] (c ∷ []) c ≡ Fails Kind
unfolding turn
no_type Receiver c (a, b, d, e, f) = rw (ne_eqb c 87 a, ne_eqb c 68 b, ne_eqb c 74 d, ne_eqb c 65 e, ne_eqb c 67 f) refl
no_type Sender c (a, b) = rw (ne_eqb c 65 a, ne_eqb c 67 b) refl

no_compressed : (side : Side) → turn side TypeByte [] (67 ∷ []) 67 ≡ Fails Compressed
unfolding turn
no_compressed Receiver = refl
no_compressed Sender = refl

breaks_at : (side : Side) (h field : List ℕ) (w : LumberWhy) → Broken side h field w → BreaksAt side h field w
unfolding turn
breaks_at side h field Version (e, (c, q, n)) = record { kind = VersionByte; text = []; reached = ap (run (step side) start) e; some = omega (arith, ap length q); size = ap length q; fails = rw (q, ne_eqb c 50 n) refl }
breaks_at side h field Compressed (e, q) = record { kind = TypeByte; text = []; reached = ap (run (step side) start) e ∙ at_type side; some = omega (arith, ap length q); size = ap length q; fails = rw q (no_compressed side) }
breaks_at side h field AckFromWriter (r, e, q) = record { kind = TypeByte; text = []; reached = ap (run (step side) start) e ∙ at_type side; some = omega (arith, ap length q); size = ap length q; fails = rw (r, q) refl }
breaks_at side h field Kind (e, (c, q, n)) = record { kind = TypeByte; text = []; reached = ap (run (step side) start) e ∙ at_type side; some = omega (arith, ap length q); size = ap length q; fails = rw q (no_type side c n) }
breaks_at side h field TooMany (r, (n, i, inl (e, l))) = rw r (record { kind = WindowSize; text = []; reached = ap (run (step Receiver) start) e ∙ at_size; some = omega (arith, i.four); size = i.four; fails = rw (lt-leb (from_be_bytes w32 field) 65536 (omega (arith, l, i.value))) refl })
breaks_at side h field TooMany (r, (n, i, inr (e, l))) =
    let c = at_count h e in
    rw r (record { kind = PairCount c.0; text = []; reached = c.1; some = omega (arith, i.four); size = i.four; fails = rw (lt-leb (from_be_bytes w32 field) 1024 (omega (arith, l, i.value))) refl })
breaks_at side h field TooLong (r, (n, i, inl (e, l))) =
    let c = at_length h e in
    rw r (record { kind = PayloadLength c.0; text = []; reached = c.1; some = omega (arith, i.four); size = i.four; fails = rw (lt-leb (from_be_bytes w32 field) 131072 (omega (arith, l, i.value))) refl })
breaks_at side h field TooLong (r, (n, i, inr (inl (pairs, e, l)))) =
    let c = at_pair pairs h e in
    rw r (record { kind = KeyLength c.0 c.1; text = pairs; reached = c.2; some = omega (arith, i.four); size = i.four; fails = rw (lt-leb (length pairs + 8 + from_be_bytes w32 field) 131072 (omega (arith, l, i.value))) refl })
breaks_at side h field TooLong (r, (n, i, inr (inr (pairs, key, e, l)))) =
    let c = at_value pairs key h e in
    rw r (record { kind = ValueLength c.0 c.1; text = pairs ++ key; reached = c.2; some = omega (arith, i.four); size = i.four; fails = rw (lt-leb (length (pairs ++ key) + 4 + from_be_bytes w32 field) 131072 (omega (arith, l, i.value, length-append pairs key))) refl })

-- no field begins within another one
no_within : (side : Side) (h k x y : List ℕ) (v w : LumberWhy) → BreaksAt side h x v → BreaksAt side k y w → h ++ x ≡ k ++ y → length h < length k → ⊥
no_within side h k x y v w i j e l =
    let n : length h + length x ≡ length k + length y = sym (length-append h x) ∙ ap length e ∙ length-append k y in
    let d = length k - length h in
    let u : k ≡ h ++ take d x = sym (take_at k y (length k) refl) ∙ ap (take (length k)) (sym e) ∙ cut in
    let p : run (step side) start k ≡ Going (At i.kind i.text (take d x)) = ap (run (step side) start) u ∙ both side start (At i.kind i.text []) (At i.kind i.text (take d x)) h (take d x) i.reached (run_part side i.kind i.text [] (take d x) (omega (arith, ap length u, length-append h (take d x), i.size, n, j.some))) in
    let q : At i.kind i.text (take d x) ≡ At j.kind j.text [] = cc in
    let z : take d x ≡ [] = cc in
    omega (arith, l, ap length u, length-append h (take d x), ap length z)
  where
    cut : take (length k) (h ++ x) ≡ h ++ take (length k - length h) x
    cut = ap (λ m. take m (h ++ x)) (omega arith) ∙ take-append-add h x (length k - length h)

one_field : (side : Side) (h k x y : List ℕ) (v w : LumberWhy) → Broken side h x v → Broken side k y w → h ++ x ≡ k ++ y → h ≡ k
one_field side h k x y v w i j e =
    let a : length h < length k → ⊥ = no_within side h k x y v w (breaks_at side h x v i) (breaks_at side k y w j) e in
    let b : length k < length h → ⊥ = no_within side k h y x w v (breaks_at side k y w j) (breaks_at side h x v i) (sym e) in
    let l : length h ≡ length k = omega (arith, a, b) in
    sym (take_at h x (length h) refl) ∙ ap (take (length h)) e ∙ take_at k y (length h) (sym l)

-- the broken fields of Lumberjack
pub lumber_breaks : (side : Side) → BreakLaws (step side) start (Broken side)
lumber_breaks side = record {
  breaks = λ h field w b. let i = breaks_at side h field w b in then_fails side i.kind i.text h field w i.reached i.some i.size i.fails;
  broken = fails_broken side;
  one_field = one_field side;
}
