-- The laws of the machine that reads one frame.
use Rattle.std.proofs.Common.{◌≡◌, ℕ, ◌+◌, ◌<◌, ◌≤◌, true, false, ltb, List, [], ◌∷◌, ◌++◌, refl, sym, ap, ◌∙◌, subst, length, append_assoc, length-append, inl, inr, w32, arith}
use Rattle.std.specs.Int.{from_be_bytes}
use Rattle.std.proofs.lemmas.Bool.{ltb-true, ltb-false, lt-ltb, le-ltb}
use Rattle.std.proofs.lemmas.List.{append-nil}
use Rattle.lumber_frame.specs.declared.frame.LumberFrame.{LumberFrame}
use Rattle.lumber_frame.specs.declared.frame.LumberFrame.TheVariants.{Window, Pairs, Json, Ack}
use Rattle.lumber_frame.specs.declared.side.Side.{Side}
use Rattle.lumber_frame.specs.declared.side.Side.TheVariants.{Receiver, Sender}
use Rattle.stream_grammar.specs.Automaton.{After, Goes}
use Rattle.stream_grammar.proofs.Machine.{Laws, Format}
use Rattle.lumber_frame.specs.Spelling.{IsNumber, ArePairsOf, MayCome, IsSpelling, Spells}
use Rattle.lumber_frame.specs.Machine.{State, At, start, size_of, Turning, step, AfterType, Behind, Completes}
use Rattle.lumber_frame.proofs.TurnLaws.{by_cases, turn_forth}
use Rattle.lumber_frame.proofs.BackLaws.{IsGood, turn_back, turn_good}

never : (side : Side) (s : State) (f : LumberFrame) → Completes side s f [] → ⊥
never side (At field text g) f k = omega (arith, k.2, ap length k.4, length-append k.0 k.1)

push_length : (g : List ℕ) (c : ℕ) → length (g ++ c ∷ []) ≡ length g + 1
push_length g c = length-append g (c ∷ [])

forth : (side : Side) (s : State) (f : LumberFrame) (c : ℕ) (b : List ℕ) → Completes side s f (c ∷ b) → After (Completes side) (step side s c) f b
unfolding step
forth side (At field text g) f c b k = go k.0 k.2 k.3 k.4 k.5
  where
    go : (more : List ℕ) → 0 < length more → length g + length more ≡ size_of field → c ∷ b ≡ more ++ k.1 → Behind side field text (g ++ more) f k.1 → After (Completes side) (step side (At field text g) c) f b
    go [] some l e p = absurd (omega arith)
    go (x ∷ []) some l e p =
        let q : x ≡ c = cc in
        let r : k.1 ≡ b = cc in
        let s : ltb (length g + 1) (size_of field) ≡ false = le-ltb (length g + 1) (size_of field) (omega (arith, l)) in
        let p' : Behind side field text (g ++ c ∷ []) f b = subst (λ v. Behind side field text (g ++ c ∷ []) f v) r (subst (λ v. Behind side field text (g ++ v ∷ []) f k.1) q p) in
        rw s (turn_forth side field text (g ++ c ∷ []) f b (omega (arith, l, push_length g c)) p')
    go (x ∷ d ∷ more) some l e p =
        let q : x ≡ c = cc in
        let r : b ≡ (d ∷ more) ++ k.1 = cc in
        let s : ltb (length g + 1) (size_of field) ≡ true = lt-ltb (length g + 1) (size_of field) (omega (arith, l)) in
        let a : g ++ x ∷ d ∷ more ≡ (g ++ c ∷ []) ++ d ∷ more = ap (λ v. g ++ v ∷ d ∷ more) q ∙ sym (append_assoc g (c ∷ []) (d ∷ more)) in
        rw s (d ∷ more, k.1, omega arith, omega (arith, l, push_length g c), r, subst (λ v. Behind side field text v f k.1) a p)

back : (side : Side) (s : State) (f : LumberFrame) (c : ℕ) (b : List ℕ) → IsGood s → After (Completes side) (step side s c) f b → Completes side s f (c ∷ b)
unfolding step
back side (At field text g) f c b good =
    by_cases (λ (z : Turning). After (Completes side) z f b → Completes side (At field text g) f (c ∷ b)) (ltb (length g + 1) (size_of field)) _ _
    (λ e k. (
      c ∷ k.0,
      k.1,
      omega arith,
      omega (arith, k.3, push_length g c),
      ap (λ v. c ∷ v) k.4,
      subst (λ v. Behind side field text v f k.1) (append_assoc g (c ∷ []) k.0) k.5,
    ))
    (λ e k.
    let s : size_of field ≤ length g + 1 = ltb-false (length g + 1) (size_of field) e in
    (c ∷ [], b, omega arith, omega (arith, s, good.0), refl, turn_back side field text (g ++ c ∷ []) f b (omega (arith, s, good.0, push_length g c)) good.1 k))

good_step : (side : Side) (s t : State) (c : ℕ) → IsGood s → step side s c ≡ Goes t → IsGood t
unfolding step
good_step side (At field text g) t c good =
    by_cases (λ (z : Turning). z ≡ Goes t → IsGood t) (ltb (length g + 1) (size_of field)) _ _
    (λ e k.
    let m = ltb-true (length g + 1) (size_of field) e in
    let q : At field text (g ++ c ∷ []) ≡ t = cc in
    subst IsGood q (omega (arith, m, push_length g c), good.1))
    (λ e k.
    let s : size_of field ≤ length g + 1 = ltb-false (length g + 1) (size_of field) e in
    turn_good side field text (g ++ c ∷ []) t (omega (arith, s, good.0, push_length g c)) good.1 k)

pub lumber_laws : (side : Side) → Laws (step side) (Completes side) IsGood
lumber_laws side = record { never = never side; forth = forth side; back = back side; good = good_step side }

pub start_good : IsGood start
start_good = (omega arith, omega arith)

-- ---- what completes the first state is what spells a frame

number_is : (b : List ℕ) → length b ≡ 4 → IsNumber (from_be_bytes w32 b) b
number_is b l = record { four = l; value = refl }

-- after the version and the type
to_start : (side : Side) (f : LumberFrame) (c : ℕ) (b rest : List ℕ) → b ≡ 50 ∷ c ∷ rest → AfterType side [] c f rest → Completes side start f b
to_start side f c b rest e k = (50 ∷ [], c ∷ rest, omega arith, omega arith, e, (refl, (c, rest, refl, k)))

there : (side : Side) (f : LumberFrame) (b : List ℕ) → MayCome side f → IsSpelling f b → Completes side start f b
there Receiver (Window size) b m (rest, e, n, small) = to_start Receiver (Window size) 87 b rest e (inl (refl, (rest, [], n.four, sym (append-nil rest), (omega (arith, n.value, small), refl, ap Window (sym n.value)))))
there Receiver (Pairs seq text) b m (rest, e, d) =
    let c = d.count_is in
    let s = d.sequence_is in
    to_start Receiver (Pairs seq text) 68 b rest e (inr (inl (refl, (d.sequence, d.count ++ text, s.four, d.whole, (d.count, text, c.four, refl, (omega (arith, c.value, d.few), (subst (λ n. ArePairsOf n text) (sym c.value) d.pairs_are, d.short, ap (λ n. Pairs n text) (sym s.value))))))))
there Receiver (Json seq text) b m (rest, e, p) =
    let s = p.sequence_is in
    let n = p.number_is in
    to_start Receiver (Json seq text) 74 b rest e (inr (inr (refl, (p.sequence, p.number ++ text, s.four, p.whole, (p.number, text, n.four, refl, (omega (arith, n.value, p.short), sym n.value, ap (λ k. Json k text) (sym s.value)))))))
there Receiver (Ack seq) b m k = absurd m
there Sender (Window size) b m k = absurd m
there Sender (Pairs seq text) b m k = absurd m
there Sender (Json seq text) b m k = absurd m
there Sender (Ack seq) b m (rest, e, n) = to_start Sender (Ack seq) 65 b rest e (refl, (rest, [], n.four, sym (append-nil rest), (refl, ap Ack (sym n.value))))

spells_again : (side : Side) (f g : LumberFrame) (b : List ℕ) → f ≡ g → Spells side g b → Spells side f b
spells_again side f g b e k = subst (λ h. Spells side h b) (sym e) k

from_type : (side : Side) (f : LumberFrame) (c : ℕ) (b rest : List ℕ) → b ≡ 50 ∷ c ∷ rest → AfterType side [] c f rest → Spells side f b
from_type Receiver f c b rest e (inl (t, (n, y, four, w, (small, z, is)))) =
    let q : rest ≡ n = w ∙ ap (λ v. n ++ v) z ∙ append-nil n in
    spells_again Receiver f (Window (from_be_bytes w32 n)) b is (tt, (rest, e ∙ ap (λ v. 50 ∷ v ∷ rest) t, subst (λ v. IsNumber (from_be_bytes w32 n) v) (sym q) (number_is n four), small))
from_type Receiver f c b rest e (inr (inl (t, (s, y, four, w, (n, text, four', w', (few, (pairs, short, is))))))) =
    spells_again Receiver f (Pairs (from_be_bytes w32 s) text) b is (
      tt,
      (
        rest,
        e ∙ ap (λ v. 50 ∷ v ∷ rest) t,
        record {
          sequence = s;
          count = n;
          pairs = from_be_bytes w32 n;
          whole = w ∙ ap (λ v. s ++ v) w';
          sequence_is = number_is s four;
          count_is = number_is n four';
          few = few;
          pairs_are = pairs;
          short = short;
        },
      ),
    )
from_type Receiver f c b rest e (inr (inr (t, (s, y, four, w, (n, text, four', w', (short, l, is)))))) =
    spells_again Receiver f (Json (from_be_bytes w32 s) text) b is (
      tt,
      (
        rest,
        e ∙ ap (λ v. 50 ∷ v ∷ rest) t,
        record {
          sequence = s;
          number = n;
          whole = w ∙ ap (λ v. s ++ v) w';
          sequence_is = number_is s four;
          number_is = record { four = four'; value = sym l };
          short = omega (arith, short, l);
        },
      ),
    )
from_type Sender f c b rest e (t, (n, y, four, w, (z, is))) =
    let q : rest ≡ n = w ∙ ap (λ v. n ++ v) z ∙ append-nil n in
    spells_again Sender f (Ack (from_be_bytes w32 n)) b is (tt, (rest, e ∙ ap (λ v. 50 ∷ v ∷ rest) t, subst (λ v. IsNumber (from_be_bytes w32 n) v) (sym q) (number_is n four)))

again : (side : Side) (f : LumberFrame) (b : List ℕ) → Completes side start f b → Spells side f b
again side f b (more, rest, some, l, e, (v, (c, y, w, k))) = from_type side f c b y (e ∙ ap (λ z. z ++ rest) v ∙ ap (λ z. 50 ∷ z) w) k

-- Lumberjack as a format
pub lumber : (side : Side) → Format (step side) (Completes side) IsGood start (Spells side)
lumber side = record { laws = lumber_laws side; good = start_good; same = λ f b. (λ k. there side f b k.0 k.1, again side f b) }
