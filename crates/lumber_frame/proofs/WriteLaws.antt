-- What is written is a spelling, and no spelling is a front of another one.
use Rattle.std.proofs.Common.{Some, None, ◌≡◌, ℕ, false, eqb, ◌^◌, ◌<◌, ◌≤◌, ◌+◌, ◌∙◌, List, [], ◌∷◌, ◌++◌, length, refl, sym, ap, subst, w32, arith, append_assoc, length-append}
use Rattle.std.specs.Int.{to_be_bytes}
use Rattle.std.proofs.lemmas.Bool.{eqb-false}
use Rattle.std.proofs.lemmas.List.{append_cancel_right}
use Rattle.event_form.specs.Event.{pair_text, pairs_text}
use Rattle.event_form.specs.Pairs.{BeginsString}
use Rattle.event_form.proofs.Numbers.{length-four, four_back}
use Rattle.event_form.proofs.Strings.{pair_from_text}
use Rattle.lumber_frame.specs.declared.frame.LumberFrame.{LumberFrame}
use Rattle.lumber_frame.specs.declared.frame.LumberFrame.TheVariants.{Window, Pairs, Json, Ack}
use Rattle.lumber_frame.specs.declared.side.Side.{Side}
use Rattle.lumber_frame.specs.declared.side.Side.TheVariants.{Receiver, Sender}
use Rattle.stream_grammar.specs.Automaton.{Done, run}
use Rattle.stream_grammar.specs.Reading.{as_bytes}
use Rattle.stream_grammar.proofs.Streams.{spelled_run, spelled_one}
use Rattle.stream_grammar.proofs.FieldReadings.{field_stream_behind, field_fault_behind}
use Rattle.lumber_frame.specs.Machine.{step, start}
use Rattle.lumber_frame.specs.Reading.{WrittenIsRead}
use Rattle.lumber_frame.specs.Spelling.{IsNumber, IsString, ArePairsOf, Spells, SpellsOnce, WrittenSpells}
use Rattle.lumber_frame.proofs.CountLaws.{pairs_once}
use Rattle.lumber_frame.proofs.FrameLaws.{lumber}

-- two frames that one side reads
spells_alike : (side : Side) (f g : LumberFrame) (x y a b : List ℕ) → Spells side f x → Spells side g y → x ++ a ≡ y ++ b → (f ≡ g) × (x ≡ y) × (a ≡ b)
spells_alike side f g x y a b i j e =
    let d : run (step side) start (x ++ a) ≡ Done f a = spelled_run (lumber side) f x a i in
    let c : run (step side) start (y ++ b) ≡ Done g b = spelled_run (lumber side) g y b j in
    let k : run (step side) start (x ++ a) ≡ run (step side) start (y ++ b) = ap (run (step side) start) e in
    let p : f ≡ g = cc in
    let q : a ≡ b = cc in
    (p, append_cancel_right x y b (ap (λ v. x ++ v) (sym q) ∙ e), q)

-- two types of frames differ in their second byte
other_type : {G : Type 0} (c d : ℕ) (x y a b r s : List ℕ) → eqb c d ≡ false → x ≡ 50 ∷ c ∷ r → y ≡ 50 ∷ d ∷ s → x ++ a ≡ y ++ b → G
other_type c d x y a b r s n p q e =
    let u : 50 ∷ c ∷ (r ++ a) ≡ 50 ∷ d ∷ (s ++ b) = sym (ap (λ v. v ++ a) p) ∙ e ∙ ap (λ v. v ++ b) q in
    let z : c ≡ d = cc in
    absurd (eqb-false c d n z)

pub spells_once : SpellsOnce
spells_once (Ack s) (Ack t) x y a b i j e = spells_alike Sender (Ack s) (Ack t) x y a b (tt, i) (tt, j) e
spells_once (Ack s) (Window t) x y a b i j e = other_type 65 87 x y a b i.0 j.0 refl i.1 j.1 e
spells_once (Ack s) (Pairs t v) x y a b i j e = other_type 65 68 x y a b i.0 j.0 refl i.1 j.1 e
spells_once (Ack s) (Json t v) x y a b i j e = other_type 65 74 x y a b i.0 j.0 refl i.1 j.1 e
spells_once (Window s) (Ack t) x y a b i j e = other_type 87 65 x y a b i.0 j.0 refl i.1 j.1 e
spells_once (Pairs s u) (Ack t) x y a b i j e = other_type 68 65 x y a b i.0 j.0 refl i.1 j.1 e
spells_once (Json s u) (Ack t) x y a b i j e = other_type 74 65 x y a b i.0 j.0 refl i.1 j.1 e
spells_once (Window s) (Window t) x y a b i j e = spells_alike Receiver (Window s) (Window t) x y a b (tt, i) (tt, j) e
spells_once (Window s) (Pairs t v) x y a b i j e = spells_alike Receiver (Window s) (Pairs t v) x y a b (tt, i) (tt, j) e
spells_once (Window s) (Json t v) x y a b i j e = spells_alike Receiver (Window s) (Json t v) x y a b (tt, i) (tt, j) e
spells_once (Pairs s u) (Window t) x y a b i j e = spells_alike Receiver (Pairs s u) (Window t) x y a b (tt, i) (tt, j) e
spells_once (Pairs s u) (Pairs t v) x y a b i j e = spells_alike Receiver (Pairs s u) (Pairs t v) x y a b (tt, i) (tt, j) e
spells_once (Pairs s u) (Json t v) x y a b i j e = spells_alike Receiver (Pairs s u) (Json t v) x y a b (tt, i) (tt, j) e
spells_once (Json s u) (Window t) x y a b i j e = spells_alike Receiver (Json s u) (Window t) x y a b (tt, i) (tt, j) e
spells_once (Json s u) (Pairs t v) x y a b i j e = spells_alike Receiver (Json s u) (Pairs t v) x y a b (tt, i) (tt, j) e
spells_once (Json s u) (Json t v) x y a b i j e = spells_alike Receiver (Json s u) (Json t v) x y a b (tt, i) (tt, j) e

number_written : (n : ℕ) → n < 2 ^ 32 → IsNumber n (to_be_bytes w32 n)
number_written n l = record { four = length-four n; value = four_back n l }

string_written : (string b rest : List ℕ) → BeginsString string b rest → IsString (to_be_bytes w32 (length string) ++ string)
string_written string b rest i = record { number = to_be_bytes w32 (length string); string = string; whole = refl; number_is = number_written (length string) i.short }

pairs_written : (pairs : List (List ℕ × List ℕ)) → length (pairs_text pairs) ≤ 131072 → ArePairsOf (length pairs) (pairs_text pairs)
pairs_written [] l = refl
pairs_written (pair ∷ pairs) l =
    let m : length (pairs_text (pair ∷ pairs)) ≡ length (pair_text pair) + length (pairs_text pairs) = length-append (pair_text pair) (pairs_text pairs) in
    let i = pair_from_text pair (pairs_text (pair ∷ pairs)) (pairs_text pairs) (omega (arith, l)) refl in
    let key = to_be_bytes w32 (length pair.0) ++ pair.0 in
    let value = to_be_bytes w32 (length pair.1) ++ pair.1 in
    let q : pairs_text (pair ∷ pairs) ≡ key ++ (value ++ pairs_text pairs) =
    i.key.whole
    ∙ sym (append_assoc (to_be_bytes w32 (length pair.0)) pair.0 i.middle)
    ∙ ap (λ v. key ++ v) (i.value.whole ∙ sym (append_assoc (to_be_bytes w32 (length pair.1)) pair.1 (pairs_text pairs))) in
    (key, value, pairs_text pairs, string_written pair.0 _ _ i.key, string_written pair.1 _ _ i.value, q, pairs_written pairs (omega (arith, l, m)))

pub written_spells : WrittenSpells
written_spells (Window size) b i w = (to_be_bytes w32 size, w, number_written size (omega arith), i)
written_spells (Pairs seq text) b i (pairs, t, w) =
    let few : length pairs ≤ 1024 = omega (arith, i.2.few, pairs_once pairs i.2.pairs text (omega (arith, i.1)) t i.2.whole) in
    let are : ArePairsOf (length pairs) text = subst (ArePairsOf (length pairs)) (sym t) (pairs_written pairs (omega (arith, i.1, ap length t))) in (
      to_be_bytes w32 seq ++ (to_be_bytes w32 (length pairs) ++ text),
      w,
      record {
        sequence = to_be_bytes w32 seq;
        count = to_be_bytes w32 (length pairs);
        pairs = length pairs;
        whole = refl;
        sequence_is = number_written seq i.0;
        count_is = number_written (length pairs) (omega (arith, few));
        few = few;
        pairs_are = are;
        short = i.1;
      },
    )
written_spells (Json seq text) b i w = (
  to_be_bytes w32 seq ++ (to_be_bytes w32 (length text) ++ text),
  w,
  record {
    sequence = to_be_bytes w32 seq;
    number = to_be_bytes w32 (length text);
    whole = refl;
    sequence_is = number_written seq i.0;
    number_is = number_written (length text) (omega (arith, i.1));
    short = i.1;
  },
)
written_spells (Ack seq) b i w = (to_be_bytes w32 seq, w, number_written seq i)

pub written_is_read : (Held : List ℕ → List ℕ → Type 0) → WrittenIsRead (as_bytes Held)
written_is_read Held side f text more frames at held None i w r = field_stream_behind (lumber side) (f ∷ []) frames text more held at (spelled_one (lumber side) f text (i.0, written_spells f text i.1 w)) r
written_is_read Held side f text more frames at held (Some e) i w r = (r.0, field_fault_behind (lumber side) (f ∷ []) frames text more r.0 at e.at e.why (spelled_one (lumber side) f text (i.0, written_spells f text i.1 w)) r.1, r.2)
