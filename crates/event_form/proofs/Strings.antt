-- Keys, values and pairs at the front of bytes.
use Rattle.std.proofs.Common.{◌≡◌, ℕ, ◌+◌, ◌^◌, ◌<◌, ◌≤◌, List, [], ◌∷◌, ◌++◌, length, take, drop, refl, sym, ◌∙◌, ap, arith, append_assoc, length-append}
use Rattle.std.specs.Prelude.{Option, Some, None, IfNone}
use Rattle.std.specs.Int.{w32, to_be_bytes}
use Rattle.std.proofs.lemmas.List.{take_at, drop_at, nil_from_length}
use Rattle.event_form.specs.declared.limits.TheConstants.{MOST_PAIRS}
use Rattle.event_form.specs.Event.{pair_text, pairs_text, ArePairs}
use Rattle.event_form.specs.Pairs.{BeginsString, BeginsPair, AreUpTo}
use Rattle.event_form.proofs.Numbers.{same_four}

-- fronts of one length
pub same_front : (s t x y : List ℕ) → length s ≡ length t → s ++ x ≡ t ++ y → (s ≡ t) × (x ≡ y)
same_front s t x y n h = (
  sym (take_at s x (length s) refl) ∙ ap (take (length s)) h ∙ take_at t y (length s) (sym n),
  sym (drop_at s x (length s) refl) ∙ ap (drop (length s)) h ∙ drop_at t y (length s) (sym n),
)

pub one_string : (s t b x y : List ℕ) → BeginsString s b x → BeginsString t b y → (s ≡ t) × (x ≡ y)
one_string s t b x y p q =
    let parts = same_front (to_be_bytes w32 (length s)) (to_be_bytes w32 (length t)) (s ++ x) (t ++ y) refl (sym p.whole ∙ q.whole) in
    same_front s t x y (same_four (length s) (length t) p.short q.short parts.0) parts.1

pub one_pair : (p q : List ℕ × List ℕ) (b x y : List ℕ) → BeginsPair p b x → BeginsPair q b y → x ≡ y
one_pair p q b x y h k =
    let key = one_string p.0 q.0 b h.middle k.middle h.key k.key in
    (one_string p.1 q.1 h.middle x y h.value (rw (key.1) k.value)).1

-- ---- as texts

regroup : (a b c d e : List ℕ) → (((a ++ b) ++ c) ++ d) ++ e ≡ a ++ (b ++ (c ++ (d ++ e)))
regroup a b c d e = simp append_assoc

pub pair_parts : (p : List ℕ × List ℕ) (rest : List ℕ) → pair_text p ++ rest ≡ to_be_bytes w32 (length p.0) ++ (p.0 ++ (to_be_bytes w32 (length p.1) ++ (p.1 ++ rest)))
pair_parts p rest = regroup (to_be_bytes w32 (length p.0)) p.0 (to_be_bytes w32 (length p.1)) p.1 rest

length_of_four : (a b c d : List ℕ) → length (((a ++ b) ++ c) ++ d) ≡ length a + length b + length c + length d
length_of_four a b c d = simp length-append

pub length-pair_text : (p : List ℕ × List ℕ) → length (pair_text p) ≡ 8 + length p.0 + length p.1
length-pair_text p = omega (arith, length_of_four (to_be_bytes w32 (length p.0)) p.0 (to_be_bytes w32 (length p.1)) p.1)

pub pair_from_text : (p : List ℕ × List ℕ) (b rest : List ℕ) → length b < 2 ^ 32 → b ≡ pair_text p ++ rest → BeginsPair p b rest
pair_from_text p b rest short h =
    let room : length b ≡ 8 + length p.0 + length p.1 + length rest = omega (arith, ap length h, length-append (pair_text p) rest, length-pair_text p) in
    record {
      middle = to_be_bytes w32 (length p.1) ++ (p.1 ++ rest);
      key = record { short = omega arith; whole = h ∙ pair_parts p rest };
      value = record { short = omega arith; whole = refl };
    }

pub text_from_pair : (p : List ℕ × List ℕ) (b rest : List ℕ) → BeginsPair p b rest → b ≡ pair_text p ++ rest
text_from_pair p b rest h = h.key.whole ∙ ap (λ (m : List ℕ). to_be_bytes w32 (length p.0) ++ (p.0 ++ m)) h.value.whole ∙ sym (pair_parts p rest)

-- ---- so many pairs

pub up_to_none : (n : ℕ) (b : List ℕ) → length b ≡ 0 → AreUpTo n b
up_to_none n b h = record { pairs = []; few = omega arith; whole = nil_from_length b h }

pub up_to_zero : (n : ℕ) (b : List ℕ) → n ≡ 0 → AreUpTo n b → b ≡ []
up_to_zero n b e h = go h.pairs h.few h.whole
  where
    go : (ps : List (List ℕ × List ℕ)) → length ps ≤ n → b ≡ pairs_text ps → b ≡ []
    go [] few whole = whole
    go (p ∷ ps) few whole = absurd (omega arith)

-- a pair less
pub up_to_less : (m n : ℕ) (p : List ℕ × List ℕ) (b rest : List ℕ) → m ≡ n + 1 → length b < 2 ^ 32 → BeginsPair p b rest → AreUpTo m b → AreUpTo n rest
up_to_less m n p b rest e short h k = go k.pairs k.few k.whole
  where
    go : (ps : List (List ℕ × List ℕ)) → length ps ≤ m → b ≡ pairs_text ps → AreUpTo n rest
    go [] few whole = absurd (omega (arith, ap length h.key.whole, ap length whole))
    go (q ∷ ps) few whole = record { pairs = ps; few = omega arith; whole = one_pair p q b rest (pairs_text ps) h (pair_from_text q b (pairs_text ps) short whole) }

-- a pair more
pub up_to_more : (m n : ℕ) (p : List ℕ × List ℕ) (b rest : List ℕ) → m ≡ n + 1 → BeginsPair p b rest → AreUpTo n rest → AreUpTo m b
up_to_more m n p b rest e h k = record {
  pairs = p ∷ k.pairs;
  few = omega (arith, k.few);
  whole = text_from_pair p b rest h ∙ ap (λ (r : List ℕ). pair_text p ++ r) k.whole;
}

-- what is after a pair is no longer
pub pair_shorter : (p : List ℕ × List ℕ) (b rest : List ℕ) → BeginsPair p b rest → length rest ≤ length b
pair_shorter p b rest h = omega (arith, ap length (text_from_pair p b rest h), length-append (pair_text p) rest)

-- no pair
pub up_to_stuck : (n : ℕ) (b : List ℕ) → length b < 2 ^ 32 → (b ≡ [] → ⊥) → ((p : List ℕ × List ℕ) (rest : List ℕ) → BeginsPair p b rest → ⊥) → AreUpTo n b → ⊥
up_to_stuck n b short some none k = go k.pairs k.whole
  where
    go : (ps : List (List ℕ × List ℕ)) → b ≡ pairs_text ps → ⊥
    go [] whole = some whole
    go (q ∷ ps) whole = none q (pairs_text ps) (pair_from_text q b (pairs_text ps) short whole)

pub pairs_up_to : (b : List ℕ) → ArePairs b → AreUpTo MOST_PAIRS b
pairs_up_to b h = record { pairs = h.pairs; few = h.few; whole = h.whole }

pub up_to_pairs : (b : List ℕ) → AreUpTo MOST_PAIRS b → ArePairs b
up_to_pairs b h = record { pairs = h.pairs; few = h.few; whole = h.whole }

-- what holds anyway holds at `None`
pub IfNone_always : {X : Type 0} {P : Type 0} (r : Option X) → P → IfNone r P
IfNone_always None h = h
IfNone_always (Some x) h = tt
