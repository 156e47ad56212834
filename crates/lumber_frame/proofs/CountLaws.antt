-- How many pairs a text has.
use Rattle.std.proofs.Common.{◌≡◌, ℕ, suc, ◌+◌, ◌^◌, ◌<◌, ◌≤◌, ◌∙◌, List, [], ◌∷◌, length, refl, ap, arith, length-append}
use Rattle.event_form.specs.Event.{pair_text, pairs_text, ArePairs}
use Rattle.event_form.specs.Pairs.{BeginsPair}
use Rattle.event_form.proofs.Strings.{pair_from_text, one_pair, length-pair_text}

length-pairs_text : (pair : List ℕ × List ℕ) (pairs : List (List ℕ × List ℕ)) → length (pairs_text (pair ∷ pairs)) ≡ 8 + length pair.0 + length pair.1 + length (pairs_text pairs)
length-pairs_text pair pairs = omega (arith, length-append (pair_text pair) (pairs_text pairs), length-pair_text pair)

-- the same bytes are as many pairs
pub pairs_once : (ps qs : List (List ℕ × List ℕ)) (b : List ℕ) → length b < 2 ^ 32 → b ≡ pairs_text ps → b ≡ pairs_text qs → length ps ≡ length qs
pairs_once [] [] b short p q = refl
pairs_once [] (y ∷ qs) b short p q = absurd (omega (arith, ap length p, ap length q, length-pairs_text y qs))
pairs_once (x ∷ ps) [] b short p q = absurd (omega (arith, ap length p, ap length q, length-pairs_text x ps))
pairs_once (x ∷ ps) (y ∷ qs) b short p q =
    let i = pair_from_text x b (pairs_text ps) short p in
    let j = pair_from_text y b (pairs_text qs) short q in
    let e : pairs_text ps ≡ pairs_text qs = one_pair x y b (pairs_text ps) (pairs_text qs) i j in
    ap suc (pairs_once ps qs (pairs_text ps) (omega (arith, short, ap length p, length-pairs_text x ps)) refl e)

-- So many pairs were counted, and the rest is pairs.
pub record Counting (text rest : List ℕ) (count : ℕ) : Type 0 where
  pub pairs : List (List ℕ × List ℕ)
  pub whole : rest ≡ pairs_text pairs
  pub short : length rest ≤ 131072
  pub few : count + length pairs ≤ 1024
  pub total : (all : List (List ℕ × List ℕ)) → text ≡ pairs_text all → length all ≡ count + length pairs

pub count_none : (text : List ℕ) → length text ≤ 131072 → ArePairs text → Counting text text 0
count_none text short a = record {
  pairs = a.pairs;
  whole = a.whole;
  short = short;
  few = omega (arith, a.few);
  total = λ all e. omega (arith, pairs_once all a.pairs text (omega arith) e a.whole);
}

-- the next pair, and what is counted then
pub record NextPair (text rest : List ℕ) (count : ℕ) : Type 0 where
  pub pair : List ℕ × List ℕ
  pub more : List ℕ
  pub begins : BeginsPair pair rest more
  pub next : Counting text more (count + 1)
  pub room : count < 1024
  pub shorter : length more < length rest

pub count_next : (text rest : List ℕ) (count : ℕ) → (length rest ≡ 0 → ⊥) → Counting text rest count → NextPair text rest count
count_next text rest count some c = go c.pairs c.whole c.few c.total
  where
    go : (ps : List (List ℕ × List ℕ)) → rest ≡ pairs_text ps → count + length ps ≤ 1024 → ((all : List (List ℕ × List ℕ)) → text ≡ pairs_text all → length all ≡ count + length ps) → NextPair text rest count
    go [] w few total = absurd (some (ap length w))
    go (p ∷ ps) w few total =
        let l : length rest ≡ 8 + length p.0 + length p.1 + length (pairs_text ps) = ap length w ∙ length-pairs_text p ps in
        record {
          pair = p;
          more = pairs_text ps;
          begins = pair_from_text p rest (pairs_text ps) (omega (arith, c.short)) w;
          next = record { pairs = ps; whole = refl; short = omega (arith, l, c.short); few = omega (arith, few); total = λ all e. omega (arith, total all e) };
          room = omega (arith, few);
          shorter = omega (arith, l);
        }

pub count_all : (text rest : List ℕ) (count : ℕ) → length rest ≡ 0 → Counting text rest count → (all : List (List ℕ × List ℕ)) → text ≡ pairs_text all → count ≡ length all
count_all text rest count none c all e = go c.pairs c.whole (c.total all e)
  where
    go : (ps : List (List ℕ × List ℕ)) → rest ≡ pairs_text ps → length all ≡ count + length ps → count ≡ length all
    go [] w t = omega (arith, t)
    go (p ∷ ps) w t = absurd (omega (arith, none, ap length w, length-pairs_text p ps))
