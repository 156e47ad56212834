-- How far an object of pairs has come.
use Rattle.std.proofs.Common.{◌≡◌, ℕ, ◌<◌, ◌≤◌, List, [], ◌∷◌, ◌++◌, length, map, codes, refl, sym, ◌∙◌, ap, subst, arith, append_assoc}
use Rattle.std.specs.List.{join_with_byte}
use Rattle.event_form.specs.Event.{pairs_text, ArePairs}
use Rattle.event_form.specs.Pairs.{BeginsPair}
use Rattle.event_form.proofs.Strings.{pair_from_text}
use Rattle.event_map.specs.Strings.{string_of}
use Rattle.event_map.specs.Objects.{member_of, pairs_object}
use Rattle.event_map.specs.Maps.{OfPairs}
use Rattle.event_map.proofs.OneList.{same_pair, length_behind, shorter}

-- the members of the pairs that are left, and the closing brace
abbrev pub left : List (List ℕ × List ℕ) → List ℕ
left pairs = join_with_byte 44 (map member_of pairs) ++ codes "}"

-- what stands in the object, and what is left, are the object of all pairs
pub record Comes (text rest written : List ℕ) : Type 0 where
  pub short : length rest ≤ 131072
  pub all : ArePairs text
  pub pairs : List (List ℕ × List ℕ)
  pub whole : rest ≡ pairs_text pairs
  pub object : written ++ left pairs ≡ pairs_object all.pairs

pub comes : (text : List ℕ) → length text ≤ 131072 → ArePairs text → Comes text text (codes "{")
comes text short h = record { short = short; all = h; pairs = h.pairs; whole = h.whole; object = refl }

-- none is left where no pair begins the rest
pub closed : (text rest object : List ℕ) → ((pair : List ℕ × List ℕ) (behind : List ℕ) → BeginsPair pair rest behind → ⊥) → Comes text rest object → OfPairs pairs_object text (object ++ codes "}")
closed text rest object none h = go h.pairs h.whole h.object
  where
    go : (ps : List (List ℕ × List ℕ)) → rest ≡ pairs_text ps → object ++ left ps ≡ pairs_object h.all.pairs → OfPairs pairs_object text (object ++ codes "}")
    go [] whole is = (h.all, is)
    go (p ∷ ps) whole is = absurd (none p (pairs_text ps) (pair_from_text p rest (pairs_text ps) (omega (arith, h.short)) whole))

-- the object after a member: the same object, and a comma if a pair is left
pub record Wrote (pair : List ℕ × List ℕ) (object new behind : List ℕ) : Type 0 where
  pub last : length behind ≡ 0 → new ≡ object ++ member_of pair
  pub more : 0 < length behind → new ≡ (object ++ member_of pair) ++ 44 ∷ []

behind_last : (o m e : List ℕ) → (o ++ m) ++ e ≡ o ++ (m ++ e)
behind_last o m e = append_assoc o m e

behind_more : (o m j e : List ℕ) → ((o ++ m) ++ 44 ∷ []) ++ (j ++ e) ≡ o ++ ((m ++ 44 ∷ j) ++ e)
behind_more o m j e = simp append_assoc

pub comes_on : (text rest object new behind : List ℕ) (pair : List ℕ × List ℕ) → BeginsPair pair rest behind → Wrote pair object new behind → Comes text rest object → Comes text behind new
comes_on text rest object new behind pair begins wrote h = go h.pairs h.whole h.object
  where
    go : (ps : List (List ℕ × List ℕ)) → rest ≡ pairs_text ps → object ++ left ps ≡ pairs_object h.all.pairs → Comes text behind new
    go [] whole is = absurd (omega (arith, ap length whole, shorter pair rest behind begins))
    go (p ∷ ps) whole is =
        let here = pair_from_text p rest (pairs_text ps) (omega (arith, h.short)) whole in
        let same = same_pair p pair rest (pairs_text ps) behind here begins in
        record {
          short = omega (arith, h.short, ap length whole, length_behind p ps, ap length same.1);
          all = h.all;
          pairs = ps;
          whole = sym same.1;
          object = on ps (sym same.1) (subst (λ (q : List ℕ × List ℕ). object ++ (join_with_byte 44 (member_of q ∷ map member_of ps) ++ codes "}") ≡ pairs_object h.all.pairs) same.0 is);
        }
      where
        on : (qs : List (List ℕ × List ℕ)) → behind ≡ pairs_text qs → object ++ (join_with_byte 44 (member_of pair ∷ map member_of qs) ++ codes "}") ≡ pairs_object h.all.pairs → new ++ left qs ≡ pairs_object h.all.pairs
        on [] there so = ap (λ (n : List ℕ). n ++ left []) (wrote.last (ap length there)) ∙ behind_last object (member_of pair) (codes "}") ∙ so
        on (q ∷ qs) there so = ap (λ (n : List ℕ). n ++ left (q ∷ qs)) (wrote.more (omega (arith, ap length there, length_behind q qs))) ∙ behind_more object (member_of pair) (join_with_byte 44 (map member_of (q ∷ qs))) (codes "}") ∙ so

-- a key, a colon and a value after what stood there
pub member_written : (object key colon new : List ℕ) (pair : List ℕ × List ℕ) → key ≡ object ++ string_of pair.0 → colon ≡ key ++ 58 ∷ [] → new ≡ colon ++ string_of pair.1 → new ≡ object ++ member_of pair
member_written object key colon new pair k c n =
    n ∙ ap (λ (x : List ℕ). x ++ string_of pair.1) (c ∙ ap (λ (x : List ℕ). x ++ 58 ∷ []) k) ∙ append_assoc (object ++ string_of pair.0) (58 ∷ []) (string_of pair.1) ∙ append_assoc object (string_of pair.0) (58 ∷ string_of pair.1)
