-- The fields that are read from a text have that text.
use Rattle.std.proofs.Common.{◌≡◌, ℕ, suc, ◌+◌, ◌<◌, List, ◌∷◌, ◌++◌, length, get_or, drop, sym, ◌∙◌, ap, arith, refl, length-drop}
use Rattle.std.proofs.lemmas.List.{take-append-drop, drop-drop, take_all}
use Rattle.std.proofs.Math.Seq.{drop-cons}
use Rattle.std.specs.Int.{to_be_bytes}
use mir.Syntax.{w16, w32, w64}
use Rattle.foundation.specs.Bytes.{part}
use Rattle.spool_state.specs.Cells.{fields_text}

-- the parts of a text of 32 bytes
module _ (text : List ℕ) (long : length text ≡ 32) where
  split : (at n end : ℕ) (rest : List ℕ) → end ≡ at + n → rest ≡ drop end text → part at n text ++ rest ≡ drop at text
  split at n end rest is tail =
      ap (λ (l : List ℕ). part at n text ++ l) (tail ∙ ap (λ (k : ℕ). drop k text) is ∙ sym (drop-drop n at text)) ∙ take-append-drop n (drop at text)

  next : (at end : ℕ) (rest : List ℕ) → end ≡ at + 1 → at < 32 → rest ≡ drop end text → get_or text at 0 ∷ rest ≡ drop at text
  next at end rest is lt tail =
      let after : end ≡ suc at = omega arith in
      ap (λ (l : List ℕ). get_or text at 0 ∷ l) (tail ∙ ap (λ (k : ℕ). drop k text) after) ∙ sym (drop-cons text at 0 (omega arith))

  from_30 : part 30 2 text ≡ drop 30 text
  from_30 = take_all 2 (drop 30 text) (omega (arith, length-drop 30 text))

  from_13 : get_or text 13 0 ∷ (part 14 8 text ++ (part 22 8 text ++ part 30 2 text)) ≡ drop 13 text
  from_13 = next 13 14 _ refl (omega arith) (split 14 8 22 _ refl (split 22 8 30 _ refl from_30))

  from_0 : get_or text 0 0 ∷ (part 1 8 text ++ (part 9 4 text ++ get_or text 13 0 ∷ (part 14 8 text ++ (part 22 8 text ++ part 30 2 text)))) ≡ text
  from_0 = next 0 1 _ refl (omega arith) (split 1 8 9 _ refl (split 9 4 13 _ refl from_13))

  pub read : (ordinal len run cursor count : ℕ) → to_be_bytes w64 ordinal ≡ part 1 8 text → to_be_bytes w32 len ≡ part 9 4 text → to_be_bytes w64 run ≡ part 14 8 text → to_be_bytes w64 cursor ≡ part 22 8 text → to_be_bytes w16 count ≡ part 30 2 text
      → fields_text (get_or text 0 0) ordinal len (get_or text 13 0) run cursor ++ to_be_bytes w16 count ≡ text
  unfolding fields_text
  read ordinal len run cursor count p q r s t =
      let parts : fields_text (get_or text 0 0) ordinal len (get_or text 13 0) run cursor ++ to_be_bytes w16 count ≡ get_or text 0 0 ∷ (part 1 8 text ++ (part 9 4 text ++ get_or text 13 0 ∷ (part 14 8 text ++ (part 22 8 text ++ part 30 2 text)))) =
      λ i. get_or text 0 0 ∷ (p i ++ (q i ++ get_or text 13 0 ∷ (r i ++ (s i ++ t i)))) in
      parts ∙ from_0
