-- The text of stretches, one stretch more.
use Rattle.std.proofs.Common.{◌≡◌, ℕ, ◌+◌, ◌*◌, ◌≤◌, List, [], ◌∷◌, ◌++◌, length, take, drop, sym, ◌∙◌, ap, arith, append_assoc, append-nil, length-append}
use Rattle.std.proofs.lemmas.Grind.{flat_map-append}
use Rattle.std.proofs.lemmas.List.{take_at, length-take, drop-drop}
use Rattle.std.proofs.Math.Seq.{take-add}
use Rattle.std.specs.Int.{to_be_bytes}
use mir.Syntax.{w16, w32, w64}
use Rattle.foundation.specs.Bytes.{part, put}
use Rattle.known_numbers.specs.declared.stretch.Stretch.{Stretch}
use Rattle.spool_state.specs.Cells.{stretch_text, stretches_text, known_text, content_text, body_text}
use Rattle.spool_state.proofs.Places.{length-content_text}

-- what a piece was put over, up to the piece's end
pub take-put : (at n : ℕ) (piece b : List ℕ) → at ≤ length b → n ≡ at + length piece → take n (put at piece b) ≡ take at b ++ piece
take-put at n piece b room is = take_at (take at b ++ piece) (drop (at + length piece) b) n (omega (arith, length-append (take at b) piece, length-take {A = ℕ}))

pub stretches_more : (known : List Stretch) (stretch : Stretch) → stretches_text (known ++ stretch ∷ []) ≡ stretches_text known ++ stretch_text stretch
stretches_more known stretch = flat_map-append stretch_text known (stretch ∷ []) ∙ ap (λ (l : List ℕ). stretches_text known ++ l) (append-nil (stretch_text stretch))

-- the stretches written so far, and the next one written
pub put_next : (at i n : ℕ) (front body : List ℕ) (known : List Stretch) (stretch : Stretch) → at + 16 * i ≤ length body → n ≡ at + 16 * (i + 1) → take (at + 16 * i) body ≡ front ++ stretches_text known
    → take n (put (at + 16 * i) (stretch_text stretch) body) ≡ front ++ stretches_text (known ++ stretch ∷ [])
put_next at i n front body known stretch room is so_far =
    take-put (at + 16 * i) n (stretch_text stretch) body room (omega arith)
    ∙ ap (λ (l : List ℕ). l ++ stretch_text stretch) so_far
    ∙ append_assoc front (stretches_text known) (stretch_text stretch)
    ∙ ap (λ (l : List ℕ). front ++ l) (sym (stretches_more known stretch))

-- the stretches read so far, and the next one read
pub take_next : (i n : ℕ) (text : List ℕ) (known : List Stretch) (stretch : Stretch) → n ≡ 16 * (i + 1) → stretches_text known ≡ take (16 * i) text → to_be_bytes w64 stretch.from ≡ part (16 * i) 8 text → to_be_bytes w64 stretch.to ≡ part (16 * i + 8) 8 text
    → stretches_text (known ++ stretch ∷ []) ≡ take n text
take_next i n text known stretch is so_far from to =
    let more : stretch_text stretch ≡ part (16 * i) 16 text =
    (λ k. from k ++ to k) ∙ sym (take-add 8 8 (drop (16 * i) text) ∙ ap (λ (l : List ℕ). part (16 * i) 8 text ++ take 8 l) (drop-drop 8 (16 * i) text)) in
    let long : 16 * i + 16 ≡ n = omega arith in
    stretches_more known stretch ∙ (λ k. so_far k ++ more k) ∙ sym (take-add (16 * i) 16 text) ∙ ap (λ (m : ℕ). take m text) long

-- what stands before the stretches, and the stretches
pub body_is : (ordinal run cursor : ℕ) (known : List Stretch) → (to_be_bytes w64 ordinal ++ to_be_bytes w32 (19 + 16 * length known) ++ 2 ∷ to_be_bytes w64 run ++ to_be_bytes w64 cursor ++ to_be_bytes w16 (length known)) ++ stretches_text known ≡ body_text ordinal (content_text run cursor known)
unfolding body_text content_text known_text
body_is ordinal run cursor known =
    ap (λ (n : ℕ). to_be_bytes w64 ordinal ++ to_be_bytes w32 n ++ 2 ∷ to_be_bytes w64 run ++ to_be_bytes w64 cursor ++ (to_be_bytes w16 (length known) ++ stretches_text known)) (sym (length-content_text run cursor known))
