use Rattle.std.proofs.Common.{◌≡◌, ◌∙◌, ℕ, List, [], ◌∷◌, ◌++◌, length, append_assoc, string_bytes}
use Rattle.std.proofs.lemmas.Result.{on_ok_weaker}
use Rattle.std.specs.Fmt.{decimal}
use Rattle.bridge_words.specs.Lines.{origin_word}
use Rattle.bridge_words.proofs.line.add_entry.Goals as goal

-- the parts of a line after what stood before, each with the byte after it
joined : (s n c i u o k : List ℕ)
    → ((((((s ++ (n ++ 32 ∷ [])) ++ (c ++ 32 ∷ [])) ++ (i ++ 32 ∷ [])) ++ (u ++ 32 ∷ [])) ++ o) ++ 32 ∷ []) ++ (k ++ 10 ∷ [])
    ≡ s ++ (n ++ 32 ∷ (c ++ 32 ∷ (i ++ 32 ∷ (u ++ 32 ∷ (o ++ 32 ∷ (k ++ 10 ∷ []))))))
joined s n c i u o k = simp append_assoc

pub returns : goal.returns
returns c =
    let e = c.args.entry.now in
    let x1 = c.in_ok-add_number.ensures in
    let x2 = c.in_ok-add_number-2.ensures ∙ (λ i. x1 i ++ (decimal e.conn ++ 32 ∷ [])) in
    let x3 = c.in_ok-add_number-3.ensures ∙ (λ i. x2 i ++ (decimal e.index ++ 32 ∷ [])) in
    let x4 = c.in_ok-add_number-4.ensures ∙ (λ i. x3 i ++ (decimal e.unit ++ 32 ∷ [])) in
    let x5 = c.in_ok-push_str.ensures.bytes ∙ (λ i. x4 i ++ c.origin_word.ensures i) in
    let x6 = c.in_ok-push_str-2.ensures.bytes ∙ (λ i. x5 i ++ 32 ∷ []) in
    on_ok_weaker c.add_number-5.result (λ last. last ∙ (λ i. x6 i ++ (decimal (length (c.bytes.ensures i)) ++ 10 ∷ []))
    ∙ joined (string_bytes c.args.line.now) (decimal c.args.number) (decimal e.conn) (decimal e.index) (decimal e.unit) (origin_word e.event.origin) (decimal (length e.event.text)))
    c.add_number-5.ensures
