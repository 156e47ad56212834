use Rattle.std.proofs.Common.{◌≡◌, ◌∙◌, ◌++◌, ℕ, List, ap}
use Rattle.uuid.specs.Text.{hyphenated_text, lower}
use Rattle.hec_sender.specs.Texts.{guid_text}
use Rattle.load_run.proofs.stream.write_guid.Goals as goal

pub returns : goal.returns
returns c =
    let text : c.as_bytes.result.now ≡ guid_text c.args.number = c.as_bytes.ensures.value ∙ c.encode_lower-text.ensures.text ∙ ap (hyphenated_text lower) (c.hyphenated.ensures ∙ c.from_u128.ensures) in
    c.in_ok-extend_from_slice.ensures.items ∙ ap (λ (l : List ℕ). c.args.out.now.items ++ l) text
