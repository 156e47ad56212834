use Rattle.std.proofs.Common.{◌≡◌, ◌∙◌, sym, ap, map, string_bytes}
use Rattle.bridge_words.specs.Wrong.{unread_for}
use Rattle.bridge_words.specs.Wrong.IsWrong.{found}
use Rattle.bridge_words.specs.declared.reading.Unread.TheVariants.{Wrong}
use Rattle.bridge_words.proofs.Wrongs.{kind_is}
use Rattle.bridge_words.proofs.reading.read.Goals as goal

pub returns-in-Err-clause-wrong : goal.returns-in-Err-clause-wrong
returns-in-Err-clause-wrong c = λ fault is.
    let said : c.unread_for.result ≡ Wrong fault = cc in
    kind_is _ fault (map string_bytes c.args.words.now) c.in-Err.ensures.refusals (ap unread_for (sym c.kind.ensures) ∙ sym c.unread_for.ensures ∙ said)

pub returns-in-Some-clause-wrong : goal.returns-in-Some-clause-wrong
returns-in-Some-clause-wrong c = λ fault is. found _ _ (sym c.in-Ok.ensures.named ∙ c.in-Some.ensures) (c.asked_in.ensures.wrong fault is)
