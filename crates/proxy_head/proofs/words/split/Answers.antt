use Rattle.std.proofs.Common.{◌+◌, ◌∙◌, arith, rules, length-take, length-drop}
use Rattle.std.proofs.lemmas.List.{take_rest}
use Rattle.proxy_head.proofs.WordLaws.{word_before, one_word}
use Rattle.proxy_head.proofs.words.split.Goals as goal

pub returns-in-Some : goal.returns-in-Some
returns-in-Some c =
    let text = c.args.text.now in
    let at = c.in-Some.at in
    let w = word_before text at (search rules) (search rules) (search rules) in
    record { word = w.0; rest = take_rest text _ ∙ w.1; fits = omega (arith, length-take at text, length-drop (at + 1) text, take_rest text (at + 1)) }

pub returns-in-None : goal.returns-in-None
returns-in-None c =
    let w = one_word c.args.text.now (search rules) in
    record { word = w.0; rest = w.1; fits = omega arith }
