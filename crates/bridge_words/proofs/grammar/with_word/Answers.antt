use Rattle.std.proofs.Common.{◌∙◌, ap}
use Rattle.std.proofs.lemmas.Result.{IfOk-weaker}
use Rattle.clap.specs.declared.builder.arg.Arg.{Arg}
use Rattle.clap.specs.Walk.{Rule, rule_of}
use Rattle.clap.specs.Simple.{new_rule}
use Rattle.bridge_words.proofs.Apps.{adds_argument}
use Rattle.bridge_words.proofs.grammar.with_word.Goals as goal

pub returns : goal.returns
returns c = λ app is.
    let own = rw c.in_ok-command.was at is in
    let local = ap (λ (a : Arg). a.global) c.required-word.ensures ∙ c.new.ensures.optional.1 in
    let rule = ap rule_of c.required-word.ensures ∙ ap (λ (r : Rule). record r { required = c.args.is_needed }) c.new.ensures.rule in
    IfOk-weaker c.arg.result _ _ (λ r adds. adds_argument app (record (new_rule c.args.name.now) { required = c.args.is_needed }) _ _ r own local rule adds) c.arg.ensures
