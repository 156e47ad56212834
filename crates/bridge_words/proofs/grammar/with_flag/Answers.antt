use Rattle.std.proofs.Common.{◌∙◌, ap, Some}
use Rattle.std.proofs.lemmas.Result.{IfOk-weaker}
use Rattle.clap.specs.declared.builder.action.ArgAction.TheVariants.{SetTrue}
use Rattle.clap.specs.declared.builder.arg.Arg.{Arg}
use Rattle.clap.specs.Walk.{Rule, rule_of}
use Rattle.clap.specs.Simple.{new_rule}
use Rattle.bridge_words.proofs.Apps.{adds_argument}
use Rattle.bridge_words.proofs.grammar.with_flag.Goals as goal

pub returns : goal.returns
returns c = λ app is.
    let own = rw c.in_ok-command.was at is in
    let given = c.action-flag.ensures ∙ ap (λ (a : Arg). record a { action = Some SetTrue }) c.long.ensures in
    let local = ap (λ (a : Arg). a.global) given ∙ c.new.ensures.optional.1 in
    let rule = ap rule_of given ∙ ap (λ (r : Rule). record r { long = Some c.args.name.now; action = Some SetTrue }) c.new.ensures.rule in
    IfOk-weaker c.arg.result _ _ (λ r adds. adds_argument app (record (new_rule c.args.name.now) { long = Some c.args.name.now; action = Some SetTrue }) _ _ r own local rule adds) c.arg.ensures
