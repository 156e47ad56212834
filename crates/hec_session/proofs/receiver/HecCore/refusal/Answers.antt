-- What the checks of a head find.
use Rattle.std.proofs.Common.{rules, ◌≡◌, [], Err, subst}
use Rattle.hec_session.specs.declared.stop.Stop.TheVariants.{Answer}
use Rattle.hec_session.specs.declared.tokens.Tokens.{Tokens}
use Rattle.hec_session.specs.Acts.{IsRefusal, WantsBody}
use Rattle.hec_session.proofs.RefusalLaws.{is_refusal, wants_body}
use Rattle.hec_session.proofs.receiver.HecCore.refusal.Goals as goal

pub returns-in-Ok-clause-wanted : goal.returns-in-Ok-clause-wanted
returns-in-Ok-clause-wanted c =
    let head = c.args.head.now in
    subst (λ (t : Tokens). WantsBody t head) c.self.view_is (wants_body c.self.inside.tokens head c.bytes.result.now c.bytes-2.result.now [] c.task_of.result _ c.bytes.ensures c.bytes-2.ensures c.task_of.ensures c.in-Ok.is)

pub returns-in-Err-Answer-clause-refused : goal.returns-in-Err-Answer-clause-refused
returns-in-Err-Answer-clause-refused c =
    let head = c.args.head.now in
    let is : c.task_of.result ≡ Err (Answer c.in-Err-Answer.code) = search rules in
    subst (λ (t : Tokens). IsRefusal t head c.of.result) c.self.view_is
    (is_refusal c.self.inside.tokens head c.bytes.result.now c.bytes-2.result.now [] c.task_of.result c.in-Err-Answer.code c.of.result c.bytes.ensures c.bytes-2.ensures c.task_of.ensures is c.of.ensures.value)
