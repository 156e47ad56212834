use Rattle.std.proofs.Common.{◌≡◌, ◌≤◌, length, rules, sym, subst}
use Rattle.hec_session.specs.Codes.{object_of}
use Rattle.hec_session.proofs.ReplyLaws.{short_object}
use Rattle.hec_session.proofs.reply.object_of.Goals as goal

pub returns-clause-short : goal.returns-clause-short
returns-clause-short c =
    let value : c.of.result ≡ object_of c.args.code c.args.name.now c.args.number = search rules in
    subst (λ body. length body ≤ 128) (sym value)
    (short_object c.args.code c.args.name.now c.args.number (subst (λ text. length text ≤ 44) c.in_ok-member.ensures.value c.in_ok-member.ensures.short))
