use Rattle.std.proofs.lemmas.Result.{IfOk-weaker}
use Rattle.hec_sender.proofs.Writing.{stays_any}
use Rattle.hec_sender.proofs.Sent.{sent_at}
use Rattle.hec_sender.proofs.Whole.{begins_at, done_at, left_at, spent_at, tells_at, text_at, whole_at}
use Rattle.hec_sender.proofs.sender.HecSender.turn.Goals as goal

pub returns-clause-sends : goal.returns-clause-sends
returns-clause-sends c = IfOk-weaker c.act-turn.result _ _ (λ turn acts. acts.sends) c.act-turn.ensures.acts

pub returns-clause-begins : goal.returns-clause-begins
returns-clause-begins c = begins_at c.act-turn.new.self c.settle.ensures

pub returns-clause-whole : goal.returns-clause-whole
returns-clause-whole c = IfOk-weaker c.act-turn.result _ _ (λ turn acts. text_at turn c.act-turn.new.self c.settle.ensures acts.turn) c.act-turn.ensures.acts

pub returns-clause-all : goal.returns-clause-all
returns-clause-all c = IfOk-weaker c.act-turn.result _ _ (λ turn acts. whole_at turn c.act-turn.new.self c.settle.ensures acts.turn) c.act-turn.ensures.acts

pub returns-clause-told : goal.returns-clause-told
returns-clause-told c = IfOk-weaker c.act-turn.result _ _ (λ turn acts. acts.told) c.act-turn.ensures.acts

pub returns-clause-known : goal.returns-clause-known
returns-clause-known c = tells_at c.act-turn.new.self

pub returns-clause-done : goal.returns-clause-done
returns-clause-done c = IfOk-weaker c.act-turn.result _ _ (λ turn acts. done_at turn c.act-turn.new.self acts.turn) c.act-turn.ensures.acts

pub returns-clause-left : goal.returns-clause-left
returns-clause-left c = IfOk-weaker c.act-turn.result _ _ (λ turn acts. left_at turn c.act-turn.new.self c.settle.ensures acts.turn) c.act-turn.ensures.acts

pub returns-clause-turn : goal.returns-clause-turn
returns-clause-turn c = IfOk-weaker c.act-turn.result _ _ (λ turn acts. acts.turn) c.act-turn.ensures.acts

pub returns-clause-exactly : goal.returns-clause-exactly
returns-clause-exactly c = IfOk-weaker c.act-turn.result _ _ (λ turn acts. acts.right) c.act-turn.ensures.acts

pub returns-clause-asked : goal.returns-clause-asked
returns-clause-asked c = IfOk-weaker c.act-turn.result _ _ (λ turn acts. acts.asked) c.act-turn.ensures.acts

pub returns-clause-spent : goal.returns-clause-spent
returns-clause-spent c = IfOk-weaker c.act-turn.result _ _ (λ turn acts. acts.spends) c.act-turn.ensures.acts

pub returns-clause-bound : goal.returns-clause-bound
returns-clause-bound c = spent_at c.act-turn.new.self c.settle.ensures

pub returns-clause-terms : goal.returns-clause-terms
returns-clause-terms c = (stays_any c.act-turn.result c.args.self.now c.act-turn.new.self c.act-turn.ensures.acts c.act-turn.ensures.err).terms

pub returns-clause-extent : goal.returns-clause-extent
returns-clause-extent c = (stays_any c.act-turn.result c.args.self.now c.act-turn.new.self c.act-turn.ensures.acts c.act-turn.ensures.err).extent

pub returns-clause-given : goal.returns-clause-given
returns-clause-given c = (stays_any c.act-turn.result c.args.self.now c.act-turn.new.self c.act-turn.ensures.acts c.act-turn.ensures.err).given

pub returns-clause-first : goal.returns-clause-first
returns-clause-first c = (stays_any c.act-turn.result c.args.self.now c.act-turn.new.self c.act-turn.ensures.acts c.act-turn.ensures.err).first

pub returns-clause-finished : goal.returns-clause-finished
returns-clause-finished c = (stays_any c.act-turn.result c.args.self.now c.act-turn.new.self c.act-turn.ensures.acts c.act-turn.ensures.err).finished

pub returns-clause-sent : goal.returns-clause-sent
returns-clause-sent c = sent_at c.act-turn.new.self

pub returns-clause-sent_before : goal.returns-clause-sent_before
returns-clause-sent_before c = sent_at c.args.self.now
