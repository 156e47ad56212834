-- What waits in front is taken.
use Rattle.std.proofs.Common.{List, ◌++◌, ◌∙◌, ap, sym, subst, append_assoc}
use Rattle.std.specs.Prelude.{option_to_list}
use Rattle.http_reply.specs.declared.reply.HttpReply.{HttpReply}
use Rattle.http_reply.specs.Reading.{Reading, Reads}
use Rattle.http_reply.proofs.FeedLaws.{reads_waiting}
use Rattle.http_reply.proofs.reader.ReplyReader.take.Goals as goal

pub returns-clause-reads : goal.returns-clause-reads
returns-clause-reads c = λ fed taken r.
    let i = c.self.inside in
    let old : Reading = record { waiting = i.waiting.items; at = i.at; begun = i.begun; stage = i.stage; body = i.body.items; read = i.read; unread = i.unread.items; fault = i.fault } in
    let q : Reads fed taken old = subst (Reads fed taken) (sym c.self.view_is) r in
    let e = ap (λ (v : List HttpReply). taken ++ v) c.pop_front.ensures.items ∙ sym (append_assoc taken (option_to_list c.pop_front.result) c.pop_front.new.self.items) in
    reads_waiting fed (taken ++ i.waiting.items) ((taken ++ option_to_list c.pop_front.result) ++ c.pop_front.new.self.items) old c.pop_front.new.self.items i.fault e q
