-- A reader that was fed nothing has read nothing.
use Rattle.std.proofs.Common.{[], List, refl, sym, subst, arith, inl}
use Rattle.http_reply.specs.declared.reply.HttpReply.{HttpReply}
use Rattle.http_reply.specs.ReplyStream.{IsStream}
use Rattle.http_reply.proofs.OpeningLaws.{open_nil}
use Rattle.http_reply.proofs.StreamLaws.{no_replies}
use Rattle.http_reply.proofs.reader.ReplyReader.new.Goals as goal

pub returns-clause-reads : goal.returns-clause-reads
returns-clause-reads c =
    let stream : IsStream [] [] 0 [] = record { replies = no_replies 0 []; going = inl (omega arith, open_nil) } in
    ([], subst (λ (v : List HttpReply). IsStream [] v 0 []) (sym c.new.ensures.items) stream, (sym c.new-3.ensures.items, refl, c.new-2.ensures.items, omega arith, open_nil))
