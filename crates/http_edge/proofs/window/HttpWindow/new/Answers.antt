-- A window that was fed nothing has read nothing.
use Rattle.std.proofs.Common.{[], List, refl, sym, subst, arith, inl}
use Rattle.http_edge.specs.declared.waiting.Waiting.{Waiting}
use Rattle.http_edge.specs.HttpStream.{IsStream}
use Rattle.http_edge.specs.Waits.{items_in}
use Rattle.http_edge.proofs.OpeningLaws.{open_nil}
use Rattle.http_edge.proofs.StreamLaws.{no_requests}
use Rattle.http_edge.proofs.window.HttpWindow.new.Goals as goal

pub returns-clause-reads : goal.returns-clause-reads
returns-clause-reads c =
    let stream : IsStream [] [] 0 [] = record { before = []; told = []; requests = no_requests []; items_are = refl; going = inl (omega arith, open_nil, refl) } in
    ([], subst (λ (q : List Waiting). IsStream [] (items_in q []) 0 []) (sym c.new-4.ensures.items) stream, (sym c.in_ok-unread.ensures.items, refl, c.in_ok-bytes.ensures.items, omega arith, open_nil))
