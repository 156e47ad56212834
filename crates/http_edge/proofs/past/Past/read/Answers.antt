-- What a piece does of a body that is read past.
use Rattle.std.proofs.Common.{rules, ◌≡◌, ◌∙◌, ◌++◌, length, sym, ap}
use Rattle.http_edge.proofs.PastLaws.{none_before, passes_piece}
use Rattle.http_edge.proofs.past.Past.read.Goals as goal

pub read_all-requires-clause-begins : goal.read_all-requires-clause-begins
read_all-requires-clause-begins c =
    let had : 0 ≡ length c.args.self.now.unread.items = search rules in
    (c.args.piece.now, none_before c.args.self.now.unread.items c.args.piece.now (sym had))

pub returns-then-had-eq0-clause-passes : goal.returns-then-had-eq0-clause-passes
returns-then-had-eq0-clause-passes c =
    let had : 0 ≡ length c.args.self.now.unread.items = search rules in
    passes_piece c.args.self.now c.read_all.new.self c.args.piece.now c.args.piece.now c.read_all.result (none_before c.args.self.now.unread.items c.args.piece.now (sym had)) c.read_all.ensures.passes

pub read_all-requires-2-clause-begins : goal.read_all-requires-2-clause-begins
read_all-requires-2-clause-begins c = (c.args.piece.now, c.deref-2.ensures.value ∙ c.in_ok-join.ensures ∙ ap (λ v. v ++ c.args.piece.now) c.deref.ensures.value)

pub returns-clause-passes : goal.returns-clause-passes
returns-clause-passes c = passes_piece c.args.self.now c.read_all-2.new.self _ c.args.piece.now c.read_all-2.result (c.deref-2.ensures.value ∙ c.in_ok-join.ensures ∙ ap (λ v. v ++ c.args.piece.now) c.deref.ensures.value) c.read_all-2.ensures.passes
