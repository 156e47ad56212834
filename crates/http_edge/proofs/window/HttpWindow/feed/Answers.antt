-- What a window holds after a piece.
use Rattle.std.proofs.Common.{◌+◌, ◌≤◌, ℕ, sym, subst}
use Rattle.std.specs.Prelude.{Ok, Err, Result}
use Rattle.event_form.specs.declared.feed_fault.FeedFault.{FeedFault}
use Rattle.http_edge.specs.declared.fault.HttpFault.{HttpFault}
use Rattle.http_edge.specs.Filling.{window_of}
use Rattle.http_edge.specs.Reading.{come}
use Rattle.http_edge.specs.Window.{Window, Feeds, held_of, taken_of}
use Rattle.http_edge.proofs.WindowLaws.{err_is, feeds_err, feeds_ok, held_bound, room_after, takes}
use Rattle.http_edge.proofs.window.HttpWindow.feed.Goals as goal

pub returns-in-Some-clause-bound : goal.returns-in-Some-clause-bound
returns-in-Some-clause-bound c = subst (λ (w : Window). held_of w ≤ 1064960) c.self.view_is (held_bound c.self.inside.held c.self.invariant)

pub returns-clause-feeds : goal.returns-clause-feeds
returns-clause-feeds c =
    let h = c.self.inside.held in
    let new = c.take.new.self in
    let piece = c.args.piece.now in
    let n = takes h piece c.min-taken.result c.count.result c.self.invariant c.count.ensures.count c.min-taken.ensures in
    let x = c.in_ok-take.ensures.feeds in
    subst (λ (w : Window). Feeds w piece (Ok c.min-taken.result) (window_of new)) c.self.view_is (feeds_ok (window_of h) (window_of new) piece c.min-taken.result n x)

pub returns-clause-bound : goal.returns-clause-bound
returns-clause-bound c = held_bound c.take.new.self c.in_ok-take.ensures.fills

pub returns-clause-room : goal.returns-clause-room
returns-clause-room c =
    let h = c.self.inside.held in
    let new = c.take.new.self in
    let piece = c.args.piece.now in
    let n = takes h piece c.min-taken.result c.count.result c.self.invariant c.count.ensures.count c.min-taken.ensures in
    subst (λ (w : Window). new.at + come (window_of new).reading ≤ w.reading.at + come w.reading + taken_of w piece) c.self.view_is (room_after h new piece c.min-taken.result c.count.result c.take.result c.self.invariant c.count.ensures.count c.min-taken.ensures c.take.ensures)

pub returns-in_err-take-clause-feeds : goal.returns-in_err-take-clause-feeds
returns-in_err-take-clause-feeds c =
    let h = c.self.inside.held in
    let new = c.take.new.self in
    let piece = c.args.piece.now in
    let n = takes h piece c.min-taken.result c.count.result c.self.invariant c.count.ensures.count c.min-taken.ensures in
    let e = c.in_err-take.field-0.0 in
    let is = err_is c.from_residual.result e c.from_residual.ensures.1 in
    let done = subst (λ (w : Window). Feeds w piece (Err e) (window_of new)) c.self.view_is (feeds_err (window_of h) (window_of new) piece c.min-taken.result e n c.in_default.is c.in_err-take.ensures.feeds) in
    subst (λ (r : Result ℕ (FeedFault HttpFault)). Feeds c.args.self.now piece r (window_of new)) (sym is) done

pub returns-in_err-take-clause-bound : goal.returns-in_err-take-clause-bound
returns-in_err-take-clause-bound c = held_bound c.take.new.self c.in_err-take.ensures.fills

pub returns-in_err-take-clause-room : goal.returns-in_err-take-clause-room
returns-in_err-take-clause-room c =
    let h = c.self.inside.held in
    let new = c.take.new.self in
    let piece = c.args.piece.now in
    let n = takes h piece c.min-taken.result c.count.result c.self.invariant c.count.ensures.count c.min-taken.ensures in
    subst (λ (w : Window). new.at + come (window_of new).reading ≤ w.reading.at + come w.reading + taken_of w piece) c.self.view_is (room_after h new piece c.min-taken.result c.count.result c.take.result c.self.invariant c.count.ensures.count c.min-taken.ensures c.take.ensures)
