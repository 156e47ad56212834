-- What contracts see of a window that its unfinished request leaves.
use Rattle.std.proofs.Common.{◌≡◌, ◌∙◌, ℕ, List, [], sym, subst}
use Rattle.std.specs.Prelude.{IsSome, None}
use Rattle.http_edge.specs.declared.request.HttpItem.{HttpItem}
use Rattle.http_edge.specs.Filling.{window_of}
use Rattle.http_edge.specs.Past.{Becomes, clear_at}
use Rattle.http_edge.specs.Window.{Reads, Window, held_of}
use Rattle.http_edge.proofs.GiveLaws.{counted_is}
use Rattle.http_edge.proofs.LeavingLaws.{no_items}
use Rattle.http_edge.proofs.window.HttpWindow.leave.Goals as goal

pub leave-requires-clause-queue : goal.leave-requires-clause-queue
leave-requires-clause-queue c = no_items _ _ (subst (λ (w : Window). w.reading.waiting ≡ []) (sym c.self.view_is) c.requires.waiting)

pub leave-requires-clause-begun : goal.leave-requires-clause-begun
leave-requires-clause-begun c = subst (λ (w : Window). IsSome w.reading.begun) (sym c.self.view_is) c.requires.begun

pub leave-requires-clause-fault : goal.leave-requires-clause-fault
leave-requires-clause-fault c = subst (λ (w : Window). w.reading.fault ≡ None) (sym c.self.view_is) c.requires.fault

pub leave-requires-clause-reached : goal.leave-requires-clause-reached
leave-requires-clause-reached c = subst (λ (w : Window). (fed : List ℕ) × (given : List HttpItem) × Reads fed given w) (sym c.self.view_is) c.requires.reached

pub returns-clause-becomes : goal.returns-clause-becomes
returns-clause-becomes c = subst (λ (w : Window). Becomes w.reading c.of.result) c.self.view_is (subst (Becomes (window_of c.self.inside.held).reading) (sym c.of.ensures) c.in_ok-past.ensures.becomes)

pub returns-clause-emptied : goal.returns-clause-emptied
returns-clause-emptied c =
    let e = c.in_ok-past.ensures.emptied in
    let new = c.leave.new.self in
    let none : held_of (window_of new) ≡ 0 = sym (counted_is new c.in_ok-past.ensures.fills) ∙ e.none in
    subst (λ (w : Window). ((window_of new).reading ≡ clear_at w.reading.at) × (held_of (window_of new) ≡ 0)) c.self.view_is (e.reading_is, none)
