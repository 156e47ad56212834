-- What is held lies in memory of its own.
use Rattle.std.proofs.Common.{◌≡◌, ◌∙◌, ap, refl}
use Rattle.http_edge.specs.Filling.{window_of}
use Rattle.http_edge.proofs.GiveLaws.{packed_window, refilled, refilled_window}
use Rattle.http_edge.proofs.window.HttpWindow.give_back.Goals as goal

pub invariant_of-self-2 : goal.invariant_of-self-2
invariant_of-self-2 c =
    let packed = c.pack.new.self in
    refilled packed (record packed { queue = c.shrink_to.new.self; bytes = c.in-Some.bytes; joined = c.new.result }) c.pack.ensures.fills refl c.shrink_to.ensures.items (c.in-Some.ensures.items ∙ c.deref.ensures.value) c.in-Some.ensures.capacity

pub returns : goal.returns
returns c =
    let packed = c.pack.new.self in
    refilled_window packed (record packed { queue = c.shrink_to.new.self; bytes = c.in-Some.bytes; joined = c.new.result }) refl c.shrink_to.ensures.items (c.in-Some.ensures.items ∙ c.deref.ensures.value)
    ∙ packed_window c.self.inside.held packed c.self.invariant c.pack.ensures.packed ∙ c.self.view_is
