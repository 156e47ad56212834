-- The first item is given.
use Rattle.std.proofs.Common.{◌≡◌, ◌∙◌, ◌++◌, ◌∷◌, Some, refl, ap}
use Rattle.std.specs.Prelude.{option_to_list}
use Rattle.http_edge.specs.declared.waiting.Waiting.{Waiting}
use Rattle.http_edge.specs.declared.waiting.Waiting.TheVariants.{Continue, Request}
use Rattle.http_edge.proofs.GiveLaws.{give_continue, give_request}
use Rattle.http_edge.proofs.held.Held.give.Goals as goal

pub returns-in-Request : goal.returns-in-Request
returns-in-Request c =
    let h = c.args.self.now in
    let f = c.requires in
    let first : h.queue.items ≡ Request c.in-Request.parked ∷ c.pop_front.new.self.items = c.pop_front.ensures.items ∙ ap (λ v. option_to_list v ++ c.pop_front.new.self.items) (c.in-Some.is ∙ ap (λ (w : Waiting). Some w) c.in-Request.is) in
    give_request h _ c.in-Request.parked f (record { bytes_are = refl; space = f.space; whole_is = refl; at_is = refl; begun_is = refl; size_is = refl; stage_is = refl; read_is = refl; unread_is = refl; unread_space = f.unread_space; part_is = refl; fault_is = refl }) first refl refl c.beside_after-self-in-Request.ensures refl

pub returns-in-Continue : goal.returns-in-Continue
returns-in-Continue c =
    let h = c.args.self.now in
    let f = c.requires in
    let first : h.queue.items ≡ Continue ∷ c.pop_front.new.self.items = c.pop_front.ensures.items ∙ ap (λ v. option_to_list v ++ c.pop_front.new.self.items) (c.in-Some.is ∙ ap (λ (w : Waiting). Some w) c.in-Continue.is) in
    give_continue h _ f (record { bytes_are = refl; space = f.space; whole_is = refl; at_is = refl; begun_is = refl; size_is = refl; stage_is = refl; read_is = refl; unread_is = refl; unread_space = f.unread_space; part_is = refl; fault_is = refl }) first refl refl c.beside_after-self.ensures
