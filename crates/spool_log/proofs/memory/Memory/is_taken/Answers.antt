use Rattle.std.proofs.Common.{◌≡◌, ℕ, ◌+◌, ◌*◌, ◌<◌, sym, ◌∙◌, ap, arith, ◌==◌, List}
use Rattle.std.specs.List.{list_any}
use Rattle.std.proofs.lemmas.Bool.{eq-eqb}
use Rattle.spool_slots.specs.declared.slot.Slot.{Slot}
use Rattle.spool_log.proofs.Changes.Lowest.{any_offset, taken_here, taken_there}
use Rattle.spool_log.proofs.memory.Memory.is_taken.Goals as goal

pub returns-then-self-at : goal.returns-then-self-at
returns-then-self-at c = λ s knows sound.
    let at : 12288 + c.from.result * c.args.self.now.size ≡ 12288 + c.args.place * s.size = ap (λ (k : ℕ). 12288 + k * c.args.self.now.size) c.from.ensures ∙ ap (λ (k : ℕ). 12288 + c.args.place * k) knows.size in
    eq-eqb _ _ c.if-self-at.true ∙ taken_here s.size s.active.place c.args.place c.args.self.now.active.at s.older (omega (arith, sound.large)) knows.active.at_is (c.if-self-at.true ∙ at)

pub returns-else-self-at : goal.returns-else-self-at
returns-else-self-at c = λ s knows sound.
    let at : 12288 + c.from.result * c.args.self.now.size ≡ 12288 + c.args.place * s.size = ap (λ (k : ℕ). 12288 + k * c.args.self.now.size) c.from.ensures ∙ ap (λ (k : ℕ). 12288 + c.args.place * k) knows.size in
    let some : 0 < s.size = omega (arith, sound.large) in
    c.begins_at.ensures
    ∙ ap (λ (l : List Slot). list_any (λ k. k.at == (12288 + c.from.result * c.args.self.now.size)) l) c.deref.ensures.value
    ∙ ap (λ (x : ℕ). list_any (λ k. k.at == x) c.args.self.now.older.items) at
    ∙ any_offset s.size c.args.place s.older c.args.self.now.older.items some knows.older
    ∙ taken_there s.size s.active.place c.args.place c.args.self.now.active.at s.older some knows.active.at_is (λ e. c.if-self-at.false (e ∙ sym at))
