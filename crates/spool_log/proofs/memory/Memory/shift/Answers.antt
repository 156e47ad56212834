use Rattle.std.proofs.Common.{◌≡◌, ◌+◌, List, [], ◌∷◌, ◌++◌, drop, arith, sym, ◌∙◌, ap, subst}
use Rattle.std.specs.Prelude.{All}
use Rattle.std.proofs.lemmas.List.Elements.{All-nil, All-cons, All-append, All-drop}
use Rattle.spool_slots.specs.declared.slot.Slot.{Slot}
use Rattle.spool_state.proofs.Adding.{end_later}
use Rattle.spool_log.specs.Device.{LiesIn, GoOn}
use Rattle.spool_log.specs.Memory.{end_of}
use Rattle.spool_log.proofs.Scans.Chained.{go_on-push, go_on-rest}
use Rattle.spool_log.proofs.memory.Memory.shift.Goals as goal

pub invariant_of-self : goal.invariant_of-self
invariant_of-self c =
    let self = c.args.self.now in
    let slot = c.args.slot in
    let rest = drop 1 self.older.items in
    let first : slot.first ≡ end_of self = c.requires.goes_on in
    let items : c.push_reserved.new.self.items ≡ rest ++ self.active ∷ [] = c.push_reserved.ensures.items ∙ ap (λ (l : List Slot). l ++ self.active ∷ []) c.remove.ensures.by_index.2 in
    record {
      large = self.large;
      small = self.small;
      some = self.some;
      few = self.few;
      spare = omega (arith, self.spare, c.remove.ensures.capacity, c.push_reserved.ensures.capacity);
      older_lie = subst (All (LiesIn self.slots self.size)) (sym items)
          (All-append (LiesIn self.slots self.size) rest (self.active ∷ []) (All-drop (LiesIn self.slots self.size) 1 self.older.items self.older_lie) (All-cons (LiesIn self.slots self.size) self.active [] self.active_lies (All-nil (LiesIn self.slots self.size))));
      active_lies = c.requires.lies;
      go_on = subst (λ (l : List Slot). GoOn l slot.first) (sym items) (go_on-push rest self.active slot.first (go_on-rest self.older.items self.active.first self.go_on) first);
      early = omega (arith, c.requires.early);
      apart = self.apart;
      cursor_upto = omega (arith, first, self.cursor_upto);
      known_upto = end_later (end_of self) (slot.first + slot.count) self.register.content.known.items (omega (arith, first)) self.known_upto;
    }
