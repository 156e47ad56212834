use Rattle.std.proofs.Common.{All, [], ◌∷◌, sym, ◌∙◌, ap, subst, arith, length, length-append}
use Rattle.std.proofs.lemmas.List.Elements.{All-nil, All-cons, All-append}
use Rattle.known_numbers.specs.declared.stretch.Stretch.{Stretch}
use Rattle.spool_state.specs.Cells.{stretches_text}
use Rattle.disk_cell.specs.Content.{HasRoomInCell}
use Rattle.disk_cell.proofs.Texts.{take_next}
use Rattle.disk_cell.proofs.text.take_stretches.Goals as goal

pub loop-i-init : goal.loop-i-init
loop-i-init c = record {
  text = ap stretches_text c.requires.none;
  fits = subst (All HasRoomInCell) (sym c.requires.none) (All-nil HasRoomInCell);
  count = omega (arith, ap length c.requires.none);
  room = omega (arith, c.requires.room);
}

pub loop-i-preserved : goal.loop-i-preserved
loop-i-preserved c = record {
  text = ap stretches_text c.push_reserved.ensures.items ∙ take_next c.loop-i.i _ c.args.text.now _ _ (omega arith) c.loop-i.invariant.text c.u64_at.ensures.bytes c.u64_at-in-loop-i.ensures.bytes;
  fits = subst (All HasRoomInCell) (sym c.push_reserved.ensures.items)
      (All-append HasRoomInCell c.loop-i.known.items (record { from = c.u64_at.result; to = c.u64_at-in-loop-i.result } ∷ []) c.loop-i.invariant.fits
      (All-cons HasRoomInCell (record { from = c.u64_at.result; to = c.u64_at-in-loop-i.result }) [] (c.u64_at.type_inv, c.u64_at-in-loop-i.type_inv) (All-nil HasRoomInCell)));
  count = omega (arith, c.loop-i.invariant.count, ap length c.push_reserved.ensures.items, length-append {A = Stretch});
  room = omega (arith, c.loop-i.invariant.room, c.push_reserved.ensures.capacity);
}
