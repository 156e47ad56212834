use Rattle.std.proofs.Common.{◌+◌, length, ap, arith, length-append}
use Rattle.event_map.proofs.Functions.{json_object_of}
use Rattle.lumber_frame.specs.Spelling.{json_text}
use Rattle.lumber_sender.specs.Windows.{part_text}
use Rattle.lumber_sender.proofs.Parts.{part_on, part_first, short_on}
use Rattle.lumber_sender.proofs.text.next_part.Goals as goal

pub loop-upto-init : goal.loop-upto-init
loop-upto-init c =
    let w = c.in_ok-write_data.ensures in
    record {
      some = omega arith;
      within = omega (arith, c.requires.from);
      short = λ k above below. absurd (omega (arith, above, below));
      bytes = omega (arith, ap length w.2, length-append c.in_ok-out.out.items (json_text (c.args.from + 1) (json_object_of w.0.event)));
      part = part_first c.args.batch.now c.in_ok-out.out.items c.write_data.new.out.items c.args.from w.0 c.requires.from w.1 c.in_ok-out.ensures w.2;
    }

pub loop-upto-preserved : goal.loop-upto-preserved
loop-upto-preserved c =
    let w = c.in_ok-write_data-2.ensures in
    let h = c.loop-upto.invariant in
    record {
      some = omega arith;
      within = omega arith;
      short = short_on c.args.batch.now c.args.from c.loop-upto.upto c.loop-upto.out.items h.short h.part (omega arith);
      bytes = omega (arith, ap length w.2, h.bytes, length-append c.loop-upto.out.items (json_text (c.loop-upto.upto + 1) (json_object_of w.0.event)));
      part = part_on c.args.batch.now (part_text c.args.batch.now c.args.from) c.loop-upto.out.items c.write_data-in-loop-upto.new.out.items c.loop-upto.upto w.0 (omega (arith, h.some)) (omega arith) w.1 h.part w.2;
    }
