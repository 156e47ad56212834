use Rattle.std.proofs.Common.{◌∙◌, ◌+◌, ◌++◌, List, ℕ, ap}
use Rattle.std.specs.Prelude.{codes}
use Rattle.relp_frame.specs.Spelling.{frame_text}
use Rattle.load_run.proofs.Texts.{relp_next, relp_whole}
use Rattle.load_run.proofs.stream.relp_stream.Goals as goal

pub loop-place-preserved : goal.loop-place-preserved
loop-place-preserved c =
    let out = c.loop-place.out.items in
    relp_next c.loop-place.place c.loop-place.x c.next_number-x.result c.args.count out c.write_parts-in-loop-place.new.out.items _ c.loop-place-test.true c.next_number-x.ensures
    (c.in_ok-write_parts-2.ensures.ok ∙ ap (λ (l : List ℕ). out ++ frame_text (c.loop-place.place + 2) (codes "syslog") l) (c.as_bytes.ensures.value ∙ c.in_ok-text.ensures.text)) c.loop-place.invariant

pub returns : goal.returns
returns c = relp_whole c.args.number c.args.count c.loop-place.place c.loop-place.x c.loop-place.out.items c.write_parts-2.new.out.items c.loop-place-test.false c.loop-place.invariant c.in_ok-write_parts-3.ensures.ok
