use Rattle.std.proofs.Common.{◌∙◌, ◌+◌, ◌%◌, ◌++◌, List, ℕ, ap}
use Rattle.lumber_frame.specs.Spelling.{json_text}
use Rattle.load_run.proofs.Texts.{lumber_next}
use Rattle.load_run.proofs.stream.lumber_stream.Goals as goal

pub loop-place-preserved : goal.loop-place-preserved
loop-place-preserved c =
    let between = c.begin_window.new.out.items in
    lumber_next c.loop-place.place c.loop-place.x c.next_number-x.result c.args.count c.loop-place.out.items between c.write_json.new.out.items _ c.loop-place-test.true c.next_number-x.ensures c.in_ok-begin_window.ensures
    (c.in_ok-write_json.ensures.ok ∙ ap (λ (l : List ℕ). between ++ json_text (c.loop-place.place % 128 + 1) l) (c.bytes.ensures ∙ c.in_ok-payload.ensures.object)) c.loop-place.invariant
