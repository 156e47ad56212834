use Rattle.std.proofs.Common.{◌∙◌, ◌++◌, List, ℕ, ap}
use Rattle.std.specs.Prelude.{codes}
use Rattle.hec_sender.specs.Texts.{post_text}
use Rattle.load_run.specs.Stream.{terms}
use Rattle.load_run.proofs.Texts.{hec_next}
use Rattle.load_run.proofs.stream.hec_stream.Goals as goal

pub loop-place-preserved : goal.loop-place-preserved
loop-place-preserved c =
    let out = c.loop-place.out.items in
    hec_next c.loop-place.place c.loop-place.x c.next_number-x.result c.args.count out c.write_request.new.out.items _ c.loop-place-test.true c.next_number-x.ensures
    (c.in_ok-write_request.ensures ∙ ap (λ (l : List ℕ). out ++ post_text terms (codes "/services/collector/event") l) (c.bytes.ensures ∙ c.in_ok-body.ensures)) c.loop-place.invariant
