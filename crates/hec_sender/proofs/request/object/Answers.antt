use Rattle.std.proofs.lemmas.Result.{IfOk-weaker}
use Rattle.event_map.proofs.Exact.{only_hec_object}
use Rattle.hec_sender.proofs.request.object.Goals as goal

pub returns : goal.returns
returns c = IfOk-weaker c.as_hec_object.result _ _ (λ bytes is. only_hec_object c.args.entry.now.event bytes c.requires is) c.as_hec_object.ensures
