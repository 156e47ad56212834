use Rattle.std.proofs.Common.{ℕ, ◌<◌, ◌^◌, List, length, arith}
use Rattle.std.proofs.lemmas.Result.{IfOk-weaker}
use Rattle.event_map.specs.Maps.{IsJsonObject}
use Rattle.event_map.proofs.Sizes.{json_object_size}
use Rattle.event_map.proofs.maps.as_json_object.Goals as goal

pub returns-clause-short : goal.returns-clause-short
returns-clause-short c =
    let e = c.args.event.now in
    IfOk-weaker c.json_object.result (IsJsonObject e) (λ (bytes : List ℕ). length bytes < 2 ^ 32) (λ bytes is. omega (arith, json_object_size e bytes c.requires is)) c.json_object.ensures
