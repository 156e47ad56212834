use Rattle.event_map.proofs.Exact.{only_json_object, json_object_of-is}
use Rattle.event_map.proofs.Functions.{json_object_of}
use Rattle.event_map.proofs.Sizes.{json_object_size}
use Rattle.event_map.proofs.laws.some_json.Goals as goal

pub returns : goal.returns
returns c = λ e limits. let is = json_object_of-is e limits in (json_object_of e, is, json_object_size e (json_object_of e) limits is, λ other h. only_json_object e other limits h)
