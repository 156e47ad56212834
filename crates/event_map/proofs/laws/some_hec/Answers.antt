use Rattle.event_map.proofs.Exact.{only_hec_object, hec_object_of-is}
use Rattle.event_map.proofs.Functions.{hec_object_of}
use Rattle.event_map.proofs.Sizes.{hec_object_size}
use Rattle.event_map.proofs.laws.some_hec.Goals as goal

pub returns : goal.returns
returns c = λ e limits. let is = hec_object_of-is e limits in (hec_object_of e, is, hec_object_size e (hec_object_of e) limits is, λ other h. only_hec_object e other limits h)
