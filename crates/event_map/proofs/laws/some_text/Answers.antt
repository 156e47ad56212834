use Rattle.event_map.proofs.Exact.{only_text, text_of-is}
use Rattle.event_map.proofs.Functions.{text_of}
use Rattle.event_map.proofs.Sizes.{text_size}
use Rattle.event_map.proofs.laws.some_text.Goals as goal

pub returns : goal.returns
returns c = λ e limits. let is = text_of-is e limits in (text_of e, is, text_size e (text_of e) limits is, λ other h. only_text e other limits h)
