use Rattle.std.proofs.Common.{◌-◌, refl}
use Rattle.std.specs.Prelude.{◌%◌}
use Rattle.hec_sender.specs.Requests.{run_from}
use Rattle.hec_sender.proofs.Fitting.{request_fits}
use Rattle.hec_sender.proofs.laws.requests_fit.Goals as goal

pub returns : goal.returns
returns c = λ place entries events. request_fits (run_from place entries) entries (128 - place % 128) refl events
