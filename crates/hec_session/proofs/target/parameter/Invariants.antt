use Rattle.std.proofs.Common.{◌≡◌}
use Rattle.form_urlencoded.specs.Parse.{pairs_left}
use Rattle.hec_session.specs.Target.{first_named, parameter}
use Rattle.hec_session.proofs.target.parameter.Given as goal

abbrev pub invariant-loop-pair : goal.invariant-loop-pair
invariant-loop-pair l = parameter l.fn.name l.fn.target ≡ first_named l.fn.name (pairs_left l.pair-iterator)
