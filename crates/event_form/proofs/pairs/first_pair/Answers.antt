use Rattle.std.proofs.Common.{List, ℕ, subst}
use Rattle.event_form.specs.Pairs.{BeginsString}
use Rattle.event_form.proofs.Strings.{IfNone_always, one_string}
use Rattle.event_form.proofs.pairs.first_pair.Goals as goal

pub returns-in_err-value-clause-none : goal.returns-in_err-value-clause-none
returns-in_err-value-clause-none c =
    IfNone_always c.from_residual-in_err-value.result (λ pair rest begins.
    let same = one_string pair.0 c.in_ok-key.key.now c.args.bytes.now begins.middle c.in_ok-key.middle.now begins.key c.in_ok-key.ensures.some in
    c.in_err-value.ensures.none pair.1 rest (subst (λ (middle : List ℕ). BeginsString pair.1 middle rest) same.1 begins.value))
