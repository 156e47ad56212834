use Rattle.std.proofs.Common.{◌≡◌, ◌+◌, ◌*◌, ◌^◌, ◌≤◌, drop}
use Rattle.bridge_serve.specs.Noted.{talks_of}
use Rattle.bridge_serve.proofs.telling.count_talks.Given as goal

abbrev pub invariant-loop-report : goal.invariant-loop-report
invariant-loop-report l = record {
  sum : l.talks + talks_of (drop l.report-index l.reports) ≡ talks_of l.reports;
  most : l.talks ≤ 2 ^ 32 * l.report-index;
}
