use Rattle.std.proofs.Common.{ℕ, List, inl, refl, ap, sym, subst}
use Rattle.std.specs.Prelude.{Err}
use Rattle.edge_disk.proofs.Calls.{calls_on, calls_as}
use Rattle.edge_disk.proofs.Moments.{untouched_then}
use Rattle.conn_serve.proofs.Faults.{counts_none}
use Rattle.bridge_parts.specs.Run.{output_run}
use Rattle.bridge_rescue.specs.RescueRun.{IsLayoutOf, Rescues}
use Rattle.bridge_rescue.proofs.Ending.{header_known, header_written}
use Rattle.bridge_rescue.proofs.top.bridge_rescue.Goals as goal

-- the slots were looked at
pub returns-in-Ok-clause-run : goal.returns-in-Ok-clause-run
returns-in-Ok-clause-run g c =
    let did = c.rescue_slots-note.ensures in
    let first = c.in-Ok.ensures in
    let output = output_run g.K.Sink.taken g.K.Sink.write_faults c.args.output.now c.rescue_slots-note.new.output in
    rw (c.of.ensures.note, c.of.ensures.report, c.of.ensures.disk)
    record {
      known = did.known;
      calls = calls_on _ _ _ _ _ (calls_as _ ⊥ _ _ first.calls (λ never. absurd never) (λ is. absurd (cc))) (λ never. never) did.calls;
      writes = did.writes;
      unchanged = λ tells. untouched_then _ _ _ (g.met.D.Disk.lawful c.args.disk tells) (first.told tells) (did.told tells);
      silent = did.silent;
      done = λ tells.
          let same = (first.told tells).same in
          let layout = subst (λ (l : List ℕ). IsLayoutOf c.args.given l c.in-Ok.layout.slots c.in-Ok.layout.size) (sym same) (first.found tells) in
          subst (λ (l : List ℕ). Rescues c.args.given l c.rescue_slots-note.result.1 output c.rescue_slots-note.result.0) same (did.done tells c.args.given layout);
    }

-- there is no layout
pub returns-in-Err-clause-run : goal.returns-in-Err-clause-run
returns-in-Err-clause-run g c =
    let first = c.in-Err.ensures in
    rw (c.of-in-Err.ensures.note, c.of-in-Err.ensures.report, c.of-in-Err.ensures.disk)
    record {
      known = header_known c.in-Err.note first.known;
      calls = calls_as _ _ _ _ first.calls (λ by. ap Err by) (λ is. cc);
      writes = counts_none _ _ _ (header_written c.in-Err.note first.known) refl;
      unchanged = first.told;
      silent = λ none. record { same = refl; taken = refl; faults = refl };
      done = λ tells. inl (first.broken tells);
    }
