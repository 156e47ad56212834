use Rattle.std.proofs.Common.{◌≡◌, ◌∙◌, ℕ, ◌<◌, List, [], ap, arith, length, refl, subst, sym}
use Rattle.std.specs.Prelude.{Option}
use Rattle.stream_grammar.specs.Reading.{Window}
use Rattle.relp_frame.specs.declared.fault.RelpFault.{RelpFault}
use Rattle.lumber_frame.specs.declared.fault.LumberFault.{LumberFault}
use Rattle.lumber_session.specs.Counting.{Core}
use Rattle.http_edge.specs.Window.{Window as Requests}
use Rattle.hec_tokens.specs.declared.list.ListedToken.{ListedToken}
use Rattle.hec_session.specs.declared.tokens.Tokens.{Tokens}
use Rattle.event_form.specs.declared.talk.Talk.TheVariants.{NoMemory}
use Rattle.desk_access.specs.Carried.{Carried}
use Rattle.conn_serve.specs.Done.{told}
use Rattle.conn_serve.specs.Hec.{hec}
use Rattle.conn_serve.specs.Serves.{CarriedBy}
use Rattle.conn_serve.specs.Runs.{relp_runs}
use Rattle.conn_serve.specs.Terms.{most_of, terms_of}
use Rattle.conn_serve.proofs.Beginning.{none_carried}
use Rattle.conn_serve.proofs.Batching.{handles_none}
use Rattle.conn_serve.proofs.RelpSessions as relp_sessions
use Rattle.conn_serve.proofs.LumberSessions as lumber_sessions
use Rattle.conn_serve.proofs.HecIntake.{extent_new, idle_new}
use Rattle.conn_serve.proofs.HecSessions as hec_sessions
use Rattle.conn_serve.proofs.Faults.{counts_none}
use Rattle.conn_serve.proofs.Running.{serves_as, serves_none}
use Rattle.conn_serve.proofs.Windowed as windowed
use Rattle.conn_serve.proofs.serve.attend_by.Goals as goal

-- tokens with a list that was shared
with_list : (core : Tokens) (token ack_token : Option ℕ) (listed shared : List ListedToken) → shared ≡ listed → core ≡ record { token = token; ack_token = ack_token; listed = shared } → core ≡ record { token = token; ack_token = ack_token; listed = listed }
with_list core token ack_token listed shared same is = subst (λ (l : List ListedToken). core ≡ record { token = token; ack_token = ack_token; listed = l }) same is

pub run-requires : goal.run-requires
run-requires g c =
    let session = c.in-Ok.session in
    let new = c.in-Ok.ensures in
    let told = new.fault ∙ sym (ap (λ (w : Window RelpFault). w.fault) new.window) in
    record {
      some = c.requires.some;
      start = relp_sessions.served_none (most_of session.group) c.args.conn session.window session.core session.fault new.reads new.core told;
      idle = rw new.window (record { none = refl; space = omega arith });
      unfed = rw new.window refl;
      may_end = windowed.may_end (relp_sessions.kind (most_of session.group) c.args.conn session.core []) session.window session.fault (ap (λ (w : Window RelpFault). w.whole) new.window) new.fault
          (λ frames calls text h. relp_sessions.none_given_up (most_of session.group) c.args.conn session.core frames calls text h);
      first = refl;
      may = c.requires.may;
      says = rw (c.in-Relp.is, ← new.group) at c.requires.says;
    }

pub run-requires-in-Ok-new : goal.run-requires-in-Ok-new
run-requires-in-Ok-new g c =
    let session = c.in-Ok-new.session in
    let new = c.in-Ok-new.ensures in
    let told = new.fault ∙ sym (ap (λ (w : Window LumberFault). w.fault) new.window) in
    let handled = handles_none c.args.conn session.core session.staged.entries.items session.staged.last new.behind (ap (λ (x : Core). x.due) new.core) new.staged in
    record {
      some = c.requires.some;
      start = lumber_sessions.served_none c.args.conn session.window session.core session.staged.entries.items session.staged.last session.fault handled new.reads told;
      idle = rw new.window (record { none = refl; space = omega arith });
      unfed = rw new.window refl;
      may_end = windowed.may_end (lumber_sessions.kind c.args.conn session.core session.staged.entries.items session.staged.last) session.window session.fault (ap (λ (w : Window LumberFault). w.whole) new.window) new.fault (λ frames calls text h. tt);
      first = refl;
      may = c.requires.may;
      says = rw c.in-Lumberjack.is at c.requires.says;
    }

pub run-requires-in-Ok-new-2 : goal.run-requires-in-Ok-new-2
run-requires-in-Ok-new-2 g c =
    let session = c.in-Ok-new-2.session in
    let new = c.in-Ok-new-2.ensures in
    let core = with_list _ _ _ _ _ c.share.ensures new.core in
    let idle = idle_new session.intake session.met new.window new.refused new.met in
    record {
      some = c.requires.some;
      start = rw new.met (hec_sessions.kept_new session.core c.args.conn session.intake new.reads (ap (λ (w : Requests). w.reading.fault) new.window) new.refused);
      idle = idle;
      unfed = extent_new session.intake new.window new.refused;
      may_end = hec_sessions.kept_may_end session.core c.args.conn session.intake session.met idle new.met;
      first = refl;
      may = c.requires.may;
      says = rw (c.in-Hec.is, ← core) at c.requires.says;
    }

pub returns-in-Ok : goal.returns-in-Ok
returns-in-Ok g c =
    let run = c.run.ensures in
    record {
      carried = rw c.in-Relp.is (serves_as (λ t left bytes calls text talk. Carried (relp_runs t c.args.conn) left bytes calls text talk) _ _ _ _ _ _ _ _ _ _ (ap most_of c.in-Ok.ensures.group) run.serves);
      reads = run.reads;
      writes = run.writes;
      same = run.same;
    }

pub returns-in-Ok-new : goal.returns-in-Ok-new
returns-in-Ok-new g c =
    let run = c.run-in-Ok-new.ensures in
    record { carried = rw c.in-Lumberjack.is run.serves; reads = run.reads; writes = run.writes; same = run.same }

pub returns-in-Ok-new-2 : goal.returns-in-Ok-new-2
returns-in-Ok-new-2 g c =
    let run = c.run-in-Ok-new-2.ensures in
    let core = with_list _ _ _ _ _ c.share.ensures c.in-Ok-new-2.ensures.core in
    record {
      carried = rw c.in-Hec.is (serves_as (λ t left bytes calls text talk. Carried (hec t c.args.conn) left bytes calls text talk) _ _ _ _ _ _ _ _ _ _ core run.serves);
      reads = run.reads;
      writes = run.writes;
      same = run.same;
    }

pub returns-in-Err : goal.returns-in-Err
returns-in-Err g c =
    let now = told (g.L.Source.given c.args.link.now) (g.L.Source.left c.args.link.now) (g.L.Sink.taken c.args.link.now) in
    record {
      carried = serves_none (CarriedBy c.args.rules.now c.args.conn) now _ NoMemory (g.met.A.Access.ran_none _) (none_carried c.args.rules.now.proto (terms_of c.args.rules.now) c.args.conn now.left);
      reads = counts_none _ _ _ (λ is. cc) refl;
      writes = counts_none _ _ _ (λ is. cc) refl;
      same = g.L.Object.same_refl _;
    }

pub returns-in-Err-new : goal.returns-in-Err-new
returns-in-Err-new g c =
    let now = told (g.L.Source.given c.args.link.now) (g.L.Source.left c.args.link.now) (g.L.Sink.taken c.args.link.now) in
    record {
      carried = serves_none (CarriedBy c.args.rules.now c.args.conn) now _ NoMemory (g.met.A.Access.ran_none _) (none_carried c.args.rules.now.proto (terms_of c.args.rules.now) c.args.conn now.left);
      reads = counts_none _ _ _ (λ is. cc) refl;
      writes = counts_none _ _ _ (λ is. cc) refl;
      same = g.L.Object.same_refl _;
    }

pub returns-in-Err-new-2 : goal.returns-in-Err-new-2
returns-in-Err-new-2 g c =
    let now = told (g.L.Source.given c.args.link.now) (g.L.Source.left c.args.link.now) (g.L.Sink.taken c.args.link.now) in
    record {
      carried = serves_none (CarriedBy c.args.rules.now c.args.conn) now _ NoMemory (g.met.A.Access.ran_none _) (none_carried c.args.rules.now.proto (terms_of c.args.rules.now) c.args.conn now.left);
      reads = counts_none _ _ _ (λ is. cc) refl;
      writes = counts_none _ _ _ (λ is. cc) refl;
      same = g.L.Object.same_refl _;
    }
