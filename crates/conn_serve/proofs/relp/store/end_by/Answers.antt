use Rattle.std.proofs.Common.{rules, ◌≡◌, ℕ, List, refl, ◌∙◌, sym, subst}
use Rattle.edge_io.specs.Told.{MayFollow}
use Rattle.relp_session.specs.Answer.{hint}
use Rattle.spool_answers.specs.Take.{IsRefusal}
use Rattle.conn_serve.proofs.Faults.{counts_from, counts_none, fault_at_move, fault_is_whole, memory_is_whole}
use Rattle.desk_access.specs.Endings.{IsAtMove}
use Rattle.conn_serve.proofs.relp.store.end_by.Goals as goal

pub returns-then-not-is_refusal-clause-only : goal.returns-then-not-is_refusal-clause-only
returns-then-not-is_refusal-clause-only g c = rw c.talk_of.ensures (fault_at_move _)

pub returns-then-not-is_refusal-clause-writes : goal.returns-then-not-is_refusal-clause-writes
returns-then-not-is_refusal-clause-writes g c = counts_none _ _ _ (λ is. fault_is_whole _ (sym c.talk_of.ensures ∙ is)) refl

pub returns-then-not-is_refusal-clause-same : goal.returns-then-not-is_refusal-clause-same
returns-then-not-is_refusal-clause-same g c = g.L.Object.same_refl _

pub returns-then-not-is_refusal-clause-apart : goal.returns-then-not-is_refusal-clause-apart
returns-then-not-is_refusal-clause-apart g c = g.met.L.Sink.apart_refl _

pub returns-then-is_err-clause-only : goal.returns-then-is_err-clause-only
returns-then-is_err-clause-only g c = tt

pub returns-then-is_err-clause-writes : goal.returns-then-is_err-clause-writes
returns-then-is_err-clause-writes g c = counts_none _ _ _ memory_is_whole refl

pub returns-then-is_err-clause-same : goal.returns-then-is_err-clause-same
returns-then-is_err-clause-same g c = g.L.Object.same_refl _

pub returns-then-is_err-clause-apart : goal.returns-then-is_err-clause-apart
returns-then-is_err-clause-apart g c = g.met.L.Sink.apart_refl _

pub returns-in-Err-clause-only : goal.returns-in-Err-clause-only
returns-in-Err-clause-only g c = subst IsAtMove (sym c.in-Err.ensures.part.0) tt

pub returns-in-Err-clause-writes : goal.returns-in-Err-clause-writes
returns-in-Err-clause-writes g c = counts_from _ _ _ _ _ refl (λ is. refl) (λ is. c.in-Err.ensures.part.0) c.in-Err.ensures.writes

pub returns-in-Err-clause-same : goal.returns-in-Err-clause-same
returns-in-Err-clause-same g c = c.in-Err.ensures.same

pub returns-in-Err-clause-apart : goal.returns-in-Err-clause-apart
returns-in-Err-clause-apart g c = c.in-Err.ensures.apart

pub returns-in-Ok-clause-same : goal.returns-in-Ok-clause-same
returns-in-Ok-clause-same g c = c.in-Ok.ensures.same

pub returns-in-Ok-clause-apart : goal.returns-in-Ok-clause-apart
returns-in-Ok-clause-apart g c = c.in-Ok.ensures.apart

pub say-requires : goal.say-requires
say-requires g c =
    let refused : IsRefusal c.args.fault = search rules in
    let text : c.deref.result.now ≡ hint = search rules in
    record { permitted = subst (λ (t : List ℕ). MayFollow (g.L.Sink.permits c.args.link.now) (g.L.Sink.taken c.args.link.now) t) (sym text) (c.requires.permitted refused) }
