-- Acts that own no text, and the acts that they are.
use Rattle.std.specs.Prelude.{ℕ, List, [], ◌++◌}
use Rattle.event_form.specs.declared.event.Origin.TheVariants.{Relp}
use Rattle.relp_frame.specs.declared.frame.Frame.{Frame}
use Rattle.relp_session.specs.declared.act.RelpAct.{RelpAct}
use Rattle.relp_session.specs.declared.act.RelpAct.TheVariants as own
use Rattle.relp_session.specs.declared.act.RelpActRef.{RelpActRef}
use Rattle.relp_session.specs.declared.act.RelpActRef.TheVariants as lent
use Rattle.relp_session.specs.declared.rows.Row.{Row}
use Rattle.relp_session.specs.declared.rows.Row.TheVariants.{Store, Say, Close, Nothing}
use Rattle.relp_session.specs.Answer.{reply, stored, hint, event_of}

-- the act that a row says for a frame
abbrev pub act_in : Row → Frame → RelpAct
act_in Store f = own.Store (event_of f) f.txnr
act_in (Say text) f = own.Say (reply f.txnr text.now)
act_in Close f = own.End (reply f.txnr [] ++ hint)
act_in Nothing f = own.End []

-- the act with texts of its own
abbrev pub act_lent : RelpActRef → RelpAct
act_lent (lent.Store text txnr) = own.Store (record { origin = Relp; text = text.now }) txnr
act_lent (lent.Say text txnr) = own.Say (reply txnr text.now)
act_lent (lent.Close txnr) = own.End (reply txnr [] ++ hint)
act_lent lent.Nothing = own.End []

-- the text by which it is answered: of an event that is to be stored, once it is durable
abbrev pub answer_text : RelpActRef → List ℕ
answer_text (lent.Store text txnr) = stored txnr
answer_text (lent.Say text txnr) = reply txnr text.now
answer_text (lent.Close txnr) = reply txnr [] ++ hint
answer_text lent.Nothing = []
