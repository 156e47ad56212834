-- The act that one for a lent frame is.
use Rattle.lumber_session.specs.declared.act.LumberAct.{LumberAct}
use Rattle.lumber_session.specs.declared.act.LumberAct.TheVariants as owned
use Rattle.lumber_session.specs.declared.act.LumberActRef.{LumberActRef}
use Rattle.lumber_session.specs.declared.act.LumberActRef.TheVariants.{Nothing, Stage, CommitFirst}

-- the act with a text of its own
abbrev pub act_lent : LumberActRef → LumberAct
act_lent Nothing = owned.Nothing
act_lent (Stage origin text seq commit) = owned.Stage (record { origin = origin; text = text.now }) seq commit
act_lent CommitFirst = owned.CommitFirst
