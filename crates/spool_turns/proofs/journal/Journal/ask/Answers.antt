use Rattle.std.proofs.Common.{refl, sym, ◌∙◌, subst}
use Rattle.hec_ids.specs.Rows.{Asks}
use Rattle.spool_turns.proofs.OtherIds.{run_asked}
use Rattle.spool_turns.proofs.Kept.{idle_kept, idle_pass, idle_calls, idle_real}
use Rattle.spool_turns.proofs.Closing.{told_stored, asked_held}
use Rattle.spool_turns.proofs.journal.Journal.ask.Goals as goal

pub invariant_of-self : goal.invariant_of-self
invariant_of-self g c =
    let i = c.self.invariant in
    let e = c.enter_idle.ensures in
    (e.tables.0 ∙ i.0, i.1, idle_kept _ _ _ _ _ _ _ _ _ _ _ i.2 tt e.knew refl (run_asked c.self.inside.ids c.ask.new.self c.args.channel c.args.ids.now c.ask.new.known c.ask.ensures) (λ x met same leaving. (c.ask.new.self, subst (λ t. Asks t c.args.channel c.args.ids.now c.ask.new.known c.ask.new.self) (sym same) c.ask.ensures, leaving)) (g.met.D.Disk.lawful _) _ e.locked, i.3)

pub invariant_of-pass : goal.invariant_of-pass
invariant_of-pass g c =
    let i = c.self.invariant in
    let e = c.enter_idle.ensures in
    let after = idle_pass _ _ _ _ _ _ _ _ _ _ _ i.2 tt e.knew refl (run_asked c.self.inside.ids c.ask.new.self c.args.channel c.args.ids.now c.ask.new.known c.ask.ensures) (λ x met same leaving. (c.ask.new.self, subst (λ t. Asks t c.args.channel c.args.ids.now c.ask.new.known c.ask.new.self) (sym same) c.ask.ensures, leaving)) (g.met.D.Disk.lawful _) _ e.pass in
    (e.tables.1 ∙ c.pass.invariant.0, after.0, after.1, after.2 ∙ c.pass.invariant.3, c.pass.invariant.4, after.3 ∙ c.pass.invariant.5)

pub returns-clause-call : goal.returns-clause-call
returns-clause-call g c =
    let i = c.self.invariant in
    let e = c.enter_idle.ensures in
    idle_calls _ _ _ _ _ _ _ _ _ _ _ i.2 tt e.knew refl (run_asked c.self.inside.ids c.ask.new.self c.args.channel c.args.ids.now c.ask.new.known c.ask.ensures) (λ x met same leaving. (c.ask.new.self, subst (λ t. Asks t c.args.channel c.args.ids.now c.ask.new.known c.ask.new.self) (sym same) c.ask.ensures, leaving)) (g.met.D.Disk.lawful _) _ _ c.pass.view_is e.pass

pub returns-clause-real : goal.returns-clause-real
returns-clause-real g c =
    let i = c.self.invariant in
    let e = c.enter_idle.ensures in
    idle_real _ _ _ _ _ _ _ _ _ _ _ i.2 tt e.knew refl (run_asked c.self.inside.ids c.ask.new.self c.args.channel c.args.ids.now c.ask.new.known c.ask.ensures) (λ x met same leaving. (c.ask.new.self, subst (λ t. Asks t c.args.channel c.args.ids.now c.ask.new.known c.ask.new.self) (sym same) c.ask.ensures, leaving)) (g.met.D.Disk.lawful _) _ e.pass

pub returns-clause-stored : goal.returns-clause-stored
returns-clause-stored g c = λ x s. told_stored g.D.Disk.tells g.J.Naming.start g.J.Naming.run g.J.Naming.seats _ _ _ _ _ (returns-clause-call g c) x s (c.self.invariant.2.replays.begins x s)

pub returns-clause-held : goal.returns-clause-held
returns-clause-held g c = λ x s. asked_held g.J.Naming.start g.J.Naming.run g.J.Naming.seats _ _ _ _ _ (returns-clause-call g c) x s
