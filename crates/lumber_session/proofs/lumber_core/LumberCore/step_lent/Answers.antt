-- A lent frame's act, and what is counted after it.
use Rattle.std.proofs.Common.{false, true, sym, subst}
use Rattle.lumber_frame.specs.declared.frame.LumberFrame.TheVariants.{Window, Pairs, Json}
use Rattle.lumber_session.specs.Acts.{Tells}
use Rattle.lumber_session.proofs.CountLaws.{tells_next, window_next, window_behind, pairs_data, json_data, data_next, data_behind}
use Rattle.lumber_session.proofs.lumber_core.LumberCore.step_lent.Goals as goal

pub returns-then-begin_window-clause-act : goal.returns-then-begin_window-clause-act
returns-then-begin_window-clause-act c = rw c.in-Window.is (λ frames b.
    let n = window_next frames c.in-Window.size c.args.self.now c.begin_window.new.self true b c.requires.ready c.if-begin_window.ensures in
    tells_next frames c.args.self.now b (Window c.in-Window.size) true n)

pub returns-then-begin_window-clause-behind : goal.returns-then-begin_window-clause-behind
returns-then-begin_window-clause-behind c = rw c.in-Window.is (λ frames b.
    window_behind frames c.in-Window.size c.args.self.now c.begin_window.new.self c.begin_window.result b c.requires.ready c.begin_window.ensures)

pub returns-else-begin_window-clause-act : goal.returns-else-begin_window-clause-act
returns-else-begin_window-clause-act c = rw c.in-Window.is (λ frames b.
    let n = window_next frames c.in-Window.size c.args.self.now c.begin_window.new.self false b c.requires.ready c.if-begin_window.ensures in
    tells_next frames c.args.self.now b (Window c.in-Window.size) false n)

pub returns-else-begin_window-clause-behind : goal.returns-else-begin_window-clause-behind
returns-else-begin_window-clause-behind c = rw c.in-Window.is (λ frames b.
    window_behind frames c.in-Window.size c.args.self.now c.begin_window.new.self c.begin_window.result b c.requires.ready c.begin_window.ensures)

pub returns-in-Pairs-clause-act : goal.returns-in-Pairs-clause-act
returns-in-Pairs-clause-act c = rw c.in-Pairs.is (λ frames b.
    let f = Pairs c.in-Pairs.seq c.in-Pairs.text.now in
    let d = pairs_data c.in-Pairs.seq c.in-Pairs.text.now in
    let new = c.stage_lent.new.self in
    let n = data_next frames c.args.self.now new f _ new.due b c.requires.ready d c.stage_lent.ensures.counted in
    subst (Tells frames f) (sym c.stage_lent.ensures.stage) (tells_next frames c.args.self.now b f new.due n))

pub returns-in-Pairs-clause-behind : goal.returns-in-Pairs-clause-behind
returns-in-Pairs-clause-behind c = rw c.in-Pairs.is (λ frames b.
    let new = c.stage_lent.new.self in
    data_behind frames c.args.self.now new (Pairs c.in-Pairs.seq c.in-Pairs.text.now) _ new.due b c.requires.ready (pairs_data c.in-Pairs.seq c.in-Pairs.text.now) c.stage_lent.ensures.counted)

pub returns-in-Json-clause-act : goal.returns-in-Json-clause-act
returns-in-Json-clause-act c = rw c.in-Json.is (λ frames b.
    let f = Json c.in-Json.seq c.in-Json.text.now in
    let d = json_data c.in-Json.seq c.in-Json.text.now in
    let new = c.stage_lent-in-Json.new.self in
    let n = data_next frames c.args.self.now new f _ new.due b c.requires.ready d c.stage_lent-in-Json.ensures.counted in
    subst (Tells frames f) (sym c.stage_lent-in-Json.ensures.stage) (tells_next frames c.args.self.now b f new.due n))

pub returns-in-Json-clause-behind : goal.returns-in-Json-clause-behind
returns-in-Json-clause-behind c = rw c.in-Json.is (λ frames b.
    let new = c.stage_lent-in-Json.new.self in
    data_behind frames c.args.self.now new (Json c.in-Json.seq c.in-Json.text.now) _ new.due b c.requires.ready (json_data c.in-Json.seq c.in-Json.text.now) c.stage_lent-in-Json.ensures.counted)
