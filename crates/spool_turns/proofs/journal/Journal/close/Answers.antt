use Rattle.std.proofs.Common.{rules, ◌≡◌, ℕ, List, ◌++◌, ◌∷◌, [], All, refl, sym, ap, ◌∙◌, subst, append_assoc, arith}
use Rattle.std.proofs.lemmas.List.{nil_from_length, append-nil}
use Rattle.std.proofs.lemmas.List.Elements.{All-cons}
use Rattle.std.specs.Prelude.{option_to_list, None, MatchOption, vec_len, ◌+◌, ◌-◌, ◌≤◌}
use Rattle.spool_log.specs.State.{view}
use Rattle.desk_access.specs.Call.{Record, own_of}
use Rattle.spool_desk.specs.Alone.{alone_at}
use Rattle.desk_access.specs.Legal.{Met}
use Rattle.desk_seats.specs.Passes.{Known, Stands}
use Rattle.spool_turns.specs.Passes.{locked_of, facts_in}
use Rattle.spool_turns.specs.Replays.{Replays, desk_at}
use Rattle.spool_turns.specs.Stands.{with_ids}
use Rattle.spool_turns.proofs.Led.{replays_told}
use Rattle.spool_turns.proofs.Closing.{adds_legal, each_may, each_own, new_ids, keeps, left_before, by_a_pass}
use Rattle.spool_turns.proofs.journal.Journal.close.Goals as goal

pub loop-pass-preserved : goal.loop-pass-preserved
loop-pass-preserved g c =
    let i = c.loop-pass.invariant in
    let h = c.check_pass.ensures in
    let pass = c.in-Some.pass in
    let is : (facts_in c.loop-pass.locked.me.0).log ≡ c.args.self = i.1.1 in
    let stands : Stands c.args.self pass = subst (λ (x : List Record × Known). Stands x.0 x.1) (λ k. (is k, c.pass.view_is k)) (h.knew.seen, h.knew.own) in
    let items = i.2.1 ∙ ap (λ l. l ++ i.2.0) (c.pop.ensures.items ∙ ap (λ o. c.pop.new.self.items ++ option_to_list o) c.in-Some.is) ∙ append_assoc c.pop.new.self.items (pass ∷ []) i.2.0 in
    (h.same.0 ∙ i.0, (h.same.1 ∙ i.1.0 ∙ sym (ap (λ m. locked_of (facts_in m.0)) h.same.1), ap (λ m. (facts_in m.0).log) h.same.1 ∙ is), (pass ∷ i.2.0, items, All-cons (Stands c.args.self) pass i.2.0 stands i.2.2))

pub returns : goal.returns
returns g c =
    let i = c.loop-pass.invariant in
    let v = c.self.invariant in
    let is = c.self.view_is in
    let none = subst (λ o. MatchOption o ((vec_len c.loop-pass.passes ≡ 0) × (vec_len c.pop.new.self ≡ 0)) (λ _. vec_len c.pop.new.self + 1 ≡ vec_len c.loop-pass.passes)) c.in_default.is c.pop.ensures.cases in
    let empty : c.loop-pass.passes.items ≡ [] = nil_from_length c.loop-pass.passes.items (search (rules, none.0, c.loop-pass.passes.ok.0)) in
    let all : i.2.0 ≡ c.args.passes.items = sym (i.2.1 ∙ ap (λ l. l ++ i.2.0) empty) in
    let k = v.2 in
    let d = c.into_desk-spool.ensures in
    let same = (c.meet.ensures.same c.args.turn.alone k.desk k.twin_is c.args.turn.twin_is).0 in
    let whole = d ∙ ap (λ a. a.desk) same in
    let replays = replays_told g.D.Disk.tells g.J.Naming.start g.J.Naming.run g.J.Naming.began c.args.self (with_ids c.self.inside.ids None (alone_at k.desk)) (desk_at (record { spool = c.into_desk-spool.result.spool; ids = c.self.inside.ids }))
    (λ j. view (whole j).spool.memory (whole j).spool.doubt (g.D.Disk.moment (whole j).spool.disk)) refl (omega arith) (omega arith)
    (subst (λ (l : List Record). Replays g.D.Disk.tells g.J.Naming.start g.J.Naming.run g.J.Naming.began l (with_ids c.self.inside.ids None (alone_at k.desk))) is k.replays) in
    let met = subst (Met g.J.Naming.run (g.J.Naming.seats - 1) []) is k.met in
    let none_other : (n : ℕ) → g.J.Naming.seats ≤ n → own_of n c.args.self ≡ [] = λ n le. ap (own_of n) (sym is) ∙ c.check_numbers.ensures.none n (subst (λ k. k ≤ n) (sym v.2.turn.made) le) in
    record {
      replays = replays;
      met = met;
      each = λ n. each_may _ _ n c.args.self met;
      legal = adds_legal _ _ _ _ _ _ _ replays met;
      own = each_own _ _ _ _ _ _ _ replays met;
      issued = new_ids _ _ _ _ _ _ replays;
      kept = keeps _ _ _ _ _ _ _ replays met;
      was = left_before _ _ _ _ _ _ replays;
      pass = subst (All (Stands c.args.self)) all i.2.2;
      no_others = none_other;
      by_passes = by_a_pass g.J.Naming.seats c.args.self c.args.passes.items none_other;
    }

pub loop-pass-init : goal.loop-pass-init
loop-pass-init g c =
    let v = c.self.invariant in
    let l = c.check_numbers.ensures.same in (
      l.0 ∙ v.0,
      (l.1 ∙ v.2.turn.locked ∙ sym (ap (λ m. locked_of (facts_in m.0)) l.1), ap (λ m. (facts_in m.0).log) l.1 ∙ c.self.view_is),
      ([], sym (append-nil c.args.passes.items), (λ k d lt. absurd (omega arith))),
    )

pub meet-requires-clause-tables : goal.meet-requires-clause-tables
meet-requires-clause-tables g c = (c.self.invariant.1 ∙ sym c.requires.tables.2, c.args.turn.twin_table ∙ sym c.requires.tables.2, c.requires.tables.3)

pub meet-requires-clause-views : goal.meet-requires-clause-views
meet-requires-clause-views g c = ((c.self.invariant.2.desk, c.self.invariant.2.twin_is), (c.args.turn.alone, c.args.turn.twin_is))
