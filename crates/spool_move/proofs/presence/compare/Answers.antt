use Rattle.std.proofs.Common.{◌≡◌, ◌<◌, ◌≤◌, List, [], get_or, length, sym, subst}
use Rattle.std.specs.Prelude.{Result, MatchResult}
use Rattle.std.proofs.lemmas.Bool.{both_ways}
use Rattle.spool_answers.specs.declared.numbered.Numbered.{Numbered}
use Rattle.spool_move.specs.declared.fault.MoveFault.{MoveFault}
use Rattle.spool_move.specs.declared.presence.Own.{Own}
use Rattle.spool_move.specs.Reading.{IsOwn, IsReading}
use Rattle.spool_move.proofs.Outside.{sure_pends}
use Rattle.spool_move.proofs.Looking.{reading_source, owned_same, owned_other, passed, not_owned}
use Rattle.spool_move.proofs.presence.compare.Goals as goal
use Rattle.spool_move.proofs.presence.compare.Goals.{in_default-2, in_default}

pub returns-in-Err-clause-found : goal.returns-in-Err-clause-found
returns-in-Err-clause-found g c = λ m tells held.
    let read = sure_pends m c.args.entry.now.index 1 _ _ _ held (c.in-Err.ensures.pends m [] tells held) in
    subst IsReading (sym c.of_source.ensures) (reading_source c.in-Err.fault read.pends)

pub returns-in-Err-clause-kept : goal.returns-in-Err-clause-kept
returns-in-Err-clause-kept g c = λ m tells held.
    let read = sure_pends m c.args.entry.now.index 1 _ _ _ held (c.in-Err.ensures.pends m [] tells held) in
    (read.reached, read.any_moment)

pub returns-then-is_same-clause-found : goal.returns-then-is_same-clause-found
returns-then-is_same-clause-found g c = λ m tells held.
    let read = sure_pends m c.args.entry.now.index 1 _ _ _ held (c.in-Ok.ensures.pends m [] tells held) in
    let given = c.in-Ok.given.items in
    let one = c.in-Some.own.now in
    let place = subst (λ (l : List Numbered). one ≡ get_or l 0 one) c.deref.ensures.value c.in-Some.ensures.item.1 in
    let some = subst (λ (l : List Numbered). 0 < length l) c.deref.ensures.value c.in-Some.ensures.item.3.0 in
    owned_same m c.args.entry.now given read.pends one place some c.if-own-entry.true (c.is_same.ensures.0 c.if-is_same.true)

pub returns-then-is_same-clause-kept : goal.returns-then-is_same-clause-kept
returns-then-is_same-clause-kept g c = λ m tells held.
    let read = sure_pends m c.args.entry.now.index 1 _ _ _ held (c.in-Ok.ensures.pends m [] tells held) in
    (read.reached, read.any_moment)

pub returns-in-Some-clause-found : goal.returns-in-Some-clause-found
returns-in-Some-clause-found g c = λ m tells held.
    let read = sure_pends m c.args.entry.now.index 1 _ _ _ held (c.in-Ok.ensures.pends m [] tells held) in
    let given = c.in-Ok.given.items in
    let one = c.in-Some.own.now in
    let place = subst (λ (l : List Numbered). one ≡ get_or l 0 one) c.deref.ensures.value c.in-Some.ensures.item.1 in
    let some = subst (λ (l : List Numbered). 0 < length l) c.deref.ensures.value c.in-Some.ensures.item.3.0 in
    owned_other m c.args.entry.now given read.pends one place some c.if-own-entry.true (λ same. both_ways c.is_same.result c.if-is_same.false (c.is_same.ensures.1 same))

pub returns-in-Some-clause-kept : goal.returns-in-Some-clause-kept
returns-in-Some-clause-kept g c = λ m tells held.
    let read = sure_pends m c.args.entry.now.index 1 _ _ _ held (c.in-Ok.ensures.pends m [] tells held) in
    (read.reached, read.any_moment)

pub returns-clause-found : goal.returns-clause-found
returns-clause-found g c = λ m tells held.
    let read = sure_pends m c.args.entry.now.index 1 _ _ _ held (c.in-Ok.ensures.pends m [] tells held) in
    let given = c.in-Ok.given.items in
    elim c.match-first.branch [
      | in_default-2 w ↦
          let one = w.in-Some.own.now in
          let place = subst (λ (l : List Numbered). one ≡ get_or l 0 one) c.deref.ensures.value w.in-Some.ensures.item.1 in
          let some = subst (λ (l : List Numbered). 0 < length l) c.deref.ensures.value w.in-Some.ensures.item.3.0 in
          subst (λ (r : Result Own MoveFault). MatchResult r (λ own. IsOwn m c.args.entry.now own) (λ fault. IsReading fault)) (sym w.result-is)
          (passed m c.args.entry.now given read.pends one place some w.if-own-entry.false)
      | in_default w ↦
          subst (λ (r : Result Own MoveFault). MatchResult r (λ own. IsOwn m c.args.entry.now own) (λ fault. IsReading fault)) (sym w.result-is)
          (not_owned m c.args.entry.now given read.pends (subst (λ (l : List Numbered). length l ≤ 0) c.deref.ensures.value (rw w.in_default.is at c.first.ensures.item).3))
    ]

pub returns-clause-kept : goal.returns-clause-kept
returns-clause-kept g c = λ m tells held.
    let read = sure_pends m c.args.entry.now.index 1 _ _ _ held (c.in-Ok.ensures.pends m [] tells held) in
    (read.reached, read.any_moment)
