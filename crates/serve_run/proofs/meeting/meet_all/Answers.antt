use Rattle.std.proofs.Common.{◌≡◌, ◌<◌, ◌++◌, ◌∷◌, [], List, arith, length, map, take, set, get_or, subst, sym, ap, ◌∙◌, refl}
use Rattle.std.proofs.lemmas.List.{map_push, take_more, take_all, set-get_or}
use Rattle.desk_seats.specs.Passes.{Known}
use Rattle.serve_run.specs.Running.{HasMet}
use Rattle.serve_run.proofs.Seeing.{met_none, met_more}
use Rattle.serve_run.proofs.meeting.meet_all.Goals as goal

pub loop-i-init : goal.loop-i-init
loop-i-init g c = record { met = met_none (g.S.Seat.knows c.args.seat.now); items = refl; len = refl; capacity = refl }

pub loop-i-preserved : goal.loop-i-preserved
loop-i-preserved g c =
    let know = g.S.Seat.pass_knows in
    let knows = g.S.Seat.knows in
    let kept = c.loop-i.invariant in
    let others = c.args.others.now.items in
    let other = c.index_mut.result.now in
    let lt : c.loop-i.i < length others = omega (arith, c.len-i-end.ensures, c.args.others.now.ok.0) in
    let at : other ≡ get_or others c.loop-i.i other = c.index_mut.ensures.value ∙ ap (λ l. get_or l c.loop-i.i other) kept.items in
    let more = take_more others c.loop-i.i other lt ∙ ap (λ o. take c.loop-i.i others ++ o ∷ []) (sym at) in
    record {
      met = subst (λ (l : List Known). HasMet l (knows c.args.seat.now) (knows c.meet.new.self)) (sym (ap (map know) more ∙ map_push know (take c.loop-i.i others) other))
          (met_more (map know (take c.loop-i.i others)) (know other) (knows c.args.seat.now) (knows c.loop-i.seat) (knows c.meet.new.self) kept.met c.meet.ensures.first c.meet.ensures.second c.meet.ensures.own);
      items = ap (set c.loop-i.others.items c.loop-i.i) (c.meet.ensures.other ∙ c.index_mut.ensures.value) ∙ set-get_or c.loop-i.others.items c.loop-i.i other ∙ kept.items;
      len = kept.len;
      capacity = kept.capacity;
    }

pub returns : goal.returns
returns g c =
    let kept = c.loop-i.invariant in
    let all = take_all c.loop-i.i c.args.others.now.items (omega (arith, c.len-i-end.ensures, c.args.others.now.ok.0)) in
    record {
      met = subst (λ (l : List Known). HasMet l (g.S.Seat.knows c.args.seat.now) (g.S.Seat.knows c.loop-i.seat)) (ap (map g.S.Seat.pass_knows) all) kept.met;
      same = (kept.items, kept.len, kept.capacity);
    }
