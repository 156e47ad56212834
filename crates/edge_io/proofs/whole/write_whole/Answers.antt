use Rattle.std.proofs.Common.{◌≡◌, ℕ, List, ◌++◌, ◌-◌, ◌∙◌, length, take, drop, refl, sym, ap, subst, arith, length-drop}
use Rattle.std.proofs.lemmas.List.{length-take}
use Rattle.std.proofs.lemmas.List.{take_rest, take-append-drop}
use Rattle.edge_io.specs.Told.{MayFollow}
use Rattle.edge_io.proofs.Known.{appends_on, may_follow_on}
use Rattle.edge_io.proofs.whole.write_whole.Goals as goal

pub loop-sent-preserved : goal.loop-sent-preserved
loop-sent-preserved g c =
    let piece = c.args.piece.now in
    let few = c.in-Ok.ensures.bound in record {
      in_range = omega (arith, few, length-take {A = ℕ}, length-drop {A = ℕ});
      so_far = appends_on _ _ _ piece c.loop-sent.sent c.in-Ok.n c.loop-sent.invariant.so_far c.in-Ok.ensures.taken;
      quiet = c.in-Ok.ensures.cause.quiet refl ∙ c.loop-sent.invariant.quiet;
      same = g.K.Object.same_trans _ _ _ c.loop-sent.invariant.same c.in-Ok.ensures.same;
      apart = g.met.K.Sink.apart_trans _ _ _ c.loop-sent.invariant.apart c.in-Ok.ensures.apart;
    }

pub write-requires : goal.write-requires
write-requires g c =
    let piece = c.args.piece.now in
    let l = c.loop-sent in
    let rest : take (length piece - l.sent) (drop l.sent piece) ≡ drop l.sent piece = take_rest piece l.sent in
    let whole : take l.sent piece ++ take (length piece - l.sent) (drop l.sent piece) ≡ piece = ap (λ (r : List ℕ). take l.sent piece ++ r) rest ∙ take-append-drop l.sent piece in
    record {
      permitted = may_follow_on (g.K.Sink.permits c.args.sink.now) (g.K.Sink.permits l.sink) _ _ (take l.sent piece) _ (g.met.K.Sink.permits_last _ _ l.invariant.apart) l.invariant.so_far
          (subst (λ (t : List ℕ). MayFollow (g.K.Sink.permits c.args.sink.now) (g.K.Sink.taken c.args.sink.now) t) (sym whole) c.requires.permitted);
    }
