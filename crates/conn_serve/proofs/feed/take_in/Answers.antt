use Rattle.std.proofs.Common.{◌≡◌, ◌∙◌, ◌-◌, ◌+◌, ◌≤◌, ℕ, List, ◌++◌, length, take, drop, refl, sym, ap, subst, arith, length-drop, take_all}
use Rattle.std.proofs.lemmas.List.{length-take-le, take-append-drop}
use Rattle.std.proofs.Math.Seq.{take-add}
use Rattle.conn_serve.specs.Done.{Anyway, SoFar}
use Rattle.conn_serve.proofs.Feeding.{on_start, on_fed, on_then, on_halts, on_is, goes_as, halts_as}
use Rattle.conn_serve.proofs.Leading.{so_far_fed, so_far_less, so_far_then}
use Rattle.conn_serve.proofs.Faults.{counts_fine, counts_passed, err_of, quiet_fine}
use Rattle.conn_serve.specs.Says.{CouldEnd}
use Rattle.conn_serve.proofs.Saying.{says_as, says_on}
use Rattle.conn_serve.proofs.feed.take_in.Goals as goal

pub loop-fed-init : goal.loop-fed-init
loop-fed-init g c = record {
  done = on_start _ _ _ _ (g.met.A.Access.ran_none _);
  within = omega arith;
  so_far = so_far_less _ _ _ _ (omega arith) c.requires.so_far;
  idle = c.requires.idle;
  extent = omega arith;
  same_number = refl;
  same_terms = refl;
  may = c.requires.may;
  writes = refl;
  same = g.L.Object.same_refl _;
  apart = g.met.L.Sink.apart_refl _;
}

pub serve-requires-clause-so_far : goal.serve-requires-clause-so_far
serve-requires-clause-so_far g c =
    let l = c.loop-fed in
    let inv = l.invariant in
    let piece = c.args.piece.now in
    let number = c.args.connection.now.number in
    let rest = drop l.fed piece in
    let left : take (length piece - l.fed) rest ≡ rest = take_all (length piece - l.fed) rest (omega (arith, length-drop l.fed piece)) in
    let n = c.feed-fed.result in
    let within : n ≤ length rest = omega (arith, c.feed-fed.ensures.within, ap length left) in
    let on = λ (b : List ℕ) (cs : _) (t : List ℕ) (s : _). subst (λ (v : List ℕ). g.S.Session.served number c.feed-fed.new.self (b ++ take n v) cs t) left (c.feed-fed.ensures.fed number b cs t s) in
    subst (λ (k : ℕ). SoFar (g.S.Session.served k c.feed-fed.new.self) l.connection.taken 0) (sym inv.same_number)
    (so_far_fed _ _ 0 (take n rest) (g.S.Session.served number l.session) _ on (omega (arith, length-take-le n rest within, length-drop l.fed piece, inv.within, within)) inv.so_far)

pub serve-requires-clause-says : goal.serve-requires-clause-says
serve-requires-clause-says g c =
    let l = c.loop-fed in
    let inv = l.invariant in
    let piece = c.args.piece.now in
    let number = c.args.connection.now.number in
    let rest = drop l.fed piece in
    let left : take (length piece - l.fed) rest ≡ rest = take_all (length piece - l.fed) rest (omega (arith, length-drop l.fed piece)) in
    let n = c.feed-fed.result in
    let on = λ (b : List ℕ) (cs : _) (t : List ℕ) (s : _). subst (λ (v : List ℕ). g.S.Session.served number c.feed-fed.new.self (b ++ take n v) cs t) left (c.feed-fed.ensures.fed number b cs t s) in
    let from = g.S.Session.served number c.args.session.now in
    let mid = g.S.Session.served number c.feed-fed.new.self in
    let fed = on_fed _ _ _ _ _ (take l.fed piece) (take n rest) from (g.S.Session.served number l.session) mid on inv.done in
    let parts : (take l.fed piece ++ take n rest) ++ drop (l.fed + n) piece ≡ piece = ap (λ (v : List ℕ). v ++ drop (l.fed + n) piece) (sym (take-add l.fed n piece)) ∙ take-append-drop (l.fed + n) piece in
    says_as g.A.Access.ran l.access (g.L.Sink.permits l.link) (g.L.Sink.taken l.link) l.connection.taken (λ k. g.S.Session.served k c.feed-fed.new.self) (λ t k. CouldEnd (g.S.Session.carried t k)) _ _ _ _ inv.same_number (c.feed-fed.ensures.terms ∙ inv.same_terms)
    (says_on g.A.Access.ran c.args.access.now l.access g.met.A.Access.ran_more (g.L.Sink.permits c.args.link.now) (g.L.Sink.permits l.link) (g.L.Sink.taken c.args.link.now) (g.L.Sink.taken l.link) (g.met.L.Sink.permits_last _ _ inv.apart)
    (g.S.Session.carried (g.S.Session.terms c.args.session.now) number) _ _ (take l.fed piece ++ take n rest) (drop (l.fed + n) piece) piece parts from mid fed c.requires.says)

pub loop-fed-preserved : goal.loop-fed-preserved
loop-fed-preserved g c =
    let l = c.loop-fed in
    let inv = l.invariant in
    let piece = c.args.piece.now in
    let number = c.args.connection.now.number in
    let rest = drop l.fed piece in
    let left : take (length piece - l.fed) rest ≡ rest = take_all (length piece - l.fed) rest (omega (arith, length-drop l.fed piece)) in
    let n = c.feed-fed.result in
    let within : n ≤ length rest = omega (arith, c.feed-fed.ensures.within, ap length left) in
    let on = λ (b : List ℕ) (cs : _) (t : List ℕ) (s : _). subst (λ (v : List ℕ). g.S.Session.served number c.feed-fed.new.self (b ++ take n v) cs t) left (c.feed-fed.ensures.fed number b cs t s) in
    let call = c.in_ok-serve.ensures in
    let goes = goes_as _ _ _ _ _ _ number (λ k. g.S.Session.served k c.feed-fed.new.self) (λ k. g.S.Session.served k c.serve.new.self) inv.same_number call.goes in
    let from = g.S.Session.served number c.args.session.now in
    let mid = g.S.Session.served number c.feed-fed.new.self in
    let to = g.S.Session.served number c.serve.new.self in
    let fed = on_fed _ _ _ _ _ (take l.fed piece) (take n rest) from (g.S.Session.served number l.session) mid on inv.done in
    let so_far = so_far_fed _ _ (length piece - (l.fed + n)) (take n rest) (g.S.Session.served number l.session) (g.S.Session.served number c.feed-fed.new.self) on (omega (arith, length-take-le n rest within, length-drop l.fed piece, inv.within, within)) inv.so_far in
    record {
      done = on_is _ _ _ _ _ (take l.fed piece ++ take n rest) (take (l.fed + n) piece) from to (sym (take-add l.fed n piece)) (on_then _ _ _ _ _ _ _ _ _
          (take l.fed piece ++ take n rest) from mid to (λ xs ys p q. g.met.A.Access.ran_more _ _ _ xs ys p q) fed goes);
      within = omega (arith, within, length-drop l.fed piece, inv.within);
      so_far = so_far_then _ _ _ _ _ _ _ _ so_far goes;
      idle = call.idle;
      extent = omega (arith, inv.extent, c.feed-fed.ensures.extent, call.extent);
      same_number = call.number ∙ inv.same_number;
      same_terms = call.terms ∙ c.feed-fed.ensures.terms ∙ inv.same_terms;
      may = rw (← inv.same_number) call.may;
      writes = quiet_fine _ _ _ _ _ call.writes ∙ inv.writes;
      same = g.L.Object.same_trans _ _ _ inv.same call.same;
      apart = g.met.L.Sink.apart_trans _ _ _ inv.apart call.apart;
    }

pub returns-clause-goes : goal.returns-clause-goes
returns-clause-goes g c =
    let l = c.loop-fed in
    let all : take l.fed c.args.piece.now ≡ c.args.piece.now = take_all l.fed c.args.piece.now (omega arith) in
    on_is _ _ _ _ _ (take l.fed c.args.piece.now) c.args.piece.now (g.S.Session.served c.args.connection.now.number c.args.session.now) (g.S.Session.served c.args.connection.now.number l.session) all l.invariant.done

pub returns-clause-writes : goal.returns-clause-writes
returns-clause-writes g c = counts_fine _ _ _ _ _ c.loop-fed.invariant.writes

pub returns-clause-bytes : goal.returns-clause-bytes
returns-clause-bytes g c = λ i. (c.type_inv.piece i).fits

pub returns-in_err-serve : goal.returns-in_err-serve
returns-in_err-serve g c =
    let l = c.loop-fed in
    let inv = l.invariant in
    let piece = c.args.piece.now in
    let number = c.args.connection.now.number in
    let rest = drop l.fed piece in
    let left : take (length piece - l.fed) rest ≡ rest = take_all (length piece - l.fed) rest (omega (arith, length-drop l.fed piece)) in
    let n = c.feed-fed.result in
    let on = λ (b : List ℕ) (cs : _) (t : List ℕ) (s : _). subst (λ (v : List ℕ). g.S.Session.served number c.feed-fed.new.self (b ++ take n v) cs t) left (c.feed-fed.ensures.fed number b cs t s) in
    let call = c.in_err-serve.ensures in
    let talk = c.in_err-serve.field-0.0 in
    let terms = g.S.Session.terms c.args.session.now in
    let from = g.S.Session.served number c.args.session.now in
    let mid = g.S.Session.served number c.feed-fed.new.self in
    let halts = halts_as _ _ _ _ _ _ terms mid (λ t. Anyway (g.S.Session.carried t number) talk) (c.feed-fed.ensures.terms ∙ inv.same_terms)
    (goes_as _ _ _ _ _ _ number (λ k. g.S.Session.served k c.feed-fed.new.self) (λ k. Anyway (g.S.Session.carried (g.S.Session.terms c.feed-fed.new.self) k) talk) inv.same_number call.halts) in
    let fed = on_fed _ _ _ _ _ (take l.fed piece) (take n rest) from (g.S.Session.served number l.session) mid on inv.done in
    rw (err_of c.from_residual.result talk c.from_residual.ensures.1)
    (record {
      goes = tt;
      halts = (on_halts _ _ _ _ _ (take l.fed piece ++ take n rest) (drop (l.fed + n) piece) piece from (g.S.Session.carried terms number) talk (ap (λ (v : List ℕ). v ++ drop (l.fed + n) piece)
          (sym (take-add l.fed n piece)) ∙ take-append-drop (l.fed + n) piece) (on_then _ _ _ _ _ _ _ _ _ (take l.fed piece ++ take n rest) from mid (Anyway (g.S.Session.carried terms number) talk)
          (λ xs ys p q. g.met.A.Access.ran_more _ _ _ xs ys p q) fed halts));
      bytes = λ i. (c.type_inv.piece i).fits;
      only = call.only;
      idle = tt;
      extent = tt;
      terms = tt;
      number = call.number ∙ inv.same_number;
      may = tt;
      writes = counts_passed _ _ _ _ _ _ _ inv.writes call.writes;
      same = g.L.Object.same_trans _ _ _ inv.same call.same;
      apart = g.met.L.Sink.apart_trans _ _ _ inv.apart call.apart;
    })

pub returns-clause-halts : goal.returns-clause-halts
returns-clause-halts g c = tt

pub returns-clause-only : goal.returns-clause-only
returns-clause-only g c = tt

pub returns-clause-idle : goal.returns-clause-idle
returns-clause-idle g c = c.loop-fed.invariant.idle

pub returns-clause-terms : goal.returns-clause-terms
returns-clause-terms g c = c.loop-fed.invariant.same_terms

pub returns-clause-number : goal.returns-clause-number
returns-clause-number g c = c.loop-fed.invariant.same_number

pub returns-clause-may : goal.returns-clause-may
returns-clause-may g c = c.loop-fed.invariant.may

pub returns-clause-same : goal.returns-clause-same
returns-clause-same g c = c.loop-fed.invariant.same

pub returns-clause-apart : goal.returns-clause-apart
returns-clause-apart g c = c.loop-fed.invariant.apart
