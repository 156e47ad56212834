-- What a piece does past the body of a request that is refused.
use Rattle.std.proofs.Common.{rules, ◌≡◌, ◌∙◌, ◌^◌, ℕ, Some, Ok, true, length, sym, ap, subst, refl, arith}
use Rattle.std.specs.Prelude.{IfOk}
use Rattle.http_edge.specs.declared.past.Past.{Past}
use Rattle.http_edge.specs.declared.past.Way.TheVariants.{Open, Whole, Bad}
use Rattle.http_edge.specs.Past.{Passes}
use Rattle.http_edge.specs.Reading.{Reading}
use Rattle.http_edge.proofs.HeldLaws.{none_some}
use Rattle.conn_serve.specs.declared.hec.intake.Intake.{Intake}
use Rattle.conn_serve.proofs.HecIntake.{open_of, fits_past, feeds_open, feeds_whole, feeds_faulty, feeds_starved, extent_more, extent_whole, extent_faulty, extent_same}
use Rattle.conn_serve.proofs.hec.intake.Intake.pass.Goals as goal

pub unreachable-requires : goal.unreachable-requires
unreachable-requires c = none_some _ c.requires.some (sym c.take.ensures.value ∙ c.in_default.is)

pub feed-requires : goal.feed-requires
feed-requires c =
    let now = c.args.self.now in
    let x = c.in-Some.refused in
    let e : now.refused ≡ Some x = sym c.take.ensures.value ∙ c.in-Some.is in
    fits_past now x (length c.args.piece.now) (2 ^ 40) e (open_of now.window now.refused x e c.requires.going).0 c.requires.fits

-- ---- more of the body is due

pub returns-in-Ok-Open-clause-feeds : goal.returns-in-Ok-Open-clause-feeds
returns-in-Ok-Open-clause-feeds c =
    let now = c.args.self.now in
    let x = c.in-Some.refused in
    let e : now.refused ≡ Some x = sym c.take.ensures.value ∙ c.in-Some.is in
    let still = open_of now.window now.refused x e c.requires.going in
    let p = c.feed.new.self in
    let is : c.feed.result ≡ Ok Open = search rules in
    let passes : Passes x.past c.args.piece.now Open p = subst (λ r. IfOk r (λ way. Passes x.past c.args.piece.now way p)) is c.feed.ensures.passes in
    feeds_open now (record now { refused = Some (record x { past = p }) }) x p c.args.piece.now e still.0 passes refl refl

pub returns-in-Ok-Open-clause-extent : goal.returns-in-Ok-Open-clause-extent
returns-in-Ok-Open-clause-extent c =
    let now = c.args.self.now in
    let x = c.in-Some.refused in
    let e : now.refused ≡ Some x = sym c.take.ensures.value ∙ c.in-Some.is in
    let still = open_of now.window now.refused x e c.requires.going in
    let p = c.feed.new.self in
    let is : c.feed.result ≡ Ok Open = search rules in
    let passes : Passes x.past c.args.piece.now Open p = subst (λ r. IfOk r (λ way. Passes x.past c.args.piece.now way p)) is c.feed.ensures.passes in
    extent_more now (record now { refused = Some (record x { past = p }) }) x p (length c.args.piece.now) e still.0 passes.4 refl

-- ---- the request ends

pub go_on-requires : goal.go_on-requires
go_on-requires c =
    let now = c.args.self.now in
    let x = c.in-Some.refused in
    let e : now.refused ≡ Some x = sym c.take.ensures.value ∙ c.in-Some.is in
    let still = open_of now.window now.refused x e c.requires.going in
    let p = c.feed.new.self in
    let is : c.feed.result ≡ Ok (Whole c.in-Ok-Whole.used c.in-Ok-Whole.end) = search rules in
    let passes : Passes x.past c.args.piece.now (Whole c.in-Ok-Whole.used c.in-Ok-Whole.end) p = subst (λ r. IfOk r (λ way. Passes x.past c.args.piece.now way p)) is c.feed.ensures.passes in
    record {
      begun = ap (λ (r : Reading). r.begun) still.1.0;
      unread = ap (λ (r : Reading). r.unread) still.1.0;
      place = omega (arith, passes.3, passes.2, fits_past now x (length c.args.piece.now) (2 ^ 40) e still.0 c.requires.fits);
    }

pub returns-in-Ok-Whole : goal.returns-in-Ok-Whole
returns-in-Ok-Whole c =
    let now = c.args.self.now in
    let x = c.in-Some.refused in
    let e : now.refused ≡ Some x = sym c.take.ensures.value ∙ c.in-Some.is in
    let still = open_of now.window now.refused x e c.requires.going in
    let p = c.feed.new.self in
    let used = c.in-Ok-Whole.used in
    let end = c.in-Ok-Whole.end in
    let is : c.feed.result ≡ Ok (Whole used end) = search rules in
    let passes : Passes x.past c.args.piece.now (Whole used end) p = subst (λ r. IfOk r (λ way. Passes x.past c.args.piece.now way p)) is c.feed.ensures.passes in
    let new : Intake = record now { window = c.go_on.new.self; refused = Some (record x { past = p; ended = true }) } in
    record {
      feeds = feeds_whole now new x p c.args.piece.now used end e still.0 still.1 passes c.go_on.ensures refl;
      within = passes.2;
      some = λ room more. passes.1;
      extent = extent_whole now new x p used end e still.0 still.1 passes.3 c.go_on.ensures refl;
      faulty = tt;
    }

-- ---- it has a fault

pub go_on-requires-in-Ok-Bad : goal.go_on-requires-in-Ok-Bad
go_on-requires-in-Ok-Bad c =
    let now = c.args.self.now in
    let x = c.in-Some.refused in
    let e : now.refused ≡ Some x = sym c.take.ensures.value ∙ c.in-Some.is in
    let still = open_of now.window now.refused x e c.requires.going in
    let p = c.feed.new.self in
    let is : c.feed.result ≡ Ok (Bad c.in-Ok-Bad.fault) = search rules in
    let passes : Passes x.past c.args.piece.now (Bad c.in-Ok-Bad.fault) p = subst (λ r. IfOk r (λ way. Passes x.past c.args.piece.now way p)) is c.feed.ensures.passes in
    record {
      begun = ap (λ (r : Reading). r.begun) still.1.0;
      unread = ap (λ (r : Reading). r.unread) still.1.0;
      place = omega (arith, c.at.ensures, ap (λ (y : Past). y.at) passes.0, fits_past now x (length c.args.piece.now) (2 ^ 40) e still.0 c.requires.fits);
    }

pub returns-in-Ok-Bad : goal.returns-in-Ok-Bad
returns-in-Ok-Bad c =
    let now = c.args.self.now in
    let x = c.in-Some.refused in
    let e : now.refused ≡ Some x = sym c.take.ensures.value ∙ c.in-Some.is in
    let still = open_of now.window now.refused x e c.requires.going in
    let p = c.feed.new.self in
    let fault = c.in-Ok-Bad.fault in
    let is : c.feed.result ≡ Ok (Bad fault) = search rules in
    let passes : Passes x.past c.args.piece.now (Bad fault) p = subst (λ r. IfOk r (λ way. Passes x.past c.args.piece.now way p)) is c.feed.ensures.passes in
    let w = c.go_on-in-Ok-Bad.new.self in
    let new : Intake = record now { window = w; refused = c.take.new.self } in
    let moved = subst (λ (n : ℕ). w ≡ record now.window { reading = record now.window.reading { at = n; fault = Some fault } }) c.at.ensures c.go_on-in-Ok-Bad.ensures in
    record {
      feeds = feeds_faulty now new x p c.args.piece.now fault e still.0 still.1 passes moved c.take.ensures.after;
      within = tt;
      some = tt;
      extent = tt;
      faulty = extent_faulty now new x p.at (length c.args.piece.now) fault e still.0 still.1 (ap (λ (y : Past). y.at) passes.0) moved c.take.ensures.after;
    }

-- ---- no memory was found

pub returns-in-Err : goal.returns-in-Err
returns-in-Err c =
    let now = c.args.self.now in
    let x = c.in-Some.refused in
    let e : now.refused ≡ Some x = sym c.take.ensures.value ∙ c.in-Some.is in
    let still = open_of now.window now.refused x e c.requires.going in
    let p = c.feed.new.self in
    let new : Intake = record now { refused = Some (record x { past = p }) } in
    let same : new.refused ≡ now.refused = ap (λ (y : Past). Some (record x { past = y })) c.in-Err.ensures.stays ∙ sym e in
    record {
      feeds = feeds_starved now new x c.args.piece.now e still.0 refl same;
      within = tt;
      some = tt;
      extent = tt;
      faulty = extent_same now new (length c.args.piece.now) refl same;
    }
