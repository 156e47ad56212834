use Rattle.std.specs.Io.KnownBytes.{Appends}
use Rattle.std.proofs.Common.{◌≡◌, ℕ, List, ◌++◌, [], ◌∷◌, ◌∙◌, refl, sym, ap, subst, arith}
use Rattle.std.specs.Prelude.{Option, Some, None, Ok, IfSome, IfNone}
use Rattle.edge_io.specs.Told.{IsFresh, IsToldAs, MayFollow}
use Rattle.edge_io.specs.Door.{TakesLink, SameLinks, StaysPermitted}
use Rattle.notes.specs.Notes.{status_of}
use Rattle.serve_workers.specs.Served.{links_as}
use Rattle.serve_workers.proofs.Joining.{at_door_of, tells_none}
use Rattle.serve_workers.proofs.Linking.{link_of, tells_one, link_done, idle_at_door}
use Rattle.serve_workers.proofs.worker.serve_next.Goals as goal

at_some : {X : Type 0} (o : Option X) (x : X) (P : X → Type 0) → o ≡ Some x → IfSome o P → P x
at_some o x P is p = subst (λ (q : Option _). IfSome q P) is p

at_none : {X : Type 0} (o : Option X) (P : Type 0) → o ≡ None → IfNone o P → P
at_none o P is p = subst (λ (q : Option _). IfNone q P) is p

pub returns-in-Ok-clause-serves : goal.returns-in-Ok-clause-serves
returns-in-Ok-clause-serves g c =
    let told = g.P.Door.told in
    let old = told c.args.door.now in
    let between = told c.accept.new.self in
    let new = told c.give_back.new.self in
    let link = c.in-Ok-Some.link in
    let fresh = at_some _ link (λ l. IsFresh old.talks (g.P.L.Source.given l) (g.P.L.Sink.taken l) (g.P.L.Source.left l)) c.in-Ok-Some.field-0-is c.in-Ok-Some.ensures.fresh in
    let takes = at_some _ link (λ _. TakesLink old between) c.in-Ok-Some.field-0-is c.in-Ok-Some.ensures.link in
    let rest = c.accept.ensures.rest in
    let served = c.attend-attended.ensures in
    let back = c.in-Ok.ensures in
    let attended = c.attend-attended.result in
    let s = served.carried in
    let status = c.status-status.ensures ∙ ap status_of c.of_talk.ensures in
    let one = link_of c.args.conn (g.P.L.Source.left c.attend-attended.new.link) s.calls s.bytes s.text attended.talk in
    let tells = tells_one c.args.rules.now c.args.conn _ old between new _ _ _ _ _ _ _ attended fresh rest s status back.adds in (
      one,
      at_door_of c.args.rules.now c.args.conn old new _ (links_as (one ∷ []) [])
          (link_done c.args.rules.now c.args.conn old between new _ _ _ _ _ _ _ attended _ _ _ _ (one ∷ []) takes rest s served.reads served.writes back.reads back.writes back.rest tells),
      back.rest.accept_faults ∙ c.in-Ok-Some.ensures.cause.quiet refl,
    )

pub returns-in-Ok-None-clause-stops : goal.returns-in-Ok-None-clause-stops
returns-in-Ok-None-clause-stops g c =
    let told = g.P.Door.told in
    let old = told c.args.door.now in
    let new = told c.accept.new.self in
    let shut = at_none _ (IsToldAs old.waiting 0 × SameLinks old new) c.in-Ok-None.field-0-is c.in-Ok-None.ensures.shut in
    record {
      late = [];
      at_door = idle_at_door c.args.rules.now c.args.conn old new _ (g.met.A.Access.ran_none c.args.access.now) shut.1.waiting shut.1.accepted c.accept.ensures.rest;
      ends = (refl, subst (λ o. IsToldAs o 0) (sym shut.1.waiting) shut.0);
      accept_faults = record { later = c.accept.ensures.cause.later; cause = λ is. absurd (cc); quiet = λ none. c.in-Ok-None.ensures.cause.quiet refl };
    }

pub returns-in-Err-clause-stops : goal.returns-in-Err-clause-stops
returns-in-Err-clause-stops g c =
    let told = g.P.Door.told in
    let old = told c.args.door.now in
    let new = told c.accept.new.self in
    record {
      late = [];
      at_door = idle_at_door c.args.rules.now c.args.conn old new _ (g.met.A.Access.ran_none c.args.access.now) c.in-Err.ensures.err.waiting c.in-Err.ensures.err.accepted c.accept.ensures.rest;
      ends = refl;
      accept_faults = record { later = c.accept.ensures.cause.later; cause = λ is. c.in-Err.ensures.cause.failed refl; quiet = λ other. absurd (other refl) };
    }

pub returns-in-Err-give_back-clause-stops : goal.returns-in-Err-give_back-clause-stops
returns-in-Err-give_back-clause-stops g c =
    let told = g.P.Door.told in
    let old = told c.args.door.now in
    let between = told c.accept.new.self in
    let new = told c.give_back.new.self in
    let link = c.in-Ok-Some.link in
    let takes = at_some _ link (λ _. TakesLink old between) c.in-Ok-Some.field-0-is c.in-Ok-Some.ensures.link in
    let rest = c.accept.ensures.rest in
    let served = c.attend-attended.ensures in
    let back = c.in-Err-give_back.ensures in
    let attended = c.attend-attended.result in
    let s = served.carried in
    let one = link_of c.args.conn (g.P.L.Source.left c.attend-attended.new.link) s.calls s.bytes s.text attended.talk in
    let tells = tells_none c.args.rules.now old.talks new.talks (back.err ∙ rest.talks) in
    let same = back.rest.accept_faults ∙ c.in-Ok-Some.ensures.cause.quiet refl in
    record {
      late = one ∷ [];
      at_door = at_door_of c.args.rules.now c.args.conn old new _ (links_as [] (one ∷ []))
          (link_done c.args.rules.now c.args.conn old between new _ _ _ _ _ _ _ attended _ _ _ _ [] takes rest s served.reads served.writes back.reads back.writes back.rest tells);
      ends = refl;
      accept_faults = record { later = omega (arith, same); cause = λ is. absurd (cc); quiet = λ none. same };
    }

-- to a new link a text may be written that may stand alone
fresh_follows : {A : Type 0} (told : Option A) (given taken left : Option (List ℕ)) (P : List ℕ → Type 0) (text : List ℕ) → IsFresh told given taken left → P text → MayFollow P taken text
fresh_follows None given None left P text fresh may = tt
fresh_follows None given (Some ws) left P text fresh may = subst (λ (l : List ℕ). P (l ++ text)) (sym fresh.1) may
fresh_follows (Some list) given taken left P text fresh may = subst (λ (o : Option (List ℕ)). MayFollow P o text) (sym fresh.1) may

pub attend-attended-requires-clause-says : goal.attend-attended-requires-clause-says
attend-attended-requires-clause-says g c =
    let old = g.P.Door.told c.args.door.now in
    let link = c.in-Ok-Some.link in
    let fresh = at_some _ link (λ l. IsFresh old.talks (g.P.L.Source.given l) (g.P.L.Sink.taken l) (g.P.L.Source.left l)) c.in-Ok-Some.field-0-is c.in-Ok-Some.ensures.fresh in
    let permits = at_some _ link (λ l. (now : _) (read text : List ℕ) → g.P.L.Object.same l now → Appends (g.P.L.Source.given l) (g.P.L.Source.given now) read
    → g.P.Door.permits c.args.door.now 0 read text → g.P.L.Sink.permits now text) c.in-Ok-Some.field-0-is c.in-Ok-Some.ensures.permits in
    λ read bytes same given now calls text made is. fresh_follows old.talks _ _ _ (g.P.L.Sink.permits read) text fresh (permits read bytes text same given (c.requires.says bytes now calls text made is))

pub returns-in-Ok-clause-stays : goal.returns-in-Ok-clause-stays
returns-in-Ok-clause-stays g c =
    let stays = subst (λ o. StaysPermitted (Ok o) (g.P.Door.permits c.args.door.now) (g.P.Door.permits c.accept.new.self)) c.in-Ok-Some.field-0-is c.in-Ok-Some.ensures.stays in
    λ k read text may. c.in-Ok.ensures.stays k read text (stays k read text may)

pub attend-attended-requires-clause-may : goal.attend-attended-requires-clause-may
attend-attended-requires-clause-may g c = c.requires.may

-- each clause speaks of one of the two ends alone

pub returns-in-Ok-clause-stops : goal.returns-in-Ok-clause-stops
returns-in-Ok-clause-stops g c = tt

pub returns-in-Ok-None-clause-serves : goal.returns-in-Ok-None-clause-serves
returns-in-Ok-None-clause-serves g c = tt

pub returns-in-Ok-None-clause-stays : goal.returns-in-Ok-None-clause-stays
returns-in-Ok-None-clause-stays g c = tt

pub returns-in-Err-clause-serves : goal.returns-in-Err-clause-serves
returns-in-Err-clause-serves g c = tt

pub returns-in-Err-clause-stays : goal.returns-in-Err-clause-stays
returns-in-Err-clause-stays g c = tt

pub returns-in-Err-give_back-clause-serves : goal.returns-in-Err-give_back-clause-serves
returns-in-Err-give_back-clause-serves g c = tt

pub returns-in-Err-give_back-clause-stays : goal.returns-in-Err-give_back-clause-stays
returns-in-Err-give_back-clause-stays g c = tt
