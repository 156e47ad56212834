use Rattle.std.proofs.Common.{rules, vec_len, ◌≡◌, true, List, ℕ, ◌∷◌, ◌++◌, [], length, sym, ◌∙◌, ap, subst, arith, inl, length-append}
use Rattle.std.specs.List.{All}
use Rattle.std.proofs.lemmas.Bool.{eqb-true}
use Rattle.std.proofs.lemmas.List.Elements.{All-push}
use Rattle.hec_body.specs.Limits.{IsShort}
use Rattle.hec_body.specs.Events.{BeginsObject, BeginsEvents}
use Rattle.hec_body.proofs.EventLaws.{begins_more, behind_shorter, white, white_passes}
use Rattle.hec_body.proofs.events.event_pieces.Goals as goal

pub loop-object-preserved : goal.loop-object-preserved
loop-object-preserved c =
    let items : c.push.new.self.items ≡ c.loop-object.pieces.items ++ c.in-Some.object.text.now ∷ [] = search rules in
    let object : BeginsObject c.loop-object.rest.now c.in-Some.object.text.now c.in-Some.object.rest.now = search rules in
    let event = c.in_ok-judge.ensures.event in
    let count : c.len.result ≡ length c.loop-object.pieces.items = search rules in
    let room : c.len.result ≡ 10000 → ⊥ = c.if-len-eq-MOST_EVENTS.false in
    record {
      begins = subst (λ (z : List (List ℕ)). BeginsEvents c.args.body.now z c.in-Some.object.rest.now) (sym items) (begins_more c.args.body.now c.loop-object.pieces.items c.loop-object.rest.now c.in-Some.object.text.now c.in-Some.object.rest.now c.loop-object.invariant.begins object event);
      few = omega (arith, ap length items, length-append c.loop-object.pieces.items (c.in-Some.object.text.now ∷ []), c.loop-object.invariant.few);
      short = subst (All IsShort) (sym items) (All-push IsShort c.loop-object.pieces.items c.in-Some.object.text.now c.loop-object.invariant.short event.0);
      bounded = omega (arith, ap length items, length-append c.loop-object.pieces.items (c.in-Some.object.text.now ∷ []), c.loop-object.invariant.bounded, behind_shorter c.loop-object.rest.now c.in-Some.object.text.now c.in-Some.object.rest.now object);
    }

pub returns-then-not-is_white_space-clause-fault : goal.returns-then-not-is_white_space-clause-fault
returns-then-not-is_white_space-clause-fault c = record {
  texts = c.loop-object.pieces.items;
  rest = c.loop-object.rest.now;
  begins = c.loop-object.invariant.begins;
  few = c.loop-object.invariant.few;
  fault_is = inl (
    search rules,
    (
      (λ spaces.
          let passes : c.is_white_space.result ≡ true = c.is_white_space.ensures ∙ white_passes c.loop-object.rest.now spaces in
          cc),
      c.in_default.ensures.none,
    ),
  );
}

pub returns-then-is_empty-clause-fault : goal.returns-then-is_empty-clause-fault
returns-then-is_empty-clause-fault c = let long : vec_len c.loop-object.pieces ≡ length c.loop-object.pieces.items = search rules in record {
  texts = c.loop-object.pieces.items;
  rest = c.loop-object.rest.now;
  begins = c.loop-object.invariant.begins;
  few = c.loop-object.invariant.few;
  fault_is = (sym long ∙ eqb-true (vec_len c.loop-object.pieces) 0 (sym c.is_empty.ensures ∙ c.if-is_empty.true), white c.loop-object.rest.now (sym c.is_white_space.ensures ∙ c.if-not-is_white_space.false));
}

pub returns-clause-events : goal.returns-clause-events
returns-clause-events c = (c.loop-object.rest.now, c.loop-object.invariant.begins, white c.loop-object.rest.now (sym c.is_white_space.ensures ∙ c.if-not-is_white_space.false))
