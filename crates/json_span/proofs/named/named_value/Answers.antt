-- The walk's steps and its exits.
use Rattle.std.proofs.Common.{◌≡◌, true, subst}
use Rattle.json_span.specs.Members.{IsObjectAt}
use Rattle.json_span.specs.declared.span.Span.{Span}
use Rattle.json_span.specs.declared.named.Next.{Next}
use Rattle.json_span.specs.declared.named.Next.TheVariants.{Another, End}
use Rattle.json_span.proofs.NamedLaws.{Walked, none_anyhow, walk_starts, walk_on, walk_has, walk_object, no_brace, no_member, no_next}
use Rattle.json_span.proofs.named.named_value.Goals as goal

pub returns-then-not-stands_at-clause-none : goal.returns-then-not-stands_at-clause-none
returns-then-not-stands_at-clause-none c = λ object o.
    let s = c.after_space-start in
    no_brace c.args.bytes.now c.args.at s.result object s.ensures.spaces s.ensures.stops (λ p. let t : c.stands_at.result ≡ true = c.stands_at.ensures.1 p in absurd cc) o

pub loop-next-init : goal.loop-next-init
loop-next-init c =
    let p = c.stands_at.ensures.0 c.if-not-stands_at.false in
    walk_starts c.args.bytes.now c.after_space-start.result c.args.name.now c.first_item-next.result p.1 c.first_item-next.ensures

pub returns-in_err-member-in-Another-clause-none : goal.returns-in_err-member-in-Another-clause-none
returns-in_err-member-in-Another-clause-none c =
    let b = c.args.bytes.now in
    let s = c.after_space-start in
    let l = c.loop-next in
    let place = c.in-Another.place in
    let w : Walked b s.result c.args.name.now (Another place) l.value = subst (λ (n : Next). Walked b s.result c.args.name.now n l.value) c.in-Another.is l.invariant in
    none_anyhow c.from_residual.result ((object : Span) → IsObjectAt b c.args.at object → ⊥)
    (λ object o. no_member b c.args.at s.result c.args.name.now place l.value object s.ensures.spaces s.ensures.stops w c.in_err-member-in-Another.ensures.none o)

pub returns-in_err-next-in-Another-clause-none : goal.returns-in_err-next-in-Another-clause-none
returns-in_err-next-in-Another-clause-none c =
    let b = c.args.bytes.now in
    let s = c.after_space-start in
    let l = c.loop-next in
    let place = c.in-Another.place in
    let m = c.in_ok-member-in-Another in
    let w : Walked b s.result c.args.name.now (Another place) l.value = subst (λ (n : Next). Walked b s.result c.args.name.now n l.value) c.in-Another.is l.invariant in
    none_anyhow c.from_residual-in_err-next-in-Another.result ((object : Span) → IsObjectAt b c.args.at object → ⊥)
    (λ object o. no_next b c.args.at s.result c.args.name.now place l.value m.member object s.ensures.spaces s.ensures.stops w m.ensures.begins m.ensures.some m.ensures.longest c.in_err-next-in-Another.ensures.none o)

pub loop-next-preserved : goal.loop-next-preserved
loop-next-preserved c =
    let b = c.args.bytes.now in
    let s = c.after_space-start in
    let l = c.loop-next in
    let place = c.in-Another.place in
    let m = c.in_ok-member-in-Another in
    let w : Walked b s.result c.args.name.now (Another place) l.value = subst (λ (n : Next). Walked b s.result c.args.name.now n l.value) c.in-Another.is l.invariant in
    walk_on b s.result c.args.name.now place c.in_ok-next-in-Another.next l.value c.chosen_with-value.result m.member w m.ensures.begins m.ensures.some m.ensures.longest c.in_ok-next-in-Another.ensures.some c.chosen_with-value.ensures

pub returns-in-End-clause-object : goal.returns-in-End-clause-object
returns-in-End-clause-object c =
    let b = c.args.bytes.now in
    let s = c.after_space-start in
    let l = c.loop-next in
    let w : Walked b s.result c.args.name.now (End c.in-End.end) l.value = subst (λ (n : Next). Walked b s.result c.args.name.now n l.value) c.in-End.is l.invariant in
    walk_object b c.args.at s.result c.args.name.now c.in-End.end l.value s.ensures.spaces w

pub returns-in-End-clause-value : goal.returns-in-End-clause-value
returns-in-End-clause-value c =
    let b = c.args.bytes.now in
    let s = c.after_space-start in
    let l = c.loop-next in
    let w : Walked b s.result c.args.name.now (End c.in-End.end) l.value = subst (λ (n : Next). Walked b s.result c.args.name.now n l.value) c.in-End.is l.invariant in
    walk_has b s.result c.args.name.now c.in-End.end l.value w
