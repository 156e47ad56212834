use Rattle.std.proofs.Common.{◌≡◌, ◌<◌, length, None, Some, subst, arith}
use Rattle.std.proofs.lemmas.Grind.{common_steps}
use Rattle.std.specs.Option.{option_to_list}
use Rattle.std.specs.Io.KnownBytes.{Consumes}
use Rattle.proxy_head.specs.declared.head.Reading.TheVariants.{Whole as WholeHead}
use Rattle.edge_net.proofs.Streams.{consumes_nothing, nothing_begins, whole_head, no_head, cut_head}
use Rattle.edge_net.proofs.heading.read_within.Goals as goal

pub loop-count-init : goal.loop-count-init
loop-count-init g c = record { taken = consumes_nothing (g.S.Read.remaining c.args.stream.now); few = nothing_begins }

pub returns-in_default-count : goal.returns-in_default-count
returns-in_default-count g c =
    let inside : c.loop-count.count < length c.loop-count.bytes = omega arith in
    let none : c.in_ok-byte.field-0 ≡ None = grind arith in
    cut_head _ (g.S.Read.remaining c.loop-count.stream) (g.S.Read.remaining c.next_byte.new.stream) c.loop-count.bytes c.loop-count.count inside (omega arith) c.loop-count.invariant.taken
    (subst (λ o. Consumes (g.S.Read.remaining c.loop-count.stream) (g.S.Read.remaining c.next_byte.new.stream) (option_to_list o)) none c.in_ok-byte.ensures.bytes)
    c.loop-count.invariant.few (c.in_ok-byte.ensures.end none)

pub returns-in-Ok-Whole : goal.returns-in-Ok-Whole
returns-in-Ok-Whole g c =
    let inside : c.loop-count.count < length c.loop-count.bytes = omega arith in
    let some : c.in_ok-byte.field-0 ≡ Some c.in-Some.byte = grind arith in
    let whole : c.in-Ok-Whole.field-0 ≡ WholeHead c.in-Ok-Whole.head = grind arith in
    whole_head _ (g.S.Read.remaining c.loop-count.stream) (g.S.Read.remaining c.next_byte.new.stream) c.loop-count.bytes c.loop-count.count c.in-Some.byte _ c.in-Ok-Whole.field-0 c.in-Ok-Whole.head inside c.loop-count.invariant.taken
    (subst (λ o. Consumes (g.S.Read.remaining c.loop-count.stream) (g.S.Read.remaining c.next_byte.new.stream) (option_to_list o)) some c.in_ok-byte.ensures.bytes)
    c.loop-count.invariant.few c.in-Ok-Whole.ensures whole (grind (arith, common_steps))

pub returns-in-Err : goal.returns-in-Err
returns-in-Err g c =
    let inside : c.loop-count.count < length c.loop-count.bytes = omega arith in
    let some : c.in_ok-byte.field-0 ≡ Some c.in-Some.byte = grind arith in
    no_head _ (g.S.Read.remaining c.loop-count.stream) (g.S.Read.remaining c.next_byte.new.stream) c.loop-count.bytes c.loop-count.count c.in-Some.byte _ c.in-Err.fault inside c.loop-count.invariant.taken
    (subst (λ o. Consumes (g.S.Read.remaining c.loop-count.stream) (g.S.Read.remaining c.next_byte.new.stream) (option_to_list o)) some c.in_ok-byte.ensures.bytes)
    c.loop-count.invariant.few c.in-Err.ensures (grind (arith, common_steps))
