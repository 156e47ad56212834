-- What is after a whole head.
use Rattle.std.proofs.Common.{◌-◌, ◌∙◌}
use Rattle.http_edge.proofs.GatherLaws.{count_got}
use Rattle.http_edge.proofs.NextLaws.{into_bad, into_part, into_whole}
use Rattle.http_edge.proofs.next.next_body.Goals as goal

pub returns-in-Whole-clause-next : goal.returns-in-Whole-clause-next
returns-in-Whole-clause-next c = λ b i e.
    let x = c.gather-used in
    let g = x.ensures.gathers in
    let n = count_got c.args.bytes.now.items x.new.bytes.items g.got c.len.result c.len-before.result g.added (c.len.ensures ∙ x.new.bytes.ok.0) (c.len-before.ensures ∙ c.args.bytes.now.ok.0) in
    into_whole b c.args.bytes.now.items x.new.bytes.items c.args.after.now c.args.opening x.result (c.len.result - c.len-before.result) i e g c.in-Whole.is n

pub returns-in-Open-clause-next : goal.returns-in-Open-clause-next
returns-in-Open-clause-next c = λ b i e.
    let x = c.gather-used in
    let g = x.ensures.gathers in
    let n = count_got c.args.bytes.now.items x.new.bytes.items g.got c.len.result c.len-before.result g.added (c.len.ensures ∙ x.new.bytes.ok.0) (c.len-before.ensures ∙ c.args.bytes.now.ok.0) in
    into_part b c.args.bytes.now.items x.new.bytes.items c.args.after.now c.args.opening x.result (c.len.result - c.len-before.result) c.in-Open.stage i e g c.in-Open.is n

pub returns-in-Bad-clause-next : goal.returns-in-Bad-clause-next
returns-in-Bad-clause-next c = λ b i e.
    let x = c.gather-used in
    into_bad b c.args.bytes.now.items x.new.bytes.items c.args.after.now c.args.opening x.result c.in-Bad.why c.place.result i e x.ensures.gathers c.in-Bad.is c.place.ensures
