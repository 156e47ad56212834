use Rattle.std.proofs.Common.{◌≡◌, rules, sym, ◌∙◌}
use Rattle.proxy_head.specs.declared.head.Family.TheVariants.{V4, V6}
use Rattle.proxy_head.specs.Line.{name_of}
use Rattle.proxy_head.proofs.WordLaws.{fault_in_words}
use Rattle.proxy_head.proofs.words.told.Goals.{then-eq, else-eq+then-eq-2}
use Rattle.proxy_head.proofs.words.told.Goals as goal

pub returns-in-Err : goal.returns-in-Err
returns-in-Err c =
    elim c.if-eq.branch [
      | then-eq w ↦
          let named : c.split.result.0.now ≡ name_of V4 = search rules in
          fault_in_words c.args.text.now c.split.result.1.now V4 c.if-eq.family c.in-Err.fault w.family-is c.split.ensures.rest (sym c.split.ensures.word ∙ named) c.in-Err.ensures
      | else-eq+then-eq-2 w ↦
          let named : c.split.result.0.now ≡ name_of V6 = search rules in
          fault_in_words c.args.text.now c.split.result.1.now V6 c.if-eq.family c.in-Err.fault w.family-is c.split.ensures.rest (sym c.split.ensures.word ∙ named) c.in-Err.ensures
    ]
