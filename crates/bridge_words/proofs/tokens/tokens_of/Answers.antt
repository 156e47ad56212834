use Rattle.std.proofs.Common.{◌≡◌, ◌∙◌, ◌+◌, ◌<◌, [], List, length, sym, subst, arith, drop}
use Rattle.hec_tokens.specs.declared.list.ListedToken.{ListedToken}
use Rattle.bridge_words.specs.Tokens.{tokens_of}
use Rattle.bridge_words.proofs.Listed.{after, texts, begun, turn}
use Rattle.bridge_words.proofs.tokens.tokens_of.Goals as goal

pub loop-line-init : goal.loop-line-init
loop-line-init c =
    let none : c.new-tokens.result.items ≡ [] = c.new-tokens.ensures.items in
    subst (λ (l : List ListedToken). tokens_of (texts c.args.lines.now) ≡ after l (tokens_of (texts c.args.lines.now))) (sym none) (begun _)

pub loop-line-preserved : goal.loop-line-preserved
loop-line-preserved c =
    let lines = c.args.lines.now in
    let i = c.loop-line.line-index in
    let less : i < length lines = omega (arith, c.loop-line-test.true) in
    let read = turn lines i c.loop-line.tokens.items c.loop-line.invariant _ c.in-Some.token less (sym c.token_at.ensures ∙ c.in-Some.is) in
    subst (λ (l : List ListedToken). tokens_of (texts lines) ≡ after l (tokens_of (texts (drop (i + 1) lines)))) (sym c.in_ok-push.ensures.items) read
