-- The frame begins in the piece.
use Rattle.std.proofs.Common.{◌≡◌, ◌++◌, ◌-◌, ◌∙◌, drop, take, take_all, length, length-drop, sym, subst, arith}
use Rattle.std.specs.Prelude.{IfSome}
use Rattle.lumber_frame.specs.declared.field.Whole.TheVariants.{Json}
use Rattle.lumber_frame.specs.declared.side.Side.TheVariants.{Receiver}
use Rattle.lumber_frame.specs.Running.{Ended}
use Rattle.lumber_frame.proofs.JsonLaws.{drop_back}
use Rattle.lumber_frame.proofs.json.json_at.Goals as goal

pub returns : goal.returns
returns c =
    let a = c.args.held.now in
    let b = c.args.piece.now in
    let n = c.args.begin in
    let rest = drop (n - length a) b in
    let all : take (length b - (n - length a)) rest ≡ rest = take_all (length b - (n - length a)) rest (omega (arith, length-drop (n - length a) b)) in
    let joined : drop n (a ++ b) ≡ take (length b - (n - length a)) rest = drop_back a b n c.if-begin-held.false ∙ sym all in
    let found = subst (λ v. IfSome c.first_json.result (λ r. Ended Receiver v (Json r.0) r.1)) (sym joined) c.first_json.ensures in
    subst (λ s. IfSome c.first_json.result (λ r. Ended s (drop n (a ++ b)) (Json r.0) r.1)) (sym c.in-Receiver.is) found
