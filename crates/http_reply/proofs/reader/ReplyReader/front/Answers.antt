use Rattle.std.proofs.Common.{◌≡◌, ◌<◌, ◌≤◌, ◌∙◌, ◌∷◌, List, length, get_or, drop, ap, sym, subst, Bor, Option, Some, None}
use Rattle.std.specs.Prelude.{MatchOption, IfSome}
use Rattle.std.proofs.lemmas.List.{drop_more}
use Rattle.http_reply.specs.declared.reply.HttpReply.{HttpReply}
use Rattle.http_reply.specs.Reading.{Reading}
use Rattle.http_reply.proofs.reader.ReplyReader.front.Goals as goal

-- an item that stands first
first : (xs : List HttpReply) (x : HttpReply) → 0 < length xs → x ≡ get_or xs 0 x → xs ≡ x ∷ drop 1 xs
first xs x some is = drop_more xs 0 x some ∙ ap (λ (y : HttpReply). y ∷ drop 1 xs) (sym is)

at_front : (xs : List HttpReply) (r : Option (Bor HttpReply)) (Q : Bor HttpReply → Type 0) → MatchOption r (length xs ≤ 0) (λ x. (0 < length xs) × Q x) → IfSome r (λ x. x.now ≡ get_or xs 0 x.now) → IfSome r (λ x. (more : List HttpReply) × (xs ≡ x.now ∷ more))
at_front xs None Q some is = tt
at_front xs (Some x) Q some is = (drop 1 xs, first xs x.now some.0 is)

pub returns-clause-some : goal.returns-clause-some
returns-clause-some c =
    subst (λ (r : Reading). IfSome c.front.result (λ reply. (more : List HttpReply) × (r.waiting ≡ reply.now ∷ more))) c.self.view_is
    (at_front c.self.inside.waiting.items c.front.result _ c.front.ensures.item.3 c.front.ensures.item.1)
