-- A request has one act.
use Rattle.std.specs.Prelude.{◌≡◌}
use Rattle.http_edge.specs.declared.request.HttpRequest.{HttpRequest}
use Rattle.hec_session.specs.declared.act.HecAct.{HecAct}
use Rattle.hec_session.specs.declared.act.HecAct.TheVariants.{StoreThenSay, SayThenStore, Ask, Say}
use Rattle.hec_session.specs.declared.tokens.Tokens.{Tokens}
use Rattle.hec_session.specs.Acts.{IsAct}

-- the acts store the same events, ask for the same ids, or say the same
abbrev pub AreAlike : HecAct → HecAct → Type 0
AreAlike (StoreThenSay events) (StoreThenSay others) = events.items ≡ others.items
AreAlike (SayThenStore channel events) (SayThenStore other others) = (channel ≡ other) × (events.items ≡ others.items)
AreAlike (Ask channel ids) (Ask other others) = (channel ≡ other) × (ids.items ≡ others.items)
AreAlike (Say say) (Say other) = say ≡ other
AreAlike act other = ⊥

-- What is done for a request is determined by it and by the tokens.
abbrev pub OneAct : Type 0
OneAct = (tokens : Tokens) (r : HttpRequest) (act other : HecAct) → IsAct tokens r act → IsAct tokens r other → AreAlike act other
