-- A reply that is taken from the reader.
use Rattle.std.proofs.Common.{◌≡◌, ℕ, ◌+◌, ◌∙◌, List, [], ◌∷◌, ◌++◌, refl, sym, ap, subst}
use Rattle.std.specs.Prelude.{Option, Some, None, IfNone, option_to_list}
use Rattle.http_edge.specs.declared.fault.HttpFault.{HttpFault}
use Rattle.http_reply.specs.declared.reply.HttpReply.{HttpReply}
use Rattle.http_reply.specs.Reading.{Reading, Reads, come}
use Rattle.hec_sender.specs.declared.stop.Stop.{Stop}
use Rattle.hec_sender.specs.Progress.{Progress, Takes, TakesAll}
use Rattle.hec_sender.specs.Sends.{HasRead}

-- ---- the reply that was taken from a reader

pub record Took (old : Reading) (reply : HttpReply) (new : Reading) : Type 0 where
  pub reads : (fed : List ℕ) (taken : List HttpReply) → Reads fed taken old → Reads fed (taken ++ reply ∷ []) new
  pub same : new ≡ record old { waiting = new.waiting }

same_head : (x y : HttpReply) (xs ys : List HttpReply) → x ∷ xs ≡ y ∷ ys → x ≡ y
same_head x y xs ys e = cc

pub took : (old new : Reading) (result : Option HttpReply) (reply : HttpReply) (more : List HttpReply) → old.waiting ≡ reply ∷ more → old.waiting ≡ option_to_list result ++ new.waiting → IfNone result (old.waiting ≡ [])
    → new ≡ record old { waiting = new.waiting } → ((fed : List ℕ) (taken : List HttpReply) → Reads fed taken old → Reads fed (taken ++ option_to_list result) new) → Took old reply new
took old new None reply more next gives none same reads = absurd (let e : reply ∷ more ≡ [] = sym next ∙ none in cc)
took old new (Some r) reply more next gives none same reads =
    let is : r ≡ reply = sym (same_head reply r more new.waiting (sym next ∙ gives)) in
    record { reads = subst (λ (x : HttpReply). (fed : List ℕ) (taken : List HttpReply) → Reads fed taken old → Reads fed (taken ++ x ∷ []) new) is reads; same = same }

pub same_fault : (old new : Reading) (reply : HttpReply) (fault : Option HttpFault) → Took old reply new → fault ≡ old.fault → fault ≡ new.fault
same_fault old new reply fault t is = is ∙ sym (ap (λ (r : Reading). r.fault) t.same)

pub came : (old new : Reading) (reply : HttpReply) → Took old reply new → new.at + come new ≡ old.at + come old
came old new reply t = ap (λ (r : Reading). r.at + come r) t.same

-- ---- what was read

pub read_of : (polls : ℕ) (r : Reading) (p : Progress) (fed : List ℕ) (taken : List HttpReply) (how : Option Stop) → how ≡ None → HasRead polls r p fed taken how → Reads fed taken r
read_of polls r p fed taken how goes h = subst (HasRead polls r p fed taken) goes h

pub has_read : (polls : ℕ) (r : Reading) (p : Progress) (fed : List ℕ) (taken : List HttpReply) (how : Option Stop) → how ≡ None → Reads fed taken r → HasRead polls r p fed taken how
has_read polls r p fed taken how goes h = subst (HasRead polls r p fed taken) (sym goes) h

pub takes_then : (polls : ℕ) (p : Progress) (replies : List HttpReply) (q : Progress) (reply : HttpReply) (r : Progress) → TakesAll polls p replies q → Takes polls q reply r → TakesAll polls p (replies ++ reply ∷ []) r
takes_then polls p [] q reply r all one = (r, subst (λ (x : Progress). Takes polls x reply r) all one, refl)
takes_then polls p (x ∷ replies) q reply r all one = (all.0, all.1, takes_then polls all.0 replies q reply r all.2 one)
