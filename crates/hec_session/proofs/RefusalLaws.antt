-- What the checks before the body find, they find whatever it is.
use Rattle.std.proofs.Common.{◌≡◌, ℕ, List, Result, None, Ok, Err, sym, ap, ◌∙◌, subst}
use Rattle.http_edge.specs.declared.head.Head.{Head}
use Rattle.http_edge.specs.Waits.{with_body}
use Rattle.hec_session.specs.declared.act.HecAct.TheVariants.{Say}
use Rattle.hec_session.specs.declared.code.HecCode.{HecCode}
use Rattle.hec_session.specs.declared.say.HecSay.{HecSay}
use Rattle.hec_session.specs.declared.stop.Stop.{Stop}
use Rattle.hec_session.specs.declared.stop.Stop.TheVariants.{Answer}
use Rattle.hec_session.specs.declared.task.Task.{Task}
use Rattle.hec_session.specs.declared.tokens.Tokens.{Tokens}
use Rattle.hec_session.specs.Acts.{Finds, IsActFor, IsRefusal, WantsBody}
use Rattle.hec_session.specs.Checks.{task_of}
use Rattle.hec_session.specs.Codes.{say_of}

-- no check looks at the body, nor at the version
same_task : (tokens : Tokens) (head : Head) (m t other body : List ℕ) → m ≡ head.method → t ≡ head.target
    → task_of tokens (record { method = m; target = t; minor = 1; fields = head.fields; body = other }) ≡ task_of tokens (with_body head body)
same_task tokens head m t other body em et = λ i. task_of tokens (record { method = em i; target = et i; minor = 1; fields = head.fields; body = other })

found_err : (check : Result Task HecCode) (r : Result Task Stop) (code : HecCode) → Finds check r → r ≡ Err (Answer code) → check ≡ Err code
found_err check r code f e = subst (Finds check) e f

found_ok : (check : Result Task HecCode) (r : Result Task Stop) (task : Task) → Finds check r → r ≡ Ok task → check ≡ Ok task
found_ok check r task f e = subst (Finds check) e f

pub is_refusal : (tokens : Tokens) (head : Head) (m t other : List ℕ) (r : Result Task Stop) (code : HecCode) (say : HecSay) → m ≡ head.method → t ≡ head.target
    → Finds (task_of tokens (record { method = m; target = t; minor = 1; fields = head.fields; body = other })) r → r ≡ Err (Answer code) → say ≡ say_of code None → IsRefusal tokens head say
is_refusal tokens head m t other r code say em et f e s body =
    subst (λ (task : Result Task HecCode). IsActFor body task (Say say)) (sym (found_err _ r code f e) ∙ same_task tokens head m t other body em et) (ap (λ (x : HecSay). Say x) s)

pub wants_body : (tokens : Tokens) (head : Head) (m t other : List ℕ) (r : Result Task Stop) (task : Task) → m ≡ head.method → t ≡ head.target
    → Finds (task_of tokens (record { method = m; target = t; minor = 1; fields = head.fields; body = other })) r → r ≡ Ok task → WantsBody tokens head
wants_body tokens head m t other r task em et f e = (task, λ body. sym (same_task tokens head m t other body em et) ∙ found_ok _ r task f e)
