-- A piece is taken in, part by part.
use Rattle.std.proofs.Common.{◌≡◌, ◌∙◌, ℕ, List, [], ◌++◌, Option, sym, ap, subst, arith, append_assoc}
use Rattle.std.proofs.lemmas.List.{append-nil}
use Rattle.edge_io.proofs.Known.{appends_none}
use Rattle.event_form.specs.declared.talk.Talk.{Talk}
use Rattle.desk_access.specs.Call.{Call}
use Rattle.conn_serve.specs.Done.{Done, Leads, LeadsOn, Anyway}
use Rattle.conn_serve.proofs.Leading.{leads_start, done_then, done_map}

-- none of it is taken in
pub on_start : (ran : List Call → Type 0) (w : Option (List ℕ)) (n : ℕ) (From : List ℕ → List Call → List ℕ → Type 0) → ran [] → Done ran w w n n (LeadsOn n [] From From)
on_start ran w n From none = record {
  calls = [];
  text = [];
  made = none;
  wrote = appends_none w;
  counted = omega arith;
  is = λ fed called said counted from. subst (λ (l : List ℕ). From l (called ++ []) (said ++ [])) (sym (append-nil fed)) (leads_start n From fed called said counted from);
}

-- a part more is fed
pub on_fed : (ran : List Call → Type 0) (w w' : Option (List ℕ)) (n n' : ℕ) (piece part : List ℕ) (From To To' : List ℕ → List Call → List ℕ → Type 0)
    → ((fed : List ℕ) (calls : List Call) (text : List ℕ) → To fed calls text → To' (fed ++ part) calls text) → Done ran w w' n n' (LeadsOn n piece From To) → Done ran w w' n n' (LeadsOn n (piece ++ part) From To')
on_fed ran w w' n n' piece part From To To' on d =
    done_map ran w w' n n' (LeadsOn n piece From To) (LeadsOn n (piece ++ part) From To') d
    (λ calls text leads fed called said counted from. subst (λ (l : List ℕ). To' l (called ++ calls) (said ++ text)) (append_assoc fed piece part) (on (fed ++ piece) (called ++ calls) (said ++ text) (leads fed called said counted from)))

-- what is whole is served
pub on_then : (first second both : List Call → Type 0) (u v w : Option (List ℕ)) (l m n : ℕ) (piece : List ℕ) (From Mid To : List ℕ → List Call → List ℕ → Type 0)
    → ((xs ys : List Call) → first xs → second ys → both (xs ++ ys)) → Done first u v l m (LeadsOn l piece From Mid) → Done second v w m n (Leads m Mid To) → Done both u w l n (LeadsOn l piece From To)
on_then first second both u v w l m n piece From Mid To join d e =
    done_map both u w l n (Leads l From (λ fed. To (fed ++ piece))) (LeadsOn l piece From To)
    (done_then first second both u v w l m n From (λ fed. Mid (fed ++ piece)) (λ fed. To (fed ++ piece)) join d
    (done_map second v w m n (Leads m Mid To) (Leads m (λ fed. Mid (fed ++ piece)) (λ fed. To (fed ++ piece))) e (λ calls text leads fed called said counted mid. leads (fed ++ piece) called said counted mid)))
    (λ calls text leads. leads)

-- the connection ends at a part of the piece
pub on_halts : (ran : List Call → Type 0) (w w' : Option (List ℕ)) (n n' : ℕ) (part more piece : List ℕ) (From : List ℕ → List Call → List ℕ → Type 0) (Carried : Option (List ℕ) → List ℕ → List Call → List ℕ → Talk → Type 0) (talk : Talk)
    → part ++ more ≡ piece → Done ran w w' n n' (LeadsOn n part From (Anyway Carried talk)) → Done ran w w' n n' (LeadsOn n piece From (λ fed calls text. (left : Option (List ℕ)) → Carried left fed calls text talk))
on_halts ran w w' n n' part more piece From Carried talk is d =
    done_map ran w w' n n' (LeadsOn n part From (Anyway Carried talk)) (LeadsOn n piece From (λ fed calls text. (left : Option (List ℕ)) → Carried left fed calls text talk)) d
    (λ calls text leads fed called said counted from left.
    subst (λ (l : List ℕ). Carried left l (called ++ calls) (said ++ text) talk) (append_assoc fed part more ∙ ap (λ (l : List ℕ). fed ++ l) is) (leads fed called said counted from left more))

-- by another spelling of the piece
pub on_is : (ran : List Call → Type 0) (w w' : Option (List ℕ)) (n n' : ℕ) (p q : List ℕ) (From To : List ℕ → List Call → List ℕ → Type 0) → p ≡ q → Done ran w w' n n' (LeadsOn n p From To) → Done ran w w' n n' (LeadsOn n q From To)
on_is ran w w' n n' p q From To is d = subst (λ (l : List ℕ). Done ran w w' n n' (LeadsOn n l From To)) is d

-- said of the same number
pub goes_as : (ran : List Call → Type 0) (w w' : Option (List ℕ)) (n n' k number : ℕ) (From To : ℕ → List ℕ → List Call → List ℕ → Type 0) → k ≡ number → Done ran w w' n n' (Leads n (From k) (To k)) → Done ran w w' n n' (Leads n (From number) (To number))
goes_as ran w w' n n' k number From To same d = subst (λ (i : ℕ). Done ran w w' n n' (Leads n (From i) (To i))) same d

-- and of the same tokens
pub halts_as : {T : Type 0} (ran : List Call → Type 0) (w w' : Option (List ℕ)) (n n' : ℕ) (k t : T) (From : List ℕ → List Call → List ℕ → Type 0) (To : T → List ℕ → List Call → List ℕ → Type 0) → k ≡ t → Done ran w w' n n' (Leads n From (To k)) → Done ran w w' n n' (Leads n From (To t))
halts_as {T} ran w w' n n' k t From To same d = subst (λ (i : T). Done ran w w' n n' (Leads n From (To i))) same d
