-- What may be written later, where it is known what may be written now.
use Rattle.std.proofs.Common.{◌≡◌, ℕ, List, [], ◌++◌, ◌∙◌, Option, sym, ap, subst, arith, append_assoc}
use Rattle.std.proofs.lemmas.List.{append-nil}
use Rattle.std.proofs.lemmas.List.Elements.{All-nil}
use Rattle.std.specs.Io.KnownBytes.{Appends}
use Rattle.event_form.specs.declared.talk.Talk.{Talk}
use Rattle.edge_io.specs.Told.{Lasts}
use Rattle.edge_io.proofs.Known.{may_follow_on}
use Rattle.desk_access.specs.Call.{Call}
use Rattle.desk_access.specs.Step.{count}
use Rattle.desk_access.proofs.Moves.{count_then}
use Rattle.conn_serve.specs.Done.{Done, Leads, LeadsBy, LeadsOn}
use Rattle.conn_serve.specs.Terms.{Terms}
use Rattle.conn_serve.specs.Says.{CouldEnd, HasCarried, MaySay, PromisesNothing}

-- where the connection ends so at once
pub has_carried : (C : Option (List ℕ) → List ℕ → List Call → List ℕ → Talk → Type 0) (left : Option (List ℕ)) (b : List ℕ) (talk : Talk) (calls : List Call) (text : List ℕ) → C left b calls text talk → HasCarried C b calls text
has_carried C left b talk calls text carried = record { left = left; talk = talk; late = []; nothing = All-nil PromisesNothing; carried = subst (λ (l : List Call). C left b l text talk) (sym (append-nil calls)) carried }

-- the calls and the texts joined
joined : (E : List Call → List ℕ → Type 0) (called calls more : List Call) (said text rest : List ℕ) → E ((called ++ calls) ++ more) ((said ++ text) ++ rest) → E (called ++ (calls ++ more)) (said ++ (text ++ rest))
joined E called calls more said text rest e =
    subst (λ (l : List Call). E l (said ++ (text ++ rest))) (append_assoc called calls more)
    (subst (λ (l : List ℕ). E ((called ++ calls) ++ more) l) (append_assoc said text rest) e)

-- A link permitted P of a text before, and permits Q now; calls have led from a to b since.
module _ {A : Type 0} (ran : A → List Call → A → Type 0) (a b : A) (join : (x y z : A) (calls more : List Call) → ran x calls y → ran y more z → ran x (calls ++ more) z)
    (P Q : List ℕ → Type 0) (w w' : Option (List ℕ)) (lasts : Lasts P w Q w') where
  -- after a step, by which the one was so before it and the other is so after it
  pub says_then : {B : Type 0} (E : B → List Call → List ℕ → Type 0) (n n' : ℕ) (From To : B → List Call → List ℕ → Type 0) → Done (λ calls. ran a calls b) w w' n n' (LeadsBy n From To)
      → MaySay (ran a) P w (LeadsBy n From E) → MaySay (ran b) Q w' (LeadsBy n' To E)
  says_then {B} E n n' From To d says = λ now calls text made goes.
      may_follow_on P Q w w' d.text text lasts d.wrote (says now (d.calls ++ calls) (d.text ++ text) (join a b now d.calls calls d.made made) (λ fed called said counted from.
      joined (E fed) called d.calls calls said d.text text
      (goes fed (called ++ d.calls) (said ++ d.text) (omega (arith, counted, d.counted, count_then called d.calls)) (d.is fed called said counted from))))

  -- the same after a part of a piece was fed
  pub says_on : (C : Option (List ℕ) → List ℕ → List Call → List ℕ → Talk → Type 0) (n n' : ℕ) (part rest piece : List ℕ) → part ++ rest ≡ piece → (From To : List ℕ → List Call → List ℕ → Type 0)
      → Done (λ calls. ran a calls b) w w' n n' (LeadsOn n part From To) → MaySay (ran a) P w (Leads n From (λ fed. HasCarried C (fed ++ piece))) → MaySay (ran b) Q w' (Leads n' To (CouldEnd C))
  says_on C n n' part rest piece parts From To d says = λ now calls text made goes.
      may_follow_on P Q w w' d.text text lasts d.wrote (says now (d.calls ++ calls) (d.text ++ text) (join a b now d.calls calls d.made made) (λ fed called said counted from.
      joined (HasCarried C (fed ++ piece)) called d.calls calls said d.text text
      (subst (λ (l : List ℕ). HasCarried C l ((called ++ d.calls) ++ calls) ((said ++ d.text) ++ text)) (append_assoc fed part rest ∙ ap (λ (l : List ℕ). fed ++ l) parts)
      (goes (fed ++ part) (called ++ d.calls) (said ++ d.text) (omega (arith, counted, d.counted, count_then called d.calls)) (d.is fed called said counted from) rest))))

  -- after all that was carried since the connection began
  pub says_since : (E : List ℕ → List Call → List ℕ → Type 0) (F : List Call → List ℕ → Type 0) (n : ℕ) (bytes : List ℕ) (called : List Call) (said : List ℕ) (To : List ℕ → List Call → List ℕ → Type 0) → ((calls : List Call) (text : List ℕ) → E bytes calls text → F calls text)
      → ran a called b → Appends w w' said → n ≡ count called → To bytes called said → MaySay (ran a) P w F → MaySay (ran b) Q w' (Leads n To E)
  says_since E F n bytes called said To on ran_to wrote counted to says = λ now calls text made goes.
      may_follow_on P Q w w' said text lasts wrote (says now (called ++ calls) (said ++ text) (join a b now called calls ran_to made) (on (called ++ calls) (said ++ text) (goes bytes called said counted to)))

-- of the number that a connection still has, and of the terms that a session still has
pub says_as : {A : Type 0} (ran : A → List Call → A → Type 0) (a : A) (P : List ℕ → Type 0) (w : Option (List ℕ)) (n : ℕ) (From : ℕ → List ℕ → List Call → List ℕ → Type 0) (E : Terms → ℕ → List ℕ → List Call → List ℕ → Type 0)
    (k number : ℕ) (s t : Terms) → k ≡ number → s ≡ t → MaySay (ran a) P w (Leads n (From number) (E t number)) → MaySay (ran a) P w (Leads n (From k) (E s k))
says_as ran a P w n From E k number s t same_number same_terms says =
    subst (λ (i : ℕ). MaySay (ran a) P w (Leads n (From i) (E s i))) (sym same_number)
    (subst (λ (x : Terms). MaySay (ran a) P w (Leads n (From number) (E x number))) (sym same_terms) says)

-- what may be said over a link that tells the same of what was written
pub says_read : {A : Type 0} (ran : List Call → A → Type 0) (P : List ℕ → Type 0) (w w' : Option (List ℕ)) (E : List Call → List ℕ → Type 0) → w' ≡ w → MaySay ran P w E → MaySay ran P w' E
says_read ran P w w' E same says = subst (λ (o : Option (List ℕ)). MaySay ran P o E) (sym same) says
