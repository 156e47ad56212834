-- What a frame of the peer leaves that was taken.
use Rattle.std.proofs.Common.{◌≡◌, inl, inr, ℕ, ◌≤◌, ◌∙◌, Bool, List, ◌∷◌, sym, subst, arith}
use Rattle.std.specs.Prelude.{◌⊎◌, None}
use Rattle.event_form.specs.declared.turn.Turn.{Turn}
use Rattle.event_form.specs.declared.turn.Turn.TheVariants.{Write, Confirmed, Also, Need, Wait, Pause, Done, Refused, PeerClosed, PeerFault, Unconfirmed}
use Rattle.event_form.specs.Turn.{IsResting}
use Rattle.relp_frame.specs.declared.frame.Placed.{Placed}
use Rattle.relp_sender.specs.declared.hearing.Heard.{Heard}
use Rattle.relp_sender.specs.declared.due.Due.TheVariants.{Hear}
use Rattle.relp_sender.specs.Hearing.{IsHeard}
use Rattle.relp_sender.specs.Sender.{Sender}
use Rattle.relp_sender.specs.Due.{HearsNext, IsAcknowledgment, IsDue}
use Rattle.relp_sender.specs.Spending.{IsSpent}
use Rattle.relp_sender.specs.Turns.{IsTurn}

-- ---- the frame that was taken is the one that was judged

pub record Took (s : Sender) (x : Heard) (p : Placed) : Type 0 where
  pub goes : s.stop ≡ None
  pub alone : s.beyond ≡ None
  pub may : IsDue Hear s ⊎ IsAcknowledgment x
  pub is : IsHeard s.stage s.unanswered p.at p.frame x

pub took : (goes_on : Bool) (s now : Sender) (x y : Heard) (p : Placed) (rest : List Placed) → s ≡ now → x ≡ y → HearsNext goes_on now x → s.reader.waiting ≡ p ∷ rest → Took s y p
took goes_on s now x y p rest is same_as hears waits =
    let h : HearsNext goes_on s y = subst (HearsNext goes_on s) same_as (subst (λ (t : Sender). HearsNext goes_on t x) (sym is) hears) in
    let both : h.placed ∷ h.rest ≡ p ∷ rest = sym h.waits ∙ waits in
    let same : h.placed ≡ p = cc in
    record {
      goes = elim h.may [ inl due ↦ due.0 | inr a ↦ a.1.0 ];
      alone = elim h.may [ inl due ↦ due.1.beyond | inr a ↦ a.2 ];
      may = elim h.may [ inl due ↦ inl due | inr a ↦ inr a.3 ];
      is = subst (λ (q : Placed). IsHeard s.stage s.unanswered q.at q.frame y) same h.is;
    }

-- ---- a turn after some frames were taken

pub spent_on : (turn : Turn) (s : Sender) (a b c : ℕ) → IsTurn turn s → a ≤ b → (IsResting turn → b ≡ a) → IsSpent turn b c → IsSpent turn a c
spent_on (Write text) s a b c is le rests on = omega (arith, le, on)
spent_on (Confirmed upto) s a b c is le rests on = omega (arith, le, on)
spent_on (Also from to) s a b c is le rests on = omega (arith, le, on)
spent_on Need s a b c is le rests on = on ∙ rests tt
spent_on Wait s a b c is le rests on = on ∙ rests tt
spent_on Pause s a b c is le rests on = absurd is
spent_on Done s a b c is le rests on = on ∙ rests tt
spent_on (Refused unit code) s a b c is le rests on = on ∙ rests tt
spent_on PeerClosed s a b c is le rests on = on ∙ rests tt
spent_on (PeerFault at why) s a b c is le rests on = on ∙ rests tt
spent_on (Unconfirmed asked) s a b c is le rests on = absurd is
