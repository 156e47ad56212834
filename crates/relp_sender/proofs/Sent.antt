-- What was told as acknowledged was sent.
use Rattle.std.proofs.Common.{◌≡◌, ℕ, zero, suc, ◌+◌, ◌<◌, ◌∙◌, Bool, true, false, List, [], ◌∷◌, ◌++◌, length, take, drop, get_or, sym, ap, subst, arith, append_assoc}
use Rattle.std.proofs.lemmas.Bool.{false≢true}
use Rattle.std.proofs.lemmas.List.{append-nil, take-append-drop, take-append-le}
use Rattle.event_form.specs.declared.event.Entry.{Entry}
use Rattle.relp_sender.specs.declared.stage.Stage.{Stage}
use Rattle.relp_sender.specs.declared.stage.Stage.TheVariants.{Fresh, Opening, Open, Closed}
use Rattle.relp_sender.specs.Progress.{Progress, Unopened, IsKnown}
use Rattle.relp_sender.specs.Sender.{Sender, Keeps}
use Rattle.relp_sender.specs.Sends.{HasMarks, History, Said, Sends, Stands}
use Rattle.relp_sender.specs.Text.{IsSent}
use Rattle.relp_sender.specs.Texts.{close_text, frames_text, open_text}
use Rattle.relp_sender.specs.Turns.{TellsSent}
use Rattle.relp_sender.proofs.Bounds.{most_at}
use Rattle.relp_sender.proofs.Marking.{grown_short}
use Rattle.relp_sender.proofs.TextLaws.{frames_append}

-- an entry that has a mark is one of those marked
marked_within : (marks : List Bool) (place : ℕ) → get_or marks place false ≡ true → place < length marks
marked_within [] place is = absurd (false≢true is)
marked_within (mark ∷ marks) zero is = omega arith
marked_within (mark ∷ marks) (suc place) is = omega (arith, marked_within marks place is)

-- the frames of some entries begin with those up to and with one of them, whatever entries follow
frames_upto : (front tail : List Entry) (place : ℕ) → place < length front → (rest : List ℕ) × (frames_text 0 front ≡ frames_text 0 (take (place + 1) (front ++ tail)) ++ rest)
frames_upto front tail place less =
    let k = place + 1 in
    let first = take k front in
    let rest = frames_text (0 + length first) (drop k front) in
    (rest, ap (frames_text 0) (sym (take-append-drop k front)) ∙ frames_append 0 first (drop k front) ∙ ap (λ (es : List Entry). frames_text 0 es ++ rest) (sym (take-append-le k front tail (omega (arith, less)))))

-- an entry that is acknowledged was written
known_written : (p : Progress) (written : ℕ) (unanswered : List ℕ) (place : ℕ) → HasMarks p written unanswered → IsKnown p place → place < written
known_written p written unanswered place stands known =
    let within = marked_within stands.0 place (subst (λ (q : Progress). IsKnown q place) stands.1 known) in
    omega (arith, within, grown_short written stands.0 stands.2)

module _ (s : Sender) (h : History) (was : Sends h s) (more : List Entry) (place : ℕ) (known : IsKnown h.progress place) where
  list : h.entries ++ more ≡ was.front ++ (s.waiting ++ more)
  list = ap (λ (l : List Entry). l ++ more) was.whole ∙ append_assoc was.front s.waiting more

  -- after the frames of the entries comes this
  sent_with : (after : List ℕ) → place < s.written → h.out ≡ open_text ++ (frames_text 0 was.front ++ after) → IsSent (h.entries ++ more) h.out place
  sent_with after less said =
      let f = frames_upto was.front (s.waiting ++ more) place (omega (arith, less, was.count)) in
      let upto = frames_text 0 (take (place + 1) (was.front ++ (s.waiting ++ more))) in (
        f.0 ++ after,
        said ∙ ap (λ (l : List ℕ). open_text ++ (l ++ after)) f.1 ∙ ap (λ (l : List ℕ). open_text ++ l) (append_assoc upto f.0 after)
            ∙ ap (λ (es : List Entry). open_text ++ (frames_text 0 (take (place + 1) es) ++ (f.0 ++ after))) (sym list),
      )

  unopened : h.progress ≡ Unopened → IsSent (h.entries ++ more) h.out place
  unopened is = absurd (subst (λ (q : Progress). IsKnown q place) is known)

  sent_by : (stage : Stage) → Stands stage h.progress s.written s.unanswered → Said stage was.front h.out → IsSent (h.entries ++ more) h.out place
  sent_by Fresh stands said = unopened stands
  sent_by Opening stands said = unopened stands
  sent_by Open stands said =
      sent_with [] (known_written h.progress s.written s.unanswered place stands known) (said ∙ ap (λ (l : List ℕ). open_text ++ l) (sym (append-nil (frames_text 0 was.front))))
  sent_by Closed stands said = sent_with (close_text (length was.front)) (known_written h.progress s.written s.unanswered place stands known) said

pub sent_at : (s : Sender) → Keeps s → (h : History) (more : List Entry) → Sends h s → TellsSent h more s
sent_at s k h more was = λ place told. sent_by s h was more place (most_at s k h was place told) s.stage was.stands was.said
