-- What was handled goes on, and how it ends, by any protocol.
use Rattle.std.proofs.Common.{◌≡◌, ◌⊎◌, inl, inr, ℕ, ◌^◌, ◌∙◌, List, [], ◌∷◌, ◌++◌, Option, length, refl, sym, ap, subst, append_assoc}
use Rattle.std.proofs.lemmas.List.{append-nil}
use Rattle.event_form.specs.declared.talk.Talk.{Talk}
use Rattle.event_form.specs.declared.talk.Talk.TheVariants.{ReadFault, TooMuch, NoMemory}
use Rattle.desk_access.specs.Call.{Call}
use Rattle.desk_access.specs.Step.{Step, frames_of, calls_of, text_of}
use Rattle.desk_access.specs.Protocol.{Protocol, IsNothing}
use Rattle.desk_access.specs.Carried.{IsOver, Ending, Carried}
use Rattle.desk_access.specs.Endings.{IsAtMove}
use Rattle.desk_access.proofs.Moves.{frames_then, calls_then, text_then, moves_push, at_move, at_over}
use Rattle.conn_serve.specs.Handled.{Handled}

-- nothing was done for what is to be done, for want of memory
abbrev pub IsStarved : List Call → List ℕ → Talk → Type 0
IsStarved late part talk = IsNothing late part × (talk ≡ NoMemory)

-- no frame was handled
abbrev pub handled_none : {F : Type 0} (p : Protocol F) → p.AreHeld [] [] → Handled p [] [] []
handled_none p none = record { steps = []; each = tt; held = []; kept = none; whole = refl; made = refl; wrote = refl }

module _ {F : Type 0} (p : Protocol F) (frames : List F) (called : List Call) (said : List ℕ) (h : Handled p frames called said) (f : F) where
  -- a frame more is held
  abbrev pub handled_hold : p.AreHeld h.steps (h.held ++ f ∷ []) → Handled p (frames ++ f ∷ []) called said
  handled_hold kept = record {
    steps = h.steps;
    each = h.each;
    held = h.held ++ f ∷ [];
    kept = kept;
    whole = ap (λ (l : List F). l ++ f ∷ []) h.whole ∙ append_assoc (frames_of h.steps) h.held (f ∷ []);
    made = h.made;
    wrote = h.wrote;
  }

  -- a frame more makes a step, with those that were held
  abbrev pub handled_push : (s : Step F) → s.frames ≡ h.held ++ f ∷ [] → p.IsMove h.steps s → p.AreHeld (h.steps ++ s ∷ []) [] → Handled p (frames ++ f ∷ []) (called ++ s.calls) (said ++ s.text)
  handled_push s are move none = record {
    steps = h.steps ++ s ∷ [];
    each = moves_push p [] h.steps s h.each move;
    held = [];
    kept = none;
    whole = ap (λ (l : List F). l ++ f ∷ []) h.whole ∙ append_assoc (frames_of h.steps) h.held (f ∷ []) ∙ ap (λ (l : List F). frames_of h.steps ++ l) (sym are ∙ sym (append-nil s.frames)) ∙ sym (frames_then h.steps (s ∷ [])) ∙ sym (append-nil (frames_of (h.steps ++ s ∷ [])));
    made = ap (λ (l : List Call). l ++ s.calls) h.made ∙ ap (λ (l : List Call). calls_of h.steps ++ l) (sym (append-nil s.calls)) ∙ sym (calls_then h.steps (s ∷ []));
    wrote = ap (λ (l : List ℕ). l ++ s.text) h.wrote ∙ ap (λ (l : List ℕ). text_of h.steps ++ l) (sym (append-nil s.text)) ∙ sym (text_then h.steps (s ∷ []));
  }

module _ {F : Type 0} (p : Protocol F) (frames : List F) (called : List Call) (said : List ℕ) (h : Handled p frames called said) where
  -- the first of the frames held make a step, and the others are held still
  abbrev pub handled_cut : (s : Step F) (rest : List F) → h.held ≡ s.frames ++ rest → p.IsMove h.steps s → p.AreHeld (h.steps ++ s ∷ []) rest → Handled p frames (called ++ s.calls) (said ++ s.text)
  handled_cut s rest are move kept = record {
    steps = h.steps ++ s ∷ [];
    each = moves_push p [] h.steps s h.each move;
    held = rest;
    kept = kept;
    whole = h.whole ∙ ap (λ (l : List F). frames_of h.steps ++ l) are ∙ sym (append_assoc (frames_of h.steps) s.frames rest) ∙ ap (λ (l : List F). (frames_of h.steps ++ l) ++ rest) (sym (append-nil s.frames)) ∙ ap (λ (l : List F). l ++ rest) (sym (frames_then h.steps (s ∷ [])));
    made = ap (λ (l : List Call). l ++ s.calls) h.made ∙ ap (λ (l : List Call). calls_of h.steps ++ l) (sym (append-nil s.calls)) ∙ sym (calls_then h.steps (s ∷ []));
    wrote = ap (λ (l : List ℕ). l ++ s.text) h.wrote ∙ ap (λ (l : List ℕ). text_of h.steps ++ l) (sym (append-nil s.text)) ∙ sym (text_then h.steps (s ∷ []));
  }

-- The connection ends after the steps and some of the frames held.
pub carried_front : {F : Type 0} (p : Protocol F) (left : Option (List ℕ)) (b : List ℕ) (frames : List F) (called : List Call) (said : List ℕ) (h : Handled p frames called said) (held : List F) → p.AreHeld h.steps held
    → (at : ℕ) → p.IsFront b (frames_of h.steps ++ held) at → (late : List Call) (part : List ℕ) (talk : Talk) → Ending p left b h.steps held at late part talk → Carried p left b (called ++ late) (said ++ part) talk
carried_front p left b frames called said h held kept at front late part talk ending = record {
  steps = h.steps;
  each = h.each;
  held = held;
  kept = kept;
  at = at;
  front = front;
  late = late;
  part = part;
  made = ap (λ (l : List Call). l ++ late) h.made;
  wrote = ap (λ (l : List ℕ). l ++ part) h.wrote;
  ending = ending;
}

-- The frames handled stand at the front of the bytes read, and the connection ends.
module _ {F : Type 0} (p : Protocol F) (left : Option (List ℕ)) (b : List ℕ) (frames : List F) (at : ℕ) (called : List Call) (said : List ℕ) (h : Handled p frames called said) (front : p.IsFront b frames at) where
  carried_by : (late : List Call) (part : List ℕ) (talk : Talk) → Ending p left b h.steps h.held at late part talk → Carried p left b (called ++ late) (said ++ part) talk
  carried_by late part talk ending = record {
    steps = h.steps;
    each = h.each;
    held = h.held;
    kept = h.kept;
    at = at;
    front = subst (λ (l : List F). p.IsFront b l at) h.whole front;
    late = late;
    part = part;
    made = ap (λ (l : List Call). l ++ late) h.made;
    wrote = ap (λ (l : List ℕ). l ++ part) h.wrote;
    ending = ending;
  }

  -- with nothing done for it
  carried_nothing : (talk : Talk) → Ending p left b h.steps h.held at [] [] talk → Carried p left b called said talk
  carried_nothing talk ending =
      subst (λ (l : List Call). Carried p left b l said talk) (append-nil called)
      (subst (λ (l : List ℕ). Carried p left b (called ++ []) l talk) (append-nil said) (carried_by [] [] talk ending))

  of_steps : p.IsWhole b frames at → p.IsWhole b (frames_of h.steps ++ h.held) at
  of_steps whole = subst (λ (l : List F). p.IsWhole b l at) h.whole whole

  -- for want of a read, of memory, or because as much was read as may be
  pub carried_unread : p.IsWhole b frames at → p.MayGiveUp h.steps h.held → Carried p left b called said ReadFault
  carried_unread whole may = carried_nothing ReadFault (of_steps whole, (refl, refl), may)

  pub carried_too_much : p.IsWhole b frames at → length b ≡ 2 ^ 40 → p.MayGiveUp h.steps h.held → Carried p left b called said (TooMuch (2 ^ 40))
  carried_too_much whole size may = carried_nothing (TooMuch (2 ^ 40)) (of_steps whole, sym size, refl, (refl, refl), may)

  pub carried_starved : Carried p left b called said NoMemory
  carried_starved = carried_nothing NoMemory (inl (refl, refl))

  starved_by : (late : List Call) (part : List ℕ) (talk : Talk) → IsStarved late part talk → Ending p left b h.steps h.held at late part talk
  starved_by late part talk s = subst (λ (t : Talk). Ending p left b h.steps h.held at late part t) (sym s.1) (inl s.0)

  -- at the next frame
  pub carried_at : (f : F) (end : ℕ) (late : List Call) (part : List ℕ) (talk : Talk) → IsAtMove talk → p.IsFront b (frames ++ f ∷ []) end → IsStarved late part talk ⊎ p.Stops h.steps h.held f late part talk → Carried p left b (called ++ late) (said ++ part) talk
  carried_at f end late part talk is next (inl starved) = carried_by late part talk (starved_by late part talk starved)
  carried_at f end late part talk is next (inr stops) =
      carried_by late part talk (at_move p left b h.steps h.held at late part talk is (inl (f, end, subst (λ (l : List F). p.IsFront b (l ++ f ∷ []) end) h.whole next, stops)))

  over_steps : (over : Talk) → IsOver p left b frames at over → IsOver p left b (frames_of h.steps ++ h.held) at over
  over_steps over o = subst (λ (l : List F). IsOver p left b l at over) h.whole o

  -- where the input is over, with what is to be done for that
  pub carried_over : (over : Talk) (late : List Call) (part : List ℕ) → IsOver p left b frames at over → p.IsLastMove h.steps h.held over late part → Carried p left b (called ++ late) (said ++ part) over
  carried_over over late part o m = carried_by late part over (at_over p left b h.steps h.held at late part over (over_steps over o) m)

  -- or in place of it
  pub carried_instead : (over : Talk) (late : List Call) (part : List ℕ) (talk : Talk) → IsAtMove talk → IsOver p left b frames at over → IsStarved late part talk ⊎ p.StopsLast h.steps h.held over late part talk → Carried p left b (called ++ late) (said ++ part) talk
  carried_instead over late part talk is o (inl starved) = carried_by late part talk (starved_by late part talk starved)
  carried_instead over late part talk is o (inr stops) = carried_by late part talk (at_move p left b h.steps h.held at late part talk is (inr (over, over_steps over o, stops)))
