-- At most one thing is due.
use Rattle.std.proofs.Common.{◌≡◌, inl, inr, ◌<◌, ◌∙◌, Bool, [], length, refl, sym, ap, arith}
use Rattle.std.specs.Prelude.{Option, Some, None, IsSome}
use Rattle.std.proofs.lemmas.Bool.{false≢true}
use Rattle.relp_sender.specs.declared.due.Due.{Due}
use Rattle.relp_sender.specs.declared.due.Due.TheVariants.{Stopped, Confirm, Tell, Send, Ask, End, Hear}
use Rattle.relp_sender.specs.declared.stage.Stage.{Stage}
use Rattle.relp_sender.specs.declared.stage.Stage.TheVariants.{Fresh, Opening, Open, Closed}
use Rattle.relp_sender.specs.Sender.{Sender, HasTold, MayWrite, MayAsk, IsDone, MustHear}
use Rattle.relp_sender.specs.Due.{IsDue}

some_none : {A : Type 0} (o : Option A) → IsSome o → o ≡ None → ⊥
some_none {A = A} None h is = false≢true h
some_none {A = A} (Some x) h is = cc

none_some : (s : Sender) → 0 < length s.waiting → s.waiting ≡ [] → ⊥
none_some s some none = let e : length s.waiting ≡ 0 = ap length none in omega (arith, some, e)

write_or_ask : (stage : Stage) (s : Sender) → MayWrite stage s → MayAsk stage s → ⊥
write_or_ask Fresh s a b = none_some s a b.0
write_or_ask Opening s a b = a
write_or_ask Open s a b = elim a [ inl x ↦ none_some s x.0 b.0 | inr x ↦ false≢true (sym b.1 ∙ x.1) ]
write_or_ask Closed s a b = a

write_or_done : (stage : Stage) (s : Sender) → MayWrite stage s → IsDone stage s → ⊥
write_or_done Fresh s a b = none_some s a b.0
write_or_done Opening s a b = a
write_or_done Open s a b = b
write_or_done Closed s a b = a

write_or_hear : (stage : Stage) (s : Sender) → MayWrite stage s → MustHear stage s → ⊥
write_or_hear Fresh s a b = b
write_or_hear Opening s a b = a
write_or_hear Open s a b = elim a [
  | inl x ↦ elim b [ inl y ↦ omega (arith, x.1, y) | inr y ↦ none_some s x.0 y.0 ]
  | inr x ↦ let e : length s.unanswered ≡ 0 = ap length x.2 in elim b [ inl y ↦ omega (arith, e, y) | inr y ↦ omega (arith, e, y.2) ]
]
write_or_hear Closed s a b = a

ask_or_done : (stage : Stage) (s : Sender) → MayAsk stage s → IsDone stage s → ⊥
ask_or_done Fresh s a b = false≢true (sym a.1 ∙ b.1)
ask_or_done Opening s a b = a
ask_or_done Open s a b = b
ask_or_done Closed s a b = a

ask_or_hear : (stage : Stage) (s : Sender) → MayAsk stage s → MustHear stage s → ⊥
ask_or_hear Fresh s a b = b
ask_or_hear Opening s a b = a
ask_or_hear Open s a b = elim b [ inl y ↦ omega (arith, a.2, y) | inr y ↦ false≢true (sym a.1 ∙ y.1) ]
ask_or_hear Closed s a b = a

done_or_hear : (stage : Stage) (s : Sender) → IsDone stage s → MustHear stage s → ⊥
done_or_hear Fresh s a b = b
done_or_hear Opening s a b = a
done_or_hear Open s a b = a
done_or_hear Closed s a b = b

-- no ending came, and all that is acknowledged was told
record IsQuiet (s : Sender) : Type 0 where
  goes : s.stop ≡ None
  told : HasTold s

one_send : (e : Due) (s : Sender) → IsQuiet s → MayWrite s.stage s → IsDue e s → Send ≡ e
one_send Stopped s q m b = absurd (some_none s.stop b q.goes)
one_send Confirm s q m b = absurd (omega (arith, b.1, q.told.front))
one_send Tell s q m b = absurd (some_none s.beyond b.2 q.told.beyond)
one_send Send s q m b = refl
one_send Ask s q m b = absurd (write_or_ask s.stage s m b.may)
one_send End s q m b = absurd (write_or_done s.stage s m b.2)
one_send Hear s q m b = absurd (write_or_hear s.stage s m b.2)

one_ask : (e : Due) (s : Sender) → IsQuiet s → MayAsk s.stage s → IsDue e s → Ask ≡ e
one_ask Stopped s q m b = absurd (some_none s.stop b q.goes)
one_ask Confirm s q m b = absurd (omega (arith, b.1, q.told.front))
one_ask Tell s q m b = absurd (some_none s.beyond b.2 q.told.beyond)
one_ask Send s q m b = absurd (write_or_ask s.stage s b.2 m)
one_ask Ask s q m b = refl
one_ask End s q m b = absurd (ask_or_done s.stage s m b.2)
one_ask Hear s q m b = absurd (ask_or_hear s.stage s m b.2)

one_end : (e : Due) (s : Sender) → IsQuiet s → IsDone s.stage s → IsDue e s → End ≡ e
one_end Stopped s q m b = absurd (some_none s.stop b q.goes)
one_end Confirm s q m b = absurd (omega (arith, b.1, q.told.front))
one_end Tell s q m b = absurd (some_none s.beyond b.2 q.told.beyond)
one_end Send s q m b = absurd (write_or_done s.stage s b.2 m)
one_end Ask s q m b = absurd (ask_or_done s.stage s b.may m)
one_end End s q m b = refl
one_end Hear s q m b = absurd (done_or_hear s.stage s m b.2)

one_hear : (e : Due) (s : Sender) → IsQuiet s → MustHear s.stage s → IsDue e s → Hear ≡ e
one_hear Stopped s q m b = absurd (some_none s.stop b q.goes)
one_hear Confirm s q m b = absurd (omega (arith, b.1, q.told.front))
one_hear Tell s q m b = absurd (some_none s.beyond b.2 q.told.beyond)
one_hear Send s q m b = absurd (write_or_hear s.stage s b.2 m)
one_hear Ask s q m b = absurd (ask_or_hear s.stage s b.may m)
one_hear End s q m b = absurd (done_or_hear s.stage s b.2 m)
one_hear Hear s q m b = refl

one_stopped : (e : Due) (s : Sender) → IsDue Stopped s → IsDue e s → Stopped ≡ e
one_stopped Stopped s a b = refl
one_stopped Confirm s a b = absurd (some_none s.stop a b.0)
one_stopped Tell s a b = absurd (some_none s.stop a b.0)
one_stopped Send s a b = absurd (some_none s.stop a b.0)
one_stopped Ask s a b = absurd (some_none s.stop a b.goes)
one_stopped End s a b = absurd (some_none s.stop a b.0)
one_stopped Hear s a b = absurd (some_none s.stop a b.0)

one_confirm : (e : Due) (s : Sender) → IsDue Confirm s → IsDue e s → Confirm ≡ e
one_confirm Stopped s a b = absurd (some_none s.stop b a.0)
one_confirm Confirm s a b = refl
one_confirm Tell s a b = absurd (omega (arith, a.1, b.1))
one_confirm Send s a b = absurd (omega (arith, a.1, b.1.front))
one_confirm Ask s a b = absurd (omega (arith, a.1, b.told.front))
one_confirm End s a b = absurd (omega (arith, a.1, b.1.front))
one_confirm Hear s a b = absurd (omega (arith, a.1, b.1.front))

one_tell : (e : Due) (s : Sender) → IsDue Tell s → IsDue e s → Tell ≡ e
one_tell Stopped s a b = absurd (some_none s.stop b a.0)
one_tell Confirm s a b = absurd (omega (arith, a.1, b.1))
one_tell Tell s a b = refl
one_tell Send s a b = absurd (some_none s.beyond a.2 b.1.beyond)
one_tell Ask s a b = absurd (some_none s.beyond a.2 b.told.beyond)
one_tell End s a b = absurd (some_none s.beyond a.2 b.1.beyond)
one_tell Hear s a b = absurd (some_none s.beyond a.2 b.1.beyond)

pub one_due : (d e : Due) (s : Sender) → IsDue d s → IsDue e s → d ≡ e
one_due Stopped e s a b = one_stopped e s a b
one_due Confirm e s a b = one_confirm e s a b
one_due Tell e s a b = one_tell e s a b
one_due Send e s a b = one_send e s (record { goes = a.0; told = a.1 }) a.2 b
one_due Ask e s a b = one_ask e s (record { goes = a.goes; told = a.told }) a.may b
one_due End e s a b = one_end e s (record { goes = a.0; told = a.1 }) a.2 b
one_due Hear e s a b = one_hear e s (record { goes = a.0; told = a.1 }) a.2 b

-- ---- whether the last turn was Need changes nothing

must_asked : (stage : Stage) (s : Sender) (asked : Bool) → MustHear stage s → MustHear stage (record s { asked = asked })
must_asked Fresh s asked m = m
must_asked Opening s asked m = m
must_asked Open s asked m = m
must_asked Closed s asked m = m

may_asked : (stage : Stage) (s : Sender) (asked : Bool) → MayWrite stage s → MayWrite stage (record s { asked = asked })
may_asked Fresh s asked m = m
may_asked Opening s asked m = m
may_asked Open s asked m = m
may_asked Closed s asked m = m

ask_asked : (stage : Stage) (s : Sender) (asked : Bool) → MayAsk stage s → MayAsk stage (record s { asked = asked })
ask_asked Fresh s asked m = m
ask_asked Opening s asked m = m
ask_asked Open s asked m = m
ask_asked Closed s asked m = m

done_asked : (stage : Stage) (s : Sender) (asked : Bool) → IsDone stage s → IsDone stage (record s { asked = asked })
done_asked Fresh s asked m = m
done_asked Opening s asked m = m
done_asked Open s asked m = m
done_asked Closed s asked m = m

told_asked : (s : Sender) (asked : Bool) → HasTold s → HasTold (record s { asked = asked })
told_asked s asked t = record { front = t.front; beyond = t.beyond }

pub due_asked : (d : Due) (s : Sender) (asked : Bool) → IsDue d s → IsDue d (record s { asked = asked })
due_asked Stopped s asked a = a
due_asked Confirm s asked a = a
due_asked Tell s asked a = a
due_asked Send s asked a = (a.0, told_asked s asked a.1, may_asked s.stage s asked a.2)
due_asked Ask s asked a = record { goes = a.goes; told = told_asked s asked a.told; may = ask_asked s.stage s asked a.may }
due_asked End s asked a = (a.0, told_asked s asked a.1, done_asked s.stage s asked a.2)
due_asked Hear s asked a = (a.0, told_asked s asked a.1, must_asked s.stage s asked a.2)
