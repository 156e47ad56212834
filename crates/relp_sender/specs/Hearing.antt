-- What a frame of the peer does, by how far the session is and by the places that are not answered.
use Rattle.std.specs.Prelude.{◌≡◌, ◌≢◌, ◌⊎◌, ℕ, List, Some, None, All}
use Rattle.relp_frame.specs.declared.frame.Frame.{Frame}
use Rattle.relp_sender.specs.declared.stage.Stage.{Stage}
use Rattle.relp_sender.specs.declared.stage.Stage.TheVariants.{Fresh, Opening, Open, Closed}
use Rattle.relp_sender.specs.declared.stage.Stop.{Stop}
use Rattle.relp_sender.specs.declared.stage.Stop.TheVariants.{Hint, Refused, BadReply}
use Rattle.relp_sender.specs.declared.hearing.Heard.{Heard}
use Rattle.relp_sender.specs.declared.hearing.Heard.TheVariants.{Ignored, Opens, Acknowledged, Stopped}
use Rattle.relp_sender.specs.Texts.{txnr_of}
use Rattle.relp_sender.specs.Reply.{code_of, IsReply, IsHint}
use Rattle.relp_sender.specs.Window.{IsFirstOf}

-- an unanswered frame has this transaction number
abbrev pub IsAwaited : Stage → List ℕ → ℕ → Type 0
IsAwaited Fresh unanswered txnr = ⊥
IsAwaited Opening unanswered txnr = txnr ≡ 1
IsAwaited Open unanswered txnr = (index : ℕ) × IsFirstOf unanswered txnr index
IsAwaited Closed unanswered txnr = ⊥

-- none has
abbrev pub IsUnawaited : Stage → List ℕ → ℕ → Type 0
IsUnawaited Fresh unanswered txnr = Unit {0}
IsUnawaited Opening unanswered txnr = txnr ≢ 1
IsUnawaited Open unanswered txnr = All (λ (p : ℕ). txnr_of p ≢ txnr) unanswered
IsUnawaited Closed unanswered txnr = Unit {0}

-- the frame, which begins at an offset, ends the session
abbrev pub IsStop : Stage → List ℕ → ℕ → Frame → Stop → Type 0
IsStop stage unanswered at f Hint = IsHint f
IsStop stage unanswered at f (Refused unit code) =
    IsReply f × IsAwaited stage unanswered f.txnr × (unit ≡ f.txnr) × (code_of f.body ≡ Some code) × (code ≢ 200)
IsStop stage unanswered at f (BadReply place) =
    (place ≡ at) × (((IsHint f → ⊥) × (IsReply f → ⊥)) ⊎ (IsReply f × IsAwaited stage unanswered f.txnr × (code_of f.body ≡ None)))

abbrev pub IsHeard : Stage → List ℕ → ℕ → Frame → Heard → Type 0
IsHeard stage unanswered at f Ignored = IsReply f × IsUnawaited stage unanswered f.txnr
IsHeard stage unanswered at f Opens = IsReply f × (stage ≡ Opening) × (f.txnr ≡ 1) × (code_of f.body ≡ Some 200)
IsHeard stage unanswered at f (Acknowledged index) = IsReply f × (stage ≡ Open) × IsFirstOf unanswered f.txnr index × (code_of f.body ≡ Some 200)
IsHeard stage unanswered at f (Stopped stop) = IsStop stage unanswered at f stop

-- a reply to an unanswered frame does this by its code
abbrev pub IsByCode : ℕ → Frame → Heard → Heard → Type 0
IsByCode at f success heard =
    ((code_of f.body ≡ Some 200) × (heard ≡ success))
    ⊎ (((code : ℕ) × (code_of f.body ≡ Some code) × (code ≢ 200) × (heard ≡ Stopped (Refused f.txnr code)))
    ⊎ ((code_of f.body ≡ None) × (heard ≡ Stopped (BadReply at))))
