-- Words with which something is wrong are no command.
use Rattle.std.proofs.Common.{◌≡◌, ◌∙◌, ◌⊎◌, inl, inr, ℕ, List, refl, sym, subst, codes}
use Rattle.std.specs.Prelude.{Option, None, Some, Result, Ok, Err}
use Rattle.clap.specs.Walk.{Row, Text}
use Rattle.clap.specs.Kinds.{IsAmong}
use Rattle.clap.specs.declared.error.kind.ErrorKind.{ErrorKind}
use Rattle.clap.specs.declared.error.kind.ErrorKind.TheVariants as kind
use Rattle.desk_access.specs.declared.division.Division.{Division}
use Rattle.edge_io.specs.declared.proto.Proto.{Proto}
use Rattle.hec_tokens.specs.declared.list.ListedToken.{ListedToken}
use Rattle.bridge_words.specs.declared.command.Command.{Command}
use Rattle.bridge_words.specs.declared.command.Command.TheVariants.{Format, List as ListCommand, Replay, Drain, Load, Serve}
use Rattle.bridge_words.specs.declared.command.Receiver.{Receiver}
use Rattle.bridge_words.specs.declared.command.Server.{Server}
use Rattle.words_faults.specs.declared.fault.WordsFault.{WordsFault}
use Rattle.bridge_words.specs.declared.reading.Unread.TheVariants.{Wrong}
use Rattle.bridge_words.specs.Grammar.{refusals}
use Rattle.bridge_words.specs.Values.{division_in, workers_in, talks_in}
use Rattle.bridge_words.specs.Words.{IsFormat, IsReplay, IsDrain, IsLoad, HasDoor, AreDoors, IsCrew, AreTokens, IsServe, IsCommandBy, IsNoCommand, IsPair, IsNoMove, name_of}
use Rattle.bridge_words.specs.Wrong.{fault_for, unread_for, WrongFormat, WrongReplay, WrongDrain, WrongLoad, WrongDoors, WrongCounts, WrongTokens, WrongServe, WrongMove, WrongBy, IsWrong}
use Rattle.bridge_words.specs.Wrong.WrongBy.{no_name, in_format, in_list, in_replay, in_drain, in_load, in_serve, in_move}
use Rattle.bridge_words.specs.Wrong.IsWrong.{refused, nameless, found}
use Rattle.bridge_words.proofs.Once.{apart, no_move_name, same_name, same_rows}

-- what is read is not wrong
never : {A : Type 0} (r : Result A WordsFault) (x : A) (w : WordsFault) → r ≡ Ok x → r ≡ Err w → ⊥
never r x w is is_not = absurd (cc)

no_format : (w : WordsFault) (rows : List Row) (slots size : ℕ) → WrongFormat w rows → IsFormat slots size rows → ⊥
no_format w rows slots size (inl h) is = never _ _ _ is.slots_is h
no_format w rows slots size (inr h) is = never _ _ _ is.size_is h

no_replay : (w : WordsFault) (rows : List Row) (proto : Proto) (token ack_token : Option ℕ) → WrongReplay w rows → IsReplay proto token ack_token rows → ⊥
no_replay w rows proto token ack_token (inl h) is = never _ _ _ is.proto_is h
no_replay w rows proto token ack_token (inr (inl h)) is = never _ _ _ is.token_is h
no_replay w rows proto token ack_token (inr (inr h)) is = never _ _ _ is.ack_token_is h

no_drain : (w : WordsFault) (rows : List Row) (receiver : Receiver) (place : Option Text) → WrongDrain w rows → IsDrain receiver place rows → ⊥
no_drain w rows receiver place (inl h) is = never _ _ _ is.receiver_is h
no_drain w rows receiver place (inr h) is = never _ _ _ is.place_is h

no_load : (w : WordsFault) (rows : List Row) (proto : Proto) (number count : ℕ) → WrongLoad w rows → IsLoad proto number count rows → ⊥
no_load w rows proto number count (inl h) is = never _ _ _ is.proto_is h
no_load w rows proto number count (inr (inl h)) is = never _ _ _ is.number_is h
no_load w rows proto number count (inr (inr h)) is = never _ _ _ is.count_is h

no_door : (relp lumberjack hec : Option Text) → HasDoor relp lumberjack hec → relp ≡ None → lumberjack ≡ None → hec ≡ None → ⊥
no_door relp lumberjack hec (inl given) a b c = absurd (cc)
no_door relp lumberjack hec (inr (inl given)) a b c = absurd (cc)
no_door relp lumberjack hec (inr (inr given)) a b c = absurd (cc)

no_doors : (w : WordsFault) (rows : List Row) (relp lumberjack hec : Option Text) → WrongDoors w rows → AreDoors relp lumberjack hec rows → ⊥
no_doors w rows relp lumberjack hec (inl h) are = never _ _ _ are.relp_is h
no_doors w rows relp lumberjack hec (inr (inl h)) are = never _ _ _ are.lumberjack_is h
no_doors w rows relp lumberjack hec (inr (inr (inl h))) are = never _ _ _ are.hec_is h
no_doors w rows relp lumberjack hec (inr (inr (inr h))) are =
    let relp_is = are.relp_is in let lumberjack_is = are.lumberjack_is in let hec_is = are.hec_is in
    no_door relp lumberjack hec are.some_door (cc (h.relp_is)) (cc (h.lumberjack_is)) (cc (h.hec_is))

same_division : (rows : List Row) (a b : Division) → division_in rows ≡ Ok a → division_in rows ≡ Ok b → a ≡ b
same_division rows a b x y = cc

no_counts : (w : WordsFault) (rows : List Row) (division : Division) (workers talks : ℕ) → WrongCounts w rows → IsCrew division workers talks rows → ⊥
no_counts w rows division workers talks (other, at, wrong) is =
    let same = same_division rows other division at is.division_is in
    elim wrong [
      | inl h ↦ never _ _ _ is.workers_is (subst (λ (d : Division). workers_in d rows ≡ Err w) same h)
      | inr h ↦ never _ _ _ is.talks_is (subst (λ (d : Division). talks_in d rows ≡ Err w) same h)
    ]

no_tokens : (w : WordsFault) (rows : List Row) (token ack_token : Option ℕ) (listed : List ListedToken)
    → WrongTokens w rows → AreTokens token ack_token listed rows → ⊥
no_tokens w rows token ack_token listed (inl h) are = never _ _ _ are.token_is h
no_tokens w rows token ack_token listed (inr (inl h)) are = never _ _ _ are.ack_token_is h
no_tokens w rows token ack_token listed (inr (inr h)) are = never _ _ _ are.listed_is h

no_serve : (w : WordsFault) (rows : List Row) (server : Server) → WrongServe w rows → IsServe server rows → ⊥
no_serve w rows server (inl h) is = no_doors w rows _ _ _ h is.doors_are
no_serve w rows server (inr (inl h)) is = never _ _ _ is.crew_is.division_is h
no_serve w rows server (inr (inr (inl h))) is = no_counts w rows server.division server.workers server.talks h is.crew_is
no_serve w rows server (inr (inr (inr (inl h)))) is = no_tokens w rows _ _ _ h is.tokens_are
no_serve w rows server (inr (inr (inr (inr (inl h))))) is = never _ _ _ is.forward_is h
no_serve w rows server (inr (inr (inr (inr (inr h))))) is = never _ _ _ is.status_is h

wrong_by : (name : Text) (w : WordsFault) (rows : List Row) (command : Command) → WrongBy name w rows → name_of command ≡ name → IsCommandBy command rows → ⊥
wrong_by name w rows command (no_name none other is) at asks = none command at
wrong_by name w rows (Format slots size) (in_format is h) at asks = no_format w rows slots size h asks
wrong_by name w rows command (in_format is h) at asks = apart (name_of command) _ refl (at ∙ is)
wrong_by name w rows (ListCommand form) (in_list is h) at asks = never _ _ _ asks h
wrong_by name w rows command (in_list is h) at asks = apart (name_of command) _ refl (at ∙ is)
wrong_by name w rows (Replay proto token ack_token) (in_replay is h) at asks = no_replay w rows proto token ack_token h asks
wrong_by name w rows command (in_replay is h) at asks = apart (name_of command) _ refl (at ∙ is)
wrong_by name w rows (Drain receiver place) (in_drain is h) at asks = no_drain w rows receiver place h asks
wrong_by name w rows command (in_drain is h) at asks = apart (name_of command) _ refl (at ∙ is)
wrong_by name w rows (Load proto number count) (in_load is h) at asks = no_load w rows proto number count h asks
wrong_by name w rows command (in_load is h) at asks = apart (name_of command) _ refl (at ∙ is)
wrong_by name w rows (Serve server) (in_serve is h) at asks = no_serve w rows server h asks
wrong_by name w rows command (in_serve is h) at asks = apart (name_of command) _ refl (at ∙ is)
wrong_by name w rows command (in_move is h) at asks = no_move_name command (at ∙ is)

pub wrong_is_none : (w : WordsFault) (words : List Text) → IsWrong w words → IsNoCommand words
wrong_is_none w words (refused why among is) command c = subst (IsAmong why) c.taken among
wrong_is_none w words (nameless none is) command c = let both : ◌≡◌ {A = Option (Text × List Row)} None (Some (name_of command, c.rows)) = sym none ∙ c.found in absurd (cc)
wrong_is_none w words (found name rows at h) command c =
    let both : ◌≡◌ {A = Option (Text × List Row)} (Some (name_of command, c.rows)) (Some (name, rows)) = sym c.found ∙ at in
    wrong_by name w rows command h (same_name _ _ _ _ both) (subst (IsCommandBy command) (same_rows _ _ _ _ both) c.asks)

-- and move nothing

no_pair : (w : WordsFault) (rows : List Row) (target : Text) (tag : ℕ) → WrongMove w rows → IsPair target tag rows → ⊥
no_pair w rows target tag (inl h) is = never _ _ _ is.target_is h
no_pair w rows target tag (inr h) is = never _ _ _ is.tag_is h

wrong_move : (name : Text) (w : WordsFault) (rows : List Row) (target : Text) (tag : ℕ) → WrongBy name w rows → codes "move" ≡ name → IsPair target tag rows → ⊥
wrong_move name w rows target tag (no_name none other is) at asks = other (sym at)
wrong_move name w rows target tag (in_format is h) at asks = apart (codes "move") _ refl (at ∙ is)
wrong_move name w rows target tag (in_list is h) at asks = apart (codes "move") _ refl (at ∙ is)
wrong_move name w rows target tag (in_replay is h) at asks = apart (codes "move") _ refl (at ∙ is)
wrong_move name w rows target tag (in_drain is h) at asks = apart (codes "move") _ refl (at ∙ is)
wrong_move name w rows target tag (in_load is h) at asks = apart (codes "move") _ refl (at ∙ is)
wrong_move name w rows target tag (in_serve is h) at asks = apart (codes "move") _ refl (at ∙ is)
wrong_move name w rows target tag (in_move is h) at asks = no_pair w rows target tag h asks

pub wrong_is_no_move : (w : WordsFault) (words : List Text) → IsWrong w words → IsNoMove words
wrong_is_no_move w words (refused why among is) target tag c = subst (IsAmong why) c.taken among
wrong_is_no_move w words (nameless none is) target tag c = let both : ◌≡◌ {A = Option (Text × List Row)} None (Some (codes "move", c.rows)) = sym none ∙ c.found in absurd (cc)
wrong_is_no_move w words (found name rows at h) target tag c =
    let both : ◌≡◌ {A = Option (Text × List Row)} (Some (codes "move", c.rows)) (Some (name, rows)) = sym c.found ∙ at in
    wrong_move name w rows target tag h (same_name _ _ _ _ both) (subst (IsPair target tag) (same_rows _ _ _ _ both) c.asks)

-- what a kind of clap's errors says, where it isn't for want of memory
fault_is : (why : ErrorKind) (w : WordsFault) → unread_for why ≡ Wrong w → w ≡ fault_for why
fault_is kind.OutOfMemory w is = absurd (cc)
fault_is why w is = cc

pub kind_is : (why : ErrorKind) (w : WordsFault) (words : List Text) → (why ≡ kind.OutOfMemory) ⊎ IsAmong why (refusals words) → unread_for why ≡ Wrong w → IsWrong w words
kind_is why w words (inl memory) is = let none : unread_for kind.OutOfMemory ≡ Wrong w = subst (λ (k : ErrorKind). unread_for k ≡ Wrong w) memory is in absurd (cc)
kind_is why w words (inr among) is = refused why among (fault_is why w is)
