-- How main shares a FILE.
use Rattle.std.specs.Prelude.{ℕ, List}
use Rattle.bridge_words.specs.declared.command.ListForm.{ListForm}
use Rattle.bridge_words.specs.declared.command.Command.{Command}
use Rattle.bridge_words.specs.declared.command.Command.TheVariants.{List as ListCommand, Serve}
use Rattle.bridge_words.specs.declared.command.Server.{Server}
use Rattle.bridge_words.specs.Words.{IsCommand}

-- a command that lists the entries, which changes nothing on the disk
abbrev pub IsList : Command → Type 0
IsList (ListCommand form) = Unit {0}
IsList command = ⊥

-- the words are such a command
abbrev pub AreList : List (List ℕ) → Type 0
AreList words = (form : ListForm) × IsCommand (ListCommand form) words

-- a command that serves many senders, and goes on until its doors are shut
abbrev pub IsServe : Command → Type 0
IsServe (Serve server) = Unit {0}
IsServe command = ⊥

-- the words are such a command
abbrev pub AreServe : List (List ℕ) → Type 0
AreServe words = (server : Server) × IsCommand (Serve server) words
