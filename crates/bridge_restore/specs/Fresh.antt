-- A tag that none of the target's pending entries has.
use Rattle.std.specs.Prelude.{◌≡◌, ◌≢◌, ℕ, List, ◌∷◌, ◌++◌, All}
use Rattle.spool_state.specs.Left.{NumberedEntry}
use Rattle.spool_answers.specs.Pend.{IsNotBroken}
use Rattle.spool_faults.specs.declared.fault.PendFault.{PendFault}
use Rattle.spool_move.specs.Moved.{connection_of}
use Rattle.bridge_restore.specs.declared.fault.StoreFault.{StoreFault}
use Rattle.bridge_restore.specs.declared.fault.StoreFault.TheVariants.{Strange, Unseen, Unread, Untaken}

-- none of these entries has the tag
abbrev pub IsFresh : ℕ → List NumberedEntry → Type 0
IsFresh tag there = All (λ one. one.entry.conn ≢ connection_of tag) there

-- One of these has the tag, and of the first such one this is the index.
pub record HasTagged (tag : ℕ) (there : List NumberedEntry) (number : ℕ) : Type 0 where
  pub before : List NumberedEntry
  pub one : NumberedEntry
  pub behind : List NumberedEntry
  pub whole : there ≡ before ++ one ∷ behind
  pub none_before : IsFresh tag before
  pub conn : one.entry.conn ≡ connection_of tag
  pub number_is : number ≡ one.entry.index

-- the first of these that has the tag was found, or they weren't all read
abbrev pub FindsTagged : ℕ → List NumberedEntry → StoreFault → Type 0
FindsTagged tag there (Strange number) = HasTagged tag there number
FindsTagged tag there (Unseen fault) = IsNotBroken fault
FindsTagged tag there (Unread fault) = ⊥
FindsTagged tag there (Untaken fault) = ⊥

-- why a tag isn't seen to be fresh
abbrev pub IsOfSeeing : StoreFault → Type 0
IsOfSeeing (Strange number) = Unit {0}
IsOfSeeing (Unseen fault) = Unit {0}
IsOfSeeing (Unread fault) = ⊥
IsOfSeeing (Untaken fault) = ⊥
