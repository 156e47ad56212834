-- The target's pending entries, looked through for a tag.
use Rattle.std.proofs.Common.{◌≡◌, ℕ, ◌<◌, ◌≤◌, List, [], ◌∷◌, ◌++◌, drop, sym, ◌∙◌, ap, subst, append_assoc}
use Rattle.std.proofs.lemmas.List.Elements.{All-append, All-nil, All-cons}
use Rattle.std.specs.Prelude.{◌≢◌, take}
use Rattle.spool_state.specs.SpoolState.{SpoolState}
use Rattle.spool_state.specs.Left.{NumberedEntry, left, left_from}
use Rattle.spool_answers.specs.declared.numbered.Numbered.{Numbered}
use Rattle.spool_answers.specs.Pend.{given_entries}
use Rattle.spool_move.specs.Moved.{connection_of}
use Rattle.spool_move.proofs.Pages.{page_parts}
use Rattle.bridge_restore.specs.Fresh.{IsFresh, HasTagged}

-- one more without it
pub fresh_push : (tag : ℕ) (before : List NumberedEntry) (one : NumberedEntry) → IsFresh tag before → one.entry.conn ≢ connection_of tag → IsFresh tag (before ++ one ∷ [])
fresh_push tag before one fresh other =
    let P : NumberedEntry → Type 0 = λ e. e.entry.conn ≢ connection_of tag in
    All-append P before (one ∷ []) fresh (All-cons P one [] other (All-nil P))

pub fresh_then : (tag : ℕ) (before more : List NumberedEntry) → IsFresh tag before → IsFresh tag more → IsFresh tag (before ++ more)
fresh_then tag before more fresh fresh' = All-append (λ e. e.entry.conn ≢ connection_of tag) before more fresh fresh'

-- one that has it is among these, and so among these with others around
pub tagged_amid : (tag : ℕ) (before there more : List NumberedEntry) (number : ℕ) → IsFresh tag before → HasTagged tag there number → HasTagged tag ((before ++ there) ++ more) number
tagged_amid tag before there more number fresh h = record {
  before = before ++ h.before;
  one = h.one;
  behind = h.behind ++ more;
  whole =
      ap (λ (l : List NumberedEntry). (before ++ l) ++ more) h.whole
      ∙ ap (λ (l : List NumberedEntry). l ++ more) (sym (append_assoc before h.before (h.one ∷ h.behind)))
      ∙ append_assoc (before ++ h.before) (h.one ∷ h.behind) more;
  none_before = fresh_then tag before h.before fresh h.none_before;
  conn = h.conn;
  number_is = h.number_is;
}

-- it is one of the page's
pub tagged_in : (tag : ℕ) (s : SpoolState) (before : List NumberedEntry) (from k number : ℕ) (given : List Numbered) → left s ≡ before ++ left_from s from
    → given_entries given ≡ take k (left_from s from) → IsFresh tag before → HasTagged tag (given_entries given) number → HasTagged tag (left s) number
tagged_in tag s before from k number given whole is fresh h =
    subst (λ (l : List NumberedEntry). HasTagged tag l number) (sym (page_parts s before from k given whole is))
    (tagged_amid tag before (given_entries given) (drop k (left_from s from)) number fresh h)
