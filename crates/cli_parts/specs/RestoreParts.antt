-- How the words after the name are read that rescue entries into another spool.
use Rattle.std.specs.Prelude.{◌≡◌, ◌≢◌, ℕ, List, [], ◌∷◌, ◌++◌, Option, None, Some, codes}
use Rattle.std.specs.Borrow.{Bor}
use Rattle.cli_parts.specs.declared.restore_words.Part.{Part}
use Rattle.cli_parts.specs.declared.restore_words.Part.TheVariants.{Into, IntoWith, Tag, TagWith, Place}
use Rattle.cli_parts.specs.declared.restore_words.Said.{Said}
use Rattle.cli_parts.specs.declared.restore_words.RestoreWords.{RestoreWords}
use Rattle.cli_parts.specs.RunOptions.{Text}
use Rattle.cli_parts.specs.RestoreWords.{IsPlace, Says, IsLayoutIn, IsTagWord}

-- what the word is
abbrev pub IsPart : Part → Text → Type 0
IsPart Into word = word ≡ codes "--into"
IsPart (IntoWith value) word = word ≡ codes "--into=" ++ value.now
IsPart Tag word = word ≡ codes "--tag"
IsPart (TagWith value) word = word ≡ codes "--tag=" ++ value.now
IsPart Place word = IsPlace word

-- the same of a word without `=`
abbrev pub IsPlainPart : Part → Text → Type 0
IsPlainPart Into word = word ≡ codes "--into"
IsPlainPart Tag word = word ≡ codes "--tag"
IsPlainPart Place word = (word ≢ codes "--into") × (word ≢ codes "--tag")
IsPlainPart part word = ⊥

-- the bytes of a word, where there is one
abbrev pub text_in : Option (Bor (List ℕ)) → Option Text
text_in None = None
text_in (Some word) = Some word.now

-- the words that are no option, of which there are two at most
abbrev pub places_in : Option (Bor (List ℕ)) → Option (Bor (List ℕ)) → List Text
places_in None size = []
places_in (Some slots) None = slots.now ∷ []
places_in (Some slots) (Some size) = slots.now ∷ size.now ∷ []

-- one more of these was said
abbrev pub SaysPlace : Said → Text → Said → Type 0
SaysPlace old word new =
    (places_in new.slots new.size ≡ places_in old.slots old.size ++ word ∷ []) × (text_in new.target ≡ text_in old.target) × (text_in new.tag ≡ text_in old.tag)

-- TARGET was said, for the first time
abbrev pub SaysTarget : Said → Text → Said → Type 0
SaysTarget old value new =
    (text_in old.target ≡ None) × (text_in new.target ≡ Some value) × (places_in new.slots new.size ≡ places_in old.slots old.size) × (text_in new.tag ≡ text_in old.tag)

-- TAG was
abbrev pub SaysTag : Said → Text → Said → Type 0
SaysTag old value new =
    (text_in old.tag ≡ None) × (text_in new.tag ≡ Some value) × (places_in new.slots new.size ≡ places_in old.slots old.size) × (text_in new.target ≡ text_in old.target)

-- these words say it
abbrev pub SaysThese : List Text → Said → Type 0
SaysThese words said = Says words (places_in said.slots said.size) (text_in said.target) (text_in said.tag)

-- Some of the words are read, and these are left: whatever was read before, what is said goes on with them.
pub record IsNextSaid (words left : List Text) (old new : Said) : Type 0 where
  pub own : List Text
  pub words_are : words ≡ own ++ left
  pub goes_on : (read : List Text) → SaysThese read old → SaysThese (read ++ own) new

-- so much of the words is read
pub record ReadsSaid (words left : List Text) (said : Said) : Type 0 where
  pub read : List Text
  pub words_are : words ≡ read ++ left
  pub says : SaysThese read said

-- what was said asks for this
pub record AsksFor (said : Said) (restore : RestoreWords) : Type 0 where
  pub word : Text
  pub target : text_in said.target ≡ Some restore.target.now
  pub tag : text_in said.tag ≡ Some word
  pub tag_is : IsTagWord restore.tag word
  pub layout : IsLayoutIn restore.layout (places_in said.slots said.size)
