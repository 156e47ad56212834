-- How the words are read that rescue entries into another spool.
use Rattle.std.proofs.Common.{◌≡◌, ◌∙◌, List, [], ◌∷◌, ◌++◌, inl, inr, refl, sym, ap, subst, append_assoc, codes}
use Rattle.std.specs.Prelude.{◌≢◌, Option, None, Some, IfSome}
use Rattle.std.proofs.lemmas.List.{append-nil}
use Rattle.cli_parts.specs.declared.restore_words.Said.{Said}
use Rattle.cli_parts.specs.declared.restore_words.RestoreWords.{RestoreWords}
use Rattle.cli_parts.specs.RunOptions.{Text, option_name}
use Rattle.cli_parts.specs.RestoreWords.{IsOption, IsPlace, Says, place, target, tag, IsRestore}
use Rattle.cli_parts.specs.RestoreParts.{text_in, places_in, SaysPlace, SaysTarget, SaysTag, SaysThese, IsNextSaid, ReadsSaid, AsksFor}

-- ---- one word, or an option with its value

-- what was said before, with one more of it
says_as : (read places places' : List Text) (to to' by by' : Option Text) → places ≡ places' → to ≡ to' → by ≡ by' → Says read places to by → Says read places' to' by'
says_as read places places' to to' by by' one two three says =
    subst (λ (o : Option Text). Says read places' to' o) three
    (subst (λ (o : Option Text). Says read places' o by) two (subst (λ (l : List Text). Says read l to by) one says))

then_place : (old new : Said) (word : Text) → IsPlace word → SaysPlace old word new → (read : List Text) → SaysThese read old → SaysThese (read ++ word ∷ []) new
then_place old new word is next read says =
    says_as (read ++ word ∷ []) _ _ _ _ _ _ (sym next.0) (sym next.1) (sym next.2) (place says is)

then_target : (old new : Said) (own : List Text) (value : Text) → IsOption (codes "--into") own value → SaysTarget old value new → (read : List Text) → SaysThese read old
    → SaysThese (read ++ own) new
then_target old new own value is next read says =
    let before = says_as read _ (places_in old.slots old.size) _ None _ (text_in old.tag) refl next.0 refl says in
    says_as (read ++ own) _ _ _ _ _ _ (sym next.2) (sym next.1) (sym next.3) (target before is)

then_tag : (old new : Said) (own : List Text) (value : Text) → IsOption (codes "--tag") own value → SaysTag old value new → (read : List Text) → SaysThese read old
    → SaysThese (read ++ own) new
then_tag old new own value is next read says =
    let before = says_as read _ (places_in old.slots old.size) _ (text_in old.target) _ None refl refl next.0 says in
    says_as (read ++ own) _ _ _ _ _ _ (sym next.2) (sym next.3) (sym next.1) (tag before is)

pub next_place : (old new : Said) (word : Text) (more : List Text) → IsPlace word → SaysPlace old word new → IsNextSaid (word ∷ more) more old new
next_place old new word more is next = record { own = word ∷ []; words_are = refl; goes_on = then_place old new word is next }

pub next_target : (old new : Said) (word value : Text) (whole more : List Text) → whole ≡ value ∷ more → word ≡ codes "--into" → SaysTarget old value new
    → IsNextSaid (word ∷ whole) more old new
next_target old new word value whole more whole_is is next = record {
  own = word ∷ value ∷ [];
  words_are = ap (λ (l : List Text). word ∷ l) whole_is;
  goes_on = then_target old new (word ∷ value ∷ []) value (inl (ap (λ (w : Text). w ∷ value ∷ []) is)) next;
}

pub next_target_with : (old new : Said) (word value : Text) (more : List Text) → word ≡ codes "--into=" ++ value → SaysTarget old value new → IsNextSaid (word ∷ more) more old new
next_target_with old new word value more is next = record {
  own = word ∷ [];
  words_are = refl;
  goes_on = then_target old new (word ∷ []) value (inr (ap (λ (w : Text). w ∷ []) is)) next;
}

pub next_tag : (old new : Said) (word value : Text) (whole more : List Text) → whole ≡ value ∷ more → word ≡ codes "--tag" → SaysTag old value new
    → IsNextSaid (word ∷ whole) more old new
next_tag old new word value whole more whole_is is next = record {
  own = word ∷ value ∷ [];
  words_are = ap (λ (l : List Text). word ∷ l) whole_is;
  goes_on = then_tag old new (word ∷ value ∷ []) value (inl (ap (λ (w : Text). w ∷ value ∷ []) is)) next;
}

pub next_tag_with : (old new : Said) (word value : Text) (more : List Text) → word ≡ codes "--tag=" ++ value → SaysTag old value new → IsNextSaid (word ∷ more) more old new
next_tag_with old new word value more is next = record {
  own = word ∷ [];
  words_are = refl;
  goes_on = then_tag old new (word ∷ []) value (inr (ap (λ (w : Text). w ∷ []) is)) next;
}

-- the word has no `=`, or its name is none of the two
pub place_of : (word name : Text) → option_name word ≡ name → name ≢ codes "--into" → name ≢ codes "--tag" → IsPlace word
place_of word name is no_target no_tag = record { no_target = λ same. no_target (sym is ∙ same); no_tag = λ same. no_tag (sym is ∙ same) }

-- ---- all words up to here

pub said_none : (words : List Text) (said : Said) → SaysThese [] said → ReadsSaid words words said
said_none words said says = record { read = []; words_are = refl; says = says }

pub said_next : (words whole left : List Text) (word : Text) (more : List Text) (old new : Said) → ReadsSaid words whole old → whole ≡ word ∷ more
    → IsNextSaid (word ∷ more) left old new → ReadsSaid words left new
said_next words whole left word more old new so_far is next = record {
  read = so_far.read ++ next.own;
  words_are = so_far.words_are ∙ ap (λ (l : List Text). so_far.read ++ l) (is ∙ next.words_are) ∙ sym (append_assoc so_far.read next.own left);
  says = next.goes_on so_far.read so_far.says;
}

pub said_all : (words left : List Text) (said : Said) → ReadsSaid words left said → left ≡ [] → SaysThese words said
said_all words left said so_far none =
    subst (λ (l : List Text). SaysThese l said) (sym (so_far.words_are ∙ ap (λ (l : List Text). so_far.read ++ l) none ∙ append-nil so_far.read)) so_far.says

-- ---- what is asked for

pub restores_if : (words : List Text) (name : Text) (rest : List Text) (said : Said) (restore : RestoreWords) → words ≡ name ∷ rest → name ≡ codes "rescue" → SaysThese rest said
    → AsksFor said restore → IsRestore restore words
restores_if words name rest said restore are is says asks = record {
  rest = rest;
  places = places_in said.slots said.size;
  tag_word = asks.word;
  named = are ∙ ap (λ (w : Text). w ∷ rest) is;
  says = says_as rest _ (places_in said.slots said.size) _ (Some restore.target.now) _ (Some asks.word) refl asks.target asks.tag says;
  layout = asks.layout;
  tag_is = asks.tag_is;
}

pub some_as : {X : Type 0} (r : Option X) (P Q : X → Type 0) → ((x : X) → P x → Q x) → IfSome r P → IfSome r Q
some_as None P Q goes is = tt
some_as (Some x) P Q goes is = goes x is
