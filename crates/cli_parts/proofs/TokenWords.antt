-- A word of a list of words, and one that is put in its place.
use Rattle.std.proofs.Common.{◌≡◌, ◌∙◌, ℕ, ◌<◌, List, [], length, get_or, map, set, ap}
use Rattle.std.proofs.lemmas.List.{map-set, get_or-map}

pub put : {A B : Type 0} (f : A → B) (words : List A) (at : ℕ) (word : A) (text : B) → f word ≡ text → map f (set words at word) ≡ set (map f words) at text
put f words at word text is = map-set f words at word ∙ ap (set (map f words) at) is

pub here : {A : Type 0} (f : A → List ℕ) (words : List A) (at : ℕ) (d : A) (text : List ℕ) → at < length words → f (get_or words at d) ≡ text
    → get_or (map f words) at [] ≡ text
here f words at d text within is = get_or-map f words at d [] within ∙ is
