-- The words that rescue entries.
use Rattle.std.specs.Prelude.{◌≡◌, List, [], ◌∷◌, Option, None, Some, codes}
use Rattle.bridge_words.specs.Values.{number}
use Rattle.bridge_rescue.specs.declared.layout.Layout.{Layout}
use Rattle.cli_parts.specs.RunOptions.{Text}

-- the two words write the numbers of the layout, in 1 to 10 decimal digits each
pub record IsLayoutWords (layout : Layout) (slots size : Text) : Type 0 where
  pub slots_are : number slots ≡ Some layout.slots
  pub size_is : number size ≡ Some layout.size

-- they write those of none
abbrev pub IsNoLayoutWords : Text → Text → Type 0
IsNoLayoutWords slots size = (layout : Layout) → IsLayoutWords layout slots size → ⊥

-- the words are `rescue`, or `rescue SLOTS SIZE` with the numbers of this layout
abbrev pub IsRescue : Option Layout → List Text → Type 0
IsRescue None words = words ≡ codes "rescue" ∷ []
IsRescue (Some layout) words = (slots size : Text) × (words ≡ codes "rescue" ∷ slots ∷ size ∷ []) × IsLayoutWords layout slots size

-- they aren't
abbrev pub IsNoRescue : List Text → Type 0
IsNoRescue words = (layout : Option Layout) → IsRescue layout words → ⊥
