-- Stretches that are marked are joined, and there is one way to keep what is known then.
use Rattle.std.proofs.Common.{◌≡◌, ◌↔◌, inl, inr, ℕ, ◌+◌, ◌<◌, ◌≤◌, List, [], ◌∷◌, length, sym, ◌∙◌, ap, subst, arith}
use Rattle.std.proofs.lemmas.Bool.{cases_lt}
use Rattle.known_numbers.specs.declared.stretch.TheConstants.{MOST_STRETCHES}
use Rattle.known_numbers.specs.declared.stretch.Stretch.{Stretch}
use Rattle.known_numbers.specs.Numbers.{IsInSome, Numbers, IsKnown, IsSound, joined, marked}
use Rattle.known_numbers.proofs.OneForm.{one_form}
use Rattle.known_numbers.proofs.Joining.{joined_knows, joined_apart, joined_few}
use Rattle.known_numbers.proofs.Marking.{fitting_new, fitting_old, marked_sound, marked_keeps, marked_only, confirmed_fits, below}
use Rattle.format_laws.specs.Marked.{IsJoined, IsMarked, AddsOnly, KnowsAll}

is_joined : (a : Numbers) (m : Stretch) → IsSound a → IsJoined a m (joined a m)
is_joined a m sound = record { knows = joined_knows a m; apart = joined_apart a m sound.apart }

one_joined : (a b : Numbers) (m : Stretch) → IsSound a → IsJoined a m b → joined a m ≡ b
one_joined a b m sound is =
    one_form (joined a m) b (joined_apart a m sound.apart) is.apart
    (λ n. (λ known. (is.knows n).1 ((joined_knows a m n).0 known), λ known. (joined_knows a m n).1 ((is.knows n).0 known)))

sound_joined : (a : Numbers) (m : Stretch) → IsSound a → length (joined a m).stretches ≤ MOST_STRETCHES → IsSound (joined a m)
sound_joined a m sound few = record { apart = joined_apart a m sound.apart; few = few }

marked_new : (a : Numbers) (m : Stretch) (more : List Stretch) → length (joined a m).stretches ≤ MOST_STRETCHES → marked (joined a m) more ≡ marked a (m ∷ more)
marked_new a m more few = ap (λ (x : Numbers). marked x more) (fitting_new (joined a m) a few)

marked_old : (a : Numbers) (m : Stretch) (more : List Stretch) → MOST_STRETCHES < length (joined a m).stretches → marked a more ≡ marked a (m ∷ more)
marked_old a m more many = ap (λ (x : Numbers). marked x more) (fitting_old (joined a m) a many)

abbrev Few : Numbers → Type 0
Few c = length c.stretches ≤ MOST_STRETCHES

abbrev Many : Numbers → Type 0
Many c = MOST_STRETCHES < length c.stretches

there : (a b : Numbers) (more : List Stretch) → IsSound a → IsMarked a more b → marked a more ≡ b
there a b [] sound is = is
there a b (m ∷ more) sound (c, is, inl (few, others)) =
    let same : c ≡ joined a m = sym (one_joined a c m sound is) in
    let small : Few (joined a m) = subst Few same few in
    sym (marked_new a m more small) ∙ there (joined a m) b more (sound_joined a m sound small) (subst (λ (x : Numbers). IsMarked x more b) same others)
there a b (m ∷ more) sound (c, is, inr (many, others)) =
    let large : Many (joined a m) = subst Many (sym (one_joined a c m sound is)) many in
    sym (marked_old a m more large) ∙ there a b more sound others

back : (a b : Numbers) (more : List Stretch) → IsSound a → marked a more ≡ b → IsMarked a more b
back a b [] sound is = is
back a b (m ∷ more) sound is = elim (cases_lt MOST_STRETCHES (length (joined a m).stretches)) [
  | inl many ↦ (joined a m, is_joined a m sound, inr (many, back a b more sound (marked_old a m more many ∙ is)))
  | inr few ↦ (joined a m, is_joined a m sound, inl (few, back (joined a m) b more (sound_joined a m sound few) (marked_new a m more few ∙ is)))
]

pub marks_are_joined : (a b : Numbers) (more : List Stretch) → IsSound a → IsMarked a more b ↔ (marked a more ≡ b)
marks_are_joined a b more sound = (there a b more sound, back a b more sound)

-- ---- what is known then

pub marks_add : (a : Numbers) (more : List Stretch) → IsSound a → AddsOnly a more (marked a more)
marks_add a more sound = record { stays = marked_keeps a more; only = marked_only a more; sound = marked_sound a more sound }

-- so many that all fit
all_known : (a : Numbers) (more : List Stretch) → IsSound a → length a.stretches + length more ≤ MOST_STRETCHES → (n : ℕ) → IsInSome more n → IsKnown (marked a more) n
all_known a [] sound few n is = absurd is
all_known a (m ∷ more) sound few n is =
    let small : Few (joined a m) = omega (arith, joined_few a m) in
    subst (λ (x : Numbers). IsKnown x n) (marked_new a m more small) (elim is [
      | inl here ↦ marked_keeps (joined a m) more n ((joined_knows a m n).1 (inr here))
      | inr there ↦ all_known (joined a m) more (sound_joined a m sound small) (omega (arith, joined_few a m)) n there
    ])

pub few_known : (a : Numbers) (more : List Stretch) → IsSound a → length a.stretches + length more ≤ MOST_STRETCHES → KnowsAll a more (marked a more)
few_known a more sound few n = (marked_only a more n, λ known. elim known [ inl was ↦ marked_keeps a more n was | inr is ↦ all_known a more sound few n is ])

-- the numbers below one
pub low_known : (a : Numbers) (upto : ℕ) → IsSound a → KnowsAll a (below upto ∷ []) (marked a (below upto ∷ []))
low_known a upto sound n = (marked_only a (below upto ∷ []) n, λ known. elim known [ inl was ↦ marked_keeps a (below upto ∷ []) n was | inr is ↦ there is ]) where
  there : IsInSome (below upto ∷ []) n → IsKnown (marked a (below upto ∷ [])) n
  there (inl is) = subst (λ (x : Numbers). IsKnown x n) (sym (confirmed_fits a upto sound)) ((joined_knows a (below upto) n).1 (inr is))
  there (inr none) = absurd none
