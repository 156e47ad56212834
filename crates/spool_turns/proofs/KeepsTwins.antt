-- Each step keeps the rule of the two seats.
use Rattle.std.proofs.Common.{◌≡◌, ◌≢◌, ⊎_elim, ℕ, zero, suc, List, [], ◌∷◌, ◌++◌, length, set, refl, sym, ◌∙◌, subst}
use mathlib.Core.Option.{some, some-ne-none, some-injective}
use lib.ListN.{get_elem?}
use Rattle.atomic_table.specs.Table.{State as Table, Me, keeps, Allows, Splits, Joins, opening}
use Rattle.spool_turns.specs.declared.view.Twin.{Twin}
use Rattle.spool_turns.specs.declared.view.Twin.TheVariants.{OfSpool, OfJournal, Both, Spent}
use Rattle.spool_turns.specs.Twins.{Pair, Fits, AreOfOne, of_both, meeting, journal_part, spool_part, Matches, Moves}
use Rattle.spool_turns.proofs.Views.{at_set', at_snoc'}

-- the rule of the table
abbrev pub holds : {A : Type 0} → Table A (Twin A) → Type 0
holds s = AreOfOne s.views

fits_set : {A : Type 0} (g : Pair A) (views : List (Twin A)) (i : ℕ) (w : Twin A) → ((j : ℕ) (u : Twin A) → j ≢ i → get_elem? views j ≡ some u → Fits g j u) → Fits g i w
    → (j : ℕ) (u : Twin A) → get_elem? (set views i w) j ≡ some u → Fits g j u
fits_set {A = A} g views i w others mine j u e =
    ⊎_elim
    (λ (x : (j ≡ i) × (w ≡ u)). subst (λ (y : ℕ × Twin A). Fits g y.0 y.1) (λ k. (sym x.0 k, x.1 k)) mine)
    (λ (x : (j ≢ i) × (get_elem? views j ≡ some u)). others j u x.0 x.1)
    (at_set' views i j w u e)

-- the same, where another seat is left out
fits_set_but : {A : Type 0} (g : Pair A) (views : List (Twin A)) (i other : ℕ) (w : Twin A) → ((j : ℕ) (u : Twin A) → j ≢ other → j ≢ i → get_elem? views j ≡ some u → Fits g j u) → Fits g i w
    → (j : ℕ) (u : Twin A) → j ≢ other → get_elem? (set views i w) j ≡ some u → Fits g j u
fits_set_but {A = A} g views i other w others mine j u apart e =
    ⊎_elim
    (λ (x : (j ≡ i) × (w ≡ u)). subst (λ (y : ℕ × Twin A). Fits g y.0 y.1) (λ k. (sym x.0 k, x.1 k)) mine)
    (λ (x : (j ≢ i) × (get_elem? views j ≡ some u)). others j u apart x.0 x.1)
    (at_set' views i j w u e)

fits_snoc : {A : Type 0} (g : Pair A) (views : List (Twin A)) (w : Twin A) → ((j : ℕ) (u : Twin A) → get_elem? views j ≡ some u → Fits g j u) → Fits g (length views) w
    → (j : ℕ) (u : Twin A) → get_elem? (views ++ w ∷ []) j ≡ some u → Fits g j u
fits_snoc {A = A} g views w others mine j u e =
    ⊎_elim
    (λ (x : get_elem? views j ≡ some u). others j u x)
    (λ (x : (j ≡ length views) × (w ≡ u)). subst (λ (y : ℕ × Twin A). Fits g y.0 y.1) (λ k. (sym x.0 k, x.1 k)) mine)
    (at_snoc' views w u j e)

-- the spool's seat is another one
abbrev spool_at : {A : Type 0} → Pair A → ℕ → Pair A
spool_at g k = record { spool = k; journal = g.journal; desk = g.desk }

others_stay : {A : Type 0} (g : Pair A) (k j : ℕ) (u : Twin A) → j ≢ g.spool → Fits g j u → Fits (spool_at g k) j u
others_stay g k j (OfSpool a) ne x = absurd (ne (sym x.0))
others_stay g k j (OfJournal a) ne x = x
others_stay g k j (Both a b) ne x = absurd (ne (sym x.0))
others_stay g k j Spent ne x = tt

-- the spool's seat gives its view to a new one
pub hands_over : {A : Type 0} (id : ℕ) (a : A) → Splits holds id (OfSpool a) Spent (OfSpool a)
hands_over {A = A} id a s kept at =
    let g = kept.0 in
    let mine : Fits g id (OfSpool a) = kept.1 id (OfSpool a) at in
    let gone : Twin A = Spent in
    let left = set s.views id gone in
    let g' = spool_at g (length left) in (
      g',
      fits_snoc g' left (OfSpool a)
          (fits_set g' s.views id gone (λ j u ne e. others_stay g (length left) j u (λ same. ne (same ∙ mine.0)) (kept.1 j u e)) tt)
          (refl, mine.1),
    )

-- it comes to that of the journal
pub meets : {A : Type 0} (id : ℕ) (b : A) (other : ℕ) (a : A) → Joins holds id (OfJournal b) other (OfSpool a) (Both a b) Spent
meets {A = A} id b other a s kept at apart there =
    let g = kept.0 in
    let mine : Fits g id (OfJournal b) = kept.1 id (OfJournal b) at in
    let w = Both a b in
    let gone : Twin A = Spent in
    let was : get_elem? s.views other ≡ some (OfSpool a) = ⊎_elim (λ (t : (other ≡ id) × (w ≡ OfSpool a)). absurd (apart t.0)) (λ (t : (other ≢ id) × (get_elem? s.views other ≡ some (OfSpool a))). t.1) (at_set' s.views id other w (OfSpool a) there) in
    let theirs : Fits g other (OfSpool a) = kept.1 other (OfSpool a) was in
    let g' = spool_at g id in (
      g',
      fits_set g' (set s.views id w) other gone
          (λ j u apart' e. fits_set_but g' s.views id other w (λ j' u' ne' ne e'. others_stay g id j' u' (λ same. ne' (same ∙ theirs.0)) (kept.1 j' u' e')) (refl, mine.0, theirs.1, mine.1) j u apart' e)
          tt,
    )

-- what each knew is the same
pub matches : {A : Type 0} (slots id : ℕ) (a b : A) → Allows holds slots id (of_both a b) 0 (λ n. n) (λ _. Matches (of_both a b))
matches slots id a b s kept homes at bound =
    let g = kept.0 in
    let v = Both a b in
    let mine : Fits g id v = kept.1 id v at in
    (v, keeps, tt, (g, fits_set g s.views id v (λ j u ne e. kept.1 j u e) mine), (refl, mine.2 ∙ sym mine.3))

-- the desk is another one
abbrev desk_at : {A : Type 0} → Pair A → A → Pair A
desk_at g c = record { spool = g.spool; journal = g.journal; desk = c }

others_spent : {A : Type 0} (g : Pair A) (c : A) (id j : ℕ) (u : Twin A) → g.spool ≡ id → g.journal ≡ id → j ≢ id → Fits g j u → Fits (desk_at g c) j u
others_spent g c id j (OfSpool a) spool journal ne x = absurd (ne (sym x.0 ∙ spool))
others_spent g c id j (OfJournal a) spool journal ne x = absurd (ne (sym x.0 ∙ journal))
others_spent g c id j (Both a b) spool journal ne x = absurd (ne (sym x.0 ∙ spool))
others_spent g c id j Spent spool journal ne x = tt

pub moves : {A : Type 0} (slots id word : ℕ) (f : ℕ → ℕ) (a b c : A) → Allows holds slots id (of_both a b) word f (λ _. Moves (some c) (of_both a b))
moves slots id word f a b c s kept homes at bound =
    let g = kept.0 in
    let v = Both a b in
    let w = Both c c in
    let mine : Fits g id v = kept.1 id v at in
    let g' = desk_at g c in
    (w, keeps, tt, (g', fits_set g' s.views id w (λ j u ne e. others_spent g c id j u mine.0 mine.1 ne (kept.1 j u e)) (mine.0, mine.1, refl, refl)), refl)

-- the two part
pub parts : {A : Type 0} (id : ℕ) (a b : A) → Splits holds id (Both a b) (OfJournal b) (OfSpool a)
parts {A = A} id a b s kept at =
    let g = kept.0 in
    let mine : Fits g id (Both a b) = kept.1 id (Both a b) at in
    let kw : Twin A = OfJournal b in
    let left = set s.views id kw in
    let g' = spool_at g (length left) in (
      g',
      fits_snoc g' left (OfSpool a)
          (fits_set g' s.views id kw (λ j u ne e. others_stay g (length left) j u (λ same. ne (same ∙ mine.0)) (kept.1 j u e)) (mine.1, mine.3))
          (refl, mine.2),
    )

-- one seat has both at first
pub begins : {A : Type 0} (words : List ℕ) (a : A) → holds (opening words [] (Both a a))
begins {A = A} words a = (record { spool = 0; journal = 0; desk = a }, one)
  where
    one : (id : ℕ) (v : Twin A) → get_elem? (Both a a ∷ []) id ≡ some v → Fits (record { spool = 0; journal = 0; desk = a }) id v
    one zero v e = subst (Fits (record { spool = 0; journal = 0; desk = a }) 0) (some-injective _ _ e) (refl, refl, refl, refl)
    one (suc id) v e = absurd (some-ne-none v (sym e))

-- the same, at views that are known
pub hands_over_as : {A : Type 0} (id : ℕ) (v : Twin A) (a : A) → v ≡ OfSpool a → Splits holds id v Spent v
hands_over_as {A = A} id v a is = subst (λ (x : Twin A). Splits holds id x Spent x) (sym is) (hands_over id a)

pub meets_as : {A : Type 0} (id : ℕ) (v : Twin A) (b : A) (other : ℕ) (w : Twin A) (a : A) → v ≡ OfJournal b → w ≡ OfSpool a → Joins holds id v other w (meeting v w) Spent
meets_as {A = A} id v b other w a is it = subst (λ (x : Twin A × Twin A). Joins holds id x.0 other x.1 (meeting x.0 x.1) Spent) (λ i. (sym is i, sym it i)) (meets id b other a)

pub matches_as : {A : Type 0} (slots id : ℕ) (a b : A) (me : Me A (Twin A)) → me ≡ of_both a b → Allows holds slots id me 0 (λ n. n) (λ _. Matches me)
matches_as {A = A} slots id a b me is = subst (λ (x : Me A (Twin A)). Allows holds slots id x 0 (λ n. n) (λ _. Matches x)) (sym is) (matches slots id a b)

pub moves_as : {A : Type 0} (slots id word : ℕ) (f : ℕ → ℕ) (a b c : A) (me : Me A (Twin A)) → me ≡ of_both a b → Allows holds slots id me word f (λ _. Moves (some c) me)
moves_as {A = A} slots id word f a b c me is = subst (λ (x : Me A (Twin A)). Allows holds slots id x word f (λ _. Moves (some c) x)) (sym is) (moves slots id word f a b c)

pub parts_as : {A : Type 0} (id : ℕ) (a b : A) (v : Twin A) → v ≡ Both a b → Splits holds id v (journal_part v) (spool_part v)
parts_as {A = A} id a b v is = subst (λ (x : Twin A). Splits holds id x (journal_part x) (spool_part x)) (sym is) (parts id a b)
