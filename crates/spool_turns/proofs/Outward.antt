-- A pass that goes out with entries, and comes back.
use Rattle.std.proofs.Common.{◌≡◌, ℕ, ◌<◌, ◌^◌, Bool, true, List, length, refl, sym, ap, ◌∙◌, subst}
use Rattle.std.specs.Prelude.{All, Option, Some}
use Rattle.atomic_table.specs.Table.{Me}
use Rattle.event_form.specs.declared.event.Entry.{Entry}
use Rattle.event_form.specs.Entry.{IsEntry}
use Rattle.desk_access.specs.Division.{DividedRun}
use Rattle.desk_access.specs.Batch.{MayTake, MayUse, IsPlain}
use Rattle.desk_access.specs.Legal.{IsNext, IsUnused}
use Rattle.desk_access.specs.Desk.{DeskState}
use Rattle.spool_turns.specs.Rules.{View, Handed, PassView, handed_by, sent_out, back_again}
use Rattle.spool_turns.specs.Passes.{IsClaim, claim_at, number_in, handed_in, pass_of, known_of, Sound}
use Rattle.spool_turns.specs.Letters.{IsLetter, claimed}

-- what goes out is a letter
pub letter_of : (run : DividedRun) (seats number : ℕ) (entries given : List Entry) (front : Bool) (m : PassView) (me : Me ℕ View) → me ≡ pass_of (sent_out m given front) → given ≡ entries
    → m.number ≡ number → number < seats → 0 < length entries → length entries < 2 ^ 32 → All IsEntry entries → MayTake (IsNext run number m.own) entries → MayUse (IsUnused m.own) entries
    → (front ≡ true → All IsPlain entries) → IsLetter run seats number entries front me
letter_of run seats number entries given front m me is same number_is one_of some few limits next units plain =
    subst (λ (x : Me ℕ View). IsLetter run seats number entries front x) (sym (is ∙ ap (λ (e : List Entry). pass_of (sent_out m e front)) same))
    (record { pass = refl; number_is = number_is; one_of = one_of; out = refl; some = some; few = few; limits = limits; next = next; units = units; plain = plain })

-- a pass is out with one thing
pub same_handed : (h k : Handed) (out : Option Handed) → out ≡ Some h → out ≡ Some k → h ≡ k
same_handed h k out first second = cc (sym first ∙ second)

-- a pass that came back knows the same
pub sound_back : (start : DeskState → Type 0) (m : PassView) → Sound start m → Sound start (back_again m)
sound_back start m sound = record { also = sound.also; own = sound.own; lawful = sound.lawful }

-- The seat keeps the claim of the pass m, which went out with these entries.
module _ (number : ℕ) (m : PassView) (entries : List Entry) (front : Bool) (claim : Me ℕ View) (is : claim ≡ claim_at number (handed_by m entries front)) (number_is : m.number ≡ number) where
  pub is_claim : IsClaim claim
  is_claim = subst IsClaim (sym is) refl

  pub number_out : number_in claim.0 ≡ number
  number_out = ap (λ (x : Me ℕ View). number_in x.0) is

  pub claimed_is : claimed (number_in claim.0) (handed_in claim.0) ≡ known_of m
  claimed_is = ap (λ (x : Me ℕ View). claimed (number_in x.0) (handed_in x.0)) is ∙ ap (λ (k : ℕ). claimed k (handed_by m entries front)) (sym number_is)

  pub entries_out : (handed_in claim.0).entries ≡ entries
  entries_out = ap (λ (x : Me ℕ View). (handed_in x.0).entries) is

  pub front_out : (handed_in claim.0).front ≡ front
  front_out = ap (λ (x : Me ℕ View). (handed_in x.0).front) is
