-- What a session marked is known after it.
use Rattle.std.proofs.Common.{◌≡◌, inl, inr, List, [], ◌∷◌, refl, sym, ◌∙◌, ap, subst, arith}
use Rattle.std.specs.Prelude.{nat_le, Option, Ok}
use Rattle.std.proofs.lemmas.Bool.{cond_both, leb-true}
use Rattle.known_numbers.specs.declared.stretch.Stretch.{Stretch}
use Rattle.known_numbers.specs.Numbers.{Numbers, IsSound as IsSoundKnown, marked}
use Rattle.known_numbers.proofs.Marking.{marked_rises}
use Rattle.spool_state.specs.SpoolState.{SpoolState, numbers_of}
use Rattle.spool_state.proofs.Registered.{with_marked}
use Rattle.spool_answers.specs.Stages.{IsOneOf, last_of, total_of, known_stages}
use Rattle.desk_access.specs.declared.standing.Standing.{Standing}
use Rattle.desk_access.specs.Call.{Call, Record, IsNoTake, calls_of, marks, pends, takes}
use Rattle.desk_access.specs.Desk.{Answers, DeskState, Goes}
use Rattle.desk_access.specs.Journal.{of_other}
use Rattle.desk_access.specs.History.{IsDesk}
use Rattle.desk_access.proofs.Steps.{allowed_later}
use Rattle.forward_core.specs.Calls.{AreGranted}
use Rattle.forward_core.specs.Laws.{known_by}

-- the last stage of a mark has the numbers with what was marked
pub last_marked : (s : SpoolState) (more : List Stretch) → IsSoundKnown (numbers_of s) → numbers_of (last_of s (known_stages s more)) ≡ marked (numbers_of s) more
last_marked s more sound =
    cond_both (nat_le (total_of (marked (numbers_of s) more)) (total_of (numbers_of s))) [] (with_marked s more ∷ []) (λ (l : List SpoolState). numbers_of (last_of s l) ≡ marked (numbers_of s) more)
    (λ yes. elim (marked_rises (numbers_of s) more sound) [
      | inl same ↦ sym same
      | inr rises ↦ absurd (omega (arith, rises, leb-true (total_of (marked (numbers_of s) more)) (total_of (numbers_of s)) yes))
    ])
    (λ no. refl)

-- after one call that was granted
step : (x z : DeskState) (call : Call) (met : Option Standing) → IsDesk x → x.doubt ≡ [] → AreGranted (call ∷ []) → Answers x call met z → (numbers_of z.spool ≡ known_by (numbers_of x.spool) (call ∷ [])) × (z.doubt ≡ [])
step x z (pends from most (Ok given)) met rules none granted (inl stays) = absurd (cc (stays.1))
step x z (pends from most (Ok given)) met rules none granted (inr went) =
    let same : went.0 ≡ x.spool = subst (λ (l : List SpoolState). IsOneOf x.spool l went.0) none went.1.one in
    (ap (λ (d : DeskState). numbers_of d.spool) went.2.1 ∙ ap numbers_of same, ap (λ (d : DeskState). d.doubt) went.2.1)
step x z (marks stretches (Ok done)) met rules none granted (ends, inl stays) = absurd (cc (stays.1))
step x z (marks stretches (Ok done)) met rules none granted (ends, inr went) =
    let same : went.0 ≡ x.spool = subst (λ (l : List SpoolState). IsOneOf x.spool l went.0) none went.1.one in
    (ap (λ (d : DeskState). numbers_of d.spool) went.2.1 ∙ ap (λ (s : SpoolState). numbers_of (last_of s (known_stages s stretches))) same ∙ last_marked x.spool stretches rules.sound.known, ap (λ (d : DeskState). d.doubt) went.2.1)
step x z call met rules none granted answers = absurd granted

known_then : (numbers : Numbers) (call : Call) (calls : List Call) → AreGranted (call ∷ []) → known_by (known_by numbers (call ∷ [])) calls ≡ known_by numbers (call ∷ calls)
known_then numbers (pends from most (Ok given)) calls g = refl
known_then numbers (marks stretches (Ok done)) calls g = refl
known_then numbers call calls g = absurd g

granted_other : (call : Call) → AreGranted (call ∷ []) → IsNoTake call
granted_other (takes group result) g = absurd g
granted_other call g = tt

granted_first : (call : Call) (calls : List Call) → AreGranted (call ∷ calls) → AreGranted (call ∷ []) × AreGranted calls
granted_first (pends from most (Ok given)) calls g = (tt, g)
granted_first (marks stretches (Ok done)) calls g = (tt, g)
granted_first call calls g = absurd g

pub known_after : (x y : DeskState) (records : List Record) → IsDesk x → x.doubt ≡ [] → AreGranted (calls_of records) → Goes x records y → (numbers_of y.spool ≡ known_by (numbers_of x.spool) (calls_of records)) × (y.doubt ≡ [])
known_after x y [] rules none granted goes = (ap (λ (d : DeskState). numbers_of d.spool) goes, ap (λ (d : DeskState). d.doubt) goes ∙ none)
known_after x y (one ∷ records) rules none granted goes =
    let z = goes.0 in
    let g = granted_first one.call (calls_of records) granted in
    let first = step x z one.call one.met rules none g.0 (of_other one.joins x z one.call one.met (granted_other one.call g.0) goes.1.answers) in
    let rest = known_after z y records (allowed_later x z one rules goes.1).0 first.1 g.1 goes.2 in
    (rest.0 ∙ ap (λ (n : Numbers). known_by n (calls_of records)) first.0 ∙ known_then (numbers_of x.spool) one.call (calls_of records) g.0, rest.1)
