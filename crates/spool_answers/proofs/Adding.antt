-- The stages by which a group is added.
use Rattle.std.proofs.Common.{◌≡◌, ℕ, zero, suc, ◌<◌, ◌≤◌, List, [], ◌∷◌, get_or, Option, None, Some, refl, ◌∙◌, ap, arith}
use Rattle.std.specs.Prelude.{nat_le}
use Rattle.std.proofs.lemmas.Bool.{cond-true, cond-false, cond_both, le-leb, lt-leb, leb-true}
use Rattle.event_form.specs.declared.event.Entry.{Entry}
use Rattle.spool_state.specs.Segment.{need_of}
use Rattle.spool_state.specs.SpoolState.{OpenSlot, SpoolState, base, room, Follows, IsSound}
use Rattle.spool_state.specs.Change.{added, begun, shut}
use Rattle.spool_state.proofs.Following.{follows_then, follows_added}
use Rattle.spool_state.specs.Free.{lowest_closed, is_confirmed, end_of}
use Rattle.spool_answers.specs.Stages.{begin_stages, closed_stages, replace_stages, first_stages, group_stages, AllFollow}
use Rattle.spool_state.proofs.Begun.{base-begun, follows_begun}
use Rattle.spool_state.proofs.Shut.{follows_shut, sound-shut}

none_of : (s : SpoolState) → AllFollow s []
none_of s = λ k d lt. absurd (omega arith)

one_of : (s t : SpoolState) → Follows s t → AllFollow s (t ∷ [])
one_of s t here zero d lt = here
one_of s t here (suc k) d lt = absurd (omega arith)

two : (s t u : SpoolState) → Follows s t → Follows s u → AllFollow s (t ∷ u ∷ [])
two s t u here there zero d lt = here
two s t u here there (suc zero) d lt = there
two s t u here there (suc (suc k)) d lt = absurd (omega arith)

-- the stages of a stage
more_of : (s t : SpoolState) (stages : List SpoolState) → Follows s t → AllFollow t stages → AllFollow s (t ∷ stages)
more_of s t stages here all zero d lt = here
more_of s t stages here all (suc k) d lt = follows_then s t (get_or stages k d) here (all k d (omega arith))

pub adding_here : (s : SpoolState) (group : List Entry) → need_of group ≤ room s → group_stages s group ≡ added s group ∷ []
adding_here s group le = cond-true (nat_le (need_of group) (room s)) (added s group ∷ []) (closed_stages (lowest_closed s s.slots) s group) (le-leb (need_of group) (room s) le)

pub adding_else : (s : SpoolState) (group : List Entry) → room s < need_of group → group_stages s group ≡ closed_stages (lowest_closed s s.slots) s group
adding_else s group lt = cond-false (nat_le (need_of group) (room s)) (added s group ∷ []) (closed_stages (lowest_closed s s.slots) s group) (lt-leb (need_of group) (room s) lt)

pub adding_closed : (s : SpoolState) (group : List Entry) (place : ℕ) → room s < need_of group → lowest_closed s s.slots ≡ Some place → group_stages s group ≡ begin_stages s place group
adding_closed s group place lt is = adding_else s group lt ∙ ap (λ (o : Option ℕ). closed_stages o s group) is

-- each stage follows the state
begun_follow : (s : SpoolState) (place : ℕ) (group : List Entry) → base s ≤ s.cursor → AllFollow s (begin_stages s place group)
begun_follow s place group from =
    let first = follows_begun s place from in
    let from_begun : base (begun s place) ≤ s.cursor = omega (arith, base-begun s place) in
    two s (begun s place) (added (begun s place) group) first (follows_then s (begun s place) (added (begun s place) group) first (follows_added (begun s place) group from_begun))

replacing_follow : (s : SpoolState) (group : List Entry) (older : List OpenSlot) → s.older ≡ older → IsSound s → AllFollow s (first_stages s older group)
replacing_follow s group [] is sound = none_of s
replacing_follow s group (slot ∷ rest) is sound =
    cond_both (is_confirmed s slot) (replace_stages s (slot ∷ rest) group) [] (AllFollow s) (λ yes.
    let confirmed = leb-true (end_of slot) s.cursor yes in
    let first = follows_shut s slot rest is sound confirmed in
    let more = begun_follow (shut s rest) slot.place group (sound-shut s slot rest is sound confirmed).from_base in
    more_of s (shut s rest) (begin_stages (shut s rest) slot.place group) first more) (λ no. none_of s)

beginning_follow : (s : SpoolState) (group : List Entry) (place : Option ℕ) → IsSound s → AllFollow s (closed_stages place s group)
beginning_follow s group (Some place) sound = begun_follow s place group sound.from_base
beginning_follow s group None sound = replacing_follow s group s.older refl sound

pub adding_follow : (s : SpoolState) (group : List Entry) → IsSound s → AllFollow s (group_stages s group)
adding_follow s group sound =
    cond_both (nat_le (need_of group) (room s)) (added s group ∷ []) (closed_stages (lowest_closed s s.slots) s group) (AllFollow s) (λ yes. one_of s (added s group) (follows_added s group sound.from_base)) (λ no. beginning_follow s group (lowest_closed s s.slots) sound)
