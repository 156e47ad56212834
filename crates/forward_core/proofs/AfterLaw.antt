-- What is known and what is left after a session.
use Rattle.std.proofs.Common.{◌≡◌, ◌⊎◌, inl, inr, ℕ, ◌+◌, ◌≤◌, List, [], ◌∷◌, length, refl, sym, ◌∙◌, ap, subst, arith}
use Rattle.std.specs.Prelude.{Option, Ok, Err, nat_le}
use Rattle.std.proofs.lemmas.Bool.{cond_both}
use Rattle.known_numbers.specs.declared.stretch.Stretch.{Stretch}
use Rattle.known_numbers.specs.Numbers.{IsKnown, IsSound as IsSoundKnown, Numbers, fitting, joined, marked}
use Rattle.known_numbers.proofs.Marking.{confirmed_reaches, marked_keeps, marked_only, marked_reaches, marked_sound}
use Rattle.spool_state.specs.SpoolState.{IsKnownIn, SpoolState, base, list, numbers_of}
use Rattle.spool_state.specs.Left.{numbered, unknown}
use Rattle.spool_state.proofs.Registered.{with_marked}
use Rattle.spool_state.proofs.Unknown.{unknown_thinned}
use Rattle.spool_faults.specs.declared.fault.ConfirmFault.{ConfirmFault}
use Rattle.spool_faults.specs.declared.fault.ConfirmFault.TheVariants as Confirm
use Rattle.spool_answers.specs.Mark.{after_mark, mark_doubt}
use Rattle.spool_answers.specs.Stages.{IsOneOf, known_stages, last_of, total_of}
use Rattle.desk_access.specs.declared.standing.Standing.{Standing}
use Rattle.desk_access.specs.Call.{Call, Record, IsNoTake, calls_of, marks, pends, takes}
use Rattle.desk_access.specs.Desk.{Answers, DeskState, Goes}
use Rattle.desk_access.specs.Journal.{of_other}
use Rattle.desk_access.specs.History.{IsDesk}
use Rattle.desk_access.proofs.Steps.{allowed_later}
use Rattle.forward_core.specs.Calls.{AreGranted, AreOfSession, IsMarked, MarksAllBelow, next_after}
use Rattle.forward_core.specs.Laws.{KnowsMarked, LeavesRest, known_by}
use Rattle.forward_core.proofs.CallLists.{marked_left, marked_right}
use Rattle.forward_core.proofs.KnownLaw.{known_after}

-- ---- only what was marked is known

-- the state has the entries of another one, and knows what that knew, and besides only what the calls marked
record Knows (s : SpoolState) (calls : List Call) (t : SpoolState) : Type 0 where
  base_is : base t ≡ base s
  list_is : list t ≡ list s
  kept : (n : ℕ) → IsKnownIn s n → IsKnownIn t n
  only : (n : ℕ) → IsKnownIn t n → IsKnownIn s n ⊎ IsMarked calls n

same_knows : (s t : SpoolState) (calls : List Call) → t ≡ s → Knows s calls t
same_knows s t calls is = subst (Knows s calls) (sym is) (record { base_is = refl; list_is = refl; kept = λ n k. k; only = λ n k. inl k })

marked_knows : (s : SpoolState) (stretches : List Stretch) (call : Call) → ((n : ℕ) → IsKnown (marked (numbers_of s) stretches) n → IsKnownIn s n ⊎ IsMarked (call ∷ []) n) → Knows s (call ∷ []) (with_marked s stretches)
marked_knows s stretches call only = record { base_is = refl; list_is = refl; kept = marked_keeps (numbers_of s) stretches; only = only }

-- a mark may make its own numbers known
by_mark : (s : SpoolState) (stretches : List Stretch) (call : Call) → ((n : ℕ) → IsKnown (marked (numbers_of s) stretches) n → IsKnownIn s n ⊎ IsMarked (call ∷ []) n) → (t : SpoolState) → IsOneOf s (known_stages s stretches) t → Knows s (call ∷ []) t
by_mark s stretches call only t =
    cond_both (nat_le (total_of (marked (numbers_of s) stretches)) (total_of (numbers_of s))) [] (with_marked s stretches ∷ []) (λ (l : List SpoolState). IsOneOf s l t → Knows s (call ∷ []) t)
    (λ yes is. same_knows s t (call ∷ []) is)
    (λ no one. elim one [ inl is ↦ same_knows s t (call ∷ []) is | inr is ↦ subst (Knows s (call ∷ [])) (sym is) (marked_knows s stretches call only) ])

last_one : (s : SpoolState) (stretches : List Stretch) → IsOneOf s (known_stages s stretches) (last_of s (known_stages s stretches))
last_one s stretches =
    cond_both (nat_le (total_of (marked (numbers_of s) stretches)) (total_of (numbers_of s))) [] (with_marked s stretches ∷ []) (λ (l : List SpoolState). IsOneOf s l (last_of s l)) (λ yes. refl) (λ no. inr refl)

-- a mark that was refused leaves the state, and a doubt where the disk failed
refused_knows : (m : SpoolState) (stretches : List Stretch) (fault : ConfirmFault) (t : SpoolState) → IsOneOf (after_mark m stretches (Err fault)) (mark_doubt m stretches (Err fault)) t → Knows m (marks stretches (Err fault) ∷ []) t
refused_knows m stretches (Confirm.Worn ordinal) t one = same_knows m t (marks stretches (Err (Confirm.Worn ordinal)) ∷ []) one
refused_knows m stretches (Confirm.NotSpool at) t one = same_knows m t (marks stretches (Err (Confirm.NotSpool at)) ∷ []) one
refused_knows m stretches Confirm.DiskFault t one =
    by_mark m stretches (marks stretches (Err Confirm.DiskFault)) (λ n k. elim (marked_only (numbers_of m) stretches n k) [ inl old ↦ inl old | inr new ↦ inr (inl new) ]) t one
refused_knows m stretches Confirm.NoMemory t one = same_knows m t (marks stretches (Err Confirm.NoMemory) ∷ []) one

knows_then : (s t u : SpoolState) (call : Call) (calls : List Call) → Knows s (call ∷ []) t → Knows t calls u → Knows s (call ∷ calls) u
knows_then s t u call calls a b = record {
  base_is = b.base_is ∙ a.base_is;
  list_is = b.list_is ∙ a.list_is;
  kept = λ n k. b.kept n (a.kept n k);
  only = λ n k. elim (b.only n k) [
    | inl there ↦ elim (a.only n there) [ inl first ↦ inl first | inr here ↦ inr (marked_left (call ∷ []) calls n here) ]
    | inr later ↦ inr (marked_right (call ∷ []) calls n later)
  ];
}

knows_none : (s t : SpoolState) (call : Call) (calls : List Call) → calls ≡ [] → Knows s (call ∷ []) t → Knows s (call ∷ calls) t
knows_none s t call calls none knows = subst (λ (l : List Call). Knows s (call ∷ l) t) (sym none) knows

one_of : (x z : DeskState) (m : SpoolState) (doubt : List SpoolState) (t : SpoolState) → z.spool ≡ m → z.doubt ≡ doubt → IsOneOf z.spool z.doubt t → IsOneOf m doubt t
one_of x z m doubt t spool is one = subst (λ (l : List SpoolState). IsOneOf m l t) is (subst (λ (s : SpoolState). IsOneOf s z.doubt t) spool one)

-- After one call: the session goes on with others, or it was the last one.
one_call : (x z : DeskState) (call : Call) (calls : List Call) (met : Option Standing) (until next : ℕ) (t : SpoolState) → x.doubt ≡ [] → Answers x call met z → AreOfSession until next (call ∷ calls)
    → ((after : ℕ) → z.doubt ≡ [] → AreOfSession until after calls → Knows z.spool calls t) → (calls ≡ [] → IsOneOf z.spool z.doubt t) → Knows x.spool (call ∷ calls) t
one_call x z (pends from most (Ok given)) calls met until next t none (inl stays) of on last = absurd (cc (stays.1))
one_call x z (pends from most (Ok given)) calls met until next t none (inr went) of on last =
    let call : Call = pends from most (Ok given) in
    let same : went.0 ≡ x.spool = subst (λ (l : List SpoolState). IsOneOf x.spool l went.0) none went.1.one in
    knows_then x.spool z.spool t call calls (same_knows x.spool z.spool (call ∷ []) (ap (λ (d : DeskState). d.spool) went.2.1 ∙ same)) (on (next_after until next given) (ap (λ (d : DeskState). d.doubt) went.2.1) of.3)
one_call x z (pends from most (Err fault)) calls met until next t none (inl stays) of on last = absurd (omega (arith, stays.2.in_doubt, ap (λ (l : List SpoolState). length l) none))
one_call x z (pends from most (Err fault)) calls met until next t none (inr went) of on last =
    let call : Call = pends from most (Err fault) in
    let same : went.0 ≡ x.spool = subst (λ (l : List SpoolState). IsOneOf x.spool l went.0) none went.1.one in
    knows_none x.spool t call calls of.3
    (same_knows x.spool t (call ∷ []) (one_of x z went.0 [] t (ap (λ (d : DeskState). d.spool) went.2.1) (ap (λ (d : DeskState). d.doubt) went.2.1) (last of.3) ∙ same))
one_call x z (marks stretches (Ok done)) calls met until next t none (ends, inl stays) of on last = absurd (cc (stays.1))
one_call x z (marks stretches (Ok done)) calls met until next t none (ends, inr went) of on last =
    let call : Call = marks stretches (Ok done) in
    let same : went.0 ≡ x.spool = subst (λ (l : List SpoolState). IsOneOf x.spool l went.0) none went.1.one in
    let is : z.spool ≡ last_of x.spool (known_stages x.spool stretches) = ap (λ (d : DeskState). d.spool) went.2.1 ∙ ap (λ (m : SpoolState). last_of m (known_stages m stretches)) same in
    let here = by_mark x.spool stretches call (λ n k. elim (marked_only (numbers_of x.spool) stretches n k) [ inl old ↦ inl old | inr new ↦ inr (inl new) ]) (last_of x.spool (known_stages x.spool stretches)) (last_one x.spool stretches) in
    knows_then x.spool z.spool t call calls (subst (Knows x.spool (call ∷ [])) (sym is) here) (on next (ap (λ (d : DeskState). d.doubt) went.2.1) of)
one_call x z (marks stretches (Err fault)) calls met until next t none (ends, inl stays) of on last = absurd (omega (arith, stays.2.in_doubt, ap (λ (l : List SpoolState). length l) none))
one_call x z (marks stretches (Err fault)) calls met until next t none (ends, inr went) of on last =
    let call : Call = marks stretches (Err fault) in
    let same : went.0 ≡ x.spool = subst (λ (l : List SpoolState). IsOneOf x.spool l went.0) none went.1.one in
    let m = went.0 in
    let one = one_of x z (after_mark m stretches (Err fault)) (mark_doubt m stretches (Err fault)) t (ap (λ (d : DeskState). d.spool) went.2.1) (ap (λ (d : DeskState). d.doubt) went.2.1) (last of) in
    knows_none x.spool t call calls of (subst (λ (s : SpoolState). Knows s (call ∷ []) t) same (refused_knows m stretches fault t one))
one_call x z call calls met until next t none answers of on last = absurd of

-- a session takes nothing
pub session_other : (until next : ℕ) (call : Call) (calls : List Call) → AreOfSession until next (call ∷ calls) → IsNoTake call
session_other until next (takes group result) calls of = absurd of
session_other until next call calls of = tt

no_record : (x y : DeskState) (records : List Record) → calls_of records ≡ [] → Goes x records y → y ≡ x
no_record x y [] none goes = goes
no_record x y (one ∷ records) none goes = absurd (cc (none))

knows_only : (x y : DeskState) (records : List Record) (start until : ℕ) (t : SpoolState) → IsDesk x → x.doubt ≡ [] → AreOfSession until start (calls_of records) → Goes x records y → IsOneOf y.spool y.doubt t → Knows x.spool (calls_of records) t
knows_only x y [] start until t rules none of goes one =
    same_knows x.spool t [] (subst (λ (l : List SpoolState). IsOneOf x.spool l t) none (subst (λ (d : DeskState). IsOneOf d.spool d.doubt t) goes one))
knows_only x y (one ∷ records) start until t rules none of goes stands =
    let z = goes.0 in
    one_call x z one.call (calls_of records) one.met until start t none (of_other one.joins x z one.call one.met (session_other until start one.call (calls_of records) of) goes.1.answers) of
    (λ after sure of'. knows_only z y records after until t (allowed_later x z one rules goes.1).0 sure of' goes.2 stands)
    (λ last. subst (λ (d : DeskState). IsOneOf d.spool d.doubt t) (no_record z y records last goes.2) stands)

-- and so of what was left what isn't known now is left
pub only_marked_known : (x y : DeskState) (records : List Record) (start until : ℕ) (t : SpoolState) → IsDesk x → x.doubt ≡ [] → AreOfSession until start (calls_of records) → Goes x records y → IsOneOf y.spool y.doubt t → KnowsMarked x.spool (calls_of records) t
only_marked_known x y records start until t rules none of goes one =
    let s = x.spool in
    let knows = knows_only x y records start until t rules none of goes one in
    record {
      base_is = knows.base_is;
      list_is = knows.list_is;
      kept = knows.kept;
      only = knows.only;
      left_is = (λ i. unknown (numbers_of t) (numbered (knows.base_is i) (knows.list_is i))) ∙ unknown_thinned (numbers_of s) (numbers_of t) (numbered (base s) (list s)) knows.kept;
    }

-- ---- what is left

-- what was known stays known, and the cursor doesn't fall
pub known_keeps : (numbers : Numbers) (calls : List Call) (n : ℕ) → IsKnown numbers n → IsKnown (known_by numbers calls) n
known_keeps numbers [] n known = known
known_keeps numbers (marks stretches (Ok done) ∷ calls) n known = known_keeps (marked numbers stretches) calls n (marked_keeps numbers stretches n known)
known_keeps numbers (call ∷ calls) n known = known_keeps numbers calls n known

known_reaches : (numbers : Numbers) (calls : List Call) → IsSoundKnown numbers → numbers.cursor ≤ (known_by numbers calls).cursor
known_reaches numbers [] sound = omega arith
known_reaches numbers (marks stretches (Ok done) ∷ calls) sound =
    omega (arith, marked_reaches numbers stretches sound, known_reaches (marked numbers stretches) calls (marked_sound numbers stretches sound))
known_reaches numbers (call ∷ calls) sound = known_reaches numbers calls sound

-- a mark that begins with all numbers below one
mark_reaches : (numbers : Numbers) (n : ℕ) (stretch : Stretch) (more : List Stretch) → IsSoundKnown numbers → stretch ≡ record { from = 0; to = n } → n ≤ (marked numbers (stretch ∷ more)).cursor
mark_reaches numbers n stretch more sound is =
    let first = fitting (joined numbers (record { from = 0; to = n })) numbers in
    let reached : n ≤ first.cursor = confirmed_reaches numbers n sound in
    let sound' : IsSoundKnown first = marked_sound numbers (record { from = 0; to = n } ∷ []) sound in
    subst (λ (s : Stretch). n ≤ (marked numbers (s ∷ more)).cursor) (sym is) (omega (arith, reached, marked_reaches first more sound'))

pub front_known : (n : ℕ) (numbers : Numbers) (calls : List Call) → IsSoundKnown numbers → MarksAllBelow n calls → n ≤ (known_by numbers calls).cursor
front_known n numbers [] sound has = absurd has
front_known n numbers (marks (stretch ∷ more) (Ok done) ∷ calls) sound (inl is) =
    omega (arith, mark_reaches numbers n stretch more sound is, known_reaches (marked numbers (stretch ∷ more)) calls (marked_sound numbers (stretch ∷ more) sound))
front_known n numbers (marks (stretch ∷ more) (Ok done) ∷ calls) sound (inr later) = front_known n (marked numbers (stretch ∷ more)) calls (marked_sound numbers (stretch ∷ more) sound) later
front_known n numbers (marks [] (Ok done) ∷ calls) sound has = front_known n numbers calls sound has
front_known n numbers (call ∷ calls) sound has = front_known n numbers calls sound has

-- the entries of a spool stay through calls that were granted
record Same (s t : SpoolState) : Type 0 where
  base_is : base t ≡ base s
  list_is : list t ≡ list s

same_then : (s t u : SpoolState) → Same s t → Same t u → Same s u
same_then s t u a b = record { base_is = b.base_is ∙ a.base_is; list_is = b.list_is ∙ a.list_is }

same_as : (s t : SpoolState) → t ≡ s → Same s t
same_as s t is = record { base_is = ap base is; list_is = ap list is }

same_marked : (s : SpoolState) (stretches : List Stretch) → Same s (last_of s (known_stages s stretches))
same_marked s stretches =
    cond_both (nat_le (total_of (marked (numbers_of s) stretches)) (total_of (numbers_of s))) [] (with_marked s stretches ∷ []) (λ (l : List SpoolState). Same s (last_of s l))
    (λ yes. record { base_is = refl; list_is = refl }) (λ no. record { base_is = refl; list_is = refl })

all_other : (call : Call) (calls : List Call) → AreGranted (call ∷ calls) → IsNoTake call
all_other (takes group result) calls granted = absurd granted
all_other call calls granted = tt

same_call : (x z : DeskState) (call : Call) (calls : List Call) (met : Option Standing) → x.doubt ≡ [] → AreGranted (call ∷ calls) → Answers x call met z → Same x.spool z.spool × (z.doubt ≡ []) × AreGranted calls
same_call x z (pends from most (Ok given)) calls met none granted (inl stays) = absurd (cc (stays.1))
same_call x z (pends from most (Ok given)) calls met none granted (inr went) =
    let same : went.0 ≡ x.spool = subst (λ (l : List SpoolState). IsOneOf x.spool l went.0) none went.1.one in
    (same_as x.spool z.spool (ap (λ (d : DeskState). d.spool) went.2.1 ∙ same), ap (λ (d : DeskState). d.doubt) went.2.1, granted)
same_call x z (marks stretches (Ok done)) calls met none granted (ends, inl stays) = absurd (cc (stays.1))
same_call x z (marks stretches (Ok done)) calls met none granted (ends, inr went) =
    let same : went.0 ≡ x.spool = subst (λ (l : List SpoolState). IsOneOf x.spool l went.0) none went.1.one in
    let is : z.spool ≡ last_of x.spool (known_stages x.spool stretches) = ap (λ (d : DeskState). d.spool) went.2.1 ∙ ap (λ (m : SpoolState). last_of m (known_stages m stretches)) same in
    (subst (Same x.spool) (sym is) (same_marked x.spool stretches), ap (λ (d : DeskState). d.doubt) went.2.1, granted)
same_call x z call calls met none granted answers = absurd granted

same_after : (x y : DeskState) (records : List Record) → x.doubt ≡ [] → AreGranted (calls_of records) → Goes x records y → Same x.spool y.spool
same_after x y [] none granted goes = same_as x.spool y.spool (ap (λ (d : DeskState). d.spool) goes)
same_after x y (one ∷ records) none granted goes =
    let here = same_call x goes.0 one.call (calls_of records) one.met none granted (of_other one.joins x goes.0 one.call one.met (all_other one.call (calls_of records) granted) goes.1.answers) in
    same_then x.spool goes.0.spool y.spool here.0 (same_after goes.0 y records here.1 here.2 goes.2)

pub leaves_rest : (x y : DeskState) (records : List Record) → IsDesk x → x.doubt ≡ [] → AreGranted (calls_of records) → Goes x records y → LeavesRest x.spool (calls_of records) y.spool
leaves_rest x y records rules none granted goes =
    let s = x.spool in
    let calls = calls_of records in
    let known = (known_after x y records rules none granted goes).0 in
    let same = same_after x y records none granted goes in
    let now = known_by (numbers_of s) calls in
    record {
      end_is = (λ i. same.base_is i + length (same.list_is i));
      left_is =
          (λ i. unknown (known i) (numbered (same.base_is i) (same.list_is i)))
          ∙ unknown_thinned (numbers_of s) now (numbered (base s) (list s)) (known_keeps (numbers_of s) calls);
      front = λ n has. subst (λ (k : Numbers). n ≤ k.cursor) (sym known) (front_known n (numbers_of s) calls rules.sound.known has);
    }
