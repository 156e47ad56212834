-- What a call leaves under the lock, and what its caller then knows.
use Rattle.std.proofs.Common.{◌≡◌, ℕ, zero, suc, ◌+◌, ◌-◌, arith, List, [], ◌∷◌, ◌++◌, refl, sym, ap, ◌∙◌, subst}
use Rattle.std.proofs.lemmas.List.{append-nil}
use Rattle.atomic_table.specs.Table.{Me}
use Rattle.desk_access.specs.Division.{DividedRun}
use Rattle.desk_access.specs.Call.{Call, takes, pends, confirms, marks, counts, issues, settles, forgets, asks, Record, own_of}
use Rattle.desk_access.specs.Desk.{DeskState}
use Rattle.spool_desk.specs.Alone.{AloneView, RunsTo, Makes, record_of}
use Rattle.spool_desk.specs.Runs.{runs_then}
use Rattle.desk_access.specs.Legal.{May, Met}
use Rattle.desk_access.proofs.Nexts.{met_then}
use Rattle.spool_turns.specs.Rules.{View, Facts, PassView, made_by, Knows, after_call, with_record, end_at, cursor_at}
use Rattle.desk_seats.specs.Own.{own_of-snoc, own_of-rest}
use Rattle.desk_seats.specs.Passes.{Known, known, LeadsAbove, MayFollow, Calls, fresh}
use Rattle.spool_turns.specs.Passes.{Beginning, known_of, Sound, IsTurn, IsPass, locked_of, calling_of, pass_of, facts_in, caller_in, pass_in}
use Rattle.spool_turns.specs.Replays.{Replays, IsExact}
use Rattle.spool_turns.proofs.Led.{replays_more}

-- the facts once the words are written
abbrev pub published : AloneView → Facts → Facts
published v f = cursor_at v.cursor_known (end_at v.end_known f)

-- What the type of the locked value keeps: of its seat me, and of the desk v.
abbrev pub Locks : (tells : Type 0) (start : DeskState → Type 0) (run : DividedRun) (seats : ℕ) (began : Beginning) → Me ℕ View → AloneView → Type 0
Locks tells start run seats began me v = IsTurn seats me v × Replays tells start run began (facts_in me.0).log v × Met run (seats - 1) [] (facts_in me.0).log

-- nothing need follow a call
pub nothing_behind : (call : Call) → MayFollow call []
nothing_behind (takes group result) = tt
nothing_behind (pends from most result) = refl
nothing_behind (confirms upto result) = refl
nothing_behind (marks stretches result) = refl
nothing_behind (counts number) = refl
nothing_behind (issues channel result) = refl
nothing_behind (settles channel id answer) = refl
nothing_behind (forgets channel id answer) = refl
nothing_behind (asks channel ids known) = refl

-- A call is made so: me is the locked seat at the start; hosted is that seat with the view m of the pass that calls, and wrote
-- the same once the words are written; old, mid and new are the desk then.
module _ (tells : Type 0) (start : DeskState → Type 0) (run : DividedRun) (seats : ℕ) (began : Beginning) (me hosted wrote : Me ℕ View) (old mid new : AloneView) (m : PassView) (call : Call)
    (turn : IsTurn seats me old) (replays : Replays tells start run began (facts_in me.0).log old) (legal : Met run (seats - 1) [] (facts_in me.0).log) (may : May run (seats - 1) m.number m.own call)
    (hosts : hosted ≡ calling_of (facts_in me.0) m) (knew : Knows (facts_in me.0) m)
    (made : Makes tells old call mid) (told : RunsTo tells mid [] new) (same : record_of call new ≡ record_of call mid) (exact : IsExact tells new)
    (writes : wrote ≡ calling_of (published new (facts_in hosted.0)) (caller_in hosted.0)) where
  runs : RunsTo tells old (record_of call new ∷ []) new
  runs = subst (λ (r : Record). RunsTo tells old (r ∷ []) new) (sym same) (runs_then tells old mid new (record_of call mid ∷ []) [] made told)

  wrote_is : wrote ≡ calling_of (published new (facts_in me.0)) m
  wrote_is = writes ∙ ap (λ (x : Me ℕ View). calling_of (published new (facts_in x.0)) (caller_in x.0)) hosts

  after : Replays tells start run began ((facts_in me.0).log ++ made_by m.number (record_of call new) ∷ []) new
  after = replays_more tells start run began m.number old new (facts_in me.0).log (record_of call new) refl replays runs

  locked_is : (it : Me ℕ View) → it ≡ locked_of (with_record (facts_in wrote.0) (made_by (caller_in wrote.0).number (record_of call new))) → it ≡ locked_of (with_record (published new (facts_in me.0)) (made_by m.number (record_of call new)))
  locked_is it is = is ∙ ap (λ (x : Me ℕ View). locked_of (with_record (facts_in x.0) (made_by (caller_in x.0).number (record_of call new)))) wrote_is

  pass_is : (it : Me ℕ View) → it ≡ pass_of (after_call (facts_in wrote.0) (caller_in wrote.0) (record_of call new)) → it ≡ pass_of (after_call (published new (facts_in me.0)) m (record_of call new))
  pass_is it is = is ∙ ap (λ (x : Me ℕ View). pass_of (after_call (facts_in x.0) (caller_in x.0) (record_of call new))) wrote_is

  met_after : Met run (seats - 1) [] ((facts_in me.0).log ++ made_by m.number (record_of call new) ∷ [])
  met_after = met_then run (seats - 1) [] (facts_in me.0).log (made_by m.number (record_of call new)) legal (subst (λ (l : List Call). May run (seats - 1) m.number l call) (sym knew.own) may)

  -- what lies under the lock
  pub turn_after : (it : Me ℕ View) → it ≡ locked_of (with_record (facts_in wrote.0) (made_by (caller_in wrote.0).number (record_of call new))) → Locks tells start run seats began it new
  turn_after it is = subst (λ (x : Me ℕ View). Locks tells start run seats began x new) (sym (locked_is it is))
      (record { locked = refl; made = turn.made; end = refl; cursor = refl }, after, met_after)

  own_after : own_of m.number ((facts_in me.0).log ++ made_by m.number (record_of call new) ∷ []) ≡ m.own ++ call ∷ []
  own_after = own_of-snoc m.number (facts_in me.0).log (made_by m.number (record_of call new)) refl ∙ ap (λ (l : List Call). l ++ call ∷ []) knew.own

  -- what the caller then knows
  sound_after : Sound start (after_call (published new (facts_in me.0)) m (record_of call new))
  sound_after = record {
    also = refl;
    own = own_after;
    lawful = λ x s. let p = after.leads x s in let e = exact p.after (replays.begins x s).told p.reached in (p.after, p.goes, e.0, e.1);
  }

  pub pass_after : (it : Me ℕ View) → it ≡ pass_of (after_call (facts_in wrote.0) (caller_in wrote.0) (record_of call new))
      → IsPass it × Sound start (pass_in it.0) × ((pass_in it.0).number ≡ m.number) × ((pass_in it.0).out ≡ m.out)
  pass_after it is =
      subst (λ (x : Me ℕ View). IsPass x × Sound start (pass_in x.0) × ((pass_in x.0).number ≡ m.number) × ((pass_in x.0).out ≡ m.out)) (sym (pass_is it is))
      (refl, sound_after, refl, refl)

  seen_here : (facts_in me.0).log ++ made_by m.number (record_of call new) ∷ [] ≡ ((m.seen ++ knew.seen.0) ++ made_by m.number (record_of call new) ∷ []) ++ []
  seen_here =
      ap (λ (l : List Record). l ++ made_by m.number (record_of call new) ∷ []) (sym knew.seen.1)
      ∙ sym (append-nil ((m.seen ++ knew.seen.0) ++ made_by m.number (record_of call new) ∷ []))

  lawful_here : (x : DeskState) → start x → LeadsAbove x ((facts_in me.0).log ++ made_by m.number (record_of call new) ∷ []) m.end_known m.cursor_known
  lawful_here x s =
      let p = after.leads x s in
      (p.after, p.goes, omega (arith, knew.end_known, turn.end, runs.end_rises, p.reached.end_known), omega (arith, knew.cursor_known, turn.cursor, runs.cursor_rises, p.reached.cursor_known))

  calls_here : Calls start run seats (known_of m) call (known_of (after_call (published new (facts_in me.0)) m (record_of call new)))
  calls_here = record {
    between = knew.seen.0;
    others = own_of-rest m.number m.seen knew.seen.0 m.own [] knew.own_seen (ap (own_of m.number) knew.seen.1 ∙ knew.own ∙ sym (append-nil m.own));
    one = made_by m.number (record_of call new);
    by = refl;
    of_call = refl;
    behind = [];
    follow = nothing_behind call;
    others_behind = refl;
    seen = seen_here;
    own = refl;
    number = refl;
    all = own_after;
    met = met_after;
    end_known = omega (arith, knew.end_known, turn.end, runs.end_rises);
    cursor_known = omega (arith, knew.cursor_known, turn.cursor, runs.cursor_rises);
    lawful = lawful_here;
    own_lawful = λ x s. subst (λ (l : List Record). LeadsAbove x l m.end_known m.cursor_known) (seen_here ∙ append-nil ((m.seen ++ knew.seen.0) ++ made_by m.number (record_of call new) ∷ [])) (lawful_here x s);
  }

  pub calls_after : (v : Known) (it : Me ℕ View) → known_of m ≡ v → it ≡ pass_of (after_call (facts_in wrote.0) (caller_in wrote.0) (record_of call new)) → Calls start run seats v call (known_of (pass_in it.0))
  calls_after v it was is = subst (λ (x : Known × Me ℕ View). Calls start run seats x.0 call (known_of (pass_in x.1.0))) (λ j. (was j, sym (pass_is it is) j)) calls_here

  -- the journal that the pass has then seen led to where the desk is, and each call of it is one that its caller might make
  pub real_after : (v : Known) (it : Me ℕ View) → v ≡ known_of (pass_in it.0) → it ≡ pass_of (after_call (facts_in wrote.0) (caller_in wrote.0) (record_of call new))
      → Replays tells start run began v.seen new × Met run (seats - 1) [] v.seen
  real_after v it was is = subst (λ (x : Known). Replays tells start run began x.seen new × Met run (seats - 1) [] x.seen) (sym was)
      (subst (λ (x : Me ℕ View). Replays tells start run began (known_of (pass_in x.0)).seen new × Met run (seats - 1) [] (known_of (pass_in x.0)).seen) (sym (pass_is it is))
      (after, met_after))

-- A call is entered so, in one step: me is the locked seat before it, m the view of the pass that calls; old, mid and new are the desk before
-- the call, after it, and once the words are written.
module _ (tells : Type 0) (start : DeskState → Type 0) (run : DividedRun) (seats : ℕ) (began : Beginning) (me : Me ℕ View) (old mid new : AloneView) (m : PassView) (call : Call)
    (turn : IsTurn seats me old) (replays : Replays tells start run began (facts_in me.0).log old) (legal : Met run (seats - 1) [] (facts_in me.0).log) (may : May run (seats - 1) m.number m.own call)
    (knew : Knows (facts_in me.0) m)
    (made : Makes tells old call mid) (told : RunsTo tells mid [] new) (same : record_of call new ≡ record_of call mid) (exact : IsExact tells new) where
  renewed : (it : Me ℕ View) → it ≡ pass_of (after_call (published new (facts_in me.0)) m (record_of call mid)) → it ≡ pass_of (after_call (published new (facts_in me.0)) m (record_of call new))
  renewed it is = is ∙ ap (λ (r : Record). pass_of (after_call (published new (facts_in me.0)) m r)) (sym same)

  pub turn_entered : (it : Me ℕ View) → it ≡ locked_of (with_record (published new (facts_in me.0)) (made_by m.number (record_of call mid))) → Locks tells start run seats began it new
  turn_entered it is =
      turn_after tells start run seats began me (calling_of (facts_in me.0) m) (calling_of (published new (facts_in me.0)) m) old mid new m call turn replays legal may refl knew made told same exact refl it
      (is ∙ ap (λ (r : Record). locked_of (with_record (published new (facts_in me.0)) (made_by m.number r))) (sym same))

  pub pass_entered : (it : Me ℕ View) → it ≡ pass_of (after_call (published new (facts_in me.0)) m (record_of call mid))
      → IsPass it × Sound start (pass_in it.0) × ((pass_in it.0).number ≡ m.number) × ((pass_in it.0).out ≡ m.out)
  pass_entered it is =
      pass_after tells start run seats began me (calling_of (facts_in me.0) m) (calling_of (published new (facts_in me.0)) m) old mid new m call turn replays legal may refl knew made told same exact refl it
      (renewed it is)

  pub calls_entered : (v : Known) (it : Me ℕ View) → known_of m ≡ v → it ≡ pass_of (after_call (published new (facts_in me.0)) m (record_of call mid)) → Calls start run seats v call (known_of (pass_in it.0))
  calls_entered v it was is =
      calls_after tells start run seats began me (calling_of (facts_in me.0) m) (calling_of (published new (facts_in me.0)) m) old mid new m call turn replays legal may refl knew made told same exact refl v
      it was (renewed it is)

  pub real_entered : (it : Me ℕ View) → it ≡ pass_of (after_call (published new (facts_in me.0)) m (record_of call mid))
      → Replays tells start run began (pass_in it.0).seen new × Met run (seats - 1) [] (pass_in it.0).seen
  real_entered it is =
      real_after tells start run seats began me (calling_of (facts_in me.0) m) (calling_of (published new (facts_in me.0)) m) old mid new m call turn replays legal may refl knew made told same exact refl
      (known_of (pass_in it.0)) it refl (renewed it is)

-- one pass more
pub fresh-more : (number count end_known cursor_known : ℕ) → fresh number (count + 1) end_known cursor_known ≡ fresh number count end_known cursor_known ++ known (number + count) [] [] end_known cursor_known ∷ []
fresh-more number zero end_known cursor_known = ap (λ (j : ℕ). known j [] [] end_known cursor_known ∷ []) (omega arith)
fresh-more number (suc count) end_known cursor_known =
    let one : suc count + 1 ≡ suc (count + 1) = omega arith in
    let sum : suc number + count ≡ number + suc count = omega arith in
    ap (λ (j : ℕ). fresh number j end_known cursor_known) one ∙ ap (λ l. known number [] [] end_known cursor_known ∷ l) (fresh-more (suc number) count end_known cursor_known ∙ ap (λ (j : ℕ). fresh (suc number) count end_known cursor_known ++ known j [] [] end_known cursor_known ∷ []) sum)
