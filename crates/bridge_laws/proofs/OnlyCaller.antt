-- The calls of a connection that is a desk's only caller are ones that it may make, as far as any protocol goes.
use Rattle.std.proofs.Common.{◌≡◌, inl, inr, ℕ, ◌+◌, ◌<◌, List, [], ◌∷◌, ◌++◌, length, refl, sym, ◌∙◌, ap, subst, arith, append_assoc}
use Rattle.std.specs.Prelude.{All, Bool, Option, Result, Ok}
use Rattle.std.proofs.lemmas.List.{append-nil}
use Rattle.std.proofs.lemmas.List.Elements.{All-nil, All-cons}
use Rattle.event_form.specs.declared.event.Entry.{Entry}
use Rattle.event_form.specs.declared.talk.Talk.{Talk}
use Rattle.spool_answers.specs.declared.receipt.Receipt.{Receipt}
use Rattle.spool_faults.specs.declared.fault.TakeFault.{TakeFault}
use Rattle.desk_access.specs.Division.{DividedRun}
use Rattle.desk_access.specs.Batch.{AreNext, AreOfUnit, Belongs, IsPlain}
use Rattle.desk_access.specs.Call.{Call, takes, issues, settles, forgets, Record, AreBy, own_of, taken_of, TookSurely}
use Rattle.desk_access.specs.Step.{Step, frames_of, calls_of, count}
use Rattle.desk_access.specs.Protocol.{Protocol, AreMoves}
use Rattle.desk_access.specs.Carried.{Carried}
use Rattle.desk_access.specs.Legal.{IsNext, May, Met}
use Rattle.desk_access.proofs.Moves.{calls_then, count_then}
use Rattle.desk_access.proofs.Nexts.{all_left, all_right, next_first, next_more, stored_new, unused_new}
use Rattle.desk_access.proofs.Taking.{may_next, took_of_conn, took_surely}
use Rattle.desk_seats.specs.Own.{own_of-snoc}
use Rattle.spool_turns.specs.Replays.{MayMake}

-- ---- a journal of one caller

pub met_by : (run : DividedRun) (before : List Record) (own calls : List Call) (records : List Record) → own_of 0 before ≡ own → MayMake run 1 0 own calls → AreBy 0 calls records → Met run 1 before records
met_by run before own [] [] is may by = tt
met_by run before own [] (one ∷ records) is may by = absurd by
met_by run before own (call ∷ calls) [] is may by = absurd by
met_by run before own (call ∷ calls) (one ∷ records) is may by =
    let made = subst (λ (l : List Call). May run 1 0 l call) (sym is) may.0 in
    let of_it = subst (λ (n : ℕ). May run 1 n (own_of n before) call) (sym by.0) made in
    let more : own_of 0 (before ++ one ∷ []) ≡ own ++ call ∷ [] = own_of-snoc 0 before one by.0
    ∙ ap (λ (l : List Call). l ++ one.call ∷ []) is ∙ ap (λ (c : Call). own ++ c ∷ []) by.1 in (
      subst (May run 1 one.by (own_of one.by before)) (sym by.1) of_it,
      met_by run (before ++ one ∷ [])
          (own ++ call ∷ []) calls records more may.1 by.3,
    )

pub may_then : (run : DividedRun) (own xs ys : List Call) → MayMake run 1 0 own xs → MayMake run 1 0 (own ++ xs) ys → MayMake run 1 0 own (xs ++ ys)
may_then run own [] ys p q = subst (λ (l : List Call). MayMake run 1 0 l ys) (append-nil own) q
may_then run own (x ∷ xs) ys p q =
    (p.0, may_then run (own ++ x ∷ []) xs ys p.1 (subst (λ (l : List Call). MayMake run 1 0 l ys) (sym (append_assoc own (x ∷ []) xs)) q))

-- ---- the calls of a step

-- no take of these failed, and all that they took is of the connection
abbrev pub AreSure : ℕ → List Call → Type 0
AreSure conn calls = All TookSurely calls × All (λ (e : Entry). e.conn ≡ conn) (taken_of calls)

-- the next index of the connection counts what was taken
abbrev pub IsReady : DividedRun → ℕ → List Call → Type 0
IsReady run conn own = IsNext run 0 own conn (count own)

pub ready_more : (run : DividedRun) (conn : ℕ) (own calls : List Call) → AreSure conn calls → IsReady run conn own → IsReady run conn (own ++ calls)
ready_more run conn own calls sure ready = subst (IsNext run 0 (own ++ calls) conn) (sym (count_then own calls)) (next_more run 0 own calls conn (count own) sure.0 sure.1 ready)

-- what is done in a step: calls that may be made, and that are sure
abbrev pub IsDoable : DividedRun → ℕ → List Call → List Call → Type 0
IsDoable run conn own calls = MayMake run 1 0 own calls × AreSure conn calls

module _ (run : DividedRun) (conn : ℕ) (own : List Call) where
  pub may_none : (calls : List Call) → calls ≡ [] → MayMake run 1 0 own calls
  may_none calls is = subst (MayMake run 1 0 own) (sym is) tt

  -- a group of which no unit is an id
  pub may_plain : (group : List Entry) (answer : Result Receipt TakeFault) (calls : List Call) → IsReady run conn own → AreNext conn
      (count own) group → All IsPlain group → calls ≡ takes group answer ∷ [] → MayMake run 1 0 own calls
  may_plain group answer calls ready follow plain is =
      subst (MayMake run 1 0 own) (sym is) ((may_next (IsNext run 0 own) conn (count own) group ready follow, inl plain), tt)

  -- a group of an id that was issued just before
  may_take_under : (channel id : ℕ) (group : List Entry) (answer : Result Receipt TakeFault) (rest : List Call) → IsReady run conn own
      → AreNext conn (count own) group → AreOfUnit id group
      → MayMake run 1 0 ((own ++ issues channel (Ok id) ∷ []) ++ takes group answer ∷ []) rest → MayMake run 1 0 own
      (issues channel (Ok id) ∷ takes group answer ∷ rest)
  may_take_under channel id group answer rest ready follow units more =
      let issued = issues channel (Ok id) ∷ [] in
      let sure : AreSure conn issued = (
        All-cons TookSurely (issues channel (Ok id)) [] tt (All-nil TookSurely),
        All-nil
            (λ (e : Entry). e.conn ≡ conn),
      ) in
      let none : count own + length (taken_of issued) ≡ count own = omega arith in
      let still = subst (IsNext run 0 (own ++ issued) conn) none (next_more run 0 own issued conn (count own) sure.0 sure.1 ready) in (
        tt,
        (
          (
            may_next (IsNext run 0 (own ++ issued)) conn (count own) group still follow,
            inr
                (id, unused_new own channel id, units),
          ),
          more,
        ),
      )

  pub may_settle : (channel id : ℕ) (group : List Entry) (receipt : Receipt) (unsettled : Bool) (calls : List Call) → IsReady run conn own
      → AreNext conn (count own) group → AreOfUnit id group → 0 < length group
      → calls ≡ issues channel (Ok id) ∷ takes group (Ok receipt) ∷ settles channel id unsettled ∷ [] → MayMake run 1 0 own calls
  may_settle channel id group receipt unsettled calls ready follow units some is =
      subst (MayMake run 1 0 own) (sym is)
      (may_take_under channel id group (Ok receipt) (settles channel id unsettled ∷ []) ready follow units
      (stored_new (own ++ issues channel (Ok id) ∷ []) group receipt id some units, tt))

  pub may_forget : (channel id : ℕ) (group : List Entry) (answer : Result Receipt TakeFault) (held : Bool) (calls : List Call)
      → IsReady run conn own → AreNext conn (count own) group → AreOfUnit id group
      → calls ≡ issues channel (Ok id) ∷ takes group answer ∷ forgets channel id held ∷ [] → MayMake run 1 0 own calls
  may_forget channel id group answer held calls ready follow units is =
      subst (MayMake run 1 0 own) (sym is) (may_take_under channel id group answer (forgets channel id held ∷ []) ready follow units
      (tt, tt))

pub sure_none : (conn : ℕ) (calls : List Call) → calls ≡ [] → AreSure conn calls
sure_none conn calls is = subst (AreSure conn) (sym is) (All-nil TookSurely, All-nil (λ (e : Entry). e.conn ≡ conn))

pub sure_group : (conn index : ℕ) (group : List Entry) (receipt : Receipt) (calls : List Call) → AreNext conn index group
    → calls ≡ takes group (Ok receipt) ∷ [] → AreSure conn calls
sure_group conn index group receipt calls follow is =
    subst (AreSure conn) (sym is) (took_surely group receipt, took_of_conn conn index group receipt follow)

pub sure_settled : (conn index channel id : ℕ) (group : List Entry) (receipt : Receipt) (unsettled : Bool) (calls : List Call)
    → AreNext conn index group
    → calls ≡ issues channel (Ok id) ∷ takes group (Ok receipt) ∷ settles channel id unsettled ∷ [] → AreSure conn calls
sure_settled conn index channel id group receipt unsettled calls follow is =
    let last = settles channel id unsettled in
    subst (AreSure conn) (sym is) (
      All-cons TookSurely (issues channel (Ok id)) (takes group (Ok receipt) ∷ last ∷ []) tt
          (All-cons TookSurely (takes group (Ok receipt)) (last ∷ []) refl (All-cons TookSurely last [] tt (All-nil TookSurely))),
      took_of_conn conn index group receipt follow,
    )

-- ---- a connection

-- Each step's calls may be made and are sure, where frames are such.
module _ {F : Type 0} (p : Protocol F) (Fits : F → Type 0) (run : DividedRun) (conn : ℕ)
    (each : (before : List (Step F)) (s : Step F) → All Fits s.frames → p.IsMove before s → IsReady run conn (calls_of before) → IsDoable run conn (calls_of before) s.calls) where
  steps_may : (before steps : List (Step F)) → AreMoves p before steps → All Fits (frames_of steps) → IsReady run conn (calls_of before)
      → MayMake run 1 0 (calls_of before) (calls_of steps) × IsReady run conn (calls_of before ++ calls_of steps)
  steps_may before [] are fits ready = (tt, subst (IsReady run conn) (sym (append-nil (calls_of before))) ready)
  steps_may before (s ∷ steps) are fits ready =
      let here = each before s (all_left Fits s.frames (frames_of steps) fits) are.0 ready in
      let same : calls_of (before ++ s ∷ []) ≡ calls_of before ++ s.calls = calls_then before (s ∷ [])
      ∙ ap (λ (l : List Call). calls_of before ++ l) (append-nil s.calls) in
      let after = ready_more run conn (calls_of before) s.calls here.1 ready in
      let rest =
      steps_may (before ++ s ∷ []) steps are.1 (all_right Fits s.frames (frames_of steps) fits)
      (subst (IsReady run conn) (sym same) after) in
      let rest' = subst (λ (l : List Call). MayMake run 1 0 l (calls_of steps) × IsReady run conn (l ++ calls_of steps)) same rest in (
        may_then run (calls_of before) s.calls (calls_of steps) here.0 rest'.0,
        subst (IsReady run conn)
            (append_assoc (calls_of before) s.calls (calls_of steps)) rest'.1,
      )

  pub connection_may : (left : Option (List ℕ)) (b : List ℕ) (calls : List Call) (text : List ℕ) (talk : Talk)
      (c : Carried p left b calls text talk) → Belongs run 0 conn → All Fits (frames_of c.steps)
      → (IsReady run conn (calls_of c.steps) → MayMake run 1 0 (calls_of c.steps) c.late) → MayMake run 1 0 [] calls
  connection_may left b calls text talk c belongs fits last =
      let steps = steps_may [] c.steps c.each fits (next_first run 0 [] conn belongs tt) in
      subst (MayMake run 1 0 []) (sym c.made) (may_then run [] (calls_of c.steps) c.late steps.0 (last steps.1))
