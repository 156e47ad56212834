-- What the passes of a group know once their takes are entered, and once they have seen the whole group.
use Rattle.std.proofs.Common.{◌≡◌, ℕ, ◌+◌, ◌-◌, ◌≤◌, Bool, false, List, [], ◌∷◌, ◌++◌, length, refl, sym, ap, ◌∙◌, subst, arith, append_assoc}
use Rattle.std.specs.Prelude.{◌^◌, take, Option, Some, Result, Ok, Err, IfOk, IfErr}
use Rattle.std.proofs.lemmas.List.{append-nil, take_all}
use Rattle.atomic_table.specs.Table.{Me}
use Rattle.event_form.specs.declared.event.Entry.{Entry}
use Rattle.foundation.specs.Faults.{Rose}
use Rattle.spool_answers.specs.declared.receipt.Receipt.{Receipt}
use Rattle.spool_faults.specs.declared.fault.TakeFault.{TakeFault}
use Rattle.spool_faults.specs.declared.fault.TakeFault.TheVariants as Take
use Rattle.spool_answers.specs.Take.{IsRefusal}
use Rattle.edge_disk.specs.declared.disk.Disk.{Ghosts}
use Rattle.edge_disk.proofs.Moments.{both}
use Rattle.desk_access.specs.Division.{DividedRun}
use Rattle.desk_access.specs.Call.{Call, takes, Record, NoneJoins, own_of, failures_of, failed_of}
use Rattle.desk_access.specs.Desk.{DeskState, Stood}
use Rattle.desk_access.specs.Journal.{goes_then, own_then, failed_then, rose_then, stood_first, stood_later}
use Rattle.desk_access.specs.Legal.{May, Met}
use Rattle.desk_access.proofs.Nexts.{met_then}
use Rattle.spool_desk.specs.declared.alone.Alone.{Alone}
use Rattle.spool_desk.specs.Alone.{AloneView, alone_at, LeadsFrom, RunsTo}
use Rattle.spool_turns.specs.Rules.{View, Facts, PassView, Handed, made_by, Knows, after_call, caught_up, handed_by}
use Rattle.desk_seats.specs.Own.{own_of-snoc, own_of-rest}
use Rattle.desk_seats.specs.Passes.{Known, known, LeadsAbove, AllJoin, Calls}
use Rattle.spool_turns.specs.Passes.{Beginning, known_of, Sound, IsTurn, pass_of, pass_in, facts_in}
use Rattle.spool_turns.specs.Replays.{LeadsBy, Replays, IsExact}
use Rattle.spool_turns.specs.Letters.{IsAnswered, claimed}
use Rattle.spool_turns.specs.Joining.{entries_out, IsJoined, IsEntered}
use Rattle.spool_turns.proofs.Led.{each_more}
use Rattle.spool_turns.proofs.Called.{nothing_behind}
use Rattle.spool_turns.proofs.JointRecords.{join_then}

none_both : (log more : List Record) → NoneJoins log → NoneJoins more → NoneJoins (log ++ more)
none_both [] more first rest = rest
none_both (one ∷ log) more first rest = (first.0, none_both log more first.1 rest)

-- calls of one change after a journal
module _ (tells : Type 0) (start : DeskState → Type 0) (run : DividedRun) (began : Beginning) (b c : AloneView) (log records : List Record)
    (alone : began.grouped ≡ false → NoneJoins records)
    (each : (n : ℕ) → failures_of (own_of n records) ≤ failed_of records) where
  led : (x : DeskState) (p : LeadsBy x began.moment log b) → LeadsFrom p.after b records c → LeadsBy x began.moment (log ++ records) c
  led x p q = record {
    after = q.after;
    goes = goes_then x p.after q.after log records p.goes q.goes;
    reached = q.reached;
    any_moment = both (Stood x log) (Stood p.after records) (Stood x (log ++ records)) began.moment b.spool.moment c.spool.moment p.any_moment q.any_moment
        (λ image h. stood_first x log records image h)
        (λ image h. stood_later x p.after log records image p.goes h);
  }

  pub replays_many : Replays tells start run began log b → RunsTo tells b records c → Replays tells start run began (log ++ records) c
  replays_many h r = record {
    begins = h.begins;
    leads = λ x s. let p = h.leads x s in led x p (r.leads p.after (h.begins x s).told p.reached);
    later = omega (arith, h.later, r.later);
    cause = subst (λ (k : ℕ). Rose k began.moment.faults c.spool.moment.faults) (sym (failed_then log records))
        (rose_then (failed_of log) (failed_of records) began.moment.faults b.spool.moment.faults c.spool.moment.faults h.cause r.cause h.later r.later);
    quiet = λ none. r.quiet (omega (arith, none, failed_then log records)) ∙ h.quiet (omega (arith, none, failed_then log records));
    size = r.size ∙ h.size;
    alone = λ off. none_both log records (h.alone off) (alone off);
    each = λ n. each_more n log records (h.each n) (each n);
  }

-- no call after a journal
pub replays_still : (tells : Type 0) (start : DeskState → Type 0) (run : DividedRun) (began : Beginning) (b c : AloneView) (log : List Record)
    → Replays tells start run began log b → RunsTo tells b [] c → Replays tells start run began log c
replays_still tells start run began b c log h r =
    subst (λ (l : List Record). Replays tells start run began l c) (append-nil log)
    (replays_many tells start run began b c log [] (λ off. tt) (λ n. omega arith) h r)

-- the take of a pass m is entered in the journal, which leads on from there
module _ (start : DeskState → Type 0) (run : DividedRun) (seats : ℕ) (f : Facts) (m : PassView) (one : Record) (knew : Knows f m) (legal : Met run (seats - 1) [] f.log)
    (may : May run (seats - 1) m.number m.own one.call)
    (leads : (x : DeskState) → start x → LeadsAbove x (f.log ++ made_by m.number one ∷ []) f.end f.cursor) where
  pub met_entered : Met run (seats - 1) [] (f.log ++ made_by m.number one ∷ [])
  met_entered = met_then run (seats - 1) [] f.log (made_by m.number one) legal (subst (λ (l : List Call). May run (seats - 1) m.number l one.call) (sym knew.own) may)

  seen_here : f.log ++ made_by m.number one ∷ [] ≡ ((m.seen ++ knew.seen.0) ++ made_by m.number one ∷ []) ++ []
  seen_here =
      ap (λ (l : List Record). l ++ made_by m.number one ∷ []) (sym knew.seen.1)
      ∙ sym (append-nil ((m.seen ++ knew.seen.0) ++ made_by m.number one ∷ []))

  above : (x : DeskState) → start x → LeadsAbove x (f.log ++ made_by m.number one ∷ []) m.end_known m.cursor_known
  above x s = let p = leads x s in (p.0, p.1, omega (arith, p.2, knew.end_known), omega (arith, p.3, knew.cursor_known))

  pub calls_entered : Calls start run seats (known_of m) one.call (known_of (after_call f m one))
  calls_entered = record {
    between = knew.seen.0;
    others = own_of-rest m.number m.seen knew.seen.0 m.own [] knew.own_seen (ap (own_of m.number) knew.seen.1 ∙ knew.own ∙ sym (append-nil m.own));
    one = made_by m.number one;
    by = refl;
    of_call = refl;
    behind = [];
    follow = nothing_behind one.call;
    others_behind = refl;
    seen = seen_here;
    own = refl;
    number = refl;
    all = own_of-snoc m.number f.log (made_by m.number one) refl ∙ ap (λ (l : List Call). l ++ one.call ∷ []) knew.own;
    met = met_entered;
    end_known = omega (arith, knew.end_known);
    cursor_known = omega (arith, knew.cursor_known);
    lawful = above;
    own_lawful = λ x s. subst (λ (l : List Record). LeadsAbove x l m.end_known m.cursor_known) (seen_here ∙ append-nil ((m.seen ++ knew.seen.0) ++ made_by m.number one ∷ [])) (above x s);
  }

-- a pass m whose take was entered sees the whole journal, which led to where the desk is
module _ (tells : Type 0) (start : DeskState → Type 0) (run : DividedRun) (seats : ℕ) (began : Beginning) (me : Me ℕ View) (now : AloneView) (m : PassView)
    (turn : IsTurn seats me now) (replays : Replays tells start run began (facts_in me.0).log now) (legal : Met run (seats - 1) [] (facts_in me.0).log)
    (exact : IsExact tells now) (knew : Knows (facts_in me.0) m) where
  abbrev f : Facts
  f = facts_in me.0

  pub sound_caught : Sound start (caught_up f m)
  sound_caught = record {
    also = refl;
    own = knew.own;
    lawful = λ x s. let p = replays.leads x s in let e = exact p.after (replays.begins x s).told p.reached in (p.after, p.goes, omega (arith, e.0, turn.end), omega (arith, e.1, turn.cursor));
  }

  pub calls_caught : (v : Known) (group : List Entry) (answer : Result Receipt TakeFault) → Calls start run seats v (takes group answer) (known_of m) → AllJoin knew.seen.0
      → Calls start run seats v (takes group answer) (known_of (caught_up f m))
  calls_caught v group answer p joins = record {
    between = p.between;
    others = p.others;
    one = p.one;
    by = p.by;
    of_call = p.of_call;
    behind = p.behind ++ knew.seen.0;
    follow = join_then p.behind knew.seen.0 p.follow joins;
    others_behind = own_then v.number p.behind knew.seen.0 ∙ (λ k. p.others_behind k ++ none k);
    seen = sym knew.seen.1 ∙ ap (λ (l : List Record). l ++ knew.seen.0) p.seen ∙ append_assoc ((v.seen ++ p.between) ++ p.one ∷ []) p.behind knew.seen.0;
    own = p.own;
    number = p.number;
    all = knew.own;
    met = legal;
    end_known = omega (arith, p.end_known, knew.end_known);
    cursor_known = omega (arith, p.cursor_known, knew.cursor_known);
    lawful = λ x s. let q = replays.leads x s in (q.after, q.goes, omega (arith, p.end_known, knew.end_known, turn.end, q.reached.end_known), omega (arith, p.cursor_known, knew.cursor_known, turn.cursor, q.reached.cursor_known));
    own_lawful = p.own_lawful;
  }
    where
      none : own_of v.number knew.seen.0 ≡ []
      none = ap (λ (n : ℕ). own_of n knew.seen.0) (sym p.number)
          ∙ own_of-rest m.number m.seen knew.seen.0 m.own [] knew.own_seen (ap (own_of m.number) knew.seen.1 ∙ knew.own ∙ sym (append-nil m.own))

same_entries : (entries part : List Entry) (out : Option Handed) (m : PassView) (front : Bool) → part ≡ entries_out out → out ≡ Some (handed_by m entries front) → part ≡ entries
same_entries entries part out m front is out_is = is ∙ ap entries_out out_is

pub receipt_of : (answer : Result Receipt TakeFault) (n k : ℕ) → n ≡ k → IfOk answer (λ receipt. (receipt.count ≡ n) × (receipt.first + receipt.count ≤ 2 ^ 63)) → IfOk answer (λ receipt. (receipt.count ≡ k) × (receipt.first + receipt.count ≤ 2 ^ 63))
receipt_of answer n k is ok = subst (λ (i : ℕ). IfOk answer (λ receipt. (receipt.count ≡ i) × (receipt.first + receipt.count ≤ 2 ^ 63))) is ok

-- A letter whose entries stand in the group, by its seat from: its take is entered with this answer, as the record one of the journal of f.
module _ (start : DeskState → Type 0) (run : DividedRun) (seats number count room : ℕ) (front : Bool) (from : Me ℕ View) (l : IsJoined run seats number count room front from)
    (f : Facts) (one : Record) (part : List Entry) (answer : Result Receipt TakeFault) (call_is : one.call ≡ takes part answer) (part_is : part ≡ entries_out (pass_in from.0).out)
    (knew : Knows f (pass_in from.0)) (legal : Met run (seats - 1) [] f.log)
    (leads : (x : DeskState) → start x → LeadsAbove x (f.log ++ made_by (pass_in from.0).number one ∷ []) f.end f.cursor) where
  abbrev m : PassView
  m = pass_in from.0

  entries_are : part ≡ l.entries
  entries_are = same_entries l.entries part m.out m front part_is l.letter.out

  may_enter : May run (seats - 1) m.number m.own one.call
  may_enter = subst (λ (k : Call × ℕ). May run (seats - 1) k.1 m.own k.0) (λ i. (sym (call_is ∙ ap (λ (e : List Entry). takes e answer) entries_are) i, sym l.letter.number_is i)) (l.letter.next, l.letter.units)

  pub met_joined : Met run (seats - 1) [] (f.log ++ made_by m.number one ∷ [])
  met_joined = met_entered start run seats f m one knew legal may_enter leads

  pub is_entered : (it : Me ℕ View) → it ≡ pass_of (after_call f m one) → IfOk answer (λ receipt. (receipt.count ≡ length part) × (receipt.first + receipt.count ≤ 2 ^ 63))
      → IfErr answer (λ fault. fault ≡ Take.DiskFault) → IsEntered start run seats number count room answer it
  is_entered it is ok only = subst (IsEntered start run seats number count room answer) (sym is) (record {
    pass = refl;
    number_is = l.letter.number_is;
    one_of = l.letter.one_of;
    handed = handed_by m l.entries front;
    out = l.letter.out;
    count_is = l.count_is;
    some = omega (arith, l.letter.some, l.count_is);
    fits = l.fits;
    calls = subst (λ (k : Known × Call). Calls start run seats k.0 k.1 (known_of (after_call f m one)))
        (λ i. (known (l.letter.number_is i) m.seen m.own m.end_known m.cursor_known, (call_is ∙ ap (λ (e : List Entry). takes e answer) entries_are) i))
        (calls_entered start run seats f m one knew legal may_enter leads);
    receipt = receipt_of answer (length part) count (ap (λ (e : List Entry). length e) entries_are ∙ sym l.count_is) ok;
    only = only;
  })

no_refusal : (answer : Result Receipt TakeFault) (count : ℕ) → IfErr answer (λ fault. fault ≡ Take.DiskFault) → IfErr answer (λ fault. IsRefusal fault → count ≡ 1)
no_refusal (Ok receipt) count only = tt
no_refusal (Err fault) count only = λ is. absurd (subst IsRefusal only is)

pub same_front : {A : Type 0} (xs us ys vs : List A) → xs ++ ys ≡ us ++ vs → length xs ≡ length us → (xs ≡ us) × (ys ≡ vs)
same_front [] [] ys vs is equal = (refl, is)
same_front [] (u ∷ us) ys vs is equal = absurd (omega (arith, equal))
same_front (x ∷ xs) [] ys vs is equal = absurd (omega (arith, equal))
same_front (x ∷ xs) (u ∷ us) ys vs is equal =
    let head : x ≡ u = cc is in
    let tail : xs ++ ys ≡ us ++ vs = cc is in
    let rest = same_front xs us ys vs tail (omega (arith, equal)) in
    ((λ i. head i ∷ rest.0 i), rest.1)

-- The letter is answered once its pass has seen the whole journal.
module _ {D : Type 0} (disks : Ghosts D) (start : DeskState → Type 0) (run : DividedRun) (seats : ℕ) (began : Beginning) (me from : Me ℕ View) (now : Alone D disks) (number count room : ℕ) (answer : Result Receipt TakeFault)
    (turn : IsTurn seats me (alone_at now)) (replays : Replays disks.tells start run began (facts_in me.0).log (alone_at now)) (legal : Met run (seats - 1) [] (facts_in me.0).log)
    (exact : IsExact disks.tells (alone_at now)) (knew : Knows (facts_in me.0) (pass_in from.0)) (l : IsEntered start run seats number count room answer from)
    (joins : AllJoin knew.seen.0) where
  pub is_answered : (entries : List Entry) (it : Me ℕ View) → entries ≡ entries_out (pass_in from.0).out → it ≡ pass_of (caught_up (facts_in me.0) (pass_in from.0))
      → IsAnswered disks start run seats began number entries count answer it
  is_answered entries it same is =
      let whole : take count l.handed.entries ≡ l.handed.entries = take_all count l.handed.entries (omega (arith, l.count_is)) in
      subst (IsAnswered disks start run seats began number entries count answer) (sym is) (record {
        pass = refl;
        number_is = l.number_is;
        one_of = l.one_of;
        handed = l.handed;
        out = l.out;
        same = same ∙ ap entries_out l.out;
        sound = sound_caught disks.tells start run seats began me (alone_at now) (pass_in from.0) turn replays legal exact knew;
        calls = subst (λ (e : List Entry). Calls start run seats (claimed number l.handed) (takes e answer) (known_of (caught_up (facts_in me.0) (pass_in from.0)))) (sym whole)
            (calls_caught disks.tells start run seats began me (alone_at now) (pass_in from.0) turn replays legal exact knew (claimed number l.handed) l.handed.entries answer l.calls joins);
        real = (now, replays, legal);
        some = l.some;
        within = omega (arith, l.count_is);
        whole = λ all. l.count_is;
        receipt = l.receipt;
        alone = λ front. no_refusal answer count l.only;
      })
