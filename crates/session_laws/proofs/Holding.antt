-- A session that a pass held, as it is in the journal.
use Rattle.std.proofs.Common.{◌≡◌, ◌⊎◌, inl, inr, ℕ, ◌+◌, ◌<◌, ◌≤◌, List, [], ◌∷◌, ◌++◌, take, Option, refl, sym, ◌∙◌, ap, subst, arith, append_assoc}
use Rattle.std.specs.Prelude.{None, Some, Ok, min}
use Rattle.std.proofs.lemmas.Bool.{cases_eq}
use Rattle.spool_state.specs.SpoolState.{IsSound, SpoolState, end}
use Rattle.spool_state.specs.Left.{NumberedEntry, left_from}
use Rattle.spool_answers.specs.declared.numbered.Numbered.{Numbered}
use Rattle.spool_answers.specs.Pend.{AreNumbered, given_entries}
use Rattle.desk_access.specs.Division.{DividedRun}
use Rattle.desk_access.specs.declared.standing.Standing.{Standing}
use Rattle.desk_access.specs.Call.{Call, Record, confirms, marks, own_of, pends}
use Rattle.desk_access.specs.Desk.{Answers, AnswersAs, DeskState, Goes}
use Rattle.desk_access.specs.History.{IsDesk}
use Rattle.desk_access.specs.Journal.{goes_parts, goes_then, of_other, own_then}
use Rattle.desk_access.specs.Legal.{May, Met}
use Rattle.desk_access.proofs.OneState.{one_state}
use Rattle.desk_access.proofs.Steps.{goes_later}
use Rattle.forward_core.specs.Forwarded.{until_by}
use Rattle.forward_core.specs.declared.outward.Outward.{Outward}
use Rattle.forward_core.proofs.Rest.{as_given, left_rise, one_entry}
use Rattle.desk_seats.specs.Passes.{Known, LeadsAbove, upto_first}
use Rattle.desk_seats.specs.Ran.{Ran, upto_first-none}
use Rattle.serve_forwarder.specs.Looks.{Every, First, Offer, first_of, upto_of}
use Rattle.serve_forwarder.specs.Sessions.{IsHeld, Session}
use Rattle.session_laws.specs.Beside.{IsAmong, IsMarking, MarksAlone}
use Rattle.session_laws.proofs.Coming.{own_here, own_there, upto_here, upto_there}

-- ---- who marks

may_alone : (run : DividedRun) (confirming number : ℕ) (own : List Call) (call : Call) → May run confirming number own call → IsMarking call → number ≡ confirming
may_alone run confirming number own (marks stretches result) may marking = may
may_alone run confirming number own (confirms upto result) may marking = may
may_alone run confirming number own call may marking = absurd marking

-- In a journal of which each call is one that its caller may make only the caller that may confirm marks and confirms.
pub met_alone : (run : DividedRun) (confirming : ℕ) (before records : List Record) → Met run confirming before records → MarksAlone confirming records
met_alone run confirming before [] met = tt
met_alone run confirming before (one ∷ records) met =
    (may_alone run confirming one.by (own_of one.by before) one.call met.0, met_alone run confirming (before ++ one ∷ []) records met.1)

pub alone_parts : (number : ℕ) (xs ys : List Record) → MarksAlone number (xs ++ ys) → MarksAlone number xs × MarksAlone number ys
alone_parts number [] ys alone = (tt, alone)
alone_parts number (x ∷ xs) ys alone = let rest = alone_parts number xs ys alone.1 in ((alone.0, rest.0), rest.1)

-- ---- one reading of the caller

-- the records up to the one of that call, and others
pub record Split (number : ℕ) (xs : List Record) (call : Call) : Type 0 where
  pub rest : List Record
  pub parts : xs ≡ upto_first number xs ++ rest
  pub own : own_of number (upto_first number xs) ≡ call ∷ []
  pub none : own_of number rest ≡ []

upto_split : (number : ℕ) (xs : List Record) (call : Call) → own_of number xs ≡ call ∷ [] → Split number xs call
upto_split number [] call is = absurd (cc (is))
upto_split number (x ∷ xs) call is = elim (cases_eq x.by number) [
  | inl same ↦
      let all : x.call ∷ own_of number xs ≡ call ∷ [] = sym (own_here number x xs same) ∙ is in
      let at = upto_here number x xs same in
      record {
        rest = xs;
        parts = sym (ap (λ (l : List Record). l ++ xs) at);
        own = ap (own_of number) at ∙ own_here number x [] same ∙ ap (λ (c : Call). c ∷ []) (let first : x.call ≡ call = cc (all) in first);
        none = cc (all);
      }
  | inr off ↦
      let later = upto_split number xs call (sym (own_there number x xs off) ∙ is) in
      let at = upto_there number x xs off in
      record {
        rest = later.rest;
        parts = ap (λ (l : List Record). x ∷ l) later.parts ∙ sym (ap (λ (l : List Record). l ++ later.rest) at);
        own = ap (own_of number) at ∙ own_there number x (upto_first number xs) off ∙ later.own;
        none = later.none;
      }
]

-- a desk after a reading that gave these
pub record HasRead (x : DeskState) (from most : ℕ) (given : List Numbered) : Type 0 where
  pub sure : x.doubt ≡ []
  pub reads : given_entries given ≡ take most (left_from x.spool from)

read_at : (w z : DeskState) (from most : ℕ) (given : List Numbered) (met : Option Standing) → Answers w (pends from most (Ok given)) met z → HasRead z from most given
read_at w z from most given met (inl stays) = absurd (cc (stays.1))
read_at w z from most given met (inr went) = record {
  sure = ap (λ (d : DeskState). d.doubt) went.2.1;
  reads = went.2.0 ∙ ap (λ (m : SpoolState). take most (left_from m from)) (sym (ap (λ (d : DeskState). d.spool) went.2.1));
}

pub read_first : (number : ℕ) (w x : DeskState) (xs : List Record) (from most : ℕ) (given : List Numbered) → own_of number xs ≡ pends from most (Ok given) ∷ [] → Goes w (upto_first number xs) x → HasRead x from most given
read_first number w x [] from most given is goes = absurd (cc (is))
read_first number w x (y ∷ xs) from most given is goes = elim (cases_eq y.by number) [
  | inl same ↦
      let all : y.call ∷ own_of number xs ≡ pends from most (Ok given) ∷ [] = sym (own_here number y xs same) ∙ is in
      let first : y.call ≡ pends from most (Ok given) = cc (all) in
      let one : Goes w (y ∷ []) x = subst (λ (l : List Record). Goes w l x) (upto_here number y xs same) goes in
      subst (λ (d : DeskState). HasRead d from most given) (sym one.2) (read_at w one.0 from most given y.met (of_other y.joins w one.0 (pends from most (Ok given)) y.met tt (subst (λ (c : Call). AnswersAs y.joins w c y.met one.0) first one.1.answers)))
  | inr off ↦
      let more : Goes w (y ∷ upto_first number xs) x = subst (λ (l : List Record). Goes w l x) (upto_there number y xs off) goes in
      read_first number more.0 x xs from most given (sym (own_there number y xs off) ∙ is) more.2
]

-- ---- where a session ends

-- the number after the first of these entries
abbrev pub IsAfterFirst : List Numbered → ℕ → Type 0
IsAfterFirst [] n = ⊥
IsAfterFirst (one ∷ given) n = n ≡ one.number + 1

-- a reading that gave an entry gave the first of those that were left
pub none_given : (one : Numbered) (given : List Numbered) → given_entries (one ∷ given) ≡ take 1 [] → ⊥
none_given one given same = let none : one_entry one ∷ given_entries given ≡ [] = same in cc (none)

pub first_given : (one : Numbered) (given : List Numbered) (x : NumberedEntry) (xs : List NumberedEntry) → given_entries (one ∷ given) ≡ take 1 (x ∷ xs) → one.number ≡ x.number
first_given one given x xs same =
    let all : one_entry one ∷ given_entries given ≡ x ∷ take 0 xs = same in
    let heads : one_entry one ≡ x = cc (all) in
    ap (λ (e : NumberedEntry). e.number) heads

-- that one is below the end
first_below : (s : SpoolState) (one : Numbered) (given : List Numbered) → IsSound s → given_entries (one ∷ given) ≡ take 1 (left_from s 0) → one.number < end s
first_below s one given sound is = by (left_from s 0) is (left_rise s 0 sound) where
  by : (xs : List NumberedEntry) → given_entries (one ∷ given) ≡ take 1 xs → AreNumbered 0 (end s) (as_given xs) → one.number < end s
  by [] same are = absurd (none_given one given same)
  by (x ∷ xs) same are = omega (arith, first_given one given x xs same, are.1)

-- a session that was offered all ends at the desk's end or after it, one that was offered the first entry directly after that one
reaches_by : (s : SpoolState) (offer : Offer) (given : List Numbered) (asked until : ℕ) → IsSound s → given_entries given ≡ take 1 (left_from s 0) → end s ≤ asked → until ≡ until_by (upto_of offer (first_of (Ok given))) asked
    → (end s ≤ until) ⊎ IsAfterFirst given until
reaches_by s Every given asked until sound reads le is = let at : until ≡ asked = is in inl (omega (arith, le, at))
reaches_by s First [] asked until sound reads le is = let at : until ≡ asked = is in inl (omega (arith, le, at))
reaches_by s First (one ∷ given) asked until sound reads le is =
    let at : until ≡ min (one.number + 1) asked = is in
    let low : one.number < end s = first_below s one given sound reads in
    inr (omega (arith, le, at, low))

-- it doesn't end after the end that was asked for
until_within : (upto : Option ℕ) (asked : ℕ) → until_by upto asked ≤ asked
until_within None asked = omega arith
until_within (Some n) asked = omega arith

-- ---- a session

-- Of these records the first led to a desk that had read, and the others are those of the session and what others did beside it.
pub record IsOn (number : ℕ) (one : Session) (given : List Numbered) (w z : DeskState) (between : List Record) : Type 0 where
  pub first : List Record
  pub rest : List Record
  pub parts : between ≡ first ++ rest
  pub x : DeskState
  pub goes : Goes w first x
  pub asked : own_of number first ≡ pends 0 1 (Ok given) ∷ []
  pub among : IsAmong x number one rest z
  pub read : HasRead x 0 1 given
  pub reaches : (end x.spool ≤ one.until) ⊎ IsAfterFirst given one.until

-- a state that the records led to later has no lower cursor or end
seen_before : (begun w x z y : DeskState) (seen first between more : List Record) → IsDesk begun → Goes begun seen w → Goes w first x → Goes x (between ++ more) z → Goes begun (seen ++ (first ++ between)) y
    → (x.spool.cursor ≤ y.spool.cursor) × (end x.spool ≤ end y.spool)
seen_before begun w x z y seen first between more rules goes_w goes_x goes_z goes_y =
    let there = goes_parts x z between more goes_z in
    let rules_x = (goes_later w x first (goes_later begun w seen rules goes_w).0 goes_x).0 in
    let later = (goes_later x there.0 between rules_x there.1).1 in
    let same : there.0 ≡ y = one_state begun there.0 y (seen ++ (first ++ between)) rules (goes_then begun w there.0 seen (first ++ between) goes_w (goes_then w x there.0 first between goes_x there.1)) goes_y in
    subst (λ (d : DeskState). (x.spool.cursor ≤ d.spool.cursor) × (end x.spool ≤ end d.spool)) same (later.follows.cursor, later.follows.end_rises)

-- what the records led to by the first call of a caller, said from a state on the way
leads_first : (begun w x : DeskState) (seen first between more : List Record) (number until start : ℕ) → IsDesk begun → Goes begun seen w → Goes w first x → own_of number between ≡ []
    → LeadsAbove begun ((seen ++ (first ++ between)) ++ upto_first number more) until start → LeadsAbove x (upto_first number (between ++ more)) until start
leads_first begun w x seen first between more number until start rules goes_w goes_x none h =
    let u = upto_first number more in
    let order : (seen ++ (first ++ between)) ++ u ≡ (seen ++ first) ++ (between ++ u) = ap (λ (l : List Record). l ++ u) (sym (append_assoc seen first between)) ∙ append_assoc (seen ++ first) between u in
    let there = goes_parts begun h.0 (seen ++ first) (between ++ u) (subst (λ (l : List Record). Goes begun l h.0) order h.1) in
    let same : there.0 ≡ x = one_state begun there.0 x (seen ++ first) rules there.1 (goes_then begun w x seen first goes_w goes_x) in
    let on : Goes x (between ++ u) h.0 = subst (λ (d : DeskState). Goes d (between ++ u) h.0) same there.2 in
    (h.0, subst (λ (l : List Record). Goes x l h.0) (sym (upto_first-none number between more none)) on, h.2, h.3)

pub held_on : (start : DeskState → Type 0) (outward : Outward) (offer : Offer) (one : Session) (given : List Numbered) (pass asked pass' : Known) (asks : Ran start pass (pends 0 1 (Ok given) ∷ []) asked) (held : IsHeld start outward (upto_of offer (first_of (Ok given))) one asked pass')
    (begun w z : DeskState) → start begun → IsDesk begun → Goes begun pass.seen w → Goes w (asks.between ++ held.made.between) z → MarksAlone pass.number (asks.between ++ held.made.between)
    → IsOn pass.number one given w z (asks.between ++ held.made.between)
held_on start outward offer one given pass asked pass' asks held begun w z could rules goes_w goes alone =
    let number = pass.number in
    let s = upto_split number asks.between (pends 0 1 (Ok given)) asks.own_between in
    let first = upto_first number asks.between in
    let more = held.made.between in
    let rest = s.rest ++ more in
    let parts : asks.between ++ more ≡ first ++ rest = ap (λ (l : List Record). l ++ more) s.parts ∙ append_assoc first s.rest more in
    let there = goes_parts w z first rest (subst (λ (l : List Record). Goes w l z) parts goes) in
    let x = there.0 in
    let rules_x = (goes_later w x first (goes_later begun w pass.seen rules goes_w).0 there.1).0 in
    let read = read_first number w x asks.between 0 1 given asks.own_between there.1 in
    let q = held.asked in
    let asked_seen : asked.seen ≡ pass.seen ++ (first ++ s.rest) = asks.seen ∙ ap (λ (l : List Record). pass.seen ++ l) s.parts in
    let between_seen : q.between.seen ≡ asked.seen = q.cursor_ran.quiet refl in
    let begun_seen : held.begun.seen ≡ pass.seen ++ (first ++ s.rest) = q.end_ran.quiet refl ∙ between_seen ∙ asked_seen in
    let begun_number : held.begun.number ≡ number = q.end_ran.number ∙ q.cursor_ran.number ∙ asks.number in
    let own_more : own_of number more ≡ one.calls = ap (λ (n : ℕ). own_of n more) (sym begun_number) ∙ held.made.own_between in
    let c = q.cursor_seen begun asked.seen (could, rules, refl) in
    let at_c = seen_before begun w x z c.0 pass.seen first s.rest more rules goes_w there.1 there.2 (subst (λ (l : List Record). Goes begun l c.0) asked_seen c.1) in
    let e = q.end_seen begun q.between.seen (could, rules, refl) in
    let at_e = seen_before begun w x z e.0 pass.seen first s.rest more rules goes_w there.1 there.2 (subst (λ (l : List Record). Goes begun l e.0) (between_seen ∙ asked_seen) e.1) in
    record {
      first = first;
      rest = rest;
      parts = parts;
      x = x;
      goes = there.1;
      asked = s.own;
      read = read;
      reaches = reaches_by x.spool offer given held.end one.until rules_x.sound read.reads (omega (arith, at_e.1, e.2)) held.until_is;
      among = record {
        rules = rules_x;
        sure = read.sure;
        goes = there.2;
        calls_are = own_then number s.rest more ∙ ap (λ (l : List Call). l ++ own_of number more) s.none ∙ own_more;
        alone = (alone_parts number first rest (subst (MarksAlone number) parts alone)).1;
        from_cursor = omega (arith, at_c.0, c.2);
        within = λ some.
            let h = held.made.first_lawful some begun could in
            let order : held.begun.seen ++ upto_first held.begun.number more ≡ (pass.seen ++ (first ++ s.rest)) ++ upto_first number more = λ i. begun_seen i ++ upto_first (begun_number i) more in
            leads_first begun w x pass.seen first s.rest more number one.until one.start rules goes_w there.1 s.none
            (h.0, subst (λ (l : List Record). Goes begun l h.0) order h.1, omega (arith, h.2, q.end_is, held.until_is, until_within (upto_of offer (first_of (Ok given))) held.end), omega (arith, h.3, q.cursor, q.end_ran.cursor_known));
      };
    }
