-- How far a session is on the desk, step by step.
use Rattle.std.proofs.Common.{◌≡◌, ℕ, ◌+◌, ◌-◌, ◌<◌, ◌≤◌, ◌^◌, Bool, true, false, List, [], ◌∷◌, ◌++◌, length, take, drop, refl, ap, ◌∙◌, sym, subst, inl, inr, arith, append_assoc, length-append}
use Rattle.std.specs.Prelude.{Contains, slice_index, Ok}
use Rattle.std.proofs.lemmas.List.{append-nil, map-append, length-map, drop-append-le, drop-drop}
use Rattle.std.proofs.lemmas.List.Elements.{Contains-push_cases}
use Rattle.known_numbers.specs.declared.stretch.Stretch.{Stretch}
use Rattle.spool_answers.specs.Pend.{AreNumbered}
use Rattle.spool_answers.specs.declared.numbered.Numbered.{Numbered}
use Rattle.desk_access.specs.Call.{Call, pends, marks}
use Rattle.forward_core.specs.Calls.{AreGranted, AreOfSession, IsMarked, MarksBelowRead, MarksFirst, asked_from, next_after, next_of, numbers_of, read_of, within}
use Rattle.forward_core.specs.Course.{below, alone, SameTold, TellsFirst, TellsOne}
use Rattle.forward_core.specs.Reading.{Added}
use Rattle.forward_core.specs.Session.{IsToMark, OnDesk}
use Rattle.forward_core.specs.declared.course.Course.{Course}
use Rattle.forward_core.proofs.Batches.{reading_leads}
use Rattle.forward_core.proofs.CallLists.{first_true, granted_then, low_then, marked_cases, marked_left, next_then, read_then, session_then}
use Rattle.forward_core.proofs.Marks.{to_mark_first, to_mark_low, to_mark_marked, to_mark_more, to_mark_one}
use Rattle.forward_core.proofs.Numbered.{numbered_then}

-- the same over the parts of a course
pub record Desk (marked : Bool) (start next end given told : ℕ) (numbers : List ℕ) (stretches : List Stretch) (also : List ℕ) (calls : List Call) : Type 0 where
  pub session : AreOfSession end start calls
  pub low : MarksBelowRead end 0 calls
  pub ordered : (more : List Call) → MarksFirst marked more → MarksFirst false (calls ++ more)
  pub granted : AreGranted calls
  pub next_is : next ≡ next_of end start calls
  pub begun : start ≤ next
  pub rising : AreNumbered start next (read_of end calls)
  pub count : given ≡ length (read_of end calls)
  pub numbers_are : numbers ≡ drop told (numbers_of (read_of end calls))
  pub places : (place : ℕ) → Contains also place → place < given
  pub to_mark : IsToMark (read_of end calls) told also stretches calls

pub desk_of : (marked : Bool) (start : ℕ) (c : Course) (also : List ℕ) (calls : List Call) → OnDesk marked start c also calls → Desk marked start c.next c.end c.given c.told c.numbers.items c.marks.items also calls
desk_of marked start c also calls d = record { session = d.session; low = d.low; ordered = d.ordered; granted = d.granted; next_is = d.next; begun = d.begun; rising = d.rising; count = d.count; numbers_are = d.numbers; places = d.places; to_mark = d.marks }

on_desk : (marked : Bool) (start : ℕ) (c : Course) (also : List ℕ) (calls : List Call) → Desk marked start c.next c.end c.given c.told c.numbers.items c.marks.items also calls → OnDesk marked start c also calls
on_desk marked start c also calls d = record { session = d.session; low = d.low; ordered = d.ordered; granted = d.granted; next = d.next_is; begun = d.begun; rising = d.rising; count = d.count; numbers = d.numbers_are; places = d.places; marks = d.to_mark }

-- a course with these parts
pub desk_at : (marked : Bool) (start next end given told : ℕ) (numbers : List ℕ) (stretches : List Stretch) (also : List ℕ) (calls : List Call) (c : Course) → c.next ≡ next → c.end ≡ end → c.given ≡ given → c.told ≡ told → c.numbers.items ≡ numbers → c.marks.items ≡ stretches
    → Desk marked start next end given told numbers stretches also calls → OnDesk marked start c also calls
desk_at marked start next end given told numbers stretches also calls c n e g t ns ms d =
    on_desk marked start c also calls
    (subst (λ (l : List Stretch). Desk marked start c.next c.end c.given c.told c.numbers.items l also calls) (sym ms)
    (subst (λ (l : List ℕ). Desk marked start c.next c.end c.given c.told l stretches also calls) (sym ns)
    (subst (λ (k : ℕ). Desk marked start c.next c.end c.given k numbers stretches also calls) (sym t)
    (subst (λ (k : ℕ). Desk marked start c.next c.end k told numbers stretches also calls) (sym g)
    (subst (λ (k : ℕ). Desk marked start c.next k given told numbers stretches also calls) (sym e)
    (subst (λ (k : ℕ). Desk marked start k end given told numbers stretches also calls) (sym n) d))))))

-- ---- calls that mark nothing, and a mark

to_mark_calls : (read : List Numbered) (told : ℕ) (also : List ℕ) (stretches : List Stretch) (calls more : List Call) → ((n : ℕ) → IsMarked more n → ⊥) → IsToMark read told also stretches calls → IsToMark read told also stretches (calls ++ more)
to_mark_calls read told also stretches calls more none h = record {
  waiting = h.waiting;
  are = h.are;
  ones = h.ones;
  covered = λ place c. elim (h.covered place c) [ inl m ↦ inl (marked_left calls more _ m) | inr w ↦ inr w ];
  only = λ n m. elim (marked_cases calls more n m) [ inl a ↦ h.only n a | inr b ↦ absurd (none n b) ];
}

pub read_marked : (end : ℕ) (calls : List Call) (stretches : List Stretch) → read_of end (calls ++ marks stretches (Ok tt) ∷ []) ≡ read_of end calls
read_marked end calls stretches = read_then end calls (marks stretches (Ok tt) ∷ []) ∙ append-nil (read_of end calls)

pub next_marked : (end start : ℕ) (calls : List Call) (stretches : List Stretch) → next_of end start (calls ++ marks stretches (Ok tt) ∷ []) ≡ next_of end start calls
next_marked end start calls stretches = next_then end start calls (marks stretches (Ok tt) ∷ [])

-- what may be said of the entries read may be said of them after a mark
desk_marked : (marked : Bool) (start next end given told : ℕ) (numbers : List ℕ) (stretches : List Stretch) (also : List ℕ) (calls : List Call) → told ≤ given → Desk marked start next end given told numbers stretches also calls
    → Desk true start next end given told numbers (take 1 stretches) also (calls ++ marks stretches (Ok tt) ∷ [])
desk_marked marked start next end given told numbers stretches also calls few d =
    let call : Call = marks stretches (Ok tt) in
    let same = sym (read_marked end calls stretches) in
    record {
      session = session_then end start calls (call ∷ []) d.granted d.session tt;
      low = low_then end 0 calls (call ∷ []) d.low (to_mark_low start next (read_of end calls) told also stretches calls d.rising (omega (arith, few, d.count)) d.to_mark, tt);
      ordered = λ more m. subst (λ (l : List Call). MarksFirst false l) (sym (append_assoc calls (call ∷ []) more)) (d.ordered (call ∷ more) m);
      granted = granted_then calls (call ∷ []) d.granted tt;
      next_is = d.next_is ∙ sym (next_marked end start calls stretches);
      begun = d.begun;
      rising = subst (λ (l : List Numbered). AreNumbered start next l) same d.rising;
      count = d.count ∙ ap (λ (l : List Numbered). length l) same;
      numbers_are = d.numbers_are ∙ ap (λ (l : List Numbered). drop told (numbers_of l)) same;
      places = d.places;
      to_mark = subst (λ (l : List Numbered). IsToMark l told also (take 1 stretches) (calls ++ call ∷ [])) same (to_mark_marked (read_of end calls) told also stretches calls d.to_mark);
    }

pub marked_on : (marked : Bool) (start : ℕ) (old new : Course) (also : List ℕ) (calls : List Call) → new.marks.items ≡ take 1 old.marks.items → SameTold old new → OnDesk marked start old also calls
    → OnDesk true start new also (calls ++ marks old.marks.items (Ok tt) ∷ [])
marked_on marked start old new also calls ms same d =
    desk_at true start old.next old.end old.given old.told old.numbers.items (take 1 old.marks.items) also (calls ++ marks old.marks.items (Ok tt) ∷ []) new same.rest.next same.rest.end same.rest.given same.told same.numbers ms
    (desk_marked marked start old.next old.end old.given old.told old.numbers.items old.marks.items also calls (omega (arith, old.counted)) (desk_of marked start old also calls d))

-- the mark is no longer the last call
pub unmarked_on : (start : ℕ) (old new : Course) (also : List ℕ) (calls : List Call) → new.next ≡ old.next → new.end ≡ old.end → new.given ≡ old.given → new.told ≡ old.told → new.numbers.items ≡ old.numbers.items → new.marks.items ≡ old.marks.items
    → OnDesk true start old also calls → OnDesk false start new also calls
unmarked_on start old new also calls n e g t ns ms d =
    let f = desk_of true start old also calls d in
    desk_at false start old.next old.end old.given old.told old.numbers.items old.marks.items also calls new n e g t ns ms
    (record { session = f.session; low = f.low; ordered = λ more m. f.ordered more (first_true more m); granted = f.granted; next_is = f.next_is; begun = f.begun; rising = f.rising; count = f.count; numbers_are = f.numbers_are; places = f.places; to_mark = f.to_mark })

-- ---- told

desk_first : (marked : Bool) (start next end given told now : ℕ) (numbers : List ℕ) (stretches : List Stretch) (also : List ℕ) (calls : List Call) → told < now → now ≤ given → Desk marked start next end given told numbers stretches also calls
    → Desk marked start next end given now (drop (now - told) numbers) (below (slice_index numbers (now - told - 1) + 1) ∷ drop 1 stretches) also calls
desk_first marked start next end given told now numbers stretches also calls less few d =
    let sum : told + (now - told) ≡ now = omega arith in
    record {
      session = d.session;
      low = d.low;
      ordered = d.ordered;
      granted = d.granted;
      next_is = d.next_is;
      begun = d.begun;
      rising = d.rising;
      count = d.count;
      numbers_are = ap (λ (l : List ℕ). drop (now - told) l) d.numbers_are ∙ drop-drop (now - told) told (numbers_of (read_of end calls)) ∙ ap (λ (k : ℕ). drop k (numbers_of (read_of end calls))) sum;
      places = d.places;
      to_mark = to_mark_first start next (read_of end calls) told now also stretches calls numbers d.rising less (omega (arith, few, d.count)) d.numbers_are d.to_mark;
    }

pub told_first_on : (marked : Bool) (start told : ℕ) (old new : Course) (also : List ℕ) (calls : List Call) → old.told < told → told ≤ old.given → TellsFirst told old new → OnDesk marked start old also calls → OnDesk marked start new also calls
told_first_on marked start told old new also calls less few tells d =
    desk_at marked start old.next old.end old.given told (drop (told - old.told) old.numbers.items) (below (slice_index old.numbers.items (told - old.told - 1) + 1) ∷ drop 1 old.marks.items) also calls new
    tells.rest.next tells.rest.end tells.rest.given tells.told_is tells.numbers (tells.marks less)
    (desk_first marked start old.next old.end old.given old.told told old.numbers.items old.marks.items also calls less few (desk_of marked start old also calls d))

desk_one : (marked : Bool) (start next end given told place : ℕ) (numbers : List ℕ) (stretches : List Stretch) (also : List ℕ) (calls : List Call) → told ≤ place → place < given → Desk marked start next end given told numbers stretches also calls
    → Desk marked start next end given told numbers (stretches ++ alone (slice_index numbers (place - told)) ∷ []) (also ++ place ∷ []) calls
desk_one marked start next end given told place numbers stretches also calls after less d = record {
  session = d.session;
  low = d.low;
  ordered = d.ordered;
  granted = d.granted;
  next_is = d.next_is;
  begun = d.begun;
  rising = d.rising;
  count = d.count;
  numbers_are = d.numbers_are;
  places = λ p c. elim (Contains-push_cases also place p c) [ inl old ↦ d.places p old | inr same ↦ omega (arith, same, less) ];
  to_mark = to_mark_one (read_of end calls) told place also stretches calls numbers after (omega (arith, less, d.count)) d.numbers_are d.to_mark;
}

pub told_one_on : (marked : Bool) (start place : ℕ) (old new : Course) (also : List ℕ) (calls : List Call) → old.told ≤ place → place < old.given → TellsOne place old new → OnDesk marked start old also calls → OnDesk marked start new (also ++ place ∷ []) calls
told_one_on marked start place old new also calls after less tells d =
    desk_at marked start old.next old.end old.given old.told old.numbers.items (old.marks.items ++ alone (slice_index old.numbers.items (place - old.told)) ∷ []) (also ++ place ∷ []) calls new
    tells.rest.next tells.rest.end tells.rest.given tells.told tells.numbers tells.marks
    (desk_one marked start old.next old.end old.given old.told place old.numbers.items old.marks.items also calls after less (desk_of marked start old also calls d))

-- ---- read

pub read_more : (next end most : ℕ) (calls : List Call) (given : List Numbered) → read_of end (calls ++ pends next most (Ok given) ∷ []) ≡ read_of end calls ++ within next end given
read_more next end most calls given = read_then end calls (pends next most (Ok given) ∷ []) ∙ ap (λ (l : List Numbered). read_of end calls ++ l) (append-nil (within next end given))

pub next_more : (start next end most : ℕ) (calls : List Call) (given : List Numbered) → next ≡ next_of end start calls → next_of end start (calls ++ pends next most (Ok given) ∷ []) ≡ next_after end next given
next_more start next end most calls given is = next_then end start calls (pends next most (Ok given) ∷ []) ∙ ap (λ (n : ℕ). next_after end n given) (sym is)

desk_read : (start next end given told : ℕ) (numbers : List ℕ) (stretches : List Stretch) (also : List ℕ) (calls : List Call) (listed : List Numbered) → next < end → told ≤ given → AreNumbered 0 (2 ^ 63) listed → length listed ≤ asked_from end next
    → Desk true start next end given told numbers stretches also calls
    → Desk false start (next_after end next listed) end (given + length (within next end listed)) told (numbers ++ numbers_of (within next end listed)) stretches also (calls ++ pends next (asked_from end next) (Ok listed) ∷ [])
desk_read start next end given told numbers stretches also calls listed more few are count d =
    let w = within next end listed in
    let call : Call = pends next (asked_from end next) (Ok listed) in
    let same = sym (read_more next end (asked_from end next) calls listed) in
    let leads = reading_leads next end listed more are count in
    record {
      session = session_then end start calls (call ∷ []) d.granted d.session (d.next_is, subst (λ (n : ℕ). n < end) d.next_is more, ap (λ (n : ℕ). asked_from end n) d.next_is, tt);
      low = low_then end 0 calls (call ∷ []) d.low tt;
      ordered = λ others m. subst (λ (l : List Call). MarksFirst false l) (sym (append_assoc calls (call ∷ []) others)) (d.ordered (call ∷ others) (refl, m));
      granted = granted_then calls (call ∷ []) d.granted tt;
      next_is = sym (next_more start next end (asked_from end next) calls listed d.next_is);
      begun = omega (arith, d.begun, leads.later);
      rising = subst (λ (l : List Numbered). AreNumbered start (next_after end next listed) l) same (numbered_then start next (next_after end next listed) (read_of end calls) w d.begun (omega (arith, leads.later)) d.rising leads.rising);
      count = (let all : length (read_of end calls ++ w) ≡ length (read_of end calls) + length w = length-append (read_of end calls) w in let sum : given + length w ≡ length (read_of end calls ++ w) = omega (arith, all, d.count) in sum) ∙ ap (λ (l : List Numbered). length l) same;
      numbers_are = ap (λ (l : List ℕ). l ++ numbers_of w) d.numbers_are
          ∙ sym (drop-append-le told (numbers_of (read_of end calls)) (numbers_of w) (omega (arith, few, d.count, length-map (read_of end calls) (λ (one : Numbered). one.number))))
          ∙ ap (λ (l : List ℕ). drop told l) (sym (map-append (λ (one : Numbered). one.number) (read_of end calls) w))
          ∙ ap (λ (l : List Numbered). drop told (numbers_of l)) same;
      places = λ p c. omega (arith, d.places p c);
      to_mark = subst (λ (l : List Numbered). IsToMark l told also stretches (calls ++ call ∷ [])) same
          (to_mark_calls (read_of end calls ++ w) told also stretches calls (call ∷ []) (λ n m. m)
          (to_mark_more (read_of end calls) w told also stretches calls (omega (arith, few, d.count)) (λ p c. omega (arith, d.places p c, d.count)) d.to_mark));
    }

pub added_on : (start : ℕ) (old new : Course) (also : List ℕ) (calls : List Call) (listed : List Numbered) → old.next < old.end → old.told ≤ old.given → AreNumbered 0 (2 ^ 63) listed → length listed ≤ asked_from old.end old.next → Added listed old new
    → OnDesk true start old also calls → OnDesk false start new also (calls ++ pends old.next (asked_from old.end old.next) (Ok listed) ∷ [])
added_on start old new also calls listed more few are count adds d =
    desk_at false start (next_after old.end old.next listed) old.end (old.given + length (within old.next old.end listed)) old.told (old.numbers.items ++ numbers_of (within old.next old.end listed)) old.marks.items also
    (calls ++ pends old.next (asked_from old.end old.next) (Ok listed) ∷ []) new adds.next adds.end adds.given_is adds.told adds.numbers adds.marks
    (desk_read start old.next old.end old.given old.told old.numbers.items old.marks.items also calls listed more few are count (desk_of true start old also calls d))
