-- The takes of a group's letters are entered one after another.
use Rattle.std.proofs.Common.{◌≡◌, ℕ, ◌+◌, ◌-◌, ◌≤◌, Bool, List, [], ◌∷◌, ◌++◌, length, refl, sym, ap, ◌∙◌, subst, arith, append_assoc, length-append}
use Rattle.std.specs.Prelude.{take, drop, Result}
use Rattle.std.proofs.lemmas.List.{append-nil, length-take-le}
use Rattle.atomic_table.specs.Table.{Me}
use Rattle.event_form.specs.declared.event.Entry.{Entry}
use Rattle.spool_answers.specs.declared.receipt.Receipt.{Receipt}
use Rattle.spool_faults.specs.declared.fault.TakeFault.{TakeFault}
use Rattle.desk_access.specs.Division.{DividedRun}
use Rattle.desk_access.specs.declared.standing.Standing.{Standing}
use Rattle.desk_access.specs.Call.{Record}
use Rattle.desk_access.specs.Desk.{DeskState}
use Rattle.desk_access.specs.JointRecords.{Part, joined}
use Rattle.desk_access.specs.Legal.{Met}
use Rattle.spool_turns.specs.Rules.{View, Facts, facts, PassView, made_by, after_call, with_record}
use Rattle.desk_seats.specs.Passes.{LeadsAbove}
use Rattle.spool_turns.specs.Passes.{locked_of, facts_in}
use Rattle.spool_turns.specs.Joining.{entries_out, part_of, parts_of, joint_record, part_answer, records_behind, LeadOn, AreBehind}
use Rattle.spool_turns.proofs.JointRecords.{parts_both, behind_then}

take_front : {A : Type 0} (xs ys : List A) → take (length xs) (xs ++ ys) ≡ xs
take_front [] ys = refl
take_front (x ∷ xs) ys = ap (λ l. x ∷ l) (take_front xs ys)

drop_front : {A : Type 0} (xs ys : List A) → drop (length xs) (xs ++ ys) ≡ ys
drop_front [] ys = refl
drop_front (x ∷ xs) ys = drop_front xs ys

pub locked_again : (me : Me ℕ View) (f : Facts) → me ≡ locked_of f → me ≡ locked_of (facts_in me.0)
locked_again me f is = is ∙ sym (ap (λ (x : Me ℕ View). locked_of (facts_in x.0)) is)

-- the part that stands next in the group
pub record IsNextPart (group : List Entry) (from : ℕ) (part rest : List Entry) : Type 0 where
  pub here : take (length part) (drop from group) ≡ part
  pub next : take (from + length part) group ≡ take from group ++ part
  pub left : group ≡ take (from + length part) group ++ rest
  pub fits : from + length part ≤ length group

pub next_part : (group : List Entry) (from : ℕ) (part rest : List Entry) → group ≡ take from group ++ (part ++ rest) → from ≤ length group → IsNextPart group from part rest
next_part group from part rest is le =
    let first = take from group in
    let n : length first ≡ from = length-take-le from group le in
    let cut : drop from group ≡ part ++ rest = ap (drop from) is ∙ (λ i. drop (sym n i) (first ++ (part ++ rest))) ∙ drop_front first (part ++ rest) in
    let whole : group ≡ (first ++ part) ++ rest = is ∙ sym (append_assoc first part rest) in
    let count : from + length part ≡ length (first ++ part) = omega (arith, n, length-append first part) in
    let next : take (from + length part) group ≡ first ++ part = (λ i. take (count i) (whole i)) ∙ take_front (first ++ part) rest in
    record {
      here = ap (take (length part)) cut ∙ take_front part rest;
      next = next;
      left = whole ∙ ap (λ (l : List Entry). l ++ rest) (sym next);
      fits = omega (arith, count, ap (λ (l : List Entry). length l) whole, length-append (first ++ part) rest);
    }

pub answers_part : (stored : Bool) (before : ℕ) (first part : List Entry) (answer : Result Receipt TakeFault) → answer ≡ part_answer stored before first part → (other : List Entry) → part ≡ other → answer ≡ part_answer stored before first other
answers_part stored before first part answer is other same = is ∙ ap (part_answer stored before first) same

module _ (start : DeskState → Type 0) (run : DividedRun) (seats : ℕ) (stored : Bool) (before : Standing) (clock : ℕ) (group : List Entry) (f0 : Facts) (letters : List PassView) where
  -- the journal of me has the takes of the letters before the place `from` of the group
  pub record IsEntering (from : ℕ) (me : Me ℕ View) (left entered : List PassView) : Type 0 where
    pub locked : me ≡ locked_of (facts f0.made (facts_in me.0).log f0.end f0.cursor)
    pub whole : (facts_in me.0).log ++ records_behind stored before clock (take from group) (parts_of left) ≡ f0.log ++ records_behind stored before clock [] (parts_of letters)
    pub leads : LeadOn start f0.end f0.cursor (facts_in me.0).log (records_behind stored before clock (take from group) (parts_of left))
    pub met : Met run (seats - 1) [] (facts_in me.0).log
    pub longer : length f0.log ≤ length (facts_in me.0).log
    pub rest : group ≡ take from group ++ joined (parts_of left)
    pub bound : from ≤ length group
    pub parts : parts_of entered ++ parts_of left ≡ parts_of letters
    pub behind : AreBehind (length f0.log) entered

  pub entering_first : (me : Me ℕ View) → me ≡ locked_of f0 → Met run (seats - 1) [] f0.log → group ≡ joined (parts_of letters) → LeadOn start f0.end f0.cursor f0.log (records_behind stored before clock [] (parts_of letters)) → IsEntering 0 me letters []
  entering_first me is met all leads = subst (λ (x : Me ℕ View). IsEntering 0 x letters []) (sym is) (record {
    locked = refl;
    whole = refl;
    leads = leads;
    met = met;
    longer = omega arith;
    rest = all;
    bound = omega arith;
    parts = refl;
    behind = tt;
  })

  -- none is left
  pub entering_last : (from : ℕ) (me : Me ℕ View) (left entered : List PassView) → left ≡ [] → IsEntering from me left entered
      → (me ≡ locked_of (facts f0.made (f0.log ++ records_behind stored before clock [] (parts_of letters)) f0.end f0.cursor)) × (parts_of entered ≡ parts_of letters)
  entering_last from me left entered none h =
      let log_is : (facts_in me.0).log ≡ f0.log ++ records_behind stored before clock [] (parts_of letters) =
      sym (append-nil (facts_in me.0).log) ∙ ap (λ (l : List PassView). (facts_in me.0).log ++ records_behind stored before clock (take from group) (parts_of l)) (sym none) ∙ h.whole in (
        h.locked ∙ ap (λ (l : List Record). locked_of (facts f0.made l f0.end f0.cursor)) log_is,
        sym (append-nil (parts_of entered)) ∙ ap (λ (l : List PassView). parts_of entered ++ parts_of l) (sym none) ∙ h.parts,
      )

  module _ (from : ℕ) (me : Me ℕ View) (m : PassView) (left entered : List PassView) (h : IsEntering from me (m ∷ left) entered) where
    abbrev own : List Entry
    own = entries_out m.out

    abbrev one : Record
    one = joint_record before clock (take from group) own (part_answer stored before.end (take from group) own)

    pub stands : IsNextPart group from own (joined (parts_of left))
    stands = next_part group from own (joined (parts_of left)) h.rest h.bound

    -- the record that is entered, by the entries and the answer that the code has
    same_record : (part : List Entry) (answer : Result Receipt TakeFault) → part ≡ own → answer ≡ part_answer stored before.end (take from group) part
        → joint_record before clock (take from group) part answer ≡ one
    same_record part answer part_is answer_is = λ i. joint_record before clock (take from group) (part_is i) (answers_part stored before.end (take from group) part answer answer_is own part_is i)

    pub leads_there : (part : List Entry) (answer : Result Receipt TakeFault) → part ≡ own → answer ≡ part_answer stored before.end (take from group) part
        → (x : DeskState) → start x → LeadsAbove x ((facts_in me.0).log ++ made_by m.number (joint_record before clock (take from group) part answer) ∷ []) (facts_in me.0).end (facts_in me.0).cursor
    leads_there part answer part_is answer_is = subst (λ (k : Record × Facts). (x : DeskState) → start x → LeadsAbove x ((facts_in me.0).log ++ made_by m.number k.0 ∷ []) k.1.end k.1.cursor)
        (λ i. (sym (same_record part answer part_is answer_is) i, facts_in (sym h.locked i).0)) h.leads.0

    pub entering_next : (part : List Entry) (answer : Result Receipt TakeFault) (it : Me ℕ View) (m' : PassView) → part ≡ own → answer ≡ part_answer stored before.end (take from group) part
        → it ≡ locked_of (with_record (facts_in me.0) (made_by m.number (joint_record before clock (take from group) part answer)))
        → m' ≡ after_call (facts_in me.0) m (joint_record before clock (take from group) part answer)
        → Met run (seats - 1) [] (facts_in it.0).log
        → IsEntering (from + length own) it left (entered ++ m' ∷ [])
    entering_next part answer it m' part_is answer_is it_is m_is met =
        let log = (facts_in me.0).log in
        let same = same_record part answer part_is answer_is in
        let there : it ≡ locked_of (facts f0.made (log ++ made_by m.number one ∷ []) f0.end f0.cursor) =
        it_is ∙ (λ i. locked_of (with_record (facts_in (h.locked i).0) (made_by m.number (same i)))) in
        let log_is : (facts_in it.0).log ≡ log ++ made_by m.number one ∷ [] = ap (λ (x : Me ℕ View). (facts_in x.0).log) there in
        let records = records_behind stored before clock (take from group ++ own) (parts_of left) in
        let next : take from group ++ own ≡ take (from + length own) group = sym stands.next in
        let seen : m'.seen ≡ log ++ made_by m.number (joint_record before clock (take from group) part answer) ∷ [] = ap (λ (v : PassView). v.seen) m_is in
        record {
          locked = there ∙ (λ i. locked_of (facts f0.made (sym log_is i) f0.end f0.cursor));
          whole = (λ i. log_is i ++ records_behind stored before clock (sym next i) (parts_of left)) ∙ append_assoc log (made_by m.number one ∷ []) records ∙ h.whole;
          leads = subst (λ (k : List Record × List Entry). LeadOn start f0.end f0.cursor k.0 (records_behind stored before clock k.1 (parts_of left))) (λ i. (sym log_is i, next i)) h.leads.1;
          met = met;
          longer = omega (arith, h.longer, ap (λ (l : List Record). length l) log_is, length-append log (made_by m.number one ∷ []));
          rest = stands.left;
          bound = stands.fits;
          parts = ap (λ (l : List Part). l ++ parts_of left) (parts_both entered (m' ∷ []) ∙ ap (λ (v : PassView). parts_of entered ++ part_of v ∷ []) m_is)
              ∙ append_assoc (parts_of entered) (part_of m ∷ []) (parts_of left) ∙ h.parts;
          behind = behind_then (length f0.log) entered m' h.behind (omega (arith, h.longer, ap (λ (l : List Record). length l) seen, length-append log (made_by m.number (joint_record before clock (take from group) part answer) ∷ [])));
        }
