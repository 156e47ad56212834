-- What a journal leaves of the order of a spool's entries.
use Rattle.std.proofs.Common.{◌≡◌, ◌⊎◌, inl, inr, ℕ, ◌+◌, ◌-◌, ◌*◌, ◌^◌, ◌<◌, List, [], ◌∷◌, ◌++◌, drop, refl, sym, ◌∙◌, ap, subst, arith}
use Rattle.std.proofs.Common.{append_assoc}
use Rattle.std.specs.Prelude.{All, Ok, Err}
use Rattle.std.proofs.lemmas.List.{append-nil}
use Rattle.std.proofs.lemmas.List.Elements.{All-nil, All-append, All-drop}
use Rattle.event_form.specs.declared.event.Entry.{Entry}
use Rattle.spool_state.specs.SpoolState.{SpoolState, base, list}
use Rattle.spool_log.specs.declared.opening.Opening.TheVariants.{Keep, Raise}
use Rattle.spool_faults.specs.declared.fault.TakeFault.TheVariants as Take
use Rattle.spool_log.specs.Opening.{opened}
use Rattle.desk_access.specs.declared.division.Division.{Division}
use Rattle.desk_access.specs.Division.{divided}
use Rattle.desk_access.specs.Call.{Call, takes, Record, calls_of}
use Rattle.desk_access.specs.Desk.{DeskState, Goes, Stood}
use Rattle.desk_access.specs.History.{IsDesk, Adds, AddsAll, Grows, Was, written_by, written_next}
use Rattle.desk_access.specs.Legal.{IsOfRun, Met}
use Rattle.desk_access.proofs.Added.{AllWritten, added_then, next_added}
use Rattle.desk_access.proofs.LegalEntries.{legal_journal}
use Rattle.desk_access.proofs.Lasting.{stood_was}
use Rattle.desk_access.proofs.Nexts.{all_left}
use Rattle.spool_answers.specs.Stages.{IsOneOf}
use Rattle.spool_state.specs.Empty.{empty_state}
use Rattle.spool_turns.specs.Whole.{OpensLegal}
use Rattle.spool_turns.proofs.Lists.{whole_legal}
use Rattle.serve_laws.proofs.Contributing.{in_groups}
use Rattle.serve_laws.proofs.Order.{earlier_again}
use Rattle.bridge_parts.specs.Opened.{desk_in}
use Rattle.bridge_laws.specs.InOrder.{IsInOrder, IsUnmoved, Holds, HoldsInOrder, EmptyIsInOrder, OpeningKeepsOrder, UnmovedIsWhole}
use Rattle.bridge_laws.proofs.LegalParts.{IsLegalBefore, parts_legal, dropped_legal, unmoved_next}

pub in_order : (s : SpoolState) → IsLegalBefore (s.run + 1) (list s) → IsInOrder s
in_order s is = record { legal = is.0; earlier = is.1 }

-- ---- a spool that is made or opened

pub empty_is_in_order : EmptyIsInOrder
empty_is_in_order slots size = record {
  legal = record {
    indexes = λ conn small. (0, tt);
    units = λ unit large. record {
      before = [];
      those = [];
      after = [];
      parts = refl;
      none_before = All-nil _;
      all = All-nil _;
      none_after = All-nil _;
    };
  };
  earlier = record { conns = All-nil _; units = All-nil _ };
}

pub opening_keeps_order : OpeningKeepsOrder
opening_keeps_order Keep s is = is
opening_keeps_order Raise s is = record {
  legal = is.legal;
  earlier = record {
    conns = λ k d lt. elim (is.earlier.conns k d lt) [ inl old ↦ inl (omega (arith, old)) | inr moved ↦ inr moved ];
    units = λ k d lt. elim (is.earlier.units k d lt) [ inl plain ↦ inl plain | inr id ↦ inr (omega (arith, id)) ];
  };
}

-- so it is of one into which nothing was moved
empty_is_unmoved : (slots size : ℕ) → IsUnmoved (empty_state slots size)
empty_is_unmoved slots size = record { order = empty_is_in_order slots size; conns = All-nil _ }

raised_is_unmoved : (s : SpoolState) → IsUnmoved s → IsUnmoved (opened Raise s)
raised_is_unmoved s is = record { order = opening_keeps_order Raise s is.order; conns = λ k d lt. omega (arith, is.conns k d lt) }

pub unmoved_is_whole : UnmovedIsWhole
unmoved_is_whole s c stands is conn = unmoved_next conn (list s) is.order.legal (λ k d lt. omega (arith, is.conns k d lt, stands.sound.run))

-- the desk over it begins with entries of earlier runs
pub opens_legal : (s : SpoolState) → IsInOrder s → (x : DeskState) → x ≡ desk_in (opened Raise s) → OpensLegal x
opens_legal s is x same =
    subst OpensLegal (sym same) (λ m one. subst (λ (t : SpoolState). IsLegalBefore (s.run + 1) (list t)) (sym one) (is.legal, is.earlier))

-- ---- after calls, or within one

-- the spool with these entries more, all in one segment
abbrev with_entries : SpoolState → List Entry → SpoolState
with_entries s more = record {
  slots = s.slots;
  size = s.size;
  run = s.run;
  cursor = s.cursor;
  known = s.known;
  ordinal = s.ordinal;
  older = [];
  active = record { place = 0; segment = record { ordinal = 0; first = base s; groups = (list s ++ more) ∷ [] } };
}

-- what came behind, so that all that was added is whole
whole_added : (x : DeskState) (calls : List Call) (c : List ℕ) (w : Was x calls c) → (behind : List Entry) × AddsAll calls
    ((w.more ++ w.next) ++ behind)
whole_added x calls c w =
    let behind = next_added w.rest w.next w.whole in
    let added = (w.more ++ w.next) ++ behind.0 in
    let adds : AddsAll (w.first ++ w.rest) added = subst (AddsAll (w.first ++ w.rest)) (sym (append_assoc w.more w.next behind.0))
    (added_then w.first w.rest w.more (w.next ++ behind.0) w.adds behind.1) in
    (behind.0, subst (λ (l : List Call). AddsAll l added) (sym w.parts) adds)

grows_whole : (x : DeskState) (calls : List Call) (c : List ℕ) (w : Was x calls c) → (behind : List Entry) × Grows x calls
    (with_entries w.mended ((w.more ++ w.next) ++ behind))
grows_whole x calls c w =
    let behind = whole_added x calls c w in
    let added = (w.more ++ w.next) ++ behind.0 in
    let m = w.mended in
    let none : base m - base m ≡ 0 = omega arith in (
      behind.0,
      record {
        mended = m;
        one = w.one;
        more = added;
        adds = behind.1;
        grown =
            record {
              base_rises = omega arith;
              within = omega arith;
              list_is = append-nil (list m ++ added)
                  ∙ sym (ap (λ (n : ℕ). drop n (list m ++ added)) none);
            };
      },
    )

-- What was left at a moment of the calls, or within one of them, is in order.
pub was_in_order : (x y : DeskState) (log : List Record) (division : Division) (confirming : ℕ) (c : List ℕ) → IsDesk x → Goes x log y → Met (divided division x.spool.run) confirming [] log → OpensLegal x → (w : Was x (calls_of log) c) → IsInOrder w.state
was_in_order x y log division confirming c rules goes met opens w =
    let run = x.spool.run in
    let m = w.mended in
    let some = w.more ++ w.next in
    let g = grows_whole x (calls_of log) c w in
    let t = with_entries m (some ++ g.0) in
    let legal = whole_legal x y log division confirming t rules goes met g.1 opens in
    let earlier = earlier_again x run log t refl (λ groups adds. legal_journal x y log division confirming groups rules goes met adds) g.1 opens in
    let whole : IsLegalBefore (run + 1) ((list m ++ some) ++ g.0) = subst (IsLegalBefore (run + 1)) (append-nil (list m ++ (some ++ g.0)) ∙ sym (append_assoc (list m) some g.0)) (legal, earlier) in
    let left = dropped_legal (run + 1) (base w.state - base m) (list m ++ some) (parts_legal (run + 1) (list m ++ some) g.0 whole).0 in
    in_order w.state (subst (λ (r : ℕ). IsLegalBefore (r + 1) (list w.state)) (sym w.later.run)
    (subst (IsLegalBefore (run + 1)) (sym w.grown.list_is) left))

pub stood_in_order : (x y : DeskState) (log : List Record) (division : Division) (confirming : ℕ) (c : List ℕ) → IsDesk x → Goes x log y → Met (divided division x.spool.run) confirming [] log → OpensLegal x → Stood x log c → HoldsInOrder c
stood_in_order x y log division confirming c rules goes met opens stood =
    let w = stood_was x log c rules stood in
    (w.state, w.stands, was_in_order x y log division confirming c rules goes met opens w)

-- ---- calls that take nothing

abbrev pub Never : Entry → Type 0
Never entry = ⊥

none_of : (xs : List Entry) → All Never xs → xs ≡ []
none_of [] none = refl
none_of (x ∷ xs) none = absurd (none 0 x (omega arith))

adds_none : (calls : List Call) (more : List Entry) → AllWritten Never calls → AddsAll calls more → more ≡ []
adds_none [] more none adds = adds
adds_none (call ∷ calls) more none (here, rest, added, others, is) =
    is ∙ ap (λ (l : List Entry). l ++ rest) (adds_no_group call here (none_of (written_by call) none.0) added)
    ∙ adds_none calls rest none.1 others
  where
    adds_no_group : (call : Call) (here : List Entry) → written_by call ≡ [] → Adds call here → here ≡ []
    adds_no_group (takes group (Ok receipt)) here empty is = is ∙ empty
    adds_no_group (takes group (Err Take.DiskFault)) here empty (inl is) = is
    adds_no_group (takes group (Err Take.DiskFault)) here empty (inr is) = is ∙ empty
    adds_no_group (takes group (Err _)) here empty is = is
    adds_no_group _ here empty is = is

written_left : (calls more : List Call) → AllWritten Never (calls ++ more) → AllWritten Never calls
written_left [] more none = tt
written_left (call ∷ calls) more none = (none.0, written_left calls more none.1)

written_right : (calls more : List Call) → AllWritten Never (calls ++ more) → AllWritten Never more
written_right [] more none = none
written_right (call ∷ calls) more none = written_right calls more none.1

next_none : (calls : List Call) (next : List Entry) → AllWritten Never calls → (next ≡ []) ⊎ (next ≡ written_next calls) → next ≡ []
next_none calls next none (inl is) = is
next_none [] next none (inr is) = is
next_none (call ∷ calls) next none (inr is) = is ∙ none_of (written_by call) none.0

-- What was left at a moment of such calls is in order, where the state was in which they began.
still_was_in_order : (s : SpoolState) (log : List Record) (c : List ℕ) → IsDesk (desk_in s) → AllWritten Never (calls_of log) → IsInOrder s
    → (w : Was (desk_in s) (calls_of log) c) → IsInOrder w.state
still_was_in_order s log c rules none is w =
    let parts = subst (AllWritten Never) w.parts none in
    let more = adds_none w.first w.more (written_left w.first w.rest parts) w.adds in
    let next = next_none w.rest w.next (written_right w.first w.rest parts) w.whole in
    let nothing : w.more ++ w.next ≡ [] = ap (λ (l : List Entry). l ++ w.next) more ∙ next in
    let was : list w.mended ++ (w.more ++ w.next) ≡ list s = ap (λ (l : List Entry). list w.mended ++ l) nothing ∙ append-nil
    (list w.mended) ∙ ap list w.one in
    let left =
    dropped_legal (s.run + 1) (base w.state - base w.mended) (list w.mended ++ (w.more ++ w.next))
    (subst (IsLegalBefore (s.run + 1)) (sym was) (is.legal, is.earlier)) in
    in_order w.state (subst (λ (r : ℕ). IsLegalBefore (r + 1) (list w.state)) (sym w.later.run)
    (subst (IsLegalBefore (s.run + 1)) (sym w.grown.list_is) left))

pub still_in_order : (s : SpoolState) (log : List Record) (c : List ℕ) → IsDesk (desk_in s) → AllWritten Never (calls_of log) → IsInOrder s
    → Stood (desk_in s) log c → HoldsInOrder c
still_in_order s log c rules none is stood =
    let w = stood_was (desk_in s) log c rules stood in
    (w.state, w.stands, still_was_in_order s log c rules none is w)

-- ---- what every entry of the list is

-- What is so of each entry that the list had, and of each of the run, is so of each that was left at a moment of the calls.
all_was : (Q : Entry → Type 0) (x y : DeskState) (log : List Record) (division : Division) (confirming : ℕ) (c : List ℕ) → IsDesk x → Goes x log y → Met (divided division x.spool.run) confirming [] log
    → ((m : SpoolState) → IsOneOf x.spool x.doubt m → All Q (list m)) → ((entry : Entry) → IsOfRun x.spool.run entry.conn → Q entry) → (w : Was x (calls_of log) c) → All Q (list w.state)
all_was Q x y log division confirming c rules goes met was of_run w =
    let some = w.more ++ w.next in
    let g = whole_added x (calls_of log) c w in
    let parts = in_groups (calls_of log) (some ++ g.0) g.1 in
    let added = legal_journal x y log division confirming parts.0 rules goes met parts.1 in
    let all : All Q (some ++ g.0) = subst (All Q) (sym parts.2) (λ k d lt. of_run _ (added.conns k d lt)) in
    subst (All Q) (sym w.grown.list_is)
    (All-drop Q (base w.state - base w.mended) (list w.mended ++ some)
    (All-append Q (list w.mended) some (was w.mended w.one) (all_left Q some g.0 all)))

-- calls that take nothing leave only entries that the list had
all_still : (Q : Entry → Type 0) (s : SpoolState) (log : List Record) (c : List ℕ) → AllWritten Never (calls_of log) → All Q (list s)
    → (w : Was (desk_in s) (calls_of log) c) → All Q (list w.state)
all_still Q s log c none was w =
    let parts = subst (AllWritten Never) w.parts none in
    let more = adds_none w.first w.more (written_left w.first w.rest parts) w.adds in
    let next = next_none w.rest w.next (written_right w.first w.rest parts) w.whole in
    let nothing : w.more ++ w.next ≡ [] = ap (λ (l : List Entry). l ++ w.next) more ∙ next in
    let same : list w.mended ++ (w.more ++ w.next) ≡ list s = ap (λ (l : List Entry). list w.mended ++ l) nothing ∙ append-nil
    (list w.mended) ∙ ap list w.one in
    subst (All Q) (sym w.grown.list_is) (All-drop Q (base w.state - base w.mended) (list w.mended ++ (w.more ++ w.next))
    (subst (All Q) (sym same) was))

-- ---- what every command keeps of a spool

-- A spool that is made is so; and one that is so stays it as it is opened for storing, at each moment of calls over the desk that is
-- opened, and at each of calls that take nothing.
pub record IsKept (Is : SpoolState → Type 0) : Type 0 where
  pub ordered : (s : SpoolState) → Is s → IsInOrder s
  pub empty : (slots size : ℕ) → Is (empty_state slots size)
  pub raised : (s : SpoolState) → Is s → Is (opened Raise s)
  pub called : (s : SpoolState) (x y : DeskState) (log : List Record) (division : Division) (confirming : ℕ) (c : List ℕ) → Is s → x ≡ desk_in (opened Raise s) → IsDesk x → Goes x log y → Met (divided division x.spool.run) confirming [] log
      → Stood x log c → Holds Is c
  pub read : (s : SpoolState) (log : List Record) (c : List ℕ) → Is s → IsDesk (desk_in s) → AllWritten Never (calls_of log)
      → Stood (desk_in s) log c → Holds Is c

pub order_is_kept : IsKept IsInOrder
order_is_kept = record {
  ordered = λ s is. is;
  empty = empty_is_in_order;
  raised = opening_keeps_order Raise;
  called = λ s x y log division confirming c is same rules goes met stood. stood_in_order x y log division confirming c rules goes met (opens_legal s is x same) stood;
  read = λ s log c is rules none stood. still_in_order s log c rules none is stood;
}

unmoved_called : (s : SpoolState) (x y : DeskState) (log : List Record) (division : Division) (confirming : ℕ) (c : List ℕ) → IsUnmoved s → x ≡ desk_in (opened Raise s) → IsDesk x → Goes x log y → Met (divided division x.spool.run) confirming [] log
    → Stood x log c → Holds IsUnmoved c
unmoved_called s x y log division confirming c is same rules goes met stood =
    let w = stood_was x log c rules stood in
    let Q : Entry → Type 0 = λ entry. entry.conn < (x.spool.run + 1) * 2 ^ 32 in
    let run : x.spool.run ≡ s.run + 1 = ap (λ (d : DeskState). d.spool.run) same in
    let was : (m : SpoolState) → IsOneOf x.spool x.doubt m → All Q (list m) = subst (λ (d : DeskState). (m : SpoolState) → IsOneOf d.spool d.doubt m → All (λ (entry : Entry). entry.conn < (d.spool.run + 1) * 2 ^ 32) (list m)) (sym same)
    (λ m one. subst (λ (t : SpoolState). All (λ (entry : Entry). entry.conn < (s.run + 1 + 1) * 2 ^ 32) (list t)) (sym one) (λ k d lt. omega (arith, is.conns k d lt))) in
    let all = all_was Q x y log division confirming c rules goes met was (λ entry of. omega (arith, of.1)) w in (
      w.state,
      w.stands,
      record {
        order = was_in_order x y log division confirming c rules goes met (opens_legal s is.order x same) w;
        conns = subst (λ (r : ℕ). All (λ (entry : Entry). entry.conn < (r + 1) * 2 ^ 32) (list w.state)) (sym w.later.run) all;
      },
    )

unmoved_read : (s : SpoolState) (log : List Record) (c : List ℕ) → IsUnmoved s → IsDesk (desk_in s) → AllWritten Never (calls_of log)
    → Stood (desk_in s) log c → Holds IsUnmoved c
unmoved_read s log c is rules none stood =
    let w = stood_was (desk_in s) log c rules stood in
    let all = all_still (λ (entry : Entry). entry.conn < (s.run + 1) * 2 ^ 32) s log c none is.conns w in (
      w.state,
      w.stands,
      record {
        order = still_was_in_order s log c rules none is.order w;
        conns = subst (λ (r : ℕ). All (λ (entry : Entry). entry.conn < (r + 1) * 2 ^ 32) (list w.state)) (sym w.later.run) all;
      },
    )

pub unmoved_is_kept : IsKept IsUnmoved
unmoved_is_kept = record {
  ordered = λ s is. is.order;
  empty = empty_is_unmoved;
  raised = raised_is_unmoved;
  called = unmoved_called;
  read = unmoved_read;
}
