-- Calls of a spool that isn't in doubt, and refusals, as the top call tells them.
use Rattle.std.proofs.Common.{◌≡◌, ℕ, ◌+◌, ◌-◌, ◌<◌, ◌≤◌, List, [], ◌∷◌, ◌++◌, length, take, drop, get_or, refl, sym, ◌∙◌, ap, subst, arith, inl, inr, take-append-drop, length-take, append_assoc}
use Rattle.std.specs.Prelude.{Option, Result, All}
use Rattle.std.specs.Global.{Vec}
use Rattle.std.proofs.lemmas.List.Elements.{All-drop}
use Rattle.edge_disk.specs.Disk.{Moment, LeavesOnly}
use Rattle.edge_disk.specs.Calls.{Calls}
use Rattle.edge_disk.proofs.Calls.{calls_as, calls_on}
use Rattle.edge_disk.proofs.Moments.{weaker, both}
use Rattle.spool_state.specs.SpoolState.{SpoolState}
use Rattle.spool_state.specs.Image.{StandsFor}
use Rattle.spool_state.specs.Left.{NumberedEntry, left, left_from}
use Rattle.spool_state.proofs.Lefts.{left_from-cursor}
use Rattle.spool_answers.specs.declared.numbered.Numbered.{Numbered}
use Rattle.spool_faults.specs.declared.fault.PendFault.{PendFault}
use Rattle.spool_faults.specs.declared.fault.PendFault.TheVariants as Pend
use Rattle.spool_log.specs.declared.fault.RecoverFault.{RecoverFault}
use Rattle.spool_log.specs.declared.fault.RecoverFault.TheVariants as Recover
use Rattle.spool_log.specs.declared.opening.Opening.TheVariants.{Keep}
use Rattle.spool_log.specs.State.{View, IsIn}
use Rattle.spool_log.specs.Opening.{IsRefusing, IsRefusedAs}
use Rattle.spool_log.specs.Outcome.{PendsFrom}
use Rattle.spool_answers.specs.Pend.{IsNotBroken, Pends, given_entries}
use Rattle.conn_serve.specs.Endings.{CountsFaults}
use Rattle.conn_serve.proofs.Faults.{counts_none}
use Rattle.bridge_words.specs.declared.command.ListForm.{ListForm}
use Rattle.notes.specs.declared.note.Note.{Note}
use Rattle.notes.specs.declared.note.Note.TheVariants.{Fine}
use Rattle.bridge_parts.specs.Refused.{note_of_pend, note_of_recover}
use Rattle.bridge_parts.specs.Run.{DiskRun, OutputRun, IsSilent}
use Rattle.commands.specs.Listed.{ArePrinted, PrintsPart, IsUnreadable, IsPrintNote, IsListNote, IsListed}
use Rattle.commands.specs.Refused.{IsRefusedFirst}
use Rattle.commands.proofs.Printing.{IsLimited, none_first, printed_then, printed_cut}
use Rattle.commands.proofs.Rising.{left_after}
use Rattle.commands.proofs.Given.{given_last}

-- What a reading of entries does outside doubt.
pub record Reads (s : SpoolState) (from most : ℕ) (result : Result (Vec Numbered) PendFault) (old new : View) : Type 0 where
  pub pends : Pends s from most result
  pub reached : IsIn s [] new
  pub any_moment : LeavesOnly old.moment.image old.moment new.moment

pub sure_pends : (s : SpoolState) (from most : ℕ) (result : Result (Vec Numbered) PendFault) (old new : View) → IsIn s [] old → PendsFrom s [] from most result old new → Reads s from most result old new
sure_pends s from most result old new held (inl stays) = absurd (omega (arith, held.doubtful.0 stays.2.in_doubt))
sure_pends s from most result old new held (inr goes) =
    let here : Reads goes.0 from most result old new =
    record { pends = goes.1; reached = goes.2.reached; any_moment = weaker _ old.moment.image old.moment new.moment goes.2.any_moment (λ c o. elim o [ inl image ↦ image | inr midway ↦ absurd midway ]) } in
    subst (λ (t : SpoolState). Reads t from most result old new) goes.2.one here

pub unread_print : (fault : PendFault) → IsPrintNote (note_of_pend fault)
unread_print (Pend.NotSpool at) = tt
unread_print Pend.DiskFault = tt
unread_print Pend.NoMemory = tt

pub unread_unfinished : (fault : PendFault) → note_of_pend fault ≡ Fine → ⊥
unread_unfinished (Pend.NotSpool at) is = cc
unread_unfinished Pend.DiskFault is = cc
unread_unfinished Pend.NoMemory is = cc

-- ---- a part of what is left

module _ (form : ListForm) (s : SpoolState) (number most : ℕ) (given : List Numbered) (old new : Option (List ℕ)) (pends : given_entries given ≡ take most (left_from s number)) where
  parts : left_from s number ≡ given_entries given ++ drop most (left_from s number)
  parts = sym (take-append-drop most (left_from s number)) ∙ ap (λ (l : List NumberedEntry). l ++ drop most (left_from s number)) (sym pends)

  -- it was printed, and others may be left after its last entry
  pub part_printed : (d : Numbered) (next : ℕ) → 0 < length given → next ≡ (get_or given (length given - 1) d).number + 1 → number ≤ next → ArePrinted form (given_entries given) Fine old new → PrintsPart form s number next old new
  part_printed d next some is le printed =
      let rest = left_after s number next (given_entries given) (drop most (left_from s number)) parts (given_last given d some ∙ sym is) le in
      record { first = given_entries given; parts = parts ∙ ap (λ (l : List NumberedEntry). given_entries given ++ l) (sym rest); printed = printed }

  -- it is all that is left
  pub part_last : given ≡ [] → 0 < most → ArePrinted form (given_entries given) Fine old new → ArePrinted form (left_from s number) Fine old new
  part_last none some printed = subst (λ (l : List NumberedEntry). ArePrinted form l Fine old new) (ap given_entries none ∙ sym (none_left (left_from s number) (sym pends ∙ ap given_entries none))) printed
    where
      none_left : (l : List NumberedEntry) → take most l ≡ [] → l ≡ []
      none_left [] is = refl
      none_left (x ∷ l) is = absurd (omega (arith, some, length-take most (x ∷ l), ap length is))

  -- it was not printed whole
  pub part_cut : (note : Note) → All IsLimited (left_from s number) → (note ≡ Fine → ⊥) → ArePrinted form (given_entries given) note old new → ArePrinted form (left_from s number) note old new
  part_cut note limits never printed =
      subst (λ (l : List NumberedEntry). ArePrinted form l note old new) (sym parts)
      (printed_cut form (given_entries given) (drop most (left_from s number)) note old new never (All-drop IsLimited most (left_from s number) limits) printed)

-- none was given
pub none_given : (given xs : List Numbered) → xs ≡ given → length xs ≤ 0 → given ≡ []
none_given [] xs same none = refl
none_given (one ∷ given) xs same none = absurd (omega (arith, none, ap length same))

module _ (form : ListForm) (s : SpoolState) (old mid new : Option (List ℕ)) where
  -- another part was printed
  pub parts_on : (from number next : ℕ) → PrintsPart form s from number old mid → PrintsPart form s number next mid new → PrintsPart form s from next old new
  parts_on from number next p q = record {
    first = p.first ++ q.first;
    parts = p.parts ∙ ap (λ (l : List NumberedEntry). p.first ++ l) q.parts ∙ sym (append_assoc p.first q.first (left_from s next));
    printed = printed_then form p.first q.first Fine old mid new p.printed q.printed;
  }

  -- and then the rest, as the note says
  pub parts_end : (number : ℕ) (note : Note) → PrintsPart form s 0 number old mid → ArePrinted form (left_from s number) note mid new → ArePrinted form (left s) note old new
  parts_end number note p q =
      subst (λ (l : List NumberedEntry). ArePrinted form l note old new) (sym p.parts ∙ left_from-cursor s 0 (omega arith)) (printed_then form p.first (left_from s number) note old mid new p.printed q)

-- it was not read, and nothing was written
pub part_unread : (form : ListForm) (entries : List NumberedEntry) (fault : PendFault) (taken : Option (List ℕ)) → IsNotBroken fault → ArePrinted form entries (note_of_pend fault) taken taken
part_unread form entries (Pend.NotSpool at) taken is = absurd is
part_unread form entries Pend.DiskFault taken is = none_first form entries taken
part_unread form entries Pend.NoMemory taken is = none_first form entries taken

-- ---- a device that is not opened

-- a device that is opened to be read isn't refused for its run or its register
pub unreadable : (c : List ℕ) (fault : RecoverFault) → IsRefusedAs Keep c fault → IsUnreadable c (note_of_recover fault)
unreadable c (Recover.NotSpool at) is = is
unreadable c (Recover.RunsSpent run) is = let never = is.2.0 in absurd (cc)
unreadable c (Recover.Worn ordinal) is = let never = is.2.0 in absurd (cc)
unreadable c Recover.DiskFault is = tt
unreadable c Recover.NoMemory is = tt

-- read, and read again: what a crash leaves is what it could leave before
pub read_on : (m mid new : Moment) → LeavesOnly m.image m mid → LeavesOnly mid.image mid new → LeavesOnly m.image m new
read_on m mid new first next = both m.image mid.image m.image m mid new first next (λ c image. image) (λ c image. first.now c image)

-- opened to be read, and refused
pub unopened : (fault : RecoverFault) (m : Moment) (c : List ℕ) → IsRefusing Keep fault m c → m.image c
unopened (Recover.NotSpool at) m c h = h
unopened (Recover.RunsSpent run) m c h = h
unopened (Recover.Worn ordinal) m c h = h
unopened Recover.DiskFault m c h = h
unopened Recover.NoMemory m c h = h

unopened_note : (fault : RecoverFault) → IsListNote (note_of_recover fault)
unopened_note (Recover.NotSpool at) = tt
unopened_note (Recover.RunsSpent run) = tt
unopened_note (Recover.Worn ordinal) = tt
unopened_note Recover.DiskFault = tt
unopened_note Recover.NoMemory = tt

-- the note says whether a call of the disk failed, and no read or write did
unopened_disk : (fault : RecoverFault) → note_of_recover fault ≡ Note.DiskFault → fault ≡ Recover.DiskFault
unopened_disk Recover.DiskFault is = refl
unopened_disk fault is = absurd (cc)

pub unopened_read : (fault : RecoverFault) → note_of_recover fault ≡ Note.ReadFault → ⊥
unopened_read (Recover.NotSpool at) is = cc
unopened_read (Recover.RunsSpent run) is = cc
unopened_read (Recover.Worn ordinal) is = cc
unopened_read Recover.DiskFault is = cc
unopened_read Recover.NoMemory is = cc

pub unopened_write : (fault : RecoverFault) → note_of_recover fault ≡ Note.WriteFault → ⊥
unopened_write (Recover.NotSpool at) is = cc
unopened_write (Recover.RunsSpent run) is = cc
unopened_write (Recover.Worn ordinal) is = cc
unopened_write Recover.DiskFault is = cc
unopened_write Recover.NoMemory is = cc

-- no call failed but as the note says, since nothing was read or written
module _ (fault : RecoverFault) where
  pub unopened_calls : (old new : Moment) → Calls (fault ≡ Recover.DiskFault) old new → Calls (note_of_recover fault ≡ Note.DiskFault) old new
  unopened_calls old new calls =
      calls_as (fault ≡ Recover.DiskFault) (note_of_recover fault ≡ Note.DiskFault) old new calls (unopened_disk fault) (λ by. ap note_of_recover by)

  pub unopened_reads : (before now : ℕ) → now ≡ before → CountsFaults (note_of_recover fault ≡ Note.ReadFault) before now
  unopened_reads before now same = counts_none (note_of_recover fault ≡ Note.ReadFault) before now (unopened_read fault) same

  pub unopened_writes : (before now : ℕ) → now ≡ before → CountsFaults (note_of_recover fault ≡ Note.WriteFault) before now
  unopened_writes before now same = counts_none (note_of_recover fault ≡ Note.WriteFault) before now (unopened_write fault) same

-- ---- printing is a part of listing

list_note : (note : Note) → IsPrintNote note → IsListNote note
list_note Note.Fine is = tt
list_note (Note.NotSpool at) is = tt
list_note Note.NoMemory is = tt
list_note Note.WriteFault is = tt
list_note Note.DiskFault is = tt
list_note note is = absurd is

-- a spool that is printed was not refused
print_not_first : (note : Note) → IsPrintNote note → IsRefusedFirst note → ⊥
print_not_first Note.Fine is first = first
print_not_first (Note.NotSpool at) is first = first
print_not_first Note.NoMemory is first = first
print_not_first Note.WriteFault is first = first
print_not_first Note.DiskFault is first = first
print_not_first note is first = absurd is

module _ (form : ListForm) (disk : DiskRun) (output : OutputRun) where
  -- the entries of a spool that was opened were printed as the note says
  pub listed : (note : Note) (mid : Moment) → IsPrintNote note → Calls ⊥ disk.old mid → Calls (note ≡ Note.DiskFault) mid disk.new
      → CountsFaults (note ≡ Note.WriteFault) output.faults output.faults_after
      → (disk.tells → (s : SpoolState) × StandsFor s disk.old.reads × ArePrinted form (left s) note output.taken output.taken_after)
      → (disk.tells → LeavesOnly disk.old.image disk.old disk.new) → IsListed form disk output note
  listed note mid known first calls writes printed any_moment = record {
    known = list_note note known;
    unused = λ refused. absurd (print_not_first note known refused);
    calls = calls_on ⊥ (note ≡ Note.DiskFault) disk.old mid disk.new first (λ never. never) calls;
    writes = writes;
    listed = λ told. inr (printed told);
    any_moment = any_moment;
  }

  -- the device was not opened
  pub unlisted : (fault : RecoverFault) → Calls (fault ≡ Recover.DiskFault) disk.old disk.new → (disk.tells → IsRefusedAs Keep disk.old.reads fault)
      → (disk.tells → LeavesOnly (IsRefusing Keep fault disk.old) disk.old disk.new) → IsSilent output
      → IsListed form disk output (note_of_recover fault)
  unlisted fault calls why any_moment silent = record {
    known = unopened_note fault;
    unused = λ refused. silent;
    calls = unopened_calls fault disk.old disk.new calls;
    writes = unopened_writes fault output.faults output.faults_after silent.faults;
    listed = λ told. inl (unreadable disk.old.reads fault (why told), silent.taken);
    any_moment = λ told. weaker _ disk.old.image disk.old disk.new (any_moment told) (unopened fault disk.old);
  }
