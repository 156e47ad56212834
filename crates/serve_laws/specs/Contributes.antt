-- What the connection of a link has in all that a journal added.
use Rattle.std.specs.Prelude.{◌≡◌, ◌⊎◌, ℕ, ◌+◌, ◌≤◌, List, [], ◌∷◌, ◌++◌, drop, Err}
use Rattle.std.specs.List.{All, Contains, sum_by}
use Rattle.event_form.specs.declared.event.Entry.{Entry}
use Rattle.event_form.specs.declared.talk.Talk.TheVariants as Ending
use Rattle.spool_faults.specs.declared.fault.TakeFault.TheVariants as Take
use Rattle.spool_state.specs.SpoolState.{SpoolState, end, list}
use Rattle.desk_access.specs.Call.{Record, calls_of, takes, taken_of}
use Rattle.desk_access.specs.Batch.{AreNext}
use Rattle.desk_access.specs.Desk.{DeskState}
use Rattle.desk_access.specs.History.{AllKept}
use Rattle.desk_access.specs.Legal.{of_conn}
use Rattle.desk_access.specs.Step.{count}
use Rattle.spool_turns.specs.Whole.{AreLegal, AreEarlier}
use Rattle.serve_workers.specs.Served.{Served, calls_in}
use Rattle.serve_laws.specs.Parts.{Part, links_of}

-- These entries, all that were added of the link's connection, are those that its calls took, in order, and after them perhaps one
-- group more, whole, of a take that was answered that the disk failed. Their indexes are 0, 1, 2 and so on. There is no such group
-- where the link ended otherwise than because the disk failed, or because the reply that was to say so was cut short.
pub record Contributes (one : Served) (entries : List Entry) : Type 0 where
  pub last : List Entry
  pub are : entries ≡ taken_of one.calls ++ last
  pub whole : (last ≡ []) ⊎ Contains one.calls (takes last (Err Take.DiskFault))
  pub indexes : AreNext one.conn 0 entries
  pub quiet : (one.talk ≡ Ending.DiskFault → ⊥) → (one.talk ≡ Ending.WriteFault → ⊥) → last ≡ []

-- The entries of the link's connection in this list are those that it contributed, in order, but for first ones that are gone.
pub record StandsInOrder (one : Served) (entries : List Entry) : Type 0 where
  pub contributed : List Entry
  pub contributes : Contributes one contributed
  pub gone : ℕ
  pub are : of_conn one.conn entries ≡ drop gone contributed

-- They are a beginning of those that it contributed, in order, but for first ones that are gone: the rest isn't there yet.
pub record BeginsInOrder (one : Served) (entries : List Entry) : Type 0 where
  pub contributed : List Entry
  pub contributes : Contributes one contributed
  pub begun : List Entry
  pub later : List Entry
  pub parts : contributed ≡ begun ++ later
  pub gone : ℕ
  pub are : of_conn one.conn entries ≡ drop gone begun

-- A spool after a run's journal: each entry that was taken stands there at its number or is below the cursor, and each link's entries
-- stand in their order. The list is legal, and of runs up to this one.
pub record KeepsOrder (run : ℕ) (log : List Record) (links : List Served) (s : SpoolState) : Type 0 where
  pub kept : AllKept s (calls_of log)
  pub each : All (λ one. StandsInOrder one (list s)) links
  pub legal : AreLegal (list s)
  pub earlier : AreEarlier (run + 1) (list s)

-- the entry is of the connection of one of these links
abbrev pub IsOfLink : List Served → Entry → Type 0
IsOfLink links entry = (one : Served) × Contains links one × (one.conn ≡ entry.conn)

-- the entry is of the connection of a link of one of these parts
abbrev pub IsOfParts : List Part → Entry → Type 0
IsOfParts [] entry = ⊥
IsOfParts (part ∷ parts) entry = IsOfLink (links_of part) entry ⊎ IsOfParts parts entry

-- how many entries the links of the parts took
abbrev pub taken_over : List Part → ℕ
taken_over parts = sum_by (λ part. count (calls_in (links_of part))) parts

-- The end rose by no fewer entries than were taken, and by just as many where no call was answered that the disk failed.
pub record EndRises (x y : DeskState) (failures taken : ℕ) : Type 0 where
  pub least : end x.spool + taken ≤ end y.spool
  pub exact : failures ≡ 0 → end y.spool ≡ end x.spool + taken
