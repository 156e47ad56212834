-- The entries that are pending in the spool of a load are those taken, which are small.
use Rattle.std.proofs.Common.{◌≡◌, ℕ, ◌+◌, ◌-◌, ◌≤◌, List, [], ◌∷◌, length, drop, map, refl, ◌∙◌, ap, arith}
use Rattle.std.specs.Prelude.{All, Ok}
use Rattle.std.proofs.lemmas.List.Elements.{All-append, All-nil}
use Rattle.event_form.specs.Entry.{entry_text}
use Rattle.event_form.specs.declared.event.Entry.{Entry}
use Rattle.spool_state.specs.Left.{NumberedEntry, numbered}
use Rattle.spool_state.specs.SpoolState.{IsSound, SpoolState, base, list}
use Rattle.spool_state.proofs.Lefts.{left-cursor}
use Rattle.desk_access.specs.Call.{Call, taken_of, takes}
use Rattle.ending_laws.specs.Draining.{pending}
use Rattle.load_laws.proofs.Room.{AreSmall, Packed}

entries_numbered : (first : ℕ) (entries : List Entry) → map (λ (one : NumberedEntry). one.entry) (numbered first entries) ≡ entries
entries_numbered first [] = refl
entries_numbered first (entry ∷ entries) = ap (λ (l : List Entry). entry ∷ l) (entries_numbered (first + 1) entries)

pub pending_packed : (s : SpoolState) (taken : List Entry) → IsSound s → Packed s taken → pending s ≡ taken
pending_packed s taken sound p =
    let none : s.cursor - base s ≡ 0 = omega (arith, p.cursor) in
    let entries = drop (s.cursor - base s) (list s) in
    ap (λ (l : List NumberedEntry). map (λ (one : NumberedEntry). one.entry) l) (left-cursor s sound p.known) ∙ entries_numbered s.cursor entries
    ∙ ap (λ (n : ℕ). drop n (list s)) none ∙ p.list_is

pub taken_small : (calls : List Call) → AreSmall calls → All (λ (e : Entry). length (entry_text e) ≤ 200) (taken_of calls)
taken_small [] small = All-nil (λ (e : Entry). length (entry_text e) ≤ 200)
taken_small (takes group (Ok receipt) ∷ calls) small = All-append (λ (e : Entry). length (entry_text e) ≤ 200) group (taken_of calls) small.0.each (taken_small calls small.1)
taken_small (call ∷ calls) small = absurd small
