-- What a journal has after what passes have seen.
use Rattle.std.proofs.Common.{◌≡◌, ◌≢◌, ◌⊎◌, inl, inr, ℕ, suc, ◌+◌, ◌<◌, ◌≤◌, ◌==◌, Bool, true, false, cond, List, [], ◌∷◌, ◌++◌, length, length-append, refl, sym, ap, ◌∙◌, arith, append_assoc, eq-eqb}
use Rattle.std.specs.Prelude.{All}
use Rattle.std.proofs.lemmas.Bool.{cases_lt, eqb-false}
use Rattle.std.proofs.lemmas.List.Elements.{All-nil, All-cons, All-head, All-tail}
use mathlib.Core.List.{IsPrefix}
use Rattle.edge_io.specs.Door.{DoorState}
use Rattle.desk_access.specs.Division.{DividedRun}
use Rattle.desk_access.specs.Call.{Call, Record, own_of, calls_of}
use Rattle.desk_access.specs.Desk.{DeskState}
use Rattle.desk_access.specs.Journal.{own_then}
use Rattle.conn_serve.specs.declared.rules.Rules.{Rules}
use Rattle.desk_seats.specs.Passes.{Known, Stands}
use Rattle.desk_seats.specs.Ran.{Ran}
use Rattle.spool_turns.specs.Replays.{HasNumber}
use Rattle.serve_workers.specs.declared.worker.WorkerReport.{WorkerReport}
use Rattle.serve_workers.specs.Crews.{AreNew, HaveWorked, returned_as, roster_as}
use Rattle.serve_workers.specs.Works.{dismissed_as, posted_as}
use Rattle.serve_laws.proofs.Parts.{AsLong}

-- ---- passes that were new

-- Of these passes each came by its own calls from a new one. Their numbers are that one, the next one, and so on.
abbrev pub HaveRun : (DeskState → Type 0) → ℕ → List Known → Type 0
HaveRun start number [] = Unit {0}
HaveRun start number (pass' ∷ passes') = ((pass : Known) × (calls : List Call) × (pass.number ≡ number) × (pass.own ≡ []) × Ran start pass calls pass') × HaveRun start (number + 1) passes'

pub have_run : (start : DeskState → Type 0) (run : DividedRun) (talks number : ℕ) (rules : List Rules) (doors : List DoorState) (passes : List Known) (doors' : List DoorState) (passes' more : List Known) (reports : List WorkerReport)
    → AsLong (length rules) doors passes doors' passes' reports → AreNew number (passes ++ more) → HaveWorked start run talks (roster_as rules doors passes) (returned_as doors' passes' reports) → HaveRun start number passes'
have_run start run talks number [] [] [] [] [] more [] long new worked = tt
have_run start run talks number (by ∷ rules) (old ∷ doors) (pass ∷ passes) (new ∷ doors') (pass' ∷ passes') more (report ∷ reports) long fresh worked =
    let here = worked 0 (posted_as by old pass) (dismissed_as new pass' report) (refl, refl, refl) (refl, refl, refl) in (
      (pass, _, fresh.0, fresh.1, here.at_door.calls),
      have_run start run talks (number + 1) rules doors passes doors' passes' more reports
          (record { doors_are = omega (arith, long.doors_are); passes_are = omega (arith, long.passes_are); doors'_are = omega (arith, long.doors'_are); passes'_are = omega (arith, long.passes'_are); reports_are = omega (arith, long.reports_are) })
          fresh.2 (λ k. worked (suc k)),
    )
have_run start run talks number rules doors passes doors' passes' more reports long fresh worked =
    absurd (omega (arith, long.doors_are, long.passes_are, long.doors'_are, long.passes'_are, long.reports_are))

-- the pass after new ones
pub last_new : (number : ℕ) (passes : List Known) (last : Known) → AreNew number (passes ++ last ∷ []) → (last.number ≡ number + length passes) × (last.own ≡ [])
last_new number [] last new = (omega (arith, new.0), new.1)
last_new number (pass ∷ passes) last new = let rest = last_new (number + 1) passes last new.2 in (omega (arith, rest.0), rest.1)

-- each number of those from one on is that of one of the passes
pub all_numbers : (start : DeskState → Type 0) (number : ℕ) (passes : List Known) (last : Known) → HaveRun start number passes → last.number ≡ number + length passes
    → (n : ℕ) → number ≤ n → n < number + length passes + 1 → HasNumber (passes ++ last ∷ []) n
all_numbers start number [] last run is n least most = inl (omega (arith, is, least, most))
all_numbers start number (pass ∷ passes) last run is n least most = elim (either number n least) [
  | inl here ↦ inl (run.0.4.number ∙ run.0.2 ∙ here)
  | inr later ↦ inr (all_numbers start (number + 1) passes last run.1 (omega (arith, is)) n later (omega (arith, most)))
] where
  either : (a b : ℕ) → a ≤ b → (a ≡ b) ⊎ (a + 1 ≤ b)
  either a b le = elim (cases_lt a b) [ inl later ↦ inr (omega (arith, later)) | inr here ↦ inl (omega (arith, here, le)) ]

-- ---- after what a pass has seen

pub no_length : {A : Type 0} (xs : List A) → length xs ≡ 0 → xs ≡ []
no_length [] is = refl
no_length (x ∷ xs) is = absurd (omega (arith, is))

none_behind : (own before calls behind : List Call) → own ≡ calls → own ≡ (before ++ calls) ++ behind → behind ≡ []
none_behind own before calls behind is parts =
    no_length behind (omega (arith, ap (λ (l : List Call). length l) is, ap (λ (l : List Call). length l) parts, length-append (before ++ calls) behind, length-append before calls))

own_more : (number : ℕ) (seen rest log : List Record) → seen ++ rest ≡ log → own_of number log ≡ own_of number seen ++ own_of number rest
own_more number seen rest log is = ap (own_of number) (sym is) ∙ own_then number seen rest

-- A pass that was new has seen all calls of its number.
pub sees_own : (start : DeskState → Type 0) (log : List Record) (pass pass' : Known) (calls : List Call) (rest : List Record) → pass.own ≡ [] → Ran start pass calls pass' → Stands log pass' → pass'.seen ++ rest ≡ log → own_of pass'.number rest ≡ []
sees_own start log pass pass' calls rest new ran stands parts =
    let n = pass'.number in
    let own : own_of n log ≡ calls = stands.1 ∙ ran.own ∙ ap (λ (l : List Call). l ++ calls) new in
    let made : own_of n ran.between ≡ calls = ap (λ (k : ℕ). own_of k ran.between) ran.number ∙ ran.own_between in
    let seen : own_of n pass'.seen ≡ own_of n pass.seen ++ calls = ap (own_of n) ran.seen ∙ own_then n pass.seen ran.between ∙ ap (λ (l : List Call). own_of n pass.seen ++ l) made in
    none_behind (own_of n log) (own_of n pass.seen) calls (own_of n rest) own (own_more n pass'.seen rest log parts ∙ ap (λ (l : List Call). l ++ own_of n rest) seen)

no_second : (xs ys : List Call) → xs ++ ys ≡ [] → ys ≡ []
no_second [] ys is = is
no_second (x ∷ xs) ys is = absurd (cc is)

-- So after a journal that begins with what it has seen there is none.
pub sees_own_by : (start : DeskState → Type 0) (log seen rest : List Record) (pass pass' : Known) (calls : List Call) → pass.own ≡ [] → Ran start pass calls pass' → Stands log pass' → IsPrefix pass'.seen seen → seen ++ rest ≡ log → own_of pass'.number rest ≡ []
sees_own_by start log seen rest pass pass' calls new ran stands first parts =
    let n = pass'.number in
    let whole : pass'.seen ++ (first.0 ++ rest) ≡ log = sym (append_assoc pass'.seen first.0 rest) ∙ ap (λ (l : List Record). l ++ rest) first.1 ∙ parts in
    no_second (own_of n first.0) (own_of n rest) (sym (own_then n first.0 rest) ∙ sees_own start log pass pass' calls (first.0 ++ rest) new ran stands whole)

-- ---- the records of one caller alone

-- no record is of that caller
not_by : (number : ℕ) (one : Record) (log : List Record) → own_of number (one ∷ log) ≡ [] → (one.by ≢ number) × (own_of number log ≡ [])
not_by number one log is = by (one.by == number) refl is where
  by : (b : Bool) → (one.by == number) ≡ b → cond b (one.call ∷ own_of number log) (own_of number log) ≡ [] → (one.by ≢ number) × (own_of number log ≡ [])
  by true same is = absurd (cc is)
  by false same is = (eqb-false one.by number same, is)

-- of no pass but the last
last_has : (passes : List Known) (last : Known) (number : ℕ) → HasNumber (passes ++ last ∷ []) number → All (λ (pass : Known). number ≢ pass.number) passes → number ≡ last.number
last_has [] last number (inl is) others = sym is
last_has [] last number (inr never) others = absurd never
last_has (pass ∷ passes) last number (inl is) others = absurd (All-head (λ (p : Known). number ≢ p.number) pass passes others (sym is))
last_has (pass ∷ passes) last number (inr has) others = last_has passes last number has (All-tail (λ (p : Known). number ≢ p.number) pass passes others)

-- Where each record is of one of the passes, and none of any but the last, all are of the last.
pub only_last : (passes : List Known) (last : Known) (log : List Record) → All (λ (one : Record). HasNumber (passes ++ last ∷ []) one.by) log → All (λ (pass : Known). own_of pass.number log ≡ []) passes
    → All (λ (one : Record). one.by ≡ last.number) log
only_last passes last [] each none = All-nil (λ (one : Record). one.by ≡ last.number)
only_last passes last (one ∷ log) each none =
    All-cons (λ (r : Record). r.by ≡ last.number) one log
    (last_has passes last one.by (All-head (λ (r : Record). HasNumber (passes ++ last ∷ []) r.by) one log each) (λ k d lt. (not_by _ one log (none k d lt)).0))
    (only_last passes last log (All-tail (λ (r : Record). HasNumber (passes ++ last ∷ []) r.by) one log each) (λ k d lt. (not_by _ one log (none k d lt)).1))

-- then its calls are all
pub all_own : (number : ℕ) (log : List Record) → All (λ (one : Record). one.by ≡ number) log → calls_of log ≡ own_of number log
all_own number [] all = refl
all_own number (one ∷ log) all =
    let P : Record → Type 0 = λ r. r.by ≡ number in
    let same = eq-eqb one.by number (All-head P one log all) in
    ap (λ (l : List Call). one.call ∷ l) (all_own number log (All-tail P one log all))
    ∙ sym (ap (λ (b : Bool). cond b (one.call ∷ own_of number log) (own_of number log)) same)
