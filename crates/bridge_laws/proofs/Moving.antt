-- What moves leave of the spools that they lead out of and into.
use Rattle.std.proofs.Common.{◌≡◌, inl, inr, ℕ, zero, suc, ◌+◌, ◌-◌, ◌*◌, ◌^◌, ◌<◌, ◌≤◌, List, [], ◌∷◌, ◌++◌, length, take, drop, refl, sym}
use Rattle.std.proofs.Common.{◌∙◌, ap, subst, arith, length-append, length-take, length-drop}
use Rattle.std.specs.Prelude.{All, map, Result}
use Rattle.std.proofs.lemmas.List.{drop-drop, take-append-drop}
use Rattle.std.proofs.lemmas.List.Elements.{All-nil, All-cons}
use Rattle.known_numbers.specs.Numbers.{Numbers, EndBy}
use Rattle.event_form.specs.declared.event.Entry.{Entry}
use Rattle.edge_disk.specs.Disk.{Moment, IsLawful}
use Rattle.spool_state.specs.SpoolState.{SpoolState, base, end, list, numbers_of, IsSound}
use Rattle.spool_state.specs.Left.{NumberedEntry, left, numbered, unknown}
use Rattle.spool_state.specs.Image.{StandsFor}
use Rattle.spool_state.proofs.Unknown.{known_below, length-numbered, numbered_append, numbered_of, unknown_all, unknown_append}
use Rattle.spool_move.specs.declared.fault.MoveFault.{MoveFault}
use Rattle.spool_move.specs.Moved.{moved, all_moved}
use Rattle.spool_move.specs.Runs.{IsRun}
use Rattle.spool_move.specs.Stands.{HasGivenUp, HasTaken}
use Rattle.spool_move.specs.Turns.{Turn, AreTurns, WasLeft}
use Rattle.spool_move.specs.Turns.Turn.{OfSource, OfTarget}
use Rattle.bridge_parts.specs.Run.{OutputRun}
use Rattle.bridge_move.specs.MoveRun.{MovesOpened, two_disks}
use Rattle.bridge_move.proofs.Running.{each_is_run}
use Rattle.bridge_laws.specs.InOrder.{IsInOrder, IsUnmoved}
use Rattle.bridge_laws.specs.Lifetime.{IsMoveCall, IsMovedInto, IsMovedOut, WasCutOff}
use Rattle.bridge_laws.specs.Told.{DiskKind, Telling}
use Rattle.bridge_laws.proofs.InOrder.{in_order}
use Rattle.bridge_laws.proofs.LegalParts.{IsLegalBefore, IsMovedIn, dropped_legal, moved_legal}

-- ---- the list of a spool that took entries

-- lists that have the same entry at each of so many places
fronts : (n : ℕ) (xs ys : List Entry) → length ys ≡ n → n ≤ length xs → ((i : ℕ) → i < n → take 1 (drop i xs) ≡ take 1 (drop i ys))
    → take n xs ≡ ys
fronts zero xs [] long most same = refl
fronts zero xs (y ∷ ys) long most same = absurd (omega (arith, long))
fronts (suc n) [] ys long most same = absurd (omega (arith, most))
fronts (suc n) (x ∷ xs) [] long most same = absurd (omega (arith, long))
fronts (suc n) (x ∷ xs) (y ∷ ys) long most same =
    let head : x ∷ [] ≡ y ∷ [] = same 0 (omega arith) in
    let first : x ≡ y = cc head in
    let rest = fronts n xs ys (omega (arith, long)) (omega (arith, most)) (λ i lt. same (suc i) (omega (arith, lt))) in
    λ i. first i ∷ rest i

-- what stands last, and is as long
rests : (a b x y : List NumberedEntry) → a ++ x ≡ b ++ y → length x ≡ length y → x ≡ y
rests [] [] x y is long = is
rests [] (e ∷ b) x y is long = absurd (omega (arith, ap (λ (l : List NumberedEntry). length l) is, length-append b y, long))
rests (e ∷ a) [] x y is long = absurd (omega (arith, ap (λ (l : List NumberedEntry). length l) is, length-append a x, long))
rests (e ∷ a) (f ∷ b) x y is long = rests a b x y (cc is) long

-- the entries that are numbered
abbrev without_numbers : List NumberedEntry → List Entry
without_numbers xs = map (λ one. one.entry) xs

were_numbered : (first : ℕ) (xs : List Entry) → without_numbers (numbered first xs) ≡ xs
were_numbered first [] = refl
were_numbered first (x ∷ xs) = ap (λ (l : List Entry). x ∷ l) (were_numbered (first + 1) xs)

same_numbered : (first : ℕ) (xs ys : List Entry) → numbered first xs ≡ numbered first ys → xs ≡ ys
same_numbered first xs ys same = sym (were_numbered first xs) ∙ ap without_numbers same ∙ were_numbered first ys

module _ (u t : SpoolState) (more : List Entry) (sound : IsSound u) (taken : HasTaken u more t) where
  -- how many of its entries the spool had before
  abbrev had : ℕ
  had = end u - base t

  abbrev gone : ℕ
  gone = base t - base u

  cursor_is : t.cursor ≡ u.cursor
  cursor_is = ap (λ (n : Numbers). n.cursor) taken.known_same

  known_ends : EndBy (end u) t.known
  known_ends = subst (EndBy (end u)) (sym (ap (λ (n : Numbers). n.stretches) taken.known_same)) sound.known_to_end

  from_base : base t ≤ end u
  from_base = omega (arith, taken.follows.confirmed, cursor_is, sound.to_end)

  long : length (list t) ≡ had + length more
  long = omega (arith, from_base, taken.ends)

  same_at : (i : ℕ) → i < had → take 1 (drop i (list t)) ≡ take 1 (drop i (drop gone (list u)))
  same_at i lt =
      let here : base t + i - base t ≡ i = omega arith in
      let there : base t + i - base u ≡ gone + i = omega (arith, taken.follows.base_rises) in
      ap (λ (n : ℕ). take 1 (drop n (list t))) (sym here)
      ∙ taken.follows.kept (base t + i) (omega arith) (omega (arith, lt, from_base))
      ∙ ap (λ (n : ℕ). take 1 (drop n (list u))) there
      ∙ ap (λ (l : List Entry). take 1 l) (sym (drop-drop i gone (list u)))

  first_entries : take had (list t) ≡ drop gone (list u)
  first_entries =
      fronts had (list t) (drop gone (list u)) (omega (arith, length-drop gone (list u), taken.follows.base_rises, from_base))
      (omega (arith, long)) same_at

  last_entries : drop had (list t) ≡ more
  last_entries =
      let numbers = numbers_of t in
      let xs = take had (list t) in
      let ys = drop had (list t) in
      let at : base t + length xs ≡ end u = omega (arith, length-take had (list t), long, from_base) in
      let parts : numbered (base t) (list t) ≡ numbered (base t) xs ++ numbered (end u) ys =
      ap (numbered (base t)) (sym (take-append-drop had (list t))) ∙ numbered_append (base t) xs ys
      ∙ ap (λ (n : ℕ). numbered (base t) xs ++ numbered n ys) at in
      let new : unknown numbers (numbered (end u) ys) ≡ numbered (end u) ys =
      unknown_all numbers (end u) (end u + length ys) (numbered (end u) ys) (numbered_of (end u) ys)
      (λ n ge lt known. absurd (omega
      (arith, known_below (end u) numbers n (omega (arith, cursor_is, sound.to_end)) known_ends known, ge))) in
      let left_is : left t ≡ unknown numbers (numbered (base t) xs) ++ numbered (end u) ys =
      ap (unknown numbers) parts ∙ unknown_append numbers (numbered (base t) xs) (numbered (end u) ys)
      ∙ ap (λ (l : List NumberedEntry). unknown numbers (numbered (base t) xs) ++ l) new in
      let last =
      rests (unknown numbers (numbered (base t) xs)) (left u) (numbered (end u) ys) (numbered (end u) more) (sym left_is ∙ taken.left_is)
      (omega (arith, length-numbered (end u) ys, length-numbered (end u) more, length-drop had (list t), long)) in
      same_numbered (end u) ys more last

  -- the list is the earlier one without first ones, and behind it what was taken
  list_is : list t ≡ drop gone (list u) ++ more
  list_is = sym (take-append-drop had (list t)) ∙ (λ i. first_entries i ++ last_entries i)

all_moved_in : (tag : ℕ) (xs : List NumberedEntry) → All IsMovedIn (all_moved tag xs)
all_moved_in tag [] = All-nil IsMovedIn
all_moved_in tag (x ∷ xs) =
    All-cons IsMovedIn (moved tag x) (all_moved tag xs) (record { conn = omega arith; unit = omega arith }) (all_moved_in tag xs)

-- A spool with the same list is in order in the same run, and nothing was moved into it if nothing was before.
pub order_same : (m s : SpoolState) → list s ≡ list m → s.run ≡ m.run → IsInOrder m → IsInOrder s
order_same m s list_same run_same is =
    in_order s (subst (λ (r : ℕ). IsLegalBefore (r + 1) (list s)) (sym run_same)
    (subst (IsLegalBefore (m.run + 1)) (sym list_same) (is.legal, is.earlier)))

-- so many runs, and all connections are of them
abbrev AreOfRuns : ℕ → List Entry → Type 0
AreOfRuns run entries = All (λ (entry : Entry). entry.conn < (run + 1) * 2 ^ 32) entries

pub unmoved_same : (m s : SpoolState) → list s ≡ list m → s.run ≡ m.run → IsUnmoved m → IsUnmoved s
unmoved_same m s list_same run_same is = record {
  order = order_same m s list_same run_same is.order;
  conns = subst (λ (r : ℕ). AreOfRuns r (list s)) (sym run_same) (subst (AreOfRuns m.run) (sym list_same) is.conns);
}

-- The target of a move stays in order.
pub order_taken : (u t : SpoolState) (tag : ℕ) (xs : List NumberedEntry) → IsSound u → HasTaken u (all_moved tag xs) t → IsInOrder u
    → IsInOrder t
order_taken u t tag xs sound taken is =
    let more = all_moved tag xs in
    let first = base t - base u in
    let both =
    moved_legal (u.run + 1) (drop first (list u)) more (all_moved_in tag xs)
    (dropped_legal (u.run + 1) first (list u) (is.legal, is.earlier)) in
    in_order t (subst (λ (r : ℕ). IsLegalBefore (r + 1) (list t)) (sym taken.run_same)
    (subst (IsLegalBefore (u.run + 1)) (sym (list_is u t more sound taken)) both))

-- So does its source; and where nothing was moved into that, nothing was moved into what is left of it.
pub order_given : (m s : SpoolState) (given : ℕ) → HasGivenUp m given s → IsInOrder m → IsInOrder s
order_given m s given gives is = order_same m s gives.list_same gives.run_same is

pub unmoved_given : (m s : SpoolState) (given : ℕ) → HasGivenUp m given s → IsUnmoved m → IsUnmoved s
unmoved_given m s given gives is = unmoved_same m s gives.list_same gives.run_same is

-- ---- a run, and a call

-- what the turns come to is left at their end
at_end : {D E : Type 0} (on : D → Moment) (onto : E → Moment) (a a' : D) (b b' : E) (turns : List (Turn D E)) (c d : List ℕ)
    → AreTurns a b turns a' b' → (on a').image c → (onto b').image d → WasLeft on onto a b turns c d
at_end on onto a a' b b' [] c d are image image' =
    (subst (λ x. (on x).image c) are.0 image, subst (λ y. (onto y).image d) are.1 image')
at_end on onto a a' b b' (OfSource next ∷ turns) c d are image image' = inr (at_end on onto next a' b b' turns c d are image image')
at_end on onto a a' b b' (OfTarget next ∷ turns) c d are image image' = inr (at_end on onto a a' next b' turns c d are image image')

-- a call over two devices that were opened is a run
module _ {D E K : Type 0} (on : DiskKind D) (onto : DiskKind E) (printed : K → K → OutputRun) (a a' : D) (b b' : E)
    (call : IsMoveCall on onto printed (a, b) (a', b')) where
  abbrev output : OutputRun
  output = printed call.output call.output'

  abbrev pub Opened : Type 0
  Opened = MovesOpened (two_disks on.tells onto.tells on.moment onto.moment) call.tag (a, b) (a', b') output call.note

  pub ran : Opened → (result : Result ℕ MoveFault) × (turns : List (Turn D E)) × IsRun on.moment onto.moment call.tag result a b turns a' b'
  ran opened =
      let devices = opened.moved call.told call.told' in
      let run = each_is_run on.tells onto.tells on.moment onto.moment a a' b b' output call.words call.path call.tag call.note call.asks
      call.is call.told call.told' devices.source_state devices.target_state devices.source_stood devices.target_stood in
      (run.result, run.turns, run.is)

-- Something that is true of bytes that stand for a spool exactly where the spool is so.
module _ {D E : Type 0} (on : DiskKind D) (onto : DiskKind E) (Is : SpoolState → Type 0) (P : List ℕ → Type 0)
    (holds : (s : SpoolState) (c : List ℕ) → StandsFor s c → Is s → P c) (held : (s : SpoolState) (c : List ℕ) → StandsFor s c → P c
    → Is s) where
  -- of the source's disk, and of the target's
  abbrev IsOn : D → Type 0
  IsOn a = (c : List ℕ) → (on.moment a).image c → P c

  abbrev IsOnto : E → Type 0
  IsOnto b = (d : List ℕ) → (onto.moment b).image d → P d

  is_on : (a : D) (s : SpoolState) → IsLawful (on.moment a) → StandsFor s (on.moment a).reads → IsOn a → Is s
  is_on a s lawful stood before = held s (on.moment a).reads stood (before (on.moment a).reads lawful.reads_image)

  is_onto : (b : E) (s : SpoolState) → IsLawful (onto.moment b) → StandsFor s (onto.moment b).reads → IsOnto b → Is s
  is_onto b s lawful stood before = held s (onto.moment b).reads stood (before (onto.moment b).reads lawful.reads_image)

  -- of the target, which stays so as entries are taken
  module _ (stays : (u t : SpoolState) (tag : ℕ) (xs : List NumberedEntry) → IsSound u → HasTaken u (all_moved tag xs) t → Is u
      → Is t) where
    into_run : (tag : ℕ) (result : Result ℕ MoveFault) (a a' : D) (b b' : E) (turns : List (Turn D E))
        → IsRun on.moment onto.moment tag result a b turns a' b' → IsLawful (onto.moment b) → IsOnto b
        → (c d : List ℕ) → WasLeft on.moment onto.moment a b turns c d → P d
    into_run tag result a a' b b' turns is lawful before c d was = elim (is.each c d was) [
      | inl images ↦ before d images.1
      | inr midst ↦
          holds midst.3 d midst.5 (stays is.t midst.3 tag _ is.target.sound midst.6.target (is_onto b is.t lawful is.target before))
    ]

    pub into_cut : (a : D) (b : E) (c d : List ℕ) → WasCutOff on.moment onto.moment a b c d → IsLawful (onto.moment b) → IsOnto b → P d
    into_cut a b c d cut lawful before =
        into_run cut.tag cut.result a cut.source' b cut.target' cut.turns cut.is lawful before c d cut.left

    pub into_call : {K : Type 0} (printed : K → K → OutputRun) (a a' : D) (b b' : E) → IsMoveCall on onto printed (a, b) (a', b')
        → IsLawful (onto.moment b) → IsLawful (on.moment a') → IsOnto b → IsOnto b'
    into_call printed a a' b b' call lawful lawful' before d image = elim (call.is.done call.path call.tag call.asks) [
      | inl alone ↦ before d (subst (λ y. (onto.moment y).image d) alone.1.target_same image)
      | inr (inl closed) ↦ before d (subst (λ y. (onto.moment y).image d) closed.1 image)
      | inr (inr (inl closed)) ↦ before d ((closed.1.any_moment call.told').now d image)
      | inr (inr (inr opened)) ↦
          let run = ran on onto printed a a' b b' call opened in
          let c = (on.moment a').reads in
          into_run call.tag run.0 a a' b b' run.1 run.2 lawful before c d
          (at_end on.moment onto.moment a a' b b' run.1 c d run.2.are lawful'.reads_image image)
    ]

  -- of the source, which stays so as entries are given up
  module _ (stays : (m s : SpoolState) (given : ℕ) → HasGivenUp m given s → Is m → Is s) where
    out_of_run : (tag : ℕ) (result : Result ℕ MoveFault) (a a' : D) (b b' : E) (turns : List (Turn D E))
        → IsRun on.moment onto.moment tag result a b turns a' b' → IsLawful (on.moment a) → IsOn a
        → (c d : List ℕ) → WasLeft on.moment onto.moment a b turns c d → P c
    out_of_run tag result a a' b b' turns is lawful before c d was = elim (is.each c d was) [
      | inl images ↦ before c images.0
      | inr midst ↦ holds midst.2 c midst.4 (stays is.s midst.2 midst.1 midst.6.source (is_on a is.s lawful is.source before))
    ]

    pub out_of_cut : (a : D) (b : E) (c d : List ℕ) → WasCutOff on.moment onto.moment a b c d → IsLawful (on.moment a) → IsOn a → P c
    out_of_cut a b c d cut lawful before =
        out_of_run cut.tag cut.result a cut.source' b cut.target' cut.turns cut.is lawful before c d cut.left

    pub out_of_call : {K : Type 0} (printed : K → K → OutputRun) (a a' : D) (b b' : E) → IsMoveCall on onto printed (a, b) (a', b')
        → IsLawful (on.moment a) → IsLawful (onto.moment b') → IsOn a → IsOn a'
    out_of_call printed a a' b b' call lawful lawful' before c image = elim (call.is.done call.path call.tag call.asks) [
      | inl alone ↦ before c (subst (λ x. (on.moment x).image c) alone.1.source_same image)
      | inr (inl closed) ↦ before c ((closed.0.any_moment call.told).now c image)
      | inr (inr (inl closed)) ↦ before c ((closed.0 call.told).any_moment.now c image)
      | inr (inr (inr opened)) ↦
          let run = ran on onto printed a a' b b' call opened in
          let d = (onto.moment b').reads in
          out_of_run call.tag run.0 a a' b b' run.1 run.2 lawful before c d
          (at_end on.moment onto.moment a a' b b' run.1 c d run.2.are image lawful'.reads_image)
    ]

-- ---- of a device

-- whatever a crash leaves of the disk now has it
abbrev pub IsDisk : {D : Type 0} (So : List ℕ → Type 0) → DiskKind D → D → Type 0
IsDisk So kind disk = (c : List ℕ) → (kind.moment disk).image c → So c

module _ {D E S K N P : Type 0} (tell : Telling D S K N P) (other : DiskKind E)
    (lawful : (disk : D) → tell.disk.tells → IsLawful (tell.disk.moment disk))
    (lawful' : (disk : E) → other.tells → IsLawful (other.moment disk))
    (Is : SpoolState → Type 0) (So : List ℕ → Type 0) (holds : (s : SpoolState) (c : List ℕ) → StandsFor s c → Is s → So c)
    (held : (s : SpoolState) (c : List ℕ) → StandsFor s c → So c → Is s) where
  pub moved_into : ((u t : SpoolState) (tag : ℕ) (xs : List NumberedEntry) → IsSound u → HasTaken u (all_moved tag xs) t → Is u → Is t)
      → (old new : D) → IsMovedInto tell other old new → IsDisk So tell.disk old → IsDisk So tell.disk new
  moved_into stays old new (inl (source, source', call)) before c image =
      into_call other tell.disk Is So holds held stays tell.output source source' old new call (lawful old call.told')
      (lawful' source' call.told)
      before c image
  moved_into stays old new (inr (source, told, cut)) before c image =
      let left = cut c image in
      into_cut other tell.disk Is So holds held stays source old left.0 c left.1 (lawful old told) before

  pub moved_out : ((m s : SpoolState) (given : ℕ) → HasGivenUp m given s → Is m → Is s)
      → (old new : D) → IsMovedOut tell other old new → IsDisk So tell.disk old → IsDisk So tell.disk new
  moved_out stays old new (inl (target, target', call)) before c image =
      out_of_call tell.disk other Is So holds held stays tell.output old new target target' call (lawful old call.told)
      (lawful' target' call.told')
      before c image
  moved_out stays old new (inr (target, told, cut)) before c image =
      let left = cut c image in
      out_of_cut tell.disk other Is So holds held stays old target c left.0 left.1 (lawful old told) before
