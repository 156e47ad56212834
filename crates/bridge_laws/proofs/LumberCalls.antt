-- The calls of a connection by Lumberjack are ones that a desk's only caller may make, where its bytes are bytes.
use Rattle.std.proofs.Common.{◌≡◌, inl, inr, ℕ, ◌+◌, ◌^◌, ◌<◌, List, [], ◌∷◌, ◌++◌, length, refl, subst}
use Rattle.std.specs.Prelude.{All, Option, Result, Ok, Err}
use Rattle.std.proofs.lemmas.List.{take_at, drop_at}
use Rattle.std.proofs.lemmas.List.Elements.{All-nil, All-cons, All-head, All-tail, All-append}
use Rattle.event_form.specs.declared.talk.Talk.{Talk}
use Rattle.event_form.proofs.Numbers.{IsBytes, IsBytes-drop, IsBytes-take}
use Rattle.spool_faults.specs.declared.fault.TakeFault.{TakeFault}
use Rattle.spool_answers.specs.declared.receipt.Receipt.{Receipt}
use Rattle.stream_grammar.specs.Framing.{AreSpelled}
use Rattle.lumber_frame.specs.declared.frame.LumberFrame.{LumberFrame}
use Rattle.lumber_frame.specs.declared.frame.LumberFrame.TheVariants.{Window, Pairs, Json, Ack}
use Rattle.lumber_frame.specs.declared.side.Side.TheVariants.{Receiver}
use Rattle.lumber_frame.specs.Spelling.{IsSpelling, Spells}
use Rattle.lumber_frame.proofs.BytesLaws.{spelling_frame}
use Rattle.lumber_session.specs.Staged.{Staged, staged_by, staged}
use Rattle.desk_access.specs.Division.{DividedRun}
use Rattle.desk_access.specs.Batch.{AreNext, Belongs, IsPlain}
use Rattle.desk_access.specs.Call.{Call, takes}
use Rattle.desk_access.specs.Step.{Step, frames_of, calls_of, count}
use Rattle.desk_access.specs.Carried.{Carried, Ending, EndsAtMove}
use Rattle.desk_access.proofs.Moves.{ending_cases}
use Rattle.desk_access.proofs.Nexts.{all_left, all_right}
use Rattle.spool_turns.specs.Replays.{MayMake}
use Rattle.conn_serve.specs.Relp.{entry_of}
use Rattle.conn_serve.specs.Lumber.{lumberjack, entries_of, EndsAtGroup, StoresLast}
use Rattle.bridge_laws.proofs.OnlyCaller.{IsReady, may_none, may_plain, sure_group, connection_may}

-- ---- sequence numbers

abbrev IsSmall : Staged → Type 0
IsSmall s = s.seq < 2 ^ 32

-- what the frame stages has a number of four bytes
abbrev StagesSmall : LumberFrame → Type 0
StagesSmall f = All IsSmall (staged_by f)

frame_small : (f : LumberFrame) (x : List ℕ) → IsSpelling f x → IsBytes x → StagesSmall f
frame_small (Window size) x s p = All-nil IsSmall
frame_small (Pairs seq text) x s p = All-cons IsSmall _ [] (spelling_frame (Pairs seq text) x s p).0 (All-nil IsSmall)
frame_small (Json seq text) x s p = All-cons IsSmall _ [] (spelling_frame (Json seq text) x s p).0 (All-nil IsSmall)
frame_small (Ack seq) x s p = All-nil IsSmall

bytes_left : (x y b : List ℕ) → b ≡ x ++ y → IsBytes b → IsBytes x
bytes_left x y b is p = subst IsBytes (take_at x y (length x) refl) (IsBytes-take (length x) (x ++ y) (subst IsBytes is p))

bytes_right : (x y b : List ℕ) → b ≡ x ++ y → IsBytes b → IsBytes y
bytes_right x y b is p = subst IsBytes (drop_at x y (length x) refl) (IsBytes-drop (length x) (x ++ y) (subst IsBytes is p))

spelled_small : (fs : List LumberFrame) (b : List ℕ) → AreSpelled (Spells Receiver) fs b → IsBytes b → All StagesSmall fs
spelled_small [] b s p = All-nil StagesSmall
spelled_small (f ∷ fs) b (x, y, spells, is, rest) p =
    All-cons StagesSmall f fs (frame_small f x spells.1 (bytes_left x y b is p)) (spelled_small fs y rest (bytes_right x y b is p))

staged_small : (fs : List LumberFrame) → All StagesSmall fs → All IsSmall (staged fs)
staged_small [] all = All-nil IsSmall
staged_small (f ∷ fs) all =
    All-append IsSmall (staged_by f) (staged fs) (All-head StagesSmall f fs all) (staged_small fs (All-tail StagesSmall f fs all))

-- ---- the entries of a batch

batch_next : (conn index : ℕ) (events : List Staged) → AreNext conn index (entries_of conn index events)
batch_next conn index [] = tt
batch_next conn index (s ∷ more) = (refl, refl, batch_next conn (index + 1) more)

batch_plain : (conn index : ℕ) (events : List Staged) → All IsSmall events → All IsPlain (entries_of conn index events)
batch_plain conn index [] small = All-nil IsPlain
batch_plain conn index (s ∷ more) small =
    All-cons IsPlain (entry_of conn index s.seq s.event) (entries_of conn (index + 1) more) (All-head IsSmall s more small)
    (batch_plain conn (index + 1) more (All-tail IsSmall s more small))

-- ---- the calls

module _ (run : DividedRun) (conn : ℕ) (own : List Call) (ready : IsReady run conn own) where
  batch_take : (events : List Staged) (answer : Result Receipt TakeFault) (calls : List Call) → All IsSmall events → calls ≡ takes (entries_of conn (count own) events) answer ∷ [] → MayMake run 1 0 own calls
  batch_take events answer calls small is = may_plain run conn own (entries_of conn (count own) events) answer calls ready (batch_next conn (count own) events) (batch_plain conn (count own) events small) is

  batch_ends : (events : List Staged) (seq : ℕ) (late : List Call) (part : List ℕ) (talk : Talk) → All IsSmall events → EndsAtGroup
      (entries_of conn (count own) events) seq late part talk → MayMake run 1 0 own late
  batch_ends events seq late part Talk.WriteFault small e = batch_take events (Ok e.0) late small e.2
  batch_ends events seq late part talk small e = batch_take events (Err e.0) late small e.1

  batch_last : (events : List Staged) (late : List Call) (part : List ℕ) → All IsSmall events → StoresLast conn
      (count own) events late part → MayMake run 1 0 own late
  batch_last [] late part small none = may_none run conn own late none.0
  batch_last (s ∷ more) late part small stored = batch_take (s ∷ more) (Ok stored.0) late small stored.1

module _ (run : DividedRun) (conn : ℕ) (left : Option (List ℕ)) (b : List ℕ) (steps : List (Step LumberFrame)) (held : List LumberFrame) (at : ℕ) (late : List Call) (part : List ℕ) (ready : IsReady run conn (calls_of steps))
    (bytes : IsBytes b) (small : All StagesSmall held) where
  lumber_move : (talk : Talk) → EndsAtMove (lumberjack conn) left b steps held at late part talk → MayMake run 1 0 (calls_of steps) late
  lumber_move talk (inl frame) =
      let all = spelled_small _ _ frame.2.spelled (bytes_left frame.2.front frame.2.rest b frame.2.whole bytes) in
      let last = All-head StagesSmall frame.0 [] (all_right StagesSmall (frames_of steps ++ held) (frame.0 ∷ []) all) in
      let each = All-append StagesSmall held (frame.0 ∷ []) small (All-cons StagesSmall frame.0 [] last (All-nil StagesSmall)) in
      batch_ends run conn (calls_of steps) ready (staged (held ++ frame.0 ∷ [])) _ late part talk
      (staged_small (held ++ frame.0 ∷ []) each) frame.3.1
  lumber_move talk (inr last) = batch_ends run conn (calls_of steps) ready (staged held) _ late part talk (staged_small held small) last.2.1

  lumber_last : (talk : Talk) → Ending (lumberjack conn) left b steps held at late part talk → MayMake run 1 0 (calls_of steps) late
  lumber_last talk e =
      ending_cases (lumberjack conn) left b steps held at late part (λ t. MayMake run 1 0 (calls_of steps) late)
      (λ t m. batch_last run conn (calls_of steps) ready (staged held) late part (staged_small held small) m)
      (λ t none. may_none run conn (calls_of steps) late none.0) lumber_move talk e

pub lumber_may : (run : DividedRun) (conn : ℕ) (left : Option (List ℕ)) (b : List ℕ) (calls : List Call) (text : List ℕ) (talk : Talk) → IsBytes b → Belongs run 0 conn → Carried (lumberjack conn) left b calls text talk → MayMake run 1 0 [] calls
lumber_may run conn left b calls text talk bytes belongs c =
    let all = spelled_small _ _ c.front.spelled (bytes_left c.front.front c.front.rest b c.front.whole bytes) in
    connection_may (lumberjack conn) StagesSmall run conn
    (λ before s fits move ready.
    let group = entries_of conn (count (calls_of before)) (staged s.frames) in (
      batch_take run conn (calls_of before) ready (staged s.frames) (Ok move.1.0) s.calls
          (staged_small s.frames fits) move.1.1,
      sure_group conn (count (calls_of before)) group move.1.0 s.calls
          (batch_next conn _ (staged s.frames)) move.1.1,
    ))
    left b calls text talk c belongs (all_left StagesSmall (frames_of c.steps) c.held all)
    (λ ready. lumber_last run conn left b c.steps c.held c.at c.late c.part ready bytes
    (all_right StagesSmall (frames_of c.steps) c.held all) talk c.ending)
