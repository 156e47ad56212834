-- A load by Lumberjack: each event of its stream is taken, and its peer acknowledges all of them.
use Rattle.std.proofs.Common.{◌≡◌, inl, inr, ℕ, suc, ◌+◌, ◌*◌, ◌%◌, ◌<◌, ◌≤◌, Bool, true, false, List, [], ◌∷◌, ◌++◌, length, refl, sym, ◌∙◌, ap, subst, arith, append_assoc, length-append}
use Rattle.std.specs.Prelude.{All, ◌==◌, if◌then◌else◌, min}
use Rattle.std.proofs.lemmas.List.{append-nil}
use Rattle.std.proofs.lemmas.List.Elements.{All-cons, All-nil}
use Rattle.event_form.specs.Entry.{entry_text}
use Rattle.event_form.specs.declared.event.Entry.{Entry}
use Rattle.event_form.specs.declared.event.Origin.TheVariants.{LumberJson}
use Rattle.event_form.proofs.Fields.{length-entry_text}
use Rattle.event_map.specs.Objects.{message_object}
use Rattle.event_map.specs.Strings.{string_of}
use Rattle.event_map.proofs.StringSizes.{string_size}
use Rattle.stream_grammar.specs.Framing.{AreSpelled}
use Rattle.stream_grammar.proofs.Streams.{spelled_join}
use Rattle.lumber_frame.specs.declared.frame.LumberFrame.{LumberFrame}
use Rattle.lumber_frame.specs.declared.frame.LumberFrame.TheVariants.{Window, Pairs, Json, Ack}
use Rattle.lumber_frame.specs.declared.side.Side.TheVariants.{Receiver}
use Rattle.lumber_frame.specs.Spelling.{Spells, json_text, window_text}
use Rattle.lumber_frame.proofs.WriteLaws.{spells_once, written_spells}
use Rattle.lumber_session.specs.Batches.{Ends, EndsNowhere, IsBatch}
use Rattle.lumber_session.specs.Staged.{Staged, staged, staged_by}
use Rattle.lumber_session.proofs.CutLaws.{nowhere_few}
use Rattle.lumber_session.proofs.WindowLaws.{staged-append, staged_push}
use Rattle.desk_access.specs.Call.{Call, taken_of}
use Rattle.desk_access.specs.Call as calls
use Rattle.desk_access.specs.Journal.{calls_by, none_joins}
use Rattle.desk_access.specs.Protocol.{AreMoves}
use Rattle.desk_access.specs.Step.{Step, calls_of, count, frames_of}
use Rattle.desk_access.proofs.Moves.{taken_then}
use Rattle.conn_serve.specs.Front.{IsFront}
use Rattle.conn_serve.specs.Lumber.{StoresLast, entries_of, lumberjack}
use Rattle.conn_serve.specs.Relp.{entry_of}
use Rattle.load_run.specs.Load.{new_spool}
use Rattle.load_run.specs.Stream.{lumber_stream, window_at}
use Rattle.load_run.proofs.Shorts.{AreShort}
use Rattle.ending_laws.specs.Replaying.{LumberFits}
use Rattle.bridge_parts.specs.Opened.{desk_in}
use Rattle.load_laws.proofs.Fronts.{strip}
use Rattle.load_laws.proofs.Room.{AreSmall, IsSmall, goes_packed, new_packed, small_fits, small_then}

-- ---- the frames of the stream

abbrev window_if : Bool → ℕ → List LumberFrame
window_if true more = Window (min 128 more) ∷ []
window_if false more = []

abbrev pub all_frames : ℕ → List (List ℕ) → List LumberFrame
all_frames place [] = []
all_frames place (text ∷ texts) = window_if (place % 128 == 0) (length texts + 1) ++ (Json (place % 128 + 1) (message_object text) ∷ all_frames (place + 1) texts)

window_spelled : (due : Bool) (more : ℕ) → AreSpelled (Spells Receiver) (window_if due more) (if due then window_text (min 128 more) else [])
window_spelled true more = (window_text (min 128 more), [], (tt, written_spells (Window (min 128 more)) (window_text (min 128 more)) (omega arith) refl), sym (append-nil (window_text (min 128 more))), refl)
window_spelled false more = refl

message_low : (text : List ℕ) → length text ≤ 21 → length (message_object text) ≤ 140
message_low text low = omega (arith, low, string_size text, length-append (string_of text) (125 ∷ []))

pub all_spelled : (place : ℕ) (texts : List (List ℕ)) → AreShort texts → AreSpelled (Spells Receiver) (all_frames place texts) (lumber_stream place texts)
all_spelled place [] short = refl
all_spelled place (text ∷ texts) short =
    let seq = place % 128 + 1 in
    let payload = message_object text in
    spelled_join (Spells Receiver) (window_if (place % 128 == 0) (length texts + 1)) (Json seq payload ∷ all_frames (place + 1) texts) (window_at place (length texts + 1)) (json_text seq payload ++ lumber_stream (place + 1) texts)
    (window_spelled (place % 128 == 0) (length texts + 1))
    (json_text seq payload, lumber_stream (place + 1) texts, (tt, written_spells (Json seq payload) (json_text seq payload) (omega arith, omega (arith, message_low text short.0)) refl), refl, all_spelled (place + 1) texts short.1)

some_spelled : (f : LumberFrame) (x : List ℕ) → Spells Receiver f x → 0 < length x
some_spelled (Window size) x s = omega (arith, ap length s.1.1)
some_spelled (Pairs seq text) x s = omega (arith, ap length s.1.1)
some_spelled (Json seq text) x s = omega (arith, ap length s.1.1)
some_spelled (Ack seq) x s = absurd s.0

pub first_frames : (b : List ℕ) (all frames : List LumberFrame) (at : ℕ) → AreSpelled (Spells Receiver) all b
    → (front : IsFront (Spells Receiver) b frames at) → (more : List LumberFrame) × (all ≡ frames ++ more) × AreSpelled (Spells Receiver) more front.rest
first_frames b all frames at spelled front =
    strip (Spells Receiver) (λ f g x y a b i j e. spells_once f g x y a b i.1 j.1 e) some_spelled frames all front.front front.rest front.spelled (subst (AreSpelled (Spells Receiver) all) front.whole spelled)

-- no bytes are no frames
pub none_spelled : (frames : List LumberFrame) → AreSpelled (Spells Receiver) frames [] → frames ≡ []
none_spelled [] spelled = refl
none_spelled (f ∷ frames) (x, y, spells, whole, others) = absurd (omega (arith, some_spelled f x spells, ap length whole, length-append x y))

-- ---- how many bytes they are

window_length : (due : Bool) (more : ℕ) → length (if due then window_text (min 128 more) else []) ≤ 6
window_length true more = omega arith
window_length false more = omega arith

pub length-lumber_stream : (place : ℕ) (texts : List (List ℕ)) → AreShort texts → length (lumber_stream place texts) ≤ length texts * 200
length-lumber_stream place [] short = omega arith
length-lumber_stream place (text ∷ texts) short =
    let payload = message_object text in
    omega (
      arith,
      length-append (window_at place (length texts + 1)) (json_text (place % 128 + 1) payload ++ lumber_stream (place + 1) texts),
      length-append (json_text (place % 128 + 1) payload) (lumber_stream (place + 1) texts),
      window_length (place % 128 == 0) (length texts + 1),
      message_low text short.0,
      length-lumber_stream (place + 1) texts short.1,
    )

-- ---- what they stage

-- each data frame has a short payload
abbrev pub AreLow : List LumberFrame → Type 0
AreLow [] = Unit {0}
AreLow (Window size ∷ frames) = AreLow frames
AreLow (Pairs seq text ∷ frames) = ⊥
AreLow (Json seq text ∷ frames) = (length text ≤ 140) × AreLow frames
AreLow (Ack seq ∷ frames) = ⊥

low_first : (xs ys : List LumberFrame) → AreLow (xs ++ ys) → AreLow xs
low_first [] ys low = tt
low_first (Window size ∷ xs) ys low = low_first xs ys low
low_first (Pairs seq text ∷ xs) ys low = low
low_first (Json seq text ∷ xs) ys low = (low.0, low_first xs ys low.1)
low_first (Ack seq ∷ xs) ys low = low

low_last : (xs ys : List LumberFrame) → AreLow (xs ++ ys) → AreLow ys
low_last [] ys low = low
low_last (Window size ∷ xs) ys low = low_last xs ys low
low_last (Pairs seq text ∷ xs) ys low = absurd low
low_last (Json seq text ∷ xs) ys low = low_last xs ys low.1
low_last (Ack seq ∷ xs) ys low = absurd low

window_low : (due : Bool) (more : ℕ) (frames : List LumberFrame) → AreLow frames → AreLow (window_if due more ++ frames)
window_low true more frames low = low
window_low false more frames low = low

pub all_low : (place : ℕ) (texts : List (List ℕ)) → AreShort texts → AreLow (all_frames place texts)
all_low place [] short = tt
all_low place (text ∷ texts) short = window_low (place % 128 == 0) (length texts + 1) (Json (place % 128 + 1) (message_object text) ∷ all_frames (place + 1) texts) (message_low text short.0, all_low (place + 1) texts short.1)

abbrev Low : Entry → Type 0
Low e = length (entry_text e) ≤ 200

entries_low : (conn index : ℕ) (frames : List LumberFrame) → AreLow frames → All Low (entries_of conn index (staged frames))
entries_low conn index [] low = All-nil Low
entries_low conn index (Window size ∷ frames) low = entries_low conn index frames low
entries_low conn index (Pairs seq text ∷ frames) low = absurd low
entries_low conn index (Json seq text ∷ frames) low =
    let one : Staged = record { event = record { origin = LumberJson; text = text }; seq = seq } in
    All-cons Low (entry_of conn index seq one.event) (entries_of conn (index + 1) (staged frames)) (omega (arith, low.0, length-entry_text (entry_of conn index seq one.event))) (entries_low conn (index + 1) frames low.1)
entries_low conn index (Ack seq ∷ frames) low = absurd low

length-entries : (conn index : ℕ) (events : List Staged) → length (entries_of conn index events) ≡ length events
length-entries conn index [] = refl
length-entries conn index (s ∷ events) = ap suc (length-entries conn (index + 1) events)

group_small : (conn index : ℕ) (frames : List LumberFrame) → AreLow frames → 0 < length (staged frames) → length (staged frames) ≤ 256 → IsSmall (entries_of conn index (staged frames))
group_small conn index frames low some few = record {
  some = omega (arith, some, length-entries conn index (staged frames));
  few = omega (arith, few, length-entries conn index (staged frames));
  each = entries_low conn index frames low;
}

-- a batch stages 1 to 256 events
last_staged : (before front : List LumberFrame) (f : LumberFrame) → Ends before front f → length (staged front) < 256 → (0 < length (staged (front ++ f ∷ []))) × (length (staged (front ++ f ∷ [])) ≤ 256)
last_staged before front (Window size) ends few =
    let same : length (staged (front ++ Window size ∷ [])) ≡ length (staged front) = ap (λ (l : List Staged). length l) (staged_push front (Window size) ∙ append-nil (staged front)) in
    (omega (arith, same, ends.1), omega (arith, same, few))
last_staged before front (Pairs seq text) ends few =
    let more : length (staged (front ++ Pairs seq text ∷ [])) ≡ length (staged front) + 1 = ap (λ (l : List Staged). length l) (staged_push front (Pairs seq text)) ∙ length-append (staged front) (staged_by (Pairs seq text)) in
    (omega (arith, more), omega (arith, more, few))
last_staged before front (Json seq text) ends few =
    let more : length (staged (front ++ Json seq text ∷ [])) ≡ length (staged front) + 1 = ap (λ (l : List Staged). length l) (staged_push front (Json seq text)) ∙ length-append (staged front) (staged_by (Json seq text)) in
    (omega (arith, more), omega (arith, more, few))
last_staged before front (Ack seq) ends few = absurd ends

batch_staged : (before frames : List LumberFrame) → IsBatch before frames → (0 < length (staged frames)) × (length (staged frames) ≤ 256)
batch_staged before frames batch =
    subst (λ (l : List LumberFrame). (0 < length (staged l)) × (length (staged l) ≤ 256)) (sym batch.whole)
    (last_staged before batch.front batch.last batch.ends (omega (arith, (nowhere_few before batch.front batch.open_before).frames)))

moves_small : (conn : ℕ) (before steps : List (Step LumberFrame)) → AreMoves (lumberjack conn) before steps → AreLow (frames_of steps) → AreSmall (calls_of steps)
moves_small conn before [] moves low = tt
moves_small conn before (s ∷ steps) moves low =
    let sizes = batch_staged (frames_of before) s.frames moves.0.0 in
    let own = group_small conn (count (calls_of before)) s.frames (low_first s.frames (frames_of steps) low) sizes.0 sizes.1 in
    let here : AreSmall s.calls = subst AreSmall (sym moves.0.1.1) (own, tt) in
    small_then s.calls (calls_of steps) here (moves_small conn (before ++ s ∷ []) steps moves.1 (low_last s.frames (frames_of steps) low))

pub last_small : (conn index : ℕ) (before held : List LumberFrame) (late : List Call) (part : List ℕ) → AreLow held → EndsNowhere before held → StoresLast conn index (staged held) late part → AreSmall late
last_small conn index before held late part low nowhere stores = by (staged held) refl stores
  where
    by : (events : List Staged) → staged held ≡ events → StoresLast conn index events late part → AreSmall late
    by [] is nothing = subst AreSmall (sym nothing.0) tt
    by (s ∷ more) is took =
        let some : 0 < length (staged held) = omega (arith, ap (λ (l : List Staged). length l) is) in
        let own = group_small conn index held low some (omega (arith, (nowhere_few before held nowhere).frames)) in
        subst AreSmall (sym took.1) (subst (λ (l : List Staged). IsSmall (entries_of conn index l)) is own, tt)

-- so many entries were taken as events were staged
pub front_small : (conn : ℕ) (texts : List (List ℕ)) (steps : List (Step LumberFrame)) (more : List LumberFrame) → AreShort texts → AreMoves (lumberjack conn) [] steps → all_frames 0 texts ≡ frames_of steps ++ more
    → AreSmall (calls_of steps) × AreLow more
front_small conn texts steps more short moves are =
    let low = subst AreLow are (all_low 0 texts short) in
    (moves_small conn [] steps moves (low_first (frames_of steps) more low), low_last (frames_of steps) more low)

-- ---- how many they are

window_staged : (due : Bool) (more : ℕ) (frames : List LumberFrame) → length (staged (window_if due more ++ frames)) ≡ length (staged frames)
window_staged true more frames = refl
window_staged false more frames = refl

pub all_staged : (place : ℕ) (texts : List (List ℕ)) → length (staged (all_frames place texts)) ≡ length texts
all_staged place [] = refl
all_staged place (text ∷ texts) =
    window_staged (place % 128 == 0) (length texts + 1) (Json (place % 128 + 1) (message_object text) ∷ all_frames (place + 1) texts) ∙ ap suc (all_staged (place + 1) texts)

moves_count : (conn : ℕ) (before steps : List (Step LumberFrame)) → AreMoves (lumberjack conn) before steps → length (taken_of (calls_of steps)) ≡ length (staged (frames_of steps))
moves_count conn before [] moves = refl
moves_count conn before (s ∷ steps) moves =
    let group = entries_of conn (count (calls_of before)) (staged s.frames) in
    let here : length (taken_of s.calls) ≡ length (staged s.frames) =
    ap (λ (l : List Call). length (taken_of l)) moves.0.1.1 ∙ ap (λ (l : List Entry). length l) (append-nil group) ∙ length-entries conn (count (calls_of before)) (staged s.frames) in
    let rest = moves_count conn (before ++ s ∷ []) steps moves.1 in
    omega (
      arith,
      here,
      rest,
      ap (λ (l : List Entry). length l) (taken_then s.calls (calls_of steps)),
      length-append (taken_of s.calls) (taken_of (calls_of steps)),
      ap (λ (l : List Staged). length l) (staged-append s.frames (frames_of steps)),
      length-append (staged s.frames) (staged (frames_of steps)),
    )

-- the spool has room for each batch of the stream
pub lumber_fits : (conn : ℕ) (texts : List (List ℕ)) → length texts ≤ 100000 → AreShort texts → LumberFits conn new_spool (lumber_stream 0 texts)
lumber_fits conn texts few short steps x frames at first front stored =
    let s = first_frames (lumber_stream 0 texts) (all_frames 0 texts) (frames_of steps ++ frames) at (all_spelled 0 texts short) front in
    let are : all_frames 0 texts ≡ frames_of steps ++ (frames ++ s.0) = s.1 ∙ append_assoc (frames_of steps) frames s.0 in
    let small = front_small conn texts steps (frames ++ s.0) short first.moves are in
    let sizes : (0 < length (staged frames)) × (length (staged frames) ≤ 256) = elim stored [
      | inl batch ↦ batch_staged (frames_of steps) frames batch
      | inr last ↦ (last.2, omega (arith, (nowhere_few (frames_of steps) frames last.0).frames))
    ] in
    let own : calls.calls_of first.records ≡ calls_of steps = calls_by 0 (calls_of steps) first.records first.by in
    let same : length (taken_of (calls.calls_of first.records)) ≡ length (staged (frames_of steps)) = ap (λ (l : List Call). length (taken_of l)) own ∙ moves_count conn [] steps first.moves in
    let all : length (staged (frames_of steps)) ≤ 110000 =
    omega (
      arith,
      few,
      all_staged 0 texts,
      ap (λ (l : List LumberFrame). length (staged l)) are,
      ap (λ (l : List Staged). length l) (staged-append (frames_of steps) (frames ++ s.0)),
      length-append (staged (frames_of steps)) (staged (frames ++ s.0)),
    ) in
    let packed = goes_packed (desk_in new_spool) x first.records [] (none_joins 0 (calls_of steps) first.records first.by) refl new_packed (subst AreSmall (sym own) small.0) (omega (arith, same, all)) first.goes in
    small_fits x.spool (taken_of (calls.calls_of first.records)) (entries_of conn (count (calls_of steps)) (staged frames)) packed.packed
    (group_small conn (count (calls_of steps)) frames (low_first frames s.0 small.1) sizes.0 sizes.1) (omega (arith, same, all))
