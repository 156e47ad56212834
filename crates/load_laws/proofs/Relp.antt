-- A load by RELP: each event of its stream is taken, and its peer acknowledges all of them.
use Rattle.std.proofs.Common.{◌≡◌, inl, inr, ℕ, suc, ◌+◌, ◌*◌, ◌<◌, ◌≤◌, ◌^◌, Bool, true, false, ◌||◌, List, [], ◌∷◌, ◌++◌, length, flat_map, refl, sym, ◌∙◌, ap, subst, arith, append_assoc, length-append}
use Rattle.std.specs.Prelude.{codes}
use Rattle.std.proofs.lemmas.Bool.{or_parts}
use Rattle.std.proofs.lemmas.List.{append-nil, nil_from_length}
use Rattle.std.proofs.lemmas.List.Elements.{All-cons, All-nil}
use Rattle.event_form.specs.Entry.{entry_text}
use Rattle.event_form.specs.declared.event.Entry.{Entry}
use Rattle.event_form.specs.declared.event.Event.{Event}
use Rattle.event_form.proofs.Fields.{length-entry_text}
use Rattle.stream_grammar.specs.Framing.{AreSpelled}
use Rattle.stream_grammar.proofs.Streams.{spelled_append, spelled_one, spelled_strip}
use Rattle.relp_frame.specs.declared.frame.Frame.{Frame}
use Rattle.relp_frame.specs.Spelling.{IsCommand, IsEnding, IsSpelling, frame_text}
use Rattle.relp_frame.proofs.FrameLaws.{relp_machine}
use Rattle.relp_frame.proofs.WriteLaws.{canonical_spells}
use Rattle.relp_session.specs.declared.act.RelpAct.{RelpAct}
use Rattle.relp_session.specs.declared.act.RelpAct.TheVariants.{Store, Say, End}
use Rattle.relp_session.specs.declared.request.Request.{Request}
use Rattle.relp_session.specs.declared.request.Request.TheVariants.{Open, OpenOther, Syslog, Close, Other}
use Rattle.relp_session.specs.declared.state.State.{State}
use Rattle.relp_session.specs.declared.state.State.TheVariants.{Unopened, Opened, Closed}
use Rattle.relp_session.specs.Answer.{IsAnswer, act_of, event_of}
use Rattle.relp_session.specs.Request.{Asks, is_closing}
use Rattle.relp_session.specs.Session.{Steps, closed, state_after}
use Rattle.relp_session.specs.State.{IsNext, next}
use Rattle.relp_session.proofs.Table.{one_request}
use Rattle.desk_access.specs.Call.{Call, taken_of}
use Rattle.desk_access.specs.Call as calls
use Rattle.desk_access.specs.Journal.{calls_by, none_joins}
use Rattle.desk_access.specs.Protocol.{AreMoves}
use Rattle.desk_access.specs.Step.{Step, calls_of, count, frames_of}
use Rattle.desk_access.proofs.Moves.{taken_then}
use Rattle.conn_serve.specs.Front.{IsFront}
use Rattle.conn_serve.specs.Relp.{Carries, entry_of, relp}
use Rattle.load_run.specs.Load.{new_spool}
use Rattle.load_run.specs.Stream.{offers, relp_stream, syslog_frames}
use Rattle.load_run.proofs.Shorts.{AreShort}
use Rattle.ending_laws.specs.Replaying.{RelpEnds, RelpFits, relp_events}
use Rattle.bridge_parts.specs.Opened.{desk_in}
use Rattle.load_laws.proofs.Room.{AreSmall, IsSmall, goes_packed, new_packed, small_fits, small_then}

-- ---- the frames of the stream

abbrev open_frame : Frame
open_frame = record { txnr = 1; command = codes "open"; body = offers }

abbrev syslog_frame : ℕ → List ℕ → Frame
syslog_frame place text = record { txnr = place + 2; command = codes "syslog"; body = text }

abbrev close_frame : ℕ → Frame
close_frame count = record { txnr = count + 2; command = codes "close"; body = [] }

abbrev text_frames : ℕ → List (List ℕ) → List Frame
text_frames place [] = []
text_frames place (text ∷ texts) = syslog_frame place text ∷ text_frames (place + 1) texts

abbrev pub all_frames : List (List ℕ) → List Frame
all_frames texts = open_frame ∷ (text_frames 0 texts ++ close_frame (length texts) ∷ [])

length-text_frames : (place : ℕ) (texts : List (List ℕ)) → length (text_frames place texts) ≡ length texts
length-text_frames place [] = refl
length-text_frames place (text ∷ texts) = ap suc (length-text_frames (place + 1) texts)

pub length-all_frames : (texts : List (List ℕ)) → length (all_frames texts) ≡ length texts + 2
length-all_frames texts = omega (arith, length-text_frames 0 texts, length-append (text_frames 0 texts) (close_frame (length texts) ∷ []))

is_open : IsCommand (codes "open")
is_open = record { letters = (refl, (refl, (refl, (refl, tt)))); some = omega arith; few = omega arith }

is_syslog : IsCommand (codes "syslog")
is_syslog = record { letters = (refl, (refl, (refl, (refl, (refl, (refl, tt)))))); some = omega arith; few = omega arith }

is_close : IsCommand (codes "close")
is_close = record { letters = (refl, (refl, (refl, (refl, (refl, tt))))); some = omega arith; few = omega arith }

texts_spelled : (place : ℕ) (texts : List (List ℕ)) → place + length texts ≤ 100000 → AreShort texts → AreSpelled IsSpelling (text_frames place texts) (syslog_frames place texts)
texts_spelled place [] few short = refl
texts_spelled place (text ∷ texts) few short = (
  frame_text (place + 2) (codes "syslog") text,
  syslog_frames (place + 1) texts,
  canonical_spells (syslog_frame place text) (record { txnr = omega (arith, few); command = is_syslog; body = omega (arith, short.0) }),
  refl,
  texts_spelled (place + 1) texts (omega (arith, few)) short.1,
)

module _ (texts : List (List ℕ)) (few : length texts ≤ 100000) (short : AreShort texts) where
  last_spelled : IsSpelling (close_frame (length texts)) (frame_text (length texts + 2) (codes "close") [])
  last_spelled = canonical_spells (close_frame (length texts)) (record { txnr = omega (arith, few); command = is_close; body = omega arith })

  pub all_spelled : AreSpelled IsSpelling (all_frames texts) (relp_stream texts)
  all_spelled = (
    frame_text 1 (codes "open") offers,
    syslog_frames 0 texts ++ frame_text (length texts + 2) (codes "close") [],
    canonical_spells open_frame (record { txnr = omega arith; command = is_open; body = omega arith }),
    refl,
    spelled_append relp_machine (text_frames 0 texts) (close_frame (length texts) ∷ []) (syslog_frames 0 texts) (frame_text (length texts + 2) (codes "close") [])
        (texts_spelled 0 texts (omega (arith, few)) short) (spelled_one relp_machine (close_frame (length texts)) (frame_text (length texts + 2) (codes "close") []) last_spelled),
  )

-- frames at the front of bytes that are a list of frames are the first of these
pub first_frames : (b : List ℕ) (all frames : List Frame) (at : ℕ) → AreSpelled IsSpelling all b → (front : IsFront IsSpelling b frames at) → (more : List Frame) × (all ≡ frames ++ more) × AreSpelled IsSpelling more front.rest
first_frames b all frames at spelled front = spelled_strip relp_machine frames all front.front front.rest front.spelled (subst (AreSpelled IsSpelling all) front.whole spelled)

-- no bytes are no frames
pub none_spelled : (frames : List Frame) (b : List ℕ) → AreSpelled IsSpelling frames b → b ≡ [] → frames ≡ []
none_spelled [] b spelled none = refl
none_spelled (f ∷ frames) b (x, y, spells, whole, others) none =
    absurd (omega (arith, ap length none, ap length whole, ap length spells.whole, length-append x y, length-append spells.txnr (32 ∷ (f.command ++ 32 ∷ (spells.datalen ++ spells.ending)))))

-- ---- what they store

-- each has few bytes of data
abbrev pub AreLow : List Frame → Type 0
AreLow [] = Unit {0}
AreLow (f ∷ frames) = (length f.body ≤ 64) × AreLow frames

low_then : (xs ys : List Frame) → AreLow xs → AreLow ys → AreLow (xs ++ ys)
low_then [] ys low more = more
low_then (x ∷ xs) ys low more = (low.0, low_then xs ys low.1 more)

low_first : (xs ys : List Frame) → AreLow (xs ++ ys) → AreLow xs
low_first [] ys low = tt
low_first (x ∷ xs) ys low = (low.0, low_first xs ys low.1)

low_last : (xs : List Frame) (f : Frame) → AreLow (xs ++ f ∷ []) → length f.body ≤ 64
low_last [] f low = low.0
low_last (x ∷ xs) f low = low_last xs f low.1

texts_low : (place : ℕ) (texts : List (List ℕ)) → AreShort texts → AreLow (text_frames place texts)
texts_low place [] short = tt
texts_low place (text ∷ texts) short = (omega (arith, short.0), texts_low (place + 1) texts short.1)

all_low : (texts : List (List ℕ)) → AreShort texts → AreLow (all_frames texts)
all_low texts short = (omega arith, low_then (text_frames 0 texts) (close_frame (length texts) ∷ []) (texts_low 0 texts short) (omega arith, tt))

-- ---- how many bytes they are

ending_low : (body text : List ℕ) → IsEnding body text → length text ≤ length body + 2
ending_low body text (inl is) = omega (arith, ap length is, length-append body (10 ∷ []))
ending_low body text (inr is) = omega (arith, ap length is.1)

spelling_low : (f : Frame) (x : List ℕ) → length f.body ≤ 64 → IsSpelling f x → length x ≤ 120
spelling_low f x low i =
    omega (
      arith,
      low,
      ap length i.whole,
      length-append i.txnr (32 ∷ (f.command ++ 32 ∷ (i.datalen ++ i.ending))),
      length-append f.command (32 ∷ (i.datalen ++ i.ending)),
      length-append i.datalen i.ending,
      i.txnr_is.few,
      i.command_is.few,
      i.datalen_is.few,
      ending_low f.body i.ending i.ending_is,
    )

pub spelled_low : (frames : List Frame) (b : List ℕ) → AreLow frames → AreSpelled IsSpelling frames b → length b ≤ length frames * 120
spelled_low [] b low spelled = omega (arith, ap length spelled)
spelled_low (f ∷ frames) b low (x, y, spells, whole, others) =
    omega (arith, ap length whole, length-append x y, spelling_low f x low.0 spells, spelled_low frames y low.1 others)

pub length-relp_stream : (texts : List (List ℕ)) → length texts ≤ 100000 → AreShort texts → length (relp_stream texts) < 2 ^ 40
length-relp_stream texts few short = omega (arith, few, spelled_low (all_frames texts) (relp_stream texts) (all_low texts short) (all_spelled texts few short), length-all_frames texts)

-- ---- what is stored

-- an act that stores has the frame's event
stored_event : (state : State) (r : Request) (f : Frame) (event : Event) (txnr : ℕ) → Store event txnr ≡ act_of state r f → event ≡ event_of f
stored_event Unopened Open f event txnr is = cc
stored_event Unopened OpenOther f event txnr is = cc
stored_event Unopened Syslog f event txnr is = cc
stored_event Unopened Close f event txnr is = cc
stored_event Unopened Other f event txnr is = cc
stored_event Opened Open f event txnr is = cc
stored_event Opened OpenOther f event txnr is = cc
stored_event Opened Syslog f event txnr is = cc
stored_event Opened Close f event txnr is = cc
stored_event Opened Other f event txnr is = cc
stored_event Closed r f event txnr is = cc

one_small : (conn index : ℕ) (state : State) (f : Frame) (event : Event) (txnr : ℕ) → length f.body ≤ 64 → IsAnswer state f (Store event txnr) → IsSmall (entry_of conn index txnr event ∷ [])
one_small conn index state f event txnr low answer =
    let text : length event.text ≡ length f.body = ap (λ (e : Event). length e.text) (stored_event state answer.0 f event txnr answer.2) in
    record {
      some = omega arith;
      few = omega arith;
      each = All-cons (λ (e : Entry). length (entry_text e) ≤ 200) (entry_of conn index txnr event) []
          (omega (arith, low, text, length-entry_text (entry_of conn index txnr event))) (All-nil (λ (e : Entry). length (entry_text e) ≤ 200));
    }

-- the calls of moves took small groups, no more than one for each frame
record TookFew (all : List Call) (frames : List Frame) : Type 0 where
  small : AreSmall all
  few : length (taken_of all) ≤ length frames

carried_few : (conn index : ℕ) (state : State) (f : Frame) (act : RelpAct) (made : List Call) (text : List ℕ) → length f.body ≤ 64 → IsAnswer state f act → Carries conn index act made text → TookFew made (f ∷ [])
carried_few conn index state f (Store event txnr) made text low answer (receipt, is, said) =
    subst (λ (l : List Call). TookFew l (f ∷ [])) (sym is) (record { small = (one_small conn index state f event txnr low answer, tt); few = omega arith })
carried_few conn index state f (Say said) made text low answer carries = subst (λ (l : List Call). TookFew l (f ∷ [])) (sym carries.0) (record { small = tt; few = omega arith })
carried_few conn index state f (End said) made text low answer carries = absurd carries

moves_few : (conn : ℕ) (before steps : List (Step Frame)) → AreMoves (relp conn) before steps → AreLow (frames_of steps) → TookFew (calls_of steps) (frames_of steps)
moves_few conn before [] moves low = record { small = tt; few = omega arith }
moves_few conn before (s ∷ steps) moves low =
    let move = moves.0 in
    let f : Frame = move.0 in
    let parts : AreLow (f ∷ frames_of steps) = subst (λ (l : List Frame). AreLow (l ++ frames_of steps)) move.1 low in
    let here = carried_few conn (count (calls_of before)) (state_after (frames_of before)) f move.2.0 s.calls s.text parts.0 move.2.1 move.2.2 in
    let rest = moves_few conn (before ++ s ∷ []) steps moves.1 parts.1 in
    record {
      small = small_then s.calls (calls_of steps) here.small rest.small;
      few = omega (
        arith,
        here.few,
        rest.few,
        ap (λ (l : List Entry). length l) (taken_then s.calls (calls_of steps)),
        length-append (taken_of s.calls) (taken_of (calls_of steps)),
        ap (λ (l : List Frame). length l) move.1,
        length-append s.frames (frames_of steps),
      );
    }

-- the calls of the steps of a front of the stream
pub stream_few : (conn : ℕ) (texts : List (List ℕ)) (steps : List (Step Frame)) (more : List Frame) → length texts ≤ 100000 → AreShort texts → AreMoves (relp conn) [] steps → all_frames texts ≡ frames_of steps ++ more
    → AreSmall (calls_of steps) × (length (taken_of (calls_of steps)) ≤ 110000)
stream_few conn texts steps more few short moves are =
    let low = low_first (frames_of steps) more (subst AreLow are (all_low texts short)) in
    let took = moves_few conn [] steps moves low in
    (took.small, omega (arith, took.few, few, ap (λ (l : List Frame). length l) are, length-all_frames texts, length-append (frames_of steps) more))

-- the spool has room for each event of the stream
pub relp_fits : (conn : ℕ) (texts : List (List ℕ)) → length texts ≤ 100000 → AreShort texts → RelpFits conn new_spool (relp_stream texts)
relp_fits conn texts few short steps x f at event txnr first front answer =
    let strip = first_frames (relp_stream texts) (all_frames texts) (frames_of steps ++ f ∷ []) at (all_spelled texts few short) front in
    let more = strip.0 in
    let are : all_frames texts ≡ frames_of steps ++ (f ∷ more) = strip.1 ∙ append_assoc (frames_of steps) (f ∷ []) more in
    let took = stream_few conn texts steps (f ∷ more) few short first.moves are in
    let own : calls.calls_of first.records ≡ calls_of steps = calls_by 0 (calls_of steps) first.records first.by in
    let packed = goes_packed (desk_in new_spool) x first.records [] (none_joins 0 (calls_of steps) first.records first.by) refl new_packed (subst AreSmall (sym own) took.0) (omega (arith, took.1, ap (λ (l : List Call). length (taken_of l)) own)) first.goes in
    let low = low_last (frames_of steps) f (low_first (frames_of steps ++ f ∷ []) more (subst AreLow strip.1 (all_low texts short))) in
    small_fits x.spool (taken_of (calls.calls_of first.records)) (entry_of conn (count (calls_of steps)) txnr event ∷ []) packed.packed
    (one_small conn (count (calls_of steps)) (state_after (frames_of steps)) f event txnr low answer)
    (omega (arith, took.1, ap (λ (l : List Call). length (taken_of l)) own))

-- ---- all of them are taken

closing_close : (count : ℕ) → is_closing (close_frame count) ≡ true
closing_close count = refl

texts_open : (place : ℕ) (texts : List (List ℕ)) → closed (text_frames place texts) ≡ false
texts_open place [] = refl
texts_open place (text ∷ texts) = texts_open (place + 1) texts

-- frames with a `close` aren't some of those before the last one
not_before : (front frames more : List Frame) (last g : Frame) → closed front ≡ false → front ++ last ∷ [] ≡ frames ++ g ∷ more → closed frames ≡ false
not_before front [] more last g none are = refl
not_before [] (f ∷ frames) more last g none are = absurd (omega (arith, ap (λ (l : List Frame). length l) are, length-append frames (g ∷ more)))
not_before (x ∷ front) (f ∷ frames) more last g none are =
    let same : x ≡ f = cc in
    let rest : front ++ last ∷ [] ≡ frames ++ g ∷ more = cc in
    let parts = or_parts (is_closing x) (closed front) none in
    (λ i. is_closing (sym same i) || closed frames) ∙ ap (λ (b : Bool). b || closed frames) parts.0 ∙ not_before front frames more last g parts.1 rest

closed_last : (frames : List Frame) (b : Bool) → closed frames ≡ true → closed frames ≡ false → ⊥
closed_last frames b closing none = let never : true ≡ false = sym closing ∙ none in cc

-- frames at the front that end the stream, or have a `close`, are all
whole_frames : (texts : List (List ℕ)) (frames more : List Frame) → all_frames texts ≡ frames ++ more → closed frames ≡ true → more ≡ []
whole_frames texts frames [] are closing = refl
whole_frames texts frames (g ∷ more) are closing =
    absurd (closed_last frames true closing (not_before (open_frame ∷ text_frames 0 texts) frames more (close_frame (length texts)) g (texts_open 0 texts) are))

pub ends_are : (texts : List (List ℕ)) (frames : List Frame) → length texts ≤ 100000 → AreShort texts → RelpEnds (relp_stream texts) frames → frames ≡ all_frames texts
ends_are texts frames few short (at, front, ends) =
    let strip = first_frames (relp_stream texts) (all_frames texts) frames at (all_spelled texts few short) front in
    let none : strip.0 ≡ [] = elim ends [
      | inl last ↦ none_spelled strip.0 front.rest strip.2 (nil_from_length front.rest (omega (arith, last, front.ends, ap length front.whole, length-append front.front front.rest)))
      | inr closing ↦ whole_frames texts frames strip.0 strip.1 closing
    ] in
    sym (strip.1 ∙ ap (λ (l : List Frame). frames ++ l) none ∙ append-nil frames)

-- the acts of the frames from an open session on
asked : (state : State) (f : Frame) (r : Request) (act : RelpAct) → Asks f r → IsAnswer state f act → act ≡ act_of state r f
asked state f r act asks answer = answer.2 ∙ ap (λ (q : Request). act_of state q f) (one_request f answer.0 r answer.1 asks)

goes_to : (state : State) (f : Frame) (r : Request) (after : State) → Asks f r → IsNext state f after → after ≡ next state r
goes_to state f r after asks goes = goes.2 ∙ ap (next state) (one_request f goes.0 r goes.1 asks)

text_events : (place count : ℕ) (texts : List (List ℕ)) (acts : List RelpAct) → Steps Opened (text_frames place texts ++ close_frame count ∷ []) acts → length (flat_map relp_events acts) ≡ length texts
text_events place count [] [] steps = absurd steps
text_events place count [] (act ∷ []) steps = ap (λ (a : RelpAct). length (flat_map relp_events (a ∷ []))) (asked Opened (close_frame count) Close act refl steps.0)
text_events place count [] (act ∷ other ∷ acts) steps = absurd steps.1.2
text_events place count (text ∷ texts) [] steps = absurd steps
text_events place count (text ∷ texts) (act ∷ acts) (answer, (after, goes, rest)) =
    let f : Frame = syslog_frame place text in
    let open_still : after ≡ Opened = goes_to Opened f Syslog after refl goes in
    let here : length (relp_events act) ≡ 1 = ap (λ (a : RelpAct). length (relp_events a)) (asked Opened f Syslog act refl answer) in
    let others = text_events (place + 1) count texts acts (subst (λ (s : State). Steps s (text_frames (place + 1) texts ++ close_frame count ∷ []) acts) open_still rest) in
    omega (arith, here, others, length-append (relp_events act) (flat_map relp_events acts))

pub all_events : (texts : List (List ℕ)) (acts : List RelpAct) → Steps Unopened (all_frames texts) acts → length (flat_map relp_events acts) ≡ length texts
all_events texts [] steps = absurd steps
all_events texts (act ∷ acts) (answer, (after, goes, rest)) =
    let open_now : after ≡ Opened = goes_to Unopened open_frame Open after (refl, refl) goes in
    let here : length (relp_events act) ≡ 0 = ap (λ (a : RelpAct). length (relp_events a)) (asked Unopened open_frame Open act (refl, refl) answer) in
    let others = text_events 0 (length texts) texts acts (subst (λ (s : State). Steps s (text_frames 0 texts ++ close_frame (length texts) ∷ []) acts) open_now rest) in
    omega (arith, here, others, length-append (relp_events act) (flat_map relp_events acts))
