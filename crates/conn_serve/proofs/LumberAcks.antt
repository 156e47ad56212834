-- The text of a Lumberjack connection is the acknowledgments of the groups taken.
use Rattle.std.proofs.Common.{◌≡◌, inl, inr, ℕ, ◌+◌, ◌<◌, ◌^◌, ◌∙◌, List, [], ◌∷◌, ◌++◌, Option, map, length, drop, refl, sym, ap, subst, arith, append_assoc}
use Rattle.std.specs.Prelude.{Ok, Err}
use Rattle.std.specs.List.{All}
use Rattle.std.proofs.lemmas.List.{append-nil, take-append-drop}
use Rattle.std.proofs.lemmas.List.Elements.{All-nil, All-cons, All-append, All-head, All-tail}
use Rattle.edge_io.specs.declared.proto.Proto.TheVariants.{Lumberjack}
use Rattle.event_form.specs.declared.talk.Talk.{Talk}
use Rattle.event_form.specs.declared.talk.Talk.TheVariants.{Ended, Closed, Fault, Truncated, Full, TooLarge, Busy, Spent, NoMore, TooMuch, ReadFault, WriteFault, DiskFault, NotSpool, NoMemory}
use Rattle.spool_answers.specs.declared.receipt.Receipt.{Receipt}
use Rattle.spool_faults.specs.declared.fault.TakeFault.{TakeFault}
use Rattle.lumber_frame.specs.declared.frame.LumberFrame.{LumberFrame}
use Rattle.lumber_frame.specs.declared.frame.LumberFrame.TheVariants.{Ack}
use Rattle.lumber_frame.specs.declared.side.Side.TheVariants.{Sender}
use Rattle.lumber_frame.specs.Spelling.{Spells, ack_text}
use Rattle.lumber_frame.proofs.FrameLaws.{lumber}
use Rattle.lumber_frame.proofs.WriteLaws.{written_spells}
use Rattle.lumber_session.specs.Staged.{Staged, staged}
use Rattle.lumber_session.specs.Acts.{last_seq}
use Rattle.lumber_session.specs.Batches.{IsBatch}
use Rattle.stream_grammar.specs.Framing.{AreSpelled}
use Rattle.stream_grammar.proofs.Streams.{spelled_strip}
use Rattle.desk_access.specs.Call.{Call, takes}
use Rattle.desk_access.specs.Step.{Step, frames_of, calls_of, text_of, count}
use Rattle.desk_access.specs.Carried.{Carried, EndsAtMove, Ending}
use Rattle.desk_access.specs.Protocol.{AreMoves, IsNothing}
use Rattle.conn_serve.specs.Relp.{talk_of}
use Rattle.conn_serve.specs.Lumber.{lumberjack, entries_of, EndsAtBatch, StoresLast}
use Rattle.conn_serve.specs.Groups.{last_unit}
use Rattle.conn_serve.specs.Acked.{Acknowledges, AreOfFirst, acks_of, AcksAreOfGroups}
use Rattle.conn_serve.proofs.Grouping.{Told, told_none, told_refused, told_taken, told_then, of_first}
use Rattle.conn_serve.proofs.Batching.{entries_count, some_staged}
use Rattle.desk_access.proofs.Moves.{ending_cases}

-- a number of four bytes
abbrev Low : ℕ → Type 0
Low n = n < 2 ^ 32

-- the calls took the groups of these numbers, and the text and what would have followed are their acknowledgments
record Acks (calls : List Call) (text : List ℕ) : Type 0 where
  numbers : List ℕ
  behind : List ℕ
  low : All Low numbers
  told : Told numbers calls
  whole : text ++ behind ≡ acks_of numbers

-- the same where nothing would have followed
record WholeAcks (calls : List Call) (text : List ℕ) : Type 0 where
  numbers : List ℕ
  low : All Low numbers
  told : Told numbers calls
  whole : text ≡ acks_of numbers

acks_then : (xs ys : List ℕ) → acks_of (xs ++ ys) ≡ acks_of xs ++ acks_of ys
acks_then [] ys = refl
acks_then (x ∷ xs) ys = ap (λ (l : List ℕ). ack_text x ++ l) (acks_then xs ys) ∙ sym (append_assoc (ack_text x) (acks_of xs) (acks_of ys))

last_unit_of : (conn index : ℕ) (xs : List Staged) → last_unit (entries_of conn index xs) ≡ last_seq xs
last_unit_of conn index [] = refl
last_unit_of conn index (x ∷ []) = refl
last_unit_of conn index (x ∷ y ∷ xs) = last_unit_of conn (index + 1) (y ∷ xs)

-- a batch was taken
took : (conn index : ℕ) (events : List Staged) (receipt : Receipt) (calls : List Call) → 0 < length events → calls ≡ takes (entries_of conn index events) (Ok receipt) ∷ [] → Told (last_seq events ∷ []) calls
took conn index events receipt calls some is =
    subst (λ (n : ℕ). Told (n ∷ []) calls) (last_unit_of conn index events) (told_taken calls (entries_of conn index events) receipt (omega (arith, some, entries_count conn index events)) is)

one_group : (conn index : ℕ) (events : List Staged) (receipt : Receipt) (calls : List Call) (text behind : List ℕ) → 0 < length events → Low (last_seq events) → calls ≡ takes (entries_of conn index events) (Ok receipt) ∷ [] → text ++ behind ≡ ack_text (last_seq events) → Acks calls text
one_group conn index events receipt calls text behind some low is whole = record {
  numbers = last_seq events ∷ [];
  behind = behind;
  low = All-cons Low (last_seq events) [] low (All-nil Low);
  told = took conn index events receipt calls some is;
  whole = whole ∙ sym (append-nil (ack_text (last_seq events)));
}

batch_some : (before frames : List LumberFrame) → IsBatch before frames → 0 < length (staged frames)
batch_some before frames i = subst (λ (l : List LumberFrame). 0 < length (staged l)) (sym i.whole) (some_staged before i.front i.last i.ends)

steps_acks : (conn : ℕ) (before steps : List (Step LumberFrame)) → AreMoves (lumberjack conn) before steps → WholeAcks (calls_of steps) (text_of steps)
steps_acks conn before [] m = record { numbers = []; low = All-nil Low; told = told_none [] refl; whole = refl }
steps_acks conn before (s ∷ steps) m =
    let index = count (calls_of before) in
    let events = staged s.frames in
    let seq = last_seq events in
    let stores = m.0.1 in
    let rest = steps_acks conn (before ++ s ∷ []) steps m.1 in record {
      numbers = seq ∷ rest.numbers;
      low = All-cons Low seq rest.numbers stores.3 rest.low;
      told = told_then (seq ∷ []) rest.numbers s.calls (calls_of steps) (took conn index events stores.0 s.calls (batch_some (frames_of before) s.frames m.0.0) stores.1) rest.told;
      whole = ap (λ (l : List ℕ). l ++ text_of steps) stores.2 ∙ ap (λ (l : List ℕ). ack_text seq ++ l) rest.whole;
    }

none_taken : (late : List Call) (part : List ℕ) → Told [] late → part ≡ [] → Acks late part
none_taken late part told none = record { numbers = []; behind = []; low = All-nil Low; told = told; whole = append-nil part ∙ none }

nothing : (late : List Call) (part : List ℕ) → IsNothing late part → Acks late part
nothing late part n = none_taken late part (told_none late n.0) n.1

last_acks : (conn index : ℕ) (events : List Staged) (late : List Call) (part : List ℕ) → StoresLast conn index events late part → Acks late part
last_acks conn index [] late part s = nothing late part s
last_acks conn index (e ∷ more) late part s = one_group conn index (e ∷ more) s.0 late part [] (omega arith) s.3 s.1 (append-nil part ∙ s.2)

refused : (conn index : ℕ) (events : List Staged) (late : List Call) (part : List ℕ) (talk : Talk) → (fault : TakeFault) × (late ≡ takes (entries_of conn index events) (Err fault) ∷ []) × (talk ≡ talk_of fault) × (part ≡ []) → Acks late part
refused conn index events late part talk r = none_taken late part (told_refused late (entries_of conn index events) r.0 r.1) r.3

batch_acks : (conn index : ℕ) (events : List Staged) (late : List Call) (part : List ℕ) (talk : Talk) → 0 < length events → EndsAtBatch conn index events late part talk → Acks late part
batch_acks conn index events late part WriteFault some e =
    let text = ack_text (last_seq events) in
    one_group conn index events e.0 late part (drop e.1 text) some e.5 e.2 (ap (λ (l : List ℕ). l ++ drop e.1 text) e.4 ∙ take-append-drop e.1 text)
batch_acks conn index events late part Ended some e = refused conn index events late part Ended e
batch_acks conn index events late part Closed some e = refused conn index events late part Closed e
batch_acks conn index events late part (Fault place why) some e = refused conn index events late part (Fault place why) e
batch_acks conn index events late part (Truncated place) some e = refused conn index events late part (Truncated place) e
batch_acks conn index events late part (Full need room) some e = refused conn index events late part (Full need room) e
batch_acks conn index events late part (TooLarge need most) some e = refused conn index events late part (TooLarge need most) e
batch_acks conn index events late part (Busy held) some e = refused conn index events late part (Busy held) e
batch_acks conn index events late part (Spent end) some e = refused conn index events late part (Spent end) e
batch_acks conn index events late part (NoMore run) some e = refused conn index events late part (NoMore run) e
batch_acks conn index events late part (TooMuch place) some e = refused conn index events late part (TooMuch place) e
batch_acks conn index events late part ReadFault some e = refused conn index events late part ReadFault e
batch_acks conn index events late part DiskFault some e = refused conn index events late part DiskFault e
batch_acks conn index events late part (NotSpool place) some e = refused conn index events late part (NotSpool place) e
batch_acks conn index events late part NoMemory some e = refused conn index events late part NoMemory e

module _ (conn : ℕ) (left : Option (List ℕ)) (b : List ℕ) (steps : List (Step LumberFrame)) (held : List LumberFrame) (at : ℕ) (late : List Call) (part : List ℕ) where
  move_acks : (talk : Talk) → EndsAtMove (lumberjack conn) left b steps held at late part talk → Acks late part
  move_acks talk (inl e) = let stops = e.3 in batch_acks conn (count (calls_of steps)) (staged (held ++ e.0 ∷ [])) late part talk (batch_some (frames_of steps) (held ++ e.0 ∷ []) stops.0) stops.1
  move_acks talk (inr e) = let stops = e.2 in batch_acks conn (count (calls_of steps)) (staged held) late part talk stops.0 stops.1

  end_acks : (talk : Talk) → Ending (lumberjack conn) left b steps held at late part talk → Acks late part
  end_acks talk e = ending_cases (lumberjack conn) left b steps held at late part (λ _. Acks late part) (λ _ m. last_acks conn (count (calls_of steps)) (staged held) late part m) (λ _ n. nothing late part n) move_acks talk e

-- all that a connection says
said : (conn : ℕ) (left : Option (List ℕ)) (b : List ℕ) (calls : List Call) (text : List ℕ) (talk : Talk) → Carried (lumberjack conn) left b calls text talk → Acks calls text
said conn left b calls text talk c =
    let first = steps_acks conn [] c.steps c.each in
    let last = end_acks conn left b c.steps c.held c.at c.late c.part talk c.ending in record {
      numbers = first.numbers ++ last.numbers;
      behind = last.behind;
      low = All-append Low first.numbers last.numbers first.low last.low;
      told = subst (Told (first.numbers ++ last.numbers)) (sym c.made) (told_then first.numbers last.numbers (calls_of c.steps) c.late first.told last.told);
      whole = ap (λ (l : List ℕ). l ++ last.behind) c.wrote ∙ append_assoc (text_of c.steps) c.part last.behind ∙ ap (λ (l : List ℕ). l ++ (c.part ++ last.behind)) first.whole ∙ ap (λ (l : List ℕ). acks_of first.numbers ++ l) last.whole ∙ sym (acks_then first.numbers last.numbers);
    }

pub acks_are_of_groups : AcksAreOfGroups
acks_are_of_groups conn left b calls text talk c =
    let s = said conn left b calls text talk c in
    (s.behind, s.told.some, s.whole ∙ ap acks_of s.told.own)

abbrev acks : List ℕ → List LumberFrame
acks numbers = map (λ seq. Ack seq) numbers

acks_spelled : (numbers : List ℕ) → All Low numbers → AreSpelled (Spells Sender) (acks numbers) (acks_of numbers)
acks_spelled [] low = refl
acks_spelled (n ∷ ns) low = (ack_text n, acks_of ns, (tt, written_spells (Ack n) (ack_text n) (All-head Low n ns low) refl), refl, acks_spelled ns (All-tail Low n ns low))

-- acknowledgments before others are of the first numbers
acks_split : (numbers all : List ℕ) (more : List LumberFrame) → acks all ≡ acks numbers ++ more → (rest : List ℕ) × (all ≡ numbers ++ rest)
acks_split [] all more e = (all, refl)
acks_split (n ∷ ns) [] more e = cc
acks_split (n ∷ ns) (m ∷ ms) more e =
    let first : m ≡ n = cc in
    let behind : acks ms ≡ acks ns ++ more = cc in
    let r = acks_split ns ms more behind in
    (r.0, ap (λ (k : ℕ). k ∷ ms) first ∙ ap (λ (l : List ℕ). n ∷ l) r.1)

-- what is acknowledged was taken
pub lumber_acked : (conn : ℕ) (left : Option (List ℕ)) (b : List ℕ) (calls : List Call) (text : List ℕ) (talk : Talk) → Carried (lumberjack conn) left b calls text talk → (numbers : List ℕ) → Acknowledges Lumberjack text numbers → AreOfFirst Lumberjack calls numbers
lumber_acked conn left b calls text talk c numbers (front, rest, spelled, whole) =
    let s = said conn left b calls text talk c in
    let same : acks_of s.numbers ≡ front ++ (rest ++ s.behind) = sym s.whole ∙ ap (λ (l : List ℕ). l ++ s.behind) whole ∙ append_assoc front rest s.behind in
    let all = subst (AreSpelled (Spells Sender) (acks s.numbers)) same (acks_spelled s.numbers s.low) in
    let cut = spelled_strip (lumber Sender) (acks numbers) (acks s.numbers) front (rest ++ s.behind) spelled all in
    let split = acks_split numbers s.numbers cut.0 cut.1 in
    of_first Lumberjack calls numbers split.0 (subst (λ (l : List ℕ). Told l calls) split.1 s.told)
