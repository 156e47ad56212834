-- A load by each protocol comes to its numbers, unless no memory is found.
use Rattle.std.proofs.Common.{◌≡◌, inl, ℕ, ◌≤◌, ◌^◌, List, [], ◌++◌, length, flat_map, refl, sym, ◌∙◌, ap, subst, arith}
use Rattle.std.specs.Prelude.{Option, Some}
use Rattle.std.proofs.lemmas.List.{append-nil, length-map}
use Rattle.event_form.specs.declared.event.Event.{Event}
use Rattle.event_form.specs.declared.event.Entry.{Entry}
use Rattle.event_form.specs.declared.talk.Talk.{Talk}
use Rattle.edge_io.specs.declared.proto.Proto.{Proto}
use Rattle.edge_io.specs.declared.proto.Proto.TheVariants.{Relp, Lumberjack, Hec}
use Rattle.http_edge.specs.HttpStream.{items_of}
use Rattle.relp_frame.specs.declared.frame.Frame.{Frame}
use Rattle.relp_frame.specs.Spelling.{IsSpelling}
use Rattle.lumber_frame.specs.declared.frame.LumberFrame.{LumberFrame}
use Rattle.lumber_frame.specs.declared.side.Side.TheVariants.{Receiver}
use Rattle.lumber_frame.specs.Spelling.{Spells}
use Rattle.lumber_session.specs.Staged.{Staged, staged}
use Rattle.relp_session.specs.declared.state.State.TheVariants.{Unopened}
use Rattle.relp_session.specs.Session.{Steps}
use Rattle.spool_state.specs.Left.{NumberedEntry, left}
use Rattle.desk_access.specs.Call.{taken_of}
use Rattle.desk_access.specs.Desk.{DeskState}
use Rattle.desk_access.specs.Step.{calls_of as calls_in, count, frames_of}
use Rattle.conn_serve.specs.Front.{IsFront}
use Rattle.conn_serve.specs.RunsOfOne.{RunsOfOne}
use Rattle.load_run.specs.Events.{load_texts}
use Rattle.load_run.specs.Load.{IsReplayed, new_spool}
use Rattle.load_run.specs.Runs.{replay_as, settings, terms, tokens}
use Rattle.load_run.specs.Stream.{hec_stream, lumber_stream, relp_stream}
use Rattle.load_run.proofs.Shorts.{AreShort, length-texts, texts_short}
use Rattle.ending_laws.specs.Draining.{pending}
use Rattle.ending_laws.proofs.Endings.{Kept, none_failed}
use Rattle.ending_laws.proofs.Hec.{hec_allowed}
use Rattle.ending_laws.proofs.Lumber.{lumber_allowed, lumber_took}
use Rattle.ending_laws.proofs.Relp.{relp_allowed, relp_took}
use Rattle.load_laws.proofs.Hec.{hec_fits, hec_took}
use Rattle.load_laws.proofs.HecItems.{AreTexts, all_requests, length-hec_stream, stream_ends, texts_are}
use Rattle.load_laws.proofs.HecLight.{small_light}
use Rattle.load_laws.proofs.HecPeer.{hec_answers, length-successes}
use Rattle.load_laws.proofs.Lumber as lumber
use Rattle.load_laws.proofs.Lumber.{front_small, last_small, length-lumber_stream, lumber_fits}
use Rattle.load_laws.proofs.LumberPeer.{length-window_acks, lumber_answers}
use Rattle.load_laws.proofs.Relp.{all_events, all_frames, all_spelled, ends_are, length-relp_stream, relp_fits, stream_few}
use Rattle.load_laws.proofs.RelpPeer.{length-relp_replies, relp_answers}
use Rattle.load_laws.proofs.Room.{AreSmall, small_then}
use Rattle.load_laws.proofs.Sure.{CanLoad, Holds, Replayed, holds, nowhere, reaches}

-- ---- RELP

pending_many : (n : ℕ) (x : DeskState) → Holds n x → length (pending x.spool) ≡ n
pending_many n x h = length-map (left x.spool) (λ (one : NumberedEntry). one.entry) ∙ h.left_is

module _ (number n : ℕ) (few : n ≤ 100000) where
  texts : List (List ℕ)
  texts = load_texts 0 number n

  many : length texts ≡ n
  unfolding texts
  many = length-texts 0 number n

  shorts : AreShort texts
  unfolding texts
  shorts = texts_short 0 number n (omega (arith, few))

  relp_replayed : RunsOfOne → (taken : ℕ) (talk : Talk) (text : List ℕ) (x : DeskState) → IsReplayed Relp number n (replay_as taken talk text) x → (talk ≡ Talk.DiskFault → ⊥) → (talk ≡ Talk.WriteFault → ⊥) → Replayed n taken talk x
  unfolding texts
  relp_replayed ones taken talk text x is disk write =
      let r = is.replays in
      let some : length texts ≤ 100000 = omega (arith, many, few) in
      let stream = relp_stream texts in
      let left : Option (List ℕ) = Some r.behind in
      let k : Kept left stream r.bytes = record { more = r.behind; left_is = refl; joined = r.whole } in
      let reached = reaches new_spool r.calls x r.made in
      let c = ones.carried (2 ^ 32) left r.bytes r.calls text talk r.carried in
      let none = none_failed Relp terms (2 ^ 32) left r.bytes r.calls text talk r.carried disk write in
      let front : IsFront IsSpelling stream (all_frames texts) (length stream) = record { front = stream; rest = []; spelled = all_spelled texts some shorts; ends = refl; whole = sym (append-nil stream) } in
      record {
        allowed = relp_allowed (2 ^ 32) tokens new_spool nowhere left stream r.bytes r.calls text talk c reached k none (all_frames texts) (length stream, front, inl refl)
            (relp_fits (2 ^ 32) texts some shorts) (length-relp_stream texts some shorts);
        all = λ done.
            let t = relp_took (2 ^ 32) tokens new_spool nowhere left stream r.bytes r.calls text talk c reached k none done in
            let steps = c.steps in
            let same = ends_are texts (frames_of steps ++ t.tail) some shorts t.ends in
            let events = all_events texts t.acts (subst (λ (l : List Frame). Steps Unopened l t.acts) same t.are) in
            let took : length (taken_of r.calls) ≡ n = sym (length-map (taken_of r.calls) (λ (e : Entry). e.event)) ∙ ap (λ (l : List Event). length l) t.own ∙ events ∙ many in
            let small = (stream_few (2 ^ 32) texts steps t.tail some shorts c.each (sym same)).0 in
            (r.counted ∙ took, holds r.calls x n r.made (subst AreSmall (sym t.only) small) took (omega (arith, few)));
      }

  pub relp_can : RunsOfOne → CanLoad Relp number n
  relp_can ones = record {
    replayed = relp_replayed ones;
    answers = λ x h. relp_answers (pending x.spool) n (pending_many n x h) few;
    short = length-relp_replies n few;
  }

-- ---- Lumberjack

module _ (number n : ℕ) (few : n ≤ 100000) where
  lumber_texts : List (List ℕ)
  lumber_texts = load_texts 0 number n

  lumber_many : length lumber_texts ≡ n
  unfolding lumber_texts
  lumber_many = length-texts 0 number n

  lumber_shorts : AreShort lumber_texts
  unfolding lumber_texts
  lumber_shorts = texts_short 0 number n (omega (arith, few))

  lumber_replayed : (taken : ℕ) (talk : Talk) (text : List ℕ) (x : DeskState) → IsReplayed Lumberjack number n (replay_as taken talk text) x → (talk ≡ Talk.DiskFault → ⊥) → (talk ≡ Talk.WriteFault → ⊥) → Replayed n taken talk x
  unfolding lumber_texts
  lumber_replayed taken talk text x is disk write =
      let r = is.replays in
      let c = r.carried in
      let some : length lumber_texts ≤ 100000 = omega (arith, lumber_many, few) in
      let stream = lumber_stream 0 lumber_texts in
      let left : Option (List ℕ) = Some r.behind in
      let k : Kept left stream r.bytes = record { more = r.behind; left_is = refl; joined = r.whole } in
      let reached = reaches new_spool r.calls x r.made in
      let none = none_failed Lumberjack terms (2 ^ 32) left r.bytes r.calls text talk c disk write in
      let ends = lumber.all_spelled 0 lumber_texts lumber_shorts in
      record {
        allowed = lumber_allowed (2 ^ 32) tokens new_spool nowhere left stream r.bytes r.calls text talk c reached k none (lumber.all_frames 0 lumber_texts) ends
            (lumber_fits (2 ^ 32) lumber_texts some lumber_shorts) (omega (arith, some, length-lumber_stream 0 lumber_texts lumber_shorts));
        all = λ done.
            let t = lumber_took (2 ^ 32) tokens new_spool nowhere left stream r.bytes r.calls text talk c reached k none done in
            let frames = frames_of c.steps ++ c.held in
            let front : IsFront (Spells Receiver) stream frames (length stream) = record { front = stream; rest = []; spelled = t.spelled; ends = refl; whole = sym (append-nil stream) } in
            let s = lumber.first_frames stream (lumber.all_frames 0 lumber_texts) frames (length stream) ends front in
            let same : lumber.all_frames 0 lumber_texts ≡ frames = s.1 ∙ ap (λ (l : List LumberFrame). frames ++ l) (lumber.none_spelled s.0 s.2) ∙ append-nil frames in
            let took : length (taken_of r.calls) ≡ n =
            sym (length-map (taken_of r.calls) (λ (e : Entry). e.event)) ∙ ap (λ (l : List Event). length l) t.own ∙ length-map (staged frames) (λ (one : Staged). one.event)
            ∙ ap (λ (l : List LumberFrame). length (staged l)) (sym same) ∙ lumber.all_staged 0 lumber_texts ∙ lumber_many in
            let small = front_small (2 ^ 32) lumber_texts c.steps c.held lumber_shorts c.each same in
            let last = last_small (2 ^ 32) (count (calls_in c.steps)) (frames_of c.steps) c.held c.late c.part small.1 c.kept t.last in
            (r.counted ∙ took, holds r.calls x n r.made (subst AreSmall (sym c.made) (small_then (calls_in c.steps) c.late small.0 last)) took (omega (arith, few)));
      }

  pub lumber_can : CanLoad Lumberjack number n
  lumber_can = record {
    replayed = lumber_replayed;
    answers = λ x h. lumber_answers (pending x.spool) n (pending_many n x h);
    short = length-window_acks n few;
  }

-- ---- the collector's protocol

module _ (number n : ℕ) (few : n ≤ 100000) where
  hec_texts : List (List ℕ)
  hec_texts = load_texts 0 number n

  hec_many : length hec_texts ≡ n
  unfolding hec_texts
  hec_many = length-texts 0 number n

  are_texts : AreTexts hec_texts
  unfolding hec_texts
  are_texts = texts_are 0 number n (omega (arith, few))

  hec_replayed : (taken : ℕ) (talk : Talk) (text : List ℕ) (x : DeskState) → IsReplayed Hec number n (replay_as taken talk text) x → (talk ≡ Talk.DiskFault → ⊥) → (talk ≡ Talk.WriteFault → ⊥) → Replayed n taken talk x
  unfolding hec_texts
  hec_replayed taken talk text x is disk write =
      let r = is.replays in
      let c = r.carried in
      let some : length hec_texts ≤ 100000 = omega (arith, hec_many, few) in
      let stream = hec_stream hec_texts in
      let left : Option (List ℕ) = Some r.behind in
      let k : Kept left stream r.bytes = record { more = r.behind; left_is = refl; joined = r.whole } in
      let reached = reaches new_spool r.calls x r.made in
      let none = none_failed Hec terms (2 ^ 32) left r.bytes r.calls text talk c disk write in
      record {
        allowed = hec_allowed (2 ^ 32) tokens new_spool nowhere left stream r.bytes r.calls text talk c reached k none (flat_map items_of (all_requests hec_texts)) (stream_ends hec_texts are_texts)
            (hec_fits (2 ^ 32) hec_texts some are_texts) (omega (arith, some, length-hec_stream hec_texts are_texts));
        all = λ done.
            let t = hec_took (2 ^ 32) left hec_texts r.bytes r.calls text talk c k are_texts done in
            let took : length (taken_of r.calls) ≡ n = t.many ∙ hec_many in
            (r.counted ∙ took, holds r.calls x n r.made t.small took (omega (arith, few)));
      }

  pub hec_can : CanLoad Hec number n
  hec_can = record {
    replayed = hec_replayed;
    answers = λ x h. hec_answers settings (pending x.spool) n (pending_many n x h) (small_light (pending x.spool) h.small);
    short = length-successes n few;
  }

-- ---- each of them

pub can_load : RunsOfOne → (proto : Proto) (number n : ℕ) → n ≤ 100000 → CanLoad proto number n
can_load ones Relp number n few = relp_can number n few ones
can_load ones Lumberjack number n few = lumber_can number n few
can_load ones Hec number n few = hec_can number n few
