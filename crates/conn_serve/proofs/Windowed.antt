-- What is so of a session over a window, in any format.
use Rattle.std.proofs.Common.{◌≡◌, ℕ, ◌+◌, ◌^◌, ◌<◌, ◌≤◌, ◌∙◌, List, [], ◌∷◌, ◌++◌, Option, Some, None, length, take, drop, refl, sym, ap, subst, arith, append_assoc, length-append}
use Rattle.std.proofs.lemmas.List.{append-nil, take-append-drop}
use Rattle.std.specs.Io.KnownBytes.{IsAtEnd}
use Rattle.event_form.specs.declared.talk.Talk.{Talk}
use Rattle.event_form.specs.declared.talk.Talk.TheVariants.{Ended, Fault, Truncated, ReadFault, TooMuch, NoMemory}
use Rattle.event_form.specs.declared.talk.Why.{Why}
use Rattle.stream_grammar.specs.Framing.{AreSpelled}
use Rattle.stream_grammar.specs.Reading.{Format, Window, Keeps, ReadsTo, Reads, ReadsOn, Gives}
use Rattle.desk_access.specs.Call.{Call}
use Rattle.desk_access.specs.Protocol.{Protocol}
use Rattle.desk_access.specs.Carried.{IsOver, Carried}
use Rattle.conn_serve.specs.Front.{IsFront}
use Rattle.conn_serve.specs.Handled.{Handled, Served, Closing, ReadBy}
use Rattle.conn_serve.specs.Endings.{MayEnd}
use Rattle.conn_serve.specs.Done.{SoFar}
use Rattle.conn_serve.proofs.Fronts.{parts_of, front_of, front_fed, front_few}
use Rattle.conn_serve.proofs.Handling.{carried_unread, carried_too_much, carried_starved}

-- What holds of a format: its readings are frames at the front and then a rest, a fault stays one whatever follows,
-- and a frame has bytes.
pub record Laws {F E : Type 0} (format : Format F E) (Spells : F → List ℕ → Type 0) : Type 0 where
  pub whole_front : (b : List ℕ) (frames : List F) (at : ℕ) (rest : List ℕ) → format.IsWhole b frames at rest → IsFront Spells b frames at
  pub whole_size : (b : List ℕ) (frames : List F) (at : ℕ) (rest : List ℕ) → format.IsWhole b frames at rest → at + length rest ≡ length b
  pub faulty_front : (b : List ℕ) (frames : List F) (at : ℕ) (rest : List ℕ) (e : E) → format.IsFaulty b frames at rest e → IsFront Spells b frames at
  pub faulty_fed : (b more : List ℕ) (frames : List F) (at : ℕ) (rest : List ℕ) (e : E) → format.IsFaulty b frames at rest e → format.IsFaulty (b ++ more) frames at rest e
  pub some : (f : F) (x : List ℕ) → Spells f x → 0 < length x

-- ---- what was read

module _ {F E : Type 0} (format : Format F E) (Spells : F → List ℕ → Type 0) (laws : Laws format Spells) where
  front_all : (b : List ℕ) (frames : List F) (at : ℕ) (held : List ℕ) (fault : Option E) → ReadsTo format Keeps b frames at held fault → IsFront Spells b frames at
  front_all b frames at held None r = laws.whole_front b frames at held r
  front_all b frames at held (Some e) r = laws.faulty_front b frames at r.0 e r.1

  -- the frames given stand at the front
  pub front_given : (b : List ℕ) (given : List F) (w : Window E) → Reads format Spells b given w → (at : ℕ) × IsFront Spells b given at
  front_given b given w r =
      let i = front_all b (given ++ r.0) w.at w.rest w.fault r.2 in
      let p = parts_of Spells b given r.0 i.front i.rest i.spelled i.whole in
      (length p.front, front_of Spells b given r.0 p)

  pub given_few : (b : List ℕ) (given : List F) (w : Window E) → Reads format Spells b given w → length given ≤ length b
  given_few b given w r = let i = front_given b given w r in front_few Spells laws.some b given i.0 i.1

  none_spelled : (fs : List F) → AreSpelled Spells fs [] → fs ≡ []
  none_spelled [] s = refl
  none_spelled (f ∷ fs) s = absurd (omega (arith, laws.some f s.0 s.2, ap length s.3, length-append s.0 s.1))

  -- where no frame waits, those given are all
  pub all_given : (b : List ℕ) (given : List F) (w : Window E) → w.whole ≡ [] → Reads format Spells b given w → ReadsTo format Keeps b given w.at w.rest w.fault
  all_given b given w none r =
      let waiting = none_spelled r.0 (subst (AreSpelled Spells r.0) none r.1) in
      subst (λ (l : List F). ReadsTo format Keeps b l w.at w.rest w.fault) (ap (λ (l : List F). given ++ l) waiting ∙ append-nil given) r.2

  fault_more : (b more : List ℕ) (frames : List F) (at : ℕ) (held : List ℕ) (e : E) (o : Option E) → o ≡ Some e → ReadsTo format Keeps b frames at held o → ReadsTo format Keeps (b ++ more) frames at held o
  fault_more b more frames at held e None is r = cc
  fault_more b more frames at held e (Some d) is r = (r.0, laws.faulty_fed b more frames at r.0 d r.1, r.2)

  -- whatever comes after a fault
  pub reads_more : (b more : List ℕ) (given : List F) (w : Window E) (e : E) → w.fault ≡ Some e → Reads format Spells b given w → Reads format Spells (b ++ more) given w
  reads_more b more given w e is r = (r.0, r.1, fault_more b more (given ++ r.0) w.at w.rest e w.fault is r.2)

-- ---- what a session has served

-- How a protocol reads bytes in a format: a fault of the format has a place and a reason.
pub record Framed {F E : Type 0} (p : Protocol F) (format : Format F E) (Spells : F → List ℕ → Type 0) (place_of : E → ℕ) (why_of : E → Why) : Type 0 where
  pub laws : Laws format Spells
  pub fronts : (b : List ℕ) (frames : List F) (at : ℕ) → IsFront Spells b frames at → p.IsFront b frames at
  pub wholes : (b : List ℕ) (frames : List F) (at : ℕ) (rest : List ℕ) → format.IsWhole b frames at rest → p.IsWhole b frames at
  pub faults : (b : List ℕ) (frames : List F) (at : ℕ) (rest : List ℕ) (e : E) → format.IsFaulty b frames at rest e → p.IsFaulty b frames (place_of e) (why_of e)

-- A session's kind: its protocol, how that reads bytes, and what it says of the frames that were served.
pub record Kind (F E : Type 0) : Type 1 where
  pub protocol : Protocol F
  pub format : Format F E
  pub Spells : F → List ℕ → Type 0
  pub place_of : E → ℕ
  pub why_of : E → Why
  pub framed : Framed protocol format Spells place_of why_of
  pub Handles : List F → List Call → List ℕ → Type 0
  pub handled : (frames : List F) (calls : List Call) (text : List ℕ) → Handles frames calls text → Handled protocol frames calls text

module _ {F E : Type 0} (k : Kind F E) where
  abbrev p : Protocol F
  p = k.protocol

  abbrev format : Format F E
  format = k.format

  abbrev Spells : F → List ℕ → Type 0
  Spells = k.Spells

  abbrev framed : Framed k.protocol k.format k.Spells k.place_of k.why_of
  framed = k.framed

  abbrev Handles : List F → List Call → List ℕ → Type 0
  Handles = k.Handles

  abbrev ServedBy : Window E → Option E → List ℕ → List Call → List ℕ → Type 0
  ServedBy w fault = Served Handles (ReadBy format Spells w fault)

  -- more bytes
  pub served_fed : (old new : Window E) (fault : Option E) (piece : List ℕ) (n : ℕ) → fault ≡ old.fault → old.fault ≡ None → new.fault ≡ None → ReadsOn format Spells old (take n piece) new
      → (fed : List ℕ) (calls : List Call) (text : List ℕ) → ServedBy old fault fed calls text → ServedBy new fault (fed ++ take n piece) calls text
  served_fed old new fault piece n told sound none on fed calls text s = record { frames = s.frames; handled = s.handled; reads = record { reads = on fed s.frames s.reads.reads; told = told ∙ sound ∙ sym none } }

  -- a fault among them: all of them count, those too that come after it
  pub served_fault : (old new : Window E) (fault : Option E) (e : E) (piece : List ℕ) (n : ℕ) → new.fault ≡ Some e → (old.fault ≡ None → ReadsOn format Spells old (take n piece) new) → ((d : E) → old.fault ≡ Some d → new ≡ old)
      → (fed : List ℕ) (calls : List Call) (text : List ℕ) → ServedBy old fault fed calls text → ServedBy new (Some e) (fed ++ piece) calls text
  served_fault old new fault e piece n is on stays fed calls text s = record {
    frames = s.frames;
    handled = s.handled;
    reads = record { reads = reads old.fault refl; told = sym is };
  }
    where
      reads : (o : Option E) → old.fault ≡ o → Reads format Spells (fed ++ piece) s.frames new
      reads None none =
          let r = reads_more format Spells framed.laws (fed ++ take n piece) (drop n piece) s.frames new e is (on none fed s.frames s.reads.reads) in
          subst (λ (l : List ℕ). Reads format Spells l s.frames new) (append_assoc fed (take n piece) (drop n piece) ∙ ap (λ (l : List ℕ). fed ++ l) (take-append-drop n piece)) r
      reads (Some d) some = reads_more format Spells framed.laws fed piece s.frames new e is (subst (Reads format Spells fed s.frames) (sym (stays d some)) s.reads.reads)

  -- no more frames are served than a connection may have bytes
  pub frames_few : (w : Window E) (fault : Option E) (n more : ℕ) (s : SoFar (ServedBy w fault) n more) → length s.served.frames ≤ 2 ^ 40
  frames_few w fault n more s = omega (arith, s.short, given_few format Spells framed.laws s.bytes s.served.frames w s.served.reads.reads)

  module _ (w : Window E) (fault : Option E) (left : Option (List ℕ)) (fed : List ℕ) (calls : List Call) (text : List ℕ) (s : ServedBy w fault fed calls text) where
    abbrev h : Handled p s.frames calls text
    h = k.handled s.frames calls text s.handled

    to : w.whole ≡ [] → (told : Option E) → fault ≡ told → ReadsTo format Keeps fed s.frames w.at w.rest told
    to none told is = subst (λ (o : Option E). ReadsTo format Keeps fed s.frames w.at w.rest o) (sym s.reads.told ∙ is) (all_given format Spells framed.laws fed s.frames w none s.reads.reads)

    front : w.whole ≡ [] → fault ≡ None → p.IsFront fed s.frames w.at
    front none sound = framed.fronts fed s.frames w.at (framed.laws.whole_front fed s.frames w.at w.rest (to none None sound))

    whole : w.whole ≡ [] → fault ≡ None → p.IsWhole fed s.frames w.at
    whole none sound = framed.wholes fed s.frames w.at w.rest (to none None sound)

    size : w.whole ≡ [] → fault ≡ None → w.at + length w.rest ≡ length fed
    size none sound = framed.laws.whole_size fed s.frames w.at w.rest (to none None sound)

    closes : (over : Talk) → w.whole ≡ [] → fault ≡ None → IsOver p left fed s.frames w.at over → Closing p Handles left over fed calls text
    closes over none sound o = record { frames = s.frames; handled = s.handled; at = w.at; front = front none sound; is_over = o }

    pub closing_ended : IsAtEnd left → w.whole ≡ [] → fault ≡ None → w.rest ≡ [] → Closing p Handles left Ended fed calls text
    closing_ended out none sound empty = closes Ended none sound (out, whole none sound, omega (arith, size none sound, ap length empty))

    pub closing_truncated : IsAtEnd left → w.whole ≡ [] → fault ≡ None → 0 < length w.rest → Closing p Handles left (Truncated w.at) fed calls text
    closing_truncated out none sound some = closes (Truncated w.at) none sound (out, whole none sound, omega (arith, size none sound, some), refl)

    -- the bytes have a fault
    pub closing_faulty : (e : E) → w.whole ≡ [] → fault ≡ Some e → Closing p Handles left (Fault (k.place_of e) (k.why_of e)) fed calls text
    closing_faulty e none is =
        let r = to none (Some e) is in record {
          frames = s.frames;
          handled = s.handled;
          at = w.at;
          front = framed.fronts fed s.frames w.at (framed.laws.faulty_front fed s.frames w.at r.0 e r.1);
          is_over = framed.faults fed s.frames w.at r.0 e r.1;
        }

    pub ends_unread : w.whole ≡ [] → fault ≡ None → p.MayGiveUp h.steps h.held → Carried p left fed calls text ReadFault
    ends_unread none sound may = carried_unread p left fed s.frames w.at calls text h (front none sound) (whole none sound) may

    pub ends_too_much : w.whole ≡ [] → fault ≡ None → length fed ≡ 2 ^ 40 → p.MayGiveUp h.steps h.held → Carried p left fed calls text (TooMuch (2 ^ 40))
    ends_too_much none sound most may = carried_too_much p left fed s.frames w.at calls text h (front none sound) (whole none sound) most may

    -- no memory was found for the next frame
    pub ends_starved : (more : List ℕ) → Carried p left (fed ++ more) calls text NoMemory
    ends_starved more =
        let i = front_given format Spells framed.laws fed s.frames w s.reads.reads in
        carried_starved p left (fed ++ more) s.frames i.0 calls text h (framed.fronts (fed ++ more) s.frames i.0 (front_fed Spells fed s.frames i.0 more i.1))

    -- the front of the bytes, whatever was read after them
    pub front_more : (more : List ℕ) → (at : ℕ) × p.IsFront (fed ++ more) s.frames at
    front_more more =
        let i = front_given format Spells framed.laws fed s.frames w s.reads.reads in
        (i.0, framed.fronts (fed ++ more) s.frames i.0 (front_fed Spells fed s.frames i.0 more i.1))

    -- and the next frame that is given
    pub front_next : (more : List ℕ) (f : F) (w' : Window E) → Gives format Spells w f w' → (at : ℕ) × p.IsFront (fed ++ more) (s.frames ++ f ∷ []) at
    front_next more f w' g =
        let i = front_given format Spells framed.laws fed (s.frames ++ f ∷ []) w' (g.reads fed s.frames s.reads.reads) in
        (i.0, framed.fronts (fed ++ more) (s.frames ++ f ∷ []) i.0 (front_fed Spells fed (s.frames ++ f ∷ []) i.0 more i.1))

  -- what is held may be given up
  abbrev pub MayGiveUp : Type 0
  MayGiveUp = (frames : List F) (calls : List Call) (text : List ℕ) (handles : Handles frames calls text) → p.MayGiveUp (k.handled frames calls text handles).steps (k.handled frames calls text handles).held

  -- a connection may end here for want of more
  pub may_end : (w : Window E) (fault : Option E) → w.whole ≡ [] → fault ≡ None → MayGiveUp → MayEnd (ServedBy w fault) (Carried p)
  may_end w fault none sound may = record {
    read_fault = λ left fed calls text s. ends_unread w fault left fed calls text s none sound (may s.frames calls text s.handled);
    too_much = λ left fed calls text s most. ends_too_much w fault left fed calls text s none sound most (may s.frames calls text s.handled);
  }

-- what was read, with the next frame given
pub read_next : {F E : Type 0} (format : Format F E) (Spells : F → List ℕ → Type 0) (w w' : Window E) (fault : Option E) (f : F) → Gives format Spells w f w' → (b : List ℕ) (frames : List F) → ReadBy format Spells w fault b frames → ReadBy format Spells w' fault b (frames ++ f ∷ [])
read_next {F} {E} format Spells w w' fault f g b frames r = record { reads = g.reads b frames r.reads; told = r.told ∙ sym (ap (λ (x : Window E). x.fault) g.same) }
