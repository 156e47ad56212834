-- A connection from its first byte on.
use Rattle.std.proofs.Common.{◌≡◌, ℕ, ◌+◌, ◌<◌, ◌≤◌, ◌^◌, List, [], ◌++◌, Option, length, take, refl, sym, subst, arith, length-append, length-take}
use Rattle.std.proofs.lemmas.List.{append-nil}
use Rattle.edge_io.proofs.Known.{appends_none, appends_then, appends_keeps, consumes_none, consumes_then, consumes_keeps}
use Rattle.std.specs.Io.KnownBytes.{Appends, Consumes, Keeps}
use Rattle.event_form.specs.declared.talk.Attended.{Attended}
use Rattle.event_form.specs.declared.talk.Talk.{Talk}
use Rattle.lumber_frame.proofs.BytesLaws.{IsBytes-append}
use Rattle.desk_access.specs.Call.{Call}
use Rattle.desk_access.specs.Step.{count}
use Rattle.desk_access.proofs.Moves.{count_then}
use Rattle.conn_serve.specs.Done.{AreBytes, Done, Leads, LeadsOn, SoFar, Told, told, Turn}
use Rattle.conn_serve.specs.Serves.{Serves}
use Rattle.conn_serve.proofs.Leading.{leads_start}

no_bytes : AreBytes []
no_bytes i = let few : 0 < 256 = omega arith in few

-- So many bytes were read since the beginning, calls made and a text written; of these this is so.
pub record Progress (Served : List ℕ → List Call → List ℕ → Type 0) (start now : Told) (ran : List Call → Type 0) (taken total : ℕ) : Type 0 where
  pub bytes : List ℕ
  pub calls : List Call
  pub text : List ℕ
  pub read : Appends start.given now.given bytes
  pub consumed : Consumes start.left now.left bytes
  pub are_bytes : AreBytes bytes
  pub wrote : Appends start.written now.written text
  pub made : ran calls
  pub counted : taken ≡ count calls
  pub sized : length bytes ≡ total
  pub served : Served bytes calls text

pub progress_start : (Served : List ℕ → List Call → List ℕ → Type 0) (start : Told) (ran : List Call → Type 0) (taken : ℕ) → ran [] → taken ≡ 0 → Served [] [] [] → Progress Served start start ran taken 0
progress_start Served start ran taken none zero served = record {
  bytes = [];
  calls = [];
  text = [];
  read = appends_none start.given;
  consumed = consumes_none start.left;
  are_bytes = no_bytes;
  wrote = appends_none start.written;
  made = none;
  counted = zero;
  sized = refl;
  served = served;
}

-- all that was done so far, said of the same number
pub so_far_of : (Served : ℕ → List ℕ → List Call → List ℕ → Type 0) (start now : Told) (ran : List Call → Type 0) (taken total more k number : ℕ) → k ≡ number → total + more ≤ 2 ^ 40 → Progress (Served number) start now ran taken total → SoFar (Served k) taken more
so_far_of Served start now ran taken total more k number same most p = record { bytes = p.bytes; calls = p.calls; text = p.text; counted = p.counted; short = omega (arith, most, p.sized); served = subst (λ (n : ℕ). Served n p.bytes p.calls p.text) (sym same) p.served }

-- the connection has ended so
pub serves : (Carried : Option (List ℕ) → List ℕ → List Call → List ℕ → Talk → Type 0) (start now : Told) (ran : List Call → Type 0) (taken total : ℕ) (talk : Talk)
    → Progress (λ bytes calls text. Carried now.left bytes calls text talk) start now ran taken total → Serves Carried start.given now.given start.left now.left start.written now.written ran (record { talk = talk; taken = taken })
serves Carried start now ran taken total talk p = record { bytes = p.bytes; calls = p.calls; text = p.text; read = p.read; consumed = p.consumed; are_bytes = p.are_bytes; wrote = p.wrote; made = p.made; counted = p.counted; carried = p.served }

-- at its beginning
pub serves_none : (Carried : Option (List ℕ) → List ℕ → List Call → List ℕ → Talk → Type 0) (now : Told) (ran : List Call → Type 0) (talk : Talk) → ran [] → Carried now.left [] [] [] talk
    → Serves Carried now.given now.given now.left now.left now.written now.written ran (record { talk = talk; taken = 0 })
serves_none Carried now ran talk none carried = serves Carried now now ran 0 0 talk (progress_start (λ bytes calls text. Carried now.left bytes calls text talk) now ran 0 none refl carried)

-- a read failed
pub turn_unread : (ran : List Call → Type 0) (given given' left left' written written' : Option (List ℕ)) (n : ℕ) (Served Carried : List ℕ → List Call → List ℕ → Type 0) → ran [] → Keeps given given' → Keeps left left' → written' ≡ written
    → ((fed : List ℕ) (calls : List Call) (text : List ℕ) → Served fed calls text → Carried fed calls text) → Turn ran (told given left written) (told given' left' written') n n (λ piece calls text. LeadsOn n piece Served Carried calls text)
turn_unread ran given given' left left' written written' n Served Carried none kept rest same on = record {
  piece = [];
  calls = [];
  text = [];
  read = appends_keeps given given given' [] (appends_none given) kept;
  consumed = consumes_keeps left left left' [] (consumes_none left) rest;
  are_bytes = no_bytes;
  wrote = subst (λ (o : Option (List ℕ)). Appends written o []) (sym same) (appends_none written);
  made = none;
  counted = omega arith;
  is = λ fed called said counted served. subst (λ (l : List ℕ). Carried l (called ++ []) (said ++ [])) (sym (append-nil fed)) (leads_start n Carried fed called said counted (on fed called said served));
}

-- The first bytes of a buffer are a piece of at most so many.
pub piece_few : (len most : ℕ) (l : List ℕ) → len ≤ most → length (take len l) ≤ most
piece_few len most l few = omega (arith, few, length-take len l)

pub piece_fits : (x len most limit : ℕ) (l : List ℕ) → len ≤ most → x + most ≤ limit → x + length (take len l) ≤ limit
piece_fits x len most limit l few fits = omega (arith, few, fits, length-take len l)

pub piece_adds : (x y len : ℕ) (l : List ℕ) → x ≤ y + length (take len l) → x ≤ y + len
piece_adds x y len l more = omega (arith, more, length-take len l)

pub piece_size : (len : ℕ) (l : List ℕ) → len ≤ length l → length (take len l) ≡ len
piece_size len l fits = omega (arith, fits, length-take len l)

-- a piece was read, and this was done with it
pub turn_read : (ran : List Call → Type 0) (given given' given'' left left' left'' written written' written'' : Option (List ℕ)) (n n' : ℕ) (piece : List ℕ) (Is : List ℕ → List Call → List ℕ → Type 0)
    → Appends given given' piece → given'' ≡ given' → Consumes left left' piece → left'' ≡ left' → AreBytes piece → written' ≡ written → Done ran written' written'' n n' (Is piece)
    → Turn ran (told given left written) (told given'' left'' written'') n n' Is
turn_read ran given given' given'' left left' left'' written written' written'' n n' piece Is read same_given consumed same_left are_bytes same_written d = record {
  piece = piece;
  calls = d.calls;
  text = d.text;
  read = subst (λ (o : Option (List ℕ)). Appends given o piece) (sym same_given) read;
  consumed = subst (λ (o : Option (List ℕ)). Consumes left o piece) (sym same_left) consumed;
  are_bytes = are_bytes;
  wrote = subst (λ (o : Option (List ℕ)). Appends o written'' d.text) same_written d.wrote;
  made = d.made;
  counted = d.counted;
  is = d.is;
}

-- A turn follows.
module _ (start now next : Told) (first second both : List Call → Type 0) (join : (xs ys : List Call) → first xs → second ys → both (xs ++ ys)) (taken taken' total k number : ℕ) (same : k ≡ number) where
  pub progress_turn : (Served Served' : ℕ → List ℕ → List Call → List ℕ → Type 0) (len : ℕ) → Progress (Served number) start now first taken total
      → Turn second now next taken taken' (λ piece calls text. (length piece ≡ len) × LeadsOn taken piece (Served k) (Served' k) calls text) → Progress (Served' number) start next both taken' (total + len)
  progress_turn Served Served' len p t = record {
    bytes = p.bytes ++ t.piece;
    calls = p.calls ++ t.calls;
    text = p.text ++ t.text;
    read = appends_then start.given now.given next.given p.bytes t.piece p.read t.read;
    consumed = consumes_then start.left now.left next.left p.bytes t.piece p.consumed t.consumed;
    are_bytes = IsBytes-append p.bytes t.piece p.are_bytes t.are_bytes;
    wrote = appends_then start.written now.written next.written p.text t.text p.wrote t.wrote;
    made = join p.calls t.calls p.made t.made;
    counted = omega (arith, p.counted, t.counted, count_then p.calls t.calls);
    sized = omega (arith, p.sized, t.is.0, length-append p.bytes t.piece);
    served = (subst (λ (n : ℕ). LeadsOn taken t.piece (Served n) (Served' n) t.calls t.text) same t.is.1) p.bytes p.calls p.text p.counted p.served;
  }

  -- the connection ends in it
  pub serves_turn : (Served : ℕ → List ℕ → List Call → List ℕ → Type 0) (Carried : ℕ → Option (List ℕ) → List ℕ → List Call → List ℕ → Talk → Type 0) (talk : Talk) → Progress (Served number) start now first taken total
      → Turn second now next taken taken' (λ piece calls text. LeadsOn taken piece (Served k) (λ fed called said. Carried k next.left fed called said talk) calls text)
      → Serves (Carried number) start.given next.given start.left next.left start.written next.written both (record { talk = talk; taken = taken' })
  serves_turn Served Carried talk p t = record {
    bytes = p.bytes ++ t.piece;
    calls = p.calls ++ t.calls;
    text = p.text ++ t.text;
    read = appends_then start.given now.given next.given p.bytes t.piece p.read t.read;
    consumed = consumes_then start.left now.left next.left p.bytes t.piece p.consumed t.consumed;
    are_bytes = IsBytes-append p.bytes t.piece p.are_bytes t.are_bytes;
    wrote = appends_then start.written now.written next.written p.text t.text p.wrote t.wrote;
    made = join p.calls t.calls p.made t.made;
    counted = omega (arith, p.counted, t.counted, count_then p.calls t.calls);
    carried = (subst (λ (n : ℕ). LeadsOn taken t.piece (Served n) (λ fed called said. Carried n next.left fed called said talk) t.calls t.text) same t.is) p.bytes p.calls p.text p.counted p.served;
  }

-- The input is over, and what is to be done for that is done.
pub serves_close : (start : Told) (given given' left left' written written' : Option (List ℕ)) (first second both : List Call → Type 0) (taken taken' total k number : ℕ) (Served : ℕ → List ℕ → List Call → List ℕ → Type 0) (Closing : ℕ → Option (List ℕ) → List ℕ → List Call → List ℕ → Type 0)
    (Carried : ℕ → Option (List ℕ) → List ℕ → List Call → List ℕ → Talk → Type 0) (talk : Talk) → ((xs ys : List Call) → first xs → second ys → both (xs ++ ys)) → k ≡ number → given' ≡ given → left' ≡ left
    → Progress (Served number) start (told given left written) first taken total → ((fed : List ℕ) (calls : List Call) (text : List ℕ) → Served number fed calls text → Closing number left fed calls text)
    → Done second written written' taken taken' (λ calls text. (end : Option (List ℕ)) → Leads taken (Closing k end) (λ fed called said. Carried k end fed called said talk) calls text)
    → Serves (Carried number) start.given given' start.left left' start.written written' both (record { talk = talk; taken = taken' })
serves_close start given given' left left' written written' first second both taken taken' total k number Served Closing Carried talk join same given_is left_is p closes d = record {
  bytes = p.bytes;
  calls = p.calls ++ d.calls;
  text = p.text ++ d.text;
  read = subst (λ (o : Option (List ℕ)). Appends start.given o p.bytes) (sym given_is) p.read;
  consumed = subst (λ (o : Option (List ℕ)). Consumes start.left o p.bytes) (sym left_is) p.consumed;
  are_bytes = p.are_bytes;
  wrote = appends_then start.written written written' p.text d.text p.wrote d.wrote;
  made = join p.calls d.calls p.made d.made;
  counted = omega (arith, p.counted, d.counted, count_then p.calls d.calls);
  carried = subst (λ (o : Option (List ℕ)). Carried number o p.bytes (p.calls ++ d.calls) (p.text ++ d.text) talk) (sym left_is)
      ((subst (λ (n : ℕ). Leads taken (Closing n left) (λ fed called said. Carried n left fed called said talk) d.calls d.text) same (d.is left)) p.bytes p.calls p.text p.counted (closes p.bytes p.calls p.text p.served));
}

-- said of the same tokens
pub serves_as : {T : Type 0} (Carried : T → Option (List ℕ) → List ℕ → List Call → List ℕ → Talk → Type 0) (given given' left left' written written' : Option (List ℕ)) (ran : List Call → Type 0) (attended : Attended) (k t : T) → k ≡ t
    → Serves (Carried k) given given' left left' written written' ran attended → Serves (Carried t) given given' left left' written written' ran attended
serves_as {T} Carried given given' left left' written written' ran attended k t same s = subst (λ (i : T). Serves (Carried i) given given' left left' written written' ran attended) same s
