-- Entries that are given, their end, and bytes that are fed.
use Rattle.std.proofs.Common.{◌≡◌, inl, inr, ℕ, ◌+◌, ◌-◌, ◌<◌, ◌≤◌, ◌^◌, ◌∙◌, true, false, List, [], ◌∷◌, ◌++◌, length, refl, sym, ap, subst, arith}
use Rattle.std.specs.Prelude.{◌%◌, All, Option, Some, None}
use Rattle.std.proofs.lemmas.Bool.{false≢true, cases_lt}
use Rattle.std.proofs.lemmas.List.{append-nil}
use Rattle.event_form.specs.declared.event.Entry.{Entry}
use Rattle.event_form.specs.Event.{IsEvent}
use Rattle.http_reply.specs.declared.reply.HttpReply.{HttpReply}
use Rattle.http_reply.specs.Reading.{Reading, Reads}
use Rattle.stream_grammar.specs.Feeding.{ReadsOn}
use Rattle.hec_sender.specs.declared.stage.Stage.{Stage}
use Rattle.hec_sender.specs.declared.stage.Stage.TheVariants.{Unsent}
use Rattle.hec_sender.specs.declared.stop.Stop.{Stop}
use Rattle.hec_sender.specs.Requests.{request_of}
use Rattle.hec_sender.specs.Progress.{Progress}
use Rattle.hec_sender.specs.Sender.{Sender, Keeps, HasSome, MayFollow, given, stage_text}
use Rattle.hec_sender.specs.View.{IsSize}
use Rattle.hec_sender.specs.Sends.{History, Sends, IsCut, HasRead}

-- the sender that was given these
abbrev pub gave : Sender → ℕ → List Entry → Sender
gave s first entries = record s { rest = entries; first = first - s.done; asked = false }

pub keeps_more : (s : Sender) (first : ℕ) (entries : List Entry) → Keeps s → s.asked ≡ true → length entries ≤ 128 → given s % 128 ≡ 0 → All (λ (e : Entry). IsEvent e.event) entries
    → (0 < given s → first ≡ s.first + given s) → first + length entries ≤ 2 ^ 63 → Keeps (gave s first entries)
keeps_more s first entries k asked few even limits next number =
    let n = k.need asked in
    let none : length s.rest ≡ 0 = ap length n.none in
    let given_is : given s ≡ s.done = omega (arith, none) in
    let whole : s.done % 128 ≡ 0 = ap (λ (m : ℕ). m % 128) (sym given_is) ∙ even in
    record {
      some_polls = k.some_polls;
      few_polls = k.few_polls;
      within = k.within;
      some = subst (λ (x : Stage). HasSome x entries) (sym n.stage) tt;
      run = omega (arith, few, whole);
      requests = k.requests;
      number = number_of s.done first s.first (length entries) (λ p. next (omega (arith, p, given_is)) ∙ omega (arith, given_is)) number;
      events = limits;
      need = λ e. absurd (false≢true e);
      ended = k.ended;
    }
  where
    number_of : (done first was count : ℕ) → (0 < done → first ≡ was + done) → first + count ≤ 2 ^ 63 → first - done + (done + count) ≤ 2 ^ 63
    number_of done first was count next fits = elim (cases_lt 0 done) [
      | inl p ↦ (let is : first ≡ was + done = next p in omega (arith, is, fits))
      | inr z ↦ omega (arith, z, fits)
    ]

pub sends_more : (s : Sender) (first : ℕ) (entries : List Entry) → Keeps s → s.asked ≡ true → given s % 128 ≡ 0 → (h : History) → Sends h s → Sends (record h { entries = h.entries ++ entries }) (gave s first entries)
sends_more s first entries k asked even h g =
    let n = k.need asked in
    let may : (more : List Entry) → MayFollow s (entries ++ more) = λ more. record { none = λ e. absurd (false≢true (sym n.finished ∙ e)); whole = λ _. even } in
    let silent : (l : List Entry) → stage_text s.terms s.stage l ≡ [] = λ l. ap (λ (x : Stage). stage_text s.terms x l) n.stage in
    record {
      front = g.front;
      entries = ap (λ (l : List Entry). l ++ entries) (g.entries ∙ ap (λ (l : List Entry). g.front ++ l) n.none ∙ append-nil g.front);
      count = g.count;
      text = g.text;
      cut = λ more _. subst (λ (l : List Entry). IsCut s.terms h.progress.confirmed (g.front ++ (l ++ (entries ++ more))) s.done g.text) n.none (g.cut (entries ++ more) (may more));
      said = g.said ∙ ap (λ (l : List ℕ). g.text ++ l) (silent (request_of s.done s.rest) ∙ sym (silent (request_of s.done entries)));
      requests = g.requests;
      asked = g.asked;
      takes = g.takes;
      read = g.read;
    }

-- the sender for which no more come
abbrev pub ended : Sender → Sender
ended s = record s { finished = true; asked = false }

pub keeps_end : (s : Sender) → Keeps s → Keeps (ended s)
keeps_end s k = record {
  some_polls = k.some_polls;
  few_polls = k.few_polls;
  within = k.within;
  some = k.some;
  run = k.run;
  requests = k.requests;
  number = k.number;
  events = k.events;
  need = λ e. absurd (false≢true e);
  ended = k.ended;
}

pub sends_end : (s : Sender) → Keeps s → s.asked ≡ true → (h : History) → Sends h s → Sends h (ended s)
sends_end s k asked h g =
    let n = k.need asked in
    let may : (more : List Entry) → MayFollow (ended s) more → MayFollow s more = λ more m. record { none = λ _. m.none refl; whole = λ some. absurd (omega (arith, some, ap length (m.none refl))) } in
    record {
      front = g.front;
      entries = g.entries;
      count = g.count;
      text = g.text;
      cut = λ more m. g.cut more (may more m);
      said = g.said;
      requests = g.requests;
      asked = g.asked;
      takes = g.takes;
      read = g.read;
    }

-- ---- bytes that are fed

read_fed : (polls : ℕ) (old new : Reading) (p : Progress) (fed piece : List ℕ) (taken : List HttpReply) (stop : Option Stop) → ReadsOn Reads old piece new → HasRead polls old p fed taken stop → HasRead polls new p (fed ++ piece) taken stop
read_fed polls old new p fed piece taken None on h = on fed taken h
read_fed polls old new p fed piece taken (Some stop) on h = (h.0, on fed (taken ++ h.0 ∷ []) h.1, h.2)

pub sends_fed : (s : Sender) (r : Reading) (piece : List ℕ) → ReadsOn Reads s.reader piece r → (h : History) → Sends h s → Sends (record h { fed = h.fed ++ piece }) (record s { reader = r })
sends_fed s r piece on h g = record {
  front = g.front;
  entries = g.entries;
  count = g.count;
  text = g.text;
  cut = g.cut;
  said = g.said;
  requests = g.requests;
  asked = g.asked;
  takes = g.takes;
  read = read_fed s.terms.polls s.reader r h.progress h.fed piece h.taken s.stop on g.read;
}

pub keeps_fed : (s : Sender) (r : Reading) → Keeps s → Keeps (record s { reader = r })
keeps_fed s r k = record {
  some_polls = k.some_polls;
  few_polls = k.few_polls;
  within = k.within;
  some = k.some;
  run = k.run;
  requests = k.requests;
  number = k.number;
  events = k.events;
  need = λ e. let n = k.need e in record { goes = n.goes; stage = n.stage; none = n.none; finished = n.finished };
  ended = k.ended;
}

-- no request is under way
pub size_unsent : (stage : Stage) (done : ℕ) (rest : List Entry) (size : ℕ) → stage ≡ Unsent → IsSize stage done rest size
size_unsent stage done rest size is = subst (λ (x : Stage). IsSize x done rest size) (sym is) tt
