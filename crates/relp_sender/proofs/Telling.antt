-- What a turn tells.
use Rattle.std.proofs.Common.{◌≡◌, inl, inr, ℕ, ◌+◌, ◌-◌, ◌∙◌, Bool, List, [], ◌∷◌, ◌++◌, refl, sym, ap, subst, arith}
use Rattle.std.specs.Prelude.{Option, Some, None}
use Rattle.relp_frame.specs.declared.frame.Frame.{Frame}
use Rattle.relp_frame.specs.Reading.{Reader}
use Rattle.relp_sender.specs.Window.{first_open}
use Rattle.relp_sender.specs.declared.next.Next.{Next}
use Rattle.relp_sender.specs.declared.stage.Stage.{Stage}
use Rattle.relp_sender.specs.declared.stage.Stage.TheVariants.{Fresh, Opening, Open, Closed}
use Rattle.relp_sender.specs.Due.{Suits}
use Rattle.relp_sender.specs.Sender.{Sender, MayWrite}
use Rattle.relp_sender.specs.Sends.{Sends, SendsOn, CanHave, Knows, Said, later}
use Rattle.relp_sender.specs.Turns.{Stays}
use Rattle.relp_sender.proofs.TextLaws.{append_none}
use Rattle.relp_sender.proofs.Giving.{same_takes, same_read}
use Rattle.relp_sender.proofs.Knowing.{knows_also, knows_told}

-- a sender that only told how many, or asked
pub sends_told : (s : Sender) (told : ℕ) (asked : Bool) → SendsOn s [] [] (record s { told = told; asked = asked })
sends_told s told asked h was =
    let t : Sender = record s { told = told; asked = asked } in
    let can : (n : ℕ) → CanHave t n → CanHave s n = λ n c. record { most = c.most; all = c.all } in (
      [],
      h.progress,
      record {
        front = was.front;
        whole = was.whole;
        count = was.count;
        said = subst (Said s.stage was.front) (sym (append_none h.out)) was.said;
        stands = was.stands;
        takes = same_takes s t h.progress h.taken can was.takes;
        read = same_read h.fed h.taken h.progress s t s.stop refl can was.read;
        knows = knows_also h.also h.progress (first_open s.unanswered s.written) s.beyond was.knows;
      },
    )

pub sends_none : (s : Sender) → SendsOn s [] [] s
sends_none s = sends_told s s.told s.asked

-- a sender that told of one entry
pub sends_one : (s : Sender) (place : ℕ) (after : Option ℕ) (n : ℕ) → s.beyond ≡ Some place → after ≡ None → n ≡ place → SendsOn s [] (n ∷ []) (record s { beyond = after })
sends_one s place after n is none at h was =
    let t : Sender = record s { beyond = after } in
    let can : (n : ℕ) → CanHave t n → CanHave s n = λ n c. record { most = c.most; all = c.all } in
    let first = first_open s.unanswered s.written in
    let told = knows_told h.also h.progress first place s.beyond is was.knows in (
      [],
      h.progress,
      record {
        front = was.front;
        whole = was.whole;
        count = was.count;
        said = subst (Said s.stage was.front) (sym (append_none h.out)) was.said;
        stands = was.stands;
        takes = same_takes s t h.progress h.taken can was.takes;
        read = same_read h.fed h.taken h.progress s t s.stop refl can was.read;
        knows = subst (λ (k : ℕ). Knows (h.also ++ k ∷ []) h.progress first after) (sym at) (subst (Knows (h.also ++ place ∷ []) h.progress first) (sym none) told);
      },
    )

pub sends_as : (s t : Sender) (x y u v : List ℕ) → x ≡ y → u ≡ v → SendsOn s x u t → SendsOn s y v t
sends_as s t x y u v a b f = subst (λ (l : List ℕ). SendsOn s y l t) b (subst (λ (l : List ℕ). SendsOn s l u t) a f)

may_asked : (stage : Stage) (s : Sender) (asked : Bool) → MayWrite stage (record s { asked = asked }) → MayWrite stage s
may_asked Fresh s asked may = may
may_asked Opening s asked may = may
may_asked Open s asked may = may
may_asked Closed s asked may = may

-- whether the last turn was Need doesn't matter to the next text
pub suits_asked : (s : Sender) (n : Next) (asked : Bool) → Suits s n → Suits (record s { asked = asked }) n
suits_asked s n asked suits due = suits (elim due [ inl d ↦ inl (d.0, record { front = d.1.front; beyond = d.1.beyond }, may_asked s.stage s asked d.2) | inr e ↦ inr e ])

-- its number less the first one is its place
pub place_of : (first place : ℕ) → first + place - first ≡ place
place_of first place = omega arith

assoc : {A : Type 0} (xs ys zs : List A) → (xs ++ ys) ++ zs ≡ xs ++ (ys ++ zs)
assoc {A = A} [] ys zs = refl
assoc {A = A} (x ∷ xs) ys zs = ap (λ (l : List A). x ∷ l) (assoc xs ys zs)

pub sends_then : (a b c : Sender) (x y u v : List ℕ) → SendsOn a x u b → SendsOn b y v c → SendsOn a (x ++ y) (u ++ v) c
sends_then a b c x y u v f g h was =
    let one = f h was in
    let two = g (later h one.0 x u one.1) one.2 in (
      one.0 ++ two.0,
      two.1,
      subst (λ (l : List ℕ). Sends (record h { taken = h.taken ++ (one.0 ++ two.0); out = h.out ++ (x ++ y); also = l; progress = two.1 }) c) (assoc h.also u v)
          (subst (λ (l : List ℕ). Sends (record h { taken = h.taken ++ (one.0 ++ two.0); out = l; also = (h.also ++ u) ++ v; progress = two.1 }) c) (assoc h.out x y)
          (subst (λ (l : List Frame). Sends (record h { taken = l; out = (h.out ++ x) ++ y; also = (h.also ++ u) ++ v; progress = two.1 }) c) (assoc h.taken one.0 two.0) two.2)),
    )

pub stays_then : (a b c : Sender) → Stays a b → Stays b c → Stays a c
stays_then a b c x y = record {
  finished = y.finished ∙ x.finished;
  first = y.first ∙ x.first;
  given = y.given ∙ x.given;
  reader = y.reader ∙ ap (λ (r : Reader). record r { waiting = c.reader.waiting }) x.reader;
}
