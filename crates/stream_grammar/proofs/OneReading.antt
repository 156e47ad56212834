-- Where frames, rest and fault are decided, so is what is held of them.
use Rattle.std.proofs.Common.{◌≡◌, ℕ, List, [], Some, None, refl, sym, ap, ◌∙◌}
use Rattle.stream_grammar.specs.Reading.{Format, Drops, Keeps, as_bytes}
use Rattle.stream_grammar.specs.Laws.{OneReading}

-- What two readings of the same bytes share: a rest each, or a fault each.
pub record Decides {F E : Type 0} (p : Format F E) : Type 0 where
  pub stream : (b : List ℕ) (fs gs : List F) (m n : ℕ) (h k : List ℕ) → p.IsWhole b fs m h → p.IsWhole b gs n k → (fs ≡ gs) × (m ≡ n) × (h ≡ k)
  pub fault : (b : List ℕ) (fs gs : List F) (m n : ℕ) (h k : List ℕ) (d e : E) → p.IsFaulty b fs m h d → p.IsFaulty b gs n k e → (fs ≡ gs) × (m ≡ n) × (h ≡ k) × (d ≡ e)
  pub apart : (b : List ℕ) (fs gs : List F) (m n : ℕ) (h k : List ℕ) (e : E) → p.IsFaulty b fs m h e → p.IsWhole b gs n k → ⊥

one_held : {F E : Type 0} (p : Format F E) (Held : List ℕ → List ℕ → Type 0) → ((r s h k : List ℕ) → r ≡ s → Held r h → Held s k → h ≡ k) → Decides p → OneReading p (as_bytes Held)
one_held p Held same q fed fs gs m n h k None None i j =
    let r = q.stream fed fs gs m n h k i j in
    (r.0, r.1, r.2, refl)
one_held p Held same q fed fs gs m n h k None (Some e) i j = absurd (q.apart fed gs fs n m j.0 h e j.1 i)
one_held p Held same q fed fs gs m n h k (Some d) None i j = absurd (q.apart fed fs gs m n i.0 k d i.1 j)
one_held p Held same q fed fs gs m n h k (Some d) (Some e) i j =
    let r = q.fault fed fs gs m n i.0 j.0 d e i.1 j.1 in
    (r.0, r.1, same i.0 j.0 h k r.2 i.2 j.2, ap Some r.3)

-- for a reader, which drops the rest before a fault
pub one_dropped : {F E : Type 0} (p : Format F E) → Decides p → OneReading p Drops
one_dropped p = one_held p (λ rest held. held ≡ []) (λ r s h k e a b. a ∙ sym b)

-- and for a window, which keeps it
pub one_kept : {F E : Type 0} (p : Format F E) → Decides p → OneReading p Keeps
one_kept p = one_held p (λ rest held. held ≡ rest) (λ r s h k e a b. a ∙ e ∙ sym b)
