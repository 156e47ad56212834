-- What a device goes through while it is made an empty spool.
use Rattle.std.proofs.Common.{◌≡◌, inl, inr, ℕ, ◌≤◌, List, length, sym, ◌∙◌, subst, arith}
use Rattle.foundation.specs.Bytes.{put}
use Rattle.edge_disk.specs.Disk.{Moment, IsLawful, IsUntouched, LeavesOnly}
use Rattle.edge_disk.proofs.Moments.{started, untouched, both, reads_have}
use Rattle.spool_state.specs.Image.{magic, StandsFor}
use Rattle.spool_state.specs.Rules.{IsLayout}
use Rattle.spool_state.specs.Empty.{empty_state, IsBody}
use Rattle.spool_state.proofs.Emptied.{body_stands}
use Rattle.spool_log.specs.Making.Format.{HasNoName, IsFormatStep, KeepsFront, IsEraseStep, IsNameStep}
use Rattle.spool_log.proofs.Formats.Fronts.{kept_part}

pub still_no_name : (a b : List ℕ) → 8 ≤ length a → HasNoName a → KeepsFront 8 a b → HasNoName b
still_no_name a b room none keeps name = none (sym (kept_part 8 0 8 a b keeps (omega arith) room) ∙ name)

module _ (slots size : ℕ) (m : Moment) (lawful : IsLawful m) (layout : IsLayout slots size m.size) where
  abbrev P : List ℕ → Type 0
  P = IsFormatStep slots size m

  long : (b : Moment) → IsLawful b → b.size ≡ m.size → IsLayout slots size (length b.reads)
  long b lawful_b same = subst (IsLayout slots size) (sym (lawful_b.reads_size ∙ same)) layout

  room : (b : Moment) → IsLawful b → b.size ≡ m.size → 8 ≤ length b.reads
  room b lawful_b same = omega (arith, (long b lawful_b same).long)

  -- the first sync, also one that failed
  pub format_synced : (a : Moment) → IsUntouched m a → LeavesOnly P m a
  format_synced a sync = untouched P m m a (started P m lawful (λ c i. inl i)) sync

  -- the magic erased
  pub format_erased : (a b : Moment) → IsLawful a → IsUntouched m a → LeavesOnly (IsEraseStep a.reads) a b → LeavesOnly P m b
  format_erased a b lawful_a sync run =
      both P (IsEraseStep a.reads) P m a b (format_synced a sync) run (λ c p. p)
      (λ c step. elim step [ inl same ↦ inl (subst m.image (sym same) (sync.images a.reads lawful_a.reads_image)) | inr none ↦ inr (inl none) ])

  -- all the rest written
  pub format_body : (b c : Moment) → IsLawful b → b.size ≡ m.size → HasNoName b.reads → LeavesOnly P m b → LeavesOnly (KeepsFront 8 b.reads) b c → LeavesOnly P m c
  format_body b c lawful_b same none so_far run =
      both P (KeepsFront 8 b.reads) P m b c so_far run (λ i p. p) (λ i keeps. inr (inl (still_no_name b.reads i (room b lawful_b same) none keeps)))

  -- which leaves the device without the magic
  pub body_no_name : (b c : Moment) → IsLawful b → IsLawful c → b.size ≡ m.size → HasNoName b.reads → LeavesOnly (KeepsFront 8 b.reads) b c → HasNoName c.reads
  body_no_name b c lawful_b lawful_c same none run = still_no_name b.reads c.reads (room b lawful_b same) none (reads_have (KeepsFront 8 b.reads) b c lawful_c run)

  -- with the magic in front it is the empty spool
  pub named_stands : (c : Moment) → IsLawful c → c.size ≡ m.size → IsBody slots size c.reads → StandsFor (empty_state slots size) (put 0 magic c.reads)
  named_stands c lawful_c same body = body_stands slots size c.reads (long c lawful_c same) body

  -- the magic written
  pub format_named : (c d : Moment) → IsLawful c → c.size ≡ m.size → IsBody slots size c.reads → LeavesOnly P m c → LeavesOnly (IsNameStep c.reads) c d → LeavesOnly P m d
  format_named c d lawful_c same body so_far run =
      both P (IsNameStep c.reads) P m c d so_far run (λ i p. p)
      (λ i step. elim step [ inl none ↦ inr (inl none) | inr is ↦ inr (inr (subst (StandsFor (empty_state slots size)) (sym is) (named_stands c lawful_c same body))) ])
