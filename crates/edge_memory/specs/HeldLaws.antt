-- Laws of a disk in memory: its moments are lawful, and without a record it has one image.
use Rattle.std.specs.Prelude.{◌≡◌, ◌⊎◌, ℕ, Bool, zero, suc, true, false, IsTrue, List, [], ◌∷◌, length, drop, refl}
use Rattle.std.proofs.Common.{inl, inr, sym, ◌∙◌, arith}
use Rattle.std.proofs.lemmas.List.{ext_get_or}
use Rattle.edge_disk.specs.Disk.{IsLawful}
use Rattle.edge_memory.specs.Held.{Epoch, Held, IsCover, HadImage, IsSound, moment_of}

none_left : (past : List Epoch) (c : List ℕ) → HadImage (drop (length past) past) c → ⊥
none_left [] c had = had
none_left (epoch ∷ past) c had = none_left past c had

only_now : (P : Type 0) (past : List Epoch) (c : List ℕ) → P ⊎ HadImage (drop (length past) past) c → P
only_now P past c (inl now) = now
only_now P past c (inr had) = absurd (none_left past c had)

-- each moment is lawful
pub lawful : (h : Held) (faults : ℕ) → IsSound h → IsLawful (moment_of h faults)
lawful h faults sound = record {
  reads_size = refl;
  image_size = λ c cover. cover.len ∙ sym sound.covers.len;
  reads_image = sound.covers;
  counts_now = λ t c le now. inl now;
  only_now = λ c since. only_now (IsCover h.durable h.ranges c) h.past c since;
}

-- with nothing written since the sync there is one image
pub one_image : (durable reads : List ℕ) (ranges : List (ℕ × ℕ)) → length ranges ≡ 0 → IsCover durable ranges reads → (c : List ℕ) → IsCover durable ranges c → c ≡ reads
one_image durable reads [] none now c cover = ext_get_or 0 c reads (cover.len ∙ sym now.len) (λ i lt. cover.outside i refl ∙ sym (now.outside i refl))
one_image durable reads (range ∷ ranges) none now c cover = absurd (omega arith)

had_none : (past : List Epoch) (t : ℕ) (c : List ℕ) → length past ≡ 0 → HadImage (drop t past) c → ⊥
had_none [] zero c none had = had
had_none [] (suc t) c none had = had
had_none (epoch ∷ past) t c none had = absurd (omega arith)

one_since : (h : Held) → IsSound h → h.recorded ≡ false → (t : ℕ) (c : List ℕ) → IsCover h.durable h.ranges c ⊎ HadImage (drop t h.past) c → c ≡ h.reads
one_since h sound plain t c (inl now) = one_image h.durable h.reads h.ranges (sound.no_ranges plain) sound.covers c now
one_since h sound plain t c (inr had) = absurd (had_none h.past t c (sound.no_past plain) had)

recorded_or_not : (recorded : Bool) (P : Type 0) → (recorded ≡ false → P) → IsTrue recorded ⊎ P
recorded_or_not true P plain = inl refl
recorded_or_not false P plain = inr (plain refl)

-- without a record, what it reads stands in for the images
pub stands_in : (h : Held) (faults t : ℕ) (c : List ℕ) → IsSound h → IsTrue h.recorded ⊎ ((moment_of h faults).image_since t c → c ≡ h.reads)
stands_in h faults t c sound = recorded_or_not h.recorded (IsCover h.durable h.ranges c ⊎ HadImage (drop t h.past) c → c ≡ h.reads) (λ plain. one_since h sound plain t c)
