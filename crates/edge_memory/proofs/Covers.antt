-- What a write and a sync do to the images of a disk in memory.
use Rattle.std.proofs.Common.{◌≡◌, ◌⊎◌, inl, inr, ⊎_elim, ℕ, zero, suc, ◌+◌, ◌-◌, ◌<◌, ◌≤◌, Bool, true, false, IsTrue, List, [], ◌∷◌, ◌++◌, length, drop, get_or, refl, sym, ◌∙◌, ap, subst, arith, length-append}
use Rattle.std.proofs.lemmas.Bool.{cases_lt}
use Rattle.std.proofs.lemmas.Bool.Decides.{nat_tests}
use Rattle.std.proofs.lemmas.Grind.{common_steps}
use Rattle.foundation.specs.Bytes.{part, put, SameBut}
use Rattle.foundation.proofs.Bytes.{length-put, put_below, put_above, put_at, get_or-part, put_same}
use Rattle.edge_disk.specs.Disk.{Remembers, IsUntouched, IsTorn}
use Rattle.edge_memory.specs.Held.{Epoch, Held, is_written, IsCover, HadImage, IsSound, moment_of, with_note, with_piece, after_write, with_epoch, after_sync}
use Rattle.edge_memory.specs.HeldLaws.{one_image}

-- a place that is in no range
free_head : (r : ℕ × ℕ) (ranges : List (ℕ × ℕ)) (i : ℕ) → is_written (r ∷ ranges) i ≡ false → (i < r.0) ⊎ (r.0 + r.1 ≤ i)
free_head r ranges i h = elim (cases_lt i r.0) [
  | inl lt ↦ inl lt
  | inr ge ↦ elim (cases_lt i (r.0 + r.1)) [
    | inl lt ↦ absurd (grind (arith, nat_tests))
    | inr le ↦ inr le
  ]
]

free_rest : (r : ℕ × ℕ) (ranges : List (ℕ × ℕ)) (i : ℕ) → is_written (r ∷ ranges) i ≡ false → is_written ranges i ≡ false
free_rest r ranges i h = grind (arith, nat_tests)

free_more : (r : ℕ × ℕ) (ranges : List (ℕ × ℕ)) (i : ℕ) → (i < r.0) ⊎ (r.0 + r.1 ≤ i) → is_written ranges i ≡ false → is_written (r ∷ ranges) i ≡ false
free_more r ranges i (inl lt) h = grind (arith, nat_tests)
free_more r ranges i (inr le) h = grind (arith, nat_tests)

same_at : (at n : ℕ) (b c : List ℕ) → SameBut at n b c → (i : ℕ) → (i < at) ⊎ (at + n ≤ i) → get_or c i 0 ≡ get_or b i 0
same_at at n b c same i (inl lt) = same.below i lt
same_at at n b c same i (inr le) = same.above i le

-- a write on top of an image is an image with one range more
more : (at n : ℕ) (durable : List ℕ) (ranges : List (ℕ × ℕ)) (b c : List ℕ) → IsCover durable ranges b → SameBut at n b c → IsCover durable ((at, n) ∷ ranges) c
more at n durable ranges b c cover same = record {
  len = same.len ∙ cover.len;
  outside = λ i free. same_at at n b c same i (free_head (at, n) ranges i free) ∙ cover.outside i (free_rest (at, n) ranges i free);
}

-- the image before the last write from which one after it comes
back : (at n : ℕ) (durable : List ℕ) (ranges : List (ℕ × ℕ)) (c : List ℕ) → at + n ≤ length durable → IsCover durable ((at, n) ∷ ranges) c → (d : List ℕ) × IsCover durable ranges d × SameBut at n d c
back at n durable ranges c room cover =
    let piece = part at n durable in
    let long : length piece ≡ n = grind (arith, common_steps) in
    let fits : at + length piece ≤ length c = omega (arith, cover.len) in
    let d = put at piece c in
    let outside : (i : ℕ) → is_written ranges i ≡ false → get_or d i 0 ≡ get_or durable i 0 = λ i free. elim (cases_lt i at) [
      | inl lt ↦ put_below at piece c i fits lt ∙ cover.outside i (free_more (at, n) ranges i (inl lt) free)
      | inr ge ↦ elim (cases_lt i (at + n)) [
        | inl lt ↦ put_at at piece c (i - at) i fits (omega arith) (omega arith) ∙ get_or-part at n durable (i - at) i (omega arith) (omega arith)
        | inr le ↦ put_above at piece c i fits (omega arith) ∙ cover.outside i (free_more (at, n) ranges i (inr le) free)
      ]
    ] in (
      d,
      record { len = length-put at piece c fits ∙ cover.len; outside = outside },
      record {
        len = sym (length-put at piece c fits);
        below = λ i lt. sym (put_below at piece c i fits lt);
        above = λ i le. sym (put_above at piece c i fits (omega arith));
      },
    )

-- bytes cover themselves, whatever the ranges
cover_self : (bytes : List ℕ) (ranges : List (ℕ × ℕ)) → IsCover bytes ranges bytes
cover_self bytes ranges = record { len = refl; outside = λ i free. refl }

-- a write keeps what holds of each disk in memory
sound_by : (recorded : Bool) (at n : ℕ) (piece : List ℕ) (h : Held) → h.recorded ≡ recorded → at + n ≤ length h.reads → length piece ≤ n → IsSound h → IsSound (with_piece recorded at piece (with_note recorded at n h))
sound_by true at n piece h is room small sound =
    let same = put_same at n piece h.reads room small in
    record {
      fits = omega (arith, same.len, sound.fits);
      covers = more at n h.durable h.ranges h.reads (put at piece h.reads) sound.covers same;
      no_ranges = λ plain. absurd (cc (sym is ∙ plain));
      no_past = λ plain. absurd (cc (sym is ∙ plain));
    }
sound_by false at n piece h is room small sound = record {
  fits = omega (arith, (put_same at n piece h.reads room small).len, sound.fits);
  covers = cover_self (put at piece h.reads) h.ranges;
  no_ranges = sound.no_ranges;
  no_past = sound.no_past;
}

pub sound_write : (at n : ℕ) (piece : List ℕ) (h new : Held) → at + n ≤ length h.reads → length piece ≤ n → IsSound h → new ≡ after_write at n piece h → IsSound new
sound_write at n piece h new room small sound is = subst IsSound (sym is) (sound_by h.recorded at n piece h refl room small sound)

-- and tears its range
tears_by : (recorded : Bool) (at n : ℕ) (piece : List ℕ) (h : Held) (faults later : ℕ) → h.recorded ≡ recorded → at + n ≤ length h.reads → length piece ≤ n → IsSound h → IsTorn at n (moment_of h faults) (moment_of (with_piece recorded at piece (with_note recorded at n h)) later)
tears_by true at n piece h faults later is room small sound = record {
  reads = put_same at n piece h.reads room small;
  images = λ c cover. back at n h.durable h.ranges c (omega (arith, sound.covers.len)) cover;
  time = record { later = omega arith; nothing_else = λ t c le since. ⊎_elim (λ now. inr now) (λ had. inl (inr had)) since };
}
tears_by false at n piece h faults later is room small sound =
    let written = put at piece h.reads in
    let same = put_same at n piece h.reads room small in
    record {
      reads = same;
      images = λ c cover. (h.reads, sound.covers, subst (SameBut at n h.reads) (sym (one_image written written h.ranges (sound.no_ranges is) (cover_self written h.ranges) c cover)) same);
      time = record { later = omega arith; nothing_else = λ t c le since. ⊎_elim (λ now. inr now) (λ had. inl (inr had)) since };
    }

pub tears : (at n : ℕ) (piece : List ℕ) (h new : Held) (faults later : ℕ) → at + n ≤ length h.reads → length piece ≤ n → IsSound h → new ≡ after_write at n piece h → IsTorn at n (moment_of h faults) (moment_of new later)
tears at n piece h new faults later room small sound is = subst (λ (x : Held). IsTorn at n (moment_of h faults) (moment_of x later)) (sym is) (tears_by h.recorded at n piece h faults later refl room small sound)

-- the times between syncs, one more than before
had_more : (past : List Epoch) (e : Epoch) (c : List ℕ) → HadImage (past ++ e ∷ []) c → HadImage past c ⊎ IsCover e.durable e.ranges c
had_more [] e c (inl here) = inr here
had_more [] e c (inr none) = absurd none
had_more (p ∷ past) e c (inl here) = inl (inl here)
had_more (p ∷ past) e c (inr there) = ⊎_elim (λ had. inl (inr had)) (λ new. inr new) (had_more past e c there)

had_before : (past : List Epoch) (e : Epoch) (c : List ℕ) → HadImage past c → HadImage (past ++ e ∷ []) c
had_before [] e c had = absurd had
had_before (p ∷ past) e c (inl here) = inl here
had_before (p ∷ past) e c (inr there) = inr (had_before past e c there)

had_last : (past : List Epoch) (e : Epoch) (c : List ℕ) → IsCover e.durable e.ranges c → HadImage (past ++ e ∷ []) c
had_last [] e c here = inl here
had_last (p ∷ past) e c here = inr (had_last past e c here)

drop_more : (t : ℕ) (past : List Epoch) (e : Epoch) → t ≤ length past → drop t (past ++ e ∷ []) ≡ drop t past ++ e ∷ []
drop_more zero past e le = refl
drop_more (suc t) [] e le = absurd (omega arith)
drop_more (suc t) (p ∷ past) e le = drop_more t past e (omega arith)

-- a sync leaves one image of those of before
closes_by : (ranges : List (ℕ × ℕ)) (h : Held) (faults later : ℕ) → IsSound h → IsUntouched (moment_of h faults) (moment_of (with_epoch ranges h) later)
closes_by [] h faults later sound = record { same = refl; images = λ c i. i; time = record { later = omega arith; nothing_else = λ t c le since. inl since } }
closes_by (range ∷ ranges) h faults later sound =
    let e : Epoch = record { durable = h.durable; ranges = h.ranges } in
    record {
      same = refl;
      images = λ c i. subst (IsCover h.durable h.ranges) (sym (one_image h.reads h.reads [] refl (cover_self h.reads []) c i)) sound.covers;
      time = record {
        later = omega (arith, length-append h.past (e ∷ []));
        nothing_else = λ t c le since. ⊎_elim (λ now. inr now) (λ had. inl (⊎_elim (λ was. inr was) (λ last. inl last) (had_more (drop t h.past) e c (subst (λ (p : List Epoch). HadImage p c) (drop_more t h.past e le) had)))) since;
      };
    }

pub closes : (h new : Held) (faults later : ℕ) → IsSound h → new ≡ after_sync h → IsUntouched (moment_of h faults) (moment_of new later)
closes h new faults later sound is = subst (λ (x : Held). IsUntouched (moment_of h faults) (moment_of x later)) (sym is) (closes_by h.ranges h faults later sound)

-- and forgets none
remembers_by : (ranges : List (ℕ × ℕ)) (h : Held) (faults later : ℕ) → Remembers (moment_of h faults) (moment_of (with_epoch ranges h) later)
remembers_by [] h faults later = record { keeps = λ t c le since. since }
remembers_by (range ∷ ranges) h faults later =
    let e : Epoch = record { durable = h.durable; ranges = h.ranges } in
    record { keeps = λ t c le since. inr (subst (λ (p : List Epoch). HadImage p c) (sym (drop_more t h.past e le)) (⊎_elim (λ now. had_last (drop t h.past) e c now) (λ had. had_before (drop t h.past) e c had) since)) }

pub remembers : (h new : Held) (faults later : ℕ) → new ≡ after_sync h → Remembers (moment_of h faults) (moment_of new later)
remembers h new faults later is = subst (λ (x : Held). Remembers (moment_of h faults) (moment_of x later)) (sym is) (remembers_by h.ranges h faults later)

recorded_by : (ranges : List (ℕ × ℕ)) (h : Held) → (with_epoch ranges h).recorded ≡ h.recorded
recorded_by [] h = refl
recorded_by (range ∷ ranges) h = refl

pub still_recorded : (h new : Held) → new ≡ after_sync h → IsTrue h.recorded → IsTrue new.recorded
still_recorded h new is recorded = subst IsTrue (sym (ap (λ (x : Held). x.recorded) is ∙ recorded_by h.ranges h)) recorded
