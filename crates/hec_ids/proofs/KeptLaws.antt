-- What is kept after a change.
use Rattle.std.proofs.Common.{◌≡◌, ℕ, ◌+◌, ◌*◌, ◌^◌, ◌∷◌, [], ◌++◌, List, map, sym, ◌∙◌, ap, subst, arith}
use Rattle.std.specs.Prelude.{not, filter, None}
use Rattle.std.specs.BTreeMap.{BTreeMap}
use Rattle.hec_ids.specs.declared.issued.Issued.{Issued}
use Rattle.hec_ids.specs.Table.{Held, IsSound, is_of}
use Rattle.hec_ids.specs.Rows.{refusal, settled_at, unsettled}
use Rattle.hec_ids.specs.Kept.{held_of, table_of, AreCounted, IsKept, counted}
use Rattle.hec_ids.proofs.SoundLaws.{issued_sound, filter_sound, settled_sound, count_settled}

pub kept_released : (run used channel id : ℕ) (es fs : List (ℕ × Issued)) (m n : BTreeMap ℕ ℕ) → IsKept (table_of run used es) m → AreCounted n (held_of fs) → held_of fs ≡ filter (λ h. not (is_of channel id h)) (held_of es) → IsKept (table_of run used fs) n
kept_released run used channel id es fs m n kept counts is = record {
  sound = subst (λ (held : List Held). IsSound (record { run = run; next = run * 2 ^ 32 + used; held = held })) (sym is) (filter_sound (λ h. not (is_of channel id h)) (table_of run used es) kept.sound);
  counted = counts;
}

pub kept_settled : (run used channel id : ℕ) (es fs : List (ℕ × Issued)) (m : BTreeMap ℕ ℕ) → IsKept (table_of run used es) m → held_of fs ≡ map (λ h. settled_at channel id h) (held_of es) → IsKept (table_of run used fs) m
kept_settled run used channel id es fs m kept is = record {
  sound = subst (λ (held : List Held). IsSound (record { run = run; next = run * 2 ^ 32 + used; held = held })) (sym is) (settled_sound channel id (table_of run used es) kept.sound);
  counted = subst (λ (held : List Held). AreCounted m held) (sym is) (λ q. kept.counted q ∙ ap counted (sym (count_settled channel id q (held_of es))));
}

pub kept_issued : (run used channel : ℕ) (es fs : List (ℕ × Issued)) (m n : BTreeMap ℕ ℕ) → IsKept (table_of run used es) m → refusal (table_of run used es) channel ≡ None → AreCounted n (held_of fs) → held_of fs ≡ held_of es ++ unsettled channel (run * 2 ^ 32 + used) ∷ [] → IsKept (table_of run (used + 1) fs) n
kept_issued run used channel es fs m n kept free counts is =
    let e : run * 2 ^ 32 + used + 1 ≡ run * 2 ^ 32 + (used + 1) = omega arith in
    let s = subst (λ (held : List Held). IsSound (record { run = run; next = run * 2 ^ 32 + used + 1; held = held })) (sym is) (issued_sound (table_of run used es) channel kept.sound free) in
    record {
      sound = subst (λ (next : ℕ). IsSound (record { run = run; next = next; held = held_of fs })) e s;
      counted = counts;
    }
