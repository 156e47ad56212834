-- Each row keeps a table sound.
use Rattle.std.proofs.Common.{◌≡◌, ◌≢◌, inl, inr, ℕ, ◌+◌, ◌*◌, ◌^◌, ◌<◌, ◌≤◌, Bool, true, false, cond, List, [], ◌∷◌, ◌++◌, length, map, None, Some, is_some, refl, sym, ◌∙◌, ap, arith}
use Rattle.std.specs.Prelude.{◌==◌, ◌&&◌, nat_le, nat_eq, filter}
use Rattle.std.specs.Set.{unique_keys}
use Rattle.std.proofs.lemmas.Bool.{cases_eq, eqb-false, leb-false, eq-eqb, ne_eqb}
use Rattle.std.proofs.lemmas.List.{map-append}
use Rattle.hec_ids.specs.declared.fault.IssueFault.TheVariants.{NoMore, Busy}
use Rattle.hec_ids.specs.Table.{Held, Table, IsSound, is_of, count_of, channel_count}
use Rattle.hec_ids.specs.Rows.{busy, refusal, unsettled, issued, settled_at}
use Rattle.hec_ids.proofs.CountLaws.{count_of-cons, has_channel, counted_above}
use Rattle.hec_ids.proofs.HeldLaws.{rising_filter, rising_settled, rising_push, one_more}
use Rattle.hec_ids.proofs.ChannelLaws.{channels_filter, distinct_again, distinct_push}

not_busy : (channel : ℕ) (held : List Held) → busy channel held ≡ None → (count_of channel held < 10000) × (count_of channel held ≡ 0 → channel_count held < 1000)
not_busy channel held free = by (nat_le 10000 (count_of channel held)) (count_of channel held == 0) (nat_le 1000 (channel_count held)) refl refl refl free
  where
    by : (a b d : Bool) → nat_le 10000 (count_of channel held) ≡ a → (count_of channel held == 0) ≡ b → nat_le 1000 (channel_count held) ≡ d → cond a (Some (Busy 10000)) (cond (b && d) (Some (Busy 1000)) None) ≡ None → (count_of channel held < 10000) × (count_of channel held ≡ 0 → channel_count held < 1000)
    by true b d p q r h = absurd (cc)
    by false true true p q r h = absurd (cc)
    by false true false p q r h = (leb-false 10000 (count_of channel held) p, λ _. leb-false 1000 (channel_count held) r)
    by false false d p q r h = (leb-false 10000 (count_of channel held) p, λ none. absurd (eqb-false (count_of channel held) 0 q none))

pub not_refused : (t : Table) (channel : ℕ) → refusal t channel ≡ None → (t.next ≢ t.run * 2 ^ 32 + 2 ^ 32) × (busy channel t.held ≡ None)
not_refused t channel free = by (t.next == t.run * 2 ^ 32 + 2 ^ 32) refl free
  where
    by : (b : Bool) → (t.next == t.run * 2 ^ 32 + 2 ^ 32) ≡ b → cond b (Some (NoMore t.run)) (busy channel t.held) ≡ None → (t.next ≢ t.run * 2 ^ 32 + 2 ^ 32) × (busy channel t.held ≡ None)
    by true e h = absurd (cc)
    by false e h = (eqb-false t.next (t.run * 2 ^ 32 + 2 ^ 32) e, h)

channels_push : (channel id : ℕ) (held : List Held) → busy channel held ≡ None → channel_count held ≤ 1000 → channel_count (held ++ unsettled channel id ∷ []) ≤ 1000
channels_push channel id held free few =
    let channels = map (λ h. h.channel) held in
    let e = ap (λ (xs : List ℕ). length (unique_keys nat_eq xs)) (map-append (λ h. h.channel) held (unsettled channel id ∷ [])) in
    elim (cases_eq (count_of channel held) 0) [
      | inl none ↦ let a = distinct_push channels channel in let b = (not_busy channel held free).1 none in omega arith
      | inr some ↦ let m = sym (has_channel channel held) ∙ ap is_some (counted_above (count_of channel held) (omega arith)) in let a = distinct_again channels channel m in omega arith
    ]

pub issued_sound : (t : Table) (channel : ℕ) → IsSound t → refusal t channel ≡ None → IsSound (issued t channel)
issued_sound t channel sound free =
    let parts = not_refused t channel free in
    record {
      run = sound.run;
      within = let differ = parts.0 in omega (arith, sound.within);
      rising = rising_push channel (t.run * 2 ^ 32) t.next t.held sound.rising;
      few = λ q. elim (cases_eq q channel) [
        | inl same ↦
            let a = one_more channel t.next t.held q ∙ ap (λ b. count_of q t.held + cond {A = ℕ} b 1 0) (eq-eqb q channel same) in
            let b = ap (λ k. count_of k t.held) same in
            let c = (not_busy channel t.held parts.1).0 in
            omega arith
        | inr differ ↦
            let a = one_more channel t.next t.held q ∙ ap (λ b. count_of q t.held + cond {A = ℕ} b 1 0) (ne_eqb q channel differ) in
            omega (arith, sound.few q)
      ];
      few_channels = channels_push channel t.next t.held parts.1 sound.few_channels;
    }

count_filter : (p : Held → Bool) (q : ℕ) (held : List Held) → count_of q (filter p held) ≤ count_of q held
count_filter p q [] = omega arith
count_filter p q (x ∷ held) = by (p x) (count_filter p q held)
  where
    by : (b : Bool) → count_of q (filter p held) ≤ count_of q held → count_of q (cond b (x ∷ filter p held) (filter p held)) ≤ count_of q (x ∷ held)
    by true r = let a = count_of-cons q x held in let b = count_of-cons q x (filter p held) in omega arith
    by false r = let a = count_of-cons q x held in let whole : count_of q (filter p held) ≤ count_of q (x ∷ held) = omega arith in whole

pub filter_sound : (p : Held → Bool) (t : Table) → IsSound t → IsSound (record { run = t.run; next = t.next; held = filter p t.held })
filter_sound p t sound = record {
  run = sound.run;
  within = sound.within;
  rising = rising_filter p (t.run * 2 ^ 32) t.next t.held sound.rising;
  few = λ q. omega (arith, count_filter p q t.held, sound.few q);
  few_channels = omega (arith, channels_filter p t.held, sound.few_channels);
}

settled_channel : (channel id : ℕ) (x : Held) → (settled_at channel id x).channel ≡ x.channel
settled_channel channel id x = by (is_of channel id x)
  where
    by : (b : Bool) → (cond b (record { channel = x.channel; id = x.id; settled = true }) x).channel ≡ x.channel
    by true = refl
    by false = refl

settled_channels : (channel id : ℕ) (held : List Held) → map (λ h. h.channel) (map (λ h. settled_at channel id h) held) ≡ map (λ h. h.channel) held
settled_channels channel id [] = refl
settled_channels channel id (x ∷ held) = λ i. settled_channel channel id x i ∷ settled_channels channel id held i

pub count_settled : (channel id q : ℕ) (held : List Held) → count_of q (map (λ h. settled_at channel id h) held) ≡ count_of q held
count_settled channel id q [] = refl
count_settled channel id q (x ∷ held) =
    count_of-cons q (settled_at channel id x) (map (λ h. settled_at channel id h) held)
    ∙ (λ i. cond {A = ℕ} (settled_channel channel id x i == q) 1 0 + count_settled channel id q held i)
    ∙ sym (count_of-cons q x held)

pub settled_sound : (channel id : ℕ) (t : Table) → IsSound t → IsSound (record { run = t.run; next = t.next; held = map (λ h. settled_at channel id h) t.held })
settled_sound channel id t sound = record {
  run = sound.run;
  within = sound.within;
  rising = rising_settled channel id (t.run * 2 ^ 32) t.next t.held sound.rising;
  few = λ q. omega (arith, count_settled channel id q t.held, sound.few q);
  few_channels = let e = ap (λ (xs : List ℕ). length (unique_keys nat_eq xs)) (settled_channels channel id t.held) in omega (arith, sound.few_channels);
}
