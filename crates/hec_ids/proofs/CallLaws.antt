-- What follows from the rows.
use Rattle.std.proofs.Common.{◌≡◌, ◌⊎◌, inl, inr, ℕ, ◌+◌, ◌*◌, ◌^◌, ◌<◌, ◌≤◌, Bool, true, false, cond, List, [], ◌∷◌, map, Ok, Err, refl, sym, ◌∙◌, ap, subst, arith}
use Rattle.std.specs.Prelude.{◌==◌, ◌&&◌, ◌||◌, not, filter, nat_eq}
use Rattle.std.specs.List.{list_any}
use Rattle.std.specs.Set.{is_member}
use Rattle.std.proofs.lemmas.Bool.{cases_eq, cases_Bool, eqb-true, ne_eqb, and_parts, and_from, and_right, or_parts, or_from, or_cases, or_left, or_right}
use Rattle.std.proofs.lemmas.List.Folds.{list_any-append}
use Rattle.hec_ids.specs.Table.{Held, Table, AreRising, IsSound, is_of, holds, holds_settled, holds_unsettled}
use Rattle.hec_ids.specs.Rows.{unsettled, settled_at, is_told}
use Rattle.hec_ids.specs.Laws.{issue, settle, forget, ask, OpenedIsSound, CallsKeepSound, IssuedIsNew, GoneStaysGone, ToldIsGone, SettledBySettle}
use Rattle.hec_ids.proofs.HeldLaws.{rising_end, none_below, none_next, none_passes}
use Rattle.hec_ids.proofs.SoundLaws.{issued_sound, filter_sound, settled_sound, not_refused}

pub opened_is_sound : OpenedIsSound
opened_is_sound run first in_run in_place = record {
  run = in_run;
  within = omega arith;
  rising = omega arith;
  few = λ q. omega arith;
  few_channels = omega arith;
}

-- a table that is another one
same_sound : (t u : Table) → u ≡ t → IsSound t → IsSound u × (u.run ≡ t.run) × (t.next ≤ u.next)
same_sound t u is sound = (subst IsSound (sym is) sound, ap (λ (v : Table). v.run) is, let e = ap (λ (v : Table). v.next) is in omega arith)

pub calls_keep_sound : CallsKeepSound
calls_keep_sound t u (issue channel (Ok id) row) sound = (subst IsSound (sym row.2) (issued_sound t channel sound row.0), ap (λ (v : Table). v.run) row.2, let e = ap (λ (v : Table). v.next) row.2 in omega arith)
calls_keep_sound t u (issue channel (Err fault) row) sound = same_sound t u row.1 sound
calls_keep_sound t u (settle channel id answer row) sound = (subst IsSound (sym row.1) (settled_sound channel id t sound), ap (λ (v : Table). v.run) row.1, let e = ap (λ (v : Table). v.next) row.1 in omega arith)
calls_keep_sound t u (forget channel id answer row) sound = (subst IsSound (sym row.1) (filter_sound (λ h. not (is_of channel id h)) t sound), ap (λ (v : Table). v.run) row.1, let e = ap (λ (v : Table). v.next) row.1 in omega arith)
calls_keep_sound t u (ask channel ids known row) sound = (subst IsSound (sym row.1) (filter_sound (λ h. not (is_told channel ids h)) t sound), ap (λ (v : Table). v.run) row.1, let e = ap (λ (v : Table). v.next) row.1 in omega arith)

pub issued_is_new : IssuedIsNew
issued_is_new t u channel id q sound row =
    let low = rising_end (t.run * 2 ^ 32) t.next t.held sound.rising in
    let differ = (not_refused t channel row.0).0 in
    let is = row.1 in
    (omega (arith, low, is), omega (arith, sound.within), ap (λ k. holds q k t.held) is ∙ none_next q (t.run * 2 ^ 32) t.next t.held sound.rising)

-- what no record passes, none of some passes
any_filter : (f p : Held → Bool) (held : List Held) → list_any f held ≡ false → list_any f (filter p held) ≡ false
any_filter f p [] none = none
any_filter f p (x ∷ held) none =
    let parts = or_parts (f x) (list_any f held) none in
    by (p x) parts.0 (any_filter f p held parts.1)
  where
    by : (b : Bool) → f x ≡ false → list_any f (filter p held) ≡ false → list_any f (cond b (x ∷ filter p held) (filter p held)) ≡ false
    by true here there = or_from (f x) (list_any f (filter p held)) here there
    by false here there = there

-- what some record of those left passes, some passes
any_left : (f p : Held → Bool) (held : List Held) → list_any f (filter p held) ≡ true → list_any f held ≡ true
any_left f p held is = elim (cases_Bool (list_any f held)) [
  | inl some ↦ some
  | inr none ↦ let never : false ≡ true = sym (any_filter f p held none) ∙ is in absurd (cc)
]

of_settled : (c i q id : ℕ) (x : Held) → is_of q id (settled_at c i x) ≡ is_of q id x
of_settled c i q id x = by (is_of c i x)
  where
    by : (b : Bool) → is_of q id (cond b (record { channel = x.channel; id = x.id; settled = true }) x) ≡ is_of q id x
    by true = refl
    by false = refl

holds_settling : (c i q id : ℕ) (held : List Held) → holds q id (map (λ h. settled_at c i h) held) ≡ holds q id held
holds_settling c i q id [] = refl
holds_settling c i q id (x ∷ held) = λ j. of_settled c i q id x j || holds_settling c i q id held j

pub gone_stays_gone : GoneStaysGone
gone_stays_gone t u q i (issue channel (Ok id) row) below gone =
    let other : is_of q i (unsettled channel t.next) ≡ false = and_right (channel == q) (t.next == i) (ne_eqb t.next i (λ e. omega (arith, e))) in
    ap (λ (v : Table). holds q i v.held) row.2 ∙ list_any-append (is_of q i) t.held (unsettled channel t.next ∷ []) ∙ or_from (holds q i t.held) (is_of q i (unsettled channel t.next) || false) gone (or_from (is_of q i (unsettled channel t.next)) false other refl)
gone_stays_gone t u q i (issue channel (Err fault) row) below gone = ap (λ (v : Table). holds q i v.held) row.1 ∙ gone
gone_stays_gone t u q i (settle channel id answer row) below gone = ap (λ (v : Table). holds q i v.held) row.1 ∙ holds_settling channel id q i t.held ∙ gone
gone_stays_gone t u q i (forget channel id answer row) below gone = ap (λ (v : Table). holds q i v.held) row.1 ∙ any_filter (is_of q i) (λ h. not (is_of channel id h)) t.held gone
gone_stays_gone t u q i (ask channel ids known row) below gone = ap (λ (v : Table). holds q i v.held) row.1 ∙ any_filter (is_of q i) (λ h. not (is_told channel ids h)) t.held gone

-- an id that is one of these
among : (channel id : ℕ) (ids : List ℕ) (x : Held) → is_of channel id x ≡ true → is_member nat_eq ids id ≡ true → list_any (λ k. is_of channel k x) ids ≡ true
among channel id [] x this is = is
among channel id (k ∷ ids) x this is = elim (or_cases (nat_eq id k) (is_member nat_eq ids id) is) [
  | inl here ↦ or_left (is_of channel k x) (list_any (λ j. is_of channel j x) ids) (ap (λ n. is_of channel n x) (sym (eqb-true id k here)) ∙ this)
  | inr there ↦ or_right (is_of channel k x) (list_any (λ j. is_of channel j x) ids) (among channel id ids x this there)
]

told_away : (channel id q from to : ℕ) (ids : List ℕ) (held : List Held) → AreRising from to held → is_member nat_eq ids id ≡ true → holds_settled channel id held ≡ true → (id < to) × (holds q id (filter (λ h. not (is_told channel ids h)) held) ≡ false)
told_away channel id q from to ids [] h asked settled = absurd (cc)
told_away channel id q from to ids (x ∷ held) h asked settled = elim (cases_eq x.id id) [
  | inl same ↦
      let none = λ (p : ℕ). none_below p id (x.id + 1) to held h.2 (omega (arith, same)) in
      let both : (is_of channel id x && x.settled) ≡ true = first (is_of channel id x && x.settled) (holds_settled channel id held) (none_passes (λ y. y.settled) channel id held (none channel)) settled in
      let parts = and_parts (is_of channel id x) x.settled both in
      let told = and_from x.settled (list_any (λ k. is_of channel k x) ids) parts.1 (among channel id ids x parts.0 asked) in (
        omega (arith, h.1, same),
        ap (λ b. holds q id (cond (not b) (x ∷ filter (λ y. not (is_told channel ids y)) held) (filter (λ y. not (is_told channel ids y)) held))) told
            ∙ any_filter (is_of q id) (λ y. not (is_told channel ids y)) held (none q),
      )
  | inr differ ↦
      let other = λ (p : ℕ). and_right (x.channel == p) (x.id == id) (ne_eqb x.id id differ) in
      let more : holds_settled channel id held ≡ true = sym (ap (λ b. (b && x.settled) || holds_settled channel id held) (other channel)) ∙ settled in
      let rest = told_away channel id q (x.id + 1) to ids held h.2 asked more in
      (rest.0, by (not (is_told channel ids x)) (other q) rest.1)
] where
  first : (a b : Bool) → b ≡ false → (a || b) ≡ true → a ≡ true
  first true b n t = refl
  first false b n t = absurd (cc)

  by : (b : Bool) → is_of q id x ≡ false → holds q id (filter (λ y. not (is_told channel ids y)) held) ≡ false → holds q id (cond b (x ∷ filter (λ y. not (is_told channel ids y)) held) (filter (λ y. not (is_told channel ids y)) held)) ≡ false
  by true off r = or_from (is_of q id x) (holds q id (filter (λ y. not (is_told channel ids y)) held)) off r
  by false off r = r

pub told_is_gone : ToldIsGone
told_is_gone t u channel id q ids known sound row asked settled =
    let away = told_away channel id q (t.run * 2 ^ 32) t.next ids t.held sound.rising asked settled in
    let next = ap (λ (v : Table). v.next) row.1 in
    (omega (arith, away.0), ap (λ (v : Table). holds q id v.held) row.1 ∙ away.1)

-- a record that is settled after a settling was so before, or it is the one
settled_before : (c i q id : ℕ) (held : List Held) → holds_settled q id (map (λ h. settled_at c i h) held) ≡ true → (holds_settled q id held ≡ true) ⊎ ((c ≡ q) × (i ≡ id) × (holds_unsettled q id held ≡ true))
settled_before c i q id [] is = inl is
settled_before c i q id (x ∷ held) is = elim (or_cases (is_of q id (settled_at c i x) && (settled_at c i x).settled) (holds_settled q id (map (λ h. settled_at c i h) held)) is) [
  | inl here ↦ by (is_of c i x) x.settled refl refl here
  | inr there ↦ elim (settled_before c i q id held there) [
    | inl e ↦ inl (or_right (is_of q id x && x.settled) (holds_settled q id held) e)
    | inr e ↦ inr (e.0, e.1, or_right (is_of q id x && not x.settled) (holds_unsettled q id held) e.2)
  ]
] where
  by : (b s : Bool) → is_of c i x ≡ b → x.settled ≡ s → (is_of q id (cond b (record { channel = x.channel; id = x.id; settled = true }) x) && (cond b (record { channel = x.channel; id = x.id; settled = true }) x).settled) ≡ true → (holds_settled q id (x ∷ held) ≡ true) ⊎ ((c ≡ q) × (i ≡ id) × (holds_unsettled q id (x ∷ held) ≡ true))
  by true true this e h = inl (or_left (is_of q id x && x.settled) (holds_settled q id held) (and_from (is_of q id x) x.settled (and_parts (is_of q id x) true h).0 e))
  by true false this e h =
      let it = (and_parts (is_of q id x) true h).0 in
      let a = and_parts (x.channel == c) (x.id == i) this in
      let b = and_parts (x.channel == q) (x.id == id) it in
      inr (
        sym (eqb-true x.channel c a.0) ∙ eqb-true x.channel q b.0,
        sym (eqb-true x.id i a.1) ∙ eqb-true x.id id b.1,
        or_left (is_of q id x && not x.settled) (holds_unsettled q id held) (and_from (is_of q id x) (not x.settled) it (ap not e)),
      )
  by false s this e h = inl (or_left (is_of q id x && x.settled) (holds_settled q id held) h)

pub settled_by_settle : SettledBySettle
settled_by_settle t u q i (issue channel (Ok id) row) is =
    let last = is_of q i (unsettled channel t.next) && false in
    let both = sym (list_any-append (λ h. is_of q i h && h.settled) t.held (unsettled channel t.next ∷ [])) ∙ sym (ap (λ (v : Table). holds_settled q i v.held) row.2) ∙ is in
    elim (or_cases (holds_settled q i t.held) (last || false) both) [
      | inl before ↦ inl before
      | inr new ↦ let never : false ≡ true = sym (or_from last false (and_right (is_of q i (unsettled channel t.next)) false refl) refl) ∙ new in absurd (cc)
    ]
settled_by_settle t u q i (issue channel (Err fault) row) is = inl (sym (ap (λ (v : Table). holds_settled q i v.held) row.1) ∙ is)
settled_by_settle t u q i (settle channel id answer row) is = elim (settled_before channel id q i t.held (sym (ap (λ (v : Table). holds_settled q i v.held) row.1) ∙ is)) [
  | inl before ↦ inl before
  | inr now ↦ inr (sym now.2, row.1 ∙ (λ j. record { run = t.run; next = t.next; held = map (λ h. settled_at (now.0 j) (now.1 j) h) t.held }))
]
settled_by_settle t u q i (forget channel id answer row) is = inl (any_left (λ h. is_of q i h && h.settled) (λ h. not (is_of channel id h)) t.held (sym (ap (λ (v : Table). holds_settled q i v.held) row.1) ∙ is))
settled_by_settle t u q i (ask channel ids known row) is = inl (any_left (λ h. is_of q i h && h.settled) (λ h. not (is_told channel ids h)) t.held (sym (ap (λ (v : Table). holds_settled q i v.held) row.1) ∙ is))
