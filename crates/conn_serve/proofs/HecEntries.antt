-- The entries of a request's events.
use Rattle.std.proofs.Common.{◌≡◌, ℕ, ◌+◌, ◌<◌, ◌^◌, List, [], ◌∷◌, ◌++◌, length, refl, sym, ◌∙◌, ap, arith}
use Rattle.std.specs.List.{All}
use Rattle.std.proofs.lemmas.List.Elements.{All-nil, All-cons, All-head, All-tail}
use Rattle.event_form.specs.declared.event.Event.{Event}
use Rattle.event_form.specs.declared.event.Entry.{Entry}
use Rattle.event_form.specs.Event.{IsEvent}
use Rattle.event_form.specs.Entry.{IsEntry}
use Rattle.desk_access.specs.Batch.{AreNext, AreOfUnit}
use Rattle.conn_serve.specs.Groups.{IsFrameEntry}
use Rattle.conn_serve.specs.Relp.{entry_of}
use Rattle.conn_serve.specs.Hec.{entries_of}

pub count_entries : (conn index unit : ℕ) (events : List Event) → length (entries_of conn index unit events) ≡ length events
count_entries conn index unit [] = refl
count_entries conn index unit (event ∷ events) = omega (arith, count_entries conn (index + 1) unit events)

entries_push : (conn index unit : ℕ) (xs : List Event) (x : Event) → entries_of conn index unit (xs ++ x ∷ []) ≡ entries_of conn index unit xs ++ entry_of conn (index + length xs) unit x ∷ []
entries_push conn index unit [] x = let same : index ≡ index + 0 = omega arith in ap (λ (n : ℕ). entry_of conn n unit x ∷ []) same
entries_push conn index unit (y ∷ xs) x =
    let same : (index + 1) + length xs ≡ index + length (y ∷ xs) = omega arith in
    ap (λ (l : List Entry). entry_of conn index unit y ∷ l) (entries_push conn (index + 1) unit xs x ∙ ap (λ (n : ℕ). entries_of conn (index + 1) unit xs ++ entry_of conn n unit x ∷ []) same)

-- an entry more
pub entries_more : (conn index unit : ℕ) (xs : List Event) (x : Event) (old new : List Entry) (at : ℕ) → old ≡ entries_of conn index unit xs → at ≡ index + length old → new ≡ old ++ entry_of conn at unit x ∷ [] → new ≡ entries_of conn index unit (xs ++ x ∷ [])
entries_more conn index unit xs x old new at is place n =
    let same : at ≡ index + length xs = omega (arith, place, ap length is, count_entries conn index unit xs) in
    n ∙ ap (λ (l : List Entry). l ++ entry_of conn at unit x ∷ []) is ∙ ap (λ (k : ℕ). entries_of conn index unit xs ++ entry_of conn k unit x ∷ []) same ∙ sym (entries_push conn index unit xs x)

pub entries_next : (conn index unit : ℕ) (events : List Event) → AreNext conn index (entries_of conn index unit events)
entries_next conn index unit [] = tt
entries_next conn index unit (event ∷ events) = (refl, refl, entries_next conn (index + 1) unit events)

pub entries_unit : (conn index unit : ℕ) (events : List Event) → AreOfUnit unit (entries_of conn index unit events)
entries_unit conn index unit [] = All-nil (λ (e : Entry). e.unit ≡ unit)
entries_unit conn index unit (event ∷ events) = All-cons (λ (e : Entry). e.unit ≡ unit) (entry_of conn index unit event) (entries_of conn (index + 1) unit events) refl (entries_unit conn (index + 1) unit events)

-- the entries keep their limits
pub entries_limits : (conn index unit : ℕ) (events : List Event) → conn < 2 ^ 64 → unit < 2 ^ 64 → index + length events < 2 ^ 64 → All IsEvent events → All IsEntry (entries_of conn index unit events)
entries_limits conn index unit [] c u few each = All-nil IsEntry
entries_limits conn index unit (event ∷ events) c u few each =
    All-cons IsEntry (entry_of conn index unit event) (entries_of conn (index + 1) unit events) (record { event = All-head IsEvent event events each; conn = c; index = omega (arith, few); unit = u })
    (entries_limits conn (index + 1) unit events c u (omega (arith, few)) (All-tail IsEvent event events each))

pub entries_plain : (conn index : ℕ) (events : List Event) → All IsEntry (entries_of conn index 0 events) → All IsFrameEntry (entries_of conn index 0 events)
entries_plain conn index [] each = All-nil IsFrameEntry
entries_plain conn index (event ∷ events) each =
    let first = entry_of conn index 0 event in
    let more = entries_of conn (index + 1) 0 events in
    All-cons IsFrameEntry first more (record { limits = All-head IsEntry first more each; plain = omega arith }) (entries_plain conn (index + 1) events (All-tail IsEntry first more each))
