-- Which cell counts, by the fields of both.
use Rattle.std.proofs.Common.{◌≡◌, ◌≢◌, ◌⊎◌, inl, inr, ℕ, ◌+◌, ◌*◌, Bool, List, ◌++◌, length, take, drop, get_or, sym, ◌∙◌, ap, subst, arith, IsTrue, ◌↔◌, Result, Ok, Err, IfOk, IfErr, refl}
use Rattle.std.proofs.lemmas.Bool.{cases_eq, cases_order}
use Rattle.std.proofs.lemmas.List.{take_at, drop_at}
use Rattle.std.proofs.lemmas.Nat.{from_be_bytes-to_be_bytes_2}
use Rattle.std.specs.Int.{to_be_bytes, from_be_bytes}
use mir.Syntax.{w16}
use Rattle.foundation.specs.Bytes.{part}
use Rattle.edge_disk.specs.Disk.{Moment, IsUntouched}
use Rattle.known_numbers.specs.declared.stretch.Stretch.{Stretch}
use Rattle.spool_state.specs.Layout.{first_cell, second_cell}
use Rattle.spool_state.specs.Cells.{cell_text, known_text, stretches_text, fields_text, ordinal_at, count_at, IsOpen, Counts, IsCounting, HasBadContent, CellsBreak}
use Rattle.spool_state.proofs.Places.{front_of, rest_of, part_split, length-fields, gate_is, version_is, ordinal_is, length_is, run_is, holds_1, holds_2}
use Rattle.disk_cell.specs.Cell.{place_of, other_of}
use Rattle.disk_cell.specs.Content.{text_of}
use Rattle.disk_cell.specs.Fields.{bytes_of, AreInRange, Outranks, AreGood, AreBad, IsBadAt, IsRegisterOf}
use Rattle.disk_cell.specs.Register.{Knows}
use Rattle.disk_cell.specs.Fault.{IsBroken}
use Rattle.disk_cell.specs.declared.fault.LoadFault.{LoadFault}
use Rattle.disk_cell.specs.declared.fault.LoadFault.TheVariants.{NotSpool, NoMemory, DiskFault}
use Rattle.disk_cell.specs.declared.cell.Cell.{Cell}
use Rattle.disk_cell.specs.declared.cell.Cell.TheVariants.{First, Second}
use Rattle.disk_cell.specs.declared.fields.Fields.{Fields}
use Rattle.disk_cell.specs.declared.register.Register.{Register}
use Rattle.disk_cell.proofs.Contents.{text_1, text_2}

-- the fields of the cell there
module _ (here : ℕ) (f : Fields) (c : List ℕ) (text : part here 32 c ≡ bytes_of f) where
  pub fields_there : part here 30 c ≡ fields_text f.gate f.ordinal f.len f.version f.run f.cursor
  fields_there =
      sym (front_of here 30 32 c (omega arith)) ∙ ap (take 30) text
      ∙ take_at (fields_text f.gate f.ordinal f.len f.version f.run f.cursor) (to_be_bytes w16 f.count) 30 (length-fields f.gate f.ordinal f.len f.version f.run f.cursor)

  pub count_there : part (here + 30) 2 c ≡ to_be_bytes w16 f.count
  count_there =
      sym (rest_of here 30 2 c) ∙ ap (drop 30) text
      ∙ drop_at (fields_text f.gate f.ordinal f.len f.version f.run f.cursor) (to_be_bytes w16 f.count) 30 (length-fields f.gate f.ordinal f.len f.version f.run f.cursor)

  pub open_is : get_or c here 0 ≡ f.gate
  open_is = gate_is here f.gate f.ordinal f.len f.version f.run f.cursor c fields_there

  pub rank_is : AreInRange f → ordinal_at here c ≡ f.ordinal
  rank_is fits = ordinal_is here f.gate f.ordinal f.len f.version f.run f.cursor c fields_there fits.ordinal

  pub bad : AreInRange f → AreBad f → HasBadContent here c
  bad fits (inl form) =
      let version = version_is here f.gate f.ordinal f.len f.version f.run f.cursor c fields_there in
      let len = length_is here f.gate f.ordinal f.len f.version f.run f.cursor c fields_there fits.len in
      let count : count_at here c ≡ f.count = ap (λ (l : List ℕ). from_be_bytes w16 l) count_there ∙ from_be_bytes-to_be_bytes_2 f.count fits.count in
      inl (λ good. elim good [
        | inl old ↦ form 0 (inl (sym version ∙ old.0, sym len ∙ old.1, refl))
        | inr new ↦ form f.count (inr (sym version ∙ new.0, omega (arith, new.1, count), omega (arith, new.2, count, len), refl))
      ])
  bad fits (inr (inl run)) = inr (inl (omega (arith, run_is here f.gate f.ordinal f.len f.version f.run f.cursor c fields_there fits.run)))
  bad fits (inr (inr ordinal)) = inr (inr (omega (arith, rank_is fits)))

  -- with stretches of which the text stands there
  pub stretches_there : (known : List Stretch) → f.count ≡ length known → part (here + 32) (16 * length known) c ≡ stretches_text known → part (here + 30) (2 + 16 * length known) c ≡ known_text known
  unfolding known_text
  stretches_there known is_count is =
      let at : here + 30 + 2 ≡ here + 32 = omega arith in
      part_split (here + 30) 2 (16 * length known) c
      ∙ ap (λ (l : List ℕ). l ++ part (here + 30 + 2) (16 * length known) c) (count_there ∙ ap (to_be_bytes w16) is_count)
      ∙ ap (λ (n : ℕ). to_be_bytes w16 (length known) ++ part n (16 * length known) c) at
      ∙ ap (λ (l : List ℕ). to_be_bytes w16 (length known) ++ l) is

-- the texts of the two cells
module _ (here other : ℕ) (f g : Fields) (c : List ℕ) (text : part here 32 c ≡ bytes_of f) (other_text : part other 32 c ≡ bytes_of g) (fits : AreInRange f) (other_fits : AreInRange g) where
  pub counting : Outranks f g → IsCounting here other c
  counting out = record {
    is_open = open_is here f c text ∙ out.is_open;
    other_less = elim out.other_less [
      | inl shut ↦ inl (λ is. shut (sym (open_is other g c other_text) ∙ is))
      | inr less ↦ inr (omega (arith, rank_is here f c text fits, rank_is other g c other_text other_fits))
    ];
  }

  pub none : (Outranks f g → ⊥) → (Outranks g f → ⊥) → ((get_or c here 0 ≢ 1) × (get_or c other 0 ≢ 1)) ⊎ ((get_or c here 0 ≡ 1) × (get_or c other 0 ≡ 1) × (ordinal_at here c ≡ ordinal_at other c))
  none not_f not_g = elim (cases_eq f.gate 1) [
    | inl f_open ↦ elim (cases_eq g.gate 1) [
      | inl g_open ↦ elim (cases_order f.ordinal g.ordinal) [
        | inl same ↦ inr (open_is here f c text ∙ f_open, open_is other g c other_text ∙ g_open, rank_is here f c text fits ∙ same ∙ sym (rank_is other g c other_text other_fits))
        | inr off ↦ elim off [
          | inl less ↦ absurd (not_g (record { is_open = g_open; other_less = inr less }))
          | inr more ↦ absurd (not_f (record { is_open = f_open; other_less = inr more }))
        ]
      ]
      | inr g_shut ↦ absurd (not_f (record { is_open = f_open; other_less = inl g_shut }))
    ]
    | inr f_shut ↦ elim (cases_eq g.gate 1) [
      | inl g_open ↦ absurd (not_g (record { is_open = g_open; other_less = inl f_shut }))
      | inr g_shut ↦ inl ((λ is. f_shut (sym (open_is here f c text) ∙ is)), (λ is. g_shut (sym (open_is other g c other_text) ∙ is)))
    ]
  ]

  -- the cell that counts holds what a register has that says the same
  pub counts : (r : Register) → Outranks f g → AreGood f (length r.content.known.items) → r.content.version ≡ f.version → r.ordinal ≡ f.ordinal → r.content.run ≡ f.run → r.content.cursor ≡ f.cursor
      → part (here + 32) (16 * length r.content.known.items) c ≡ stretches_text r.content.known.items → Counts here other r.ordinal (text_of r.content) c
  counts r out good version is_ordinal is_run is_cursor known = record {
    holds = elim good.form [
      | inl old ↦ subst Holds (sym (text_1 r.content (version ∙ old.0))) (holds_1 here r.ordinal r.content.run r.content.cursor c (fields 17 1 old.1 old.0))
      | inr new ↦ subst Holds (sym (text_2 r.content (version ∙ new.0))) (holds_2 here r.ordinal r.content.run r.content.cursor r.content.known.items c (fields (19 + 16 * length r.content.known.items) 2 (omega (arith, new.2, new.3)) new.0) (stretches_there here f c text r.content.known.items (sym new.3) known))
    ];
    other_less = elim out.other_less [
      | inl shut ↦ inl (λ is. shut (sym (open_is other g c other_text) ∙ is))
      | inr less ↦ inr (omega (arith, rank_is other g c other_text other_fits))
    ];
  }
    where
      Holds : List ℕ → Type 0
      Holds content = part here (13 + length content) c ≡ cell_text r.ordinal content

      fields : (len v : ℕ) → f.len ≡ len → f.version ≡ v → part here 30 c ≡ fields_text 1 r.ordinal len v r.content.run r.content.cursor
      fields len v is_len is_version = fields_there here f c text ∙ (λ i. fields_text (out.is_open i) (sym is_ordinal i) (is_len i) (is_version i) (sym is_run i) (sym is_cursor i))

-- the register that was read
pub knows : (cell : Cell) (is_open : Bool) (f g : Fields) (r : Register) (c : List ℕ) → part (place_of cell) 32 c ≡ bytes_of f → part (place_of (other_of cell)) 32 c ≡ bytes_of g → AreInRange f → AreInRange g
    → Outranks f g → (IsTrue is_open ↔ (g.gate ≡ 1)) → IsRegisterOf cell is_open f r → part (place_of cell + 32) (16 * length r.content.known.items) c ≡ stretches_text r.content.known.items → Knows r c
knows cell is_open f g r c text other_text fits other_fits out gate is known =
    let other_gate = open_is (place_of (other_of cell)) g c other_text in
    let here : Counts (place_of cell) (place_of (other_of cell)) r.ordinal (text_of r.content) c = counts (place_of cell) (place_of (other_of cell)) f g c text other_text fits other_fits r out is.good is.version is.ordinal is.run is.cursor known in
    record {
      counts = subst (λ (x : Cell). Counts (place_of x) (place_of (other_of x)) r.ordinal (text_of r.content) c) (sym is.counting) here;
      other_open = subst (λ (x : Cell). IsTrue r.other_is_open ↔ IsOpen (place_of (other_of x)) c) (sym is.counting)
          (subst (λ (b : Bool). IsTrue b ↔ IsOpen (place_of (other_of cell)) c) (sym is.other) ((λ t. other_gate ∙ gate.0 t), (λ o. gate.1 (sym other_gate ∙ o))));
    }

-- the register where these fields are good
pub loaded : (T : Type 0) (cell : Cell) (is_open : Bool) (f g : Fields) (result : Result Register LoadFault) (c mid : List ℕ) → (T → part (place_of cell) 32 c ≡ bytes_of f) → (T → part (place_of (other_of cell)) 32 c ≡ bytes_of g) → AreInRange f → AreInRange g
    → Outranks f g → (IsTrue is_open ↔ (g.gate ≡ 1)) → IfOk result (IsRegisterOf cell is_open f) → (T → mid ≡ c) → IfOk result (λ r. T → part (place_of cell + 32) (16 * length r.content.known.items) mid ≡ stretches_text r.content.known.items) → IfOk result (λ r. T → Knows r c)
loaded T cell is_open f g (Ok r) c mid text other_text fits other_fits out gate is same known = λ t.
    knows cell is_open f g r c (text t) (other_text t) fits other_fits out gate is (subst (λ (l : List ℕ). part (place_of cell + 32) (16 * length r.content.known.items) l ≡ stretches_text r.content.known.items) (same t) (known t))
loaded T cell is_open f g (Err e) c mid text other_text fits other_fits out gate is same known = tt

breaks : (cell : Cell) (c : List ℕ) → IsCounting (place_of cell) (place_of (other_of cell)) c → HasBadContent (place_of cell) c → CellsBreak (place_of cell) c
breaks First c counts is = inr (inl (refl, counts, is))
breaks Second c counts is = inr (inr (refl, counts, is))

-- the fault where they are not
pub refused : (T : Type 0) (cell : Cell) (f g : Fields) (result : Result Register LoadFault) (c : List ℕ) → (T → part (place_of cell) 32 c ≡ bytes_of f) → (T → part (place_of (other_of cell)) 32 c ≡ bytes_of g) → AreInRange f → AreInRange g
    → Outranks f g → IfErr result (IsBadAt cell f) → IfErr result (λ fault. T → IsBroken fault c)
refused T cell f g (Ok r) c text other_text fits other_fits out is = tt
refused T cell f g (Err (NotSpool at)) c text other_text fits other_fits out is = λ t.
    let here = place_of cell in
    let other = place_of (other_of cell) in
    subst (λ (x : ℕ). CellsBreak x c) (sym is.0) (breaks cell c (counting here other f g c (text t) (other_text t) fits other_fits out) (bad here f c (text t) fits is.1))
refused T cell f g (Err NoMemory) c text other_text fits other_fits out is = λ t. tt
refused T cell f g (Err DiskFault) c text other_text fits other_fits out is = λ t. tt

pub none_breaks : (f g : Fields) (c : List ℕ) → part first_cell 32 c ≡ bytes_of f → part second_cell 32 c ≡ bytes_of g → AreInRange f → AreInRange g → (Outranks f g → ⊥) → (Outranks g f → ⊥) → (at : ℕ) → at ≡ first_cell → CellsBreak at c
none_breaks f g c text other_text fits other_fits not_f not_g at is = inl (is, none first_cell second_cell f g c text other_text fits other_fits not_f not_g)

-- what was read after another read
pub read_before : (cell : Cell) (f : Fields) (old mid : Moment) → IsUntouched old mid → part (place_of cell) 32 mid.reads ≡ bytes_of f → part (place_of cell) 32 old.reads ≡ bytes_of f
read_before cell f old mid call is = ap (λ (b : List ℕ). part (place_of cell) 32 b) (sym call.same) ∙ is
