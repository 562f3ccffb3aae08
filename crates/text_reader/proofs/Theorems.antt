-- 01, "How much each contract must say": any two outcomes that the contracts of the reader allow coincide. That a
-- field is the part of the line between two tabs, and where the next one starts, is promised by `text_fields`.
-- Assumes nothing.
use Prim.Native.Nat.{ℕ}
use mathlib.Core.List.{List}
use mathlib.Core.Path.{◌≡◌, sym, ◌∙◌}
use denote.Ref.{Bor}
use Rattle.text_fields.specs.Fields.{next_start, FieldOf}
use Rattle.text_fields.proofs.Theorems.{field_unique as field_of_unique}
use Rattle.text_reader.specs.declared.Reader.{Reader}

pub starting_unique : {l : Bor (List ℕ)} {at : ℕ} {p q : Reader} → (p.line ≡ l) × (p.at ≡ at)
    → (q.line ≡ l) × (q.at ≡ at)
    → (p.line ≡ q.line) × (p.at ≡ q.at)
starting_unique e f = (e.0 ∙ sym f.0, e.1 ∙ sym f.1)

pub field_unique : (r : Reader) {f g : Bor (List ℕ)} → FieldOf r.line r.at f → FieldOf r.line r.at g
    → (f.now ≡ g.now) × (f.ref_ptr.0 ≡ g.ref_ptr.0) × (f.ref_ptr.1 ≡ g.ref_ptr.1)
field_unique r p q = field_of_unique p q

pub after_unique : (r : Reader) {p q : Reader} → (p.line ≡ r.line) × (p.at ≡ next_start r.line.now r.at)
    → (q.line ≡ r.line) × (q.at ≡ next_start r.line.now r.at) → (p.line ≡ q.line) × (p.at ≡ q.at)
after_unique r e f = (e.0 ∙ sym f.0, e.1 ∙ sym f.1)

-- the same of a reader that starts at a place of a line: its field, and where the next one starts
pub field_from_unique : {l : Bor (List ℕ)} {at : ℕ} {f g : Bor (List ℕ)} → FieldOf l at f → FieldOf l at g
    → (f.now ≡ g.now) × (f.ref_ptr.0 ≡ g.ref_ptr.0) × (f.ref_ptr.1 ≡ g.ref_ptr.1)
field_from_unique p q = field_of_unique p q

pub next_from_unique : (l : List ℕ) (at : ℕ) {p q : ℕ} → p ≡ next_start l at → q ≡ next_start l at → p ≡ q
next_from_unique l at e f = e ∙ sym f
