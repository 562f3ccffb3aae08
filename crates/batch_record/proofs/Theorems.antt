-- What is promised of the step of a record. F is any form, n the length of a report of its own, s any tables. Assumes
-- nothing.
use Prim.Native.Nat.{ℕ, ◌+◌, ◌≤◌}
use mathlib.Core.Path.{◌≡◌, refl, sym, ap, ◌∙◌}
use mathlib.Core.Logic.{◌≢◌}
use mathlib.Core.Bool.{Bool, true, false, ◌&&◌}
use borrow.Author.Tests.{eqb-false}
use lib.Dec.{ltb}
use mathlib.Core.List.{List, [], ◌∷◌, ◌++◌}
use native.Mathlib.Omega.{arith}
use lib.ListN.{length, drop}
use Rattle.words.specs.Words.{Form}
use Rattle.rules.specs.Tables.{Tables}
use Rattle.rules.specs.Answers.{by_number}
use Rattle.rules.specs.Refusals.{first, table_rows}
use Rattle.rules.specs.Steps.{Outcome, outcome, guarded, rows, step_refused, effect, raw, step}
use Rattle.rules.specs.Demands.{numbers, paper_rows, FirstGiven}
use Rattle.rules.specs.declared.Answer.TheVariants.{Refused}
use Rattle.rules.proofs.GuardLaws.{guarded_none}
use Rattle.rules.proofs.Order.{own_order, numbered_append, table_rows_numbered, rows_numbered, guarded_joined}
use Rattle.rules.proofs.Order.{guarded_refused, guarded_first, effect_refuses_at, tables_plain}
use Rattle.rules.proofs.AnswerLaws.{step_refused_number, step_refused_plain}
use Rattle.rules.proofs.RefusalLaws.{Numbered, row, no_row}
use Rattle.step_kinds.specs.Kinds.{shape_of, takes_list}
use Rattle.batch_record.specs.declared.Record.{Record}
use Rattle.batch_record.specs.Records.{step_of, part_rows, record_rows, step_record, Turns}
use Rattle.batch_record.proofs.RecordLaws.{part_not_given}

module _ (F : Form) (n : ℕ) (list : List ℕ) (s : Tables) (r : Record) where
  -- it is the step that the record names, but for a list part that passes the list's end
  pub the_step_it_names : (takes_list (shape_of r.kind) ≡ true → r.start + r.length ≤ length list)
      → step_record F n list s r ≡ step F n s (step_of list r)
  the_step_it_names h = ap (guarded by_number (first (table_rows F n s)) s)
      (guarded_none _ (first (part_rows list r)) s (raw F s (step_of list r)) (part_not_given list r h))

  part_numbered : Numbered (part_rows list r)
  part_numbered = row (eqb-false 16 0 refl) no_row

  -- 16 is given by number alone
  part_plain : Refused (first (part_rows list r)) ≡ step_refused F s (step_of list r) (first (part_rows list r))
  unfolding first
  part_plain = sym (step_refused_plain F s (step_of list r) (first (part_rows list r))
      (go (takes_list (shape_of r.kind) && ltb (length list) (r.start + r.length))))
    where
      go : (b : Bool) → first ((16, b) ∷ []) ≢ 17
      go true e = absurd (omega arith)
      go false e = absurd (omega arith)

  -- "16 .. stands for its step directly after 2"; the others stand in the paper's order
  pub sixteen_after_two : numbers (record_rows F n list s r) ≡ 1 ∷ 2 ∷ 16 ∷ drop 2 (paper_rows (step_of list r))
  sixteen_after_two = ap (λ (l : List ℕ). 1 ∷ 2 ∷ 16 ∷ l) (own_order F s (step_of list r))

  -- one guard by all of them
  joined : step_record F n list s r ≡ guarded (step_refused F s (step_of list r)) (first (record_rows F n list s r)) s
      (effect F s (step_of list r))
  joined =
      ap (guarded by_number (first (table_rows F n s)) s)
      (guarded_joined by_number (step_refused F s (step_of list r)) (rows F s (step_of list r)) s
      (effect F s (step_of list r)) part_numbered part_plain)
      ∙ guarded_joined by_number (step_refused F s (step_of list r)) (part_rows list r ++ rows F s (step_of list r)) s
      (effect F s (step_of list r)) (table_rows_numbered F n s) (tables_plain F n s (step_of list r))

  -- a record's step is refused by a number exactly when it is that of the first of these that applies; and then
  -- nothing changes
  pub record_refused_by_the_first : (q : ℕ) → (step_record F n list s r).answer ≡ step_refused F s (step_of list r) q
      → FirstGiven q (record_rows F n list s r)
  record_refused_by_the_first q e =
      guarded_refused (step_refused F s (step_of list r)) (step_refused_number F s (step_of list r))
      (record_rows F n list s r) s
      (effect F s (step_of list r)) q (effect_refuses_at F s (step_of list r) q)
      (sym (ap (λ (o : Outcome). o.answer) joined) ∙ e)

  pub the_first_refuses_the_record : (q : ℕ) → FirstGiven q (record_rows F n list s r)
      → step_record F n list s r ≡ outcome (step_refused F s (step_of list r) q) s []
  the_first_refuses_the_record q g =
      joined ∙ guarded_first (step_refused F s (step_of list r)) s (effect F s (step_of list r))
      (numbered_append (table_rows_numbered F n s)
      (numbered_append part_numbered (rows_numbered F s (step_of list r)))) g

-- any two outcomes that the contract of a turn allows coincide
pub turns_unique : {o : Outcome} {at i : ℕ} {rs ws : List ℕ} {n n' : ℕ} {s s' : Tables} {rep rep' ans ans' : List ℕ}
    → Turns o at i rs ws n s rep ans → Turns o at i rs ws n' s' rep' ans'
    → (n ≡ n') × (s ≡ s') × (rep ≡ rep') × (ans ≡ ans')
turns_unique g h = (
  g.next_at ∙ sym h.next_at,
  g.after ∙ sym h.after,
  g.report ∙ sym h.report,
  g.answers
      ∙ sym h.answers,
)
