-- What a step is lent: the two tables and the report.
--
--   tables_lent l   the tables
--   SameLoan l l'   l' has the very slices that l had: whoever lent them finds there what was written to them
-- Assumes nothing.
use Rattle.std.specs.Prelude.{◌≡◌}
use Rattle.rules.specs.Tables.{Tables, tables}
use Rattle.steps.specs.declared.Lent.{Lent}

abbrev pub tables_lent : Lent → Tables
tables_lent l = tables l.tasks.now l.promises.now

pub record SameLoan (l l' : Lent) : Type 0 where
  pub tasks : l'.tasks.ghost_name ≡ l.tasks.ghost_name
  pub promises : l'.promises.ghost_name ≡ l.promises.ghost_name
  pub report : l'.report.ghost_name ≡ l.report.ghost_name
