-- `line_serving::serve` meets its contract: each way out is one law of `turn_of`. Assumes nothing.
use mathlib.Core.Path.{refl, sym, ◌∙◌}
use Rattle.rules.specs.Tables.{tables}
use Rattle.line_serving.proofs.ServingLaws.{turn_full, turn_gathered, serves_line}
use Rattle.line_serving.proofs.serve.Goals as goal

pub returns-in_default : goal.returns-in_default
returns-in_default c =
    let a = c.args in
    let w = c.put_bytes-bytes.ensures in
    rw (
      turn_full a.block.now a.from a.line.now a.have a.lines a.session (tables a.tasks.now a.promises.now)
          a.report.now a.out.now (sym c.number_after.ensures ∙ c.in_default.is),
      c.at_end.ensures,
    )
    (record {
      next = refl;
      have = refl;
      lines = refl;
      session = refl;
      bytes = w.count;
      going = refl;
      line = refl;
      after = refl;
      report = refl;
      answer = w.text;
    })

pub returns-in-Some-next : goal.returns-in-Some-next
returns-in-Some-next c =
    let a = c.args in
    serves_line a.block.now a.from a.line.now a.have a.lines a.session (tables a.tasks.now a.promises.now)
    a.report.now a.out.now _ (sym c.number_after.ensures ∙ c.in-Some.is) c.gather-count.ensures c.in-Some-next.is
    c.answer.ensures

pub returns-in-None : goal.returns-in-None
returns-in-None c =
    let a = c.args in
    let w = c.gather-count.ensures in
    rw (
      turn_gathered a.block.now a.from a.line.now a.have a.lines a.session (tables a.tasks.now a.promises.now)
          a.report.now a.out.now _ (sym c.number_after.ensures ∙ c.in-Some.is) w c.in-None.is,
      c.at_end-in-None.ensures,
    )
    (record {
      next = refl;
      have = refl;
      lines = refl;
      session = refl;
      bytes = refl;
      going = refl;
      line = w.bytes;
      after = refl;
      report = refl;
      answer = refl;
    })
