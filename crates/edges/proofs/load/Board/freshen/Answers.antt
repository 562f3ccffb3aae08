-- The tables' words are made fresh where they stand.
use Rattle.std.proofs.Common.{rules, ap, ap₂, ◌∙◌, refl, drop, ◌++◌}
use Rattle.words.specs.Words.{small}
use Rattle.rules.specs.Tables.{Tables}
use Rattle.rules.specs.Refusals.{fresh_refusal}
use Rattle.edges.proofs.load.Board.freshen.Goals as goal

pub returns : goal.returns
returns c =
    let b = c.args.self.now in
    let f = c.fresh-answer.ensures in record {
      number = f.number ∙ ap₂ (fresh_refusal small) (search rules) (search rules);
      tasks = ap (λ (s : Tables). s.tasks ++ drop b.tasks.length b.tasks.words) f.after;
      promises = ap (λ (s : Tables). s.promises ++ drop b.promises.length b.promises.words) f.after;
      task_count = refl;
      promise_count = refl;
      report = refl;
      story = refl;
    }
