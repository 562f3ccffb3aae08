-- Five words each. Assumes nothing.
use mathlib.Core.Path.{sym}
use Rattle.batch_words.proofs.FlatLaws.{records_count}
use Rattle.batch_words.proofs.FlatRecordsRecords.count.Goals as goal

pub returns : goal.returns
returns c = sym (records_count c.args.self.now.words.now)
