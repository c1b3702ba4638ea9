use Rattle.std.proofs.Common.{rules, to_z-of_z, w64, SFits}
use Rattle.table_store.proofs.store.TableStore.count.Goals as goal

pub returns-clause-ran : goal.returns-clause-ran
returns-clause-ran g c clean =
    let fits : SFits w64 c.args.self.now.table.id = search rules in rw (to_z-of_z fits) at (c.count.ensures.ran clean)
