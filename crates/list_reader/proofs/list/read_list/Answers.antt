use Rattle.std.proofs.Common.{rules}
use Rattle.list_reader.proofs.Writing.{list_back}
use Rattle.list_reader.proofs.list.read_list.Goals as goal

pub returns-clause-back : goal.returns-clause-back
returns-clause-back c = list_back c.args.list.now _ (search rules)
