use Rattle.std.proofs.Common.{rules}
use Rattle.list_words.proofs.Reading.{reads_begins}
use Rattle.list_words.proofs.number.number.Goals as goal

pub loop-byte-init : goal.loop-byte-init
loop-byte-init c = search (rules, reads_begins)
