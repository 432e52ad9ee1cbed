use Rattle.std.proofs.Common.{◌≡◌, drop}
use Rattle.list_words.specs.Numbers.{number}
use Rattle.list_words.proofs.Reading.{reads}
use Rattle.list_words.proofs.number.number.Given as goal

abbrev pub invariant-loop-byte : goal.invariant-loop-byte
invariant-loop-byte l = reads l.value (drop l.byte-index l.word) ≡ number l.word
