use Rattle.std.proofs.Common.{◌-◌, ◌≤◌, vec_items, vec_len}
use Rattle.list_reader.proofs.Edges.{IsReading}
use Rattle.list_reader.proofs.arguments.edges.Given as goal

abbrev pub invariant-loop-word : goal.invariant-loop-word
invariant-loop-word l = (vec_len l.edges ≤ 8) × IsReading 8 l.fn.words (vec_items l.edges) (8 - vec_len l.edges) l.word-iterator
