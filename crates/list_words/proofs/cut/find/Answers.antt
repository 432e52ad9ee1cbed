use Rattle.std.proofs.Common.{sym, arith}
use Rattle.list_words.proofs.Cuts.{here, on, nowhere}
use Rattle.list_words.proofs.cut.find.Goals as goal

pub returns-then-b-separator : goal.returns-then-b-separator
returns-then-b-separator c = sym (here c.args.separator c.args.bytes.now c.loop-place.place c.loop-place.invariant (omega arith) c.if-b-separator.true)

pub loop-place-preserved : goal.loop-place-preserved
loop-place-preserved c = on c.args.separator c.args.bytes.now c.loop-place.place c.loop-place.invariant (omega arith) c.if-b-separator.false

pub returns : goal.returns
returns c = sym (nowhere c.args.separator c.args.bytes.now c.loop-place.place c.loop-place.invariant (omega arith))
