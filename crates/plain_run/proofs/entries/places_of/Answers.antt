use Rattle.plain_run.proofs.Indexed.{places-all, places-more}
use Rattle.plain_run.proofs.entries.places_of.Goals as goal

pub loop-i-preserved : goal.loop-i-preserved
loop-i-preserved c = places-more c.args.items.now c.loop-i.i c.index-items-i.result c.loop-i.places c.note.new.places c.loop-i-test.true c.index-items-i.is c.loop-i.invariant c.in_ok-note.ensures

pub returns : goal.returns
returns c = places-all c.args.items.now c.loop-i.i c.loop-i.places c.loop-i-test.false c.loop-i.invariant
