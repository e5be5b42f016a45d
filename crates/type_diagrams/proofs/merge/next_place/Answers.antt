use Rattle.std.proofs.Common.{sym}
use Rattle.type_diagrams.proofs.Merging.{next-Less, next-Greater}
use Rattle.type_diagrams.proofs.merge.next_place.Goals as goal

pub returns-in-Less : goal.returns-in-Less
returns-in-Less g c =
    next-Less g.P.Ord.cmp g.met.P.Ord.total c.args.left.now c.args.right.now c.in-Some-Some.p.now c.in-Some-Some.q.now c.in-Some-Some.ps.now c.in-Some-Some.qs.now c.in-Some-Some.ensures.cases.0 c.in-Some-Some.ensures'.cases.0 c.requires.left c.requires.right (sym c.in-Less.ensures)

pub returns-in-Greater : goal.returns-in-Greater
returns-in-Greater g c =
    next-Greater g.P.Ord.cmp g.met.P.Ord.total c.args.left.now c.args.right.now c.in-Some-Some.p.now c.in-Some-Some.q.now c.in-Some-Some.ps.now c.in-Some-Some.qs.now c.in-Some-Some.ensures.cases.0 c.in-Some-Some.ensures'.cases.0 c.requires.left c.requires.right (sym c.in-Greater.ensures)
