use Rattle.std.proofs.Common.{List, subst}
use Rattle.type_diagrams.specs.declared.kind.Kind.TheVariants.{List as Lists}
use Rattle.type_diagrams.specs.Tables.{condition}
use Rattle.subtype_decider.specs.declared.way.Way.{Way}
use Rattle.subtype_decider.specs.Paths.{GainsWays}
use Rattle.subtype_decider.proofs.Gathered.{gathered-HasWays}
use Rattle.subtype_decider.proofs.way.ways.Goals as goal

pub returns : goal.returns
returns c =
    let of = condition c.args.diagrams.now c.args.question in
    gathered-HasWays of c.add.new.ways.items c.add-2.new.ways.items c.add-3.new.ways.items c.add-4.new.ways.items c.add-5.new.ways.items
    (subst (λ (l : List Way). GainsWays of Lists l c.add.new.ways.items) c.new-ways.ensures.items c.in_ok-add.ensures)
    c.in_ok-add-2.ensures c.in_ok-add-3.ensures c.in_ok-add-4.ensures c.in_ok-add-5.ensures
