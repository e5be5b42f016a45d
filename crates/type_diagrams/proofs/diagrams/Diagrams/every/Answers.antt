use Rattle.std.proofs.Common.{◌≡◌, Some, slice_get}
use Rattle.type_diagrams.specs.declared.node.Diagram.{Diagram}
use Rattle.type_diagrams.specs.Conditions.{everything}
use Rattle.type_diagrams.proofs.Shapes.{IfOk-map}
use Rattle.type_diagrams.proofs.Keeping.{extends-on}
use Rattle.type_diagrams.proofs.Combined.{parts-Gives}
use Rattle.type_diagrams.proofs.TypeParts.{every-HasParts}
use Rattle.type_diagrams.proofs.diagrams.Diagrams.every.Goals as goal

pub returns-clause-extends : goal.returns-clause-extends
returns-clause-extends c =
    extends-on c.args.self.now c.set_number-2.new.self c.number.new.self c.set_number-2.ensures.extends c.number.ensures.extends

pub returns-clause-condition : goal.returns-clause-condition
returns-clause-condition c =
    let t = c.set_number-2.new.self in
    let d : Diagram = record { simple = c.in_ok-simple.simple; list = 1; mapping = 1; error = 1; function = 1; future = 1 } in
    IfOk-map (λ n. slice_get c.number.new.self.diagrams n ≡ Some d) _
    (λ n at. parts-Gives t c.number.new.self d everything n (every-HasParts t c.all.result c.in_ok-simple.simple c.in_ok-simple.ensures.made c.all.ensures.shapes) c.number.ensures.extends.keeps at)
    c.number.result c.number.ensures.made
