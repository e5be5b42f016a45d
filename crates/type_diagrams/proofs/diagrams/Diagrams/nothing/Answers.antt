use Rattle.std.proofs.Common.{◌≡◌, Some, slice_get}
use Rattle.type_diagrams.specs.Conditions.{nothing}
use Rattle.type_diagrams.proofs.Shapes.{IfOk-map}
use Rattle.type_diagrams.proofs.Keeping.{extends-on}
use Rattle.type_diagrams.proofs.Combined.{parts-Gives}
use Rattle.type_diagrams.proofs.TypeParts.{nothing-HasParts, parts-over}
use Rattle.type_diagrams.proofs.diagrams.Diagrams.nothing.Goals as goal

pub number-requires : goal.number-requires
number-requires c =
    let t = c.set_number-2.new.self in
    parts-over t c.without_kinds.result nothing
    (nothing-HasParts t c.all.result c.in_ok-simple.simple c.in_ok-simple.ensures.made c.without_kinds.result c.all.ensures.shapes c.without_kinds.ensures)

pub returns-clause-extends : goal.returns-clause-extends
returns-clause-extends c =
    extends-on c.args.self.now c.set_number-2.new.self c.number.new.self c.set_number-2.ensures.extends c.number.ensures.extends

pub returns-clause-condition : goal.returns-clause-condition
returns-clause-condition c =
    let t = c.set_number-2.new.self in
    let d = c.without_kinds.result in
    IfOk-map (λ n. slice_get c.number.new.self.diagrams n ≡ Some d) _
    (λ n at. parts-Gives t c.number.new.self d nothing n (nothing-HasParts t c.all.result c.in_ok-simple.simple c.in_ok-simple.ensures.made d c.all.ensures.shapes c.without_kinds.ensures) c.number.ensures.extends.keeps at)
    c.number.result c.number.ensures.made
