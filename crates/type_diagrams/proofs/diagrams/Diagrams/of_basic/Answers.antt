use Rattle.std.proofs.Common.{◌≡◌, Some, slice_get}
use Rattle.type_diagrams.specs.Sets.{set_of}
use Rattle.type_diagrams.specs.Conditions.{basic_condition}
use Rattle.type_diagrams.proofs.Shapes.{IfOk-map}
use Rattle.type_diagrams.proofs.Keeping.{extends-on, slice_get-grows}
use Rattle.type_diagrams.proofs.Combined.{parts-Gives}
use Rattle.type_diagrams.proofs.TypeParts.{basic-HasParts, parts-over}
use Rattle.type_diagrams.proofs.diagrams.Diagrams.of_basic.Goals as goal

pub returns-in_err-diagram-clause-extends : goal.returns-in_err-diagram-clause-extends
returns-in_err-diagram-clause-extends c =
    extends-on c.args.self.now c.set_number.new.self c.basic_roots.new.self c.set_number.ensures.extends c.basic_roots.ensures.extends

pub number-requires : goal.number-requires
number-requires c =
    let t = c.basic_roots.new.self in
    let at = slice_get-grows c.set_number.new.self.sets t.sets c.in_ok-simple.simple (set_of c.in_ok-set.set) c.basic_roots.ensures.extends.keeps.sets c.in_ok-simple.ensures.made in
    parts-over t c.in_ok-diagram.diagram (basic_condition c.args.basic.now) (basic-HasParts t c.in_ok-set.set c.in_ok-simple.simple at c.args.basic.now c.in_ok-diagram.diagram c.in_ok-set.ensures c.in_ok-diagram.ensures.made)

pub returns-clause-extends : goal.returns-clause-extends
returns-clause-extends c =
    extends-on c.args.self.now c.basic_roots.new.self c.number.new.self
    (extends-on c.args.self.now c.set_number.new.self c.basic_roots.new.self c.set_number.ensures.extends c.basic_roots.ensures.extends) c.number.ensures.extends

pub returns-clause-condition : goal.returns-clause-condition
returns-clause-condition c =
    let t = c.basic_roots.new.self in
    let at = slice_get-grows c.set_number.new.self.sets t.sets c.in_ok-simple.simple (set_of c.in_ok-set.set) c.basic_roots.ensures.extends.keeps.sets c.in_ok-simple.ensures.made in
    IfOk-map (λ n. slice_get c.number.new.self.diagrams n ≡ Some c.in_ok-diagram.diagram) _
    (λ n there. parts-Gives t c.number.new.self c.in_ok-diagram.diagram (basic_condition c.args.basic.now) n
    (basic-HasParts t c.in_ok-set.set c.in_ok-simple.simple at c.args.basic.now c.in_ok-diagram.diagram c.in_ok-set.ensures c.in_ok-diagram.ensures.made) c.number.ensures.extends.keeps there)
    c.number.result c.number.ensures.made
