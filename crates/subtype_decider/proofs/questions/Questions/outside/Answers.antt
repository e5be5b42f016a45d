use Rattle.std.proofs.Common.{length}
use Rattle.type_diagrams.specs.Conditions.{condition_of, without}
use Rattle.type_diagrams.specs.Tables.{condition}
use Rattle.type_diagrams.specs.Whole.{Gives}
use Rattle.type_diagrams.proofs.AskedDiagrams.{without_Gives}
use Rattle.type_diagrams.proofs.Keeping.{extends-within, extends-more}
use Rattle.type_diagrams.proofs.Shapes.{IfOk-map}
use Rattle.subtype_decider.proofs.Resting.{rest-grown}
use Rattle.subtype_decider.proofs.questions.Questions.outside.Goals as goal

pub returns-clause-rest : goal.returns-clause-rest
returns-clause-rest c =
    rest-grown c.args.env.now c.of.new.self c.diff.new.self (extends-more (length c.args.env.now) c.of.new.self.diagrams c.diff.new.self c.diff.ensures.extends) c.of.ensures.rest

pub returns-clause-extends : goal.returns-clause-extends
returns-clause-extends c =
    let n = length c.args.env.now in
    extends-within n c.args.self.now.diagrams c.of.new.self.diagrams c.diff.new.self c.of.ensures.extends (extends-more n c.of.new.self.diagrams c.diff.new.self c.diff.ensures.extends)

pub returns-clause-gives : goal.returns-clause-gives
returns-clause-gives c =
    let old = c.args.self.now.diagrams in
    let mid = c.of.new.self.diagrams in
    let new = c.diff.new.self in
    let a = c.args.question in
    let b = c.in_ok-other.other in
    let of = condition_of c.args.env.now c.args.t.now in
    IfOk-map (Gives new (without (condition mid a) (condition mid b))) (Gives new (without (condition old a) of))
    (λ n g. without_Gives old mid new of a b n c.requires.diagram c.of.ensures.extends.keeps c.in_ok-other.ensures.gives g)
    c.diff.result c.diff.ensures.condition
