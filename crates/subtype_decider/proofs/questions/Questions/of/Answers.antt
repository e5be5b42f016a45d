use Rattle.type_diagrams.specs.Conditions.{LooksAtKinds, condition_of}
use Rattle.type_diagrams.specs.Tables.{condition}
use Rattle.type_diagrams.specs.Whole.{Gives}
use Rattle.type_diagrams.proofs.Reaching.{one-Looks, type-Looks}
use Rattle.type_diagrams.proofs.Shapes.{IfOk-map}
use Rattle.subtype_decider.proofs.Grown.{defined-grown}
use Rattle.subtype_decider.proofs.Ends.{closed-grown}
use Rattle.subtype_decider.proofs.questions.Questions.of.Goals as goal

pub returns-clause-rest : goal.returns-clause-rest
returns-clause-rest c =
    let env = c.args.env.now in
    let r = c.requires.rest in
    record {
      defined = defined-grown env c.args.self.now.diagrams c.of.new.self c.of.ensures.extends r.defined;
      closed = closed-grown env c.args.self.now.diagrams c.of.new.self c.args.self.now.table c.of.ensures.extends.keeps r.closed;
      pending = r.pending;
      judged = r.judged;
    }

pub returns-clause-looks : goal.returns-clause-looks
returns-clause-looks c =
    let env = c.args.env.now in
    let of = condition_of env c.args.t.now in
    IfOk-map (Gives c.of.new.self of) (λ n. LooksAtKinds env (condition c.of.new.self n)) (λ n g. one-Looks env of (condition c.of.new.self n) g.condition (type-Looks env c.args.t.now)) c.of.result c.of.ensures.condition
