use Rattle.std.specs.Option.{option_copied}
use Rattle.subtype_decider.proofs.Ends.{told-FindsShapeOf, known-unknown}
use Rattle.subtype_decider.proofs.questions.Questions.shape.Goals as goal

pub returns-in-Some : goal.returns-in-Some
returns-in-Some c env rest =
    told-FindsShapeOf env c.args.self.now.diagrams c.args.self.now.table c.args.question (option_copied c.in-Some.shape) rest.closed c.in-Some.ensures

pub returns-in-None : goal.returns-in-None
returns-in-None c env rest = absurd (known-unknown c.args.self.now.table c.args.question c.requires c.in-None.ensures)
