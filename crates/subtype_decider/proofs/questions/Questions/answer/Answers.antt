use Rattle.std.proofs.Common.{refl}
use Rattle.type_diagrams.specs.Tables.{condition}
use Rattle.type_diagrams.specs.Reach.{first}
use Rattle.subtype_decider.proofs.questions.Questions.answer.Goals as goal

pub enter-requires-clause-leads : goal.enter-requires-clause-leads
enter-requires-clause-leads g c = first (condition c.args.self.now.diagrams c.args.call.now.first) (record { simple = λ x is valid. refl; by_kind = λ k v. refl })
