use Rattle.std.proofs.Common.{sym, subst, ap}
use Rattle.type_diagrams.specs.Tables.{Table as Diagrams}
use Rattle.subtype_decider.specs.Closed.{IsClosed}
use Rattle.subtype_decider.proofs.Grown.{Entries}
use Rattle.subtype_decider.proofs.Ends.{nothing-IsClosed, nothing-defined}
use Rattle.subtype_decider.proofs.questions.Questions.new.Goals as goal

pub returns-clause-rest : goal.returns-clause-rest
returns-clause-rest c env = record {
  defined = nothing-defined env c.new.result (ap (λ (d : Diagrams). d.nodes) c.new.ensures);
  closed = subst (λ (l : Entries). IsClosed env c.new.result l) (sym c.new-2.ensures) (nothing-IsClosed env c.new.result);
  pending = c.new-3.ensures.items;
  judged = c.new-4.ensures.items;
}
