use Rattle.std.proofs.Common.{sym, subst}
use Rattle.type_diagrams.specs.Operations.{CanStep, IsResultOf}
use Rattle.type_diagrams.proofs.Steps.{remembers-more}
use Rattle.type_diagrams.proofs.nodes.Nodes.remember.Goals as goal

pub invariant_of-self-2 : goal.invariant_of-self-2
invariant_of-self-2 c =
    let can = subst (λ nodes. CanStep nodes c.args.step) (sym c.self.view_is) c.requires.step in
    let is = subst (λ nodes. IsResultOf nodes c.args.step nodes c.args.number) (sym c.self.view_is) c.requires.result in
    record {
      are = c.self.invariant.are;
      remembered = remembers-more c.self.inside.table.keys c.self.inside.results c.insert.new.self c.args.step c.args.number c.self.invariant.remembered can is c.in_ok-insert.ensures.updates;
    }
