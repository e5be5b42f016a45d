use Rattle.std.proofs.Common.{List, subst, sym}
use Rattle.checks.specs.Checks.{Comes}
use Rattle.type_model.specs.declared.atoms.AtomDef.{AtomDef}
use Rattle.check_members.specs.Only.{IsCandidate, only_shape}
use Rattle.check_members.proofs.OnlyShapes.{found, search-stops}
use Rattle.check_members.proofs.only.only_shape.Goals as goal

pub settled-requires-clause-candidate : goal.settled-requires-clause-candidate
settled-requires-clause-candidate g c =
    subst (λ (env : List AtomDef). IsCandidate env c.args.t.now c.candidate.result) (sym c.has_shape.ensures.atoms)
    (subst (IsCandidate (g.T.Types.atoms c.args.types.now) c.args.t.now) (sym c.candidate.ensures) (found (g.T.Types.atoms c.args.types.now) c.args.t.now c.in-Ok.found c.in-Ok.ensures.found))

pub returns-in-Ok-clause-comes : goal.returns-in-Ok-clause-comes
returns-in-Ok-clause-comes g c =
    subst (λ (env : List AtomDef). Comes (only_shape g.T.Types.passes c.args.t.now c.args.at) env c.settled.result (g.T.Types.atoms c.settled.new.types)) c.has_shape.ensures.atoms
    c.settled.ensures.comes

pub returns-in-Err-clause-comes : goal.returns-in-Err-clause-comes
returns-in-Err-clause-comes g c =
    search-stops g.T.Types.passes c.args.t.now c.args.at (g.T.Types.atoms c.args.types.now) (g.T.Types.atoms c.has_shape.new.self) c.in-Err.stop c.too_large.result
    c.has_shape.ensures.atoms c.too_large.ensures c.in-Err.ensures.limit
