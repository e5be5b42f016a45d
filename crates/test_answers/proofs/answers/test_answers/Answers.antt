use Rattle.std.proofs.Common.{Bool, ◌∙◌, All, List, subst, sym}
use Rattle.type_model.specs.declared.atoms.AtomDef.{AtomDef}
use Rattle.type_model.specs.Defined.{IsDefined}
use Rattle.test_answers.proofs.Answering.{atom-stops, row-more}
use Rattle.test_answers.proofs.answers.test_answers.Goals as goal

pub atom_answers-requires-clause-defined : goal.atom_answers-requires-clause-defined
atom_answers-requires-clause-defined g c = subst (λ (env : List AtomDef). All (IsDefined env) c.args.tested.now) (sym c.loop-atom.invariant.0) c.requires.defined

pub loop-atom-preserved : goal.loop-atom-preserved
loop-atom-preserved g c = (
  c.atom_answers.ensures.atoms ∙ c.loop-atom.invariant.0,
  row-more (g.T.Types.atoms c.args.types.now) (g.T.Types.atoms c.loop-atom.types) c.loop-atom.invariant.0 c.args.tested.now c.args.inherent.now c.loop-atom.atom-index _ c.loop-atom-test.true c.loop-atom.rows.items _
      c.in_ok-row.row c.loop-atom.invariant.1 c.in_ok-row.ensures.answers c.in_ok-push.ensures.items,
)

pub returns-in_err-row-clause-limit : goal.returns-in_err-row-clause-limit
returns-in_err-row-clause-limit g c =
    atom-stops (g.T.Types.atoms c.args.types.now) (g.T.Types.atoms c.loop-atom.types) c.loop-atom.invariant.0 c.args.tested.now c.args.inherent.now c.loop-atom.atom-index _ c.loop-atom-test.true
    g.T.Types.passes (List Bool) _ _ _ c.from_residual.ensures c.in_err-row.ensures.limit
