use Rattle.check_answers.proofs.EachMadeAtom.{made-atoms-agree}
use Rattle.check_answers.proofs.laws.made_atoms_agree.Goals as goal

pub returns : goal.returns
returns g c = made-atoms-agree g.T.Types.passes
