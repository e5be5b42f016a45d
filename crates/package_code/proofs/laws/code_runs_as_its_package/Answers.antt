use Rattle.package_code.proofs.Alike.{code-runs-as-its-package}
use Rattle.package_code.proofs.laws.code_runs_as_its_package.Goals as goal

pub returns : goal.returns
returns g c = code-runs-as-its-package g.N.Meaning.answers
