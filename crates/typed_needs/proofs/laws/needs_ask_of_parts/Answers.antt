use Rattle.typed_needs.proofs.laws.needs_ask_of_parts.Goals as goal
use Rattle.typed_needs.proofs.Asking.{all-is-asked}
use Rattle.typed_needs.proofs.Opened.{kind-is-asked, want-is-asked}

pub returns-clause-kinds : goal.returns-clause-kinds
returns-clause-kinds g c = λ names env. kind-is-asked env g.T.Types.passes names

pub returns-clause-wants : goal.returns-clause-wants
returns-clause-wants g c = λ names env. want-is-asked env g.T.Types.passes names

pub returns-clause-more : goal.returns-clause-more
returns-clause-more g c = λ names env. all-is-asked g.T.Types.passes names env
