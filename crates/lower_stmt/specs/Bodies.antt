-- What a unit does, as a reference to its part of the tree.
use Rattle.typed_tree.specs.Units.{UnitBody, OfFunction, OfWorker, OfAnonymous, OfInitialiser}
use Rattle.lower_stmt.specs.declared.units.Body.{Body}
use Rattle.lower_stmt.specs.declared.units.Body.TheVariants.{Function, Worker, Anonymous, Initialiser}

abbrev pub body_of : Body → UnitBody
body_of (Function b) = OfFunction b.now
body_of (Worker w) = OfWorker w.now.stmts.items w.now.ends
body_of (Anonymous e) = OfAnonymous e.now
body_of (Initialiser is) = OfInitialiser is.now
