-- Types that several nodes have.
use Rattle.std.specs.declared.rc.Rc.{Rc}
use Rattle.std.specs.Global.{Global}
use Rattle.type_model.specs.declared.basic.Ty.{Ty}
use Rattle.type_model.specs.declared.basic.SemType.{SemType}

abbrev pub Shared : Type 0
Shared = Rc Ty Global

-- the type as a set of shapes
abbrev pub sem_of : Shared → SemType
sem_of t = t.value.sem
