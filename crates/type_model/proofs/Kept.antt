-- Types keep their meaning where atoms are added.
use Rattle.std.proofs.Common.{◌≤◌, ◌++◌, List, length, length-append, arith}
use Rattle.type_model.specs.declared.atoms.AtomDef.{AtomDef}
use Rattle.type_model.specs.Defined.{IsEnv}
use Rattle.type_model.specs.Calls.{KeepsTypes}
use Rattle.type_model.proofs.DefinedLaws.{NamesBelow-more}
use Rattle.type_model.proofs.Laws.{In-append}
use Rattle.type_model.proofs.Same.{itself}

pub KeepsTypes-append : (env more : List AtomDef) → IsEnv env → KeepsTypes env (env ++ more)
KeepsTypes-append env more e =
    let le : length env ≤ length (env ++ more) = omega (arith, length-append env more) in record {
      defined = λ t h. NamesBelow-more (length env) (length (env ++ more)) le t h;
      shapes = λ t h x. In-append env more e.closed x t h;
    }

pub KeepsTypes-same : (env : List AtomDef) → KeepsTypes env env
KeepsTypes-same env = record { defined = λ t h. h; shapes = λ t h x. itself }
