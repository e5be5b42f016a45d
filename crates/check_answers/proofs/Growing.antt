-- Twins stay twins where atoms are added.
use Rattle.std.proofs.Common.{◌++◌, List, length, length-append, arith}
use Rattle.checks.specs.Agreement.{AreTwins}
use Rattle.type_model.specs.declared.atoms.AtomDef.{AtomDef}
use Rattle.type_model.specs.declared.basic.SemType.{SemType}
use Rattle.type_model.specs.declared.basic.Ty.{Ty}
use Rattle.type_model.specs.Defined.{IsClosed, IsDefined, TyBelow}
use Rattle.type_model.proofs.DefinedLaws.{TyBelow-more}
use Rattle.type_model.proofs.Laws.{In-append}
use Rattle.check_answers.specs.TwinTypes.{SettledTwins}

module _ (m n more others : List AtomDef) (first : IsClosed m) (second : IsClosed n) where
  pub sem-later : (s t : SemType) → IsDefined m s → IsDefined n t → AreTwins m s n t → AreTwins (m ++ more) s (n ++ others) t
  sem-later s t ds dt h x valid = (
    λ i. (In-append n others second x t dt).0 ((h x valid).0 ((In-append m more first x s ds).1 i)),
    λ i. (In-append m more first x s ds).0 ((h x valid).1 ((In-append n others second x t dt).1 i)),
  )

  below-later : (env group : List AtomDef) (t : Ty) → TyBelow (length env) t → TyBelow (length (env ++ group)) t
  below-later env group t h = TyBelow-more (length env) (length (env ++ group)) (omega (arith, length-append env group)) t h

  pub settled-later : (s t : Ty) → SettledTwins m n s t → SettledTwins (m ++ more) (n ++ others) s t
  settled-later s t h =
      record {
        twins = record { shapes = sem-later s.sem t.sem h.first.0 h.second.0 h.twins.shapes; lists = h.twins.lists; maps = h.twins.maps };
        first = below-later m more s h.first;
        second = below-later n others t h.second;
      }
