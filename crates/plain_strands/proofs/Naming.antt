-- The strands that a wait names.
use Rattle.std.proofs.Common.{◌≡◌, List, [], ◌∷◌, ◌++◌, Option, Some, None, refl, sym, ap}
use Rattle.std.specs.Prelude.{option_map}
use Rattle.std.proofs.lemmas.List.{append-nil, map-append}
use Rattle.op_model.specs.Waits.{Target, with_target}
use Rattle.plain_run.proofs.Lists.{append-one}

pub target-more : (found : List Target) (t : Target) (o : Option (List Target)) → option_map (λ more. found ++ more) (with_target (Some t) o) ≡ option_map (λ more. (found ++ t ∷ []) ++ more) o
target-more found t None = refl
target-more found t (Some more) = ap Some (sym (append-one found t more))

pub ruleset naming = (target-more, append-nil, append-one, map-append)
