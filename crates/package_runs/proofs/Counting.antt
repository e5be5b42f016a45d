-- What was counted of two objects.
use Rattle.std.proofs.Common.{◌≡◌, ℕ, List, Option, subst, sym}
use Rattle.std.specs.Prelude.{Result}
use Rattle.bal_base.specs.declared.stop.Stop.{Stop}
use Rattle.package_runs.specs.Outside.{CountsRunFaults, outside}
use Rattle.package_runs.specs.declared.accepted.RunFault.{RunFault}

-- no call on the input failed before
pub counts-behind : {A : Type 0} (n m : ℕ) (old new : Option (List ℕ)) (o : ℕ) (w : Option (List ℕ)) (q : ℕ) (v : Option (List ℕ)) (r : Result A (Stop RunFault)) → m ≡ n → CountsRunFaults (outside n old o w) (outside n new q v) r → CountsRunFaults (outside n old o w) (outside m new q v) r
counts-behind n m old new o w q v r same h = subst (λ k. CountsRunFaults (outside n old o w) (outside k new q v) r) (sym same) h
