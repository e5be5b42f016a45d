-- What the front comes to of a package without a public `main`.
use Rattle.std.proofs.Common.{◌≡◌, [], false, subst, ⊎_elim}
use Rattle.bal_base.specs.declared.fault.Fault.{Fault}
use Rattle.bal_tree.specs.declared.package.Package.{Package}
use Rattle.checks.specs.Checks.{Gives, Refuses, either, gives, refuses, ◌▷◌}
use Rattle.compile_front.specs.Front.{front_of}
use Rattle.compile_front.specs.Mains.{has_main, no_main}
use Rattle.compile_front.specs.declared.accepting.Accepted.{Accepted}
use Rattle.descriptors.specs.Described.{Atoms}
use Rattle.type_diagrams.specs.Reach.{Passes}

module _ (whole : Package) (lacks : has_main whole ≡ false) (atoms : Atoms) where
  none-given : (u : Unit {0}) (mid : Atoms) → either (has_main whole) (gives tt) (refuses (λ env f. f ≡ no_main)) [] (Gives u) mid → ⊥
  unfolding refuses
  none-given u mid h = subst (λ b. either b (gives tt) (refuses (λ env f. f ≡ no_main)) [] (Gives u) mid) lacks h

  -- it accepts none
  pub front-lacks : (accepted : Accepted) → front_of Passes whole [] (Gives accepted) atoms → ⊥
  unfolding front_of ◌▷◌
  front-lacks accepted h = none-given h.0 h.1 h.2

  -- it refuses it for that alone
  pub fault-lacks : (fault : Fault) → front_of Passes whole [] (Refuses fault) atoms → fault ≡ no_main
  unfolding front_of ◌▷◌ refuses
  fault-lacks fault h =
      ⊎_elim
      (λ k. (subst (λ b. either b (gives tt) (refuses (λ env f. f ≡ no_main)) [] (Refuses fault) atoms) lacks k).0)
      (λ k. absurd (none-given k.0 k.1 k.2))
      h
