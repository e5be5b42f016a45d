-- How what each step answers goes on to the whole front.
use Rattle.std.proofs.lemmas.Bool.{false≢true}
use Rattle.std.proofs.Common.{◌≡◌, Bool, true, false, List, inl, inr, refl, subst, sym}
use Rattle.std.specs.Prelude.{IfOk, Result, Ok, Err}
use Rattle.bal_base.specs.declared.fault.Fault.{Fault}
use Rattle.bal_base.specs.declared.stop.Stop.{Stop}
use Rattle.bal_base.specs.declared.stop.Stop.TheVariants.{Fault as OwnFault}
use Rattle.bal_tree.specs.declared.package.Package.{Package}
use Rattle.checks.specs.Checks.{Check, Comes, gives, refuses}
use Rattle.checks.proofs.Steps.{goes_on, ran_out, some_is, stops}
use Rattle.compile_front.specs.Front.{checked_over, front_of, isolated_over, named_over, planned_over}
use Rattle.compile_front.specs.Mains.{asks_main, has_main, no_main, no_main_unless}
use Rattle.compile_front.specs.Told.{IsTold}
use Rattle.compile_front.specs.declared.accepting.Accepted.{Accepted}
use Rattle.descriptors.specs.Described.{Atoms}
use Rattle.descriptors.specs.declared.names.Names.{Names}
use Rattle.isolation_check.specs.Walk.{isolated}
use Rattle.package_checks.specs.Checked.{checked_package}
use Rattle.package_plans.specs.Planned.{package_plans}
use Rattle.package_plans.specs.declared.planning.PackagePlans.{PackagePlans}
use Rattle.type_builder.specs.MainInPlace.{built}
use Rattle.type_model.specs.declared.answers.TypeLimit.{TypeLimit}
use Rattle.type_model.specs.declared.atoms.AtomDef.{AtomDef}
use Rattle.type_model.specs.Calls.{Asked}
use Rattle.typed_tree.specs.declared.package.TypedPackage.{TypedPackage}

-- the answer of a call that is this one
came-as : {S A : Type 0} (m : Check S A) (old new : S) (r q : Result A (Stop Fault)) → r ≡ q → Comes m old r new → Comes m old q new
came-as m old new r q e h = subst (λ x. Comes m old x new) e h

lacks : (b : Bool) → b ≡ false → (env : Atoms) → Comes (no_main_unless b) env (Err (OwnFault no_main)) env
unfolding Comes refuses
lacks true e env = absurd (false≢true (sym e))
lacks false e env = (refl, refl)

has : (b : Bool) → b ≡ true → (env : Atoms) → Comes (no_main_unless b) env (Ok tt) env
has true e env = some_is (λ (old : Atoms) (a : Unit {0}). a ≡ tt) env env tt refl refl
has false e env = absurd (false≢true e)

module _ (passes : List AtomDef → Asked → TypeLimit → Type 0) where
  -- ---- messages

  module _ (names : Names) (t : TypedPackage) (old new : Atoms) (r : Result PackagePlans (Stop Fault)) (came : Comes (package_plans passes t) old r new) where
    abbrev whole : PackagePlans → Accepted
    whole plans = record { names = names; «package» = t; plans = plans }

    abbrev last : PackagePlans → Check Atoms Accepted
    last plans = gives (whole plans)

    pub planned-stops : (stop : Stop Fault) → r ≡ Err stop → Comes (planned_over passes names t) old (Err stop) new
    planned-stops stop e = stops (package_plans passes t) last old new stop (came-as (package_plans passes t) old new r (Err stop) e came)

    pub planned-gives : (plans : PackagePlans) → r ≡ Ok plans → Comes (planned_over passes names t) old (Ok (whole plans)) new
    planned-gives plans e =
        goes_on (package_plans passes t) last old new new plans (Ok (whole plans)) (came-as (package_plans passes t) old new r (Ok plans) e came)
        (some_is (λ env a. a ≡ whole plans) new new (whole plans) refl refl)

  -- ---- isolation

  module _ (names : Names) (t : TypedPackage) (old mid : Atoms) (r : Result (Unit {0}) (Stop Fault)) (came : Comes (isolated passes names.own t) old r mid) where
    abbrev then-plans : Unit {0} → Check Atoms Accepted
    then-plans u = planned_over passes names t

    pub isolated-stops : (stop : Stop Fault) → r ≡ Err stop → Comes (isolated_over passes names t) old (Err stop) mid
    isolated-stops stop e = stops (isolated passes names.own t) then-plans old mid stop (came-as (isolated passes names.own t) old mid r (Err stop) e came)

    pub isolated-goes : (q : Result Accepted (Stop Fault)) (new : Atoms) → r ≡ Ok tt → Comes (planned_over passes names t) mid q new → Comes (isolated_over passes names t) old q new
    isolated-goes q new e h = goes_on (isolated passes names.own t) then-plans old mid new tt q (came-as (isolated passes names.own t) old mid r (Ok tt) e came) h

  module _ (p : Package) where
    -- ---- the bodies

    module _ (names : Names) (old mid : Atoms) (r : Result TypedPackage (Stop Fault)) (came : Comes (checked_package passes names p) old r mid) where
      pub checked-stops : (stop : Stop Fault) → r ≡ Err stop → Comes (checked_over passes p names) old (Err stop) mid
      checked-stops stop e = stops (checked_package passes names p) (isolated_over passes names) old mid stop (came-as (checked_package passes names p) old mid r (Err stop) e came)

      pub checked-goes : (t : TypedPackage) (q : Result Accepted (Stop Fault)) (new : Atoms) → r ≡ Ok t → Comes (isolated_over passes names t) mid q new → Comes (checked_over passes p names) old q new
      checked-goes t q new e h =
          goes_on (checked_package passes names p) (isolated_over passes names) old mid new t q (came-as (checked_package passes names p) old mid r (Ok t) e came) h

    -- ---- the names

    module _ (old mid : Atoms) (r : Result Names (Stop Fault)) (came : Comes (built passes p) old r mid) where
      pub named-stops : (stop : Stop Fault) → r ≡ Err stop → Comes (named_over passes p) old (Err stop) mid
      unfolding named_over
      named-stops stop e = stops (built passes p) (checked_over passes p) old mid stop (came-as (built passes p) old mid r (Err stop) e came)

      pub named-goes : (names : Names) (q : Result Accepted (Stop Fault)) (new : Atoms) → r ≡ Ok names → Comes (checked_over passes p names) mid q new → Comes (named_over passes p) old q new
      unfolding named_over
      named-goes names q new e h =
          goes_on (built passes p) (checked_over passes p) old mid new names q (came-as (built passes p) old mid r (Ok names) e came) h

    -- ---- `main`

    abbrev then-names : Unit {0} → Check Atoms Accepted
    then-names u = named_over passes p

    pub main-lacks : (old : Atoms) → has_main p ≡ false → Comes (front_of passes p) old (Err (OwnFault no_main)) old
    unfolding front_of
    main-lacks old e = stops (asks_main p) then-names old old (OwnFault no_main) (lacks (has_main p) e old)

    pub main-goes : (q : Result Accepted (Stop Fault)) (old new : Atoms) → has_main p ≡ true → Comes (named_over passes p) old q new → Comes (front_of passes p) old q new
    unfolding front_of
    main-goes q old new e h = goes_on (asks_main p) then-names old old new tt q (has (has_main p) e old) h

    -- ---- as it is told

    pub told-comes : (old new : Atoms) (r q : Result Accepted (Stop Fault)) → Comes (front_of passes p) old r new → IsTold r q → Comes (front_of passes p) old q new
    told-comes old new r q h (inl same) = subst (λ x. Comes (front_of passes p) old x new) (sym same) h
    told-comes old new r q h (inr none) = subst (λ x. Comes (front_of passes p) old x new) (sym none) (ran_out (front_of passes p) old new)

-- what holds of what is accepted holds of it as it is told
pub told-ok : (P : Accepted → Type 0) (r q : Result Accepted (Stop Fault)) → IfOk r P → IsTold r q → IfOk q P
told-ok P r q h (inl same) = subst (λ x. IfOk x P) (sym same) h
told-ok P r q h (inr none) = subst (λ x. IfOk x P) (sym none) tt
