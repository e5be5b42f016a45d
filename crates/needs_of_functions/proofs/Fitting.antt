-- Descriptors as types that are shared, and constants of such types.
use Rattle.std.proofs.Common.{◌≡◌, List, Option, Some, None, Result, Ok, Err, inl, inr, ⊎_elim, refl, subst, sym}
use Rattle.std.specs.Global.{Box}
use Rattle.bal_base.specs.declared.fault.Fault.{Fault}
use Rattle.bal_base.specs.declared.place.Place.{Place}
use Rattle.bal_base.specs.declared.stop.Stop.{Stop}
use Rattle.bal_base.specs.declared.stop.Stop.TheVariants.{Memory, Fault as OwnFault}
use Rattle.bal_tree.specs.declared.def.ConstDef.{ConstDef}
use Rattle.bal_tree.specs.declared.name.ConstValue.{ConstValue}
use Rattle.bal_tree.specs.declared.types.TypeTree.{TypeTree}
use Rattle.checks.specs.Checks.{Check, Comes, ◌▷◌}
use Rattle.checks.specs.Questions.{below}
use Rattle.descriptors.specs.declared.names.Names.{Names}
use Rattle.descriptors.specs.declared.names.Scope.{Scope}
use Rattle.descriptors.specs.Described.{described_whole}
use Rattle.descriptors.specs.Descriptors.{descriptor_of}
use Rattle.operations.specs.declared.operation.Constant.{Constant}
use Rattle.type_model.specs.declared.answers.TypeLimit.{TypeLimit}
use Rattle.type_model.specs.declared.atoms.AtomDef.{AtomDef}
use Rattle.type_model.specs.declared.basic.SemType.{SemType}
use Rattle.type_model.specs.declared.basic.Ty.{Ty}
use Rattle.type_model.specs.Calls.{Asked, KeepsTypes}
use Rattle.typed_tree.specs.SharedTypes.{Shared, sem_of}
use Rattle.check_words.specs.Actions.{site_now}
use Rattle.check_words.specs.Branches.{place_of_value, value_constant}
use Rattle.check_words.specs.State.{State}
use Rattle.check_words.specs.Units.{constant_fits}
use Rattle.check_words.specs.Values.{SingleOf}
use Rattle.check_words.specs.Words.{Atoms, Step, asking, some_over}
use Rattle.check_words.proofs.Coming.{given, next}
use Rattle.check_kinds.specs.Over.{ComesOver}
use Rattle.check_kinds.proofs.Over.{over-asks, over-at, over-on, over-some, over-stops}
use Rattle.needs_of_functions.specs.Constants.{described_as, value_fits}

-- two checks before a third, put together
module _ {S A B C : Type 0} (m : Check S A) (n : A → Check S B) (k : B → Check S C) (old new : S) where
  pub grouped : (r : Result C (Stop Fault)) → Comes (m ▷ λ a. n a ▷ k) old r new → Comes ((m ▷ n) ▷ k) old r new
  unfolding Comes ◌▷◌
  grouped (Ok c) (a, s, x, (b, t, y, z)) = (b, t, (a, s, x, y), z)
  grouped (Err (OwnFault f)) h =
      ⊎_elim (λ x. inl (inl x)) (λ y. ⊎_elim (λ x. inl (inr (y.0, y.1, y.2, x))) (λ z. inr (z.0, z.1, (y.0, y.1, y.2, z.2), z.3)) y.3) h
  grouped (Err Memory) h = tt

module _ (names : Names) (scope : Scope) (tree : TypeTree) (old new : Atoms) where
  pub described-over : (t : Ty) (x : Shared) → Comes (described_whole names scope (descriptor_of tree)) old (Ok t) new → x.value ≡ t → ComesOver (described_as names scope tree) old (Ok x) new
  described-over t x h is =
      over-on (asking (described_whole names scope (descriptor_of tree))) _ old new new t (Ok x) (over-asks (described_whole names scope (descriptor_of tree)) old new (Ok t) h)
      (over-some (λ env (u : Shared). u.value ≡ t) new x is)

  pub described-stops : (stop : Stop Fault) → Comes (described_whole names scope (descriptor_of tree)) old (Err stop) new → ComesOver (described_as names scope tree) old (Err stop) new
  described-stops stop h =
      over-stops (asking (described_whole names scope (descriptor_of tree))) _ old new stop (over-asks (described_whole names scope (descriptor_of tree)) old new (Err stop) h)

module _ (passes : List AtomDef → Asked → TypeLimit → Type 0) (value : ConstValue) where
  pub fits-over : (t : Shared) (v : Ty) (s : SemType) (c : Constant) (at : Place) (old new : Atoms) (r : Result (Unit {0}) (Stop Fault)) → c ≡ value_constant value → at ≡ place_of_value value
      → s ≡ sem_of t → SingleOf c old v → Comes (below passes v.sem s (Some at)) old r new → ComesOver (value_fits passes value t) old r new
  fits-over t v s c at old new r ec ea es single h =
      over-on (some_over (SingleOf (value_constant value))) _ old old new v r
      (over-some (SingleOf (value_constant value)) old v (subst (λ (x : Constant). SingleOf x old v) ec single))
      (over-asks (below passes v.sem (sem_of t) (Some (place_of_value value))) old new r
      (subst (λ (p : Place). Comes (below passes v.sem (sem_of t) (Some p)) old r new) ea (subst (λ (x : SemType). Comes (below passes v.sem x (Some at)) old r new) es h)))

  module _ (names : Names) (d : ConstDef) (o : Option (Box TypeTree)) where
    -- a constant whose type is said
    pub constant-comes : (tree : Box TypeTree) (root : TypeTree) (s : State) (new : Atoms) (r : Result (Unit {0}) (Stop Fault)) → o ≡ Some tree → root ≡ tree.value → value ≡ d.value
        → ComesOver (described_as names s.site.scope root ▷ value_fits passes value) s.atoms r new → Comes (constant_fits passes names o d) s r (record s { atoms = new })
    constant-comes tree root s new r is same own h =
        subst (λ (x : Option (Box TypeTree)). Comes (constant_fits passes names x d) s r (record s { atoms = new })) (sym is)
        (grouped site_now (λ site. described_as names site.scope tree.value) (value_fits passes d.value) s (record s { atoms = new }) r
        (next _ _ _ _ _ s.site s (given _ s s.site refl)
        (over-at (described_as names s.site.scope tree.value ▷ value_fits passes d.value) s r new
        (subst (λ (v : ConstValue). ComesOver (described_as names s.site.scope tree.value ▷ value_fits passes v) s.atoms r new) own
        (subst (λ (x : TypeTree). ComesOver (described_as names s.site.scope x ▷ value_fits passes value) s.atoms r new) same h)))))

    -- and one whose type isn't
    pub constant-free : (s : State) → o ≡ None → Comes (constant_fits passes names o d) s (Ok tt) s
    constant-free s is = subst (λ (x : Option (Box TypeTree)). Comes (constant_fits passes names x d) s (Ok tt) s) (sym is) (given _ s tt refl)

-- the same atoms behind atoms that were kept
pub kept-over : (old mid new : List AtomDef) → new ≡ mid → KeepsTypes old mid → KeepsTypes old new
kept-over old mid new e h = subst (KeepsTypes old) (sym e) h
