-- What a test leaves of a type, as answers of calls.
use Rattle.std.proofs.Common.{◌≡◌, List, Result, Ok, Err, refl, subst}
use Rattle.bal_base.specs.declared.fault.Fault.{Fault}
use Rattle.bal_base.specs.declared.place.Place.{Place}
use Rattle.bal_base.specs.declared.stop.Stop.{Stop}
use Rattle.checks.specs.Checks.{Comes, gives}
use Rattle.flow_narrowing.specs.Narrowed.{WhereTrue}
use Rattle.type_model.specs.declared.answers.TypeLimit.{TypeLimit}
use Rattle.type_model.specs.declared.atoms.AtomDef.{AtomDef}
use Rattle.type_model.specs.declared.basic.Ty.{Ty}
use Rattle.type_model.specs.Calls.{Asked}
use Rattle.typed_tree.specs.SharedTypes.{Shared}
use Rattle.check_words.specs.Joins.{narrows_to, where_false}
use Rattle.check_words.specs.Words.{Atoms, asking, some_over}
use Rattle.check_kinds.specs.Over.{ComesOver}
use Rattle.check_kinds.proofs.Over.{over-asks, over-on, over-some, over-stops}

-- of types that are the same
pub true-of : (env : Atoms) (a b c d u : Ty) → a ≡ c → b ≡ d → WhereTrue env a b u → WhereTrue env c d u
true-of env a b c d u e f h = subst (λ y. WhereTrue env c y u) f (subst (λ x. WhereTrue env x b u) e h)

pub false-of : (passes : List AtomDef → Asked → TypeLimit → Type 0) (at : Place) (old new : Atoms) (a b c d : Ty) (r : Result Shared (Stop Fault)) → a ≡ c → b ≡ d
    → Comes (where_false passes a b at) old r new → Comes (where_false passes c d at) old r new
false-of passes at old new a b c d r e f h = subst (λ y. Comes (where_false passes c y at) old r new) f (subst (λ x. Comes (where_false passes x b at) old r new) e h)

module _ (passes : List AtomDef → Asked → TypeLimit → Type 0) (s t : Shared) (at : Place) (old mid new : Atoms) (e : mid ≡ old) (yes : Shared) where
  -- where it was asked over atoms that are the same
  pub narrows-both : (rest : Shared) → WhereTrue old s.value t.value yes.value → Comes (where_false passes s.value t.value at) mid (Ok rest) new
      → ComesOver (narrows_to passes s t at) old (Ok (yes, rest)) new
  narrows-both rest is h =
      over-on (some_over (λ env (u : Shared). WhereTrue env s.value t.value u.value)) _ old old new yes (Ok (yes, rest)) (over-some _ old yes is)
      (over-on (asking (where_false passes s.value t.value at)) (λ n. gives (yes, n)) old new new rest (Ok (yes, rest))
      (over-asks (where_false passes s.value t.value at) old new (Ok rest) (subst (λ o. Comes (where_false passes s.value t.value at) o (Ok rest) new) e h))
      (over-some (λ env p. p ≡ (yes, rest)) new (yes, rest) refl))

  pub narrows-stops : (stop : Stop Fault) → WhereTrue old s.value t.value yes.value → Comes (where_false passes s.value t.value at) mid (Err stop) new
      → ComesOver (narrows_to passes s t at) old (Err stop) new
  narrows-stops stop is h =
      over-on (some_over (λ env (u : Shared). WhereTrue env s.value t.value u.value)) _ old old new yes (Err stop) (over-some _ old yes is)
      (over-stops (asking (where_false passes s.value t.value at)) (λ n. gives (yes, n)) old new stop
      (over-asks (where_false passes s.value t.value at) old new (Err stop) (subst (λ o. Comes (where_false passes s.value t.value at) o (Err stop) new) e h)))
