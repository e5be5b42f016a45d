-- What is asked of the parts of marked shapes.
use Rattle.std.proofs.Common.{◌≡◌, ℕ, List, [], ◌∷◌, ◌++◌, Bool, true, false, ◌&&◌, if◌then◌else◌, refl, sym, subst, append-nil}
use Rattle.bal_base.specs.declared.shape.Shape.{Shape, Nil, Bool as BoolShape, Int, Str, List', Mapping', Error', Function, Future'}
use Rattle.type_model.specs.declared.atoms.AtomDef.{AtomDef}
use Rattle.type_model.specs.declared.basic.SemType.{Basic}
use Rattle.type_model.specs.declared.basic.BasicSet.TheVariants.{Readonly, ErrorAll, FunctionAll}
use Rattle.type_diagrams.specs.declared.kind.Kind.{Kind}
use Rattle.type_diagrams.specs.declared.kind.Kind.TheVariants.{List as Lists, Mapping as Mappings, Error as Errors, Function as Functions, Future as Futures}
use Rattle.type_diagrams.specs.Kinds.{IsSimple, the_mark}
use Rattle.type_diagrams.specs.Conditions.{Condition, AreOne, condition_of, without, frozen, asks, is_frozen_at}
use Rattle.type_diagrams.specs.Tables.{Table, condition}
use Rattle.type_diagrams.specs.Whole.{Keeps, Gives}
use Rattle.type_diagrams.specs.declared.operation.Operation.TheVariants.{Without}
use Rattle.type_diagrams.proofs.Keeping.{keeps-further}
use Rattle.type_diagrams.proofs.Shapes.{gives-keeps, combined-Gives}
use Rattle.type_diagrams.proofs.Asking.{asks_one_more}
use Rattle.type_diagrams.proofs.AskedDiagrams.{gives_as}
use Rattle.empty_product.specs.Bases.{frozen_where}

module _ (env : List AtomDef) where
  abbrev without_both : Condition
  without_both = without (without (condition_of env (Basic Readonly)) (condition_of env (Basic ErrorAll))) (condition_of env (Basic FunctionAll))

  alone : (b : Bool) → ((b && true) && true) ≡ b
  alone true = refl
  alone false = refl

  simple-frozen : (x : Shape) → IsSimple x → without_both.simple x ≡ true
  simple-frozen Nil s = refl
  simple-frozen (BoolShape b) s = refl
  simple-frozen (Int i) s = refl
  simple-frozen (Str t) s = refl
  simple-frozen (List' mark size items) s = cc
  simple-frozen (Mapping' mark size fields) s = cc
  simple-frozen (Error' size detail) s = cc
  simple-frozen (Function isolated graph) s = cc
  simple-frozen (Future' size results) s = cc

  kind-frozen : (k : Kind) (v : ℕ → Bool) → without_both.by_kind k v ≡ is_frozen_at k v
  kind-frozen Lists v = alone (v the_mark)
  kind-frozen Mappings v = alone (v the_mark)
  kind-frozen Errors v = refl
  kind-frozen Functions v = refl
  kind-frozen Futures v = refl

  without_both-frozen : AreOne without_both frozen
  without_both-frozen = record { simple = λ x s v. simple-frozen x s; by_kind = kind-frozen }

  -- the diagram of read-only shapes, without that of errors and that of functions
  pub frozen-Gives : (a b c d e : Table) (readonly errors functions without_errors n : ℕ) → Keeps a b → Keeps b c → Keeps c d
      → Gives a (condition_of env (Basic Readonly)) readonly → Gives b (condition_of env (Basic ErrorAll)) errors → Gives c (condition_of env (Basic FunctionAll)) functions
      → Gives d (without (condition c readonly) (condition c errors)) without_errors → Gives e (without (condition d without_errors) (condition d functions)) n → Gives e frozen n
  frozen-Gives a b c d e readonly errors functions without_errors n ab bc cd gr ge gf gw gn =
      let r = gives-keeps a c (condition_of env (Basic Readonly)) readonly (keeps-further a b c ab bc) gr in
      let w = combined-Gives c d Without (condition_of env (Basic Readonly)) (condition_of env (Basic ErrorAll)) readonly errors without_errors r (gives-keeps b c (condition_of env (Basic ErrorAll)) errors bc ge) gw in
      gives_as e without_both frozen n without_both-frozen
      (combined-Gives d e Without (without (condition_of env (Basic Readonly)) (condition_of env (Basic ErrorAll))) (condition_of env (Basic FunctionAll)) without_errors functions n w
      (gives-keeps c d (condition_of env (Basic FunctionAll)) functions cd gf) gn)

-- what is wanted of a part, and that it may stand in marked shapes where these are marked
pub frozen_where_asks : (marked : Bool) (c : Condition) (cs : List Condition) → AreOne c (asks cs []) → AreOne (frozen_where marked c) (asks (cs ++ (if marked then frozen ∷ [] else [])) [])
frozen_where_asks true c cs e = asks_one_more c cs frozen e
frozen_where_asks false c cs e = subst (λ ds. AreOne c (asks ds [])) (sym (append-nil cs)) e
