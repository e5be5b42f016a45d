use Rattle.std.proofs.Common.{ℕ, List, [], arith, sym, subst}
use Rattle.bal_tree.specs.declared.types.BuiltinType.TheVariants.{Any, Boolean}
use Rattle.type_model.specs.declared.atoms.AtomDef.{AtomDef}
use Rattle.type_model.specs.Defined.{TyBelow}
use Rattle.type_model.proofs.DefinedLaws.{TyBelow-more}
use Rattle.descriptors.specs.Described.{IsBuiltin, IsCopy}
use Rattle.type_model.specs.Anydata.{IsAnydata}
use Rattle.descriptors.specs.Drafts.{AreNamesBelow}
use Rattle.descriptors.specs.Steps.{AreOwnTypes}
use Rattle.descriptors.proofs.Yielding.{weaker, copy-below, copy-means}
use Rattle.descriptors.proofs.own.builtin_type.Goals as goal

pub returns-in-Boolean-clause-is : goal.returns-in-Boolean-clause-is
returns-in-Boolean-clause-is c =
    weaker c.boolean.result (λ t. (env : List AtomDef) → IsBuiltin Boolean env t) (λ t. (env : List AtomDef) → AreOwnTypes env c.args.names.now.own → IsBuiltin c.args.builtin env t) c.boolean.ensures.is (λ t h env names. subst (λ b. IsBuiltin b env t) (sym c.in-Boolean.is) (h env))

pub returns-in-Boolean-clause-defined : goal.returns-in-Boolean-clause-defined
returns-in-Boolean-clause-defined c =
    weaker c.boolean.result (TyBelow 0) (λ t. (n : ℕ) → AreNamesBelow c.args.names.now n → TyBelow n t) c.boolean.ensures.defined (λ t h n below. TyBelow-more 0 n (omega arith) t h)

pub returns-in-Any-clause-is : goal.returns-in-Any-clause-is
returns-in-Any-clause-is c =
    weaker c.any.result (λ t. (env : List AtomDef) → IsBuiltin Any env t) (λ t. (env : List AtomDef) → AreOwnTypes env c.args.names.now.own → IsBuiltin c.args.builtin env t) c.any.ensures.is (λ t h env names. subst (λ b. IsBuiltin b env t) (sym c.in-Any.is) (h env))

pub returns-in-Any-clause-defined : goal.returns-in-Any-clause-defined
returns-in-Any-clause-defined c =
    weaker c.any.result (TyBelow 0) (λ t. (n : ℕ) → AreNamesBelow c.args.names.now n → TyBelow n t) c.any.ensures.defined (λ t h n below. TyBelow-more 0 n (omega arith) t h)

pub returns-in-AnyData-clause-is : goal.returns-in-AnyData-clause-is
returns-in-AnyData-clause-is c =
    weaker c.copy.result (IsCopy c.args.names.now.own.anydata) (λ t. (env : List AtomDef) → AreOwnTypes env c.args.names.now.own → IsBuiltin c.args.builtin env t)
    c.copy.ensures (λ t h env own. subst (λ b. IsBuiltin b env t) (sym c.in-AnyData.is) (copy-means IsAnydata [] [] env c.args.names.now.own.anydata t h own.anydata))

pub returns-in-AnyData-clause-defined : goal.returns-in-AnyData-clause-defined
returns-in-AnyData-clause-defined c =
    weaker c.copy.result (IsCopy c.args.names.now.own.anydata) (λ t. (n : ℕ) → AreNamesBelow c.args.names.now n → TyBelow n t) c.copy.ensures
    (λ t h n below. copy-below n c.args.names.now.own.anydata t h below.anydata)
