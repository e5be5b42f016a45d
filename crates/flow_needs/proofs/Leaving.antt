-- What a test for nil, or for errors, leaves of a type: there is a type of just the values that pass, and one of those that fail.
use Rattle.std.proofs.Common.{◌≡◌, true, false, List, refl, sym, subst}
use Rattle.std.specs.Ptr.{null_ptr}
use Rattle.bal_base.specs.declared.shape.Shape.{Shape, Nil, Bool as BoolShape, Int, Str, List', Mapping', Error', Function, Future'}
use Rattle.bal_base.specs.Valid.{IsValid}
use Rattle.type_model.specs.declared.atoms.AtomDef.{AtomDef}
use Rattle.type_model.specs.declared.basic.SemType.{SemType, And', Not'}
use Rattle.type_model.specs.Membership.{In}
use Rattle.operations.specs.Kinds.{IsError, IsNil}
use Rattle.flow_narrowing.specs.Narrowed.{MayFail, Part, Plain, Lists, Mappings, Functions, Futures, part_of}
use Rattle.eval_model.specs.Expressions.{error_type, nil_type}
use Rattle.tree_promises.specs.Flows.{LeavesFalse, LeavesTrue}

-- the values of both, and those of the first that aren't of the second
abbrev pub both_of : SemType → SemType → SemType
both_of s t = And' (record { ptr = null_ptr; alloc = record { memory = _ }; value = tt }) s (record { ptr = null_ptr; alloc = record { memory = _ }; value = tt }) t

abbrev pub rest_of : SemType → SemType → SemType
rest_of s t = both_of s (Not' (record { ptr = null_ptr; alloc = record { memory = _ }; value = tt }) t)

module _ (env : List AtomDef) where
  not-of : (s t : SemType) (x : Shape) (part : Part) → IsValid x → part_of x ≡ part → In env x s → (¬ In env x t) → MayFail env s t x part
  not-of s t x Plain valid is i none = none
  not-of s t x (Lists false) valid is i none = λ lies. none (lies x valid is i)
  not-of s t x (Lists true) valid is i none = λ lies j. none j
  not-of s t x (Mappings false) valid is i none = λ lies. none (lies x valid is i)
  not-of s t x (Mappings true) valid is i none = λ lies j. none j
  not-of s t x Functions valid is i none = λ lies. none (lies x valid is i)
  not-of s t x Futures valid is i none = λ lies. none (lies x valid is i)

  pub leaves-true : (s t : SemType) → LeavesTrue env s t (both_of s t)
  leaves-true s t x valid = ((λ i. (i.0, i.1)), (λ i. (i.0, i.1)))

  -- each value of it stands for one shape
  pub leaves-false : (s t : SemType) → ((x : Shape) → In env x t → part_of x ≡ Plain) → LeavesFalse env s t (rest_of s t)
  leaves-false s t single x valid = (
    (λ i. (i.0, not-of s t x (part_of x) valid refl i.0 i.1)),
    (λ i. (i.0, (λ j. (subst (λ p. MayFail env s t x p) (single x j) i.1) j))),
  )

  -- ---- nil

  pub nil-single : (x : Shape) → In env x nil_type → part_of x ≡ Plain
  nil-single Nil i = refl
  nil-single (BoolShape b) i = refl
  nil-single (Int n) i = refl
  nil-single (Str t) i = refl
  nil-single (List' mark _ items) i = absurd i
  nil-single (Mapping' mark _ fields) i = absurd i
  nil-single (Error' _ detail) i = refl
  nil-single (Function isolated graph) i = absurd i
  nil-single (Future' _ results) i = absurd i

  pub nil-in : (x : Shape) → IsNil x → In env x nil_type
  nil-in x is = subst (λ y. In env y nil_type) (sym is) tt

  -- ---- errors

  pub error-single : (x : Shape) → In env x error_type → part_of x ≡ Plain
  error-single Nil i = refl
  error-single (BoolShape b) i = refl
  error-single (Int n) i = refl
  error-single (Str t) i = refl
  error-single (List' mark _ items) i = absurd i
  error-single (Mapping' mark _ fields) i = absurd i
  error-single (Error' _ detail) i = refl
  error-single (Function isolated graph) i = absurd i
  error-single (Future' _ results) i = absurd i

  pub error-in : (x : Shape) → IsError x → In env x error_type
  error-in Nil is = is
  error-in (BoolShape b) is = is
  error-in (Int n) is = is
  error-in (Str t) is = is
  error-in (List' mark _ items) is = is
  error-in (Mapping' mark _ fields) is = is
  error-in (Error' _ detail) is = is
  error-in (Function isolated graph) is = is
  error-in (Future' _ results) is = is
