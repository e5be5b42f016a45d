-- The operands of each row of the library: how many there are, and what they are.
use Rattle.std.proofs.Common.{◌≡◌, ◌≤◌, ◌∙◌, ◌++◌, ◌+◌, inl, inr, ℕ, suc, Bool, true, false, List, [], ◌∷◌, length, map, All, Option, Some, None, arith, refl, sym, subst, ap}
use Rattle.std.specs.Prelude.{◌⊎◌, ◌||◌, nat_le, ⊤}
use Rattle.std.proofs.lemmas.Bool.{and_parts, leb-true}
use Rattle.std.proofs.lemmas.List.Elements.{All-cons, All-nil}
use Rattle.bal_base.specs.declared.shape.Shape.{Shape}
use Rattle.operations.specs.declared.library.LibraryCall.{LibraryCall}
use Rattle.operations.specs.declared.library.LibraryCall.TheVariants.{Push}
use Rattle.operations.specs.Kinds.{IsInteger}
use Rattle.operations.specs.LibraryTyping.{AtIndexes, PartOf as PartsOf}
use Rattle.operations.specs.Rows.{IsWithin}
use Rattle.type_model.specs.declared.answers.Keys.TheVariants.{AnyIndex}
use Rattle.type_model.specs.declared.atoms.AtomDef.{AtomDef}
use Rattle.type_model.specs.declared.basic.SemType.{SemType}
use Rattle.type_model.specs.Parts.{StandsAt}
use Rattle.typed_tree.specs.declared.expr.TypedExpr.{TypedExpr}
use Rattle.typed_tree.specs.Exprs.{type_of}
use Rattle.typed_tree.specs.SharedTypes.{Shared, sem_of}
use Rattle.check_words.specs.Library.{LibraryRow, argument_of, row_of, takes_so_many}
use Rattle.tree_promises.specs.Made.{sem}
use Rattle.typed_calls.specs.Callees.{IsFree, KindFits, ReceiverFits}
use Rattle.typed_calls.specs.LibraryCalls.{FitsBy, LibraryArgumentsFit, PushedFits}

-- ---- how many arguments there are

pub counted : (r : LibraryRow) (n : ℕ) → takes_so_many r n ≡ true → (length r.needed ≤ n) × (r.more ≡ false → n ≤ length r.needed + length r.possible)
counted r n takes =
    let (least, most) = and_parts (nat_le (length r.needed) n) _ takes in
    (leb-true (length r.needed) n least, λ fixed. leb-true n (length r.needed + length r.possible) (subst (λ (b : Bool). (b || nat_le n (length r.needed + length r.possible)) ≡ true) fixed most))

pub none-left : (es : List TypedExpr) → length es ≤ 0 → es ≡ []
none-left [] le = refl
none-left (e ∷ es) le = absurd (omega (arith, le))

pub one-left : (es : List TypedExpr) → 1 ≤ length es → length es ≤ 1 → (a : TypedExpr) × (es ≡ a ∷ [])
one-left (a ∷ []) least most = (a, refl)
one-left [] least most = absurd (omega (arith, least))
one-left (a ∷ b ∷ es) least most = absurd (omega (arith, most))

-- one, or two
abbrev pub OneOrTwo : List TypedExpr → Type 0
OneOrTwo es = ((a : TypedExpr) × (es ≡ a ∷ [])) ⊎ ((a b : TypedExpr) × (es ≡ a ∷ b ∷ []))

pub two-left : (es : List TypedExpr) → 1 ≤ length es → length es ≤ 2 → OneOrTwo es
two-left (a ∷ []) least most = inl (a, refl)
two-left (a ∷ b ∷ []) least most = inr (a, b, refl)
two-left [] least most = absurd (omega (arith, least))
two-left (a ∷ b ∷ c ∷ es) least most = absurd (omega (arith, most))

-- ---- operands of each row

module _ (env : List AtomDef) where
  -- a method has one part before its arguments, of the receiver's kind, and a function has none
  abbrev pub Received : LibraryCall → Option Shared → List TypedExpr → Type 0
  Received call receiver belong = (e : TypedExpr) × (belong ≡ e ∷ []) × (t : Shared) × (receiver ≡ Some t) × (t.value ≡ (type_of e).value) × KindFits env (row_of call).receiver e

  pub method-received : (call : LibraryCall) (receiver : Option Shared) (belong : List TypedExpr) → (IsFree (row_of call).call → ⊥) → ReceiverFits env (row_of call) receiver belong
      → Received call receiver belong
  method-received call None belong method (none, free) = absurd (method free)
  method-received call (Some t) belong method (bound, (e, is, (value, of))) = (e, is, t, refl, value, of)

  pub none-received : (call : LibraryCall) (receiver : Option Shared) (belong : List TypedExpr) → IsFree (row_of call).call → ReceiverFits env (row_of call) receiver belong → belong ≡ []
  none-received call None belong free (none, is) = none
  none-received call (Some t) belong free (bound, fits) = absurd (bound free)

  -- a receiver alone; with one argument; and with one or two
  abbrev Alone : (SemType → Type 0) → List SemType → Type 0
  Alone P os = (a : SemType) × (os ≡ a ∷ []) × P a

  abbrev With : (SemType → Type 0) → (SemType → Type 0) → List SemType → Type 0
  With P Q os = (a b : SemType) × (os ≡ a ∷ b ∷ []) × P a × Q b

  module _ (call : LibraryCall) (receiver : Option Shared) (belong args : List TypedExpr) (method : IsFree (row_of call).call → ⊥)
      (takes : takes_so_many (row_of call) (length args) ≡ true) (fits : ReceiverFits env (row_of call) receiver belong) where
    pub alone : (row_of call).more ≡ false → length (row_of call).needed + length (row_of call).possible ≤ 0
        → (e : TypedExpr) × (belong ++ args ≡ e ∷ []) × KindFits env (row_of call).receiver e
    alone fixed few =
        let (e, is, t, has, value, kind-of) = method-received call receiver belong method fits in
        let (least, most) = counted (row_of call) (length args) takes in
        let none = none-left args (let m = most fixed in omega (arith, m, few)) in
        (e, ap (λ l. l ++ args) is ∙ ap (λ l. e ∷ l) none, kind-of)

    -- with one argument
    pub with-one : (row_of call).more ≡ false → 1 ≤ length (row_of call).needed → length (row_of call).needed + length (row_of call).possible ≤ 1
        → (e a : TypedExpr) × (belong ++ args ≡ e ∷ a ∷ []) × (args ≡ a ∷ []) × KindFits env (row_of call).receiver e
    with-one fixed some few =
        let (e, is, t, has, value, kind-of) = method-received call receiver belong method fits in
        let (least, most) = counted (row_of call) (length args) takes in
        let (a, one) = one-left args (omega (arith, least, some)) (let m = most fixed in omega (arith, m, few)) in
        (e, a, ap (λ l. l ++ args) is ∙ ap (λ l. e ∷ l) one, one, kind-of)

    pub with-two : (row_of call).more ≡ false → 1 ≤ length (row_of call).needed → length (row_of call).needed + length (row_of call).possible ≤ 2
        → (e : TypedExpr) × (belong ++ args ≡ e ∷ args) × OneOrTwo args × KindFits env (row_of call).receiver e
    with-two fixed some few =
        let (e, is, t, has, value, kind-of) = method-received call receiver belong method fits in
        let (least, most) = counted (row_of call) (length args) takes in
        (e, ap (λ l. l ++ args) is, two-left args (omega (arith, least, some)) (let m = most fixed in omega (arith, m, few)), kind-of)

  -- what is pushed
  pub all-pushed : (r : LibraryRow) (receiver : Option Shared) (t : Shared) (s : SemType) (k : ℕ) (es : List TypedExpr) → r.call ≡ Push → receiver ≡ Some t → sem_of t ≡ s
      → LibraryArgumentsFit env r receiver k es → All (IsWithin env (AtIndexes env s)) (map sem es)
  all-pushed r receiver t s k [] push has same fit = All-nil _
  all-pushed r receiver t s k (e ∷ es) push has same fit =
      let first : FitsBy env Push receiver (argument_of r k) e = subst (λ c. FitsBy env c receiver (argument_of r k) e) push fit.0 in
      let pushed : PushedFits env (Some t) e = subst (λ o. PushedFits env o e) has first in
      All-cons (IsWithin env (AtIndexes env s)) (sem e) (map sem es) (subst (λ u. IsWithin env (StandsAt env u AnyIndex) (sem e)) same pushed)
      (all-pushed r receiver t s (suc k) es push has same fit.1)

  -- ints, one or two
  abbrev pub AllInts : List TypedExpr → Type 0
  AllInts [] = ⊤
  AllInts (e ∷ es) = IsWithin env IsInteger (sem e) × AllInts es

  pub part-of : (Whole : Shape → Type 0) (e : TypedExpr) (args : List TypedExpr) → IsWithin env Whole (sem e) → OneOrTwo args → AllInts args → PartsOf env Whole (map sem (e ∷ args))
  part-of Whole e args whole (inl (a, is)) ints = subst (λ l. PartsOf env Whole (map sem (e ∷ l))) (sym is) (inl (whole, (subst AllInts is ints).0))
  part-of Whole e args whole (inr (a, b, is)) ints =
      subst (λ l. PartsOf env Whole (map sem (e ∷ l))) (sym is) (let i = subst AllInts is ints in inr (whole, i.0, i.1.0))
