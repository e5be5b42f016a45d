-- What functions that are in some arrows give, arrow by arrow.
use Rattle.std.proofs.Common.{◌≡◌, ◌≢◌, ◌↔◌, ⊎_elim, ℕ, List, [], ◌∷◌, ◌++◌, All, Any, Contains, false, Option, Some, None, IsSomeAnd, refl, sym, subst, ◌∙◌, arith}
use Rattle.std.proofs.lemmas.List.{append-nil, append_assoc}
use Rattle.std.proofs.lemmas.List.Elements.{All-nil, All-cons, All-head, All-tail, All-append, All-push, Contains-push}
use Rattle.bal_base.specs.declared.shape.Shape.{Shape, List as ListOf}
use Rattle.bal_base.specs.declared.shape.Shapes.{Shapes}
use Rattle.bal_base.specs.declared.shape.Case.{Case}
use Rattle.bal_base.specs.Valid.{IsValid}
use Rattle.bal_base.proofs.Rows.{IsValid-List}
use Rattle.type_model.specs.declared.basic.SemType.{SemType}
use Rattle.type_model.specs.declared.atoms.AtomDef.{AtomDef}
use Rattle.type_model.specs.Application.{arguments_of as list_of}
use Rattle.type_model.specs.Defined.{IsDefined}
use Rattle.type_model.specs.Membership.{In}
use Rattle.type_diagrams.specs.Conditions.{Condition, AreOne, Meets, IsShapeOf, without}
use Rattle.type_diagrams.specs.Members.{arguments_of}
use Rattle.type_diagrams.proofs.Asking.{Meets-decided}
use Rattle.type_diagrams.proofs.Elements.{All-parts}
use Rattle.type_diagrams.proofs.Meeting.{Meets-same, Meets-without}
use Rattle.empty_arrow.specs.Pairs.{FitsArrow, AreArguments, AsksArguments}
use Rattle.empty_arrow.specs.Giving.{IsInOne, IsGivenBy, IsAllowed, HaveResults, AreOutside, TellsGiven, IsMeeting}
use Rattle.empty_arrow.proofs.ArgumentLists.{arguments-list}
use Rattle.empty_arrow.proofs.PairLaws.{valid-arguments, further-asked, same-asked}
use Rattle.empty_arrow.proofs.SomeOf.{Any-Contains, Any-here, Any-cases, Any-left, Any-right, Any-append_cases}

module _ (env : List AtomDef) where
  -- ---- where there are no arguments, and where no arrow is left

  pub no_types : (x : Shape) → ¬ IsInOne env [] x
  no_types x i = nothing (Any-Contains (λ (t : SemType). In env x t) [] i)
    where
      nothing : (t : SemType) × Contains [] t × In env x t → ⊥
      nothing (t, c, i) = absurd (omega (arith, c.1))

  pub no_arguments : (args : Condition) (taken arrows : List ℕ) (types : List SemType) → ((s : Shape) → ¬ IsShapeOf env args s) → TellsGiven env args taken arrows types types None
  no_arguments args taken arrows types none = (
    [],
    sym (append-nil types),
    record {
      defined = All-nil (IsDefined env);
      all = λ c h. absurd (none (list_of c) (valid-arguments c h.valid, h.arguments));
      least = λ x valid i. absurd (no_types x i);
    },
  )

  pub last-fails : (args : Condition) (taken : List ℕ) (types : List SemType) (s : Shape) → taken ≡ [] → IsShapeOf env args s → TellsGiven env args taken [] types types (Some s)
  last-fails args taken types s none shape = record { shape = shape; none = none; outside = All-nil (λ a. ¬ Meets env (arguments_of env a) s) }

  module _ (args : Condition) (taken : List ℕ) (some : taken ≢ []) (t : SemType) (is : IsMeeting env taken t) where
    -- a result that all arrows give is one of the type
    given-In : (o : Option Shape) → All (IsGivenBy env o) taken → IsSomeAnd o (IsInOne env (t ∷ []))
    given-In (Some x) given = Any-here (λ (u : SemType). In env x u) t [] ((is.shapes x).1 given)
    given-In None given = absurd (by taken refl)
      where
        by : (ts : List ℕ) → taken ≡ ts → ⊥
        by [] e = some e
        by (a ∷ others) e = All-head (IsGivenBy env None) a others (subst (All (IsGivenBy env None)) e given)

    one-In : (x : Shape) → IsInOne env (t ∷ []) x → In env x t
    one-In x i = ⊎_elim (λ (h : In env x t). h) (λ (n : Any (λ (u : SemType). In env x u) []). absurd (no_types x n)) (Any-cases (λ (u : SemType). In env x u) t [] i)

    pub last-gives : (types : List SemType) (s : Shape) → AreArguments env args → IsShapeOf env args s → TellsGiven env args taken [] types (types ++ t ∷ []) None
    last-gives types s are shape = (
      t ∷ [],
      refl,
      record {
        defined = All-cons (IsDefined env) t [] is.defined (All-nil (IsDefined env));
        all = λ c h. given-In c.result h.given;
        least = λ x valid i. with_list x valid i (arguments-list s (are s shape));
      },
    )
      where
        with_list : (x : Shape) → IsValid x → IsInOne env (t ∷ []) x → (xs : Shapes) × (s ≡ ListOf false xs) → (c : Case) × IsAllowed env args taken [] c × (c.result ≡ Some x)
        with_list x valid i (xs, is_list) =
            let listed = subst (IsShapeOf env args) is_list shape in
            let c : Case = record { args = xs; result = Some x } in (
              c,
              record {
                valid = (((IsValid-List false xs).0 listed.0).1, valid);
                arguments = listed.1;
                given = (is.shapes x).0 (one-In x i);
                fits = All-nil (FitsArrow env c);
              },
              refl,
            )

  -- ---- the first arrow, and the others

  module _ (args left : Condition) (taken : List ℕ) (first : ℕ) (rest : List ℕ) (one : AreOne left (without args (arguments_of env first))) where
    -- arguments that the first arrow doesn't take
    left-Meets : (s : Shape) → IsValid s → Meets env left s ↔ (Meets env args s × ¬ Meets env (arguments_of env first) s)
    left-Meets s valid =
        let same = Meets-same env left (without args (arguments_of env first)) s valid one in
        let both = Meets-without env args (arguments_of env first) s in
        (λ h. both.0 (same.0 h), λ h. same.1 (both.1 h))

    pub left-AreOutside : (s : Shape) → AreOutside env left taken rest s → AreOutside env args taken (first ∷ rest) s
    left-AreOutside s h =
        let out = (left-Meets s h.shape.0).0 h.shape.1 in record {
          shape = (h.shape.0, out.0);
          none = h.none;
          outside = All-cons (λ a. ¬ Meets env (arguments_of env a) s) first rest out.1 h.outside;
        }

    allowed-left : (c : Case) → IsAllowed env args taken (first ∷ rest) c → ¬ Meets env (arguments_of env first) (list_of c) → IsAllowed env left taken rest c
    allowed-left c h out = record {
      valid = h.valid;
      arguments = (left-Meets (list_of c) (valid-arguments c h.valid)).1 (h.arguments, out);
      given = h.given;
      fits = All-tail (FitsArrow env c) first rest h.fits;
    }

    allowed-taken : (c : Case) → IsAllowed env args taken (first ∷ rest) c → Meets env (arguments_of env first) (list_of c) → IsAllowed env args (taken ++ first ∷ []) rest c
    allowed-taken c h takes = record {
      valid = h.valid;
      arguments = h.arguments;
      given = All-push (IsGivenBy env c.result) taken first h.given (All-head (FitsArrow env c) first rest h.fits takes);
      fits = All-tail (FitsArrow env c) first rest h.fits;
    }

    left-allowed : (c : Case) → IsAllowed env left taken rest c → IsAllowed env args taken (first ∷ rest) c
    left-allowed c h =
        let out = (left-Meets (list_of c) (valid-arguments c h.valid)).0 h.arguments in record {
          valid = h.valid;
          arguments = out.0;
          given = h.given;
          fits = All-cons (FitsArrow env c) first rest (λ takes. absurd (out.1 takes)) h.fits;
        }

    taken-allowed : (c : Case) → IsAllowed env args (taken ++ first ∷ []) rest c → IsAllowed env args taken (first ∷ rest) c
    taken-allowed c h =
        let given = All-parts (IsGivenBy env c.result) taken (first ∷ []) h.given in record {
          valid = h.valid;
          arguments = h.arguments;
          given = given.0;
          fits = All-cons (FitsArrow env c) first rest (λ takes. All-head (IsGivenBy env c.result) first [] given.1) h.fits;
        }

    along : (P Q : Shape → Type 0) (o : Option Shape) → ((x : Shape) → P x → Q x) → IsSomeAnd o P → IsSomeAnd o Q
    along P Q None f h = h
    along P Q (Some x) f h = f x h

    -- the results of the pairs whose arguments it doesn't take, and of those whose arguments it takes
    both-HaveResults : (some more : List SemType) → HaveResults env left taken rest some → HaveResults env args (taken ++ first ∷ []) rest more → HaveResults env args taken (first ∷ rest) (some ++ more)
    both-HaveResults some more a b = record {
      defined = All-append (IsDefined env) some more a.defined b.defined;
      all = λ c h. ⊎_elim
          (λ (takes : Meets env (arguments_of env first) (list_of c)). along (IsInOne env more) (IsInOne env (some ++ more)) c.result (λ x i. Any-right (λ (t : SemType). In env x t) some more i) (b.all c (allowed-taken c h takes)))
          (λ (out : ¬ Meets env (arguments_of env first) (list_of c)). along (IsInOne env some) (IsInOne env (some ++ more)) c.result (λ x i. Any-left (λ (t : SemType). In env x t) some more i) (a.all c (allowed-left c h out)))
          (Meets-decided env (arguments_of env first) (list_of c));
      least = λ x valid i. ⊎_elim
          (λ (j : IsInOne env some x). let f = a.least x valid j in (f.0, left-allowed f.0 f.1, f.2))
          (λ (j : IsInOne env more x). let f = b.least x valid j in (f.0, taken-allowed f.0 f.1, f.2))
          (Any-append_cases (λ (t : SemType). In env x t) some more i);
    }

    -- where the arrow is taken, nothing fails
    taken-not_outside : (s : Shape) → ¬ AreOutside env args (taken ++ first ∷ []) rest s
    taken-not_outside s h = nothing (subst (λ ts. Contains ts first) h.none (Contains-push taken first))
      where
        nothing : Contains [] first → ⊥
        nothing c = absurd (omega (arith, c.1))

    -- what is told of both
    pub both-TellsGiven : (old mid new : List SemType) → TellsGiven env left taken rest old mid None → (o : Option Shape) → TellsGiven env args (taken ++ first ∷ []) rest mid new o → TellsGiven env args taken (first ∷ rest) old new o
    both-TellsGiven old mid new some (Some s) h = absurd (taken-not_outside s h)
    both-TellsGiven old mid new some None more = (
      some.0 ++ more.0,
      more.1 ∙ (λ i. some.1 i ++ more.0) ∙ append_assoc old some.0 more.0,
      both-HaveResults some.0 more.0 some.2 more.2,
    )

    -- ---- the questions

    pub left-Asks : (d : Condition) → AsksArguments env left rest d → AsksArguments env args (first ∷ rest) d
    left-Asks d a = further-asked env first rest args left one d a

    pub taken-Asks : (d : Condition) → AsksArguments env args rest d → AsksArguments env args (first ∷ rest) d
    taken-Asks d a = same-asked env first rest args d a
