-- What is told of pairs is told of the functions of a path, of those of several paths, and of those of a type.
use Rattle.std.proofs.Common.{◌≡◌, ⊎_elim, ◌+◌, ◌≤◌, List, [], ◌∷◌, ◌++◌, length, get_or, slice_get, false, All, Any, Contains, Option, Some, None, IsSomeAnd, refl, sym, subst, ◌∙◌, arith}
use Rattle.std.proofs.lemmas.Bool.{false≢true}
use Rattle.std.proofs.lemmas.List.{append-nil, append_assoc}
use Rattle.std.proofs.lemmas.List.Elements.{All-nil, All-cons, All-head, All-append, All-weaker, All-contains, Contains-get_or}
use Rattle.bal_base.specs.declared.shape.Shape.{Shape, List as ListOf, Nil, Bool as BoolShape, Int, Str, List', Mapping', Error', Function, Future'}
use Rattle.bal_base.specs.declared.shape.Shapes.{Shapes}
use Rattle.bal_base.specs.declared.shape.Case.{Case}
use Rattle.bal_base.specs.Shapes.{graph_list}
use Rattle.bal_base.specs.Valid.{CaseIsValid, IsValid}
use Rattle.bal_base.proofs.Rows.{IsValid-List}
use Rattle.type_model.specs.declared.basic.SemType.{SemType, Basic, Atom}
use Rattle.type_model.specs.declared.basic.BasicSet.TheVariants.{ListAll, Readonly}
use Rattle.type_model.specs.declared.atoms.AtomDef.{AtomDef}
use Rattle.type_model.specs.declared.atoms.AtomDef.TheVariants.{Arrow}
use Rattle.type_model.specs.Application.{Answers, IsFunctionType, IsLeastResult, IsOutside, IsBelowArrow, arguments_of as list_of}
use Rattle.type_model.specs.Defined.{IsDefined}
use Rattle.type_model.specs.Elements.{CaseMaps}
use Rattle.type_model.specs.Membership.{In}
use Rattle.type_model.proofs.Unfolding.{Fits-Function}
use Rattle.type_diagrams.specs.declared.kind.Kind.TheVariants.{Function as Functions}
use Rattle.type_diagrams.specs.declared.path.Path.{Path}
use Rattle.type_diagrams.specs.Kinds.{IsOfKind, the_mark}
use Rattle.type_diagrams.specs.Conditions.{Condition, AreOne, Meets, IsShapeOf, condition_of, asks}
use Rattle.type_diagrams.specs.Members.{atoms_in, arguments_of}
use Rattle.type_diagrams.specs.Paths.{IsOnPath}
use Rattle.type_diagrams.specs.Questions.{IsUnionOf, lists, readonly}
use Rattle.type_diagrams.specs.Turns.{IsShapeOn}
use Rattle.type_diagrams.specs.Whole.{IsMetWhere}
use Rattle.type_diagrams.proofs.Elements.{All-where}
use Rattle.type_diagrams.proofs.Meeting.{Meets-asks, Meets-same, In-condition}
use Rattle.type_diagrams.proofs.PathShapes.{in_wanted}
use Rattle.empty_arrow.specs.Arrows.{IsArrow}
use Rattle.empty_arrow.specs.Pairs.{FitsArrow, AreArguments}
use Rattle.empty_arrow.specs.Giving.{IsInOne, IsGivenBy, IsAllowed, AreOutside, TellsGiven, GiveResults, FailAt, TellsResults, IsOnOne, IsEither}
use Rattle.empty_arrow.proofs.ArgumentLists.{arguments-list}
use Rattle.empty_arrow.proofs.Giving.{no_types}
use Rattle.empty_arrow.proofs.GraphLaws.{In-arrow, cases_in, valid_cases}
use Rattle.empty_arrow.proofs.OnePair.{function-with}
use Rattle.empty_arrow.proofs.PairLaws.{valid-arguments}
use Rattle.empty_arrow.proofs.SomeOf.{Any-Contains, Contains-Any, Any-here, Any-cases, Any-left, Any-right, Any-append_cases}

-- an answer of a function is one of its pairs
abbrev HasPair : Shape → Shape → Option Shape → Type 0
HasPair f arguments answer = (c : Case) × Contains (cases_in f) c × (list_of c ≡ arguments) × (c.result ≡ answer)

answer-pair : (f arguments : Shape) (answer : Option Shape) → Answers f arguments answer → HasPair f arguments answer
answer-pair (Function isolated graph) arguments answer h = h
answer-pair Nil arguments answer h = absurd h
answer-pair (BoolShape b) arguments answer h = absurd h
answer-pair (Int i) arguments answer h = absurd h
answer-pair (Str t) arguments answer h = absurd h
answer-pair (List' mark _ items) arguments answer h = absurd h
answer-pair (Mapping' mark _ fields) arguments answer h = absurd h
answer-pair (Error' _ detail) arguments answer h = absurd h
answer-pair (Future' _ results) arguments answer h = absurd h

module _ (env : List AtomDef) where
  -- ---- no functions

  pub no_functions : (IsOne : Shape → Type 0) (args : Condition) (types : List SemType) → ((f : Shape) → ¬ IsOne f) → TellsResults env IsOne args types types None
  no_functions IsOne args types none = (
    [],
    sym (append-nil types),
    record {
      defined = All-nil (IsDefined env);
      all = λ f one. absurd (none f one);
      least = λ x valid i. absurd (no_types env x i);
    },
  )

  -- ---- those of one path

  module _ (small : length env ≤ the_mark) (p : Path) (pos : All (IsArrow env) (atoms_in p.pos)) (neg : All (IsArrow env) (atoms_in p.neg)) where
    -- the pairs of a function of the path are as the wanted arrows ask
    path-fits : (f : Shape) → IsShapeOn env Functions p f → (c : Case) → Contains (cases_in f) c → CaseIsValid c × All (FitsArrow env c) (atoms_in p.pos)
    path-fits f on c among = (
      All-contains CaseIsValid (cases_in f) c (valid_cases f on.1.kind on.0) among,
      All-where (IsArrow env) (λ a. In env f (Atom a)) (FitsArrow env c)
          (λ a arrow i. All-contains (λ k. FitsArrow env k a) (cases_in f) c ((In-arrow env small f on.1.kind (slice_get env a) arrow).0 i).1 among) (atoms_in p.pos) pos (in_wanted env Functions p f on.1),
    )

    module _ (short : length p.pos + length p.neg ≤ the_mark + 2) (args : Condition) (are : AreArguments env args) (f : Shape) (on : IsShapeOn env Functions p f) where
      path-fails : (s : Shape) → AreOutside env args [] (atoms_in p.pos) s → FailAt env (IsShapeOn env Functions p) args s
      path-fails s out = by (arguments-list s (are s out.shape))
        where
          by : (xs : Shapes) × (s ≡ ListOf false xs) → FailAt env (IsShapeOn env Functions p) args s
          by (xs, is) =
              let c : Case = record { args = xs; result = None } in
              let valid = (IsValid-List false xs).0 (subst IsValid is out.shape.0) in
              let fits = All-weaker (λ a. ¬ Meets env (arguments_of env a) s) (FitsArrow env c) (λ a none takes. absurd (none (subst (Meets env (arguments_of env a)) (sym is) takes))) (atoms_in p.pos) out.outside in
              let g = function-with env small p pos neg f on short c (valid.1, tt) fits in
              (out.shape, g.0, g.1, subst (λ a. Answers g.0 a None) (sym is) g.2)

      pub path-TellsResults : (old new : List SemType) (o : Option Shape) → TellsGiven env args [] (atoms_in p.pos) old new o → TellsResults env (IsShapeOn env Functions p) args old new o
      path-TellsResults old new (Some s) h = path-fails s h
      path-TellsResults old new None h =
          let results = h.2 in (
            h.0,
            h.1,
            record {
              defined = results.defined;
              all = λ g ong arguments answer shape answers.
                  let c = answer-pair g arguments answer answers in
                  let fits = path-fits g ong c.0 c.1 in
                  let allowed : IsAllowed env args [] (atoms_in p.pos) c.0 = record {
                    valid = fits.0;
                    arguments = subst (Meets env args) (sym c.2) shape.1;
                    given = All-nil (IsGivenBy env c.0.result);
                    fits = fits.1;
                  } in
                  subst (λ o. IsSomeAnd o (IsInOne env h.0)) c.3 (results.all c.0 allowed);
              least = λ x valid i.
                  let r = results.least x valid i in
                  let g = function-with env small p pos neg f on short r.0 r.1.valid r.1.fits in
                  (g.0, g.1, list_of r.0, (valid-arguments r.0 r.1.valid, r.1.arguments), subst (Answers g.0 (list_of r.0)) r.2 g.2);
            },
          )

  -- ---- those of several paths

  module _ (args : Condition) where
    pub one-FailAt : (paths : List Path) (p : Path) → Contains paths p → (s : Shape) → FailAt env (IsShapeOn env Functions p) args s → FailAt env (IsOnOne env paths) args s
    one-FailAt paths p among s h = (h.0, h.1, Contains-Any (λ q. IsShapeOn env Functions q h.1) paths p among h.2, h.3)

    along : (P Q : Shape → Type 0) (o : Option Shape) → ((x : Shape) → P x → Q x) → IsSomeAnd o P → IsSomeAnd o Q
    along P Q None f h = h
    along P Q (Some x) f h = f x h

    pub one-more_path : (paths : List Path) (p : Path) (old mid new : List SemType) → TellsResults env (IsOnOne env paths) args old mid None → TellsResults env (IsShapeOn env Functions p) args mid new None → TellsResults env (IsOnOne env (paths ++ p ∷ [])) args old new None
    one-more_path paths p old mid new some more =
        let a = some.2 in
        let b = more.2 in
        let On : Shape → Path → Type 0 = λ f q. IsShapeOn env Functions q f in
        let Is : Shape → SemType → Type 0 = λ x t. In env x t in (
          some.0 ++ more.0,
          more.1 ∙ (λ i. some.1 i ++ more.0) ∙ append_assoc old some.0 more.0,
          record {
            defined = All-append (IsDefined env) some.0 more.0 a.defined b.defined;
            all = λ f one arguments answer shape answers. ⊎_elim
                (λ (l : Any (On f) paths). along (IsInOne env some.0) (IsInOne env (some.0 ++ more.0)) answer (λ x i. Any-left (Is x) some.0 more.0 i) (a.all f l arguments answer shape answers))
                (λ (r : Any (On f) (p ∷ [])). along (IsInOne env more.0) (IsInOne env (some.0 ++ more.0)) answer (λ x i. Any-right (Is x) some.0 more.0 i) (b.all f (only f r) arguments answer shape answers))
                (Any-append_cases (On f) paths (p ∷ []) one);
            least = λ x valid i. ⊎_elim
                (λ (l : IsInOne env some.0 x). let r = a.least x valid l in (r.0, Any-left (On r.0) paths (p ∷ []) r.1, r.2, r.3, r.4))
                (λ (l : IsInOne env more.0 x). let r = b.least x valid l in (r.0, Any-right (On r.0) paths (p ∷ []) (Any-here (On r.0) p [] r.1), r.2, r.3, r.4))
                (Any-append_cases (Is x) some.0 more.0 i);
          },
        )
      where
        only : (f : Shape) → Any (λ q. IsShapeOn env Functions q f) (p ∷ []) → IsShapeOn env Functions p f
        only f r = ⊎_elim (λ (h : IsShapeOn env Functions p f). h) (λ (n : Any (λ q. IsShapeOn env Functions q f) []). absurd (no_path f n)) (Any-cases (λ q. IsShapeOn env Functions q f) p [] r)
          where
            no_path : (f : Shape) → ¬ Any (λ q. IsShapeOn env Functions q f) []
            no_path f n = absurd (omega (arith, (Any-Contains (λ q. IsShapeOn env Functions q f) [] n).1.1))

    pub no_paths : (types : List SemType) → TellsResults env (IsOnOne env []) args types types None
    no_paths types = no_functions (IsOnOne env []) args types (λ f n. absurd (omega (arith, (Any-Contains (λ q. IsShapeOn env Functions q f) [] n).1.1)))

  -- ---- those of a type

  module _ (small : length env ≤ the_mark) (f args : SemType) (functions : IsFunctionType env f) (of of_args : Condition) (met : IsMetWhere env of (λ x. In env x f))
      (one : AreOne of_args (asks (condition_of env args ∷ lists env ∷ []) (readonly env ∷ []))) (paths : List Path) (union : IsUnionOf of Functions paths) where
    -- the functions of the type are those of its paths
    type-path : (x : Shape) → IsValid x → IsOfKind Functions x → In env x f → IsOnOne env paths x
    type-path x valid kind i =
        let c = Any-Contains (λ p. IsOnPath env Functions p x) paths ((union env x kind).0 ((met x valid).1 i)) in
        Contains-Any (λ p. IsShapeOn env Functions p x) paths c.0 c.1 (valid, c.2)

    path-type : (x : Shape) → IsOnOne env paths x → IsValid x × In env x f
    path-type x one =
        let c = Any-Contains (λ p. IsShapeOn env Functions p x) paths one in
        (c.2.0, (met x c.2.0).0 ((union env x c.2.1.kind).1 (Contains-Any (λ p. IsOnPath env Functions p x) paths c.0 c.1 c.2.1)))

    -- the arguments in the type are the unmarked lists in it
    arguments-In : (s : Shape) → IsShapeOf env of_args s → In env s args
    arguments-In s h =
        let m = (Meets-asks env (condition_of env args ∷ lists env ∷ []) (readonly env ∷ []) s).0 ((Meets-same env of_args _ s h.0 one).0 h.1) in
        (In-condition env small s args).1 (All-head (λ c. Meets env c s) (condition_of env args) (lists env ∷ []) m.0)

    In-arguments : (c : Case) → CaseIsValid c → In env (list_of c) args → IsShapeOf env of_args (list_of c)
    In-arguments c valid i =
        let s = list_of c in
        let Is : Condition → Type 0 = λ d. Meets env d s in
        let ok = valid-arguments c valid in
        let list = (In-condition env small s (Basic ListAll)).0 tt in
        let plain : ¬ Is (readonly env) = λ m. false≢true ((In-condition env small s (Basic Readonly)).1 m) in (
          ok,
          (Meets-same env of_args _ s ok one).1 ((Meets-asks env (condition_of env args ∷ lists env ∷ []) (readonly env ∷ []) s).1 (
            All-cons Is (condition_of env args) (lists env ∷ []) ((In-condition env small s args).0 i) (All-cons Is (lists env) [] list (All-nil Is)),
            All-cons (λ d. ¬ Is d) (readonly env) [] plain (All-nil (λ d. ¬ Is d)),
          )),
        )

    pub fails-IsOutside : (s : Shape) → FailAt env (IsOnOne env paths) of_args s → IsOutside env f args s
    fails-IsOutside s h = ((h.0.0, arguments-In s h.0), (h.1, path-type h.1 h.2, h.3))

    module _ (types : List SemType) (give : GiveResults env (IsOnOne env paths) of_args types) (r : SemType) (either : IsEither env types r) where
      along_in : (o : Option Shape) → IsSomeAnd o (IsInOne env types) → IsSomeAnd o (λ x. In env x r)
      along_in None h = h
      along_in (Some x) h = (either.shapes x).1 h

      below : IsBelowArrow env f args r
      below (Function isolated graph) valid i =
          (Fits-Function env isolated graph (Arrow args r false)).1 (
            λ h. absurd (false≢true h),
            each (graph_list graph) (λ c among. among),
          )
        where
          x : Shape
          x = Function isolated graph

          each : (cases : List Case) → ((c : Case) → Contains cases c → Contains (graph_list graph) c) → All (CaseMaps env args r) cases
          each cases among = contained (λ c here inside.
              along_in c.result (give.all x (type-path x valid refl i) (list_of c) c.result (In-arguments c (All-contains CaseIsValid (graph_list graph) c (valid_cases x refl valid) (among c here)) inside) (c, among c here, refl, refl)))
            where
              contained : ((c : Case) → Contains cases c → CaseMaps env args r c) → All (CaseMaps env args r) cases
              contained f k d lt = f (get_or cases k d) (Contains-get_or cases k d lt)
      below Nil valid i = absurd (functions Nil valid i)
      below (BoolShape b) valid i = absurd (functions (BoolShape b) valid i)
      below (Int n) valid i = absurd (functions (Int n) valid i)
      below (Str t) valid i = absurd (functions (Str t) valid i)
      below (List' mark row items) valid i = absurd (functions (List' mark row items) valid i)
      below (Mapping' mark row fields) valid i = absurd (functions (Mapping' mark row fields) valid i)
      below (Error' row detail) valid i = absurd (functions (Error' row detail) valid i)
      below (Future' row results) valid i = absurd (functions (Future' row results) valid i)

      pub results-IsLeastResult : IsLeastResult env f args r
      results-IsLeastResult = record {
        below = below;
        least = λ x valid i.
            let g = give.least x valid ((either.shapes x).0 i) in
            (g.2, (g.3.0, arguments-In g.2 g.3), (g.0, path-type g.0 g.1, g.4));
      }
