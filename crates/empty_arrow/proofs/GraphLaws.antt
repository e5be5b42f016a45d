-- Functions and their graphs.
use Rattle.std.proofs.Common.{◌≡◌, ◌↔◌, ◌⊎◌, ⊎_elim, inl, inr, ℕ, zero, suc, ◌+◌, ◌<◌, ◌≤◌, List, [], ◌∷◌, ◌++◌, ◌||◌, ◌&&◌, not, take, length, get_or, Bool, true, false, All, Contains, Option, Some, None, IsSomeAnd, IfSome, IsTrue, slice_get, option_and_then, refl, sym, ap, subst, ◌∙◌, arith}
use Rattle.std.specs.List.{list_any}
use Rattle.std.proofs.lemmas.Bool.{false≢true}
use Rattle.std.proofs.lemmas.List.Elements.{All-nil, All-cons, All-head, All-tail, All-push, All-more, All-weaker, All-contains, All-contains_itself, Contains-push}
use Rattle.bal_base.specs.declared.shape.Shape.{Shape, Nil, Bool as BoolShape, Int, Str, List', Mapping', Error', Function, Future'}
use Rattle.bal_base.specs.declared.shape.Case.{Case}
use Rattle.bal_base.specs.declared.shape.Graph.{Graph}
use Rattle.bal_base.specs.Levels.{levels}
use Rattle.bal_base.specs.Shapes.{graph_list}
use Rattle.bal_base.specs.Valid.{IsValid, CaseIsValid}
use Rattle.bal_base.proofs.Lower.{CaseIsBelow, levels-Function}
use Rattle.bal_base.proofs.Rows.{IsValid-Function}
use Rattle.type_model.specs.declared.basic.SemType.{SemType, Basic, Atom}
use Rattle.type_model.specs.declared.basic.BasicSet.TheVariants.{ListAll, Readonly}
use Rattle.type_model.specs.declared.atoms.AtomDef.{AtomDef}
use Rattle.type_model.specs.declared.atoms.AtomDef.TheVariants.{List as ListAtom, Mapping as MappingAtom, Arrow, Error as ErrorAtom, Future as FutureAtom}
use Rattle.type_model.specs.Application.{arguments_of as list_of}
use Rattle.type_model.specs.Basic.{InBasic}
use Rattle.type_model.specs.Elements.{CaseMaps}
use Rattle.type_model.specs.Membership.{In, Fits}
use Rattle.type_model.proofs.Unfolding.{Fits-Function}
use Rattle.type_diagrams.specs.declared.kind.Kind.TheVariants.{Function as Functions}
use Rattle.type_diagrams.specs.declared.path.Path.{Path}
use Rattle.type_diagrams.specs.Atoms.{arrow_parts}
use Rattle.type_diagrams.specs.Kinds.{IsOfKind, the_mark}
use Rattle.type_diagrams.specs.Conditions.{Condition, Meets, is_def_of, condition_of, asks}
use Rattle.type_diagrams.specs.Members.{asked, atoms_in, arguments_of, outcome_of}
use Rattle.type_diagrams.specs.Paths.{IsOnPath}
use Rattle.type_diagrams.specs.Questions.{lists, readonly}
use Rattle.type_diagrams.proofs.Meeting.{Meets-asks, In-condition}
use Rattle.empty_arrow.specs.Arrows.{IsArrow, is_alone, is_isolated}
use Rattle.empty_arrow.specs.Graphs.{AreCases, IsFree, is_alone_in, arguments_sought, results_sought}
use Rattle.empty_arrow.specs.Pairs.{AreArguments, IsArguments, FitsArrow, IsAnswer, IsPair}
use Rattle.type_diagrams.proofs.Asking.{Meets-decided}
use Rattle.type_diagrams.proofs.Elements.{All-parts, All-where, not_all}
use Rattle.empty_arrow.proofs.PairLaws.{valid-arguments}
use Rattle.type_diagrams.proofs.PathShapes.{has_mark, unmarked, on_path, in_wanted, in_no_unwanted, is_marked}

-- ---- functions by their graphs

-- whether the function is isolated, and its pairs
abbrev pub isolated_in : Shape → Bool
isolated_in (Function isolated graph) = isolated
isolated_in Nil = false
isolated_in (BoolShape b) = false
isolated_in (Int i) = false
isolated_in (Str t) = false
isolated_in (List' mark _ items) = false
isolated_in (Mapping' mark _ fields) = false
isolated_in (Error' _ detail) = false
isolated_in (Future' _ results) = false

abbrev pub cases_in : Shape → List Case
cases_in (Function isolated graph) = graph_list graph
cases_in Nil = []
cases_in (BoolShape b) = []
cases_in (Int i) = []
cases_in (Str t) = []
cases_in (List' mark _ items) = []
cases_in (Mapping' mark _ fields) = []
cases_in (Error' _ detail) = []
cases_in (Future' _ results) = []

pub valid_cases : (x : Shape) → IsOfKind Functions x → IsValid x → All CaseIsValid (cases_in x)
valid_cases (Function isolated graph) kind valid = (IsValid-Function isolated graph).0 valid
valid_cases Nil kind valid = cc
valid_cases (BoolShape b) kind valid = cc
valid_cases (Int i) kind valid = cc
valid_cases (Str t) kind valid = cc
valid_cases (List' mark _ items) kind valid = cc
valid_cases (Mapping' mark _ fields) kind valid = cc
valid_cases (Error' _ detail) kind valid = cc
valid_cases (Future' _ results) kind valid = cc

pub lower_cases : (x : Shape) → IsOfKind Functions x → All (CaseIsBelow (levels x)) (cases_in x)
lower_cases (Function isolated graph) kind = levels-Function isolated graph
lower_cases Nil kind = cc
lower_cases (BoolShape b) kind = cc
lower_cases (Int i) kind = cc
lower_cases (Str t) kind = cc
lower_cases (List' mark _ items) kind = cc
lower_cases (Mapping' mark _ fields) kind = cc
lower_cases (Error' _ detail) kind = cc
lower_cases (Future' _ results) kind = cc

-- ---- arguments

unmarked_list : (x : Shape) → InBasic x ListAll → ¬ InBasic x Readonly → IsArguments x
unmarked_list (List' mark _ items) is plain = by mark plain
  where
    by : (b : Bool) → ¬ IsTrue b → b ≡ false
    by true n = absurd (n refl)
    by false n = refl
unmarked_list Nil is plain = is
unmarked_list (BoolShape b) is plain = is
unmarked_list (Int i) is plain = is
unmarked_list (Str t) is plain = is
unmarked_list (Mapping' mark _ fields) is plain = is
unmarked_list (Error' _ detail) is plain = is
unmarked_list (Function isolated graph) is plain = is
unmarked_list (Future' _ results) is plain = is

module _ (env : List AtomDef) (small : length env ≤ the_mark) where
  pub sought-AreArguments : (of : Condition) → AreArguments env (asks (of ∷ lists env ∷ []) (readonly env ∷ []))
  sought-AreArguments of x h =
      let Is : Condition → Type 0 = λ c. Meets env c x in
      let met = (Meets-asks env (of ∷ lists env ∷ []) (readonly env ∷ []) x).0 h.1 in
      let list = All-head Is (lists env) [] (All-tail Is of (lists env ∷ []) met.0) in
      let plain = All-head (λ c. ¬ Is c) (readonly env) [] met.1 in
      unmarked_list x ((In-condition env small x (Basic ListAll)).1 list) (λ i. plain ((In-condition env small x (Basic Readonly)).0 i))

  -- ---- what an arrow asks of a function

  fits-maps : (args outcome : SemType) (c : Case) → CaseMaps env args outcome c ↔ (Meets env (condition_of env args) (list_of c) → IsSomeAnd c.result (Meets env (condition_of env outcome)))
  fits-maps args outcome c = (
    λ h takes. along c.result (λ x. (In-condition env small x outcome).0) (h ((In-condition env small (list_of c) args).1 takes)),
    λ h takes. along c.result (λ x. (In-condition env small x outcome).1) (h ((In-condition env small (list_of c) args).0 takes)),
  )
    where
      along : {P Q : Shape → Type 0} (o : Option Shape) → ((x : Shape) → P x → Q x) → IsSomeAnd o P → IsSomeAnd o Q
      along None f h = h
      along (Some x) f h = f x h

  -- what the arrow of a definition asks of a pair
  abbrev FitsDef : Option AtomDef → Case → Type 0
  FitsDef o c = Meets env (asked (λ d. condition_of env d.0) (option_and_then arrow_parts o)) (list_of c) → IsSomeAnd c.result (Meets env (asked (λ d. condition_of env d.1) (option_and_then arrow_parts o)))

  -- a function is in an arrow where it is isolated if the arrow asks for it, and each pair is as the arrow asks
  pub In-arrow : (x : Shape) → IsOfKind Functions x → (o : Option AtomDef) → is_def_of Functions o ≡ true → IsSomeAnd o (Fits env x) ↔ ((is_alone o ≡ true → isolated_in x ≡ true) × All (FitsDef o) (cases_in x))
  In-arrow (Function isolated graph) kind o def = by o def
    where
      by : (o : Option AtomDef) → is_def_of Functions o ≡ true → IsSomeAnd o (Fits env (Function isolated graph)) ↔ ((is_alone o ≡ true → isolated ≡ true) × All (FitsDef o) (graph_list graph))
      by None h = absurd (false≢true h)
      by (Some (ListAtom fixed rest)) h = absurd (false≢true h)
      by (Some (MappingAtom fields rest)) h = absurd (false≢true h)
      by (Some (ErrorAtom detail)) h = absurd (false≢true h)
      by (Some (FutureAtom outcome)) h = absurd (false≢true h)
      by (Some (Arrow args outcome alone)) h =
          let fits = Fits-Function env isolated graph (Arrow args outcome alone) in (
            λ i. let f = fits.0 i in (f.0, All-weaker (CaseMaps env args outcome) (FitsDef (Some (Arrow args outcome alone))) (λ c. (fits-maps args outcome c).0) (graph_list graph) f.1),
            λ f. fits.1 (f.0, All-weaker (FitsDef (Some (Arrow args outcome alone))) (CaseMaps env args outcome) (λ c. (fits-maps args outcome c).1) (graph_list graph) f.1),
          )
  In-arrow Nil kind o def = cc
  In-arrow (BoolShape b) kind o def = cc
  In-arrow (Int i) kind o def = cc
  In-arrow (Str t) kind o def = cc
  In-arrow (List' mark _ items) kind o def = cc
  In-arrow (Mapping' mark _ fields) kind o def = cc
  In-arrow (Error' _ detail) kind o def = cc
  In-arrow (Future' _ results) kind o def = cc

pub no_marked_function : (env : List AtomDef) (p : Path) → has_mark p ≡ true → (x : Shape) → ¬ IsOnPath env Functions p x
no_marked_function env p some x on = unmarked Functions x (λ e. cc) (λ e. cc) on.kind (is_marked env Functions p x on some)

-- ---- a wanted arrow asks for an isolated function

or_right : (a b : Bool) → b ≡ true → (a || b) ≡ true
or_right true b h = refl
or_right false b h = h

any-at : (f : ℕ → Bool) (xs : List ℕ) (k a : ℕ) → k < length xs → get_or xs k a ≡ a → f a ≡ true → list_any f xs ≡ true
any-at f [] k a lt is h = absurd (omega (arith, lt))
any-at f (x ∷ xs) zero a lt is h = ap (λ b. b || list_any f xs) (ap f is ∙ h)
any-at f (x ∷ xs) (suc k) a lt is h = or_right (f x) (list_any f xs) (any-at f xs k a (omega (arith, lt)) is h)

-- what follows of one that passes the test follows where one passes it
any-finds : {R : Type 0} (f : ℕ → Bool) (xs : List ℕ) → list_any f xs ≡ true → All (λ a. f a ≡ true → R) xs → R
any-finds f [] h all = absurd (false≢true h)
any-finds {R} f (x ∷ xs) h all = by (f x) h (All-head (λ a. f a ≡ true → R) x xs all) (λ rest. any-finds f xs rest (All-tail (λ a. f a ≡ true → R) x xs all))
  where
    by : (b : Bool) → (b || list_any f xs) ≡ true → (b ≡ true → R) → (list_any f xs ≡ true → R) → R
    by true h here rest = here refl
    by false h here rest = rest h

-- ---- arrows in which no function with the mark is

free-true : (env : List AtomDef) (wanted : List ℕ) (a : ℕ) → (is_isolated env a && not (is_alone_in env wanted)) ≡ true → IsFree env wanted a
free-true env wanted a h = by (is_isolated env a) (is_alone_in env wanted) h
  where
    by : (x y : Bool) → (x && not y) ≡ true → (x ≡ true) × (y ≡ false)
    by true true h = absurd (false≢true h)
    by true false h = (refl, refl)
    by false y h = absurd (false≢true h)

free-false : (env : List AtomDef) (wanted : List ℕ) (a : ℕ) → (is_isolated env a && not (is_alone_in env wanted)) ≡ false → ¬ IsFree env wanted a
free-false env wanted a h free = by (is_isolated env a) (is_alone_in env wanted) h free.0 free.1
  where
    by : (x y : Bool) → (x && not y) ≡ false → x ≡ true → y ≡ false → ⊥
    by true true h e f = false≢true (sym f)
    by true false h e f = false≢true (sym h)
    by false y h e f = false≢true e

-- the test, over the definitions that are read
module _ (env defs : List AtomDef) (same : defs ≡ env) (wanted : List ℕ) (a : ℕ) (isolated free : Bool) (alone : isolated ≡ list_any (is_isolated defs) wanted) (test : free ≡ (is_isolated defs a && not isolated)) where
  tested : free ≡ (is_isolated env a && not (is_alone_in env wanted))
  tested = test ∙ (λ i. is_isolated defs a && not (alone i)) ∙ (λ i. is_isolated (same i) a && not (list_any (is_isolated (same i)) wanted))

  pub is-IsFree : free ≡ true → IsFree env wanted a
  is-IsFree h = free-true env wanted a (sym tested ∙ h)

  pub not-IsFree : free ≡ false → ¬ IsFree env wanted a
  not-IsFree h = free-false env wanted a (sym tested ∙ h)

-- ---- pairs that an arrow doesn't allow

module _ (env : List AtomDef) where
  fits-decided : (c : Case) (a : ℕ) → FitsArrow env c a ⊎ (¬ FitsArrow env c a)
  fits-decided c a =
      ⊎_elim (λ (takes : Meets env (arguments_of env a) (list_of c)). by c.result takes) (λ (n : ¬ Meets env (arguments_of env a) (list_of c)). inl (λ takes. absurd (n takes))) (Meets-decided env (arguments_of env a) (list_of c))
    where
      by : (o : Option Shape) → Meets env (arguments_of env a) (list_of c) → (Meets env (arguments_of env a) (list_of c) → IsSomeAnd o (Meets env (outcome_of env a))) ⊎ (¬ (Meets env (arguments_of env a) (list_of c) → IsSomeAnd o (Meets env (outcome_of env a))))
      by None takes = inr (λ h. h takes)
      by (Some y) takes = ⊎_elim (λ (m : Meets env (outcome_of env a) y). inl (λ _. m)) (λ (n : ¬ Meets env (outcome_of env a) y). inr (λ h. n (h takes))) (Meets-decided env (outcome_of env a) y)

  -- such a pair is one that is sought, and one that is sought is such a pair
  pub sought : length env ≤ the_mark → (c : Case) (a : ℕ) (wanted : List ℕ) → CaseIsValid c → ¬ FitsArrow env c a → All (FitsArrow env c) wanted → IsPair env (arguments_sought env a) (results_sought env a) true wanted c
  sought small c a wanted valid fails fits =
      let Is : Condition → Type 0 = λ d. Meets env d (list_of c) in
      let v = valid-arguments c valid in
      let takes = ⊎_elim (λ (m : Is (arguments_of env a)). m) (λ (n : ¬ Is (arguments_of env a)). absurd (fails (λ m. absurd (n m)))) (Meets-decided env (arguments_of env a) (list_of c)) in
      let list = (In-condition env small (list_of c) (Basic ListAll)).0 tt in
      let plain : ¬ Is (readonly env) = λ m. false≢true ((In-condition env small (list_of c) (Basic Readonly)).1 m) in record {
        valid = valid;
        arguments = (Meets-asks env (arguments_of env a ∷ lists env ∷ []) (readonly env ∷ []) (list_of c)).1 (
          All-cons Is (arguments_of env a) (lists env ∷ []) takes (All-cons Is (lists env) [] list (All-nil Is)),
          All-cons (λ d. ¬ Is d) (readonly env) [] plain (All-nil (λ d. ¬ Is d)),
        );
        answer = answer c.result refl valid.1;
        fits = fits;
      }
    where
      answer : (o : Option Shape) → c.result ≡ o → IfSome o IsValid → IsAnswer env true (results_sought env a) o
      answer None same v = refl
      answer (Some y) same v =
          let out : ¬ Meets env (outcome_of env a) y = λ m. fails (λ takes. subst (λ o. IsSomeAnd o (Meets env (outcome_of env a))) (sym same) m) in
          (Meets-asks env [] (outcome_of env a ∷ []) y).1 (All-nil _, All-cons (λ d. ¬ Meets env d y) (outcome_of env a) [] out (All-nil _))

  pub sought-fails : (c : Case) (a : ℕ) (wanted : List ℕ) → IsPair env (arguments_sought env a) (results_sought env a) true wanted c → ¬ FitsArrow env c a
  sought-fails c a wanted pair fits =
      let met = (Meets-asks env (arguments_of env a ∷ lists env ∷ []) (readonly env ∷ []) (list_of c)).0 pair.arguments in
      by c.result pair.answer pair.valid.1 (fits (All-head (λ d. Meets env d (list_of c)) (arguments_of env a) (lists env ∷ []) met.0))
    where
      by : (o : Option Shape) → IsAnswer env true (results_sought env a) o → IfSome o IsValid → IsSomeAnd o (Meets env (outcome_of env a)) → ⊥
      by None answer v given = given
      by (Some y) answer v given = All-head (λ d. ¬ Meets env d y) (outcome_of env a) [] ((Meets-asks env [] (outcome_of env a ∷ []) y).0 answer).1 given

-- ---- one more pair

module _ (env : List AtomDef) (wanted unwanted : List ℕ) where
  abbrev IsFitting : Case → Type 0
  IsFitting c = CaseIsValid c × All (FitsArrow env c) wanted

  abbrev IsAvoided : List Case → ℕ → Type 0
  IsAvoided cases a = IsFree env wanted a ⊎ (¬ All (λ c. FitsArrow env c a) cases)

  pub no_cases : AreCases env wanted (take 0 unwanted) []
  no_cases = record { fitting = All-nil _; avoiding = All-nil _ }

  pub one_free : (i : ℕ) (cases : List Case) → i < length unwanted → AreCases env wanted (take i unwanted) cases → IsFree env wanted (get_or unwanted i 0) → AreCases env wanted (take (i + 1) unwanted) cases
  one_free i cases lt are free = record { fitting = are.fitting; avoiding = All-more (IsAvoided cases) unwanted i 0 lt are.avoiding (inl free) }

  -- a further pair never puts a function into an unwanted arrow
  further-avoids : (cases : List Case) (c : Case) (a : ℕ) → IsAvoided cases a → IsAvoided (cases ++ c ∷ []) a
  further-avoids cases c a =
      ⊎_elim (λ (free : IsFree env wanted a). inl free) (λ (n : ¬ All (λ k. FitsArrow env k a) cases). inr (λ all. n (All-parts (λ k. FitsArrow env k a) cases (c ∷ []) all).0))

  pub one_more_case : (i : ℕ) (cases : List Case) (c : Case) → i < length unwanted → AreCases env wanted (take i unwanted) cases → IsPair env (arguments_sought env (get_or unwanted i 0)) (results_sought env (get_or unwanted i 0)) true wanted c → AreCases env wanted (take (i + 1) unwanted) (cases ++ c ∷ [])
  one_more_case i cases c lt are pair =
      let a = get_or unwanted i 0 in record {
        fitting = All-push IsFitting cases c are.fitting (pair.valid, pair.fits);
        avoiding = All-more (IsAvoided (cases ++ c ∷ [])) unwanted i 0 lt (All-weaker (IsAvoided cases) (IsAvoided (cases ++ c ∷ [])) (further-avoids cases c) (take i unwanted) are.avoiding)
            (inr (λ all. sought-fails env c a wanted pair (All-contains (λ k. FitsArrow env k a) (cases ++ c ∷ []) c all (Contains-push cases c))));
      }

-- ---- paths

module _ (env : List AtomDef) (small : length env ≤ the_mark) (p : Path) (pos : All (IsArrow env) (atoms_in p.pos)) (neg : All (IsArrow env) (atoms_in p.neg)) where
  -- a function with pairs that avoid the unwanted arrows is on the path
  pub function-on_path : (graph : Graph) → has_mark p ≡ false → AreCases env (atoms_in p.pos) (atoms_in p.neg) (graph_list graph) → IsValid (Function (is_alone_in env (atoms_in p.pos)) graph) × IsOnPath env Functions p (Function (is_alone_in env (atoms_in p.pos)) graph)
  function-on_path graph none are =
      let isolated = is_alone_in env (atoms_in p.pos) in
      let x = Function isolated graph in
      let cs = graph_list graph in
      let each = λ (a : ℕ) (c : Contains (atoms_in p.pos) a). All-weaker (λ k. CaseIsValid k × All (FitsArrow env k) (atoms_in p.pos)) (λ k. FitsArrow env k a) (λ k h. All-contains (FitsArrow env k) (atoms_in p.pos) a h.1 c) cs are.fitting in
      let ins = All-where (IsArrow env) (Contains (atoms_in p.pos)) (λ a. In env x (Atom a))
      (λ a d c. (In-arrow env small x refl (slice_get env a) d).1 (λ alone. any-at (is_isolated env) (atoms_in p.pos) c.0 a c.1 c.2 alone, each a c)) (atoms_in p.pos) pos (All-contains_itself (atoms_in p.pos)) in
      let outs = All-where (IsArrow env) (λ a. IsFree env (atoms_in p.pos) a ⊎ (¬ All (λ k. FitsArrow env k a) cs)) (λ a. ¬ In env x (Atom a))
      (λ a d h i. let f = (In-arrow env small x refl (slice_get env a) d).0 i in
      ⊎_elim (λ (free : IsFree env (atoms_in p.pos) a). false≢true (sym free.1 ∙ f.0 free.0)) (λ (n : ¬ All (λ k. FitsArrow env k a) cs). n f.1) h) (atoms_in p.neg) neg are.avoiding in (
        (IsValid-Function isolated graph).1 (All-weaker (λ k. CaseIsValid k × All (FitsArrow env k) (atoms_in p.pos)) CaseIsValid (λ k h. h.0) cs are.fitting),
        on_path env Functions p x refl none (λ m. m) ins outs,
      )

  -- a function of the path has a pair that an unwanted arrow doesn't allow, unless that arrow is free
  pub path-pair : (x : Shape) → IsValid x → IsOnPath env Functions p x → (a : ℕ) → Contains (atoms_in p.neg) a → ¬ IsFree env (atoms_in p.pos) a
      → (c : Case) × Contains (cases_in x) c × IsPair env (arguments_sought env a) (results_sought env a) true (atoms_in p.pos) c
  path-pair x valid on a among bound =
      let cs = cases_in x in
      let def = All-contains (IsArrow env) (atoms_in p.neg) a neg among in
      let out = All-contains (λ b. ¬ In env x (Atom b)) (atoms_in p.neg) a (in_no_unwanted env Functions p x on) among in
      let wanted = All-where (IsArrow env) (λ b. In env x (Atom b)) (λ b. (is_isolated env b ≡ true → isolated_in x ≡ true) × All (λ k. FitsArrow env k b) cs)
      (λ b d i. (In-arrow env small x on.kind (slice_get env b) d).0 i) (atoms_in p.pos) pos (in_wanted env Functions p x on) in
      let alone : is_isolated env a ≡ true → isolated_in x ≡ true = λ h. isolates h wanted in
      let found = not_all (λ k. FitsArrow env k a) (λ k. fits-decided env k a) cs (λ each. out ((In-arrow env small x on.kind (slice_get env a) def).1 (alone, each))) in
      let c = found.0 in
      let case_valid = All-contains CaseIsValid cs c (valid_cases x on.kind valid) found.1 in
      let fits = All-weaker (λ b. (is_isolated env b ≡ true → isolated_in x ≡ true) × All (λ k. FitsArrow env k b) cs) (FitsArrow env c) (λ b h. All-contains (λ k. FitsArrow env k b) cs c h.1 found.1) (atoms_in p.pos) wanted in
      (c, found.1, sought env small c a (atoms_in p.pos) case_valid found.2 fits)
    where
      isolates : is_isolated env a ≡ true → All (λ b. (is_isolated env b ≡ true → isolated_in x ≡ true) × All (λ k. FitsArrow env k b) (cases_in x)) (atoms_in p.pos) → isolated_in x ≡ true
      isolates h wanted = by (is_alone_in env (atoms_in p.pos)) refl
        where
          by : (b : Bool) → is_alone_in env (atoms_in p.pos) ≡ b → isolated_in x ≡ true
          by true e = any-finds (is_isolated env) (atoms_in p.pos) e (All-weaker (λ b. (is_isolated env b ≡ true → isolated_in x ≡ true) × All (λ k. FitsArrow env k b) (cases_in x)) (λ b. is_isolated env b ≡ true → isolated_in x ≡ true) (λ b w. w.0) (atoms_in p.pos) wanted)
          by false e = absurd (bound (h, e))
