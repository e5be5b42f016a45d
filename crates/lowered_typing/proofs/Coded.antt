-- Code that has what is made for units is typed by their maps.
use Rattle.std.proofs.Common.{◌≡◌, ◌∙◌, ◌≤◌, ◌<◌, ◌+◌, ◌-◌, ◌++◌, ℕ, suc, List, [], ◌∷◌, length, Option, Some, refl, sym, subst, ap, arith, replicate}
use Rattle.std.specs.Prelude.{IsSomeAnd, slice_get}
use Rattle.type_model.specs.declared.atoms.AtomDef.{AtomDef}
use Rattle.operations.specs.Rows.{AreBelow, Surroundings}
use Rattle.typed_tree.specs.declared.package.TypedPackage.{TypedPackage}
use Rattle.eval_model.specs.Expressions.{error_type}
use Rattle.stack_code.specs.declared.code.Code.{Code}
use Rattle.stack_code.specs.Commands.{Command, Do, GoTo, GoToIfNot, OpenTrap, CloseTrap, command_at}
use Rattle.lower_model.specs.Laying.{Agrees, StandsFor}
use Rattle.lower_model.specs.Making.{Making, place_of, placed, unit_made, units_made, unmade}
use Rattle.tree_promises.specs.Placed.{Placed, surroundings}
use Rattle.tree_promises.specs.Types.{DoesTypes, Stack, TakesTypes}
use Rattle.typed_making.specs.Mapped.{IsTyped}
use Rattle.typed_making.proofs.Mapping.{below-then, takes-wider}
use Rattle.map_model.specs.Points.{PlainTypes}
use Rattle.lowered_typing.specs.Laws.{CodeIsTypedByMaps, bodies_in}
use Rattle.lowered_typing.specs.Typed.{AreTypedFrom, AreTypedIn, IsTypedAs, IsTypedFrom, IsTypedIn, NamesFrom, stack_in, types_from}
use Rattle.lowered_typing.proofs.Landed.{get-behind, names-placed, some-same, there-is}
use Rattle.lowered_typing.proofs.Naming.{many-wants}
use Rattle.lowered_typing.proofs.Nesting.{Names, Traps}
use Rattle.lowered_typing.proofs.Tidy.{Tidied, keeps-steps, long-news, none}
use Rattle.lowered_typing.proofs.Turning.{units-are-typed-in-turn}
use Rattle.lowered_typing.proofs.Units.{unit-ends, unit-tidy, units-tidy, within}

-- what holds of what stands there holds of this
at-some : {X : Type 0} (P : X → Type 0) (o : Option X) (x : X) → o ≡ Some x → IsSomeAnd o P → P x
at-some P o x e h = subst (λ o. IsSomeAnd o P) e h

module _ (plain : PlainTypes) (env : List AtomDef) (p : TypedPackage) (code : Code) (u : Placed) (m n whole : Making) (old ts : List Traps) (a : Tidied none none m n old ts [] []) (made : unit_made u.tree.body m ≡ n)
    (agrees : Agrees code (place_of whole) whole) (kept : (q : ℕ) (c : Command) → slice_get n.steps q ≡ Some c → slice_get whole.steps q ≡ Some c) (labels : (l : ℕ) → l < length n.labels → slice_get whole.labels l ≡ slice_get n.labels l)
    (inside : (l to : ℕ) → length m.labels ≤ l → slice_get n.labels l ≡ Some (Some to) → to < length n.steps) (wants : List Stack) (typed : IsTypedIn plain env p u m whole wants) where
  abbrev place : Surroundings
  place = surroundings p u

  abbrev first : ℕ
  first = length m.steps

  abbrev At : ℕ → Stack
  At q = types_from plain env p first u q

  abbrev In : ℕ → Stack
  In k = stack_in plain env p u k

  here : (k : ℕ) → At (first + k) ≡ In k
  here k = ap In (let e : (first + k) - first ≡ k = omega arith in e)

  next : (k : ℕ) → At ((first + k) + 1) ≡ In (suc k)
  next k = ap In (let e : ((first + k) + 1) - first ≡ suc k = omega arith in e)

  one : (P : Stack → Type 0) (k : ℕ) → P (In k) → P (At (first + k))
  one P k h = subst P (sym (here k)) h

  two : (P : Stack → Stack → Type 0) (k : ℕ) → P (In k) (In (suc k)) → P (At (first + k)) (At ((first + k) + 1))
  two P k h = one (λ s. P s (At ((first + k) + 1))) k (subst (P (In k)) (sym (next k)) h)

  -- where its label is, there is what the label is to have
  abbrev IsPlaced : ℕ → Type 0
  IsPlaced l = (to : ℕ) × (slice_get n.labels l ≡ Some (Some to)) × (l < length n.labels) × (to < length n.steps) × (length m.labels ≤ l)

  reaches : (l : ℕ) → IsPlaced l → (want : Stack) → slice_get wants l ≡ Some want → AreBelow env want (At (place_of whole l))
  reaches l (to, e, few, last, own) want w =
      let (k, is, le, (other, x, below)) = typed.lands l to own (subst (λ y. l < length y.labels) (sym made) few) (labels l few ∙ e) in
      subst (λ q. AreBelow env want (At q)) (sym (ap placed (labels l few ∙ e)))
      (subst (λ q. AreBelow env want (At q)) (sym is) (subst (AreBelow env want) (sym (here k)) (subst (λ s. AreBelow env s (In k)) (some-same other want (sym x ∙ w)) below)))

  by-command : (k : ℕ) (c d : Command) → StandsFor code (place_of whole) (first + k) c → command_at code (first + k) ≡ Some d → IsTyped env place wants c (In k) (In (suc k)) → Names IsPlaced c → IsTypedAs env place At (first + k) d
  by-command k c d stands at typed named = so c stands typed named
    where
      says : (x : Command) → command_at code (first + k) ≡ Some x → IsTypedAs env place At (first + k) x → IsTypedAs env place At (first + k) d
      says x is h = subst (IsTypedAs env place At (first + k)) (some-same x d (sym is ∙ at)) h

      so : (c : Command) → StandsFor code (place_of whole) (first + k) c → IsTyped env place wants c (In k) (In (suc k)) → Names IsPlaced c → IsTypedAs env place At (first + k) d
      so (Do op) (also, is, alike) t named = says (Do also) is (op, alike, two (DoesTypes env place op) k t)
      so (GoTo l) is (want, w, below) named =
          says (GoTo (place_of whole l)) is (one (λ s. AreBelow env s (At (place_of whole l))) k (below-then env place (In k) want (At (place_of whole l)) below (reaches l named want w)))
      so (GoToIfNot l) is (t, (want, w, other)) named =
          says (GoToIfNot (place_of whole l)) is (
            two (TakesTypes env place) k t,
            one (λ s. TakesTypes env place s (At (place_of whole l))) k (takes-wider env place {p = In k} want (At (place_of whole l)) other (reaches l named want w)),
          )
      so (OpenTrap l) is (t, (want, w, e)) named =
          says (OpenTrap (place_of whole l)) is (
            two (AreBelow env) k t,
            one (λ s. AreBelow env (s ++ error_type ∷ []) (At (place_of whole l))) k (subst (λ s. AreBelow env s (At (place_of whole l))) e (reaches l named want w)),
          )
      so CloseTrap is t named = says CloseTrap is (two (AreBelow env) k t)

  pub typed-from : IsTypedFrom plain env p code first u
  typed-from k d few at =
      let long : k < length a.news = omega (arith, few, typed.count, ap (λ y. length y.steps) made, long-news none none m n old ts [] [] a) in
      let (c, e) = there-is a.news k long in
      let stands : slice_get whole.steps (first + k) ≡ Some c = kept (first + k) c (ap (λ cs. slice_get cs (first + k)) a.steps ∙ get-behind m.steps a.news k ∙ e) in
      let h = at-some (λ c. IsTyped env place wants c (In k) (In (suc k)) × NamesFrom (length m.labels) c) (slice_get whole.steps (first + k)) c stands (typed.steps k few) in
      by-command k c d (agrees.steps (first + k) c stands) at h.0 (names-placed code m n whole old ts a agrees kept labels inside k c e)

module _ (plain : PlainTypes) (env : List AtomDef) (p : TypedPackage) (code : Code) (whole : Making) (agrees : Agrees code (place_of whole) whole) (wants : List Stack) where
  coded : (us : List Placed) (m : Making) → AreTypedIn plain env p us m whole wants → units_made (bodies_in us) m ≡ whole → AreTypedFrom plain env p code us m
  coded [] m typed is = tt
  coded (u ∷ us) m typed is =
      let n : Making = unit_made u.tree.body m in
      let old : List Traps = replicate (length m.labels) [] in
      let many : length m.labels ≡ length old = sym (many-wants (length m.labels) []) in
      let (ts, a) = unit-tidy u.tree.body m old [] many (λ l c. absurd c) in
      let (more, r) = units-tidy (bodies_in us) n ts [] a.many (λ l c. absurd c) in (
        typed-from plain env p code u m n whole old ts a refl agrees
            (λ q c e. subst (λ w. slice_get w.steps q ≡ Some c) is (keeps-steps none none n (units_made (bodies_in us) n) ts more [] [] r q c e))
            (λ l lt. subst (λ w. slice_get w.labels l ≡ slice_get n.labels l) is (r.keeps l lt))
            (within (unit_made u.tree.body) (unit-ends u.tree.body) m old many) wants typed.0,
        coded us n typed.1 is,
      )

pub code-is-typed-by-maps : CodeIsTypedByMaps
code-is-typed-by-maps plain env p us written code agrees =
    let (wants, many, typed) = units-are-typed-in-turn plain env p us written in
    coded plain env p code (units_made (bodies_in us) unmade) agrees wants us unmade typed refl
