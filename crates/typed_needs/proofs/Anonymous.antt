-- Anonymous functions.
use Rattle.std.proofs.Common.{◌≡◌, ◌∙◌, ◌+◌, ℕ, Bool, List, [], ◌∷◌, length, map, Option, Some, None, refl, rules, sym, subst, ap}
use Rattle.std.specs.Prelude.{IsSomeAnd, slice_get}
use Rattle.std.proofs.lemmas.List.{length-map}
use Rattle.bal_base.specs.declared.place.Place.{Place}
use Rattle.checks.specs.Checks.{Gives, ◌▷◌, gives_some}
use Rattle.checks.specs.Questions.{adds}
use Rattle.descriptors.specs.declared.names.Names.{Names}
use Rattle.descriptors.specs.Described.{plain}
use Rattle.needs.specs.Needs.{asks, does}
use Rattle.operations.specs.Rows.{AreBelow, ResultHas, Signature, Surroundings}
use Rattle.type_model.specs.declared.answers.TypeLimit.{TypeLimit}
use Rattle.type_model.specs.declared.atoms.AtomDef.{AtomDef}
use Rattle.type_model.specs.declared.basic.SemType.{SemType, Atom}
use Rattle.type_model.specs.declared.basic.Ty.{Ty}
use Rattle.type_model.specs.Calls.{Asked}
use Rattle.type_model.specs.Membership.{In}
use Rattle.typed_tree.specs.declared.expr.AnonymousFunction.{AnonymousFunction}
use Rattle.typed_tree.specs.declared.expr.TypedExpr.{TypedExpr}
use Rattle.typed_tree.specs.SharedTypes.{Shared, sem_of}
use Rattle.typed_tree.specs.Views.{IsFunctionOf}
use Rattle.check_words.specs.Calls.{makes_anonymous, typed_unit}
use Rattle.check_words.specs.State.{IsLast, State, UnitAtWork, all_but}
use Rattle.check_words.specs.Words.{Atoms}
use Rattle.tree_promises.specs.Made.{MadeIsTyped}
use Rattle.tree_promises.proofs.Pieces.{made-is-typed}
use Rattle.typed_needs.specs.Anonymous.{AnonymousIsTyped, IsOwnUnit}
use Rattle.typed_needs.proofs.Leaving.{Makes, made}
use Rattle.typed_needs.proofs.Opened.{as-before}
use Rattle.typed_needs.proofs.Placed.{last-same}

-- the function of a unit whose atoms begin with this one
abbrev pub function_of : Bool → UnitAtWork → ℕ → AnonymousFunction
function_of isolated u first = record { isolated = isolated; unit = typed_unit u (first + 1) (first + 2); args = first; captured = u.captured }

abbrev FunctionMade : Bool → UnitAtWork → ℕ → Place → Atoms → List TypedExpr → TypedExpr → Type 0
FunctionMade isolated u first at env parts e =
    (value : TypedExpr) × (parts ≡ value ∷ []) × (t : Shared) × (t.value ≡ plain (Atom (first + 1))) × IsFunctionOf (function_of isolated u first) value t at e

anonymous-opened : (isolated : Bool) (at : Place) (old new : State) → makes_anonymous isolated at old (Gives tt) new
    → (u : UnitAtWork) × (first : ℕ) × (mid : State) × IsLast old.units u × (first ≡ length old.atoms) × (mid.found ≡ old.found) × Makes 1 (FunctionMade isolated u first at) mid new
unfolding ◌▷◌ gives_some does asks adds
anonymous-opened isolated at old new (v, s1, e1, (u, s4, (w, s2, (last, e2), (x, s3, e3, (is, e4))), (first, s5, ((defs, own, number, atoms), e5), makes-it))) =
    let to-4 : s4 ≡ record s2 { units = all_but 1 s2.units; ways = None } = e4 ∙ e3 in
    let units : s1.units ≡ old.units = ap (λ (s : State). s.units) e1 in
    let atoms-4 : s4.atoms ≡ old.atoms = ap (λ (s : State). s.atoms) to-4 ∙ ap (λ (s : State). s.atoms) e2 ∙ ap (λ (s : State). s.atoms) e1 in
    let found-4 : s4.found ≡ old.found = ap (λ (s : State). s.found) to-4 ∙ ap (λ (s : State). s.found) e2 ∙ ap (λ (s : State). s.found) e1 in (
      u,
      first,
      s5,
      subst (λ us. IsLast us u) units (subst (λ (y : UnitAtWork). IsLast s1.units y) (sym is) last),
      number ∙ ap length atoms-4,
      ap (λ (s : State). s.found) e5 ∙ found-4,
      made 1 (FunctionMade isolated u first at) tt s5 new makes-it,
    )

module _ (passes : List AtomDef → Asked → TypeLimit → Type 0) (names : Names) (env : List AtomDef) (place : Surroundings) where
  pub anonymous-is-typed : AnonymousIsTyped passes names env place
  anonymous-is-typed isolated at old new u after met last captured own =
      let (w, first, mid, l, number, found, (ps, e, m, (value, is, t, type, view), all, atoms)) = anonymous-opened isolated at old new met in
      let one : w ≡ u = last-same old.units w u l last in
      let view' : IsFunctionOf (function_of isolated u first) value t at e = subst (λ (y : UnitAtWork). IsFunctionOf (function_of isolated y first) value t at e) one view in
      let pieces : MadeIsTyped env place (sem_of t) = made-is-typed env place (sem_of t) in
      let types : List SemType = map (λ c. sem_of c.ty) u.captured in
      as-before env passes names place 1 old mid new found
      (record {
        part = e;
        found = all;
        typed = pieces.function (function_of isolated u first) value t at e view' captured
            (length-map u.captured (λ c. sem_of c.ty), at-unit (slice_get place.units u.number) own t type number);
      })
    where
      at-unit : {first : ℕ} (o : Option Signature) → IsSomeAnd o (IsOwnUnit env u old) → (t : Shared) → t.value ≡ plain (Atom (first + 1)) → first ≡ length old.atoms
          → IsSomeAnd o (λ s. AreBelow env (map (λ c. sem_of c.ty) u.captured) s.captured × ResultHas env (Some (sem_of t)) (λ x. In env x (Atom s.arrow)))
      at-unit (Some s) h t type number =
          (h.captured, (λ x valid i. subst (λ (y : Ty). In env x y.sem) (sym type) (subst (λ n. In env x (Atom n)) (h.arrow ∙ ap (λ n. n + 1) (sym number)) i)))
      at-unit None h t type number = absurd h
