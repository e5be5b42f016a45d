-- Initial values as a whole: typed in the unit of the module's initialiser, and dropped where the module isn't initialised.
use Rattle.std.proofs.Common.{All, Bool, IfSome, List, None, Ok, Option, Some, [], ap, append-nil, append_assoc, arith, false, inr, length, length-append, map, refl, subst, sym, true, ℕ, ◌++◌, ◌==◌, ◌∙◌, ◌∷◌, ◌≡◌, ◌≤◌}
use Rattle.std.proofs.lemmas.List.Elements.{All-append, All-cons, All-nil}
use Rattle.std.proofs.lemmas.Bool.{eq-eqb}
use Rattle.std.specs.Prelude.{IsSomeAnd, slice_get}
use Rattle.bal_base.specs.declared.shape.Shape.{Bool as BoolShape, Error', Function, Future', Int, List', Mapping', Nil, Shape, Str}
use Rattle.bal_tree.specs.declared.def.VariableDef.{VariableDef}
use Rattle.bal_tree.specs.declared.expr.Expr.{Expr}
use Rattle.bal_tree.specs.declared.name.QualifiedName.{QualifiedName}
use Rattle.calm_needs.proofs.Calming.{same-stored}
use Rattle.calm_needs.proofs.PlacedParts.{one-units, units_of}
use Rattle.check_laws.specs.Laws.{IsReady, KeptPositions}
use Rattle.check_words.proofs.Standing.{back-have, front-have, last-has}
use Rattle.check_words.specs.Kinds.{IsOfKind}
use Rattle.check_words.specs.Stands.{UnitBelow}
use Rattle.check_words.specs.State.{InitialiserAtWork, IsLast, Site, State, UnitAtWork, all_but}
use Rattle.check_words.specs.Words.{OfKind}
use Rattle.descriptors.specs.Described.{IsCopy}
use Rattle.descriptors.specs.Naming.{entry_in, meaning_named}
use Rattle.descriptors.specs.declared.names.Entry.{Entry}
use Rattle.descriptors.specs.declared.names.Meaning.TheVariants as meaning
use Rattle.descriptors.specs.declared.names.Names.{Names}
use Rattle.descriptors.specs.declared.names.Scope.{Scope}
use Rattle.eval_model.specs.Expressions.{nil_type}
use Rattle.expr_needs.specs.ExprTable.{as_wanted, read_expr}
use Rattle.expr_needs.specs.Needs.{BeginsInitial, EndsInitial, IsWanted}
use Rattle.expr_needs.specs.declared.expected.Expected.TheVariants as expected
use Rattle.expr_needs.specs.declared.kind.Kind.TheVariants as kind
use Rattle.operations.specs.Rows.{Surroundings}
use Rattle.tree_promises.specs.Made.{sem}
use Rattle.tree_promises.specs.Placed.{Placed, initial_placed}
use Rattle.tree_promises.specs.Types.{IsTypedExpr}
use Rattle.type_model.proofs.SameTypes.{In-same}
use Rattle.type_model.specs.Basic.{InBasic}
use Rattle.type_model.specs.Calls.{Asked}
use Rattle.type_model.specs.Inclusion.{Sub}
use Rattle.type_model.specs.Membership.{In}
use Rattle.type_model.specs.declared.answers.TypeLimit.{TypeLimit}
use Rattle.type_model.specs.declared.atoms.AtomDef.{AtomDef}
use Rattle.type_model.specs.declared.basic.BasicSet.TheVariants.{Nil as NilOnly}
use Rattle.type_model.specs.declared.basic.SemType.{SemType}
use Rattle.type_model.specs.declared.basic.Ty.{Ty}
use Rattle.typed_blocks.specs.Trees.{AllTreesAreKnown}
use Rattle.typed_bodies.proofs.Trails.{as-many}
use Rattle.typed_bodies.proofs.Values.{want-given, wanted-ready}
use Rattle.typed_bodies.specs.Claims.{CanAct, KnowsValue}
use Rattle.typed_definitions.proofs.Begun.{MoreAtoms, atoms-on, atoms-same}
use Rattle.typed_definitions.proofs.Initials.{InitialBegun, InitialEnded, IsAlike, IsFrom, ValueKept, initial-begun, initial-ended, kept_as, value-dropped, value-kept}
use Rattle.typed_definitions.specs.Initials.{AddsInitial, AllInitialValuesAreTyped, InitialValueIsTyped, InitialiserIsFar, InitialiserIsKnown, IsAtRest, IsPartOf, IsVariable, UnitIsKnown, units_of_values, values_of}
use Rattle.typed_exprs.proofs.Operands.{Operand}
use Rattle.typed_exprs.proofs.Steps.{before, parted, so-far}
use Rattle.typed_exprs.specs.Lines.{Left, Run}
use Rattle.kept_done.specs.Done.{DoneIsKept, KeepsDone, TreesEndNone}
use Rattle.typed_definitions.proofs.Values.{value-done}
use Rattle.typed_functions.proofs.Line.{others-same}
use Rattle.typed_needs.proofs.Asking.{wanted-leaves}
use Rattle.typed_needs.proofs.Going.{unit-by-handles, unit-itself, unit-then}
use Rattle.typed_needs.proofs.OnTheWay.{unit-came}
use Rattle.typed_needs.proofs.Placed.{all-but-last, last-same}
use Rattle.typed_needs.specs.Between.{IsKept, IsSoFar, IsStanding, IsTypedUnit, IsUnitAt, WaysAreStored, place_within, units_in}
use Rattle.typed_needs.specs.Going.{IsSameUnit}
use Rattle.typed_needs.specs.Items.{AreFirst}
use Rattle.typed_needs.specs.Pieces.{IsBefore}
use Rattle.typed_needs.specs.Placing.{AreNamed, AreStored, IsStored}
use Rattle.typed_needs.specs.Waits.{AreResults}
use Rattle.typed_needs.specs.WholeRuns.{RunsGoOn}
use Rattle.typed_trees.proofs.Leaving.{expr-leaves}
use Rattle.typed_stmts.specs.Assigned.{TakeValues}
use Rattle.typed_tree.specs.Listed.{members, one, ◌&◌}
use Rattle.typed_tree.specs.SharedTypes.{Shared, sem_of}
use Rattle.typed_tree.specs.declared.expr.TypedExpr.{TypedExpr}
use Rattle.typed_tree.specs.declared.package.Initial.{Initial}
use Rattle.typed_units.specs.Bodies.{InitialIsTyped}

-- ---- small facts

same-number : (n : ℕ) → (n == n) ≡ true
same-number n = eq-eqb n n refl

-- in its own module what is defined under a name is what the name stands for
own-meaning : (names : Names) (scope : Scope) (q : QualifiedName) (e : Entry) → q.prefix ≡ None → entry_in names q.word.name scope.«module» ≡ Some e → meaning_named names scope q ≡ Ok e.meaning
own-meaning names scope q e none there = (let one = same-number scope.«module» in cc)

nil-of : (x : Shape) → InBasic x NilOnly → IsOfKind kind.ErrorOrNil x
nil-of Nil i = inr refl
nil-of (BoolShape b) i = absurd i
nil-of (Int n) i = absurd i
nil-of (Str t) i = absurd i
nil-of (List' mark _ items) i = absurd i
nil-of (Mapping' mark _ fields) i = absurd i
nil-of (Error' _ detail) i = absurd i
nil-of (Function isolated graph) i = absurd i
nil-of (Future' _ results) i = absurd i

no-results : (env : List AtomDef) (place : Surroundings) → AreResults env place []
no-results env place w t e = absurd (let bad : ⊥ = cc in bad)

values-append : (is : List Initial) (x : Initial) → units_of_values (is ++ x ∷ []) ≡ units_of_values is ++ members (initial_placed x)
values-append [] x = append-nil (members (initial_placed x))
values-append (i ∷ is) x =
    ap (λ us. members (initial_placed i) ++ us) (values-append is x) ∙ sym (append_assoc (members (initial_placed i)) (units_of_values is) (members (initial_placed x)))

-- atoms come behind those that are there
pub fewer-atoms : (env : List AtomDef) (s t : State) → MoreAtoms s t → AreFirst env t.atoms → AreFirst env s.atoms
fewer-atoms env s t more (rest, is) = (more.more ++ rest, is ∙ ap (λ xs. xs ++ rest) more.is ∙ append_assoc s.atoms more.more rest)

from-values : (atoms : List AtomDef) (o : Option InitialiserAtWork) (w : InitialiserAtWork) → IsFrom atoms o w → w.values ≡ values_of o
from-values atoms None w h = h.0
from-values atoms (Some i) w h = ap (λ (x : InitialiserAtWork). x.values) h

pub rest-of : (s t : State) → IsAtRest s → t.found ≡ s.found → t.blocks ≡ s.blocks → t.matches ≡ s.matches → t.units ≡ s.units → t.site ≡ s.site → t.done.workers ≡ s.done.workers → IsAtRest t
rest-of s t h found blocks matches units site workers =
    record {
      found = found ∙ h.found;
      blocks = blocks ∙ h.blocks;
      matches = matches ∙ h.matches;
      units = units ∙ h.units;
      results = ap (λ (x : Site). x.results) site ∙ h.results;
      workers = workers ∙ h.workers;
    }

module _ (passes : List AtomDef → Asked → TypeLimit → Type 0) (exprs : KeptPositions passes) (goes : RunsGoOn passes) (trees : AllTreesAreKnown passes) (done : DoneIsKept passes) (none : TreesEndNone)
    (names : Names) (env : List AtomDef) (place : Surroundings) where
  -- ---- one initial value, from where it begins to where it ends

  module _ (d : VariableDef) (kept : Bool) (old a b new : State) (rest : IsAtRest old) (begin : InitialBegun names d kept old a) (standing : IsStanding a)
      (rv : Run passes names env (as_wanted (read_expr d.value.value)) a b) (end : InitialEnded names d kept b new) where
    abbrev x : Expr
    x = d.value.value

    hand : IsLast a.units begin.unit
    hand = record { kept = old.units; is = begin.units }

    unit-a : 1 ≤ length a.units
    unit-a = (let e = ap length begin.units in let l = length-append old.units (begin.unit ∷ []) in omega (arith, e, l))

    ready : IsReady expected.Wanted a
    ready = wanted-ready a begin.want unit-a begin.wants

    abbrev Can : Surroundings → State → Type 0
    Can ins = CanAct env ins []

    left : Left a b
    left =
        let (m, ra, rs) = parted passes names env ((read_expr x).needs expected.Wanted) (one (IsWanted (read_expr x).at)) a b rv in
        subst (λ (s : State). Left a s) (sym (wanted-leaves passes (read_expr x).at m b tt rs.0))
        (expr-leaves passes names env (exprs names) (goes names) x expected.Wanted a m ready ra)

    same : IsSameUnit begin.at_work.unit end.unit
    same =
        let c = unit-came a b end.unit left.path.goes (as-many a.units b.units left.more.same.units) end.at_hand in
        let on : IsSameUnit begin.unit end.unit = subst (λ (w : UnitAtWork). IsSameUnit w end.unit) (last-same a.units c.was begin.unit c.at_hand hand) c.same in
        unit-then begin.at_work.unit begin.unit end.unit (unit-by-handles begin.at_work.unit begin.at_work.unit begin.unit (unit-itself begin.at_work.unit) begin.same) on

    found-b : b.found ≡ end.value ∷ []
    found-b =
        let one : left.more.part ≡ end.value = last-same b.found left.more.part end.value (record { kept = a.found; is = left.more.found }) end.last in
        left.more.found ∙ ap (λ es. es ++ left.more.part ∷ []) (begin.found ∙ rest.found) ∙ ap (λ e. e ∷ []) one

    initialiser-mid : end.mid.initialiser ≡ kept_as kept begin.at_work old.initialiser
    initialiser-mid = end.initialiser ∙ left.more.same.initialiser ∙ begin.initialiser

    others : all_but 1 b.units ≡ []
    others = others-same a.units b.units left.more.same.units ∙ ap (λ us. all_but 1 us) begin.units ∙ all-but-last old.units begin.unit ∙ rest.units

    done-b : KeepsDone a b
    done-b = value-done passes done none names env x a b rv

    mid-rest : IsAtRest end.mid
    mid-rest =
        record {
          found = end.found ∙ ap (λ es. all_but 1 es) found-b;
          blocks = end.blocks ∙ left.more.blocks ∙ begin.blocks ∙ rest.blocks;
          matches = end.matches ∙ left.more.same.matches ∙ begin.matches ∙ rest.matches;
          units = end.units ∙ others;
          results = ap (λ (s : Site). s.results) (end.site ∙ left.more.same.site ∙ begin.site) ∙ rest.results;
          workers = end.workers ∙ done-b.workers ∙ begin.workers ∙ rest.workers;
        }

    -- the variable is of the type that was wanted
    of-type : IsCopy begin.type end.variable.ty.value
    of-type =
        let here : IsLast b.wants (Some begin.want) = subst (λ ws. IsLast ws (Some begin.want)) (sym left.more.same.wants) begin.wants in
        let both : Some begin.want ≡ Some end.variable.ty = last-same b.wants (Some begin.want) (Some end.variable.ty) here end.wanted in
        let one : begin.want ≡ end.variable.ty = cc in
        subst (λ (t : Shared). IsCopy begin.type t.value) one begin.copied

    mid-scope : end.mid.site.scope ≡ old.site.scope
    mid-scope = ap (λ (s : Site). s.scope) (end.site ∙ left.more.same.site ∙ begin.site)

    mid-variables : end.mid.done.variables ≡ old.done.variables ++ end.variable ∷ []
    mid-variables = end.variables ∙ ap (λ vs. vs ++ end.variable ∷ []) (done-b.variables ∙ begin.variables)

    mid-atoms : MoreAtoms old end.mid
    mid-atoms =
        atoms-on old a end.mid (atoms-same old a begin.atoms)
        (atoms-on a b end.mid (record { more = left.path.goes.more; is = left.path.goes.atoms }) (atoms-same b end.mid end.atoms))

    -- ---- what is known of it, in the unit that it is of

    module _ (named : AreNamed env names place) (takes : TakeValues env names place) (u : Placed) (first : AreFirst env end.mid.atoms) (part : IsPartOf u end.unit) (in-value : All (IsUnitAt place) (units_of end.value))
        (stored : All (IsStored (place_within place u)) begin.at_work.unit.flow.variables) where
      abbrev ins : Surroundings
      ins = place_within place u

      known : KnowsValue passes names env ins (Can ins) (read_expr x)
      known = (trees names env ins [] (record { variables = named.variables; functions = named.functions }) takes).expr x

      kept-a : IsKept ins a
      kept-a =
          record {
            standing = standing;
            stored = record { unit = begin.unit; at_hand = hand; variables = same-stored ins begin.at_work.unit.flow.variables begin.unit.flow.variables begin.same.flow.variables stored };
            ways = subst (λ w. IfSome w (WaysAreStored ins)) (sym begin.ways) tt;
          }

      far-b : IsSoFar env ins b
      far-b =
          record {
            first = subst (AreFirst env) end.atoms first;
            placed = record { unit = end.unit; at_hand = end.at_hand; later = part.later; slots = part.slots; result = part.result };
            units = subst (λ (es : List TypedExpr). All (IsUnitAt place) (units_in es)) (sym found-b) (subst (All (IsUnitAt place)) (sym (one-units end.value)) in-value);
          }

      can : Can ins a
      can =
          record {
            peers = All-nil _;
            results = subst (λ rs. AreResults env ins rs) (sym (ap (λ (s : Site). s.results) begin.site ∙ rest.results)) (no-results env ins);
          }

      given : Operand passes names env ins (λ e. Sub env (sem e) (sem_of begin.want)) a b
      given = want-given passes names env ins (Can ins) (read_expr x) known begin.want a b can ready rv kept-a begin.wants far-b

      value-is : given.part ≡ end.value
      value-is = last-same b.found given.part end.value (record { kept = a.found; is = given.found }) end.last

      typed : IsTypedExpr env ins end.value
      typed = subst (λ e. IsTypedExpr env ins e) value-is given.typed

      units-typed : All (IsTypedUnit env place) (units_of end.value)
      units-typed =
          let these : All (IsTypedUnit env place) (units_in (given.part ∷ [])) = given.units in
          subst (λ e. All (IsTypedUnit env place) (units_of e)) value-is (subst (All (IsTypedUnit env place)) (one-units given.part) these)

      -- the variable takes all that is of its type
      record Taken : Type 0 where
        pub type : SemType
        pub there : slice_get place.variables end.number ≡ Some type
        pub fits : Sub env (sem end.value) type

      some-type : (o : Option SemType) (t : SemType) → slice_get place.variables end.number ≡ o → IsSomeAnd o (λ s. Sub env t s) → Sub env (sem end.value) t → Taken
      some-type None t is h under = absurd h
      some-type (Some s) t is h under = record { type = s; there = is; fits = λ y valid i. h y valid (under y valid i) }

      -- both times the name stands for the same variable
      same-type : begin.type ≡ end.type
      same-type =
          let site : b.site ≡ old.site = left.more.same.site ∙ begin.site in
          let again : entry_in names d.name.name old.site.scope.«module» ≡ Some end.named.entry =
          subst (λ (s : Site). entry_in names d.name.name s.scope.«module» ≡ Some end.named.entry) site end.named.there in
          let first = begin.named.there in
          let one : begin.named.entry ≡ end.named.entry = cc in
          let m = begin.named.meaning in
          let n = end.named.meaning in
          let same : begin.type ≡ end.type = cc in
          same

      taken : Taken
      taken =
          let q : QualifiedName = record { prefix = None; word = d.name; at = d.name.at } in
          let stands : meaning_named names b.site.scope q ≡ Ok (meaning.Variable end.number end.named.final end.type) =
          own-meaning names b.site.scope q end.named.entry refl end.named.there ∙ ap (λ m. Ok m) end.named.meaning in
          let under : Sub env (sem end.value) end.type.sem =
          (λ y valid i. (In-same env y end.type.sem (sem_of begin.want) (subst (λ (t : Ty). IsCopy t begin.want.value) same-type begin.copied).sem).1
          (subst (λ e. Sub env (sem e) (sem_of begin.want)) value-is given.holds y valid i)) in
          some-type (slice_get place.variables end.number) end.type.sem refl (takes b.site.scope q end.number end.named.final end.type stands) under

      -- what the unit's variables are in stays so
      still-stored : All (IsStored ins) end.unit.flow.variables
      still-stored =
          let k = given.kept.stored in
          let one : k.unit ≡ end.unit = last-same b.units k.unit end.unit k.at_hand end.at_hand in
          subst (λ (w : UnitAtWork). All (IsStored ins) w.flow.variables) one k.variables

      -- where the initialiser begins, nil is a result of its unit
      nil-fits : OfKind kind.ErrorOrNil old.atoms begin.at_work.unit.result.value → Sub env nil_type (sem_of end.unit.result)
      nil-fits of_kind y valid i =
          let before-a : IsBefore env a = before env ins a kept-a (so-far env ins a b left.path far-b) in
          let unit : UnitBelow (length a.atoms) begin.unit = last-has (UnitBelow (length a.atoms)) a.units begin.unit hand before-a.stands.units in
          let sems : sem_of begin.unit.result ≡ sem_of begin.at_work.unit.result = ap (λ (t : Ty). t.sem) begin.same.result in
          let here : In a.atoms y (sem_of begin.at_work.unit.result) =
          subst (λ xs. In xs y (sem_of begin.at_work.unit.result)) (sym begin.atoms) ((of_kind.0.shapes y valid).1 (nil-of y i)) in
          let there : In a.atoms y (sem_of begin.unit.result) = subst (λ s. In a.atoms y s) (sym sems) here in
          let after : In env y (sem_of begin.unit.result) = (before-a.keeps.shapes (sem_of begin.unit.result) unit.result.0 y).0 there in
          subst (λ s. In env y s) (sym (same.result ∙ sym sems)) after

    -- ---- of a module that isn't initialised

    dropped : kept ≡ false → IsAlike end.mid new → AddsInitial passes names env place d old new
    dropped no_value alike =
        let initialiser : new.initialiser ≡ old.initialiser =
        alike.initialiser ∙ initialiser-mid ∙ ap (λ k. kept_as k begin.at_work old.initialiser) no_value in
        let more : MoreAtoms old new = atoms-on old end.mid new mid-atoms (atoms-same end.mid new alike.atoms) in
        record {
          scope = ap (λ (s : Site). s.scope) alike.site ∙ mid-scope;
          variable = end.variable;
          variables = alike.variables ∙ mid-variables;
          number = begin.number;
          type = begin.type;
          named = begin.named;
          copied = of-type;
          rest = rest-of end.mid new mid-rest alike.found alike.blocks alike.matches alike.units alike.site alike.workers;
          functions = alike.functions ∙ end.functions ∙ done-b.functions ∙ begin.functions;
          initialisers = alike.initialisers ∙ end.initialisers ∙ done-b.initialisers ∙ begin.initialisers;
          more = more.more;
          atoms = more.is;
          far = λ u h.
              record {
                first = fewer-atoms env old new more h.first;
                part = subst (λ o. IfSome o (λ (i : InitialiserAtWork). IsPartOf u i.unit)) initialiser h.part;
                units = subst (λ o. All (IsUnitAt place) (units_of_values (values_of o))) initialiser h.units;
              };
          known = λ named takes u far h.
              record {
                unit = subst (λ o. IfSome o (λ (i : InitialiserAtWork). UnitIsKnown env place u i.unit)) (sym initialiser) h.unit;
                values = subst (λ o. All (InitialIsTyped env place u) (values_of o)) (sym initialiser) h.values;
                units = subst (λ o. All (IsTypedUnit env place) (units_of_values (values_of o))) (sym initialiser) h.units;
              };
        }

    -- ---- of one that is

    module _ (one : ValueKept end.unit end.number end.value begin.at_work end.mid new) where
      abbrev w : InitialiserAtWork
      w = begin.at_work

      abbrev now : InitialiserAtWork
      now = record { unit = end.unit; values = w.values ++ one.initial ∷ [] }

      is-now : new.initialiser ≡ Some now
      is-now = ap (λ (s : State). s.initialiser) one.all

      more : MoreAtoms old new
      more = atoms-on old end.mid new mid-atoms (atoms-same end.mid new (ap (λ (s : State). s.atoms) one.all))

      all-values : units_of_values now.values ≡ units_of_values w.values ++ units_of one.initial.value.value
      all-values = values-append w.values one.initial

      -- the unit before is part of what the unit behind is part of
      part-before : (u : Placed) → IsPartOf u end.unit → (o : Option InitialiserAtWork) → IsFrom old.atoms o w → IfSome o (λ i. IsPartOf u i.unit)
      part-before u p None h = tt
      part-before u p (Some i) h =
          subst (λ (j : InitialiserAtWork). IsPartOf u j.unit) h
          (record {
            later = same.more ++ p.later;
            slots = p.slots ∙ ap (λ ts. ts ++ p.later) same.slots ∙ append_assoc (map sem_of w.unit.slots) same.more p.later;
            result = p.result ∙ same.result;
          })

      module _ (u : Placed) (far : InitialiserIsFar env place u new) where
        part : IsPartOf u end.unit
        part = subst (λ o. IfSome o (λ (i : InitialiserAtWork). IsPartOf u i.unit)) is-now far.part

        these : All (IsUnitAt place) (units_of_values w.values ++ units_of one.initial.value.value)
        these = subst (All (IsUnitAt place)) all-values (subst (λ o. All (IsUnitAt place) (units_of_values (values_of o))) is-now far.units)

        far-before : InitialiserIsFar env place u old
        far-before =
            record {
              first = fewer-atoms env old new more far.first;
              part = part-before u part old.initialiser begin.from;
              units = subst (λ is. All (IsUnitAt place) (units_of_values is)) (from-values old.atoms old.initialiser w begin.from)
                  (front-have (IsUnitAt place) (units_of_values w.values) (units_of one.initial.value.value) these);
            }

        module _ (named : AreNamed env names place) (takes : TakeValues env names place) (h : InitialiserIsKnown env place u old) where
          stored-of : (o : Option InitialiserAtWork) → IsFrom old.atoms o w → IfSome o (λ i. UnitIsKnown env place u i.unit) → All (IsStored (place_within place u)) w.unit.flow.variables
          stored-of None f k = subst (All (IsStored (place_within place u))) (sym f.1) (All-nil _)
          stored-of (Some i) f k = subst (λ (j : InitialiserAtWork). All (IsStored (place_within place u)) j.unit.flow.variables) (sym f) k.stored

          stored : All (IsStored (place_within place u)) w.unit.flow.variables
          stored = stored-of old.initialiser begin.from h.unit

          first : AreFirst env end.mid.atoms
          first = subst (AreFirst env) (ap (λ (s : State). s.atoms) one.all) far.first

          in-value : All (IsUnitAt place) (units_of end.value)
          in-value =
              subst (λ e. All (IsUnitAt place) (units_of e)) one.value_is
              (back-have (IsUnitAt place) (units_of_values w.values) (units_of one.initial.value.value) these)

          nil-of-unit : (o : Option InitialiserAtWork) → IsFrom old.atoms o w → IfSome o (λ i. UnitIsKnown env place u i.unit) → Sub env nil_type (sem_of end.unit.result)
          nil-of-unit None f k = nil-fits named takes u first part in-value stored f.2
          nil-of-unit (Some i) f k = subst (λ s. Sub env nil_type s) (sym (same.result ∙ ap (λ (j : InitialiserAtWork). sem_of j.unit.result) f)) k.nil

          this-one : InitialIsTyped env place u one.initial
          this-one =
              let t = taken named takes u first part in-value stored in
              record {
                typed = subst (λ e. IsTypedExpr env (place_within place u) e) (sym one.value_is) (typed named takes u first part in-value stored);
                type = t.type;
                there = subst (λ n. slice_get place.variables n ≡ Some t.type) (sym one.variable) t.there;
                fits = subst (λ e. Sub env (sem e) t.type) (sym one.value_is) t.fits;
              }

          known-behind : InitialiserIsKnown env place u new
          known-behind =
              let values : w.values ≡ values_of old.initialiser = from-values old.atoms old.initialiser w begin.from in
              let all : All (InitialIsTyped env place u) now.values =
              All-append (InitialIsTyped env place u) w.values (one.initial ∷ []) (subst (All (InitialIsTyped env place u)) (sym values) h.values)
              (All-cons (InitialIsTyped env place u) one.initial [] this-one (All-nil (InitialIsTyped env place u))) in
              let units : All (IsTypedUnit env place) (units_of_values now.values) =
              subst (All (IsTypedUnit env place)) (sym all-values)
              (All-append (IsTypedUnit env place) (units_of_values w.values) (units_of one.initial.value.value)
              (subst (λ is. All (IsTypedUnit env place) (units_of_values is)) (sym values) h.units)
              (subst (λ e. All (IsTypedUnit env place) (units_of e)) (sym one.value_is) (units-typed named takes u first part in-value stored))) in
              record {
                unit = subst (λ o. IfSome o (λ (i : InitialiserAtWork). UnitIsKnown env place u i.unit)) (sym is-now)
                    (record { stored = still-stored named takes u first part in-value stored; nil = nil-of-unit old.initialiser begin.from h.unit });
                values = subst (λ o. All (InitialIsTyped env place u) (values_of o)) (sym is-now) all;
                units = subst (λ o. All (IsTypedUnit env place) (units_of_values (values_of o))) (sym is-now) units;
              }

      kept-value : AddsInitial passes names env place d old new
      kept-value =
          record {
            scope = ap (λ (s : State). s.site.scope) one.all ∙ mid-scope;
            variable = end.variable;
            variables = ap (λ (s : State). s.done.variables) one.all ∙ mid-variables;
            number = begin.number;
            type = begin.type;
            named = begin.named;
            copied = of-type;
            rest = rest-of end.mid new mid-rest (ap (λ (s : State). s.found) one.all) (ap (λ (s : State). s.blocks) one.all) (ap (λ (s : State). s.matches) one.all)
                (ap (λ (s : State). s.units) one.all) (ap (λ (s : State). s.site) one.all) (ap (λ (s : State). s.done.workers) one.all);
            functions = ap (λ (s : State). s.done.functions) one.all ∙ end.functions ∙ done-b.functions ∙ begin.functions;
            initialisers = ap (λ (s : State). s.done.initialisers) one.all ∙ end.initialisers ∙ done-b.initialisers ∙ begin.initialisers;
            more = more.more;
            atoms = more.is;
            far = λ u h. far-before u h;
            known = λ named takes u far h. known-behind u far named takes h;
          }

  initial-typed : InitialValueIsTyped passes names env place
  initial-typed d true old new run rest =
      let (a, ra, r) = parted passes names env (one (BeginsInitial d true)) (as_wanted (read_expr d.value.value) & one (EndsInitial d true)) old new run in
      let (b, rv, re) = parted passes names env (as_wanted (read_expr d.value.value)) (one (EndsInitial d true)) a new r in
      let begin = initial-begun names d true old a ra.0 in
      let end = initial-ended names d true b new re.0 in
      kept-value d true old a b new rest begin ra.1 rv end
      (value-kept end.unit end.number end.value d.name.at begin.at_work end.mid new (initialiser-mid d true old a b new rest begin ra.1 rv end) end.ends)
  initial-typed d false old new run rest =
      let (a, ra, r) = parted passes names env (one (BeginsInitial d false)) (as_wanted (read_expr d.value.value) & one (EndsInitial d false)) old new run in
      let (b, rv, re) = parted passes names env (as_wanted (read_expr d.value.value)) (one (EndsInitial d false)) a new r in
      let begin = initial-begun names d false old a ra.0 in
      let end = initial-ended names d false b new re.0 in
      dropped d false old a b new rest begin ra.1 rv end refl (value-dropped end.unit end.number end.value d.name.at end.mid new end.ends)

pub all-initial-values-are-typed : (passes : List AtomDef → Asked → TypeLimit → Type 0) → KeptPositions passes → RunsGoOn passes → AllTreesAreKnown passes → DoneIsKept passes
    → TreesEndNone → AllInitialValuesAreTyped passes
all-initial-values-are-typed passes exprs goes trees done none names env place = initial-typed passes exprs goes trees done none names env place
