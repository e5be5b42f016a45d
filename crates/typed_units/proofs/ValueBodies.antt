-- Bodies of functions that are values.
use Rattle.std.proofs.Common.{All, List, Some, [], ap, append-nil, arith, map, subst, sym, ◌++◌, ◌∙◌, ◌∷◌, ◌≡◌}
use Rattle.std.proofs.lemmas.List.Elements.{All-append, All-nil, All-tail}
use Rattle.std.specs.Global.{Box}
use Rattle.bal_tree.specs.declared.def.FunctionDef.{FunctionDef}
use Rattle.bal_tree.specs.declared.expr.Expr.{Expr as ExprTree}
use Rattle.calm_needs.proofs.PlacedParts.{one-units, units-append, units_of}
use Rattle.check_laws.specs.Laws.{IsReady}
use Rattle.check_laws.specs.StmtLaws.{HasUnit}
use Rattle.check_words.proofs.Standing.{last-has}
use Rattle.check_words.specs.Calls.{typed_unit}
use Rattle.check_words.specs.State.{IsLast, Site, State, UnitAtWork, all_but}
use Rattle.check_words.specs.Units.{IsValueBody, ends_value_function, outside_functions}
use Rattle.checks.specs.Checks.{Gives, gives_some, ◌▷◌}
use Rattle.descriptors.specs.declared.names.Names.{Names}
use Rattle.expr_needs.specs.ExprTable.{as_wanted, read_expr}
use Rattle.expr_needs.specs.Needs.{EndsValueFunction, WantsResult}
use Rattle.expr_needs.specs.declared.expected.Expected.TheVariants as expected
use Rattle.needs.specs.Needs.{does}
use Rattle.operations.specs.Rows.{Surroundings}
use Rattle.tree_promises.specs.Laws.{MadeStatementsAreTyped}
use Rattle.tree_promises.specs.Made.{sem}
use Rattle.tree_promises.specs.Types.{IsTypedExpr}
use Rattle.tree_promises.specs.Placed.{body_placed, crew_of, function_placed, slot_types}
use Rattle.type_model.specs.Calls.{Asked}
use Rattle.type_model.specs.Inclusion.{Sub}
use Rattle.type_model.specs.declared.answers.TypeLimit.{TypeLimit}
use Rattle.type_model.specs.declared.atoms.AtomDef.{AtomDef}
use Rattle.typed_blocks.specs.Trees.{AllTreesAreKnown}
use Rattle.typed_bodies.proofs.Aside.{aside-result}
use Rattle.typed_bodies.proofs.Plain.{result-put}
use Rattle.typed_bodies.proofs.Trails.{in-stays}
use Rattle.typed_bodies.proofs.Values.{want-given, want-left, wanted-ready}
use Rattle.typed_bodies.specs.Claims.{CanAct, KnowsValue}
use Rattle.typed_exprs.proofs.Operands.{Operand}
use Rattle.typed_exprs.proofs.Steps.{keeps, parted, so-far, stored-here}
use Rattle.typed_exprs.specs.Lines.{Left, Run}
use Rattle.typed_needs.proofs.OnTheWay.{places-are-kept}
use Rattle.typed_needs.proofs.Placed.{all-but-last, last-same}
use Rattle.typed_needs.specs.Between.{IsKept, IsSoFar, IsTypedUnit, IsUnitAt, units_in}
use Rattle.typed_needs.specs.Items.{AreFirst}
use Rattle.typed_needs.specs.Placing.{AreNamed, IsPlaced}
use Rattle.typed_needs.specs.Waits.{AreResults}
use Rattle.typed_stmts.proofs.Ends.{result-wanted}
use Rattle.typed_stmts.proofs.Words.{part-taken, wants-dropped}
use Rattle.typed_stmts.specs.Assigned.{TakeValues}
use Rattle.typed_tree.specs.Listed.{members, one, ◌&◌}
use Rattle.typed_tree.specs.SharedTypes.{Shared, sem_of}
use Rattle.typed_tree.specs.Units.{OfFunction}
use Rattle.typed_tree.specs.declared.expr.TypedExpr.{TypedExpr}
use Rattle.typed_tree.specs.declared.unit.TypedBody.TheVariants.{Expr}
use Rattle.typed_tree.specs.declared.unit.TypedBody.{TypedBody}
use Rattle.typed_tree.specs.declared.unit.TypedFunction.{TypedFunction}
use Rattle.typed_tree.specs.declared.unit.TypedUnit.{TypedUnit}
use Rattle.typed_units.proofs.Beginning.{unit-gone}
use Rattle.typed_units.specs.Bodies.{AllBodiesMakeTyped, BodiesMakeTyped}
use Rattle.typed_units.proofs.Parts.{ValueBodyIsTyped}
use Rattle.typed_units.specs.Functions.{ComesToFunction, HasFunctions, inside_of, unit_of_function, units_in_body}

-- the unit and the last part are gone, and a function is made of them
pub record ValueEnded (d : FunctionDef) (old new : State) : Type 0 where
  pub unit : UnitAtWork
  pub at_hand : IsLast old.units unit
  pub value : TypedExpr
  pub last : IsLast old.found value
  pub function : TypedFunction
  pub unit_is : function.unit ≡ typed_unit unit unit.arrow unit.future
  pub body : IsValueBody value function.body
  pub functions : new.done.functions ≡ old.done.functions ++ function ∷ []
  pub none_left : new.done.workers ≡ []
  pub initialisers : new.done.initialisers ≡ old.done.initialisers
  pub variables : new.done.variables ≡ old.done.variables
  pub site : new.site ≡ outside_functions old.site
  pub units_left : new.units ≡ all_but 1 old.units
  pub atoms : new.atoms ≡ old.atoms
  pub found : new.found ≡ all_but 1 old.found

pub value-ended : (d : FunctionDef) (old new : State) → ends_value_function d old (Gives tt) new → ValueEnded d old new
unfolding ◌▷◌ gives_some does
value-ended d old new (value, s1, taken, (v, s2, dropped, (u, s3, closed, (site, s4, (sis, e4), (f, s5, ((fis, body), e5), (x, s6, e6, e7)))))) =
    let (last, e1) = part-taken value old s1 taken in
    let e2 = wants-dropped 1 v s1 s2 dropped in
    let (hand, e3) = unit-gone u s2 s3 closed in
    let units-2 : s2.units ≡ old.units = ap (λ (s : State). s.units) e2 ∙ ap (λ (s : State). s.units) e1 in
    let to-5 : s5 ≡ s3 = e5 ∙ e4 in
    record {
      unit = u;
      at_hand = subst (λ us. IsLast us u) units-2 hand;
      value = value;
      last = last;
      function = f;
      unit_is = fis.unit;
      body = body;
      initialisers = ap (λ (s : State). s.done.initialisers) e7 ∙ ap (λ (s : State). s.done.initialisers) e6 ∙ ap (λ (s : State). s.done.initialisers) (to-5 ∙ e3)
          ∙ ap (λ (s : State). s.done.initialisers) e2 ∙ ap (λ (s : State). s.done.initialisers) e1;
      variables = ap (λ (s : State). s.done.variables) e7 ∙ ap (λ (s : State). s.done.variables) e6 ∙ ap (λ (s : State). s.done.variables) (to-5 ∙ e3)
          ∙ ap (λ (s : State). s.done.variables) e2 ∙ ap (λ (s : State). s.done.variables) e1;
      site = ap (λ (s : State). s.site) e7 ∙ ap (λ (s : State). outside_functions s.site) e6 ∙ ap (λ (s : State). outside_functions s.site) (to-5 ∙ e3)
          ∙ ap (λ (s : State). outside_functions s.site) e2 ∙ ap (λ (s : State). outside_functions s.site) e1;
      none_left = ap (λ (s : State). s.done.workers) e7 ∙ ap (λ (s : State). s.done.workers) e6;
      units_left = ap (λ (s : State). s.units) e7 ∙ ap (λ (s : State). s.units) e6 ∙ ap (λ (s : State). s.units) (to-5 ∙ e3) ∙ ap (λ us. all_but 1 us) units-2;
      functions = ap (λ (s : State). s.done.functions) e7 ∙ ap (λ (s : State). s.done.functions) e6
          ∙ ap (λ (s : State). s.done.functions ++ f ∷ []) (to-5 ∙ e3) ∙ ap (λ (s : State). s.done.functions ++ f ∷ []) e2 ∙ ap (λ (s : State). s.done.functions ++ f ∷ []) e1;
      atoms = ap (λ (s : State). s.atoms) e7 ∙ ap (λ (s : State). s.atoms) e6 ∙ ap (λ (s : State). s.atoms) (to-5 ∙ e3) ∙ ap (λ (s : State). s.atoms) e2 ∙ ap (λ (s : State). s.atoms) e1;
      found = ap (λ (s : State). s.found) e7 ∙ ap (λ (s : State). s.found) e6 ∙ ap (λ (s : State). s.found) (to-5 ∙ e3) ∙ ap (λ (s : State). s.found) e2 ∙ ap (λ (s : State). s.found) e1;
    }

module _ (made : MadeStatementsAreTyped) (bodies : AllBodiesMakeTyped) (passes : List AtomDef → Asked → TypeLimit → Type 0) (trees : AllTreesAreKnown passes) (names : Names) (env : List AtomDef)
    (place : Surroundings) (named : AreNamed env names place) (takes : TakeValues env names place) where
  module _ (d : FunctionDef) (x : ExprTree) (old a b new : State) (unit : HasUnit old) (rw : Run passes names env (one WantsResult) old a)
      (rv : Run passes names env (as_wanted (read_expr x)) a b) (end : ValueEnded d b new) (far : HasFunctions passes names env place new)
      (kept : IsKept (inside_of passes names env place end.function) old) (results : AreResults env (inside_of passes names env place end.function) old.site.results) where
    abbrev f : TypedFunction
    f = end.function

    abbrev ins : Surroundings
    ins = inside_of passes names env place f

    known : KnowsValue passes names env ins (CanAct env ins []) (read_expr x)
    known = (trees names env ins [] (record { variables = named.variables; functions = named.functions }) takes).expr x

    can : CanAct env ins [] a
    can =
        let s = (aside-result old a tt rw.0).stays in
        record { peers = All-nil _; results = subst (λ (site : Site). AreResults env ins site.results) (sym s.site) results }

    -- ---- what is known from the end

    record Made : Type 0 where
      pub box : Box TypedExpr
      pub body : f.body ≡ Expr box
      pub is : box.value ≡ end.value

    made-of : Made
    made-of = let (v, body, is) = end.body in record { box = v; body = body; is = is }

    these : All (IsUnitAt place) (members (function_placed f))
    these = last-has (λ g. All (IsUnitAt place) (members (function_placed g))) new.done.functions f (record { kept = b.done.functions; is = end.functions }) far.functions

    in-value : All (IsUnitAt place) (units_of end.value)
    in-value =
        subst (λ e. All (IsUnitAt place) (units_of e)) made-of.is
        (subst (λ (y : TypedBody). All (IsUnitAt place) (members (body_placed (crew_of f) y))) made-of.body
        (All-tail (IsUnitAt place) (unit_of_function f) (members (body_placed (crew_of f) f.body)) these))

    found-is : b.found ≡ new.found ++ end.value ∷ []
    found-is =
        end.last.is ∙ ap (λ es. es ++ end.value ∷ []) (sym (end.found ∙ ap (λ es. all_but 1 es) end.last.is ∙ all-but-last end.last.kept end.value))

    far-b : IsSoFar env ins b
    far-b =
        record {
          first = subst (AreFirst env) end.atoms far.first;
          placed = record {
            unit = end.unit;
            at_hand = end.at_hand;
            later = [];
            slots = ap (λ (u : TypedUnit). slot_types u) end.unit_is ∙ sym (append-nil (map sem_of end.unit.slots));
            result = ap (λ (u : TypedUnit). sem_of u.result) end.unit_is;
          };
          units = subst (λ es. All (IsUnitAt place) (units_in es)) (sym found-is)
              (subst (All (IsUnitAt place)) (sym (units-append new.found (end.value ∷ [])))
              (All-append (IsUnitAt place) (units_in new.found) (units_in (end.value ∷ [])) far.parts (subst (All (IsUnitAt place)) (sym (one-units end.value)) in-value)));
        }

    -- ---- forward

    unit-a : HasUnit a
    unit-a = (let s = (aside-result old a tt rw.0).stays in let many = (in-stays old a s).many in omega (arith, many, unit))

    ready : IsReady expected.Wanted a
    ready = let (t, last) = result-put old a rw.0 in wanted-ready a t unit-a last

    left : Left a b
    left = want-left passes names env ins (CanAct env ins []) (read_expr x) known a b ready rv

    far-a : IsSoFar env ins a
    far-a = so-far env ins a b left.path far-b

    placed : IsPlaced ins old
    placed = let s = (aside-result old a tt rw.0).stays in let i = in-stays old a s in places-are-kept ins old a i.goes i.many far-a.placed

    want : (w : Shared) × (a ≡ record old { wants = old.wants ++ Some w ∷ [] }) × (sem_of w ≡ ins.result)
    want = result-wanted made passes names env ins old a rw.0 placed

    given : Operand passes names env ins (λ e. Sub env (sem e) (sem_of want.0)) a b
    given =
        let aside = aside-result old a tt rw.0 in
        want-given passes names env ins (CanAct env ins []) (read_expr x) known want.0 a b can ready rv (keeps ins a rw.1 (aside.stored ins (stored-here ins old kept)))
        (record { kept = old.wants; is = ap (λ (s : State). s.wants) want.1 }) far-b

    value-is : given.part ≡ made-of.box.value
    value-is = last-same b.found given.part end.value (record { kept = a.found; is = given.found }) end.last ∙ sym made-of.is

    typed : IsTypedExpr env ins made-of.box.value
    typed = subst (λ e. IsTypedExpr env ins e) value-is given.typed

    under : Sub env (sem made-of.box.value) (sem_of f.unit.result)
    under = subst (λ e. Sub env (sem e) (sem_of f.unit.result)) value-is (subst (λ t. Sub env (sem given.part) t) want.2 given.holds)

    own : IsTypedUnit env place (unit_of_function f)
    own =
        let k : BodiesMakeTyped env place (unit_of_function f) = bodies env place (unit_of_function f) in
        k.value made-of.box (ap (λ y. OfFunction y) made-of.body) typed under

    in-it : All (IsTypedUnit env place) (units_in_body f.body)
    in-it =
        let these : All (IsTypedUnit env place) (units_in (given.part ∷ [])) = given.units in
        subst (λ (y : TypedBody). All (IsTypedUnit env place) (units_in_body y)) (sym made-of.body)
        (subst (λ e. All (IsTypedUnit env place) (units_of e)) value-is (subst (All (IsTypedUnit env place)) (one-units given.part) these))

    value-comes : ComesToFunction passes names env place new
    value-comes = record { function = f; last = record { kept = b.done.functions; is = end.functions }; own = own; units = in-it }

  pub value-typed : ValueBodyIsTyped passes names env place
  value-typed d x old new unit run far begins =
      let (a, rw, rest) = parted passes names env (one WantsResult) (as_wanted (read_expr x) & one (EndsValueFunction d)) old new run in
      let (b, rv, re) = parted passes names env (as_wanted (read_expr x)) (one (EndsValueFunction d)) a new rest in
      let end = value-ended d b new re.0 in
      let (kept, results) = begins end.function (record { kept = b.done.functions; is = end.functions }) in
      value-comes d x old a b new unit rw rv end far kept results
