-- What is added for a unit that is typed as it is written has the maps of the unit, from no operands on.
use Rattle.std.proofs.Common.{◌≡◌, ◌∙◌, ◌++◌, ℕ, suc, ap, length, List, [], ◌∷◌, Option, None, Some, Bool, refl, sym, arith, true, false}
use Rattle.type_model.specs.declared.atoms.AtomDef.{AtomDef}
use Rattle.operations.specs.declared.operation.Constant.TheVariants as constant
use Rattle.operations.specs.declared.operation.Operation.{Operation}
use Rattle.operations.specs.declared.operation.Operation.TheVariants.{Const, Return as ReturnOp, StoreModule, Tick, Workers}
use Rattle.operations.specs.Rows.{Surroundings}
use Rattle.typed_tree.specs.declared.expr.TypedExpr.{TypedExpr, out-TypedExpr}
use Rattle.typed_tree.specs.declared.package.Initial.{Initial}
use Rattle.typed_tree.specs.declared.stmt.TypedStmt.{TypedStmt}
use Rattle.typed_tree.specs.declared.unit.TypedBody.TheVariants.{Block as BlockBody, Expr as ValueBody}
use Rattle.typed_tree.specs.declared.unit.TypedWorker.{TypedWorker}
use Rattle.typed_tree.specs.SharedTypes.{sem_of}
use Rattle.typed_tree.specs.Units.{UnitBody, OfFunction, OfWorker, OfAnonymous, OfInitialiser}
use denote.Hole.Carrier
use Rattle.eval_model.specs.Expressions.{nil_type}
use Rattle.stack_code.specs.Commands.{Command, Do, GoTo}
use Rattle.stack_code.specs.Places.{Tally}
use Rattle.tree_promises.specs.Placed.{surroundings}
use Rattle.tree_promises.specs.Types.{DoesTypes, Stack}
use Rattle.lower_model.specs.Making.{Making, block_made, body_made, does, end_made, expr_made, initial_made, initials_made, named_made, next_label, stmt_made, unit_made, unmade}
use Rattle.typed_making.proofs.Mapping.{all-long, below-itself, wanted}
use Rattle.map_model.specs.Laws.{ConstantsAreMapped, ConstantsAreWritten, PlacesHavePoints, UnitsAreCounted, UnitsAreMapped}
use Rattle.map_model.specs.Maps.{Marks, block_maps, body_maps, end_maps, expr_maps, initials_maps, mark, named_maps, own_type, stmt_maps, taken_maps, unit_maps}
use Rattle.map_model.specs.Marked.{LeadsBy}
use Rattle.map_model.specs.Points.{PlainTypes}
use Rattle.map_model.specs.Whole.{begins_with, points, tallies, tally_after}
use Rattle.map_model.specs.Written.{BlockWritten, BodyWritten, EndWritten, ExprWritten, InitialsWritten, NamedWritten}
use Rattle.map_model.proofs.Expressions.{expr-leads}
use Rattle.map_model.proofs.Marking.{by-add, by-bind, by-comes, by-fresh}
use Rattle.map_model.proofs.Meeting.{come-lead, does-lead, then-lead}
use Rattle.map_model.proofs.Statements.{stmt-leads}

module _ (plain : PlainTypes) (env : List AtomDef) (place : Surroundings) where
  abbrev Lead : (Making → Making) → Marks → Stack → Stack → Type 0
  Lead F f p q = LeadsBy env place None None F f p q

  -- of pieces that begin and end with no operands
  abbrev Stays : (Making → Making) → Marks → Type 0
  Stays F f = Lead F f [] []

  stays-then : (F G : Making → Making) (f g : Marks) → Stays F f → Stays G g → Stays (λ m. G (F m)) (λ k. g (f k))
  stays-then F G f g x y = then-lead plain env place None None F G f g [] [] [] x y

  block-stays : (ss : List TypedStmt) → BlockWritten plain env place ss [] → Stays (block_made ss) (block_maps plain place ss [])
  block-stays [] h = come-lead plain env place None None [] [] tt
  block-stays (s ∷ ss) (a, more) = stays-then (stmt_made s None) (block_made ss) (stmt_maps plain place s []) (block_maps plain place ss []) (stmt-leads plain env place s None false [] a) (block-stays ss more)

  named-stays : (ws : List TypedWorker) → NamedWritten plain env place ws → Stays (named_made ws) (named_maps plain place ws)
  named-stays [] h = come-lead plain env place None None [] [] tt
  named-stays (w ∷ ws) d = does-lead plain env place None None Workers [] [] d

  -- an expression, and an operation that takes what it gives
  taken-stays : (e : TypedExpr) (op : Operation) → ExprWritten plain env place e [] → DoesTypes env place op (own_type e ∷ []) [] → Stays (λ m. does op (expr_made e m)) (taken_maps plain place e [])
  taken-stays e op a d =
      then-lead plain env place None None (expr_made e) (does op) (expr_maps plain place e []) (mark (own_type e ∷ [])) [] (own_type e ∷ []) [] (expr-leads plain env place None None e [] a) (does-lead plain env place None None op (own_type e ∷ []) [] d)

  initials-stay : (is : List Initial) → InitialsWritten plain env place is → Stays (initials_made is) (initials_maps plain place is)
  initials-stay [] h = come-lead plain env place None None [] [] tt
  initials-stay (i ∷ is) (a, d, more) =
      stays-then (initial_made i) (initials_made is) (taken_maps plain place i.value.value []) (initials_maps plain place is) (taken-stays i.value.value (StoreModule i.variable) a d) (initials-stay is more)

  -- ---- ends

  ticks : DoesTypes env place Tick [] []
  ticks = record { below = []; operands = []; result = None; are = refl; row = (refl, refl); behind = λ go. tt }

  -- where the end isn't reached it goes round with no operands
  round-stays : Stays (end_made false) (end_maps plain place false)
  round-stays base old many inside =
      let s0 = by-comes env place base old [] [] many tt in
      let v = wanted env place s0.typed [] in
      let s1 = by-fresh env place s0 [] in
      let s2 = by-bind env place s1 (next_label base) [] (omega arith) v tt in
      let s3 = by-add env place s2 (Do Tick) [] ticks in
      (old ++ [] ∷ [], by-add env place s3 (GoTo (next_label base)) [] ([], v, tt))

  end-stays : (reached : Bool) → EndWritten plain env place reached → Stays (end_made reached) (end_maps plain place reached)
  end-stays true (a, d) =
      then-lead plain env place None None (does (Const constant.Nil)) (does ReturnOp) (mark []) (mark (nil_type ∷ [])) [] (nil_type ∷ []) [] (does-lead plain env place None None (Const constant.Nil) [] (nil_type ∷ []) a) (does-lead plain env place None None ReturnOp (nil_type ∷ []) [] d)
  end-stays false h = round-stays

  -- ---- bodies

  body-stays : (body : UnitBody) → BodyWritten plain env place body → Stays (body_made body) (body_maps plain place body)
  body-stays (OfFunction (BlockBody initial workers rest ends close)) (a, b, c, d) =
      stays-then (block_made initial.items) (λ m. end_made ends (block_made rest.items (named_made workers.items m))) (block_maps plain place initial.items []) (λ k. end_maps plain place ends (block_maps plain place rest.items [] (named_maps plain place workers.items k))) (block-stays initial.items a)
      (stays-then (named_made workers.items) (λ m. end_made ends (block_made rest.items m)) (named_maps plain place workers.items) (λ k. end_maps plain place ends (block_maps plain place rest.items [] k)) (named-stays workers.items b)
      (stays-then (block_made rest.items) (end_made ends) (block_maps plain place rest.items []) (end_maps plain place ends) (block-stays rest.items c) (end-stays ends d)))
  body-stays (OfFunction (ValueBody value)) (a, d) = taken-stays value.value ReturnOp a d
  body-stays (OfWorker stmts ends) (a, d) = stays-then (block_made stmts) (end_made ends) (block_maps plain place stmts []) (end_maps plain place ends) (block-stays stmts a) (end-stays ends d)
  body-stays (OfAnonymous value) (a, d) = taken-stays value ReturnOp a d
  body-stays (OfInitialiser values) (a, d) = stays-then (initials_made values) (end_made true) (initials_maps plain place values) (end_maps plain place true) (initials-stay values a) (end-stays true d)

  unit-stays : (body : UnitBody) → BodyWritten plain env place body → Stays (unit_made body) (λ k. body_maps plain place body (mark [] k))
  unit-stays body h = stays-then (does Tick) (body_made body) (mark []) (body_maps plain place body) (does-lead plain env place None None Tick [] [] ticks) (body-stays body h)

pub units-are-mapped : UnitsAreMapped
units-are-mapped plain env place body h = unit-stays plain env place body h

pub units-are-counted : UnitsAreCounted
units-are-counted plain env place body h =
    let (wants, a) = unit-stays plain env place body h unmade [] refl tt in
    omega (arith, ap length (a.are []), all-long env place wants a.typed.news a.typed.stacks [] a.typed.typed, ap length a.typed.steps)

tallies-long : (workers : ℕ) (tally : Option Tally) (cs : List Command) → length (tallies workers tally cs) ≡ length cs
tallies-long workers tally [] = refl
tallies-long workers tally (c ∷ cs) = ap suc (tallies-long workers (tally_after workers c tally) cs)

points-long : (ss : List Stack) (ts : List (Option Tally)) → length ss ≡ length ts → length (points ss ts) ≡ length ss
points-long [] ts e = refl
points-long (s ∷ ss) [] e = absurd (omega (arith, e))
points-long (s ∷ ss) (t ∷ ts) e = ap suc (points-long ss ts (omega (arith, e)))

pub places-have-points : PlacesHavePoints
places-have-points plain env p u h =
    let workers = length u.crew in
    let cs = (unit_made u.tree.body unmade).steps in
    let counted = units-are-counted plain env (surroundings p u) u.tree.body h in
    points-long (unit_maps plain (surroundings p u) u.tree.body []) (tallies workers (begins_with workers u.tree.body) cs) (counted ∙ sym (tallies-long workers (begins_with workers u.tree.body) cs)) ∙ counted

pub constants-are-mapped : ConstantsAreMapped
unfolding out-TypedExpr Carrier.out
constants-are-mapped plain place c type at = refl

pub constants-are-written : ConstantsAreWritten
unfolding out-TypedExpr Carrier.out
constants-are-written plain env place c type at has within = (
  record { below = []; operands = []; result = Some (sem_of type); are = refl; row = (refl, has); behind = λ go. below-itself env place (sem_of type ∷ []) },
  record { below = []; operands = sem_of type ∷ []; result = None; are = refl; row = (within, refl); behind = λ go. tt },
)
