-- What a unit tells is what its maps say, from no operands on.
use Rattle.std.proofs.Common.{◌≡◌, ◌∙◌, List, [], ◌∷◌, Bool, true, false, refl, ap}
use Rattle.operations.specs.Rows.{Surroundings}
use Rattle.typed_tree.specs.declared.package.Initial.{Initial}
use Rattle.typed_tree.specs.declared.stmt.TypedStmt.{TypedStmt}
use Rattle.typed_tree.specs.declared.unit.TypedBody.TheVariants.{Block as BlockBody, Expr as ValueBody}
use Rattle.typed_tree.specs.declared.unit.TypedWorker.{TypedWorker}
use Rattle.typed_tree.specs.Units.{UnitBody, OfFunction, OfWorker, OfAnonymous, OfInitialiser}
use Rattle.tree_promises.specs.Types.{Stack}
use Rattle.map_model.specs.Maps.{block_maps, body_maps, end_maps, initials_maps, mark, named_maps, stmt_maps, taken_maps}
use Rattle.map_model.specs.Points.{PlainTypes}
use Rattle.map_traces.specs.Constructs.{Known, known_in}
use Rattle.map_traces.specs.Laws.{UnitsAreTraced}
use Rattle.map_traces.specs.Trees.{body_traced, end_traced, initials_traced, named_traced, stmts_traced}
use Rattle.map_traces.proofs.ExprsTold.{taken-told}
use Rattle.map_traces.proofs.Operands.{at}
use Rattle.map_traces.proofs.StmtsTold.{stmt-told}

module _ (plain : PlainTypes) (place : Surroundings) where
  abbrev known : Known
  known = known_in plain place

  block-told : (ss : List TypedStmt) (m : List Stack) → stmts_traced known ss (at [] m) ≡ at [] (block_maps plain place ss [] m)
  block-told [] m = refl
  block-told (s ∷ ss) m = ap (stmts_traced known ss) (stmt-told plain place s (at [] m)) ∙ block-told ss (stmt_maps plain place s [] m)

  named-told : (ws : List TypedWorker) (m : List Stack) → named_traced ws (at [] m) ≡ at [] (named_maps plain place ws m)
  named-told [] m = refl
  named-told (w ∷ ws) m = refl

  initials-told : (is : List Initial) (m : List Stack) → initials_traced known is (at [] m) ≡ at [] (initials_maps plain place is m)
  initials-told [] m = refl
  initials-told (i ∷ is) m = ap (initials_traced known is) (taken-told plain place i.value.value (at [] m)) ∙ initials-told is (taken_maps plain place i.value.value [] m)

  end-told : (reached : Bool) (m : List Stack) → end_traced reached (at [] m) ≡ at [] (end_maps plain place reached m)
  end-told true m = refl
  end-told false m = refl

  body-told : (body : UnitBody) (m : List Stack) → body_traced known body (at [] m) ≡ at [] (body_maps plain place body m)
  body-told (OfFunction (BlockBody initial workers rest ends close)) m =
      let a : List Stack = block_maps plain place initial.items [] m in
      let b : List Stack = named_maps plain place workers.items a in
      ap (λ x. end_traced ends (stmts_traced known rest.items (named_traced workers.items x))) (block-told initial.items m)
      ∙ ap (λ x. end_traced ends (stmts_traced known rest.items x)) (named-told workers.items a)
      ∙ ap (end_traced ends) (block-told rest.items b)
      ∙ end-told ends (block_maps plain place rest.items [] b)
  body-told (OfFunction (ValueBody value)) m = taken-told plain place value.value (at [] m)
  body-told (OfWorker stmts ends) m = ap (end_traced ends) (block-told stmts m) ∙ end-told ends (block_maps plain place stmts [] m)
  body-told (OfAnonymous value) m = taken-told plain place value (at [] m)
  body-told (OfInitialiser values) m = ap (end_traced true) (initials-told values m) ∙ end-told true (initials_maps plain place values m)

pub units-are-traced : UnitsAreTraced
units-are-traced plain place body places = body-told plain place body (mark [] places)
