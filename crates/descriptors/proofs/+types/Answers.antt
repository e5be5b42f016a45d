use Rattle.std.proofs.Common.{◌≡◌, ◌≢◌, ◌++◌, ◌∙◌, List, [], ◌∷◌, map, AllPairs, IfOk, Ok, Err, false, refl, sym, subst, ap, arith, rules}
use Rattle.std.specs.List.{list_any}
use Rattle.bal_tree.specs.declared.name.ConstValue.TheVariants.{Literal as LiteralValue, Negative as NegativeValue}
use Rattle.bal_tree.proofs.TypeLayers.{type_layers}
use Rattle.bal_tree.specs.declared.types.BuiltinType.TheVariants.{AnyData}
use Rattle.bal_tree.specs.declared.types.ParamTypes.{out-ParamTypes}
use Rattle.type_model.specs.declared.atoms.AtomDef.{AtomDef}
use Rattle.type_model.specs.declared.basic.BasicSet.{BasicSet}
use Rattle.type_model.specs.declared.basic.SemType.{Basic}
use Rattle.type_model.specs.declared.atoms.FieldDef.{FieldDef}
use Rattle.type_model.specs.Defined.{TyBelow}
use Rattle.type_model.specs.Places.{is_same_text}
use Rattle.descriptors.specs.Described.{IsIntersection, names_of, plain}
use Rattle.descriptors.specs.Descriptors.{absent, any_error, any_function, array, builtin, closed_record, descriptor_if, descriptor_of, error_of, error_with, fields_in_a_row, function_from, future_of, in_a_row, intersection, is_readonly, map_of, named, of_field, of_intersection, of_param, of_params, of_postfix, of_primary, open_record, optional, present, repeated, tuple, union, value}
use Rattle.descriptors.specs.Drafts.{AreNamesBelow, Drafts, field_drafted}
use Rattle.descriptors.specs.Steps.{FieldBelow}
use Rattle.descriptors.proofs.Drafting.{all-walked, drafts-just, drafts-on, drafts-ran_out, drafts-stops, given, handed-on, none-walked, one-walked, walk-ran_out, walk-stops}
use Rattle.descriptors.proofs.FieldNames.{distinct-more, names-more}
use Rattle.descriptors.proofs.Making.{made-any_function, made-basic, made-builtin, made-intersection, made-optional, made-union}
use Rattle.descriptors.proofs.OtherForms.{no-fields, no-fixed, same, same-field, same-if, same-params, same-result, so-often}
use Rattle.descriptors.proofs.Walks.{fields-row, no_fields-below, none-below, types-row}
use Rattle.descriptors.proofs.+types.Goals as goal

pub descriptors::type_tree-returns-in-Intersection : goal.descriptors::type_tree-returns-in-Intersection
descriptors::type_tree-returns-in-Intersection t c =
    same c.args.names.now c.args.scope (descriptor_of c.args.tree.now) (of_intersection c.in-Intersection.t) _ _ _ (search (rules, type_layers))
    (c.intersection_type.ensures)

pub descriptors::type_tree-returns-in_err-s-in-Union : goal.descriptors::type_tree-returns-in_err-s-in-Union
descriptors::type_tree-returns-in_err-s-in-Union t c =
    same c.args.names.now c.args.scope (descriptor_of c.args.tree.now) (union (descriptor_of c.deref.result.now) (of_intersection c.in-Union.right.value)) _ _ _ (search (rules, type_layers))
    (handed-on _ _ _ _ _ _ _ c.from_residual.ensures (drafts-stops _ _ _ _ _ _ _ _ c.in_err-s-in-Union.ensures))

pub descriptors::type_tree-returns-in_err-t-in-Union : goal.descriptors::type_tree-returns-in_err-t-in-Union
descriptors::type_tree-returns-in_err-t-in-Union t c =
    same c.args.names.now c.args.scope (descriptor_of c.args.tree.now) (union (descriptor_of c.deref.result.now) (of_intersection c.deref-in-Union.result.now)) _ _ _ (search (rules, type_layers))
    (handed-on _ _ _ _ _ _ _ c.from_residual-in_err-t-in-Union.ensures (drafts-on _ _ _ _ _ _ _ _ _ _ c.in_ok-s-in-Union.ensures
    (drafts-stops _ _ _ _ _ _ _ _ (given _ _ _ _ _ _ _ c.in_err-t-in-Union.ensures (λ n h. h.0)))))

pub descriptors::type_tree-returns-in_ok-t-in-Union : goal.descriptors::type_tree-returns-in_ok-t-in-Union
descriptors::type_tree-returns-in_ok-t-in-Union t c =
    same c.args.names.now c.args.scope (descriptor_of c.args.tree.now) (union (descriptor_of c.deref.result.now) (of_intersection c.deref-in-Union.result.now)) _ _ _ (search (rules, type_layers))
    (drafts-on _ _ _ _ _ _ _ _ _ _ c.in_ok-s-in-Union.ensures
    (drafts-on _ _ _ _ _ _ _ _ _ _ (given _ _ _ _ _ _ _ c.in_ok-t-in-Union.ensures (λ n h. h.0))
    (given _ _ _ _ _ _ _ (made-union c.args.names.now _ _ _ _ _ c.lift.ensures c.union.ensures.is c.union.ensures.defined) (λ n h. (h.0.1, h.1)))))

pub descriptors::intersection_type-returns-in-Postfix : goal.descriptors::intersection_type-returns-in-Postfix
descriptors::intersection_type-returns-in-Postfix t c =
    same c.args.names.now c.args.scope (of_intersection c.args.tree.now) (of_postfix c.in-Postfix.t) _ _ _ (search (rules, type_layers))
    (c.postfix_type.ensures)

pub descriptors::intersection_type-returns-in_err-s-in-Both : goal.descriptors::intersection_type-returns-in_err-s-in-Both
descriptors::intersection_type-returns-in_err-s-in-Both t c =
    same c.args.names.now c.args.scope (of_intersection c.args.tree.now) (intersection (of_intersection c.deref.result.now) (of_postfix c.in-Both.right.value)) _ _ _ (search (rules, type_layers))
    (handed-on _ _ _ _ _ _ _ c.from_residual.ensures (drafts-stops _ _ _ _ _ _ _ _ c.in_err-s-in-Both.ensures))

pub descriptors::intersection_type-returns-in_err-t-in-Both : goal.descriptors::intersection_type-returns-in_err-t-in-Both
descriptors::intersection_type-returns-in_err-t-in-Both t c =
    same c.args.names.now c.args.scope (of_intersection c.args.tree.now) (intersection (of_intersection c.deref.result.now) (of_postfix c.deref-in-Both.result.now)) _ _ _ (search (rules, type_layers))
    (handed-on _ _ _ _ _ _ _ c.from_residual-in_err-t-in-Both.ensures (drafts-on _ _ _ _ _ _ _ _ _ _ c.in_ok-s-in-Both.ensures
    (drafts-stops _ _ _ _ _ _ _ _ (given _ _ _ _ _ _ _ c.in_err-t-in-Both.ensures (λ n h. h.0)))))

pub descriptors::intersection_type-returns-in_ok-t-in-Both : goal.descriptors::intersection_type-returns-in_ok-t-in-Both
descriptors::intersection_type-returns-in_ok-t-in-Both t c =
    let right : c.postfix_is_readonly.result ≡ is_readonly (of_postfix c.deref-in-Both.result.now) = search (rules, type_layers) in
    same c.args.names.now c.args.scope (of_intersection c.args.tree.now) (intersection (of_intersection c.deref.result.now) (of_postfix c.deref-in-Both.result.now)) _ _ _ (search (rules, type_layers))
    (drafts-on _ _ _ _ _ _ _ _ _ _ c.in_ok-s-in-Both.ensures
    (drafts-on _ _ _ _ _ _ _ _ _ _ (given _ _ _ _ _ _ _ c.in_ok-t-in-Both.ensures (λ n h. h.0))
    (given _ _ _ _ _ _ _ (made-intersection c.args.names.now _ _ _ _ _ _ c.lift.ensures (subst (λ b. IfOk c.intersection.result (λ u. (over : List AtomDef) → IsIntersection b c.in_ok-s-in-Both.s c.in_ok-t-in-Both.t over u)) right c.intersection.ensures.is) c.intersection.ensures.defined) (λ n h. (h.0.1, h.1)))))

pub descriptors::postfix_type-returns-in-Primary : goal.descriptors::postfix_type-returns-in-Primary
descriptors::postfix_type-returns-in-Primary t c =
    same c.args.names.now c.args.scope (of_postfix c.args.tree.now) (of_primary c.in-Primary.t) _ _ _ (search (rules, type_layers))
    (c.primary_type.ensures)

pub descriptors::postfix_type-returns-in_err-t-in-Optional : goal.descriptors::postfix_type-returns-in_err-t-in-Optional
descriptors::postfix_type-returns-in_err-t-in-Optional t c =
    same c.args.names.now c.args.scope (of_postfix c.args.tree.now) (optional (of_postfix c.deref.result.now)) _ _ _ (search (rules, type_layers))
    (handed-on _ _ _ _ _ _ _ c.from_residual.ensures (drafts-stops _ _ _ _ _ _ _ _ c.in_err-t-in-Optional.ensures))

pub descriptors::postfix_type-returns-in_ok-t-in-Optional : goal.descriptors::postfix_type-returns-in_ok-t-in-Optional
descriptors::postfix_type-returns-in_ok-t-in-Optional t c =
    same c.args.names.now c.args.scope (of_postfix c.args.tree.now) (optional (of_postfix c.deref.result.now)) _ _ _ (search (rules, type_layers))
    (drafts-on _ _ _ _ _ _ _ _ _ _ c.in_ok-t-in-Optional.ensures
    (given _ _ _ _ _ _ _ (made-optional c.args.names.now _ _ _ _ c.lift.ensures c.optional.ensures.is c.optional.ensures.defined) (λ n h. h.1)))

pub descriptors::postfix_type-returns-in_err-t-in-Array : goal.descriptors::postfix_type-returns-in_err-t-in-Array
descriptors::postfix_type-returns-in_err-t-in-Array t c =
    same c.args.names.now c.args.scope (of_postfix c.args.tree.now) (array (of_postfix c.deref-in-Array.result.now) c.in-Array.at) _ _ _ (search (rules, type_layers))
    (handed-on _ _ _ _ _ _ _ c.from_residual-in_err-t-in-Array.ensures (drafts-stops _ _ _ _ _ _ _ _ c.in_err-t-in-Array.ensures))

pub descriptors::postfix_type-returns-in_ok-t-in-Array : goal.descriptors::postfix_type-returns-in_ok-t-in-Array
descriptors::postfix_type-returns-in_ok-t-in-Array t c =
    same c.args.names.now c.args.scope (of_postfix c.args.tree.now) (array (of_postfix c.deref-in-Array.result.now) c.in-Array.at) _ _ _ (search (rules, type_layers))
    (drafts-on _ _ _ _ _ _ _ _ _ _ c.in_ok-t-in-Array.ensures
    (no-fixed _ _ _ _ _ _ _ (c.of.ensures ∙ c.new.ensures.items) (given _ _ _ _ _ _ _ (c.new_list.ensures) (λ n h. (none-below _ (c.of.ensures ∙ c.new.ensures.items) n, h.1)))))

pub descriptors::postfix_type-returns-in_err-t-in-FixedArray : goal.descriptors::postfix_type-returns-in_err-t-in-FixedArray
descriptors::postfix_type-returns-in_err-t-in-FixedArray t c =
    same c.args.names.now c.args.scope (of_postfix c.args.tree.now) (repeated (of_postfix c.deref-in-FixedArray.result.now) c.in-FixedArray.length c.in-FixedArray.at) _ _ _ (search (rules, type_layers))
    (handed-on _ _ _ _ _ _ _ c.from_residual-in_err-t-in-FixedArray.ensures (drafts-stops _ _ _ _ _ _ _ _ c.in_err-t-in-FixedArray.ensures))

pub descriptors::postfix_type-returns-in_ok-t-in-FixedArray : goal.descriptors::postfix_type-returns-in_ok-t-in-FixedArray
descriptors::postfix_type-returns-in_ok-t-in-FixedArray t c =
    same c.args.names.now c.args.scope (of_postfix c.args.tree.now) (repeated (of_postfix c.deref-in-FixedArray.result.now) c.in-FixedArray.length c.in-FixedArray.at) _ _ _ (search (rules, type_layers))
    (drafts-on _ _ _ _ _ _ _ _ _ _ c.in_ok-t-in-FixedArray.ensures
    (so-often c.args.names.now _ _ _ _ _ _ _ _ c.count.ensures (given _ _ _ _ _ _ _ (c.repeated.ensures c.args.names.now) (λ n h. h.1))))

pub descriptors::primary_type-returns-in-Builtin : goal.descriptors::primary_type-returns-in-Builtin
descriptors::primary_type-returns-in-Builtin t c =
    same c.args.names.now c.args.scope (of_primary c.args.tree.now) (builtin c.in-Builtin.builtin) _ _ _ (search (rules, type_layers))
    (made-builtin _ _ _ _ _ c.lift.ensures c.builtin_type.ensures.is c.builtin_type.ensures.defined)

pub descriptors::primary_type-returns-in-Literal : goal.descriptors::primary_type-returns-in-Literal
descriptors::primary_type-returns-in-Literal t c =
    same c.args.names.now c.args.scope (of_primary c.args.tree.now) (value (LiteralValue c.in-Literal.l)) _ _ _ (search (rules, type_layers))
    (made-basic _ _ _ _ (search (rules, type_layers)))

pub descriptors::primary_type-returns-in-Negative : goal.descriptors::primary_type-returns-in-Negative
descriptors::primary_type-returns-in-Negative t c =
    same c.args.names.now c.args.scope (of_primary c.args.tree.now) (value (NegativeValue c.in-Negative.int c.in-Negative.at)) _ _ _ (search (rules, type_layers))
    (made-basic _ _ _ _ (c.plain-in-Negative.ensures ∙ ap (λ (b : BasicSet). plain (Basic b)) (c.negative_set.ensures c.in-Negative.at)))

pub descriptors::primary_type-returns-in-Parens : goal.descriptors::primary_type-returns-in-Parens
descriptors::primary_type-returns-in-Parens t c =
    same c.args.names.now c.args.scope (of_primary c.args.tree.now) (descriptor_of c.deref.result.now) _ _ _ (search (rules, type_layers))
    (c.type_tree.ensures)

pub descriptors::primary_type-returns-in-Name : goal.descriptors::primary_type-returns-in-Name
descriptors::primary_type-returns-in-Name t c =
    same c.args.names.now c.args.scope (of_primary c.args.tree.now) (named c.in-Name.name) _ _ _ (search (rules, type_layers))
    (c.named_type.ensures c.args.draft.now)

pub descriptors::primary_type-returns-in-Map : goal.descriptors::primary_type-returns-in-Map
descriptors::primary_type-returns-in-Map t c =
    same c.args.names.now c.args.scope (of_primary c.args.tree.now) (map_of (descriptor_of c.deref-in-Map.result.now) c.in-Map.at) _ _ _ (search (rules, type_layers))
    (c.map_type.ensures)

pub descriptors::primary_type-returns-in-Future : goal.descriptors::primary_type-returns-in-Future
descriptors::primary_type-returns-in-Future t c =
    same c.args.names.now c.args.scope (of_primary c.args.tree.now) (future_of (descriptor_of c.deref-in-Future.result.now) c.in-Future.at) _ _ _ (search (rules, type_layers))
    (c.future_type.ensures)

pub descriptors::primary_type-returns-in-Error : goal.descriptors::primary_type-returns-in-Error
descriptors::primary_type-returns-in-Error t c =
    same c.args.names.now c.args.scope (of_primary c.args.tree.now) (error_of (descriptor_if c.in-Error.detail) c.in-Error.at) _ _ _ (search (rules, type_layers))
    (c.error_type.ensures)

pub descriptors::primary_type-returns-in_err-fixed-in-Tuple : goal.descriptors::primary_type-returns-in_err-fixed-in-Tuple
descriptors::primary_type-returns-in_err-fixed-in-Tuple t c =
    same c.args.names.now c.args.scope (of_primary c.args.tree.now) (tuple (in_a_row (map descriptor_of c.deref-in-Tuple.result.now)) (descriptor_if c.in-Tuple.rest) c.in-Tuple.at) _ _ _ (search (rules, type_layers))
    (handed-on _ _ _ _ _ _ _ c.from_residual.ensures (drafts-stops _ _ _ _ _ _ _ _ c.in_err-fixed-in-Tuple.ensures))

pub descriptors::primary_type-returns-in_err-rest-in-Tuple : goal.descriptors::primary_type-returns-in_err-rest-in-Tuple
descriptors::primary_type-returns-in_err-rest-in-Tuple t c =
    same c.args.names.now c.args.scope (of_primary c.args.tree.now) (tuple (in_a_row (map descriptor_of c.deref-in-Tuple.result.now)) (descriptor_if c.in-Tuple.rest) c.in-Tuple.at) _ _ _ (search (rules, type_layers))
    (handed-on _ _ _ _ _ _ _ c.from_residual-in_err-rest-in-Tuple.ensures (drafts-on _ _ _ _ _ _ _ _ _ _ c.in_ok-fixed-in-Tuple.ensures
    (drafts-stops _ _ _ _ _ _ _ _ (given _ _ _ _ _ _ _ c.in_err-rest-in-Tuple.ensures (λ n h. h.0)))))

pub descriptors::primary_type-returns-in_ok-rest-in-Tuple : goal.descriptors::primary_type-returns-in_ok-rest-in-Tuple
descriptors::primary_type-returns-in_ok-rest-in-Tuple t c =
    same c.args.names.now c.args.scope (of_primary c.args.tree.now) (tuple (in_a_row (map descriptor_of c.deref-in-Tuple.result.now)) (descriptor_if c.in-Tuple.rest) c.in-Tuple.at) _ _ _ (search (rules, type_layers))
    (drafts-on _ _ _ _ _ _ _ _ _ _ c.in_ok-fixed-in-Tuple.ensures
    (drafts-on _ _ _ _ _ _ _ _ _ _ (given _ _ _ _ _ _ _ c.in_ok-rest-in-Tuple.ensures (λ n h. h.0))
    (given _ _ _ _ _ _ _ (c.new_list.ensures) (λ n h. (h.0.1, h.1)))))

pub descriptors::primary_type-returns-in_err-fields-in-ClosedRecord : goal.descriptors::primary_type-returns-in_err-fields-in-ClosedRecord
descriptors::primary_type-returns-in_err-fields-in-ClosedRecord t c =
    same c.args.names.now c.args.scope (of_primary c.args.tree.now) (closed_record (fields_in_a_row (map of_field c.deref-in-ClosedRecord.result.now)) (descriptor_if c.in-ClosedRecord.rest) c.in-ClosedRecord.at) _ _ _ (search (rules, type_layers))
    (handed-on _ _ _ _ _ _ _ c.from_residual-in_err-fields-in-ClosedRecord.ensures (drafts-stops _ _ _ _ _ _ _ _ c.in_err-fields-in-ClosedRecord.ensures.fields))

pub descriptors::primary_type-returns-in_err-rest-in-ClosedRecord : goal.descriptors::primary_type-returns-in_err-rest-in-ClosedRecord
descriptors::primary_type-returns-in_err-rest-in-ClosedRecord t c =
    same c.args.names.now c.args.scope (of_primary c.args.tree.now) (closed_record (fields_in_a_row (map of_field c.deref-in-ClosedRecord.result.now)) (descriptor_if c.in-ClosedRecord.rest) c.in-ClosedRecord.at) _ _ _ (search (rules, type_layers))
    (handed-on _ _ _ _ _ _ _ c.from_residual-in_err-rest-in-ClosedRecord.ensures (drafts-on _ _ _ _ _ _ _ _ _ _ c.in_ok-fields-in-ClosedRecord.ensures.fields
    (drafts-stops _ _ _ _ _ _ _ _ (given _ _ _ _ _ _ _ c.in_err-rest-in-ClosedRecord.ensures (λ n h. h.0)))))

pub descriptors::primary_type-returns-in_ok-rest-in-ClosedRecord : goal.descriptors::primary_type-returns-in_ok-rest-in-ClosedRecord
descriptors::primary_type-returns-in_ok-rest-in-ClosedRecord t c =
    same c.args.names.now c.args.scope (of_primary c.args.tree.now) (closed_record (fields_in_a_row (map of_field c.deref-in-ClosedRecord.result.now)) (descriptor_if c.in-ClosedRecord.rest) c.in-ClosedRecord.at) _ _ _ (search (rules, type_layers))
    (drafts-on _ _ _ _ _ _ _ _ _ _ c.in_ok-fields-in-ClosedRecord.ensures.fields
    (drafts-on _ _ _ _ _ _ _ _ _ _ (given _ _ _ _ _ _ _ c.in_ok-rest-in-ClosedRecord.ensures (λ n h. h.0))
    (given _ _ _ _ _ _ _ (c.new_mapping.ensures) (λ n h. (h.0.1, h.1)))))

pub descriptors::primary_type-returns-in-OpenRecord : goal.descriptors::primary_type-returns-in-OpenRecord
descriptors::primary_type-returns-in-OpenRecord t c =
    same c.args.names.now c.args.scope (of_primary c.args.tree.now) (open_record (fields_in_a_row (map of_field c.deref-in-OpenRecord.result.now)) c.in-OpenRecord.at) _ _ _ (search (rules, type_layers))
    (c.open_record.ensures)

pub descriptors::primary_type-returns-in-AnyFunction : goal.descriptors::primary_type-returns-in-AnyFunction
descriptors::primary_type-returns-in-AnyFunction t c =
    same c.args.names.now c.args.scope (of_primary c.args.tree.now) (any_function c.in-AnyFunction.isolated) _ _ _ (search (rules, type_layers))
    (made-any_function _ _ _ _ _ c.lift-in-AnyFunction.ensures c.any_function.ensures.is c.any_function.ensures.defined)

pub descriptors::primary_type-returns-in_err-fixed-in-Function : goal.descriptors::primary_type-returns-in_err-fixed-in-Function
descriptors::primary_type-returns-in_err-fixed-in-Function t c =
    same c.args.names.now c.args.scope (of_primary c.args.tree.now) (function_from c.in-Function.isolated (of_params c.in-Function.params).params (of_params c.in-Function.params).rest (descriptor_if c.in-Function.result) c.in-Function.at) _ _ _ (search (rules, type_layers))
    (handed-on _ _ _ _ _ _ _ c.from_residual-in_err-fixed-in-Function.ensures (drafts-stops _ _ _ _ _ _ _ _ c.in_err-fixed-in-Function.ensures))

pub descriptors::primary_type-returns-in_err-result-in-Function : goal.descriptors::primary_type-returns-in_err-result-in-Function
descriptors::primary_type-returns-in_err-result-in-Function t c =
    same c.args.names.now c.args.scope (of_primary c.args.tree.now) (function_from c.in-Function.isolated (of_params c.in-Function.params).params (of_params c.in-Function.params).rest (descriptor_if c.in-Function.result) c.in-Function.at) _ _ _ (search (rules, type_layers))
    (handed-on _ _ _ _ _ _ _ c.from_residual-in_err-result-in-Function.ensures (drafts-on _ _ _ _ _ _ _ _ _ _ c.in_ok-fixed-in-Function.ensures
    (drafts-stops _ _ _ _ _ _ _ _ (given _ _ _ _ _ _ _ c.in_err-result-in-Function.ensures (λ n h. h.0)))))

pub descriptors::primary_type-returns-in_ok-result-in-Function : goal.descriptors::primary_type-returns-in_ok-result-in-Function
descriptors::primary_type-returns-in_ok-result-in-Function t c =
    same c.args.names.now c.args.scope (of_primary c.args.tree.now) (function_from c.in-Function.isolated (of_params c.in-Function.params).params (of_params c.in-Function.params).rest (descriptor_if c.in-Function.result) c.in-Function.at) _ _ _ (search (rules, type_layers))
    (drafts-on _ _ _ _ _ _ _ _ _ _ c.in_ok-fixed-in-Function.ensures
    (drafts-on _ _ _ _ _ _ _ _ _ _ (given _ _ _ _ _ _ _ c.in_ok-result-in-Function.ensures (λ n h. h.0))
    (given _ _ _ _ _ _ _ (c.new_arrow.ensures) (λ n h. (h.0.1, h.1.0)))))

pub descriptors::primary_type-new_mapping-requires : goal.descriptors::primary_type-new_mapping-requires
descriptors::primary_type-new_mapping-requires t c =
    c.in_ok-fields-in-ClosedRecord.ensures.distinct

pub descriptors::primary_type-type_list-requires : goal.descriptors::primary_type-type_list-requires
descriptors::primary_type-type_list-requires t c =
    grind (arith, type_layers)

pub descriptors::primary_type-field_list-requires : goal.descriptors::primary_type-field_list-requires
descriptors::primary_type-field_list-requires t c =
    grind (arith, type_layers)

pub descriptors::map_type-returns-in_err-t : goal.descriptors::map_type-returns-in_err-t
descriptors::map_type-returns-in_err-t t c =
    handed-on _ _ _ _ _ _ _ c.from_residual.ensures (drafts-stops _ _ _ _ _ _ _ _ c.in_err-t.ensures)

pub descriptors::map_type-returns : goal.descriptors::map_type-returns
descriptors::map_type-returns t c =
    drafts-on _ _ _ _ _ _ _ _ _ _ c.in_ok-t.ensures
    (no-fields _ _ _ _ _ _ _ (c.of.ensures ∙ c.new.ensures.items) (given _ _ _ _ _ _ _ (c.new_mapping.ensures) (λ n h. (no_fields-below _ (c.of.ensures ∙ c.new.ensures.items) n, h.1))))

pub descriptors::future_type-returns-in_err-t : goal.descriptors::future_type-returns-in_err-t
descriptors::future_type-returns-in_err-t t c =
    handed-on _ _ _ _ _ _ _ c.from_residual.ensures (drafts-stops _ _ _ _ _ _ _ _ c.in_err-t.ensures)

pub descriptors::future_type-returns : goal.descriptors::future_type-returns
descriptors::future_type-returns t c =
    drafts-on _ _ _ _ _ _ _ _ _ _ c.in_ok-t.ensures
    (given _ _ _ _ _ _ _ (c.new_plain.ensures) (λ n h. h.1.0))

pub descriptors::error_type-returns-in-None : goal.descriptors::error_type-returns-in-None
descriptors::error_type-returns-in-None t c =
    same c.args.names.now c.args.scope (error_of (descriptor_if c.args.detail.now) c.args.at) (any_error) _ _ _ (search (rules, type_layers))
    (made-basic _ _ _ _ (search (rules, type_layers)))

pub descriptors::error_type-returns-in_err-t-in-Some : goal.descriptors::error_type-returns-in_err-t-in-Some
descriptors::error_type-returns-in_err-t-in-Some t c =
    same c.args.names.now c.args.scope (error_of (descriptor_if c.args.detail.now) c.args.at) (error_with (descriptor_of c.deref.result.now) c.args.at) _ _ _ (search (rules, type_layers))
    (handed-on _ _ _ _ _ _ _ c.from_residual.ensures (drafts-stops _ _ _ _ _ _ _ _ c.in_err-t-in-Some.ensures))

pub descriptors::error_type-returns-in_ok-t-in-Some : goal.descriptors::error_type-returns-in_ok-t-in-Some
descriptors::error_type-returns-in_ok-t-in-Some t c =
    same c.args.names.now c.args.scope (error_of (descriptor_if c.args.detail.now) c.args.at) (error_with (descriptor_of c.deref.result.now) c.args.at) _ _ _ (search (rules, type_layers))
    (drafts-on _ _ _ _ _ _ _ _ _ _ c.in_ok-t-in-Some.ensures
    (given _ _ _ _ _ _ _ (c.new_plain.ensures) (λ n h. h.1.0)))

pub descriptors::open_record-returns-in_err-fields : goal.descriptors::open_record-returns-in_err-fields
descriptors::open_record-returns-in_err-fields t c =
    handed-on _ _ _ _ _ _ _ c.from_residual.ensures (drafts-stops _ _ _ _ _ _ _ _ c.in_err-fields.ensures.fields)

pub descriptors::open_record-returns-in_err-rest : goal.descriptors::open_record-returns-in_err-rest
descriptors::open_record-returns-in_err-rest t c =
    handed-on _ _ _ _ _ _ _ c.from_residual-in_err-rest.ensures (drafts-on _ _ _ _ _ _ _ _ _ _ c.in_ok-fields.ensures.fields
    (drafts-stops _ TyBelow _ _ _ _ _ _ (drafts-ran_out _ TyBelow _ _)))

pub descriptors::open_record-returns : goal.descriptors::open_record-returns
descriptors::open_record-returns t c =
    drafts-on _ _ _ _ _ _ _ _ _ _ c.in_ok-fields.ensures.fields
    (drafts-on _ _ _ _ _ _ _ _ _ _ (given _ _ _ _ _ _ _ (made-builtin c.args.names.now _ AnyData (Ok c.in_ok-rest.rest) (Ok c.in_ok-rest.rest) refl c.in_ok-rest.ensures.is c.in_ok-rest.ensures.defined) (λ n h. h.0))
    (given _ _ _ _ _ _ _ (c.new_mapping.ensures) (λ n h. (h.0.1, h.1))))

pub descriptors::open_record-new_mapping-requires : goal.descriptors::open_record-new_mapping-requires
descriptors::open_record-new_mapping-requires t c =
    c.in_ok-fields.ensures.distinct

pub descriptors::param_types-returns-in_err-fixed : goal.descriptors::param_types-returns-in_err-fixed
descriptors::param_types-returns-in_err-fixed t c =
    same-params c.args.names.now c.args.scope (of_params c.args.tree.now).params (in_a_row (map of_param c.deref.result.now)) (of_params c.args.tree.now).rest (descriptor_if (out-ParamTypes c.args.tree.now).rest) _ _ _ (search (rules, type_layers)) (search (rules, type_layers))
    (handed-on _ _ _ _ _ _ _ c.from_residual.ensures (drafts-stops _ _ _ _ _ _ _ _ c.in_err-fixed.ensures))

pub descriptors::param_types-returns-in_err-rest : goal.descriptors::param_types-returns-in_err-rest
descriptors::param_types-returns-in_err-rest t c =
    same-params c.args.names.now c.args.scope (of_params c.args.tree.now).params (in_a_row (map of_param c.deref.result.now)) (of_params c.args.tree.now).rest (descriptor_if (out-ParamTypes c.args.tree.now).rest) _ _ _ (search (rules, type_layers)) (search (rules, type_layers))
    (handed-on _ _ _ _ _ _ _ c.from_residual-in_err-rest.ensures (drafts-on _ _ _ _ _ _ _ _ _ _ c.in_ok-fixed.ensures
    (drafts-stops _ _ _ _ _ _ _ _ (given _ _ _ _ _ _ _ c.in_err-rest.ensures (λ n h. h.0)))))

pub descriptors::param_types-returns : goal.descriptors::param_types-returns
descriptors::param_types-returns t c =
    same-params c.args.names.now c.args.scope (of_params c.args.tree.now).params (in_a_row (map of_param c.deref.result.now)) (of_params c.args.tree.now).rest (descriptor_if (out-ParamTypes c.args.tree.now).rest) _ _ _ (search (rules, type_layers)) (search (rules, type_layers))
    (drafts-on _ _ _ _ _ _ _ _ _ _ c.in_ok-fixed.ensures
    (drafts-on _ _ _ _ _ _ _ _ _ _ (given _ _ _ _ _ _ _ c.in_ok-rest.ensures (λ n h. h.0))
    (drafts-just _ _ _ _ _ refl (λ n le h. (h.0.1, h.1)))))

pub descriptors::param_type-returns : goal.descriptors::param_type-returns
descriptors::param_type-returns t c =
    same c.args.names.now c.args.scope (of_param c.args.tree.now) (descriptor_of c.deref.result.now) _ _ _ (search (rules, type_layers))
    (c.type_tree.ensures)

pub descriptors::type_if-returns-in-None : goal.descriptors::type_if-returns-in-None
descriptors::type_if-returns-in-None t c =
    same-if c.args.names.now c.args.scope (descriptor_if c.args.tree.now) (absent) _ _ _ (search (rules, type_layers))
    (drafts-just _ _ _ _ _ refl (λ n le h. tt))

pub descriptors::type_if-returns-in_err-t-in-Some : goal.descriptors::type_if-returns-in_err-t-in-Some
descriptors::type_if-returns-in_err-t-in-Some t c =
    same-if c.args.names.now c.args.scope (descriptor_if c.args.tree.now) (present (descriptor_of c.deref.result.now)) _ _ _ (search (rules, type_layers))
    (handed-on _ _ _ _ _ _ _ c.from_residual.ensures (drafts-stops _ _ _ _ _ _ _ _ c.in_err-t-in-Some.ensures))

pub descriptors::type_if-returns-in_ok-t-in-Some : goal.descriptors::type_if-returns-in_ok-t-in-Some
descriptors::type_if-returns-in_ok-t-in-Some t c =
    same-if c.args.names.now c.args.scope (descriptor_if c.args.tree.now) (present (descriptor_of c.deref.result.now)) _ _ _ (search (rules, type_layers))
    (drafts-on _ _ _ _ _ _ _ _ _ _ c.in_ok-t-in-Some.ensures
    (drafts-just _ _ _ _ _ refl (λ n le h. h.1)))

pub descriptors::result_type-returns-in-None : goal.descriptors::result_type-returns-in-None
descriptors::result_type-returns-in-None t c =
    same-result c.args.names.now c.args.scope (descriptor_if c.args.tree.now) (absent) _ _ _ (search (rules, type_layers))
    (made-basic _ _ _ _ (search (rules, type_layers)))

pub descriptors::result_type-returns-in-Some : goal.descriptors::result_type-returns-in-Some
descriptors::result_type-returns-in-Some t c =
    same-result c.args.names.now c.args.scope (descriptor_if c.args.tree.now) (present (descriptor_of c.deref.result.now)) _ _ _ (search (rules, type_layers))
    (c.type_tree.ensures)

pub lists::type_list-loop-tree-init : goal.lists::type_list-loop-tree-init
lists::type_list-loop-tree-init t c =
    none-walked _ _ _ _ _ (types-row c.args.names.now c.args.scope descriptor_of) c.args.trees.now _ _ c.new-done.ensures.items

pub lists::type_list-returns-in_err-t : goal.lists::type_list-returns-in_err-t
lists::type_list-returns-in_err-t t c =
    handed-on _ _ _ _ _ _ _ c.from_residual.ensures (walk-stops _ _ _ _ _ (types-row c.args.names.now c.args.scope descriptor_of) c.args.trees.now c.loop-tree.tree-index c.tree-item.result c.loop-tree.done.items _ _ _ _ (grind (arith, c.loop-tree-test.true)) c.tree-item.is c.loop-tree.invariant c.in_err-t.ensures)

pub lists::type_list-returns-in_err-push : goal.lists::type_list-returns-in_err-push
lists::type_list-returns-in_err-push t c =
    handed-on _ _ _ _ _ _ _ c.from_residual-in_err-push.ensures (walk-ran_out _ _ _ _ _ (types-row c.args.names.now c.args.scope descriptor_of) c.args.trees.now c.loop-tree.tree-index c.tree-item.result c.loop-tree.done.items _ _ _ _ (grind (arith, c.loop-tree-test.true)) c.tree-item.is c.loop-tree.invariant c.in_ok-t.ensures)

pub lists::type_list-loop-tree-preserved : goal.lists::type_list-loop-tree-preserved
lists::type_list-loop-tree-preserved t c =
    one-walked _ _ _ _ _ (types-row c.args.names.now c.args.scope descriptor_of) c.args.trees.now c.loop-tree.tree-index c.tree-item.result c.loop-tree.done.items _ _ _ _ _ (grind (arith, c.loop-tree-test.true)) c.tree-item.is c.in_ok-push.ensures.items c.loop-tree.invariant c.in_ok-t.ensures

pub lists::type_list-returns : goal.lists::type_list-returns
lists::type_list-returns t c =
    all-walked _ _ _ _ _ (types-row c.args.names.now c.args.scope descriptor_of) c.args.trees.now c.loop-tree.tree-index c.loop-tree.done.items _ _ _ (grind (arith, c.loop-tree-test.false)) c.of.ensures c.loop-tree.invariant

pub lists::param_list-loop-tree-init : goal.lists::param_list-loop-tree-init
lists::param_list-loop-tree-init t c =
    none-walked _ _ _ _ _ (types-row c.args.names.now c.args.scope of_param) c.args.trees.now _ _ c.new-done.ensures.items

pub lists::param_list-returns-in_err-t : goal.lists::param_list-returns-in_err-t
lists::param_list-returns-in_err-t t c =
    handed-on _ _ _ _ _ _ _ c.from_residual.ensures (walk-stops _ _ _ _ _ (types-row c.args.names.now c.args.scope of_param) c.args.trees.now c.loop-tree.tree-index c.tree-item.result c.loop-tree.done.items _ _ _ _ (grind (arith, c.loop-tree-test.true)) c.tree-item.is c.loop-tree.invariant c.in_err-t.ensures)

pub lists::param_list-returns-in_err-push : goal.lists::param_list-returns-in_err-push
lists::param_list-returns-in_err-push t c =
    handed-on _ _ _ _ _ _ _ c.from_residual-in_err-push.ensures (walk-ran_out _ _ _ _ _ (types-row c.args.names.now c.args.scope of_param) c.args.trees.now c.loop-tree.tree-index c.tree-item.result c.loop-tree.done.items _ _ _ _ (grind (arith, c.loop-tree-test.true)) c.tree-item.is c.loop-tree.invariant c.in_ok-t.ensures)

pub lists::param_list-loop-tree-preserved : goal.lists::param_list-loop-tree-preserved
lists::param_list-loop-tree-preserved t c =
    one-walked _ _ _ _ _ (types-row c.args.names.now c.args.scope of_param) c.args.trees.now c.loop-tree.tree-index c.tree-item.result c.loop-tree.done.items _ _ _ _ _ (grind (arith, c.loop-tree-test.true)) c.tree-item.is c.in_ok-push.ensures.items c.loop-tree.invariant c.in_ok-t.ensures

pub lists::param_list-returns : goal.lists::param_list-returns
lists::param_list-returns t c =
    all-walked _ _ _ _ _ (types-row c.args.names.now c.args.scope of_param) c.args.trees.now c.loop-tree.tree-index c.loop-tree.done.items _ _ _ (grind (arith, c.loop-tree-test.false)) c.of.ensures c.loop-tree.invariant

pub lists::field_list-loop-tree-init : goal.lists::field_list-loop-tree-init
lists::field_list-loop-tree-init t c =
    record {
      walked = none-walked _ _ _ _ _ (fields-row c.args.names.now c.args.scope) c.args.trees.now _ _ c.new-done.ensures.items;
      taken = c.new-taken.ensures.empty ∙ ap names_of (sym c.new-done.ensures.items);
      distinct = subst (AllPairs (λ (a b : FieldDef). a.name ≢ b.name)) (sym c.new-done.ensures.items) (λ i j d lt within. absurd (omega (arith, within)));
    }

pub lists::field_list-returns-in_err-field-clause-fields : goal.lists::field_list-returns-in_err-field-clause-fields
lists::field_list-returns-in_err-field-clause-fields t c =
    handed-on _ _ _ _ _ _ _ c.from_residual.ensures (walk-stops _ _ _ _ _ (fields-row c.args.names.now c.args.scope) c.args.trees.now c.loop-tree.tree-index c.tree-item.result c.loop-tree.done.items _ _ _ _ (grind (arith, c.loop-tree-test.true)) c.tree-item.is c.loop-tree.invariant.walked
    (subst (λ ks. Drafts (AreNamesBelow c.args.names.now) FieldBelow (field_drafted c.args.names.now c.args.scope ks (of_field c.tree-item.result)) c.loop-tree.draft (Err c.in_err-field.field-0.0) c.field.new.draft) c.loop-tree.invariant.taken c.in_err-field.ensures.field))

pub lists::field_list-returns-in_err-push-clause-fields : goal.lists::field_list-returns-in_err-push-clause-fields
lists::field_list-returns-in_err-push-clause-fields t c =
    handed-on _ _ _ _ _ _ _ c.from_residual-in_err-push.ensures (walk-ran_out _ _ _ _ _ (fields-row c.args.names.now c.args.scope) c.args.trees.now c.loop-tree.tree-index c.tree-item.result c.loop-tree.done.items _ _ _ _ (grind (arith, c.loop-tree-test.true)) c.tree-item.is c.loop-tree.invariant.walked
    (subst (λ ks. Drafts (AreNamesBelow c.args.names.now) FieldBelow (field_drafted c.args.names.now c.args.scope ks (of_field c.tree-item.result)) c.loop-tree.draft (Ok c.in_ok-field.field) c.field.new.draft) c.loop-tree.invariant.taken c.in_ok-field.ensures.field))

pub lists::field_list-loop-tree-preserved : goal.lists::field_list-loop-tree-preserved
lists::field_list-loop-tree-preserved t c =
    let is = c.in_ok-push.ensures.items in record {
      walked = one-walked _ _ _ _ _ (fields-row c.args.names.now c.args.scope) c.args.trees.now c.loop-tree.tree-index c.tree-item.result c.loop-tree.done.items _ _ _ _ _ (grind (arith, c.loop-tree-test.true)) c.tree-item.is is c.loop-tree.invariant.walked
          (subst (λ ks. Drafts (AreNamesBelow c.args.names.now) FieldBelow (field_drafted c.args.names.now c.args.scope ks (of_field c.tree-item.result)) c.loop-tree.draft (Ok c.in_ok-field.field) c.field.new.draft) c.loop-tree.invariant.taken c.in_ok-field.ensures.field);
      taken = c.in_ok-field.ensures.taken ∙ ap (λ ks. ks ++ c.in_ok-field.field.name ∷ []) c.loop-tree.invariant.taken ∙ sym (names-more c.loop-tree.done.items c.in_ok-field.field) ∙ ap names_of (sym is);
      distinct = subst (AllPairs (λ (a b : FieldDef). a.name ≢ b.name)) (sym is) (distinct-more c.loop-tree.done.items c.in_ok-field.field c.loop-tree.invariant.distinct
          (subst (λ ks. list_any (is_same_text c.in_ok-field.field.name) ks ≡ false) c.loop-tree.invariant.taken c.in_ok-field.ensures.unused));
    }

pub lists::field_list-returns-clause-fields : goal.lists::field_list-returns-clause-fields
lists::field_list-returns-clause-fields t c =
    all-walked _ _ _ _ _ (fields-row c.args.names.now c.args.scope) c.args.trees.now c.loop-tree.tree-index c.loop-tree.done.items _ _ _ (grind (arith, c.loop-tree-test.false)) c.of.ensures c.loop-tree.invariant.walked

pub lists::field_list-returns-clause-distinct : goal.lists::field_list-returns-clause-distinct
lists::field_list-returns-clause-distinct t c =
    subst (AllPairs (λ (a b : FieldDef). a.name ≢ b.name)) (sym c.of.ensures) c.loop-tree.invariant.distinct

pub lists::field-returns-clause-field : goal.lists::field-returns-clause-field
lists::field-returns-clause-field t c =
    same-field c.args.names.now c.args.scope c.args.taken.now.keys (of_field c.args.tree.now) (record { name = c.args.tree.now.name; optional = c.args.tree.now.optional; ty = descriptor_of c.deref.result.now }) _ _ _ (search (rules, type_layers))
    (drafts-on _ _ _ _ _ _ _ _ _ _ c.in_ok-t.ensures (given _ _ _ _ _ _ _ (c.named_field.ensures.field _) (λ n h. h.1)))

pub lists::field-returns-in_err-t-clause-field : goal.lists::field-returns-in_err-t-clause-field
lists::field-returns-in_err-t-clause-field t c =
    same-field c.args.names.now c.args.scope c.args.taken.now.keys (of_field c.args.tree.now) (record { name = c.args.tree.now.name; optional = c.args.tree.now.optional; ty = descriptor_of c.deref.result.now }) _ _ _ (search (rules, type_layers))
    (handed-on _ _ _ _ _ _ _ c.from_residual.ensures (drafts-stops _ _ _ _ _ _ _ _ c.in_err-t.ensures))

pub lists::field-returns-clause-unused : goal.lists::field-returns-clause-unused
lists::field-returns-clause-unused t c =
    c.named_field.ensures.unused

pub lists::field-returns-clause-taken : goal.lists::field-returns-clause-taken
lists::field-returns-clause-taken t c =
    c.named_field.ensures.taken
