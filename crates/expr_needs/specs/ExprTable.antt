-- The table of expressions: what each needs, in the order of the text (Ballerina specification, section 6). A line a construct.
use Rattle.std.specs.Prelude.{ℕ, Bool, true, false, List, length, map, Option, Some, None}
use Rattle.std.specs.Global.{Box}
use Rattle.bal_base.specs.declared.fault.FaultCode.TheVariants.{Unknown}
use Rattle.bal_base.specs.declared.place.Place.{Place}
use Rattle.bal_base.specs.declared.text.Text.{Text}
use Rattle.bal_tree.specs.declared.expr.Call.{Call}
use Rattle.bal_tree.specs.declared.expr.Call.TheOpen as layer
use Rattle.bal_tree.specs.declared.expr.Detail.{Detail}
use Rattle.bal_tree.specs.declared.expr.Expr.{Expr}
use Rattle.bal_tree.specs.declared.expr.Key.{Key}
use Rattle.bal_tree.specs.declared.expr.Member.{Member}
use Rattle.bal_tree.specs.declared.expr.Postfix.{Postfix}
use Rattle.bal_tree.specs.declared.expr.Primary.{Primary}
use Rattle.bal_tree.specs.declared.name.Literal.{Literal}
use Rattle.bal_tree.specs.declared.name.QualifiedName.{QualifiedName}
use Rattle.bal_tree.specs.declared.name.Word.{Word}
use Rattle.bal_tree.specs.declared.params.Param.{Param}
use Rattle.bal_tree.specs.declared.params.Params.{Params}
use Rattle.bal_tree.specs.declared.types.TypeTree.{TypeTree}
use Rattle.bal_tree.specs.ExprLayers.{CallOf, DetailOf, ExprOf, ExprSteps, KeyOf, MemberOf, PostfixOf, PrimaryOf, of_call, of_detail, of_expr, of_key, of_member, of_postfix, of_primary}
use Rattle.needs.specs.Needs.{in_turn}
use Rattle.tree_places.specs.ExprPlaces.{place_of_literal}
use Rattle.tree_places.specs.UsedInExprs.{local_name}
use Rattle.typed_tree.specs.Listed.{Listed, nothing, one, ◌&◌, if_there, joined, members}
use Rattle.expr_needs.specs.declared.expected.Expected.{Expected}
use Rattle.expr_needs.specs.declared.expected.Expected.TheVariants.{Nothing, Immutable, Wanted}
use Rattle.expr_needs.specs.declared.kind.Kind.{Kind}
use Rattle.expr_needs.specs.declared.kind.Kind.TheVariants as kind
use Rattle.expr_needs.specs.declared.operators.Family.{Family}
use Rattle.expr_needs.specs.Needs.{MemberSeen, Need, Fails, IsOf, IsWanted, Describes, GivesLiteral, GivesNamed, Splits, Switches, Chooses, Tests, Casts, Traps, Encloses, IsAccessed, IsIndex, ReadsElement, ReadsField, ReadsOptional, ChoosesList, ChoosesMapping, BeginsKeys, GivesKey, ComputesKey, ExpectsItem, ExpectsMember, IsItem, IsMember, IsDetail, LacksCause, MakesList, MakesMapping, MakesError, CallsNamed, CallsValue, CallsMethod, ExpectsArgument, IsArgument, MakesCall, BeginsAnonymous, HasParameter, HasRest, BeginsValue, MakesAnonymous}
use Rattle.expr_needs.specs.Operators.{expectation, family_of, left_expects, left_needs, made_of, prefix_expects, prefix_needs, right_expects, right_needs}

-- ---- readings

-- What is read of an expression, or of a part of one: its place; the name, or the literal, that it is; of a member of a mapping its key,
-- unless that is computed; the names without a prefix in it; its needs, by what is expected of it; and those of a call that is started.
pub record Reading : Type 0 where
  pub at : Place
  pub name : Option QualifiedName
  pub literal : Option Literal
  pub key : Option Text
  pub used : Listed Word
  pub needs : Expected → Listed Need
  pub starts : Listed Need

-- of an expression that is no name and no literal
abbrev pub reads : Place → Listed Word → (Expected → Listed Need) → Reading
reads at used needs = record { at = at; name = None; literal = None; key = None; used = used; needs = needs; starts = nothing }

-- where nothing is handed on
abbrev pub reads_so : Place → Listed Word → Listed Need → Reading
reads_so at used needs = reads at used (λ e. needs)

-- the expression has to be of the kind
abbrev pub against : Kind → Reading → Listed Need
against k e = e.needs (expectation k) & one (IsOf k e.at)

-- nothing is asked of it
abbrev pub freely : Reading → Listed Need
freely e = e.needs Nothing

-- it has to be of the type that is wanted
abbrev pub as_wanted : Reading → Listed Need
as_wanted e = e.needs Wanted & one (IsWanted e.at)

-- ---- expressions

-- a condition, one way of which is then entered
abbrev pub condition_needs : Reading → Listed Need
condition_needs c = against kind.Truth c & one (Splits true)

-- `a + b` and its kin, by the family of the operator
abbrev pub binary_needs : Family → Reading → Reading → Place → Expected → Listed Need
binary_needs f a b at e =
    (a.needs (left_expects f) & left_needs f a.at) & (b.needs (right_expects f e) & right_needs f b.at) & one (made_of f at)

-- `c ? a : b`
abbrev pub conditional_needs : Reading → Reading → Reading → Place → Listed Need
conditional_needs c a b at = condition_needs c & (freely a & one Switches) & (freely b & one (Chooses at))

-- `function (T a, R... b) returns U => v`
abbrev pub parameter_needs : Param → Listed Need
parameter_needs p = one (Describes p.ty.value) & one (HasParameter p.name)

abbrev pub rest_needs : Param → Listed Need
rest_needs p = one (Describes p.ty.value) & one (HasRest p.name)

abbrev pub signature_needs : Params → TypeTree → Listed Need
signature_needs ps result = (in_turn parameter_needs ps.params.items & if_there rest_needs ps.rest) & one (Describes result)

abbrev pub anonymous_needs : Bool → Params → TypeTree → Reading → Place → Listed Need
anonymous_needs isolated ps result v at =
    (one BeginsAnonymous & signature_needs ps result) & (one (BeginsValue (members v.used)) & as_wanted v) & one (MakesAnonymous isolated at)

abbrev pub expr_step : ExprOf Reading → Reading
expr_step (layer.Postfix e) = e
expr_step (layer.Prefix o a at) = reads_so at a.value.used (a.value.needs (prefix_expects o) & prefix_needs o a.value.at at)
expr_step (layer.Cast type a at) = reads_so at a.value.used (one (Describes type.value) & freely a.value & one (Casts at))
expr_step (layer.Binary a o b at) = reads at (a.value.used & b.value.used) (binary_needs (family_of o) a.value b.value at)
expr_step (layer.TypeTest a type at) =
    reads_so at a.value.used (freely a.value & one (Describes type.value) & one (Tests a.value.name at))
expr_step (layer.Conditional c a b at) =
    reads_so at (c.value.used & a.value.used & b.value.used) (conditional_needs c.value a.value b.value at)
expr_step (layer.Trap a at) = reads_so at a.value.used (freely a.value & one (Traps at))
expr_step (layer.«Expr::Function» isolated ps result v at) = reads_so at v.value.used (anonymous_needs isolated ps result.value v.value at)

-- ---- members and calls

-- `a[i]`: what the member is taken of, and its index or key
abbrev pub accessed_needs : Bool → Reading → Listed Need
accessed_needs texts a = freely a & one (IsAccessed texts a.at)

abbrev pub index_needs : Reading → Listed Need
index_needs i = i.needs Immutable & one (IsIndex i.at)

abbrev pub element_needs : Bool → Reading → Reading → Listed Need
element_needs texts a i = accessed_needs texts a & index_needs i

abbrev pub postfix_step : PostfixOf Reading → Reading
postfix_step (layer.Primary e) = e
postfix_step (layer.Call e) = e
postfix_step (layer.Field a field at) = reads_so at a.value.used (against kind.AnyMapping a.value & one (ReadsField field at))
postfix_step (layer.OptionalField a field at) =
    reads_so at a.value.used (against kind.MappingOrNil a.value & one (ReadsOptional field at))
postfix_step (layer.Index a i at) =
    reads_so at (a.value.used & i.value.used) (element_needs true a.value i.value & one (ReadsElement at))

-- an argument of a call at this place
abbrev pub argument_needs : Place → Reading → Listed Need
argument_needs at e = one (ExpectsArgument at) & e.needs Wanted & one (IsArgument e.at)

-- `f(..)` of a value, and of a name
abbrev pub called_as : Reading → Listed Need
called_as f = against kind.AnyFunction f & one CallsValue

abbrev pub callee_needs : Bool → Option QualifiedName → Reading → ℕ → Place → Listed Need
callee_needs started (Some q) f count at = one (CallsNamed started q count at)
callee_needs started None f count at = called_as f

abbrev pub called_needs : Bool → Reading → List Reading → Place → Listed Need
called_needs started f args at = callee_needs started f.name f (length args) at & in_turn (argument_needs at) args

-- `a.m(..)`
abbrev pub receiver_needs : Reading → Word → ℕ → Place → Listed Need
receiver_needs a m count at = freely a & one (CallsMethod m count at)

abbrev pub method_needs : Reading → Word → List Reading → Place → Listed Need
method_needs a m args at = receiver_needs a m (length args) at & in_turn (argument_needs at) args

abbrev pub used_in_all : List Reading → Listed Word
used_in_all es = joined (map (λ e. e.used) es)

-- a method is of the library, and can't be started
abbrev pub call_step : CallOf Reading → Reading
call_step (layer.«Call::Function» f args at) =
    record (reads_so at (f.value.used & used_in_all args.items) (called_needs false f.value args.items at & one (MakesCall at))) {
      starts = called_needs true f.value args.items at;
    }
call_step (layer.Method a m args at) =
    record (reads_so at (a.value.used & used_in_all args.items) (method_needs a.value m args.items at & one (MakesCall at))) {
      starts = freely a.value & one (Fails Unknown m.at);
    }

-- ---- literals, names and constructors

abbrev pub item_needs : Reading → Listed Need
item_needs e = one ExpectsItem & e.needs Wanted & one (IsItem e.at)

-- `[a, b]`
abbrev pub list_needs : List Reading → Place → Expected → Listed Need
list_needs items at e =
    (one (ChoosesList e (map (λ i. i.literal) items) at) & in_turn item_needs items) & one (MakesList (length items) at)

abbrev pub seen_of : Reading → MemberSeen
seen_of m = record { key = m.key; literal = m.literal }

-- `{a: x, [c]: z}`
abbrev pub mapping_needs : List Reading → Place → Expected → Listed Need
mapping_needs ms at e =
    (one (ChoosesMapping e (map seen_of ms) at) & in_turn freely ms) & one (MakesMapping (length ms) at)

abbrev pub cause_needs : Option (Box Reading) → Place → Listed Need
cause_needs None at = one (LacksCause at)
cause_needs (Some c) at = against kind.ErrorOrNil c.value

abbrev pub used_if : Option (Box Reading) → Listed Word
used_if None = nothing
used_if (Some e) = e.value.used

-- `error(m, c, a = x)`
abbrev pub details_needs : List Reading → Place → Listed Need
details_needs ds at = (one BeginsKeys & in_turn freely ds) & one (MakesError (length ds) at)

abbrev pub error_needs : Reading → Option (Box Reading) → List Reading → Place → Listed Need
error_needs m c ds at = (against kind.Text m & cause_needs c at) & details_needs ds at

abbrev pub primary_step : PrimaryOf Reading → Reading
primary_step (layer.Literal l) = record (reads_so (place_of_literal l) nothing (one (GivesLiteral l))) { literal = Some l }
primary_step (layer.Name q) = record (reads_so q.at (local_name q) (one (GivesNamed q))) { name = Some q }
primary_step (layer.Parens a at) = reads at a.value.used (λ e. a.value.needs e & one (Encloses at))
primary_step (layer.List items at) = reads at (used_in_all items.items) (list_needs items.items at)
primary_step (layer.Mapping ms at) = reads at (used_in_all ms.items) (mapping_needs ms.items at)
primary_step (layer.Error m c ds at) =
    reads_so at (m.value.used & used_if c & used_in_all ds.items) (error_needs m.value c ds.items at)

-- a key that is a word or a string is known; another one has to be a string
abbrev pub key_step : KeyOf Reading → Reading
key_step (layer.Word w) = record (reads_so w.at nothing (one (GivesKey w.name w.at))) { key = Some w.name }
key_step (layer.Str text at) = record (reads_so at nothing (one (GivesKey text at))) { key = Some text }
key_step (layer.Computed a at) = reads_so at a.value.used (against kind.Text a.value & one ComputesKey)

abbrev pub member_needs : Reading → Reading → Listed Need
member_needs k v = freely k & (one ExpectsMember & v.needs Wanted & one (IsMember v.at))

abbrev pub member_step : MemberOf Reading → Reading
member_step m =
    record (reads_so m.at (m.key.used & m.value.value.used) (member_needs m.key m.value.value)) { key = m.key.key; literal = m.value.value.literal }

abbrev pub detail_step : DetailOf Reading → Reading
detail_step d = reads_so d.at d.value.value.used (one (GivesKey d.name.name d.name.at) & freely d.value.value & one (IsDetail d.value.value.at))

-- ---- whole trees

abbrev pub reading : ExprSteps Reading
reading =
    record {
      call = call_step;
      expr = expr_step;
      key = key_step;
      postfix = postfix_step;
      primary = primary_step;
      detail = detail_step;
      member = member_step;
    }

abbrev pub read_expr : Expr → Reading
read_expr = of_expr reading

abbrev pub read_postfix : Postfix → Reading
read_postfix = of_postfix reading

abbrev pub read_call : Call → Reading
read_call = of_call reading

abbrev pub read_primary : Primary → Reading
read_primary = of_primary reading

abbrev pub read_key : Key → Reading
read_key = of_key reading

abbrev pub read_member : Member → Reading
read_member = of_member reading

abbrev pub read_detail : Detail → Reading
read_detail = of_detail reading
