-- How expressions begin and end, and which are well formed.
use Rattle.std.specs.Prelude.{Bool, true, false, ◌&&◌, not, Option, None, Some, List}
use Rattle.std.specs.List.{list_all}
use Rattle.bal_tree.specs.declared.name.Prefix.{Prefix}
use Rattle.bal_tree.specs.declared.name.Prefix.TheVariants.{Word as WordPrefix, Int as IntPrefix}
use Rattle.bal_tree.specs.declared.level.Level.{Level}
use Rattle.bal_tree.specs.declared.level.Level.TheVariants.{Postfix as PostfixLevel, Prefix as PrefixLevel, Comparison, Conditional as ConditionalLevel, Loosest}
use Rattle.bal_tree.specs.declared.expr.PrefixOp.{PrefixOp}
use Rattle.bal_tree.specs.declared.expr.PrefixOp.TheVariants.{Negate, Not, Check, CheckPanic}
use Rattle.bal_tree.specs.declared.expr.Call.{Call}
use Rattle.bal_tree.specs.declared.expr.Call.TheOpen as layer
use Rattle.bal_tree.specs.declared.expr.Expr.{Expr}
use Rattle.bal_tree.specs.declared.expr.Key.{Key}
use Rattle.bal_tree.specs.declared.expr.Postfix.{Postfix}
use Rattle.bal_tree.specs.declared.expr.Primary.{Primary}
use Rattle.bal_tree.specs.declared.expr.Detail.{Detail}
use Rattle.bal_tree.specs.declared.expr.Member.{Member}
use Rattle.bal_tree.specs.Levels.{binding, is_tighter, is_no_looser, takes}
use Rattle.bal_tree.specs.Parts.{Part, part_of, in_middle}
use Rattle.bal_tree.specs.TypeRules.{type_end, type_is_formed, params_are_formed, name_fits}
use Rattle.bal_tree.specs.ExprParts.{expr_parts, postfix_parts, call_parts, primary_parts, key_parts, member_parts, detail_parts}
use Rattle.bal_tree.specs.ExprLayers.{CallOf, ExprOf, PostfixOf, PrimaryOf, ExprSteps, of_call, of_expr, of_key, of_postfix, of_primary, of_detail, of_member}

pub record ExprEnd : Type 0 where
  -- the expression ends in a type, as `x is T` does
  pub in_type : Bool
  -- and the last token of that is the keyword `int`
  pub in_int : Bool

pub record ExprFacts : Type 0 where
  pub level : Level
  -- its first token is a word that is no keyword
  pub begins_with_word : Bool
  -- its first token is `check` or `checkpanic`
  pub begins_with_check : Bool
  pub end : ExprEnd
  -- it is `e.f`
  pub is_field : Bool
  -- it ends in arguments
  pub is_call : Bool
  -- it may be a statement
  pub stands_alone : Bool
  -- it is well formed, in the middle of a conditional expression or not
  pub is_formed : Bool → Bool

-- ---- levels

abbrev pub level_of : ExprOf ExprFacts → Level
level_of (layer.Postfix e) = PostfixLevel
level_of (layer.Prefix op operand at) = PrefixLevel
level_of (layer.Cast t operand at) = PrefixLevel
level_of (layer.Binary left op right at) = (binding op).level
level_of (layer.TypeTest operand t at) = Comparison
level_of (layer.Conditional condition middle last at) = ConditionalLevel
level_of (layer.Trap operand at) = Loosest
level_of (layer.«Expr::Function» isolated params result value at) = Loosest

-- ---- how expressions begin

abbrev pub is_check : PrefixOp → Bool
is_check Negate = false
is_check Not = false
is_check Check = true
is_check CheckPanic = true

abbrev pub name_begins_with_word : Option Prefix → Bool
name_begins_with_word None = true
name_begins_with_word (Some (WordPrefix w)) = true
name_begins_with_word (Some (IntPrefix at)) = false

abbrev pub primary_begins_with_word : PrimaryOf ExprFacts → Bool
primary_begins_with_word (layer.Literal l) = false
primary_begins_with_word (layer.Name n) = name_begins_with_word n.prefix
primary_begins_with_word (layer.Parens inner at) = false
primary_begins_with_word (layer.List items at) = false
primary_begins_with_word (layer.Mapping members at) = false
primary_begins_with_word (layer.Error message cause details at) = false

abbrev pub call_begins_with_word : CallOf ExprFacts → Bool
call_begins_with_word (layer.«Call::Function» callee args at) = callee.value.begins_with_word
call_begins_with_word (layer.Method receiver method args at) = receiver.value.begins_with_word

abbrev pub postfix_begins_with_word : PostfixOf ExprFacts → Bool
postfix_begins_with_word (layer.Primary e) = e.begins_with_word
postfix_begins_with_word (layer.Call e) = e.begins_with_word
postfix_begins_with_word (layer.Field base field at) = base.value.begins_with_word
postfix_begins_with_word (layer.OptionalField base field at) = base.value.begins_with_word
postfix_begins_with_word (layer.Index base index at) = base.value.begins_with_word

abbrev pub expr_begins_with_word : ExprOf ExprFacts → Bool
expr_begins_with_word (layer.Postfix e) = e.begins_with_word
expr_begins_with_word (layer.Prefix op operand at) = false
expr_begins_with_word (layer.Cast t operand at) = false
expr_begins_with_word (layer.Binary left op right at) = left.value.begins_with_word
expr_begins_with_word (layer.TypeTest operand t at) = operand.value.begins_with_word
expr_begins_with_word (layer.Conditional condition middle last at) = condition.value.begins_with_word
expr_begins_with_word (layer.Trap operand at) = false
expr_begins_with_word (layer.«Expr::Function» isolated params result value at) = false

abbrev pub expr_begins_with_check : ExprOf ExprFacts → Bool
expr_begins_with_check (layer.Postfix e) = false
expr_begins_with_check (layer.Prefix op operand at) = is_check op
expr_begins_with_check (layer.Cast t operand at) = false
expr_begins_with_check (layer.Binary left op right at) = left.value.begins_with_check
expr_begins_with_check (layer.TypeTest operand t at) = operand.value.begins_with_check
expr_begins_with_check (layer.Conditional condition middle last at) = condition.value.begins_with_check
expr_begins_with_check (layer.Trap operand at) = false
expr_begins_with_check (layer.«Expr::Function» isolated params result value at) = false

-- ---- how expressions end

abbrev pub elsewhere : ExprEnd
elsewhere = record { in_type = false; in_int = false }

abbrev pub end_of : ExprOf ExprFacts → ExprEnd
end_of (layer.Postfix e) = elsewhere
end_of (layer.Prefix op operand at) = operand.value.end
end_of (layer.Cast t operand at) = operand.value.end
end_of (layer.Binary left op right at) = right.value.end
end_of (layer.TypeTest operand t at) = record { in_type = true; in_int = (type_end t.value).in_int }
end_of (layer.Conditional condition middle last at) = last.value.end
end_of (layer.Trap operand at) = operand.value.end
end_of (layer.«Expr::Function» isolated params result value at) = value.value.end

-- ---- calls

abbrev pub is_call_of : ExprOf ExprFacts → Bool
is_call_of (layer.Postfix e) = e.is_call
is_call_of (layer.Prefix op operand at) = false
is_call_of (layer.Cast t operand at) = false
is_call_of (layer.Binary left op right at) = false
is_call_of (layer.TypeTest operand t at) = false
is_call_of (layer.Conditional condition middle last at) = false
is_call_of (layer.Trap operand at) = false
is_call_of (layer.«Expr::Function» isolated params result value at) = false

-- An expression may be a statement if it is a call, or a `check`, `checkpanic` or `trap` of one.
abbrev pub stands_alone_of : ExprOf ExprFacts → Bool
stands_alone_of (layer.Postfix e) = e.is_call
stands_alone_of (layer.Prefix op operand at) = is_check op && operand.value.is_call
stands_alone_of (layer.Cast t operand at) = false
stands_alone_of (layer.Binary left op right at) = false
stands_alone_of (layer.TypeTest operand t at) = false
stands_alone_of (layer.Conditional condition middle last at) = false
stands_alone_of (layer.Trap operand at) = operand.value.is_call
stands_alone_of (layer.«Expr::Function» isolated params result value at) = false

abbrev pub is_field_of : PostfixOf ExprFacts → Bool
is_field_of (layer.Primary e) = false
is_field_of (layer.Call e) = false
is_field_of (layer.Field base field at) = true
is_field_of (layer.OptionalField base field at) = false
is_field_of (layer.Index base index at) = false

abbrev pub is_call_of_postfix : PostfixOf ExprFacts → Bool
is_call_of_postfix (layer.Primary e) = false
is_call_of_postfix (layer.Call e) = true
is_call_of_postfix (layer.Field base field at) = false
is_call_of_postfix (layer.OptionalField base field at) = false
is_call_of_postfix (layer.Index base index at) = false

-- ---- the rules

-- A conditional expression groups to the right. A type at the end of the condition would take its `?`, and an `int` at the
-- end of the middle would be the prefix of a word behind the `:`.
abbrev pub make_conditional : ExprFacts → ExprFacts → ExprFacts → Bool
make_conditional condition middle last =
    is_tighter condition.level ConditionalLevel && is_no_looser middle.level ConditionalLevel
    && is_no_looser last.level ConditionalLevel && not condition.end.in_type
    && not (middle.end.in_int && last.begins_with_word)

-- Operands bind as tightly as the operator asks. A type reaches as far as it can, and is well formed.
abbrev pub expr_rule : ExprOf ExprFacts → Bool → Bool
expr_rule (layer.Postfix e) middle = true
expr_rule (layer.Prefix op operand at) middle = is_no_looser operand.value.level PrefixLevel
expr_rule (layer.Cast t operand at) middle = type_is_formed t.value middle && is_no_looser operand.value.level PrefixLevel
expr_rule (layer.Binary left op right at) middle = takes op left.value.level right.value.level
expr_rule (layer.TypeTest operand t at) middle = is_tighter operand.value.level Comparison && type_is_formed t.value middle
expr_rule (layer.Conditional condition between last at) middle = make_conditional condition.value between.value last.value
expr_rule (layer.Trap operand at) middle = true
expr_rule (layer.«Expr::Function» isolated params result value at) middle =
    params_are_formed params && type_is_formed result.value middle

-- `.f` and arguments behind it are a call of a method.
abbrev pub call_rule : CallOf ExprFacts → Bool
call_rule (layer.«Call::Function» callee args at) = not callee.value.is_field
call_rule (layer.Method receiver method args at) = true

abbrev pub primary_rule : PrimaryOf ExprFacts → Bool → Bool
primary_rule (layer.Literal l) middle = true
primary_rule (layer.Name n) middle = name_fits middle n.prefix
primary_rule (layer.Parens inner at) middle = true
primary_rule (layer.List items at) middle = true
primary_rule (layer.Mapping members at) middle = true
primary_rule (layer.Error message cause details at) middle = true

-- ---- what is well formed: what keeps its rule and whose parts are well formed

abbrev pub part_is_formed : Bool → Part ExprFacts → Bool
part_is_formed middle part = (part_of part).is_formed (in_middle middle part)

abbrev pub are_formed : Bool → List (Part ExprFacts) → Bool
are_formed middle parts = list_all (part_is_formed middle) parts

-- the facts of what has no operator outside brackets, but for suffixes
abbrev pub tight : Bool → Bool → Bool → (Bool → Bool) → ExprFacts
tight begins_with_word is_field is_call is_formed = record {
  level = PostfixLevel;
  begins_with_word = begins_with_word;
  begins_with_check = false;
  end = elsewhere;
  is_field = is_field;
  is_call = is_call;
  stands_alone = is_call;
  is_formed = is_formed;
}

abbrev pub facts_of_expr : ExprOf ExprFacts → ExprFacts
facts_of_expr e = record {
  level = level_of e;
  begins_with_word = expr_begins_with_word e;
  begins_with_check = expr_begins_with_check e;
  end = end_of e;
  is_field = false;
  is_call = is_call_of e;
  stands_alone = stands_alone_of e;
  is_formed = λ middle. expr_rule e middle && are_formed middle (expr_parts e);
}

abbrev pub facts : ExprSteps ExprFacts
facts = record {
  expr = facts_of_expr;
  postfix = λ e. tight (postfix_begins_with_word e) (is_field_of e) (is_call_of_postfix e) (λ middle. are_formed middle (postfix_parts e));
  call = λ e. tight (call_begins_with_word e) false true (λ middle. call_rule e && are_formed middle (call_parts e));
  primary = λ e. tight (primary_begins_with_word e) false false (λ middle. primary_rule e middle && are_formed middle (primary_parts e));
  key = λ k. tight false false false (λ middle. are_formed middle (key_parts k));
  member = λ m. tight false false false (λ middle. are_formed middle (member_parts m));
  detail = λ d. tight false false false (λ middle. are_formed middle (detail_parts d));
}

abbrev pub expr_facts : Expr → ExprFacts
expr_facts = of_expr facts

abbrev pub postfix_facts : Postfix → ExprFacts
postfix_facts = of_postfix facts

abbrev pub call_facts : Call → ExprFacts
call_facts = of_call facts

abbrev pub primary_facts : Primary → ExprFacts
primary_facts = of_primary facts

abbrev pub level : Expr → Level
level e = (expr_facts e).level

abbrev pub expr_is_formed : Expr → Bool → Bool
expr_is_formed e = (expr_facts e).is_formed

abbrev pub postfix_is_formed : Postfix → Bool → Bool
postfix_is_formed e = (postfix_facts e).is_formed

abbrev pub call_is_formed : Call → Bool → Bool
call_is_formed e = (call_facts e).is_formed

abbrev pub primary_is_formed : Primary → Bool → Bool
primary_is_formed e = (primary_facts e).is_formed

abbrev pub key_is_formed : Key → Bool → Bool
key_is_formed k = (of_key facts k).is_formed

abbrev pub member_is_formed : Member → Bool → Bool
member_is_formed m = (of_member facts m).is_formed

abbrev pub detail_is_formed : Detail → Bool → Bool
detail_is_formed d = (of_detail facts d).is_formed
