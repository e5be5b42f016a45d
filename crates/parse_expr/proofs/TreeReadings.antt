-- Expressions made of what was read: how those that hold lists are written out, and when they are well formed.
use Rattle.std.proofs.Common.{◌≡◌, ℕ, Bool, true, false, ◌&&◌, List, [], ◌∷◌, ◌++◌, map, Option, None, Some, refl, sym, ap, ◌∙◌, subst}
use Rattle.std.specs.List.{list_all}
use Rattle.std.specs.Global.{Box, Vec}
use Rattle.std.proofs.lemmas.List.Folds.{list_all-append}
use Rattle.bal_base.specs.declared.place.Place.{Place}
use Rattle.bal_base.specs.declared.token.Keyword.TheVariants.{Error as ErrorKey}
use Rattle.bal_base.specs.declared.token.Sign.TheVariants.{OpenBracket, CloseBracket, OpenParen, CloseParen, OpenBrace, CloseBrace, Comma, Colon, Equal}
use Rattle.bal_tree.specs.declared.name.Word.{Word}
use Rattle.bal_tree.specs.declared.expr.Call.TheOpen as layer
use Rattle.bal_tree.specs.declared.expr.Expr.{Expr}
use Rattle.bal_tree.specs.declared.expr.Key.{Key}
use Rattle.bal_tree.specs.declared.expr.Primary.{Primary}
use Rattle.bal_tree.specs.declared.expr.Primary.TheVariants.{List as ListTree, rolls-List, Mapping, rolls-Mapping, Error, rolls-Error}
use Rattle.bal_tree.specs.declared.expr.Member.{Member, out-Member, roll-out-Member}
use Rattle.bal_tree.specs.declared.expr.Detail.{Detail, out-Detail, roll-out-Detail}
use Rattle.bal_tree.specs.Parts.{Part, outside, inside, each_inside, part_if}
use Rattle.bal_tree.specs.Pieces.{Pieces, ◌&◌, starts, sign, key, if_boxed, separated, behind}
use Rattle.bal_base.specs.declared.token.Token.{Token}
use Rattle.bal_tree.specs.Spells.{Spells}
use Rattle.bal_tree.specs.NamePieces.{word_pieces}
use Rattle.bal_tree.specs.ExprLayers.{of_expr, of_key, of_member, of_detail}
use Rattle.bal_tree.specs.ExprPieces.{writing, expr_pieces, key_pieces, member_pieces, detail_pieces, primary_pieces, as_next}
use Rattle.bal_tree.specs.ExprRules.{ExprFacts, facts, part_is_formed, expr_is_formed, key_is_formed, member_is_formed, detail_is_formed, primary_is_formed}
use Rattle.bal_tree.proofs.Forms.{and-true}
use Rattle.parse_expr.specs.Listings.{cause_is_formed}
use Rattle.parse_expr.proofs.ExprRolls.{rolled-primary, rolled-member, rolled-detail}

all-inside : {X : Type 0} (middle : Bool) (f : X → ExprFacts) (xs : List X) → list_all (part_is_formed middle) (each_inside (map f xs)) ≡ list_all (λ x. (f x).is_formed false) xs
all-inside middle f [] = refl
all-inside middle f (x ∷ xs) = ap (λ b. (f x).is_formed false && b) (all-inside middle f xs)

-- ---- lists and mappings

pub list-pieces : (items : Vec Expr) (at : Place) → primary_pieces (ListTree items at) ≡ (starts at & sign OpenBracket & separated Comma (map expr_pieces items.items) & sign CloseBracket)
list-pieces items at = ap primary_pieces (sym (rolls-List items at)) ∙ rolled-primary writing (layer.List items at)

pub list-formed : (items : Vec Expr) (at : Place) (middle : Bool) → primary_is_formed (ListTree items at) middle ≡ list_all (λ e. expr_is_formed e false) items.items
list-formed items at middle =
    ap (λ t. primary_is_formed t middle) (sym (rolls-List items at)) ∙ ap (λ (f : ExprFacts). f.is_formed middle) (rolled-primary facts (layer.List items at))
    ∙ all-inside middle (of_expr facts) items.items

pub mapping-pieces : (members : Vec Member) (at : Place) → primary_pieces (Mapping members at) ≡ (starts at & sign OpenBrace & separated Comma (map member_pieces members.items) & sign CloseBrace)
mapping-pieces members at = ap primary_pieces (sym (rolls-Mapping members at)) ∙ rolled-primary writing (layer.Mapping members at)

pub mapping-formed : (members : Vec Member) (at : Place) (middle : Bool) → primary_is_formed (Mapping members at) middle ≡ list_all (λ m. member_is_formed m false) members.items
mapping-formed members at middle =
    ap (λ t. primary_is_formed t middle) (sym (rolls-Mapping members at)) ∙ ap (λ (f : ExprFacts). f.is_formed middle) (rolled-primary facts (layer.Mapping members at))
    ∙ all-inside middle (of_member facts) members.items

-- ---- errors

pub error-pieces : (message : Box Expr) (cause : Option (Box Expr)) (details : Vec Detail) (at : Place) → primary_pieces (Error message cause details at) ≡ (starts at & key ErrorKey & sign OpenParen & expr_pieces message.value & if_boxed (λ e. as_next (expr_pieces e)) cause & behind Comma (map detail_pieces details.items) & sign CloseParen)
error-pieces message None details at = ap primary_pieces (sym (rolls-Error message None details at)) ∙ rolled-primary writing (layer.Error message None details at)
error-pieces message (Some e) details at = ap primary_pieces (sym (rolls-Error message (Some e) details at)) ∙ rolled-primary writing (layer.Error message (Some e) details at)

pub error-formed : (message : Box Expr) (cause : Option (Box Expr)) (details : Vec Detail) (at : Place) (middle : Bool) → primary_is_formed (Error message cause details at) middle ≡ (expr_is_formed message.value false && (cause_is_formed cause && list_all (λ d. detail_is_formed d false) details.items))
error-formed message None details at middle =
    ap (λ t. primary_is_formed t middle) (sym (rolls-Error message None details at)) ∙ ap (λ (f : ExprFacts). f.is_formed middle) (rolled-primary facts (layer.Error message None details at))
    ∙ ap (λ b. expr_is_formed message.value false && b) (all-inside middle (of_detail facts) details.items)
error-formed message (Some e) details at middle =
    ap (λ t. primary_is_formed t middle) (sym (rolls-Error message (Some e) details at)) ∙ ap (λ (f : ExprFacts). f.is_formed middle) (rolled-primary facts (layer.Error message (Some e) details at))
    ∙ ap (λ b. expr_is_formed message.value false && (expr_is_formed e.value false && b)) (all-inside middle (of_detail facts) details.items)

-- ---- members and details

pub member-made : (m : Member) (k : Key) (value : Box Expr) (at : Place) → (out-Member m).key ≡ k → (out-Member m).value ≡ value → (out-Member m).at ≡ at → member_pieces m ≡ (starts at & key_pieces k & sign Colon & expr_pieces value.value)
member-made m k value at key_is value_is at_is =
    ap member_pieces (sym (roll-out-Member m)) ∙ rolled-member writing (out-Member m)
    ∙ ap (λ x. starts x & key_pieces (out-Member m).key & sign Colon & expr_pieces (out-Member m).value.value) at_is
    ∙ ap (λ x. starts at & key_pieces x & sign Colon & expr_pieces (out-Member m).value.value) key_is
    ∙ ap (λ (x : Box Expr). starts at & key_pieces k & sign Colon & expr_pieces x.value) value_is

pub member-made-formed : (m : Member) (k : Key) (value : Box Expr) (middle : Bool) → (out-Member m).key ≡ k → (out-Member m).value ≡ value → member_is_formed m middle ≡ (key_is_formed k middle && expr_is_formed value.value middle)
member-made-formed m k value middle key_is value_is =
    ap (λ x. member_is_formed x middle) (sym (roll-out-Member m)) ∙ ap (λ (f : ExprFacts). f.is_formed middle) (rolled-member facts (out-Member m))
    ∙ ap (λ b. key_is_formed (out-Member m).key middle && b) (and-true (expr_is_formed (out-Member m).value.value middle))
    ∙ ap (λ x. key_is_formed x middle && expr_is_formed (out-Member m).value.value middle) key_is
    ∙ ap (λ (x : Box Expr). key_is_formed k middle && expr_is_formed x.value middle) value_is

pub detail-made : (d : Detail) (name : Word) (value : Box Expr) (at : Place) → (out-Detail d).name ≡ name → (out-Detail d).value ≡ value → (out-Detail d).at ≡ at → detail_pieces d ≡ (starts at & word_pieces name & sign Equal & expr_pieces value.value)
detail-made d name value at name_is value_is at_is =
    ap detail_pieces (sym (roll-out-Detail d)) ∙ rolled-detail writing (out-Detail d)
    ∙ ap (λ x. starts x & word_pieces (out-Detail d).name & sign Equal & expr_pieces (out-Detail d).value.value) at_is
    ∙ ap (λ x. starts at & word_pieces x & sign Equal & expr_pieces (out-Detail d).value.value) name_is
    ∙ ap (λ (x : Box Expr). starts at & word_pieces name & sign Equal & expr_pieces x.value) value_is

pub detail-made-formed : (d : Detail) (value : Box Expr) (middle : Bool) → (out-Detail d).value ≡ value → detail_is_formed d middle ≡ expr_is_formed value.value middle
detail-made-formed d value middle value_is =
    ap (λ x. detail_is_formed x middle) (sym (roll-out-Detail d)) ∙ ap (λ (f : ExprFacts). f.is_formed middle) (rolled-detail facts (out-Detail d))
    ∙ and-true (expr_is_formed (out-Detail d).value.value middle)
    ∙ ap (λ (x : Box Expr). expr_is_formed x.value middle) value_is

-- ---- one more part behind a comma

pub spells-behind : {X : Type 0} (f : X → Pieces) (file : ℕ) (xs : List X) (x : X) (a b c : List Token) → Spells file (behind Comma (map f xs)) a b → Spells file (sign Comma & f x) b c → Spells file (behind Comma (map f (xs ++ x ∷ []))) a c
spells-behind f file [] x a b c front here = subst (λ t. Spells file (behind Comma (f x ∷ [])) t c) (sym front) (here.0, here.1, (c, here.2, refl))
spells-behind f file (y ∷ ys) x a b c front here = (front.0, front.1, (front.2.0, front.2.1, spells-behind f file ys x front.2.0 b c front.2.2 here))
