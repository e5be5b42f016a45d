-- Statements put together from parts that were read: how they are written out, and when they are well formed.
use Rattle.std.proofs.Common.{rules, ◌≡◌, Bool, true, false, ◌&&◌, List, [], ◌∷◌, map, Option, None, Some, refl, sym, ap, ◌∙◌}
use Rattle.std.specs.Global.{Box, Vec}
use Rattle.std.specs.List.{list_all}
use Rattle.std.specs.Prelude.{not, nat_eq}
use Rattle.std.proofs.lemmas.List.{length-map}
use Rattle.bal_base.specs.declared.place.Place.{Place}
use Rattle.bal_base.specs.declared.token.Keyword.TheVariants.{Match as MatchKey}
use Rattle.bal_base.specs.declared.token.Sign.TheVariants.{OpenBrace, CloseBrace}
use Rattle.bal_tree.specs.declared.action.Rhs.{Rhs}
use Rattle.bal_tree.specs.declared.expr.Expr.{Expr}
use Rattle.bal_tree.specs.declared.name.Word.{Word}
use Rattle.bal_tree.specs.declared.stmt.AssignOp.{AssignOp}
use Rattle.bal_tree.specs.declared.stmt.Block.{Block, out-Block, roll-out-Block}
use Rattle.bal_tree.specs.declared.stmt.Clause.{Clause}
use Rattle.bal_tree.specs.declared.stmt.Else.TheOpen as layer
use Rattle.bal_tree.specs.declared.stmt.LocalType.{LocalType}
use Rattle.bal_tree.specs.declared.stmt.Range.{Range}
use Rattle.bal_tree.specs.declared.stmt.Stmt.{Stmt}
use Rattle.bal_tree.specs.declared.stmt.Stmt.TheVariants.{Assign, rolls-Assign, Foreach, rolls-Foreach, Match, rolls-Match}
use Rattle.bal_tree.specs.declared.stmt.Target.{Target}
use Rattle.bal_tree.specs.ActionRules.{has_members, rhs_is_formed}
use Rattle.bal_tree.specs.ExprPieces.{expr_pieces}
use Rattle.bal_tree.specs.ExprRules.{expr_is_formed}
use Rattle.bal_tree.specs.Pieces.{starts, ◌&◌, key, sign, joined}
use Rattle.bal_tree.specs.StmtPieces.{writing, stmt_pieces, block_pieces, clause_pieces, assign_sign, ended, foreach_head, target_pieces}
use Rattle.bal_tree.specs.StmtRules.{forming, are_formed, stmt_is_formed, block_is_formed, clause_is_formed, local_type_is_formed, range_is_formed, target_is_formed}
use Rattle.parse_stmt.proofs.StmtRolls.{rolled-block, rolled-stmt}

pub all-map : {X : Type 0} (f : X → Bool) (xs : List X) → are_formed (map f xs) ≡ list_all f xs
all-map f [] = refl
all-map f (x ∷ xs) = ap (λ b. f x && b) (all-map f xs)

pub block-made : (b : Block) (stmts : Vec Stmt) (close at : Place) → (out-Block b).stmts ≡ stmts → (out-Block b).close ≡ close → (out-Block b).at ≡ at → block_pieces b ≡ (starts at & sign OpenBrace & joined (map stmt_pieces stmts.items) & starts close & sign CloseBrace)
block-made b stmts close at s c a =
    ap block_pieces (sym (roll-out-Block b)) ∙ rolled-block writing (out-Block b)
    ∙ ap (λ x. starts x & sign OpenBrace & joined (map stmt_pieces (out-Block b).stmts.items) & starts (out-Block b).close & sign CloseBrace) a
    ∙ ap (λ x. starts at & sign OpenBrace & joined (map stmt_pieces (out-Block b).stmts.items) & starts x & sign CloseBrace) c
    ∙ ap (λ (x : Vec Stmt). starts at & sign OpenBrace & joined (map stmt_pieces x.items) & starts close & sign CloseBrace) s

pub block-made-formed : (b : Block) (stmts : Vec Stmt) → (out-Block b).stmts ≡ stmts → block_is_formed b ≡ list_all stmt_is_formed stmts.items
block-made-formed b stmts s =
    ap block_is_formed (sym (roll-out-Block b)) ∙ rolled-block forming (out-Block b) ∙ all-map stmt_is_formed (out-Block b).stmts.items
    ∙ ap (λ (x : Vec Stmt). list_all stmt_is_formed x.items) s

pub match-pieces : (value : Box Expr) (clauses : Vec Clause) (at : Place) → stmt_pieces (Match value clauses at) ≡ (starts at & key MatchKey & expr_pieces value.value & sign OpenBrace & joined (map clause_pieces clauses.items) & sign CloseBrace)
match-pieces value clauses at = ap stmt_pieces (sym (rolls-Match value clauses at)) ∙ rolled-stmt writing (layer.Match value clauses at)

same-members : {X : Type 0} (f : X → Bool) (xs : List X) → has_members (map f xs) ≡ has_members xs
same-members f xs = ap (λ n. not (nat_eq n 0)) (length-map xs f)

pub match-formed : (value : Box Expr) (clauses : Vec Clause) (at : Place) → stmt_is_formed (Match value clauses at) ≡ ((expr_is_formed value.value false && has_members clauses.items) && list_all clause_is_formed clauses.items)
match-formed value clauses at =
    ap stmt_is_formed (sym (rolls-Match value clauses at)) ∙ rolled-stmt forming (layer.Match value clauses at)
    ∙ ap (λ b. (expr_is_formed value.value false && b) && are_formed (map clause_is_formed clauses.items)) (same-members clause_is_formed clauses.items)
    ∙ ap (λ b. (expr_is_formed value.value false && has_members clauses.items) && b) (all-map clause_is_formed clauses.items)

pub foreach-pieces : (t : LocalType) (name : Word) (from : Box Expr) (range : Option Range) (body : Block) (at : Place) → stmt_pieces (Foreach t name from range body at) ≡ (starts at & foreach_head t name from.value range & block_pieces body)
foreach-pieces t name from range body at = ap stmt_pieces (sym (rolls-Foreach t name from range body at)) ∙ rolled-stmt writing (layer.Foreach t name from range body at)

pub foreach-formed : (t : LocalType) (name : Word) (from : Box Expr) (range : Option Range) (body : Block) (at : Place) → stmt_is_formed (Foreach t name from range body at) ≡ (((local_type_is_formed t && expr_is_formed from.value false) && range_is_formed range) && (block_is_formed body && true))
foreach-formed t name from range body at = ap stmt_is_formed (sym (rolls-Foreach t name from range body at)) ∙ rolled-stmt forming (layer.Foreach t name from range body at)

pub assign-pieces : (target : Target) (op : AssignOp) (value : Rhs) (at : Place) → stmt_pieces (Assign target op value at) ≡ (starts at & target_pieces target & sign (assign_sign op) & ended value)
assign-pieces target op value at = ap stmt_pieces (sym (rolls-Assign target op value at)) ∙ rolled-stmt writing (layer.Assign target op value at)

pub assign-formed : (target : Target) (op : AssignOp) (value : Rhs) (at : Place) → stmt_is_formed (Assign target op value at) ≡ ((target_is_formed target && rhs_is_formed value) && true)
assign-formed target op value at = ap stmt_is_formed (sym (rolls-Assign target op value at)) ∙ rolled-stmt forming (layer.Assign target op value at)
