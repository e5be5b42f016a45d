-- Whether a name is among those that are assigned, part by part.
use Rattle.std.proofs.Common.{◌≡◌, ◌∙◌, ◌++◌, ◌+◌, ◌<◌, ◌||◌, ℕ, Bool, true, false, List, [], ◌∷◌, length, get_or, take, ap, append_assoc, refl, sym}
use Rattle.std.proofs.lemmas.List.Folds.{list_any-append}
use Rattle.std.proofs.lemmas.List.{take_more}
use Rattle.std.specs.List.{list_any}
use Rattle.bal_base.specs.declared.text.Name.{Name}
use Rattle.bal_tree.specs.declared.def.Worker.{Worker}
use Rattle.bal_tree.specs.declared.name.Word.{Word}
use Rattle.bal_tree.specs.declared.stmt.Stmt.{Stmt}
use Rattle.bal_tree.proofs.StmtLayers.{stmt_layers}
use Rattle.typed_tree.specs.Listed.{members}
use Rattle.tree_places.specs.Assigned.{assigned_in_block, assigned_in_stmts}
use Rattle.stmt_needs.specs.PackageTable.{assigned_behind, assigned_in_workers}
use Rattle.stmt_needs.specs.StmtTable.{is_among}

-- of two lists
pub among-both : (name : Name) (ws us : List Word) → is_among name (ws ++ us) ≡ (is_among name ws || is_among name us)
among-both name ws us = list_any-append _ ws us

workers-append : (xs ys : List Worker) → assigned_in_workers (xs ++ ys) ≡ assigned_in_workers xs ++ assigned_in_workers ys
workers-append [] ys = refl
workers-append (x ∷ xs) ys =
    ap (λ ws. members (assigned_in_block x.body) ++ ws) (workers-append xs ys)
    ∙ sym (append_assoc (members (assigned_in_block x.body)) (assigned_in_workers xs) (assigned_in_workers ys))

or-false : (b : Bool) → (b || false) ≡ b
or-false true = refl
or-false false = refl

-- one worker more
pub among-more : (name : Name) (ws : List Worker) (i : ℕ) (w : Worker) (found here : Bool) → i < length ws → w ≡ get_or ws i w
    → found ≡ is_among name (assigned_in_workers (take i ws)) → here ≡ is_among name (members (assigned_in_block w.body))
    → (found || here) ≡ is_among name (assigned_in_workers (take (i + 1) ws))
among-more name ws i w found here lt e f h =
    ap (λ b. b || here) f ∙ ap (λ b. is_among name (assigned_in_workers (take i ws)) || b) h
    ∙ sym
    (ap (λ us. is_among name (assigned_in_workers us)) (take_more ws i w lt ∙ ap (λ x. take i ws ++ x ∷ []) (sym e))
    ∙ ap (is_among name) (workers-append (take i ws) (w ∷ [])) ∙ among-both name (assigned_in_workers (take i ws)) (members (assigned_in_block w.body) ++ [])
    ∙ ap (λ b. is_among name (assigned_in_workers (take i ws)) || b) (among-both name (members (assigned_in_block w.body)) [] ∙ or-false _))

-- statements, workers, and the rest
pub among-three : (name : Name) (ss : List Stmt) (ws : List Worker) (rest : List Stmt) (a b c : Bool) → a ≡ is_among name (members (assigned_in_stmts ss))
    → b ≡ is_among name (assigned_in_workers ws) → c ≡ is_among name (members (assigned_in_stmts rest))
    → (a || (b || c)) ≡ is_among name (members (assigned_in_stmts ss) ++ assigned_behind ws rest)
among-three name ss ws rest a b c e f g =
    ap (λ x. x || (b || c)) e ∙ ap (λ x. is_among name (members (assigned_in_stmts ss)) || (x || c)) f
    ∙ ap (λ x. is_among name (members (assigned_in_stmts ss)) || (is_among name (assigned_in_workers ws) || x)) g
    ∙ sym
    (among-both name (members (assigned_in_stmts ss)) (assigned_behind ws rest)
    ∙ ap (λ x. is_among name (members (assigned_in_stmts ss)) || x) (among-both name (assigned_in_workers ws) (members (assigned_in_stmts rest))))

pub ruleset among = (among-both, among-three, stmt_layers)
