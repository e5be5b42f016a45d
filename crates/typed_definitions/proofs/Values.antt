-- Values of bodies and of variables: what is done stays behind one.
use Rattle.std.proofs.Common.{List, [], ◌∷◌}
use Rattle.std.proofs.lemmas.List.Elements.{All-append, All-cons, All-nil}
use Rattle.bal_base.specs.declared.place.Place.{Place}
use Rattle.bal_tree.specs.declared.expr.Expr.{Expr}
use Rattle.check_words.specs.State.{State}
use Rattle.descriptors.specs.declared.names.Names.{Names}
use Rattle.expr_needs.specs.ExprTable.{as_wanted, read_expr}
use Rattle.expr_needs.specs.Needs.{IsWanted, Need}
use Rattle.expr_needs.specs.declared.expected.Expected.TheVariants as expected
use Rattle.kept_done.specs.Done.{DoneIsKept, EndsNone, KeepsDone, TreesEndNone}
use Rattle.type_model.specs.Calls.{Asked}
use Rattle.type_model.specs.declared.answers.TypeLimit.{TypeLimit}
use Rattle.type_model.specs.declared.atoms.AtomDef.{AtomDef}
use Rattle.typed_exprs.specs.Lines.{Run}
use Rattle.typed_tree.specs.Listed.{members}
use Rattle.typed_trees.proofs.Leaving.{only-met}

pub value-done : (passes : List AtomDef → Asked → TypeLimit → Type 0) → DoneIsKept passes → TreesEndNone → (names : Names) (env : List AtomDef) (x : Expr) (old new : State)
    → Run passes names env (as_wanted (read_expr x)) old new → KeepsDone old new
value-done passes done none names env x old new run =
    let needs : List Need = members ((read_expr x).needs expected.Wanted) in
    let at : Place = (read_expr x).at in
    done names (as_wanted (read_expr x)) old new
    (All-append EndsNone needs (IsWanted at ∷ []) (none.expr x expected.Wanted) (All-cons EndsNone (IsWanted at) [] tt (All-nil EndsNone)))
    (only-met passes names env (as_wanted (read_expr x)) old new run)
