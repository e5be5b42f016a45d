-- Runs of needs that end nothing.
use Rattle.std.proofs.Common.{List}
use Rattle.std.proofs.lemmas.List.Elements.{All-append, All-cons, All-head, All-nil}
use Rattle.check_words.proofs.Standing.{back-have, front-have}
use Rattle.check_words.specs.Meets.{meets}
use Rattle.check_words.specs.State.{State}
use Rattle.checks.specs.Checks.{Gives, gives_some, ◌▷◌}
use Rattle.descriptors.specs.declared.names.Names.{Names}
use Rattle.expr_needs.specs.Needs.{Need}
use Rattle.kept_done.proofs.EachKeeps.{keeps-need}
use Rattle.kept_done.proofs.Keeping.{keeps-on, keeps-same}
use Rattle.kept_done.proofs.StmtTrees.{all-free, block-free, stmt-free}
use Rattle.kept_done.proofs.Trees.{Free, expr-free, rhs-free}
use Rattle.kept_done.specs.Done.{DoneIsKept, EndNone, EndsNone, KeepsDone, TreesEndNone}
use Rattle.needs.specs.Needs.{all_met}
use Rattle.std.proofs.Common.{[]}
use Rattle.type_model.specs.Calls.{Asked}
use Rattle.type_model.specs.declared.answers.TypeLimit.{TypeLimit}
use Rattle.type_model.specs.declared.atoms.AtomDef.{AtomDef}
use Rattle.typed_tree.specs.Listed.{Listed, members, nothing, one, ◌&◌}

-- what is so of what is listed is so of its members
as-members : (needs : Listed Need) → Free needs → EndNone needs
as-members nothing f = All-nil EndsNone
as-members (one n) f = All-cons EndsNone n [] f (All-nil EndsNone)
as-members (p & q) (f, g) = All-append EndsNone (members p) (members q) (as-members p f) (as-members q g)

pub trees-end-none : TreesEndNone
trees-end-none =
    record {
      expr = λ x e. as-members _ ((expr-free x).0 e);
      rhs = λ x e. as-members _ (rhs-free x e);
      stmt = λ x w. as-members _ (stmt-free x w);
      block = λ x w. as-members _ (block-free x w);
      stmts = λ xs w. as-members _ (all-free xs w);
    }

module _ (passes : List AtomDef → Asked → TypeLimit → Type 0) (names : Names) where
  run-keeps : (needs : Listed Need) (old new : State) → EndNone needs → all_met (meets passes names) needs old (Gives tt) new → KeepsDone old new
  unfolding ◌▷◌ gives_some
  run-keeps nothing old new f (is, same) = keeps-same old new same
  run-keeps (one n) old new f met = keeps-need passes names n (All-head EndsNone n [] f) old new tt met
  run-keeps (p & q) old new f (u, mid, x, y) =
      keeps-on old mid new (run-keeps p old mid (front-have EndsNone (members p) (members q) f) x) (run-keeps q mid new (back-have EndsNone (members p) (members q) f) y)

pub done-is-kept : (passes : List AtomDef → Asked → TypeLimit → Type 0) → DoneIsKept passes
done-is-kept passes names needs old new f met = run-keeps passes names needs old new f met
