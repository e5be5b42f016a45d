-- Whole runs go on, need by need.
use Rattle.std.proofs.Common.{◌≡◌, ◌∙◌, ◌++◌, List, [], ◌∷◌, drop, length, take, append_assoc, arith, refl, sym, subst, ap}
use Rattle.std.proofs.lemmas.List.{take-append-drop}
use Rattle.std.specs.List.{AllZip}
use Rattle.checks.specs.Checks.{Gives}
use Rattle.descriptors.specs.declared.names.Names.{Names}
use Rattle.needs.specs.Laws.{AreMet}
use Rattle.needs.proofs.Members.{met-all}
use Rattle.type_model.specs.declared.answers.TypeLimit.{TypeLimit}
use Rattle.type_model.specs.declared.atoms.AtomDef.{AtomDef}
use Rattle.type_model.specs.Calls.{Asked}
use Rattle.typed_tree.specs.Listed.{Listed, members}
use Rattle.expr_needs.specs.ActionTable.{read_rhs}
use Rattle.expr_needs.specs.ExprTable.{read_expr}
use Rattle.expr_needs.specs.Needs.{Need}
use Rattle.stmt_needs.specs.PackageTable.{worker_needs}
use Rattle.stmt_needs.specs.StmtTable.{read_block, read_stmt}
use Rattle.check_words.specs.Meets.{meets}
use Rattle.check_words.specs.State.{State}
use Rattle.check_laws.specs.Effects.{effect}
use Rattle.check_laws.specs.Laws.{Finds, IsOneMore, IsReady, KeepsPositions, KeptPositions}
use Rattle.check_laws.specs.StmtLaws.{HasBlock, HasUnit, IsNoMore, IsOneBlockMore, IsOneStmtMore, KeptStmtPositions}
use Rattle.typed_needs.specs.Going.{GoesOn, GoesOnBelow, IsSameUnit}
use Rattle.typed_needs.specs.WholeRuns.{RunGoesOn, RunsGoOn}
use Rattle.typed_needs.proofs.EachGoes.{each-goes}
use Rattle.typed_needs.proofs.Going.{goes-self}
use Rattle.typed_needs.proofs.GoingBelow.{below-then, on-below}

take-all : {A : Type 0} (xs : List A) → take (length xs) xs ≡ xs
take-all [] = refl
take-all (x ∷ xs) = ap (λ l. x ∷ l) (take-all xs)

-- where all units that were there go on
from-below : (old new : State) → GoesOnBelow (length old.units) old new → GoesOn old new
from-below old new g =
    record {
      more = g.more;
      atoms = g.atoms;
      going = take (length old.units) new.units;
      above = drop (length old.units) new.units;
      units = sym (take-append-drop (length old.units) new.units);
      each = subst (λ us. AllZip IsSameUnit us (take (length old.units) new.units)) (take-all old.units) g.each;
    }

module _ (passes : List AtomDef → Asked → TypeLimit → Type 0) (names : Names) where
  abbrev Met : List Need → State → State → Type 0
  Met = AreMet (meets passes names)

  one-more-met : (ns : List Need) (n : Need) (old mid new : State) → Met ns old mid → meets passes names n mid (Gives tt) new → Met (ns ++ n ∷ []) old new
  one-more-met [] n old mid new e met = (new, subst (λ (s : State). meets passes names n s (Gives tt) new) e met, refl)
  one-more-met (m ∷ ns) n old mid new (at, first, rest) met = (at, first, one-more-met ns n at mid new rest met)

  module _ (all : List Need) (base : State)
      (finds : (before behind : List Need) (need : Need) (s : State) → all ≡ before ++ need ∷ behind → Met before base s → Finds (effect base.site.workers need) base s) where
    goes-along : (before behind : List Need) (s new : State) → all ≡ before ++ behind → Met before base s → Met behind s new → GoesOnBelow (length base.units) base s
        → GoesOnBelow (length base.units) base new
    goes-along before [] s new is met e g = subst (λ (t : State). GoesOnBelow (length base.units) base t) (sym e) g
    goes-along before (need ∷ behind) s new is met (mid, here, rest) g =
        let step = each-goes passes names base s mid need (finds before behind need s is met) g.there here in
        goes-along (before ++ need ∷ []) behind mid new (is ∙ sym (append_assoc before (need ∷ []) behind)) (one-more-met before need base s mid met here) rest
        (below-then (length base.units) base s mid g step)

  pub run-goes-on : (needs : Listed Need) (IsReadyFor : State → Type 0) (ComesTo : State → State → Type 0) → KeepsPositions passes names IsReadyFor ComesTo needs
      → RunGoesOn passes names IsReadyFor needs
  run-goes-on needs IsReadyFor ComesTo keeps old new ready met =
      from-below old new
      (goes-along (members needs) old (λ before behind need s is was. keeps.finds before behind need old s ready is was) [] (members needs) old new refl refl
      ((met-all (meets passes names) needs old new).0 met) (on-below (length old.units) old old (omega arith) (goes-self old)))

pub runs-go-on : (passes : List AtomDef → Asked → TypeLimit → Type 0) → KeptPositions passes → KeptStmtPositions passes → RunsGoOn passes
runs-go-on passes exprs stmts names =
    record {
      expr = λ x e. run-goes-on passes names ((read_expr x).needs e) (IsReady e) IsOneMore ((exprs names).expr x e);
      rhs = λ x e. run-goes-on passes names ((read_rhs x).needs e) (IsReady e) IsOneMore ((exprs names).rhs x e);
      stmt = λ x w. run-goes-on passes names ((read_stmt x).needs w) HasBlock IsOneStmtMore ((stmts names).stmt x w);
      block = λ x w. run-goes-on passes names ((read_block x).needs w) HasUnit IsOneBlockMore ((stmts names).block x w);
      worker = λ x number. run-goes-on passes names (worker_needs number x) HasUnit IsNoMore ((stmts names).worker x number);
    }
