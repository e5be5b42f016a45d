-- What a part of a body leaves, whatever its statements are: one block more, and the same unit at hand.
use Rattle.std.proofs.Common.{List, [], ap, arith, length, length-append, refl, subst, sym, ◌++◌, ◌∙◌, ◌∷◌, ◌≡◌}
use Rattle.bal_tree.specs.declared.stmt.Stmt.{Stmt}
use Rattle.check_laws.specs.Laws.{KeepsPositions}
use Rattle.check_laws.specs.StmtLaws.{HasBlock, HasUnit, IsOneStmtMore, KeptStmtPositions}
use Rattle.check_words.specs.State.{BlockAtWork, State, all_but}
use Rattle.checks.specs.Checks.{gives_some, ◌▷◌}
use Rattle.descriptors.specs.declared.names.Names.{Names}
use Rattle.expr_needs.specs.Needs.{BeginsBlock, Need}
use Rattle.stmt_needs.specs.PackageTable.{read_stmts}
use Rattle.stmt_needs.specs.StmtTable.{Within, read_stmt, stmts_needs, stmts_needs_from}
use Rattle.type_model.specs.Calls.{Asked}
use Rattle.type_model.specs.declared.answers.TypeLimit.{TypeLimit}
use Rattle.type_model.specs.declared.atoms.AtomDef.{AtomDef}
use Rattle.typed_bodies.proofs.Choosing.{block-begun}
use Rattle.typed_bodies.proofs.Onward.{onward-begins-block}
use Rattle.typed_bodies.proofs.Trails.{in-on, in-run, in-same, in-units}
use Rattle.typed_bodies.specs.Claims.{StaysIn}
use Rattle.typed_exprs.proofs.Steps.{parted}
use Rattle.typed_exprs.specs.Lines.{Run}
use Rattle.typed_needs.proofs.Placed.{all-but-last}
use Rattle.typed_needs.specs.WholeRuns.{RunsGoOn}
use Rattle.typed_tree.specs.Listed.{Listed, nothing, one, ◌&◌}
use Rattle.typed_trees.proofs.Leaving.{only-met}

-- ---- statements

-- on these blocks stands another form of the one that stood there
record Inside (kept : List BlockAtWork) (s t : State) : Type 0 where
  pub now : BlockAtWork
  pub blocks : t.blocks ≡ kept ++ now ∷ []
  pub stays : StaysIn s t
  pub found : t.found ≡ s.found
  pub matches : t.matches ≡ s.matches

-- a block that begins, with its statements
pub record Outline (old new : State) : Type 0 where
  pub now : BlockAtWork
  pub blocks : new.blocks ≡ old.blocks ++ now ∷ []
  pub stays : StaysIn old new
  pub found : new.found ≡ old.found
  pub matches : new.matches ≡ old.matches

module _ (passes : List AtomDef → Asked → TypeLimit → Type 0) (positions : KeptStmtPositions passes) (goes : RunsGoOn passes) (names : Names) (env : List AtomDef) where
  pub join-runs : (p q : Listed Need) (s m t : State) → Run passes names env p s m → Run passes names env q m t → Run passes names env (p & q) s t
  unfolding ◌▷◌
  join-runs p q s m t x y = (tt, m, x, y)

  abbrev Goes : Listed Need → Type 0
  Goes needs = (kept : List BlockAtWork) (b : BlockAtWork) (s t : State) → HasUnit s → s.blocks ≡ kept ++ b ∷ [] → Run passes names env needs s t → Inside kept s t

  stmt-inside : (x : Stmt) (w : Within) → Goes ((read_stmt x).needs w)
  stmt-inside x w kept b s t unit at run =
      let met = only-met passes names env ((read_stmt x).needs w) s t run in
      let has : HasBlock s = record { unit = unit; block = (let e = ap length at in let l = length-append kept (b ∷ []) in omega (arith, e, l)) } in
      let k : KeepsPositions passes names HasBlock IsOneStmtMore ((read_stmt x).needs w) = (positions names).stmt x w in
      let more : IsOneStmtMore s t = k.comes s t has met in
      let now : BlockAtWork = record more.block { stmts = more.block.stmts ++ more.stmt ∷ [] } in
      let around : more.around ≡ kept =
      sym (all-but-last more.around more.block) ∙ ap (λ bs. all_but 1 bs) (sym more.was ∙ at) ∙ all-but-last kept b in
      record {
        now = now;
        blocks = more.now ∙ ap (λ bs. bs ++ now ∷ []) around;
        stays = in-run s t ((goes names).stmt x w s t has met) more.same;
        found = more.found;
        matches = more.same.matches;
      }

  both-inside : (p q : Listed Need) → Goes p → Goes q → Goes (p & q)
  both-inside p q f g kept b s t unit at run =
      let (m, ra, rb) = parted passes names env p q s t run in
      let x = f kept b s m unit at ra in
      let y = g kept x.now m t (let many = x.stays.many in omega (arith, many, unit)) x.blocks rb in
      record { now = y.now; blocks = y.blocks; stays = in-on s m t x.stays y.stays; found = y.found ∙ x.found; matches = y.matches ∙ x.matches }

  stmts-inside : (xs : List Stmt) (w : Within) (before : Listed Need) → Goes before → Goes (stmts_needs_from before w (read_stmts xs))
  stmts-inside [] w before f = f
  stmts-inside (x ∷ xs) w before f = stmts-inside xs w _ (both-inside before _ f (stmt-inside x _))

  none-inside : Goes nothing
  unfolding gives_some
  none-inside kept b s t unit at (is, same) =
      subst (λ (r : State). Inside kept s r) (sym same) (record { now = b; blocks = at; stays = in-same s; found = refl; matches = refl })

  pub outline : (xs : List Stmt) (w : Within) (old new : State) → HasUnit old → Run passes names env (one BeginsBlock & stmts_needs w (read_stmts xs)) old new → Outline old new
  outline xs w old new unit run =
      let (a, ra, rb) = parted passes names env (one BeginsBlock) (stmts_needs w (read_stmts xs)) old new run in
      let b = block-begun old a ra.0 in
      let o = onward-begins-block old a tt ra.0 in
      let in-a : StaysIn old a = in-units old a o.moved.on o.moved.site in
      let unit-a : HasUnit a = (let many = in-a.many in omega (arith, many, unit)) in
      let i = stmts-inside xs w nothing none-inside old.blocks b.block a new unit-a (ap (λ (s : State). s.blocks) b.all) rb in
      record {
        now = i.now;
        blocks = i.blocks;
        stays = in-on old a new in-a i.stays;
        found = i.found ∙ ap (λ (s : State). s.found) b.all;
        matches = i.matches ∙ ap (λ (s : State). s.matches) b.all;
      }
