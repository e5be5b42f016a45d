-- The law of positions for statements, from what is so of the trees.
use Rattle.std.proofs.Common.{◌++◌, ℕ, false, List, [], ◌∷◌, arith, refl, ap, ◌∙◌}
use Rattle.bal_base.specs.declared.text.Name.{Name}
use Rattle.bal_tree.specs.declared.def.Worker.{Worker}
use Rattle.descriptors.specs.declared.names.Names.{Names}
use Rattle.type_model.specs.declared.answers.TypeLimit.{TypeLimit}
use Rattle.type_model.specs.declared.atoms.AtomDef.{AtomDef}
use Rattle.type_model.specs.Calls.{Asked}
use Rattle.stmt_needs.specs.PackageTable.{worker_needs}
use Rattle.stmt_needs.specs.StmtTable.{in_block, read_block, read_stmt}
use Rattle.check_words.specs.State.{BlockAtWork, State}
use Rattle.check_laws.specs.Heights.{Heights, ◌⊕◌, none, blocks, units, with_stmt}
use Rattle.check_laws.specs.Positions.{Above, OnBlock}
use Rattle.check_laws.specs.StmtLaws.{HasBlock, HasUnit, IsNoMore, IsOneBlockMore, IsOneStmtMore, StmtPositionsAreKept}
use Rattle.check_laws.proofs.Law.{else-same, keeps, parts-only}
use Rattle.check_laws.proofs.Leading.{Base, Leads, base_of}
use Rattle.check_laws.proofs.Stacks.{is-same, one-there}
use Rattle.check_laws.proofs.StmtTrees.{block-one, stmt-one}

one-stmt : (old new : State) → Above old (with_stmt none) new → IsOneStmtMore old new
one-stmt old new p =
    let o : OnBlock old.blocks 0 1 new.blocks = p.blocks in
    let more = one-there o.stmts in
    record {
      found = is-same (parts-only 0 0 1 old new p);
      around = o.kept;
      block = o.was;
      stmt = more.0;
      was = o.at_hand;
      now = is-same o.on ∙ ap (λ (b : BlockAtWork). o.kept ++ b ∷ []) (ap (λ ss. record { stmts = ss; scope = o.now.scope }) more.1 ∙ ap (λ n. record { stmts = o.was.stmts ++ more.0 ∷ []; scope = n }) o.scope);
      same = else-same 0 0 1 old new p;
    }

one-block : (old new : State) → Above old (blocks 1) new → IsOneBlockMore old new
one-block old new p =
    let more = one-there p.blocks in
    record { found = is-same (parts-only 0 1 0 old new p); block = more.0; blocks = more.1; same = else-same 0 1 0 old new p }

no-more : (old new : State) → Above old none new → IsNoMore old new
no-more old new p = record { found = is-same (parts-only 0 0 0 old new p); blocks = is-same p.blocks; same = else-same 0 0 0 old new p }

-- a worker has a unit and a block of its own, and both end with it
pub worker-none : (workers : List Name) (base : Base) (x : Worker) (number : ℕ) (h : Heights) → Leads workers base h (worker_needs number x) h
worker-none workers base x number h =
    (h ⊕ units 1, (h, refl, refl), (h ⊕ (units 1 ⊕ blocks 1), block-one workers base x.body (in_block false) (h ⊕ units 1), (h, refl, refl)))

module _ (passes : List AtomDef → Asked → TypeLimit → Type 0) (names : Names) where
  pub stmt-positions-are-kept : StmtPositionsAreKept passes names
  stmt-positions-are-kept =
      record {
        stmt = λ x w.
            keeps passes names ((read_stmt x).needs w) HasBlock IsOneStmtMore (with_stmt none) (λ s ready. ready.unit)
            (λ s ready. stmt-one s.site.workers (base_of s) x w none (let some = ready.block in omega arith)) one-stmt;
        block = λ x w.
            keeps passes names ((read_block x).needs w) HasUnit IsOneBlockMore (blocks 1) (λ s ready. ready)
            (λ s ready. block-one s.site.workers (base_of s) x w none) one-block;
        worker = λ x number.
            keeps passes names (worker_needs number x) HasUnit IsNoMore none (λ s ready. ready)
            (λ s ready. worker-none s.site.workers (base_of s) x number none) no-more;
      }
