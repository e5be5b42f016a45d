use Rattle.std.proofs.Common.{◌∙◌, map}
use Rattle.lower_expr.specs.Drafts.{step_of}
use Rattle.code_assembly.specs.Known.{stock_of}
use Rattle.code_assembly.specs.Standing.{AllCome}
use Rattle.code_assembly.proofs.Loops.{subst2}
use Rattle.code_assembly.proofs.assembly.make.Goals as goal

pub returns-clause-made : goal.returns-clause-made
returns-clause-made c =
    record {
      sound = c.if-not-draft.false;
      come = subst2 (λ ls ss. AllCome (stock_of c.instrs.new.tables) ls (map step_of ss) c.in_ok-instrs.instrs.items) c.deref.ensures.value c.deref-2.ensures.value c.in_ok-instrs.ensures.come;
      params = c.in_ok-instrs.ensures.grows.params ∙ c.in_ok-params.ensures;
      units = c.in_ok-units.ensures;
    }
