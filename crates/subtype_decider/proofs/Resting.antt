-- A table at rest stays so where the diagrams grow, and where atoms are added.
use Rattle.std.proofs.Common.{ℕ, List, length, Option, Some, None}
use Rattle.std.proofs.lemmas.List.Elements.{All-weaker}
use Rattle.bal_base.specs.declared.shape.Shape.{Shape}
use Rattle.type_model.specs.declared.basic.SemType.{Atom}
use Rattle.type_model.specs.declared.atoms.AtomDef.{AtomDef}
use Rattle.type_model.specs.Calls.{KeepsTypes}
use Rattle.type_diagrams.specs.Tables.{Table as Diagrams}
use Rattle.type_diagrams.specs.Whole.{Extends, IsTable}
use Rattle.type_diagrams.proofs.AddedAtoms.{Meets-added}
use Rattle.subtype_decider.specs.declared.questions.Questions.{Questions}
use Rattle.subtype_decider.specs.Closed.{IsRight}
use Rattle.subtype_decider.specs.Working.{IsAtRest}
use Rattle.subtype_decider.proofs.Grown.{defined-grown}
use Rattle.subtype_decider.proofs.Ends.{closed-grown}

pub rest-grown : (env : List AtomDef) (q : Questions) (new : Diagrams) → Extends (length env) q.diagrams new → IsAtRest env q → IsAtRest env (record q { diagrams = new })
rest-grown env q new e r = record {
  defined = defined-grown env q.diagrams new e r.defined;
  closed = closed-grown env q.diagrams new q.table e.keeps r.closed;
  pending = r.pending;
  judged = r.judged;
}

module _ (old new : List AtomDef) (keeps : KeepsTypes old new) (q : Questions) (is : IsTable q.diagrams) (r : IsAtRest old q) where
  right-added : (e : ℕ × Option Shape) → IsRight old q.diagrams e → IsRight new q.diagrams e
  right-added (n, Some x) s = (s.0, (s.1.0, (Meets-added old new q.diagrams keeps is r.defined n s.0 x).0 s.1.1))
  right-added (n, None) s = (s.0, λ x h. s.1 x (h.0, (Meets-added old new q.diagrams keeps is r.defined n s.0 x).1 h.1))

  pub rest-added : IsAtRest new q
  rest-added = record {
    defined = λ k m at not_mark. keeps.defined (Atom m.on) (r.defined k m at not_mark);
    closed = record { apart = r.closed.apart; right = All-weaker (IsRight old q.diagrams) (IsRight new q.diagrams) right-added q.table r.closed.right };
    pending = r.pending;
    judged = r.judged;
  }
