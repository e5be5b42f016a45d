-- How the parts of a question go on to the whole.
use Rattle.std.proofs.Common.{◌≡◌, ℕ, ◌+◌, List, Result, Ok, Err, refl, subst, sym}
use Rattle.bal_base.specs.declared.fault.Fault.{Fault}
use Rattle.bal_base.specs.declared.stop.Stop.{Stop}
use Rattle.bal_base.specs.declared.stop.Stop.TheVariants.{Memory, Fault as OwnFault}
use Rattle.bal_tree.specs.declared.types.TypeTree.{TypeTree}
use Rattle.checks.specs.Checks.{Comes, ◌▷◌}
use Rattle.checks.proofs.Steps.{goes_on, stops}
use Rattle.descriptors.specs.Described.{Atoms}
use Rattle.descriptors.specs.declared.names.Names.{Names}
use Rattle.type_model.specs.declared.answers.Answer.{Answer}
use Rattle.type_model.specs.declared.answers.TypeLimit.{TypeLimit}
use Rattle.type_model.specs.declared.atoms.AtomDef.{AtomDef}
use Rattle.type_model.specs.declared.basic.Ty.{Ty}
use Rattle.type_model.specs.Calls.{Asked}
use Rattle.type_questions.specs.Asked.{answered, asked, meant}
use Rattle.type_questions.specs.Reading.{IsOfWord}
use Rattle.type_questions.specs.Words.{type_of_word}

-- a word that was read
pub word-comes : {S : Type 0} (file : ℕ) (text : List ℕ) (state : S) (r : Result TypeTree (Stop Fault)) → IsOfWord file text r → Comes (type_of_word file text) state r state
unfolding Comes type_of_word
word-comes file text state (Ok tree) h = (h, refl)
word-comes file text state (Err (OwnFault f)) h = (h, refl)
word-comes file text state (Err Memory) h = tt

-- the words, one after the other, and then the question
module _ (passes : List AtomDef → Asked → TypeLimit → Type 0) (names : Names) (m first : ℕ) (s t : List ℕ) (old mid : Atoms) where
  pub left-stops : (r : Result Ty (Stop Fault)) (q : Result Answer (Stop Fault)) (stop : Stop Fault) → r ≡ Err stop → q ≡ Err stop → Comes (meant names m first s) old r mid → Comes (asked passes names m first s t) old q mid
  left-stops r q stop e k h =
      subst (λ q. Comes (asked passes names m first s t) old q mid) (sym k)
      (stops (meant names m first s) (λ left. meant names m (first + 1) t ▷ λ right. answered passes left.sem right.sem) old mid stop (subst (λ r. Comes (meant names m first s) old r mid) e h))

  module _ (left : Ty) (r : Result Ty (Stop Fault)) (is : r ≡ Ok left) (came : Comes (meant names m first s) old r mid) (mid2 : Atoms) where
    then-asked : (q : Result Answer (Stop Fault)) (new : Atoms) → Comes (meant names m (first + 1) t ▷ λ right. answered passes left.sem right.sem) mid q new → Comes (asked passes names m first s t) old q new
    then-asked q new h =
        goes_on (meant names m first s) (λ a. meant names m (first + 1) t ▷ λ right. answered passes a.sem right.sem) old mid new left q (subst (λ r. Comes (meant names m first s) old r mid) is came) h

    pub right-stops : (p : Result Ty (Stop Fault)) (q : Result Answer (Stop Fault)) (stop : Stop Fault) → p ≡ Err stop → q ≡ Err stop → Comes (meant names m (first + 1) t) mid p mid2 → Comes (asked passes names m first s t) old q mid2
    right-stops p q stop e k h =
        then-asked q mid2 (subst (λ q. Comes (meant names m (first + 1) t ▷ λ right. answered passes left.sem right.sem) mid q mid2) (sym k)
        (stops (meant names m (first + 1) t) (λ right. answered passes left.sem right.sem) mid mid2 stop (subst (λ p. Comes (meant names m (first + 1) t) mid p mid2) e h)))

    pub both-asked : (p : Result Ty (Stop Fault)) (right : Ty) (q : Result Answer (Stop Fault)) (new : Atoms) → p ≡ Ok right → Comes (meant names m (first + 1) t) mid p mid2 → Comes (answered passes left.sem right.sem) mid2 q new → Comes (asked passes names m first s t) old q new
    both-asked p right q new e h k =
        then-asked q new (goes_on (meant names m (first + 1) t) (λ b. answered passes left.sem b.sem) mid mid2 new right q (subst (λ p. Comes (meant names m (first + 1) t) mid p mid2) e h) k)
