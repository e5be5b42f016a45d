-- The question whether one type is below another, where both are words that are read as descriptors in the scope of a module.
use Rattle.std.specs.Prelude.{◌≡◌, ◌+◌, ℕ, List, None}
use Rattle.checks.specs.Checks.{Check, Gives, Refuses, ◌▷◌}
use Rattle.checks.specs.Questions.{IsTooLarge}
use Rattle.descriptors.specs.Described.{Atoms, described_whole}
use Rattle.descriptors.specs.Descriptors.{descriptor_of}
use Rattle.descriptors.specs.Steps.{scope_of}
use Rattle.descriptors.specs.declared.names.Names.{Names}
use Rattle.type_model.specs.declared.answers.Answer.{Answer}
use Rattle.type_model.specs.declared.answers.TypeLimit.{TypeLimit}
use Rattle.type_model.specs.declared.atoms.AtomDef.{AtomDef}
use Rattle.type_model.specs.declared.basic.SemType.{SemType}
use Rattle.type_model.specs.declared.basic.Ty.{Ty}
use Rattle.type_model.specs.Calls.{Asked, Without}
use Rattle.type_model.specs.Inclusion.{AnswersSub}
use Rattle.type_questions.specs.Words.{type_of_word}

-- the type that the word means in the module: a prefix is that of the module's first file that has it
abbrev pub meant : Names → ℕ → ℕ → List ℕ → Check Atoms Ty
meant names m file text = type_of_word file text ▷ λ tree. described_whole names (scope_of m None) (descriptor_of tree)

-- `passes`: which questions pass a limit
module _ (passes : List AtomDef → Asked → TypeLimit → Type 0) where
  -- whether every shape of s is in t, or a shape of s that isn't: a question that is too large has no place
  unfoldable pub answered : SemType → SemType → Check Atoms Answer
  answered s t old (Gives answer) new = AnswersSub old s t answer × (new ≡ old)
  answered s t old (Refuses fault) new = IsTooLarge passes (Without s t) None old fault × (new ≡ old)

  -- The first word, then the second, and then the question. The places in the words have the two numbers from `first` on.
  abbrev pub asked : Names → ℕ → ℕ → List ℕ → List ℕ → Check Atoms Answer
  asked names m first s t =
      meant names m first s ▷ λ left. meant names m (first + 1) t ▷ λ right. answered left.sem right.sem
