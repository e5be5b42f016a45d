-- The questions to which a question leads, and when these pass the limits.
use Rattle.std.specs.Prelude.{◌≡◌, ◌<◌, List, length, All, AllPairs}
use Rattle.type_model.specs.Calls.{Asked}
use Rattle.type_model.specs.declared.atoms.AtomDef.{AtomDef}
use Rattle.type_model.specs.declared.answers.TypeLimit.{TypeLimit}
use Rattle.type_model.specs.declared.answers.TypeLimit.TheVariants.{Questions, Arrows}
use Rattle.type_diagrams.specs.declared.kind.Kind.{Kind}
use Rattle.type_diagrams.specs.declared.kind.Kind.TheVariants.{Function as Functions}
use Rattle.type_diagrams.specs.declared.path.Path.{Path}
use Rattle.type_diagrams.specs.Members.{atoms_in}
use Rattle.type_diagrams.specs.Conditions.{Condition, AreOne}
use Rattle.type_diagrams.specs.Questions.{IsPathOf}
use Rattle.type_diagrams.specs.Reach.{IsFirst, Reached, most_questions, most_arrows}
use Rattle.empty_arrow.specs.Pairs.{AsksArguments}

-- a path of functions wants more arrows than a path may
abbrev pub WantsTooMany : Kind → Path → Type 0
WantsTooMany k p = (k ≡ Functions) × (most_arrows < length (atoms_in p.pos))

module _ (env : List AtomDef) where
  -- a question leads to itself, and to the member questions of all paths of those to which it leads
  abbrev pub LeadsTo : Condition → Condition → Type 0
  LeadsTo c = Reached env (λ d. AreOne d c)

  -- A question passes a limit where it leads to more questions than it may, no two of which count as one, or
  -- to a question with a path that wants more arrows than it may.
  abbrev pub LeadsPast : Condition → TypeLimit → Type 0
  LeadsPast c Questions =
      (questions : List Condition)
      × (most_questions < length questions)
      × AllPairs (λ d e. ¬ AreOne d e) questions
      × All (LeadsTo c) questions
  LeadsPast c Arrows = (d : Condition) × (p : Path) × LeadsTo c d × IsPathOf d Functions p × (most_arrows < length (atoms_in p.pos))

  -- a call leads to a question with the path, and to those for arguments that some of its wanted arrows don't take
  pub record LeadsToPath (asked : Asked) (args : Condition) (p : Path) : Type 0 where
    pub question : Condition
    pub reached : Reached env (IsFirst env asked) question
    pub path : IsPathOf question Functions p
    pub arguments : (d : Condition) → AsksArguments env args (atoms_in p.pos) d → Reached env (IsFirst env asked) d
