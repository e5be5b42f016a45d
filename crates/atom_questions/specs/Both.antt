-- What the answer of a question says of two needs, one after the other.
use Rattle.std.specs.Prelude.{◌⊎◌, List}
use Rattle.type_model.specs.declared.answers.Answer.{Answer}
use Rattle.type_model.specs.declared.answers.Answer.TheVariants.{Yes, No}
use Rattle.type_model.specs.declared.atoms.AtomDef.{AtomDef}
use Rattle.code_needs.specs.Needs.{IsMet, Need}
use Rattle.code_verifier.specs.Asked.{IsAgainst}

-- both are met; or the first isn't, as the shape shows, or only the second
abbrev pub AnswersBoth : List AtomDef → Need → Need → Answer → Type 0
AnswersBoth env first second Yes = IsMet env first × IsMet env second
AnswersBoth env first second (No x) =
    (IsAgainst env first x × (¬ (IsMet env first))) ⊎ (IsMet env first × IsAgainst env second x × (¬ (IsMet env second)))
