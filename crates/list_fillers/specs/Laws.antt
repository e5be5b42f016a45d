-- The laws of marks.
use Rattle.std.specs.Prelude.{Bool, List}
use Rattle.type_model.specs.declared.atoms.AtomDef.{AtomDef}
use Rattle.list_fillers.specs.declared.candidate.Candidate.{Candidate}
use Rattle.list_fillers.specs.Candidates.{KnowsAllFillers, KnowsCandidates}
use Rattle.list_fillers.specs.Marks.{AreSound, IsRound, chosen_by}

abbrev pub MarksStaySound : Type 0
MarksStaySound =
    (atoms : List AtomDef) (rows : List (List Candidate)) (old new : List Bool) → KnowsCandidates atoms rows → AreSound atoms rows old → IsRound atoms rows old new →
    AreSound atoms rows new

abbrev pub StillMarksAreExact : Type 0
StillMarksAreExact =
    (atoms : List AtomDef) (rows : List (List Candidate)) (marks : List Bool) → KnowsCandidates atoms rows → AreSound atoms rows marks → IsRound atoms rows marks marks →
    KnowsAllFillers atoms (chosen_by marks rows)
