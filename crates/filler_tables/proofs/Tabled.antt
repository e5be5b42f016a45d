-- The table that marks choose.
use Rattle.std.proofs.Common.{◌≡◌, Bool, List, [], map, sym, subst}
use Rattle.std.proofs.Math.ListN.{get_or-map}
use Rattle.type_model.specs.declared.atoms.AtomDef.{AtomDef}
use Rattle.value_model.specs.declared.filler.Filler.{Filler}
use Rattle.value_model.specs.Exact.{FillsExactly}
use Rattle.list_fillers.specs.declared.candidate.Candidate.{Candidate}
use Rattle.list_fillers.specs.Candidates.{KnowsCandidates}
use Rattle.list_fillers.specs.Marks.{AreSound, IsRound, chosen}
use Rattle.list_fillers.proofs.Rounds.{still-marks-are-exact}
use Rattle.filler_tables.specs.Tables.{IsFillerTable}

pub tabled : (atoms : List AtomDef) (rows : List (List Candidate)) (marks : List Bool) → KnowsCandidates atoms rows → AreSound atoms rows marks → IsRound atoms rows marks marks
    → (table : List (List Filler)) → table ≡ map (map (chosen marks)) rows → IsFillerTable atoms table
tabled atoms rows marks known sound still table e = subst (IsFillerTable atoms) (sym e) each
  where
    each : IsFillerTable atoms (map (map (chosen marks)) rows)
    each a lt = subst (FillsExactly atoms a) (sym (get_or-map (map (chosen marks)) rows a [])) (still-marks-are-exact atoms rows marks known sound still a lt)
