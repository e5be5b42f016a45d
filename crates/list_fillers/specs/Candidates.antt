-- What is known of the filler of a type before it is known which lists can be filled.
use Rattle.std.specs.Prelude.{◌≡◌, ◌<◌, ◌++◌, ℕ, List, [], Some, get_or, length, option_to_list, slice_get}
use Rattle.std.specs.List.{AllZip}
use Rattle.type_model.specs.declared.atoms.AtomDef.{AtomDef}
use Rattle.type_model.specs.declared.atoms.AtomDef.TheVariants.{List as ListAtom, Mapping as MappingAtom, Arrow, Error as ErrorAtom, Future as FutureAtom}
use Rattle.type_model.specs.declared.basic.Ty.{Ty}
use Rattle.value_model.specs.declared.filler.Filler.{Filler}
use Rattle.value_model.specs.Exact.{FillsExactly, IsFiller, IsOfAtom, IsSimpleFiller}
use Rattle.list_fillers.specs.declared.candidate.Candidate.{Candidate}
use Rattle.list_fillers.specs.declared.candidate.Candidate.TheVariants.{OfList, Settled, Without}

module _ (atoms : List AtomDef) where
  -- a type whose filler can only be a new list of the atom has no simple one
  abbrev pub IsCandidate : Ty → Candidate → Type 0
  IsCandidate t (Settled f) = IsFiller atoms t f
  IsCandidate t (OfList a) = ((f : Filler) → ¬ IsSimpleFiller atoms t.sem f) × IsOfAtom atoms t t.lists t.maps a
  IsCandidate t Without = (f : Filler) → ¬ IsFiller atoms t f

  -- of an atom of lists those of its fixed places and then of its rest, and of another atom none
  abbrev pub AreCandidates : AtomDef → List Candidate → Type 0
  AreCandidates (ListAtom fixed rest) cs = AllZip IsCandidate (fixed ++ option_to_list rest) cs
  AreCandidates (MappingAtom fields rest) cs = cs ≡ []
  AreCandidates (Arrow args outcome alone) cs = cs ≡ []
  AreCandidates (ErrorAtom detail) cs = cs ≡ []
  AreCandidates (FutureAtom outcome) cs = cs ≡ []

  -- by the numbers of the atoms
  abbrev pub KnowsCandidates : List (List Candidate) → Type 0
  KnowsCandidates rows = (a : ℕ) (d : AtomDef) → slice_get atoms a ≡ Some d → AreCandidates d (get_or rows a [])

  -- the fillers are those of all atoms
  abbrev pub KnowsAllFillers : (ℕ → List Filler) → Type 0
  KnowsAllFillers fillers = (a : ℕ) → a < length atoms → FillsExactly atoms a (fillers a)
