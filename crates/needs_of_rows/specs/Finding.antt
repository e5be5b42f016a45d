-- What stands in the questions that were found, and what it means that some were found behind others.
use Rattle.std.specs.Prelude.{◌≡◌, Some, None, false, if◌then◌else◌}
use Rattle.std.specs.List.{flat_map}
use Rattle.code_needs.specs.Combining.{Needs, ◌&◌}
use Rattle.need_questions.specs.NeedsAsked.{needs_of}
use Rattle.needs_of_rows.specs.declared.found.Found.{Found}

-- the needs of all questions, in order; nothing, where a test of numbers failed
abbrev pub needs_in : Found → Needs
needs_in found = if found.refused then None else Some (flat_map needs_of found.questions.items)

-- where there was memory for all, there are so many more needs than before
pub record Finds (needs : Needs) (old new : Found) : Type 0 where
  pub more : new.full ≡ false → (old.full ≡ false) × (needs_in new ≡ needs_in old & needs)
