use Rattle.name_resolution.specs.Reached.{is_reached}
use Rattle.name_resolution.proofs.Excerpting.{excerpt_by}
use Rattle.type_builder.proofs.main_in_place.first_told.Given as goal

abbrev pub ghost-asked : goal.ghost-asked
ghost-asked g a = excerpt_by (is_reached a.excerpt.now.away.items) a.«package».now
