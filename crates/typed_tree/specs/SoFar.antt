-- What has been seen so far, as the definition of skeletons speaks of it.
use Rattle.typed_tree.specs.declared.seeing.progress.Seen.{Seen}
use Rattle.typed_tree.specs.Skeleton.{Progress}

abbrev pub progress : Seen → Progress
progress s = record { seen = s.events.items; next = s.number; early = s.early }
