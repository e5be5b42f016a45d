-- What a trace means, with one more event.
use Rattle.std.proofs.Common.{◌≡◌, List, [], ◌∷◌, ◌++◌, refl}
use Rattle.std.proofs.lemmas.List.{length-map}
use Rattle.std.proofs.lemmas.Option.{slice_get-map}
use Rattle.map_traces.specs.declared.trace.Event.{Event}
use Rattle.map_traces.specs.Events.{all_traced, traced}
use Rattle.map_traces.specs.Tracing.{Tracing}

pub all-traced-more : (es : List Event) (e : Event) (s : Tracing) → all_traced (es ++ e ∷ []) s ≡ traced e (all_traced es s)
all-traced-more [] e s = refl
all-traced-more (x ∷ es) e s = all-traced-more es e (traced x s)

pub ruleset tracing = (all-traced-more, slice_get-map, length-map)
