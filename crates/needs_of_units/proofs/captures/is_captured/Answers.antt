use Rattle.std.proofs.Common.{◌∙◌, sym}
use Rattle.tree_places.proofs.Gathering.{list_any-map}
use Rattle.type_model.specs.Places.{is_same_text}
use Rattle.needs_of_units.specs.Captures.{capture_of}
use Rattle.needs_of_units.proofs.captures.is_captured.Goals as goal

pub returns : goal.returns
returns c = c.any_named.ensures ∙ sym (list_any-map (λ x. is_same_text x.0.name c.args.name.now) capture_of c.args.captures.now)
