-- Where trees begin.
use Rattle.std.specs.Prelude.{◌≡◌}
use Rattle.bal_base.specs.declared.place.Place.{Place}
use Rattle.bal_tree.specs.Pieces.{Pieces, nothing, token, starts, ◌&◌}

-- the pieces begin with this place, which is that of their first token
abbrev pub BeginsAt : Pieces → Place → Type 0
BeginsAt nothing place = ⊥
BeginsAt (token kind) place = ⊥
BeginsAt (starts at) place = at ≡ place
BeginsAt (p & q) place = BeginsAt p place
