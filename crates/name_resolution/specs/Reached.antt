-- What a definition reaches by the names in descriptors.
use Rattle.std.specs.Prelude.{◌≡◌, ◌⊎◌, ◌↔◌, ℕ, Bool, List, [], map, Option, None, get_or, true}
use Rattle.std.specs.List.{flat_map}
use Rattle.std.specs.Option.{is_some}
use Rattle.name_resolution.specs.declared.mentions.Mention.{Mention}
use Rattle.name_resolution.specs.declared.mentions.Mention.TheVariants.{Use, Again, Own}
use Rattle.name_resolution.specs.declared.outlines.Outline.{Outline}
use Rattle.graphs.specs.Cycles.{IsWay}
use Rattle.name_resolution.specs.Resolved.{if_stands, resolved}

module _ (outlines : List Outline) where
  -- the definition for which a name in a descriptor stands, whether it stands inside a list, a mapping and so on or outside
  abbrev pub used_by : ℕ → Mention → List ℕ
  used_by from (Use home name at inside) = if_stands (resolved outlines from home name)
  used_by from (Again at) = []
  used_by from (Own at) = []

  -- those of all its descriptors
  abbrev pub uses_of : Outline → List ℕ
  uses_of d = flat_map (used_by d.«module») d.mentions

  -- the same of all definitions, by number
  abbrev pub uses : List (List ℕ)
  uses = map uses_of outlines

  -- a definition reaches what it uses, and what that reaches
  abbrev pub Reaches : ℕ → ℕ → Type 0
  Reaches i j = (between : List ℕ) × IsWay uses i between j

  -- a definition is chosen, and all that it reaches, and no others
  abbrev pub AreReached : ℕ → (ℕ → Bool) → Type 0
  AreReached m chosen = (k : ℕ) → (chosen k ≡ true) ↔ ((k ≡ m) ⊎ Reaches m k)

-- the number has a distance
abbrev pub is_reached : List (Option ℕ) → ℕ → Bool
is_reached away k = is_some (get_or away k None)
