-- Tokens that spell one piece and then another.
use Rattle.std.proofs.Common.{◌≡◌, ℕ, List, refl}
use Rattle.bal_base.specs.declared.place.Place.{Place}
use Rattle.bal_base.specs.declared.token.Token.{Token}
use Rattle.bal_tree.specs.Pieces.{Pieces, starts, ◌&◌}
use Rattle.bal_tree.specs.Spells.{Spells, first_place}

pub spells-both : (file : ℕ) (p q : Pieces) (a b c : List Token) → Spells file p a b → Spells file q b c → Spells file (p & q) a c
spells-both file p q a b c h k = (b, h, k)

pub spells-at : (file : ℕ) (at : Place) (q : Pieces) (a c : List Token) → at ≡ first_place file a → Spells file q a c → Spells file (starts at & q) a c
spells-at file at q a c h k = (a, (h, refl), k)

pub ruleset spelling = (spells-at, spells-both)
