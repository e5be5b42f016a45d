-- What is said of all that is listed is said of all that is listed of each part.
use Rattle.std.proofs.Common.{All, []}
use Rattle.std.proofs.lemmas.List.Elements.{All-head}
use Rattle.check_words.proofs.Standing.{back-have, front-have}
use Rattle.typed_tree.specs.Listed.{Listed, members, one, ◌&◌}

module _ {A : Type 0} (P : A → Type 0) where
  abbrev pub Each : Listed A → Type 0
  Each listed = All P (members listed)

  pub only-one : (a : A) → Each (one a) → P a
  only-one a h = All-head P a [] h

  pub first-of : (p q : Listed A) → Each (p & q) → Each p
  first-of p q h = front-have P (members p) (members q) h

  pub second-of : (p q : Listed A) → Each (p & q) → Each q
  second-of p q h = back-have P (members p) (members q) h
