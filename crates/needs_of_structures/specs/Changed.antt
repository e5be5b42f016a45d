-- Constructors that are open: the last one changes.
use Rattle.std.specs.Prelude.{◌≡◌, ◌++◌, List, [], ◌∷◌}
use Rattle.check_words.specs.State.{ConstructorAtWork}

-- the last constructor has changed so
pub record IsChanged (change : ConstructorAtWork → ConstructorAtWork) (old new : List ConstructorAtWork) : Type 0 where
  pub kept : List ConstructorAtWork
  pub c : ConstructorAtWork
  pub is : old ≡ kept ++ c ∷ []
  pub after : new ≡ kept ++ change c ∷ []
