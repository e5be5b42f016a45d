-- Maps over operands that stay below.
use Rattle.std.specs.Prelude.{◌≡◌, ◌++◌, List, [], ◌∷◌, ⊤}
use Rattle.tree_promises.specs.Types.{Stack}
use Rattle.map_model.specs.Maps.{Marks}

-- each begins with these operands
abbrev pub EachBegins : Stack → List Stack → Type 0
EachBegins p [] = ⊤
EachBegins p (s ∷ ss) = ((more : Stack) × (s ≡ p ++ more)) × EachBegins p ss

-- what is added to the maps so far are maps that begin so
abbrev pub Keeps : Stack → Marks → Type 0
Keeps p F = (m : List Stack) → (news : List Stack) × (F m ≡ m ++ news) × EachBegins p news
