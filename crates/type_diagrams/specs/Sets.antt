-- Sets of simple shapes, each kept in one way only.
use Rattle.std.specs.Prelude.{◌≡◌, ℤ, negsuc, List, [], ◌∷◌, Bool, not, if◌then◌else◌, ◌&&◌, ⊤, true, false}
use Rattle.std.specs.declared.cmp.Ordering.{Ordering}
use Rattle.std.specs.declared.cmp.Ordering.TheVariants.{Less}
use Rattle.std.specs.Ordering.{int_cmp, nat_cmp, is_le, is_eq}
use Rattle.std.specs.Cmp.Lexicographic.{slice_cmp}
use Rattle.bal_base.specs.declared.text.Text.{Text}
use Rattle.bal_base.specs.declared.shape.Shape.{Shape}
use Rattle.bal_base.specs.Valid.{IsInt, IsText, IsValid}
use Rattle.type_diagrams.specs.declared.simple.SimpleSet.{SimpleSet}
use Rattle.type_diagrams.specs.Simple.{by_simple}

module _ {X : Type 0} (covers : X → X → Bool) where
  -- the answer for x: the given one, turned over by each of the places that covers x
  abbrev pub answer_for : Bool → List X → X → Bool
  answer_for answer [] x = answer
  answer_for answer (p ∷ ps) x = answer_for (if covers p x then not answer else answer) ps x

-- what holds of each of a list
abbrev pub Each : {X : Type 0} → (X → Type 0) → List X → Type 0
Each P [] = ⊤
Each P (x ∷ xs) = P x × Each P xs

-- A place covers itself and, where it lasts, all that come after it.
abbrev pub covers : {X : Type 0} → Bool → (X → X → Ordering) → X → X → Bool
covers lasting cmp p x = if lasting then is_le (cmp p x) else is_eq (cmp p x)

-- a set of simple shapes
pub record Simples : Type 0 where
  pub nil : Bool
  -- whether it has false, and whether it has true
  pub no : Bool
  pub yes : Bool
  -- whether it has the least int, and the ints from which on this is the other way round
  pub first : Bool
  pub flips : List ℤ
  -- whether it has all strings but these few, or these alone
  pub rest : Bool
  pub texts : List Text

-- a flip turns the answer over for itself and for all greater ints, a text for itself alone
abbrev pub has_int : Simples → ℤ → Bool
has_int s i = answer_for (covers true int_cmp) s.first s.flips i

abbrev pub has_text : Simples → Text → Bool
has_text s t = answer_for (covers false (slice_cmp nat_cmp)) s.rest s.texts t

-- whether the set has the shape
abbrev pub has_shape : Simples → Shape → Bool
has_shape s x = by_simple s.nil (λ b. if b then s.yes else s.no) (has_int s) (has_text s) x

-- ---- in one way only

module _ {X : Type 0} (cmp : X → X → Ordering) where
  -- x is below all of these
  abbrev pub IsBelowAll : X → List X → Type 0
  IsBelowAll x [] = ⊤
  IsBelowAll x (y ∷ ys) = (cmp x y ≡ Less) × IsBelowAll x ys

  -- each is below all later ones
  abbrev pub Rises : List X → Type 0
  Rises [] = ⊤
  Rises (x ∷ xs) = IsBelowAll x xs × Rises xs

abbrev pub least_int : ℤ
least_int = negsuc 9223372036854775807

-- the flips are ints above the least one and the texts are texts, and both rise
pub record IsCanonical (s : Simples) : Type 0 where
  pub ints : Each IsInt s.flips
  pub above : IsBelowAll int_cmp least_int s.flips
  pub flips_rise : Rises int_cmp s.flips
  pub strings : Each IsText s.texts
  pub texts_rise : Rises (slice_cmp nat_cmp) s.texts

-- the set that a value of the program is
abbrev pub set_of : SimpleSet → Simples
set_of s = record {
  nil = s.nil;
  no = s.no;
  yes = s.yes;
  first = s.first;
  flips = s.flips.items;
  rest = s.rest;
  texts = s.texts.items;
}

-- the set of all simple shapes, or of none
abbrev pub all_or_none : Bool → Simples
all_or_none has = record { nil = has; no = has; yes = has; first = has; flips = []; rest = has; texts = [] }

-- a set with these shapes, kept in the one way
pub record IsSetOf (has : Shape → Bool) (s : SimpleSet) : Type 0 where
  pub canonical : IsCanonical (set_of s)
  pub same : (x : Shape) → IsValid x → has_shape (set_of s) x ≡ has x

-- the first answer and the flips of the ints from low to high
pub record IsRange (low high : ℤ) (first : Bool) (flips : List ℤ) : Type 0 where
  pub ints : Each IsInt flips
  pub above : IsBelowAll int_cmp least_int flips
  pub rises : Rises int_cmp flips
  pub same : (i : ℤ) → IsInt i → answer_for (covers true int_cmp) first flips i ≡ (is_le (int_cmp low i) && is_le (int_cmp i high))
