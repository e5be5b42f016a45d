-- Keys in order.
use Rattle.std.specs.Prelude.{◌≡◌, ◌⊎◌, ◌+◌, ◌<◌, ℕ, List, length, get_or, All, Any, Contains}
use Rattle.std.specs.declared.cmp.Ordering.TheVariants.{Less}
use Rattle.std.specs.Ordering.{nat_cmp}
use Rattle.std.specs.Cmp.Lexicographic.{slice_cmp}
use Rattle.bal_base.specs.declared.text.Text.{Text}
use Rattle.bal_base.specs.Valid.{IsText}
use Rattle.type_model.specs.declared.atoms.AtomDef.{AtomDef}
use Rattle.type_diagrams.specs.Atoms.{parts_of, mapping_parts}
use Rattle.std.specs.Prelude.{IsSomeAnd}

-- each is below the next
abbrev pub Rise : List Text → Type 0
Rise keys = (k : ℕ) (d : Text) → k + 1 < length keys → slice_cmp nat_cmp (get_or keys k d) (get_or keys (k + 1) d) ≡ Less

pub record AreInOrder (keys : List Text) : Type 0 where
  pub texts : All IsText keys
  pub rise : Rise keys

-- keys with some more
pub record HasAdded (IsMore : Text → Type 0) (old new : List Text) : Type 0 where
  pub among : All (λ key. Contains old key ⊎ IsMore key) new
  pub kept : All (Contains new) old
  pub added : (key : Text) → IsMore key → Contains new key

-- a text above all of these
pub record IsBehind (keys : List Text) (key : Text) : Type 0 where
  pub text : IsText key
  pub above : All (λ k. slice_cmp nat_cmp k key ≡ Less) keys

module _ (env : List AtomDef) where
  -- the mapping atom has a field of this name
  abbrev pub Names : ℕ → Text → Type 0
  Names a key = IsSomeAnd (parts_of mapping_parts env a) (λ d. Any (λ f. f.name ≡ key) d.0)

  -- keys in order, and among them all that these mapping atoms name
  pub record HasNamedKeys (atoms : List ℕ) (keys : List Text) : Type 0 where
    pub ordered : AreInOrder keys
    pub all : (a : ℕ) (key : Text) → Contains atoms a → Names a key → Contains keys key
