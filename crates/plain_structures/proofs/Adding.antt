-- Keys and values that are added in turn.
use Rattle.std.proofs.Common.{◌≡◌, Bool, true, false, List, ◌∷◌, Option, Some, None, subst, ap}
use Rattle.std.specs.Prelude.{option_map}
use Rattle.bal_base.specs.declared.text.Text.{Text}
use Rattle.value_model.specs.declared.value.Value.{Value}
use Rattle.value_model.specs.declared.value.Value.TheVariants.{Str}
use Rattle.op_model.specs.Operands.{pairs_of}
use Rattle.op_model.specs.Stores.{entries_from, set_entry}
use Rattle.plain_structures.specs.Entries.{AreAdded}

-- one pair more, in front of the others
pub added-more : (old mid new : List (Text × Value)) (key : Text) (v : Value) (vs : List Value) (all : Bool) → mid ≡ set_entry old key v → AreAdded mid vs all new → AreAdded old (Str key ∷ v ∷ vs) all new
added-more old mid new key v vs all e h = by all (subst (λ es. AreAdded es vs all new) e h)
  where
    through : (o : Option (List (Text × Value))) → option_map (λ ps. entries_from (set_entry old key v) ps) o ≡ Some new → option_map (λ ps. entries_from old ps) (option_map (λ ps. (key, v) ∷ ps) o) ≡ Some new
    through (Some ps) h = h
    through None h = h

    by : (b : Bool) → AreAdded (set_entry old key v) vs b new → AreAdded old (Str key ∷ v ∷ vs) b new
    by true h = through (pairs_of vs) h
    by false h = ap (option_map (λ ps. (key, v) ∷ ps)) h

pub ruleset adding = (added-more)
