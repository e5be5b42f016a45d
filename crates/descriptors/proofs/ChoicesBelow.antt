-- Choices that are put together of others name the same atoms.
use Rattle.std.proofs.Common.{ℕ, ◌<◌, ◌++◌, List, [], ◌∷◌, Bool, true, false, if◌then◌else◌}
use Rattle.std.proofs.lemmas.List.Elements.{All-cons, All-head, All-nil, All-push, All-tail}
use Rattle.type_model.specs.declared.basic.Choice.{Choice}
use Rattle.type_model.specs.Defined.{ChoicesBelow}
use Rattle.descriptors.specs.Described.{choices_with, immutable_choice, is_chosen, made_immutable, with_choice, with_choices}

module _ (n : ℕ) where
  one_of : (b : Bool) (cs ds : List Choice) → ChoicesBelow n cs → ChoicesBelow n ds → ChoicesBelow n (if b then cs else ds)
  one_of true cs ds h k = h
  one_of false cs ds h k = k

  pub with_choices-below : (cs ds : List Choice) → ChoicesBelow n cs → ChoicesBelow n ds → ChoicesBelow n (with_choices cs ds)
  with_choices-below cs [] h k = h
  with_choices-below cs (d ∷ ds) h k =
      let now : ChoicesBelow n (with_choice cs d) =
      one_of (is_chosen cs d) cs (cs ++ d ∷ []) h (All-push (λ c. c.atom < n) cs d h (All-head (λ c. c.atom < n) d ds k)) in
      with_choices-below (with_choice cs d) ds now (All-tail (λ c. c.atom < n) d ds k)

  immutable-below : (cs : List Choice) → ChoicesBelow n cs → ChoicesBelow n (made_immutable cs)
  immutable-below [] h = h
  immutable-below (c ∷ cs) h =
      All-cons (λ d. d.atom < n) (immutable_choice c) (made_immutable cs) (All-head (λ d. d.atom < n) c cs h) (immutable-below cs (All-tail (λ d. d.atom < n) c cs h))

  pub choices_with-below : (b : Bool) (cs : List Choice) → ChoicesBelow n cs → ChoicesBelow n (choices_with b cs)
  choices_with-below true cs h = immutable-below cs h
  choices_with-below false cs h = All-nil (λ c. c.atom < n)
