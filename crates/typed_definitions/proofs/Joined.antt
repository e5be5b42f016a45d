-- What is so of all that is listed of each is so of all that is listed, and the other way round.
use Rattle.std.proofs.Common.{All, List, [], map, ◌∷◌}
use Rattle.std.proofs.lemmas.List.Elements.{All-append, All-cons, All-head, All-nil, All-tail}
use Rattle.check_words.proofs.Standing.{back-have, front-have}
use Rattle.typed_tree.specs.Listed.{Listed, joined, members}

module _ {A B : Type 0} (P : B → Type 0) (f : A → Listed B) where
  pub joined-of : (xs : List A) → All (λ x. All P (members (f x))) xs → All P (members (joined (map f xs)))
  joined-of [] h = All-nil P
  joined-of (x ∷ xs) h =
      All-append P (members (f x)) (members (joined (map f xs))) (All-head (λ y. All P (members (f y))) x xs h) (joined-of xs (All-tail (λ y. All P (members (f y))) x xs h))

  pub joined-each : (xs : List A) → All P (members (joined (map f xs))) → All (λ x. All P (members (f x))) xs
  joined-each [] h = All-nil (λ x. All P (members (f x)))
  joined-each (x ∷ xs) h =
      All-cons (λ y. All P (members (f y))) x xs (front-have P (members (f x)) (members (joined (map f xs))) h)
      (joined-each xs (back-have P (members (f x)) (members (joined (map f xs))) h))
