-- Which members a key of a type names, in two runs.
use Rattle.std.proofs.Common.{◌≡◌, ℕ, List, inl, inr, refl, sym, ap, ◌∙◌, pos}
use Rattle.bal_base.specs.declared.place.Place.{Place}
use Rattle.bal_base.specs.declared.shape.Shape.{Int, Shape, Str}
use Rattle.bal_base.specs.declared.text.Text.{Text}
use Rattle.checks.specs.Agreement.{Alike, AreTwins, BothKeep, IsLimit}
use Rattle.checks.specs.Checks.{Gives, Refuses}
use Rattle.bal_base.specs.declared.fault.Fault.{Fault}
use Rattle.type_model.specs.declared.answers.Keys.{Keys}
use Rattle.type_model.specs.declared.answers.Keys.TheVariants.{Field, Index}
use Rattle.type_model.specs.declared.answers.TypeLimit.{TypeLimit}
use Rattle.type_model.specs.declared.atoms.AtomDef.{AtomDef}
use Rattle.type_model.specs.declared.basic.SemType.{SemType}
use Rattle.type_model.specs.Calls.{Asked}
use Rattle.check_words.specs.declared.access.Access.{Access}
use Rattle.check_words.specs.declared.access.Access.TheVariants.{Char, Item, Key}
use Rattle.check_words.specs.Members.{IsOnly, NamesBeyond, NamesFields, NamesItems, NamesMembers, names_members}
use Rattle.check_words.specs.Words.{Atoms}
use Rattle.check_answers.proofs.Questions.{Equal}

module _ (m n : Atoms) (s u : SemType) (h : AreTwins m s n u) where
  only-twins : (x : Shape) → IsOnly m s x → IsOnly n u x
  only-twins x (valid, single) = (valid, λ y v. (λ i. (single y v).0 ((h y v).1 i), λ e. (h y v).0 ((single y v).1 e)))

  only-back : (x : Shape) → IsOnly n u x → IsOnly m s x
  only-back x (valid, single) = (valid, λ y v. (λ i. (single y v).0 ((h y v).0 i), λ e. (h y v).1 ((single y v).1 e)))

  -- a type has one shape alone, if it has
  one-only : (x y : Shape) → IsOnly m s x → IsOnly n u y → y ≡ x
  one-only x y p q = (p.1 y q.0).0 (((only-back y q).1 y q.0).1 refl)

  same-number : (a b : ℕ) → Int (pos b) ≡ Int (pos a) → b ≡ a
  same-number a b e = cc

  same-text : (a b : Text) → Str b ≡ Str a → b ≡ a
  same-text a b e = cc

  items-same : (j k : Keys) → NamesItems m s j → NamesItems n u k → Equal j k
  items-same j k (inl (a, p, x)) (inl (b, q, y)) = y ∙ ap Index (same-number a b (one-only (Int (pos a)) (Int (pos b)) p q)) ∙ sym x
  items-same j k (inl (a, p, x)) (inr (none, y)) = absurd (none a (only-twins (Int (pos a)) p))
  items-same j k (inr (none, x)) (inl (b, q, y)) = absurd (none b (only-back (Int (pos b)) q))
  items-same j k (inr (none, x)) (inr (others, y)) = y ∙ sym x

  fields-same : (j k : Keys) → NamesFields m s j → NamesFields n u k → Equal j k
  fields-same j k (inl (a, p, x)) (inl (b, q, y)) = y ∙ ap Field (same-text a b (one-only (Str a) (Str b) p q)) ∙ sym x
  fields-same j k (inl (a, p, x)) (inr (none, y)) = absurd (none a (only-twins (Str a) p))
  fields-same j k (inr (none, x)) (inl (b, q, y)) = absurd (none b (only-back (Str b) q))
  fields-same j k (inr (none, x)) (inr (others, y)) = y ∙ sym x

  members-same : (a : Access) (j k : Keys) → NamesMembers a m s j → NamesMembers a n u k → Equal j k
  members-same Char j k x y = items-same j k x y
  members-same Item j k x y = items-same j k x y
  members-same Key j k x y = fields-same j k x y

  module _ (passes : List AtomDef → Asked → TypeLimit → Type 0) where
    beyond-limit : (t : SemType) (at : Place) (env : Atoms) (f : Fault) → NamesBeyond passes t at env f → IsLimit f
    beyond-limit t at env f (inl x) = inl x.2.has_code
    beyond-limit t at env f (inr x) = inl x.2.2.has_code

    pub names-alike : (a : Access) (at : Place) → Alike (BothKeep m n Equal) m n (names_members passes a s at) (names_members passes a u at)
    unfolding names_members
    names-alike a at (Gives j) (Gives k) m2 n2 x y = (members-same a j k x.0 y.0, x.1, y.1)
    names-alike a at (Gives j) (Refuses g) m2 n2 x y = beyond-limit u at n g y.0
    names-alike a at (Refuses f) (Gives k) m2 n2 x y = beyond-limit s at m f x.0
    names-alike a at (Refuses f) (Refuses g) m2 n2 x y = inl (beyond-limit s at m f x.0)
