-- Ranks that are long enough, rise and fall, and pairs that are those of the messages, are a plan.
use Rattle.std.proofs.Common.{◌≡◌, ◌∙◌, ◌↔◌, ℕ, Bool, false, IsTrue, List, length, sym, subst}
use Rattle.std.proofs.lemmas.Bool.{false≢true}
use Rattle.typed_tree.specs.declared.event.Pair.{Pair}
use Rattle.typed_tree.specs.declared.event.Plan.{Plan}
use Rattle.worker_pairing.specs.Events.{IsNumbering}
use Rattle.worker_pairing.specs.Faults.{IsPlan, crew_of, pairs_of, rank_in}
use Rattle.worker_pairing.specs.Marks.{Members, in_text}
use Rattle.worker_plans.specs.Sends.{IsNumbered}
use Rattle.plan_checks.specs.Needing.{Rises}
use Rattle.plan_checks.proofs.Falling.{numbering-rises}

module _ (ms : Members) (ranks : List ℕ) where
  pub not-long : (n : ℕ) (b : Bool) → n ≡ length ranks → IsTrue b ↔ n ≡ length (in_text ms) → b ≡ false → IsTrue false ↔ IsNumbered ms ranks
  not-long n b long both off = (λ h. absurd (false≢true h), λ is. absurd (false≢true (sym off ∙ both.1 (long ∙ is.0))))

  pub not-rising : (b : Bool) → IsTrue b ↔ ((w : ℕ) → Rises ms ranks w) → b ≡ false → IsTrue false ↔ IsNumbered ms ranks
  not-rising b both off = (λ h. absurd (false≢true h), λ is. absurd (false≢true (sym off ∙ both.1 (numbering-rises ms ranks is.1))))

  pub numbered-if : (b : Bool) → length ranks ≡ length (in_text ms) → IsTrue b ↔ IsNumbering (crew_of ms) (rank_in ms ranks) → IsTrue b ↔ IsNumbered ms ranks
  numbered-if b long both = (λ h. (long, both.0 h), λ is. both.1 is.1)

module _ (ms : Members) (p : Plan) (ranks : List ℕ) (these : ranks ≡ p.ranks) where
  numbered-of : IsPlan ms p → IsNumbered ms ranks
  numbered-of is = subst (IsNumbered ms) (sym these) (is.long, is.numbering)

  pub not-numbered : (b : Bool) → IsTrue b ↔ IsNumbered ms ranks → b ≡ false → IsTrue false ↔ IsPlan ms p
  not-numbered b both off = (λ h. absurd (false≢true h), λ is. absurd (false≢true (sym off ∙ both.1 (numbered-of is))))

  pub plan-if : (pairs : List Pair) (b : Bool) → pairs ≡ p.pairs → IsNumbered ms ranks → IsTrue b ↔ pairs ≡ pairs_of ms → IsTrue b ↔ IsPlan ms p
  plan-if pairs b those numbered both = (
    λ h. let so = subst (IsNumbered ms) these numbered in record { pairs = sym those ∙ both.0 h; long = so.0; numbering = so.1 },
    λ is. both.1 (those ∙ is.pairs),
  )
