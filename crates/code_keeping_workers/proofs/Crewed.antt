-- Strands are made one behind another: all that is shared stays good, and each is there.
use Rattle.std.proofs.Common.{◌≡◌, ◌+◌, ℕ, zero, suc, List, [], ◌∷◌, Option, Some, None, length, refl, subst, arith}
use Rattle.std.specs.Prelude.{IsSomeAnd, slice_get}
use Rattle.op_model.specs.CallRows.{strands_made}
use Rattle.op_model.specs.Common.{Activation, Common, Role, Strand}
use Rattle.op_model.specs.Effects.{Spawned}
use Rattle.op_model.specs.Strands.{strand_made}
use Rattle.machine_model.specs.Runs.{Running}
use Rattle.machine_model.proofs.Once.{some-same}
use Rattle.stack_code.specs.declared.code.Code.{Code}
use Rattle.stack_code.specs.Good.{GoodCommon, IsLater}
use Rattle.code_keeping.proofs.Later.{strand-later}
use Rattle.code_keeping.proofs.Lists.{at-some}
use Rattle.code_keeping.proofs.Staying.{same}
use Rattle.code_keeping_starts.proofs.Spawning.{good-so, later, many, new, new-there}
use Rattle.code_keeping_talk.proofs.Following.{later-follows}

-- the strand is that of the unit and the role
abbrev pub IsMadeFor : Spawned → Strand → Type 0
IsMadeFor s z = (z.unit ≡ s.unit) × (z.role ≡ s.role)

pub record AreMade (code : Code) (c : Common) (ss : List Spawned) (e : Common) : Type 0 where
  pub sound : GoodCommon code e Running
  pub later : (q : Option Role) → IsLater q c e
  pub count : length e.strands ≡ length c.strands + length ss
  pub running : e.running ≡ c.running
  pub activations : e.activations ≡ c.activations
  pub each : (i : ℕ) (s : Spawned) → slice_get ss i ≡ Some s → IsSomeAnd (slice_get e.strands (length c.strands + i)) (IsMadeFor s)

-- one more before those that are made
module _ (code : Code) (s : Spawned) (ss : List Spawned) (c : Common) (good : GoodCommon code c Running) (made : AreMade code (strand_made s.unit s.role c) ss (strands_made ss (strand_made s.unit s.role c))) where
  abbrev d : Common
  d = strand_made s.unit s.role c

  at : (i : ℕ) (x : Spawned) → slice_get (s ∷ ss) i ≡ Some x → IsSomeAnd (slice_get (strands_made ss d).strands (length c.strands + i)) (IsMadeFor x)
  at zero x e =
      let is : s ≡ x = some-same s x e in
      subst (λ z. IsSomeAnd (slice_get (strands_made ss d).strands (length c.strands + 0)) (IsMadeFor z)) is
      (subst (λ k. IsSomeAnd (slice_get (strands_made ss d).strands k) (IsMadeFor s)) (let q : length c.strands ≡ length c.strands + 0 = omega arith in q)
      (strand-later code d (strands_made ss d) (made.later None) (length c.strands) (λ u r. (u ≡ s.unit) × (r ≡ s.role))
      (at-some (λ (z : Strand). (z.unit ≡ s.unit) × (z.role ≡ s.role)) (slice_get d.strands (length c.strands)) (new code c good s.unit s.role) (new-there code c good s.unit s.role) (refl, refl))))
  at (suc i) x e =
      subst (λ k. IsSomeAnd (slice_get (strands_made ss d).strands k) (IsMadeFor x)) (let l = many code c good s.unit s.role in let q : length d.strands + i ≡ length c.strands + suc i = omega (arith, l) in q) (made.each i x e)

  one-more : AreMade code c (s ∷ ss) (strands_made ss d)
  one-more =
      record {
        sound = made.sound;
        later = λ q. later-follows q c d (strands_made ss d) (later code c good s.unit s.role q) (made.later q);
        count = let l = made.count in let k = many code c good s.unit s.role in omega (arith, l, k);
        running = made.running;
        activations = made.activations;
        each = at;
      }

pub are-made : (code : Code) (ss : List Spawned) (c : Common) → GoodCommon code c Running → AreMade code c ss (strands_made ss c)
are-made code [] c good =
    record { sound = good; later = λ q. same q c; count = omega arith; running = refl; activations = refl; each = λ i s e. absurd (let q : ⊥ = cc in q) }
are-made code (s ∷ ss) c good = one-more code s ss c good (are-made code ss (strand_made s.unit s.role c) (good-so code c good s.unit s.role))

-- the activations are not looked at
pub made-beside : (ss : List Spawned) (c : Common) (xs : List Activation) → strands_made ss (record c { activations = xs }) ≡ record (strands_made ss c) { activations = xs }
made-beside [] c xs = refl
made-beside (s ∷ ss) c xs = made-beside ss (strand_made s.unit s.role c) xs
