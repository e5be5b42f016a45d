-- Calls that are closed, and what is made of them.
use Rattle.std.proofs.Common.{◌≡◌, ◌++◌, ℕ, List, [], ◌∷◌, length, map, All, Result, Ok, refl, sym, subst, ap}
use Rattle.bal_base.specs.declared.fault.Fault.{Fault}
use Rattle.bal_base.specs.declared.stop.Stop.{Stop}
use Rattle.checks.specs.Checks.{Comes, ◌▷◌}
use Rattle.check_words.specs.Stands.{CallBelow, Stands}
use Rattle.check_words.specs.State.{CallAtWork, IsLast, State}
use Rattle.check_words.specs.Words.{Step, closes_call}
use Rattle.check_words.proofs.Coming.{became-this, given, next}
use Rattle.check_words.proofs.LastOnes.{kept-is}
use Rattle.check_work.proofs.Noting.{mapped-last}
use Rattle.check_words.proofs.Standing.{front-have, last-has, stands-calls}

pub mapped-is-last : {A B : Type 0} (f : A → B) (xs : List A) (x : A) → IsLast xs x → IsLast (map f xs) (f x)
mapped-is-last f xs x l = record { kept = map f l.kept; is = mapped-last f xs l.kept x l.is }

module _ (s : State) (kept : List CallAtWork) (c : CallAtWork) (is : s.calls ≡ kept ++ c ∷ []) where
  abbrev pub without : State
  without = record s { calls = kept }

  call-closed : Comes closes_call s (Ok c) without
  call-closed =
      next _ _ _ _ _ c s (given _ s c (record { kept = kept; is = is }))
      (next _ _ _ _ _ tt without (became-this _ s without (ap (λ cs. record s { calls = cs }) (sym (kept-is 1 s.calls kept (c ∷ []) is refl)))) (given _ without c refl))

  pub closed-then : (n : CallAtWork → Step) (r : Result (Unit {0}) (Stop Fault)) (new : State) → Comes (n c) without r new → Comes (closes_call ▷ n) s r new
  closed-then n r new h = next closes_call n s new r c without call-closed h

  pub closed-stands : Stands s → Stands without
  closed-stands h = let n : ℕ = length s.atoms in stands-calls s h kept (front-have (CallBelow n) kept (c ∷ []) (subst (All (CallBelow n)) is h.calls))

  pub closed-below : Stands s → CallBelow (length s.atoms) c
  closed-below h = last-has (CallBelow (length s.atoms)) s.calls c (record { kept = kept; is = is }) h.calls
