-- The calls of a strand, held with the last one last.
use Rattle.std.proofs.Common.{◌≡◌, ◌<◌, ℕ, suc, List, [], ◌∷◌, ◌++◌, Some, None, get_or, length, map, reverse, arith, refl, ap, ◌∙◌}
use Rattle.std.proofs.lemmas.List.{length-map, length-reverse, map-append, reverse-append}
use Rattle.std.proofs.lemmas.Option.{slice_get_read}
use Rattle.plain_run.proofs.Lists.{append-one}
use Rattle.plain_run.proofs.Looking.{get-past, get-there}
use Rattle.plain_run.proofs.Settling.{set-past, set-there}
use Rattle.code_steps.specs.declared.held.Call.{Call}
use Rattle.code_steps.specs.States.{TakesCall, call_of, calls_of}

nonzero : (n : ℕ) → suc n ≡ 0 → ⊥
nonzero n e = omega arith

pub calls-more : (cs : List Call) (c : Call) → calls_of (cs ++ c ∷ []) ≡ call_of c ∷ calls_of cs
calls-more cs c = ap reverse (map-append call_of cs (c ∷ [])) ∙ reverse-append (map call_of cs) (call_of c ∷ [])

pub calls-last : (c : Call) (old new : List Call) → old ≡ new ++ c ∷ [] → TakesCall (Some c) old new
calls-last c old new e = ap calls_of e ∙ calls-more new c

pub calls-none : (old new : List Call) → length old ≡ 0 → length new ≡ 0 → TakesCall None old new
calls-none [] [] d e = (refl, refl)
calls-none (c ∷ old) new d e = absurd (nonzero (length old) d)
calls-none [] (c ∷ new) d e = absurd (nonzero (length new) e)

pub calls-length : (cs : List Call) → length (calls_of cs) ≡ length cs
calls-length cs = length-reverse (map call_of cs) ∙ length-map cs call_of

pub ruleset calling = (calls-more, calls-last, calls-none, calls-length, append-one, map-append, set-there, set-past)

-- what is lent out of a list
pub get-read : {X Y : Type 0} (f : X → Y) (xs : List X) (n : ℕ) (x : X) (d : Y) → n < length xs → x ≡ get_or xs n x → get_or (map f xs) n d ≡ f x
get-read f xs n x d l e = get-there f xs n x d (slice_get_read xs (length xs) n x refl l e)

pub ruleset picking = (get-past, get-read)
