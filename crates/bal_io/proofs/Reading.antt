-- The front of a file, of which no more is read than its first bytes.
use Rattle.std.proofs.Common.{◌≡◌, ◌+◌, ◌-◌, ◌^◌, ◌<◌, ◌++◌, ℕ, List, [], Option, Some, None, IfSome, Result, Ok, Err, OnOk, is_ok, length, take, min, sym, ◌∙◌, ap, subst, arith}
use Rattle.std.proofs.lemmas.List.{take_all, length-take, take_min}
use Rattle.std.specs.Option.{option_map}

as_many : (all : List ℕ) (max most : ℕ) → most ≡ min (max + 1) (2 ^ 64 - 1) → length (take most all) < 2 ^ 63 → take most all ≡ take (max + 1) all
as_many all max most e small =
    let size = length-take most all in
    let same : min most (length all) ≡ min (max + 1) (length all) = omega (arith, e, small, size) in
    sym (take_min most all) ∙ ap (λ n. take n all) same ∙ take_min (max + 1) all

front_read : (known : Option (List ℕ)) (read : List ℕ) (max most : ℕ) → most ≡ min (max + 1) (2 ^ 64 - 1) → length read < 2 ^ 63 → IfSome (option_map (λ all. take most all) known) (λ xs. read ≡ [] ++ xs) → IfSome known (λ all. take most read ≡ take (max + 1) all)
front_read None read max most e small h = tt
front_read (Some all) read max most e small h =
    let size = length-take most all in
    let same = ap (λ l. length l) h in
    let fits : take most read ≡ read = take_all most read (omega (arith, size, same)) in
    fits ∙ h ∙ as_many all max most e (omega (arith, same, small))

-- what was read under a limit, and cut to it, is the front
pub front-read : (file known : Option (List ℕ)) (old read : List ℕ) (limit max most : ℕ) → known ≡ file → old ≡ [] → limit ≡ most → most ≡ min (max + 1) (2 ^ 64 - 1) → length read < 2 ^ 63 → IfSome (option_map (λ all. take limit all) known) (λ xs. read ≡ old ++ xs) → IfSome file (λ all. take most read ≡ take (max + 1) all)
front-read file known old read limit max most same none at e small h =
    let Known : Option (List ℕ) → Type 0 = λ k. IfSome (option_map (λ all. take limit all) k) (λ xs. read ≡ old ++ xs) in
    let Old : List ℕ → Type 0 = λ o. IfSome (option_map (λ all. take limit all) file) (λ xs. read ≡ o ++ xs) in
    let Limit : ℕ → Type 0 = λ n. IfSome (option_map (λ all. take n all) file) (λ xs. read ≡ [] ++ xs) in
    front_read file read max most e small (subst Limit at (subst Old none (subst Known same h)))

-- what holds on success holds where another result says that it succeeded
pub on_ok : {A E F : Type 0} (P : Type 0) (r : Result A E) (s : Result A F) (x : A) → s ≡ Ok x → is_ok s ≡ is_ok r → OnOk r P → P
on_ok P (Ok a) s x e v h = h
on_ok P (Err b) s x e v h = cc
