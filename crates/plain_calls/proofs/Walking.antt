-- Workers and strands that are made one after another.
use Rattle.std.proofs.Common.{◌≡◌, ◌∙◌, ◌+◌, ◌<◌, ℕ, List, ◌∷◌, [], ◌++◌, Some, drop, get_or, length, map, take, sym, ap}
use Rattle.value_model.specs.declared.value.Value.{Value}
use Rattle.op_model.specs.CallRows.{strands_made, workers_from}
use Rattle.op_model.specs.Common.{Common}
use Rattle.op_model.specs.Effects.{Spawned}
use Rattle.op_model.specs.Levels.{numbers_from}
use Rattle.op_model.specs.Strands.{strand_made}
use Rattle.plain_run.specs.declared.effect.Spawned.{Spawned as HeldSpawned}
use Rattle.plain_run.specs.declared.facts.WorkerFacts.{WorkerFacts}
use Rattle.plain_run.specs.Effects.{spawned_of}
use Rattle.plain_run.specs.ProgramFacts.{worker_facts_of}
use Rattle.plain_run.proofs.Lists.{append-one}
use Rattle.plain_run.proofs.Walking.{rest-one}

pub workers-more : (activation number : ℕ) (ws : List WorkerFacts) (i : ℕ) (w : WorkerFacts) (left : List Value) (old next total : List Spawned) → i < length ws → w ≡ get_or ws i w → old ++ workers_from activation number (map worker_facts_of (drop i ws)) left ≡ total → next ≡ old ++ record { unit = w.unit; args = take (length w.captured.items) left; role = Some (record { activation = activation; worker = number }) } ∷ [] → next ++ workers_from activation (number + 1) (map worker_facts_of (drop (i + 1) ws)) (drop (length w.captured.items) left) ≡ total
workers-more activation number ws i w left old next total l e h n =
    let made : Spawned = record { unit = w.unit; args = take (length w.captured.items) left; role = Some (record { activation = activation; worker = number }) } in
    let rest = workers_from activation (number + 1) (map worker_facts_of (drop (i + 1) ws)) (drop (length w.captured.items) left) in
    ap (λ ss. ss ++ rest) n
    ∙ append-one old made rest
    ∙ sym (ap (λ xs. old ++ workers_from activation number (map worker_facts_of xs) left) (rest-one ws i w l e))
    ∙ h

pub numbers-more : {X : Type 0} (xs : List X) (i : ℕ) (x : X) (number : ℕ) (old next total : List ℕ) → i < length xs → x ≡ get_or xs i x → old ++ numbers_from number (length (drop i xs)) ≡ total → next ≡ old ++ number ∷ [] → next ++ numbers_from (number + 1) (length (drop (i + 1) xs)) ≡ total
numbers-more xs i x number old next total l e h n =
    ap (λ ns. ns ++ numbers_from (number + 1) (length (drop (i + 1) xs))) n
    ∙ append-one old number (numbers_from (number + 1) (length (drop (i + 1) xs)))
    ∙ sym (ap (λ ys. old ++ numbers_from number (length ys)) (rest-one xs i x l e))
    ∙ h

pub strands-more : (ss : List HeldSpawned) (i : ℕ) (s : HeldSpawned) (now next total : Common) → i < length ss → s ≡ get_or ss i s → strands_made (map spawned_of (drop i ss)) now ≡ total → next ≡ strand_made (spawned_of s).unit (spawned_of s).role now → strands_made (map spawned_of (drop (i + 1) ss)) next ≡ total
strands-more ss i s now next total l e h n =
    ap (strands_made (map spawned_of (drop (i + 1) ss))) n
    ∙ sym (ap (λ xs. strands_made (map spawned_of xs) now) (rest-one ss i s l e))
    ∙ h
