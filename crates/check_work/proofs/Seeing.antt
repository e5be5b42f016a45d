-- Names that are seen, unit by unit.
use Rattle.std.proofs.Common.{◌≡◌, ◌∙◌, ◌++◌, ◌||◌, Bool, true, false, List, [], ◌∷◌, Option, Some, Ok, Err, map, ap, refl, sym}
use Rattle.std.specs.List.{list_any}
use Rattle.std.proofs.lemmas.List.Folds.{list_any-append}
use Rattle.bal_base.specs.declared.fault.Fault.{Fault}
use Rattle.bal_base.specs.declared.fault.FaultCode.TheVariants.{Duplicate}
use Rattle.bal_base.specs.declared.fault.Kept.TheVariants.{Nothing}
use Rattle.bal_base.specs.declared.stop.Stop.TheVariants.{Fault as OwnFault}
use Rattle.bal_base.specs.declared.text.Name.{Name}
use Rattle.bal_tree.specs.declared.name.Word.{Word}
use Rattle.checks.specs.Checks.{Comes}
use Rattle.checks.specs.Questions.{IsFault}
use Rattle.type_model.specs.Places.{is_same_text}
use Rattle.check_words.specs.Calls.{is_new, is_seen}
use Rattle.check_words.specs.State.{State, UnitAtWork}
use Rattle.check_words.proofs.Coming.{failed, given, next}
use Rattle.check_work.specs.declared.work.Unit.{Unit as UnitHeld}
use Rattle.check_work.specs.Seen.{has_variable}
use Rattle.check_work.specs.Views.{unit_of, units_of}

any-map : {X Y : Type 0} (p : Y → Bool) (f : X → Y) (xs : List X) → list_any p (map f xs) ≡ list_any (λ x. p (f x)) xs
any-map p f [] = refl
any-map p f (x ∷ xs) = ap (λ b. p (f x) || b) (any-map p f xs)

-- around, at hand, and among the workers
pub seen-is : (name : Name) (around us : List UnitHeld) (at_hand : List UnitAtWork) (workers ws : List Name) (a h w : Bool) → us ≡ around → ws ≡ workers
    → a ≡ list_any (λ u. has_variable name (unit_of u)) us → h ≡ list_any (has_variable name) at_hand → w ≡ list_any (is_same_text name) ws
    → ((a || h) || w) ≡ (list_any (has_variable name) (map unit_of around ++ at_hand) || list_any (is_same_text name) workers)
seen-is name around us at_hand workers ws a h w are names e f g =
    ap (λ x. (x || h) || w) (e ∙ ap (list_any (λ u. has_variable name (unit_of u))) are ∙ sym (any-map (has_variable name) unit_of around))
    ∙ ap (λ x. (list_any (has_variable name) (map unit_of around) || x) || w) f ∙ ap (λ x. x || w) (sym (list_any-append (has_variable name) (map unit_of around) at_hand))
    ∙ ap (λ x. list_any (has_variable name) (map unit_of around ++ at_hand) || x) (g ∙ ap (list_any (is_same_text name)) names)

pub new-comes : (w : Word) (s : State) → is_seen w.name s ≡ false → Comes (is_new w) s (Ok tt) s
new-comes w s e = next _ _ _ _ _ false s (given _ s false (sym e)) (given _ s tt refl)

pub seen-refuses : (w : Word) (s : State) (f : Fault) → is_seen w.name s ≡ true → IsFault Duplicate (Some w.at) Nothing f → Comes (is_new w) s (Err (OwnFault f)) s
seen-refuses w s f e is = next _ _ _ _ _ true s (given _ s true (sym e)) (failed _ Duplicate w.at s f is)
