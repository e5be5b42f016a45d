use Rattle.std.proofs.Common.{Result, Ok, Err, OnOk, sym, subst}
use Rattle.subtype_decider.specs.Entries.{AreApart, IsFound}
use Rattle.subtype_decider.specs.Working.{IsKept}
use Rattle.subtype_decider.proofs.Dropped.{Entries}
use Rattle.subtype_decider.proofs.questions.Questions.refute.Goals as goal

on-Ok : {T E : Type 0} (P Q : Type 0) (r : Result T E) → (P → Q) → OnOk r P → OnOk r Q
on-Ok P Q (Ok x) f p = f p
on-Ok P Q (Err e) f p = p

pub returns-in-Some-clause-kept : goal.returns-in-Some-clause-kept
returns-in-Some-clause-kept c = record {
  front = c.pop.new.self.items;
  held = c.in-Some.held;
  was = c.in-Some.ensures.items;
  found = subst (λ (l : Entries). IsFound c.args.self.now.table l c.in-Some.held.question c.args.shape) (sym c.restart.ensures.table) c.find.ensures.found;
  apart = subst (λ (l : Entries). AreApart l) (sym c.restart.ensures.table) c.find.ensures.apart;
}

pub returns-in-Some-clause-refuted : goal.returns-in-Some-clause-refuted
returns-in-Some-clause-refuted c =
    let kept : IsKept c.args.self.now c.restart.new.self c.args.shape = record {
      front = c.pop.new.self.items;
      held = c.in-Some.held;
      was = c.in-Some.ensures.items;
      found = subst (λ (l : Entries). IsFound c.args.self.now.table l c.in-Some.held.question c.args.shape) (sym c.restart.ensures.table) c.find.ensures.found;
      apart = subst (λ (l : Entries). AreApart l) (sym c.restart.ensures.table) c.find.ensures.apart;
    } in
    on-Ok _ _ c.restart.result (λ a. record { kept = kept; pending = a.pending; judged = a.judged }) c.restart.ensures.again
