use Rattle.std.proofs.Common.{inl, rules}
use Rattle.module_loader.proofs.linking.link_modules.Goals as goal

pub returns-then-count-gt-MOST_MODULES-clause-link : goal.returns-then-count-gt-MOST_MODULES-clause-link
returns-then-count-gt-MOST_MODULES-clause-link c = λ taken are same. inl (search rules, c.in_ok-refusal.ensures)
