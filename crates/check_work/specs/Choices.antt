-- Choices that end.
use Rattle.checks.specs.Checks.{◌▷◌}
use Rattle.check_words.specs.Words.{Step, closes_choice, sets_flow}

-- the choice at hand is closed, and what was known before it is known again
abbrev pub forgets_choice : Step
forgets_choice = closes_choice ▷ λ c. sets_flow c.before
