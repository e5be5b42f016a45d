-- Arguments of calls.
use Rattle.checks.specs.Checks.{◌▷◌}
use Rattle.check_words.specs.Calls.{one_more}
use Rattle.check_words.specs.State.{CallAtWork}
use Rattle.check_words.specs.Words.{Step, sets_call, wants_no_more}

-- what was wanted of an argument is wanted no more, and the call has one more
abbrev pub counts_argument : CallAtWork → Step
counts_argument c = wants_no_more 1 ▷ λ v. sets_call (one_more c)
