-- Where bodies stand before any is entered, and what is done then.
use Rattle.std.specs.Prelude.{ℕ, [], None}
use Rattle.check_words.specs.State.{Done, Site}

abbrev pub first_site : Site
first_site = record { scope = record { «module» = 0; file = None }; workers = []; results = []; events = [] }

-- so many functions have the first numbers of units
abbrev pub first_done : ℕ → Done
first_done n = record { next_unit = n; functions = []; workers = []; variables = []; initialisers = [] }
