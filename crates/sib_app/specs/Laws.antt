-- What holds of the words of commands.
use Rattle.std.specs.Prelude.{◌≡◌, ℕ, List}
use Rattle.sib_app.specs.Commands.{Command, IsCommandOf}

-- words name at most one command
abbrev pub WordsNameOneCommand : Type 0
WordsNameOneCommand = (words : List (List ℕ)) (a b : Command) → IsCommandOf words a → IsCommandOf words b → a ≡ b
